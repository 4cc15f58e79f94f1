-- How the end of a server becomes the status of its command, and which faults are counted by then.
use Rattle.std.proofs.Common.{◌≡◌, ◌⊎◌, ℕ, ◌<◌, List, Option, Some, None, [], ◌∷◌, refl, sym, ◌∙◌}
use Rattle.std.proofs.Common.{ap, subst, inl, inr}
use Rattle.std.specs.Prelude.{codes}
use Rattle.outside.specs.Sink.{SinkTold}
use Rattle.outside.specs.Names.Outside.{OutsideTold}
use Rattle.node_core.specs.NodeState.{NodeState}
use Rattle.commands.specs.declared.io.status.Status.{Status}
use Rattle.commands.specs.declared.io.status.Status.TheVariants as statuses
use Rattle.commands.specs.Io.Statuses.{is_outside}
use Rattle.commands.specs.Io.OutsideUse.{Grows, Rises, Uses}
use Rattle.commands.specs.declared.io.input.Refusal.TheVariants as refusals
use Rattle.commands.specs.Io.Saying.{Said, prints, refusal_text, full_text}
use Rattle.commands.specs.Io.Runs.{TellsSaid, IsFileEnd, status_behind}
use Rattle.commands.proofs.OfIo.Leaving.{Grows-then, Rises-after, Rises-before, Rises-grows}
use Rattle.commands.proofs.OfIo.Leaving.{Grows-same}
use Rattle.server_main.specs.declared.serve_end.ServeEnd.{ServeEnd}
use Rattle.server_main.specs.declared.serve_end.ServeEnd.TheVariants as ends
use Rattle.server_main.specs.Serving.{ServerTold, HasRisen, HasFailed}
use Rattle.tase_tool.specs.Server.Opening.{WorkTold}
use Rattle.tase_tool.specs.Server.Courses.{work_of}
use Rattle.tase_tool.specs.Server.Serving.{TellsEnd, ClosesServer, KeepsNode}
use Rattle.tase_tool.proofs.OfServer.Counted.{next-positive, Grows-counted, Rises-faulty, inputs-grow}
use Rattle.tase_tool.proofs.OfServer.Counted.{inputs-rise}

-- ---- what is told of the end

said_positive : (said : Said) (k l : SinkTold) → TellsSaid said k l statuses.Outside
    → 0 < l.faults
said_positive said k l part =
    subst (λ n. 0 < n) (sym part.1.faults) (next-positive k.faults)

-- A fault outside is the answer where the server ended so, or the plant failed as it was told.
pub ended_outside : (end : ServeEnd) (k l : SinkTold) → TellsEnd end k l statuses.Outside
    → ((end ≡ ends.Outside) × (l ≡ k)) ⊎ (0 < l.faults)
ended_outside ends.Done k l tells =
    absurd (let e : statuses.Outside ≡ statuses.Done = tells.0 in cc)
ended_outside (ends.BadFeed line) k l tells =
    inr (said_positive (prints statuses.Input
    (refusal_text (codes "feed") (refusals.BadLine line))) k l tells.0)
ended_outside ends.Outside k l tells = inl (refl, tells.1)
ended_outside (ends.Full weight limit) k l tells =
    inr (said_positive (prints statuses.Full (full_text weight limit)) k l tells.0)
ended_outside ends.Memory k l tells =
    absurd (let e : statuses.Outside ≡ statuses.Memory = tells.0 in cc)

neither : {P : Type 0} (other : Status)
    → (statuses.Done ≡ other → ⊥) → (statuses.Done ≡ other) ⊎ (statuses.Done ≡ statuses.Outside)
    → P
neither {P} other differs (inl same) = absurd (differs same)
neither {P} other differs (inr same) = absurd cc

-- Done is the answer only where the server ended so.
pub ended_done : (end : ServeEnd) (k l : SinkTold) → TellsEnd end k l statuses.Done
    → end ≡ ends.Done
ended_done ends.Done k l tells = refl
ended_done (ends.BadFeed line) k l tells = neither statuses.Input (λ same. cc) tells.1
ended_done ends.Outside k l tells =
    absurd (let e : statuses.Done ≡ statuses.Outside = tells.0 in cc)
ended_done (ends.Full weight limit) k l tells = neither statuses.Full (λ same. cc) tells.1
ended_done ends.Memory k l tells =
    absurd (let e : statuses.Done ≡ statuses.Memory = tells.0 in cc)

not_memory : {P : Type 0} (other : Status)
    → (statuses.Memory ≡ other → ⊥)
    → (statuses.Memory ≡ other) ⊎ (statuses.Memory ≡ statuses.Outside) → P
not_memory {P} other differs (inl same) = absurd (differs same)
not_memory {P} other differs (inr same) = absurd cc

-- Want of memory is the answer only where the server ended so.
ended_memory : (end : ServeEnd) (k l : SinkTold) → TellsEnd end k l statuses.Memory
    → end ≡ ends.Memory
ended_memory ends.Done k l tells =
    absurd (let e : statuses.Memory ≡ statuses.Done = tells.0 in cc)
ended_memory (ends.BadFeed line) k l tells = not_memory statuses.Input (λ same. cc) tells.1
ended_memory ends.Outside k l tells =
    absurd (let e : statuses.Memory ≡ statuses.Outside = tells.0 in cc)
ended_memory (ends.Full weight limit) k l tells = not_memory statuses.Full (λ same. cc) tells.1
ended_memory ends.Memory k l tells = refl

-- ---- the journal behind it

pub Uses-grow : (inputs outputs : List (List ℕ)) (status : Status) (b a : OutsideTold)
    → Uses inputs outputs (is_outside status) b a → Grows b.faults a.faults
Uses-grow inputs outputs status b a uses =
    elim uses.counted.kept [
      | inl same ↦ Grows-same b.faults a.faults same
      | inr risen ↦ Rises-grows b.faults a.faults risen.0
    ]

pub written_outside : (written ended : Status) → IsFileEnd written
    → status_behind ended written ≡ statuses.Outside
    → (ended ≡ statuses.Outside) ⊎ (written ≡ statuses.Outside)
written_outside statuses.Done ended file same = inl same
written_outside statuses.Outside ended file same = inr refl
written_outside statuses.Memory ended file same = absurd cc
written_outside other ended file same = absurd file

written_done : (written ended : Status) → IsFileEnd written
    → statuses.Done ≡ status_behind ended written
    → (written ≡ statuses.Done) × (ended ≡ statuses.Done)
written_done statuses.Done ended file same = (refl, sym same)
written_done statuses.Outside ended file same = absurd cc
written_done statuses.Memory ended file same = absurd cc
written_done other ended file same = absurd file

written_memory : (written ended : Status) → IsFileEnd written
    → statuses.Memory ≡ status_behind ended written
    → (ended ≡ statuses.Memory) ⊎ (written ≡ statuses.Memory)
written_memory statuses.Done ended file same = inl (sym same)
written_memory statuses.Outside ended file same = absurd cc
written_memory statuses.Memory ended file same = inr refl
written_memory other ended file same = absurd file

-- Want of memory is the answer only where the server ended so, or where the journal wasn't written
-- for it.
pub kept_memory : (name : List ℕ) (node : Option NodeState) (written : Option Status)
    (end : ServeEnd) (k l : SinkTold) (ended : Status) (m a : OutsideTold) → TellsEnd end k l ended
    → KeepsNode name node written ended m a statuses.Memory
    → (end ≡ ends.Memory) ⊎ (written ≡ Some statuses.Memory)
kept_memory name None None end k l ended m a tells keeps =
    inl (ended_memory end k l (subst (λ s. TellsEnd end k l s) (sym keeps.0) tells))
kept_memory name None (Some written) end k l ended m a tells keeps = absurd keeps
kept_memory name (Some node) None end k l ended m a tells keeps = absurd keeps
kept_memory name (Some node) (Some written) end k l ended m a tells keeps =
    elim (written_memory written ended keeps.0.ends keeps.1) [
      | inl before ↦
          inl (ended_memory end k l (subst (λ s. TellsEnd end k l s) before tells))
      | inr short ↦ inr (ap (λ (s : Status). Some s) short)
    ]

-- A fault outside is the answer where it was so before, or where the count rose since.
pub kept_outside : (name : List ℕ) (node : Option NodeState) (written : Option Status)
    (ended status : Status) (m a : OutsideTold) → KeepsNode name node written ended m a status
    → status ≡ statuses.Outside
    → ((ended ≡ statuses.Outside) × Grows m.faults a.faults) ⊎ Rises m.faults a.faults
kept_outside name None None ended status m a keeps same =
    let as_before : a.faults ≡ m.faults = ap (λ (o : OutsideTold). o.faults) keeps.1 in
    inl (sym keeps.0 ∙ same, Grows-same m.faults a.faults as_before)
kept_outside name None (Some written) ended status m a keeps same = absurd keeps
kept_outside name (Some node) None ended status m a keeps same = absurd keeps
kept_outside name (Some node) (Some written) ended status m a keeps same =
    elim (written_outside written ended keeps.0.ends (sym keeps.1 ∙ same)) [
      | inl before ↦ inl (before, Uses-grow [] (name ∷ []) written m a keeps.0.tells.uses)
      | inr failed ↦ inr (keeps.0.tells.uses.counted.cause (ap is_outside failed))
    ]

-- Done is the answer only where it was so before, and the journal of the node is whole.
pub kept_done : (name : List ℕ) (node : NodeState) (written : Option Status) (ended : Status)
    (m a : OutsideTold) → KeepsNode name (Some node) written ended m a statuses.Done
    → (ended ≡ statuses.Done) × (written ≡ Some statuses.Done)
kept_done name node None ended m a keeps = absurd keeps
kept_done name node (Some written) ended m a keeps =
    let both = written_done written ended keeps.0.ends keeps.1 in
    (both.1, ap (λ (s : Status). Some s) both.0)

-- ---- all that is closed

pub risen_positive : (before after : ℕ) → HasRisen before after → 0 < after
risen_positive before after risen = subst (λ n. 0 < n) (sym risen.1) (next-positive _)

-- the plant has faults when it is closed
plant_rises : (b a : OutsideTold) (left : WorkTold) (end : ServeEnd) (status : Status)
    (closes : ClosesServer b a left end status) → 0 < closes.plant.faults
    → Rises b.faults a.faults
plant_rises b a left end status closes positive =
    Rises-after b.faults closes.mid.faults a.faults
    (inputs-grow b closes.mid left closes.inputs)
    (Rises-faulty closes.plant.faults closes.mid.faults a.faults positive closes.output.faults)

-- one of the others has
others_rise : (b a : OutsideTold) (left : WorkTold) (end : ServeEnd) (status : Status)
    (closes : ClosesServer b a left end status)
    → (0 < left.0.faults) ⊎ ((0 < left.1.0.faults) ⊎ (0 < left.1.1.0.faults))
    → Rises b.faults a.faults
others_rise b a left end status closes positive =
    Rises-before b.faults closes.mid.faults a.faults
    (inputs-rise b closes.mid left closes.inputs positive)
    (Grows-counted _ closes.mid.faults a.faults closes.output.faults)

failed_rises : (before after : ServerTold) (b a : OutsideTold) (status : Status)
    (end : ServeEnd) (closes : ClosesServer b a (work_of after) end status)
    → closes.plant ≡ after.plant → HasFailed before after → Rises b.faults a.faults
failed_rises before after b a status end closes same (inl listener) =
    others_rise b a (work_of after) end status closes
    (inl (risen_positive before.listener.faults after.listener.faults listener))
failed_rises before after b a status end closes same (inr (inl plant)) =
    plant_rises b a (work_of after) end status closes
    (subst (λ (k : SinkTold). 0 < k.faults) (sym same)
    (risen_positive before.plant.faults after.plant.faults plant))
failed_rises before after b a status end closes same (inr (inr (inl feed))) =
    others_rise b a (work_of after) end status closes
    (inr (inl (risen_positive before.feed.faults after.feed.faults feed)))
failed_rises before after b a status end closes same (inr (inr (inr clock))) =
    others_rise b a (work_of after) end status closes
    (inr (inr (risen_positive before.clock.faults after.clock.faults clock)))

-- A fault outside is the answer behind the closing only where the count rose, or where the server
-- ended so for another cause.
pub closed_outside : (Other : Type 0) (before after : ServerTold) (b a : OutsideTold)
    (status : Status) (end : ServeEnd) → ClosesServer b a (work_of after) end status
    → (end ≡ ends.Outside → HasFailed before after ⊎ Other) → status ≡ statuses.Outside
    → Rises b.faults a.faults ⊎ Other
closed_outside Other before after b a status end closes cause same =
    elim (ended_outside end after.plant closes.plant
    (subst (λ s. TellsEnd end after.plant closes.plant s) same closes.tells)) [
      | inl ended ↦ elim (cause ended.0) [
        | inl failed ↦ inl (failed_rises before after b a status end closes ended.1 failed)
        | inr other ↦ inr other
      ]
      | inr positive ↦ inl (plant_rises b a (work_of after) end status closes positive)
    ]

pub closed_grows : (b a : OutsideTold) (left : WorkTold) (end : ServeEnd) (status : Status)
    → ClosesServer b a left end status → Grows b.faults a.faults
closed_grows b a left end status closes =
    Grows-then b.faults closes.mid.faults a.faults
    (inputs-grow b closes.mid left closes.inputs)
    (Grows-counted _ closes.mid.faults a.faults closes.output.faults)
