-- What is told of how an asking end ended: a fault of the sink is answered exactly where one was
-- counted, and the statuses of an agenda that was asked to its end come with that end alone.
use Rattle.std.proofs.Common.{◌≡◌, ◌≢◌, ◌∙◌, Bool, true, false, ℕ, List, refl, sym, ap, subst}
use Rattle.std.proofs.Common.{inl, inr}
use Rattle.outside.specs.Faults.{counted}
use Rattle.outside.specs.Sink.{SinkTold}
use Rattle.commands.specs.declared.io.status.Status.{Status}
use Rattle.commands.specs.declared.io.status.Status.TheVariants as statuses
use Rattle.commands.specs.Io.Saying.{prints}
use Rattle.commands.specs.Io.Runs.{TellsSaid}
use Rattle.tase_discover.specs.AskingEnd.declared.end.AskEnd.{AskEnd}
use Rattle.tase_discover.specs.AskingEnd.declared.end.AskEnd.TheVariants as ends
use Rattle.tase_discover.specs.AskingEnd.declared.service.run_end.RunEnd.{RunEnd}
use Rattle.tase_discover.specs.AskingEnd.declared.service.run_end.RunEnd.TheVariants as runs
use Rattle.tase_tool.specs.Asking.Ending.{TellsPeer, TellsAskEnd, TellsAsked, finish_status}

-- ---- the statuses of an agenda that was asked to its end

pub finish_lasts : (same : Bool) → finish_status same ≡ statuses.Outside → ⊥
finish_lasts true e = let d : statuses.Done ≡ statuses.Outside = e in absurd cc
finish_lasts false e = let d : statuses.Differs ≡ statuses.Outside = e in absurd cc

pub finish_asked : (same : Bool) → finish_status same ≡ statuses.Usage → ⊥
finish_asked true e = let d : statuses.Done ≡ statuses.Usage = e in absurd cc
finish_asked false e = let d : statuses.Differs ≡ statuses.Usage = e in absurd cc

pub finish_fits : (same : Bool) → finish_status same ≡ statuses.Memory → ⊥
finish_fits true e = let d : statuses.Done ≡ statuses.Memory = e in absurd cc
finish_fits false e = let d : statuses.Differs ≡ statuses.Memory = e in absurd cc

pub finish_told : (same : Bool) → finish_status same ≡ statuses.Peer → ⊥
finish_told true e = let d : statuses.Done ≡ statuses.Peer = e in absurd cc
finish_told false e = let d : statuses.Differs ≡ statuses.Peer = e in absurd cc

finish_same : (alike same : Bool) → finish_status same ≡ finish_status alike → alike ≡ same
finish_same true true e = refl
finish_same true false e = let d : statuses.Differs ≡ statuses.Done = e in absurd cc
finish_same false true e = let d : statuses.Done ≡ statuses.Differs = e in absurd cc
finish_same false false e = refl

-- ---- a line on what the peer gave

-- the sink has failed in these writes
pub peer_failed : (text : List ℕ) (before after : SinkTold) (status : Status)
    → TellsPeer text before after status → status ≡ statuses.Outside
    → after.faults ≡ counted true before.faults
peer_failed text before after status tells is =
    (subst (TellsSaid (prints statuses.Peer text) before after) is tells.0).1.faults

pub peer_spared : (text : List ℕ) (before after : SinkTold) (status : Status)
    → TellsPeer text before after status → status ≢ statuses.Outside
    → after.faults ≡ before.faults
peer_spared text before after status tells other = elim tells.1 [
  | inl told ↦ (subst (TellsSaid (prints statuses.Peer text) before after) told tells.0).1.faults
  | inr failed ↦ absurd (other failed)
]

pub peer_named : (text : List ℕ) (before after : SinkTold) (status : Status)
    → TellsPeer text before after status → after.name ≡ before.name
peer_named text before after status tells = elim tells.1 [
  | inl told ↦ (subst (TellsSaid (prints statuses.Peer text) before after) told tells.0).1.name
  | inr failed ↦ (subst (TellsSaid (prints statuses.Peer text) before after) failed tells.0).1.name
]

pub peer_unasked : (text : List ℕ) (before after : SinkTold) (status : Status)
    → TellsPeer text before after status → status ≡ statuses.Usage → ⊥
peer_unasked text before after status tells is = elim tells.1 [
  | inl told ↦ absurd (let e : statuses.Peer ≡ statuses.Usage = sym told ∙ is in cc)
  | inr failed ↦ absurd (let e : statuses.Outside ≡ statuses.Usage = sym failed ∙ is in cc)
]

pub peer_unfinished : {A : Type 0} (text : List ℕ) (before after : SinkTold) (same : Bool)
    → TellsPeer text before after (finish_status same) → A
peer_unfinished {A} text before after same tells = elim tells.1 [
  | inl told ↦ absurd (finish_told same told)
  | inr failed ↦ absurd (finish_lasts same failed)
]

-- ---- any end

module _ {E : Type 0} (alike : Bool) (line : E → List ℕ) where
  pub ask_failed : (end : AskEnd E) (before after : SinkTold) (status : Status)
      → TellsAskEnd alike line end before after status → status ≡ statuses.Outside
      → after.faults ≡ counted true before.faults
  ask_failed ends.Finished before after status tells is =
      absurd (finish_lasts alike (sym tells.0 ∙ is))
  ask_failed ends.PeerEnd before after status tells is =
      peer_failed _ before after status tells is
  ask_failed (ends.Refused fault) before after status tells is =
      peer_failed _ before after status tells is
  ask_failed ends.Rejected before after status tells is =
      peer_failed _ before after status tells is
  ask_failed (ends.Stray invoke) before after status tells is =
      peer_failed _ before after status tells is
  ask_failed (ends.ByAgenda end) before after status tells is =
      peer_failed _ before after status tells is
  ask_failed ends.Memory before after status tells is = absurd cc

  pub ask_spared : (end : AskEnd E) (before after : SinkTold) (status : Status)
      → TellsAskEnd alike line end before after status → status ≢ statuses.Outside
      → after.faults ≡ before.faults
  ask_spared ends.Finished before after status tells other =
      ap (λ (k : SinkTold). k.faults) tells.1
  ask_spared ends.PeerEnd before after status tells other =
      peer_spared _ before after status tells other
  ask_spared (ends.Refused fault) before after status tells other =
      peer_spared _ before after status tells other
  ask_spared ends.Rejected before after status tells other =
      peer_spared _ before after status tells other
  ask_spared (ends.Stray invoke) before after status tells other =
      peer_spared _ before after status tells other
  ask_spared (ends.ByAgenda end) before after status tells other =
      peer_spared _ before after status tells other
  ask_spared ends.Memory before after status tells other =
      ap (λ (k : SinkTold). k.faults) tells.1

  ask_named : (end : AskEnd E) (before after : SinkTold) (status : Status)
      → TellsAskEnd alike line end before after status → after.name ≡ before.name
  ask_named ends.Finished before after status tells = ap (λ (k : SinkTold). k.name) tells.1
  ask_named ends.PeerEnd before after status tells = peer_named _ before after status tells
  ask_named (ends.Refused fault) before after status tells =
      peer_named _ before after status tells
  ask_named ends.Rejected before after status tells = peer_named _ before after status tells
  ask_named (ends.Stray invoke) before after status tells =
      peer_named _ before after status tells
  ask_named (ends.ByAgenda end) before after status tells =
      peer_named _ before after status tells
  ask_named ends.Memory before after status tells = ap (λ (k : SinkTold). k.name) tells.1

  ask_unasked : (end : AskEnd E) (before after : SinkTold) (status : Status)
      → TellsAskEnd alike line end before after status → status ≡ statuses.Usage → ⊥
  ask_unasked ends.Finished before after status tells is = finish_asked alike (sym tells.0 ∙ is)
  ask_unasked ends.PeerEnd before after status tells is =
      peer_unasked _ before after status tells is
  ask_unasked (ends.Refused fault) before after status tells is =
      peer_unasked _ before after status tells is
  ask_unasked ends.Rejected before after status tells is =
      peer_unasked _ before after status tells is
  ask_unasked (ends.Stray invoke) before after status tells is =
      peer_unasked _ before after status tells is
  ask_unasked (ends.ByAgenda end) before after status tells is =
      peer_unasked _ before after status tells is
  ask_unasked ends.Memory before after status tells is = absurd cc

  -- with a status of an agenda that was asked to its end it was, and was alike so
  ask_finished : (end : AskEnd E) (before after : SinkTold) (same : Bool)
      → TellsAskEnd alike line end before after (finish_status same)
      → (end ≡ ends.Finished) × (alike ≡ same)
  ask_finished ends.Finished before after same tells = (refl, finish_same alike same tells.0)
  ask_finished ends.PeerEnd before after same tells = peer_unfinished _ before after same tells
  ask_finished (ends.Refused fault) before after same tells =
      peer_unfinished _ before after same tells
  ask_finished ends.Rejected before after same tells = peer_unfinished _ before after same tells
  ask_finished (ends.Stray invoke) before after same tells =
      peer_unfinished _ before after same tells
  ask_finished (ends.ByAgenda end) before after same tells =
      peer_unfinished _ before after same tells
  ask_finished ends.Memory before after same tells = absurd (finish_fits same tells.0)

  -- ---- and of a run

  pub run_named : (end : RunEnd E) (before after : SinkTold) (status : Status)
      → TellsAsked alike line end before after status → after.name ≡ before.name
  run_named (runs.Ended end) before after status tells = ask_named end before after status tells
  run_named runs.LinkFault before after status tells = ap (λ (k : SinkTold). k.name) tells.1
  run_named runs.SinkFault before after status tells = ap (λ (k : SinkTold). k.name) tells.1

  pub run_unasked : (end : RunEnd E) (before after : SinkTold) (status : Status)
      → TellsAsked alike line end before after status → status ≡ statuses.Usage → ⊥
  run_unasked (runs.Ended end) before after status tells is =
      ask_unasked end before after status tells is
  run_unasked runs.LinkFault before after status tells is = absurd cc
  run_unasked runs.SinkFault before after status tells is = absurd cc

  pub run_finished : (end : RunEnd E) (before after : SinkTold) (same : Bool)
      → TellsAsked alike line end before after (finish_status same)
      → (end ≡ runs.Ended ends.Finished) × (alike ≡ same)
  run_finished (runs.Ended end) before after same tells =
      let f = ask_finished end before after same tells in
      (ap (λ (e : AskEnd E). runs.Ended e) f.0, f.1)
  run_finished runs.LinkFault before after same tells = absurd (finish_lasts same tells.0)
  run_finished runs.SinkFault before after same tells = absurd (finish_lasts same tells.0)
