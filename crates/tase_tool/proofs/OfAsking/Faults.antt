-- Where a count of faults rose: at objects that were opened, used and closed again.
use Rattle.std.proofs.Common.{◌≡◌, ◌∙◌, ℕ, ◌<◌, Bool, true, false, Option, Some, None, refl}
use Rattle.std.proofs.Common.{inl, inr}
use Rattle.std.specs.Prelude.{List, [], nat_lt, IfSome}
use Rattle.std.proofs.lemmas.Bool.{lt-ltb}
use Rattle.outside.specs.Faults.{counted}
use Rattle.outside.specs.Sink.{SinkTold}
use Rattle.outside.specs.Links.LinkAnswers.{LinkAnswers}
use Rattle.outside.specs.Links.Links.{LinkTold}
use Rattle.outside.specs.Names.Outside.{OutsideTold}
use Rattle.commands.specs.Io.OutsideUse.{Grows, Rises}
use Rattle.commands.proofs.OfIo.Leaving.{Grows-same, Rises-after, Rises-before}
use Rattle.tase_tool.specs.Asking.Opening.{OpensEach, OpensBoth, OpensLink}

pub counted_grows : (failed : Bool) (before now : ℕ) → now ≡ counted failed before
    → Grows before now
counted_grows true before now is = (1, is)
counted_grows false before now is = (0, is)

pub counted_rises : (failed : Bool) (before now : ℕ) → failed ≡ true → now ≡ counted failed before
    → Rises before now
counted_rises true before now is counts = (0, counts)
counted_rises false before now is counts = absurd cc

-- an object that has a fault is counted where it is closed
pub faulty_rises : (faults before now : ℕ) → 0 < faults
    → now ≡ counted (nat_lt 0 faults) before → Rises before now
faulty_rises faults before now positive closed =
    counted_rises (nat_lt 0 faults) before now (lt-ltb 0 faults positive) closed

-- where a link or standard output isn't handed out
unopened_link : (address : List ℕ) (before after : OutsideTold) → OpensLink address before after
    → Rises before.faults after.faults
unopened_link address before after opens =
    let late : Rises before.faults opens.late.faults =
    Rises-after before.faults opens.mid.faults opens.late.faults
    (Grows-same before.faults opens.mid.faults opens.connects.faults) (0, opens.opens.faults) in
    then (nat_lt 0 opens.link.faults) late opens.leaves.faults
  where
    then : (failed : Bool) → Rises before.faults opens.late.faults
        → after.faults ≡ counted failed opens.late.faults → Rises before.faults after.faults
    then failed risen closed = Rises-before before.faults opens.late.faults after.faults risen
        (counted_grows failed opens.late.faults after.faults closed)

pub unopened_rises : (address : List ℕ) (before after : OutsideTold)
    → OpensBoth address before after None → Rises before.faults after.faults
unopened_rises address before after (inl connects) = (0, connects.faults)
unopened_rises address before after (inr opens) = unopened_link address before after opens

-- both were handed out
pub opened_grows : (address : List ℕ) (before after : OutsideTold) (link : LinkTold)
    (sink : SinkTold) → OpensEach address before after link sink → Grows before.faults after.faults
opened_grows address before after link sink opens =
    Grows-same before.faults after.faults (opens.opens.faults ∙ opens.connects.faults)

-- a link has heard something, where it tells
heard_of : (hearing : Option LinkAnswers)
    → (first : LinkAnswers) × IfSome hearing (λ heard. heard ≡ first)
heard_of None = (record { answers = []; sent = 0; after_nothing = false }, tt)
heard_of (Some first) = (first, refl)

pub link_heard : (link : LinkTold)
    → (first : LinkAnswers) × IfSome link.hearing (λ heard. heard ≡ first)
link_heard link = heard_of link.hearing
