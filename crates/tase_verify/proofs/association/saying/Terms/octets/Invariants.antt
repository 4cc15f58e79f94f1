-- What was said, and what is to come.
use Rattle.std.proofs.Common.{◌≡◌, ◌++◌, drop}
use Rattle.tase_verify.specs.Association.Saying.{octets_by_events, talk_kept, turns_of_kinds}
use Rattle.tase_verify.proofs.association.saying.Terms.octets.Given as goal

abbrev pub invariant-loop-told : goal.invariant-loop-told
invariant-loop-told l =
    l.out.items ++ octets_by_events (talk_kept l.self) (turns_of_kinds l.turns)
    (drop l.told-index l.answered)
    ≡ octets_by_events (talk_kept l.self) (talk_kept l.self).turns l.answered
