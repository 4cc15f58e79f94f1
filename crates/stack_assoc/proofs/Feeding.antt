-- Octets behind a rule that was broken change nothing.
use Rattle.std.proofs.Common.{◌≡◌, ℕ, List, ◌++◌, false, Option, Some, None, is_none, MatchOption}
use Rattle.stack_assoc.specs.declared.messages.fault.StackFault.{StackFault}
use Rattle.stack_assoc.specs.Arrivals.{Arrival, Role}
use Rattle.stack_assoc.specs.Tellings.{StopsTelling}
use Rattle.stack_assoc.specs.Courses.{Course, ReadsMessages, CourseStands}
use Rattle.stack_assoc.proofs.StreamLaws.{fault_stays}

stops_more : (role : Role) (octets more : List ℕ) (told : List Arrival) (v : Course)
    (fault : Option StackFault) → is_none fault ≡ false → MatchOption fault
    (ReadsMessages role octets told v) (λ f. StopsTelling role octets told f) → MatchOption fault
    (ReadsMessages role (octets ++ more) told v) (λ f. StopsTelling role (octets ++ more) told f)
stops_more role octets more told v None e r = absurd cc
stops_more role octets more told v (Some f) e s = fault_stays role octets more told f s

pub stopped_fed : (role : Role) (octets more : List ℕ) (told : List Arrival) (v : Course)
    → is_none v.fault ≡ false → CourseStands role octets told v → CourseStands role (octets ++ more) told v
stopped_fed role octets more told v e s = record {
  title = s.title;
  knows = s.knows;
  since = s.since;
  setup = s.setup;
  reads = stops_more role octets more told v v.fault e s.reads;
}
