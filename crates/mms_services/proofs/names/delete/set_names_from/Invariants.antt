-- The names so far, and what is still read of them.
use Rattle.std.proofs.Common.{length}
use Rattle.ber_values.proofs.Lists.{MembersSoFar}
use Rattle.mms_data.specs.NameOctets.{one_name}
use Rattle.mms_services.specs.Names.Deletes.{set_names}
use Rattle.mms_services.proofs.names.delete.set_names_from.Given as goal

abbrev pub invariant-loop-rest : goal.invariant-loop-rest
invariant-loop-rest l = MembersSoFar one_name 1 (length l.part.contents.now) l.sets l.at l.rest (set_names.reading l.part.head l.part.contents.now)

abbrev pub decreases-loop-rest : goal.decreases-loop-rest
decreases-loop-rest l = length l.rest
