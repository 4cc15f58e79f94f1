-- The names so far, and what is still read of them.
use Rattle.std.proofs.Common.{length}
use Rattle.ber_values.specs.Lists.{list_in}
use Rattle.ber_values.proofs.Lists.{MembersSoFar}
use Rattle.mms_services.specs.Names.NameLists.{listed_name}
use Rattle.mms_services.proofs.names.name_list.names_from.Given as goal

abbrev pub invariant-loop-rest : goal.invariant-loop-rest
invariant-loop-rest l = MembersSoFar listed_name 0 (length l.part.contents.now) l.names l.at l.rest
    ((list_in 0 listed_name).reading l.part.head l.part.contents.now)

abbrev pub decreases-loop-rest : goal.decreases-loop-rest
decreases-loop-rest l = length l.rest
