use Rattle.std.proofs.Common.{◌<◌, length}
use Rattle.data_sets.specs.declared.book.DataSet.{DataSet}
use Rattle.node_core.proofs.OfSlots.FoundSets.{holds_of_found}
use Rattle.node_core.proofs.slots.sets.find_set.Goals as goal

pub returns-then-is_in_domain-clause-some : goal.returns-then-is_in_domain-clause-some
returns-then-is_in_domain-clause-some c =
    holds_of_found (λ (s : DataSet). 0 < length s.members) c.item.result.now c.members.result
    c.args.book.now.sets c.members.ensures c.books_are_lawful.ensures.some
