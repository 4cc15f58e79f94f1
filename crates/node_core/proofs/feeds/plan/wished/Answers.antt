use Rattle.std.proofs.Common.{◌≤◌, length}
use Rattle.data_sets.specs.declared.book.DataSet.{DataSet}
use Rattle.data_sets.specs.declared.book.TheConstants.{MOST_MEMBERS}
use Rattle.node_core.proofs.OfSlots.FoundSets.{holds_of_found}
use Rattle.node_core.proofs.feeds.plan.wished.Goals as goal

pub returns-clause-few : goal.returns-clause-few
returns-clause-few c =
    holds_of_found (λ (s : DataSet). length s.members ≤ MOST_MEMBERS) c.args.wish.now.set_name
    c.members.result c.args.book.now.sets c.members.ensures c.books_are_lawful.ensures.short
