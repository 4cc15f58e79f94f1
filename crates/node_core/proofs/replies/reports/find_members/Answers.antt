use Rattle.std.proofs.Common.{subst, sym}
use Rattle.std.specs.List.{All}
use Rattle.mms_data.specs.ObjectName.{IsIdentifier}
use Rattle.data_sets.specs.declared.book.DataSet.{DataSet}
use Rattle.data_sets.specs.Books.{Book}
use Rattle.node_core.proofs.OfSlots.FoundSets.{holds_of_found}
use Rattle.node_core.proofs.replies.reports.find_members.Goals as goal

pub returns-then-eq-clause-named : goal.returns-then-eq-clause-named
returns-then-eq-clause-named c =
    holds_of_found (λ (s : DataSet). IsIdentifier s.name) c.args.wish.now.set_name c.members.result
    c.book.result.now.sets c.members.ensures
    (subst (λ (book : Book). All (λ set. IsIdentifier set.name) book.sets)
    (sym c.book.ensures.value) c.book.ensures.named)
