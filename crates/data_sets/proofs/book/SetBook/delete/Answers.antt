use Rattle.std.proofs.Common.{rules, ap}
use Rattle.std.proofs.lemmas.Fn.{filter_same}
use Rattle.std.specs.Prelude.{List, not}
use Rattle.data_sets.specs.declared.book.DataSet.{DataSet}
use Rattle.data_sets.specs.Books.{is_set_named}
use Rattle.data_sets.proofs.Booked.{IsSetBook-deleted}
use Rattle.data_sets.proofs.book.SetBook.delete.Goals as goal

pub invariant_of-self : goal.invariant_of-self
invariant_of-self c =
    IsSetBook-deleted c.self.inside.limit c.self.inside.sets.items c.retain.new.self.items
    c.args.name.now
    (filter_same _ (λ set. not (is_set_named c.args.name.now set)) _ (λ x b f' k. search rules) _ _
    c.retain.ensures.filtered) c.self.invariant

pub returns-clause-sets : goal.returns-clause-sets
returns-clause-sets c =
    let kept = filter_same _ (λ set. not (is_set_named c.args.name.now set)) _
    (λ x b f' k. search rules) _ _ c.retain.ensures.filtered in
    rw (← c.self.view_is) (ap (λ (sets : List DataSet). record { limit = c.self.inside.limit; sets = sets }) kept)
