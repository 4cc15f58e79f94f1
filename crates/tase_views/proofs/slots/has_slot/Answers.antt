use Rattle.std.proofs.Common.{◌≡◌, ◌||◌, Bool, ltb, take, get_or, sym, ap, ◌∙◌, ◌+◌, arith}
use Rattle.std.specs.List.{list_any}
use Rattle.std.proofs.lemmas.List.Folds.{list_any_more}
use Rattle.std.proofs.lemmas.Option.{get_or_from_slice_get}
use Rattle.bilateral.specs.declared.rows.Table.{Table}
use Rattle.bilateral.specs.Rows.{variants_of, no_table}
use Rattle.tase_views.proofs.slots.has_slot.Goals as goal
use Rattle.tase_views.proofs.slots.has_slot.Goals.{then-there, else-there}

pub loop-variant-preserved : goal.loop-variant-preserved
loop-variant-preserved c =
    let tables = variants_of c.args.centre.now c.args.peer in
    let place = c.loop-variant.variant in
    let offers : Table → Bool = λ table. ltb c.args.slot table.slots in
    let more : list_any offers (take (place + 1) tables)
    ≡ (list_any offers (take place tables) || offers (get_or tables place no_table)) =
    list_any_more offers tables place no_table (omega arith) in
    elim c.if-there.branch [
      | then-there w ↦ w.there-is ∙ w.if-there.true ∙ sym (more
          ∙ ap (λ b. b || offers (get_or tables place no_table))
          (sym c.loop-variant.invariant ∙ w.if-there.true))
      | else-there w ↦ w.there-is ∙ sym (more
          ∙ ap (λ b. b || offers (get_or tables place no_table))
          (sym c.loop-variant.invariant ∙ w.if-there.false)
          ∙ ap offers (get_or_from_slice_get tables place w.variant.result.now no_table
          w.variant.ensures))
    ]
