use Rattle.std.proofs.Common.{List, length, map, sym, ap, subst, ◌∙◌}
use Rattle.std.specs.List.{All}
use Rattle.std.proofs.lemmas.List.Elements.{All-nil}
use Rattle.mms_data.specs.ObjectName.{ObjectName}
use Rattle.tase_views.specs.Moves.{reads, writes_of}
use Rattle.tase_views.specs.OwnTables.{own_tables, table_in}
use Rattle.node_core.specs.Deeds.{deed_at, IsDeedThere}
use Rattle.node_core.proofs.OfReplies.Answered.{ok_of}
use Rattle.node_core.proofs.DeedsFound.{by_table, read_acts, write_acts, calm_deeds}
use Rattle.node_core.proofs.deeds.deeds_of_call.Goals as goal

pub returns-in-Read-clause-deeds : goal.returns-in-Read-clause-deeds
returns-in-Read-clause-deeds c =
    let acts = ap (map reads) c.as_slice.ensures
    ∙ read_acts c.args.call.now _ _ (sym c.kind.ensures.value ∙ c.in-Read.is) in
    ok_of c.select_deeds.result
    (λ deeds done. by_table c.args.centre.now c.args.peer c.args.variant c.new-table.result
    c.args.call.now (map reads c.as_slice.result.now) deeds.items c.requires c.new-table.ensures
    acts done) c.select_deeds.ensures.deeds

pub returns-in-Write-clause-deeds : goal.returns-in-Write-clause-deeds
returns-in-Write-clause-deeds c =
    let names = c.as_slice-in-Write.result.now in
    let values = c.as_slice-in-Write-2.result.now in
    let acts = ap (λ (ns : List ObjectName). writes_of ns values) c.as_slice-in-Write.ensures
    ∙ ap (writes_of _) c.as_slice-in-Write-2.ensures
    ∙ write_acts c.args.call.now _ _ (sym c.kind.ensures.value ∙ c.in-Write.is) in
    ok_of c.write_deeds.result
    (λ deeds done. by_table c.args.centre.now c.args.peer c.args.variant c.new-table.result
    c.args.call.now (writes_of names values) deeds.items c.requires c.new-table.ensures acts done)
    c.write_deeds.ensures.deeds

pub returns-in_default : goal.returns-in_default
returns-in_default c =
    let rows = c.args.centre.now in
    record {
      deeds = ap (map (deed_at rows)) c.new.ensures.items
          ∙ sym (calm_deeds (table_in (own_tables rows c.args.peer) c.args.variant)
          c.args.call.now
          (λ names echo e. c.in_default.not-Read names echo (c.kind.ensures.value ∙ e))
          (λ names values e. c.in_default.not-Write names values (c.kind.ensures.value ∙ e)));
      there = subst (All (IsDeedThere (length rows.devices))) (sym c.new.ensures.items)
          (All-nil (IsDeedThere (length rows.devices)));
    }
