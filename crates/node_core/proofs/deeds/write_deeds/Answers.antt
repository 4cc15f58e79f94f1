use Rattle.std.proofs.Common.{◌<◌, length, ◌∙◌, arith}
use Rattle.node_core.specs.Objects.Found.{offered}
use Rattle.node_core.specs.Deeds.{IsDeedThere}
use Rattle.node_core.proofs.DeedsFound.{write_ahead, all_there}
use Rattle.node_core.proofs.deeds.write_deeds.Goals as goal

pub loop-place-preserved : goal.loop-place-preserved
loop-place-preserved c =
    let t = c.args.table.now in
    let names = c.args.names.now in
    let values = c.args.values.now in
    let i = c.loop-place.place in
    let old = c.loop-place.deeds.items in
    let new = c.add_deed.new.deeds.items in
    let deed = c.in_ok-deed.deed in
    let within : i < length names = omega arith in
    let inside : i < length values = omega (arith, within, c.requires.many) in
    record {
      deeds = write_ahead t.rows (offered t) old new deed c.in_ok-add_deed.ensures names values i
          c.index-names-place.result c.index-values-place.result within inside
          c.index-names-place.is c.index-values-place.is c.in_ok-deed.ensures.deed
          ∙ c.loop-place.invariant.deeds;
      there = all_there (IsDeedThere (length t.rows.devices)) old new deed c.in_ok-add_deed.ensures
          c.loop-place.invariant.there c.in_ok-deed.ensures.there;
    }
