use Rattle.std.proofs.Common.{◌<◌, length, ◌∙◌, arith}
use Rattle.node_core.specs.Objects.Found.{offered}
use Rattle.node_core.specs.Deeds.{IsDeedThere}
use Rattle.node_core.proofs.DeedsFound.{read_ahead, all_there}
use Rattle.node_core.proofs.deeds.select_deeds.Goals as goal

pub loop-place-preserved : goal.loop-place-preserved
loop-place-preserved c =
    let t = c.args.table.now in
    let names = c.args.names.now in
    let i = c.loop-place.place in
    let old = c.loop-place.deeds.items in
    let new = c.add_deed.new.deeds.items in
    let deed = c.select_deed-deed.result in
    let within : i < length names = omega arith in
    record {
      deeds = read_ahead t.rows (offered t) old new deed c.in_ok-add_deed.ensures names i
          c.index-names-place.result within c.index-names-place.is c.select_deed-deed.ensures.deed
          ∙ c.loop-place.invariant.deeds;
      there = all_there (IsDeedThere (length t.rows.devices)) old new deed c.in_ok-add_deed.ensures
          c.loop-place.invariant.there c.select_deed-deed.ensures.there;
    }
