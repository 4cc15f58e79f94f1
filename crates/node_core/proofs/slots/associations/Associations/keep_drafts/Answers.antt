use Rattle.std.proofs.Common.{◌<◌, length, arith}
use Rattle.std.proofs.lemmas.List.Edits.{map_over_more}
use Rattle.node_core.specs.Slots.Associations.{with_drafted}
use Rattle.node_core.proofs.slots.associations.Associations.keep_drafts.Goals as goal

pub loop-place-preserved : goal.loop-place-preserved
loop-place-preserved c =
    let items = c.self.inside.list.items in
    let place = c.loop-place.place in
    let within : place < length items = omega (
      arith,
      c.loop-place-test.true,
      c.len-place-end.ensures,
      c.self.inside.list.ok,
    ) in
    rw c.keep_draft.ensures
    (map_over_more with_drafted items c.loop-place.self-inside.list.items place
    c.index_mut.result.now within c.loop-place.invariant c.index_mut.ensures.value)
