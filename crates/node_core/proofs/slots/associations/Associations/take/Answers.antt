use Rattle.std.proofs.Common.{◌≡◌, ◌==◌, ◌<◌, ◌+◌, ◌-◌, ℕ, suc, List, drop, set, length, get_or}
use Rattle.std.proofs.Common.{ap, ◌∙◌, arith}
use Rattle.std.specs.Prelude.{if◌then◌else◌}
use Rattle.tase_views.specs.declared.reply.ReportKind.{ReportKind}
use Rattle.node_core.specs.Slots.Associations.{OpenAssociation, behind_take, made_for}
use Rattle.node_core.proofs.OfSlots.OpenLists.{behind, item_before, one_more, made_for-more}
use Rattle.node_core.proofs.slots.associations.Associations.take.Goals as goal

pub loop-place-preserved : goal.loop-place-preserved
loop-place-preserved c =
    let f = behind_take c.args.ordinal in
    let before = c.self.inside.list.items in
    let items = c.loop-place.self-inside.list.items in
    let place = c.loop-place.place - 1 in
    let one = c.index_mut.result.now in
    let from : c.loop-place.place ≡ suc place = omega (arith, c.loop-place-test.true) in
    let next : c.loop-place.place ≡ place + 1 = omega (arith, c.loop-place-test.true) in
    let within : place < length before = omega (
      arith,
      c.loop-place-test.true,
      c.loop-place.auto.place,
      c.len-place.ensures,
      c.self.inside.list.ok,
    ) in
    let are : items ≡ behind f (suc place) before =
    c.loop-place.invariant.0 ∙ ap (λ (n : ℕ). behind f n before) from in
    let here : one ≡ get_or before place one =
    c.index_mut.ensures.value ∙ ap (λ (xs : List OpenAssociation). get_or xs place one) are
    ∙ item_before f before place one within in (
      ap (λ (xs : List OpenAssociation). set xs place c.take_if.new.self) are
          ∙ one_more f before place c.take_if.new.self one within
          (c.take_if.ensures.left ∙ ap f here),
      c.take_if.ensures.taken
          ∙ ap (λ (taken : List ReportKind). if one.ordinal == c.args.ordinal then one.made
          else taken) (c.loop-place.invariant.1
          ∙ ap (λ (n : ℕ). made_for c.args.ordinal (drop n before)) next)
          ∙ made_for-more c.args.ordinal before place one within here,
    )
