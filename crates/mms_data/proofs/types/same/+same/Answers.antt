-- Components are one just where they are as many, and one at each place.
use Rattle.std.proofs.Common.{◌≡◌, ◌<◌, false, true, length, sym, ap, ◌∙◌, arith}
use Rattle.std.proofs.lemmas.List.{take_all, get_or_read}
use Rattle.mms_data.specs.Types.TypeShape.{shapes_of, shape_depth, deepest_shape}
use Rattle.mms_data.specs.Types.SameShape.{same_shape, same_shapes}
use Rattle.mms_data.proofs.OfTypes.ShapeLengths.{component_shallow}
use Rattle.mms_data.proofs.OfTypes.SameShapes.{other_length, other_at, all_same, one_more_same}
use Rattle.mms_data.proofs.types.same.+same.Goals as goal

pub same_components-returns-then-ones-others : goal.same_components-returns-then-ones-others
same_components-returns-then-ones-others t c =
    let one = ap length c.as_slice-ones.ensures in
    let other = ap length c.as_slice-others.ensures in
    other_length c.args.one.now c.args.other.now
    (λ e. omega (arith, e, one, other, c.if-ones-others.true))

pub same_components-same_tree-requires : goal.same_components-same_tree-requires
same_components-same_tree-requires t c =
    let items = c.as_slice-ones.result.now in
    let tree = c.index-ones-index.result in
    let shallow = component_shallow items c.loop-index.index tree c.loop-index-test.true in (
      omega (
        arith,
        c.decreases,
        shallow,
        ap shape_depth c.index-ones-index.is,
        ap (λ ss. deepest_shape (shapes_of ss)) c.as_slice-ones.ensures,
      ),
      tt,
    )

pub same_components-returns-then-not-same_tree : goal.same_components-returns-then-not-same_tree
same_components-returns-then-not-same_tree t c =
    let xs = c.as_slice-ones.result.now in
    let ys = c.as_slice-others.result.now in
    let i = c.loop-index.index in
    let x = c.index-ones-index.result in
    let y = c.index-others-index.result in
    let within : i < length ys = omega (arith, c.loop-index-test.true, c.if-ones-others.false) in
    let there = get_or_read ys i y within c.index-others-index.is x in
    let apart : same_shape x y ≡ false =
    first_of (cc (c.if-not-same_tree.ensures), cc (c.same_tree.ensures, c.if-not-same_tree.true)) in
    other_at xs ys i x y x c.index-ones-index.is there apart
    ∙ ap (λ ss. same_shapes (shapes_of ss) (shapes_of ys)) c.as_slice-ones.ensures
    ∙ ap (λ ss. same_shapes (shapes_of c.args.one.now) (shapes_of ss)) c.as_slice-others.ensures

pub same_components-loop-index-preserved : goal.same_components-loop-index-preserved
same_components-loop-index-preserved t c =
    let xs = c.as_slice-ones.result.now in
    let ys = c.as_slice-others.result.now in
    let i = c.loop-index.index in
    let x = c.index-ones-index.result in
    let y = c.index-others-index.result in
    let within : i < length ys = omega (arith, c.loop-index-test.true, c.if-ones-others.false) in
    let there = get_or_read ys i y within c.index-others-index.is x in
    let same : same_shape x y ≡ true =
    first_of (
      cc (c.if-not-same_tree.ensures),
      cc (c.same_tree.ensures, c.if-not-same_tree.false),
    ) in
    one_more_same xs ys i x y x c.loop-index-test.true within c.index-ones-index.is there same
    c.loop-index.invariant

pub same_components-returns : goal.same_components-returns
same_components-returns t c =
    let xs = c.as_slice-ones.result.now in
    let ys = c.as_slice-others.result.now in
    let i = c.loop-index.index in
    let one = take_all i xs (omega (arith, c.loop-index-test.false)) in
    let other = take_all i ys (omega (arith, c.loop-index-test.false, c.if-ones-others.false)) in
    let same = sym one ∙ c.loop-index.invariant ∙ other in
    all_same c.args.one.now c.args.other.now
    (sym c.as_slice-ones.ensures ∙ same ∙ c.as_slice-others.ensures)
