use Rattle.std.proofs.Common.{◌<◌, ◌≤◌, length, get_or, sym, ◌∙◌, arith}
use Rattle.tase_points.specs.declared.layout.Component.TheVariants.{Value}
use Rattle.tase_points.specs.Same.{same_component}
use Rattle.tase_audit.proofs.Pairwise.{read_at, at_start, apart_here, same_here, all_same}
use Rattle.tase_audit.proofs.owns.same_components.Goals as goal

pub returns-then-not-is_same : goal.returns-then-not-is_same
returns-then-not-is_same c =
    let xs = c.args.one.now in
    let ys = c.args.other.now in
    let i = c.loop-place.place in
    let h : i < length xs = omega arith in
    let k : i < length ys = omega arith in
    apart_here same_component xs ys i (get_or xs i Value) (get_or ys i Value) h k
    (read_at xs i Value h) (read_at ys i Value k)
    (sym c.is_same.ensures.value ∙ c.if-not-is_same.true) c.loop-place.invariant

pub loop-place-init : goal.loop-place-init
loop-place-init c = at_start same_component c.args.one.now c.args.other.now

pub loop-place-preserved : goal.loop-place-preserved
loop-place-preserved c =
    let xs = c.args.one.now in
    let ys = c.args.other.now in
    let i = c.loop-place.place in
    let h : i < length xs = omega arith in
    let k : i < length ys = omega arith in
    same_here same_component xs ys i (get_or xs i Value) (get_or ys i Value) h k
    (read_at xs i Value h) (read_at ys i Value k)
    (sym c.is_same.ensures.value ∙ c.if-not-is_same.false) c.loop-place.invariant

pub returns : goal.returns
returns c =
    let xs = c.args.one.now in
    let ys = c.args.other.now in
    let i = c.loop-place.place in
    let h : length xs ≤ i = omega arith in
    let k : length ys ≤ i = omega arith in
    all_same same_component xs ys i h k c.loop-place.invariant
