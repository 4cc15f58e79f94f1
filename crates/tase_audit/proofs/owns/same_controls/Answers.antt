use Rattle.std.proofs.Common.{◌≡◌, ◌<◌, ◌≤◌, true, false, length, get_or, arith, sym}
use Rattle.std.proofs.Common.{◌∙◌}
use Rattle.bilateral.specs.declared.rows.Control.{Control}
use Rattle.tase_views.specs.OwnTables.{own_device}
use Rattle.tase_audit.specs.Owns.{same_own_device}
use Rattle.tase_audit.proofs.Pairwise.{mapped, read_at, at_start, apart_here, same_here, all_same}
use Rattle.tase_audit.proofs.owns.same_controls.Goals as goal

pub returns-then-not-same_control : goal.returns-then-not-same_control
returns-then-not-same_control c =
    let own = own_device c.args.one.now in
    let shown = own_device c.args.other.now in
    let xs = c.args.controls.now in
    let ys = c.args.theirs.now in
    let i = c.loop-place.place in
    let none : Control = record { device = 0; tag = false } in
    let x = get_or xs i none in
    let y = get_or ys i none in
    let h : i < length xs = omega arith in
    let k : i < length ys = omega arith in
    let apart : same_own_device (own x) (shown y) ≡ false =
    sym c.same_control.ensures ∙ c.if-not-same_control.true in
    apart_here (λ a b. same_own_device (own a) (shown b)) xs ys i x y h k
    (read_at xs i none h) (read_at ys i none k) apart c.loop-place.invariant
    ∙ mapped same_own_device own shown xs ys

pub loop-place-init : goal.loop-place-init
loop-place-init c =
    at_start (λ a b. same_own_device (own_device c.args.one.now a) (own_device c.args.other.now b))
    c.args.controls.now c.args.theirs.now

pub loop-place-preserved : goal.loop-place-preserved
loop-place-preserved c =
    let own = own_device c.args.one.now in
    let shown = own_device c.args.other.now in
    let xs = c.args.controls.now in
    let ys = c.args.theirs.now in
    let i = c.loop-place.place in
    let none : Control = record { device = 0; tag = false } in
    let x = get_or xs i none in
    let y = get_or ys i none in
    let h : i < length xs = omega arith in
    let k : i < length ys = omega arith in
    let same : same_own_device (own x) (shown y) ≡ true =
    sym c.same_control.ensures ∙ c.if-not-same_control.false in
    same_here (λ a b. same_own_device (own a) (shown b)) xs ys i x y h k
    (read_at xs i none h) (read_at ys i none k) same c.loop-place.invariant

pub returns : goal.returns
returns c =
    let own = own_device c.args.one.now in
    let shown = own_device c.args.other.now in
    let xs = c.args.controls.now in
    let ys = c.args.theirs.now in
    let i = c.loop-place.place in
    let h : length xs ≤ i = omega arith in
    let k : length ys ≤ i = omega arith in
    all_same (λ a b. same_own_device (own a) (shown b)) xs ys i h k c.loop-place.invariant
    ∙ mapped same_own_device own shown xs ys
