use Rattle.std.proofs.Common.{◌≡◌, ◌<◌, ◌≤◌, true, false, length, arith, ◌∙◌}
use Rattle.tase_views.specs.OwnTables.{own_point}
use Rattle.tase_audit.specs.Owns.{same_own_point}
use Rattle.tase_audit.proofs.Pairwise.{mapped, at_start, apart_here, same_here, all_same}
use Rattle.tase_audit.proofs.owns.same_sees.Goals as goal

pub returns-then-not-same_see : goal.returns-then-not-same_see
returns-then-not-same_see c =
    let own = own_point c.args.one.now in
    let shown = own_point c.args.other.now in
    let xs = c.args.sees.now in
    let ys = c.args.theirs.now in
    let i = c.loop-place.place in
    let x = c.index-sees-place.result in
    let y = c.index-theirs-place.result in
    let h : i < length xs = omega arith in
    let k : i < length ys = omega arith in
    let apart : same_own_point (own x) (shown y) ≡ false =
    first_of (cc (c.if-not-same_see.ensures), cc (c.same_see.ensures, c.if-not-same_see.true)) in
    apart_here (λ a b. same_own_point (own a) (shown b)) xs ys i x y h k
    c.index-sees-place.is c.index-theirs-place.is apart c.loop-place.invariant
    ∙ mapped same_own_point own shown xs ys

pub loop-place-init : goal.loop-place-init
loop-place-init c =
    at_start (λ a b. same_own_point (own_point c.args.one.now a) (own_point c.args.other.now b))
    c.args.sees.now c.args.theirs.now

pub loop-place-preserved : goal.loop-place-preserved
loop-place-preserved c =
    let own = own_point c.args.one.now in
    let shown = own_point c.args.other.now in
    let xs = c.args.sees.now in
    let ys = c.args.theirs.now in
    let i = c.loop-place.place in
    let x = c.index-sees-place.result in
    let y = c.index-theirs-place.result in
    let h : i < length xs = omega arith in
    let k : i < length ys = omega arith in
    let same : same_own_point (own x) (shown y) ≡ true =
    first_of (cc (c.if-not-same_see.ensures), cc (c.same_see.ensures, c.if-not-same_see.false)) in
    same_here (λ a b. same_own_point (own a) (shown b)) xs ys i x y h k
    c.index-sees-place.is c.index-theirs-place.is same c.loop-place.invariant

pub returns : goal.returns
returns c =
    let own = own_point c.args.one.now in
    let shown = own_point c.args.other.now in
    let xs = c.args.sees.now in
    let ys = c.args.theirs.now in
    let i = c.loop-place.place in
    let h : length xs ≤ i = omega arith in
    let k : length ys ≤ i = omega arith in
    all_same (λ a b. same_own_point (own a) (shown b)) xs ys i h k c.loop-place.invariant
    ∙ mapped same_own_point own shown xs ys
