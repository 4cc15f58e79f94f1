use Rattle.std.proofs.Common.{◌≡◌, ◌<◌, ◌≤◌, true, false, length, sym, arith, ◌∙◌}
use Rattle.std.proofs.lemmas.Option.{get_or_from_slice_get}
use Rattle.bilateral.specs.Rows.{variants_of}
use Rattle.tase_views.specs.OwnTables.{own_table}
use Rattle.tase_audit.specs.Owns.{same_own_table}
use Rattle.tase_audit.proofs.RowsThere.{rows_there}
use Rattle.tase_audit.proofs.Pairwise.{mapped, at_start, apart_here, same_here, all_same}
use Rattle.tase_audit.proofs.owns.same_variants.Goals as goal

pub same_table-requires : goal.same_table-requires
same_table-requires c = record {
  here = rows_there c.args.one.now c.args.peer c.loop-variant.variant c.variant-table.result.now
      c.requires.lawful c.requires.here c.variant-table.ensures;
  there = rows_there c.args.other.now c.args.place c.loop-variant.variant
      c.variant-theirs.result.now c.requires.too c.requires.there c.variant-theirs.ensures;
}

pub returns-then-not-same_table : goal.returns-then-not-same_table
returns-then-not-same_table c =
    let own = own_table c.args.one.now in
    let shown = own_table c.args.other.now in
    let xs = variants_of c.args.one.now c.args.peer in
    let ys = variants_of c.args.other.now c.args.place in
    let i = c.loop-variant.variant in
    let x = c.variant-table.result.now in
    let y = c.variant-theirs.result.now in
    let h : i < length xs = omega arith in
    let k : i < length ys = omega arith in
    let is = sym (get_or_from_slice_get xs i x x c.variant-table.ensures) in
    let are = sym (get_or_from_slice_get ys i y y c.variant-theirs.ensures) in
    let apart : same_own_table (own x) (shown y) ≡ false =
    first_of (
      cc (c.if-not-same_table.ensures),
      cc (c.same_table.ensures, c.if-not-same_table.true),
    ) in
    apart_here (λ a b. same_own_table (own a) (shown b)) xs ys i x y h k is are apart
    c.loop-variant.invariant ∙ mapped same_own_table own shown xs ys

pub loop-variant-init : goal.loop-variant-init
loop-variant-init c =
    at_start (λ a b. same_own_table (own_table c.args.one.now a) (own_table c.args.other.now b))
    (variants_of c.args.one.now c.args.peer) (variants_of c.args.other.now c.args.place)

pub loop-variant-preserved : goal.loop-variant-preserved
loop-variant-preserved c =
    let own = own_table c.args.one.now in
    let shown = own_table c.args.other.now in
    let xs = variants_of c.args.one.now c.args.peer in
    let ys = variants_of c.args.other.now c.args.place in
    let i = c.loop-variant.variant in
    let x = c.variant-table.result.now in
    let y = c.variant-theirs.result.now in
    let h : i < length xs = omega arith in
    let k : i < length ys = omega arith in
    let is = sym (get_or_from_slice_get xs i x x c.variant-table.ensures) in
    let are = sym (get_or_from_slice_get ys i y y c.variant-theirs.ensures) in
    let same : same_own_table (own x) (shown y) ≡ true =
    first_of (
      cc (c.if-not-same_table.ensures),
      cc (c.same_table.ensures, c.if-not-same_table.false),
    ) in
    same_here (λ a b. same_own_table (own a) (shown b)) xs ys i x y h k is are same
    c.loop-variant.invariant

pub returns : goal.returns
returns c =
    let own = own_table c.args.one.now in
    let shown = own_table c.args.other.now in
    let xs = variants_of c.args.one.now c.args.peer in
    let ys = variants_of c.args.other.now c.args.place in
    let i = c.loop-variant.variant in
    let h : length xs ≤ i = omega arith in
    let k : length ys ≤ i = omega arith in
    all_same (λ a b. same_own_table (own a) (shown b)) xs ys i h k c.loop-variant.invariant
    ∙ mapped same_own_table own shown xs ys
