use Rattle.std.proofs.Common.{◌≡◌, ◌+◌, ◌*◌, ◌%◌, ◌∙◌, length, slice_index, arith}
use Rattle.hex.proofs.HexLemmas.{decode_of-even}
use Rattle.hex.proofs.Pairs.{decode_start, decode_step, decode_done}
use Rattle.capture_text.proofs.Digits.{digit_at, pair_known}
use Rattle.capture_text.proofs.pieces.decode_pairs.Goals as goal

pub loop-i-init : goal.loop-i-init
loop-i-init c = decode_start c.args.digits.now c.args.octets.now

pub digit_value-high-requires : goal.digit_value-high-requires
digit_value-high-requires c = digit_at c.args.digits.now c.requires.pairs _ (omega arith)

pub digit_value-low-requires : goal.digit_value-low-requires
digit_value-low-requires c = digit_at c.args.digits.now c.requires.pairs _ (omega arith)

pub loop-i-preserved : goal.loop-i-preserved
loop-i-preserved c =
    let digits = c.args.digits.now in
    let i = c.loop-i.i in
    decode_step digits c.loop-i.octets i
    (c.digit_value-high.result * 16 + c.digit_value-low.result)
    (omega arith) (omega arith)
    (pair_known (slice_index digits (2 * i)) (slice_index digits (2 * i + 1)) (2 * i)
    c.digit_value-high.result c.digit_value-low.result
    c.digit_value-high.ensures.value c.digit_value-low.ensures.value)
    c.loop-i.invariant

pub returns : goal.returns
returns c =
    let even : length c.args.digits.now % 2 ≡ 0 = omega arith in
    decode_of-even c.args.digits.now even
    ∙ decode_done _ _ c.loop-i.i (omega arith) (omega arith) c.loop-i.invariant
