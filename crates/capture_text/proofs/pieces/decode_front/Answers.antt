use Rattle.std.proofs.Common.{◌≡◌, ◌*◌, ◌≤◌, ◌++◌, ℕ, List, length, take, drop, sym, ap, ◌∙◌, arith}
use Rattle.std.proofs.Common.{rules}
use Rattle.std.proofs.lemmas.List.{take_at, length-take-le}
use Rattle.std.proofs.lemmas.Slice.{drop-append-drop}
use Rattle.hex.proofs.HexLemmas.{decode_of-same}
use Rattle.capture_text.specs.Pieces.{pairs_octets}
use Rattle.capture_text.proofs.Digits.{Front, front_of, front_pairs}
use Rattle.capture_text.proofs.pieces.decode_front.Goals as goal

pub decode_pairs-requires : goal.decode_pairs-requires
decode_pairs-requires c =
    let n = c.min-count.result in
    let within : 2 * n ≤ length c.args.digits.now = omega arith in
    let room : n ≤ length c.args.piece.now = omega arith in
    let size = length-take-le (2 * n) c.args.digits.now within in
    let some = length-take-le n c.args.piece.now room in
    record {
      pairs = front_pairs n c.args.digits.now (front_of n c.args.digits.now c.requires within);
      size = omega (arith, size, some);
    }

pub returns-clause-octets : goal.returns-clause-octets
returns-clause-octets c =
    let n = c.min-count.result in
    let within : 2 * n ≤ length c.args.digits.now = omega arith in
    let f : Front n c.args.digits.now = front_of n c.args.digits.now c.requires within in
    let out : c.decode_pairs.new.octets ≡ take n (pairs_octets c.args.digits.now) =
    decode_of-same _ _ _ c.decode_pairs.ensures f.front in
    f.is ∙ ap (λ (os : List ℕ). os ++ pairs_octets (drop (2 * n) c.args.digits.now))
    (sym out ∙ sym (take_at c.decode_pairs.new.octets (drop n c.args.piece.now) n
    (ap length out ∙ f.size)))

pub returns-clause-behind : goal.returns-clause-behind
returns-clause-behind c =
    let n = c.min-count.result in
    let room : n ≤ length c.args.piece.now = omega arith in
    drop-append-drop n c.args.piece.now c.decode_pairs.new.octets n (omega arith)
    (search rules)

pub returns-clause-pairs : goal.returns-clause-pairs
returns-clause-pairs c =
    let within : 2 * c.min-count.result ≤ length c.args.digits.now = omega arith in
    (front_of c.min-count.result c.args.digits.now c.requires within).pairs
