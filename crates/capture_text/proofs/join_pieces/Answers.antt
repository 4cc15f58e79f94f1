use Rattle.std.proofs.Common.{◌≡◌, ◌++◌, ◌∙◌, ℕ, List, [], length, take, sym, ap, append_assoc, rules, arith}
use Rattle.std.proofs.lemmas.List.{append-nil}
use Rattle.capture_text.proofs.join_pieces.Goals as goal

pub returns-then-count-eq0 : goal.returns-then-count-eq0
returns-then-count-eq0 c =
    let piece = c.next-count.new.piece in
    let zero : c.next-count.result ≡ 0 = omega arith in
    let room : length piece ≡ 256 = search rules in
    let left : c.loop-pieces.pieces ≡ [] =
    c.next-count.ensures.octets
    ∙ ap (λ (n : ℕ). take n piece ++ c.next-count.new.self) zero
    ∙ c.next-count.ensures.full (omega (arith, zero, room)) in
    sym (c.loop-pieces.invariant.joined
    ∙ ap (λ (os : List ℕ). c.loop-pieces.octets.items ++ os) left
    ∙ append-nil c.loop-pieces.octets.items)

pub loop-pieces-preserved : goal.loop-pieces-preserved
loop-pieces-preserved c = record {
  joined = rw c.in_ok-extend_from_slice.ensures.items
      (c.loop-pieces.invariant.joined
      ∙ ap (λ (os : List ℕ). c.loop-pieces.octets.items ++ os) c.next-count.ensures.octets
      ∙ sym (append_assoc c.loop-pieces.octets.items
      (take c.next-count.result c.next-count.new.piece) c.next-count.new.self));
  room = search rules;
}
