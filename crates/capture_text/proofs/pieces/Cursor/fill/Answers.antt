use Rattle.std.proofs.Common.{◌≡◌, ◌-◌, ◌++◌, ℕ, List, length, take, drop, sym, ap, ◌∙◌, arith}
use Rattle.std.proofs.Common.{append_assoc, ◌≤◌, rules}
use Rattle.std.specs.Str.Lines.{lines}
use Rattle.std.proofs.lemmas.List.{drop-drop}
use borrow.Rule.Slice.PartMut.{put_mid, post_of}
use Rattle.std.specs.List.{list_any}
use Rattle.capture_text.specs.Captures.{is_bad, joined}
use Rattle.capture_text.specs.Pieces.{pairs_octets, octets_left}
use Rattle.capture_text.proofs.Walking.{filled_more, kept_behind}
use Rattle.capture_text.proofs.pieces.Cursor.fill.Goals as goal

pub loop-filled-preserved : goal.loop-filled-preserved
loop-filled-preserved c =
    let piece = c.loop-filled.piece in
    let filled = c.loop-filled.filled in
    let part = c.take-filled.new.piece in
    let n = c.take-filled.result in
    let old = c.find_digits.new.self in
    let new = c.take-filled.new.self in
    let size : length part ≡ length piece - filled = search rules in
    let within : filled ≤ length piece = c.loop-filled.invariant.within in
    let behind : List ℕ = post_of filled (length piece - filled) piece in
    let whole : length (put_mid filled (length piece - filled) piece part) ≡ length piece =
    search rules in
    record {
      within = omega (arith, whole, size, c.take-filled.ensures.within, c.loop-filled-test.true);
      behind = kept_behind filled n (length piece - filled) piece part within
          c.take-filled.ensures.within (search rules) c.take-filled.ensures.behind
          ∙ sym (drop-drop n filled piece) ∙ ap (drop n) c.loop-filled.invariant.behind
          ∙ drop-drop n filled c.args.piece.now;
      pairs = c.take-filled.ensures.pairs;
      good = ap (λ (os : List ℕ). list_any is_bad (lines os)) c.take-filled.ensures.rest
          ∙ c.if-not-find_digits.ensures.good;
      octets = c.loop-filled.invariant.octets
          ∙ ap (λ (os : List ℕ). take filled piece ++ os)
          (sym c.if-not-find_digits.ensures.octets
          ∙ ap (λ (os : List ℕ). os ++ joined (lines old.rest.now)) c.take-filled.ensures.octets
          ∙ append_assoc (take n part) (pairs_octets new.digits.now) (joined (lines old.rest.now))
          ∙ ap (λ (os : List ℕ). take n part ++ (pairs_octets new.digits.now ++ joined (lines os)))
          (sym c.take-filled.ensures.rest))
          ∙ sym (append_assoc (take filled piece) (take n part)
          (octets_left new.digits.now new.rest.now))
          ∙ ap (λ (os : List ℕ). os ++ octets_left new.digits.now new.rest.now)
          (sym (filled_more filled n piece part behind within c.take-filled.ensures.within));
    }
