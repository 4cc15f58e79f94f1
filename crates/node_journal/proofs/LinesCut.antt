-- Lines that stand one behind another in a text are told by the places where they end.
use Rattle.std.proofs.Common.{◌≡◌, ℕ, ◌+◌, ◌-◌, ◌<◌, ◌≤◌, List, [], ◌∷◌, ◌++◌, length, get_or}
use Rattle.std.proofs.Common.{take, drop, Some, refl, ap, arith, zero, suc, ap₂}
use Rattle.std.proofs.Common.{length-drop}
use Rattle.std.specs.List.{slice_get, sum_by}
use Rattle.std.proofs.Math.Seq.{drop-append_seam}
use Rattle.std.proofs.lemmas.List.{take-append-le, drop-append-le, take_all, length-take}
use Rattle.std.proofs.lemmas.List.Sums.{sum_by-cons}
use Rattle.node_journal.specs.LineText.{lines_from, Rise}

-- there are as many lines as ends
pub length-lines : (start : ℕ) (text ends : List ℕ)
    → length (lines_from start text ends) ≡ length ends
length-lines start text [] = refl
length-lines start text (end ∷ ends) = omega (arith, length-lines end text ends)

-- the line at a place, by where it starts and ends
pub lines_at : (start : ℕ) (text ends : List ℕ) (place first end : ℕ) → place < length ends
    → first ≡ get_or (start ∷ ends) place 0 → end ≡ get_or ends place end
    → slice_get (lines_from start text ends) place ≡ Some (take (end - first) (drop first text))
lines_at start text [] place first end there begins is = absurd (omega arith)
lines_at start text (next ∷ ends) zero first end there begins is = rw (begins, is) refl
lines_at start text (next ∷ ends) (suc place) first end there begins is =
    lines_at next text ends place first end (omega arith) begins is

-- the last end isn't before the start
Rise-start : (start : ℕ) (ends : List ℕ) (last : ℕ) → Rise start ends last → start ≤ last
Rise-start start [] last rise = omega arith
Rise-start start (end ∷ ends) last rise = omega (arith, Rise-start end ends last rise.1)

-- a line starts where it ends or before, and ends where the last one does or before
pub Rise-at : (start : ℕ) (ends : List ℕ) (last place first end : ℕ) → Rise start ends last
    → place < length ends → first ≡ get_or (start ∷ ends) place 0 → end ≡ get_or ends place end
    → (first ≤ end) × (end ≤ last)
Rise-at start [] last place first end rise there begins is = absurd (omega arith)
Rise-at start (next ∷ ends) last zero first end rise there begins is =
    (omega (arith, rise.0, begins, is), omega (arith, is, Rise-start next ends last rise.1))
Rise-at start (next ∷ ends) last (suc place) first end rise there begins is =
    Rise-at next ends last place first end rise.1 (omega arith) begins is

-- one more end
pub Rise-push : (start : ℕ) (ends : List ℕ) (last end : ℕ) → Rise start ends last → last ≤ end
    → Rise start (ends ++ end ∷ []) end
Rise-push start [] last end rise more = (omega arith, refl)
Rise-push start (next ∷ ends) last end rise more =
    (rise.0, Rise-push next ends last end rise.1 more)

-- a line that ends in a text stands there however the text goes on
line_kept : (start end : ℕ) (text more : List ℕ) → start ≤ end → end ≤ length text
    → take (end - start) (drop start (text ++ more)) ≡ take (end - start) (drop start text)
line_kept start end text more first within =
    rw (drop-append-le start text more (omega arith))
    (take-append-le (end - start) (drop start text) more (omega (arith, length-drop start text)))

-- one more line
pub lines-push : (start : ℕ) (text ends line : List ℕ) → Rise start ends (length text)
    → lines_from start (text ++ line) (ends ++ (length text + length line) ∷ [])
    ≡ lines_from start text ends ++ line ∷ []
lines-push start text [] line rise =
    rw (rise, drop-append_seam text line)
    (ap (λ (l : List ℕ). l ∷ [])
    (take_all (length text + length line - length text) line (omega arith)))
lines-push start text (end ∷ ends) line rise =
    ap₂ (λ (l : List ℕ) (ls : List (List ℕ)). l ∷ ls)
    (line_kept start end text line rise.0 (Rise-start end ends (length text) rise.1))
    (lines-push end text ends line rise.1)

-- all lines have as many octets as the text from where the first one starts
pub sum-lines : (start : ℕ) (text ends : List ℕ) → Rise start ends (length text)
    → start + sum_by length (lines_from start text ends) ≡ length text
sum-lines start text [] rise = omega (arith, rise)
sum-lines start text (end ∷ ends) rise =
    let last = Rise-start end ends (length text) rise.1 in
    omega (
      arith,
      rise.0,
      last,
      sum-lines end text ends rise.1,
      length-drop start text,
      length-take (end - start) (drop start text),
      sum_by-cons length (take (end - start) (drop start text)) (lines_from end text ends),
    )
