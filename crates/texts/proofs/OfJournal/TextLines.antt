-- A line without control characters, with its end, is the first line of a text.
use Rattle.std.proofs.Common.{◌≡◌, ℕ, zero, suc, ◌-◌, ◌<◌, true, false, eqb, leb}
use Rattle.std.proofs.Common.{List, [], ◌∷◌, ◌++◌, length, get_or, refl, ap, ◌∙◌, arith}
use Rattle.std.specs.List.{slice_split, list_all, All}
use Rattle.std.specs.Str.Lines.{lines, lines_of_parts, strip_carriage_return}
use Rattle.std.proofs.lemmas.Bool.{cond-false, and_parts}
use Rattle.std.proofs.lemmas.Bool.Decides.{nat_tests}
use Rattle.std.proofs.lemmas.List.Elements.{All-nil, All-cons}
use Rattle.std.proofs.lemmas.List.Splits.{length-slice_split, slice_split_at}

-- no octet below 32
abbrev pub IsPlainLine : List ℕ → Type 0
IsPlainLine line = list_all (λ o. leb 32 o) line ≡ true

apart : (control octet : ℕ) → control < 32 → leb 32 octet ≡ true → eqb octet control ≡ false
apart control octet low high = grind (arith, nat_tests)

unbroken : (line : List ℕ) → IsPlainLine line → All (λ x. eqb x 10 ≡ false) line
unbroken [] are = All-nil (λ x. eqb x 10 ≡ false)
unbroken (octet ∷ line) are =
    let parts = and_parts (leb 32 octet) _ are in
    All-cons (λ x. eqb x 10 ≡ false) octet line (apart 10 octet (omega arith) parts.0)
    (unbroken line parts.1)

-- an octet at any place, and 0 behind the last, is no carriage return
none_at : (line : List ℕ) (place : ℕ) → IsPlainLine line → eqb (get_or line place 0) 13 ≡ false
none_at [] place are = refl
none_at (octet ∷ line) zero are =
    apart 13 octet (omega arith) (and_parts (leb 32 octet) _ are).0
none_at (octet ∷ line) (suc place) are = none_at line place (and_parts (leb 32 octet) _ are).1

parts_lines : (line : List ℕ) (parts : List (List ℕ)) → 0 < length parts
    → lines_of_parts (line ∷ parts) ≡ strip_carriage_return line ∷ lines_of_parts parts
parts_lines line [] some = absurd (omega arith)
parts_lines line (next ∷ more) some = refl

pub lines-more : (line rest : List ℕ) → IsPlainLine line
    → lines (line ++ 10 ∷ rest) ≡ line ∷ lines rest
lines-more line rest are =
    ap lines_of_parts (slice_split_at (λ x. eqb x 10) line 10 rest (unbroken line are) refl)
    ∙ parts_lines line (slice_split (λ x. eqb x 10) rest)
    (omega (arith, length-slice_split (λ x. eqb x 10) rest))
    ∙ ap (λ l. l ∷ lines rest)
    (cond-false (eqb (get_or line (length line - 1) 0) 13) _ _ (none_at line (length line - 1) are))
