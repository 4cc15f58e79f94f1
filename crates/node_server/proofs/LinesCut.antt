-- The lines of octets of which the first are held and hold no LF.
use Rattle.std.proofs.Common.{◌≡◌, ℕ, ◌+◌, ◌-◌, ◌<◌, ◌≤◌, Bool, true, false, cond, eqb, List, []}
use Rattle.std.proofs.Common.{◌∷◌, ◌++◌, length, take, refl, ap, ◌∙◌, subst, arith}
use Rattle.std.proofs.Common.{append_assoc, length-append}
use Rattle.std.specs.List.{slice_split}
use Rattle.std.specs.Prelude.{slice_index}
use Rattle.std.specs.Str.Lines.{lines, lines_of_parts, strip_carriage_return}
use Rattle.std.proofs.lemmas.List.{append-nil, length-take-le}
use Rattle.std.proofs.lemmas.List.Elements.{All-push}
use Rattle.std.proofs.lemmas.List.Splits.{slice_split_at, slice_split_none, length-slice_split}
use Rattle.std.proofs.lemmas.Bool.{cond-false, ne_eqb, eqb-true}
use Rattle.node_server.specs.HeldLines.{HasNoEnd, IsLongFirst}

parts-more : (x : List ℕ) (parts : List (List ℕ)) → 0 < length parts
    → lines_of_parts (x ∷ parts) ≡ strip_carriage_return x ∷ lines_of_parts parts
parts-more x [] some = absurd (omega arith)
parts-more x (y ∷ more) some = refl

-- an LF ends the line that is held
pub lines-ended : (held more : List ℕ) → HasNoEnd held
    → lines (held ++ 10 ∷ more) ≡ strip_carriage_return held ∷ lines more
lines-ended held more none =
    ap lines_of_parts (slice_split_at (λ x. eqb x 10) held 10 more none refl)
    ∙ parts-more held (slice_split (λ x. eqb x 10) more)
    (omega (arith, length-slice_split (λ x. eqb x 10) more))

-- what is held is the last line, where nothing follows
pub lines-held : (held : List ℕ) → HasNoEnd held → 0 < length held → lines held ≡ held ∷ []
lines-held [] none some = absurd (omega arith)
lines-held (x ∷ xs) none some =
    ap lines_of_parts (slice_split_none (λ b. eqb b 10) (x ∷ xs) none)
    ∙ cond-false (eqb (length (x ∷ xs)) 0) [] ((x ∷ xs) ∷ [])
    (ne_eqb (length (x ∷ xs)) 0 (λ e. omega arith))

stripped : (line : List ℕ) → length line ≤ length (strip_carriage_return line) + 1
stripped line = by (eqb (slice_index line (length line - 1)) 13)
  where
    by : (b : Bool) → length line ≤ length (cond b (take (length line - 1) line) line) + 1
    by true = omega (arith, length-take-le (length line - 1) line (omega arith))
    by false = omega arith

-- whatever follows, the line that is held is longer than this; it may lose one octet at its end
pub lines-long : (most : ℕ) (more held : List ℕ) → HasNoEnd held → most + 1 < length held
    → IsLongFirst most (lines (held ++ more))
lines-long most [] held none long =
    (held, [], ap lines (append-nil held) ∙ lines-held held none (omega arith), omega arith)
lines-long most (x ∷ more) held none long =
    by (eqb x 10) refl (λ (free : HasNoEnd (held ++ x ∷ [])). lines-long most more (held ++ x ∷ [])
    free (omega (arith, length-append held (x ∷ []))))
  where
    by : (b : Bool) → eqb x 10 ≡ b
        → (HasNoEnd (held ++ x ∷ []) → IsLongFirst most (lines ((held ++ x ∷ []) ++ more)))
        → IsLongFirst most (lines (held ++ x ∷ more))
    by true is on = (
      strip_carriage_return held,
      lines more,
      ap (λ (y : ℕ). lines (held ++ y ∷ more)) (eqb-true x 10 is) ∙ lines-ended held more none,
      omega (arith, stripped held),
    )
    by false is on = subst (λ (l : List ℕ). IsLongFirst most (lines l))
        (append_assoc held (x ∷ []) more)
        (on (All-push (λ (y : ℕ). eqb y 10 ≡ false) held x none is))
