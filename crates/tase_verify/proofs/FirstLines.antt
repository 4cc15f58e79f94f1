-- The first line of a text, with its LF.
use Rattle.std.proofs.Common.{◌≡◌, ℕ, ◌+◌, ◌<◌, false, eqb, List, [], ◌∷◌, ◌++◌, length}
use Rattle.std.proofs.Common.{take, drop, get_or, Some, None, position, refl, sym, ap, ◌∙◌, arith}
use Rattle.std.specs.List.{slice_split, All}
use Rattle.std.specs.Str.Lines.{lines, lines_of_parts, strip_carriage_return}
use Rattle.std.proofs.Math.Seq.{drop-length}
use Rattle.std.proofs.lemmas.Bool.{eqb-true}
use Rattle.std.proofs.lemmas.Grind.{get_or_default_zero}
use Rattle.std.proofs.lemmas.List.{take_more, get_or-take, append_assoc, length-take}
use Rattle.std.proofs.lemmas.List.Quantifiers.{position-Some}
use Rattle.std.proofs.lemmas.List.Splits.{length-slice_split, slice_split_at}
use Rattle.plain_text.proofs.Parts.{lines-found, lines-last}
use Rattle.tase_verify.specs.Cuts.{AreWhole, TakesFirstLine}

parts_more : (x : List ℕ) (parts : List (List ℕ)) → 0 < length parts
    → lines_of_parts (x ∷ parts) ≡ strip_carriage_return x ∷ lines_of_parts parts
parts_more x [] some = absurd (omega arith)
parts_more x (y ∷ more) some = refl

-- a line without LF, with its LF
line_whole : (line : List ℕ) → All (λ x. eqb x 10 ≡ false) line
    → AreWhole (line ++ 10 ∷ []) (strip_carriage_return line ∷ [])
line_whole line none more =
    ap lines (append_assoc line (10 ∷ []) more)
    ∙ ap lines_of_parts (slice_split_at (λ x. eqb x 10) line 10 more none refl)
    ∙ parts_more line (slice_split (λ x. eqb x 10) more)
    (omega (arith, length-slice_split (λ x. eqb x 10) more))

none_before : (text : List ℕ) (i : ℕ) → i < length text
    → ((k : ℕ) → k < i → eqb (get_or text k 0) 10 ≡ false)
    → All (λ x. eqb x 10 ≡ false) (take i text)
none_before text i below none k d within =
    let short : k < i = omega (arith, length-take i text) in
    ap (λ (x : ℕ). eqb x 10)
    (get_or-take i text k d short ∙ get_or_default_zero text k d (omega (arith, short, below)))
    ∙ none k short

-- up to the first LF
found_whole : (text : List ℕ) (i : ℕ) → Some i ≡ position (λ x. eqb x 10) text
    → AreWhole (take (i + 1) text) (strip_carriage_return (take i text) ∷ [])
found_whole text i found more =
    let at = position-Some (λ x. eqb x 10) text i 0 (sym found) in
    let front : take (i + 1) text ≡ take i text ++ 10 ∷ [] =
    take_more text i 0 at.0
    ∙ ap (λ (x : ℕ). take i text ++ x ∷ []) (eqb-true (get_or text i 0) 10 at.1) in
    ap (λ (t : List ℕ). lines (t ++ more)) front
    ∙ line_whole (take i text) (none_before text i at.0 at.2) more

pub takes_found : (text : List ℕ) (i : ℕ) → Some i ≡ position (λ x. eqb x 10) text
    → TakesFirstLine text (i + 1)
takes_found text i found =
    let at = position-Some (λ x. eqb x 10) text i 0 (sym found) in
    let first = lines-found text i found in record {
      within = omega (arith, at.0);
      some = λ there. omega arith;
      rest = λ line more is. let e = is in cc;
      whole = λ line more is below others.
          let e = is in let same : strip_carriage_return (take i text) ≡ line = cc in
          found_whole text i found others ∙ ap (λ (l : List ℕ). l ∷ lines others) same;
    }

pub takes_last : (text : List ℕ) → None ≡ position (λ x. eqb x 10) text
    → TakesFirstLine text (length text)
takes_last text none = record {
  within = omega arith;
  some = λ there. there;
  rest = λ line more is. by text none line more is;
  whole = λ line more is below. absurd (omega (arith, below));
}
  where
    by : (text : List ℕ) → None ≡ position (λ x. eqb x 10) text → (line : List ℕ)
        (more : List (List ℕ)) → lines text ≡ line ∷ more → lines (drop (length text) text) ≡ more
    by [] none line more is = absurd cc
    by (x ∷ xs) none line more is =
        let all = lines-last (x ∷ xs) (omega arith) none in
        let left : more ≡ [] = cc in
        ap lines (drop-length (x ∷ xs)) ∙ sym left
