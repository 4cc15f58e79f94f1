-- A walk over the lines of a capture.
use Rattle.std.proofs.Common.{◌≡◌, ℕ, suc, ◌+◌, ◌-◌, ◌^◌, ◌≤◌, min, Bool, true, false, ◌||◌, cond}
use Rattle.std.proofs.Common.{List}
use Rattle.std.proofs.Common.{[], ◌∷◌, ◌++◌, length, take, drop, Option, Some, None, Ok}
use Rattle.std.proofs.Common.{refl, sym, ap, ◌∙◌, arith}
use Rattle.std.specs.Prelude.{option_map}
use Rattle.std.specs.List.{list_any, position_from}
use Rattle.std.specs.Str.Lines.{lines}
use Rattle.std.proofs.lemmas.List.{take-append-le, length-take-le, take-append-drop}
use Rattle.std.proofs.lemmas.List.{drop-append-le, drop-drop}
use Rattle.std.proofs.Math.Seq.{drop-append-add}
use Rattle.hex.specs.Hex.{decode_pairs}
use Rattle.capture_text.specs.Captures.{is_bad, joined, unless_bad, capture_in}
use Rattle.capture_text.specs.Pieces.{ArePairs, HasNoBadLine, bad_line_from}
use Rattle.capture_text.specs.Pieces.{octets_left}

-- a number up to the end of the count
abbrev capped : Option ℕ → Option ℕ
capped number = option_map (λ n. min n (2 ^ 64 - 1)) number

next_capped : (i j : ℕ) → min i (2 ^ 64 - 1) ≡ min j (2 ^ 64 - 1)
    → min (i + 1) (2 ^ 64 - 1) ≡ min (j + 1) (2 ^ 64 - 1)
next_capped i j same = omega arith

-- lines that are numbered from two numbers that are equal up to there
first_bad : (i j : ℕ) (lines : List (List ℕ)) → min i (2 ^ 64 - 1) ≡ min j (2 ^ 64 - 1)
    → capped (position_from is_bad i lines) ≡ capped (position_from is_bad j lines)
first_bad i j [] same = refl
first_bad i j (line ∷ more) same =
    choose (is_bad line) (first_bad (i + 1) (j + 1) more (next_capped i j same))
  where
    choose : (bad : Bool)
        → capped (position_from is_bad (i + 1) more) ≡ capped (position_from is_bad (j + 1) more)
        → capped (cond bad (Some i) (position_from is_bad (i + 1) more))
        ≡ capped (cond bad (Some j) (position_from is_bad (j + 1) more))
    choose true rest = ap Some same
    choose false rest = rest

-- a good line is passed over
pub good_next : (number : ℕ) (line : List ℕ) (more : List (List ℕ)) → is_bad line ≡ false
    → bad_line_from number (line ∷ more) ≡ bad_line_from (min (number + 1) (2 ^ 64 - 1)) more
good_next number line more good =
    ap (λ (b : Bool). option_map (λ n. min n (2 ^ 64 - 1))
    (cond b (Some number) (position_from is_bad (number + 1) more))) good
    ∙ first_bad (number + 1) (min (number + 1) (2 ^ 64 - 1)) more (omega arith)

-- where no number is found there is no bad line
none_bad : (number : ℕ) (lines : List (List ℕ)) → bad_line_from number lines ≡ None
    → list_any is_bad lines ≡ false
none_bad number [] none = refl
none_bad number (line ∷ more) none =
    choose (is_bad line) refl (none_bad (number + 1) more)
  where
    choose : (bad : Bool) → is_bad line ≡ bad
        → (bad_line_from (number + 1) more ≡ None → list_any is_bad more ≡ false)
        → list_any is_bad (line ∷ more) ≡ false
    choose true at others =
        let e = sym none ∙ ap (λ (b : Bool). option_map (λ n. min n (2 ^ 64 - 1))
        (cond b (Some number) (position_from is_bad (number + 1) more))) at in absurd cc
    choose false at others =
        let rest : bad_line_from (number + 1) more ≡ None =
        sym (ap (λ (b : Bool). option_map (λ n. min n (2 ^ 64 - 1))
        (cond b (Some number) (position_from is_bad (number + 1) more))) at) ∙ none in
        ap (λ (b : Bool). b || list_any is_bad more) at ∙ others rest

pub no_bad_line : (text : List ℕ) → bad_line_from 1 (lines text) ≡ None → HasNoBadLine text
no_bad_line text none = none_bad 1 (lines text) none

unless_none : (number : Option ℕ) (octets : List ℕ)
    → option_map (λ n. min n (2 ^ 64 - 1)) number ≡ None → unless_bad number octets ≡ Ok octets
unless_none None octets none = refl
unless_none (Some number) octets none = absurd cc

pub empty_pairs : ArePairs []
unfolding decode_pairs
empty_pairs = refl

-- no digits have no octets
pub empty_left : (digits text : List ℕ) → length digits ≡ 0
    → octets_left digits text ≡ joined (lines text)
unfolding decode_pairs
empty_left [] text none = refl
empty_left (d ∷ digits) text none = absurd (omega arith)

pub empty_are_pairs : (digits : List ℕ) → length digits ≡ 0 → ArePairs digits
unfolding decode_pairs
empty_are_pairs [] none = refl
empty_are_pairs (d ∷ digits) none = absurd (omega arith)

pub capture_of : (digits text : List ℕ) → length digits ≡ 0 → bad_line_from 1 (lines text) ≡ None
    → capture_in text ≡ Ok (octets_left digits text)
capture_of digits text none good =
    unless_none (position_from is_bad 1 (lines text)) (joined (lines text)) good
    ∙ ap Ok (sym (empty_left digits text none))

take_front : (front behind : List ℕ) (n : ℕ) → take (length front + n) (front ++ behind)
    ≡ front ++ take n behind
take_front [] behind n = let e : 0 + n ≡ n = omega arith in ap (λ (k : ℕ). take k behind) e
take_front (x ∷ front) behind n =
    let e : suc (length front) + n ≡ suc (length front + n) = omega arith in
    ap (λ (k : ℕ). take k (x ∷ (front ++ behind))) e
    ∙ ap (λ (os : List ℕ). x ∷ os) (take_front front behind n)

-- more octets behind those of a piece that are filled
pub filled_more : (filled n : ℕ) (piece part behind : List ℕ) → filled ≤ length piece
    → n ≤ length part
    → take (filled + n) (take filled piece ++ (part ++ behind)) ≡ take filled piece ++ take n part
filled_more filled n piece part behind within some =
    let len = length-take-le filled piece within in
    ap (λ (k : ℕ). take (k + n) (take filled piece ++ (part ++ behind))) (sym len)
    ∙ take_front (take filled piece) (part ++ behind) n
    ∙ ap (λ (os : List ℕ). take filled piece ++ os) (take-append-le n part behind some)

-- what stands behind the octets that were filled stays, where more of a room behind them are
pub kept_behind : (filled n room : ℕ) (piece part : List ℕ) → filled ≤ length piece
    → n ≤ length part → length part ≡ length (take room (drop filled piece))
    → drop n part ≡ drop n (take room (drop filled piece))
    → drop (filled + n) (take filled piece ++ (part ++ drop room (drop filled piece)))
    ≡ drop (filled + n) piece
kept_behind filled n room piece part within some size same =
    let rest = drop filled piece in
    let len = length-take-le filled piece within in
    ap (λ (k : ℕ). drop (k + n) (take filled piece ++ (part ++ drop room rest))) (sym len)
    ∙ drop-append-add (take filled piece) (part ++ drop room rest) n
    ∙ drop-append-le n part (drop room rest) some
    ∙ ap (λ (os : List ℕ). os ++ drop room rest) same
    ∙ sym (drop-append-le n (take room rest) (drop room rest) (omega (arith, some, size)))
    ∙ ap (drop n) (take-append-drop room rest)
    ∙ drop-drop n filled piece
