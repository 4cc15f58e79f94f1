-- A text is cut at its first line `end`.
use Rattle.std.proofs.Common.{◌≡◌, ℕ, suc, ◌+◌, ◌-◌, ◌^◌, ◌<◌, ◌≤◌, min, Bool, true, false, ◌||◌}
use Rattle.std.proofs.Common.{not, cond, List, [], ◌∷◌, ◌++◌, length, take, drop, Some}
use Rattle.std.proofs.Common.{refl, sym, ap, ◌∙◌, arith}
use Rattle.std.specs.Prelude.{option_map}
use Rattle.std.specs.List.{before_first, after_first, list_any, position_from, position_or_len}
use Rattle.std.specs.Str.Lines.{lines}
use Rattle.std.proofs.Math.Seq.{take-add, take-append_seam, drop-append-add}
use Rattle.std.proofs.lemmas.Bool.{false≢true}
use Rattle.std.proofs.lemmas.List.{append-nil, append_assoc, drop-drop, drop_all}
use Rattle.std.proofs.lemmas.List.{length-append, length-drop, take_all}
use Rattle.std.proofs.lemmas.List.Folds.{list_any-append}
use Rattle.plain_text.specs.Lines.{is_skipped}
use Rattle.tase_verify.specs.LinkText.{is_end_line, line_told}
use Rattle.tase_verify.specs.Cuts.{AreWhole, TakesFirstLine, IsCutAtEnd}

-- ---- numbers up to the end of the count

next_capped : (i j : ℕ) → min i (2 ^ 64 - 1) ≡ min j (2 ^ 64 - 1)
    → min (i + 1) (2 ^ 64 - 1) ≡ min (j + 1) (2 ^ 64 - 1)
next_capped i j same = omega arith

-- lines that are numbered from two numbers that are equal up to there
pub told_alike : (i j : ℕ) (lines : List (List ℕ)) → min i (2 ^ 64 - 1) ≡ min j (2 ^ 64 - 1)
    → line_told i lines ≡ line_told j lines
told_alike i j [] same = refl
told_alike i j (line ∷ more) same =
    choose (is_skipped line) (told_alike (i + 1) (j + 1) more (next_capped i j same))
  where
    choose : (skipped : Bool) → line_told (i + 1) more ≡ line_told (j + 1) more
        → option_map (λ n. min n (2 ^ 64 - 1)) (cond (not skipped) (Some i)
        (position_from (λ line. not (is_skipped line)) (i + 1) more))
        ≡ option_map (λ n. min n (2 ^ 64 - 1)) (cond (not skipped) (Some j)
        (position_from (λ line. not (is_skipped line)) (j + 1) more))
    choose true rest = rest
    choose false rest = ap Some same

-- a skipped line is passed over
pub skipped_next : (number : ℕ) (line : List ℕ) (more : List (List ℕ)) → is_skipped line ≡ true
    → line_told number (line ∷ more) ≡ line_told (min (number + 1) (2 ^ 64 - 1)) more
skipped_next number line more skipped =
    ap (λ (b : Bool). option_map (λ n. min n (2 ^ 64 - 1)) (cond (not b) (Some number)
    (position_from (λ line. not (is_skipped line)) (number + 1) more))) skipped
    ∙ told_alike (number + 1) (min (number + 1) (2 ^ 64 - 1)) more (omega arith)

-- ---- lists in front of the first element that passes

front_len : {X : Type 0} (p : X → Bool) (front rest : List X) → list_any p front ≡ false
    → position_or_len p (front ++ rest) ≡ length front + position_or_len p rest
front_len p [] rest none = omega arith
front_len p (x ∷ front) rest none = by (p x) none (front_len p front rest)
  where
    by : (b : Bool) → (b || list_any p front) ≡ false
        → (list_any p front ≡ false
        → position_or_len p (front ++ rest) ≡ length front + position_or_len p rest)
        → cond (not b) (1 + position_or_len p (front ++ rest)) 0
        ≡ suc (length front) + position_or_len p rest
    by true none more = absurd (false≢true (sym none))
    by false none more = omega (arith, more none)

first_len : {X : Type 0} (p : X → Bool) (front : List X) (x : X) (rest : List X)
    → list_any p front ≡ false → p x ≡ true → position_or_len p (front ++ x ∷ rest) ≡ length front
first_len p front x rest none this =
    front_len p front (x ∷ rest) none
    ∙ ap (λ (b : Bool). length front + cond (not b) (1 + position_or_len p rest) 0) this
    ∙ omega arith

-- ---- the walk

whole_joined : (one other text : List ℕ) (first second : List (List ℕ)) → text ≡ one ++ other
    → AreWhole one first → AreWhole other second → AreWhole text (first ++ second)
whole_joined one other text first second is front next more =
    ap (λ (t : List ℕ). lines (t ++ more)) is ∙ ap lines (append_assoc one other more)
    ∙ front (other ++ more) ∙ ap (λ (ls : List (List ℕ)). first ++ ls) (next more)
    ∙ sym (append_assoc first second (lines more))

neither : (a b : Bool) → a ≡ false → b ≡ false → (a || (b || false)) ≡ false
neither true b first second = first
neither false true first second = second
neither false false first second = refl

one_of : (a b c : Bool) → b ≡ true → (a || (b || c)) ≡ true
one_of true b c this = refl
one_of false true c this = refl
one_of false false c this = absurd (false≢true this)

-- so many octets of a text are these lines, of which none is `end`
pub record ArePassed (text : List ℕ) (place number : ℕ) : Type 0 where
  pub passed : List (List ℕ)
  pub within : place ≤ length text
  pub all : lines text ≡ passed ++ lines (drop place text)
  pub whole : place < length text → AreWhole (take place text) passed
  pub none : list_any is_end_line passed ≡ false
  pub counted : number ≡ min (length passed + 2) (2 ^ 64 - 1)

pub line_passed : (text : List ℕ) (place number size : ℕ) (line behind : List ℕ)
    → ArePassed text place number → lines (drop place text) ≡ line ∷ lines behind
    → TakesFirstLine (drop place text) size → is_end_line line ≡ false
    → ArePassed text (place + size) (min (number + 1) (2 ^ 64 - 1))
line_passed text place number size line behind so_far first takes other =
    let left = length-drop place text in record {
      passed = so_far.passed ++ line ∷ [];
      within = omega (arith, left, so_far.within, takes.within);
      all = so_far.all ∙ ap (λ (ls : List (List ℕ)). so_far.passed ++ ls)
          (first ∙ ap (λ (ls : List (List ℕ)). line ∷ ls)
          (sym (takes.rest line (lines behind) first) ∙ ap lines (drop-drop size place text)))
          ∙ sym (append_assoc so_far.passed (line ∷ []) (lines (drop (place + size) text)));
      whole = λ below more.
          whole_joined (take place text) (take size (drop place text)) (take (place + size) text)
          so_far.passed (line ∷ []) (take-add place size text)
          (so_far.whole (omega (arith, below)))
          (takes.whole line (lines behind) first (omega (arith, left, below))) more;
      none = list_any-append is_end_line so_far.passed (line ∷ [])
          ∙ neither (list_any is_end_line so_far.passed) (is_end_line line) so_far.none other;
      counted = omega (arith, length-append so_far.passed (line ∷ []), so_far.counted);
    }

-- what is behind the lines that were passed
behind : (all passed : List (List ℕ)) (line : List ℕ) (more : List (List ℕ))
    → all ≡ passed ++ line ∷ more → list_any is_end_line passed ≡ false
    → is_end_line line ≡ true
    → (passed ≡ before_first is_end_line all) × (more ≡ after_first is_end_line all)
    × (true ≡ list_any is_end_line all)
behind all passed line more is none this =
    let whole = passed ++ line ∷ more in
    let at : position_or_len is_end_line whole ≡ length passed =
    first_len is_end_line passed line more none this in (
      sym (ap (before_first is_end_line) is ∙ ap (λ (n : ℕ). take n whole) at
          ∙ take-append_seam passed (line ∷ more)),
      sym (ap (after_first is_end_line) is ∙ ap (λ (n : ℕ). drop (n + 1) whole) at
          ∙ drop-append-add passed (line ∷ more) 1),
      sym (ap (list_any is_end_line) is ∙ list_any-append is_end_line passed (line ∷ more)
          ∙ one_of (list_any is_end_line passed) (is_end_line line) (list_any is_end_line more)
          this),
    )

pub end_found : (text : List ℕ) (place number : ℕ) (line behind : List ℕ)
    → ArePassed text place number → place < length text
    → lines (drop place text) ≡ line ∷ lines behind → is_end_line line ≡ true
    → IsCutAtEnd text (take place text) behind true number
end_found text place number line after so_far below first this =
    let found = behind (lines text) so_far.passed line (lines after)
    (so_far.all ∙ ap (λ (ls : List (List ℕ)). so_far.passed ++ ls) first) so_far.none this in
    record {
      before = ap lines (sym (append-nil (take place text))) ∙ so_far.whole below []
          ∙ append-nil so_far.passed ∙ found.0;
      there = found.2;
      told = told_alike number (length so_far.passed + 2) (lines after)
          (omega (arith, so_far.counted))
          ∙ ap (λ (n : ℕ). line_told (n + 2) (lines after))
          (ap (λ (ls : List (List ℕ)). length ls) found.0)
          ∙ ap (line_told (length (before_first is_end_line (lines text)) + 2)) found.1;
    }

pub no_end : (text : List ℕ) (place number : ℕ) → ArePassed text place number
    → lines (drop place text) ≡ [] → IsCutAtEnd text text [] false number
no_end text place number so_far last =
    let all : lines text ≡ so_far.passed =
    so_far.all ∙ ap (λ (ls : List (List ℕ)). so_far.passed ++ ls) last
    ∙ append-nil so_far.passed in
    let none : list_any is_end_line (lines text) ≡ false =
    ap (list_any is_end_line) all ∙ so_far.none in
    let at : position_or_len is_end_line (lines text) ≡ length (lines text) =
    ap (position_or_len is_end_line) (sym (append-nil (lines text)))
    ∙ front_len is_end_line (lines text) [] none ∙ omega arith in record {
      before = sym (take_all (position_or_len is_end_line (lines text)) (lines text)
          (omega (arith, at)));
      there = sym none;
      told = ap (line_told (length (before_first is_end_line (lines text)) + 2))
          (sym (drop_all (position_or_len is_end_line (lines text) + 1) (lines text)
          (omega (arith, at))));
    }
