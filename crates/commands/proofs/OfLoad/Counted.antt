-- What is counted of a text is no more than its octets.
use Rattle.std.proofs.Common.{◌≡◌, ℕ, suc, ◌+◌, ◌≤◌, Bool, true, false, cond, List, [], ◌∷◌, length}
use Rattle.std.proofs.Common.{get_or, ◌-◌, take, filter, map, eqb, arith}
use Rattle.std.specs.Prelude.{bytes_eq, codes, if◌then◌else◌}
use Rattle.std.specs.List.{slice_split, onto_first, sum_by}
use Rattle.std.specs.Str.Lines.{lines, lines_of_parts, strip_carriage_return}
use Rattle.std.proofs.lemmas.List.Sums.{sum_by-cons}
use Rattle.std.proofs.lemmas.List.{length-take}
use Rattle.plain_text.specs.Words.{words, is_word}
use Rattle.commands.specs.declared.load.tally.ShownLine.{ShownLine}
use Rattle.commands.specs.declared.load.tally.ShownLine.TheVariants.{Reply, Report, Other}
use Rattle.commands.specs.Load.Tallies.{line_by_words, shown_line, is_report}
use Rattle.commands.specs.Load.Tallies.{outcomes_behind_seat, outcomes_behind_name}

octets : List (List ℕ) → ℕ
octets parts = sum_by length parts

no_octets : (parts : List (List ℕ)) → octets ([] ∷ parts) ≡ octets parts
unfolding octets
no_octets parts = omega (arith, sum_by-cons {X = List ℕ} length [] parts)

-- the parts of a text have no more octets than it
onto_octets : (x : ℕ) (parts : List (List ℕ)) → octets (onto_first x parts) ≤ octets parts + 1
unfolding octets
onto_octets x [] = omega arith
onto_octets x (part ∷ parts) =
    omega (arith, sum_by-cons length (x ∷ part) parts, sum_by-cons length part parts)

cut_octets : (test : Bool) (x n : ℕ) (parts : List (List ℕ)) → octets parts ≤ n
    → octets (cond test ([] ∷ parts) (onto_first x parts)) ≤ suc n
unfolding octets
cut_octets true x n parts few = omega (arith, few, no_octets parts)
cut_octets false x n parts few = omega (arith, few, onto_octets x parts)

split_octets : (p : ℕ → Bool) (xs : List ℕ) → octets (slice_split p xs) ≤ length xs
unfolding octets
split_octets p [] = omega arith
split_octets p (x ∷ xs) = cut_octets (p x) x (length xs) (slice_split p xs) (split_octets p xs)

-- nor has it more words
kept_within : (parts : List (List ℕ)) → length (filter is_word parts) ≤ octets parts
unfolding octets
kept_within [] = omega arith
kept_within ([] ∷ parts) =
    omega (arith, kept_within parts, no_octets parts)
kept_within ((x ∷ xs) ∷ parts) =
    omega (arith, kept_within parts, sum_by-cons length (x ∷ xs) parts)

pub words_within : (line : List ℕ) → length (words line) ≤ length line
words_within line =
    omega (
      arith,
      kept_within (slice_split (λ o. eqb o 32) line),
      split_octets (λ o. eqb o 32) line,
    )

-- nor do its lines
cut_within : (test : Bool) (n : ℕ) (line : List ℕ)
    → length (if test then take n line else line) ≤ length line
cut_within true n line = omega (arith, length-take n line)
cut_within false n line = omega arith

-- nor is more counted in its lines than each of them has
module _ {X : Type 0} (shows : List ℕ → X) (count : X → ℕ)
    (few : (line : List ℕ) → count (shows line) ≤ length line) where
  last_within : (test : Bool) (x : List ℕ)
      → sum_by count (map shows (if test then [] else x ∷ [])) ≤ octets (x ∷ [])
  unfolding octets
  last_within true x = omega arith
  last_within false x = omega (arith, few x)

  parts_within : (parts : List (List ℕ))
      → sum_by count (map shows (lines_of_parts parts)) ≤ octets parts
  unfolding octets
  parts_within [] = omega arith
  parts_within (x ∷ []) = last_within (eqb (length x) 0) x
  parts_within (x ∷ y ∷ more) = omega (
    arith,
    parts_within (y ∷ more),
    few (strip_carriage_return x),
    cut_within (eqb (get_or x (length x - 1) 0) 13) (length x - 1) x,
    sum_by-cons length x (y ∷ more),
    sum_by-cons count (shows (strip_carriage_return x)) (map shows (lines_of_parts (y ∷ more))),
  )

  pub lines_within : (text : List ℕ)
      → sum_by count (map shows (lines text)) ≤ length text
  lines_within text =
      omega (
        arith,
        parts_within (slice_split (λ o. eqb o 10) text),
        split_octets (λ o. eqb o 10) text,
      )

-- each line that is counted has a word for what it is
outcomes_named : (words : List (List ℕ)) → outcomes_behind_name words ≤ length words
outcomes_named [] = omega arith
outcomes_named (name ∷ more) = omega arith

outcomes_cut : (is_set : Bool) (kind : List ℕ) (more : List (List ℕ))
    → (if is_set then outcomes_behind_name more else length more) ≤ length (kind ∷ more)
outcomes_cut true kind more = omega (arith, outcomes_named more)
outcomes_cut false kind more = omega arith

outcomes_within : (words : List (List ℕ)) → outcomes_behind_seat words ≤ length words
outcomes_within [] = omega arith
outcomes_within (seat ∷ []) = omega arith
outcomes_within (seat ∷ kind ∷ more) =
    omega (arith, outcomes_cut (bytes_eq kind (codes "set")) kind more)

-- what a line adds to a count that goes by what it shows
pub record IsFew (count : ShownLine → ℕ) : Type 0 where
  pub reply : count Reply ≤ 1
  pub report : (n : ℕ) → count (Report n) ≤ n + 1
  pub other : count Other ≤ 0

module _ (count : ShownLine → ℕ) (few : IsFew count) where
  shown_few : (is_reply is_report : Bool) (verb : List ℕ) (more : List (List ℕ))
      → count (if is_reply then Reply else (if is_report then Report (outcomes_behind_seat more)
      else Other)) ≤ length (verb ∷ more)
  shown_few true is_report verb more = omega (arith, few.reply)
  shown_few false true verb more =
      omega (arith, few.report (outcomes_behind_seat more), outcomes_within more)
  shown_few false false verb more = omega (arith, few.other)

  words_few : (words : List (List ℕ)) → count (line_by_words words) ≤ length words
  words_few [] = few.other
  words_few (verb ∷ more) =
      shown_few (bytes_eq verb (codes "reply")) (bytes_eq verb (codes "report")) verb more

  pub counts_within : (shown : List ℕ)
      → sum_by count (map shown_line (lines shown)) ≤ length shown
  counts_within shown = lines_within shown_line count
      (λ line. omega (arith, words_few (words line), words_within line)) shown
