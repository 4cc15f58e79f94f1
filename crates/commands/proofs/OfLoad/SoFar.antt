-- What was counted of the lines before a place.
use Rattle.std.proofs.Common.{◌≡◌, ℕ, ◌+◌, ◌<◌, ◌^◌, List, ◌∷◌, length, map, cond}
use Rattle.std.proofs.Common.{ap, sym, ◌∙◌, arith}
use Rattle.std.specs.List.{sum_by, count_by}
use Rattle.std.proofs.lemmas.List.Sums.{sum_by-cons}
use Rattle.commands.specs.declared.load.tally.Tally.{Tally}
use Rattle.commands.specs.declared.load.tally.ShownLine.{ShownLine}
use Rattle.commands.specs.declared.load.tally.ShownLine.TheVariants.{Reply, Report, Other}
use Rattle.commands.specs.Load.Tallies.{shown_line, is_reply, is_report, outcomes_of_line, tally_of}
use Rattle.commands.specs.Load.Tallies.{with_line, Fits}
use Rattle.commands.proofs.OfLoad.Counted.{IsFew, counts_within}

-- a tally with all that more lines add
abbrev pub with_lines : Tally → List ShownLine → Tally
with_lines tally shows = record {
  replies = tally.replies + count_by is_reply shows;
  reports = tally.reports + count_by is_report shows;
  results = tally.results + sum_by outcomes_of_line shows;
  sum = tally.sum;
}

same_tally : (t : Tally) (a b c d e f : ℕ) → a ≡ b → c ≡ d → e ≡ f
    → (record t { replies = a; reports = c; results = e })
    ≡ (record t { replies = b; reports = d; results = f })
same_tally t a b c d e f p q r =
    λ i. record t { replies = p i; reports = q i; results = r i }

-- a line more is one of those that are yet to come
pub noted_before : (t : Tally) (line : ShownLine) (shows : List ShownLine)
    → with_lines (with_line t line) shows ≡ with_lines t (line ∷ shows)
noted_before t Reply shows = same_tally t _ _ _ _ _ _
    (omega (arith, sum_by-cons (λ x. cond (is_reply x) 1 0) Reply shows))
    (omega (arith, sum_by-cons (λ x. cond (is_report x) 1 0) Reply shows))
    (omega (arith, sum_by-cons outcomes_of_line Reply shows))
noted_before t (Report n) shows = same_tally t _ _ _ _ _ _
    (omega (arith, sum_by-cons (λ x. cond (is_reply x) 1 0) (Report n) shows))
    (omega (arith, sum_by-cons (λ x. cond (is_report x) 1 0) (Report n) shows))
    (omega (arith, sum_by-cons outcomes_of_line (Report n) shows))
noted_before t Other shows = same_tally t _ _ _ _ _ _
    (omega (arith, sum_by-cons (λ x. cond (is_reply x) 1 0) Other shows))
    (omega (arith, sum_by-cons (λ x. cond (is_report x) 1 0) Other shows))
    (omega (arith, sum_by-cons outcomes_of_line Other shows))

-- so it is of the line at the front of the rest
pub noted_so_far : (shown line : List ℕ) (t : Tally) (all more : List (List ℕ))
    → all ≡ line ∷ more → with_lines t (map shown_line all) ≡ tally_of shown
    → with_lines (with_line t (shown_line line)) (map shown_line more) ≡ tally_of shown
noted_so_far shown line t all more is so_far =
    noted_before t (shown_line line) (map shown_line more)
    ∙ ap (λ (ls : List (List ℕ)). with_lines t (map shown_line ls)) (sym is) ∙ so_far

replies_few : IsFew (λ x. cond (is_reply x) 1 0)
replies_few = record { reply = omega arith; report = λ n. omega arith; other = omega arith }

reports_few : IsFew (λ x. cond (is_report x) 1 0)
reports_few = record { reply = omega arith; report = λ n. omega arith; other = omega arith }

outcomes_few : IsFew outcomes_of_line
outcomes_few = record { reply = omega arith; report = λ n. omega arith; other = omega arith }

-- what was counted so far fits, since all does
pub noted_fits : (shown : List ℕ) (t : Tally) (shows : List ShownLine)
    → length shown < 2 ^ 64 → with_lines t shows ≡ tally_of shown → Fits t
noted_fits shown t shows small same = record {
  replies = omega (
    arith,
    small,
    ap (λ (u : Tally). u.replies) same,
    counts_within (λ x. cond (is_reply x) 1 0) replies_few shown,
  );
  reports = omega (
    arith,
    small,
    ap (λ (u : Tally). u.reports) same,
    counts_within (λ x. cond (is_report x) 1 0) reports_few shown,
  );
  results = omega (
    arith,
    small,
    ap (λ (u : Tally). u.results) same,
    counts_within outcomes_of_line outcomes_few shown,
  );
}
