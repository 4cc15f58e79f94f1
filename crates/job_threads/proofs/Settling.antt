-- Threads that are asked, one after another, whether they are over.
use Rattle.std.proofs.Common.{◌≡◌, ℕ, zero, suc, ◌+◌, ◌<◌, ◌≤◌, Bool, cond, List, [], ◌∷◌, length}
use Rattle.std.proofs.Common.{take, set, get_or, refl, sym, ap, ◌∙◌, subst, arith, add-one}
use Rattle.std.proofs.lemmas.List.{take_more_set}
use Rattle.std.proofs.lemmas.List.Sums.{sum_by_push}
use Rattle.std.proofs.Common.{true, false, Option, Some, None, inl, inr, ◌++◌}
use Rattle.std.proofs.lemmas.List.{map-append}
use Rattle.job_threads.specs.Threading.{Work, SettlesBy, Settles, SettleEach, is_in_thread}
use Rattle.job_threads.specs.Threading.{jobs_of, threads_of}
use Rattle.job_threads.specs.Starting.{MakesRoom}

-- one more job
pub jobs_with : {J T : Type 0} (works : List (Work J T)) (work : Work J T)
    → jobs_of (works ++ work ∷ []) ≡ jobs_of works ++ work.job ∷ []
jobs_with {J} {T} works work = map-append (λ (w : Work J T). w.job) works (work ∷ [])

module _ {J T : Type 0} (over : T → Bool → Type 0) where
  -- the first so many were asked, and the others stand as before
  abbrev pub FirstSettle : ℕ → List (Work J T) → List (Work J T) → Type 0
  FirstSettle zero old now = now ≡ old
  FirstSettle (suc n) (before ∷ old) (after ∷ now) =
      Settles over before after × FirstSettle n old now
  FirstSettle (suc n) old now = ⊥

  FirstSettle-more : (n : ℕ) (old now : List (Work J T)) (x y : Work J T) → FirstSettle n old now
      → n < length now → get_or now n x ≡ x → Settles over x y
      → FirstSettle (suc n) old (set now n y)
  FirstSettle-more zero [] now x y h lt e s =
      absurd (omega (arith, ap (λ (l : List (Work J T)). length l) h))
  FirstSettle-more zero (before ∷ old) now x y h lt e s =
      subst (λ (l : List (Work J T)). get_or l 0 x ≡ x → FirstSettle 1 (before ∷ old) (set l 0 y))
      (sym h) (λ is. (subst (λ (w : Work J T). Settles over w y) (sym is) s, refl)) e
  FirstSettle-more (suc n) [] now x y h lt e s = absurd h
  FirstSettle-more (suc n) (before ∷ old) [] x y h lt e s = absurd h
  FirstSettle-more (suc n) (before ∷ old) (after ∷ now) x y h lt e s =
      (h.0, FirstSettle-more n old now x y h.1 (omega arith) e s)

  pub FirstSettle-each : (n : ℕ) (old now : List (Work J T)) → FirstSettle n old now
      → length old ≤ n → SettleEach over old now
  FirstSettle-each zero [] now h many =
      subst (λ (l : List (Work J T)). SettleEach over [] l) (sym h) tt
  FirstSettle-each zero (before ∷ old) now h many = absurd (omega (arith, many))
  FirstSettle-each (suc n) [] now h many = absurd h
  FirstSettle-each (suc n) (before ∷ old) [] h many = absurd h
  FirstSettle-each (suc n) (before ∷ old) (after ∷ now) h many =
      (h.0, FirstSettle-each n old now h.1 (omega (arith, many)))

  -- and so many of them run on
  pub record SoFar (at threads : ℕ) (old now : List (Work J T)) : Type 0 where
    pub settled : FirstSettle at old now
    pub counted : threads ≡ threads_of (take at now)
    pub within : threads ≤ at

  pub SoFar-more : (at threads : ℕ) (old now : List (Work J T)) (x y : Work J T) (more : ℕ)
      → SoFar at threads old now → at < length now → get_or now at x ≡ x → Settles over x y
      → more ≡ cond (is_in_thread y) 1 0 → more ≤ 1
      → SoFar (at + 1) (threads + more) old (set now at y)
  SoFar-more at threads old now x y more so_far lt e s is few = record {
    settled = subst (λ (n : ℕ). FirstSettle n old (set now at y)) (sym (add-one at))
        (FirstSettle-more at old now x y so_far.settled lt e s);
    counted = ap (λ (n : ℕ). n + more) so_far.counted
        ∙ ap (λ (n : ℕ). threads_of (take at now) + n) is
        ∙ sym (sum_by_push (λ (w : Work J T). cond (is_in_thread w) 1 0) (take at now) y)
        ∙ ap (λ (l : List (Work J T)). threads_of l) (sym (take_more_set now at y lt));
    within = omega (arith, so_far.within);
  }

  Settles-job : (job : J) (thread : Option T) (after : Work J T) → SettlesBy over job thread after
      → after.job ≡ job
  Settles-job job None after h = ap (λ (w : Work J T). w.job) h
  Settles-job job (Some thread) after (inl h) = ap (λ (w : Work J T). w.job) h.1
  Settles-job job (Some thread) after (inr h) = ap (λ (w : Work J T). w.job) h.1

  pub SettleEach-jobs : (old now : List (Work J T)) → SettleEach over old now
      → jobs_of now ≡ jobs_of old
  SettleEach-jobs [] [] h = refl
  SettleEach-jobs [] (after ∷ now) h = absurd h
  SettleEach-jobs (before ∷ old) [] h = absurd h
  SettleEach-jobs (before ∷ old) (after ∷ now) h =
      ap (λ (job : J). job ∷ jobs_of now) (Settles-job before.job before.thread after h.0)
      ∙ ap (λ (jobs : List J). before.job ∷ jobs) (SettleEach-jobs old now h.1)

  -- where it is due, and where it isn't
  pub MakesRoom-due : (due : Bool) (old now new : List (Work J T)) → due ≡ true → now ≡ new
      → SettleEach over old new → MakesRoom over due old now
  MakesRoom-due true old now new is same each =
      subst (λ (l : List (Work J T)). SettleEach over old l) (sym same) each
  MakesRoom-due false old now new is same each = absurd cc

  pub MakesRoom-none : (due : Bool) (old now : List (Work J T)) → due ≡ false → now ≡ old
      → MakesRoom over due old now
  MakesRoom-none true old now is same = absurd cc
  MakesRoom-none false old now is same = same
