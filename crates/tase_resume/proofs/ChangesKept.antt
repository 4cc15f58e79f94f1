-- Of some values the last alone has no more changes than all.
use Rattle.std.proofs.Common.{◌≡◌, ◌==◌, ℕ, ◌+◌, ◌≤◌, Bool, true, false, not, ◌&&◌, if◌then◌else◌}
use Rattle.std.proofs.Common.{List, [], ◌∷◌, refl, sym, ap, ◌∙◌, arith, take}
use Rattle.std.specs.Cmp.{signed_Decides}
use Rattle.std.proofs.Common.{⊎_elim}
use Rattle.std.proofs.lemmas.Bool.{false≢true, true≢false, eqb-true, eq-eqb, and_parts, cases_eq}
use Rattle.std.proofs.lemmas.Slice.Eq.{bytes_eq-Decides}
use Rattle.tase_points.specs.declared.kind.Kind.{Kind}
use Rattle.tase_points.specs.declared.body.Body.{Body}
use Rattle.tase_points.specs.declared.body.Body.TheVariants.{State, Discrete, Real}
use Rattle.tase_points.specs.Sample.{Sample}
use Rattle.tase_points.specs.Values.{same_body, is_change, unknown_sample}
use Rattle.point_db.specs.Updates.{last_of, changes_of}

-- bodies that are equal are one
same_body_is : (a b : Body) → same_body a b ≡ true → a ≡ b
same_body_is (State a) (State b) e = ap (λ n. State n) (eqb-true a b e)
same_body_is (Discrete a) (Discrete b) e = ap (λ n. Discrete n) ((signed_Decides a b).0 e)
same_body_is (Real a) (Real b) e = ap (λ l. Real l) ((bytes_eq-Decides a b).0 e)
same_body_is (State a) (Discrete b) e = absurd (false≢true e)
same_body_is (State a) (Real b) e = absurd (false≢true e)
same_body_is (Discrete a) (State b) e = absurd (false≢true e)
same_body_is (Discrete a) (Real b) e = absurd (false≢true e)
same_body_is (Real a) (State b) e = absurd (false≢true e)
same_body_is (Real a) (Discrete b) e = absurd (false≢true e)

same_body_self : (a : Body) → same_body a a ≡ true
same_body_self (State a) = eq-eqb a a refl
same_body_self (Discrete a) = (signed_Decides a a).1 refl
same_body_self (Real a) = (bytes_eq-Decides a a).1 refl

unchanged : (old new : Sample) → is_change old new ≡ false
    → (old.body ≡ new.body) × (old.flags ≡ new.flags)
unchanged old new e =
    let parts = and_parts (same_body old.body new.body) (old.flags == new.flags)
    (turned (same_body old.body new.body && (old.flags == new.flags)) e) in
    (same_body_is old.body new.body parts.0, eqb-true old.flags new.flags parts.1)
  where
    turned : (b : Bool) → not b ≡ false → b ≡ true
    turned true f = refl
    turned false f = absurd (true≢false f)

same_unchanged : (old new : Sample) → old.body ≡ new.body → old.flags ≡ new.flags
    → is_change old new ≡ false
same_unchanged old new body flags =
    ap (λ (b : Body). not (same_body b new.body && (old.flags == new.flags))) body
    ∙ ap (λ t. not (t && (old.flags == new.flags))) (same_body_self new.body)
    ∙ ap not (eq-eqb old.flags new.flags flags)

-- where nothing changed, the last value is no change from none
none_changed : (kind : Kind) (values : List Sample) → changes_of kind values ≡ 0
    → is_change (unknown_sample kind) (last_of kind values) ≡ false
none_changed kind [] none = same_unchanged (unknown_sample kind) (unknown_sample kind) refl refl
none_changed kind (value ∷ values) none =
    by (is_change (last_of kind values) value) refl none (none_changed kind values)
  where
    by : (b : Bool) → is_change (last_of kind values) value ≡ b
        → (if b then 1 else 0) + changes_of kind values ≡ 0
        → (changes_of kind values ≡ 0
        → is_change (unknown_sample kind) (last_of kind values) ≡ false)
        → is_change (unknown_sample kind) value ≡ false
    by true e n rest = absurd (omega (arith, n))
    by false e n rest =
        let first = unchanged (unknown_sample kind) (last_of kind values)
        (rest (omega (arith, n))) in
        let second = unchanged (last_of kind values) value e in
        same_unchanged (unknown_sample kind) value (first.0 ∙ second.0) (first.1 ∙ second.1)

-- how many changes the last value is
abbrev last_change : Kind → Sample → ℕ
last_change kind value = if is_change (unknown_sample kind) value then 1 else 0

pub fewer_changes : (kind : Kind) (values : List Sample)
    → changes_of kind (take 1 values) ≤ changes_of kind values
fewer_changes kind [] = omega arith
fewer_changes kind (value ∷ values) =
    by (is_change (unknown_sample kind) value) refl (changes_of kind (value ∷ values)) refl
  where
    by : (b : Bool) → is_change (unknown_sample kind) value ≡ b → (n : ℕ)
        → changes_of kind (value ∷ values) ≡ n → (if b then 1 else 0) + 0 ≤ n
    by false e n is = omega arith
    by true e n is =
        ⊎_elim
        (λ none. absurd (false≢true (sym (none_changed kind (value ∷ values) (is ∙ none)) ∙ e)))
        (λ some. omega (arith, some)) (cases_eq n 0)
