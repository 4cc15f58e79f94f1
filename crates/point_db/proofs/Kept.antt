-- What is kept stays right as updates come.
use Rattle.std.proofs.Common.{◌≡◌, ◌≢◌, ℕ, ◌+◌, ◌%◌, ◌<◌, true, false, List, []}
use Rattle.std.proofs.Common.{◌∷◌, map, set, length, Some, refl, sym, ap, ◌∙◌}
use Rattle.std.proofs.Common.{subst, ⊎_elim, arith, zero-add, length-set, get_or-set_same}
use Rattle.std.proofs.Common.{get_or-set_other, min}
use Rattle.std.specs.Prelude.{Bool, is_some, replicate, slice_get, slice_index}
use Rattle.std.proofs.lemmas.Bool.{cases_eq, eq-eqb, ne_eqb}
use Rattle.std.proofs.lemmas.List.{length-replicate, get_or-replicate, length-map}
use Rattle.std.proofs.lemmas.Option.{slice_get-get_or, slice_get-map, get_or_from_slice_get, slice_get_within}
use Rattle.tase_points.specs.declared.kind.Kind.{Kind}
use Rattle.tase_points.specs.declared.kind.Kind.TheVariants.{State}
use Rattle.tase_points.specs.declared.layout.TheConstants.{COV_MODULUS}
use Rattle.tase_points.specs.Sample.{Sample}
use Rattle.tase_points.specs.Values.{unknown_sample, is_change}
use Rattle.point_db.specs.declared.store.TheConstants.{SERIAL_LIMIT}
use Rattle.point_db.specs.Updates.{Update, Updates, last_value, change_count, change_total}
use Rattle.point_db.specs.Updates.{last_given}
use Rattle.point_db.specs.Stored.{Stored, Keeps, noted, given_value, last_serial}

slice_get-replicate : {X : Type 0} (n k : ℕ) (x : X) → k < n → slice_get (replicate n x) k ≡ Some x
slice_get-replicate n k x within =
    let length_is : length (replicate n x) ≡ n = length-replicate n x in
    slice_get-get_or (replicate n x) k x (omega arith) ∙ ap Some (get_or-replicate n k x x within)

slice_get-set_here : {X : Type 0} (xs : List X) (p : ℕ) (y : X) → p < length xs
    → slice_get (set xs p y) p ≡ Some y
slice_get-set_here xs p y within =
    let length_is : length (set xs p y) ≡ length xs = length-set xs p y in
    slice_get-get_or (set xs p y) p y (omega arith) ∙ ap Some (get_or-set_same xs p y y within)

slice_get-set_other : {X : Type 0} (xs : List X) (p q : ℕ) (y : X) → q ≢ p → q < length xs
    → slice_get (set xs p y) q ≡ slice_get xs q
slice_get-set_other xs p q y apart within =
    let length_is : length (set xs p y) ≡ length xs = length-set xs p y in
    slice_get-get_or (set xs p y) q y (omega arith) ∙ ap Some (get_or-set_other xs p q y y apart)
    ∙ sym (slice_get-get_or xs q y within)

-- which points were given a value, with one more
given-set : (kinds : List Kind) (past : Updates) (p : ℕ) (value : Sample) (given : List Bool)
    → ((q : ℕ) → q < length kinds → slice_get given q ≡ Some (is_some (last_given past q)))
    → (q : ℕ) → q < length kinds
    → slice_get (set given p true) q
    ≡ Some (is_some (last_given (record { point = p; value = value } ∷ past) q))
given-set kinds past p value given kept q there = ⊎_elim
    (λ here. subst (λ at. slice_get (set given p true) at
    ≡ Some (is_some (last_given (record { point = p; value = value } ∷ past) at))) here
    (rw (eq-eqb p p refl)
    (slice_get-set_here given p true
    (slice_get_within given p _ (kept p (rw here there))))))
    (λ apart. rw (ne_eqb p q apart)
    (slice_get-set_other given p q true (λ e. apart (sym e)) (slice_get_within given q _ (kept q there))
    ∙ kept q there))
    (cases_eq p q)

-- before any update
pub Keeps-new : (kinds : List Kind) (s : Stored)
    → s.values ≡ map unknown_sample kinds
    → s.counts ≡ replicate (length kinds) 0 → s.changed ≡ replicate (length kinds) 0
    → s.given ≡ replicate (length kinds) false → s.serial ≡ 0 → Keeps kinds [] s
Keeps-new kinds s values_are counts_are changed_are given_are serial_is = record {
  points = ap length values_are ∙ length-map kinds unknown_sample;
  last = λ p there. rw values_are (slice_get-map unknown_sample kinds p
      ∙ rw (slice_get-get_or kinds p State there) refl);
  count = λ p there. rw counts_are (slice_get-replicate (length kinds) p 0 there);
  changed = λ p there. rw changed_are (slice_get-replicate (length kinds) p 0 there);
  given = λ p there. rw given_are (slice_get-replicate (length kinds) p false there);
  serial = serial_is;
}

-- an update that is no change
pub Keeps-put : (kinds : List Kind) (past : Updates) (p : ℕ) (value : Sample) (s new : Stored)
    → p < length s.values
    → is_change (last_value kinds past p) value ≡ false
    → new ≡ given_value s p value
    → Keeps kinds past s → Keeps kinds (record { point = p; value = value } ∷ past) new
Keeps-put kinds past p value s new within same new_is k =
    let points : length s.values ≡ length kinds = k.points in
    rw new_is (record {
      points = length-set s.values p value ∙ k.points;
      last = λ q there. ⊎_elim
          (λ here. subst (λ at. slice_get (set s.values p value) at
          ≡ Some (last_value kinds (record { point = p; value = value } ∷ past) at)) here
          (rw (eq-eqb p p refl) (slice_get-set_here s.values p value within)))
          (λ apart. rw (ne_eqb p q apart)
          (slice_get-set_other s.values p q value (λ e. apart (sym e)) (omega arith)
          ∙ k.last q there))
          (cases_eq p q);
      count = λ q there. ⊎_elim
          (λ here. subst (λ at. slice_get s.counts at
          ≡ Some (change_count kinds (record { point = p; value = value } ∷ past) at % COV_MODULUS))
          here
          (rw (eq-eqb p p refl, same, zero-add (change_count kinds past p))
          (k.count p (omega arith))))
          (λ apart. rw (ne_eqb p q apart) (k.count q there))
          (cases_eq p q);
      changed = λ q there. ⊎_elim
          (λ here. subst (λ at. slice_get s.changed at
          ≡ Some (last_serial kinds (record { point = p; value = value } ∷ past) at)) here
          (rw (eq-eqb p p refl, same) (k.changed p (omega arith))))
          (λ apart. rw (ne_eqb p q apart) (k.changed q there))
          (cases_eq p q);
      given = λ q there. given-set kinds past p value s.given k.given q there;
      serial = rw (same, zero-add (change_total kinds past)) k.serial;
    })

counted : (total : ℕ) → (total % COV_MODULUS + 1) % COV_MODULUS ≡ (1 + total) % COV_MODULUS
counted total = omega arith

raised : (total : ℕ) → min (min total SERIAL_LIMIT + 1) SERIAL_LIMIT ≡ min (1 + total) SERIAL_LIMIT
raised total = omega arith

-- an update that is a change
pub Keeps-change : (kinds : List Kind) (past : Updates) (p : ℕ) (value : Sample) (s new : Stored)
    → p < length s.values
    → is_change (last_value kinds past p) value ≡ true
    → new ≡ given_value (noted s p) p value
    → Keeps kinds past s → Keeps kinds (record { point = p; value = value } ∷ past) new
Keeps-change kinds past p value s new within same new_is k =
    let points : length s.values ≡ length kinds = k.points in
    let u : Update = record { point = p; value = value } in
    let serial_is : min (s.serial + 1) SERIAL_LIMIT ≡ min (1 + change_total kinds past) SERIAL_LIMIT
    = rw k.serial (raised (change_total kinds past)) in
    let count_is : slice_index s.counts p ≡ change_count kinds past p % COV_MODULUS
    = get_or_from_slice_get s.counts p (change_count kinds past p % COV_MODULUS) 0
    (k.count p (omega arith)) in
    rw new_is (record {
      points = length-set s.values p value ∙ k.points;
      last = λ q there. ⊎_elim
          (λ here. subst (λ at. slice_get (set s.values p value) at
          ≡ Some (last_value kinds (u ∷ past) at)) here
          (rw (eq-eqb p p refl) (slice_get-set_here s.values p value within)))
          (λ apart. rw (ne_eqb p q apart)
          (slice_get-set_other s.values p q value (λ e. apart (sym e)) (omega arith)
          ∙ k.last q there))
          (cases_eq p q);
      count = λ q there. ⊎_elim
          (λ here. subst (λ at. slice_get (noted s p).counts at
          ≡ Some (change_count kinds (u ∷ past) at % COV_MODULUS)) here
          (rw (eq-eqb p p refl, same)
          (slice_get-set_here s.counts p _ (slice_get_within s.counts p _ (k.count p (omega arith)))
          ∙ ap Some (rw count_is (counted (change_count kinds past p))))))
          (λ apart. rw (ne_eqb p q apart)
          (slice_get-set_other s.counts p q _ (λ e. apart (sym e)) (slice_get_within s.counts q _ (k.count q there))
          ∙ k.count q there))
          (cases_eq p q);
      changed = λ q there. ⊎_elim
          (λ here. subst (λ at. slice_get (noted s p).changed at
          ≡ Some (last_serial kinds (u ∷ past) at)) here
          (rw (eq-eqb p p refl, same)
          (slice_get-set_here s.changed p _ (slice_get_within s.changed p _ (k.changed p (omega arith))) ∙ ap Some serial_is)))
          (λ apart. rw (ne_eqb p q apart)
          (slice_get-set_other s.changed p q _ (λ e. apart (sym e)) (slice_get_within s.changed q _ (k.changed q there))
          ∙ k.changed q there))
          (cases_eq p q);
      given = λ q there. given-set kinds past p value s.given k.given q there;
      serial = rw same serial_is;
    })
