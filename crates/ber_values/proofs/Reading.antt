-- Readings: made of their parts, one after the other, and the law of one reading.
use Rattle.std.proofs.Common.{◌≡◌, Result, Ok, Err, refl, sym, ap, subst, ◌∙◌, inl, inr, ◌⊎◌, MatchResult, IfOk, ◌↔◌}
use Rattle.ber_values.specs.declared.fault.BerFault.{BerFault}
use Rattle.ber_values.specs.Faults.{◌>>=◌}
use Rattle.ber_values.specs.Reading.{IsReading, HasOneReading}

abbrev pub done : {X : Type 0} → X → Result X BerFault
done x = Ok x

abbrev pub failed : {X : Type 0} → BerFault → Result X BerFault
failed f = Err f

pub Ok_is : {X : Type 0} (x y : X) → done x ≡ done y → x ≡ y
Ok_is x y e = cc

pub Err_is : {X : Type 0} (f g : BerFault) → failed {X = X} f ≡ failed g → f ≡ g
Err_is f g e = cc

pub not_both : {X : Type 0} (x : X) (f : BerFault) → done x ≡ failed f → ⊥
not_both x f e = cc

-- the value of a step that did not fail
pub bind_ok : {X Y : Type 0} (r : Result X BerFault) (f : X → Result Y BerFault) (y : Y) → (r >>= f) ≡ Ok y → (x : X) × (r ≡ Ok x) × (f x ≡ Ok y)
bind_ok (Ok x) f y e = (x, refl, e)
bind_ok (Err d) f y e = absurd cc

-- a reading from what it answers, and that it answers each spelling and each fault so
pub IsReading-from : (X : Type 0) (Spelled : X → Type 0) (First : BerFault → Type 0) (read : Result X BerFault) → MatchResult read Spelled First → ((x : X) → Spelled x → read ≡ Ok x) → ((f : BerFault) → First f → read ≡ Err f) → IsReading X Spelled First read
IsReading-from X Spelled First (Ok x) right only first = record { found = λ y e. subst Spelled (Ok_is x y e) right; only = only; fault = λ f e. absurd (not_both x f e); first = first }
IsReading-from X Spelled First (Err f) right only first = record { found = λ y e. absurd (not_both y f (sym e)); only = only; fault = λ g e. subst First (Err_is {X = X} f g e) right; first = first }

-- two steps, one after the other: the second begins where the first ended
pub IsReading-then : (X Y : Type 0) (Spelled : X → Type 0) (First : BerFault → Type 0) (read : Result X BerFault) (SpelledNext : X → Y → Type 0) (FirstNext : X → BerFault → Type 0) (next : X → Result Y BerFault)
    → IsReading X Spelled First read → ((x : X) → Spelled x → IsReading Y (SpelledNext x) (FirstNext x) (next x))
    → IsReading Y (λ y. (x : X) × Spelled x × SpelledNext x y) (λ f. First f ⊎ ((x : X) × Spelled x × FirstNext x f)) (read >>= next)
IsReading-then X Y Spelled First (Ok x) SpelledNext FirstNext next one two =
    let spelled : Spelled x = one.found x refl in
    let then : IsReading Y (SpelledNext x) (FirstNext x) (next x) = two x spelled in
    record {
      found = λ y e. (x, spelled, then.found y e);
      only = λ y s. then.only y (subst (λ (z : X). SpelledNext z y) (sym (Ok_is x s.0 (one.only s.0 s.1))) s.2);
      fault = λ f e. inr (x, spelled, then.fault f e);
      first = λ f s. elim s [ inl h ↦ absurd (not_both x f (one.first f h)) | inr h ↦ then.first f (subst (λ (z : X). FirstNext z f) (sym (Ok_is x h.0 (one.only h.0 h.1))) h.2) ];
    }
IsReading-then X Y Spelled First (Err d) SpelledNext FirstNext next one two =
    record {
      found = λ y e. absurd (not_both y d (sym e));
      only = λ y s. absurd (not_both s.0 d (sym (one.only s.0 s.1)));
      fault = λ f e. inl (subst First (Err_is {X = Y} d f e) (one.fault d refl));
      first = λ f s. elim s [ inl h ↦ ap (λ (g : BerFault). failed {X = Y} g) (Err_is {X = X} d f (one.first f h)) | inr h ↦ absurd (not_both h.0 d (sym (one.only h.0 h.1))) ];
    }

-- the same reading, its value and its faults said in other words
pub IsReading-as : (X : Type 0) (Spelled Other : X → Type 0) (First Fault : BerFault → Type 0) (read : Result X BerFault) → ((x : X) → Spelled x → Other x) → ((x : X) → Other x → Spelled x) → ((f : BerFault) → First f → Fault f) → ((f : BerFault) → Fault f → First f) → IsReading X Spelled First read → IsReading X Other Fault read
IsReading-as X Spelled Other First Fault read to from out back one =
    record { found = λ x e. to x (one.found x e); only = λ x s. one.only x (from x s); fault = λ f e. out f (one.fault f e); first = λ f s. one.first f (back f s) }

-- what is read so has one reading
pub HasOneReading-from : (X : Type 0) (Spelled : X → Type 0) (First : BerFault → Type 0) (read : Result X BerFault) → IsReading X Spelled First read → HasOneReading X Spelled First
HasOneReading-from X Spelled First (Ok x) one = inl ((x, one.found x refl, λ y s. sym (Ok_is x y (one.only y s))), λ f s. not_both x f (one.first f s))
HasOneReading-from X Spelled First (Err d) one = inr (λ x s. not_both x d (sym (one.only x s)), (d, one.fault d refl, λ f s. sym (Err_is {X = X} d f (one.first f s))))

-- the clauses of a function that answers as the reading does
pub found_of : (X : Type 0) (Spelled : X → Type 0) (First : BerFault → Type 0) (read r : Result X BerFault) → IsReading X Spelled First read → r ≡ read → IfOk r Spelled
found_of X Spelled First read (Ok x) one e = one.found x (sym e)
found_of X Spelled First read (Err f) one e = tt

pub only_of : (X : Type 0) (Spelled : X → Type 0) (First : BerFault → Type 0) (read r : Result X BerFault) → IsReading X Spelled First read → r ≡ read → (x : X) → Spelled x → r ≡ Ok x
only_of X Spelled First read r one e x s = e ∙ one.only x s

pub fault_of : (X : Type 0) (Spelled : X → Type 0) (First : BerFault → Type 0) (read r : Result X BerFault) → IsReading X Spelled First read → r ≡ read → (f : BerFault) → (r ≡ Err f) ↔ First f
fault_of X Spelled First read r one e f = (λ is. one.fault f (sym e ∙ is), λ s. e ∙ one.first f s)
