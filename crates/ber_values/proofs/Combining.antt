-- The pieces of grammars are exact where those that they are made of are.
use Rattle.std.proofs.Common.{◌≡◌, ℕ, zero, suc, Bool, true, false, cond, List, [], ◌∷◌, length}
use Rattle.std.proofs.Common.{Result, Ok, Err, refl, sym, ap, inl, inr, ◌⊎◌}
use Rattle.std.proofs.lemmas.Bool.{false≢true}
use Rattle.ber_values.specs.declared.fault.BerFault.{BerFault}
use Rattle.ber_values.specs.Faults.{fault_at, ◌>>=◌}
use Rattle.ber_values.specs.Reading.{Taken, IsReading}
use Rattle.ber_values.specs.Grammars.{Grammar, IsGrammar, taken, gives, then_in, map_in, branch_in}
use Rattle.ber_values.specs.Grammars.{first_is, is_ended, why_refused, refused, by_length}
use Rattle.ber_values.specs.Grammars.{passed_within, passed_in, times_in, fold_in}
use Rattle.ber_values.proofs.Reading.{IsReading-from, IsReading-then, IsReading-as}

-- ---- readings

-- a reading that answers this value
pub IsReading-done : (X : Type 0) (x : X) → IsReading X (λ y. y ≡ x) (λ f. ⊥) (Ok x)
IsReading-done X x = IsReading-from X (λ y. y ≡ x) (λ f. ⊥) (Ok x) refl (λ y e. ap (λ (z : X). Ok z) (sym e)) (λ f b. absurd b)

-- a reading that answers this fault
pub IsReading-failed : (X : Type 0) (f : BerFault) → IsReading X (λ y. ⊥) (λ g. g ≡ f) (Err f)
IsReading-failed X f = IsReading-from X (λ y. ⊥) (λ g. g ≡ f) (Err f) refl (λ y b. absurd b) (λ g e. ap (λ (h : BerFault). Err h) (sym e))

-- a function of what was read
pub IsReading-map : (X Y : Type 0) (Spelled : X → Type 0) (First : BerFault → Type 0) (read : Result X BerFault) (f : X → Y) → IsReading X Spelled First read
    → IsReading Y (λ y. (x : X) × Spelled x × (y ≡ f x)) First (read >>= λ x. Ok (f x))
IsReading-map X Y Spelled First read f one =
    IsReading-as Y _ (λ y. (x : X) × Spelled x × (y ≡ f x)) _ First (read >>= λ x. Ok (f x)) (λ y h. h) (λ y h. h) (λ d h. elim h [ inl first ↦ first | inr later ↦ absurd later.2 ]) (λ d h. inl h)
    (IsReading-then X Y Spelled First read (λ x y. y ≡ f x) (λ x d. ⊥) (λ x. Ok (f x)) one (λ x s. IsReading-done Y (f x)))

-- one of two readings, by a test
pub IsReading-test : (X : Type 0) (Spelled Other : X → Type 0) (First Fault : BerFault → Type 0) (test : Bool) (read again : Result X BerFault)
    → (test ≡ true → IsReading X Spelled First read) → (test ≡ false → IsReading X Other Fault again)
    → IsReading X (λ x. ((test ≡ true) × Spelled x) ⊎ ((test ≡ false) × Other x)) (λ f. ((test ≡ true) × First f) ⊎ ((test ≡ false) × Fault f)) (cond test read again)
IsReading-test X Spelled Other First Fault true read again one other =
    IsReading-as X Spelled (λ x. ((true ≡ true) × Spelled x) ⊎ ((true ≡ false) × Other x)) First (λ f. ((true ≡ true) × First f) ⊎ ((true ≡ false) × Fault f)) read
    (λ x h. inl (refl, h)) (λ x h. elim h [ inl a ↦ a.1 | inr b ↦ absurd (false≢true (sym b.0)) ])
    (λ f h. inl (refl, h)) (λ f h. elim h [ inl a ↦ a.1 | inr b ↦ absurd (false≢true (sym b.0)) ]) (one refl)
IsReading-test X Spelled Other First Fault false read again one other =
    IsReading-as X Other (λ x. ((false ≡ true) × Spelled x) ⊎ ((false ≡ false) × Other x)) Fault (λ f. ((false ≡ true) × First f) ⊎ ((false ≡ false) × Fault f)) again
    (λ x h. inr (refl, h)) (λ x h. elim h [ inl a ↦ absurd (false≢true a.0) | inr b ↦ b.1 ])
    (λ f h. inr (refl, h)) (λ f h. elim h [ inl a ↦ absurd (false≢true a.0) | inr b ↦ b.1 ]) (other refl)

-- ---- grammars

pub gives_reads : {X : Type 0} (x : X) → IsGrammar (gives x)
unfolding gives
gives_reads {X} x at octets = IsReading-done (Taken X) (taken x at octets)

pub then_reads : {X Y : Type 0} (g : Grammar X) (next : X → Grammar Y) → IsGrammar g → ((x : X) → IsGrammar (next x)) → IsGrammar (then_in g next)
unfolding then_in
then_reads {X} {Y} g next one two at octets =
    IsReading-then (Taken X) (Taken Y) (g.begins at octets) (g.fault at octets) (g.reading at octets) (λ t u. (next t.value).begins t.next t.rest u) (λ t f. (next t.value).fault t.next t.rest f) (λ t. (next t.value).reading t.next t.rest)
    (one at octets) (λ t s. two t.value t.next t.rest)

pub map_reads : {X Y : Type 0} (f : X → Y) (g : Grammar X) → IsGrammar g → IsGrammar (map_in f g)
unfolding map_in
map_reads {X} {Y} f g one at octets = IsReading-map (Taken X) (Taken Y) (g.begins at octets) (g.fault at octets) (g.reading at octets) (λ t. taken (f t.value) t.next t.rest) (one at octets)

pub branch_reads : {X : Type 0} (test : List ℕ → Bool) (one other : Grammar X) → IsGrammar one → IsGrammar other → IsGrammar (branch_in test one other)
unfolding branch_in
branch_reads {X} test one other a b at octets =
    IsReading-test (Taken X) (one.begins at octets) (other.begins at octets) (one.fault at octets) (other.fault at octets) (test octets) (one.reading at octets) (other.reading at octets) (λ e. a at octets) (λ e. b at octets)

pub refused_reads : {X : Type 0} → IsGrammar (refused {X = X})
unfolding refused
refused_reads {X} at octets = IsReading-failed (Taken X) (fault_at at (why_refused octets))

pub by_length_reads : {X : Type 0} (g : ℕ → Grammar X) → ((n : ℕ) → IsGrammar (g n)) → IsGrammar (by_length g)
unfolding by_length
by_length_reads g each at octets = each (length octets) at octets

pub passed_within_reads : (g : Grammar (Unit {0})) (skips : ℕ → Bool) (n : ℕ) → IsGrammar g
    → IsGrammar (passed_within g skips n)
unfolding passed_within
passed_within_reads g skips zero one = gives_reads tt
passed_within_reads g skips (suc n) one =
    branch_reads (first_is skips) (then_in g (λ u. passed_within g skips n)) (gives tt)
    (then_reads g (λ u. passed_within g skips n) one (λ u. passed_within_reads g skips n one))
    (gives_reads tt)

pub passed_reads : (g : Grammar (Unit {0})) (skips : ℕ → Bool) → IsGrammar g
    → IsGrammar (passed_in g skips)
unfolding passed_in
passed_reads g skips one =
    by_length_reads (passed_within g skips) (λ n. passed_within_reads g skips n one)

pub times_reads : {X : Type 0} (n : ℕ) (g : Grammar X) → IsGrammar g → IsGrammar (times_in n g)
unfolding times_in
times_reads zero g one = gives_reads []
times_reads {X} (suc n) g one = then_reads g (λ x. map_in (λ xs. x ∷ xs) (times_in n g)) one (λ x. map_reads (λ xs. x ∷ xs) (times_in n g) (times_reads n g one))

pub fold_reads : {S : Type 0} (n : ℕ) (step : S → Grammar S) (s : S) → ((s' : S) → IsGrammar (step s')) → IsGrammar (fold_in n step s)
unfolding fold_in
fold_reads zero step s each = gives_reads s
fold_reads (suc n) step s each = branch_reads is_ended (gives s) (then_in (step s) (λ s'. fold_in n step s')) (gives_reads s) (then_reads (step s) (λ s'. fold_in n step s') (each s) (λ s'. fold_reads n step s' each))
