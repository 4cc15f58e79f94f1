-- The clauses of a reader that takes memory, and answers as an exact reading does.
use Rattle.std.proofs.Common.{◌≡◌, ℕ, List, Result, Ok, Err, IfOk, ◌↔◌, ◌∙◌, sym, subst}
use Rattle.std.specs.declared.alloc.AllocError.{AllocError}
use Rattle.ber_values.specs.declared.fault.BerFault.{BerFault}
use Rattle.ber_values.specs.declared.stop.Stop.{Stop}
use Rattle.ber_values.specs.declared.stop.Stop.TheVariants as stops
use Rattle.ber_values.specs.Faults.{Gives}
use Rattle.ber_values.specs.Reading.{Taken, IsReading}
use Rattle.ber_values.specs.Stops.{Answers, AnswersValue, settled}
use Rattle.ber_values.specs.Grammars.{Grammar, IsGrammar}
use Rattle.ber_values.specs.Readers.{IsReadBy}
use Rattle.ber_values.proofs.Reading.{Ok_is, Err_is, not_both, failed}

-- what is settled gives what the reading gives
pub settled_gives : {X Y : Type 0} (view : X → Y) (r : Result X Stop) (read : Result Y BerFault)
    → Answers view r read → IfOk (settled r) (λ q. Gives view q read)
settled_gives view (Ok x) read e = e
settled_gives view (Err stops.Memory) read e = tt
settled_gives view (Err (stops.Fault f)) read e = e

-- ---- the record of a public reader's clauses

-- a function that gives what an exact grammar reads is its reader
pub reads_by : {V X : Type 0} (g : Grammar X) (view : V → Taken X) (at : ℕ) (octets : List ℕ) (read : Result V BerFault) → IsGrammar g → Gives view read (g.reading at octets) → IsReadBy g view at octets read
reads_by {V} {X} g view at octets (Ok v) exact gives = record {
  found = (exact at octets).found (view v) gives;
  only = λ t s. Ok_is (view v) t (sym gives ∙ (exact at octets).only t s);
  fault = λ f. (
    λ is. absurd (not_both v f is),
    λ s. absurd (not_both (view v) f (sym gives ∙ (exact at octets).first f s)),
  );
}
reads_by {V} {X} g view at octets (Err d) exact gives = record {
  found = tt;
  only = λ t s. not_both t d (sym ((exact at octets).only t s) ∙ gives);
  fault = λ f. (
    λ is. subst (g.fault at octets) (Err_is {X = V} d f is) ((exact at octets).fault d gives),
    λ s. subst (λ (e : BerFault). failed {X = V} d ≡ Err e) (Err_is {X = Taken X} d f (sym gives ∙ (exact at octets).first f s)) (λ i. Err d),
  );
}

-- the same of one that takes memory, and is settled
pub settled_by : {V X : Type 0} (g : Grammar X) (view : V → Taken X) (at : ℕ) (octets : List ℕ) (r : Result V Stop) → IsGrammar g → Answers view r (g.reading at octets) → IfOk (settled r) (λ read. IsReadBy g view at octets read)
settled_by g view at octets (Ok v) exact answers = reads_by g view at octets (Ok v) exact answers
settled_by g view at octets (Err stops.Memory) exact answers = tt
settled_by g view at octets (Err (stops.Fault f)) exact answers = reads_by g view at octets (Err f) exact answers

-- ---- clause by clause

pub found_settled : {X Y : Type 0} (view : X → Y) (Spelled : Y → Type 0) (First : BerFault → Type 0)
    (read : Result Y BerFault) (q : Result (Result X BerFault) AllocError)
    → IsReading Y Spelled First read → IfOk q (λ p. Gives view p read)
    → IfOk q (λ p. IfOk p (λ x. Spelled (view x)))
found_settled view Spelled First read (Ok (Ok x)) one e = one.found (view x) e
found_settled view Spelled First read (Ok (Err f)) one e = tt
found_settled view Spelled First read (Err a) one e = tt

pub only_settled : {X Y : Type 0} (view : X → Y) (Spelled : Y → Type 0) (First : BerFault → Type 0)
    (read : Result Y BerFault) (q : Result (Result X BerFault) AllocError)
    → IsReading Y Spelled First read → IfOk q (λ p. Gives view p read)
    → (y : Y) → Spelled y → IfOk q (λ p. AnswersValue view p y)
only_settled {X} {Y} view Spelled First read (Ok (Ok x)) one e y s =
    Ok_is (view x) y (sym e ∙ one.only y s)
only_settled {X} {Y} view Spelled First read (Ok (Err f)) one e y s =
    not_both y f (sym (one.only y s) ∙ e)
only_settled view Spelled First read (Err a) one e y s = tt

pub fault_settled : {X Y : Type 0} (view : X → Y) (Spelled : Y → Type 0) (First : BerFault → Type 0)
    (read : Result Y BerFault) (q : Result (Result X BerFault) AllocError)
    → IsReading Y Spelled First read → IfOk q (λ p. Gives view p read)
    → (f : BerFault) → IfOk q (λ p. (p ≡ Err f) ↔ First f)
fault_settled {X} {Y} view Spelled First read (Ok (Ok x)) one e f = (
  λ is. absurd (not_both x f is),
  λ s. absurd (not_both (view x) f (sym e ∙ one.first f s)),
)
fault_settled {X} {Y} view Spelled First read (Ok (Err d)) one e f = (
  λ is. subst First (Err_is {X = X} d f is) (one.fault d e),
  λ s. subst (λ (g : BerFault). failed {X = X} d ≡ Err g) (Err_is {X = Y} d f (sym e ∙ one.first f s)) (λ i. Err d),
)
fault_settled view Spelled First read (Err a) one e f = tt

-- what holds of each value that a function answers holds of each that is settled
pub settled_holds : {X : Type 0} (P : X → Type 0) (r : Result X Stop)
    → IfOk r P → IfOk (settled r) (λ q. IfOk q P)
settled_holds P (Ok x) h = h
settled_holds P (Err stops.Memory) h = tt
settled_holds P (Err (stops.Fault f)) h = tt

-- what holds of all that is spelled holds of each value that is read
pub spelled_settled : {X Y : Type 0} (view : X → Y) (P Spelled : Y → Type 0)
    (First : BerFault → Type 0) (read : Result Y BerFault)
    (q : Result (Result X BerFault) AllocError) → ((y : Y) → Spelled y → P y)
    → IsReading Y Spelled First read → IfOk q (λ p. Gives view p read)
    → IfOk q (λ p. IfOk p (λ x. P (view x)))
spelled_settled view P Spelled First read (Ok (Ok x)) all one e = all (view x) (one.found (view x) e)
spelled_settled view P Spelled First read (Ok (Err f)) all one e = tt
spelled_settled view P Spelled First read (Err a) all one e = tt
