-- Reading a length is exact.
use Rattle.std.proofs.Common.{◌≡◌, ℕ, ◌+◌, eqb, List, [], ◌∷◌, ◌++◌, length, Result, Ok, Err, MatchResult, refl, sym, ap, ◌∙◌, arith}
use Rattle.std.proofs.lemmas.Bool.{cond_both, eqb-true, eqb-false, eq-eqb, ne_eqb}
use Rattle.ber_values.specs.declared.fault.BerFault.{BerFault}
use Rattle.ber_values.specs.declared.fault.Why.TheVariants as whys
use Rattle.ber_values.specs.Faults.{fault_at}
use Rattle.ber_values.specs.Reading.{Taken, Begins, IsReading}
use Rattle.ber_values.specs.Grammars.{taken}
use Rattle.ber_values.proofs.Reading.{IsReading-from}
use Rattle.ber_values.proofs.Tags.{only_from}
use Rattle.session_profile.specs.Lengths.{SpellsSessionLength, IsSessionLengthFront, SessionLengthFault, long_length_in, session_length_in}

abbrev LengthRight : ℕ → List ℕ → Result (Taken ℕ) BerFault → Type 0
LengthRight at octets read = MatchResult read (Begins ℕ SpellsSessionLength at octets) (SessionLengthFault at octets)

short_at : (a b : ℕ) → a ≡ b → fault_at a whys.Short ≡ fault_at b whys.Short
short_at a b e = ap (λ (place : ℕ). fault_at place whys.Short) e

long_right : (at first : ℕ) (rest : List ℕ) → first ≡ 255 → LengthRight at (first ∷ rest) (long_length_in (at + 1) rest)
long_right at first [] e = (e, short_at _ _ (omega arith))
long_right at first (high ∷ []) e = (e, short_at _ _ (omega arith))
long_right at first (high ∷ low ∷ rest) e = record { spelling = first ∷ high ∷ low ∷ []; spelled = (e, refl); parts = refl; place = omega arith }

length_right : (at : ℕ) (octets : List ℕ) → LengthRight at octets (session_length_in at octets)
unfolding session_length_in
length_right at [] = (tt, short_at _ _ (omega arith))
length_right at (first ∷ rest) =
    cond_both (eqb first 255) (long_length_in (at + 1) rest) (Ok (taken first (at + 1) rest)) (LengthRight at (first ∷ rest))
    (λ e. long_right at first rest (eqb-true first 255 e))
    (λ e. record { spelling = first ∷ []; spelled = (eqb-false first 255 e, refl); parts = refl; place = refl })

length_again : (at n : ℕ) (spelling rest : List ℕ) → SpellsSessionLength n spelling → session_length_in at (spelling ++ rest) ≡ Ok (record { value = n; next = at + length spelling; rest = rest })
unfolding session_length_in
length_again at n [] rest h = elim h [ ]
length_again at n (one ∷ []) rest h = rw (ne_eqb one 255 h.0) (ap (λ (k : ℕ). Ok (taken k (at + 1) rest)) (sym h.1))
length_again at n (first ∷ high ∷ []) rest h = elim h [ ]
length_again at n (first ∷ high ∷ low ∷ []) rest h =
    let place : at + 1 + 2 ≡ at + 3 = omega arith in
    rw (eq-eqb first 255 h.0) (ap (λ (k : ℕ). Ok (taken k (at + 1 + 2) rest)) (sym h.1) ∙ ap (λ (k : ℕ). Ok (taken n k rest)) place)
length_again at n (a ∷ b ∷ c ∷ d ∷ more) rest h = elim h [ ]

front_again : (at : ℕ) (octets : List ℕ) → IsSessionLengthFront octets → session_length_in at octets ≡ Err (fault_at (at + length octets) whys.Short)
unfolding session_length_in
front_again at [] h = ap (λ (f : BerFault). Err f) (short_at _ _ (omega arith))
front_again at (first ∷ []) h = rw (eq-eqb first 255 h) (ap (λ (f : BerFault). Err f) (short_at _ _ (omega arith)))
front_again at (first ∷ high ∷ []) h = rw (eq-eqb first 255 h) (ap (λ (f : BerFault). Err f) (short_at _ _ (omega arith)))
front_again at (a ∷ b ∷ c ∷ more) h = elim h [ ]

pub length_reads : (at : ℕ) (octets : List ℕ) → IsReading (Taken ℕ) (Begins ℕ SpellsSessionLength at octets) (SessionLengthFault at octets) (session_length_in at octets)
length_reads at octets =
    IsReading-from (Taken ℕ) (Begins ℕ SpellsSessionLength at octets) (SessionLengthFault at octets) (session_length_in at octets) (length_right at octets)
    (only_from ℕ SpellsSessionLength session_length_in length_again at octets)
    (λ f h. front_again at octets h.0 ∙ ap (λ (g : BerFault). Err g) (sym h.1))
