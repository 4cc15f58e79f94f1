-- Reading outcomes is exact, what is read is lawful, and what is written is read back.
use Rattle.std.proofs.Common.{◌≡◌, ℕ, ◌+◌, ◌<◌, ◌^◌, false, List, [], ◌∷◌, ◌++◌, length, refl}
use Rattle.std.proofs.Common.{sym, ap, ◌∙◌, subst, inl, inr, arith}
use Rattle.ber_values.specs.Lengths.{capped}
use Rattle.ber_values.proofs.Capped.{length-written, part_size-short}
use Rattle.ber_values.specs.Reading.{Taken}
use Rattle.ber_values.specs.Grammars.{IsGrammar, taken, branch_in, map_in, has_tag}
use Rattle.ber_values.specs.Parts.{part_in, choose_in, contents_as}
use Rattle.ber_values.specs.Leaves.{octet}
use Rattle.ber_values.proofs.Grammars.{choose_reads, as_reads, map_reads, choose-written}
use Rattle.ber_values.proofs.Grammars.{choose-other}
use Rattle.ber_values.proofs.Leaves.{octet_contents}
use Rattle.mms_data.specs.declared.outcome.Outcome.{Outcome}
use Rattle.mms_data.specs.declared.outcome.Outcome.TheVariants.{Good, Fail}
use Rattle.mms_data.specs.Datum.{Datum, boolean, integer, unsigned, bits, real, octets, text}
use Rattle.mms_data.specs.Datum.{structure, array}
use Rattle.mms_data.specs.DataOctets.{one_datum}
use Rattle.mms_data.specs.DataWritten.{datum_octets}
use Rattle.mms_data.specs.OutcomeOctets.{one_outcome, IsLawfulOutcome, IsHeldOutcome}
use Rattle.mms_data.specs.OutcomeOctets.{outcome_octets, outcome_len}
use Rattle.mms_data.proofs.DataRead.{one_datum_reads}
use Rattle.mms_data.proofs.DataLawful.{datum_lawful}
use Rattle.mms_data.proofs.DataWritten.{one_datum_begins}

pub one_outcome_reads : IsGrammar one_outcome
unfolding one_outcome
one_outcome_reads =
    choose_reads 128 _ _ (as_reads Fail _ octet_contents) (map_reads Good _ one_datum_reads)

-- what octets begin with is lawful
pub outcome_lawful : (at : ℕ) (os : List ℕ) (t : Taken Outcome) → one_outcome.begins at os t
    → IsLawfulOutcome t.value
unfolding one_outcome choose_in branch_in part_in contents_as map_in
outcome_lawful at os t (inl h) =
    let s = h.1.2 in
    subst (λ (u : Taken Outcome). IsLawfulOutcome u.value) (sym s.2)
    (subst IsLawfulOutcome (sym s.1.2) tt)
outcome_lawful at os t (inr h) =
    let s = h.1 in
    subst (λ (u : Taken Outcome). IsLawfulOutcome u.value) (sym s.2) (datum_lawful at os s.0 s.1)

-- no datum is written with the tag of an error
no_error : (d : Datum) (rest : List ℕ) → has_tag 128 (datum_octets d ++ rest) ≡ false
no_error (boolean b) rest = refl
no_error (integer z) rest = refl
no_error (unsigned n) rest = refl
no_error (bits b) rest = refl
no_error (real o) rest = refl
no_error (octets o) rest = refl
no_error (text o) rest = refl
no_error (structure ds) rest = refl
no_error (array ds) rest = refl

-- what is written for a lawful outcome begins what follows it
pub one_outcome_begins : (o : Outcome) → IsLawfulOutcome o → IsHeldOutcome o
    → length (outcome_octets o) < 2 ^ 32 → (at : ℕ) (rest : List ℕ)
    → one_outcome.begins at (outcome_octets o ++ rest)
    (taken o (at + length (outcome_octets o)) rest)
unfolding one_outcome contents_as map_in octet
one_outcome_begins (Good d) lawful held few at rest =
    let end = at + length (datum_octets d) in
    choose-other 128 (contents_as Fail octet) (map_in Good one_datum) at _ _ (no_error d rest)
    (taken d end rest, one_datum_begins d lawful held few at rest, refl)
one_outcome_begins (Fail reason) lawful held few at rest =
    choose-written 128 (contents_as Fail octet) (map_in Good one_datum) at (Fail reason)
    (reason ∷ []) rest (omega arith) (reason, refl, refl)

-- an error has one octet of contents
pub error-len : (reason : ℕ) → 3 ≡ outcome_len (Fail reason)
error-len reason =
    ap capped (sym (length-written 128 (reason ∷ []) ∙ part_size-short 1 (omega arith)))
