-- Outcomes of access as octets (ISO 9506-2, AccessResult), and their written form.
use Rattle.std.specs.Prelude.{ℕ, List, [], ◌∷◌, length}
use Rattle.ber_values.specs.Grammars.{Grammar, map_in}
use Rattle.ber_values.specs.Parts.{choose_in, contents_as}
use Rattle.ber_values.specs.Leaves.{octet}
use Rattle.ber_values.specs.Lengths.{capped}
use Rattle.ber_values.specs.Writing.{written}
use Rattle.mms_data.specs.declared.outcome.Outcome.{Outcome}
use Rattle.mms_data.specs.declared.outcome.Outcome.TheVariants.{Good, Fail}
use Rattle.mms_data.specs.DataOctets.{one_datum}
use Rattle.mms_data.specs.DataWritten.{datum_octets}
use Rattle.mms_data.specs.Lawful.{IsLawful, IsHeld}

-- the number of an error, or else a datum
unfoldable pub one_outcome : Grammar Outcome
one_outcome = choose_in 128 (contents_as Fail octet) (map_in Good one_datum)

-- a datum that octets can spell, or an error
abbrev pub IsLawfulOutcome : Outcome → Type 0
IsLawfulOutcome (Good d) = IsLawful d
IsLawfulOutcome (Fail reason) = Unit {0}

-- what the type of an outcome keeps of its datum
abbrev pub IsHeldOutcome : Outcome → Type 0
IsHeldOutcome (Good d) = IsHeld d
IsHeldOutcome (Fail reason) = Unit {0}

-- the written form
abbrev pub outcome_octets : Outcome → List ℕ
outcome_octets (Good d) = datum_octets d
outcome_octets (Fail reason) = written 128 (reason ∷ [])

-- how many octets are written, or the most that a length is said to be
abbrev pub outcome_len : Outcome → ℕ
outcome_len outcome = capped (length (outcome_octets outcome))
