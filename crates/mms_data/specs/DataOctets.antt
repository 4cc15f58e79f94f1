-- Data as octets (ISO 9506-2, Data): by levels, since structures and arrays hold data again.
use Rattle.std.specs.Prelude.{ℕ, zero, suc, List}
use Rattle.ber_values.specs.Grammars.{Grammar, refused}
use Rattle.ber_values.specs.Parts.{choose_in, contents_as}
use Rattle.ber_values.specs.Lists.{list_in}
use Rattle.ber_values.specs.Leaves as leaves
use Rattle.mms_data.specs.declared.data.octets.TheConstants.{MOST_DEPTH}
use Rattle.mms_data.specs.Datum.{Datum, data_of}
use Rattle.mms_data.specs.Datum as kinds
use Rattle.mms_data.specs.Floating.{floating}

-- a datum without members
unfoldable pub plain_datum : Grammar Datum
plain_datum =
    choose_in 131 (contents_as kinds.boolean leaves.boolean)
    (choose_in 132 (contents_as kinds.bits leaves.bits)
    (choose_in 133 (contents_as kinds.integer leaves.integer)
    (choose_in 134 (contents_as kinds.unsigned leaves.natural)
    (choose_in 135 (contents_as kinds.real floating)
    (choose_in 137 (contents_as kinds.octets leaves.raw)
    (choose_in 138 (contents_as kinds.text leaves.visible)
    refused))))))

abbrev pub array_of : List Datum → Datum
array_of ds = kinds.array (data_of ds)

abbrev pub structure_of : List Datum → Datum
structure_of ds = kinds.structure (data_of ds)

-- a datum of at most so many levels; where none is left nothing may stand
unfoldable pub datum_within : ℕ → Grammar Datum
datum_within zero = refused
datum_within (suc n) =
    choose_in 161 (contents_as array_of (list_in 0 (datum_within n)))
    (choose_in 162 (contents_as structure_of (list_in 0 (datum_within n)))
    plain_datum)

-- a datum
unfoldable pub one_datum : Grammar Datum
one_datum = datum_within MOST_DEPTH
