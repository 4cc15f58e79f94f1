-- Values in a text, and how many octets they have in a PDU.
use Rattle.std.specs.Prelude.{ℕ, List, [], ◌∷◌, length, Option, Some, None, option_and_then}
use Rattle.plain_text.specs.Numbers.{hex_pair_value}
use Rattle.ber_values.specs.Lengths.{capped}
use Rattle.mms_data.specs.Datum.{data_of}
use Rattle.mms_data.specs.DataWritten.{datum_len, members_octets}
use Rattle.mms_data.specs.Text.DatumIn.{DatumAndRest, MembersAndRest}

-- the last of the octets that a word of pairs of digits is; `last` stands before them
abbrev pub last_octet_in : ℕ → List ℕ → Option ℕ
last_octet_in last [] = Some last
last_octet_in last (high ∷ []) = None
last_octet_in last (high ∷ low ∷ more) =
    option_and_then (λ octet. last_octet_in octet more) (hex_pair_value high low)

-- how many octets a datum has, and the text behind it
abbrev pub datum_sized : DatumAndRest → ℕ × List ℕ
datum_sized x = (datum_len x.0, x.1)

-- how many octets members have, and the text behind them
abbrev pub members_sized : MembersAndRest → ℕ × List ℕ
members_sized m = (capped (length (members_octets (data_of m.0))), m.1)
