-- The datum that a text stands for.
use Rattle.std.specs.Prelude.{ℕ, zero, suc, if◌then◌else◌, List, [], ◌∷◌, length, Option, Some}
use Rattle.std.specs.Prelude.{None, option_map, option_and_then}
use Rattle.std.proofs.Common.{drop}
use Rattle.mms_data.specs.declared.data.octets.TheConstants.{MOST_DEPTH}
use Rattle.mms_data.specs.Datum.{Datum, structure, array, data_of}
use Rattle.mms_data.specs.Text.TextRead.{begins_with}
use Rattle.mms_data.specs.Text.WordValue.{word_of, after_word, word_value}

-- a datum, and the octets behind it
abbrev pub DatumAndRest : Type 0
DatumAndRest = Datum × List ℕ

-- members, and the octets behind their closing bracket
abbrev pub MembersAndRest : Type 0
MembersAndRest = List Datum × List ℕ

-- a member more in front
abbrev pub member_first : Datum → MembersAndRest → MembersAndRest
member_first d more = (d ∷ more.0, more.1)

-- a member, then the closing bracket, or a comma and more of them; at most so many
abbrev pub some_leading_members : (List ℕ → Option DatumAndRest) → ℕ → ℕ → List ℕ
    → Option MembersAndRest
some_leading_members each close zero os = None
some_leading_members each close (suc most) os =
    option_and_then
    (λ first.
    if begins_with close first.1 then Some (first.0 ∷ [], drop 1 first.1)
    else (if begins_with 44 first.1
    then option_map (member_first first.0) (some_leading_members each close most (drop 1 first.1))
    else None))
    (each os)

-- members at the front of a text up to the closing bracket, a comma between each two
abbrev pub leading_members : (List ℕ → Option DatumAndRest) → ℕ → List ℕ → Option MembersAndRest
leading_members each close os =
    if begins_with close os then Some ([], drop 1 os)
    else some_leading_members each close (suc (length os)) os

-- a datum of at most so many levels at the front of a text: members in brackets, or the word up
-- to the first mark
abbrev pub leading_datum : ℕ → List ℕ → Option DatumAndRest
leading_datum zero os = None
leading_datum (suc levels) os =
    if begins_with 123 os then option_map (λ m. (structure (data_of m.0), m.1))
    (leading_members (λ part. leading_datum levels part) 125 (drop 1 os))
    else (if begins_with 91 os then option_map (λ m. (array (data_of m.0), m.1))
    (leading_members (λ part. leading_datum levels part) 93 (drop 1 os))
    else option_map (λ d. (d, after_word os)) (word_value (word_of os)))

-- a datum behind which nothing stands
abbrev pub whole_datum : Datum → List ℕ → Option Datum
whole_datum d [] = Some d
whole_datum d (octet ∷ more) = None

-- the datum whose text this is
unfoldable pub datum_in : List ℕ → Option Datum
datum_in os = option_and_then (λ first. whole_datum first.0 first.1) (leading_datum MOST_DEPTH os)
