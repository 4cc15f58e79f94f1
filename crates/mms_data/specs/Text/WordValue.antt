-- A datum without members in a text: the word that ends before a comma or a closing bracket, and
-- the value that a whole word stands for.
use Rattle.std.specs.Prelude.{ℕ, ◌+◌, ◌-◌, ◌*◌, ◌/◌, ◌%◌, ◌^◌, Bool, ◌&&◌, ◌||◌, ◌==◌, nat_le, pos}
use Rattle.std.specs.Prelude.{if◌then◌else◌, List, [], ◌∷◌, length, slice_index, Option, Some, None}
use Rattle.std.specs.Prelude.{option_map, option_and_then, negsuc, true, false}
use Rattle.std.proofs.Common.{take, drop}
use Rattle.std.specs.List.{list_all, position}
use Rattle.plain_text.specs.Numbers.{number_up_to, integer_word_within, hex_in, hex_octets}
use Rattle.plain_text.specs.Numbers.{if_passes}
use Rattle.plain_text.specs.Escaped.{unescaped}
use Rattle.ber_values.specs.Bits.{Bits}
use Rattle.ber_values.specs.Visible.{is_visible_octet}
use Rattle.ber_values.specs.declared.visible_string.TheConstants.{VISIBLE_LIMIT}
use Rattle.mms_data.specs.Datum.{Datum, boolean, integer, unsigned, bits, real, octets, text}

-- a comma or a closing bracket
abbrev pub is_mark : ℕ → Bool
is_mark octet = (octet == 44) || (octet == 93) || (octet == 125)

-- the place where the first word ends, where a mark stands
abbrev pub mark_in : List ℕ → Option ℕ
mark_in os = position is_mark os

abbrev pub up_to : Option ℕ → List ℕ → List ℕ
up_to None os = os
up_to (Some place) os = take place os

abbrev pub from : Option ℕ → List ℕ → List ℕ
from None os = []
from (Some place) os = drop place os

-- the octets up to the first mark
abbrev pub word_of : List ℕ → List ℕ
word_of os = up_to (mark_in os) os

-- the octets from the first mark on
abbrev pub after_word : List ℕ → List ℕ
after_word os = from (mark_in os) os

-- a truth value, behind which nothing stands
abbrev pub boolean_word_in : Bool → List ℕ → Option Datum
boolean_word_in b [] = Some (boolean b)
boolean_word_in b (first ∷ more) = None

-- the bits fill their octets but for the end of the last one, which is zero
abbrev pub is_bits : Bits → Bool
is_bits b = (length b.octets == (b.count + 7) / 8)
    && (slice_index b.octets (length b.octets - 1) % 2 ^ (8 * length b.octets - b.count) == 0)

-- the bit string of so many bits in these octets, where the bits fill them
abbrev pub bits_of : ℕ → List ℕ → Option Datum
bits_of count held =
    option_map bits (if_passes is_bits (record { count = count; octets = held }))

-- a number of bits, and the octets
abbrev pub bits_word_with : List ℕ → List ℕ → Option Datum
bits_word_with count digits =
    option_and_then
    (λ n. option_and_then (λ held. bits_of n held) (hex_in digits))
    (number_up_to (2 ^ 64 - 1) count)

abbrev pub point_word_in : List ℕ → Option ℕ
point_word_in held = position (λ octet. octet == 46) held

-- a point stands between them
abbrev pub bits_word_in : List ℕ → Option Datum
bits_word_in held =
    option_and_then (λ point. bits_word_with (take point held) (drop (point + 1) held))
    (point_word_in held)

-- octets that visible text may have
abbrev pub is_visible : List ℕ → Bool
is_visible os = nat_le (length os) VISIBLE_LIMIT && list_all is_visible_octet os

-- the escaped octets of visible text
abbrev pub text_word_in : List ℕ → Option Datum
text_word_in held = option_map text (option_and_then (if_passes is_visible) (unescaped held))

abbrev pub integer_word_in : List ℕ → Option Datum
integer_word_in held =
    option_map integer (integer_word_within (negsuc (2 ^ 63 - 1)) (pos (2 ^ 63 - 1)) held)

abbrev pub unsigned_word_in : List ℕ → Option Datum
unsigned_word_in held = option_map unsigned (number_up_to (2 ^ 63 - 1) held)

abbrev pub real_word_in : List ℕ → Option Datum
real_word_in held = option_map real (hex_octets 4 held)

abbrev pub octets_word_in : List ℕ → Option Datum
octets_word_in held = option_map octets (hex_in held)

-- the value that a letter and what stands behind it are
abbrev pub value_in : ℕ → List ℕ → Option Datum
value_in kind held =
    if kind == 84 then boolean_word_in true held
    else (if kind == 70 then boolean_word_in false held
    else (if kind == 105 then integer_word_in held
    else (if kind == 117 then unsigned_word_in held
    else (if kind == 98 then bits_word_in held
    else (if kind == 102 then real_word_in held
    else (if kind == 111 then octets_word_in held
    else (if kind == 118 then text_word_in held
    else None)))))))

-- the value that a word is
abbrev pub word_value : List ℕ → Option Datum
word_value [] = None
word_value (kind ∷ held) = value_in kind held
