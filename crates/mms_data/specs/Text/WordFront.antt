-- How far a word goes on as the text of a datum without members: what may stand next, by the
-- production of each kind.
use Rattle.std.specs.Prelude.{ℕ, suc, ◌+◌, ◌-◌, ◌*◌, ◌/◌, ◌%◌, ◌^◌, ◌==◌, nat_le}
use Rattle.std.specs.Prelude.{if◌then◌else◌, List, [], ◌∷◌, Option, Some, None, min}
use Rattle.std.specs.Prelude.{option_map, option_and_then}
use Rattle.std.specs.Int.{is_in_range}
use Rattle.std.specs.Char.{is_ascii_digit}
use Rattle.plain_text.specs.Numbers.{hex_value, if_passes}
use Rattle.plain_text.specs.Escaped.{is_plain, escaped_value}
use Rattle.ber_values.specs.Visible.{is_visible_octet}
use Rattle.ber_values.specs.declared.visible_string.TheConstants.{VISIBLE_LIMIT}
use Rattle.mms_data.specs.declared.text.word_front.Next.{Next}
use Rattle.mms_data.specs.declared.text.word_front.Next.TheVariants as next

-- a digit that keeps a number at most `limit`
abbrev pub next_digit : ℕ → ℕ → ℕ → Option ℕ
next_digit limit number c =
    if is_ascii_digit c then if_passes (λ n. nat_le n limit) (number * 10 + (c - 48)) else None

-- a digit more of a number
abbrev pub digits_next : ℕ → ℕ → ℕ → Option Next
digits_next limit number c =
    option_map (λ n. next.Digits limit n) (next_digit limit number c)

-- the first digit of a number; nothing stands behind a zero
abbrev pub number_next : ℕ → ℕ → Option Next
number_next limit c = if c == 48 then Some next.Nothing else digits_next limit 0 c

-- a minus, or the first digit of a number
abbrev pub integer_next : ℕ → Option Next
integer_next c = if c == 45 then Some next.Negative else number_next (2 ^ 63 - 1) c

-- the first digit behind a minus, which is no zero
abbrev pub negative_next : ℕ → Option Next
negative_next c = if c == 48 then None else digits_next (2 ^ 63) 0 c

-- the first digit of a number of bits; behind a zero stands a point
abbrev pub count_next : ℕ → Option Next
count_next c =
    if c == 48 then Some next.Point
    else option_map next.Counted (next_digit (2 ^ 64 - 1) 0 c)

-- a point, and no octets
abbrev pub point_next : ℕ → Option Next
point_next c = if c == 46 then Some (next.Padded 0 0) else None

-- a point, and two digits for each octet of so many bits; or a digit more
abbrev pub counted_next : ℕ → ℕ → Option Next
counted_next count c =
    if c == 46 then Some (next.Padded count (2 * ((count + 7) / 8)))
    else option_map next.Counted (next_digit (2 ^ 64 - 1) count c)

-- a hexadecimal digit of four bits, of which those past the last one are zero
abbrev pub padded_next : ℕ → ℕ → ℕ → Option Next
padded_next bits digits c =
    if digits == 0 then None
    else option_map (λ v. next.Padded (bits - 4) (digits - 1))
    (option_and_then (if_passes (λ v. v % 2 ^ (4 - min bits 4) == 0)) (hex_value c))

-- one of so many hexadecimal digits
abbrev pub hex_next : ℕ → ℕ → Option Next
hex_next room c =
    if room == 0 then None else option_map (λ v. next.Hexadecimal (room - 1)) (hex_value c)

-- the first octet of the spelling of one of so many octets
abbrev pub text_next : ℕ → ℕ → Option Next
text_next room c =
    if room == 0 then None
    else (if is_plain c then Some (next.Text (room - 1))
    else (if c == 37 then Some (next.High (room - 1)) else None))

-- the first digit of a visible octet that is escaped, from 20 to 7e
abbrev pub high_next : ℕ → ℕ → Option Next
high_next room c = if is_in_range 50 55 c then Some (next.Low room c) else None

-- the second digit
abbrev pub low_next : ℕ → ℕ → ℕ → Option Next
low_next room high c =
    option_map (λ o. next.Text room)
    (option_and_then (if_passes is_visible_octet) (escaped_value high c))

-- what may stand behind an octet, where this octet may stand
abbrev pub next_of : Next → ℕ → Option Next
next_of next.Nothing c = None
next_of next.Integer c = integer_next c
next_of next.Negative c = negative_next c
next_of (next.Number limit) c = number_next limit c
next_of (next.Digits limit number) c = digits_next limit number c
next_of next.Count c = count_next c
next_of next.Point c = point_next c
next_of (next.Counted count) c = counted_next count c
next_of (next.Padded bits digits) c = padded_next bits digits c
next_of (next.Hexadecimal room) c = hex_next room c
next_of next.Pairs c = option_map (λ v. next.Pairs) (hex_value c)
next_of (next.Text room) c = text_next room c
next_of (next.High room) c = high_next room c
next_of (next.Low room high) c = low_next room high c

-- what may stand behind the letter of a kind
abbrev pub next_of_kind : ℕ → Option Next
next_of_kind kind =
    if (kind == 84) then Some next.Nothing
    else (if kind == 70 then Some next.Nothing
    else (if kind == 105 then Some next.Integer
    else (if kind == 117 then Some (next.Number (2 ^ 63 - 1))
    else (if kind == 98 then Some next.Count
    else (if kind == 102 then Some (next.Hexadecimal 8)
    else (if kind == 111 then Some next.Pairs
    else (if kind == 118 then Some (next.Text VISIBLE_LIMIT)
    else None)))))))

-- how many octets go on behind one that may stand, or none
abbrev pub and_behind : (Next → ℕ) → Option Next → ℕ
and_behind count None = 0
and_behind count (Some state) = suc (count state)

-- how many octets of a word go on
abbrev pub front_of : List ℕ → Next → ℕ
front_of [] state = 0
front_of (c ∷ cs) state = and_behind (λ s. front_of cs s) (next_of state c)

-- how many octets of a word go on from its letter
abbrev pub word_front : List ℕ → ℕ
word_front [] = 0
word_front (kind ∷ held) = and_behind (λ s. front_of held s) (next_of_kind kind)
