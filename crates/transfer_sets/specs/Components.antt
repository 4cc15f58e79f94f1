-- The components of a wish as data: thirteen members of a structure, each at its place.
use Rattle.std.specs.Prelude.{ℕ, ◌*◌, ◌/◌, ◌==◌, nat_le, ℤ, pos, negsuc, int_le, Bool, true}
use Rattle.std.specs.Prelude.{false, ◌&&◌, if◌then◌else◌, List, [], ◌∷◌, length, Option, Some, None}
use Rattle.std.specs.Prelude.{option_and_then, Result, Ok, Err}
use Rattle.std.specs.Option.{option_map_or}
use Rattle.std.specs.List.{slice_get}
use Rattle.mms_data.specs.Datum.{Datum, boolean, integer, unsigned, bits, text}
use Rattle.point_data.specs.Parts.{structure_members, integer_part}
use Rattle.transfer_sets.specs.declared.parts.Numbers.{Numbers}
use Rattle.transfer_sets.specs.declared.parts.Ranged.{Ranged}
use Rattle.transfer_sets.specs.declared.parts.Switches.{Switches}
use Rattle.transfer_sets.specs.declared.wish.Wish.{Wish}
use Rattle.transfer_sets.specs.declared.wish.WishFault.{WishFault}
use Rattle.transfer_sets.specs.declared.wish.WishFault.TheVariants.{Form, Range}
use Rattle.transfer_sets.specs.declared.wish.TheConstants.{NUMBER_LIMIT}

-- whether a datum is an integer or an unsigned integer
abbrev pub is_scope : Datum → Bool
is_scope (integer z) = true
is_scope (unsigned n) = true
is_scope _ = false

-- the octets of a text
abbrev pub text_part : Datum → Option (List ℕ)
text_part (text o) = Some o
text_part _ = None

-- the value of a boolean
abbrev pub boolean_part : Datum → Option Bool
boolean_part (boolean b) = Some b
boolean_part _ = None

-- the first five of at least five bits, as the sum of the conditions
abbrev pub five_of : ℕ → List ℕ → Option ℕ
five_of count [] = None
five_of count (octet ∷ more) = if nat_le 5 count then Some (octet / 8 * 8) else None

-- the conditions of a string of bits
abbrev pub conditions_in : Datum → Option ℕ
conditions_in (bits b) = five_of b.count b.octets
conditions_in _ = None

-- whether there is a number at a place
abbrev pub is_scope_at : List Datum → ℕ → Bool
is_scope_at ds place = option_map_or is_scope (slice_get ds place) false

abbrev pub text_at : List Datum → ℕ → Option (List ℕ)
text_at ds place = option_and_then text_part (slice_get ds place)

abbrev pub integer_at : List Datum → ℕ → Option ℤ
integer_at ds place = option_and_then integer_part (slice_get ds place)

abbrev pub boolean_at : List Datum → ℕ → Option Bool
boolean_at ds place = option_and_then boolean_part (slice_get ds place)

abbrev pub conditions_at : List Datum → ℕ → Option ℕ
conditions_at ds place = option_and_then conditions_in (slice_get ds place)

-- the members of the first member
abbrev pub set_in : List Datum → List Datum
set_in ds = option_map_or structure_members (slice_get ds 0) []

-- six integers, where all are there
abbrev pub numbers_from :
    Option ℤ → Option ℤ → Option ℤ → Option ℤ → Option ℤ → Option ℤ → Option Numbers
numbers_from (Some start) (Some interval) (Some tle) (Some buffer) (Some integrity) (Some code) =
    Some (record {
      start = start;
      interval = interval;
      tle = tle;
      buffer = buffer;
      integrity = integrity;
      event_code = code;
    })
numbers_from _ _ _ _ _ _ = None

abbrev pub numbers_in : List Datum → Option Numbers
numbers_in ds =
    numbers_from (integer_at ds 1) (integer_at ds 2) (integer_at ds 3) (integer_at ds 4)
    (integer_at ds 5) (integer_at ds 12)

-- five booleans, where all are there
abbrev pub switches_from :
    Option Bool → Option Bool → Option Bool → Option Bool → Option Bool → Option Switches
switches_from (Some block) (Some critical) (Some rbe) (Some all_changes) (Some status) =
    Some (record {
      block = block;
      critical = critical;
      rbe = rbe;
      all_changes = all_changes;
      status = status;
    })
switches_from _ _ _ _ _ = None

abbrev pub switches_in : List Datum → Option Switches
switches_in ds =
    switches_from (boolean_at ds 7) (boolean_at ds 8) (boolean_at ds 9) (boolean_at ds 10)
    (boolean_at ds 11)

-- a number from 0 to the limit
abbrev pub ranged_number : ℤ → Option ℕ
ranged_number (pos n) = if nat_le n NUMBER_LIMIT then Some n else None
ranged_number (negsuc n) = None

-- a signed number of 16 bits
abbrev pub ranged_code : ℤ → Option ℤ
ranged_code z = if int_le (negsuc 32767) z && int_le z (pos 32767) then Some z else None

-- six numbers, where all are in their ranges
abbrev pub ranged_from :
    Option ℕ → Option ℕ → Option ℕ → Option ℕ → Option ℕ → Option ℤ → Option Ranged
ranged_from (Some start) (Some interval) (Some tle) (Some buffer) (Some integrity) (Some code) =
    Some (record {
      start = start;
      interval = interval;
      tle = tle;
      buffer = buffer;
      integrity = integrity;
      event_code = code;
    })
ranged_from _ _ _ _ _ _ = None

abbrev pub ranged_in : Numbers → Option Ranged
ranged_in n =
    ranged_from (ranged_number n.start) (ranged_number n.interval) (ranged_number n.tle)
    (ranged_number n.buffer) (ranged_number n.integrity) (ranged_code n.event_code)

-- a wish of its components, where its numbers are in their ranges
abbrev pub wish_if : List ℕ → List ℕ → ℕ → Switches → Option Ranged → Result Wish WishFault
wish_if domain name conditions switches None = Err Range
wish_if domain name conditions switches (Some numbers) =
    Ok (record {
      set_domain = domain;
      set_name = name;
      start = numbers.start;
      interval = numbers.interval;
      tle = numbers.tle;
      buffer = numbers.buffer;
      integrity = numbers.integrity;
      conditions = conditions;
      block = switches.block;
      critical = switches.critical;
      rbe = switches.rbe;
      all_changes = switches.all_changes;
      status = switches.status;
      event_code = numbers.event_code;
    })

-- a wish of its components, where all are there
abbrev pub wish_from :
    Option (List ℕ) → Option (List ℕ) → Option Numbers → Option ℕ → Option Switches
    → Result Wish WishFault
wish_from (Some domain) (Some name) (Some numbers) (Some conditions) (Some switches) =
    wish_if domain name conditions switches (ranged_in numbers)
wish_from _ _ _ _ _ = Err Form

-- whether there are thirteen members, of which the first has three, and of these the first is a
-- number
abbrev pub is_shaped : List Datum → Bool
is_shaped ds = (length ds == 13) && (length (set_in ds) == 3) && is_scope_at (set_in ds) 0

-- what is wished by these members
abbrev pub wish_of_members : List Datum → Result Wish WishFault
wish_of_members ds =
    if is_shaped ds
    then wish_from (text_at (set_in ds) 1) (text_at (set_in ds) 2) (numbers_in ds)
    (conditions_at ds 6) (switches_in ds)
    else Err Form

-- what is wished by a datum, or why nothing is
abbrev pub wish_in : Datum → Result Wish WishFault
wish_in d = wish_of_members (structure_members d)
