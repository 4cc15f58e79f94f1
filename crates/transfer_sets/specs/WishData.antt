-- How a wish is spelled as data (IEC 60870-6-503, DS transfer set). The order of the components is
-- this project's profile.
use Rattle.std.specs.Prelude.{◌≡◌, ◌⊎◌, ℕ, ◌*◌, ◌/◌, ◌<◌, ◌≤◌, ℤ, pos, negsuc, ◌≤ℤ◌, nat_abs, List}
use Rattle.std.specs.Prelude.{[], ◌∷◌, length, slice_index}
use Rattle.ber_values.specs.Bits.{Bits}
use Rattle.mms_data.specs.Datum.{Datum, boolean, integer, unsigned, bits, text, structure, data_of}
use Rattle.transfer_sets.specs.declared.parts.Numbers.{Numbers}
use Rattle.transfer_sets.specs.declared.parts.Switches.{Switches}
use Rattle.transfer_sets.specs.declared.wish.Wish.{Wish}
use Rattle.transfer_sets.specs.declared.wish.TheConstants.{NUMBER_LIMIT}

-- what the components of a wish say
pub record WishParts : Type 0 where
  pub set_domain : List ℕ
  pub set_name : List ℕ
  pub numbers : Numbers
  pub conditions : Bits
  pub switches : Switches

-- the thirteen components: the name of the data set, whose scope is any number; five integers; the
-- conditions; five booleans; and one more integer
abbrev pub components : Datum → WishParts → List Datum
components scope p =
    structure (data_of (scope ∷ text p.set_domain ∷ text p.set_name ∷ []))
    ∷ integer p.numbers.start ∷ integer p.numbers.interval ∷ integer p.numbers.tle
    ∷ integer p.numbers.buffer ∷ integer p.numbers.integrity ∷ bits p.conditions
    ∷ boolean p.switches.block ∷ boolean p.switches.critical ∷ boolean p.switches.rbe
    ∷ boolean p.switches.all_changes ∷ boolean p.switches.status
    ∷ integer p.numbers.event_code ∷ []

-- an integer or an unsigned integer
abbrev pub IsAnyNumber : Datum → Type 0
IsAnyNumber d = ((z : ℤ) × (d ≡ integer z)) ⊎ ((n : ℕ) × (d ≡ unsigned n))

-- A datum has the form of a wish with these components.
pub record IsWishForm (d : Datum) (p : WishParts) : Type 0 where
  pub scope : Datum
  pub number : IsAnyNumber scope
  pub spelled : d ≡ structure (data_of (components scope p))
  pub five : 5 ≤ p.conditions.count
  pub held : 0 < length p.conditions.octets

-- a number of a wish
abbrev pub IsRanged : ℤ → Type 0
IsRanged z = (pos 0 ≤ℤ z) × (z ≤ℤ pos NUMBER_LIMIT)

-- the numbers lie in their ranges
pub record AreRanged (n : Numbers) : Type 0 where
  pub start : IsRanged n.start
  pub interval : IsRanged n.interval
  pub tle : IsRanged n.tle
  pub buffer : IsRanged n.buffer
  pub integrity : IsRanged n.integrity
  pub event_code : (negsuc 32767 ≤ℤ n.event_code) × (n.event_code ≤ℤ pos 32767)

-- the first five bits as the sum of the conditions
abbrev pub first_five : Bits → ℕ
first_five b = slice_index b.octets 0 / 8 * 8

-- the wish of these components
abbrev pub wish_of : WishParts → Wish
wish_of p = record {
  set_domain = p.set_domain;
  set_name = p.set_name;
  start = nat_abs p.numbers.start;
  interval = nat_abs p.numbers.interval;
  tle = nat_abs p.numbers.tle;
  buffer = nat_abs p.numbers.buffer;
  integrity = nat_abs p.numbers.integrity;
  conditions = first_five p.conditions;
  block = p.switches.block;
  critical = p.switches.critical;
  rbe = p.switches.rbe;
  all_changes = p.switches.all_changes;
  status = p.switches.status;
  event_code = p.numbers.event_code;
}

-- the components by which a wish is shown, with five bits
abbrev pub parts_of : Wish → WishParts
parts_of w = record {
  set_domain = w.set_domain;
  set_name = w.set_name;
  numbers = record {
    start = pos w.start;
    interval = pos w.interval;
    tle = pos w.tle;
    buffer = pos w.buffer;
    integrity = pos w.integrity;
    event_code = w.event_code;
  };
  conditions = record { count = 5; octets = (w.conditions / 8 * 8) ∷ [] };
  switches = record {
    block = w.block;
    critical = w.critical;
    rbe = w.rbe;
    all_changes = w.all_changes;
    status = w.status;
  };
}

-- a wish as data; the scope of its data set's name is 1
abbrev pub shown_wish : Wish → Datum
shown_wish w = structure (data_of (components (integer (pos 1)) (parts_of w)))
