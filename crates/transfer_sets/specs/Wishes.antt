-- What a wish is, and what may be done of it.
use Rattle.std.specs.Prelude.{◌≡◌, ℕ, ◌*◌, ◌/◌, ◌%◌, ◌≤◌, ◌==◌, nat_lt, ℤ, pos, negsuc, ◌≤ℤ◌, Bool}
use Rattle.std.specs.Prelude.{false, not, ◌&&◌, ◌||◌, if◌then◌else◌, []}
use Rattle.transfer_sets.specs.declared.wish.Wish.{Wish}
use Rattle.transfer_sets.specs.declared.wish.TheConstants.{INTERVAL, INTEGRITY, NUMBER_LIMIT}

-- conditions are a sum of powers of two, and have this one
abbrev pub HasCondition : ℕ → ℕ → Type 0
HasCondition conditions condition = conditions / condition % 2 ≡ 1

abbrev pub has : ℕ → ℕ → Bool
has conditions condition = conditions / condition % 2 == 1

-- a number that a wish may have
abbrev pub IsNumber : ℕ → Type 0
IsNumber n = n ≤ NUMBER_LIMIT

-- an event's number
abbrev pub IsCode : ℤ → Type 0
IsCode z = (negsuc 32767 ≤ℤ z) × (z ≤ℤ pos 32767)

-- a wish that data can show: numbers in their ranges, and no other than the five conditions
pub record IsWish (w : Wish) : Type 0 where
  pub start : IsNumber w.start
  pub interval : IsNumber w.interval
  pub tle : IsNumber w.tle
  pub buffer : IsNumber w.buffer
  pub integrity : IsNumber w.integrity
  pub five : w.conditions % 8 ≡ 0
  pub event_code : IsCode w.event_code

-- what a transfer set is wished that nobody has written: nothing
abbrev pub empty_wish : Wish
empty_wish = record {
  set_domain = [];
  set_name = [];
  start = 0;
  interval = 0;
  tle = 0;
  buffer = 0;
  integrity = 0;
  conditions = 0;
  block = false;
  critical = false;
  rbe = false;
  all_changes = false;
  status = false;
  event_code = pos 0;
}

-- whether it can be done: neither blocks nor acknowledgement, and a time where a condition wants
-- one
abbrev pub may_enable : Wish → Bool
may_enable w =
    not w.block && not w.critical && (not (has w.conditions INTERVAL) || nat_lt 0 w.interval)
    && (not (has w.conditions INTEGRITY) || nat_lt 0 w.integrity)

-- the moment from which its times count, in milliseconds: its start where that is to come, else now
abbrev pub base_of : Wish → ℕ → ℕ
base_of w now = if nat_lt now (w.start * 1000) then w.start * 1000 else now
