-- What is due at later moments, and from later ones on.
use Rattle.std.proofs.Common.{◌≡◌, ◌↔◌, ℕ, ◌+◌, ◌*◌, ◌<◌, ◌≤◌, true, false, Option, sym, ◌∙◌}
use Rattle.std.proofs.Common.{inl, inr, arith, ⊎_elim}
use Rattle.std.proofs.lemmas.Bool.{cases_lt, false≢true}
use Rattle.transfer_sets.specs.Wishes.{HasCondition}
use Rattle.transfer_sets.specs.SlotState.{SlotState}
use Rattle.transfer_sets.specs.Due.{PassesMultiple, HasWaited, AreDue, HasConditions, IsNextDue}
use Rattle.transfer_sets.specs.Due.{milliseconds, conditions_due}
use Rattle.transfer_sets.proofs.DueNumbers.{some_number}

up_to : (m to later : ℕ) → m ≤ to → to ≤ later → m ≤ later
up_to m to later below le = omega arith

beyond : (between m : ℕ) → (m ≤ between → ⊥) → between < m
beyond between m never = grind arith

from_earlier : (from between m : ℕ) → from ≤ between → between < m → from < m
from_earlier from between m le above = omega arith

longer : (base period from to later : ℕ) → to ≤ later → PassesMultiple base period from to
    → PassesMultiple base period from later
longer base period from to later le p =
    (p.0, p.1, p.2, up_to (base + p.0 * period) to later p.3 le)

-- multiples that aren't passed yet are passed later
cut : (base period from between to : ℕ) → (PassesMultiple base period from between → ⊥)
    → PassesMultiple base period from to → PassesMultiple base period between to
cut base period from between to never p =
    (p.0, p.1, beyond between (base + p.0 * period) (λ h. never (p.0, p.1, p.2, h)), p.3)

joined : (base period from between to : ℕ) → from ≤ between
    → PassesMultiple base period between to → PassesMultiple base period from to
joined base period from between to le p =
    (p.0, p.1, from_earlier from between (base + p.0 * period) le p.2, p.3)

waited : (noted : Option ℕ) (buffer to later : ℕ) → to ≤ later → HasWaited noted buffer to
    → HasWaited noted buffer later
waited noted buffer to later le p = (p.0, p.1, up_to (p.0 + buffer) to later p.2 le)

pub due_later : (s : SlotState) (from to later a b : ℕ) → to ≤ later → AreDue s from to a
    → AreDue s from later b → HasConditions a b
due_later s from to later a b le x y = record {
  interval = λ h. let p = x.interval.0 h in y.interval.1 (
    p.0,
    p.1,
    longer s.base (milliseconds s.wish.interval) from to later le p.2,
  );
  integrity = λ h. let p = x.integrity.0 h in y.integrity.1 (
    p.0,
    p.1,
    longer s.base (milliseconds s.wish.integrity) from to later le p.2,
  );
  change = λ h. let p = x.change.0 h in y.change.1 (
    p.0,
    p.1,
    elim p.2 [
      | inl first ↦ inl (waited s.first (milliseconds s.wish.buffer) to later le first)
      | inr full ↦ inr full
    ],
  );
}

pub none_128 : HasCondition 0 128 → ⊥
none_128 h = absurd (omega arith)

pub none_64 : HasCondition 0 64 → ⊥
none_64 h = absurd (omega arith)

pub none_32 : HasCondition 0 32 → ⊥
none_32 h = absurd (omega arith)

neither : (H P G : Type 0) → (H → ⊥) → (P → G) → (G → H) → H ↔ P
neither H P G never f g = (λ h. absurd (never h), λ p. absurd (never (g (f p))))

-- nothing is due of a slot that isn't enabled
pub none_off : (s : SlotState) (from to : ℕ) → s.wish.status ≡ false → AreDue s from to 0
none_off s from to off = record {
  interval = neither _ _ (s.wish.status ≡ true) none_128 (λ p. p.0) (λ on. absurd (never on));
  integrity = neither _ _ (s.wish.status ≡ true) none_64 (λ p. p.0) (λ on. absurd (never on));
  change = neither _ _ (s.wish.status ≡ true) none_32 (λ p. p.0) (λ on. absurd (never on));
  no_others = (omega arith, omega arith);
}
  where
    never : s.wish.status ≡ true → ⊥
    never on = false≢true (sym off ∙ on)

-- where nothing is due, nothing was due earlier
pub none_earlier : (s : SlotState) (from to later : ℕ) → to ≤ later → AreDue s from later 0
    → AreDue s from to 0
none_earlier s from to later le x =
    let some = some_number s from to in
    let none = due_later s from to later (conditions_due s from to) 0 le some x in record {
      interval = neither _ _ _ none_128 some.interval.1 none.interval;
      integrity = neither _ _ _ none_64 some.integrity.1 none.integrity;
      change = neither _ _ _ none_32 some.change.1 none.change;
      no_others = (omega arith, omega arith);
    }

moved : (H S W P Q : Type 0) → (S → W → P → Q) → (Q → P) → (H ↔ (S × W × P))
    → H ↔ (S × W × Q)
moved H S W P Q f g e = (
  λ h. (let p = e.0 h in (p.0, p.1, f p.0 p.1 p.2)),
  λ p. e.1 (p.0, p.1, g p.2),
)

back : (H S W P Q : Type 0) → (S → W → P → Q) → (Q → P) → (H ↔ (S × W × Q))
    → H ↔ (S × W × P)
back H S W P Q f g e = (
  λ h. (let p = e.0 h in (p.0, p.1, g p.2)),
  λ p. e.1 (p.0, p.1, f p.0 p.1 p.2),
)

module _ (s : SlotState) (from between to : ℕ) (le : from ≤ between)
    (none : AreDue s from between 0) where
  abbrev Passes : ℕ → ℕ → Type 0
  Passes start period = PassesMultiple s.base (milliseconds period) start to

  cut_interval : s.wish.status ≡ true → HasCondition s.wish.conditions 128
      → Passes from s.wish.interval → Passes between s.wish.interval
  cut_interval on wished p = cut s.base (milliseconds s.wish.interval) from between to
      (λ m. none_128 (none.interval.1 (on, wished, m))) p

  cut_integrity : s.wish.status ≡ true → HasCondition s.wish.conditions 64
      → Passes from s.wish.integrity → Passes between s.wish.integrity
  cut_integrity on wished p = cut s.base (milliseconds s.wish.integrity) from between to
      (λ m. none_64 (none.integrity.1 (on, wished, m))) p

  joined_with : (period : ℕ) → Passes between period → Passes from period
  joined_with period p = joined s.base (milliseconds period) from between to le p

  pub due_on : (conditions : ℕ) → AreDue s from to conditions → AreDue s between to conditions
  due_on conditions x = record {
    interval = moved _ _ _ _ _ cut_interval (joined_with s.wish.interval) x.interval;
    integrity = moved _ _ _ _ _ cut_integrity (joined_with s.wish.integrity) x.integrity;
    change = x.change;
    no_others = x.no_others;
  }

  pub due_before : (conditions : ℕ) → AreDue s between to conditions → AreDue s from to conditions
  due_before conditions x = record {
    interval = back _ _ _ _ _ cut_interval (joined_with s.wish.interval) x.interval;
    integrity = back _ _ _ _ _ cut_integrity (joined_with s.wish.integrity) x.integrity;
    change = x.change;
    no_others = x.no_others;
  }

module _ (s : SlotState) (from between to : ℕ) (le : from ≤ between)
    (none : AreDue s from between 0) where
  pub next_on : IsNextDue s from to → IsNextDue s between to
  next_on n = record {
    after = beyond between to (λ h. n.due (none_earlier s from to between h none));
    due = λ x. n.due (due_before s from between to le none 0 x);
    first = λ moment above below. due_on s from between moment le none 0
        (n.first moment (from_earlier from between moment le above) below);
  }

  pub next_before : IsNextDue s between to → IsNextDue s from to
  next_before n = record {
    after = from_earlier from between to le n.after;
    due = λ x. n.due (due_on s from between to le none 0 x);
    first = λ moment above below. ⊎_elim
        (λ later. due_before s from between moment le none 0 (n.first moment later below))
        (λ earlier. none_earlier s from moment between earlier none)
        (cases_lt between moment);
  }
