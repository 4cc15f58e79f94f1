-- A number above those of 64 bits is operated as the highest of them: no device takes either.
use Rattle.std.proofs.Common.{◌≡◌, ◌==◌, ◌≤◌, ℕ, ◌-◌, ◌^◌, ℤ, pos, negsuc, Bool, true, false}
use Rattle.std.proofs.Common.{List, length, refl, sym, ap, ◌∙◌, subst, ⊎_elim, arith}
use Rattle.std.proofs.Common.{length-set, get_or-set_same, get_or-set_other}
use Rattle.std.specs.Prelude.{int_le, nat_le, not, ◌&&◌, ◌||◌, if◌then◌else◌}
use Rattle.std.specs.Ordering.{int_eq}
use Rattle.std.proofs.lemmas.Bool.{and_parts, cases_eq, cases_lt}
use Rattle.std.proofs.lemmas.List.{get_or_past}
use Rattle.sbo_device.specs.declared.key.Key.{Key}
use Rattle.sbo_device.specs.declared.kind.CommandKind.{CommandKind}
use Rattle.sbo_device.specs.declared.kind.CommandKind.TheVariants.{Command, Setpoint}
use Rattle.sbo_device.specs.Moves.{DeviceMove, operated}
use Rattle.sbo_device.specs.States.{takes, inhibits, is_permitted, operate_answer, is_held_by}
use Rattle.sbo_device.specs.Banks.{DeviceRecord, device_at, moved, moved_at, order_by}
use Rattle.bilateral.specs.Words.Devices.{is_range, is_short}
use Rattle.node_core.specs.Slots.SlotWrites.{operand}

-- what a device takes is a range of 16 bits
abbrev pub AreRanged : List DeviceRecord → Type 0
AreRanged devices =
    (n : ℕ) → is_range (device_at devices n).state.point.kind ≡ true

-- what a move leaves, of the device at a place
pub by_place : (devices : List DeviceRecord) (k n : ℕ) (move : DeviceMove)
    (P : DeviceRecord → Type 0) → P (device_at devices n)
    → ((d : DeviceRecord) → P d → P (moved move d)) → P (device_at (moved_at k move devices) n)
by_place devices k n move P here kept =
    ⊎_elim
    (λ (same : n ≡ k). ⊎_elim
    (λ there. subst P
    (sym (ap (device_at (moved_at k move devices)) same
    ∙ get_or-set_same devices k (moved move (device_at devices k)) _ there))
    (kept (device_at devices k) (subst (λ (m : ℕ). P (device_at devices m)) same here)))
    (λ past. subst P
    (sym (get_or_past (moved_at k move devices) n _
    (omega (arith, past, same, length-set devices k (moved move (device_at devices k))))))
    (subst P (get_or_past devices n _ (omega (arith, past, same))) here))
    (cases_lt k (length devices)))
    (λ apart. subst P
    (sym (get_or-set_other devices k n (moved move (device_at devices k)) _ apart)) here)
    (cases_eq n k)

-- what a device takes stays
pub ranged_moved : (devices : List DeviceRecord) (k : ℕ) (move : DeviceMove) → AreRanged devices
    → AreRanged (moved_at k move devices)
ranged_moved devices k move ranged n =
    by_place devices k n move (λ (d : DeviceRecord). is_range d.state.point.kind ≡ true)
    (ranged n) (λ d range. range)

-- neither is in the list of what a device takes
beyond : (kind : CommandKind) (m : ℕ) → is_range kind ≡ true → 2 ^ 63 - 1 ≤ m
    → takes kind (pos m) ≡ false
beyond Command m range most = by (m == 0) (m == 1) refl refl
  where
    by : (a b : Bool) → (m == 0) ≡ a → (m == 1) ≡ b
        → (int_eq (pos m) (pos 0) || int_eq (pos m) (pos 1)) ≡ false
    by a b e f = grind (arith, most)
beyond (Setpoint low (pos h)) m range most =
    let parts = and_parts (is_short low && is_short (pos h)) (int_le low (pos h)) range in
    let shorts = and_parts (is_short low) (is_short (pos h)) parts.0 in
    let few = and_parts (int_le (negsuc 32767) (pos h)) (int_le (pos h) (pos 32767)) shorts.1 in
    last (int_le low (pos m)) (nat_le m h) (above m h few.1 most)
  where
    above : (m h : ℕ) → nat_le h 32767 ≡ true → 2 ^ 63 - 1 ≤ m → nat_le m h ≡ false
    above m h few most = grind (arith, few, most)

    last : (a b : Bool) → b ≡ false → (a && b) ≡ false
    last true b e = e
    last false b e = refl
beyond (Setpoint low (negsuc h)) m range most = last (int_le low (pos m))
  where
    last : (a : Bool) → (a && false) ≡ false
    last true = refl
    last false = refl

unpermitted : (a c : Bool) → (a && false && c) ≡ false
unpermitted true c = refl
unpermitted false c = refl

-- the answer, what it makes of the device, and the order are the same
pub record IsSameOperate (d : DeviceRecord) (n : ℕ) (key : Key) (one other : ℤ) : Type 0 where
  pub answer : operate_answer d.state key one ≡ operate_answer d.state key other
  pub moved : moved (operated key one) d ≡ moved (operated key other) d
  pub order : order_by n key one d.state ≡ order_by n key other d.state

untaken : (d : DeviceRecord) (n : ℕ) (key : Key) (one other : ℤ)
    → takes d.state.point.kind one ≡ false → takes d.state.point.kind other ≡ false
    → IsSameOperate d n key one other
untaken d n key one other a b =
    let none : is_permitted d.state key one ≡ false =
    ap (λ (t : Bool). (d.state.point.direct || is_held_by key d.state.hold) && t
    && not (inhibits d.state.tag d.state.point.kind one)) a
    ∙ unpermitted (d.state.point.direct || is_held_by key d.state.hold) _ in
    let nor : is_permitted d.state key other ≡ false =
    ap (λ (t : Bool). (d.state.point.direct || is_held_by key d.state.hold) && t
    && not (inhibits d.state.tag d.state.point.kind other)) b
    ∙ unpermitted (d.state.point.direct || is_held_by key d.state.hold) _ in
    record {
      answer = rw (a, b) refl;
      moved = rw (none, nor) refl;
      order = rw (none, nor) refl;
    }

same : (d : DeviceRecord) (n : ℕ) (key : Key) (z : ℤ) → IsSameOperate d n key z z
same d n key z = record { answer = refl; moved = refl; order = refl }

pub operand_same : (d : DeviceRecord) (n : ℕ) (key : Key) (z : ℤ)
    → is_range d.state.point.kind ≡ true → IsSameOperate d n key (operand z) z
operand_same d n key (negsuc m) range = same d n key (negsuc m)
operand_same d n key (pos m) range = by (nat_le (2 ^ 63) m) refl
  where
    by : (b : Bool) → nat_le (2 ^ 63) m ≡ b
        → IsSameOperate d n key (if b then pos (2 ^ 63 - 1) else pos m) (pos m)
    by true e =
        let far : 2 ^ 63 - 1 ≤ m = grind (arith, e) in
        untaken d n key (pos (2 ^ 63 - 1)) (pos m)
        (beyond d.state.point.kind (2 ^ 63 - 1) range (omega arith))
        (beyond d.state.point.kind m range far)
    by false e = same d n key (pos m)
