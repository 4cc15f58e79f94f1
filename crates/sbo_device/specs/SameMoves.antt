-- Moves of a device in which associations have other numbers, and in which some closes are left
-- out: what laws of views speak of.
use Rattle.std.specs.Prelude.{◌≡◌, ℕ, Bool, true, List, [], ◌∷◌, map, filter}
use Rattle.sbo_device.specs.declared.key.Key.{Key}
use Rattle.sbo_device.specs.declared.hold.Hold.{Hold}
use Rattle.sbo_device.specs.Moves.{DeviceMove, selected, operated, closed, ticked, tagged}

abbrev pub renumbered_key : (ℕ → ℕ) → Key → Key
renumbered_key number key = record { peer = number key.peer; ordinal = key.ordinal }

abbrev pub renumbered_hold : (ℕ → ℕ) → Hold → Hold
renumbered_hold number hold =
    record { key = renumbered_key number hold.key; until = hold.until }

-- a move in which peers have other numbers
abbrev pub renumbered : (ℕ → ℕ) → DeviceMove → DeviceMove
renumbered number (selected key now) = selected (renumbered_key number key) now
renumbered number (operated key value) = operated (renumbered_key number key) value
renumbered number (closed key) = closed (renumbered_key number key)
renumbered number (ticked now) = ticked now
renumbered number (tagged tag) = tagged tag

-- whether a move is kept where closes of other peers than the known ones are left out
abbrev pub is_kept : (ℕ → Bool) → DeviceMove → Bool
is_kept known (closed key) = known key.peer
is_kept known _ = true

-- different known peers have different numbers
abbrev pub TellsApart : (ℕ → Bool) → (ℕ → ℕ) → Type 0
TellsApart known number =
    (a b : ℕ) → known a ≡ true → known b ≡ true → number a ≡ number b → a ≡ b

-- only known peers select the device or operate it
abbrev pub AreByKnown : (ℕ → Bool) → List DeviceMove → Type 0
AreByKnown known [] = Unit {0}
AreByKnown known (selected key now ∷ moves) = (known key.peer ≡ true) × AreByKnown known moves
AreByKnown known (operated key value ∷ moves) = (known key.peer ≡ true) × AreByKnown known moves
AreByKnown known (_ ∷ moves) = AreByKnown known moves

-- these moves with other numbers of peers, without the closes of peers that aren't known
abbrev pub shown : (ℕ → Bool) → (ℕ → ℕ) → List DeviceMove → List DeviceMove
shown known number moves = map (renumbered number) (filter (is_kept known) moves)
