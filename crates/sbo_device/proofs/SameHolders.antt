-- A device's holder and tag don't depend on how peers are numbered, nor on closes of peers that
-- never select it.
use Rattle.std.proofs.Common.{◌≡◌, ℕ, ◌+◌, ◌==◌, ℤ, Bool, true, false, not, ◌&&◌, ◌||◌}
use Rattle.std.proofs.Common.{if◌then◌else◌, List, [], ◌∷◌, Option, Some, None, refl, sym, ap}
use Rattle.std.proofs.Common.{◌∙◌}
use Rattle.std.specs.Option.{option_map}
use Rattle.std.proofs.lemmas.Bool.{false≢true, eqb-true, eq-eqb, ne_eqb}
use Rattle.sbo_device.specs.declared.key.Key.{Key}
use Rattle.sbo_device.specs.declared.hold.Hold.{Hold}
use Rattle.sbo_device.specs.Moves.{ControlPoint, DeviceState, DeviceMove}
use Rattle.sbo_device.specs.Moves.{selected, operated, closed, ticked, tagged}
use Rattle.sbo_device.specs.States.{is_held_by, is_held_by_other, has_run_out, takes}
use Rattle.sbo_device.specs.States.{inhibits, is_granted, is_permitted, after}
use Rattle.sbo_device.specs.States.{state_in, tag_of, hold_of}
use Rattle.sbo_device.specs.SameMoves.{renumbered_key, renumbered_hold, shown}
use Rattle.sbo_device.specs.SameMoves.{TellsApart, AreByKnown}

same_number : (known : ℕ → Bool) (number : ℕ → ℕ) → TellsApart known number → (a b : ℕ)
    → known a ≡ true → known b ≡ true → (number a == number b) ≡ (a == b)
same_number known number apart a b one other = by (a == b) refl
  where
    by : (t : Bool) → (a == b) ≡ t → (number a == number b) ≡ t
    by true e = eq-eqb (number a) (number b) (ap number (eqb-true a b e))
    by false e =
        ne_eqb (number a) (number b)
        (λ same. false≢true (sym e ∙ eq-eqb a b (apart a b one other same)))

-- whoever holds is known
abbrev is_known_hold : (ℕ → Bool) → Option Hold → Bool
is_known_hold known None = true
is_known_hold known (Some hold) = known hold.key.peer

abbrev renumbered_state : (ℕ → ℕ) → DeviceState → DeviceState
renumbered_state number s =
    record { point = s.point; tag = s.tag; hold = option_map (renumbered_hold number) s.hold }

held_alike : (known : ℕ → Bool) (number : ℕ → ℕ) → TellsApart known number → (key : Key)
    (held : Option Hold) → is_known_hold known held ≡ true → known key.peer ≡ true
    → is_held_by (renumbered_key number key) (option_map (renumbered_hold number) held)
    ≡ is_held_by key held
held_alike known number apart key None mine its = refl
held_alike known number apart key (Some hold) mine its =
    ap (λ t. t && (hold.key.ordinal == key.ordinal))
    (same_number known number apart hold.key.peer key.peer mine its)

other_alike : (known : ℕ → Bool) (number : ℕ → ℕ) → TellsApart known number → (key : Key)
    (held : Option Hold) → is_known_hold known held ≡ true → known key.peer ≡ true
    → is_held_by_other (renumbered_key number key) (option_map (renumbered_hold number) held)
    ≡ is_held_by_other key held
other_alike known number apart key None mine its = refl
other_alike known number apart key (Some hold) mine its =
    ap (λ t. not (t && (hold.key.ordinal == key.ordinal)))
    (same_number known number apart hold.key.peer key.peer mine its)

run_out_alike : (number : ℕ → ℕ) (now : ℕ) (held : Option Hold)
    → has_run_out now (option_map (renumbered_hold number) held) ≡ has_run_out now held
run_out_alike number now None = refl
run_out_alike number now (Some hold) = refl

-- a peer that isn't known holds nothing
unknown_holds_nothing : (known : ℕ → Bool) (key : Key) (held : Option Hold)
    → is_known_hold known held ≡ true → known key.peer ≡ false → is_held_by key held ≡ false
unknown_holds_nothing known key None mine its = refl
unknown_holds_nothing known key (Some hold) mine its = by (hold.key.peer == key.peer) refl
  where
    by : (t : Bool) → (hold.key.peer == key.peer) ≡ t
        → (t && (hold.key.ordinal == key.ordinal)) ≡ false
    by true e =
        absurd (false≢true (sym its ∙ sym (ap known (eqb-true hold.key.peer key.peer e)) ∙ mine))
    by false e = refl

chosen_alike : (number : ℕ → ℕ) (b : Bool) (hold : Hold) (held : Option Hold)
    → (if b then Some (renumbered_hold number hold) else option_map (renumbered_hold number) held)
    ≡ option_map (renumbered_hold number) (if b then Some hold else held)
chosen_alike number true hold held = refl
chosen_alike number false hold held = refl

ended_alike : (number : ℕ → ℕ) (b : Bool) (held : Option Hold)
    → (if b then None else option_map (renumbered_hold number) held)
    ≡ option_map (renumbered_hold number) (if b then None else held)
ended_alike number true held = refl
ended_alike number false held = refl

chosen_known : (known : ℕ → Bool) (b : Bool) (hold : Hold) (held : Option Hold)
    → known hold.key.peer ≡ true → is_known_hold known held ≡ true
    → is_known_hold known (if b then Some hold else held) ≡ true
chosen_known known true hold held its mine = its
chosen_known known false hold held its mine = mine

ended_known : (known : ℕ → Bool) (b : Bool) (held : Option Hold)
    → is_known_hold known held ≡ true
    → is_known_hold known (if b then None else held) ≡ true
ended_known known true held mine = refl
ended_known known false held mine = mine

with_hold : (s : DeviceState) (tag : ℕ) (a b : Option Hold) → a ≡ b
    → (let t : DeviceState = record { point = s.point; tag = tag; hold = a } in t)
    ≡ record { point = s.point; tag = tag; hold = b }
with_hold s tag a b e =
    ap (λ (h : Option Hold).
    let t : DeviceState = record { point = s.point; tag = tag; hold = h } in t) e

-- one move more, made by a known peer, and the same of the peer with the other number
selects_alike : (known : ℕ → Bool) (number : ℕ → ℕ) → TellsApart known number → (key : Key)
    (now : ℕ) (s : DeviceState) → is_known_hold known s.hold ≡ true → known key.peer ≡ true
    → after (selected (renumbered_key number key) now) (renumbered_state number s)
    ≡ renumbered_state number (after (selected key now) s)
selects_alike known number apart key now s mine its =
    with_hold s s.tag _ _
    (ap (λ t. if not s.point.direct && not t && not (s.tag == 1)
    then Some (record { key = renumbered_key number key; until = now + s.point.span })
    else option_map (renumbered_hold number) s.hold)
    (other_alike known number apart key s.hold mine its)
    ∙ chosen_alike number (is_granted s key) (record { key = key; until = now + s.point.span })
    s.hold)

operates_alike : (known : ℕ → Bool) (number : ℕ → ℕ) → TellsApart known number → (key : Key)
    (value : ℤ) (s : DeviceState) → is_known_hold known s.hold ≡ true → known key.peer ≡ true
    → after (operated (renumbered_key number key) value) (renumbered_state number s)
    ≡ renumbered_state number (after (operated key value) s)
operates_alike known number apart key value s mine its =
    with_hold s s.tag _ _
    (ap (λ t. if (s.point.direct || t) && takes s.point.kind value
    && not (inhibits s.tag s.point.kind value)
    then None else option_map (renumbered_hold number) s.hold)
    (held_alike known number apart key s.hold mine its)
    ∙ ended_alike number (is_permitted s key value) s.hold)

closes_alike : (known : ℕ → Bool) (number : ℕ → ℕ) → TellsApart known number → (key : Key)
    (s : DeviceState) → is_known_hold known s.hold ≡ true → known key.peer ≡ true
    → after (closed (renumbered_key number key)) (renumbered_state number s)
    ≡ renumbered_state number (after (closed key) s)
closes_alike known number apart key s mine its =
    with_hold s s.tag _ _
    (ap (λ t. if t then None else option_map (renumbered_hold number) s.hold)
    (held_alike known number apart key s.hold mine its)
    ∙ ended_alike number (is_held_by key s.hold) s.hold)

ticks_alike : (number : ℕ → ℕ) (now : ℕ) (s : DeviceState)
    → after (ticked now) (renumbered_state number s)
    ≡ renumbered_state number (after (ticked now) s)
ticks_alike number now s =
    with_hold s s.tag _ _
    (ap (λ t. if t then None else option_map (renumbered_hold number) s.hold)
    (run_out_alike number now s.hold)
    ∙ ended_alike number (has_run_out now s.hold) s.hold)

-- the close of a peer that isn't known leaves the device as it is
close_unseen : (known : ℕ → Bool) (key : Key) (s : DeviceState)
    → is_known_hold known s.hold ≡ true → known key.peer ≡ false
    → s ≡ after (closed key) s
close_unseen known key s mine its =
    rw (unknown_holds_nothing known key s.hold mine its) refl

-- a list that a test lengthens
shown_close : (known : ℕ → Bool) (number : ℕ → ℕ) (key : Key) (moves : List DeviceMove)
    (P : List DeviceMove → Type 0)
    → (known key.peer ≡ true → P (closed (renumbered_key number key) ∷ shown known number moves))
    → (known key.peer ≡ false → P (shown known number moves))
    → P (shown known number (closed key ∷ moves))
shown_close known number key moves P kept left = by (known key.peer) refl
  where
    by : (t : Bool) → known key.peer ≡ t → P (shown known number (closed key ∷ moves))
    by true e = rw e (kept e)
    by false e = rw e (left e)

-- the tag and its reason are the same
pub tag_shown : (known : ℕ → Bool) (number : ℕ → ℕ) (moves : List DeviceMove)
    → tag_of (shown known number moves) ≡ tag_of moves
tag_shown known number [] = refl
tag_shown known number (selected key now ∷ moves) = tag_shown known number moves
tag_shown known number (operated key value ∷ moves) = tag_shown known number moves
tag_shown known number (closed key ∷ moves) =
    let rest = tag_shown known number moves in
    shown_close known number key moves (λ l. tag_of l ≡ tag_of moves) (λ e. rest) (λ e. rest)
tag_shown known number (ticked now ∷ moves) = tag_shown known number moves
tag_shown known number (tagged tag ∷ moves) = refl

-- a device whose holder is known, and how it is shown
abbrev IsShown : (ℕ → Bool) → (ℕ → ℕ) → ControlPoint → List DeviceMove → List DeviceMove → Type 0
IsShown known number point moves these =
    (is_known_hold known (hold_of point moves) ≡ true)
    × (state_in point these ≡ renumbered_state number (state_in point moves))

device_shown : (known : ℕ → Bool) (number : ℕ → ℕ) → TellsApart known number
    → (point : ControlPoint) (moves : List DeviceMove) → AreByKnown known moves
    → IsShown known number point moves (shown known number moves)
device_shown known number apart point [] known_all = (refl, refl)
device_shown known number apart point (selected key now ∷ moves) known_all =
    let before = device_shown known number apart point moves known_all.1 in
    let s = state_in point moves in (
      chosen_known known (is_granted s key) (record { key = key; until = now + s.point.span })
          s.hold known_all.0 before.0,
      ap (λ (d : DeviceState). after (selected (renumbered_key number key) now) d) before.1
          ∙ selects_alike known number apart key now s before.0 known_all.0,
    )
device_shown known number apart point (operated key value ∷ moves) known_all =
    let before = device_shown known number apart point moves known_all.1 in
    let s = state_in point moves in (
      ended_known known (is_permitted s key value) s.hold before.0,
      ap (λ (d : DeviceState). after (operated (renumbered_key number key) value) d) before.1
          ∙ operates_alike known number apart key value s before.0 known_all.0,
    )
device_shown known number apart point (closed key ∷ moves) known_all =
    let before = device_shown known number apart point moves known_all in
    let s = state_in point moves in
    shown_close known number key moves (IsShown known number point (closed key ∷ moves))
    (λ e. (
      ended_known known (is_held_by key s.hold) s.hold before.0,
      ap (λ (d : DeviceState). after (closed (renumbered_key number key)) d) before.1
          ∙ closes_alike known number apart key s before.0 e,
    ))
    (λ e. (
      ended_known known (is_held_by key s.hold) s.hold before.0,
      before.1 ∙ ap (renumbered_state number) (close_unseen known key s before.0 e),
    ))
device_shown known number apart point (ticked now ∷ moves) known_all =
    let before = device_shown known number apart point moves known_all in
    let s = state_in point moves in (
      ended_known known (has_run_out now s.hold) s.hold before.0,
      ap (λ (d : DeviceState). after (ticked now) d) before.1 ∙ ticks_alike number now s,
    )
device_shown known number apart point (tagged tag ∷ moves) known_all =
    let before = device_shown known number apart point moves known_all in
    (before.0, ap (λ (d : DeviceState). after (tagged tag) d) before.1)

-- the holder is the same, by its other number
pub hold_shown : (known : ℕ → Bool) (number : ℕ → ℕ) → TellsApart known number
    → (point : ControlPoint) (moves : List DeviceMove) → AreByKnown known moves
    → hold_of point (shown known number moves)
    ≡ option_map (renumbered_hold number) (hold_of point moves)
hold_shown known number apart point moves known_all =
    ap (λ (d : DeviceState). d.hold) (device_shown known number apart point moves known_all).1
