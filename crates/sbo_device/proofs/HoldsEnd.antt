-- What ends a hold, and that nothing else does.
use Rattle.std.proofs.Common.{◌≡◌, ◌⊎◌, ℕ, ◌+◌, ◌<◌, ◌≤◌, ◌==◌, ℤ, Bool, true, false, not, ◌&&◌}
use Rattle.std.proofs.Common.{List, [], ◌∷◌, Some, refl, sym, ap, ◌∙◌}
use Rattle.std.proofs.Common.{arith, inl, inr, Decides}
use Rattle.std.proofs.lemmas.Bool.{eq-eqb, false≢true}
use Rattle.sbo_device.specs.declared.key.Key.{Key}
use Rattle.sbo_device.specs.Moves.{ControlPoint, DeviceState, DeviceMove}
use Rattle.sbo_device.specs.Moves.{selected, operated, closed, ticked, tagged}
use Rattle.sbo_device.specs.States.{state_in, after, tag_of, is_granted, is_permitted}
use Rattle.sbo_device.specs.States.{select_answer}
use Rattle.sbo_device.specs.States.{is_held_by_other}
use Rattle.sbo_device.specs.Holders.{Holds, MayTake, IsPermitted, EndsHold, IsExtended}
use Rattle.sbo_device.proofs.OneHolder.{agrees_always, one_holder, may_take, may_operate}

-- a device that is held isn't direct
selectable : (point : ControlPoint) (moves : List DeviceMove) (key : Key) (until : ℕ)
    → Holds point moves key until → point.direct ≡ false
selectable point [] key until h = absurd h
selectable point (selected by now ∷ moves) key until h = elim h [
  | inl taken ↦ taken.0.0
  | inr kept ↦ selectable point moves key until kept.1
]
selectable point (operated by value ∷ moves) key until h = selectable point moves key until h.0
selectable point (closed by ∷ moves) key until h = selectable point moves key until h.0
selectable point (ticked now ∷ moves) key until h = selectable point moves key until h.0
selectable point (tagged tag ∷ moves) key until h = selectable point moves key until h

pub ended : (point : ControlPoint) (moves : List DeviceMove) (move : DeviceMove)
    (key other : Key) (until later : ℕ) → Holds point moves key until
    → EndsHold point moves key until move → Holds point (move ∷ moves) other later → ⊥
ended point moves (selected by now) key other until later h end held = absurd end
ended point moves (operated by value) key other until later h end held = held.1 end.1
ended point moves (closed by) key other until later h end held =
    held.1 (end ∙ (one_holder point moves key other until later h held.0).0)
ended point moves (ticked now) key other until later h end held =
    let same : until ≡ later = (one_holder point moves key other until later h held.0).1 in
    let before : now < later = held.1 in
    let reached : until ≤ now = end in
    omega (arith, same, before, reached)
ended point moves (tagged tag) key other until later h end held = absurd end

not_reached : (until now : ℕ) → (until ≤ now → ⊥) → now < until
not_reached until now never = grind arith

-- only the holder may operate a device that is held
by_holder : (point : ControlPoint) (moves : List DeviceMove) (by key : Key) (value : ℤ) (until : ℕ)
    → Holds point moves key until → IsPermitted point moves by value → by ≡ key
by_holder point moves by key value until h p = elim p.0 [
  | inl direct ↦ absurd (false≢true (sym (selectable point moves key until h) ∙ direct))
  | inr holds ↦ (one_holder point moves by key holds.0 until holds.1 h).0
]

pub kept_otherwise : (point : ControlPoint) (moves : List DeviceMove) (move : DeviceMove)
    (key : Key) (until : ℕ) → Holds point moves key until
    → (EndsHold point moves key until move → ⊥)
    → Holds point (move ∷ moves) key until ⊎ IsExtended point moves key move
kept_otherwise point moves (selected by now) key until h never =
    which (is_granted (state_in point moves) by) refl
  where
    d : Decides (is_granted (state_in point moves) by)
        (MayTake point (tag_of moves).tag (Holds point moves) by)
    d = may_take point moves by (agrees_always point moves)

    which : (b : Bool) → is_granted (state_in point moves) by ≡ b
        → Holds point (selected by now ∷ moves) key until
        ⊎ IsExtended point moves key (selected by now)
    which true e =
        let may = d.0 e in let same : key ≡ by = may.1 key until h in
        inr (now, ap (λ k. selected k now) (sym same), inl (may, sym same, refl))
    which false e = inl (inr (λ may. false≢true (sym e ∙ d.1 may), h))
kept_otherwise point moves (operated by value) key until h never =
    which (is_permitted (state_in point moves) by value) refl
  where
    d : Decides (is_permitted (state_in point moves) by value)
        (IsPermitted point moves by value)
    d = may_operate point moves by value (agrees_always point moves)

    which : (b : Bool) → is_permitted (state_in point moves) by value ≡ b
        → Holds point (operated by value ∷ moves) key until
        ⊎ IsExtended point moves key (operated by value)
    which true e =
        let may = d.0 e in
        absurd (never (by_holder point moves by key value until h may, may))
    which false e = inl (h, λ may. false≢true (sym e ∙ d.1 may))
kept_otherwise point moves (closed by) key until h never = inl (h, never)
kept_otherwise point moves (ticked now) key until h never = inl (h, not_reached until now never)
kept_otherwise point moves (tagged tag) key until h never = inl h

-- the answer behind a select that was granted, and behind one that wasn't
own_hold : (key : Key) (until : ℕ)
    → is_held_by_other key (Some (record { key = key; until = until })) ≡ false
own_hold key until =
    rw (eq-eqb key.peer key.peer refl, eq-eqb key.ordinal key.ordinal refl) refl

free_for : (direct other inhibited : Bool)
    → (not direct && not other && not inhibited) ≡ true → other ≡ false
free_for direct true inhibited e = never direct e
  where
    never : (direct : Bool) → (not direct && false && not inhibited) ≡ true → true ≡ false
    never true e = absurd (false≢true e)
    never false e = absurd (false≢true e)
free_for direct false inhibited e = refl

pub answered_alike : (s : DeviceState) (key : Key) (now : ℕ)
    → select_answer (after (selected key now) s) key ≡ select_answer s key
answered_alike s key now = by (is_granted s key) refl
  where
    by : (b : Bool) → is_granted s key ≡ b
        → select_answer (after (selected key now) s) key ≡ select_answer s key
    by true e =
        rw (
          e,
          own_hold key (now + s.point.span),
          free_for s.point.direct (is_held_by_other key s.hold) (s.tag == 1) e,
        ) refl
    by false e = rw e refl
