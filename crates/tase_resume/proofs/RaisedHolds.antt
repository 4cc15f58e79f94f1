-- A device's holder and tag where the associations have higher ordinals.
use Rattle.std.proofs.Common.{◌≡◌, ℕ, ◌+◌, ◌==◌, ℤ, Bool, true, false, not, ◌&&◌, ◌||◌}
use Rattle.std.proofs.Common.{if◌then◌else◌, Option, Some, None, is_some, refl, ap, sym, ◌∙◌, arith}
use Rattle.std.specs.Option.{option_map}
use Rattle.std.proofs.lemmas.Bool.{false≢true, eqb-true, eq-eqb, ne_eqb}
use Rattle.sbo_device.specs.declared.key.Key.{Key}
use Rattle.sbo_device.specs.declared.hold.Hold.{Hold}
use Rattle.sbo_device.specs.declared.answer.Select.TheVariants as select
use Rattle.sbo_device.specs.declared.answer.Operate.TheVariants as operate
use Rattle.sbo_device.specs.Moves.{DeviceState, DeviceMove, selected, operated, closed, ticked}
use Rattle.sbo_device.specs.Moves.{tagged}
use Rattle.sbo_device.specs.States.{same_key, is_held_by, is_held_by_other, has_run_out, takes}
use Rattle.sbo_device.specs.States.{inhibits, is_granted, is_permitted, after, select_answer}
use Rattle.sbo_device.specs.States.{operate_answer, ended_by}

-- by how much the ordinals of each peer are higher, by the peer's number
abbrev pub Offsets : Type 0
Offsets = ℕ → ℕ

abbrev pub raised_key : Offsets → Key → Key
raised_key offs key = record { peer = key.peer; ordinal = key.ordinal + offs key.peer }

abbrev pub raised_hold : Offsets → Hold → Hold
raised_hold offs hold = record { key = raised_key offs hold.key; until = hold.until }

abbrev pub raised_move : Offsets → DeviceMove → DeviceMove
raised_move offs (selected key now) = selected (raised_key offs key) now
raised_move offs (operated key value) = operated (raised_key offs key) value
raised_move offs (closed key) = closed (raised_key offs key)
raised_move offs (ticked now) = ticked now
raised_move offs (tagged tag) = tagged tag

abbrev pub raised_state : Offsets → DeviceState → DeviceState
raised_state offs s =
    record { point = s.point; tag = s.tag; hold = option_map (raised_hold offs) s.hold }

pub same_sum : (a b more : ℕ) → (a + more == b + more) ≡ (a == b)
same_sum a b more = by (a == b) refl
  where
    by : (t : Bool) → (a == b) ≡ t → (a + more == b + more) ≡ t
    by true e =
        let same : a ≡ b = eqb-true a b e in
        eq-eqb (a + more) (b + more) (ap (λ n. n + more) same)
    by false e =
        ne_eqb (a + more) (b + more)
        (λ same. let is : a ≡ b = omega (arith, same) in false≢true (sym e ∙ eq-eqb a b is))

pub same_key_raised : (offs : Offsets) (a b : Key)
    → same_key (raised_key offs a) (raised_key offs b) ≡ same_key a b
same_key_raised offs a b = by (a.peer == b.peer) refl
  where
    by : (t : Bool) → (a.peer == b.peer) ≡ t
        → (t && (a.ordinal + offs a.peer == b.ordinal + offs b.peer))
        ≡ (t && (a.ordinal == b.ordinal))
    by true e =
        ap (λ p. a.ordinal + offs a.peer == b.ordinal + offs p) (sym (eqb-true a.peer b.peer e))
        ∙ same_sum a.ordinal b.ordinal (offs a.peer)
    by false e = refl

held_raised : (offs : Offsets) (key : Key) (held : Option Hold)
    → is_held_by (raised_key offs key) (option_map (raised_hold offs) held) ≡ is_held_by key held
held_raised offs key None = refl
held_raised offs key (Some hold) = same_key_raised offs hold.key key

other_raised : (offs : Offsets) (key : Key) (held : Option Hold)
    → is_held_by_other (raised_key offs key) (option_map (raised_hold offs) held)
    ≡ is_held_by_other key held
other_raised offs key None = refl
other_raised offs key (Some hold) = ap not (same_key_raised offs hold.key key)

run_out_raised : (offs : Offsets) (now : ℕ) (held : Option Hold)
    → has_run_out now (option_map (raised_hold offs) held) ≡ has_run_out now held
run_out_raised offs now None = refl
run_out_raised offs now (Some hold) = refl

begun_raised : (offs : Offsets) (b : Bool) (hold : Hold) (held : Option Hold)
    → (if b then Some (raised_hold offs hold) else option_map (raised_hold offs) held)
    ≡ option_map (raised_hold offs) (if b then Some hold else held)
begun_raised offs true hold held = refl
begun_raised offs false hold held = refl

ended_raised : (offs : Offsets) (b : Bool) (held : Option Hold)
    → (if b then None else option_map (raised_hold offs) held)
    ≡ option_map (raised_hold offs) (if b then None else held)
ended_raised offs true held = refl
ended_raised offs false held = refl

with_hold : (s : DeviceState) (tag : ℕ) (a b : Option Hold) → a ≡ b
    → (let t : DeviceState = record { point = s.point; tag = tag; hold = a } in t)
    ≡ record { point = s.point; tag = tag; hold = b }
with_hold s tag a b e =
    ap (λ (h : Option Hold).
    let t : DeviceState = record { point = s.point; tag = tag; hold = h } in t) e

-- a device behind one move more
pub after_raised : (offs : Offsets) (move : DeviceMove) (s : DeviceState)
    → after (raised_move offs move) (raised_state offs s) ≡ raised_state offs (after move s)
after_raised offs (selected key now) s =
    with_hold s s.tag _ _
    (ap (λ t. if not s.point.direct && not t && not (s.tag == 1)
    then Some (record { key = raised_key offs key; until = now + s.point.span })
    else option_map (raised_hold offs) s.hold)
    (other_raised offs key s.hold)
    ∙ begun_raised offs (is_granted s key) (record { key = key; until = now + s.point.span })
    s.hold)
after_raised offs (operated key value) s =
    with_hold s s.tag _ _
    (ap (λ t. if (s.point.direct || t) && takes s.point.kind value
    && not (inhibits s.tag s.point.kind value)
    then None else option_map (raised_hold offs) s.hold)
    (held_raised offs key s.hold)
    ∙ ended_raised offs (is_permitted s key value) s.hold)
after_raised offs (closed key) s =
    with_hold s s.tag _ _
    (ap (λ t. if t then None else option_map (raised_hold offs) s.hold)
    (held_raised offs key s.hold)
    ∙ ended_raised offs (is_held_by key s.hold) s.hold)
after_raised offs (ticked now) s =
    with_hold s s.tag _ _
    (ap (λ t. if t then None else option_map (raised_hold offs) s.hold)
    (run_out_raised offs now s.hold)
    ∙ ended_raised offs (has_run_out now s.hold) s.hold)
after_raised offs (tagged tag) s = refl

-- selects and operates are answered alike
pub select_raised : (offs : Offsets) (s : DeviceState) (key : Key)
    → select_answer (raised_state offs s) (raised_key offs key) ≡ select_answer s key
select_raised offs s key =
    ap (λ t. if t then select.HeldByOther
    else if s.tag == 1 then select.Inhibited else select.Granted)
    (other_raised offs key s.hold)

pub operate_raised : (offs : Offsets) (s : DeviceState) (key : Key) (value : ℤ)
    → operate_answer (raised_state offs s) (raised_key offs key) value
    ≡ operate_answer s key value
operate_raised offs s key value =
    ap (λ t. if not (s.point.direct || t) then operate.NotHolder
    else if not (takes s.point.kind value) then operate.BadValue
    else if inhibits s.tag s.point.kind value then operate.Inhibited
    else operate.Ordered)
    (held_raised offs key s.hold)

-- a tick ends the same hold
pub ended_by_raised : (offs : Offsets) (now : ℕ) (s : DeviceState)
    → ended_by (ticked now) (raised_state offs s)
    ≡ option_map (raised_hold offs) (ended_by (ticked now) s)
ended_by_raised offs now s = by s.hold
  where
    one : (b : Bool) (hold : Hold)
        → (if is_some (if b then None else Some (raised_hold offs hold)) then None
        else Some (raised_hold offs hold))
        ≡ option_map (raised_hold offs)
        (if is_some (if b then None else Some hold) then None else Some hold)
    one true hold = refl
    one false hold = refl

    by : (held : Option Hold)
        → (if is_some (if has_run_out now (option_map (raised_hold offs) held) then None
        else option_map (raised_hold offs) held) then None
        else option_map (raised_hold offs) held)
        ≡ option_map (raised_hold offs)
        (if is_some (if has_run_out now held then None else held) then None else held)
    by None = refl
    by (Some hold) = one (has_run_out now (Some hold)) hold
