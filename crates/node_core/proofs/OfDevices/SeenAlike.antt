-- A device that is kept as a view shows it is answered of, ends and moves as in the view.
use Rattle.std.proofs.Common.{◌≡◌, ◌↔◌, ℕ, ◌+◌, ◌==◌, nat_le, ℤ, Bool, true, false, not, ◌&&◌}
use Rattle.std.proofs.Common.{◌||◌, if◌then◌else◌, List, ◌∷◌, Option, Some, None, is_some}
use Rattle.std.proofs.Common.{subst, refl, sym, ap, ◌∙◌}
use Rattle.std.specs.Option.{option_map_or}
use Rattle.std.proofs.lemmas.Bool.{false≢true, eqb-true, eq-eqb, ne_eqb}
use Rattle.sbo_device.specs.declared.key.Key.{Key}
use Rattle.sbo_device.specs.declared.hold.Hold.{Hold}
use Rattle.sbo_device.specs.declared.answer.Select.{Select}
use Rattle.sbo_device.specs.declared.answer.Select.TheVariants as select
use Rattle.sbo_device.specs.declared.answer.Operate.{Operate}
use Rattle.sbo_device.specs.declared.answer.Operate.TheVariants as operate
use Rattle.sbo_device.specs.Moves.{ControlPoint, DeviceState, Tag, DeviceAct, selecting, operating}
use Rattle.sbo_device.specs.Moves.{tagging, DeviceMove, ticked}
use Rattle.sbo_device.specs.States.{same_key, is_held_by, is_held_by_other, takes, inhibits}
use Rattle.sbo_device.specs.States.{is_granted, is_permitted, has_run_out, hold_after}
use Rattle.sbo_device.specs.States.{state_in, tag_of, hold_of, ended_by, select_answer}
use Rattle.sbo_device.specs.States.{operate_answer, hold_ended}
use Rattle.sbo_device.specs.Banks.{DeviceRecord, moved, tag_shown}
use Rattle.sbo_device.proofs.OneHolder.{tag_is_last, point_stays}
use Rattle.tase_views.specs.OwnTables.{OwnDevice, OwnTables, control_of}
use Rattle.tase_views.specs.Devices.{done_by}
use Rattle.tase_views.specs.View.{View, own_key, moves_seen}
use Rattle.tase_views.specs.Answers.{device_state}
use Rattle.node_core.specs.Devices.DevicesSeen.{IsHoldSeen, IsDeviceSeen}

-- the association of a peer
abbrev pub key_of : ℕ → ℕ → Key
key_of peer ordinal = record { peer = peer; ordinal = ordinal }

-- a state as a peer sees it, and a device behind moves that a view shows
pub record IsLike (peer : ℕ) (kept seen : DeviceState) : Type 0 where
  pub point : kept.point ≡ seen.point
  pub tag : kept.tag ≡ seen.tag
  pub hold : IsHoldSeen peer kept.hold seen.hold

pub record IsKeptBy (peer : ℕ) (d : OwnDevice) (moves : List DeviceMove) (kept : DeviceRecord)
    : Type 0 where
  pub point : kept.state.point ≡ control_of d
  pub hold : IsHoldSeen peer kept.state.hold (hold_of (control_of d) moves)
  pub tag : tag_shown kept ≡ tag_of moves

pub like_kept : (peer : ℕ) (d : OwnDevice) (moves : List DeviceMove) (kept : DeviceRecord)
    → IsKeptBy peer d moves kept → IsLike peer kept.state (state_in (control_of d) moves)
like_kept peer d moves kept by_moves = record {
  point = by_moves.point ∙ sym (point_stays (control_of d) moves);
  tag = ap (λ (t : Tag). t.tag) by_moves.tag ∙ sym (tag_is_last (control_of d) moves);
  hold = by_moves.hold;
}

pub kept_seen : (tables : OwnTables) (view : View) (peer : ℕ) (d : OwnDevice)
    (kept : DeviceRecord) → IsDeviceSeen tables view peer d kept
    → IsKeptBy peer d (moves_seen tables view d.row.name) kept
kept_seen tables view peer d kept seen =
    record { point = seen.point; hold = seen.hold; tag = seen.tag }

pub seen_kept : (tables : OwnTables) (view : View) (peer : ℕ) (d : OwnDevice)
    (kept : DeviceRecord) → IsKeptBy peer d (moves_seen tables view d.row.name) kept
    → IsDeviceSeen tables view peer d kept
seen_kept tables view peer d kept by_moves =
    record { point = by_moves.point; hold = by_moves.hold; tag = by_moves.tag }

like_seen : (tables : OwnTables) (view : View) (peer : ℕ) (d : OwnDevice) (kept : DeviceRecord)
    → IsDeviceSeen tables view peer d kept → IsLike peer kept.state (device_state tables view d)
like_seen tables view peer d kept seen =
    like_kept peer d (moves_seen tables view d.row.name) kept
    (kept_seen tables view peer d kept seen)

-- who holds it

same_peer : (number peer other : ℕ) → ((number ≡ 0) ↔ (other ≡ peer))
    → (other == peer) ≡ (number == 0)
same_peer number peer other both = by (other == peer) refl
  where
    by : (t : Bool) → (other == peer) ≡ t → (other == peer) ≡ (number == 0)
    by true e = e ∙ sym (eq-eqb number 0 (both.1 (eqb-true other peer e)))
    by false e =
        e ∙ sym (ne_eqb number 0 (λ none. false≢true (sym e ∙ eq-eqb other peer (both.0 none))))

same_holder : (number peer ordinal : ℕ) (hold : Hold) → ((number ≡ 0) ↔ (hold.key.peer ≡ peer))
    → same_key hold.key (key_of peer ordinal)
    ≡ same_key (key_of number hold.key.ordinal) (own_key ordinal)
same_holder number peer ordinal hold both =
    ap (λ (t : Bool). t && (hold.key.ordinal == ordinal))
    (same_peer number peer hold.key.peer both)

held_alike : (peer ordinal : ℕ) (held seen : Option Hold) → IsHoldSeen peer held seen
    → is_held_by (key_of peer ordinal) held ≡ is_held_by (own_key ordinal) seen
held_alike peer ordinal None seen e = sym (ap (is_held_by (own_key ordinal)) e)
held_alike peer ordinal (Some hold) seen its =
    same_holder its.0 peer ordinal hold its.2
    ∙ sym (ap (is_held_by (own_key ordinal)) its.1)

other_alike : (peer ordinal : ℕ) (held seen : Option Hold) → IsHoldSeen peer held seen
    → is_held_by_other (key_of peer ordinal) held ≡ is_held_by_other (own_key ordinal) seen
other_alike peer ordinal None seen e = sym (ap (is_held_by_other (own_key ordinal)) e)
other_alike peer ordinal (Some hold) seen its =
    ap not (same_holder its.0 peer ordinal hold its.2)
    ∙ sym (ap (is_held_by_other (own_key ordinal)) its.1)

-- answers, by the point, the tag and the test of the hold

abbrev select_by : ℕ → Bool → Select
select_by tag other =
    if other then select.HeldByOther else if tag == 1 then select.Inhibited else select.Granted

abbrev operate_by : ControlPoint → ℕ → ℤ → Bool → Operate
operate_by point tag value holds =
    if not (point.direct || holds) then operate.NotHolder
    else if not (takes point.kind value) then operate.BadValue
    else if inhibits tag point.kind value then operate.Inhibited
    else operate.Ordered

abbrev granted_by : ControlPoint → ℕ → Bool → Bool
granted_by point tag other = not point.direct && not other && not (tag == 1)

abbrev permitted_by : ControlPoint → ℕ → ℤ → Bool → Bool
permitted_by point tag value holds =
    (point.direct || holds) && takes point.kind value && not (inhibits tag point.kind value)

-- what is told of the point, the tag and a test is the same
told_alike : {A : Type 0} (f : ControlPoint → ℕ → Bool → A) (peer : ℕ) (kept seen : DeviceState)
    (test same : Bool) → IsLike peer kept seen → test ≡ same
    → f kept.point kept.tag test ≡ f seen.point seen.tag same
told_alike f peer kept seen test same like e =
    ap (λ (p : ControlPoint). f p kept.tag test) like.point
    ∙ ap (λ (t : ℕ). f seen.point t test) like.tag ∙ ap (f seen.point seen.tag) e

select_like : (peer ordinal : ℕ) (kept seen : DeviceState) → IsLike peer kept seen
    → select_answer kept (key_of peer ordinal) ≡ select_answer seen (own_key ordinal)
select_like peer ordinal kept seen like =
    told_alike (λ point tag other. select_by tag other) peer kept seen _ _ like
    (other_alike peer ordinal kept.hold seen.hold like.hold)

operate_like : (peer ordinal : ℕ) (value : ℤ) (kept seen : DeviceState) → IsLike peer kept seen
    → operate_answer kept (key_of peer ordinal) value ≡ operate_answer seen (own_key ordinal) value
operate_like peer ordinal value kept seen like =
    told_alike (λ point tag holds. operate_by point tag value holds) peer kept seen _ _ like
    (held_alike peer ordinal kept.hold seen.hold like.hold)

granted_like : (peer ordinal : ℕ) (kept seen : DeviceState) → IsLike peer kept seen
    → is_granted kept (key_of peer ordinal) ≡ is_granted seen (own_key ordinal)
granted_like peer ordinal kept seen like =
    told_alike granted_by peer kept seen _ _ like
    (other_alike peer ordinal kept.hold seen.hold like.hold)

permitted_like : (peer ordinal : ℕ) (value : ℤ) (kept seen : DeviceState) → IsLike peer kept seen
    → is_permitted kept (key_of peer ordinal) value ≡ is_permitted seen (own_key ordinal) value
permitted_like peer ordinal value kept seen like =
    told_alike (λ point tag holds. permitted_by point tag value holds) peer kept seen _ _ like
    (held_alike peer ordinal kept.hold seen.hold like.hold)

pub select_alike : (tables : OwnTables) (view : View) (peer ordinal : ℕ) (d : OwnDevice)
    (kept : DeviceRecord) → IsDeviceSeen tables view peer d kept
    → select_answer kept.state (record { peer = peer; ordinal = ordinal })
    ≡ select_answer (device_state tables view d) (own_key ordinal)
select_alike tables view peer ordinal d kept seen =
    select_like peer ordinal kept.state (device_state tables view d)
    (like_seen tables view peer d kept seen)

pub operate_alike : (tables : OwnTables) (view : View) (peer ordinal : ℕ) (d : OwnDevice)
    (kept : DeviceRecord) (value : ℤ) → IsDeviceSeen tables view peer d kept
    → operate_answer kept.state (record { peer = peer; ordinal = ordinal }) value
    ≡ operate_answer (device_state tables view d) (own_key ordinal) value
operate_alike tables view peer ordinal d kept value seen =
    operate_like peer ordinal value kept.state (device_state tables view d)
    (like_seen tables view peer d kept seen)

-- the hold that a tick ends

abbrev ended_in : ℕ → Option Hold → Option Hold
ended_in now held = if is_some (if has_run_out now held then None else held) then None else held

abbrev is_of : Key → Option Hold → Bool
is_of key held = option_map_or (λ (hold : Hold). same_key hold.key key) held false

end_like : (peer ordinal now : ℕ) (held seen : Option Hold) → IsHoldSeen peer held seen
    → is_of (key_of peer ordinal) (ended_in now held) ≡ is_of (own_key ordinal) (ended_in now seen)
end_like peer ordinal now None seen e =
    sym (ap (λ (h : Option Hold). is_of (own_key ordinal) (ended_in now h)) e)
end_like peer ordinal now (Some hold) seen its =
    by (nat_le hold.until now)
    ∙ sym (ap (λ (h : Option Hold). is_of (own_key ordinal) (ended_in now h)) its.1)
  where
    by : (t : Bool)
        → is_of (key_of peer ordinal)
        (if is_some (if t then None else Some hold) then None else Some hold)
        ≡ is_of (own_key ordinal)
        (let h : Hold = record { key = key_of its.0 hold.key.ordinal; until = hold.until } in
        if is_some (if t then None else Some h) then None else Some h)
    by true = same_holder its.0 peer ordinal hold its.2
    by false = refl

pub end_alike : (tables : OwnTables) (view : View) (peer ordinal now : ℕ) (d : OwnDevice)
    (kept : DeviceRecord) → IsDeviceSeen tables view peer d kept
    → option_map_or (λ (hold : Hold). same_key hold.key
    (record { peer = peer; ordinal = ordinal })) (ended_by (ticked now) kept.state) false
    ≡ option_map_or (λ (hold : Hold). same_key hold.key (own_key ordinal))
    (hold_ended (control_of d) (moves_seen tables view d.row.name) now) false
end_alike tables view peer ordinal now d kept seen =
    end_like peer ordinal now kept.state.hold (device_state tables view d).hold seen.hold

-- what an association of the peer does to it

seen_if : (peer : ℕ) (t : Bool) (one other seen_one seen_other : Option Hold)
    → IsHoldSeen peer one seen_one → IsHoldSeen peer other seen_other
    → IsHoldSeen peer (if t then one else other) (if t then seen_one else seen_other)
seen_if peer true one other seen_one seen_other first second = first
seen_if peer false one other seen_one seen_other first second = second

abbrev held_for : Key → ℕ → Option Hold
held_for key until = Some (record { key = key; until = until })

hold_like : (peer ordinal now : ℕ) (act : DeviceAct) (kept seen : DeviceState)
    → IsLike peer kept seen
    → IsHoldSeen peer (hold_after (done_by (key_of peer ordinal) now act) kept)
    (hold_after (done_by (own_key ordinal) now act) seen)
hold_like peer ordinal now selecting kept seen like =
    subst (λ (t : Bool). IsHoldSeen peer
    (hold_after (done_by (key_of peer ordinal) now selecting) kept)
    (if t then held_for (own_key ordinal) (now + seen.point.span) else seen.hold))
    (granted_like peer ordinal kept seen like)
    (seen_if peer (is_granted kept (key_of peer ordinal))
    (held_for (key_of peer ordinal) (now + kept.point.span)) kept.hold
    (held_for (own_key ordinal) (now + seen.point.span)) seen.hold (
      0,
      ap (λ (p : ControlPoint). held_for (own_key ordinal) (now + p.span)) (sym like.point),
      (λ none. refl, λ same. refl),
    ) like.hold)
hold_like peer ordinal now (operating value) kept seen like =
    subst (λ (t : Bool). IsHoldSeen peer
    (hold_after (done_by (key_of peer ordinal) now (operating value)) kept)
    (if t then None else seen.hold)) (permitted_like peer ordinal value kept seen like)
    (seen_if peer (is_permitted kept (key_of peer ordinal) value) None kept.hold None seen.hold
    refl like.hold)
hold_like peer ordinal now (tagging tag) kept seen like = like.hold

tag_like : (peer ordinal now : ℕ) (act : DeviceAct) (moves : List DeviceMove)
    (kept : DeviceRecord) → tag_shown kept ≡ tag_of moves
    → tag_shown (moved (done_by (key_of peer ordinal) now act) kept)
    ≡ tag_of (done_by (own_key ordinal) now act ∷ moves)
tag_like peer ordinal now selecting moves kept e = e
tag_like peer ordinal now (operating value) moves kept e = e
tag_like peer ordinal now (tagging tag) moves kept e = refl

pub moved_alike : (peer ordinal now : ℕ) (act : DeviceAct) (d : OwnDevice)
    (moves : List DeviceMove) (kept : DeviceRecord) → IsKeptBy peer d moves kept
    → IsKeptBy peer d (done_by (own_key ordinal) now act ∷ moves)
    (moved (done_by (record { peer = peer; ordinal = ordinal }) now act) kept)
moved_alike peer ordinal now act d moves kept by_moves = record {
  point = by_moves.point;
  hold = hold_like peer ordinal now act kept.state (state_in (control_of d) moves)
      (like_kept peer d moves kept by_moves);
  tag = tag_like peer ordinal now act moves kept by_moves.tag;
}
