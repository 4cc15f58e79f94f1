-- Behind one seen move more the reports that are pending are alike: those of selections that ran
-- out and those of transfer sets.
use Rattle.std.proofs.Common.{◌≡◌, ◌==◌, ℕ, ◌+◌, Bool, true, false, not, if◌then◌else◌, List, []}
use Rattle.std.proofs.Common.{◌∷◌, ◌++◌, map, reverse, Option, Some, None, refl, sym, ap, subst}
use Rattle.std.proofs.Common.{◌∙◌, inl, inr}
use Rattle.std.specs.Prelude.{option_map, filter_map, flat_map, codes}
use Rattle.std.specs.List.{range_with_len, cons_option}
use Rattle.std.specs.Option.{option_map_or}
use Rattle.std.proofs.lemmas.Bool.{false≢true}
use Rattle.mms_data.specs.Datum.{integer}
use Rattle.mms_data.specs.ObjectName.{ObjectName}
use Rattle.mms_data.specs.declared.outcome.Outcome.{Outcome}
use Rattle.mms_data.specs.declared.outcome.Outcome.TheVariants.{Good}
use Rattle.transfer_sets.specs.SlotMoves.{SlotMove, last_wish, slot_in}
use Rattle.transfer_sets.specs.Due.{conditions_due}
use Rattle.sbo_device.specs.declared.hold.Hold.{Hold}
use Rattle.sbo_device.specs.Moves.{ControlPoint, DeviceState, DeviceMove}
use Rattle.sbo_device.specs.Moves as device
use Rattle.sbo_device.specs.States.{same_key, state_in, hold_of, hold_ended, ended_by}
use Rattle.tase_views.specs.declared.reply.ReportKind.{ReportKind}
use Rattle.tase_views.specs.declared.reply.ReportKind.TheVariants.{Variables}
use Rattle.tase_views.specs.Moves.{opens, takes, closes, reads, writes, defines, deletes, calls}
use Rattle.tase_views.specs.OwnTables.{OwnDevice, OwnTable, OwnTables, domain_name, control_of}
use Rattle.tase_views.specs.OwnTables.{is_selectable}
use Rattle.tase_views.specs.View.{Seen, own, other_acted, other_closed, updated, tagged, asked}
use Rattle.tase_views.specs.View.{chose, ticked, stopped, View, held, force, moment_in, own_key}
use Rattle.tase_views.specs.View.{moves_seen}
use Rattle.tase_views.specs.Objects.{object_named}
use Rattle.tase_views.specs.Slots.{owns, members_told, places_told, state_by, asked_conditions}
use Rattle.tase_views.specs.Slots.{sets_in, slot_moves}
use Rattle.tase_views.specs.Reports.{slot_state, due_conditions, timeout_report, own_reports}
use Rattle.tase_views.specs.Reports.{slot_reports, reports_by, reports_pending}
use Rattle.tase_views.proofs.OwnDevices.{Each}
use Rattle.tase_resume.specs.Recounted.{Gap, AreReportsRecounted}
use Rattle.tase_resume.proofs.RaisedHolds.{Offsets, raised_hold, same_key_raised, ended_by_raised}
use Rattle.tase_resume.proofs.RaisedHolds.{same_sum}
use Rattle.tase_resume.proofs.Like.{raised, raised_slot, AreSlotsAlike, IsLike}
use Rattle.tase_resume.proofs.SetsAlike.{held_alike}
use Rattle.tase_resume.proofs.SlotsAlike.{states}
use Rattle.tase_resume.proofs.SlotParts.{free_unowned, owns_alike, due_alike, member_changes}
use Rattle.tase_resume.proofs.SlotParts.{asked_alike, told_alike, wish_raised}
use Rattle.tase_resume.proofs.Selectable.{AreSelectable}
use Rattle.tase_resume.proofs.MoreChanges.{integer_recounted}
use Rattle.tase_resume.proofs.NotedPairs.{slot_pairs, slot_noted, slot_more, pairs_fit}
use Rattle.tase_resume.proofs.ReportsAlike.{both_recounted, flat_recounted, slot_alike}

none_if : (b : Bool) → (let o : Option Hold = if b then None else None in o) ≡ None
none_if true = refl
none_if false = refl

-- a direct device is never held
pub direct_free : (point : ControlPoint) (moves : List DeviceMove) → point.direct ≡ true
    → hold_of point moves ≡ None
direct_free point [] direct = refl
direct_free point (move ∷ moves) direct = by move (direct_free point moves direct)
  where
    same_point : (these : List DeviceMove) → (state_in point these).point ≡ point
    same_point [] = refl
    same_point (m ∷ these) = same_point these

    by : (m : DeviceMove) → hold_of point moves ≡ None → hold_of point (m ∷ moves) ≡ None
    by (device.selected key now) none = rw (same_point moves, direct) none
    by (device.operated key value) none = rw none (none_if _)
    by (device.closed key) none = rw none refl
    by (device.ticked now) none = rw none refl
    by (device.tagged tag) none = none

ended_free : (s : DeviceState) (now : ℕ) → s.hold ≡ None → ended_by (device.ticked now) s ≡ None
ended_free s now none = rw none refl

-- whether a hold that ended is that of an association
abbrev is_mine : Option Hold → ℕ → Bool
is_mine ended ordinal =
    option_map_or (λ (hold : Hold). same_key hold.key (own_key ordinal)) ended false

mine_raised : (offs : Offsets) (ended : Option Hold) (ordinal : ℕ)
    → is_mine (option_map (raised_hold offs) ended) (ordinal + offs 0) ≡ is_mine ended ordinal
mine_raised offs None ordinal = refl
mine_raised offs (Some hold) ordinal = same_key_raised offs hold.key (own_key ordinal)

-- the reports of a transfer set that is the same but for ordinal and counts
owned_reports : (tables : OwnTables) (offs : Offsets) (gap : Gap) (from : ℕ) (v w : View)
    (like : IsLike tables offs gap from v w) (s now moment one_conditions other_conditions : ℕ)
    → now ≡ moment → one_conditions ≡ other_conditions
    → slot_moves tables v s ≡ map (raised_slot (offs 0) gap) (slot_moves tables w s)
    → AreReportsRecounted (held tables w) gap
    (slot_reports (held tables w) v s now one_conditions
    (state_by (held tables w) (sets_in tables v) (slot_moves tables v s))
    (members_told (held tables w) (sets_in tables v) (slot_moves tables v s)))
    (slot_reports (held tables w) w s moment other_conditions
    (state_by (held tables w) (sets_in tables w) (slot_moves tables w s))
    (members_told (held tables w) (sets_in tables w) (slot_moves tables w s)))
owned_reports tables offs gap from v w like s now moment one_conditions other_conditions moments
    conditions is =
    let table = held tables w in
    let one = slot_moves tables v s in
    let other = slot_moves tables w s in
    let state = state_by table (sets_in tables v) one in
    let its = state_by table (sets_in tables w) other in
    let members = members_told table (sets_in tables w) other in
    let told : members_told table (sets_in tables v) one ≡ members =
    told_alike table (sets_in tables v) (sets_in tables w) one other like.sets
    (ap last_wish is ∙ wish_raised (offs 0) gap other) in
    rw (moments, conditions)
    (subst (λ (these : List ObjectName). AreReportsRecounted (held tables w) gap
    (slot_reports table v s moment other_conditions state these)
    (slot_reports table w s moment other_conditions its members)) (sym told)
    (slot_alike tables offs gap from v w like s moment other_conditions state its members
    (slot_pairs (places_told table members) other)
    (states tables offs gap from v w like table s is)
    (ap (λ (moves : List SlotMove).
    (slot_in (places_told table (members_told table (sets_in tables v) one)) moves).noted) is
    ∙ ap (λ (these : List ObjectName).
    (slot_in (places_told table these) (map (raised_slot (offs 0) gap) other)).noted) told
    ∙ slot_more (offs 0) gap (places_told table members) other)
    (slot_noted (places_told table members) other)
    (pairs_fit table members (reverse (member_changes (places_told table members) other)))))

module _ (tables : OwnTables) (offs : Offsets) (gap : Gap) (from : ℕ) (v w : View)
    (like : IsLike tables offs gap from v w) (selects : AreSelectable tables) (ordinal : ℕ) where
  table_same : held tables v ≡ held tables w
  table_same = held_alike tables offs gap from v w like

  -- the hold of a device of a table that a tick ends
  ended_alike : (now : ℕ) (d : OwnDevice)
      → is_selectable tables d.row.name ≡ not d.row.direct
      → is_mine (hold_ended (control_of d) (moves_seen tables v d.row.name) now)
      (ordinal + offs 0)
      ≡ is_mine (hold_ended (control_of d) (moves_seen tables w d.row.name) now) ordinal
  ended_alike now d named = by d.row.direct refl
    where
      by : (b : Bool) → d.row.direct ≡ b
          → is_mine (hold_ended (control_of d) (moves_seen tables v d.row.name) now)
          (ordinal + offs 0)
          ≡ is_mine (hold_ended (control_of d) (moves_seen tables w d.row.name) now) ordinal
      by true e =
          ap (λ (o : Option Hold). is_mine o (ordinal + offs 0))
          (ended_free (state_in (control_of d) (moves_seen tables v d.row.name)) now
          (direct_free (control_of d) (moves_seen tables v d.row.name) e))
          ∙ sym (ap (λ (o : Option Hold). is_mine o ordinal)
          (ended_free (state_in (control_of d) (moves_seen tables w d.row.name)) now
          (direct_free (control_of d) (moves_seen tables w d.row.name) e)))
      by false e =
          ap (λ (s : DeviceState). is_mine (ended_by (device.ticked now) s) (ordinal + offs 0))
          (like.state d.row.name (control_of d) (named ∙ ap not e))
          ∙ ap (λ (o : Option Hold). is_mine o (ordinal + offs 0))
          (ended_by_raised offs now (state_in (control_of d) (moves_seen tables w d.row.name)))
          ∙ mine_raised offs
          (hold_ended (control_of d) (moves_seen tables w d.row.name) now) ordinal

  timeouts_by : (now : ℕ) (devices : List OwnDevice)
      → Each (λ d. is_selectable tables d.row.name ≡ not d.row.direct) devices
      → AreReportsRecounted (held tables w) gap
      (filter_map (timeout_report tables v (ordinal + offs 0) now) devices)
      (filter_map (timeout_report tables w ordinal now) devices)
  timeouts_by now [] named = refl
  timeouts_by now (d ∷ devices) named =
      by _ _ (ended_alike now d named.0)
      (ap (λ (t : OwnTable). domain_name t (d.row.name ++ codes "_TIMEOUT")) table_same)
      (timeouts_by now devices named.1)
    where
      by : (b c : Bool) → b ≡ c
          → {one other : ObjectName} → one ≡ other
          → AreReportsRecounted (held tables w) gap
          (filter_map (timeout_report tables v (ordinal + offs 0) now) devices)
          (filter_map (timeout_report tables w ordinal now) devices)
          → AreReportsRecounted (held tables w) gap
          (cons_option (if b then Some (Variables (one ∷ []) (Good (integer d.row.checkback) ∷ []))
          else None)
          (filter_map (timeout_report tables v (ordinal + offs 0) now) devices))
          (cons_option
          (if c then Some (Variables (other ∷ []) (Good (integer d.row.checkback) ∷ []))
          else None)
          (filter_map (timeout_report tables w ordinal now) devices))
      by true true same {one = one} {other = other} names rest = (
        (
          Good (integer d.row.checkback) ∷ [],
          ap (λ (n : ObjectName). Variables (n ∷ []) (Good (integer d.row.checkback) ∷ []))
              (sym names),
          ap (λ (o : Outcome). o ∷ [])
              (integer_recounted gap (object_named (held tables w) one) d.row.checkback),
        ),
        rest,
      )
      by false false same names rest = rest
      by true false same names rest = absurd (false≢true (sym same))
      by false true same names rest = absurd (false≢true same)

  -- the reports that conditions make of a transfer set
  own_by : (s now moment one_conditions other_conditions : ℕ) (table : OwnTable)
      → table ≡ held tables w → now ≡ moment
      → (slot_moves tables v s ≡ map (raised_slot (offs 0) gap) (slot_moves tables w s)
      → one_conditions ≡ other_conditions)
      → AreReportsRecounted (held tables w) gap
      (if owns (ordinal + offs 0) (slot_moves tables v s)
      then slot_reports table v s now one_conditions
      (state_by table (sets_in tables v) (slot_moves tables v s))
      (members_told table (sets_in tables v) (slot_moves tables v s)) else [])
      (if owns ordinal (slot_moves tables w s)
      then slot_reports (held tables w) w s moment other_conditions
      (state_by (held tables w) (sets_in tables w) (slot_moves tables w s))
      (members_told (held tables w) (sets_in tables w) (slot_moves tables w s)) else [])
  own_by s now moment one_conditions other_conditions table is moments conditions =
      subst (λ (t : OwnTable). AreReportsRecounted (held tables w) gap
      (if owns (ordinal + offs 0) (slot_moves tables v s)
      then slot_reports t v s now one_conditions
      (state_by t (sets_in tables v) (slot_moves tables v s))
      (members_told t (sets_in tables v) (slot_moves tables v s)) else [])
      (if owns ordinal (slot_moves tables w s)
      then slot_reports (held tables w) w s moment other_conditions
      (state_by (held tables w) (sets_in tables w) (slot_moves tables w s))
      (members_told (held tables w) (sets_in tables w) (slot_moves tables w s)) else []))
      (sym is) (by (like.slots s))
    where
      by : AreSlotsAlike (offs 0) gap (slot_moves tables v s) (slot_moves tables w s)
          → AreReportsRecounted (held tables w) gap
          (if owns (ordinal + offs 0) (slot_moves tables v s)
          then slot_reports (held tables w) v s now one_conditions
          (state_by (held tables w) (sets_in tables v) (slot_moves tables v s))
          (members_told (held tables w) (sets_in tables v) (slot_moves tables v s)) else [])
          (if owns ordinal (slot_moves tables w s)
          then slot_reports (held tables w) w s moment other_conditions
          (state_by (held tables w) (sets_in tables w) (slot_moves tables w s))
          (members_told (held tables w) (sets_in tables w) (slot_moves tables w s)) else [])
      by (inl free) =
          none_of (owns (ordinal + offs 0) (slot_moves tables v s))
          (owns ordinal (slot_moves tables w s)) _ _
          (free_unowned (slot_moves tables v s) (ordinal + offs 0) free.0)
          (free_unowned (slot_moves tables w s) ordinal free.1)
        where
          none_of : (a b : Bool) (x y : List ReportKind) → a ≡ false → b ≡ false
              → AreReportsRecounted (held tables w) gap (if a then x else []) (if b then y else [])
          none_of a b x y none also = rw (none, also) refl
      by (inr raised_is) =
          some_of (owns (ordinal + offs 0) (slot_moves tables v s))
          (owns ordinal (slot_moves tables w s)) _ _
          (owns_alike (offs 0) gap (slot_moves tables v s) (slot_moves tables w s)
          (inr raised_is) ordinal)
          (owned_reports tables offs gap from v w like s now moment one_conditions
          other_conditions moments (conditions raised_is) raised_is)
        where
          some_of : (a b : Bool) (x y : List ReportKind) → a ≡ b
              → AreReportsRecounted (held tables w) gap x y
              → AreReportsRecounted (held tables w) gap (if a then x else []) (if b then y else [])
          some_of a b x y same alike = rw same (one_of b)
            where
              one_of : (c : Bool)
                  → AreReportsRecounted (held tables w) gap (if c then x else [])
                  (if c then y else [])
              one_of true = alike
              one_of false = refl

  due_same : (now s : ℕ)
      → slot_moves tables v s ≡ map (raised_slot (offs 0) gap) (slot_moves tables w s)
      → due_conditions tables v s now ≡ due_conditions tables w s now
  due_same now s is =
      ap (λ (t : OwnTable). conditions_due (state_by t (sets_in tables v) (slot_moves tables v s))
      (moment_in v) now) table_same
      ∙ ap (λ n. conditions_due
      (state_by (held tables w) (sets_in tables v) (slot_moves tables v s)) n now) like.moment
      ∙ due_alike (state_by (held tables w) (sets_in tables v) (slot_moves tables v s))
      (state_by (held tables w) (sets_in tables w) (slot_moves tables w s)) (moment_in w) now
      (states tables offs gap from v w like (held tables w) s is)

  asked_same : (s : ℕ)
      → slot_moves tables v s ≡ map (raised_slot (offs 0) gap) (slot_moves tables w s)
      → asked_conditions (slot_state tables v s) ≡ asked_conditions (slot_state tables w s)
  asked_same s is =
      ap (λ (t : OwnTable).
      asked_conditions (state_by t (sets_in tables v) (slot_moves tables v s))) table_same
      ∙ asked_alike (state_by (held tables w) (sets_in tables v) (slot_moves tables v s))
      (state_by (held tables w) (sets_in tables w) (slot_moves tables w s))
      (states tables offs gap from v w like (held tables w) s is)

  ticked_reports : (now : ℕ) (table : OwnTable) → table ≡ held tables w
      → AreReportsRecounted (held tables w) gap
      (filter_map (timeout_report tables v (ordinal + offs 0) now) table.devices
      ++ flat_map (own_reports tables v (ordinal + offs 0) now
      (λ s. due_conditions tables v s now)) (range_with_len 0 table.slots))
      (filter_map (timeout_report tables w ordinal now) (held tables w).devices
      ++ flat_map (own_reports tables w ordinal now (λ s. due_conditions tables w s now))
      (range_with_len 0 (held tables w).slots))
  ticked_reports now table is =
      subst (λ (t : OwnTable). AreReportsRecounted (held tables w) gap
      (filter_map (timeout_report tables v (ordinal + offs 0) now) t.devices
      ++ flat_map (own_reports tables v (ordinal + offs 0) now
      (λ s. due_conditions tables v s now)) (range_with_len 0 t.slots))
      (filter_map (timeout_report tables w ordinal now) (held tables w).devices
      ++ flat_map (own_reports tables w ordinal now (λ s. due_conditions tables w s now))
      (range_with_len 0 (held tables w).slots))) (sym is)
      (both_recounted (held tables w) gap
      (filter_map (timeout_report tables v (ordinal + offs 0) now) (held tables w).devices)
      (filter_map (timeout_report tables w ordinal now) (held tables w).devices)
      _ _
      (timeouts_by now (held tables w).devices (selects (force w)))
      (flat_recounted (held tables w) gap
      (own_reports tables v (ordinal + offs 0) now (λ s. due_conditions tables v s now))
      (own_reports tables w ordinal now (λ s. due_conditions tables w s now))
      (range_with_len 0 (held tables w).slots)
      (λ s. own_by s now now (due_conditions tables v s now) (due_conditions tables w s now)
      (held tables v) table_same refl (due_same now s))))

  reports_alike : (move : Seen)
      → AreReportsRecounted (held tables w) gap
      (reports_by tables v (ordinal + offs 0) (raised offs move))
      (reports_by tables w ordinal move)
  reports_alike (ticked now) = ticked_reports now (held tables v) table_same
  reports_alike (asked s) =
      own_by s (moment_in v) (moment_in w) (asked_conditions (slot_state tables v s))
      (asked_conditions (slot_state tables w s)) (held tables v) table_same like.moment
      (asked_same s)
  reports_alike (own other act) = refl
  reports_alike (other_acted key other device act) = refl
  reports_alike (other_closed key other) = refl
  reports_alike (updated name value) = refl
  reports_alike (tagged device tag) = refl
  reports_alike (chose variant) = refl
  reports_alike stopped = refl

  -- what is pending was alike, by the table in force
  module _ (before : AreReportsRecounted (held tables w) gap
      (reports_pending tables v (ordinal + offs 0)) (reports_pending tables w ordinal)) where
    one_more : (move : Seen)
        → AreReportsRecounted (held tables w) gap
        (reports_pending tables v (ordinal + offs 0)
        ++ reports_by tables v (ordinal + offs 0) (raised offs move))
        (reports_pending tables w ordinal ++ reports_by tables w ordinal move)
    one_more move =
        both_recounted (held tables w) gap (reports_pending tables v (ordinal + offs 0))
        (reports_pending tables w ordinal) _ _ before (reports_alike move)

    taken : (b c : Bool) → b ≡ c
        → AreReportsRecounted (held tables w) gap
        (if b then [] else reports_pending tables v (ordinal + offs 0))
        (if c then [] else reports_pending tables w ordinal)
    taken b c same = rw same (by c)
      where
        by : (d : Bool)
            → AreReportsRecounted (held tables w) gap
            (if d then [] else reports_pending tables v (ordinal + offs 0))
            (if d then [] else reports_pending tables w ordinal)
        by true = refl
        by false = before

    pub pending_seen : (move : Seen)
        → AreReportsRecounted (held tables w) gap
        (reports_pending tables (raised offs move ∷ v) (ordinal + offs 0))
        (reports_pending tables (move ∷ w) ordinal)
    pending_seen (own other takes) =
        taken (other + offs 0 == ordinal + offs 0) (other == ordinal)
        (same_sum other ordinal (offs 0))
    pending_seen (own other opens) = one_more (own other opens)
    pending_seen (own other closes) = one_more (own other closes)
    pending_seen (own other (reads name)) = one_more (own other (reads name))
    pending_seen (own other (writes name value)) = one_more (own other (writes name value))
    pending_seen (own other (defines set members)) = one_more (own other (defines set members))
    pending_seen (own other (deletes set)) = one_more (own other (deletes set))
    pending_seen (own other (calls call)) = one_more (own other (calls call))
    pending_seen (other_acted key other device act) =
        one_more (other_acted key other device act)
    pending_seen (other_closed key other) = one_more (other_closed key other)
    pending_seen (updated name value) = one_more (updated name value)
    pending_seen (tagged device tag) = one_more (tagged device tag)
    pending_seen (asked s) = one_more (asked s)
    pending_seen (chose variant) = one_more (chose variant)
    pending_seen (ticked now) = one_more (ticked now)
    pending_seen stopped = one_more stopped
