-- What a snapshot tells of tables, points, devices and the moment, entry by entry.
use Rattle.std.proofs.Common.{◌≡◌, ◌==◌, ℕ, zero, suc, ◌+◌, ◌<◌, ◌≤◌, Bool, true, false, ◌&&◌}
use Rattle.std.proofs.Common.{if◌then◌else◌, List, [], ◌∷◌, ◌++◌, map, reverse, length, Option}
use Rattle.std.proofs.Common.{Some, None, refl, sym, ap, subst, ◌∙◌, arith, ⊎_elim, bytes_eq}
use Rattle.std.proofs.Common.{take, is_some}
use Rattle.std.specs.Prelude.{filter_map, flat_map, nat_le}
use Rattle.std.specs.List.{cons_option, range_with_len}
use Rattle.std.specs.Option.{option_map_or}
use Rattle.std.proofs.lemmas.Bool.{false≢true, eqb-true, eq-eqb, ne_eqb, cases_eq, cases_order}
use Rattle.std.proofs.lemmas.Bool.{lt-ltb, and_parts, leb-true}
use Rattle.std.proofs.lemmas.Option.{same_Some, none-some}
use Rattle.std.proofs.lemmas.List.{append_assoc, reverse-append}
use Rattle.std.proofs.lemmas.Slice.Eq.{bytes_eq-Decides}
use Rattle.mms_data.specs.ObjectName.{ObjectName}
use Rattle.tase_points.specs.Sample.{Sample}
use Rattle.bilateral.specs.Rows.{CentreRows, IsCentre, device_of, point_of, no_device}
use Rattle.sbo_device.specs.declared.key.Key.{Key}
use Rattle.sbo_device.specs.declared.device.TheConstants.{MOMENT_LIMIT}
use Rattle.sbo_device.specs.Moves.{Tag, tagged, DeviceMove}
use Rattle.sbo_device.specs.States.{tag_of}
use Rattle.point_db.specs.Updates.{newest_of, last_given}
use Rattle.tase_views.specs.declared.event.Entry.{Entry}
use Rattle.tase_views.specs.declared.event.EventKind.{EventKind}
use Rattle.tase_views.specs.declared.event.EventKind.TheVariants.{Update, Table, Tick}
use Rattle.tase_views.specs.declared.event.EventKind.TheVariants as events
use Rattle.tase_views.specs.declared.fault.StepFault.TheVariants.{UnknownName, Backward}
use Rattle.tase_views.specs.Moves.{EventSort, sort_of, feeding, Move, updates, tags, ticks, chooses}
use Rattle.tase_views.specs.Force.{TableMove, chosen, last_chosen, table_move}
use Rattle.tase_views.specs.OwnTables.{OwnTables, own_tables, is_point_of, device_named}
use Rattle.tase_views.specs.Devices.{device_moves}
use Rattle.tase_views.specs.History.{Past, association_in, last_tick, stop_in, opens_in}
use Rattle.tase_views.specs.View.{Seen, chose, updated, View, moves_in, view_of, steps_in}
use Rattle.tase_views.specs.View.{keeps_force}
use Rattle.tase_views.specs.View as seen
use Rattle.tase_views.specs.Slots.{sets_in}
use Rattle.tase_views.specs.Outcomes.{first_refusal, seat_refusal_by, is_named_there, own_refusal}
use Rattle.tase_views.specs.Outcomes.{clock_refusal, clock_refusal_by, has_table}
use Rattle.tase_views.specs.Lived.{unweighed_refusal, IsLived}
use Rattle.tase_views.specs.Chosen.{chosen_in}
use Rattle.tase_views.specs.Given.{updates_of}
use Rattle.tase_resume.specs.Warming.{of_centre, table_event, tag_event, moment_event, table_told}
use Rattle.tase_resume.specs.Warming.{value_told, tag_told, places_of}
use Rattle.tase_resume.proofs.Calm.{unstopped}
use Rattle.tase_resume.proofs.TablesSeen.{table_moves-seen}
use Rattle.tase_resume.proofs.WarmKnown.{chosen_past, values_past, tag_past, chosen_there}
use Rattle.tase_resume.proofs.WarmKnown.{given_known, tick_within}

-- events of the centre's seat one after another behind a past
abbrev pub told : List EventKind → Past → Past
told [] past = past
told (event ∷ these) past = told these (of_centre event ∷ past)

pub told_is : (these : List EventKind) (past : Past)
    → reverse (map of_centre these) ++ past ≡ told these past
told_is [] past = refl
told_is (event ∷ these) past =
    ap (λ (l : List Entry). l ++ past)
    (reverse-append (of_centre event ∷ []) (map of_centre these))
    ∙ append_assoc (reverse (map of_centre these)) (of_centre event ∷ []) past
    ∙ told_is these (of_centre event ∷ past)

pub told-append : (one other : List EventKind) (past : Past)
    → told (one ++ other) past ≡ told other (told one past)
told-append [] other past = refl
told-append (event ∷ one) other past = told-append one other (of_centre event ∷ past)

same_either : (b : Bool) (x : Option Key) → x ≡ None → (if b then x else x) ≡ None
same_either true x none = none
same_either false x none = none

-- a move of the centre's own is taken
pub told_lived : (rows : CentreRows) (past : Past) (event : EventKind) (move : Move)
    → sort_of event ≡ feeding move → IsLived rows past → stop_in past ≡ None
    → is_named_there rows (feeding move) ≡ true
    → clock_refusal_by (last_tick past) (feeding move) ≡ None
    → IsLived rows (of_centre event ∷ past)
told_lived rows past event move is lived going named clock = (refused, lived)
  where
    own_none : own_refusal rows past 0 event ≡ None
    own_none =
        ap (λ (s : EventSort). first_refusal
        (seat_refusal_by (association_in past 0) s
        ∷ (if is_named_there rows s then None else Some UnknownName) ∷ [])) is
        ∙ rw named refl

    refused : unweighed_refusal rows past 0 event ≡ None
    refused =
        let one = unstopped past event going in
        let two = own_none in
        let three : clock_refusal past event ≡ None =
        ap (clock_refusal_by (last_tick past)) is ∙ clock in
        rw (one, two, three) refl

-- a device without tag and reason
abbrev pub no_tag : Tag
no_tag = record { tag = 0; reason = [] }

-- A history of the centre's own moves alone, which a node takes: it has the tables that a base has
-- chosen of so many peers, the last values of so many points and the tags of so many devices, and
-- the clock stands at a moment.
pub record IsTold (rows : CentreRows) (base : Past) (peers points devices now : ℕ) (past : Past)
    : Type 0 where
  pub lived : IsLived rows past
  pub free : (who : ℕ) → association_in past who ≡ None
  pub going : stop_in past ≡ None
  pub choice : (p : ℕ) → p < peers → chosen_past p past ≡ chosen_past p base
  pub no_choice : (p : ℕ) → peers ≤ p → chosen_past p past ≡ 0
  pub values : (q : ℕ) → q < points → values_past q past ≡ take 1 (values_past q base)
  pub no_values : (q : ℕ) → points ≤ q → values_past q past ≡ []
  pub tag : (d : ℕ) → d < devices → tag_past rows d past ≡ tag_past rows d base
  pub no_tags : (d : ℕ) → devices ≤ d → d < length rows.devices → tag_past rows d past ≡ no_tag
  pub tick : last_tick past ≡ now
  pub opens : (p : ℕ) → opens_in past p ≡ 0
  pub no_sets : (p : ℕ) (z : List ℕ) → sets_in (own_tables rows p) (view_of rows p past) z ≡ None

none_kept : (b : Bool) (found : Option (List ObjectName)) → found ≡ None
    → (if b then found else None) ≡ None
none_kept true found none = none
none_kept false found none = refl

-- a seen move that isn't the peer's own makes no data set
none_behind : (tables : OwnTables) (view : View) (z : List ℕ) (b : Bool) (move : Seen)
    → sets_in tables (move ∷ view) z
    ≡ (if keeps_force move view then sets_in tables view z else None)
    → sets_in tables view z ≡ None
    → sets_in tables (cons_option (if b then Some move else None) view) z ≡ None
none_behind tables view z true move is none =
    is ∙ none_kept (keeps_force move view) (sets_in tables view z) none
none_behind tables view z false move is none = none

module _ (rows : CentreRows) (lawful : IsCentre rows) (base : Past) (lived : IsLived rows base)
  where
    -- nothing is told at first
    pub told_none : IsTold rows base 0 0 0 0 []
    told_none = record {
      lived = tt;
      free = λ who. refl;
      going = refl;
      choice = λ p below. absurd (omega (arith, below));
      no_choice = λ p above. refl;
      values = λ q below. absurd (omega (arith, below));
      no_values = λ q above. refl;
      tag = λ d below. absurd (omega (arith, below));
      no_tags = λ d above within. refl;
      tick = refl;
      opens = λ p. refl;
      no_sets = λ p z. refl;
    }

    -- tables

    chosen_if : (b : Bool) (variant : ℕ) (moves : List TableMove)
        → last_chosen (cons_option (if b then Some (chosen variant) else None) moves)
        ≡ (if b then variant else last_chosen moves)
    chosen_if true variant moves = refl
    chosen_if false variant moves = refl

    chosen_base : (peer : ℕ) → chosen_in (view_of rows peer base) ≡ chosen_past peer base
    chosen_base peer =
        ap last_chosen (table_moves-seen rows (own_tables rows) peer (moves_in base))

    table_step : (i : ℕ) (past : Past) → IsTold rows base i 0 0 0 past
        → IsTold rows base (i + 1) 0 0 0 (told (table_told rows base i) past)
    table_step i past is = by (chosen_in (view_of rows i base)) (chosen_base i)
      where
        by : (variant : ℕ) → variant ≡ chosen_past i base
            → IsTold rows base (i + 1) 0 0 0 (told (table_event i variant) past)
        by variant same = none_or (variant == 0) refl
          where
            none_or : (b : Bool) → (variant == 0) ≡ b
                → IsTold rows base (i + 1) 0 0 0
                (told (if b then [] else Table i variant ∷ []) past)
            none_or true e = record {
              lived = is.lived;
              free = is.free;
              going = is.going;
              choice = λ p below. ⊎_elim
                  (λ here.
                  let above : i ≤ p = omega (arith, here) in
                  is.no_choice p above ∙ sym (eqb-true variant 0 e) ∙ same
                  ∙ ap (λ n. chosen_past n base) (sym here))
                  (λ apart. is.choice p (omega (arith, below, apart))) (cases_eq p i);
              no_choice = λ p above. is.no_choice p (omega (arith, above));
              values = is.values;
              no_values = is.no_values;
              tag = is.tag;
              no_tags = is.no_tags;
              tick = is.tick;
              opens = is.opens;
              no_sets = is.no_sets;
            }
            none_or false e = record {
              lived = told_lived rows past (Table i variant) (chooses i variant) refl is.lived
                  is.going
                  (⊎_elim
                  (λ none. absurd (false≢true (sym e ∙ eq-eqb variant 0 (same ∙ none))))
                  (λ there. ap (has_table rows i) same ∙ there) (chosen_there rows base i lived))
                  refl;
              free = λ who. same_either (0 == who) (association_in past who) (is.free who);
              going = is.going;
              choice = λ p below.
                  chosen_if (i == p) variant (filter_map (table_move p) (moves_in past))
                  ∙ ⊎_elim
                  (λ here. rw (eq-eqb i p (sym here)) (same ∙ ap (λ n. chosen_past n base)
                  (sym here)))
                  (λ apart. rw (ne_eqb i p (λ f. apart (sym f)))
                  (is.choice p (omega (arith, below, apart)))) (cases_eq p i);
              no_choice = λ p above.
                  chosen_if (i == p) variant (filter_map (table_move p) (moves_in past))
                  ∙ rw (ne_eqb i p (λ f. omega (arith, above, f)))
                  (is.no_choice p (omega (arith, above)));
              values = is.values;
              no_values = is.no_values;
              tag = is.tag;
              no_tags = is.no_tags;
              tick = is.tick;
              opens = λ p. let none = is.opens p in omega (arith, none);
              no_sets = λ p z.
                  none_behind (own_tables rows p) (view_of rows p past) z (i == p) (chose variant)
                  refl (is.no_sets p z);
            }

    tables_phase : (n i : ℕ) (past : Past) → IsTold rows base i 0 0 0 past
        → IsTold rows base (i + n) 0 0 0
        (told (flat_map (table_told rows base) (range_with_len i n)) past)
    tables_phase zero i past is =
        let same : i ≡ i + 0 = omega arith in
        subst (λ k. IsTold rows base k 0 0 0 past) same is
    tables_phase (suc n) i past is =
        let same : i + 1 + n ≡ i + suc n = omega arith in
        subst (λ k. IsTold rows base k 0 0 0
        (told (flat_map (table_told rows base) (range_with_len i (suc n))) past)) same
        (subst (IsTold rows base (i + 1 + n) 0 0 0)
        (sym (told-append (table_told rows base i)
        (flat_map (table_told rows base) (range_with_len (i + 1) n)) past))
        (tables_phase n (i + 1) (told (table_told rows base i) past) (table_step i past is)))

    -- points

    newest_take : (values : List Sample) (value : Sample) → newest_of values ≡ Some value
        → take 1 values ≡ value ∷ []
    newest_take [] value is = absurd (none-some value is)
    newest_take (first ∷ values) value is =
        ap (λ (s : Sample). s ∷ []) (same_Some first value is)

    newest_none : (values : List Sample) → newest_of values ≡ None → take 1 values ≡ []
    newest_none [] is = refl
    newest_none (first ∷ values) is = absurd (none-some first (sym is))

    given_if : (b : Bool) (value : Sample) (values : List Sample)
        → cons_option (if b then Some value else None) values
        ≡ (if b then value ∷ values else values)
    given_if true value values = refl
    given_if false value values = refl

    point_step : (i j : ℕ) (past : Past) → IsTold rows base i j 0 0 past
        → IsTold rows base i (j + 1) 0 0 (told (value_told rows base j) past)
    point_step i j past is = by (last_given (updates_of base) j) refl
      where
        by : (found : Option Sample) → newest_of (values_past j base) ≡ found
            → IsTold rows base i (j + 1) 0 0
            (told (option_map_or (λ (value : Sample). Update j value ∷ []) found []) past)
        by None none = record {
          lived = is.lived;
          free = is.free;
          going = is.going;
          choice = is.choice;
          no_choice = is.no_choice;
          values = λ q below. ⊎_elim
              (λ here.
              let above : j ≤ q = omega (arith, here) in
              is.no_values q above ∙ sym (newest_none (values_past j base) none)
              ∙ ap (λ n. take 1 (values_past n base)) (sym here))
              (λ apart. is.values q (omega (arith, below, apart))) (cases_eq q j);
          no_values = λ q above. is.no_values q (omega (arith, above));
          tag = is.tag;
          no_tags = is.no_tags;
          tick = is.tick;
          opens = is.opens;
          no_sets = is.no_sets;
        }
        by (Some value) some = record {
          lived = told_lived rows past (Update j value) (updates j value) refl is.lived is.going
              (given_known rows base j value lived some) refl;
          free = λ who. same_either (0 == who) (association_in past who) (is.free who);
          going = is.going;
          choice = is.choice;
          no_choice = is.no_choice;
          values = λ q below.
              given_if (j == q) value (values_past q past)
              ∙ ⊎_elim
              (λ here.
              let above : j ≤ q = omega (arith, here) in
              rw (eq-eqb j q (sym here))
              (ap (λ (l : List Sample). value ∷ l) (is.no_values q above)
              ∙ sym (newest_take (values_past j base) value some)
              ∙ ap (λ n. take 1 (values_past n base)) (sym here)))
              (λ apart. rw (ne_eqb j q (λ f. apart (sym f)))
              (is.values q (omega (arith, below, apart)))) (cases_eq q j);
          no_values = λ q above.
              given_if (j == q) value (values_past q past)
              ∙ rw (ne_eqb j q (λ f. omega (arith, above, f)))
              (is.no_values q (omega (arith, above)));
          tag = is.tag;
          no_tags = is.no_tags;
          tick = is.tick;
          opens = λ p. let none = is.opens p in omega (arith, none);
          no_sets = λ p z.
              none_behind (own_tables rows p) (view_of rows p past) z (is_point_of rows p j)
              (updated (point_of rows j).name value) refl (is.no_sets p z);
        }

    points_phase : (i n j : ℕ) (past : Past) → IsTold rows base i j 0 0 past
        → IsTold rows base i (j + n) 0 0
        (told (flat_map (value_told rows base) (range_with_len j n)) past)
    points_phase i zero j past is =
        let same : j ≡ j + 0 = omega arith in
        subst (λ k. IsTold rows base i k 0 0 past) same is
    points_phase i (suc n) j past is =
        let same : j + 1 + n ≡ j + suc n = omega arith in
        subst (λ k. IsTold rows base i k 0 0
        (told (flat_map (value_told rows base) (range_with_len j (suc n))) past)) same
        (subst (IsTold rows base i (j + 1 + n) 0 0)
        (sym (told-append (value_told rows base j)
        (flat_map (value_told rows base) (range_with_len (j + 1) n)) past))
        (points_phase i n (j + 1) (told (value_told rows base j) past) (point_step i j past is)))

    -- devices

    untagged : (tag : Tag) → ((tag.tag == 0) && (length tag.reason == 0)) ≡ true → tag ≡ no_tag
    untagged tag e =
        let parts = and_parts (tag.tag == 0) (length tag.reason == 0) e in
        ap (λ n. let t : Tag = record { tag = n; reason = tag.reason } in t)
        (eqb-true tag.tag 0 parts.0)
        ∙ ap (λ (r : List ℕ). let t : Tag = record { tag = 0; reason = r } in t)
        (no_octets tag.reason (eqb-true (length tag.reason) 0 parts.1))
      where
        no_octets : (l : List ℕ) → length l ≡ 0 → l ≡ []
        no_octets [] e = refl
        no_octets (x ∷ l) e = absurd (omega (arith, e))

    tag_if : (b : Bool) (tag : Tag) (moves : List DeviceMove)
        → tag_of (cons_option (if b then Some (tagged tag) else None) moves)
        ≡ (if b then tag else tag_of moves)
    tag_if true tag moves = refl
    tag_if false tag moves = refl

    -- devices of different numbers have different names
    other_name : (d e : ℕ) → d < length rows.devices → e < length rows.devices → (d ≡ e → ⊥)
        → bytes_eq (device_of rows d).name (device_of rows e).name ≡ false
    other_name d e here there apart =
        by (bytes_eq (device_of rows d).name (device_of rows e).name) refl
      where
        by : (b : Bool) → bytes_eq (device_of rows d).name (device_of rows e).name ≡ b → b ≡ false
        by true same =
            let name = (bytes_eq-Decides (device_of rows d).name (device_of rows e).name).0 same in
            ⊎_elim (λ equal. absurd (apart equal))
            (λ either. ⊎_elim
            (λ below. absurd (lawful.device_names d e no_device below there name))
            (λ above. absurd (lawful.device_names e d no_device above here (sym name))) either)
            (cases_order d e)
        by false same = refl

    device_step : (i j d : ℕ) (past : Past) → d < length rows.devices
        → IsTold rows base i j d 0 past
        → IsTold rows base i j (d + 1) 0 (told (tag_told rows base d) past)
    device_step i j d past within is = by (tag_past rows d base) refl
      where
        by : (tag : Tag) → tag ≡ tag_past rows d base
            → IsTold rows base i j (d + 1) 0 (told (tag_event d tag) past)
        by tag same = none_or ((tag.tag == 0) && (length tag.reason == 0)) refl
          where
            none_or : (b : Bool) → ((tag.tag == 0) && (length tag.reason == 0)) ≡ b
                → IsTold rows base i j (d + 1) 0
                (told (if b then [] else events.Tag d tag ∷ []) past)
            none_or true e = record {
              lived = is.lived;
              free = is.free;
              going = is.going;
              choice = is.choice;
              no_choice = is.no_choice;
              values = is.values;
              no_values = is.no_values;
              tag = λ f below. ⊎_elim
                  (λ here.
                  let above : d ≤ f = omega (arith, here) in
                  let there : f < length rows.devices = omega (arith, here, within) in
                  is.no_tags f above there ∙ sym (untagged tag e) ∙ same
                  ∙ ap (λ n. tag_past rows n base) (sym here))
                  (λ apart. is.tag f (omega (arith, below, apart))) (cases_eq f d);
              no_tags = λ f above there. is.no_tags f (omega (arith, above)) there;
              tick = is.tick;
              opens = is.opens;
              no_sets = is.no_sets;
            }
            none_or false e = record {
              lived = told_lived rows past (events.Tag d tag) (tags d tag) refl is.lived is.going
                  (lt-ltb d (length rows.devices) within) refl;
              free = λ who. same_either (0 == who) (association_in past who) (is.free who);
              going = is.going;
              choice = is.choice;
              no_choice = is.no_choice;
              values = is.values;
              no_values = is.no_values;
              tag = λ f below.
                  let there : f < length rows.devices = omega (arith, below, within) in
                  tag_if (bytes_eq (device_of rows d).name (device_of rows f).name) tag
                  (device_moves (device_of rows f).name
                  (steps_in rows (own_tables rows) (moves_in past)))
                  ∙ ⊎_elim
                  (λ here. rw ((bytes_eq-Decides (device_of rows d).name (device_of rows f).name).1
                  (ap (λ n. (device_of rows n).name) (sym here)))
                  (same ∙ ap (λ n. tag_past rows n base) (sym here)))
                  (λ apart. rw (other_name d f within there (λ g. apart (sym g)))
                  (is.tag f (omega (arith, below, apart)))) (cases_eq f d);
              no_tags = λ f above there.
                  tag_if (bytes_eq (device_of rows d).name (device_of rows f).name) tag
                  (device_moves (device_of rows f).name
                  (steps_in rows (own_tables rows) (moves_in past)))
                  ∙ rw (other_name d f within there (λ g. omega (arith, above, g)))
                  (is.no_tags f (omega (arith, above)) there);
              tick = is.tick;
              opens = λ p. let none = is.opens p in omega (arith, none);
              no_sets = λ p z.
                  none_behind (own_tables rows p) (view_of rows p past) z
                  (is_some (device_named (own_tables rows p) (device_of rows d).name))
                  (seen.tagged (device_of rows d).name tag) refl (is.no_sets p z);
            }

    devices_phase : (i j n d : ℕ) (past : Past) → d + n ≤ length rows.devices
        → IsTold rows base i j d 0 past
        → IsTold rows base i j (d + n) 0
        (told (flat_map (tag_told rows base) (range_with_len d n)) past)
    devices_phase i j zero d past within is =
        let same : d ≡ d + 0 = omega arith in
        subst (λ k. IsTold rows base i j k 0 past) same is
    devices_phase i j (suc n) d past within is =
        let same : d + 1 + n ≡ d + suc n = omega arith in
        subst (λ k. IsTold rows base i j k 0
        (told (flat_map (tag_told rows base) (range_with_len d (suc n))) past)) same
        (subst (IsTold rows base i j (d + 1 + n) 0)
        (sym (told-append (tag_told rows base d)
        (flat_map (tag_told rows base) (range_with_len (d + 1) n)) past))
        (devices_phase i j n (d + 1) (told (tag_told rows base d) past)
        (omega (arith, within))
        (device_step i j d past (omega (arith, within)) is)))

    -- the moment

    moment_step : (i j d : ℕ) (past : Past) → IsTold rows base i j d 0 past
        → IsTold rows base i j d (last_tick base) (told (moment_event (last_tick base)) past)
    moment_step i j d past is = by (last_tick base) (tick_within rows base lived)
      where
        by : (now : ℕ) → nat_le MOMENT_LIMIT now ≡ false
            → IsTold rows base i j d now (told (moment_event now) past)
        by now limit = none_or (now == 0) refl
          where
            none_or : (b : Bool) → (now == 0) ≡ b
                → IsTold rows base i j d now (told (if b then [] else Tick now ∷ []) past)
            none_or true e =
                subst (λ n. IsTold rows base i j d n past) (sym (eqb-true now 0 e)) is
            none_or false e = record {
              lived = told_lived rows past (Tick now) (ticks now) refl is.lived is.going refl
                  (rw (limit, is.tick) (forward (nat_le now 0) refl));
              free = λ who. same_either (0 == who) (association_in past who) (is.free who);
              going = is.going;
              choice = is.choice;
              no_choice = is.no_choice;
              values = is.values;
              no_values = is.no_values;
              tag = is.tag;
              no_tags = is.no_tags;
              tick = refl;
              opens = λ p. let none = is.opens p in omega (arith, none);
              no_sets = λ p z.
                  none_kept (keeps_force (seen.ticked now) (view_of rows p past))
                  (sets_in (own_tables rows p) (view_of rows p past) z) (is.no_sets p z);
            }
              where
                forward : (c : Bool) → nat_le now 0 ≡ c
                    → (if c then Some (Backward 0) else None) ≡ None
                forward true f =
                    let le : now ≤ 0 = leb-true now 0 f in
                    absurd (false≢true (sym e ∙ eq-eqb now 0 (omega (arith, le))))
                forward false f = refl

    -- all of it but the data sets
    abbrev pub fed_events : List EventKind
    fed_events =
        flat_map (table_told rows base) (places_of rows.tables)
        ++ flat_map (value_told rows base) (places_of rows.points)
        ++ flat_map (tag_told rows base) (places_of rows.devices) ++ moment_event (last_tick base)

    pub fed_told : IsTold rows base (length rows.tables) (length rows.points) (length rows.devices)
        (last_tick base) (told fed_events [])
    fed_told =
        let a = flat_map (table_told rows base) (places_of rows.tables) in
        let b = flat_map (value_told rows base) (places_of rows.points) in
        let c = flat_map (tag_told rows base) (places_of rows.devices) in
        let m = moment_event (last_tick base) in
        let n = length rows.tables in
        let k = length rows.points in
        let l = length rows.devices in
        let one : IsTold rows base n 0 0 0 (told a []) =
        zero_plus n (λ x. IsTold rows base x 0 0 0 (told a [])) (tables_phase n 0 [] told_none) in
        let two : IsTold rows base n k 0 0 (told (a ++ b) []) =
        subst (IsTold rows base n k 0 0) (sym (told-append a b []))
        (zero_plus k (λ x. IsTold rows base n x 0 0 (told b (told a [])))
        (points_phase n k 0 (told a []) one)) in
        let three : IsTold rows base n k l 0 (told ((a ++ b) ++ c) []) =
        subst (IsTold rows base n k l 0) (sym (told-append (a ++ b) c []))
        (zero_plus l (λ x. IsTold rows base n k x 0 (told c (told (a ++ b) [])))
        (devices_phase n k l 0 (told (a ++ b) []) (omega arith) two)) in
        subst (IsTold rows base n k l (last_tick base)) (sym (told-append ((a ++ b) ++ c) m []))
        (moment_step n k l (told ((a ++ b) ++ c) []) three)
      where
        zero_plus : (n : ℕ) (P : ℕ → Type 0) → P (0 + n) → P n
        zero_plus n P p = let same : 0 + n ≡ n = omega arith in subst P same p
