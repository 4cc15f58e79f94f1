-- The same entries behind two histories of which the second stands where the first does: each event
-- is answered and refused alike behind both.
use Rattle.std.proofs.Common.{◌≡◌, ℕ, Bool, true, false, List, [], ◌∷◌, ◌++◌, map, Option}
use Rattle.std.proofs.Common.{Some, None, is_some, refl, sym, ap, subst, ◌∙◌, inl, if◌then◌else◌}
use Rattle.std.proofs.lemmas.Bool.{false≢true}
use Rattle.std.specs.Prelude.{option_map, All}
use Rattle.tase_points.specs.declared.kind.Kind.{Kind}
use Rattle.point_db.specs.Updates.{last_of}
use Rattle.bilateral.specs.Rows.{CentreRows, IsCentre}
use Rattle.sbo_device.specs.Moves.{Tag, DeviceState, ControlPoint}
use Rattle.sbo_device.specs.States.{state_in, tag_of}
use Rattle.tase_views.specs.declared.event.EventKind.{EventKind}
use Rattle.tase_views.specs.declared.fault.StepFault.{StepFault}
use Rattle.tase_views.specs.declared.fault.StepFault.TheVariants.{Stopped}
use Rattle.tase_views.specs.Moves.{sort_of, Move}
use Rattle.tase_views.specs.Force.{last_chosen, force_of}
use Rattle.tase_views.specs.History.{Past, opens_in, last_tick, stop_in}
use Rattle.tase_views.specs.OwnTables.{own_tables, table_in, device_named, is_selectable}
use Rattle.tase_views.specs.View.{View, moves_in, view_of, view_by, moment_in, moves_seen, seen_in}
use Rattle.tase_views.specs.Values.{values_in}
use Rattle.tase_views.specs.Slots.{sets_in}
use Rattle.tase_views.specs.Outcomes.{stop_refusal, own_refusal, clock_refusal, clock_refusal_by}
use Rattle.tase_views.specs.Outcomes.{is_close}
use Rattle.tase_views.proofs.Seen.{view_by-append}
use Rattle.tase_views.proofs.DevicesSeen.{has_named}
use Rattle.tase_views.specs.Lived.{unweighed_refusal, IsLived}
use Rattle.tase_views.specs.Chosen.{chosen_in}
use Rattle.tase_resume.specs.Recounted.{Gap}
use Rattle.tase_resume.proofs.RaisedHolds.{Offsets, raised_state}
use Rattle.tase_resume.proofs.Calm.{three_none}
use Rattle.tase_resume.proofs.Like.{raised, HasGap, IsLike}
use Rattle.tase_resume.proofs.KeysAlike.{AreBoth, moves_behind, moves_are, moves_raised}
use Rattle.tase_resume.proofs.KeysAlike.{own_refused, tick_alike, stop_alike, new_moves}
use Rattle.tase_resume.proofs.PeerOffsets.{offsets_seen}
use Rattle.tase_resume.proofs.ViewsAlike.{IsForceLike, seen_alike}
use Rattle.tase_resume.proofs.Settled.{none_counts}
use Rattle.tase_resume.proofs.Selectable.{selectable}
use Rattle.tase_resume.proofs.TablesSeen.{table_moves-seen}
use Rattle.tase_resume.proofs.BaseSettled.{IsSettled, settled, held_state}
use Rattle.tase_resume.proofs.StepAlike.{like_behind_all}

-- Two histories without associations and stops, of which the second stands where the first does:
-- chosen tables, the moment, last values, tags and data sets are those of the first. The first has
-- had so many opens more, and so many changes of each point.
pub record IsWarm (rows : CentreRows) (off : Offsets) (gap : Gap) (one other : Past) : Type 0 where
  pub one_lived : IsLived rows one
  pub other_lived : IsLived rows other
  pub both : AreBoth off one other
  pub one_going : stop_in one ≡ None
  pub other_going : stop_in other ≡ None
  pub tick : last_tick one ≡ last_tick other
  pub choice : (peer : ℕ) → chosen_in (view_of rows peer one) ≡ chosen_in (view_of rows peer other)
  pub moment : (peer : ℕ) → moment_in (view_of rows peer one) ≡ moment_in (view_of rows peer other)
  pub last : (peer : ℕ) (kind : Kind) (name : List ℕ)
      → last_of kind (values_in (view_of rows peer one) name)
      ≡ last_of kind (values_in (view_of rows peer other) name)
  pub gaps : (peer n : ℕ) → All (HasGap gap (view_of rows peer one) (view_of rows peer other))
      (table_in (own_tables rows peer) n).points
  pub tag : (peer : ℕ) (name : List ℕ) → is_some (device_named (own_tables rows peer) name) ≡ true
      → tag_of (moves_seen (own_tables rows peer) (view_of rows peer one) name)
      ≡ tag_of (moves_seen (own_tables rows peer) (view_of rows peer other) name)
  pub sets : (peer : ℕ) (name : List ℕ)
      → sets_in (own_tables rows peer) (view_of rows peer one) name
      ≡ sets_in (own_tables rows peer) (view_of rows peer other) name

module _ (rows : CentreRows) (lawful : IsCentre rows) (off : Offsets) (gap : Gap)
    (one other : Past) (warm : IsWarm rows off gap one other) where
  one_settled : (peer : ℕ)
      → IsSettled (own_tables rows peer) (opens_in one peer) (view_of rows peer one)
  one_settled peer = settled rows one peer lawful warm.one_lived warm.both.free

  other_settled : (peer : ℕ)
      → IsSettled (own_tables rows peer) (opens_in other peer) (view_of rows peer other)
  other_settled peer = settled rows other peer lawful warm.other_lived warm.both.other_free

  state_alike : (peer : ℕ) (name : List ℕ) (point : ControlPoint)
      → is_selectable (own_tables rows peer) name ≡ true
      → state_in point (moves_seen (own_tables rows peer) (view_of rows peer one) name)
      ≡ raised_state (offsets_seen rows peer off)
      (state_in point (moves_seen (own_tables rows peer) (view_of rows peer other) name))
  state_alike peer name point named =
      held_state point (moves_seen (own_tables rows peer) (view_of rows peer one) name)
      ((one_settled peer).hold name point named)
      ∙ ap (λ (t : Tag). let s : DeviceState = record {
        point = point;
        tag = t.tag;
        hold = None;
      } in s) (warm.tag peer name (has_named (own_tables rows peer) name named))
      ∙ sym (ap (raised_state (offsets_seen rows peer off))
      (held_state point (moves_seen (own_tables rows peer) (view_of rows peer other) name)
      ((other_settled peer).hold name point named)))

  -- at first
  pub start : (peer : ℕ)
      → IsLike (own_tables rows peer) (offsets_seen rows peer off) gap (opens_in other peer)
      (view_of rows peer one) (view_of rows peer other)
  start peer = record {
    count = (one_settled peer).count ∙ sym (other_settled peer).count;
    choice = warm.choice peer;
    table = (one_settled peer).table ∙ warm.choice peer ∙ sym (other_settled peer).table;
    moment = warm.moment peer;
    last = warm.last peer;
    gaps = warm.gaps peer;
    tag = warm.tag peer;
    state = state_alike peer;
    sets = warm.sets peer;
    slots = λ s. inl ((one_settled peer).slots s, (other_settled peer).slots s);
  }

  pub forces : (peer : ℕ) → IsForceLike peer (moves_in one) (moves_in other)
  forces peer =
      let owns = own_tables rows in
      let first = table_moves-seen rows owns peer (moves_in one) in
      let second = table_moves-seen rows owns peer (moves_in other) in
      record {
        count = none_counts rows one warm.one_lived warm.both.free peer
            ∙ sym (none_counts rows other warm.other_lived warm.both.other_free peer);
        choice = sym (ap last_chosen first) ∙ warm.choice peer ∙ ap last_chosen second;
        force = sym (ap force_of first) ∙ (start peer).table ∙ ap force_of second;
      }

  pub view_is : (peer : ℕ) (later : Past) → IsLived rows (later ++ other)
      → view_of rows peer (later ++ one)
      ≡ map (raised (offsets_seen rows peer off))
      (seen_in rows (own_tables rows) peer (moves_in other) (moves_behind later other))
      ++ view_of rows peer one
  view_is peer later lived =
      let owns = own_tables rows in
      ap (view_by rows owns peer) (moves_are later one)
      ∙ view_by-append rows owns peer (moves_behind later one) (moves_in one)
      ∙ ap (λ (l : List Move). seen_in rows owns peer (moves_in one) l ++ view_of rows peer one)
      (moves_raised off one other warm.both later)
      ∙ ap (λ (v : View). v ++ view_of rows peer one)
      (seen_alike rows lawful owns off peer other warm.both.other_free (moves_in one)
      (moves_in other) forces (moves_behind later other)
      (new_moves rows other warm.both.other_free later lived))

  pub other_view_is : (peer : ℕ) (later : Past)
      → view_of rows peer (later ++ other)
      ≡ seen_in rows (own_tables rows) peer (moves_in other) (moves_behind later other)
      ++ view_of rows peer other
  other_view_is peer later =
      ap (view_by rows (own_tables rows) peer) (moves_are later other)
      ∙ view_by-append rows (own_tables rows) peer (moves_behind later other) (moves_in other)

  -- and behind the same entries
  pub going : (peer : ℕ) (later : Past) → IsLived rows (later ++ other)
      → IsLike (own_tables rows peer) (offsets_seen rows peer off) gap (opens_in other peer)
      (view_of rows peer (later ++ one)) (view_of rows peer (later ++ other))
  going peer later lived =
      let like = IsLike (own_tables rows peer) (offsets_seen rows peer off) gap
      (opens_in other peer) in
      subst (λ (v : View). like v (view_of rows peer (later ++ other)))
      (sym (view_is peer later lived))
      (subst (λ (w : View). like (map (raised (offsets_seen rows peer off))
      (seen_in rows (own_tables rows) peer (moves_in other) (moves_behind later other))
      ++ view_of rows peer one) w) (sym (other_view_is peer later))
      (like_behind_all (own_tables rows peer) (offsets_seen rows peer off) gap
      (opens_in other peer) (selectable rows peer lawful)
      (seen_in rows (own_tables rows) peer (moves_in other) (moves_behind later other))
      (view_of rows peer one) (view_of rows peer other) (start peer)))

  -- events are refused alike

  pub owns_alike : (later : Past) (who : ℕ) (event : EventKind)
      → own_refusal rows (later ++ one) who event ≡ own_refusal rows (later ++ other) who event
  owns_alike later who event = own_refused off one other warm.both rows later who event

  pub clocks_alike : (later : Past) (event : EventKind)
      → clock_refusal (later ++ one) event ≡ clock_refusal (later ++ other) event
  clocks_alike later event =
      ap (λ n. clock_refusal_by n (sort_of event)) (tick_alike later one other warm.tick)

  pub stops_alike : (later : Past) (event : EventKind)
      → is_some (stop_refusal (later ++ one) event) ≡ is_some (stop_refusal (later ++ other) event)
  stops_alike later event =
      by (is_close event) (stop_in (later ++ one)) (stop_in (later ++ other))
      (stop_alike later one other
      (ap (λ (o : Option ℕ). is_some o) (warm.one_going ∙ sym warm.other_going)))
    where
      by : (b : Bool) (x y : Option ℕ) → is_some x ≡ is_some y
          → is_some (if b then None else option_map (λ place. Stopped place) x)
          ≡ is_some (if b then None else option_map (λ place. Stopped place) y)
      by true x y same = refl
      by false None None same = refl
      by false (Some m) (Some n) same = refl
      by false None (Some n) same = absurd (false≢true same)
      by false (Some m) None same = absurd (false≢true (sym same))

  refusal_back : (later : Past) (who : ℕ) (event : EventKind)
      → unweighed_refusal rows (later ++ one) who event ≡ None
      → unweighed_refusal rows (later ++ other) who event ≡ None
  refusal_back later who event none =
      let parts = three_none (stop_refusal (later ++ one) event)
      (own_refusal rows (later ++ one) who event) (clock_refusal (later ++ one) event) none in
      let stop = none_of (stop_refusal (later ++ other) event)
      (sym (stops_alike later event) ∙ ap (λ (o : Option StepFault). is_some o) parts.0) in
      let mine = sym (owns_alike later who event) ∙ parts.1 in
      let clock = sym (clocks_alike later event) ∙ parts.2 in
      rw (stop, mine, clock) refl
    where
      none_of : (o : Option StepFault) → is_some o ≡ false → o ≡ None
      none_of None e = refl
      none_of (Some fault) e = absurd (false≢true (sym e))

  refusal_same : (later : Past) (who : ℕ) (event : EventKind)
      → unweighed_refusal rows (later ++ other) who event ≡ None
      → unweighed_refusal rows (later ++ one) who event ≡ None
  refusal_same later who event none =
      let parts = three_none (stop_refusal (later ++ other) event)
      (own_refusal rows (later ++ other) who event) (clock_refusal (later ++ other) event) none in
      let stop = none_of (stop_refusal (later ++ one) event)
      (stops_alike later event ∙ ap (λ (o : Option StepFault). is_some o) parts.0) in
      let mine = owns_alike later who event ∙ parts.1 in
      let clock = clocks_alike later event ∙ parts.2 in
      rw (stop, mine, clock) refl
    where
      none_of : (o : Option StepFault) → is_some o ≡ false → o ≡ None
      none_of None e = refl
      none_of (Some fault) e = absurd (false≢true (sym e))

  -- a node takes the same entries behind both
  pub lived_alike : (later : Past) → IsLived rows (later ++ other) → IsLived rows (later ++ one)
  lived_alike [] lived = warm.one_lived
  lived_alike (entry ∷ later) lived =
      (refusal_same later entry.who entry.event lived.0, lived_alike later lived.1)

  pub lived_back : (later : Past) → IsLived rows (later ++ one) → IsLived rows (later ++ other)
  lived_back [] lived = warm.other_lived
  lived_back (entry ∷ later) lived =
      (refusal_back later entry.who entry.event lived.0, lived_back later lived.1)
