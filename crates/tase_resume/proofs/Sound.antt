-- The snapshot of a history is one, where it weighs no more than a snapshot may.
use Rattle.std.proofs.Common.{◌≡◌, ◌==◌, ℕ, zero, suc, ◌+◌, ◌^◌, ◌<◌, ◌≤◌, Bool, true, false, not}
use Rattle.std.proofs.Common.{◌&&◌, if◌then◌else◌, List, [], ◌∷◌, ◌++◌, map, length, Option, Some}
use Rattle.std.proofs.Common.{None, refl, sym, ap, subst, ◌∙◌, arith, inl, inr, ◌⊎◌}
use Rattle.std.specs.Prelude.{option_and_then, flat_map, nat_lt}
use Rattle.std.specs.List.{range_with_len}
use Rattle.std.specs.Option.{option_map_or}
use Rattle.std.proofs.lemmas.Bool.{eq-eqb, lt-ltb, le-ltb}
use Rattle.std.proofs.lemmas.List.{append_assoc, append-nil, map-append, length-append}
use Rattle.tase_points.specs.Sample.{Sample}
use Rattle.mms_data.specs.ObjectName.{ObjectName}
use Rattle.data_sets.specs.declared.book.DataSet.{DataSet}
use Rattle.bilateral.specs.Rows.{CentreRows, IsCentre}
use Rattle.sbo_device.specs.declared.key.Key.{Key}
use Rattle.sbo_device.specs.Moves.{Tag}
use Rattle.point_db.specs.Updates.{last_given}
use Rattle.tase_views.specs.declared.event.EventKind.{EventKind}
use Rattle.tase_views.specs.declared.event.EventKind.TheVariants.{Open, Request, Close, Update}
use Rattle.tase_views.specs.declared.event.EventKind.TheVariants.{Table, Tick}
use Rattle.tase_views.specs.declared.event.EventKind.TheVariants as events
use Rattle.tase_views.specs.declared.event.Entry.{Entry}
use Rattle.tase_views.specs.declared.fault.StepFault.TheVariants.{HistoryFull}
use Rattle.tase_views.specs.OwnTables.{OwnTable, own_tables, domain_name, table_in}
use Rattle.tase_views.specs.declared.call.CallKind.TheVariants.{Define}
use Rattle.tase_views.specs.Moves.{requesting, closing}
use Rattle.tase_views.specs.History.{Past, association_in, last_tick}
use Rattle.tase_views.specs.Sets.{SetError, define_fault}
use Rattle.tase_views.specs.Slots.{sets_in}
use Rattle.tase_views.specs.Answers.{define_replied}
use Rattle.tase_views.specs.declared.reply.Answer.TheVariants.{Reply}
use Rattle.tase_views.specs.View.{held, view_of}
use Rattle.tase_views.specs.Weights.{weight, weight_of}
use Rattle.tase_views.specs.Outcomes.{stop_refusal, seat_refusal, name_refusal, own_refusal}
use Rattle.tase_views.specs.Outcomes.{clock_refusal, weight_refusal, refusal_of, answer_at}
use Rattle.tase_views.specs.Outcomes.{answer_of, is_ending}
use Rattle.tase_views.specs.Lived.{IsLived}
use Rattle.tase_views.specs.Given.{updates_of}
use Rattle.tase_views.specs.Listed.{sets_listed}
use Rattle.tase_views.specs.Chosen.{chosen_in}
use Rattle.tase_resume.proofs.WarmKnown.{tag_past}
use Rattle.tase_resume.specs.Warming.{of_centre, table_event, tag_event, moment_event, define_event}
use Rattle.tase_resume.specs.Warming.{set_events, table_told, value_told, tag_told, sets_told}
use Rattle.tase_resume.specs.Warming.{places_of, warm_events}
use Rattle.tase_resume.specs.declared.turns.LineTurn.{LineTurn}
use Rattle.tase_resume.specs.Snapshots.{turn_at, turn_of, is_above, SnapshotState}
use Rattle.tase_resume.specs.Snapshots.{no_lines, snapshot_setup, is_defined, opens_association}
use Rattle.tase_resume.specs.Snapshots.{snapshot_with, snapshot_behind, IsSnapshot}
use Rattle.tase_resume.proofs.Calm.{three_none, two_none}
use Rattle.tase_resume.proofs.SetsListed.{AreLawful, AreListed, listed, sets_many}
use Rattle.tase_resume.proofs.WarmTold.{told, told-append, fed_events}
use Rattle.tase_resume.proofs.WarmSteps.{front_once, next_new, next_allowed, no_fault}
use Rattle.tase_resume.proofs.WarmSets.{IsDefined, IsDefining, first_defined, open_step}
use Rattle.tase_resume.proofs.WarmSets.{define_step, table_of_base, base_force, block}

-- what stands in front of a history that a node takes, and weighs so little

lived_front : (rows : CentreRows) (these : List EventKind) (past : Past)
    → IsLived rows (told these past) → IsLived rows past
lived_front rows [] past lived = lived
lived_front rows (event ∷ these) past lived =
    (lived_front rows these (of_centre event ∷ past) lived).1

weight_front : (these : List EventKind) (past : Past)
    → weight_of past ≤ weight_of (told these past)
weight_front [] past = omega arith
weight_front (event ∷ these) past =
    let rest = weight_front these (of_centre event ∷ past) in
    omega (arith, rest)

full_if : (b : Bool) (weight limit sum : ℕ) → sum ≤ limit
    → (if not b && nat_lt limit sum then Some (HistoryFull sum limit) else None) ≡ None
full_if true weight limit sum within = refl
full_if false weight limit sum within = rw (le-ltb limit sum within) refl

module _ (rows : CentreRows) (all : Past) (all_lived : IsLived rows all)
    (light : weight_of all ≤ 2 ^ 31) where
  -- so none of its entries is refused
  accepted : (event : EventKind) (rest : List EventKind) (past : Past)
      → told (event ∷ rest) past ≡ all
      → refusal_of (snapshot_setup rows) past 0 event ≡ None
  accepted event rest past is =
      let lived : IsLived rows (of_centre event ∷ past) =
      lived_front rows rest (of_centre event ∷ past) (subst (IsLived rows) (sym is) all_lived) in
      let parts = three_none (stop_refusal past event) (own_refusal rows past 0 event)
      (clock_refusal past event) lived.0 in
      let own = two_none (seat_refusal (association_in past 0) event) (name_refusal rows event)
      parts.1 in
      let front : weight_of (of_centre event ∷ past) ≤ weight_of all =
      subst (λ p. weight_of (of_centre event ∷ past) ≤ weight_of p) is
      (weight_front rest (of_centre event ∷ past)) in
      let sum : weight_of past + weight event ≤ 2 ^ 31 = omega (arith, front, light) in
      let full : weight_refusal (snapshot_setup rows) past event ≡ None =
      full_if (is_ending event) (weight event) (2 ^ 31) (weight_of past + weight event) sum in
      rw (parts.0, own.0, own.1, parts.2, full) refl

  -- the places from one on are above a line
  abbrev IsBelow : Option LineTurn → ℕ → ℕ → Type 0
  IsBelow last part number =
      (p m : ℕ) → (part < p) ⊎ ((p ≡ part) × (number ≤ m))
      → is_above last (record { part = p; number = m }) ≡ true

  -- and so are those from a later one on
  more_below : (last : Option LineTurn) (part number more : ℕ) → number ≤ more
      → IsBelow last part number → IsBelow last part more
  more_below last part number more le below p m (inl higher) = below p m (inl higher)
  more_below last part number more le below p m (inr same) =
      let above = same.1 in below p m (inr (same.0, omega (arith, above, le)))

  part_below : (last : Option LineTurn) (part number next : ℕ) → part < next
      → IsBelow last part number → IsBelow last next 0
  part_below last part number next lt below p m (inl higher) =
      below p m (inl (omega (arith, higher, lt)))
  part_below last part number next lt below p m (inr same) =
      let is = same.0 in below p m (inl (omega (arith, is, lt)))

  -- a state behind entries, outside an association
  record Reaches (these : List EventKind) (from : SnapshotState) (part number : ℕ) : Type 0 where
    state : SnapshotState
    runs : snapshot_behind rows from (map of_centre these) ≡ Some state
    past : state.past ≡ told these from.past
    outside : state.defining ≡ None
    below : IsBelow state.last part number

  behind-append : (one other : List Entry) (from : SnapshotState)
      → snapshot_behind rows from (one ++ other)
      ≡ option_and_then (λ s. snapshot_behind rows s other) (snapshot_behind rows from one)
  behind-append [] other from = refl
  behind-append (entry ∷ one) other from =
      by (snapshot_with rows from entry) (λ after. behind-append one other after)
    where
      by : (found : Option SnapshotState)
          → ((after : SnapshotState) → snapshot_behind rows after (one ++ other)
          ≡ option_and_then (λ s. snapshot_behind rows s other) (snapshot_behind rows after one))
          → option_and_then (λ after. snapshot_behind rows after (one ++ other)) found
          ≡ option_and_then (λ s. snapshot_behind rows s other)
          (option_and_then (λ after. snapshot_behind rows after one) found)
      by None rest = refl
      by (Some after) rest = rest after

  runs_on : (one other : List EventKind) (from middle final : SnapshotState)
      → snapshot_behind rows from (map of_centre one) ≡ Some middle
      → snapshot_behind rows middle (map of_centre other) ≡ Some final
      → snapshot_behind rows from (map of_centre (one ++ other)) ≡ Some final
  runs_on one other from middle final first second =
      ap (snapshot_behind rows from) (map-append of_centre one other)
      ∙ behind-append (map of_centre one) (map of_centre other) from
      ∙ ap (λ (o : Option SnapshotState). option_and_then
      (λ s. snapshot_behind rows s (map of_centre other)) o) first
      ∙ second

  reaches_on : (one other : List EventKind) (from : SnapshotState) (p n q m : ℕ)
      (first : Reaches one from p n) → Reaches other first.state q m
      → Reaches (one ++ other) from q m
  reaches_on one other from p n q m first second = record {
    state = second.state;
    runs = runs_on one other from first.state second.state first.runs second.runs;
    past = second.past ∙ ap (told other) first.past ∙ sym (told-append one other from.past);
    outside = second.outside;
    below = second.below;
  }

  nothing : (from : SnapshotState) (p n : ℕ) → from.defining ≡ None → IsBelow from.last p n
      → Reaches [] from p n
  nothing from p n outside below = record {
    state = from;
    runs = refl;
    past = refl;
    outside = outside;
    below = below;
  }

  -- one line is below those behind it, and below other parts

  next_below : (part k : ℕ) → IsBelow (Some (record { part = part; number = k })) part (k + 1)
  next_below part k p m (inl higher) = rw (lt-ltb part p higher) refl
  next_below part k p m (inr same) =
      let above = same.1 in
      let less : k < m = omega (arith, above) in
      rw (same.0, le-ltb part part (omega arith), eq-eqb part part refl, lt-ltb k m less) refl

  -- no line, or one at this place
  abbrev IsLineAt : ℕ → ℕ → List EventKind → Type 0
  IsLineAt part k these =
      (these ≡ [])
      ⊎ ((event : EventKind) × (these ≡ event ∷ []) × (turn_of event ≡ turn_at part k)
      × (opens_association event ≡ false))

  one_taken : (event : EventKind) (from : SnapshotState) (part k : ℕ) → from.defining ≡ None
      → IsBelow from.last part k → turn_of event ≡ turn_at part k
      → opens_association event ≡ false
      → refusal_of (snapshot_setup rows) from.past 0 event ≡ None
      → snapshot_with rows from (of_centre event)
      ≡ Some (record {
        past = of_centre event ∷ from.past;
        last = turn_at part k;
        defining = None;
      })
  one_taken event from part k outside below turn opens taken =
      rw (taken, outside, turn, below part k (inr (refl, omega arith)), opens) refl

  line_run : (these : List EventKind) (from : SnapshotState) (part k : ℕ) (rest : List EventKind)
      → IsLineAt part k these → from.defining ≡ None → IsBelow from.last part k
      → told (these ++ rest) from.past ≡ all
      → Reaches these from part (k + 1)
  line_run these from part k rest (inl none) outside below is =
      subst (λ (l : List EventKind). Reaches l from part (k + 1)) (sym none)
      (nothing from part (k + 1) outside
      (more_below from.last part k (k + 1) (omega arith) below))
  line_run these from part k rest (inr line) outside below is =
      let event = line.0 in
      let one = line.1 in
      let turn = line.2 in
      let opens = line.3 in
      let taken = accepted event rest from.past
      (ap (λ (l : List EventKind). told (l ++ rest) from.past) (sym one) ∙ is) in
      subst (λ (l : List EventKind). Reaches l from part (k + 1)) (sym one) (record {
        state = record {
          past = of_centre event ∷ from.past;
          last = turn_at part k;
          defining = None;
        };
        runs = ap (λ (o : Option SnapshotState). option_and_then
            (λ after. snapshot_behind rows after []) o)
            (one_taken event from part k outside below turn opens taken);
        past = refl;
        outside = refl;
        below = next_below part k;
      })

  lines_run : (f : ℕ → List EventKind) (part : ℕ) → ((k : ℕ) → IsLineAt part k (f k))
      → (n k : ℕ) (from : SnapshotState) (rest : List EventKind) → from.defining ≡ None
      → IsBelow from.last part k
      → told (flat_map f (range_with_len k n) ++ rest) from.past ≡ all
      → Reaches (flat_map f (range_with_len k n)) from part (k + n)
  lines_run f part each zero k from rest outside below is =
      nothing from part (k + 0) outside (more_below from.last part k (k + 0) (omega arith) below)
  lines_run f part each (suc n) k from rest outside below is =
      let more = flat_map f (range_with_len (k + 1) n) in
      let split : told (f k ++ (more ++ rest)) from.past ≡ all =
      ap (λ (l : List EventKind). told l from.past) (sym (append_assoc (f k) more rest)) ∙ is in
      let first = line_run (f k) from part k (more ++ rest) (each k) outside below split in
      let onward : told (more ++ rest) first.state.past ≡ all =
      ap (told (more ++ rest)) first.past ∙ sym (told-append (f k) (more ++ rest) from.past)
      ∙ split in
      let second = lines_run f part each n (k + 1) first.state rest first.outside first.below
      onward in
      let same : k + 1 + n ≡ k + suc n = omega arith in
      subst (λ m. Reaches (flat_map f (range_with_len k (suc n))) from part m) same
      (reaches_on (f k) more from part (k + 1) part (k + 1 + n) first second)

  -- a peer's data sets, one by one

  abbrev state_of : Past → Option LineTurn → Option Bool → SnapshotState
  state_of past last defining = record { past = past; last = last; defining = defining }

  inside_taken : (event : EventKind) (past : Past) (last : Option LineTurn) (some : Bool)
      → refusal_of (snapshot_setup rows) past 0 event ≡ None
      → is_defined (answer_of (snapshot_setup rows) past 0 event) ≡ true
      → snapshot_with rows (state_of past last (Some some)) (of_centre event)
      ≡ Some (state_of (of_centre event ∷ past) last (Some true))
  inside_taken event past last some taken defined = rw (taken, defined) refl

  close_taken : (past : Past) (last : Option LineTurn)
      → refusal_of (snapshot_setup rows) past 0 Close ≡ None
      → is_defined (answer_of (snapshot_setup rows) past 0 Close) ≡ false
      → snapshot_with rows (state_of past last (Some true)) (of_centre Close)
      ≡ Some (state_of (of_centre Close ∷ past) last None)
  close_taken past last taken undefined = rw (taken, undefined) refl

  -- an answer to a definition without a fault
  answer_defined : (past : Past) (key : Key) (name : ObjectName) (members : List ObjectName)
      → association_in past 0 ≡ Some key
      → define_fault (held (own_tables rows key.peer) (view_of rows key.peer past))
      (sets_in (own_tables rows key.peer) (view_of rows key.peer past))
      (view_of rows key.peer past) name members ≡ None
      → is_defined (answer_of (snapshot_setup rows) past 0 (Request (Define name members))) ≡ true
  answer_defined past key name members mine fault =
      ap (λ (k : Option Key). is_defined (answer_at rows past (requesting (Define name members)) k))
      mine
      ∙ ap (λ (o : Option SetError). is_defined (Reply (define_replied o))) fault

  close_undefined : (past : Past)
      → is_defined (answer_of (snapshot_setup rows) past 0 Close) ≡ false
  close_undefined past = by (association_in past 0)
    where
      by : (k : Option Key) → is_defined (answer_at rows past closing k) ≡ false
      by None = refl
      by (Some key) = refl

  module _ (lawful : IsCentre rows) (base : Past) (base_lived : IsLived rows base)
      (base_free : (who : ℕ) → association_in base who ≡ None) where
    abbrev IsDefiningAt : ℕ → Past → List DataSet → Past → Type 0
    IsDefiningAt = IsDefining rows lawful base base_lived base_free

    abbrev table_at : ℕ → OwnTable
    table_at = table_of_base rows lawful base base_lived base_free

    -- the next definition has no fault
    fault_at : (peer : ℕ) (before : Past) (done : List DataSet) (set : DataSet)
        (rest : List DataSet) (past : Past) → AreLawful (table_at peer) (done ++ set ∷ rest)
        → IsDefiningAt peer before done past
        → define_fault (held (own_tables rows peer) (view_of rows peer past))
        (sets_in (own_tables rows peer) (view_of rows peer past)) (view_of rows peer past)
        (domain_name (table_at peer) set.name) set.members
        ≡ None
    fault_at peer before done set rest past allowed is =
        let tables = own_tables rows peer in
        let view = view_of rows peer past in
        let same : held tables view ≡ table_at peer =
        ap (table_in tables)
        (is.table ∙ sym (base_force rows lawful base base_lived base_free peer)) in
        let many = sets_many tables view done (front_once done (set ∷ rest) allowed.once) is.sets in
        let long = length-append done (set ∷ rest) in
        let few = allowed.few in
        ap (λ (t : OwnTable). define_fault t (sets_in tables view) view
        (domain_name (table_at peer) set.name) set.members) same
        ∙ no_fault (table_at peer) (sets_in tables view) view set
        (next_allowed (table_at peer) done set rest allowed.allowed)
        (is.sets set.name ∙ next_new done set rest allowed.once)
        (omega (arith, many, long, few))

    -- all definitions of a peer are taken, and then its close
    defines_run : (peer : ℕ) (before : Past) (rest done : List DataSet) (past : Past)
        (last : Option LineTurn) (some : Bool) (more : List EventKind)
        → AreLawful (table_at peer) (done ++ rest) → IsDefiningAt peer before done past
        → (some ≡ true) ⊎ ((set : DataSet) × (sets : List DataSet) × (rest ≡ set ∷ sets))
        → told (map (define_event (table_at peer)) rest ++ Close ∷ [] ++ more) past ≡ all
        → snapshot_behind rows (state_of past last (Some some))
        (map of_centre (map (define_event (table_at peer)) rest ++ Close ∷ []))
        ≡ Some (state_of (told (map (define_event (table_at peer)) rest ++ Close ∷ []) past) last
        None)
    defines_run peer before [] done past last some more allowed is begun whole =
        by begun
      where
        by : (some ≡ true) ⊎ ((set : DataSet) × (sets : List DataSet) × ([] ≡ set ∷ sets))
            → snapshot_behind rows (state_of past last (Some some)) (of_centre Close ∷ [])
            ≡ Some (state_of (of_centre Close ∷ past) last None)
        by (inl yes_some) =
            ap (λ b. snapshot_behind rows (state_of past last (Some b)) (of_centre Close ∷ []))
            yes_some
            ∙ ap (λ (o : Option SnapshotState). option_and_then
            (λ after. snapshot_behind rows after []) o)
            (close_taken past last (accepted Close more past whole) (close_undefined past))
        by (inr none) = absurd cc
    defines_run peer before (set ∷ rest) done past last some more allowed is begun whole =
        let table = table_at peer in
        let event = define_event table set in
        let after = of_centre event ∷ past in
        let joined : (done ++ set ∷ []) ++ rest ≡ done ++ set ∷ rest =
        append_assoc done (set ∷ []) rest in
        ap (λ (o : Option SnapshotState). option_and_then (λ s. snapshot_behind rows s
        (map of_centre (map (define_event table) rest ++ Close ∷ []))) o)
        (inside_taken event past last some
        (accepted event (map (define_event table) rest ++ Close ∷ [] ++ more) past whole)
        (answer_defined past (record { peer = peer; ordinal = 0 })
        (domain_name table set.name) set.members is.mine
        (fault_at peer before done set rest past allowed is)))
        ∙ defines_run peer before rest (done ++ set ∷ []) after last true more
        (subst (AreLawful table) (sym joined) allowed)
        (define_step rows lawful base base_lived base_free peer before done set rest past allowed
        is) (inl refl) whole

    -- a peer's association with all its definitions, if it has any
    open_taken : (peer : ℕ) (from : SnapshotState) → from.defining ≡ None
        → IsBelow from.last 4 peer
        → refusal_of (snapshot_setup rows) from.past 0 (Open peer) ≡ None
        → snapshot_with rows from (of_centre (Open peer))
        ≡ Some (state_of (of_centre (Open peer) ∷ from.past) (turn_at 4 peer) (Some false))
    open_taken peer from outside below taken =
        rw (taken, outside, below 4 peer (inr (refl, omega arith))) refl

    block_run : (peer : ℕ) (from : SnapshotState) (rest : List EventKind)
        → peer < length rows.tables → from.defining ≡ None → IsBelow from.last 4 peer
        → IsDefined rows lawful base base_lived base_free peer from.past
        → told (sets_told rows base peer ++ rest) from.past ≡ all
        → Reaches (sets_told rows base peer) from 4 (peer + 1)
    block_run peer from rest there outside below is whole =
        by (sets_listed (own_tables rows peer) (view_of rows peer base))
        (listed (own_tables rows peer) (view_of rows peer base)) whole
      where
        by : (sets : List DataSet)
            → AreListed (own_tables rows peer) (view_of rows peer base) sets
            → told (set_events peer (table_of_base rows lawful base base_lived base_free peer) sets
            ++ rest) from.past ≡ all
            → Reaches
            (set_events peer (table_of_base rows lawful base base_lived base_free peer) sets) from
            4 (peer + 1)
        by [] its all_is =
            nothing from 4 (peer + 1) outside
            (more_below from.last 4 peer (peer + 1) (omega arith) below)
        by (set ∷ sets) its all_is =
            let table = table_of_base rows lawful base base_lived base_free peer in
            let these = map (define_event table) (set ∷ sets) ++ Close ∷ [] in
            record {
              state = state_of (told these (of_centre (Open peer) ∷ from.past)) (turn_at 4 peer)
                  None;
              runs =
                  ap (λ (o : Option SnapshotState). option_and_then
                  (λ after. snapshot_behind rows after (map of_centre these)) o)
                  (open_taken peer from outside below
                  (accepted (Open peer) (these ++ rest) from.past all_is))
                  ∙ defines_run peer from.past (set ∷ sets) []
                  (of_centre (Open peer) ∷ from.past) (turn_at 4 peer) false rest its.lawful
                  (open_step rows lawful base base_lived base_free peer from.past there is)
                  (inr (set, sets, refl)) all_is;
              past = refl;
              outside = refl;
              below = next_below 4 peer;
            }

    -- what comes behind entries that were taken
    onward : (one rest : List EventKind) (from : SnapshotState) (p n : ℕ)
        (first : Reaches one from p n) → told (one ++ rest) from.past ≡ all
        → told rest first.state.past ≡ all
    onward one rest from p n first whole =
        ap (told rest) first.past ∙ sym (told-append one rest from.past) ∙ whole

    blocks_run : (n k : ℕ) (from : SnapshotState) (rest : List EventKind)
        → k + n ≤ length rows.tables → from.defining ≡ None → IsBelow from.last 4 k
        → IsDefined rows lawful base base_lived base_free k from.past
        → told (flat_map (sets_told rows base) (range_with_len k n) ++ rest) from.past ≡ all
        → Reaches (flat_map (sets_told rows base) (range_with_len k n)) from 4 (k + n)
    blocks_run zero k from rest within outside below is whole =
        nothing from 4 (k + 0) outside (more_below from.last 4 k (k + 0) (omega arith) below)
    blocks_run (suc n) k from rest within outside below is whole =
        let these = sets_told rows base k in
        let more = flat_map (sets_told rows base) (range_with_len (k + 1) n) in
        let there : k < length rows.tables = omega (arith, within) in
        let split : told (these ++ (more ++ rest)) from.past ≡ all =
        ap (λ (l : List EventKind). told l from.past) (sym (append_assoc these more rest)) ∙ whole
        in
        let first = block_run k from (more ++ rest) there outside below is split in
        let behind : IsDefined rows lawful base base_lived base_free (k + 1) first.state.past =
        subst (IsDefined rows lawful base base_lived base_free (k + 1)) (sym first.past)
        (block rows lawful base base_lived base_free k from.past there is) in
        let second = blocks_run n (k + 1) first.state rest (omega (arith, within)) first.outside
        first.below behind (onward these (more ++ rest) from 4 (k + 1) first split) in
        let same : k + 1 + n ≡ k + suc n = omega arith in
        subst (λ m. Reaches (flat_map (sets_told rows base) (range_with_len k (suc n))) from 4 m)
        same (reaches_on these more from 4 (k + 1) 4 (k + 1 + n) first second)

    -- the lines of each part

    table_line : (k : ℕ) → IsLineAt 0 k (table_told rows base k)
    table_line k = by (chosen_in (view_of rows k base))
      where
        by : (variant : ℕ) → IsLineAt 0 k (table_event k variant)
        by variant = none_or (variant == 0) refl
          where
            none_or : (b : Bool) → (variant == 0) ≡ b
                → IsLineAt 0 k (if b then [] else Table k variant ∷ [])
            none_or true e = inl refl
            none_or false e = inr (Table k variant, refl, rw e refl, refl)

    value_line : (k : ℕ) → IsLineAt 1 k (value_told rows base k)
    value_line k = by (last_given (updates_of base) k)
      where
        by : (found : Option Sample)
            → IsLineAt 1 k (option_map_or (λ (value : Sample). Update k value ∷ []) found [])
        by None = inl refl
        by (Some value) = inr (Update k value, refl, refl, refl)

    tag_line : (k : ℕ) → IsLineAt 2 k (tag_told rows base k)
    tag_line k = by (tag_past rows k base)
      where
        by : (tag : Tag) → IsLineAt 2 k (tag_event k tag)
        by tag = none_or ((tag.tag == 0) && (length tag.reason == 0)) refl
          where
            none_or : (b : Bool) → ((tag.tag == 0) && (length tag.reason == 0)) ≡ b
                → IsLineAt 2 k (if b then [] else events.Tag k tag ∷ [])
            none_or true e = inl refl
            none_or false e = inr (events.Tag k tag, refl, rw e refl, refl)

    moment_line : (now : ℕ) → IsLineAt 3 0 (moment_event now)
    moment_line now = by (now == 0)
      where
        by : (b : Bool) → IsLineAt 3 0 (if b then [] else Tick now ∷ [])
        by true = inl refl
        by false = inr (Tick now, refl, refl, refl)

    pub all_run : told (warm_events rows base) [] ≡ all
        → IsSnapshot rows (map of_centre (warm_events rows base))
    all_run whole =
        let a = flat_map (table_told rows base) (places_of rows.tables) in
        let b = flat_map (value_told rows base) (places_of rows.points) in
        let c = flat_map (tag_told rows base) (places_of rows.devices) in
        let m = moment_event (last_tick base) in
        let f = flat_map (sets_told rows base) (places_of rows.tables) in
        let n = length rows.tables in
        let k = length rows.points in
        let d = length rows.devices in
        let joined : (((a ++ b) ++ c) ++ m) ++ f ≡ a ++ (b ++ (c ++ (m ++ f))) =
        append_assoc ((a ++ b) ++ c) m f ∙ append_assoc (a ++ b) c (m ++ f)
        ∙ append_assoc a b (c ++ (m ++ f)) in
        let first_all : told (a ++ (b ++ (c ++ (m ++ f)))) [] ≡ all =
        ap (λ (l : List EventKind). told l []) (sym joined) ∙ whole in
        let one = lines_run (table_told rows base) 0 table_line n 0 no_lines
        (b ++ (c ++ (m ++ f))) refl (λ p q any. refl) first_all in
        let one_all = onward a (b ++ (c ++ (m ++ f))) no_lines 0 (0 + n) one first_all in
        let two = lines_run (value_told rows base) 1 value_line k 0 one.state (c ++ (m ++ f))
        one.outside (part_below one.state.last 0 (0 + n) 1 (omega arith) one.below) one_all in
        let two_all = onward b (c ++ (m ++ f)) one.state 1 (0 + k) two one_all in
        let three = lines_run (tag_told rows base) 2 tag_line d 0 two.state (m ++ f)
        two.outside (part_below two.state.last 1 (0 + k) 2 (omega arith) two.below) two_all in
        let three_all = onward c (m ++ f) two.state 2 (0 + d) three two_all in
        let four = line_run m three.state 3 0 f (moment_line (last_tick base)) three.outside
        (part_below three.state.last 2 (0 + d) 3 (omega arith) three.below) three_all in
        let four_all = onward m f three.state 3 (0 + 1) four three_all in
        let fed = fed_events rows lawful base base_lived in
        let reached : four.state.past ≡ told fed [] =
        four.past ∙ ap (told m) (three.past ∙ ap (told c) (two.past ∙ ap (told b) one.past))
        ∙ ap (λ (p : Past). told m (told c p)) (sym (told-append a b []))
        ∙ ap (told m) (sym (told-append (a ++ b) c []))
        ∙ sym (told-append ((a ++ b) ++ c) m []) in
        let five = blocks_run n 0 four.state [] (omega arith) four.outside
        (part_below four.state.last 3 (0 + 1) 4 (omega arith) four.below)
        (subst (IsDefined rows lawful base base_lived base_free 0) (sym reached)
        (first_defined rows lawful base base_lived base_free))
        (ap (λ (l : List EventKind). told l four.state.past) (append-nil f) ∙ four_all) in
        let last = reaches_on a (b ++ (c ++ (m ++ f))) no_lines 0 (0 + n) 4 (0 + n) one
        (reaches_on b (c ++ (m ++ f)) one.state 1 (0 + k) 4 (0 + n) two
        (reaches_on c (m ++ f) two.state 2 (0 + d) 4 (0 + n) three
        (reaches_on m f three.state 3 (0 + 1) 4 (0 + n) four five))) in
        subst (λ (l : List EventKind). IsSnapshot rows (map of_centre l)) (sym joined)
        (last.state, last.runs, last.outside)
