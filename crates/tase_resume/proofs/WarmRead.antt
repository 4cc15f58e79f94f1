-- The snapshot of a history stands where its base does.
use Rattle.std.proofs.Common.{◌≡◌, ◌==◌, ℕ, zero, suc, ◌+◌, ◌-◌, ◌^◌, ◌<◌, ◌≤◌, Bool, true, false}
use Rattle.std.proofs.Common.{List, [], ◌∷◌, map, reverse, length, Option, Some, None, is_some}
use Rattle.std.proofs.Common.{refl, sym, ap, subst, ◌∙◌, arith, ⊎_elim, bytes_eq, take, get_or}
use Rattle.std.proofs.Common.{if◌then◌else◌}
use Rattle.std.specs.Prelude.{filter_map, All, slice_index_or, flat_map}
use Rattle.std.specs.Option.{option_map_or}
use Rattle.std.proofs.lemmas.Bool.{false≢true, eqb-true, eq-eqb, cases_lt, ltb-true}
use Rattle.std.proofs.lemmas.List.{append-nil, get_or-map, length-map, get_or_past}
use Rattle.std.proofs.lemmas.List.Folds.{list_any_at}
use Rattle.std.proofs.lemmas.Slice.Eq.{bytes_eq-Decides}
use Rattle.tase_points.specs.declared.kind.Kind.{Kind}
use Rattle.tase_points.specs.Sample.{Sample}
use Rattle.point_db.specs.Updates.{last_of, changes_of, newest_of}
use Rattle.bilateral.proofs.Positions.{found}
use Rattle.bilateral.proofs.Names.{position-none_any}
use Rattle.bilateral.specs.declared.rows.See.{See}
use Rattle.bilateral.specs.declared.rows.Table.{Table}
use Rattle.bilateral.specs.Rows.{CentreRows, IsCentre, further_of, variants_of, point_of, device_of}
use Rattle.bilateral.specs.Rows.{no_point, no_table, place_of_see}
use Rattle.sbo_device.specs.States.{tag_of}
use Rattle.tase_views.specs.Moves.{EventSort, sort_of, opening, requesting, taking, closing}
use Rattle.tase_views.specs.Moves.{taking_orders, feeding}
use Rattle.tase_views.specs.OwnTables.{OwnPoint, OwnDevice, OwnTable, own_point, own_table}
use Rattle.tase_views.specs.OwnTables.{own_tables, table_in, no_own_table, device_named}
use Rattle.tase_views.specs.OwnTables.{is_point_of}
use Rattle.tase_views.specs.Devices.{device_moves}
use Rattle.tase_views.specs.Force.{last_chosen}
use Rattle.tase_views.specs.History.{Past, association_in, counts_opening, opens_in}
use Rattle.tase_views.specs.Outcomes.{is_named_there}
use Rattle.tase_views.specs.View.{moves_in, view_of, steps_in, moves_seen}
use Rattle.tase_views.specs.Values.{values_in}
use Rattle.tase_views.specs.Slots.{sets_in}
use Rattle.tase_views.proofs.DevicesSeen.{tag-seen}
use Rattle.tase_views.proofs.DeviceRows.{IsRow, table_rows}
use Rattle.tase_views.specs.Lived.{IsLived}
use Rattle.tase_views.specs.Chosen.{chosen_in}
use Rattle.tase_views.specs.Given.{updates_of}
use Rattle.tase_resume.specs.Bases.{settled_past}
use Rattle.tase_resume.specs.Warming.{of_centre, warm_events, warm_entries, warm_past}
use Rattle.tase_resume.specs.Snapshots.{IsSnapshot}
use Rattle.tase_views.specs.Weights.{weight_of}
use Rattle.tase_resume.proofs.Sound.{all_run}
use Rattle.tase_resume.specs.Recounted.{change_gap, gap_of, more_opens}
use Rattle.tase_resume.proofs.Like.{HasGap}
use Rattle.tase_resume.proofs.KeysAlike.{name_allows}
use Rattle.tase_resume.proofs.Settled.{settled_lived, settled_free, settled_going}
use Rattle.tase_resume.proofs.Selectable.{flat, found_is}
use Rattle.tase_resume.proofs.TablesSeen.{table_moves-seen}
use Rattle.tase_resume.proofs.GivenKeys.{known_moves, fresh_seen}
use Rattle.tase_resume.proofs.MomentSeen.{moment_is}
use Rattle.tase_resume.proofs.ValuesSeen.{value_seen, values_seen, points_there, values_are}
use Rattle.tase_resume.proofs.ValuesSeen.{some_point}
use Rattle.tase_resume.proofs.ChangesKept.{fewer_changes}
use Rattle.tase_resume.proofs.WarmKnown.{chosen_past, values_past, tag_past}
use Rattle.tase_resume.proofs.WarmTold.{told, told_is}
use Rattle.tase_resume.proofs.WarmSets.{IsDefined, all_defined}
use Rattle.tase_resume.proofs.WarmSteps.{nothing_done, none_listed}
use Rattle.tase_resume.proofs.Resumed.{IsWarm}
use Rattle.tase_resume.proofs.ChainAlike.{IsTwin}

pub warm_is : (rows : CentreRows) (past : Past)
    → warm_past rows past ≡ told (warm_events rows (settled_past past)) []
warm_is rows past =
    sym (append-nil (reverse (map of_centre (warm_events rows (settled_past past)))))
    ∙ told_is (warm_events rows (settled_past past)) []

-- a peer that isn't there has opened nothing
opens_sort : (rows : CentreRows) (peer count : ℕ) (sort : EventSort)
    → is_named_there rows sort ≡ true → length rows.tables ≤ peer → count ≡ 0
    → counts_opening sort peer + count ≡ 0
opens_sort rows peer count (opening opener) named past none = by (opener == peer) refl
  where
    by : (b : Bool) → (opener == peer) ≡ b → (if b then 1 else 0) + count ≡ 0
    by true e =
        let same = eqb-true opener peer e in
        let below = ltb-true opener (length rows.tables) named in
        absurd (omega (arith, same, below, past))
    by false e = omega (arith, none)
opens_sort rows peer count (requesting call) named past none = omega (arith, none)
opens_sort rows peer count taking named past none = omega (arith, none)
opens_sort rows peer count closing named past none = omega (arith, none)
opens_sort rows peer count taking_orders named past none = omega (arith, none)
opens_sort rows peer count (feeding move) named past none = omega (arith, none)

opens_nowhere : (rows : CentreRows) (past : Past) (peer : ℕ) → IsLived rows past
    → length rows.tables ≤ peer → opens_in past peer ≡ 0
opens_nowhere rows [] peer lived above = refl
opens_nowhere rows (entry ∷ past) peer lived above =
    opens_sort rows peer (opens_in past peer) (sort_of entry.event)
    (name_allows rows entry past lived) above (opens_nowhere rows past peer lived.1 above)

last_taken : (kind : Kind) (values : List Sample)
    → last_of kind values ≡ last_of kind (take 1 values)
last_taken kind [] = refl
last_taken kind (value ∷ values) = refl

module _ (rows : CentreRows) (lawful : IsCentre rows) (past : Past) (past_lived : IsLived rows past)
  where
    abbrev base : Past
    base = settled_past past

    base_lived : IsLived rows (settled_past past)
    base_lived = settled_lived rows past past_lived

    base_free : (who : ℕ) → association_in (settled_past past) who ≡ None
    base_free = settled_free past

    abbrev warm : Past
    warm = warm_past rows past

    defined : IsDefined rows lawful (settled_past past) base_lived base_free (length rows.tables)
        (warm_past rows past)
    defined =
        subst (IsDefined rows lawful (settled_past past) base_lived base_free (length rows.tables))
        (sym (warm_is rows past))
        (all_defined rows lawful (settled_past past) base_lived base_free)

    chosen_is : (peer : ℕ) (these : Past)
        → chosen_in (view_of rows peer these) ≡ chosen_past peer these
    chosen_is peer these =
        ap last_chosen (table_moves-seen rows (own_tables rows) peer (moves_in these))

    -- of the values that a peer sees the last is left
    values_kept : (peer : ℕ) (name : List ℕ)
        → values_in (view_of rows peer warm) name
        ≡ take 1 (values_in (view_of rows peer base) name)
    values_kept peer name =
        values_seen rows peer name warm
        ∙ by (filter_map (value_seen rows peer name) (updates_of base)) refl
        (filter_map (value_seen rows peer name) (updates_of warm)) refl
        ∙ sym (ap (λ (l : List Sample). take 1 l) (values_seen rows peer name base))
      where
        here : List Sample
        here = filter_map (value_seen rows peer name) (updates_of (settled_past past))

        there : List Sample
        there = filter_map (value_seen rows peer name) (updates_of (warm_past rows past))

        at_point : (q : ℕ) → q < length rows.points → is_point_of rows peer q ≡ true
            → (point_of rows q).name ≡ name
            → filter_map (value_seen rows peer name) (updates_of (warm_past rows past))
            ≡ take 1 (filter_map (value_seen rows peer name) (updates_of (settled_past past)))
        at_point q within shown named =
            values_are rows peer q name (updates_of (warm_past rows past)) lawful within shown named
            (points_there rows (warm_past rows past) defined.lived)
            ∙ defined.values q
            ∙ sym (ap (λ (l : List Sample). take 1 l)
            (values_are rows peer q name (updates_of (settled_past past)) lawful within shown named
            (points_there rows (settled_past past) base_lived)))

        by : (one : List Sample)
            → filter_map (value_seen rows peer name) (updates_of (settled_past past)) ≡ one
            → (other : List Sample)
            → filter_map (value_seen rows peer name) (updates_of (warm_past rows past)) ≡ other
            → filter_map (value_seen rows peer name) (updates_of (warm_past rows past))
            ≡ take 1 (filter_map (value_seen rows peer name) (updates_of (settled_past past)))
        by [] e [] f = f ∙ sym (ap (λ (l : List Sample). take 1 l) e)
        by (value ∷ one) e other f =
            let point = some_point rows peer name (updates_of (settled_past past)) value one
            (points_there rows (settled_past past) base_lived) e in
            at_point point.0 point.1 point.2 point.3
        by [] e (value ∷ other) f =
            let point = some_point rows peer name (updates_of (warm_past rows past)) value other
            (points_there rows (warm_past rows past) defined.lived) f in
            at_point point.0 point.1 point.2 point.3

    -- a point that a table of the peer sees

    see_within : (table : Table) (k : ℕ) (d : See) → k < length table.sees
        → is_some (place_of_see table (get_or table.sees k d).point) ≡ true
    see_within table k d within =
        by (place_of_see table (get_or table.sees k d).point) refl
      where
        by : (place : Option ℕ) → place_of_see table (get_or table.sees k d).point ≡ place
            → is_some place ≡ true
        by (Some n) e = refl
        by None e =
            absurd (false≢true (sym (position-none_any
            (λ (see : See). see.point == (get_or table.sees k d).point) table.sees e)
            ∙ list_any_at (λ (see : See). see.point == (get_or table.sees k d).point) table.sees k d
            within (eq-eqb (get_or table.sees k d).point (get_or table.sees k d).point refl)))

    -- the gap of a point is how many changes less its last value has
    gap_is : (q : ℕ) → q < length rows.points
        → gap_of rows past (point_of rows q).name ≡ change_gap rows past q
    gap_is q within =
        ap (λ (o : Option ℕ). option_map_or (change_gap rows past) o 0)
        (found (λ row. bytes_eq row.name (point_of rows q).name) rows.points q no_point within
        ((bytes_eq-Decides (point_of rows q).name (point_of rows q).name).1 refl)
        (λ k early. other k early))
      where
        other : (k : ℕ) → k < q
            → bytes_eq (point_of rows k).name (point_of rows q).name ≡ false
        other k early = by (bytes_eq (point_of rows k).name (point_of rows q).name) refl
          where
            by : (b : Bool) → bytes_eq (point_of rows k).name (point_of rows q).name ≡ b
                → b ≡ false
            by true e =
                absurd (lawful.names k q no_point early within
                ((bytes_eq-Decides (point_of rows k).name (point_of rows q).name).0 e))
            by false e = refl

    point_gap : (peer q : ℕ) (p : OwnPoint) → q < length rows.points
        → is_point_of rows peer q ≡ true → p.name ≡ (point_of rows q).name
        → p.kind ≡ (point_of rows q).kind
        → HasGap (gap_of rows past) (view_of rows peer base) (view_of rows peer warm) p
    point_gap peer q p within shown named kind =
        let values = values_past q (settled_past past) in
        let whole : values_in (view_of rows peer base) p.name ≡ values =
        values_seen rows peer p.name base
        ∙ values_are rows peer q p.name (updates_of base) lawful within shown (sym named)
        (points_there rows base base_lived) in
        let kept : values_in (view_of rows peer warm) p.name ≡ take 1 values =
        values_kept peer p.name ∙ ap (λ (l : List Sample). take 1 l) whole in
        let gap : gap_of rows past p.name
        ≡ changes_of p.kind values - changes_of p.kind (take 1 values) =
        ap (gap_of rows past) named ∙ gap_is q within
        ∙ ap (λ (k : Kind). changes_of k values - changes_of k (take 1 values)) (sym kind) in
        let fewer = fewer_changes p.kind values in
        ap (changes_of p.kind) whole
        ∙ difference (changes_of p.kind values) (changes_of p.kind (take 1 values)) fewer
        ∙ sym (ap (λ n. n + gap_of rows past p.name) (ap (changes_of p.kind) kept)
        ∙ ap (λ n. changes_of p.kind (take 1 values) + n) gap)
      where
        difference : (a b : ℕ) → b ≤ a → a ≡ b + (a - b)
        difference a b le = omega (arith, le)

    abbrev HasGaps : ℕ → OwnTable → Type 0
    HasGaps peer table =
        All (HasGap (gap_of rows past) (view_of rows peer base) (view_of rows peer warm))
        table.points

    table_gaps : (peer : ℕ) (table : Table)
        → All (λ (see : See). see.point < length rows.points) table.sees
        → ((q : ℕ) → is_some (place_of_see table q) ≡ true → is_point_of rows peer q ≡ true)
        → HasGaps peer (own_table rows table)
    table_gaps peer table known shown k d within =
        let inside : k < length table.sees =
        subst (λ n. k < n) (length-map table.sees (own_point rows)) within in
        let see = get_or table.sees k no_see in
        let is : get_or (map (own_point rows) table.sees) k d ≡ own_point rows see =
        get_or-map (own_point rows) table.sees k no_see d inside in
        subst (HasGap (gap_of rows past) (view_of rows peer base) (view_of rows peer warm)) (sym is)
        (point_gap peer see.point (own_point rows see) (known k no_see inside)
        (shown see.point (see_within table k no_see inside)) refl refl)
      where
        no_see : See
        no_see = record { point = 0; vmd = false; layout = [] }

    -- the points of each table are there
    known_sees : (peer n : ℕ)
        → All (λ (see : See). see.point < length rows.points)
        (slice_index_or (variants_of rows peer) n no_table).sees
    known_sees peer zero =
        ⊎_elim (λ there. (lawful.tables peer no_table there).known)
        (λ above. subst (λ (t : Table). All (λ (see : See). see.point < length rows.points) t.sees)
        (sym (get_or_past rows.tables peer no_table above)) none_seen)
        (cases_lt peer (length rows.tables))
      where
        none_seen : All (λ (see : See). see.point < length rows.points) no_table.sees
        none_seen k d within = absurd (omega (arith, within))
    known_sees peer (suc n) =
        ⊎_elim (λ there. ((lawful.further peer).tables n no_table there).known)
        (λ above. subst (λ (t : Table). All (λ (see : See). see.point < length rows.points) t.sees)
        (sym (get_or_past (further_of rows peer) n no_table above)) none_seen)
        (cases_lt n (length (further_of rows peer)))
      where
        none_seen : All (λ (see : See). see.point < length rows.points) no_table.sees
        none_seen k d within = absurd (omega (arith, within))

    gaps_are : (peer n : ℕ) → HasGaps peer (table_in (own_tables rows peer) n)
    gaps_are peer n =
        ⊎_elim
        (λ within.
        let inside : n < length (variants_of rows peer) =
        subst (λ m. n < m) (length-map (variants_of rows peer) (own_table rows)) within in
        subst (HasGaps peer)
        (sym (get_or-map (own_table rows) (variants_of rows peer) n no_table no_own_table inside))
        (table_gaps peer (slice_index_or (variants_of rows peer) n no_table) (known_sees peer n)
        (λ q e. list_any_at (λ (t : Table). is_some (place_of_see t q)) (variants_of rows peer) n
        no_table inside e)))
        (λ above. subst (HasGaps peer)
        (sym (get_or_past (map (own_table rows) (variants_of rows peer)) n no_own_table above))
        (λ k d within. absurd (omega (arith, within))))
        (cases_lt n (length (map (own_table rows) (variants_of rows peer))))

    -- tags

    tag_at : (peer d : ℕ) (name : List ℕ) (these : Past) → (device_of rows d).name ≡ name
        → is_some (device_named (own_tables rows peer) name) ≡ true
        → tag_of (moves_seen (own_tables rows peer) (view_of rows peer these) name)
        ≡ tag_past rows d these
    tag_at peer d name these is named =
        tag-seen rows (moves_in these) peer name named
        ∙ ap (λ (n : List ℕ). tag_of (device_moves n
        (steps_in rows (own_tables rows) (moves_in these)))) (sym is)

    tags_are : (peer : ℕ) (name : List ℕ)
        → is_some (device_named (own_tables rows peer) name) ≡ true
        → tag_of (moves_seen (own_tables rows peer) (view_of rows peer base) name)
        ≡ tag_of (moves_seen (own_tables rows peer) (view_of rows peer warm) name)
    tags_are peer name named = by (device_named (own_tables rows peer) name) refl named
      where
        by : (found : Option OwnDevice) → device_named (own_tables rows peer) name ≡ found
            → is_some found ≡ true
            → tag_of
            (moves_seen (own_tables rows peer) (view_of rows peer (settled_past past)) name)
            ≡ tag_of
            (moves_seen (own_tables rows peer) (view_of rows peer (warm_past rows past)) name)
        by None e there = absurd (false≢true there)
        by (Some d) e there =
            let its = found_is (IsRow rows) (λ (x : OwnDevice). bytes_eq x.row.name name)
            (flat_map (λ (t : OwnTable). t.devices) (own_tables rows peer).tables) d
            (flat (IsRow rows) (own_tables rows peer).tables
            (λ k. table_rows rows peer k lawful)) e in
            let row = its.0 in
            let is : (device_of rows row.0).name ≡ name =
            sym (ap (λ r. r.name) row.2) ∙ (bytes_eq-Decides d.row.name name).0 its.1 in
            tag_at peer row.0 name (settled_past past) is named
            ∙ sym (defined.tag row.0 row.1)
            ∙ sym (tag_at peer row.0 name (warm_past rows past) is named)

    -- data sets
    sets_are : (peer : ℕ) (name : List ℕ)
        → sets_in (own_tables rows peer) (view_of rows peer base) name
        ≡ sets_in (own_tables rows peer) (view_of rows peer warm) name
    sets_are peer name =
        ⊎_elim (λ there. sym (defined.sets peer there name))
        (λ above.
        let none = opens_nowhere rows base peer base_lived above in
        nothing_done (own_tables rows peer) (view_of rows peer base) name
        (λ n. fresh_seen rows (own_tables rows) peer n base (moves_in base) lawful
        (omega (arith, none)) (known_moves rows base base_lived))
        ∙ sym (defined.no_sets peer above name))
        (cases_lt peer (length rows.tables))

    pub warm_stands : IsWarm rows (more_opens rows past) (gap_of rows past) (settled_past past)
        (warm_past rows past)
    warm_stands = record {
      one_lived = base_lived;
      other_lived = defined.lived;
      both = record {
        free = base_free;
        other_free = defined.free;
        more = λ p. let least = defined.opened p in omega (arith, least);
      };
      one_going = settled_going past;
      other_going = defined.going;
      tick = sym defined.tick;
      choice = λ p. chosen_is p base ∙ sym (defined.choice p) ∙ sym (chosen_is p warm);
      moment = λ p. moment_is rows p base ∙ sym defined.tick ∙ sym (moment_is rows p warm);
      last = λ p kind name.
          last_taken kind (values_in (view_of rows p base) name)
          ∙ sym (ap (last_of kind) (values_kept p name));
      gaps = gaps_are;
      tag = tags_are;
      sets = sets_are;
    }

    newest_taken : (values : List Sample) → newest_of values ≡ newest_of (take 1 values)
    newest_taken [] = refl
    newest_taken (value ∷ values) = refl

    pub warm_tells : IsTwin rows (settled_past past) (warm_past rows past)
    warm_tells = record {
      given = λ q. newest_taken (values_past q base) ∙ sym (ap newest_of (defined.values q));
      tags = λ d within. sym (defined.tag d within);
      lists = λ p. ⊎_elim (λ there. sym (defined.listed p there))
          (λ above.
          none_listed (own_tables rows p) (view_of rows p base)
          (λ z. sets_are p z ∙ defined.no_sets p above z)
          ∙ sym (none_listed (own_tables rows p) (view_of rows p warm) (defined.no_sets p above)))
          (cases_lt p (length rows.tables));
    }

    -- a node takes the snapshot
    pub warm_lived : IsLived rows (warm_past rows past)
    warm_lived = defined.lived

    -- and it is one, where it weighs so little
    pub warm_sound : weight_of (warm_past rows past) ≤ 2 ^ 31
        → IsSnapshot rows (warm_entries rows past)
    warm_sound light =
        all_run rows (warm_past rows past) defined.lived light lawful (settled_past past) base_lived
        base_free (sym (warm_is rows past))
