-- The data sets of a base are those of its history, or none, where another table waits.
use Rattle.std.proofs.Common.{◌≡◌, ◌==◌, ℕ, Bool, true, false, ◌⊎◌, if◌then◌else◌, List, [], ◌∷◌}
use Rattle.std.proofs.Common.{◌++◌, Option, Some, None, is_some, refl, sym, ap, subst, ◌∙◌, inl}
use Rattle.std.proofs.Common.{inr}
use Rattle.std.specs.Prelude.{filter, filter_map, option_map}
use Rattle.std.specs.List.{cons_option, list_any}
use Rattle.std.proofs.lemmas.Bool.{false≢true, eqb-true, eq-eqb, ne_eqb}
use Rattle.std.proofs.lemmas.Option.{none-some}
use Rattle.std.proofs.lemmas.List.{append_assoc, append-nil}
use Rattle.mms_data.specs.ObjectName.{ObjectName}
use Rattle.data_sets.specs.declared.book.DataSet.{DataSet}
use Rattle.bilateral.specs.Rows.{CentreRows, IsCentre, table_of}
use Rattle.sbo_device.specs.declared.key.Key.{Key}
use Rattle.tase_views.specs.declared.event.EventKind.{EventKind}
use Rattle.tase_views.specs.declared.event.Entry.{Entry}
use Rattle.tase_views.specs.declared.fault.StepFault.TheVariants.{Stopped}
use Rattle.tase_views.specs.Moves.{EventSort, sort_of, opening, requesting, taking, closing}
use Rattle.tase_views.specs.Moves.{taking_orders, feeding, Move, closes, stops, moves_of, opens}
use Rattle.tase_views.specs.Moves.{takes, reads, writes, defines, deletes, calls}
use Rattle.tase_views.specs.OwnTables.{OwnDevice, OwnTables, own_tables, is_selectable}
use Rattle.tase_views.specs.Force.{open_count}
use Rattle.tase_views.specs.History.{Past, association_in, key_by, is_stop, stop_in}
use Rattle.tase_views.specs.Outcomes.{is_closing, is_close, stop_refusal, own_refusal}
use Rattle.tase_views.specs.Outcomes.{clock_refusal}
use Rattle.tase_views.specs.View.{Seen, own, other_closed, stopped, View, moves_in, held_in}
use Rattle.tase_views.specs.View.{view_by, view_of, table_seen, force, keeps_force, other_acted}
use Rattle.tase_views.specs.View.{updated, tagged, asked, chose, ticked}
use Rattle.tase_views.specs.Slots.{sets_in}
use Rattle.tase_views.specs.Lived.{IsLived}
use Rattle.tase_views.specs.Chosen.{chosen_in}
use Rattle.tase_views.specs.Listed.{sets_listed}
use Rattle.tase_resume.specs.Bases.{close_of, open_seats, without_stops, settled_past}
use Rattle.tase_resume.proofs.Calm.{three_none, stop_is}
use Rattle.tase_resume.proofs.Settled.{closed_behind, settled_is, settled_lived, settled_free}
use Rattle.tase_resume.proofs.SettledAlike.{going_calm}
use Rattle.tase_resume.proofs.BaseSettled.{settled}
use Rattle.tase_resume.proofs.SetsListed.{filter_none}
use Rattle.tase_resume.proofs.WarmSteps.{kept_listed}

-- what ends associations, and the stop
abbrev IsEnding : Seen → Type 0
IsEnding (own ordinal closes) = Unit {0}
IsEnding (other_closed key ordinal) = Unit {0}
IsEnding stopped = Unit {0}
IsEnding _ = ⊥

abbrev AreEnding : View → Type 0
AreEnding [] = Unit {0}
AreEnding (move ∷ view) = IsEnding move × AreEnding view

-- one of them is one of three
ending_by : (C : Seen → Type 0) → ((ordinal : ℕ) → C (own ordinal closes))
    → ((key : List ℕ) (ordinal : ℕ) → C (other_closed key ordinal)) → C stopped
    → (move : Seen) → IsEnding move → C move
ending_by C mine others stop (own ordinal closes) ending = mine ordinal
ending_by C mine others stop (other_closed key ordinal) ending = others key ordinal
ending_by C mine others stop stopped ending = stop
ending_by C mine others stop (own ordinal opens) ending = absurd ending
ending_by C mine others stop (own ordinal takes) ending = absurd ending
ending_by C mine others stop (own ordinal (reads _)) ending = absurd ending
ending_by C mine others stop (own ordinal (writes _ _)) ending = absurd ending
ending_by C mine others stop (own ordinal (defines _ _)) ending = absurd ending
ending_by C mine others stop (own ordinal (deletes _)) ending = absurd ending
ending_by C mine others stop (own ordinal (calls _)) ending = absurd ending
ending_by C mine others stop (other_acted _ _ _ _) ending = absurd ending
ending_by C mine others stop (updated _ _) ending = absurd ending
ending_by C mine others stop (tagged _ _) ending = absurd ending
ending_by C mine others stop (asked _) ending = absurd ending
ending_by C mine others stop (chose _) ending = absurd ending
ending_by C mine others stop (ticked _) ending = absurd ending

-- a view that goes on by such alone
record GoesOn (view from : View) : Type 0 where
  more : View
  is : view ≡ more ++ from
  ending : AreEnding more

both_ending : (one other : View) → AreEnding one → AreEnding other → AreEnding (one ++ other)
both_ending [] other first second = second
both_ending (move ∷ one) other first second = (first.0, both_ending one other first.1 second)

goes_on_from : (view middle from : View) → GoesOn view middle → GoesOn middle from
    → GoesOn view from
goes_on_from view middle from first second = record {
  more = first.more ++ second.more;
  is = first.is ∙ ap (λ (v : View). first.more ++ v) second.is
      ∙ sym (append_assoc first.more second.more from);
  ending = both_ending first.more second.more first.ending second.ending;
}

same_on : (view : View) → GoesOn view view
same_on view = record { more = []; is = refl; ending = tt }

module _ (tables : OwnTables) where
  -- behind one the data sets are as before, or none, where another table comes into force

  list_kept : (move : Seen) (view : View)
      → ((z : List ℕ) → sets_in tables (move ∷ view) z
      ≡ (if keeps_force move view then sets_in tables view z else None))
      → (b : Bool) → keeps_force move view ≡ b
      → filter (λ (set : DataSet). is_some (sets_in tables (move ∷ view) set.name))
      (sets_listed tables view)
      ≡ (if b then sets_listed tables view else [])
  list_kept move view is true e =
      kept_listed tables view move
      (λ z there. ap (λ (o : Option (List ObjectName)). is_some o) (is z)
      ∙ ap (λ c. is_some (if c then sets_in tables view z else None)) e ∙ there)
  list_kept move view is false e =
      filter_none (λ (set : DataSet). is_some (sets_in tables (move ∷ view) set.name))
      (sets_listed tables view)
      (λ set. ap (λ (o : Option (List ObjectName)). is_some o) (is set.name)
      ∙ ap (λ c. is_some (if c then sets_in tables view set.name else None)) e)

  list_behind : (move : Seen) (view : View) → IsEnding move
      → sets_listed tables (move ∷ view)
      ≡ (if keeps_force move view then sets_listed tables view else [])
  list_behind move view ending =
      ending_by (λ (m : Seen). sets_listed tables (m ∷ view)
      ≡ (if keeps_force m view then sets_listed tables view else []))
      (λ ordinal. append-nil _ ∙ list_kept (own ordinal closes) view (λ z. refl)
      (keeps_force (own ordinal closes) view) refl)
      (λ key ordinal. append-nil _ ∙ list_kept (other_closed key ordinal) view (λ z. refl)
      (keeps_force (other_closed key ordinal) view) refl)
      (append-nil _ ∙ list_kept stopped view (λ z. refl) (keeps_force stopped view) refl)
      move ending

force_closed : (view : View) (ordinal : ℕ)
    → (force (own ordinal closes ∷ view) ≡ force view)
    ⊎ (force (own ordinal closes ∷ view) ≡ chosen_in view)
force_closed view ordinal =
    by (open_count (filter_map table_seen (own ordinal closes ∷ view)) == 0)
  where
    by : (b : Bool)
        → ((if b then chosen_in view else force view) ≡ force view)
        ⊎ ((if b then chosen_in view else force view) ≡ chosen_in view)
    by true = inr refl
    by false = inl refl

force_behind : (move : Seen) (view : View) → IsEnding move
    → (force (move ∷ view) ≡ force view) ⊎ (force (move ∷ view) ≡ chosen_in view)
force_behind move view ending =
    ending_by (λ (m : Seen). (force (m ∷ view) ≡ force view) ⊎ (force (m ∷ view) ≡ chosen_in view))
    (force_closed view) (λ key ordinal. inl refl) (inl refl) move ending

chosen_behind : (move : Seen) (view : View) → IsEnding move
    → chosen_in (move ∷ view) ≡ chosen_in view
chosen_behind move view ending =
    ending_by (λ (m : Seen). chosen_in (m ∷ view) ≡ chosen_in view)
    (λ ordinal. refl) (λ key ordinal. refl) refl move ending

chosen_on : (more from : View) → AreEnding more → chosen_in (more ++ from) ≡ chosen_in from
chosen_on [] from ending = refl
chosen_on (move ∷ more) from ending =
    chosen_behind move (more ++ from) ending.0 ∙ chosen_on more from ending.1

-- the table in force and the data sets stay, or the chosen table has come, and none are left
abbrev IsLeft : OwnTables → View → View → Type 0
IsLeft tables from view =
    ((force view ≡ force from) × (sets_listed tables view ≡ sets_listed tables from))
    ⊎ ((force view ≡ chosen_in from) × (chosen_in from ≡ force from → ⊥)
    × (sets_listed tables view ≡ []))

left_behind : (tables : OwnTables) (move : Seen) (more from : View) → IsEnding move
    → AreEnding more → IsLeft tables from (more ++ from)
    → IsLeft tables from (move ∷ more ++ from)
left_behind tables move more from now ending left =
    by (keeps_force move (more ++ from)) refl (force_behind move (more ++ from) now) left
  where
    list : (b : Bool) → keeps_force move (more ++ from) ≡ b
        → sets_listed tables (move ∷ more ++ from)
        ≡ (if b then sets_listed tables (more ++ from) else [])
    list b e =
        list_behind tables move (more ++ from) now
        ∙ ap (λ c. if c then sets_listed tables (more ++ from) else []) e

    by : (b : Bool) → keeps_force move (more ++ from) ≡ b
        → (force (move ∷ more ++ from) ≡ force (more ++ from))
        ⊎ (force (move ∷ more ++ from) ≡ chosen_in (more ++ from))
        → IsLeft tables from (more ++ from) → IsLeft tables from (move ∷ more ++ from)
    by true e f (inl old) =
        inl (
          eqb-true (force (move ∷ more ++ from)) (force (more ++ from)) e ∙ old.0,
          list true e ∙ old.1,
        )
    by true e f (inr none) =
        inr (
          eqb-true (force (move ∷ more ++ from)) (force (more ++ from)) e ∙ none.0,
          none.1,
          list true e ∙ none.2,
        )
    by false e (inl same) any =
        absurd (false≢true (sym e
        ∙ eq-eqb (force (move ∷ more ++ from)) (force (more ++ from)) same))
    by false e (inr chosen) (inl old) =
        inr (
          chosen ∙ chosen_on more from ending,
          (λ same. false≢true (sym e
              ∙ eq-eqb (force (move ∷ more ++ from)) (force (more ++ from))
              (chosen ∙ chosen_on more from ending ∙ same ∙ sym old.0))),
          list false e,
        )
    by false e (inr chosen) (inr none) =
        inr (chosen ∙ chosen_on more from ending, none.1, list false e)

left_on : (tables : OwnTables) (more from : View) → AreEnding more
    → IsLeft tables from (more ++ from)
left_on tables [] from ending = inl (refl, refl)
left_on tables (move ∷ more) from ending =
    left_behind tables move more from ending.0 ending.1 (left_on tables more from ending.1)

-- closes and stops of a history

module _ (rows : CentreRows) (peer : ℕ) where
  close_goes : (key : Option Key) (before : List Move)
      → GoesOn (view_by rows (own_tables rows) peer (moves_of closing key ++ before))
      (view_by rows (own_tables rows) peer before)
  close_goes None before = same_on (view_by rows (own_tables rows) peer before)
  close_goes (Some key) before =
      by (key.peer == peer) (list_any
      (λ (d : OwnDevice). is_selectable (own_tables rows peer) d.row.name)
      (held_in rows (own_tables rows) before key.peer).devices)
    where
      by : (b c : Bool)
          → GoesOn (cons_option (if b then Some (own key.ordinal closes)
          else (if c then Some (other_closed (table_of rows key.peer).key key.ordinal) else None))
          (view_by rows (own_tables rows) peer before))
          (view_by rows (own_tables rows) peer before)
      by true c = record { more = own key.ordinal closes ∷ []; is = refl; ending = (tt, tt) }
      by false true = record {
        more = other_closed (table_of rows key.peer).key key.ordinal ∷ [];
        is = refl;
        ending = (tt, tt);
      }
      by false false = same_on (view_by rows (own_tables rows) peer before)

  closed_goes : (seats : List ℕ) (past : Past)
      → GoesOn (view_of rows peer (closed_behind seats past)) (view_of rows peer past)
  closed_goes [] past = same_on (view_of rows peer past)
  closed_goes (who ∷ seats) past =
      goes_on_from (view_of rows peer (closed_behind seats (close_of who ∷ past)))
      (view_of rows peer (close_of who ∷ past)) (view_of rows peer past)
      (closed_goes seats (close_of who ∷ past))
      (close_goes (association_in past who) (moves_in past))

  -- a history and itself without stops go on from one view
  record GoBoth (past : Past) : Type 0 where
    from : View
    whole : GoesOn (view_of rows peer past) from
    calm : GoesOn (view_of rows peer (without_stops past)) from

  close_sort : (sort : EventSort) → is_closing sort ≡ true → sort ≡ closing
  close_sort closing e = refl
  close_sort (opening opener) e = absurd (false≢true e)
  close_sort (requesting call) e = absurd (false≢true e)
  close_sort taking e = absurd (false≢true e)
  close_sort taking_orders e = absurd (false≢true e)
  close_sort (feeding move) e = absurd (false≢true e)

  closed_entry : (entry : Entry) (past : Past) → sort_of entry.event ≡ closing
      → GoesOn (view_of rows peer (entry ∷ past)) (view_of rows peer past)
  closed_entry entry past is =
      subst (λ (s : EventSort). GoesOn (view_by rows (own_tables rows) peer
      (moves_of s (key_by s past (association_in past entry.who)) ++ moves_in past))
      (view_of rows peer past)) (sym is)
      (close_goes (association_in past entry.who) (moves_in past))

  stop_entry : (entry : Entry) (past : Past) → sort_of entry.event ≡ feeding stops
      → GoesOn (view_of rows peer (entry ∷ past)) (view_of rows peer past)
  stop_entry entry past is =
      subst (λ (s : EventSort). GoesOn (view_by rows (own_tables rows) peer
      (moves_of s (key_by s past (association_in past entry.who)) ++ moves_in past))
      (view_of rows peer past)) (sym is)
      (record { more = stopped ∷ []; is = refl; ending = (tt, tt) })

  -- behind a stop nothing but closes is taken
  only_close : (event : EventKind) (past : Past) (place : ℕ) → stop_in past ≡ Some place
      → stop_refusal past event ≡ None → is_close event ≡ true
  only_close event past place is none = by (is_close event) (stop_in past) is none
    where
      by : (b : Bool) (o : Option ℕ) → o ≡ Some place
          → (if b then None else option_map (λ p. Stopped p) o) ≡ None → b ≡ true
      by true o e n = refl
      by false None e n = absurd (none-some place e)
      by false (Some p) e n = absurd (none-some (Stopped p) (sym n))

  go_both : (past : Past) → IsLived rows past → GoBoth past
  go_both [] lived = record { from = []; whole = same_on []; calm = same_on [] }
  go_both (entry ∷ past) lived =
      by (stop_in past) refl (is_stop entry.event) refl (go_both past lived.1)
    where
      allowed : stop_refusal past entry.event ≡ None
      allowed =
          (three_none (stop_refusal past entry.event) (own_refusal rows past entry.who entry.event)
          (clock_refusal past entry.event) lived.0).0

      by : (stop : Option ℕ) → stop_in past ≡ stop → (b : Bool) → is_stop entry.event ≡ b
          → GoBoth past → GoBoth (entry ∷ past)
      by None none false e before = record {
        from = view_of rows peer (entry ∷ past);
        whole = same_on (view_of rows peer (entry ∷ past));
        calm = subst (λ (p : Past). GoesOn (view_of rows peer p)
            (view_of rows peer (entry ∷ past)))
            (sym (going_calm (entry ∷ past) (rw e none)))
            (same_on (view_of rows peer (entry ∷ past)));
      }
      by None none true e before = record {
        from = view_of rows peer past;
        whole = stop_entry entry past (stop_is (sort_of entry.event) e);
        calm = rw e (subst (λ (p : Past). GoesOn (view_of rows peer p) (view_of rows peer past))
            (sym (going_calm past none)) (same_on (view_of rows peer past)));
      }
      by (Some place) some true e before =
          absurd (false≢true (ap is_closing (sym (stop_is (sort_of entry.event) e))
          ∙ only_close entry.event past place some allowed))
      by (Some place) some false e before =
          let is = close_sort (sort_of entry.event)
          (only_close entry.event past place some allowed) in
          record {
            from = before.from;
            whole = goes_on_from (view_of rows peer (entry ∷ past)) (view_of rows peer past)
                before.from (closed_entry entry past is) before.whole;
            calm = rw e (goes_on_from (view_of rows peer (entry ∷ without_stops past))
                (view_of rows peer (without_stops past)) before.from
                (closed_entry entry (without_stops past) is) before.calm);
          }

  -- the data sets that a base has
  pub settled_lists : (past : Past) → IsCentre rows → IsLived rows past
      → sets_listed (own_tables rows peer) (view_of rows peer (settled_past past))
      ≡ (if force (view_of rows peer past) == chosen_in (view_of rows peer past)
      then sets_listed (own_tables rows peer) (view_of rows peer past) else [])
  settled_lists past lawful lived =
      let tables = own_tables rows peer in
      let both = go_both past lived in
      let base : GoesOn (view_of rows peer (settled_past past)) both.from =
      subst (λ (p : Past). GoesOn (view_of rows peer p) both.from) (sym (settled_is past))
      (goes_on_from (view_of rows peer (closed_behind (open_seats past) (without_stops past)))
      (view_of rows peer (without_stops past)) both.from
      (closed_goes (open_seats past) (without_stops past)) both.calm) in
      let whole = both.whole in
      let chosen : chosen_in (view_of rows peer past) ≡ chosen_in both.from =
      ap chosen_in whole.is ∙ chosen_on whole.more both.from whole.ending in
      let in_force : force (view_of rows peer (settled_past past)) ≡ chosen_in both.from =
      (settled rows (settled_past past) peer lawful (settled_lived rows past lived)
      (settled_free past)).table
      ∙ ap chosen_in base.is ∙ chosen_on base.more both.from base.ending in
      by both.from (view_of rows peer past) (view_of rows peer (settled_past past)) chosen in_force
      (subst (IsLeft tables both.from) (sym whole.is)
      (left_on tables whole.more both.from whole.ending))
      (subst (IsLeft tables both.from) (sym base.is)
      (left_on tables base.more both.from base.ending))
    where
      by : (from view base : View) → chosen_in view ≡ chosen_in from
          → force base ≡ chosen_in from → IsLeft (own_tables rows peer) from view
          → IsLeft (own_tables rows peer) from base
          → sets_listed (own_tables rows peer) base
          ≡ (if force view == chosen_in view
          then sets_listed (own_tables rows peer) view else [])
      by from view base chosen held (inl old) (inl same) =
          rw (eq-eqb (force view) (chosen_in view)
          (old.0 ∙ sym same.0 ∙ held ∙ sym chosen)) (same.1 ∙ sym old.1)
      by from view base chosen held (inl old) (inr none) =
          rw (ne_eqb (force view) (chosen_in view)
          (λ e. none.1 (sym chosen ∙ sym e ∙ old.0))) none.2
      by from view base chosen held (inr gone) (inl same) =
          absurd (gone.1 (sym held ∙ same.0))
      by from view base chosen held (inr gone) (inr none) =
          rw (eq-eqb (force view) (chosen_in view) (gone.0 ∙ sym chosen)) (none.2 ∙ sym gone.2)
