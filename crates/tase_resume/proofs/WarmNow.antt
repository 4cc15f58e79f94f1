-- The snapshot of a history, by what the history itself has come to.
use Rattle.std.proofs.Common.{◌≡◌, ◌==◌, ℕ, true, false, if◌then◌else◌, List, [], ◌∷◌}
use Rattle.std.proofs.Common.{◌&&◌, length, Option, sym, ap, ◌∙◌}
use Rattle.std.specs.Option.{option_map_or}
use Rattle.std.proofs.lemmas.Bool.{eqb-true, ne_eqb}
use Rattle.tase_points.specs.Sample.{Sample}
use Rattle.bilateral.specs.Rows.{CentreRows, IsCentre, device_of}
use Rattle.sbo_device.specs.Moves.{Tag}
use Rattle.sbo_device.specs.States.{tag_of}
use Rattle.point_db.specs.Updates.{newest_of, last_given}
use Rattle.tase_views.specs.declared.event.EventKind.TheVariants.{Update, Table, Tick}
use Rattle.tase_views.specs.declared.event.EventKind.TheVariants as events
use Rattle.tase_views.specs.History.{Past, last_tick}
use Rattle.tase_views.specs.Force.{last_chosen}
use Rattle.tase_views.specs.OwnTables.{OwnTable, own_tables, table_in}
use Rattle.tase_views.specs.Devices.{device_moves}
use Rattle.tase_views.specs.View.{moves_in, view_of, steps_in, force, held}
use Rattle.tase_views.specs.Chosen.{chosen_in}
use Rattle.tase_views.specs.Listed.{sets_listed}
use Rattle.tase_views.specs.Given.{updates_of}
use Rattle.tase_views.specs.Lived.{IsLived}
use Rattle.tase_resume.specs.Bases.{settled_past}
use Rattle.tase_resume.specs.Warming.{table_event, tag_event, moment_event, set_events, table_told}
use Rattle.tase_resume.specs.Warming.{value_told, tag_told, sets_told}
use Rattle.tase_resume.proofs.Settled.{settled_lived, settled_free}
use Rattle.tase_resume.proofs.BaseSettled.{settled}
use Rattle.tase_resume.proofs.TablesSeen.{table_moves-seen}
use Rattle.tase_resume.proofs.SettledTells.{settled_tick, settled_values, settled_choice, settled_tag}
use Rattle.tase_resume.proofs.SettledSets.{settled_lists}

module _ (rows : CentreRows) (past : Past) where
  chosen_now : (peer : ℕ) → chosen_in (view_of rows peer (settled_past past))
      ≡ chosen_in (view_of rows peer past)
  chosen_now peer =
      ap last_chosen (table_moves-seen rows (own_tables rows) peer (moves_in (settled_past past)))
      ∙ settled_choice past peer
      ∙ sym (ap last_chosen (table_moves-seen rows (own_tables rows) peer (moves_in past)))

  pub table_now : (peer variant : ℕ) → variant ≡ chosen_in (view_of rows peer past)
      → table_told rows (settled_past past) peer ≡ table_event peer variant
  table_now peer variant is = ap (table_event peer) (chosen_now peer ∙ sym is)

  pub value_now : (point : ℕ) (value : Option Sample)
      → value ≡ last_given (updates_of past) point
      → value_told rows (settled_past past) point
      ≡ option_map_or (λ (v : Sample). Update point v ∷ []) value []
  value_now point value is =
      ap (λ (o : Option Sample). option_map_or (λ (v : Sample). Update point v ∷ []) o [])
      (ap newest_of (settled_values past point) ∙ sym is)

  pub tag_now : (device : ℕ) (tag : Tag)
      → tag ≡ tag_of (device_moves (device_of rows device).name
      (steps_in rows (own_tables rows) (moves_in past)))
      → tag_told rows (settled_past past) device ≡ tag_event device tag
  tag_now device tag is = ap (tag_event device) (settled_tag rows past device ∙ sym is)

  pub moment_now : (now : ℕ) → now ≡ last_tick past
      → moment_event (last_tick (settled_past past)) ≡ moment_event now
  moment_now now is = ap moment_event (settled_tick past ∙ sym is)

  -- a peer's data sets stay exactly where its table that was chosen last is the one in force

  pub no_sets_now : (peer : ℕ) → IsCentre rows → IsLived rows past
      → (force (view_of rows peer past) == chosen_in (view_of rows peer past)) ≡ false
      → sets_told rows (settled_past past) peer ≡ []
  no_sets_now peer lawful lived other =
      let tables = own_tables rows peer in
      ap (set_events peer (held tables (view_of rows peer (settled_past past))))
      (settled_lists rows peer past lawful lived
      ∙ ap (λ b. if b then sets_listed tables (view_of rows peer past) else []) other)

  pub sets_now : (peer : ℕ) → IsCentre rows → IsLived rows past
      → (force (view_of rows peer past) == chosen_in (view_of rows peer past)) ≡ true
      → sets_told rows (settled_past past) peer
      ≡ set_events peer (held (own_tables rows peer) (view_of rows peer past))
      (sets_listed (own_tables rows peer) (view_of rows peer past))
  sets_now peer lawful lived same =
      let tables = own_tables rows peer in
      let base = view_of rows peer (settled_past past) in
      let view = view_of rows peer past in
      let is : force base ≡ force view =
      (settled rows (settled_past past) peer lawful (settled_lived rows past lived)
      (settled_free past)).table
      ∙ chosen_now peer ∙ sym (eqb-true (force view) (chosen_in view) same) in
      ap (λ (t : OwnTable). set_events peer t (sets_listed tables base)) (ap (table_in tables) is)
      ∙ ap (set_events peer (held tables view))
      (settled_lists rows peer past lawful lived
      ∙ ap (λ b. if b then sets_listed tables view else []) same)

  -- of one place there is nothing to tell, or one event

  pub no_table : (peer variant : ℕ) → variant ≡ chosen_in (view_of rows peer past)
      → variant ≡ 0 → table_told rows (settled_past past) peer ≡ []
  no_table peer variant is none = table_now peer variant is ∙ ap (table_event peer) none

  pub one_table : (peer variant : ℕ) → variant ≡ chosen_in (view_of rows peer past)
      → (variant ≡ 0 → ⊥) → table_told rows (settled_past past) peer ≡ Table peer variant ∷ []
  one_table peer variant is some =
      table_now peer variant is
      ∙ ap (λ b. if b then [] else Table peer variant ∷ []) (ne_eqb variant 0 some)

  same_tag : (a b : Tag) → a.tag ≡ b.tag → a.reason ≡ b.reason → a ≡ b
  same_tag a b tag reason =
      ap (λ n. let t : Tag = record { tag = n; reason = a.reason } in t) tag
      ∙ ap (λ (l : List ℕ). let t : Tag = record { tag = b.tag; reason = l } in t) reason

  abbrev tag_of_device : ℕ → Tag
  tag_of_device device =
      tag_of (device_moves (device_of rows device).name
      (steps_in rows (own_tables rows) (moves_in past)))

  pub no_tag : (device tag : ℕ) (reason : List ℕ) → tag ≡ (tag_of_device device).tag
      → reason ≡ (tag_of_device device).reason → ((tag == 0) && (length reason == 0)) ≡ true
      → tag_told rows (settled_past past) device ≡ []
  no_tag device tag reason tag_is reason_is blank =
      let t : Tag = record { tag = tag; reason = reason } in
      tag_now device t (same_tag t (tag_of_device device) tag_is reason_is)
      ∙ ap (λ b. if b then [] else events.Tag device t ∷ []) blank

  pub one_tag : (device tag : ℕ) (reason : List ℕ) → tag ≡ (tag_of_device device).tag
      → reason ≡ (tag_of_device device).reason → ((tag == 0) && (length reason == 0)) ≡ false
      → tag_told rows (settled_past past) device
      ≡ events.Tag device (record { tag = tag; reason = reason }) ∷ []
  one_tag device tag reason tag_is reason_is some =
      let t : Tag = record { tag = tag; reason = reason } in
      tag_now device t (same_tag t (tag_of_device device) tag_is reason_is)
      ∙ ap (λ b. if b then [] else events.Tag device t ∷ []) some

  pub no_moment : (now : ℕ) → now ≡ last_tick past → now ≡ 0
      → moment_event (last_tick (settled_past past)) ≡ []
  no_moment now is none = moment_now now is ∙ ap moment_event none

  pub one_moment : (now : ℕ) → now ≡ last_tick past → (now ≡ 0 → ⊥)
      → moment_event (last_tick (settled_past past)) ≡ Tick now ∷ []
  one_moment now is some =
      moment_now now is ∙ ap (λ b. if b then [] else Tick now ∷ []) (ne_eqb now 0 some)
