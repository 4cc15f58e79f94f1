use Rattle.std.proofs.Common.{◌≡◌, ◌≤◌, ◌^◌, List, ◌++◌, map, reverse, sym, ap, subst, ◌∙◌}
use Rattle.std.specs.Prelude.{flat_map}
use Rattle.bilateral.specs.Rows.{CentreRows, IsCentre}
use Rattle.tase_views.specs.declared.event.Entry.{Entry}
use Rattle.tase_views.specs.History.{Past, last_tick}
use Rattle.tase_views.specs.Lived.{IsLived}
use Rattle.tase_views.specs.Weights.{weight_of}
use Rattle.tase_resume.specs.Bases.{settled_past}
use Rattle.tase_resume.specs.Warming.{of_centre, places_of, warm_entries, moment_event, table_told}
use Rattle.tase_resume.specs.Warming.{value_told, tag_told, sets_told}
use Rattle.tase_resume.specs.Snapshots.{IsSnapshot}
use Rattle.tase_resume.proofs.PutPlaces.{all_put}
use Rattle.tase_resume.proofs.WarmRead.{warm_sound}
use Rattle.tase_resume.proofs.warming.snapshot_of.Goals as goal

sound_by : (rows : CentreRows) (past : Past) (entries : List Entry) → IsCentre rows
    → IsLived rows past → entries ≡ warm_entries rows past
    → weight_of (reverse entries) ≤ 2 ^ 31 → IsSnapshot rows entries
sound_by rows past entries lawful lived is light =
    subst (IsSnapshot rows) (sym is)
    (warm_sound rows lawful past lived
    (subst (λ (l : List Entry). weight_of (reverse l) ≤ 2 ^ 31) is light))

pub returns-clause-sound : goal.returns-clause-sound
returns-clause-sound c =
    let rows = c.args.node.now.setup.centre in
    let past = reverse c.args.node.now.history in
    let base = settled_past past in
    let a = flat_map (table_told rows base) (places_of rows.tables) in
    sound_by rows past c.put_sets.new.out
    (subst IsCentre c.centre.ensures c.peers-peers.ensures.lawful) c.history_is_lived.ensures
    (all_put a (flat_map (value_told rows base) (places_of rows.points))
    (flat_map (tag_told rows base) (places_of rows.devices)) (moment_event (last_tick base))
    (flat_map (sets_told rows base) (places_of rows.tables)) c.put_tables.new.out
    c.put_values.new.out c.put_tags.new.out c.put_moment.new.out c.put_sets.new.out
    (c.in_ok-put_tables.ensures
    ∙ ap (λ (l : List Entry). l ++ map of_centre a) c.new-snapshot.ensures)
    c.in_ok-put_values.ensures c.in_ok-put_tags.ensures c.in_ok-put_moment.ensures
    c.in_ok-put_sets.ensures)
