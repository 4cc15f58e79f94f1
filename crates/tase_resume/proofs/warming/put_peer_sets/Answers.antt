use Rattle.std.proofs.Common.{◌≡◌, ℕ, List, [], ◌∷◌, ◌++◌, map, length, reverse, Some}
use Rattle.std.proofs.Common.{sym, ap, subst, ◌∙◌, slice_get}
use Rattle.std.proofs.lemmas.Bool.{eq-eqb, ne_eqb}
use Rattle.data_sets.specs.declared.book.DataSet.{DataSet}
use Rattle.bilateral.specs.declared.rows.Table.{Table}
use Rattle.bilateral.specs.Rows.{CentreRows, IsCentre, variants_of}
use Rattle.tase_views.specs.declared.event.EventKind.TheVariants.{Open, Close}
use Rattle.tase_views.specs.History.{Past}
use Rattle.tase_views.specs.OwnTables.{own_tables, table_in}
use Rattle.tase_views.specs.View.{View, view_of, force, held}
use Rattle.tase_views.specs.Chosen.{chosen_in}
use Rattle.tase_views.specs.Listed.{sets_listed}
use Rattle.tase_views.specs.Lived.{IsLived}
use Rattle.tase_resume.specs.Bases.{settled_past}
use Rattle.tase_resume.specs.Warming.{define_event, set_events, sets_told}
use Rattle.tase_resume.proofs.WarmNow.{no_sets_now, sets_now}
use Rattle.tase_resume.proofs.SetsPut.{listed_named, domain_named, domain_held, no_sets, some_sets}
use Rattle.tase_resume.proofs.PutPlaces.{none_put, block_put}
use Rattle.tase_resume.proofs.warming.put_peer_sets.Goals as goal

lawful_by : (rows shown : CentreRows) → shown ≡ rows → IsCentre shown → IsCentre rows
lawful_by rows shown is lawful = subst IsCentre is lawful

module _ (rows : CentreRows) (past : Past) (peer : ℕ) (lawful : IsCentre rows)
    (lived : IsLived rows past) where
  abbrev view : View
  view = view_of rows peer past

  other_told : (now chosen : ℕ) → now ≡ force view → chosen ≡ chosen_in view
      → (now ≡ chosen → ⊥) → sets_told rows (settled_past past) peer ≡ []
  other_told now chosen is last other =
      no_sets_now rows past peer lawful lived
      (ne_eqb (force view) (chosen_in view) (λ same. other (is ∙ same ∙ sym last)))

  same_told : (now chosen : ℕ) → now ≡ force view → chosen ≡ chosen_in view → now ≡ chosen
      → sets_told rows (settled_past past) peer
      ≡ set_events peer (held (own_tables rows peer) view)
      (sets_listed (own_tables rows peer) view)
  same_told now chosen is last same =
      sets_now rows past peer lawful lived
      (eq-eqb (force view) (chosen_in view) (sym is ∙ same ∙ last))

  none_told : (now chosen count : ℕ) (sets : List DataSet) → now ≡ force view
      → chosen ≡ chosen_in view → now ≡ chosen
      → sets ≡ sets_listed (own_tables rows peer) view → count ≡ length sets → count ≡ 0
      → sets_told rows (settled_past past) peer ≡ []
  none_told now chosen count sets is last same list many none =
      same_told now chosen is last same
      ∙ no_sets peer (held (own_tables rows peer) view)
      (sets_listed (own_tables rows peer) view) (ap length (sym list) ∙ sym many ∙ none)

  some_told : (now chosen count : ℕ) (sets : List DataSet) → now ≡ force view
      → chosen ≡ chosen_in view → now ≡ chosen
      → sets ≡ sets_listed (own_tables rows peer) view → count ≡ length sets
      → (count ≡ 0 → ⊥)
      → sets_told rows (settled_past past) peer
      ≡ Open peer ∷ map (define_event (held (own_tables rows peer) view)) sets ++ Close ∷ []
  some_told now chosen count sets is last same list many some =
      let owned = held (own_tables rows peer) view in
      same_told now chosen is last same
      ∙ ap (set_events peer owned) (sym list)
      ∙ some_sets peer owned sets (λ none. some (many ∙ none))

pub returns-then-force-chosen : goal.returns-then-force-chosen
returns-then-force-chosen c =
    let rows = c.args.node.now.setup.centre in
    let past = reverse c.args.node.now.history in
    let lawful = lawful_by rows c.centre.result.now c.centre.ensures c.peers-peers.ensures.lawful in
    none_put (sets_told rows (settled_past past) c.args.peer) c.args.out.now
    (other_told rows past c.args.peer lawful c.history_is_lived.ensures c.force-force.result
    c.chosen.result c.force-force.ensures.force c.chosen.ensures.chosen c.if-force-chosen.true)

pub returns-then-count-eq0 : goal.returns-then-count-eq0
returns-then-count-eq0 c =
    let rows = c.args.node.now.setup.centre in
    let past = reverse c.args.node.now.history in
    let lawful = lawful_by rows c.centre.result.now c.centre.ensures c.peers-peers.ensures.lawful in
    none_put (sets_told rows (settled_past past) c.args.peer) c.args.out.now
    (none_told rows past c.args.peer lawful c.history_is_lived.ensures c.force-force.result
    c.chosen.result c.count.result c.data_sets-book.result.now.sets c.force-force.ensures.force
    c.chosen.ensures.chosen c.if-force-chosen.false c.data_sets-book.ensures c.count.ensures
    c.if-count-eq0.true)

there_by : (rows shown : CentreRows) (peer variant : ℕ) (table : Table) → shown ≡ rows
    → slice_get (variants_of shown peer) variant ≡ Some table
    → slice_get (variants_of rows peer) variant ≡ Some table
there_by rows shown peer variant table is there =
    subst (λ (r : CentreRows). slice_get (variants_of r peer) variant ≡ Some table) is there

pub put_definitions-requires-clause-domain : goal.put_definitions-requires-clause-domain
put_definitions-requires-clause-domain c =
    let rows = c.args.node.now.setup.centre in
    let lawful = lawful_by rows c.centre.result.now c.centre.ensures c.peers-peers.ensures.lawful in
    domain_named rows c.args.peer c.force-force.result c.variant-table.result.now lawful c.requires
    (there_by rows c.centre-2.result.now c.args.peer c.force-force.result
    c.variant-table.result.now c.centre-2.ensures c.variant-table.ensures)

pub put_definitions-requires-clause-named : goal.put_definitions-requires-clause-named
put_definitions-requires-clause-named c =
    let rows = c.args.node.now.setup.centre in
    listed_named rows c.args.peer (view_of rows c.args.peer (reverse c.args.node.now.history))
    c.data_sets-book.result.now.sets c.data_sets-book.ensures

pub returns : goal.returns
returns c =
    let rows = c.args.node.now.setup.centre in
    let past = reverse c.args.node.now.history in
    let peer = c.args.peer in
    let sets = c.data_sets-book.result.now.sets in
    let table = c.variant-table.result.now in
    let owned = held (own_tables rows peer) (view_of rows peer past) in
    let lawful = lawful_by rows c.centre.result.now c.centre.ensures c.peers-peers.ensures.lawful in
    let domain : owned.domain ≡ table.domain =
    ap (λ (n : ℕ). (table_in (own_tables rows peer) n).domain) (sym c.force-force.ensures.force)
    ∙ domain_held rows peer c.force-force.result table
    (there_by rows c.centre-2.result.now peer c.force-force.result table c.centre-2.ensures
    c.variant-table.ensures) in
    block_put c.put-2.result (sets_told rows (settled_past past) peer)
    (map (define_event owned) sets) (Open peer) Close c.args.out.now c.put.new.out
    c.put_definitions.new.out c.put-2.new.out
    (some_told rows past peer lawful c.history_is_lived.ensures c.force-force.result
    c.chosen.result c.count.result sets c.force-force.ensures.force c.chosen.ensures.chosen
    c.if-force-chosen.false c.data_sets-book.ensures c.count.ensures c.if-count-eq0.false)
    c.in_ok-put.ensures (c.in_ok-put_definitions.ensures owned domain) c.put-2.ensures
