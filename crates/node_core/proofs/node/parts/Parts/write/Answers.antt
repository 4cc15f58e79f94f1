use Rattle.std.proofs.Common.{◌≡◌, ◌++◌, ℕ, Some, sym, ap, subst, ◌∙◌}
use Rattle.std.specs.Prelude.{slice_get, slice_set}
use Rattle.bilateral.specs.declared.rows.Table.{Table}
use Rattle.bilateral.specs.Rows.{CentreRows, variants_of}
use Rattle.tase_views.specs.OwnTables.{OwnTable, own_tables, table_in}
use Rattle.node_core.specs.declared.node.peer.Peer.{Peer}
use Rattle.node_core.specs.Slots.SlotWrites.{all_answers, all_slots}
use Rattle.node_core.proofs.OfNode.Steps.{own_at}
use Rattle.node_core.proofs.OfNode.PartLists.{part_is}
use Rattle.node_core.proofs.node.parts.Parts.write.Goals as goal

-- a part's table in force has the domain of the row that is read by its number
domain_at : (rows : CentreRows) (peer : ℕ) (read part : Peer) (row : Table) → read ≡ part
    → slice_get (variants_of rows peer) read.variant ≡ Some row
    → (table_in (own_tables rows peer) part.variant).domain ≡ row.domain
domain_at rows peer read part row is at =
    ap (λ (x : Peer). (table_in (own_tables rows peer) x.variant).domain) (sym is)
    ∙ ap (λ (t : OwnTable). t.domain) (own_at rows peer read.variant row at)

pub returns-clause-answers : goal.returns-clause-answers
returns-clause-answers c = λ part at.
    let rows = c.args.centre.now in
    let there = c.requires.there.part in
    let table = table_in (own_tables rows c.args.key.peer) part.variant in
    subst (λ (x : Peer). c.write.new.results.items ≡ c.args.results.now.items
    ++ all_answers table x.book c.args.key.ordinal c.args.now c.args.asked.items x.slots)
    (part_is _ _ c.index_mut.result.now part there c.index_mut.ensures.value at)
    (c.write.ensures.answers table (domain_at rows c.args.key.peer _ part _
    (part_is _ _ c.index.result.now part there c.index.ensures at) c.variant.ensures))

pub returns-clause-parts : goal.returns-clause-parts
returns-clause-parts c = λ part at.
    let rows = c.args.centre.now in
    let there = c.requires.there.part in
    let table = table_in (own_tables rows c.args.key.peer) part.variant in
    ap (λ (x : Peer). slice_set c.args.self.now.peers.items c.args.key.peer x)
    (subst (λ (x : Peer). c.write.new.self ≡ record x {
      slots = all_slots table x.book c.args.key.ordinal c.args.now c.args.asked.items x.slots;
    }) (part_is _ _ c.index_mut.result.now part there c.index_mut.ensures.value at)
    (c.write.ensures.slots table (domain_at rows c.args.key.peer _ part _
    (part_is _ _ c.index.result.now part there c.index.ensures at) c.variant.ensures)))
