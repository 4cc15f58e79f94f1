use Rattle.std.proofs.Common.{◌≡◌, ◌≤◌, ℕ, List, length, refl, sym, ap, subst, ◌∙◌}
use Rattle.std.specs.Prelude.{slice_set}
use Rattle.mms_data.specs.ObjectName.{ObjectName}
use Rattle.tase_views.specs.declared.call.CallKind.{CallKind}
use Rattle.tase_views.specs.declared.call.CallKind.TheVariants.{Define, Delete}
use Rattle.tase_views.specs.OwnTables.{OwnTable, own_table, own_tables, table_in}
use Rattle.tase_views.specs.Moves.{acts_of_call}
use Rattle.node_core.specs.declared.node.peer.Peer.{Peer}
use Rattle.node_core.specs.Slots.SetsKept.{left_by}
use Rattle.node_core.specs.Slots.SlotsKept.{is_kept}
use Rattle.node_core.specs.PeerParts.{kept_in, part_behind, IsLawfulAct, EachAct, IsReplyTo}
use Rattle.node_core.specs.Stored.{IsAsked}
use Rattle.node_core.proofs.CallActs.{lawful_call, calm_idle, idle_call, deleting_call}
use Rattle.node_core.proofs.OfNode.Steps.{set_same, own_at}
use Rattle.node_core.proofs.OfNode.PartLists.{part_read, part_is}
use Rattle.node_core.specs.declared.feeds.index.PeerIndex.{PeerIndex}
use Rattle.node_core.specs.Feeds.Indexed.{AreIndexed, HasIndex, KeepsSlots}
use Rattle.node_core.proofs.OfNode.Indexing.{there_kept, there_slots, has_index-of, stays_one}
use Rattle.node_core.proofs.OfNode.Indexing.{stays_set}
use Rattle.node_core.proofs.node.parts.Parts.call.Goals as goal

pub returns-in_ok-define-in-Define-clause-ok : goal.returns-in_ok-define-in-Define-clause-ok
returns-in_ok-define-in-Define-clause-ok c =
    let now = c.args.now in
    let rows = c.args.centre.now in
    let call : Define c.in-Define.set c.in-Define.members ≡ c.args.call.now =
    sym c.in-Define.is ∙ c.kind.ensures.value in
    subst (λ (k : CallKind). IsAsked rows now c.args.key (acts_of_call k)
    (λ table book. IsReplyTo table book k c.args.reply.now) c.args.self.now.peers.items
    c.rebuild.new.self.peers.items) call (subst (λ (ps : List Peer). IsAsked rows now c.args.key
    (acts_of_call (Define c.in-Define.set c.in-Define.members))
    (λ table book. IsReplyTo table book (Define c.in-Define.set c.in-Define.members)
    c.args.reply.now) c.args.self.now.peers.items ps) (sym c.rebuild.ensures.peers)
    (c.in_ok-define-in-Define.ensures.ok rows now))

pub delete-requires : goal.delete-requires
delete-requires c =
    let rows = c.args.centre.now in
    let peer = c.args.key.peer in
    let items = c.args.self.now.peers.items in
    let old = c.index_mut.result.now in
    let there = c.requires.there.part in
    let here = part_read items peer old there c.index_mut.ensures.value in
    let variant = part_is items peer c.index.result.now old there c.index.ensures here in
    let offered = own_at rows peer c.index.result.now.variant c.variant-table.result.now
    c.variant-table.ensures in
    subst (λ (n : ℕ). n ≤ length old.slots)
    (ap (λ (x : Peer). (table_in (own_tables rows peer) x.variant).slots) (sym variant)
    ∙ ap (λ (t : OwnTable). t.slots) offered)
    (c.requires.there.few old here)

pub returns-in-Delete-clause-ok : goal.returns-in-Delete-clause-ok
returns-in-Delete-clause-ok c = λ part at said.
    let now = c.args.now in
    let rows = c.args.centre.now in
    let peer = c.args.key.peer in
    let tables = own_tables rows peer in
    let items = c.args.self.now.peers.items in
    let sets = c.as_slice.result.now in
    let there = c.requires.there.part in
    let table = c.variant-table.result.now in
    let variant : c.index.result.now.variant ≡ part.variant =
    ap (λ (x : Peer). x.variant)
    (part_is items peer c.index.result.now part there c.index.ensures at) in
    let offered : own_table rows table ≡ table_in tables part.variant =
    sym (own_at rows peer c.index.result.now.variant table c.variant-table.ensures)
    ∙ ap (table_in tables) variant in
    let left : c.delete.new.self ≡ record part {
      book = left_by (is_kept table.domain table.slots part.slots) table.domain sets part.book;
    } =
    subst (λ (x : Peer). c.delete.new.self ≡ record x {
      book = left_by (is_kept table.domain table.slots x.slots) table.domain sets x.book;
    }) (part_is items peer c.index_mut.result.now part there c.index_mut.ensures.value at)
    c.delete.ensures in
    let call : Delete sets ≡ c.args.call.now =
    ap (λ (names : List ObjectName). Delete names) c.as_slice.ensures
    ∙ sym c.in-Delete.is ∙ c.kind.ensures.value in
    c.rebuild-in-Delete.ensures.peers ∙ ap (λ (x : Peer). slice_set items peer x)
    (left
    ∙ ap (λ (t : OwnTable). record part {
      book = left_by (kept_in t part.slots) t.domain sets part.book;
    }) offered
    ∙ sym (deleting_call tables now c.args.key.ordinal sets part)
    ∙ ap (λ (k : CallKind). part_behind tables now c.args.key.ordinal (acts_of_call k) part) call)

pub returns-in-Delete-clause-lawful : goal.returns-in-Delete-clause-lawful
returns-in-Delete-clause-lawful c =
    let call : Delete c.as_slice.result.now ≡ c.args.call.now =
    ap (λ (names : List ObjectName). Delete names) c.as_slice.ensures
    ∙ sym c.in-Delete.is ∙ c.kind.ensures.value in
    subst (λ (k : CallKind). EachAct IsLawfulAct (acts_of_call k)) call
    (lawful_call (Delete c.as_slice.result.now) (λ set members e. absurd cc))

pub returns-in_default : goal.returns-in_default
returns-in_default c =
    record {
      ok = λ part at said.
          set_same c.args.self.now.peers.items c.args.key.peer part at
          ∙ ap (λ (x : Peer). slice_set c.args.self.now.peers.items c.args.key.peer x)
          (sym (idle_call (own_tables c.args.centre.now c.args.key.peer) c.args.now c.args.key.ordinal
          c.args.call.now part
          (calm_idle c.args.call.now c.requires.calm
          (λ set members e. c.in_default.not-Define set members (c.kind.ensures.value ∙ e))
          (λ sets e. c.in_default.not-Delete sets (c.kind.ensures.value ∙ e)))));
      lawful = lawful_call c.args.call.now
          (λ set members e. absurd (c.in_default.not-Define set members
          (c.kind.ensures.value ∙ e)));
      err = tt;
      indexes = tt;
      indexed = c.requires.indexed;
    }

pub rebuild-requires-clause-there : goal.rebuild-requires-clause-there
rebuild-requires-clause-there c =
    there_kept c.args.centre.now c.requires.lawful c.args.key.peer c.args.self.now.peers.items
    c.define.new.self.peers.items c.requires.there c.define.ensures.kept

pub rebuild-requires-clause-index : goal.rebuild-requires-clause-index
rebuild-requires-clause-index c =
    subst (λ (l : List PeerIndex). HasIndex c.args.centre.now c.args.key.peer l)
    (sym c.define.ensures.indexes)
    (has_index-of c.args.centre.now c.args.now c.args.self.now.peers.items
    c.args.self.now.indexes.items c.requires.indexed c.args.key.peer c.requires.there.part)

pub returns-in_ok-define-in-Define-clause-indexed : goal.returns-in_ok-define-in-Define-clause-indexed
returns-in_ok-define-in-Define-clause-indexed c =
    c.rebuild.ensures.indexed c.args.self.now.peers.items
    (stays_one KeepsSlots _ _ c.args.key.peer c.define.ensures.kept)
    (subst (λ (l : List PeerIndex). AreIndexed c.args.centre.now c.args.now
    c.args.self.now.peers.items l) (sym c.define.ensures.indexes) c.requires.indexed)

pub rebuild-requires-in-Delete-clause-there : goal.rebuild-requires-in-Delete-clause-there
rebuild-requires-in-Delete-clause-there c =
    let items = c.args.self.now.peers.items in
    let peer = c.args.key.peer in
    let old = c.index_mut.result.now in
    let here = part_read items peer old c.requires.there.part c.index_mut.ensures.value in
    there_slots c.args.centre.now c.requires.lawful peer items (slice_set items peer
    c.delete.new.self) c.requires.there old c.delete.new.self here refl
    (ap (λ (x : Peer). x.variant) c.delete.ensures)
    (ap (λ (x : Peer). x.chosen_last) c.delete.ensures)
    (ap (λ (x : Peer). length x.slots) c.delete.ensures)

pub rebuild-requires-in-Delete-clause-index : goal.rebuild-requires-in-Delete-clause-index
rebuild-requires-in-Delete-clause-index c =
    has_index-of c.args.centre.now c.args.now c.args.self.now.peers.items
    c.args.self.now.indexes.items c.requires.indexed c.args.key.peer c.requires.there.part

pub returns-in-Delete-clause-indexed : goal.returns-in-Delete-clause-indexed
returns-in-Delete-clause-indexed c =
    c.rebuild-in-Delete.ensures.indexed c.args.self.now.peers.items
    (stays_set _ _ c.args.key.peer c.delete.new.self refl) c.requires.indexed
