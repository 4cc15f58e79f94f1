use Rattle.std.proofs.Common.{◌≡◌, ◌∙◌, List, ℕ, [], refl, sym, ap, subst, arith}
use Rattle.std.specs.Prelude.{slice_set}
use Rattle.node_core.specs.declared.feeds.index.PeerIndex.{PeerIndex}
use Rattle.node_core.specs.Slots.SlotsKept.{handed_all}
use Rattle.node_core.specs.Feeds.Indexed.{AreIndexed, HasIndex}
use Rattle.node_core.proofs.OfSlots.Drafts.{handed-length}
use Rattle.node_core.proofs.OfNode.Indexing.{stays_changed, there_slots, has_index-of, empty_is}
use Rattle.node_core.proofs.OfNode.Steps.{part_there, set_same}
use Rattle.node_core.proofs.node.parts.Parts.hand_out.Goals as goal
use Rattle.node_core.proofs.node.parts.Parts.hand_out.Goals.{After-hand_out_some}

pub returns-then-is_empty-clause-parts : goal.returns-then-is_empty-clause-parts
returns-then-is_empty-clause-parts c = λ part at.
    let none : c.args.handed.now ≡ [] = empty_is c.args.handed.now
    (sym c.is_empty.ensures ∙ c.if-is_empty.true) in
    set_same c.args.self.now.peers.items c.args.key.peer part at
    ∙ ap (λ (handed : List ℕ). slice_set c.args.self.now.peers.items c.args.key.peer
    (record part { slots = handed_all c.args.key.ordinal handed part.slots })) (sym none)

has : (c : After-hand_out_some)
    → HasIndex c.args.centre.now c.args.key.peer c.args.self.now.indexes.items
has c =
    has_index-of c.args.centre.now c.args.now c.args.self.now.peers.items
    c.args.self.now.indexes.items c.requires.indexed c.args.key.peer c.requires.there.part

pub hand_out_some-requires-clause-known : goal.hand_out_some-requires-clause-known
hand_out_some-requires-clause-known c =
    omega (arith, c.requires.there.part, c.args.self.now.peers.ok)

pub hand_out_some-requires-clause-many : goal.hand_out_some-requires-clause-many
hand_out_some-requires-clause-many c = λ part at. c.requires.there.slots part at

pub rebuild-requires-clause-there : goal.rebuild-requires-clause-there
rebuild-requires-clause-there c =
    let peer = c.args.key.peer in
    let items = c.args.self.now.peers.items in
    let part = part_there items peer c.requires.there.part in
    there_slots c.args.centre.now c.requires.lawful peer items c.hand_out_some.new.self.peers.items
    c.requires.there part.0 _ part.1 (c.hand_out_some.ensures.parts part.0 part.1) refl refl
    (handed-length c.args.key.ordinal c.args.handed.now part.0.slots)

pub rebuild-requires-clause-index : goal.rebuild-requires-clause-index
rebuild-requires-clause-index c =
    subst (λ (l : List PeerIndex). HasIndex c.args.centre.now c.args.key.peer l)
    (sym c.hand_out_some.ensures.indexes)
    (has (goal.at.rebuild-requires-clause-index c).After-hand_out_some)

pub returns-clause-parts : goal.returns-clause-parts
returns-clause-parts c = λ part at. c.rebuild.ensures.peers ∙ c.hand_out_some.ensures.parts part at

pub returns-clause-indexed : goal.returns-clause-indexed
returns-clause-indexed c =
    c.rebuild.ensures.indexed c.args.self.now.peers.items
    (stays_changed c.args.self.now.peers.items c.hand_out_some.new.self.peers.items
    c.args.key.peer _ c.requires.there.part c.hand_out_some.ensures.parts)
    (subst (λ (l : List PeerIndex). AreIndexed c.args.centre.now c.args.now
    c.args.self.now.peers.items l) (sym c.hand_out_some.ensures.indexes) c.requires.indexed)
