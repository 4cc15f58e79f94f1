use Rattle.std.proofs.Common.{◌<◌, List, length, refl, sym, subst, ◌∙◌, arith}
use Rattle.bilateral.specs.Rows.{CentreRows}
use Rattle.std.specs.Arc.{arc_value}
use Rattle.node_core.specs.declared.feeds.cause.ReportCause.TheVariants.{Ask}
use Rattle.node_core.specs.declared.node.peer.Peer.{Peer}
use Rattle.node_core.specs.PartFeeds.{IsReported, OneBecomes}
use Rattle.node_core.specs.Stored.{IsNode, IsPeerThere}
use Rattle.node_core.specs.Room.{past_of}
use Rattle.node_core.proofs.OfNode.Causes.{named-ask}
use Rattle.node_core.proofs.OfNode.Indexing.{stays_one, stays_both, there_reported}
use Rattle.node_core.proofs.OfNode.NodeAnswers.{light_enough, free_at, unlogged, logged, reindexed}
use Rattle.node_core.proofs.OfNode.NodeAnswers.{has_index, lawful_at}
use Rattle.node_core.proofs.OfNode.NodeSteps.{IsNode-ask, IsNode-drafted, one_each, peer_there}
use Rattle.node_core.proofs.OfNode.PeerViews.{peer_shown, all_banked}
use Rattle.node_core.proofs.node.Node.ask.Goals as goal
use Rattle.node_core.proofs.node.Node.ask.Goals.{After-open_count, After-draft}

there : (c : After-open_count) → c.args.peer < length (arc_value c.self.inside.centre).tables
there c =
    named-ask (arc_value c.self.inside.centre) c.args.peer c.args.slot
    (free_at c.self.inside c.args.who c.self.view_is c.requires.ask c.requires.free).named

drafted : (c : After-draft) → IsNode (arc_value c.self.inside.centre) (past_of c.self.inside.log)
    c.self.inside.hub c.draft.new.self
drafted c =
    IsNode-drafted _ _ _ c.self.inside.parts c.draft.new.self
    (one_each c.args.peer c.self.inside.parts.peers.items c.draft.new.self.peers.items
    c.draft.ensures.alike) c.draft.ensures.indexes c.self.invariant.0

pub invariant_of-self : goal.invariant_of-self
invariant_of-self c =
    unlogged c.self.inside c.self.invariant c.reserve.new.self c.reserve.ensures.entries
    c.reserve.ensures.room refl c.self.invariant.0

pub append-requires-clause-light : goal.append-requires-clause-light
append-requires-clause-light c = light_enough (c.in_ok-reserve.ensures.room _ c.self.invariant.1)

pub draft-requires : goal.draft-requires
draft-requires c =
    peer_shown _ _ _ _ c.self.invariant.0 _ _ c.deref.ensures refl c.args.peer
    (there (goal.at.draft-requires c).After-open_count)

pub invariant_of-self-in_err-draft : goal.invariant_of-self-in_err-draft
invariant_of-self-in_err-draft c =
    unlogged c.self.inside c.self.invariant c.reserve.new.self c.in_ok-reserve.ensures.entries
    c.in_ok-reserve.ensures.room refl
    (drafted (goal.at.invariant_of-self-in_err-draft c).After-draft)

pub report-requires : goal.report-requires
report-requires c =
    let known = there (goal.at.report-requires c).After-open_count in
    let n = drafted (goal.at.report-requires c).After-draft in
    all_banked _ _ _ c.draft.new.self n c.args.peer (omega (arith, known, n.peers.many))

pub rebuild-requires-clause-there : goal.rebuild-requires-clause-there
rebuild-requires-clause-there c =
    let peer = c.args.peer in
    let known = there (goal.at.rebuild-requires-clause-there c).After-open_count in
    let n = drafted (goal.at.rebuild-requires-clause-there c).After-draft in
    subst (λ (r : CentreRows). IsPeerThere r c.report.new.self.peers.items peer)
    (sym c.deref-2.ensures)
    (there_reported _ n.common.lawful peer c.draft.new.self.peers.items
    c.report.new.self.peers.items (peer_there _ _ _ _ n peer known) _ c.report.ensures.reported)

pub rebuild-requires-clause-lawful : goal.rebuild-requires-clause-lawful
rebuild-requires-clause-lawful c = lawful_at c.self.inside c.self.invariant c.deref-2.ensures

pub rebuild-requires-clause-index : goal.rebuild-requires-clause-index
rebuild-requires-clause-index c =
    has_index c.self.inside c.self.invariant c.deref-2.ensures
    (c.report.ensures.indexes ∙ c.draft.ensures.indexes)
    (there (goal.at.rebuild-requires-clause-index c).After-open_count)

pub invariant_of-self-2 : goal.invariant_of-self-2
invariant_of-self-2 c =
    logged c.self.inside c.self.invariant c.args.who c.reserve.new.self c.append.new.self
    c.open_count.result c.self.view_is c.requires.ask c.requires.free refl
    c.in_ok-reserve.ensures c.append.ensures refl c.open_count.ensures.count
    (IsNode-ask _ _ _ _ c.self.invariant.0 c.args.who c.self.inside.hub c.rebuild.new.self
    (reindexed c.self.inside c.self.invariant c.report.new.self c.rebuild.new.self c.deref-2.ensures c.last_tick-now.ensures
    (c.report.ensures.indexes ∙ c.draft.ensures.indexes)
    (stays_both c.args.peer c.self.inside.parts.peers.items c.draft.new.self.peers.items
    c.report.new.self.peers.items
    (stays_one _ _ _ c.args.peer c.draft.ensures.alike)
    (stays_one _ _ _ c.args.peer c.report.ensures.reported)) c.rebuild.ensures.indexed) _ _
    c.last_tick-now.result c.args.peer c.args.slot c.draft.new.self c.deref.ensures refl
    c.last_tick-now.ensures (there (goal.at.invariant_of-self-2 c).After-open_count)
    c.draft.ensures.alike c.in_ok-draft.ensures.ok
    (subst (λ (ps : List Peer). OneBecomes (IsReported (Ask c.args.slot c.last_tick-now.result))
    c.args.peer c.draft.new.self.peers.items ps) (sym c.rebuild.ensures.peers)
    c.report.ensures.reported) refl)
