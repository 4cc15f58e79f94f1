use Rattle.std.proofs.Common.{◌≡◌, ◌≤◌, ◌+◌, ◌*◌, ◌∷◌, ◌∙◌, List, reverse, refl, sym, ap, subst}
use Rattle.bilateral.specs.Rows.{CentreRows}
use Rattle.std.specs.Arc.{arc_value}
use Rattle.node_core.specs.Room.{past_of}
use Rattle.node_core.specs.LastValues.{kinds_of, updates_in}
use Rattle.node_core.proofs.OfNode.Causes.{named-update}
use Rattle.node_core.specs.declared.feeds.index.PeerIndex.{PeerIndex}
use Rattle.node_core.specs.Feeds.Indexed.{AreIndexed, watch_total, plan_total}
use Rattle.node_core.specs.Feeds.Concerned.{watching_total}
use Rattle.node_core.proofs.OfNode.Indexing.{AreIndexed-alike}
use Rattle.node_core.proofs.OfNode.NodeAnswers.{light_enough, free_at, unlogged, logged, lawful_at}
use Rattle.node_core.proofs.OfNode.NodeAnswers.{indexed_at, indexed_as}
use Rattle.node_core.proofs.OfNode.Steps.{known-point}
use Rattle.node_core.proofs.OfNode.NodeSteps.{IsNode-update, IsNode-drafted}
use Rattle.node_core.proofs.OfNode.PeerViews.{all_banked, all_roomed, all_shown}
use Rattle.node_core.specs.NodeState.{NodeState}
use Rattle.node_core.proofs.OfNode.Bounds.{watchers_are, plans_are}
use Rattle.node_core.proofs.OfNode.PeerTotals.{looked_both, looked_thrice}
use Rattle.node_core.proofs.node.Node.update.Goals as goal
use Rattle.node_core.proofs.node.Node.update.Goals.{After-prepare_all, After-note_all}

pub invariant_of-self : goal.invariant_of-self
invariant_of-self c =
    unlogged c.self.inside c.self.invariant c.reserve.new.self c.reserve.ensures.entries
    c.reserve.ensures.room refl c.self.invariant.0

pub append-requires-clause-light : goal.append-requires-clause-light
append-requires-clause-light c = light_enough (c.in_ok-reserve.ensures.room _ c.self.invariant.1)

pub prepare_all-requires-clause-lawful : goal.prepare_all-requires-clause-lawful
prepare_all-requires-clause-lawful c = lawful_at c.self.inside c.self.invariant c.deref.ensures

pub prepare_all-requires-clause-indexed : goal.prepare_all-requires-clause-indexed
prepare_all-requires-clause-indexed c =
    indexed_at c.self.inside c.self.invariant c.deref.ensures c.last_tick-now.ensures

pub note_all-requires-clause-indexed : goal.note_all-requires-clause-indexed
note_all-requires-clause-indexed c =
    subst (λ (l : List PeerIndex). AreIndexed c.deref-2.result.now c.last_tick-now.result
    c.prepare_all.new.self.peers.items l) (sym c.prepare_all.ensures.indexes)
    (AreIndexed-alike _ _ _ _ _ c.prepare_all.ensures.alike
    (indexed_at c.self.inside c.self.invariant c.deref-2.ensures c.last_tick-now.ensures))

pub prepare_all-requires-clause-there : goal.prepare_all-requires-clause-there
prepare_all-requires-clause-there c = λ peer within.
    (all_shown _ _ _ _ c.self.invariant.0 _ _ c.deref.ensures refl peer within).there

pub invariant_of-self-in_err-prepare_all : goal.invariant_of-self-in_err-prepare_all
invariant_of-self-in_err-prepare_all c =
    unlogged c.self.inside c.self.invariant c.reserve.new.self c.in_ok-reserve.ensures.entries
    c.in_ok-reserve.ensures.room refl
    (IsNode-drafted _ _ _ _ c.prepare_all.new.self c.prepare_all.ensures.alike
    c.prepare_all.ensures.indexes c.self.invariant.0)

pub note_all-requires-clause-banked : goal.note_all-requires-clause-banked
note_all-requires-clause-banked c =
    all_banked _ _ _ c.prepare_all.new.self
    (IsNode-drafted _ _ _ _ c.prepare_all.new.self c.prepare_all.ensures.alike
    c.prepare_all.ensures.indexes c.self.invariant.0)

pub note_all-requires-clause-room : goal.note_all-requires-clause-room
note_all-requires-clause-room c =
    all_roomed c.deref.result.now c.args.point c.self.inside.parts.peers.items
    c.prepare_all.new.self.peers.items c.in_ok-prepare_all.ensures.ok

pub invariant_of-self-2 : goal.invariant_of-self-2
invariant_of-self-2 c =
    let rows = arc_value c.self.inside.centre in
    let past = past_of c.self.inside.log in
    let free = free_at c.self.inside c.args.who c.self.view_is c.requires.update c.requires.free in
    let before = c.self.invariant.0.common.kept in
    let kept = c.update-changed.ensures.kept (kinds_of rows) (updates_in past) before in
    logged c.self.inside c.self.invariant c.args.who c.reserve.new.self c.append.new.self
    c.open_count.result c.self.view_is c.requires.update c.requires.free refl
    c.in_ok-reserve.ensures c.append.ensures refl c.open_count.ensures.count
    (IsNode-update rows past _ _ c.self.invariant.0 c.args.who _
    c.note_all.new.self c.deref.result.now c.last_tick-now.result c.args.point c.args.value
    c.prepare_all.new.self c.update-changed.result c.cov-cov.result c.deref.ensures
    c.last_tick-now.ensures
    (known-point rows c.args.point c.args.value
    (named-update rows c.args.point c.args.value free.named))
    c.prepare_all.ensures.alike c.in_ok-prepare_all.ensures.ok kept refl
    (c.update-changed.ensures.changed (kinds_of rows) (updates_in past) before)
    (c.cov-cov.ensures (kinds_of rows)
    (record { point = c.args.point; value = c.args.value } ∷ updates_in past)
    kept)
    c.note_all.ensures.changed c.note_all.ensures.same refl refl
    (indexed_as c.note_all.new.self c.deref-2.ensures c.last_tick-now.ensures c.note_all.ensures.indexed))

-- what was counted is what the views have, behind what was made ready
watchers : (c : After-prepare_all) → watch_total c.deref.result.now c.args.point
    c.self.inside.parts.peers.items
    ≡ watching_total (arc_value c.self.inside.centre) (past_of c.self.inside.log) c.args.point
watchers c =
    let n = c.self.invariant.0 in
    ap (λ (r : CentreRows). watch_total r c.args.point c.self.inside.parts.peers.items)
    c.deref.ensures
    ∙ watchers_are (arc_value c.self.inside.centre) n.common.lawful (past_of c.self.inside.log)
    c.self.inside.parts.peers.items n.peers c.args.point

-- and of what was planned
plans : (c : After-note_all) → plan_total c.prepare_all.new.self.peers.items
    ≡ watching_total (arc_value c.self.inside.centre) (past_of c.self.inside.log) c.args.point
plans c =
    let n = IsNode-drafted _ _ _ _ c.prepare_all.new.self c.prepare_all.ensures.alike
    c.prepare_all.ensures.indexes c.self.invariant.0 in
    plans_are c.deref.result.now c.args.point c.self.inside.parts.peers.items
    c.prepare_all.new.self.peers.items c.in_ok-prepare_all.ensures.ok
    ∙ ap (λ (r : CentreRows). watch_total r c.args.point c.prepare_all.new.self.peers.items)
    c.deref.ensures
    ∙ watchers_are (arc_value c.self.inside.centre) n.common.lawful (past_of c.self.inside.log)
    c.prepare_all.new.self.peers.items n.peers c.args.point

pub returns-in_err-prepare_all-clause-looks : goal.returns-in_err-prepare_all-clause-looks
returns-in_err-prepare_all-clause-looks c =
    subst (λ (s : NodeState). c.prepare_all.new.looks ≤ c.args.looks.now
    + 8 * watching_total s.setup.centre (reverse s.history) c.args.point) c.self.view_is
    (looked_both c.args.looks.now c.prepare_all.new.looks _ _ c.prepare_all.ensures.looks
    (watchers (goal.at.returns-in_err-prepare_all-clause-looks c).After-prepare_all))

pub returns-clause-looks : goal.returns-clause-looks
returns-clause-looks c =
    subst (λ (s : NodeState). c.note_all.new.looks ≤ c.args.looks.now
    + 8 * watching_total s.setup.centre (reverse s.history) c.args.point) c.self.view_is
    (looked_thrice c.args.looks.now c.prepare_all.new.looks c.note_all.new.looks _ _ _
    c.prepare_all.ensures.looks c.note_all.ensures.looks
    (watchers (goal.at.returns-clause-looks c).After-prepare_all)
    (plans (goal.at.returns-clause-looks c).After-note_all))
