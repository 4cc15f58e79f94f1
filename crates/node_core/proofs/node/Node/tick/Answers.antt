use Rattle.std.proofs.Common.{◌≡◌, ◌<◌, ◌≤◌, ◌+◌, ◌*◌, ℕ, List, reverse, refl, sym, ap, subst, ◌∙◌}
use Rattle.std.proofs.Common.{arith}
use Rattle.std.specs.Arc.{arc_value}
use Rattle.sbo_device.specs.declared.device.TheConstants.{MOMENT_LIMIT}
use Rattle.tase_views.specs.History.{last_tick}
use Rattle.node_core.specs.declared.node.hub.Hub.{Hub}
use Rattle.node_core.specs.declared.feeds.index.PeerIndex.{PeerIndex}
use Rattle.node_core.specs.Feeds.SlotFeeds.{IsForward}
use Rattle.node_core.specs.Feeds.Indexed.{AreIndexed, due_total}
use Rattle.node_core.specs.Feeds.Concerned.{due_in_all}
use Rattle.node_core.specs.Room.{past_of}
use Rattle.std.specs.HashMap.{hash_map_len}
use Rattle.sbo_device.specs.Banks.{BankState}
use Rattle.node_core.specs.NodeState.{NodeState}
use Rattle.node_core.proofs.OfNode.Bounds.{dues_are}
use Rattle.node_core.proofs.OfNode.PeerTotals.{looked_once, looked_twice}
use Rattle.node_core.proofs.OfNode.Indexing.{AreIndexed-alike}
use Rattle.node_core.proofs.OfNode.NodeAnswers.{light_enough, unlogged, logged, free_at, indexed_at}
use Rattle.node_core.proofs.OfNode.NodeAnswers.{indexed_as}
use Rattle.node_core.proofs.OfNode.Causes.{timed-tick, later-tick}
use Rattle.node_core.proofs.OfNode.NodeSteps.{IsNode-tick, IsNode-drafted}
use Rattle.node_core.proofs.OfNode.PeerViews.{all_shown, all_banked}
use Rattle.node_core.proofs.node.Node.tick.Goals as goal
use Rattle.node_core.proofs.node.Node.tick.Goals.{After-open_count, After-draft_all}

below : (c : After-open_count) → c.args.now < MOMENT_LIMIT
below c =
    timed-tick (last_tick (past_of c.self.inside.log)) c.args.now
    (free_at c.self.inside c.args.who c.self.view_is c.requires.tick c.requires.free).timed

-- the clock goes on
forward : (c : After-open_count) → IsForward c.last_tick.result c.args.now
forward c =
    let free = free_at c.self.inside c.args.who c.self.view_is c.requires.tick c.requires.free in
    let later = later-tick (last_tick (past_of c.self.inside.log)) c.args.now free.timed in (
      omega (arith, later, c.last_tick.ensures, c.self.invariant.0.clock),
      below c,
    )

pub invariant_of-self : goal.invariant_of-self
invariant_of-self c =
    unlogged c.self.inside c.self.invariant c.reserve.new.self c.reserve.ensures.entries
    c.reserve.ensures.room refl c.self.invariant.0

pub append-requires-clause-light : goal.append-requires-clause-light
append-requires-clause-light c = light_enough (c.in_ok-reserve.ensures.room _ c.self.invariant.1)

pub draft_all-requires-clause-few : goal.draft_all-requires-clause-few
draft_all-requires-clause-few c = rw c.deref.ensures c.self.invariant.0.peers.many

pub draft_all-requires-clause-shown : goal.draft_all-requires-clause-shown
draft_all-requires-clause-shown c =
    all_shown _ _ _ _ c.self.invariant.0 _ _ c.deref.ensures refl

pub invariant_of-self-in_err-draft_all : goal.invariant_of-self-in_err-draft_all
invariant_of-self-in_err-draft_all c =
    unlogged c.self.inside c.self.invariant c.reserve.new.self c.in_ok-reserve.ensures.entries
    c.in_ok-reserve.ensures.room refl
    (IsNode-drafted _ _ _ _ c.draft_all.new.self c.draft_all.ensures.alike
    c.draft_all.ensures.indexes c.self.invariant.0)

pub draft_all-requires-clause-indexed : goal.draft_all-requires-clause-indexed
draft_all-requires-clause-indexed c =
    indexed_at c.self.inside c.self.invariant c.deref.ensures c.last_tick.ensures

pub draft_all-requires-clause-forward : goal.draft_all-requires-clause-forward
draft_all-requires-clause-forward c =
    forward (goal.at.draft_all-requires-clause-forward c).After-open_count

pub report_all-requires-clause-few : goal.report_all-requires-clause-few
report_all-requires-clause-few c =
    rw c.deref-2.ensures (c.draft_all.ensures.alike.many ∙ c.self.invariant.0.peers.many)

pub report_all-requires-clause-indexed : goal.report_all-requires-clause-indexed
report_all-requires-clause-indexed c =
    subst (λ (l : List PeerIndex). AreIndexed c.deref-2.result.now c.last_tick.result
    c.draft_all.new.self.peers.items l) (sym c.draft_all.ensures.indexes)
    (AreIndexed-alike _ _ _ _ _ c.draft_all.ensures.alike
    (indexed_at c.self.inside c.self.invariant c.deref-2.ensures c.last_tick.ensures))

pub report_all-requires-clause-forward : goal.report_all-requires-clause-forward
report_all-requires-clause-forward c =
    forward (goal.at.report_all-requires-clause-forward c).After-open_count

-- what was counted is what the views have due
dues : (c : After-open_count) → due_total c.last_tick.result c.args.now
    c.self.inside.parts.peers.items
    ≡ due_in_all (arc_value c.self.inside.centre) (past_of c.self.inside.log) c.args.now
dues c =
    let n = c.self.invariant.0 in
    dues_are (arc_value c.self.inside.centre) n.common.lawful (past_of c.self.inside.log)
    c.self.inside.parts.peers.items n.peers c.last_tick.result c.args.now
    (c.last_tick.ensures ∙ n.clock)

dues_again : (c : After-draft_all) → due_total c.last_tick.result c.args.now
    c.draft_all.new.self.peers.items
    ≡ due_in_all (arc_value c.self.inside.centre) (past_of c.self.inside.log) c.args.now
dues_again c =
    let n = c.self.invariant.0 in
    dues_are (arc_value c.self.inside.centre) n.common.lawful (past_of c.self.inside.log)
    c.draft_all.new.self.peers.items
    (IsNode-drafted _ _ _ _ c.draft_all.new.self c.draft_all.ensures.alike
    c.draft_all.ensures.indexes n).peers c.last_tick.result c.args.now
    (c.last_tick.ensures ∙ n.clock)

pub report_all-requires-clause-banked : goal.report_all-requires-clause-banked
report_all-requires-clause-banked c =
    all_banked _ _ _ c.draft_all.new.self
    (IsNode-drafted _ _ _ _ c.draft_all.new.self c.draft_all.ensures.alike
    c.draft_all.ensures.indexes c.self.invariant.0)

pub invariant_of-self-2 : goal.invariant_of-self-2
invariant_of-self-2 c =
    let same : hash_map_len c.tick.new.self.seats ≡ hash_map_len c.self.inside.hub.seats =
    rw c.tick.ensures refl in
    let expired = c.tick.ensures ∙ ap (λ (bank : BankState). record c.self.inside.hub {
      last_tick = c.args.now;
      plant = record c.self.inside.hub.plant { devices = bank };
    }) c.expire.ensures in
    logged c.self.inside c.self.invariant c.args.who c.reserve.new.self c.append.new.self
    c.open_count.result c.self.view_is c.requires.tick c.requires.free refl
    c.in_ok-reserve.ensures c.append.ensures same (c.open_count.ensures.count ∙ sym same)
    (IsNode-tick _ _ _ _ c.self.invariant.0 c.args.who c.tick.new.self c.report_all.new.self
    (subst (λ (m : ℕ). AreIndexed (arc_value c.self.inside.centre) m
    c.report_all.new.self.peers.items c.report_all.new.self.indexes.items)
    (sym (ap (λ (h : Hub). h.last_tick) c.tick.ensures))
    (indexed_as c.report_all.new.self c.deref-2.ensures refl c.report_all.ensures.indexed)) _ _
    c.last_tick.result c.args.now c.draft_all.new.self
    (below (goal.at.invariant_of-self-2 c).After-open_count) c.deref.ensures refl
    c.last_tick.ensures c.draft_all.ensures.alike c.in_ok-draft_all.ensures.ok
    c.report_all.ensures.reported expired)

pub expire-requires : goal.expire-requires
expire-requires c = below (goal.at.expire-requires c).After-open_count

pub returns-in_err-draft_all-clause-looks : goal.returns-in_err-draft_all-clause-looks
returns-in_err-draft_all-clause-looks c =
    subst (λ (s : NodeState). c.draft_all.new.looks ≤ c.args.looks.now
    + 8 * due_in_all s.setup.centre (reverse s.history) c.args.now) c.self.view_is
    (looked_once c.args.looks.now c.draft_all.new.looks _ _ c.draft_all.ensures.looks
    (dues (goal.at.returns-in_err-draft_all-clause-looks c).After-open_count))

pub returns-clause-looks : goal.returns-clause-looks
returns-clause-looks c =
    subst (λ (s : NodeState). c.report_all.new.looks ≤ c.args.looks.now
    + 8 * due_in_all s.setup.centre (reverse s.history) c.args.now) c.self.view_is
    (looked_twice c.args.looks.now c.draft_all.new.looks c.report_all.new.looks _ _ _
    c.draft_all.ensures.looks c.report_all.ensures.looks
    (dues (goal.at.returns-clause-looks c).After-open_count)
    (dues_again (goal.at.returns-clause-looks c).After-draft_all))
