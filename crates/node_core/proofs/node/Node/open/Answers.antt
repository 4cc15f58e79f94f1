use Rattle.std.proofs.Common.{◌≡◌, ◌<◌, ◌+◌, ℕ, None, length, refl, sym, ap, ◌∙◌, arith}
use Rattle.std.proofs.lemmas.Bool.{eq-eqb}
use Rattle.std.specs.HashMap.{hash_map_len}
use Rattle.std.specs.Arc.{arc_value}
use Rattle.std.proofs.lemmas.List.{length-reverse}
use Rattle.tase_views.specs.History.{association_in}
use Rattle.node_core.specs.Room.{past_of}
use Rattle.node_core.specs.Stored.{found_by}
use Rattle.node_core.proofs.OfNode.Causes.{seated-open, named-open}
use Rattle.node_core.proofs.OfNode.NodeAnswers.{seen_as, light_enough, free_at, unlogged, logged}
use Rattle.node_core.proofs.OfNode.Outcomes.{none_there, IsAnswer-open}
use Rattle.node_core.proofs.OfNode.NodeSteps.{IsNode-open, IsNode-alike, may_open, opens_next}
use Rattle.node_core.proofs.OfNode.NodeSteps.{unseated_again}
use Rattle.node_core.proofs.node.Node.open.Goals as goal
use Rattle.node_core.proofs.node.Node.open.Goals.{After-open_count}

there : (c : After-open_count) → c.args.peer < length (arc_value c.self.inside.centre).tables
there c =
    named-open (arc_value c.self.inside.centre) c.args.peer
    (free_at c.self.inside c.args.who c.self.view_is c.requires.open c.requires.free).named

unseated : (c : After-open_count) → found_by c.self.inside.hub c.args.who ≡ None
unseated c =
    let found = association_in (past_of c.self.inside.log) c.args.who in
    c.self.invariant.0.common.seated c.args.who
    ∙ none_there found (seated-open found c.args.peer
    (free_at c.self.inside c.args.who c.self.view_is c.requires.open c.requires.free).seated)

pub invariant_of-self : goal.invariant_of-self
invariant_of-self c =
    unlogged c.self.inside c.self.invariant c.reserve.new.self c.reserve.ensures.entries
    c.reserve.ensures.room refl c.self.invariant.0

pub append-requires-clause-light : goal.append-requires-clause-light
append-requires-clause-light c = light_enough (c.in_ok-reserve.ensures.room _ c.self.invariant.1)

pub next_key-key-requires : goal.next_key-key-requires
next_key-key-requires c =
    let known = there (goal.at.next_key-key-requires c).After-open_count in
    omega (arith, known, c.self.invariant.0.peers.many, c.self.inside.parts.peers.ok)

pub invariant_of-self-in_err-seat : goal.invariant_of-self-in_err-seat
invariant_of-self-in_err-seat c =
    unlogged c.self.inside c.self.invariant c.reserve.new.self c.in_ok-reserve.ensures.entries
    c.in_ok-reserve.ensures.room c.in_err-seat.ensures.same_count
    (IsNode-alike _ _ _ c.seat.new.self _ c.self.inside.parts c.in_err-seat.ensures.plant
    c.in_err-seat.ensures.clock c.in_err-seat.ensures.err refl refl c.self.invariant.0)

pub open-requires-clause-known : goal.open-requires-clause-known
open-requires-clause-known c =
    let known = there (goal.at.open-requires-clause-known c).After-open_count in
    omega (arith, known, c.self.invariant.0.peers.many, c.self.inside.parts.peers.ok)

pub open-requires-clause-room : goal.open-requires-clause-room
open-requires-clause-room c =
    let entries = c.self.inside.log.entries in
    may_open _ _ _ _ c.self.invariant.0 c.args.peer
    (omega (
      arith,
      length-reverse entries,
      ap length c.in_ok-reserve.ensures.entries,
      c.in_ok-reserve.ensures.few,
    ))

pub invariant_of-self-in-Ok : goal.invariant_of-self-in-Ok
invariant_of-self-in-Ok c =
    let known = there (goal.at.invariant_of-self-in-Ok c).After-open_count in
    let one_more = c.in_ok-seat.ensures.count
    (unseated (goal.at.invariant_of-self-in-Ok c).After-open_count) in
    let key_is = opens_next _ _ _ _ c.self.invariant.0 c.args.peer c.next_key-key.result known
    c.next_key-key.ensures in
    logged c.self.inside c.self.invariant c.args.who c.reserve.new.self c.append.new.self
    (c.open_count.result + 1) c.self.view_is c.requires.open c.requires.free refl
    c.in_ok-reserve.ensures c.append.ensures one_more
    (ap (λ (k : ℕ). k + 1) c.open_count.ensures.count ∙ sym one_more)
    (IsNode-open _ _ _ _ c.self.invariant.0 c.args.who c.seat.new.self c.open.new.self
    c.open.ensures.indexes c.args.peer c.next_key-key.result known key_is c.in_ok-seat.ensures.plant
    c.in_ok-seat.ensures.clock c.in_ok-seat.ensures.ok c.in-Ok.ensures.ok)

pub returns-in-Ok-clause-answer : goal.returns-in-Ok-clause-answer
returns-in-Ok-clause-answer c =
    let known = there (goal.at.returns-in-Ok-clause-answer c).After-open_count in
    rw (← c.self.view_is) (IsAnswer-open (seen_as c.self.inside).setup
    (past_of c.self.inside.log) c.args.who c.args.peer c.args.event c.next_key-key.result
    c.requires.open
    (opens_next _ _ _ _ c.self.invariant.0 c.args.peer c.next_key-key.result known
    c.next_key-key.ensures))

pub invariant_of-self-in-Err-13 : goal.invariant_of-self-in-Err-13
invariant_of-self-in-Err-13 c =
    let none = unseated (goal.at.invariant_of-self-in-Err-13 c).After-open_count in
    let more = c.in_ok-seat.ensures.count none in
    let less = c.unseat.ensures.count
    (rw (c.in_ok-seat.ensures.ok c.args.who, eq-eqb c.args.who c.args.who refl) refl) in
    let same : hash_map_len c.unseat.new.self.seats ≡ hash_map_len c.self.inside.hub.seats =
    omega (arith, more, less) in
    unlogged c.self.inside c.self.invariant c.reserve.new.self c.in_ok-reserve.ensures.entries
    c.in_ok-reserve.ensures.room same
    (IsNode-alike _ _ _ c.unseat.new.self _ c.open.new.self
    (c.unseat.ensures.plant ∙ c.in_ok-seat.ensures.plant)
    (c.unseat.ensures.clock ∙ c.in_ok-seat.ensures.clock)
    (unseated_again c.args.who c.next_key-key.result (found_by c.self.inside.hub)
    (found_by c.seat.new.self) (found_by c.unseat.new.self) none c.in_ok-seat.ensures.ok
    c.unseat.ensures.seats)
    c.in-Err.ensures.err c.open.ensures.indexes c.self.invariant.0)
