use Rattle.std.proofs.Common.{ℕ, ◌+◌, List, [], ◌∷◌, ◌++◌, take, drop, get_or, refl, sym, ap}
use Rattle.std.proofs.Common.{◌∙◌}
use Rattle.std.proofs.Common.{subst, Some, None, arith, take-append-drop}
use Rattle.std.proofs.lemmas.List.{take_more, take_all}
use Rattle.share_turn.specs.Public.{at}
use Rattle.node_server.specs.NodeCalls.{NodeSeat}
use Rattle.node_server.specs.Feeding.{FeedsOctets}
use Rattle.node_server.proofs.Fed.{octets-on, octets-more, none-fed}
use Rattle.node_server.proofs.feeding.Feeder.feed_piece.Goals as goal

pub loop-octet-init : goal.loop-octet-init
loop-octet-init g c = (
  refl,
  none-fed c.args.self.now.shared.now.setup c.args.seat.now
      c.args.reader.now,
)

pub loop-octet-preserved : goal.loop-octet-preserved
loop-octet-preserved g c =
    let index : ℕ = c.loop-octet.octet-index in
    let piece : List ℕ = c.args.piece.now in (
      c.feed_octet.ensures.same
          ∙ ap (λ (s : NodeSeat). at s c.feed_octet.new.seat.front) c.loop-octet.invariant.0,
      subst (λ (l : List ℕ). FeedsOctets c.args.self.now.shared.now.setup c.args.seat.now
          c.feed_octet.new.seat.front c.args.reader.now c.feed_octet.new.reader l None)
          (sym (take_more piece index 0 (omega arith)))
          (octets-on c.args.self.now.shared.now.setup c.args.seat.now c.loop-octet.seat
          c.loop-octet.invariant.0 c.feed_octet.new.seat.front c.args.reader.now
          c.loop-octet.reader c.feed_octet.new.reader (take index piece)
          (get_or piece index 0 ∷ []) None c.loop-octet.invariant.1 c.in_default.ensures.feeds),
    )

pub returns-in-Some-clause-same : goal.returns-in-Some-clause-same
returns-in-Some-clause-same g c = c.feed_octet.ensures.same
    ∙ ap (λ (s : NodeSeat). at s c.feed_octet.new.seat.front) c.loop-octet.invariant.0

pub returns-in-Some-clause-feeds : goal.returns-in-Some-clause-feeds
returns-in-Some-clause-feeds g c =
    let index : ℕ = c.loop-octet.octet-index in
    let piece : List ℕ = c.args.piece.now in
    subst (λ (l : List ℕ). FeedsOctets c.args.self.now.shared.now.setup c.args.seat.now
    c.feed_octet.new.seat.front c.args.reader.now c.feed_octet.new.reader l
    (Some c.in-Some.end))
    (ap (λ (l : List ℕ). l ++ drop (index + 1) piece) (sym (take_more piece index 0 (omega arith)))
    ∙ take-append-drop (index + 1) piece)
    (octets-more c.args.self.now.shared.now.setup c.args.seat.now c.feed_octet.new.seat.front
    c.args.reader.now c.feed_octet.new.reader (take index piece ++ get_or piece index 0 ∷ [])
    (drop (index + 1) piece) c.in-Some.end
    (octets-on c.args.self.now.shared.now.setup c.args.seat.now c.loop-octet.seat
    c.loop-octet.invariant.0 c.feed_octet.new.seat.front c.args.reader.now c.loop-octet.reader
    c.feed_octet.new.reader (take index piece) (get_or piece index 0 ∷ []) (Some c.in-Some.end)
    c.loop-octet.invariant.1 c.in-Some.ensures.feeds))

pub returns-clause-feeds : goal.returns-clause-feeds
returns-clause-feeds g c = subst (λ (l : List ℕ). FeedsOctets c.args.self.now.shared.now.setup
    c.args.seat.now c.loop-octet.seat.front c.args.reader.now c.loop-octet.reader l None)
    (take_all c.loop-octet.octet-index c.args.piece.now (omega arith)) c.loop-octet.invariant.1
