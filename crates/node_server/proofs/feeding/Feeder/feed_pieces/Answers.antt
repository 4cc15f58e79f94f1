use Rattle.std.proofs.Common.{ℕ, List, [], ◌++◌, take, refl, ap, ◌∙◌, None}
use Rattle.std.proofs.Common.{arith}
use Rattle.outside.proofs.Reading.{HasRead-none, HasRead-more}
use Rattle.share_turn.specs.Public.{at}
use Rattle.node_server.specs.NodeCalls.{NodeSeat}
use Rattle.node_server.proofs.Fed.{octets-on, none-fed}
use Rattle.node_server.proofs.FeedRuns.{piece-ended, source-ended, source-failed}
use Rattle.node_server.proofs.feeding.Feeder.feed_pieces.Goals as goal

pub loop-init : goal.loop-init
loop-init g c = (
  refl,
  c.requires.room,
  (
    [],
    HasRead-none (g.S.Source.told c.args.source.now),
    none-fed c.args.self.now.shared.now.setup c.args.seat.now c.args.reader.now,
  ),
)

pub loop-preserved : goal.loop-preserved
loop-preserved g c =
    let told = c.loop.invariant.2 in
    let piece : List ℕ = take c.in-Got.count c.read.new.buf in (
      c.feed_piece.ensures.same
          ∙ ap (λ (s : NodeSeat). at s c.feed_piece.new.seat.front) c.loop.invariant.0,
      omega arith,
      (
        told.0 ++ piece,
        HasRead-more _ _ _ told.0 c.read.new.buf c.in-Got.count told.1 c.in-Got.ensures,
        octets-on c.args.self.now.shared.now.setup c.args.seat.now c.loop.seat c.loop.invariant.0
            c.feed_piece.new.seat.front c.args.reader.now c.loop.reader c.feed_piece.new.reader
            told.0 piece None told.2 c.in_default.ensures.feeds,
      ),
    )

pub returns-in-Some-feed_piece-clause-feeds : goal.returns-in-Some-feed_piece-clause-feeds
returns-in-Some-feed_piece-clause-feeds g c = piece-ended c.args.self.now.shared.now.setup
    c.args.seat.now c.loop.seat c.loop.invariant.0 c.args.reader.now c.loop.reader _ _ _
    c.loop.invariant.2.0 c.read.new.buf c.loop.invariant.2.1 c.loop.invariant.2.2
    c.feed_piece.new.seat.front c.feed_piece.new.reader c.in-Got.count c.in-Some-feed_piece.end
    c.in-Got.ensures c.in-Some-feed_piece.ensures.feeds

pub returns-in-End-clause-feeds : goal.returns-in-End-clause-feeds
returns-in-End-clause-feeds g c = source-ended c.args.self.now.shared.now.setup c.args.seat.now
    c.loop.seat c.loop.invariant.0 c.args.reader.now c.loop.reader _ _ _ c.loop.invariant.2.0
    c.read.new.buf c.loop.invariant.2.1 c.loop.invariant.2.2 c.feed_last.new.seat.front
    c.feed_last.result c.feed_last.ensures.fault c.in-End.ensures c.feed_last.ensures.feeds

pub returns-in-Failed-clause-feeds : goal.returns-in-Failed-clause-feeds
returns-in-Failed-clause-feeds g c = source-failed c.args.self.now.shared.now.setup c.args.seat.now
    c.loop.seat c.loop.invariant.0 c.args.reader.now c.loop.reader _ _ _ c.loop.invariant.2.0
    c.read.new.buf c.loop.invariant.2.1 c.loop.invariant.2.2
    (c.break_off.ensures c.args.self.now.shared.now.setup.centre) c.in-Failed.ensures
