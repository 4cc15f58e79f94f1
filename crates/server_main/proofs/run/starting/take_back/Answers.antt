use Rattle.server_main.proofs.OfRun.TakenBack.{joined-back, joined-number}
use Rattle.server_main.proofs.run.starting.take_back.Goals as goal

pub returns-in-Conn-clause-back : goal.returns-in-Conn-clause-back
returns-in-Conn-clause-back g c =
    joined-back c.args.shared.now c.args.seat.now c.join.new.seat _ c.args.job
    c.in-Conn.ensures.parts c.requires.fresh c.requires.front c.join.ensures.of
    c.join.ensures.longer c.join.ensures.ended

pub returns-in-Feed-clause-back : goal.returns-in-Feed-clause-back
returns-in-Feed-clause-back g c =
    joined-back c.args.shared.now c.args.seat.now c.join-in-Feed.new.seat _ c.args.job
    c.in-Feed.ensures.parts c.requires.fresh c.requires.front c.join-in-Feed.ensures.of
    c.join-in-Feed.ensures.longer c.join-in-Feed.ensures.ended

pub returns-clause-back : goal.returns-clause-back
returns-clause-back g c =
    joined-back c.args.shared.now c.args.seat.now c.join-in-Ticks.new.seat _ c.args.job
    c.in-Ticks.ensures.parts c.requires.fresh c.requires.front c.join-in-Ticks.ensures.of
    c.join-in-Ticks.ensures.longer c.join-in-Ticks.ensures.ended

pub returns-in-Conn-clause-joins : goal.returns-in-Conn-clause-joins
returns-in-Conn-clause-joins g c = joined-number c.args.seat.now c.join.new.seat _ c.args.job
    c.in-Conn.ensures.parts c.join.ensures.ended

pub returns-in-Feed-clause-joins : goal.returns-in-Feed-clause-joins
returns-in-Feed-clause-joins g c = joined-number c.args.seat.now c.join-in-Feed.new.seat _
    c.args.job c.in-Feed.ensures.parts c.join-in-Feed.ensures.ended

pub returns-clause-joins : goal.returns-clause-joins
returns-clause-joins g c = joined-number c.args.seat.now c.join-in-Ticks.new.seat _ c.args.job
    c.in-Ticks.ensures.parts c.join-in-Ticks.ensures.ended
