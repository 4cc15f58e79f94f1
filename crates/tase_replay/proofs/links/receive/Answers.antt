use Rattle.std.proofs.Common.{[], ◌∷◌, ◌++◌, reverse}
use Rattle.conn_service.proofs.OfCourses.Kept.{taken_serves}
use Rattle.tase_replay.specs.Links.{item_seen}
use Rattle.tase_replay.proofs.Receiving.{received_on}
use Rattle.tase_replay.proofs.links.receive.Goals as goal

pub attend-requires : goal.attend-requires
attend-requires c =
    let node = c.args.node.now in
    let item = item_seen c.args.item.now in
    let a = c.requires.awaits in
    record {
      served = (
        a.0 ++ item ∷ [],
        a.1,
        taken_serves node.setup.centre (reverse node.history) c.args.who a.0 item a.1
            c.args.conn.now c.take_item.new.conn a.2 a.3
            (c.in_ok-take_item.ensures.stands node.setup.centre a.0 a.2.told a.2.turns a.2.stands)
            c.in_ok-take_item.ensures.same,
      );
    }

pub returns-clause-received : goal.returns-clause-received
returns-clause-received c = λ items said s i.
    let node = c.args.node.now in
    received_on node.setup (reverse node.history) c.args.who items (item_seen c.args.item.now) said
    c.args.conn.now c.take_item.new.conn c.attend.new.conn (reverse c.attend.new.node.history) s i
    (c.in_ok-take_item.ensures.stands node.setup.centre items s.told s.turns s.stands) c.in_ok-take_item.ensures.same
    (λ t. c.attend.ensures.attended (items ++ item_seen c.args.item.now ∷ []) said t)
