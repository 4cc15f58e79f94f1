use Rattle.std.proofs.Common.{reverse, Some, refl, sym, ap, ◌∙◌, inl}
use Rattle.conn_service.specs.NodeCore.NodeState.{NodeState}
use Rattle.tase_replay.specs.declared.playing.ReplayEnd.{ReplayEnd}
use Rattle.tase_replay.specs.Links.{given_seen, item_seen}
use Rattle.tase_replay.specs.Play.{received, scene_by}
use Rattle.tase_replay.proofs.Own.{goes_there}
use Rattle.tase_replay.proofs.Players.{plays_last, plays_none}
use Rattle.tase_replay.proofs.Receiving.{going_awaits, attended_of, came, came_played, came_behind}
use Rattle.tase_replay.proofs.Receiving.{ended_played, never_cut}
use Rattle.tase_replay.proofs.Seating.{link_sits}
use Rattle.tase_replay.proofs.Sending.{came_taken}
use Rattle.tase_replay.proofs.playing.Player.serve.Goals as goal

pub receive-requires-clause-awaits : goal.receive-requires-clause-awaits
receive-requires-clause-awaits g c =
    let node = c.args.self.now.node.now in
    let given = c.args.given.now in
    let h = c.requires.found in
    let conn = c.index_mut-conn.result.now in
    going_awaits node.setup.centre (reverse node.history) h.0 given.who (item_seen given.item) conn
    h.1.0 (goes_there node.setup.centre h.0 given.who c.args.place c.args.self.now.seats.now conn h.1.1
    c.index_mut-conn.ensures.value)

-- the connection was cut for a full history, or for want of memory
pub returns-in-Some-clause-plays : goal.returns-in-Some-clause-plays
returns-in-Some-clause-plays g c = λ number scene h.
    let old = c.args.self.now in
    let node = old.node.now in
    let given = given_seen c.args.given.now in
    let after = reverse c.receive.new.node.history in
    let conn = c.index_mut-conn.result.now in
    let goes = goes_there node.setup.centre scene given.who c.args.place old.seats.now conn h.1
    c.index_mut-conn.ensures.value in
    let cut = sym c.cut_end.ensures ∙ c.in-Some.is in
    plays_last g.K.Sink.told number scene _ _ _ _
    (λ done. absurd (never_cut _ (cut ∙ ap (λ (end : ReplayEnd). Some end) done))) refl
    (λ line. ended_played node.setup line number scene given node.history
    c.receive.new.node.history (g.K.Sink.told old.sink.now) c.in-Some.end conn c.receive.new.conn
    after h.0 refl goes h.1.fit (attended_of node.setup (reverse node.history) scene given conn
    c.receive.new.conn after h.0 goes c.in-Ok.ensures.received) cut)

-- what is sent was printed, and the end
pub returns-in-None-clause-plays : goal.returns-in-None-clause-plays
returns-in-None-clause-plays g c = λ number scene h.
    let old = c.args.self.now in
    let node = old.node.now in
    let given = given_seen c.args.given.now in
    let now = c.receive.new.node.history in
    let after = reverse now in
    let conn = c.index_mut-conn.result.now in
    let goes = goes_there node.setup.centre scene given.who c.args.place old.seats.now conn h.1
    c.index_mut-conn.ensures.value in
    let acted = came node.setup scene given conn c.receive.new.conn after goes h.1.fit
    (attended_of node.setup (reverse node.history) scene given conn c.receive.new.conn after h.0 goes
    c.in-Ok.ensures.received) (sym c.cut_end.ensures ∙ c.in-None.is) in
    record {
      played = λ line. came_played node.setup line number scene given node.history now
          (g.K.Sink.told old.sink.now) (g.K.Sink.told c.print_sent.new.sink) c.print_sent.result conn
          c.receive.new.conn after h.0 refl goes acted c.print_sent.ensures.shown;
      stands = λ done. link_sits node.setup.centre scene given c.args.place old.seats.now _
          c.print_sent.new.conn (scene_by scene (received node.setup scene given)) now h.1
          (came_behind node.setup scene given now conn c.receive.new.conn c.print_sent.new.conn
          after refl goes acted
          (λ items told turns s. c.print_sent.ensures.stands node.setup.centre items told turns s)
          c.print_sent.ensures.same (c.print_sent.ensures.sent done)) (λ other. refl) refl;
      sent = inl (came_taken node.setup scene given conn c.receive.new.conn after goes acted
          c.pending_are_octets.ensures);
    }

-- memory was wanting for the item
pub returns-in-Err-clause-plays : goal.returns-in-Err-clause-plays
returns-in-Err-clause-plays g c = λ number scene h.
    plays_none g.K.Sink.told number scene _ _ _
    (ap (λ (n : NodeState). n.history) c.in-Err.ensures.unreceived) refl
