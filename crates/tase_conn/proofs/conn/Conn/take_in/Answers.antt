use Rattle.std.proofs.Common.{◌≡◌, false, true, sym, ◌∙◌}
use Rattle.stack_assoc.specs.Arrivals.{called}
use Rattle.tase_conn.specs.Map.Inputs.{piece, text_given}
use Rattle.tase_conn.specs.contracts.conn.Conn.{the_view}
use Rattle.tase_conn.specs.Talking.{is_running}
use Rattle.tase_conn.proofs.Placing.{dropped, taken_view}
use Rattle.tase_conn.proofs.conn.Conn.take_in.Goals as goal

pub returns-then-not-is_running-clause-ok : goal.returns-then-not-is_running-clause-ok
returns-then-not-is_running-clause-ok c =
    let e : is_running c.args.self.now.progress ≡ false =
    sym c.is_running.ensures ∙ c.if-not-is_running.true in
    λ rows items told turns s.
    dropped rows items told turns (piece c.args.piece.now) c.args.self.now e s

pub returns-clause-ok : goal.returns-clause-ok
returns-clause-ok c =
    let e : is_running c.args.self.now.progress ≡ true =
    sym c.is_running.ensures ∙ c.if-not-is_running.false in
    λ rows items told turns s.
    taken_view rows items told turns (piece c.args.piece.now) (the_view c.self.inside)
    c.args.self.now c.feed.new.self c.self.view_is c.requires.resting e
    (record {
      stands = c.in_ok-feed.ensures.ok called (text_given items) told;
      standing = c.in_ok-feed.ensures.standing;
      state = c.in_ok-feed.ensures.state;
    }) s
