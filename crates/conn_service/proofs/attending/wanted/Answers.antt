use Rattle.std.proofs.Common.{reverse, inr}
use Rattle.conn_service.proofs.Going.{served_free, served_placed}
use Rattle.conn_service.proofs.Memory.{given_cut, given_parting, given_placed, idle_free, runs_on}
use Rattle.conn_service.proofs.Wanted.{wants_found}
use Rattle.conn_service.proofs.attending.wanted.Goals as goal

pub want-requires-clause-free : goal.want-requires-clause-free
want-requires-clause-free c = served_free c.args.node.now.setup.centre
    (reverse c.args.node.now.history) c.args.who c.args.conn.now c.requires.served

pub want-requires-clause-placed : goal.want-requires-clause-placed
want-requires-clause-placed c = served_placed c.args.node.now.setup.centre
    (reverse c.args.node.now.history) c.args.who c.args.conn.now c.requires.served

pub give_up-requires-clause-free : goal.give_up-requires-clause-free
give_up-requires-clause-free c = idle_free c.want.new.self.progress c.in-Err.ensures.again

pub give_up-requires-clause-placed : goal.give_up-requires-clause-placed
give_up-requires-clause-placed c = given_placed c.args.node.now.setup.centre
    (reverse c.args.node.now.history) c.args.who c.args.conn.now c.want.new.self
    c.in-Err.ensures.err c.requires.served

pub close-requires : goal.close-requires
close-requires c = record {
  left = given_parting c.args.node.now.setup.centre (reverse c.args.node.now.history) c.args.who
      c.args.conn.now c.want.new.self c.give_up.new.self
      (runs_on c.args.conn.now.progress c.in-Err.ensures.over) c.in-Err.ensures.err
      c.in-Err.ensures.again c.want.ensures.stage c.give_up.ensures.stands c.give_up.ensures.left
      c.requires.served;
}

pub returns-in-Ok-clause-wants : goal.returns-in-Ok-clause-wants
returns-in-Ok-clause-wants c = λ items said s.
    wants_found c.args.node.now.setup (reverse c.args.node.now.history) c.args.who items said
    c.in-Ok.event c.args.conn.now c.want.new.self c.want.ensures.stage c.in-Ok.ensures.ok s

pub returns-in-Err-clause-wants : goal.returns-in-Err-clause-wants
returns-in-Err-clause-wants c = λ items said s.
    inr (given_cut c.args.node.now c.close.new.node c.args.who items said c.args.conn.now
    c.want.new.self c.give_up.new.self c.close.new.conn
    (runs_on c.args.conn.now.progress c.in-Err.ensures.over) c.in-Err.ensures.err
    c.in-Err.ensures.again c.want.ensures.stage c.give_up.ensures.stands c.give_up.ensures.left
    c.close.ensures.closes s)
