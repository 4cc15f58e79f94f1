use Rattle.server_main.proofs.OfRun.TakenBack.{seat-back}
use Rattle.server_main.proofs.run.starting.join_again.Goals as goal

pub returns-clause-back : goal.returns-clause-back
returns-clause-back c = seat-back c.args.shared.now c.args.seat.now c.join.new.seat c.args.other
    c.requires.fresh c.requires.front c.join.ensures.of c.join.ensures.longer c.join.ensures.ended
