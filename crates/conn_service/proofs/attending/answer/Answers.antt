use Rattle.std.proofs.Common.{reverse, refl, inl, inr}
use Rattle.conn_service.proofs.Going.{asking_told, asking_placed, asking_refused}
use Rattle.conn_service.proofs.Memory.{unnoted_cut, unnoted_parting, unnoted_free, stays_placed}
use Rattle.conn_service.proofs.Refused.{refused_cut, parting_on}
use Rattle.conn_service.proofs.TooLong.{told_on, told_parting}
use Rattle.conn_service.proofs.attending.answer.Goals as goal

-- the node has answered
pub tell-requires-clause-right : goal.tell-requires-clause-right
tell-requires-clause-right c = asking_told c.args.node.now.setup (reverse c.args.node.now.history)
    c.args.who c.args.event c.in-Ok.answer c.args.conn.now c.requires.waits c.in-Ok.ensures.right

pub tell-requires-clause-placed : goal.tell-requires-clause-placed
tell-requires-clause-placed c = asking_placed c.args.node.now.setup.centre
    (reverse c.args.node.now.history) c.args.who c.args.event c.args.conn.now c.requires.waits

pub returns-in-Ok-tell-clause-answers : goal.returns-in-Ok-tell-clause-answers
returns-in-Ok-tell-clause-answers c = λ items said s.
    told_on c.goes_on.result c.args.node.now c.step.new.self c.goes_on.new.node c.args.who items
    said c.args.event c.in-Ok.answer c.args.conn.now c.tell.new.self c.goes_on.new.conn
    c.in-Ok.ensures.ok c.in-Ok.ensures.right c.tell.ensures.stands c.in-Ok-tell.ensures.told
    c.goes_on.ensures.goes s

pub goes_on-requires : goal.goes_on-requires
goes_on-requires c = record {
  left = told_parting c.args.node.now c.step.new.self c.args.who c.args.event c.in-Ok.answer
      c.args.conn.now c.tell.new.self c.in-Ok.ensures.ok c.in-Ok.ensures.right
      c.tell.ensures.stands c.in-Ok-tell.ensures.told c.requires.waits;
}

-- and memory was wanting for what is said
pub give_up-requires-clause-free : goal.give_up-requires-clause-free
give_up-requires-clause-free c =
    unnoted_free c.in-Ok.answer c.args.conn.now c.tell.new.self c.in-Err-tell.ensures.err

pub give_up-requires-clause-placed : goal.give_up-requires-clause-placed
give_up-requires-clause-placed c = stays_placed c.args.node.now.setup.centre
    (reverse c.args.node.now.history) c.args.who c.args.event c.args.conn.now c.tell.new.self
    c.tell.ensures.stands c.requires.waits

pub close-requires : goal.close-requires
close-requires c = record {
  left = unnoted_parting c.args.node.now c.step.new.self c.args.who c.args.event c.in-Ok.answer
      c.args.conn.now c.tell.new.self c.give_up.new.self c.in-Ok.ensures.ok c.in-Ok.ensures.right
      c.in-Err-tell.ensures.err c.tell.ensures.stands c.give_up.ensures.stands
      c.give_up.ensures.left c.requires.waits;
}

pub returns-in-Err-tell-clause-answers : goal.returns-in-Err-tell-clause-answers
returns-in-Err-tell-clause-answers c = λ items said s.
    inr (
      c.in-Ok.ensures.right.0,
      unnoted_cut c.args.node.now c.step.new.self c.close.new.node c.args.who items said
          c.args.event c.in-Ok.answer c.args.conn.now c.tell.new.self c.give_up.new.self
          c.close.new.conn c.in-Ok.ensures.ok c.in-Ok.ensures.right c.in-Err-tell.ensures.err
          c.tell.ensures.stands c.give_up.ensures.stands c.give_up.ensures.left
          c.close.ensures.closes s,
    )

-- it has refused the event
pub tell-told-requires-clause-right : goal.tell-told-requires-clause-right
tell-told-requires-clause-right c = asking_refused c.args.node.now.setup
    (reverse c.args.node.now.history) c.args.who c.args.event c.in-Err.fault c.args.conn.now
    c.requires.waits c.in-Err.ensures.right

pub tell-told-requires-clause-placed : goal.tell-told-requires-clause-placed
tell-told-requires-clause-placed c = asking_placed c.args.node.now.setup.centre
    (reverse c.args.node.now.history) c.args.who c.args.event c.args.conn.now c.requires.waits

pub close-requires-in-Err : goal.close-requires-in-Err
close-requires-in-Err c = record {
  left = parting_on c.args.node.now c.step.new.self c.args.who c.args.event c.in-Err.fault
      c.args.conn.now c.tell-told.new.self c.in-Err.ensures.err c.in-Err.ensures.right
      c.tell-told.ensures.stands (c.tell-told.ensures.refused c.in-Err.fault refl)
      c.requires.waits;
}

pub returns-in-Err-clause-answers : goal.returns-in-Err-clause-answers
returns-in-Err-clause-answers c = λ items said s.
    inl (refused_cut c.args.node.now c.step.new.self c.close-in-Err.new.node c.args.who items said
    c.args.event c.in-Err.fault c.args.conn.now c.tell-told.new.self c.close-in-Err.new.conn
    c.in-Err.ensures.err c.in-Err.ensures.right
    c.tell-told.ensures.stands (c.tell-told.ensures.refused c.in-Err.fault refl)
    c.close-in-Err.ensures.closes s)
