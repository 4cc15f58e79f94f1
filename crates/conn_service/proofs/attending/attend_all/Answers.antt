use Rattle.std.proofs.Common.{◌<◌, reverse, Bool, true, false, Option, Some}
use Rattle.std.proofs.Common.{refl, sym, subst, ◌∙◌}
use Rattle.tase_views.specs.Setup.{Setup}
use Rattle.tase_views.specs.declared.event.EventKind.{EventKind}
use Rattle.conn_service.specs.Attending.{IsServed, IsAsking, remaining}
use Rattle.conn_service.proofs.Wanted.{WantedSo, AnswersSo}
use Rattle.conn_service.proofs.Attended.{goes_first, asking_of, served_on, wanted_less, goes_on}
use Rattle.conn_service.proofs.Attended.{stops_so, through_so}
use Rattle.conn_service.proofs.attending.attend_all.Goals as goal

pub loop-event-init : goal.loop-event-init
loop-event-init c = record {
  served = c.requires.served;
  setup = refl;
  goes = λ items said s. goes_first c.args.node.now.setup (reverse c.args.node.now.history)
      c.args.who items said c.args.conn.now s;
}

pub answer-requires : goal.answer-requires
answer-requires c = record {
  waits = subst (λ (x : Setup). IsAsking x.centre (reverse c.wanted.new.node.history) c.args.who
      c.in-Some.event c.wanted.new.conn) (sym c.wanted.ensures.setup)
      (asking_of c.loop-event.node.setup (reverse c.loop-event.node.history)
      (reverse c.wanted.new.node.history) c.args.who c.in-Some.event c.loop-event.conn
      c.wanted.new.conn c.loop-event.invariant.served c.in-Some.ensures.wants);
}

pub loop-event-preserved : goal.loop-event-preserved
loop-event-preserved c =
    let setup = c.loop-event.node.setup in
    let past = reverse c.loop-event.node.history in
    let next = reverse c.wanted.new.node.history in
    let after = reverse c.answer.new.node.history in
    let event = c.in-Some.event in
    let wants : WantedSo setup past c.args.who c.loop-event.conn (Some event) next
    c.wanted.new.conn = c.in-Some.ensures.wants in
    let answers : AnswersSo setup next c.args.who event c.wanted.new.conn true after
    c.answer.new.conn =
    subst (λ (x : Setup). AnswersSo x next c.args.who event c.wanted.new.conn true after
    c.answer.new.conn) c.wanted.ensures.setup
    (subst (λ (b : Bool). AnswersSo c.wanted.new.node.setup next c.args.who event c.wanted.new.conn
    b after c.answer.new.conn) c.if-not-answer.false c.answer.ensures.answers) in
    let same = c.answer.ensures.setup ∙ c.wanted.ensures.setup in
    record {
      served = subst (λ (x : Setup). IsServed x.centre after c.args.who c.answer.new.conn) (sym same)
          (served_on setup next after c.args.who event c.wanted.new.conn c.answer.new.conn
          (asking_of setup past next c.args.who event c.loop-event.conn c.wanted.new.conn
          c.loop-event.invariant.served wants) answers);
      setup = same ∙ c.loop-event.invariant.setup;
      goes = goes_on c.args.node.now.setup setup (reverse c.args.node.now.history) past next after
          c.args.who event c.args.conn.now c.loop-event.conn c.wanted.new.conn c.answer.new.conn
          c.loop-event.invariant.setup c.loop-event.invariant.goes wants answers;
    }

pub loop-event-smaller : goal.loop-event-smaller
loop-event-smaller c =
    let setup = c.loop-event.node.setup in
    let past = reverse c.loop-event.node.history in
    let next = reverse c.wanted.new.node.history in
    let after = reverse c.answer.new.node.history in
    let event = c.in-Some.event in
    let wants : WantedSo setup past c.args.who c.loop-event.conn (Some event) next
    c.wanted.new.conn = c.in-Some.ensures.wants in
    let answers : AnswersSo setup next c.args.who event c.wanted.new.conn true after
    c.answer.new.conn =
    subst (λ (x : Setup). AnswersSo x next c.args.who event c.wanted.new.conn true after
    c.answer.new.conn) c.wanted.ensures.setup
    (subst (λ (b : Bool). AnswersSo c.wanted.new.node.setup next c.args.who event c.wanted.new.conn
    b after c.answer.new.conn) c.if-not-answer.false c.answer.ensures.answers) in
    subst (λ (x : Setup). remaining x after c.args.who < remaining setup past c.args.who)
    (sym (c.answer.ensures.setup ∙ c.wanted.ensures.setup))
    (wanted_less setup past next after c.args.who event c.loop-event.conn c.wanted.new.conn
    c.answer.new.conn c.loop-event.invariant.served wants answers)

pub returns-then-not-answer-clause-attended : goal.returns-then-not-answer-clause-attended
returns-then-not-answer-clause-attended c =
    let setup = c.loop-event.node.setup in
    let next = reverse c.wanted.new.node.history in
    let after = reverse c.answer.new.node.history in
    let event = c.in-Some.event in
    let answers : AnswersSo setup next c.args.who event c.wanted.new.conn false after
    c.answer.new.conn =
    subst (λ (x : Setup). AnswersSo x next c.args.who event c.wanted.new.conn false after
    c.answer.new.conn) c.wanted.ensures.setup
    (subst (λ (b : Bool). AnswersSo c.wanted.new.node.setup next c.args.who event c.wanted.new.conn
    b after c.answer.new.conn) c.if-not-answer.true c.answer.ensures.answers) in
    stops_so c.args.node.now.setup setup (reverse c.args.node.now.history)
    (reverse c.loop-event.node.history) next after c.args.who event c.args.conn.now
    c.loop-event.conn c.wanted.new.conn c.answer.new.conn c.loop-event.invariant.setup
    c.loop-event.invariant.goes c.in-Some.ensures.wants answers

pub returns-clause-attended : goal.returns-clause-attended
returns-clause-attended c =
    through_so c.args.node.now.setup c.loop-event.node.setup (reverse c.args.node.now.history)
    (reverse c.loop-event.node.history) (reverse c.wanted.new.node.history) c.args.who
    c.args.conn.now c.loop-event.conn c.wanted.new.conn c.loop-event.invariant.setup
    c.loop-event.invariant.goes (subst (λ (e : Option EventKind). WantedSo c.loop-event.node.setup
    (reverse c.loop-event.node.history) c.args.who c.loop-event.conn e
    (reverse c.wanted.new.node.history) c.wanted.new.conn) c.in_default.is c.wanted.ensures.wants)
