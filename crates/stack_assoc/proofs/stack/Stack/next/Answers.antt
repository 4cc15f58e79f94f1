use Rattle.std.proofs.Common.{◌≡◌, ◌++◌, OnSome, IfOk, ◌<◌, ◌∙◌, refl, sym, ap}
use Rattle.std.proofs.Common.{Ok, Err}
use Rattle.std.proofs.lemmas.Result.{err_from_is_err_and}
use Rattle.stack_assoc.specs.declared.messages.fault.StackFault.{StackFault}
use Rattle.stack_assoc.specs.Knowing.{expecting_by}
use Rattle.stack_assoc.specs.Taking.{owed_octets}
use Rattle.stack_assoc.specs.Courses.{Course, CourseStands, IsNextAnswer, is_offered, stack_state_of}
use Rattle.stack_assoc.specs.Courses.{FollowsAnswer, fault_in}
use Rattle.stack_assoc.specs.Steps.{left_of, told_with, told_answer}
use Rattle.stack_assoc.proofs.Answered.{answered}
use Rattle.stack_assoc.proofs.Nexts.{next_right, answers_again, answers_offered}
use Rattle.stack_assoc.proofs.Shorter.{less_left}
use Rattle.stack_assoc.proofs.Standings.{told_follows, told_fault, same_fault, no_fault}
use Rattle.stack_assoc.proofs.StepsTaken.{untold_state}
use Rattle.stack_assoc.proofs.Results.{told_done, kept_done, out_done}
use Rattle.stack_assoc.proofs.stack.Stack.next.Goals as goal

pub returns-in-Some-clause-ok : goal.returns-in-Some-clause-ok
returns-in-Some-clause-ok c = λ role octets told s.
    answers_again role octets told c.args.self.now c.args.out.now.items c.in-Some.fault
    (ap (λ (v : Course). v.fault) (sym c.self.view_is) ∙ c.in-Some.is) s

pub returns-then-is_offered-clause-ok : goal.returns-then-is_offered-clause-ok
returns-then-is_offered-clause-ok c = λ role octets told s.
    answers_offered role octets told c.args.self.now c.args.out.now.items
    (ap (λ (v : Course). is_offered v.standing) (sym c.self.view_is)
    ∙ sym c.is_offered.ensures ∙ c.if-is_offered.true) s

pub returns-in_err-said-clause-kept : goal.returns-in_err-said-clause-kept
returns-in_err-said-clause-kept c = λ role octets told s.
    let p = err_from_is_err_and c.from_residual-in_err-said.result
    c.from_residual-in_err-said.ensures.1 in
    rw p.1 (c.in_ok-came.ensures.ok role octets told s).stands

pub returns-clause-ok : goal.returns-clause-ok
returns-clause-ok c = λ role octets told s.
    let v = c.take.new.self in
    let came = c.in_ok-came.came in
    let said = c.in_ok-said.said in
    let right = c.args.out.now.items ++ owed_octets v.known.side v.owed v.setup.size v.title in
    told_done (λ answer new written. IsNextAnswer role octets told c.args.self.now
    c.args.out.now.items answer new written) c.answer-done.result c.tell_once.result
    (told_answer came said) (answered v) c.answer-done.new.self c.tell_once.new.self (told_with came said)
    c.answer-done.new.out.items right c.answer-done.ensures.ok c.answer-done.ensures.out
    c.tell_once.ensures.course c.tell_once.ensures.answer c.tell_once.ensures.memory
    (next_right role octets told c.args.self.now v c.args.out.now.items right came said
    (c.in_ok-came.ensures.untold.fault
    ∙ ap (λ (x : Course). x.fault) (sym c.self.view_is) ∙ c.in_default.is)
    c.in_ok-came.ensures.untold.standing
    (ap (λ (x : Course). is_offered x.standing) (sym c.self.view_is)
    ∙ sym c.is_offered.ensures ∙ c.if-is_offered.false)
    (c.in_ok-came.ensures.ok role octets told s) refl c.in_ok-said.ensures.says)

pub returns-clause-shorter : goal.returns-clause-shorter
returns-clause-shorter c =
    let v = c.take.new.self in
    let came = c.in_ok-came.came in
    let said = c.in_ok-said.said in
    told_done (λ answer new written. IfOk answer (λ input. OnSome input
    (left_of new < left_of c.args.self.now))) c.answer-done.result c.tell_once.result
    (told_answer came said) (answered v) c.answer-done.new.self c.tell_once.new.self (told_with came said)
    c.answer-done.new.out.items _ c.answer-done.ensures.ok c.answer-done.ensures.out
    c.tell_once.ensures.course c.tell_once.ensures.answer c.tell_once.ensures.memory
    (less_left c.args.self.now v came said (expecting_by v.known v.setup.acse v.setup.mms)
    c.in_ok-came.ensures.fewer c.in_ok-came.ensures.empty c.in_ok-said.ensures.says)

pub returns-clause-kept : goal.returns-clause-kept
returns-clause-kept c = λ role octets told s.
    kept_done (λ v. CourseStands role octets told v) c.answer-done.result c.tell_once.result
    (told_answer c.in_ok-came.came c.in_ok-said.said) c.take.new.self c.answer-done.new.self
    c.tell_once.new.self c.tell_once.ensures.answer c.answer-done.ensures.err c.tell_once.ensures.same
    (c.in_ok-came.ensures.ok role octets told s).stands

pub returns-clause-state : goal.returns-clause-state
returns-clause-state c =
    kept_done (λ v. stack_state_of v ≡ stack_state_of c.args.self.now) c.answer-done.result c.tell_once.result
    (told_answer c.in_ok-came.came c.in_ok-said.said) c.take.new.self c.answer-done.new.self
    c.tell_once.new.self c.tell_once.ensures.answer c.answer-done.ensures.err c.tell_once.ensures.same
    (untold_state c.args.self.now c.take.new.self c.in_ok-came.ensures.untold)

pub returns-clause-out : goal.returns-clause-out
returns-clause-out c = out_done c.answer-done.result c.tell_once.result
    (told_answer c.in_ok-came.came c.in_ok-said.said) c.answer-done.new.out.items c.args.out.now.items
    c.tell_once.ensures.answer c.answer-done.ensures.same

pub returns-clause-standing : goal.returns-clause-standing
returns-clause-standing c =
    let v = c.take.new.self in
    let came = c.in_ok-came.came in
    let said = c.in_ok-said.said in
    told_done (λ answer new written. FollowsAnswer answer c.args.self.now.standing new.standing)
    c.answer-done.result c.tell_once.result (told_answer came said) (answered v) c.answer-done.new.self
    c.tell_once.new.self (told_with came said) c.answer-done.new.out.items _ c.answer-done.ensures.ok
    c.answer-done.ensures.out c.tell_once.ensures.course c.tell_once.ensures.answer
    c.tell_once.ensures.memory
    (told_follows c.args.self.now.standing v came said c.in_ok-came.ensures.untold.standing)

pub returns-clause-broken : goal.returns-clause-broken
returns-clause-broken c =
    let v = c.take.new.self in
    let came = c.in_ok-came.came in
    let said = c.in_ok-said.said in
    told_done (λ answer new written. new.fault ≡ fault_in answer)
    c.answer-done.result c.tell_once.result (told_answer came said) (answered v) c.answer-done.new.self
    c.tell_once.new.self (told_with came said) c.answer-done.new.out.items _ c.answer-done.ensures.ok
    c.answer-done.ensures.out c.tell_once.ensures.course c.tell_once.ensures.answer
    c.tell_once.ensures.memory
    (told_fault v came said (c.in_ok-came.ensures.untold.fault
    ∙ ap (λ (x : Course). x.fault) (sym c.self.view_is) ∙ c.in_default.is))

pub returns-clause-stays : goal.returns-clause-stays
returns-clause-stays c =
    kept_done (λ v. v.standing ≡ c.args.self.now.standing) c.answer-done.result c.tell_once.result
    (told_answer c.in_ok-came.came c.in_ok-said.said) c.take.new.self c.answer-done.new.self
    c.tell_once.new.self c.tell_once.ensures.answer c.answer-done.ensures.err c.tell_once.ensures.same
    c.in_ok-came.ensures.untold.standing

pub returns-in-Some-clause-again : goal.returns-in-Some-clause-again
returns-in-Some-clause-again c = λ f e.
    ap (λ (x : StackFault). Ok (Err x)) (same_fault c.args.self.now.fault c.in-Some.fault f
    (ap (λ (v : Course). v.fault) (sym c.self.view_is) ∙ c.in-Some.is) e)

pub returns-then-is_offered-clause-again : goal.returns-then-is_offered-clause-again
returns-then-is_offered-clause-again c = λ f e.
    absurd (no_fault c.args.self.now.fault f
    (ap (λ (v : Course). v.fault) (sym c.self.view_is) ∙ c.in_default.is) e)

pub returns-in_err-came-clause-again : goal.returns-in_err-came-clause-again
returns-in_err-came-clause-again c = λ f e.
    absurd (no_fault c.args.self.now.fault f
    (ap (λ (v : Course). v.fault) (sym c.self.view_is) ∙ c.in_default.is) e)

pub returns-in_err-said-clause-again : goal.returns-in_err-said-clause-again
returns-in_err-said-clause-again c = λ f e.
    absurd (no_fault c.args.self.now.fault f
    (ap (λ (v : Course). v.fault) (sym c.self.view_is) ∙ c.in_default.is) e)

pub returns-clause-again : goal.returns-clause-again
returns-clause-again c = λ f e.
    absurd (no_fault c.args.self.now.fault f
    (ap (λ (v : Course). v.fault) (sym c.self.view_is) ∙ c.in_default.is) e)
