use Rattle.std.proofs.Common.{sym, subst}
use Rattle.std.proofs.lemmas.Result.{on_err_weaker}
use Rattle.stack_assoc.specs.Courses.{Course, CourseStands}
use Rattle.stack_assoc.proofs.Results.{if_ok_weaker}
use Rattle.stack_assoc.proofs.StepsTaken.{begun, untold_then, fewer_then}
use Rattle.stack_assoc.proofs.stack.Stack.take.Goals as goal

pub returns-in-Message-clause-ok : goal.returns-in-Message-clause-ok
returns-in-Message-clause-ok c = λ role octets told s.
    let t = rw c.in-Message.is at c.in_ok-came.ensures.ok role octets told s c.requires in
    c.take_behind.ensures.ok role octets told t.stands (begun c.args.self.now c.take_one.new.self t.taken)

pub returns-in-Message-clause-kept : goal.returns-in-Message-clause-kept
returns-in-Message-clause-kept c = λ role octets told s.
    let t = rw c.in-Message.is at c.in_ok-came.ensures.ok role octets told s c.requires in
    let P : Course → Type 0 = λ v. CourseStands role octets told v in
    on_err_weaker c.take_behind.result (λ same. subst P (sym same) t.stands) c.take_behind.ensures.err

pub returns-in-Message-clause-untold : goal.returns-in-Message-clause-untold
returns-in-Message-clause-untold c =
    untold_then c.args.self.now c.take_one.new.self c.take_behind.new.self c.in_ok-came.ensures.untold c.take_behind.ensures.untold

pub returns-in-Message-clause-fewer : goal.returns-in-Message-clause-fewer
returns-in-Message-clause-fewer c =
    let f = rw c.in-Message.is at c.in_ok-came.ensures.fewer in
    if_ok_weaker _ _ c.take_behind.result
    (λ came more. fewer_then c.args.self.now c.take_one.new.self c.take_behind.new.self came f more)
    c.take_behind.ensures.fewer
