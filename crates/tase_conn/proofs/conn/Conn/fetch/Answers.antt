use Rattle.std.proofs.Common.{◌≡◌, ◌∙◌, ℕ, List, sym, ap, Result, Option, Ok}
use Rattle.std.proofs.lemmas.Result.{err_from_is_err_and}
use Rattle.stack_assoc.specs.declared.messages.fault.StackFault.{StackFault}
use Rattle.stack_assoc.specs.declared.input.StackIn.{StackIn}
use Rattle.stack_assoc.specs.Arrivals.{called}
use Rattle.tase_conn.specs.Map.Inputs.{text_given}
use Rattle.tase_conn.specs.contracts.conn.Conn.{the_view}
use Rattle.tase_conn.proofs.Fetched.{fetched_by, passes_fetched, lighter_fetched}
use Rattle.tase_conn.proofs.Fetched.{stands_again}
use Rattle.tase_conn.proofs.conn.Conn.fetch.Goals.{in-Ok-Some, in-Ok-None, in-Err}
use Rattle.tase_conn.proofs.conn.Conn.fetch.Goals as goal

-- it is as what the stack has answered makes it
fetched_now : (c : goal.Joined-branch-2)
    → c.match-branch-2.self
    ≡ fetched_by c.in_ok-input.field-0 c.next.new.self c.next.new.out.items
    (the_view c.self.inside)
fetched_now c =
    let by = λ (answer : Result (Option StackIn) StackFault).
    fetched_by answer c.next.new.self c.next.new.out.items (the_view c.self.inside) in
    elim c.match-branch-2.branch [
      | in-Ok-Some w ↦ w.self-is ∙ w.hold.ensures
          ∙ ap by (sym (w.in-Ok-Some.is
          ∙ ap (λ (o : Option StackIn). Ok o) w.in-Ok-Some.field-0-is))
      | in-Ok-None w ↦ w.self-is ∙ w.hold_behind.ensures
          ∙ ap by (sym (w.in-Ok-None.is
          ∙ ap (λ (o : Option StackIn). Ok o) w.in-Ok-None.field-0-is))
      | in-Err w ↦ w.self-is ∙ w.hold_fault.ensures ∙ ap by (sym w.in-Err.is)
    ]

pub returns-clause-ok : goal.returns-clause-ok
returns-clause-ok c = λ rows items told turns s.
    passes_fetched rows items told turns c.in_ok-input.field-0 (the_view c.self.inside)
    c.args.self.now c.match-branch-2.self c.next.new.self c.next.new.out.items c.self.view_is
    c.requires.idle c.requires.empty c.requires.more s c.in_ok-input.ensures.broken
    (λ stands. c.in_ok-input.ensures.ok called (text_given items) told stands) (fetched_now c)

pub returns-clause-shorter : goal.returns-clause-shorter
returns-clause-shorter c =
    lighter_fetched c.in_ok-input.field-0 (the_view c.self.inside) c.args.self.now
    c.match-branch-2.self c.next.new.self c.next.new.out.items c.self.view_is c.requires.empty
    c.requires.more c.in_ok-input.ensures.shorter (fetched_now c)

pub returns-in_err-input-clause-err : goal.returns-in_err-input-clause-err
returns-in_err-input-clause-err c =
    let p = err_from_is_err_and c.from_residual.result c.from_residual.ensures.1 in
    let view = the_view c.self.inside in
    rw p.1 (λ rows items told turns s. stands_again rows items told turns view c.args.self.now _
    c.next.new.self c.self.view_is c.requires.idle c.requires.empty c.requires.more s
    (λ stands. c.in_err-input.ensures.kept called (text_given items) told stands)
    c.in_err-input.ensures.stays c.in_err-input.ensures.state
    (ap (λ (out : List ℕ). record view { course = c.next.new.self; out = out })
    c.in_err-input.ensures.out))
