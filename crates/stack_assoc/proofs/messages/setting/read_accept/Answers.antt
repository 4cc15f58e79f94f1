use Rattle.std.proofs.Common.{ℕ, Option, subst}
use Rattle.presentation_profile.specs.declared.expected.Expected.TheVariants as expects
use Rattle.stack_assoc.specs.Messages.Meanings.{IsReadAs}
use Rattle.stack_assoc.specs.Messages.Layers.{ppdu_at}
use Rattle.stack_assoc.specs.Messages.Setting.{accept_at}
use Rattle.stack_assoc.proofs.OfMessages.Exact.{inside-goes, inside-stops}
use Rattle.stack_assoc.proofs.messages.setting.read_accept.Goals as goal

pub returns-in-Ok : goal.returns-in-Ok
unfolding accept_at
returns-in-Ok c =
    let read = subst (λ (id : Option ℕ). IsReadAs (ppdu_at (expects.Accept id)
    c.args.tsdu.now c.args.body) c.in_ok-ppdu.field-0) c.offered_by.ensures
    c.in_ok-ppdu.ensures.exact in
    inside-goes _ _ c.in-Ok.ppdu c.in_ok-ppdu.field-0 c.read_results.result c.in-Ok.is read
    c.read_results.ensures

pub returns-in-Err : goal.returns-in-Err
unfolding accept_at
returns-in-Err c =
    let read = subst (λ (id : Option ℕ). IsReadAs (ppdu_at (expects.Accept id)
    c.args.tsdu.now c.args.body) c.in_ok-ppdu.field-0) c.offered_by.ensures
    c.in_ok-ppdu.ensures.exact in
    inside-stops _ _ c.in-Err.fault c.in_ok-ppdu.field-0 c.in-Err.is read
