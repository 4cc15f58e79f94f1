use Rattle.std.proofs.Common.{refl, sym, subst, ◌∙◌}
use Rattle.std.specs.Prelude.{Result, IsErr}
use Rattle.tase_verify.specs.declared.association.account.Account.{Account}
use Rattle.tase_verify.specs.declared.association.account.AccountError.{AccountError}
use Rattle.tase_verify.proofs.OfAssociation.Checked.{check_of, stray_compared}
use Rattle.tase_verify.proofs.association.check.check_association.Goals as goal

pub returns-in-Ok-clause-account : goal.returns-in-Ok-clause-account
returns-in-Ok-clause-account c =
    check_of c.args.centre.now c.args.answered.now c.args.octets.now c.args.ended
    c.in-Ok.compared c.in-Ok.ensures c.account_for.result c.account_for.ensures.account

pub returns-in-Ok-clause-memory : goal.returns-in-Ok-clause-memory
returns-in-Ok-clause-memory c = λ setup past key same are lack.
    stray_compared c.args.centre.now c.args.answered.now c.args.octets.now c.args.ended
    c.in-Ok.compared c.in-Ok.ensures setup past key same are
    ∙ c.account_for.ensures.memory
    (subst (λ (found : Result Account AccountError). IsErr found) (sym lack) refl)

pub returns-in-Err-clause-memory : goal.returns-in-Err-clause-memory
returns-in-Err-clause-memory c = λ setup past key same are lack. absurd cc
