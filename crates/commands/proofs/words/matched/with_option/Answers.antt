use Rattle.std.proofs.Common.{◌≡◌, ◌∙◌, ap, false, rules}
use Rattle.std.proofs.lemmas.Result.{IfOk-weaker}
use Rattle.clap.specs.Words.{Rule, app_of, rule_of, with_rule}
use Rattle.commands.specs.Words.Matched.{option_rule}
use Rattle.commands.proofs.words.matched.with_option.Goals as goal

pub returns : goal.returns
returns c =
    let made : rule_of c.long-option.result ≡ option_rule c.args.name.now = search rules in
    let local : c.long-option.result.global ≡ false = search rules in
    IfOk-weaker c.arg.result _ _
    (λ more h. h.shape local ∙ ap (λ (r : Rule). with_rule (app_of c.args.command) r) made)
    c.arg.ensures
