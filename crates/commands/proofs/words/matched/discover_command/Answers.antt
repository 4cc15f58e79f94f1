use Rattle.std.proofs.Common.{◌≡◌, ◌∙◌, ap, codes, rules}
use Rattle.std.proofs.lemmas.Result.{IfOk-weaker}
use Rattle.clap.specs.Words.{app_of, new_app}
use Rattle.commands.specs.Words.Matched.{with_option, with_positional}
use Rattle.commands.proofs.words.matched.discover_command.Goals as goal

pub returns : goal.returns
returns c =
    let start : app_of c.new-command.result ≡ new_app (codes "discover") = search rules in
    let step_1 : app_of c.in_ok-command.command
    ≡ with_positional (codes "TABLES") (app_of c.new-command.result) = search rules in
    let so_1 = step_1 ∙ ap (with_positional (codes "TABLES")) start in
    let step_2 : app_of c.in_ok-command-2.command
    ≡ with_positional (codes "KEY") (app_of c.in_ok-command.command) = search rules in
    let so_2 = step_2 ∙ ap (with_positional (codes "KEY")) so_1 in
    IfOk-weaker c.with_option.result _ _
    (λ more h. h ∙ ap (with_option (codes "connect")) so_2)
    c.with_option.ensures
