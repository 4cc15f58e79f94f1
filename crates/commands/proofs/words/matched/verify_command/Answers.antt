use Rattle.std.proofs.Common.{◌≡◌, ◌∙◌, ap, codes, rules}
use Rattle.std.proofs.lemmas.Result.{IfOk-weaker}
use Rattle.clap.specs.Words.{app_of, new_app}
use Rattle.commands.specs.Words.Matched.{with_positional}
use Rattle.commands.proofs.words.matched.verify_command.Goals as goal

pub returns : goal.returns
returns c =
    let start : app_of c.new-command.result ≡ new_app (codes "verify") = search rules in
    let step_1 : app_of c.in_ok-command.command
    ≡ with_positional (codes "TABLES") (app_of c.new-command.result) = search rules in
    let so_1 = step_1 ∙ ap (with_positional (codes "TABLES")) start in
    let step_2 : app_of c.in_ok-command-2.command
    ≡ with_positional (codes "JOURNAL") (app_of c.in_ok-command.command) = search rules in
    let so_2 = step_2 ∙ ap (with_positional (codes "JOURNAL")) so_1 in
    let step_3 : app_of c.in_ok-command-3.command
    ≡ with_positional (codes "KEY") (app_of c.in_ok-command-2.command) = search rules in
    let so_3 = step_3 ∙ ap (with_positional (codes "KEY")) so_2 in
    let step_4 : app_of c.in_ok-command-4.command
    ≡ with_positional (codes "ORDINAL") (app_of c.in_ok-command-3.command) = search rules in
    let so_4 = step_4 ∙ ap (with_positional (codes "ORDINAL")) so_3 in
    let step_5 : app_of c.in_ok-command-5.command
    ≡ with_positional (codes "IN") (app_of c.in_ok-command-4.command) = search rules in
    let so_5 = step_5 ∙ ap (with_positional (codes "IN")) so_4 in
    IfOk-weaker c.with_positional-6.result _ _
    (λ more h. h ∙ ap (with_positional (codes "OUT")) so_5)
    c.with_positional-6.ensures
