-- Both laws follow from the name that was read being the text's.
use Rattle.std.proofs.Common.{◌≡◌, None, IfOk, ap, ◌∙◌, arith, rules}
use Rattle.std.proofs.lemmas.Grind.{common_steps}
use Rattle.mms_data.specs.Text.NameIn.{name_in}
use Rattle.mms_data.proofs.OfText.ReadName.{found_from_exact, only_from_exact, name_in-name_text}
use Rattle.mms_data.proofs.text.name_text.read_name.Goals as goal

pub returns-in-Some-clause-found : goal.returns-in-Some-clause-found
returns-in-Some-clause-found c =
    let exact : IfOk c.read_parts.result
    (λ name. name ≡ name_in c.args.text.now) = grind (arith, common_steps) in
    found_from_exact c.read_parts.result c.args.text.now exact

pub returns-in-Some-clause-only : goal.returns-in-Some-clause-only
returns-in-Some-clause-only c =
    let exact : IfOk c.read_parts.result
    (λ name. name ≡ name_in c.args.text.now) = grind (arith, common_steps) in
    only_from_exact c.read_parts.result c.args.text.now exact

pub returns-in-None-clause-only : goal.returns-in-None-clause-only
returns-in-None-clause-only c n is_name e =
    let exact : None ≡ name_in c.args.text.now = search rules in
    exact ∙ ap name_in e ∙ name_in-name_text n is_name
