use Rattle.std.proofs.Common.{ℕ, List, sym, ap, ◌∙◌}
use Rattle.std.specs.Str.Lines.{lines}
use Rattle.centre_client.specs.declared.script.Step.{Step}
use Rattle.centre_client.specs.NumberedLines.{NumberedLine, numbered_from, number_after}
use Rattle.centre_client.specs.Scripts.{steps_in}
use Rattle.centre_client.proofs.FirstErrors.{in_front}
use Rattle.centre_client.proofs.Spelled.{step-taken}
use Rattle.centre_client.proofs.script.read_steps.Goals as goal

pub loop-line-preserved : goal.loop-line-preserved
loop-line-preserved c =
    let rows = c.args.centre.now in
    let peer = c.args.peer in
    let rest = lines c.in-Some.line.rest.now in
    let line : NumberedLine =
    record { number = c.in-Some.line.number; text = c.in-Some.line.text.now } in
    let more = numbered_from (number_after c.in-Some.line.number) rest in
    c.loop-line.invariant
    ∙ ap (λ (texts : List NumberedLine). in_front c.loop-line.steps (steps_in rows peer texts))
    c.in-Some.ensures.some
    ∙ step-taken rows peer line c.in-Ok.kind c.loop-line.steps more
    (sym c.in_ok-kind.ensures ∙ c.in-Ok.is)
    ∙ ap (λ (steps : List Step). in_front steps (steps_in rows peer more))
    (sym c.in_ok-push-in-Ok.ensures.ok)
    ∙ ap (λ (n : ℕ). in_front c.push.new.self (steps_in rows peer (numbered_from n rest)))
    (sym c.next_number-next.ensures)
