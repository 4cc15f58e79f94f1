use Rattle.std.proofs.Common.{sym, ap, ◌∙◌}
use Rattle.std.specs.Str.Lines.{lines}
use Rattle.centre_client.specs.NumberedLines.{numbered_from}
use Rattle.centre_client.specs.Scripts.{steps_in, script_of}
use Rattle.centre_client.proofs.LineFaultsMet.{fault-err, fault-steps, fault-script}
use Rattle.centre_client.proofs.script.read_behind.Goals as goal

pub returns-in-Some-clause-read : goal.returns-in-Some-clause-read
returns-in-Some-clause-read c =
    let rows = c.args.centre.now in
    let texts = numbered_from c.args.number (lines c.args.text.now) in
    sym (ap (script_of c.args.peer) (fault-err (steps_in rows c.args.peer texts) c.in-Some.fault
    (sym (fault-steps rows c.args.peer texts) ∙ sym c.first_fault.ensures ∙ c.in-Some.is)))

pub returns-in-None-clause-memory : goal.returns-in-None-clause-memory
returns-in-None-clause-memory c = λ lack.
    let rows = c.args.centre.now in
    let texts = numbered_from c.args.number (lines c.args.text.now) in
    fault-script c.args.peer (steps_in rows c.args.peer texts)
    ∙ sym (fault-steps rows c.args.peer texts) ∙ sym c.first_fault.ensures ∙ c.in-None.is
