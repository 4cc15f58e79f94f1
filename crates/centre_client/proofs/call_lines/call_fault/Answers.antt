use Rattle.std.proofs.Common.{ap, ◌∙◌}
use Rattle.plain_text.specs.Words.{words}
use Rattle.centre_client.specs.SketchFaults.{sketch_why}
use Rattle.centre_client.proofs.LineFaultsMet.{call-fault}
use Rattle.centre_client.proofs.call_lines.call_fault.Goals as goal

pub returns : goal.returns
returns c =
    c.sketch_fault.ensures ∙ ap sketch_why c.read_sketch.ensures
    ∙ call-fault c.args.centre.now c.args.peer (words c.args.text.now)
