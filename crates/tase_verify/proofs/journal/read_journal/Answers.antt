use Rattle.std.proofs.Common.{[], ap, ◌∙◌}
use Rattle.std.specs.Arc.{arc_value}
use Rattle.bilateral.specs.Rows.{CentreRows}
use Rattle.node_core.specs.NodeState.{NodeState}
use Rattle.tase_verify.specs.Verifying.{journal_setup}
use Rattle.tase_verify.proofs.Taking.{read_whole}
use Rattle.tase_verify.proofs.journal.read_journal.Goals as goal

-- a node without a history that reads a journal over a centre
abbrev reads_over : CentreRows → NodeState
reads_over rows = record { setup = journal_setup rows; history = [] }

pub returns-in-Ok : goal.returns-in-Ok
returns-in-Ok c =
    read_whole (arc_value c.args.centre.now) c.args.text.now c.args.key
    (record { node = c.in_ok-node.node; watch = c.new-watch.result }) c.take_lines.new.self
    c.in-Ok.field-0 (c.in_ok-node.ensures ∙ ap reads_over c.in_ok-clone.ensures.cases)
    c.new-watch.ensures.key c.new-watch.ensures.seat
    c.new-watch.ensures.answered (rw c.in-Ok.is at c.in_ok-take_lines.ensures)
