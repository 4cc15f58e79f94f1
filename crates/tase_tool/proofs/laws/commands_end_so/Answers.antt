use Rattle.tase_tool.proofs.Ended.{task_ends}
use Rattle.tase_tool.proofs.laws.commands_end_so.Goals as goal

pub returns : goal.returns
returns c = task_ends
