use Rattle.std.proofs.Common.{[]}
use Rattle.tase_replay.specs.Play.{first_scene}
use Rattle.tase_replay.proofs.TakenLines.{first_taken, all_taken}
use Rattle.tase_replay.proofs.laws.lines_are_taken_in_order.Goals as goal

pub returns-clause-first : goal.returns-clause-first
returns-clause-first c = λ setup scenario. first_taken setup scenario (first_scene []) 1

pub returns-clause-whole : goal.returns-clause-whole
returns-clause-whole c = λ setup scenario ends. all_taken setup scenario (first_scene []) 1 ends
