-- The answers of a link in memory.
use Rattle.std.specs.Prelude.{ℕ, List, [], ◌∷◌, ◌++◌}
use Rattle.outside.specs.declared.links.link.Recv.{Recv}
use Rattle.outside.specs.declared.links.link.Recv.TheVariants.{Got, Idle, End, Failed}
use Rattle.outside.specs.declared.links.answers.Answer.{Answer}
use Rattle.outside.specs.declared.links.answers.Answers.{Answers, NoneYet, More'}
use Rattle.outside.specs.Links.LinkAnswers.{Received, idle, ended, failed, LinkAnswer}
use Rattle.outside.specs.Links.Scripts.{ScriptLeft, script_answer}

-- what a call of recv gave that ended so, with this left of the script before it and so much room
abbrev pub received_from : Recv → ScriptLeft → ℕ → Received
received_from (Got count) script room = script_answer room script.begun script.items
received_from Idle script room = idle
received_from End script room = ended
received_from Failed script room = failed

abbrev pub answer_given : Answer → LinkAnswer
answer_given answer = record {
  received = received_from answer.end answer.script.value answer.room;
  sent = answer.sent;
  after_nothing = answer.after_nothing;
}

-- all answers, in order
abbrev pub answers_given : Answers → List LinkAnswer
answers_given NoneYet = []
answers_given (More' shape before answer) = answers_given before ++ answer_given answer ∷ []
