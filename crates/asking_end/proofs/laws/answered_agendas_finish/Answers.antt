use Rattle.asking_end.proofs.Exchanged.{finishes_by}
use Rattle.asking_end.proofs.laws.answered_agendas_finish.Goals as goal

pub returns : goal.returns
returns g c = λ acts agenda replies title a count often.
    finishes_by acts agenda replies title a c.replies_are_pdus.ensures.reply
    c.replies_are_pdus.ensures.number count often
