use Rattle.std.proofs.Common.{Option, subst}
use Rattle.tase_views.specs.declared.reply.Answer.{Answer}
use Rattle.tase_verify.specs.declared.journal.Reader.{Reader}
use Rattle.tase_verify.specs.Reading.{IsTaken}
use Rattle.tase_verify.proofs.Taking.{entry_taken}
use Rattle.tase_verify.proofs.journal.Reader.take.Goals as goal

pub returns-in_ok-note-in-Some : goal.returns-in_ok-note-in-Some
returns-in_ok-note-in-Some c =
    let new : Reader = record { node = c.answer_of.new.node; watch = c.note.new.self } in
    entry_taken c.args.self.now new c.args.entry.who c.args.entry.event c.in-Some.answer
    c.in_ok-kept.kept c.in_ok-kept.ensures
    (subst (λ (a : Option Answer). IsTaken c.args.self.now.node c.answer_of.new.node
    c.args.entry.who c.args.entry.event a) c.in-Some.is c.in_ok-answer.ensures)
    c.in_ok-note-in-Some.ensures.key
    c.in_ok-note-in-Some.ensures.seat
    c.in_ok-note-in-Some.ensures.answered
