use Rattle.std.proofs.Common.{◌≡◌, Result, Ok, subst}
use Rattle.tase_views.specs.declared.reply.Answer.{Answer}
use Rattle.tase_views.specs.declared.fault.StepFault.{StepFault}
use Rattle.std.specs.declared.alloc.AllocError.{AllocError}
use Rattle.tase_conn.specs.Places.{ConnStandsAt}
use Rattle.tase_conn.specs.Answering.{IsAnswerFor, TellsAnswer, unnoted}
use Rattle.tase_conn.specs.Noting.{NotesAnswer}
use Rattle.tase_conn.proofs.Placing.{left_stands}
use Rattle.tase_conn.proofs.AnswersNoted.{on_ok, told_stands, told_octets, told_goes, answer_room}
use Rattle.tase_conn.proofs.AnswersNoted.{refused_octets, refused_goes, refused_stays, told_stage}
use Rattle.tase_conn.proofs.AnswersNoted.{answered_no_fault, refused_left, refused_stands, on_both}
use Rattle.tase_conn.proofs.AnswersNoted.{Refuses, told_course, refused_course}
use Rattle.tase_conn.proofs.conn.Conn.tell.Goals as goal

pub returns-in-Ok-clause-stands : goal.returns-in-Ok-clause-stands
returns-in-Ok-clause-stands c = λ rows items heard turns s.
    let old = c.args.self.now in
    let new = c.note_or_refuse.new.self in
    on_both (Unit {0}) AllocError (NotesAnswer old.progress c.in-Ok.answer old new)
    (new ≡ unnoted (Ok c.in-Ok.answer) old) (ConnStandsAt rows items heard turns new)
    c.note_or_refuse.result
    (λ n. told_stands c.args.told c.in-Ok.answer rows items heard turns old new c.in-Ok.is
    c.requires.right n s)
    (λ e. refused_stands (Ok c.in-Ok.answer) rows items heard turns old new
    (subst (λ (t : Result Answer StepFault). IsAnswerFor old.progress t) c.in-Ok.is
    c.requires.right) e s) c.note_or_refuse.ensures.ok c.note_or_refuse.ensures.err

pub returns-in-Ok-clause-told : goal.returns-in-Ok-clause-told
returns-in-Ok-clause-told c =
    let old = c.args.self.now in
    let new = c.note_or_refuse.new.self in
    on_ok (Unit {0}) AllocError (NotesAnswer old.progress c.in-Ok.answer old new)
    (TellsAnswer c.args.told old new) c.note_or_refuse.result
    (λ n. record {
      said = told_octets c.args.told c.in-Ok.answer old new c.in-Ok.is c.requires.right
          c.requires.placed n;
      progress = told_goes c.args.told c.in-Ok.answer old new c.in-Ok.is c.requires.right n;
      stage = told_stage c.args.told c.in-Ok.answer old new c.in-Ok.is
          c.note_or_refuse.ensures.stage;
      course = told_course c.args.told c.in-Ok.answer old new c.in-Ok.is c.requires.right n;
    }) c.note_or_refuse.ensures.ok

pub returns-in-Err-clause-stands : goal.returns-in-Err-clause-stands
returns-in-Err-clause-stands c = λ rows items heard turns s.
    left_stands rows items heard turns c.end_of.result c.args.self.now c.leave.new.self
    (answer_room c.args.told c.args.self.now c.requires.right c.requires.placed) c.leave.ensures s

pub returns-in-Err-clause-told : goal.returns-in-Err-clause-told
returns-in-Err-clause-told c =
    let old = c.args.self.now in
    let new = c.leave.new.self in
    let end = c.end_of.result in
    let r : Refuses c.args.told c.in-Err.fault end old new =
    (c.in-Err.is, c.end_of.ensures, c.requires.right, c.leave.ensures) in
    record {
      said = refused_octets c.args.told c.in-Err.fault end old new r;
      progress = refused_goes c.args.told c.in-Err.fault end old new r;
      stage = refused_stays c.args.told c.in-Err.fault end old new r;
      course = refused_course c.args.told c.in-Err.fault end old new r;
    }

pub returns-in-Ok-clause-refused : goal.returns-in-Ok-clause-refused
returns-in-Ok-clause-refused c = λ fault e.
    absurd (answered_no_fault c.args.told c.in-Ok.answer fault c.in-Ok.is e)

pub returns-in-Err-clause-refused : goal.returns-in-Err-clause-refused
returns-in-Err-clause-refused c = λ fault e.
    refused_left c.args.told c.in-Err.fault fault c.end_of.result c.args.self.now
    c.leave.new.self c.in-Err.is e c.end_of.ensures c.leave.ensures
