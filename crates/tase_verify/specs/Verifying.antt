-- What a check of a journal says of one association, if one is meant.
use Rattle.std.specs.Prelude.{◌≡◌, ℕ, Bool, List, [], Option, Some, None, Ok}
use Rattle.bilateral.specs.Rows.{CentreRows}
use Rattle.sbo_device.specs.declared.key.Key.{Key}
use Rattle.tase_views.specs.Setup.{Setup}
use Rattle.tase_views.specs.History.{Past}
use Rattle.tase_verify.specs.declared.association.answered.AnsweredEvent.{AnsweredEvent}
use Rattle.tase_verify.specs.declared.association.verdict.Verdict.{Verdict}
use Rattle.tase_verify.specs.declared.association.verdict.Verdict.TheVariants.{Stray}
use Rattle.tase_verify.specs.Association.Answered.{answered_in}
use Rattle.tase_verify.specs.Association.Stray.{events_entered, events_asked, first_stray}
use Rattle.tase_verify.specs.Association.Verdicts.{verdict_of}
use Rattle.tase_verify.specs.declared.journal.TheConstants.{JOURNAL_LIMIT}
use Rattle.tase_verify.specs.JournalIn.{journal_in}

-- what a node that reads a journal is set up with
abbrev pub journal_setup : CentreRows → Setup
journal_setup rows = record { centre = rows; limit = JOURNAL_LIMIT }

-- the events of the association that is meant, with their answers; without one none
abbrev pub answered_for : Setup → Option Key → Past → List AnsweredEvent
answered_for setup None past = []
answered_for setup (Some key) past = answered_in setup key past

-- a text is a journal in which the association that is meant has these events and answers
pub record IsJournal (setup : Setup) (text : List ℕ) (key : Option Key)
    (answered : List AnsweredEvent) : Type 0 where
  pub past : Past
  pub journal : journal_in setup text ≡ Ok past
  pub events : answered ≡ answered_for setup key past

-- the number of the first stray event of the association that is meant; where none is, the first
-- event is missing
abbrev pub stray_for : CentreRows → Past → Option Key → List ℕ → Bool → Option ℕ
stray_for rows past None octets ended = Some 0
stray_for rows past (Some key) octets ended =
    first_stray (events_entered key past) (events_asked rows octets ended)

-- the verdict on the association that is meant; where none is, the first event is missing
abbrev pub verdict_for : CentreRows → Past → Option Key → List ℕ → Bool → List ℕ → Verdict
verdict_for rows past None octets ended sent = Stray 0
verdict_for rows past (Some key) octets ended sent = verdict_of rows past key octets ended sent
