-- That `verify` goes by its plan.
use Rattle.std.proofs.Common.{◌≡◌, ℕ, List, Option, refl, sym, subst}
use Rattle.std.specs.Prelude.{Result, Ok, Err, IfOk, MatchResult, Vec, codes}
use Rattle.std.specs.declared.alloc.AllocError.{AllocError}
use Rattle.std.specs.declared.alloc.Global.{Global}
use Rattle.outside.specs.Names.Outside.{OutsideTold}
use Rattle.commands.specs.declared.io.status.Status.{Status}
use Rattle.commands.specs.declared.io.input.InputEnd.{InputEnd}
use Rattle.commands.specs.declared.io.input.InputEnd.TheVariants.{Refused, Memory}
use Rattle.commands.specs.declared.io.input.Refusal.TheVariants.{BadLine}
use Rattle.commands.specs.declared.io.input.TheConstants.{JOURNAL_LIMIT}
use Rattle.commands.specs.Io.Inputs.{value_or_end, ReadsInput}
use Rattle.commands.specs.Io.Runs.{EndsUnread}
use Rattle.commands.specs.Io.Plans.{Plan, RunsPlan, IsSpelled, ReadsValue, EndsPlan}
use Rattle.commands.proofs.OfIo.Plans.{IsRun-value}
use Rattle.bilateral.specs.Rows.{CentreRows}
use Rattle.sbo_device.specs.declared.key.Key.{Key}
use Rattle.tase_views.specs.History.{Past}
use Rattle.tase_verify.specs.declared.association.answered.AnsweredEvent.{AnsweredEvent}
use Rattle.tase_verify.specs.declared.association.verdict.Verdict.{Verdict}
use Rattle.tase_verify.specs.JournalIn.{journal_in}
use Rattle.tase_verify.specs.Verifying.{journal_setup, answered_for, IsJournal}
use Rattle.commands.specs.Words.Words.{Question}
use Rattle.tase_tool.specs.Verifying.{key_meant, input_asked}
use Rattle.tase_tool.specs.Verifying.{given_plan, journal_plan, AreAnswers}

-- a run over these tables: the journal is read to this, and it goes on by the association
pub IsRun-journal : (question : Question) (rows : CentreRows) (key : Option Key)
    (b m a : OutsideTold) (status : Status) → key ≡ key_meant rows question
    → (was : Result Past InputEnd)
    → ReadsValue (journal_in (journal_setup rows)) question.journal JOURNAL_LIMIT was b m
    → EndsPlan (codes "journal") (given_plan question rows key) was m a status
    → RunsPlan (journal_plan question rows) b a status
IsRun-journal question rows key b m a status same was value run =
    IsRun-value b m a
    (input_asked (codes "journal") JOURNAL_LIMIT question.journal)
    (journal_in (journal_setup rows)) (given_plan question rows (key_meant rows question))
    was status value
    (subst (λ k. EndsPlan (codes "journal") (given_plan question rows k) was m a status) same run)

module _ (rows : CentreRows) (key : Option Key) where
  -- what a journal is read to
  answers_from : (text : List ℕ)
      (read : Result (Result (Vec AnsweredEvent Global) ℕ) AllocError)
      → IfOk read (λ r. MatchResult r
      (λ answered. IsJournal (journal_setup rows) text key answered.items)
      (λ line. journal_in (journal_setup rows) text ≡ Err line))
      → (was : Result Past InputEnd) × (IsSpelled was (journal_in (journal_setup rows) text)
      × AreAnswers rows key was (value_or_end read))
  answers_from text (Ok (Ok answered)) is = (Ok is.past, (is.journal, is.events))
  answers_from text (Ok (Err line)) is = (Err (Refused (BadLine line)), (is, refl))
  answers_from text (Err out_of_memory) is = (Err Memory, (tt, refl))

  pub answers_of : (text : List ℕ)
      (read : Result (Result (Vec AnsweredEvent Global) ℕ) AllocError)
      (result : Result (Vec AnsweredEvent Global) InputEnd) → result ≡ value_or_end read
      → IfOk read (λ r. MatchResult r
      (λ answered. IsJournal (journal_setup rows) text key answered.items)
      (λ line. journal_in (journal_setup rows) text ≡ Err line))
      → (was : Result Past InputEnd) × (IsSpelled was (journal_in (journal_setup rows) text)
      × AreAnswers rows key was result)
  answers_of text read result same is =
      let from = answers_from text read is in
      (from.0, (from.1.0, subst (λ r. AreAnswers rows key from.0 r) (sym same) from.1.1))

  pub answers_read : (name : List ℕ) (b m : OutsideTold) (text : Vec ℕ Global) (octets : List ℕ)
      (result : Result (Vec AnsweredEvent Global) InputEnd) → octets ≡ text.items
      → ReadsInput b m name JOURNAL_LIMIT (Ok text)
      → (was : Result Past InputEnd) × (IsSpelled was (journal_in (journal_setup rows) octets)
      × AreAnswers rows key was result)
      → (was : Result Past InputEnd)
      × (ReadsValue (journal_in (journal_setup rows)) name JOURNAL_LIMIT was b m
      × AreAnswers rows key was result)
  answers_read name b m text octets result same input from = (
    from.0,
    (
      (
        Ok text,
        input,
        subst (λ (o : List ℕ). IsSpelled from.0 (journal_in (journal_setup rows) o)) same from.1.0,
      ),
      from.1.1,
    ),
  )

  pub answers_unread : (name : List ℕ) (b m : OutsideTold) (end : InputEnd)
      → ReadsInput b m name JOURNAL_LIMIT (Err end)
      → (was : Result Past InputEnd)
      × (ReadsValue (journal_in (journal_setup rows)) name JOURNAL_LIMIT was b m
      × AreAnswers rows key was (Err end))
  answers_unread name b m end input = (Err end, ((Err end, input, refl), refl))

  -- by what a journal was read to
  module _ (next : Past → Plan) (b a : OutsideTold) (status : Status)
      (read : Result (Vec AnsweredEvent Global) InputEnd) where
    pub answered_there : (events : Vec AnsweredEvent Global) → read ≡ Ok events
        → ((past : Past) → events.items ≡ answered_for (journal_setup rows) key past
        → RunsPlan (next past) b a status)
        → (was : Result Past InputEnd) → AreAnswers rows key was read
        → EndsPlan (codes "journal") next was b a status
    answered_there events is run (Ok past) are =
        run past (subst (λ r. AreAnswers rows key (Ok past) r) is are)
    answered_there events is run (Err end) are =
        absurd (subst (λ r. AreAnswers rows key (Err end) r) is are)

    pub answered_unread : (end : InputEnd) → read ≡ Err end
        → EndsUnread (codes "journal") end b a status
        → (was : Result Past InputEnd) → AreAnswers rows key was read
        → EndsPlan (codes "journal") next was b a status
    answered_unread end is ends (Ok past) are =
        absurd (subst (λ r. AreAnswers rows key (Ok past) r) is are)
    answered_unread end is ends (Err other) are =
        subst (λ e. EndsUnread (codes "journal") e b a status)
        (sym (subst (λ r. AreAnswers rows key (Err other) r) is are)) ends

-- a verdict that is there is the one that is meant
pub verdict_told : (read : Result Verdict AllocError) (verdict meant : Verdict) → read ≡ Ok verdict
    → IfOk read (λ v. v ≡ meant) → verdict ≡ meant
verdict_told read verdict meant is same = subst (λ r. IfOk r (λ v. v ≡ meant)) is same
