-- What an agenda does, as functions of what it was before.
use Rattle.std.specs.Prelude.{◌≡◌, ℕ, List, length, take, Option}
use Rattle.tase_views.specs.declared.call.CallKind.{CallKind}
use Rattle.tase_views.specs.declared.reply.ReplyKind.{ReplyKind}
use Rattle.tase_views.specs.declared.reply.ReportKind.{ReportKind}
use Rattle.asking_end.specs.declared.next.Next.{Next}

-- what an agenda is, and what it wants next
abbrev pub AgendaTurn : Type 0 → Type 0 → Type 0
AgendaTurn A E = A × Next E

-- Agendas of one kind: how they may end an association, and what they show.
pub record AgendaActs (A E I : Type 0) : Type 0 where
  -- the association stands
  pub begun : A → AgendaTurn A E
  -- a reply to the call that was asked by this number, and what is shown of it
  pub replied : ℕ → ReplyKind → A → AgendaTurn A E
  pub reply_shown : ℕ → ReplyKind → A → List I
  -- a report while nothing is asked, and what is shown of each
  pub reported : ReportKind → A → AgendaTurn A E
  pub report_shown : ReportKind → A → List I
  -- the call that is asked
  pub call : A → Option CallKind

-- items begin with these, as they do when memory ran out while more were being appended
abbrev pub ShowsFirst : {I : Type 0} → List I → List I → Type 0
ShowsFirst old new = take (length old) new ≡ old

-- what an agenda may become by what it does, one after another
pub data Becomes {A E I : Type 0} (acts : AgendaActs A E I) (old : A) : A → Type 0 where
  as_before : Becomes acts old old
  by_begin : (now : A) → Becomes acts old now → Becomes acts old (acts.begun now).0
  by_reply : (now : A) (number : ℕ) (reply : ReplyKind) → Becomes acts old now
      → Becomes acts old (acts.replied number reply now).0
  by_report : (now : A) (report : ReportKind) → Becomes acts old now
      → Becomes acts old (acts.reported report now).0
