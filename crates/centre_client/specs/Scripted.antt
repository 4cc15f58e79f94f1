-- A script as the agenda of a calling end.
use Rattle.std.specs.Prelude.{◌≡◌, ◌++◌, ℕ, List, [], ◌∷◌, Option, codes}
use Rattle.bilateral.specs.Rows.{CentreRows, table_of}
use Rattle.tase_views.specs.declared.reply.ReplyKind.{ReplyKind}
use Rattle.tase_views.specs.declared.reply.ReportKind.{ReportKind}
use Rattle.texts.specs.Events.ReplyTexts.{reply_text}
use Rattle.texts.specs.Reports.ReportTexts.{report_text}
use Rattle.asking_end.specs.declared.asker.Asker.{Asker}
use Rattle.asking_end.specs.Agendas.{AgendaActs, AgendaTurn}
use Rattle.asking_end.specs.Asking.{HasNumber}
use Rattle.centre_client.specs.declared.play.Checkback.{Checkback}
use Rattle.centre_client.specs.declared.script.Script.{Script}
use Rattle.centre_client.specs.Plays.{Playing, PlayTurn, at_call, begun, answered, report_counted}
use Rattle.centre_client.specs.Plays.{call_awaited, IsPlay}

-- a script that is played over a centre's tables
pub record Scripted : Type 0 where
  pub rows : CentreRows
  pub play : Playing

-- ---- what is shown

abbrev pub shown_reply_line : ReplyKind → List ℕ
shown_reply_line reply = codes "reply " ++ reply_text reply ++ 10 ∷ []

abbrev pub shown_report_line : ReportKind → List ℕ
shown_report_line report = codes "report " ++ report_text report ++ 10 ∷ []

-- ---- what it does

-- over the same tables the script has come to this
abbrev pub played : CentreRows → PlayTurn → AgendaTurn Scripted Checkback
played rows m = (record { rows = rows; play = m.0 }, m.1)

-- Each reply to a call and each report is shown as a line.
abbrev pub script_acts : AgendaActs Scripted Checkback ℕ
script_acts = record {
  begun = λ a. played a.rows (begun a.rows a.play);
  replied = λ number reply a. played a.rows (answered a.rows reply a.play.doing a.play);
  reply_shown = λ number reply a. shown_reply_line reply;
  reported = λ report a. played a.rows (report_counted a.rows a.play.doing a.play);
  report_shown = λ report a. shown_report_line report;
  call = λ a. call_awaited a.rows a.play;
}

-- a script before the association stands
abbrev pub scripted : CentreRows → Script → Scripted
scripted rows script = record { rows = rows; play = at_call script }

-- the client calls by its table's title
abbrev pub title_of : CentreRows → Script → Option (List ℕ)
title_of rows script = (table_of rows script.peer).title

-- what every script keeps that is asked over these tables: it may be played, and the last request
-- has a number that requests have
pub record IsPlayed (rows : CentreRows) (p : Asker Scripted) : Type 0 where
  pub tables : p.agenda.rows ≡ rows
  pub last : HasNumber p
  pub play : IsPlay rows p.agenda.play
