-- What a peer was answered: by what is watched for it, and by its history.
use Rattle.std.specs.Prelude.{ℕ, ◌==◌, if◌then◌else◌, List, [], ◌∷◌, ◌++◌, Option, Some, None}
use Rattle.sbo_device.specs.declared.key.Key.{Key}
use Rattle.tase_views.specs.declared.reply.ReplyKind.{ReplyKind}
use Rattle.tase_views.specs.declared.reply.ReportKind.{ReportKind}
use Rattle.tase_views.specs.declared.reply.Answer.{Answer}
use Rattle.tase_views.specs.declared.reply.Answer.TheVariants.{Reply, Reports}
use Rattle.tase_views.specs.Setup.{Setup}
use Rattle.tase_views.specs.History.{Past, key_at}
use Rattle.tase_views.specs.OwnTables.{OwnTables}
use Rattle.tase_views.specs.View.{View}
use Rattle.tase_views.specs.Answers.{reply_to}
use Rattle.tase_views.specs.Reports.{reports_pending}
use Rattle.tase_views.specs.Outcomes.{answer_of}
use Rattle.tase_audit.specs.Watching.{OwnEntry, call_entry, take_entry, WatchItem, own_item}
use Rattle.tase_audit.specs.Watching.{seen_item, view_of_items}

-- what the peer's association with this ordinal was answered: the reply to a call, or the reports
-- that it took. That one is opened or closed is answered by nothing more.
pub data PeerAnswer : Type 0 where
  reply_at : ℕ → ReplyKind → PeerAnswer
  reports_at : ℕ → List ReportKind → PeerAnswer

-- ---- by what is watched

-- what an entry of the peer is answered behind a view
abbrev pub answers_of_entry : OwnTables → View → ℕ → OwnEntry → List PeerAnswer
answers_of_entry tables view ordinal (call_entry call) =
    reply_at ordinal (reply_to tables view ordinal call) ∷ []
answers_of_entry tables view ordinal take_entry =
    reports_at ordinal (reports_pending tables view ordinal) ∷ []
answers_of_entry tables view ordinal _ = []

abbrev pub answers_of_item : OwnTables → View → WatchItem → List PeerAnswer
answers_of_item tables view (own_item ordinal entry) = answers_of_entry tables view ordinal entry
answers_of_item tables view (seen_item seen) = []

-- what is answered at items, of which the newest stands first, by the peer's own tables: the oldest
-- answer first
abbrev pub answers_by : OwnTables → List WatchItem → List PeerAnswer
answers_by tables [] = []
answers_by tables (item ∷ items) =
    answers_by tables items ++ answers_of_item tables (view_of_items items) item

-- ---- by the history

abbrev pub answers_as : ℕ → Answer → List PeerAnswer
answers_as ordinal (Reply reply) = reply_at ordinal reply ∷ []
answers_as ordinal (Reports reports) = reports_at ordinal reports ∷ []
answers_as ordinal _ = []

-- an answer to an association of the peer; no other is the peer's
abbrev pub answers_for : ℕ → Option Key → Answer → List PeerAnswer
answers_for peer None answer = []
answers_for peer (Some key) answer =
    if key.peer == peer then answers_as key.ordinal answer else []

-- what a node answers a peer's associations in a history, the oldest first
abbrev pub answers_in : Setup → ℕ → Past → List PeerAnswer
answers_in setup peer [] = []
answers_in setup peer (entry ∷ past) =
    answers_in setup peer past
    ++ answers_for peer (key_at entry.event past entry.who)
    (answer_of setup past entry.who entry.event)
