-- What a peer is told, with so many changes of each point more.
use Rattle.std.specs.Prelude.{◌≡◌, ℕ, ◌+◌, ◌-◌, ◌%◌, List, [], ◌∷◌, Option, Some, None, length}
use Rattle.std.specs.Prelude.{take}
use Rattle.std.specs.Option.{option_map_or, unwrap_or}
use Rattle.tase_points.specs.declared.layout.Component.{Component}
use Rattle.tase_points.specs.declared.layout.Component.TheVariants.{Cov}
use Rattle.tase_points.specs.declared.layout.TheConstants.{COV_MODULUS}
use Rattle.mms_data.specs.Datum.{Datum, unsigned, structure, Data, datum}
use Rattle.mms_data.specs.ObjectName.{ObjectName}
use Rattle.mms_data.specs.declared.outcome.Outcome.{Outcome}
use Rattle.mms_data.specs.declared.outcome.Outcome.TheVariants.{Good}
use Rattle.point_db.specs.Updates.{values_given, changes_of}
use Rattle.bilateral.specs.Rows.{CentreRows, point_of, place_of_point}
use Rattle.tase_views.specs.declared.call.CallKind.{CallKind}
use Rattle.tase_views.specs.declared.call.CallKind.TheVariants.{Read, ReadSet}
use Rattle.tase_views.specs.declared.reply.ReplyKind.{ReplyKind}
use Rattle.tase_views.specs.declared.reply.ReplyKind.TheVariants.{Results}
use Rattle.tase_views.specs.declared.reply.ReportKind.{ReportKind}
use Rattle.tase_views.specs.declared.reply.ReportKind.TheVariants.{Set, Variables}
use Rattle.tase_views.specs.declared.reply.Answer.{Answer}
use Rattle.tase_views.specs.declared.reply.Answer.TheVariants.{Opened, Reply, Reports}
use Rattle.tase_views.specs.Setup.{Setup}
use Rattle.tase_views.specs.Moves.{EventSort, sort_of, requesting}
use Rattle.sbo_device.specs.declared.key.Key.{Key}
use Rattle.tase_views.specs.declared.event.EventKind.{EventKind}
use Rattle.tase_views.specs.Outcomes.{answer_of}
use Rattle.tase_resume.specs.Warming.{warm_past}
use Rattle.tase_views.specs.History.{Past, key_at, opens_in}
use Rattle.tase_views.specs.OwnTables.{OwnTable, OwnTables, own_tables}
use Rattle.tase_views.specs.Objects.{Object, indication_point, object_named}
use Rattle.tase_views.specs.View.{View, held, view_of}
use Rattle.tase_views.specs.Slots.{members_of}
use Rattle.tase_views.specs.Given.{updates_of}
use Rattle.tase_resume.specs.Bases.{settled_past}

-- how many changes more the point with a name has
abbrev pub Gap : Type 0
Gap = List ℕ → ℕ

-- a component of a point with so many changes more; counts go modulo 65,536
abbrev pub more_part : ℕ → Component → Datum → Datum
more_part more Cov (unsigned n) = unsigned ((n + more) % COV_MODULUS)
more_part more _ d = d

abbrev pub more_parts : ℕ → List Component → Data → Data
more_parts more (component ∷ components) (datum d ds) =
    datum (more_part more component d) (more_parts more components ds)
more_parts more _ ds = ds

-- a point in a layout, where one component stands bare and several as a structure
abbrev pub with_more : ℕ → List Component → Datum → Datum
with_more more (component ∷ []) d = more_part more component d
with_more more components (structure ds) = structure (more_parts more components ds)
with_more more components d = d

-- the outcome of a variable that is this object
abbrev pub object_recounted : Gap → Option Object → Outcome → Outcome
object_recounted gap (Some (indication_point p)) (Good d) =
    Good (with_more (gap p.name) p.layout d)
object_recounted gap object outcome = outcome

module _ (table : OwnTable) (gap : Gap) where
  -- the outcome of the variable with a name, and those of variables in order
  abbrev pub recounted : ObjectName → Outcome → Outcome
  recounted name outcome = object_recounted gap (object_named table name) outcome

  abbrev pub all_recounted : List ObjectName → List Outcome → List Outcome
  all_recounted (name ∷ names) (outcome ∷ outcomes) =
      recounted name outcome ∷ all_recounted names outcomes
  all_recounted _ outcomes = outcomes

  -- a reply with the outcomes of these variables
  abbrev pub results_recounted : List ObjectName → ReplyKind → ReplyKind
  results_recounted names (Results spec outcomes) = Results spec (all_recounted names outcomes)
  results_recounted names reply = reply

  -- a report is another one with so many changes more: of variables by their names, of a data set
  -- by some names of as many members
  abbrev pub IsReportRecounted : ReportKind → ReportKind → Type 0
  IsReportRecounted (Variables names outcomes) other =
      (those : List Outcome) × (other ≡ Variables names those)
      × (outcomes ≡ all_recounted names those)
  IsReportRecounted (Set set outcomes) other =
      (those : List Outcome) × (members : List ObjectName) × (other ≡ Set set those)
      × (length members ≡ length those) × (outcomes ≡ all_recounted members those)

-- reports one by one
abbrev pub AreReportsRecounted : OwnTable → Gap → List ReportKind → List ReportKind → Type 0
AreReportsRecounted table gap [] others = others ≡ []
AreReportsRecounted table gap (report ∷ reports) [] = ⊥
AreReportsRecounted table gap (report ∷ reports) (other ∷ others) =
    IsReportRecounted table gap report other × AreReportsRecounted table gap reports others

-- a reply to a call
abbrev pub reply_recounted : OwnTables → View → Gap → CallKind → ReplyKind → ReplyKind
reply_recounted tables view gap (Read names echo) reply =
    results_recounted (held tables view) gap names reply
reply_recounted tables view gap (ReadSet set echo) reply =
    results_recounted (held tables view) gap (unwrap_or (members_of tables view set) []) reply
reply_recounted tables view gap call reply = reply

-- the answer to an event of this sort with so many changes more, and so many opens of each peer
abbrev pub answer_recounted :
    OwnTables → View → Gap → (ℕ → ℕ) → EventSort → Answer → Answer
answer_recounted tables view gap more sort (Opened key) =
    Opened (record { peer = key.peer; ordinal = key.ordinal + more key.peer })
answer_recounted tables view gap more (requesting call) (Reply reply) =
    Reply (reply_recounted tables view gap call reply)
answer_recounted tables view gap more sort answer = answer

-- an answer is another one so: reports one by one by the peer's table in force, all else at once
abbrev pub IsAlikeAnswer :
    OwnTables → View → Gap → (ℕ → ℕ) → EventSort → Answer → Answer → Type 0
IsAlikeAnswer tables view gap more sort (Reports reports) other =
    (others : List ReportKind) × (other ≡ Reports others)
    × AreReportsRecounted (held tables view) gap reports others
IsAlikeAnswer tables view gap more sort answer other =
    answer ≡ answer_recounted tables view gap more sort other

-- the peer of an association, if there is one
abbrev pub asker : Option Key → ℕ
asker None = 0
asker (Some key) = key.peer

-- An event of a seat is answered behind the first of two histories as behind the second, but for so
-- many changes of each point more, and so many opens of each peer.
abbrev pub IsAnsweredAlike : Setup → Gap → (ℕ → ℕ) → Past → Past → ℕ → EventKind → Type 0
IsAnsweredAlike setup gap more one other who event =
    let peer = asker (key_at event other who) in
    IsAlikeAnswer (own_tables setup.centre peer) (view_of setup.centre peer other) gap more
    (sort_of event) (answer_of setup one who event) (answer_of setup other who event)

-- how many associations more of each peer a base has had than its snapshot
abbrev pub more_opens : CentreRows → Past → ℕ → ℕ
more_opens rows past peer =
    opens_in (settled_past past) peer - opens_in (warm_past rows past) peer

-- by how much a point's count of changes is behind that of a history where the history's snapshot
-- goes on in its place: of all its values the snapshot has the last
abbrev pub change_gap : CentreRows → Past → ℕ → ℕ
change_gap rows past point =
    let values = values_given (updates_of (settled_past past)) point in
    let kind = (point_of rows point).kind in
    changes_of kind values - changes_of kind (take 1 values)

-- the same of the point with a name
abbrev pub gap_of : CentreRows → Past → Gap
gap_of rows past name = option_map_or (change_gap rows past) (place_of_point rows name) 0
