-- The same entries behind two histories of which the second stands where the first does: each event
-- is answered alike behind both.
use Rattle.std.proofs.Common.{◌≡◌, ◌≢◌, ℕ, ◌++◌, Option, Some, None, refl, sym, ap, subst}
use Rattle.std.specs.Prelude.{option_map}
use Rattle.bilateral.specs.Rows.{CentreRows, IsCentre}
use Rattle.sbo_device.specs.declared.key.Key.{Key}
use Rattle.tase_views.specs.declared.event.EventKind.{EventKind}
use Rattle.tase_views.specs.declared.reply.Answer.TheVariants.{Reply}
use Rattle.tase_views.specs.declared.reply.ReplyKind.{ReplyKind}
use Rattle.tase_views.specs.Moves.{EventSort, sort_of, opening, requesting, taking, closing}
use Rattle.tase_views.specs.Moves.{taking_orders, feeding}
use Rattle.tase_views.specs.History.{Past, association_in, opens_in, key_by, key_at}
use Rattle.tase_views.specs.OwnTables.{own_tables}
use Rattle.tase_views.specs.View.{view_of}
use Rattle.tase_views.specs.Reports.{reports_pending}
use Rattle.tase_views.specs.Outcomes.{answer_at}
use Rattle.tase_views.specs.Lived.{IsLived}
use Rattle.tase_resume.specs.Recounted.{Gap, IsAlikeAnswer, asker, IsAnsweredAlike}
use Rattle.tase_resume.proofs.RaisedHolds.{Offsets, raised_key}
use Rattle.tase_resume.proofs.KeysAlike.{key_more}
use Rattle.tase_resume.proofs.PeerOffsets.{offsets_seen}
use Rattle.tase_resume.proofs.Selectable.{selectable}
use Rattle.tase_resume.proofs.AnswersAlike.{reply_alike}
use Rattle.tase_resume.proofs.Resumed.{IsWarm, going}
use Rattle.tase_resume.proofs.HeldReports.{held_reports}

module _ (rows : CentreRows) (lawful : IsCentre rows) (off : Offsets) (gap : Gap)
    (one other : Past) (warm : IsWarm rows off gap one other) where
  answers_by : (later : Past) (who : ℕ) (sort : EventSort) (found : Option Key)
      → IsLived rows (later ++ other) → sort ≢ taking_orders
      → found ≡ key_by sort (later ++ other) (association_in (later ++ other) who)
      → IsAlikeAnswer (own_tables rows (asker found))
      (view_of rows (asker found) (later ++ other)) gap off sort
      (answer_at rows (later ++ one) sort (option_map (raised_key off) found))
      (answer_at rows (later ++ other) sort found)
  answers_by later who taking_orders found lived isnt is = absurd (isnt refl)
  answers_by later who (opening peer) None lived isnt is = refl
  answers_by later who (opening peer) (Some key) lived isnt is = refl
  answers_by later who (requesting call) None lived isnt is = refl
  answers_by later who (requesting call) (Some key) lived isnt is =
      ap (λ (r : ReplyKind). Reply r)
      (reply_alike (own_tables rows key.peer) (offsets_seen rows key.peer off) gap
      (opens_in other key.peer) (selectable rows key.peer lawful) key.ordinal call
      (view_of rows key.peer (later ++ one)) (view_of rows key.peer (later ++ other))
      (going rows lawful off gap one other warm key.peer later lived))
  answers_by later who taking None lived isnt is = refl
  answers_by later who taking (Some key) lived isnt is = (
    reports_pending (own_tables rows key.peer) (view_of rows key.peer (later ++ other))
        key.ordinal,
    refl,
    held_reports rows lawful off gap one other warm later who key lived (sym is),
  )
  answers_by later who closing None lived isnt is = refl
  answers_by later who closing (Some key) lived isnt is = refl
  answers_by later who (feeding move) None lived isnt is = refl
  answers_by later who (feeding move) (Some key) lived isnt is = refl

  -- each event of each seat is answered alike
  pub answers_alike : (limit : ℕ) (later : Past) (who : ℕ) (event : EventKind)
      → IsLived rows (later ++ other) → sort_of event ≢ taking_orders
      → IsAnsweredAlike (record { centre = rows; limit = limit }) gap off (later ++ one)
      (later ++ other) who event
  answers_alike limit later who event lived isnt =
      let found = key_at event (later ++ other) who in
      subst (λ (k : Option Key). IsAlikeAnswer (own_tables rows (asker found))
      (view_of rows (asker found) (later ++ other)) gap off (sort_of event)
      (answer_at rows (later ++ one) (sort_of event) k)
      (answer_at rows (later ++ other) (sort_of event) found))
      (sym (key_more off one other warm.both later event who))
      (answers_by later who (sort_of event) found lived isnt refl)
