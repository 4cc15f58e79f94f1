-- The peer that the stage of a connection names, by what a seat and the connection did.
use Rattle.std.proofs.Common.{◌≡◌, ℕ, Bool, true, false, [], ◌++◌, Option, Some, None}
use Rattle.std.proofs.Common.{Ok, Err, refl, sym, ap, subst, ◌∙◌}
use Rattle.std.specs.Prelude.{if◌then◌else◌, MatchBool, option_map, unwrap_or}
use Rattle.std.proofs.lemmas.Bool.{false≢true}
use Rattle.bilateral.specs.Rows.{CentreRows, table_of}
use Rattle.sbo_device.specs.declared.key.Key.{Key}
use Rattle.tase_views.specs.Setup.{Setup}
use Rattle.tase_views.specs.Moves.{sort_of}
use Rattle.tase_views.specs.History.{Past}
use Rattle.tase_views.specs.declared.event.EventKind.{EventKind}
use Rattle.tase_views.specs.declared.event.EventKind.TheVariants as events
use Rattle.tase_views.specs.declared.fault.StepFault.{StepFault}
use Rattle.tase_views.specs.declared.reply.Answer.{Answer}
use Rattle.tase_conn.specs.Map.Sent.{events_by, with_event}
use Rattle.tase_conn.specs.Map.Linked.{opened_in, opened_by}
use Rattle.tase_conn.specs.declared.stage.ConnEnd.{ConnEnd}
use Rattle.tase_conn.specs.declared.stage.PendingEvent.{PendingEvent}
use Rattle.tase_conn.specs.declared.stage.PendingEvent.TheVariants as askeds
use Rattle.tase_conn.specs.declared.stage.Progress.{Progress}
use Rattle.tase_conn.specs.declared.stage.Progress.TheVariants as progresses
use Rattle.tase_conn.specs.declared.stage.Stage.{Stage}
use Rattle.tase_conn.specs.declared.stage.Stage.TheVariants as stages
use Rattle.tase_conn.specs.Talking.{Talking, stage_peer, is_open_stage}
use Rattle.tase_conn.specs.Places.{ConnStandsAt, Runs, Reach, has_begun}
use Rattle.tase_conn.specs.Answering.{TellsAnswer, stage_told, stage_by, stage_closed, limit_at}
use Rattle.tase_conn.specs.Answering.{parting_octets}
use Rattle.tase_conn.specs.Leaving.{IsLeft, Parts}
use Rattle.conn_service.specs.Courses.Serving.{AreOthers, IsWaiting}
use Rattle.conn_service.proofs.OfCourses.Seats.{others_opened, opened_here, none_opened, goes_at}
use Rattle.conn_service.proofs.OfCourses.Wanted.{waiting_of}
use Rattle.conn_service.specs.Attending.{IsAskingClose}
use Rattle.node_server.specs.Seats.Serving.{IsShut, GoesOrShuts}
use Rattle.node_server.specs.Seats.Peers.{peer_opened, HasItsPeer, KeepsPeer, limit_of}
use Rattle.node_server.proofs.OfSeats.Behind.{CameBehind}

-- ---- what that means

same_limit : (rows : CentreRows) (peer other : ℕ) → Some peer ≡ Some other
    → (table_of rows peer).pending ≡ (table_of rows other).pending
same_limit rows peer other e = ap (λ (o : Option ℕ). (table_of rows (unwrap_or o peer)).pending) e

limit_by : (rows : CentreRows) (stage : Stage) (found : Option Key)
    → stage_peer stage ≡ option_map (λ (key : Key). key.peer) found
    → limit_at rows stage ≡ limit_of rows found
limit_by rows stages.Early None e = refl
limit_by rows stages.Early (Some key) e = absurd cc
limit_by rows (stages.Open peer detail) None e = absurd cc
limit_by rows (stages.Open peer detail) (Some key) e = same_limit rows peer key.peer e
limit_by rows (stages.Closed peer) None e = absurd cc
limit_by rows (stages.Closed peer) (Some key) e = same_limit rows peer key.peer e

-- as many octets may wait as the table of the seat's own peer says
pub peer_limit : (rows : CentreRows) (past : Past) (who : ℕ) (v : Talking) → v.rows ≡ rows
    → HasItsPeer past who v → limit_at v.rows v.stage ≡ limit_of rows (opened_in past who)
peer_limit rows past who v is h =
    ap (λ (r : CentreRows). limit_at r v.stage) is ∙ limit_by rows v.stage (opened_in past who) h

-- ---- at the beginning

early_by : (stage : Stage) → has_begun stage ≡ false → stage_peer stage ≡ None
early_by stages.Early b = refl
early_by (stages.Open peer detail) b = absurd (false≢true (sym b))
early_by (stages.Closed peer) b = absurd (false≢true (sym b))

-- a connection of which nothing has come, by a seat without events
pub fresh_peer : (rows : CentreRows) (past : Past) (who : ℕ) (v : Talking)
    → ConnStandsAt rows [] [] [] v → v.progress ≡ progresses.Running askeds.Nothing
    → events_by who past ≡ [] → HasItsPeer past who v
fresh_peer rows past who v s runs none =
    let r : Runs rows [] [] [] askeds.Nothing v = goes_at s runs in
    early_by v.stage (sym (ap (λ (x : Reach). x.begun) r.reached))
    ∙ sym (ap (λ (k : Option Key). option_map (λ (key : Key). key.peer) k)
    (none_opened past who none))

-- ---- the history

opened_kept : (past after : Past) (who : ℕ) (v : Talking)
    → opened_in after who ≡ opened_in past who → HasItsPeer past who v → HasItsPeer after who v
opened_kept past after who v e h =
    h ∙ sym (ap (λ (k : Option Key). option_map (λ (key : Key). key.peer) k) e)

shut_by : (b : Bool) (others past : Past) (who : ℕ) → AreOthers who others
    → opened_in (if b then with_event who events.Close (others ++ past) else past) who
    ≡ opened_in past who
shut_by true others past who apart =
    opened_here events.Close (others ++ past) who ∙ others_opened who others past apart
shut_by false others past who apart = refl

shut_opened : (past after : Past) (who : ℕ) → IsShut who past after
    → opened_in after who ≡ opened_in past who
shut_opened past after who h = ap (λ (p : Past). opened_in p who) h.after_is
    ∙ shut_by _ h.others past who h.apart

-- ---- the stage

closed_peer : (stage : Stage) → stage_peer (stage_closed stage) ≡ stage_peer stage
closed_peer stages.Early = refl
closed_peer (stages.Open peer detail) = refl
closed_peer (stages.Closed peer) = refl

left_by : (b : Bool) (end : ConnEnd) (old new : Talking)
    → MatchBool b (new ≡ record old { progress = progresses.Leaving end false })
    (Parts (progresses.Cut end) (parting_octets old.course end) old new) → KeepsPeer old new
left_by true end old new l = ap (λ (v : Talking). stage_peer v.stage) l
left_by false end old new l = ap (λ (v : Talking). stage_peer v.stage) l.is

left_peer : (end : ConnEnd) (old new : Talking) → IsLeft end old new → KeepsPeer old new
left_peer end old new l = left_by (is_open_stage old.stage) end old new l

asked_peer : (asked : PendingEvent) (event : EventKind) (past : Past) (who : ℕ) (stage : Stage)
    → IsWaiting (progresses.Running asked) (Some event) → stage_peer stage ≡ peer_opened past who
    → stage_peer (stage_by asked stage)
    ≡ peer_opened (with_event who event past) who
asked_peer asked event past who stage w h =
    by asked event w ∙ sym (ap (λ (k : Option Key). option_map (λ (key : Key). key.peer) k)
    (opened_here event past who))
  where
    by : (asked : PendingEvent) (event : EventKind)
        → IsWaiting (progresses.Running asked) (Some event)
        → stage_peer (stage_by asked stage) ≡ option_map (λ (key : Key). key.peer)
        (opened_by (sort_of event) past (opened_in past who))
    by (askeds.Opening peer granted) (events.Open opened) w = ap (λ (n : ℕ). Some n) w
    by (askeds.Requesting invoke) (events.Request call) w = h
    by askeds.Taking events.Take w = h
    by (askeds.Closing cause) events.Close w = closed_peer stage ∙ h
    by asked event w = absurd w

-- ---- an event that was answered or refused

pub told_peer : (setup : Setup) (past after : Past) (who : ℕ) (event : EventKind) (answer : Answer)
    (old between : Talking) → CameBehind setup who past event (Ok answer) after
    → between.stage ≡ stage_told old.progress (Ok answer) old.stage
    → IsWaiting old.progress (Some event) → HasItsPeer past who old
    → HasItsPeer after who between
told_peer setup past after who event answer old between b is waits h =
    let now = b.others ++ past in
    let found = waiting_of old.progress event waits in
    ap stage_peer (is ∙ ap (λ (p : Progress). stage_told p (Ok answer) old.stage) found.1)
    ∙ asked_peer found.0 event now who old.stage
    (subst (λ (p : Progress). IsWaiting p (Some event)) found.1 waits)
    (opened_kept past now who old (others_opened who b.others past b.apart) h)
    ∙ sym (ap (λ (p : Past). peer_opened p who) b.after_is)

pub refused_peer : (setup : Setup) (past after : Past) (who : ℕ) (event : EventKind)
    (fault : StepFault) (end : ConnEnd) (old between : Talking)
    → CameBehind setup who past event (Err fault) after → IsLeft end old between
    → HasItsPeer past who old → HasItsPeer after who between
refused_peer setup past after who event fault end old between b left h =
    left_peer end old between left ∙ opened_kept past after who old
    (ap (λ (p : Past). opened_in p who) b.after_is ∙ others_opened who b.others past b.apart) h

-- ---- a close

-- it was told that its association is closed
pub closed_keeps : (rows : CentreRows) (past : Past) (who : ℕ) (event : EventKind)
    (answer : Answer) (old new : Talking) → IsAskingClose rows past who event old
    → TellsAnswer (Ok answer) old new → KeepsPeer old new
closed_keeps rows past who event answer old new asks t =
    ap stage_peer (t.stage
    ∙ ap (λ (p : Progress). stage_told p (Ok answer) old.stage) asks.6.progress)
    ∙ closed_peer old.stage

pub stage_keeps : (old new : Talking) → new.stage ≡ old.stage → KeepsPeer old new
stage_keeps old new e = ap stage_peer e

pub given_peer : (past : Past) (who : ℕ) (end : ConnEnd) (old left : Talking)
    → IsLeft end old left → HasItsPeer past who old → HasItsPeer past who left
given_peer past who end old left l h = left_peer end old left l ∙ h

pub shut_peer : (past after : Past) (who : ℕ) (left new : Talking) → IsShut who past after
    → KeepsPeer left new → HasItsPeer past who left → HasItsPeer after who new
shut_peer past after who left new shut keeps h =
    opened_kept past after who new (shut_opened past after who shut) (keeps ∙ h)

pub goes_peer : (goes : Bool) (rows : CentreRows) (past after : Past) (who : ℕ)
    (old new : Talking) → GoesOrShuts goes rows who past old after new → KeepsPeer old new
    → HasItsPeer past who old → HasItsPeer after who new
goes_peer true rows past after who old new g keeps h =
    opened_kept past after who new (ap (λ (p : Past). opened_in p who) g.1) (keeps ∙ h)
goes_peer false rows past after who old new g keeps h =
    shut_peer past after who old new g.1 keeps h
