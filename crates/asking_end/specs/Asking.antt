-- How an agenda is asked, apart from octets: which call is said next and by which number, what a
-- reply and a report come to, and when the association is concluded and released.
use Rattle.std.specs.Prelude.{◌≡◌, ℕ, ◌+◌, ◌≤◌, ◌==◌, nat_lt, Bool, true, false, if◌then◌else◌}
use Rattle.std.specs.Prelude.{List, []}
use Rattle.std.specs.Prelude.{Option, Some, None, option_map}
use Rattle.mms_services.specs.declared.pdu.MmsPdu.{MmsPdu}
use Rattle.mms_services.specs.declared.pdu.MmsPdu.TheVariants as pdus
use Rattle.stack_assoc.specs.declared.wire.setup.AssociationSetup.{AssociationSetup}
use Rattle.tase_views.specs.declared.reply.ReplyKind.{ReplyKind}
use Rattle.tase_views.specs.declared.reply.ReportKind.{ReportKind}
use Rattle.tase_conn.specs.Map.Out.{said}
use Rattle.asking_end.specs.declared.limits.TheConstants.{LAST_INVOKE}
use Rattle.asking_end.specs.declared.next.Next.{Next}
use Rattle.asking_end.specs.declared.next.Next.TheVariants as nexts
use Rattle.asking_end.specs.declared.end.AskEnd.{AskEnd}
use Rattle.asking_end.specs.declared.end.AskEnd.TheVariants as ends
use Rattle.asking_end.specs.declared.asker.Awaiting.{Awaiting}
use Rattle.asking_end.specs.declared.asker.Awaiting.TheVariants as awaits
use Rattle.asking_end.specs.declared.asker.AskMove.{AskMove}
use Rattle.asking_end.specs.declared.asker.AskMove.TheVariants as moves
use Rattle.asking_end.specs.declared.asker.Asker.{Asker}
use Rattle.asking_end.specs.Agendas.{AgendaActs, AgendaTurn}
use Rattle.asking_end.specs.Sayings.{request_pdu, pdu_said, finish_said}

-- ---- numbers

-- the number of the request behind the one with this number: the first is 1, and behind the highest
-- number 1 comes again
abbrev pub request_behind : ℕ → ℕ
request_behind number = if nat_lt number LAST_INVOKE then number + 1 else 1

abbrev pub is_reply_awaited : Awaiting → Bool
is_reply_awaited awaits.Reply = true
is_reply_awaited awaiting = false

-- the last request that was said, where this is awaited from now on: a further one for a reply
abbrev pub last_request : Awaiting → ℕ → ℕ
last_request awaiting number =
    if is_reply_awaited awaiting then request_behind number else number

-- this is awaited from now on
abbrev pub turned_to : {A : Type 0} → Awaiting → Asker A → Asker A
turned_to awaiting p =
    record p { last = last_request awaiting p.last; awaiting = awaiting }

-- the number of the request whose reply is awaited
abbrev pub number_awaited : {A : Type 0} → Asker A → Option ℕ
number_awaited p = if is_reply_awaited p.awaiting then Some p.last else None

-- the last request has a number that requests have
abbrev pub HasNumber : {A : Type 0} → Asker A → Type 0
HasNumber p = p.last ≤ LAST_INVOKE

-- ---- what is said

-- the request of the call that is asked
abbrev pub request_awaited : {A E I : Type 0} → AgendaActs A E I → Asker A → Option MmsPdu
request_awaited acts p = option_map (request_pdu p.last) (acts.call p.agenda)

-- what is said where this is awaited from now on: the request of the call that is asked, the
-- conclude, the finish
abbrev pub awaited_said : {A E I : Type 0} → AgendaActs A E I → AssociationSetup → Awaiting
    → Asker A → List ℕ
awaited_said acts setup awaits.Association p = []
awaited_said acts setup awaits.Nothing p = []
awaited_said acts setup awaits.Conclusion p = said setup pdus.Conclude
awaited_said acts setup awaits.Release p = finish_said setup
awaited_said acts setup awaits.Reply p = pdu_said setup (request_awaited acts p)

-- ---- what is heard

-- an agenda before the association stands
abbrev pub at_call : {A : Type 0} → A → Asker A
at_call agenda = record { agenda = agenda; last = 0; awaiting = awaits.Association }

-- what a message comes to: how the agenda is asked behind it, and what the calling end is to do
abbrev pub AskTurn : Type 0 → Type 0 → Type 0
AskTurn A E = Asker A × AskMove E

abbrev pub with_agenda : {A : Type 0} → A → Asker A → Asker A
with_agenda agenda p = record p { agenda = agenda }

-- the agenda is this, and wants this next
abbrev pub went_on : {A E : Type 0} → A → Next E → Asker A → AskTurn A E
went_on agenda nexts.Wait p = (turned_to awaits.Nothing (with_agenda agenda p), moves.Wait)
went_on agenda nexts.Ask p = (turned_to awaits.Reply (with_agenda agenda p), moves.Say)
went_on agenda nexts.Conclude p = (turned_to awaits.Conclusion (with_agenda agenda p), moves.Say)
went_on agenda (nexts.End end) p = (with_agenda agenda p, moves.End (ends.ByAgenda end))

abbrev pub went_by : {A E : Type 0} → AgendaTurn A E → Asker A → AskTurn A E
went_by turn p = went_on turn.0 turn.1 p

-- the association stands
abbrev pub begun : {A E I : Type 0} → AgendaActs A E I → Asker A → AskTurn A E
begun acts p = went_by (acts.begun p.agenda) p

-- whether a reply to a request with a number, or to none that it tells, is the one that is awaited
abbrev pub is_awaited : Option ℕ → Option ℕ → Bool
is_awaited None number = false
is_awaited (Some awaited) None = true
is_awaited (Some awaited) (Some number) = awaited == number

-- a reply that isn't awaited: it ends the calling end, but for a reject without a number
abbrev pub move_unawaited : {E : Type 0} → Option ℕ → AskMove E
move_unawaited None = moves.Wait
move_unawaited (Some number) = moves.End (ends.Stray number)

-- the reply that is awaited
abbrev pub answered : {A E I : Type 0} → AgendaActs A E I → ReplyKind → Asker A → AskTurn A E
answered acts reply p = went_by (acts.replied p.last reply p.agenda) p

-- a reply is heard, which tells the number of its request but in a reject without one
abbrev pub reply_heeded : {A E I : Type 0} → AgendaActs A E I → Option ℕ → ReplyKind → Asker A
    → AskTurn A E
reply_heeded acts number reply p =
    if is_awaited (number_awaited p) number then answered acts reply p
    else (p, move_unawaited number)

-- a report is heard by the agenda while nothing is asked
abbrev pub report_counted : {A E I : Type 0} → AgendaActs A E I → Awaiting → ReportKind → Asker A
    → AskTurn A E
report_counted acts awaits.Nothing report p = went_by (acts.reported report p.agenda) p
report_counted acts awaiting report p = (p, moves.Wait)

abbrev pub report_heeded : {A E I : Type 0} → AgendaActs A E I → ReportKind → Asker A
    → AskTurn A E
report_heeded acts report p = report_counted acts p.awaiting report p

-- the answer to a conclude has the release asked for
abbrev pub concluded_for : {A E I : Type 0} → AgendaActs A E I → Awaiting → Asker A → AskTurn A E
concluded_for acts awaits.Conclusion p = (record p { awaiting = awaits.Release }, moves.Say)
concluded_for acts awaiting p = (p, moves.Wait)

-- the end where the peer has released the association
abbrev pub released : {E : Type 0} → Awaiting → AskEnd E
released awaits.Release = ends.Finished
released awaiting = ends.PeerEnd

-- what is said behind a move has the number behind the last request's, where it is a request;
-- nothing else changes the number of the last request
abbrev pub IsNumbered : {A E : Type 0} → AskMove E → Asker A → Asker A → Type 0
IsNumbered moves.Say before after = after.last ≡ last_request after.awaiting before.last
IsNumbered move before after = after.last ≡ before.last
