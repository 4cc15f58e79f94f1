-- Which events take orders of the plant, and what their answers print: a link asks none of them.
use Rattle.std.proofs.Common.{◌≡◌, ℕ, zero, suc, Bool, true, false, List, [], ◌∷◌, ◌++◌, length}
use Rattle.std.proofs.Common.{map, drop, Option, Some, None, refl, ap, ◌∙◌, append_assoc}
use Rattle.std.specs.Prelude.{codes, decimal, flat_map}
use Rattle.std.specs.List.{AllByRecursion, filter_map, cons_option}
use Rattle.sbo_device.specs.declared.key.Key.{Key}
use Rattle.sbo_device.specs.declared.order.Order.{Order}
use Rattle.bilateral.specs.Rows.{CentreRows, place_of_title}
use Rattle.tase_views.specs.Setup.{Setup}
use Rattle.tase_views.specs.declared.event.EventKind.{EventKind}
use Rattle.tase_views.specs.declared.event.EventKind.TheVariants as events
use Rattle.tase_views.specs.declared.fault.StepFault.{StepFault}
use Rattle.tase_views.specs.declared.reply.Answer.{Answer}
use Rattle.tase_views.specs.declared.reply.Answer.TheVariants as answers
use Rattle.tase_views.specs.declared.reply.ReplyKind.{ReplyKind}
use Rattle.tase_views.specs.declared.reply.ReportKind.{ReportKind}
use Rattle.tase_views.specs.Moves.{Act, Move, acts, opens, takes, closes, EventSort, opening}
use Rattle.tase_views.specs.Moves.{requesting, taking, closing, taking_orders, feeding, sort_of}
use Rattle.tase_views.specs.Moves.{acts_of_call, moves_by, moves_of}
use Rattle.tase_views.specs.History.{Past}
use Rattle.tase_views.specs.OwnTables.{Owns}
use Rattle.tase_views.specs.Outcomes.{refusal_of, answer_of, answer_at}
use Rattle.tase_views.specs.Orders.{orders_taken}
use Rattle.texts.specs.Events.ReplyTexts.{reply_text}
use Rattle.texts.specs.Reports.ReportTexts.{report_text}
use Rattle.conn_service.specs.TaseConn.Map.Inputs.{Item}
use Rattle.conn_service.specs.TaseConn.Map.Turns.{Turn}
use Rattle.conn_service.specs.TaseConn.Map.Turns as turns
use Rattle.conn_service.specs.TaseConn.Map.Asks.{asks_of, asks_at, asks_behind, open_of, event_if, is_open_behind}
use Rattle.conn_service.specs.TaseConn.Map.Asks.{up_to_last}
use Rattle.conn_service.specs.TaseConn.Map.Turns.{turns_of}
use Rattle.conn_service.specs.TaseConn.Map.Sent.{with_event}
use Rattle.conn_service.specs.TaseConn.declared.stage.ConnEnd.{ConnEnd}
use Rattle.conn_service.specs.Courses.AnswerEnd.{end_answered}
use Rattle.conn_service.specs.Served.{Served, served, served_by}
use Rattle.conn_service.specs.Sends.{close_of}
use Rattle.tase_replay.specs.Links.{asks_more, line_of_out, line_of_end, end_text}
use Rattle.tase_replay.specs.Play.{line_of_reply, line_of_report, order_words, line_of_order}
use Rattle.tase_replay.specs.Play.{printed_of}
use Rattle.tase_replay.specs.PrintedLines.{behind_front}
use Rattle.tase_replay.specs.OrdersPrinted.{orders_shown}
use Rattle.plain_text.specs.Octets.{hex_text}
use Rattle.tase_replay.proofs.Printable.{IsPrintable, of_words, printable-append, hex-printable}
use Rattle.tase_replay.proofs.Printable.{reply-printable, report-printable, order-printable}
use Rattle.tase_replay.proofs.Printable.{end-printable}
use Rattle.tase_replay.proofs.PrintedBack.{line-printable}
use Rattle.texts.proofs.OfJournal.TextLines.{lines-more}

-- ---- events

-- an event by which the plant takes no orders
abbrev TakesNoneBy : EventSort → Type 0
TakesNoneBy taking_orders = ⊥
TakesNoneBy _ = Unit {0}

abbrev pub TakesNone : EventKind → Type 0
TakesNone event = TakesNoneBy (sort_of event)

acts-take_none : (rows : CentreRows) (owns : Owns) (key : Key) (these : List Act)
    (before : List Move)
    → orders_taken rows owns (map (acts key) these ++ before) ≡ orders_taken rows owns before
acts-take_none rows owns key [] before = refl
acts-take_none rows owns key (act ∷ these) before = acts-take_none rows owns key these before

by-take_none : (rows : CentreRows) (owns : Owns) (found : Option Key) (these : List Act)
    (before : List Move)
    → orders_taken rows owns (moves_by found these ++ before) ≡ orders_taken rows owns before
by-take_none rows owns None these before = refl
by-take_none rows owns (Some key) these before = acts-take_none rows owns key these before

-- it leaves those that were taken
pub moves-take_none : (rows : CentreRows) (owns : Owns) (event : EventKind) (found : Option Key)
    (before : List Move) → TakesNone event
    → orders_taken rows owns (moves_of (sort_of event) found ++ before)
    ≡ orders_taken rows owns before
moves-take_none rows owns (events.Open peer) found before none =
    by-take_none rows owns found (opens ∷ []) before
moves-take_none rows owns (events.Request call) found before none =
    by-take_none rows owns found (acts_of_call call) before
moves-take_none rows owns events.Take found before none =
    by-take_none rows owns found (takes ∷ []) before
moves-take_none rows owns events.Close found before none =
    by-take_none rows owns found (closes ∷ []) before
moves-take_none rows owns (events.Update point value) found before none = refl
moves-take_none rows owns (events.Table peer variant) found before none = refl
moves-take_none rows owns (events.Tag device tag) found before none = refl
moves-take_none rows owns (events.Tick now) found before none = refl
moves-take_none rows owns (events.Ask asker slot) found before none = refl
moves-take_none rows owns events.TakeOrders found before none = absurd none
moves-take_none rows owns events.Stop found before none = refl

-- ---- what a link asks

abbrev pub AllTakeNone : List EventKind → Type 0
AllTakeNone asked = AllByRecursion TakesNone asked

pub append-take_none : (first next : List EventKind) → AllTakeNone first → AllTakeNone next
    → AllTakeNone (first ++ next)
append-take_none [] next a b = b
append-take_none (event ∷ first) next a b = (a.0, append-take_none first next a.1 b)

drop-take_none : (count : ℕ) (asked : List EventKind) → AllTakeNone asked
    → AllTakeNone (drop count asked)
drop-take_none zero asked a = a
drop-take_none (suc count) [] a = tt
drop-take_none (suc count) (event ∷ asked) a = drop-take_none count asked a.1

open-takes_none : (found : Option ℕ) → AllTakeNone (open_of found)
open-takes_none None = tt
open-takes_none (Some peer) = (tt, tt)

if-takes_none : (b : Bool) (event : EventKind) → TakesNone event → AllTakeNone (event_if b event)
if-takes_none true event none = (none, tt)
if-takes_none false event none = tt

turn-takes_none : (rows : CentreRows) (before : List Turn) (turn : Turn)
    → AllTakeNone (asks_at rows before turn)
turn-takes_none rows before (turns.offers title) = open-takes_none (place_of_title rows title)
turn-takes_none rows before turns.offers_badly = tt
turn-takes_none rows before (turns.asks invoke call) = (tt, tt)
turn-takes_none rows before turns.pauses =
    if-takes_none (is_open_behind rows before) events.Take tt
turn-takes_none rows before turns.concludes =
    if-takes_none (is_open_behind rows before) events.Close tt
turn-takes_none rows before turns.releases =
    if-takes_none (is_open_behind rows before) events.Close tt
turn-takes_none rows before turns.aborts =
    if-takes_none (is_open_behind rows before) events.Close tt
turn-takes_none rows before turns.breaks =
    if-takes_none (is_open_behind rows before) events.Close tt
turn-takes_none rows before turns.ends =
    if-takes_none (is_open_behind rows before) events.Close tt

turns-take_none : (rows : CentreRows) (before these : List Turn)
    → AllTakeNone (asks_behind rows before these)
turns-take_none rows before [] = tt
turns-take_none rows before (turn ∷ these) =
    append-take_none (asks_at rows before turn) (asks_behind rows (before ++ turn ∷ []) these)
    (turn-takes_none rows before turn) (turns-take_none rows (before ++ turn ∷ []) these)

pub asks-take_none : (rows : CentreRows) (before : List Item) (item : Item)
    → AllTakeNone (asks_more rows before item)
asks-take_none rows before item =
    let items = before ++ item ∷ [] in
    drop-take_none (length (asks_of rows before)) (asks_of rows items)
    (turns-take_none rows [] (up_to_last rows (turns_of items)))

-- nor do those that a node takes of them
pub served-take_none : (setup : Setup) (who : ℕ) (items : List Item) (past : Past)
    (asked : List EventKind) → AllTakeNone asked
    → AllTakeNone (served setup who items past asked).taken
served-take_none setup who items past [] a = tt
served-take_none setup who items past (event ∷ asked) a =
    by (refusal_of setup past who event) (end_answered items (answer_of setup past who event))
    (served setup who items (with_event who event past) asked)
    (served-take_none setup who items (with_event who event past) asked a.1)
  where
    by : (r : Option StepFault) (left : Option ConnEnd) (more : Served) → AllTakeNone more.taken
        → AllTakeNone (served_by past (with_event who event past) event r left more).taken
    by None None more b = (a.0, b)
    by None (Some end) more b = (a.0, tt)
    by (Some fault) left more b = tt

pub close-takes_none : (found : Option Key) → AllTakeNone (close_of found)
close-takes_none None = tt
close-takes_none (Some key) = (tt, tt)

-- ---- what texts show

line-shows : (line rest : List ℕ) → IsPrintable line
    → orders_shown ((line ++ 10 ∷ []) ++ rest)
    ≡ cons_option (behind_front (codes "order ") line) (orders_shown rest)
line-shows line rest are =
    ap orders_shown (append_assoc line (10 ∷ []) rest)
    ∙ ap (λ ls. filter_map (behind_front (codes "order ")) ls) (lines-more line rest are.octets)

-- the lines of orders show these
pub orders-show : (rows : CentreRows) (orders : List Order) (rest : List ℕ)
    → orders_shown (flat_map (line_of_order rows) orders ++ rest)
    ≡ map (order_words rows) orders ++ orders_shown rest
orders-show rows [] rest = refl
orders-show rows (order ∷ orders) rest =
    let more : List ℕ = flat_map (line_of_order rows) orders in
    ap orders_shown (append_assoc (line_of_order rows order) more rest)
    ∙ line-shows (codes "order " ++ order_words rows order) (more ++ rest)
    (printable-append (of_words (codes "order ") refl) (order-printable rows order))
    ∙ ap (λ shown. order_words rows order ∷ shown) (orders-show rows orders rest)

-- a text that shows none, whatever stands behind it
abbrev pub ShowsNone : List ℕ → Type 0
ShowsNone text = (rest : List ℕ) → orders_shown (text ++ rest) ≡ orders_shown rest

append-shows_none : (a b : List ℕ) → ShowsNone a → ShowsNone b → ShowsNone (a ++ b)
append-shows_none a b first second = λ rest. ap orders_shown (append_assoc a b rest)
    ∙ first (b ++ rest) ∙ second rest

reply-shows_none : (who : ℕ) (reply : ReplyKind) → ShowsNone (line_of_reply who reply)
reply-shows_none who reply = λ rest.
    line-shows (codes "reply " ++ decimal who ++ 32 ∷ reply_text reply) rest
    (line-printable (codes "reply ") who (reply_text reply) (of_words _ refl)
    (reply-printable reply))

report-shows_none : (who : ℕ) (report : ReportKind) → ShowsNone (line_of_report who report)
report-shows_none who report = λ rest.
    line-shows (codes "report " ++ decimal who ++ 32 ∷ report_text report) rest
    (line-printable (codes "report ") who (report_text report) (of_words _ refl)
    (report-printable report))

reports-show_none : (who : ℕ) (reports : List ReportKind)
    → ShowsNone (flat_map (line_of_report who) reports)
reports-show_none who [] = λ rest. refl
reports-show_none who (report ∷ reports) =
    append-shows_none (line_of_report who report) (flat_map (line_of_report who) reports)
    (report-shows_none who report) (reports-show_none who reports)

out-shows_none : (who : ℕ) (octets : List ℕ) → ShowsNone (line_of_out who octets)
out-shows_none who [] = λ rest. refl
out-shows_none who (octet ∷ octets) = λ rest.
    line-shows (codes "out " ++ decimal who ++ 32 ∷ hex_text (octet ∷ octets)) rest
    (line-printable (codes "out ") who (hex_text (octet ∷ octets)) (of_words _ refl)
    (hex-printable (octet ∷ octets)))

end-shows_none : (who : ℕ) (end : Option ConnEnd) → ShowsNone (line_of_end who end)
end-shows_none who None = λ rest. refl
end-shows_none who (Some end) = λ rest.
    line-shows (codes "ended " ++ decimal who ++ 32 ∷ end_text end) rest
    (line-printable (codes "ended ") who (end_text end) (of_words _ refl) (end-printable end))

-- what is sent to the peer of a link
pub sent-shows_none : (who : ℕ) (octets : List ℕ) (end : Option ConnEnd)
    → ShowsNone (line_of_out who octets ++ line_of_end who end)
sent-shows_none who octets end = append-shows_none (line_of_out who octets)
    (line_of_end who end) (out-shows_none who octets) (end-shows_none who end)

-- every other answer
abbrev HasNone : Answer → Type 0
HasNone (answers.Orders orders) = ⊥
HasNone _ = Unit {0}

answer-has_none : (rows : CentreRows) (past : Past) (sort : EventSort) (found : Option Key)
    → TakesNoneBy sort → HasNone (answer_at rows past sort found)
answer-has_none rows past (opening peer) None none = tt
answer-has_none rows past (opening peer) (Some key) none = tt
answer-has_none rows past (requesting call) None none = tt
answer-has_none rows past (requesting call) (Some key) none = tt
answer-has_none rows past taking None none = tt
answer-has_none rows past taking (Some key) none = tt
answer-has_none rows past closing None none = tt
answer-has_none rows past closing (Some key) none = tt
answer-has_none rows past taking_orders found none = absurd none
answer-has_none rows past (feeding move) None none = tt
answer-has_none rows past (feeding move) (Some key) none = tt

printed-none : (rows : CentreRows) (who : ℕ) (answer : Answer) → HasNone answer
    → ShowsNone (printed_of rows who answer)
printed-none rows who (answers.Opened key) none = λ rest. refl
printed-none rows who (answers.Reply reply) none = reply-shows_none who reply
printed-none rows who (answers.Reports reports) none = reports-show_none who reports
printed-none rows who answers.Closed none = λ rest. refl
printed-none rows who (answers.Orders orders) none = absurd none
printed-none rows who answers.Noted none = λ rest. refl

pub answer-shows_none : (rows : CentreRows) (past : Past) (who : ℕ) (event : EventKind)
    (found : Option Key) → TakesNone event
    → ShowsNone (printed_of rows who (answer_at rows past (sort_of event) found))
answer-shows_none rows past who event found none =
    printed-none rows who (answer_at rows past (sort_of event) found)
    (answer-has_none rows past (sort_of event) found none)
