-- All orders that the plant takes at the lines of a play are printed, each once and in order, and
-- no other order is.
use Rattle.std.proofs.Common.{◌≡◌, ℕ, ◌+◌, Bool, true, false, cond, List, [], ◌∷◌, ◌++◌, map}
use Rattle.std.proofs.Common.{reverse, drop, Option, Some, None, refl, sym, ap, subst, ◌∙◌}
use Rattle.std.proofs.Common.{append_assoc}
use Rattle.std.proofs.lemmas.List.{append-nil, map-append, reverse-append}
use Rattle.plain_text.specs.Lines.{is_skipped}
use Rattle.bilateral.specs.Rows.{CentreRows}
use Rattle.sbo_device.specs.declared.order.Order.{Order}
use Rattle.tase_views.specs.declared.event.Entry.{Entry}
use Rattle.tase_views.specs.declared.event.EventKind.{EventKind}
use Rattle.tase_views.specs.declared.event.EventKind.TheVariants as events
use Rattle.tase_views.specs.declared.fault.StepFault.{StepFault}
use Rattle.tase_views.specs.declared.fault.StepFault.TheVariants as faults
use Rattle.tase_views.specs.Setup.{Setup}
use Rattle.tase_views.specs.History.{Past, association_in, key_at}
use Rattle.tase_views.specs.OwnTables.{own_tables}
use Rattle.tase_views.specs.View.{moves_in}
use Rattle.tase_views.specs.Orders.{orders_taken, orders_left}
use Rattle.tase_views.specs.Outcomes.{refusal_of}
use Rattle.tase_views.proofs.OrdersGiven.{taken_and_left}
use Rattle.conn_service.specs.TaseConn.declared.stage.ConnEnd.{ConnEnd}
use Rattle.conn_service.specs.TaseConn.declared.stage.ConnEnd.TheVariants as conn_ends
use Rattle.conn_service.specs.TaseConn.PeerEnd.{peer_end}
use Rattle.conn_service.specs.Served.{Served, with_closed}
use Rattle.conn_service.specs.Sends.{close_of}
use Rattle.tase_replay.specs.Lines.{entry_by}
use Rattle.tase_replay.specs.Links.{SeatItem, Asking, an_event, an_item, asking_in, items_of}
use Rattle.tase_replay.specs.Links.{asks_more}
use Rattle.tase_replay.specs.Play.{Step, Scene, LineMeaning, bad, too_heavy, gives, TakenLine}
use Rattle.tase_replay.specs.Play.{step_of, meaning_of, entry_meaning, entry_step}
use Rattle.tase_replay.specs.Play.{entry_steps, order_words, linked, linked_up_to, linked_by}
use Rattle.tase_replay.specs.Play.{link_step, behind_link, received, is_unfit, items_with}
use Rattle.tase_replay.specs.Play.{served_item, is_linked, with_taken, means, line_meaning}
use Rattle.tase_replay.specs.Play.{octets_between, play_line, play, first_scene, steps_in}
use Rattle.tase_replay.specs.Play.{entries_in, printed_in}
use Rattle.tase_replay.specs.OrdersPrinted.{orders_shown, words_taken, AreOrdersPrinted}
use Rattle.tase_replay.proofs.Taking.{entries_in-append, printed_in-append}
use Rattle.tase_replay.proofs.Linking.{entries_by, entries_steps, past_served, past_closed}
use Rattle.tase_replay.proofs.OrdersTaken.{TakesNone, AllTakeNone, moves-take_none}
use Rattle.tase_replay.proofs.OrdersTaken.{append-take_none, asks-take_none, served-take_none}
use Rattle.tase_replay.proofs.OrdersTaken.{close-takes_none, orders-show, ShowsNone}
use Rattle.tase_replay.proofs.OrdersTaken.{sent-shows_none, answer-shows_none}

-- ---- steps

-- the plant takes orders at these steps behind this history, and their text shows them
record ShowsOrders (rows : CentreRows) (past : Past) (steps : List Step) : Type 0 where
  orders : List (List ℕ)
  taken : words_taken rows (reverse (entries_in steps) ++ past) ≡ words_taken rows past ++ orders
  shown : (rest : List ℕ)
      → orders_shown (printed_in steps ++ rest) ≡ orders ++ orders_shown rest

shows_nothing : (rows : CentreRows) (past : Past) → ShowsOrders rows past []
shows_nothing rows past = record {
  orders = [];
  taken = sym (append-nil (words_taken rows past));
  shown = λ rest. refl;
}

shows_both : (rows : CentreRows) (past : Past) (a b : List Step) → ShowsOrders rows past a
    → ShowsOrders rows (reverse (entries_in a) ++ past) b → ShowsOrders rows past (a ++ b)
shows_both rows past a b p q = record {
  orders = p.orders ++ q.orders;
  taken = ap (λ (es : List Entry). words_taken rows (reverse es ++ past)) (entries_in-append a b)
      ∙ ap (λ (es : Past). words_taken rows (es ++ past))
      (reverse-append (entries_in a) (entries_in b))
      ∙ ap (λ (es : Past). words_taken rows es)
      (append_assoc (reverse (entries_in b)) (reverse (entries_in a)) past)
      ∙ q.taken ∙ ap (λ (ws : List (List ℕ)). ws ++ q.orders) p.taken
      ∙ append_assoc (words_taken rows past) p.orders q.orders;
  shown = λ rest. ap (λ (text : List ℕ). orders_shown (text ++ rest)) (printed_in-append a b)
      ∙ ap orders_shown (append_assoc (printed_in a) (printed_in b) rest)
      ∙ p.shown (printed_in b ++ rest)
      ∙ ap (λ (ws : List (List ℕ)). p.orders ++ ws) (q.shown rest)
      ∙ sym (append_assoc p.orders q.orders (orders_shown rest));
}

-- an event by which the plant takes none
quiet-event : (rows : CentreRows) (past : Past) (entry : Entry) (step : Step)
    → step.entries ≡ entry ∷ [] → TakesNone entry.event → ShowsNone step.printed
    → ShowsOrders rows past (step ∷ [])
quiet-event rows past entry step e none quiet = record {
  orders = [];
  taken = ap (λ (es : List Entry). words_taken rows (reverse (es ++ []) ++ past)) e
      ∙ ap (λ (os : List Order). map (order_words rows) os)
      (moves-take_none rows (own_tables rows) entry.event (key_at entry.event past entry.who)
      (moves_in past) none)
      ∙ sym (append-nil (words_taken rows past));
  shown = λ rest. ap (λ (text : List ℕ). orders_shown (text ++ rest)) (append-nil step.printed)
      ∙ quiet rest;
}

-- what is sent to the peer of a link
quiet-sent : (rows : CentreRows) (past : Past) (before after : Scene) (given : SeatItem)
    (end : Option ConnEnd) → ShowsOrders rows past (link_step rows before after given end ∷ [])
quiet-sent rows past before after given end =
    let step : Step = link_step rows before after given end in
    record {
      orders = [];
      taken = sym (append-nil (words_taken rows past));
      shown = λ rest. ap (λ (text : List ℕ). orders_shown (text ++ rest)) (append-nil step.printed)
          ∙ sent-shows_none given.who (octets_between rows given.who before after) end rest;
    }

-- events of a link
quiet-events : (rows : CentreRows) (past : Past) (who : ℕ) (these : List EventKind)
    → AllTakeNone these → ShowsOrders rows past (entry_steps who these)
quiet-events rows past who [] none = shows_nothing rows past
quiet-events rows past who (event ∷ these) none =
    shows_both rows past (entry_step (entry_by event who) ∷ []) (entry_steps who these)
    (quiet-event rows past (entry_by event who) (entry_step (entry_by event who)) refl none.0
    (λ rest. refl))
    (quiet-events rows (entry_by event who ∷ past) who these none.1)

-- an event of another line
shows-event : (setup : Setup) (past : Past) (who : ℕ) (event : EventKind)
    → ShowsOrders setup.centre past (step_of setup past (entry_by event who) ∷ [])
shows-event setup past who event = by event
  where
    other : (event : EventKind) → TakesNone event
        → ShowsOrders setup.centre past (step_of setup past (entry_by event who) ∷ [])
    other event none = quiet-event setup.centre past (entry_by event who)
        (step_of setup past (entry_by event who)) refl none
        (answer-shows_none setup.centre past who event (key_at event past who) none)

    by : (event : EventKind)
        → ShowsOrders setup.centre past (step_of setup past (entry_by event who) ∷ [])
    by (events.Open peer) = other (events.Open peer) tt
    by (events.Request call) = other (events.Request call) tt
    by events.Take = other events.Take tt
    by events.Close = other events.Close tt
    by (events.Update point value) = other (events.Update point value) tt
    by (events.Table peer variant) = other (events.Table peer variant) tt
    by (events.Tag device tag) = other (events.Tag device tag) tt
    by (events.Tick now) = other (events.Tick now) tt
    by (events.Ask asker slot) = other (events.Ask asker slot) tt
    by events.Stop = other events.Stop tt
    by events.TakeOrders =
        let rows = setup.centre in
        let moves = moves_in past in
        let left = orders_left rows (own_tables rows) moves in
        record {
          orders = map (order_words rows) left;
          taken = ap (λ (os : List Order). map (order_words rows) os)
              (sym (taken_and_left rows (own_tables rows) moves))
              ∙ map-append (order_words rows) (orders_taken rows (own_tables rows) moves) left;
          shown = λ rest. ap (λ (text : List ℕ). orders_shown (text ++ rest))
              (append-nil (step_of setup past (entry_by events.TakeOrders who)).printed)
              ∙ orders-show rows left rest;
        }

-- ---- lines

-- a line that is taken shows the orders that the plant takes at it
abbrev LineShows : CentreRows → Scene → LineMeaning → Type 0
LineShows rows scene bad = Unit {0}
LineShows rows scene (too_heavy steps weight limit) = Unit {0}
LineShows rows scene (gives steps after) = (after.past ≡ reverse (entries_in steps) ++ scene.past)
    × ShowsOrders rows scene.past steps

either-shows : (rows : CentreRows) (scene : Scene) (test : Bool) (a b : LineMeaning)
    → LineShows rows scene a → LineShows rows scene b → LineShows rows scene (cond test a b)
either-shows rows scene true a b first second = first
either-shows rows scene false a b first second = second

refused-shows : (rows : CentreRows) (scene after : Scene) (step : Step) (fault : Option StepFault)
    → LineShows rows scene (gives (step ∷ []) after)
    → LineShows rows scene (meaning_of after step fault)
refused-shows rows scene after step None shows = shows
refused-shows rows scene after step (Some faults.Memory) shows = tt
refused-shows rows scene after step (Some (faults.Stopped place)) shows = tt
refused-shows rows scene after step (Some (faults.HistoryFull weight limit)) shows = tt
refused-shows rows scene after step (Some faults.NoAssociation) shows = tt
refused-shows rows scene after step (Some faults.Already) shows = tt
refused-shows rows scene after step (Some faults.UnknownName) shows = tt
refused-shows rows scene after step (Some faults.ClockRange) shows = tt
refused-shows rows scene after step (Some (faults.Backward last)) shows = tt

entry-shows : (setup : Setup) (scene : Scene) (entry : Entry)
    → LineShows setup.centre scene (entry_meaning setup scene entry)
entry-shows setup scene entry =
    either-shows setup.centre scene (is_linked entry.who scene) bad _ tt
    (refused-shows setup.centre scene (with_taken entry scene) (step_of setup scene.past entry)
    (refusal_of setup scene.past entry.who entry.event)
    (refl, shows-event setup scene.past entry.who entry.event))

linked-shows : (rows : CentreRows) (scene : Scene) (given : SeatItem) (these : List EventKind)
    (past : Past) (end : Option ConnEnd) → AllTakeNone these
    → past ≡ reverse (entries_by given.who these) ++ scene.past
    → LineShows rows scene (linked rows scene given (entry_steps given.who these) past end)
linked-shows rows scene given these past end none grown =
    let steps = entry_steps given.who these in
    let link : Step = link_step rows scene (behind_link scene past given end) given end in (
      grown ∙ ap (λ (es : List Entry). reverse es ++ scene.past)
          (sym (entries_in-append steps (link ∷ []) ∙ append-nil (entries_in steps)
          ∙ entries_steps given.who these)),
      shows_both rows scene.past steps (link ∷ [])
          (quiet-events rows scene.past given.who these none)
          (quiet-sent rows (reverse (entries_in steps) ++ scene.past) scene
          (behind_link scene past given end) given end),
    )

-- what a node has taken of the events of a link
record IsServed (scene : Scene) (who : ℕ) (s : Served) : Type 0 where
  none : AllTakeNone s.taken
  grown : s.past ≡ reverse (entries_by who s.taken) ++ scene.past

cut-shows : (rows : CentreRows) (scene : Scene) (given : SeatItem) (s : Served)
    (end : Option ConnEnd) → IsServed scene given.who s
    → LineShows rows scene (linked rows scene given
    (entry_steps given.who (s.taken ++ close_of (association_in s.past given.who)))
    (with_closed given.who s.past) end)
cut-shows rows scene given s end is =
    let close = close_of (association_in s.past given.who) in
    linked-shows rows scene given (s.taken ++ close) (with_closed given.who s.past) end
    (append-take_none s.taken close is.none
    (close-takes_none (association_in s.past given.who)))
    (past_closed given.who scene.past s.taken s.past is.grown)

up_to-shows : (rows : CentreRows) (scene : Scene) (given : SeatItem) (end : Option ConnEnd)
    (s : Served) (left : Option ConnEnd) → IsServed scene given.who s
    → LineShows rows scene (linked_up_to rows scene given end s left)
up_to-shows rows scene given end s None is =
    linked-shows rows scene given s.taken s.past end is.none is.grown
up_to-shows rows scene given end s (Some over) is =
    cut-shows rows scene given s (Some over) is

by-shows : (rows : CentreRows) (scene : Scene) (given : SeatItem) (end : Option ConnEnd)
    (s : Served) (refusal : Option StepFault) → IsServed scene given.who s
    → LineShows rows scene (linked_by rows scene given end s refusal)
by-shows rows scene given end s None is = up_to-shows rows scene given end s s.end is
by-shows rows scene given end s (Some (faults.Stopped place)) is =
    cut-shows rows scene given s (Some conn_ends.Stopped) is
by-shows rows scene given end s (Some (faults.HistoryFull weight limit)) is = tt
by-shows rows scene given end s (Some faults.Memory) is = tt
by-shows rows scene given end s (Some faults.NoAssociation) is = tt
by-shows rows scene given end s (Some faults.Already) is = tt
by-shows rows scene given end s (Some faults.UnknownName) is = tt
by-shows rows scene given end s (Some faults.ClockRange) is = tt
by-shows rows scene given end s (Some (faults.Backward last)) is = tt

received-shows : (setup : Setup) (scene : Scene) (given : SeatItem)
    → LineShows setup.centre scene (received setup scene given)
received-shows setup scene given =
    let items = items_with scene given in
    let asked = asks_more setup.centre (items_of given.who scene.given) given.item in
    let s = served_item setup scene given in
    either-shows setup.centre scene (is_unfit given.who scene) bad _ tt
    (by-shows setup.centre scene given (peer_end setup.centre items) s s.refusal (record {
      none = served-take_none setup given.who items scene.past asked
          (asks-take_none setup.centre (items_of given.who scene.given) given.item);
      grown = past_served setup given.who items scene.past asked;
    }))

means-shows : (setup : Setup) (scene : Scene) (asked : Option Asking)
    → LineShows setup.centre scene (means setup scene asked)
means-shows setup scene None = tt
means-shows setup scene (Some (an_event entry)) = entry-shows setup scene entry
means-shows setup scene (Some (an_item given)) = received-shows setup scene given

line-shows : (setup : Setup) (scene : Scene) (line : List ℕ)
    → LineShows setup.centre scene (line_meaning setup scene line)
line-shows setup scene line =
    either-shows setup.centre scene (is_skipped line) (gives [] scene) _
    (refl, shows_nothing setup.centre scene.past)
    (means-shows setup scene (asking_in setup.centre line))

-- ---- a play

abbrev first_steps : List TakenLine → List Step
first_steps [] = []
first_steps (line ∷ lines) = line.steps

taken-shows : (setup : Setup) (scenario : List (List ℕ)) (scene : Scene) (number : ℕ)
    (taken others : List TakenLine)
    → (play setup scenario scene number).taken ≡ taken ++ others
    → ShowsOrders setup.centre scene.past (steps_in taken)
taken-shows setup scenario scene number [] others same = shows_nothing setup.centre scene.past
taken-shows setup [] scene number (t ∷ taken) others same = absurd cc
taken-shows setup (line ∷ more) scene number (t ∷ taken) others same =
    one (line_meaning setup scene line) (line-shows setup scene line) same
    (λ after e. taken-shows setup more after (number + 1) taken others e)
  where
    one : (meaning : LineMeaning) → LineShows setup.centre scene meaning
        → (play_line line number meaning (λ after. play setup more after (number + 1))).taken
        ≡ t ∷ (taken ++ others)
        → ((after : Scene) → (play setup more after (number + 1)).taken ≡ taken ++ others
        → ShowsOrders setup.centre after.past (steps_in taken))
        → ShowsOrders setup.centre scene.past (steps_in (t ∷ taken))
    one bad shows e each = absurd cc
    one (too_heavy steps weight limit) shows e each = absurd cc
    one (gives steps after) shows e each =
        let first : steps ≡ t.steps = ap (λ (ls : List TakenLine). first_steps ls) e in
        let rest = each after (ap (λ (ls : List TakenLine). drop 1 ls) e) in
        subst (λ (these : List Step). ShowsOrders setup.centre scene.past
        (these ++ steps_in taken)) first
        (shows_both setup.centre scene.past steps (steps_in taken) shows.1
        (subst (λ (p : Past). ShowsOrders setup.centre p (steps_in taken)) shows.0 rest))

-- the first lines that are taken show all orders that the plant takes at them
pub orders_printed : (setup : Setup) (scenario : List (List ℕ)) (history : List Entry)
    (taken others : List TakenLine)
    → (play setup scenario (first_scene (reverse history)) 1).taken ≡ taken ++ others
    → AreOrdersPrinted setup history taken
orders_printed setup scenario history taken others same =
    let shows = taken-shows setup scenario (first_scene (reverse history)) 1 taken others same in
    let steps = steps_in taken in
    ap (λ (past : Past). words_taken setup.centre past)
    (reverse-append history (entries_in steps))
    ∙ shows.taken ∙ ap (λ (ws : List (List ℕ)). words_taken setup.centre (reverse history) ++ ws)
    (sym (append-nil shows.orders) ∙ sym (shows.shown [])
    ∙ ap orders_shown (append-nil (printed_in steps)))

-- no line
pub no_orders : (setup : Setup) (history : List Entry) → AreOrdersPrinted setup history []
no_orders setup history =
    ap (λ (es : List Entry). words_taken setup.centre (reverse es)) (append-nil history)
    ∙ sym (append-nil (words_taken setup.centre (reverse history)))
