-- The association of a seat, entries of other seats, and where a connection stands.
use Rattle.std.proofs.Common.{◌≡◌, ◌==◌, ℕ, ◌<◌, Bool, true, false, List, [], ◌∷◌, ◌++◌}
use Rattle.std.proofs.Common.{Option, Some, None, refl, sym, ap, subst, ◌∙◌}
use Rattle.std.specs.Prelude.{if◌then◌else◌, ◌||◌}
use Rattle.std.specs.List.{list_any, cons_option}
use Rattle.std.proofs.lemmas.Bool.{false≢true, eq-eqb, ne_eqb}
use Rattle.stack_assoc.specs.Arrivals.{Arrival}
use Rattle.sbo_device.specs.declared.key.Key.{Key}
use Rattle.bilateral.specs.Rows.{CentreRows}
use Rattle.tase_views.specs.declared.event.EventKind.{EventKind}
use Rattle.tase_views.specs.declared.event.EventKind.TheVariants.{Open, Request, Take, Close}
use Rattle.tase_views.specs.declared.event.EventKind.TheVariants.{Update, Table, Tick, Ask}
use Rattle.tase_views.specs.declared.event.EventKind.TheVariants.{Tag, TakeOrders, Stop}
use Rattle.tase_views.specs.declared.event.Entry.{Entry}
use Rattle.tase_views.specs.Moves.{sort_of}
use Rattle.tase_views.specs.History.{Past, opens_in, association_after}
use Rattle.tase_views.specs.History.{association_in, key_at, is_key, entries_of}
use Rattle.tase_views.specs.OwnTables.{own_tables}
use Rattle.tase_views.specs.Outcomes.{is_close}
use Rattle.tase_conn.specs.Map.Closed.{is_closed}
use Rattle.tase_conn.specs.Map.Inputs.{Item}
use Rattle.tase_conn.specs.Map.Readings.{reading_of}
use Rattle.tase_conn.specs.Map.Turns.{Turn}
use Rattle.tase_conn.specs.Map.Out.{talk_of, turns_behind}
use Rattle.tase_conn.specs.Map.Sent.{events_by, association_octets, turns_left, with_event}
use Rattle.tase_conn.specs.Map.Linked.{opened_in, opened_by}
use Rattle.tase_conn.proofs.OfMap.Closing.{issued, closed_spent, octets_kept, at_other, next_new}
use Rattle.tase_conn.proofs.OfMap.Closing.{one_seat}
use Rattle.tase_conn.proofs.OfMap.Adding.{other_adds}
use Rattle.tase_conn.proofs.OfMap.Passing.{made_apart}
use Rattle.tase_conn.specs.declared.stage.Progress.{Progress}
use Rattle.tase_conn.specs.declared.stage.Stage.{Stage}
use Rattle.tase_conn.specs.Talking.{Talking}
use Rattle.tase_conn.specs.Places.{ConnStandsAt, GoesBy}
use Rattle.conn_service.specs.Courses.Serving.{AreOthers, SaysBy, Serves}

-- ---- entries of a seat

if_true : {A : Type 0} (b : Bool) (x y : A) → b ≡ true → (if b then x else y) ≡ x
if_true true x y e = refl
if_true false x y e = absurd (false≢true e)

if_false : {A : Type 0} (b : Bool) (x y : A) → b ≡ false → (if b then x else y) ≡ y
if_false true x y e = absurd (false≢true (sym e))
if_false false x y e = refl

-- the association of the entry's own seat, and of another
pub at_seat : (event : EventKind) (past : Past) (who : ℕ)
    → association_in (with_event who event past) who
    ≡ association_after event past (association_in past who)
at_seat event past who =
    if_true (who == who) (association_after event past (association_in past who))
    (association_in past who) (eq-eqb who who refl)

-- and the one that it has opened last
pub opened_here : (event : EventKind) (past : Past) (who : ℕ)
    → opened_in (with_event who event past) who
    ≡ opened_by (sort_of event) past (opened_in past who)
opened_here event past who =
    if_true (who == who) (opened_by (sort_of event) past (opened_in past who)) (opened_in past who)
    (eq-eqb who who refl)

pub event_here : (event : EventKind) (past : Past) (who : ℕ)
    → events_by who (with_event who event past) ≡ event ∷ events_by who past
event_here event past who =
    ap (λ (o : Option EventKind). cons_option o (events_by who past))
    (if_true (who == who) (Some event) None (eq-eqb who who refl))

event_elsewhere : (entry : Entry) (past : Past) (who : ℕ) → (entry.who ≡ who → ⊥)
    → events_by who (entry ∷ past) ≡ events_by who past
event_elsewhere entry past who other =
    ap (λ (o : Option EventKind). cons_option o (events_by who past))
    (if_false (entry.who == who) (Some entry.event) None (ne_eqb entry.who who other))

nothing_chosen : (b : Bool) (event : EventKind) (after before : Option Key) (es : List EventKind)
    → cons_option (if b then Some event else None) es ≡ [] → (es ≡ [] → before ≡ None)
    → (if b then after else before) ≡ None
nothing_chosen true event after before es e g = absurd cc
nothing_chosen false event after before es e g = g e

-- a seat without events has no association
pub none_open : (past : Past) (who : ℕ) → events_by who past ≡ [] → association_in past who ≡ None
none_open [] who e = refl
none_open (entry ∷ past) who e =
    nothing_chosen (entry.who == who) entry.event
    (association_after entry.event past (association_in past who)) (association_in past who)
    (events_by who past) e (none_open past who)

-- and has opened none
pub none_opened : (past : Past) (who : ℕ) → events_by who past ≡ [] → opened_in past who ≡ None
none_opened [] who e = refl
none_opened (entry ∷ past) who e =
    nothing_chosen (entry.who == who) entry.event
    (opened_by (sort_of entry.event) past (opened_in past who)) (opened_in past who)
    (events_by who past) e
    (none_opened past who)

after_opened : (event : EventKind) (past : Past) (before found : Option Key) (key : Key)
    → (before ≡ Some key → found ≡ Some key) → association_after event past before ≡ Some key
    → opened_by (sort_of event) past found ≡ Some key
after_opened (Open peer) past before found key g e = e
after_opened (Request call) past before found key g e = g e
after_opened Take past before found key g e = g e
after_opened Close past before found key g e = absurd cc
after_opened (Update point value) past before found key g e = g e
after_opened (Table chooser variant) past before found key g e = g e
after_opened (Tick now) past before found key g e = g e
after_opened (Ask asker slot) past before found key g e = g e
after_opened (Tag device tag) past before found key g e = g e
after_opened TakeOrders past before found key g e = g e
after_opened Stop past before found key g e = g e

seat_by : (b : Bool) (event : EventKind) (past : Past) (before found : Option Key) (key : Key)
    → (before ≡ Some key → found ≡ Some key)
    → (if b then association_after event past before else before) ≡ Some key
    → (if b then opened_by (sort_of event) past found else found) ≡ Some key
seat_by true event past before found key g e = after_opened event past before found key g e
seat_by false event past before found key g e = g e

-- the association of a seat is the one that it has opened last
pub seat_opened : (past : Past) (who : ℕ) (key : Key) → association_in past who ≡ Some key
    → opened_in past who ≡ Some key
seat_opened [] who key e = absurd cc
seat_opened (entry ∷ past) who key e =
    seat_by (entry.who == who) entry.event past (association_in past who) (opened_in past who) key
    (seat_opened past who key) e

-- ---- keys

abbrev IsGiven : Key → Past → Type 0
IsGiven key past = key.ordinal < opens_in past key.peer

-- an event of another seat is none of this seat's association
other_key : (event : EventKind) (past : Past) (other who : ℕ) (key : Key)
    → (other ≡ who → ⊥) → association_in past who ≡ Some key
    → key_at event past other ≡ Some key → ⊥
other_key (Open peer) past other who key apart e f = next_new past peer key f
    (issued past who key e)
other_key (Request call) past other who key apart e f = apart (one_seat past other who key f e)
other_key Take past other who key apart e f = apart (one_seat past other who key f e)
other_key Close past other who key apart e f = apart (one_seat past other who key f e)
other_key (Update point value) past other who key apart e f =
    apart (one_seat past other who key f e)
other_key (Table chooser variant) past other who key apart e f =
    apart (one_seat past other who key f e)
other_key (Tick now) past other who key apart e f =
    apart (one_seat past other who key f e)
other_key (Ask asker slot) past other who key apart e f =
    apart (one_seat past other who key f e)
other_key (Tag device tag) past other who key apart e f =
    apart (one_seat past other who key f e)
other_key TakeOrders past other who key apart e f =
    apart (one_seat past other who key f e)
other_key Stop past other who key apart e f = apart (one_seat past other who key f e)

-- ---- entries of other seats

pub others_none : (who : ℕ) (others past : Past) → AreOthers who others
    → events_by who (others ++ past) ≡ events_by who past
others_none who [] past a = refl
others_none who (entry ∷ others) past a =
    event_elsewhere entry (others ++ past) who a.0 ∙ others_none who others past a.1

pub others_seat : (who : ℕ) (others past : Past) → AreOthers who others
    → association_in (others ++ past) who ≡ association_in past who
others_seat who [] past a = refl
others_seat who (entry ∷ others) past a =
    at_other entry (others ++ past) who a.0 ∙ others_seat who others past a.1

pub others_opened : (who : ℕ) (others past : Past) → AreOthers who others
    → opened_in (others ++ past) who ≡ opened_in past who
others_opened who [] past a = refl
others_opened who (entry ∷ others) past a =
    let before = opened_in (others ++ past) who in
    if_false (entry.who == who) (opened_by (sort_of entry.event) (others ++ past) before) before
    (ne_eqb entry.who who a.0) ∙ others_opened who others past a.1

pub others_sent : (rows : CentreRows) (who : ℕ) (others past : Past) (key : Key) (text : List ℕ)
    (ended : Bool) → AreOthers who others → association_in past who ≡ Some key
    → (association_octets rows (others ++ past) key text ended ≡ association_octets rows past key text ended)
    × (turns_left rows (others ++ past) key text ended ≡ turns_left rows past key text ended)
others_sent rows who [] past key text ended a e = (refl, refl)
others_sent rows who (entry ∷ others) past key text ended a e =
    let all = others ++ past in
    let r = others_sent rows who others past key text ended a.1 e in
    let seat : association_in all who ≡ Some key = others_seat who others past a.1 ∙ e in
    let apart : key_at entry.event all entry.who ≡ Some key → ⊥ =
    λ f. other_key entry.event all entry.who who key a.0 seat f in (
      other_adds rows (own_tables rows key.peer) (talk_of (reading_of text) ended) key entry.who
          entry.event all apart ∙ r.0,
      ap (λ m. turns_behind (talk_of (reading_of text) ended).turns m)
          (made_apart rows key entry.who entry.event all apart) ∙ r.1,
    )

-- ---- a close

key_found : (key : Key) → is_key key (Some key) ≡ true
key_found key = rw (eq-eqb key.peer key.peer refl, eq-eqb key.ordinal key.ordinal refl) refl

pub close_closes : (past : Past) (who : ℕ) (key : Key) → association_in past who ≡ Some key
    → is_closed key (with_event who Close past) ≡ true
close_closes past who key e =
    ap (λ (entries : Past). list_any (λ (entry : Entry). is_close entry.event) entries)
    (if_true (is_key key (association_in past who))
    (with_event who Close (entries_of key past)) (entries_of key past)
    (ap (λ (found : Option Key). is_key key found) e ∙ key_found key))

is_closed_later : (key : Key) (later past : Past) → is_closed key past ≡ true
    → is_closed key (later ++ past) ≡ true
is_closed_later key [] past c = c
is_closed_later key (entry ∷ later) past c =
    more_closed (is_key key (key_at entry.event (later ++ past) entry.who)) entry
    (entries_of key (later ++ past)) (is_closed_later key later past c)
  where
    any_true : (b : Bool) → (b || true) ≡ true
    any_true true = refl
    any_true false = refl

    more_closed : (b : Bool) (entry : Entry) (entries : Past)
        → list_any (λ (e : Entry). is_close e.event) entries ≡ true
        → list_any (λ (e : Entry). is_close e.event) (if b then entry ∷ entries else entries) ≡ true
    more_closed true entry entries c =
        ap (λ (b : Bool). is_close entry.event || b) c ∙ any_true (is_close entry.event)
    more_closed false entry entries c = c

pub closed_still : (rows : CentreRows) (key : Key) (later past : Past) (text : List ℕ)
    (ended : Bool)
    → is_closed key past ≡ true
    → (is_closed key (later ++ past) ≡ true)
    × (association_octets rows (later ++ past) key text ended ≡ association_octets rows past key text ended)
closed_still rows key later past text ended c = (
  is_closed_later key later past c,
  octets_kept rows (own_tables rows key.peer) (talk_of (reading_of text) ended) key later past
      (closed_spent key past c),
)

-- ---- where a connection stands

pub goes_at : {rows : CentreRows} {items : List Item} {told : List Arrival} {turns : List Turn}
    {v : Talking} {progress : Progress} → ConnStandsAt rows items told turns v
    → v.progress ≡ progress → GoesBy progress rows items told turns v
goes_at {rows} {items} {told} {turns} {v} s p =
    subst (λ (x : Progress). GoesBy x rows items told turns v) p s.goes

-- what it says there
pub says_at : {rows : CentreRows} {past : Past} {who : ℕ} {items : List Item} {octets : List ℕ}
    {waiting : Option EventKind} {v : Talking} {stage : Stage} {progress : Progress}
    → (s : Serves rows past who items octets waiting v) → v.stage ≡ stage
    → v.progress ≡ progress
    → SaysBy stage progress rows past who items s.told s.answered octets
says_at {rows} {past} {who} {items} {octets} {waiting} {v} {stage} {progress} s st p =
    subst (λ (x : Stage). SaysBy x progress rows past who items s.told s.answered octets) st
    (subst (λ (x : Progress). SaysBy v.stage x rows past who items s.told s.answered octets) p s.says)

-- and where no event waits
pub says_now : {rows : CentreRows} {past : Past} {who : ℕ} {items : List Item} {octets : List ℕ}
    {v : Talking} {progress : Progress} → (s : Serves rows past who items octets None v)
    → v.progress ≡ progress → SaysBy v.stage progress rows past who items s.told s.turns octets
says_now {rows} {past} {who} {items} {octets} {v} {progress} s p =
    subst (λ (ts : List Turn). SaysBy v.stage progress rows past who items s.told ts octets)
    (sym s.are) (says_at s refl p)
