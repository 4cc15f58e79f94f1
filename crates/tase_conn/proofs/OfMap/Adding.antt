-- Each entry of an association adds its octets, and no other entry adds any.
use Rattle.std.proofs.Common.{◌≡◌, ◌==◌, ℕ, ◌+◌, ◌-◌, ◌<◌, ◌≤◌, Bool, true, false, List, [], ◌∷◌}
use Rattle.std.proofs.Common.{◌++◌, Option, Some, None, refl, sym, ap, subst, ◌∙◌, arith, length}
use Rattle.std.proofs.Common.{⊎_elim, map, reverse, ◌⊎◌, inl, inr}
use Rattle.std.specs.Prelude.{if◌then◌else◌, nat_lt}
use Rattle.std.proofs.lemmas.Bool.{false≢true, eq-eqb, ne_eqb, cases_eq, lt-ltb, le-ltb, ltb-true}
use Rattle.std.proofs.lemmas.Bool.{ltb-false}
use Rattle.std.proofs.lemmas.List.{append-nil, length-map, length-reverse, reverse-append}
use Rattle.mms_data.specs.Datum.{Datum}
use Rattle.mms_data.specs.ObjectName.{ObjectName}
use Rattle.sbo_device.specs.declared.key.Key.{Key}
use Rattle.bilateral.specs.Rows.{CentreRows}
use Rattle.tase_views.specs.Calls.{IsCall}
use Rattle.tase_views.specs.declared.call.CallKind.{CallKind}
use Rattle.tase_views.specs.declared.call.CallKind.TheVariants as kinds
use Rattle.tase_views.specs.declared.event.EventKind.{EventKind}
use Rattle.tase_views.specs.declared.event.EventKind.TheVariants as events
use Rattle.tase_views.specs.History.{Past, key_at}
use Rattle.tase_views.specs.OwnTables.{OwnTables, own_tables}
use Rattle.tase_views.specs.Moves.{Act, Move, acts_of_call, writes_of, moves_by, moves_of}
use Rattle.tase_views.specs.Moves.{sort_of}
use Rattle.tase_views.specs.View.{own, moves_in, View, view_of, seen_in}
use Rattle.tase_views.specs.Moves as act
use Rattle.tase_views.specs.Answers.{reply_to}
use Rattle.tase_views.proofs.Seen.{view_of-entry, seen_own as acts_seen}
use Rattle.tase_conn.specs.Map.Turns.{Turn, offers, offers_badly, asks, concludes, releases, aborts}
use Rattle.tase_conn.specs.Map.Turns.{breaks, ends, pauses}
use Rattle.tase_conn.specs.Map.Out.{Talk, is_asked, is_asked_by, acts_made, turns_behind, first_reply}
use Rattle.tase_conn.specs.Map.Out.{reply_octets, act_octets, octets_in}
use Rattle.std.proofs.lemmas.Option.{none-some}
use Rattle.tase_conn.specs.Map.Sent.{IsNoted}
use Rattle.tase_conn.proofs.OfMap.Apart.{AreApart, apart_event, apart_adds}

-- ---- inside a request

abbrev IsFirst : List Turn → ℕ → CallKind → Type 0
IsFirst turns invoke call = (later : List Turn) × (turns ≡ asks invoke call ∷ later)

-- by the turn in front
abbrev pub call_at : List Turn → ℕ
call_at (asks invoke call ∷ turns) = length (acts_of_call call)
call_at _ = 0

abbrev pub is_asking : List Turn → Bool
is_asking (asks invoke call ∷ turns) = true
is_asking _ = false

-- behind some of the acts of the request in front
abbrev inside_by : List Turn → ℕ → ℕ → Type 0
inside_by turns count more = is_asking (turns_behind turns count) ≡ true → 0 < more
    → more < call_at (turns_behind turns count) → turns_behind turns (count + more) ≡ []

pub if_eq : (n : ℕ) (x y : List Turn) → n ≡ 0 → (if n == 0 then x else y) ≡ x
if_eq n x y e = rw (eq-eqb n 0 e) refl

pub if_ne : (n : ℕ) (x y : List Turn) → 0 < n → (if n == 0 then x else y) ≡ y
if_ne n x y l = rw (ne_eqb n 0 (λ e. omega (arith, e, l))) refl

choose_lt : (a b : ℕ) (x y : List Turn) → a < b → (if nat_lt a b then x else y) ≡ x
choose_lt a b x y l = rw (lt-ltb a b l) refl

choose_le : (a b : ℕ) (x y : List Turn) → b ≤ a → (if nat_lt a b then x else y) ≡ y
choose_le a b x y l = rw (le-ltb a b l) refl

-- the three ways that a request passes
pub asks_front : (invoke : ℕ) (call : CallKind) (turns : List Turn) (count : ℕ) → count ≡ 0
    → turns_behind (asks invoke call ∷ turns) count ≡ asks invoke call ∷ turns
asks_front invoke call turns count e =
    if_eq count (asks invoke call ∷ turns)
    (if nat_lt count (length (acts_of_call call)) then []
    else turns_behind turns (count - length (acts_of_call call))) e

pub asks_inside : (invoke : ℕ) (call : CallKind) (turns : List Turn) (count : ℕ) → 0 < count
    → count < length (acts_of_call call)
    → turns_behind (asks invoke call ∷ turns) count ≡ []
asks_inside invoke call turns count some l =
    if_ne count (asks invoke call ∷ turns)
    (if nat_lt count (length (acts_of_call call)) then []
    else turns_behind turns (count - length (acts_of_call call))) some
    ∙ choose_lt count (length (acts_of_call call)) []
    (turns_behind turns (count - length (acts_of_call call))) l

pub asks_passed : (invoke : ℕ) (call : CallKind) (turns : List Turn) (count : ℕ) → 0 < count
    → length (acts_of_call call) ≤ count
    → turns_behind (asks invoke call ∷ turns) count
    ≡ turns_behind turns (count - length (acts_of_call call))
asks_passed invoke call turns count some l =
    if_ne count (asks invoke call ∷ turns)
    (if nat_lt count (length (acts_of_call call)) then []
    else turns_behind turns (count - length (acts_of_call call))) some
    ∙ choose_le count (length (acts_of_call call)) []
    (turns_behind turns (count - length (acts_of_call call))) l

pub none_asking : (turns : List Turn) → turns ≡ [] → is_asking turns ≡ true → ⊥
none_asking turns e a = false≢true (sym (ap (λ (ts : List Turn). is_asking ts) e) ∙ a)

passed_inside : (invoke : ℕ) (call : CallKind) (turns : List Turn) (count more : ℕ)
    → ((n : ℕ) → inside_by turns n more) → inside_by (asks invoke call ∷ turns) count more
passed_inside invoke call turns count more go asking some few =
    let n = length (acts_of_call call) in
    ⊎_elim
    (λ none. asks_inside invoke call turns (count + more) (omega (arith, some))
    (let front = asks_front invoke call turns count none in
    let fewer : more < length (acts_of_call call) =
    subst (λ (ts : List Turn). more < call_at ts) front few in
    omega (arith, none, fewer)))
    (λ apart.
    let here : 0 < count = omega (arith, apart) in
    ⊎_elim
    (λ below. absurd (none_asking (turns_behind (asks invoke call ∷ turns) count)
    (asks_inside invoke call turns count here (ltb-true count n below)) asking))
    (λ beyond.
    let least : n ≤ count = ltb-false count n beyond in
    let e = asks_passed invoke call turns count here least in
    asks_passed invoke call turns (count + more) (omega (arith, here))
    (omega (arith, least))
    ∙ ap (λ m. turns_behind turns m) (shifted count more n least)
    ∙ go (count - n)
    (ap (λ (ts : List Turn). is_asking ts) (sym e) ∙ asking) some
    (subst (λ (ts : List Turn). more < call_at ts) e few))
    (two (nat_lt count n)))
    (cases_eq count 0)
  where
    shifted : (count more n : ℕ) → n ≤ count → count + more - n ≡ count - n + more
    shifted count more n l = omega (arith, l)

    two : (b : Bool) → (b ≡ true) ⊎ (b ≡ false)
    two true = inl refl
    two false = inr refl

other_inside : (turn : Turn) (turns : List Turn) (count more : ℕ)
    → ((n : ℕ) → turns_behind (turn ∷ turns) n ≡ (if n == 0 then turn ∷ turns else []))
    → is_asking (turn ∷ turns) ≡ false → inside_by (turn ∷ turns) count more
other_inside turn turns count more by never asking some few =
    ⊎_elim
    (λ none. absurd (false≢true (sym never
    ∙ ap (λ (ts : List Turn). is_asking ts) (sym (by count ∙ if_eq count (turn ∷ turns) [] none))
    ∙ asking)))
    (λ apart. absurd (none_asking (turns_behind (turn ∷ turns) count)
    (by count ∙ if_ne count (turn ∷ turns) [] (omega (arith, apart))) asking))
    (cases_eq count 0)

pub inside : (turns : List Turn) (count more : ℕ) → inside_by turns count more
inside [] count more = λ asking some few. absurd (false≢true asking)
inside (asks invoke call ∷ turns) count more =
    passed_inside invoke call turns count more (λ n. inside turns n more)
inside (offers title ∷ turns) count more =
    other_inside (offers title) turns count more (λ n. refl) refl
inside (offers_badly ∷ turns) count more =
    other_inside offers_badly turns count more (λ n. refl) refl
inside (concludes ∷ turns) count more =
    other_inside concludes turns count more (λ n. refl) refl
inside (releases ∷ turns) count more = other_inside releases turns count more (λ n. refl) refl
inside (aborts ∷ turns) count more = other_inside aborts turns count more (λ n. refl) refl
inside (breaks ∷ turns) count more = other_inside breaks turns count more (λ n. refl) refl
inside (ends ∷ turns) count more = other_inside ends turns count more (λ n. refl) refl
inside (pauses ∷ turns) count more = other_inside pauses turns count more (λ n. refl) refl

-- ---- acts of the association

abbrev pub AreAsked : List Act → Type 0
AreAsked [] = Unit {0}
AreAsked (this ∷ these) = (is_asked this ≡ true) × AreAsked these

own_asked : (ordinal : ℕ) (a : Act) → is_asked a ≡ true → is_asked_by ordinal (own ordinal a) ≡ true
own_asked ordinal a i = rw (eq-eqb ordinal ordinal refl) i

made_more : (ordinal : ℕ) (a : Act) (view : View) → is_asked a ≡ true
    → acts_made ordinal (own ordinal a ∷ view) ≡ acts_made ordinal view + 1
made_more ordinal a view i = rw (own_asked ordinal a i) (omega arith)

pub made_all : (ordinal : ℕ) (these : List Act) (view : View) → AreAsked these
    → acts_made ordinal (map (own ordinal) these ++ view) ≡ acts_made ordinal view + length these
made_all ordinal [] view a = omega arith
made_all ordinal (this ∷ these) view a =
    let e = made_all ordinal these view a.1 in
    let m = made_more ordinal this (map (own ordinal) these ++ view) a.0 in
    omega (arith, e, m)

asked_at : (table : OwnTables) (ordinal : ℕ) (talk : Talk) (view : View) (a : Act)
    → is_asked a ≡ true
    → act_octets table ordinal talk view a
    ≡ first_reply table ordinal talk view (turns_behind talk.turns (acts_made ordinal view))
asked_at table ordinal talk view act.opens i = absurd (false≢true i)
asked_at table ordinal talk view act.takes i = absurd (false≢true i)
asked_at table ordinal talk view act.closes i = absurd (false≢true i)
asked_at table ordinal talk view (act.reads name) i = refl
asked_at table ordinal talk view (act.writes name value) i = refl
asked_at table ordinal talk view (act.defines set members) i = refl
asked_at table ordinal talk view (act.deletes set) i = refl
asked_at table ordinal talk view (act.calls call) i = refl

seen_own : (table : OwnTables) (ordinal : ℕ) (talk : Talk) (view : View) (a : Act)
    → octets_in table ordinal talk (own ordinal a ∷ view)
    ≡ octets_in table ordinal talk view ++ act_octets table ordinal talk view a
seen_own table ordinal talk view a = rw (eq-eqb ordinal ordinal refl) refl

asked_own : (table : OwnTables) (ordinal : ℕ) (talk : Talk) (view : View) (a : Act)
    → is_asked a ≡ true
    → octets_in table ordinal talk (own ordinal a ∷ view)
    ≡ octets_in table ordinal talk view
    ++ first_reply table ordinal talk view (turns_behind talk.turns (acts_made ordinal view))
asked_own table ordinal talk view a i =
    seen_own table ordinal talk view a
    ∙ ap (λ (o : List ℕ). octets_in table ordinal talk view ++ o)
    (asked_at table ordinal talk view a i)

-- the request that stands at the front is answered at the first of its acts alone
request_adds : (table : OwnTables) (ordinal : ℕ) (talk : Talk) (view : View) (invoke : ℕ)
    (call : CallKind) (these : List Act)
    → IsFirst (turns_behind talk.turns (acts_made ordinal view)) invoke call → AreAsked these
    → 0 < length these → length these ≤ length (acts_of_call call)
    → octets_in table ordinal talk (map (own ordinal) these ++ view)
    ≡ octets_in table ordinal talk view
    ++ reply_octets talk invoke (reply_to table view ordinal call)
request_adds table ordinal talk view invoke call [] f a some few = absurd (omega (arith, some))
request_adds table ordinal talk view invoke call (this ∷ []) f a some few =
    asked_own table ordinal talk view this a.0
    ∙ ap (λ (ts : List Turn). octets_in table ordinal talk view
    ++ first_reply table ordinal talk view ts) f.1
request_adds table ordinal talk view invoke call (this ∷ that ∷ these) f a some few =
    let rest = map (own ordinal) (that ∷ these) ++ view in
    let count = acts_made ordinal view in
    let made = made_all ordinal (that ∷ these) view a.1 in
    let nothing = inside talk.turns count (length (that ∷ these))
    (ap (λ (ts : List Turn). is_asking ts) f.1) (omega arith)
    (subst (λ (ts : List Turn). length (that ∷ these) < call_at ts) (sym f.1)
    (omega (arith, few))) in
    asked_own table ordinal talk rest this a.0
    ∙ ap (λ (ts : List Turn). octets_in table ordinal talk rest
    ++ first_reply table ordinal talk rest ts)
    (ap (λ n. turns_behind talk.turns n) made ∙ nothing)
    ∙ append-nil (octets_in table ordinal talk rest)
    ∙ request_adds table ordinal talk view invoke call (that ∷ these) f a.1 (omega arith)
    (omega (arith, few))

-- ---- the acts of a call

both_asked : (these those : List Act) → AreAsked these → AreAsked those → AreAsked (these ++ those)
both_asked [] those a b = b
both_asked (this ∷ these) those a b = (a.0, both_asked these those a.1 b)

reversed : (these : List Act) → AreAsked these → AreAsked (reverse these)
reversed [] a = tt
reversed (this ∷ these) a =
    subst (λ (l : List Act). AreAsked l) (sym (reverse-append (this ∷ []) these))
    (both_asked (reverse these) (this ∷ []) (reversed these a.1) (a.0, tt))

reads_asked : (names : List ObjectName) → AreAsked (map act.reads names)
reads_asked [] = tt
reads_asked (name ∷ names) = (refl, reads_asked names)

deletes_asked : (sets : List ObjectName) → AreAsked (map act.deletes sets)
deletes_asked [] = tt
deletes_asked (set ∷ sets) = (refl, deletes_asked sets)

writes_asked : (names : List ObjectName) (values : List Datum) → AreAsked (writes_of names values)
writes_asked [] values = tt
writes_asked (name ∷ names) [] = tt
writes_asked (name ∷ names) (value ∷ values) = (refl, writes_asked names values)

pub acts_asked : (call : CallKind) → AreAsked (acts_of_call call)
acts_asked kinds.Identify = (refl, tt)
acts_asked (kinds.Read names echo) = reversed (map act.reads names) (reads_asked names)
acts_asked (kinds.Write names values) = reversed (writes_of names values) (writes_asked names values)
acts_asked (kinds.ReadSet set echo) = (refl, tt)
acts_asked (kinds.WriteSet set values) = (refl, tt)
acts_asked (kinds.NameList class scope after) = (refl, tt)
acts_asked (kinds.TypeOf name) = (refl, tt)
acts_asked (kinds.Define set members) = (refl, tt)
acts_asked (kinds.MembersOf set) = (refl, tt)
acts_asked (kinds.Delete sets) = reversed (map act.deletes sets) (deletes_asked sets)
acts_asked (kinds.DeleteScope scope) = (refl, tt)
acts_asked (kinds.Odd kind code) = (refl, tt)

some_writes : (names : List ObjectName) (values : List Datum) → length values ≡ length names
    → length (writes_of names values) ≡ length names
some_writes [] values e = refl
some_writes (name ∷ names) [] e = absurd (omega (arith, e))
some_writes (name ∷ names) (value ∷ values) e =
    let h = some_writes names values (omega (arith, e)) in omega (arith, h)

pub some_acts : (call : CallKind) → IsCall call → 0 < length (acts_of_call call)
some_acts kinds.Identify i = omega arith
some_acts (kinds.Read names echo) i =
    let r = length-reverse (map act.reads names) in
    let m = length-map names act.reads in omega (arith, r, m, i)
some_acts (kinds.Write names values) i =
    let r = length-reverse (writes_of names values) in
    let w = some_writes names values i.1 in
    let l : 0 < length names = i.0 in omega (arith, r, w, l)
some_acts (kinds.ReadSet set echo) i = omega arith
some_acts (kinds.WriteSet set values) i = omega arith
some_acts (kinds.NameList class scope after) i = omega arith
some_acts (kinds.TypeOf name) i = omega arith
some_acts (kinds.Define set members) i = omega arith
some_acts (kinds.MembersOf set) i = omega arith
some_acts (kinds.Delete sets) i =
    let r = length-reverse (map act.deletes sets) in
    let m = length-map sets act.deletes in omega (arith, r, m, i)
some_acts (kinds.DeleteScope scope) i = omega arith
some_acts (kinds.Odd kind code) i = omega arith

-- ---- entries

-- what an event of the association shows
pub shown : (rows : CentreRows) (key : Key) (before : List Move) (found : Option Key)
    (these : List Act) → found ≡ Some key
    → seen_in rows (own_tables rows) key.peer before (moves_by found these)
    ≡ map (own key.ordinal) these
shown rows key before found these e =
    ap (λ (k : Option Key). seen_in rows (own_tables rows) key.peer before (moves_by k these)) e
    ∙ acts_seen rows (own_tables rows) key before these

abbrev with_event : ℕ → EventKind → Past → Past
with_event who event past = record { who = who; event = event } ∷ past

-- the view with an event of the association, where these are its acts
pub with_acts : (rows : CentreRows) (key : Key) (who : ℕ) (event : EventKind) (past : Past)
    (these : List Act)
    → seen_in rows (own_tables rows) key.peer (moves_in past)
    (moves_of (sort_of event) (key_at event past who)) ≡ map (own key.ordinal) these
    → view_of rows key.peer (with_event who event past)
    ≡ map (own key.ordinal) these ++ view_of rows key.peer past
with_acts rows key who event past these e =
    view_of-entry rows key.peer past (record { who = who; event = event })
    ∙ ap (λ (v : View). v ++ view_of rows key.peer past) e

pub other_adds : (rows : CentreRows) (table : OwnTables) (talk : Talk) (key : Key) (who : ℕ)
    (event : EventKind) (past : Past) → (key_at event past who ≡ Some key → ⊥)
    → octets_in table key.ordinal talk (view_of rows key.peer (with_event who event past))
    ≡ octets_in table key.ordinal talk (view_of rows key.peer past)
other_adds rows table talk key who event past apart =
    ap (λ (v : View). octets_in table key.ordinal talk v)
    (view_of-entry rows key.peer past (record { who = who; event = event }))
    ∙ apart_adds table key.ordinal talk
    (seen_in rows (own_tables rows) key.peer (moves_in past)
    (moves_of (sort_of event) (key_at event past who))) (view_of rows key.peer past)
    (apart_event rows (own_tables rows) key event (key_at event past who) (moves_in past) apart)

-- an event of no association's doing shows the same whatever its seat's is
pub noted_apart : (rows : CentreRows) (key : Key) (event : EventKind) (found : Option Key)
    (before : List Move) → IsNoted event
    → AreApart key.ordinal
    (seen_in rows (own_tables rows) key.peer before (moves_of (sort_of event) found))
noted_apart rows key (events.Update point value) found before i =
    apart_event rows (own_tables rows) key (events.Update point value) None before
    (λ e. absurd (none-some key e))
noted_apart rows key (events.Table chooser variant) found before i =
    apart_event rows (own_tables rows) key (events.Table chooser variant) None before
    (λ e. absurd (none-some key e))
noted_apart rows key (events.Tick now) found before i =
    apart_event rows (own_tables rows) key (events.Tick now) None before
    (λ e. absurd (none-some key e))
noted_apart rows key (events.Ask asker slot) found before i =
    apart_event rows (own_tables rows) key (events.Ask asker slot) None before
    (λ e. absurd (none-some key e))
noted_apart rows key (events.Tag device tag) found before i =
    apart_event rows (own_tables rows) key (events.Tag device tag) None before
    (λ e. absurd (none-some key e))
noted_apart rows key events.TakeOrders found before i =
    apart_event rows (own_tables rows) key events.TakeOrders None before
    (λ e. absurd (none-some key e))
noted_apart rows key events.Stop found before i = refl
noted_apart rows key (events.Open peer) found before i = absurd i
noted_apart rows key (events.Request call) found before i = absurd i
noted_apart rows key events.Take found before i = absurd i
noted_apart rows key events.Close found before i = absurd i

pub noted_adds : (rows : CentreRows) (table : OwnTables) (talk : Talk) (key : Key) (who : ℕ)
    (event : EventKind) (past : Past) → IsNoted event
    → octets_in table key.ordinal talk (view_of rows key.peer (with_event who event past))
    ≡ octets_in table key.ordinal talk (view_of rows key.peer past)
noted_adds rows table talk key who event past i =
    ap (λ (v : View). octets_in table key.ordinal talk v)
    (view_of-entry rows key.peer past (record { who = who; event = event }))
    ∙ apart_adds table key.ordinal talk
    (seen_in rows (own_tables rows) key.peer (moves_in past)
    (moves_of (sort_of event) (key_at event past who))) (view_of rows key.peer past)
    (noted_apart rows key event (key_at event past who) (moves_in past) i)

one_adds : (rows : CentreRows) (table : OwnTables) (talk : Talk) (key : Key) (who : ℕ)
    (event : EventKind) (past : Past) (this : Act)
    → seen_in rows (own_tables rows) key.peer (moves_in past)
    (moves_of (sort_of event) (key_at event past who)) ≡ map (own key.ordinal) (this ∷ [])
    → octets_in table key.ordinal talk (view_of rows key.peer (with_event who event past))
    ≡ octets_in table key.ordinal talk (view_of rows key.peer past)
    ++ act_octets table key.ordinal talk (view_of rows key.peer past) this
one_adds rows table talk key who event past this e =
    ap (λ (v : View). octets_in table key.ordinal talk v)
    (with_acts rows key who event past (this ∷ []) e)
    ∙ seen_own table key.ordinal talk (view_of rows key.peer past) this

pub open_adds : (rows : CentreRows) (table : OwnTables) (talk : Talk) (key : Key) (who peer : ℕ)
    (past : Past) → key_at (events.Open peer) past who ≡ Some key
    → octets_in table key.ordinal talk (view_of rows key.peer (with_event who (events.Open peer) past))
    ≡ octets_in table key.ordinal talk (view_of rows key.peer past) ++ talk.opening
open_adds rows table talk key who peer past e =
    one_adds rows table talk key who (events.Open peer) past act.opens
    (shown rows key (moves_in past) (key_at (events.Open peer) past who) (act.opens ∷ []) e)

pub take_adds : (rows : CentreRows) (table : OwnTables) (talk : Talk) (key : Key) (who : ℕ)
    (past : Past) → key_at events.Take past who ≡ Some key
    → octets_in table key.ordinal talk (view_of rows key.peer (with_event who events.Take past))
    ≡ octets_in table key.ordinal talk (view_of rows key.peer past)
    ++ act_octets table key.ordinal talk (view_of rows key.peer past) act.takes
take_adds rows table talk key who past e =
    one_adds rows table talk key who events.Take past act.takes
    (shown rows key (moves_in past) (key_at events.Take past who) (act.takes ∷ []) e)

pub close_adds : (rows : CentreRows) (table : OwnTables) (talk : Talk) (key : Key) (who : ℕ)
    (past : Past) → key_at events.Close past who ≡ Some key
    → octets_in table key.ordinal talk (view_of rows key.peer (with_event who events.Close past))
    ≡ octets_in table key.ordinal talk (view_of rows key.peer past)
    ++ act_octets table key.ordinal talk (view_of rows key.peer past) act.closes
close_adds rows table talk key who past e =
    one_adds rows table talk key who events.Close past act.closes
    (shown rows key (moves_in past) (key_at events.Close past who) (act.closes ∷ []) e)

pub asked_adds : (rows : CentreRows) (table : OwnTables) (talk : Talk) (key : Key) (who : ℕ)
    (past : Past) (invoke : ℕ) (call : CallKind) (later : List Turn) → IsCall call
    → key_at (events.Request call) past who ≡ Some key
    → turns_behind talk.turns (acts_made key.ordinal (view_of rows key.peer past))
    ≡ asks invoke call ∷ later
    → octets_in table key.ordinal talk (view_of rows key.peer (with_event who (events.Request call) past))
    ≡ octets_in table key.ordinal talk (view_of rows key.peer past)
    ++ reply_octets talk invoke (reply_to table (view_of rows key.peer past) key.ordinal call)
asked_adds rows table talk key who past invoke call later i e f =
    ap (λ (v : View). octets_in table key.ordinal talk v)
    (with_acts rows key who (events.Request call) past (acts_of_call call)
    (shown rows key (moves_in past) (key_at (events.Request call) past who) (acts_of_call call) e))
    ∙ request_adds table key.ordinal talk (view_of rows key.peer past) invoke call
    (acts_of_call call) (later, f) (acts_asked call) (some_acts call i) (omega arith)
