-- What an association is sent stays so while its text grows.
use Rattle.std.proofs.Common.{◌≡◌, ◌==◌, ℕ, ℤ, ◌+◌, ◌-◌, ◌<◌, ◌≤◌, Bool, true, false, List, [], ◌∷◌}
use Rattle.std.proofs.Common.{◌++◌, Option, Some, None, refl, sym, ap, subst, ◌∙◌, arith, length}
use Rattle.std.proofs.Common.{⊎_elim, map, ◌⊎◌, inl, inr, append_assoc, cond, filter, drop}
use Rattle.std.specs.Prelude.{if◌then◌else◌, nat_lt, is_some, ◌||◌}
use Rattle.std.specs.List.{list_any}
use Rattle.std.proofs.lemmas.Bool.{false≢true, eq-eqb, cases_eq, ltb-true, ltb-false}
use Rattle.std.proofs.lemmas.List.{append-nil}
use Rattle.std.proofs.lemmas.List.Folds.{list_any-append}
use Rattle.sbo_device.specs.declared.key.Key.{Key}
use Rattle.bilateral.specs.Rows.{CentreRows}
use Rattle.mms_services.specs.declared.pdu.MmsPdu.TheVariants as pdus
use Rattle.stack_assoc.specs.declared.wire.setup.AssociationSetup.{AssociationSetup}
use Rattle.stack_assoc.specs.declared.messages.heard.Connecting.{Connecting}
use Rattle.stack_assoc.specs.declared.messages.fault.StackFault.{StackFault}
use Rattle.stack_assoc.specs.Arrivals.{Arrival, called, first_in, connect_in}
use Rattle.stack_assoc.specs.Handing.{answers_to}
use Rattle.stack_assoc.specs.Expectations.{setup_after}
use Rattle.tase_views.specs.Calls.{IsCall}
use Rattle.tase_views.specs.declared.call.CallKind.{CallKind}
use Rattle.tase_views.specs.declared.event.EventKind.{EventKind}
use Rattle.tase_views.specs.declared.event.EventKind.TheVariants as events
use Rattle.tase_views.specs.declared.event.Entry.{Entry}
use Rattle.tase_views.specs.History.{Past, key_at, is_key, entries_of, opens_in}
use Rattle.tase_views.specs.OwnTables.{OwnTables, own_tables}
use Rattle.tase_views.specs.Outcomes.{is_close}
use Rattle.tase_views.specs.Moves.{Act, Move, updates, tags, ticks, asks, chooses}
use Rattle.tase_views.specs.Moves.{takes_orders, acts_of_call, moves_by, moves_of}
use Rattle.tase_views.specs.Moves.{sort_of}
use Rattle.tase_views.specs.View.{Seen, own, seen_in}
use Rattle.tase_views.specs.View.{other_acted, other_closed, updated, tagged, asked, ticked}
use Rattle.tase_views.specs.View.{chose, stopped, moves_in, View, view_of}
use Rattle.tase_views.specs.Moves as act
use Rattle.tase_views.proofs.Seen.{view_of-entry}
use Rattle.tase_conn.specs.Map.Readings.{Reading, reading_of}
use Rattle.tase_conn.specs.Map.Turns.{Turn, offers, offers_badly, asks, concludes, releases, aborts}
use Rattle.tase_conn.specs.Map.Turns.{breaks, ends, pauses, fault_turns, turns_told}
use Rattle.tase_conn.specs.Map.Out.{Talk, accept_wire, detail_of, behind_offer, end_turns, talk_of}
use Rattle.tase_conn.specs.Map.Out.{is_asked, is_asked_by, acts_made, turns_behind, first_reply}
use Rattle.tase_conn.specs.Map.Out.{said, concluded_octets, close_octets, act_octets, octets_in}
use Rattle.tase_conn.specs.Map.Closed.{is_closed}
use Rattle.tase_conn.specs.Map.Sent.{association_octets, turns_left, AreInText, IsFixed, AsksNoService}
use Rattle.tase_conn.proofs.OfMap.ReadingLaws.{turns_go_on}
use Rattle.tase_conn.proofs.OfMap.Apart.{is_own, AreApart, neither, apart_event}
use Rattle.tase_conn.proofs.OfMap.Closing.{not_key_at, key_is, not_true, closed_spent}
use Rattle.tase_conn.proofs.OfMap.Adding.{if_eq, if_ne, asks_front, asks_inside, asks_passed, AreAsked}
use Rattle.tase_conn.proofs.OfMap.Adding.{acts_asked, other_adds, close_adds, shown, noted_apart}
use Rattle.tase_conn.proofs.OfMap.Passing.{behind_none, made_apart, quiet_event, left_asked, all_left}
use Rattle.tase_conn.proofs.OfMap.TurnOrder.{offered, offers_told}
use Rattle.tase_conn.proofs.OfMap.TurnsRead.{turns_heard}
use Rattle.tase_conn.proofs.OfMap.Fronts.{HasFront, whole_front, read_front, front_read, first_kept}
use Rattle.tase_conn.proofs.OfMap.Fronts.{setup_kept, size_first, answers_kept}

-- ---- requests that stand in the text

-- requests that make so many acts stand at the front of these turns
abbrev pub StandIn : List Turn → ℕ → Type 0
StandIn turns count = (rest : List Turn)
    × (turns_behind (turns ++ ends ∷ []) count ≡ rest ++ ends ∷ [])

not_nothing : (rest : List Turn) → [] ≡ rest ++ ends ∷ [] → ⊥
not_nothing [] e = absurd cc
not_nothing (turn ∷ rest) e = absurd cc

-- a turn that is no request
abbrev IsOther : Turn → Type 0
IsOther turn = (turns : List Turn) (n : ℕ)
    → turns_behind (turn ∷ turns) n ≡ (if n == 0 then turn ∷ turns else [])

other_none : (turn : Turn) (turns : List Turn) (n : ℕ) → IsOther turn → StandIn (turn ∷ turns) n
    → n ≡ 0
other_none turn turns n by s =
    ⊎_elim (λ none. none)
    (λ apart. absurd (not_nothing s.0
    (sym (by (turns ++ ends ∷ []) n
    ∙ if_ne n (turn ∷ turns ++ ends ∷ []) [] (omega (arith, apart))) ∙ s.1)))
    (cases_eq n 0)

empty_none : (n : ℕ) → StandIn [] n → n ≡ 0
empty_none n s =
    ⊎_elim (λ none. none)
    (λ apart. absurd (not_nothing s.0
    (sym (if_ne n (ends ∷ []) [] (omega (arith, apart))) ∙ s.1)))
    (cases_eq n 0)

two : (b : Bool) → (b ≡ true) ⊎ (b ≡ false)
two true = inl refl
two false = inr refl

-- a request was passed whole
asks_stand : (invoke : ℕ) (call : CallKind) (turns : List Turn) (n : ℕ) → 0 < n
    → StandIn (asks invoke call ∷ turns) n
    → (length (acts_of_call call) ≤ n) × StandIn turns (n - length (acts_of_call call))
asks_stand invoke call turns n some s =
    ⊎_elim
    (λ below. absurd (not_nothing s.0
    (sym (asks_inside invoke call (turns ++ ends ∷ []) n some
    (ltb-true n (length (acts_of_call call)) below)) ∙ s.1)))
    (λ beyond.
    let least : length (acts_of_call call) ≤ n = ltb-false n (length (acts_of_call call)) beyond in
    (least, (s.0, sym (asks_passed invoke call (turns ++ ends ∷ []) n some least) ∙ s.1)))
    (two (nat_lt n (length (acts_of_call call))))

-- more turns behind them stay behind

other_grows : (turn : Turn) (turns others : List Turn) (n : ℕ) → IsOther turn
    → StandIn (turn ∷ turns) n
    → turns_behind (turn ∷ turns ++ others) n ≡ turns_behind (turn ∷ turns) n ++ others
other_grows turn turns others n by s =
    let none = other_none turn turns n by s in
    by (turns ++ others) n ∙ if_eq n (turn ∷ turns ++ others) [] none
    ∙ ap (λ (ts : List Turn). ts ++ others) (sym (by turns n ∙ if_eq n (turn ∷ turns) [] none))

asks_grow : (invoke : ℕ) (call : CallKind) (turns others : List Turn) (n : ℕ)
    → ((m : ℕ) → StandIn turns m
    → turns_behind (turns ++ others) m ≡ turns_behind turns m ++ others)
    → StandIn (asks invoke call ∷ turns) n
    → turns_behind (asks invoke call ∷ turns ++ others) n
    ≡ turns_behind (asks invoke call ∷ turns) n ++ others
asks_grow invoke call turns others n go s =
    ⊎_elim
    (λ none. asks_front invoke call (turns ++ others) n none
    ∙ ap (λ (ts : List Turn). ts ++ others) (sym (asks_front invoke call turns n none)))
    (λ apart.
    let some : 0 < n = omega (arith, apart) in
    let h = asks_stand invoke call turns n some s in
    asks_passed invoke call (turns ++ others) n some h.0
    ∙ go (n - length (acts_of_call call)) h.1
    ∙ ap (λ (ts : List Turn). ts ++ others) (sym (asks_passed invoke call turns n some h.0)))
    (cases_eq n 0)

pub left_grows : (turns others : List Turn) (n : ℕ) → StandIn turns n
    → turns_behind (turns ++ others) n ≡ turns_behind turns n ++ others
left_grows [] others n s =
    ap (λ m. turns_behind others m) (empty_none n s) ∙ behind_none others
left_grows (asks invoke call ∷ turns) others n s =
    asks_grow invoke call turns others n (λ m. left_grows turns others m) s
left_grows (offers title ∷ turns) others n s =
    other_grows (offers title) turns others n (λ ts m. refl) s
left_grows (offers_badly ∷ turns) others n s =
    other_grows offers_badly turns others n (λ ts m. refl) s
left_grows (concludes ∷ turns) others n s =
    other_grows concludes turns others n (λ ts m. refl) s
left_grows (releases ∷ turns) others n s =
    other_grows releases turns others n (λ ts m. refl) s
left_grows (aborts ∷ turns) others n s = other_grows aborts turns others n (λ ts m. refl) s
left_grows (breaks ∷ turns) others n s = other_grows breaks turns others n (λ ts m. refl) s
left_grows (ends ∷ turns) others n s = other_grows ends turns others n (λ ts m. refl) s
left_grows (pauses ∷ turns) others n s = other_grows pauses turns others n (λ ts m. refl) s

-- ---- the reply to a request

abbrev talk_with : List ℕ → AssociationSetup → ℤ → List Turn → Talk
talk_with opening setup detail turns = record {
  opening = opening;
  setup = setup;
  detail = detail;
  turns = turns;
}

module _ (table : OwnTables) (ordinal : ℕ) (opening : List ℕ) (setup : AssociationSetup)
    (detail : ℤ)
    (shorter longer : List Turn) where
  abbrev reply_of : List Turn → View → List Turn → List ℕ
  reply_of turns view first =
      first_reply table ordinal (talk_with opening setup detail turns) view first

  -- behind fewer acts the same request comes first
  asks_same : (view : View) (invoke : ℕ) (call : CallKind) (turns others : List Turn) (m n : ℕ)
      → ((k l : ℕ) → k < l → StandIn turns l
      → reply_of longer view (turns_behind (turns ++ others) k)
      ≡ reply_of shorter view (turns_behind turns k))
      → m < n → StandIn (asks invoke call ∷ turns) n
      → reply_of longer view (turns_behind (asks invoke call ∷ turns ++ others) m)
      ≡ reply_of shorter view (turns_behind (asks invoke call ∷ turns) m)
  asks_same view invoke call turns others m n go less s =
      let size = length (acts_of_call call) in
      ⊎_elim
      (λ none. ap (λ (ts : List Turn). reply_of longer view ts)
      (asks_front invoke call (turns ++ others) m none)
      ∙ ap (λ (ts : List Turn). reply_of shorter view ts)
      (sym (asks_front invoke call turns m none)))
      (λ apart.
      let some : 0 < m = omega (arith, apart) in
      ⊎_elim
      (λ below.
      let l : m < size = ltb-true m size below in
      ap (λ (ts : List Turn). reply_of longer view ts)
      (asks_inside invoke call (turns ++ others) m some l)
      ∙ ap (λ (ts : List Turn). reply_of shorter view ts)
      (sym (asks_inside invoke call turns m some l)))
      (λ beyond.
      let l : size ≤ m = ltb-false m size beyond in
      let h = asks_stand invoke call turns n (omega (arith, some, less)) s in
      ap (λ (ts : List Turn). reply_of longer view ts)
      (asks_passed invoke call (turns ++ others) m some l)
      ∙ go (m - size) (n - size) (omega (arith, l, less)) h.1
      ∙ ap (λ (ts : List Turn). reply_of shorter view ts)
      (sym (asks_passed invoke call turns m some l)))
      (two (nat_lt m size)))
      (cases_eq m 0)

  same_first : (view : View) (turns others : List Turn) (m n : ℕ) → m < n → StandIn turns n
      → reply_of longer view (turns_behind (turns ++ others) m)
      ≡ reply_of shorter view (turns_behind turns m)
  same_first view [] others m n less s =
      let none = empty_none n s in absurd (omega (arith, none, less))
  same_first view (asks invoke call ∷ turns) others m n less s =
      asks_same view invoke call turns others m n
      (λ k l. same_first view turns others k l) less s
  same_first view (offers title ∷ turns) others m n less s =
      let none = other_none (offers title) turns n (λ ts k. refl) s in
      absurd (omega (arith, none, less))
  same_first view (offers_badly ∷ turns) others m n less s =
      let none = other_none offers_badly turns n (λ ts k. refl) s in
      absurd (omega (arith, none, less))
  same_first view (concludes ∷ turns) others m n less s =
      let none = other_none concludes turns n (λ ts k. refl) s in
      absurd (omega (arith, none, less))
  same_first view (releases ∷ turns) others m n less s =
      let none = other_none releases turns n (λ ts k. refl) s in
      absurd (omega (arith, none, less))
  same_first view (aborts ∷ turns) others m n less s =
      let none = other_none aborts turns n (λ ts k. refl) s in
      absurd (omega (arith, none, less))
  same_first view (breaks ∷ turns) others m n less s =
      let none = other_none breaks turns n (λ ts k. refl) s in
      absurd (omega (arith, none, less))
  same_first view (ends ∷ turns) others m n less s =
      let none = other_none ends turns n (λ ts k. refl) s in absurd (omega (arith, none, less))
  same_first view (pauses ∷ turns) others m n less s =
      let none = other_none pauses turns n (λ ts k. refl) s in
      absurd (omega (arith, none, less))

-- ---- acts of an association that isn't closed

abbrev is_closes : Act → Bool
is_closes act.closes = true
is_closes _ = false

abbrev closes_by : ℕ → Seen → Bool
closes_by ordinal (own other a) = if other == ordinal then is_closes a else false
closes_by ordinal _ = false

-- whether an association is closed in a view
abbrev has_close : ℕ → View → Bool
has_close ordinal view = list_any (closes_by ordinal) view

no_more : (b : Bool) (seen : Seen) (view : View)
    → length view ≤ length (cond b (seen ∷ view) view)
no_more true seen view = omega arith
no_more false seen view = omega arith

one_more : (b : Bool) (seen : Seen) (view : View) → b ≡ true
    → length (cond b (seen ∷ view) view) ≡ length view + 1
one_more true seen view e = omega arith
one_more false seen view e = absurd (false≢true e)

made_least : (ordinal : ℕ) (seen : Seen) (view : View)
    → acts_made ordinal view ≤ acts_made ordinal (seen ∷ view)
made_least ordinal seen view =
    no_more (is_asked_by ordinal seen) seen (filter (is_asked_by ordinal) view)

made_one : (ordinal other : ℕ) (a : Act) (view : View) → (other == ordinal) ≡ true
    → is_asked a ≡ true
    → acts_made ordinal (own other a ∷ view) ≡ acts_made ordinal view + 1
made_one ordinal other a view same by_call =
    one_more (is_asked_by ordinal (own other a)) (own other a)
    (filter (is_asked_by ordinal) view) (rw (same, by_call) refl)

chosen : (b c : Bool) → (if b then c else false) ≡ false → b ≡ true → c ≡ false
chosen true c e s = e
chosen false c e s = absurd (false≢true s)

module _ (table : OwnTables) (ordinal : ℕ) (opening : List ℕ) (setup : AssociationSetup)
    (detail : ℤ)
    (turns others : List Turn) (count : ℕ) (stand : StandIn turns count) where
  abbrev short : Talk
  short = talk_with opening setup detail turns

  abbrev long : Talk
  long = talk_with opening setup detail (turns ++ others)

  abbrev IsSameReply : View → Type 0
  IsSameReply view = first_reply table ordinal long view
      (turns_behind (turns ++ others) (acts_made ordinal view))
      ≡ first_reply table ordinal short view (turns_behind turns (acts_made ordinal view))

  at_same : (view : View) (a : Act) → (is_asked a ≡ true → IsSameReply view)
      → is_closes a ≡ false
      → act_octets table ordinal long view a ≡ act_octets table ordinal short view a
  at_same view act.opens reply closes = refl
  at_same view act.takes reply closes = refl
  at_same view act.closes reply closes = absurd (false≢true (sym closes))
  at_same view (act.reads name) reply closes = reply refl
  at_same view (act.writes name value) reply closes = reply refl
  at_same view (act.defines set members) reply closes = reply refl
  at_same view (act.deletes set) reply closes = reply refl
  at_same view (act.calls call) reply closes = reply refl

  own_same : (b : Bool) (view : View) (a : Act)
      → (b ≡ true → is_asked a ≡ true → IsSameReply view) → (b ≡ true → is_closes a ≡ false)
      → (if b then act_octets table ordinal long view a else [])
      ≡ (if b then act_octets table ordinal short view a else [])
  own_same true view a reply closes = at_same view a (reply refl) (closes refl)
  own_same false view a reply closes = refl

  same_octets : (view : View) → acts_made ordinal view ≤ count → has_close ordinal view ≡ false
      → octets_in table ordinal long view ≡ octets_in table ordinal short view
  same_octets [] few free = refl
  same_octets (updated point value ∷ view) few free =
      ap (λ (os : List ℕ). os ++ []) (same_octets view few free)
  same_octets (stopped ∷ view) few free =
      ap (λ (os : List ℕ). os ++ []) (same_octets view few free)
  same_octets (other_acted key number name deed ∷ view) few free =
      ap (λ (os : List ℕ). os ++ []) (same_octets view few free)
  same_octets (other_closed key number ∷ view) few free =
      ap (λ (os : List ℕ). os ++ []) (same_octets view few free)
  same_octets (tagged name tag ∷ view) few free =
      ap (λ (os : List ℕ). os ++ []) (same_octets view few free)
  same_octets (asked slot ∷ view) few free =
      ap (λ (os : List ℕ). os ++ []) (same_octets view few free)
  same_octets (chose slot ∷ view) few free =
      ap (λ (os : List ℕ). os ++ []) (same_octets view few free)
  same_octets (ticked now ∷ view) few free =
      ap (λ (os : List ℕ). os ++ []) (same_octets view few free)
  same_octets (own other a ∷ view) few free =
      let n = neither (closes_by ordinal (own other a)) (has_close ordinal view) free in
      let least = made_least ordinal (own other a) view in
      let before = same_octets view (omega (arith, least, few)) n.1 in
      ap (λ (os : List ℕ). os
      ++ (if other == ordinal then act_octets table ordinal long view a else [])) before
      ∙ ap (λ (os : List ℕ). octets_in table ordinal short view ++ os)
      (own_same (other == ordinal) view a
      (λ same by_call. let one = made_one ordinal other a view same by_call in
      same_first table ordinal opening setup detail turns (turns ++ others) view turns others
      (acts_made ordinal view) count (omega (arith, one, few)) stand)
      (λ same. chosen (other == ordinal) (is_closes a) n.0 same))

-- ---- a history in which it isn't closed

never_if : (b c : Bool) → c ≡ false → (if b then c else false) ≡ false
never_if true c e = e
never_if false c e = refl

-- none of these acts is a close
abbrev NoneCloses : List Act → Type 0
NoneCloses [] = Unit {0}
NoneCloses (this ∷ these) = (is_closes this ≡ false) × NoneCloses these

acts_unclosed : (ordinal : ℕ) (these : List Act) → NoneCloses these
    → has_close ordinal (map (own ordinal) these) ≡ false
acts_unclosed ordinal [] none = refl
acts_unclosed ordinal (this ∷ these) none =
    rw (never_if (ordinal == ordinal) (is_closes this) none.0) (acts_unclosed ordinal these none.1)

asked_unclosed : (these : List Act) → AreAsked these → NoneCloses these
asked_unclosed [] a = tt
asked_unclosed (this ∷ these) a = (asked_one this a.0, asked_unclosed these a.1)
  where
    asked_one : (a : Act) → is_asked a ≡ true → is_closes a ≡ false
    asked_one act.opens e = refl
    asked_one act.takes e = refl
    asked_one act.closes e = absurd (false≢true e)
    asked_one (act.reads name) e = refl
    asked_one (act.writes name value) e = refl
    asked_one (act.defines set members) e = refl
    asked_one (act.deletes set) e = refl
    asked_one (act.calls call) e = refl

-- what isn't of the association closes none
apart_unclosed : (ordinal : ℕ) (view : View) → AreApart ordinal view
    → has_close ordinal view ≡ false
apart_unclosed ordinal [] e = refl
apart_unclosed ordinal (own other a ∷ view) e =
    let n = neither (other == ordinal) (list_any (is_own ordinal) view) e in
    rw n.0 (apart_unclosed ordinal view n.1)
apart_unclosed ordinal (other_acted k o d a ∷ view) e = apart_unclosed ordinal view e
apart_unclosed ordinal (other_closed k o ∷ view) e = apart_unclosed ordinal view e
apart_unclosed ordinal (updated n v ∷ view) e = apart_unclosed ordinal view e
apart_unclosed ordinal (tagged d t ∷ view) e = apart_unclosed ordinal view e
apart_unclosed ordinal (asked s ∷ view) e = apart_unclosed ordinal view e
apart_unclosed ordinal (chose v ∷ view) e = apart_unclosed ordinal view e
apart_unclosed ordinal (ticked n ∷ view) e = apart_unclosed ordinal view e
apart_unclosed ordinal (stopped ∷ view) e = apart_unclosed ordinal view e

key_found : (key : Key) (found : Option Key) → found ≡ Some key → is_key key found ≡ true
key_found key found e = ap (λ (o : Option Key). is_key key o) e
    ∙ rw (eq-eqb key.peer key.peer refl, eq-eqb key.ordinal key.ordinal refl) refl

-- acts of the association that close it not
own_unclosed : (rows : CentreRows) (key : Key) (found : Option Key) (before : List Move)
    (these : List Act) → found ≡ Some key → NoneCloses these
    → has_close key.ordinal
    (seen_in rows (own_tables rows) key.peer before (moves_by found these)) ≡ false
own_unclosed rows key found before these e none =
    ap (λ (v : View). has_close key.ordinal v) (shown rows key before found these e)
    ∙ acts_unclosed key.ordinal these none

-- an event of the association that isn't its close
same_unclosed : (rows : CentreRows) (key : Key) (event : EventKind) (found : Option Key)
    (before : List Move) → found ≡ Some key → is_close event ≡ false
    → has_close key.ordinal
    (seen_in rows (own_tables rows) key.peer before (moves_of (sort_of event) found)) ≡ false
same_unclosed rows key (events.Open peer) found before e goes =
    own_unclosed rows key found before (act.opens ∷ []) e (refl, tt)
same_unclosed rows key (events.Request call) found before e goes =
    own_unclosed rows key found before (acts_of_call call) e
    (asked_unclosed (acts_of_call call) (acts_asked call))
same_unclosed rows key events.Take found before e goes =
    own_unclosed rows key found before (act.takes ∷ []) e (refl, tt)
same_unclosed rows key events.Close found before e goes = absurd (false≢true (sym goes))
same_unclosed rows key (events.Update point value) found before e goes =
    apart_unclosed key.ordinal
    (seen_in rows (own_tables rows) key.peer before (updates point value ∷ []))
    (noted_apart rows key (events.Update point value) found before tt)
same_unclosed rows key (events.Table chooser variant) found before e goes =
    apart_unclosed key.ordinal
    (seen_in rows (own_tables rows) key.peer before (chooses chooser variant ∷ []))
    (noted_apart rows key (events.Table chooser variant) found before tt)
same_unclosed rows key (events.Tick now) found before e goes =
    apart_unclosed key.ordinal
    (seen_in rows (own_tables rows) key.peer before (ticks now ∷ []))
    (noted_apart rows key (events.Tick now) found before tt)
same_unclosed rows key (events.Ask asker slot) found before e goes =
    apart_unclosed key.ordinal
    (seen_in rows (own_tables rows) key.peer before (asks asker slot ∷ []))
    (noted_apart rows key (events.Ask asker slot) found before tt)
same_unclosed rows key (events.Tag device tag) found before e goes =
    apart_unclosed key.ordinal
    (seen_in rows (own_tables rows) key.peer before (tags device tag ∷ []))
    (noted_apart rows key (events.Tag device tag) found before tt)
same_unclosed rows key events.TakeOrders found before e goes =
    apart_unclosed key.ordinal
    (seen_in rows (own_tables rows) key.peer before (takes_orders ∷ []))
    (noted_apart rows key events.TakeOrders found before tt)
same_unclosed rows key events.Stop found before e goes = refl

event_unclosed : (rows : CentreRows) (key : Key) (event : EventKind) (found : Option Key)
    (before : List Move) → (is_key key found ≡ true → is_close event ≡ false)
    → has_close key.ordinal
    (seen_in rows (own_tables rows) key.peer before (moves_of (sort_of event) found)) ≡ false
event_unclosed rows key event found before apart =
    ⊎_elim
    (λ same. same_unclosed rows key event found before (key_is key found same) (apart same))
    (λ differs. apart_unclosed key.ordinal
    (seen_in rows (own_tables rows) key.peer before (moves_of (sort_of event) found))
    (apart_event rows (own_tables rows) key event found before
    (λ e. absurd (false≢true (sym differs ∙ key_found key found e)))))
    (two (is_key key found))

abbrev is_close_entry : Entry → Bool
is_close_entry entry = is_close entry.event

open_before : (b : Bool) (entry : Entry) (entries : Past)
    → list_any is_close_entry (if b then entry ∷ entries else entries) ≡ false
    → (b ≡ true → is_close entry.event ≡ false) × (list_any is_close_entry entries ≡ false)
open_before true entry entries e =
    let n = neither (is_close entry.event) (list_any is_close_entry entries) e in
    (λ same. n.0, n.1)
open_before false entry entries e = (λ same. absurd (false≢true same), e)

unclosed : (rows : CentreRows) (key : Key) (past : Past) → is_closed key past ≡ false
    → has_close key.ordinal (view_of rows key.peer past) ≡ false
unclosed rows key [] c = refl
unclosed rows key (entry ∷ past) c =
    let found = key_at entry.event past entry.who in
    let seen =
    seen_in rows (own_tables rows) key.peer (moves_in past)
    (moves_of (sort_of entry.event) found) in
    let b = open_before (is_key key found) entry (entries_of key past) c in
    let now : has_close key.ordinal seen ≡ false =
    event_unclosed rows key entry.event found (moves_in past) b.0 in
    let past_is : has_close key.ordinal (view_of rows key.peer past) ≡ false =
    unclosed rows key past b.1 in
    ap (λ (view : View). has_close key.ordinal view) (view_of-entry rows key.peer past entry)
    ∙ list_any-append (closes_by key.ordinal) seen (view_of rows key.peer past)
    ∙ rw (now, past_is) refl

-- ---- a close

first_true : (a b : Bool) → (a || b) ≡ true → b ≡ false → a ≡ true
first_true true b c n = refl
first_true false b c n = absurd (false≢true (sym n ∙ c))

module _ (rows : CentreRows) (table : OwnTables) (key : Key) (opening : List ℕ)
    (setup : AssociationSetup)
    (detail : ℤ) (turns others : List Turn) where
  abbrev sent_short : Past → List ℕ
  sent_short past = octets_in table key.ordinal (talk_with opening setup detail turns)
      (view_of rows key.peer past)

  abbrev sent_long : Past → List ℕ
  sent_long past = octets_in table key.ordinal (talk_with opening setup detail (turns ++ others))
      (view_of rows key.peer past)

  abbrev made : Past → ℕ
  made past = acts_made key.ordinal (view_of rows key.peer past)

  -- while it isn't closed
  open_same : (past : Past) → is_closed key past ≡ false → StandIn turns (made past)
      → sent_long past ≡ sent_short past
  open_same past unclosed_yet stand =
      same_octets table key.ordinal opening setup detail turns others (made past) stand
      (view_of rows key.peer past) (omega arith) (unclosed rows key past unclosed_yet)

  -- what is added to a close, by what stands at its place
  abbrev Adds : List ℕ → List Turn → Type 0
  Adds added left = close_octets setup (left ++ others) ≡ close_octets setup left ++ added

  record Ends (added : List ℕ) (past : Past) : Type 0 where
    stand : StandIn turns (made past)
    adds : Adds added (turns_behind turns (made past))

  same_ends : (added : List ℕ) (past before : Past) → made past ≡ made before
      → Ends added past → Ends added before
  same_ends added past before same e = record {
    stand = subst (λ n. StandIn turns n) same e.stand;
    adds = subst (λ n. Adds added (turns_behind turns n)) same e.adds;
  }

  -- the entry is its close
  closes_now : (added : List ℕ) (who : ℕ) (past : Past)
      → key_at events.Close past who ≡ Some key → is_closed key past ≡ false
      → Ends added (record { who = who; event = events.Close } ∷ past)
      → sent_long (record { who = who; event = events.Close } ∷ past)
      ≡ sent_short (record { who = who; event = events.Close } ∷ past) ++ added
  closes_now added who past e unclosed_yet end =
      let n = same_ends added (record { who = who; event = events.Close } ∷ past) past
      (quiet_event rows key who events.Close past tt e) end in
      let left = turns_behind turns (made past) in
      close_adds rows table (talk_with opening setup detail (turns ++ others)) key who past e
      ∙ ap (λ (ts : List Turn). sent_long past ++ close_octets setup ts)
      (left_grows turns others (made past) n.stand)
      ∙ ap (λ (os : List ℕ). sent_long past ++ os) n.adds
      ∙ ap (λ (os : List ℕ). os ++ (close_octets setup left ++ added))
      (open_same past unclosed_yet n.stand)
      ∙ sym (append_assoc (sent_short past) (close_octets setup left) added)
      ∙ ap (λ (os : List ℕ). os ++ added)
      (sym (close_adds rows table (talk_with opening setup detail turns) key who past e))

  entry_closes : (added : List ℕ) (who : ℕ) (event : EventKind) (past : Past)
      → key_at event past who ≡ Some key → is_close event ≡ true → is_closed key past ≡ false
      → Ends added (record { who = who; event = event } ∷ past)
      → sent_long (record { who = who; event = event } ∷ past)
      ≡ sent_short (record { who = who; event = event } ∷ past) ++ added
  entry_closes added who (events.Open peer) past e c u end = absurd (false≢true c)
  entry_closes added who (events.Request call) past e c u end = absurd (false≢true c)
  entry_closes added who events.Take past e c u end = absurd (false≢true c)
  entry_closes added who events.Close past e c u end = closes_now added who past e u end
  entry_closes added who (events.Update point value) past e c u end = absurd (false≢true c)
  entry_closes added who (events.Table chooser variant) past e c u end = absurd (false≢true c)
  entry_closes added who (events.Tick now) past e c u end = absurd (false≢true c)
  entry_closes added who (events.Ask asker slot) past e c u end = absurd (false≢true c)
  entry_closes added who (events.Tag device tag) past e c u end = absurd (false≢true c)
  entry_closes added who events.TakeOrders past e c u end = absurd (false≢true c)
  entry_closes added who events.Stop past e c u end = absurd (false≢true c)

  -- by whether the entry is of the association
  entry_ends : (added : List ℕ) (entry : Entry) (past : Past) (b : Bool)
      → is_key key (key_at entry.event past entry.who) ≡ b
      → list_any is_close_entry (if b then entry ∷ entries_of key past else entries_of key past)
      ≡ true
      → (is_closed key past ≡ true → Ends added past → sent_long past ≡ sent_short past ++ added)
      → Ends added (entry ∷ past)
      → sent_long (entry ∷ past) ≡ sent_short (entry ∷ past) ++ added
  entry_ends added entry past true m c before end =
      let found = key_at entry.event past entry.who in
      let e = key_is key found m in
      let unclosed_yet : is_closed key past ≡ false = not_true (is_closed key past)
      (λ closed. not_key_at entry.event past entry.who key (closed_spent key past closed) e) in
      entry_closes added entry.who entry.event past e
      (first_true (is_close entry.event) (is_closed key past) c unclosed_yet) unclosed_yet end
  entry_ends added entry past false m c before end =
      let apart = λ (e : key_at entry.event past entry.who ≡ Some key).
      false≢true (sym m ∙ key_found key (key_at entry.event past entry.who) e) in
      other_adds rows table (talk_with opening setup detail (turns ++ others)) key entry.who
      entry.event past apart
      ∙ before c (same_ends added (entry ∷ past) past
      (made_apart rows key entry.who entry.event past apart) end)
      ∙ ap (λ (os : List ℕ). os ++ added)
      (sym (other_adds rows table (talk_with opening setup detail turns) key entry.who
      entry.event past apart))

  ends_so : (added : List ℕ) (past : Past) → is_closed key past ≡ true → Ends added past
      → sent_long past ≡ sent_short past ++ added
  ends_so added [] c end = absurd (false≢true c)
  ends_so added (entry ∷ past) c end =
      entry_ends added entry past (is_key key (key_at entry.event past entry.who)) refl c
      (ends_so added past) end

-- ---- what a longer text fixes

-- the turns of a text that begin with an offer
record IsOpened (text : List ℕ) : Type 0 where
  title : Option (List ℕ)
  turns : List Turn
  is : turns_told (reading_of text) ≡ offers title ∷ turns

opened_by : (text : List ℕ) (ts : List Turn) (count : ℕ) (rest : List Turn)
    → turns_told (reading_of text) ≡ ts
    → turns_behind (behind_offer (ts ++ ends ∷ [])) count ≡ rest ++ ends ∷ [] → IsOpened text
opened_by text [] count rest is e = absurd (not_nothing rest e)
opened_by text (offers title ∷ turns) count rest is e =
    record { title = title; turns = turns; is = is }
opened_by text (offers_badly ∷ turns) count rest is e = absurd (not_nothing rest e)
opened_by text (asks invoke call ∷ turns) count rest is e = absurd (not_nothing rest e)
opened_by text (concludes ∷ turns) count rest is e = absurd (not_nothing rest e)
opened_by text (releases ∷ turns) count rest is e = absurd (not_nothing rest e)
opened_by text (aborts ∷ turns) count rest is e = absurd (not_nothing rest e)
opened_by text (breaks ∷ turns) count rest is e = absurd (not_nothing rest e)
opened_by text (ends ∷ turns) count rest is e = absurd (not_nothing rest e)
opened_by text (pauses ∷ turns) count rest is e = absurd (not_nothing rest e)

-- an offer among turns is a connect among the messages
connect_come : (reading : Reading) (title : Option (List ℕ)) (turns : List Turn)
    → turns_told reading ≡ offers title ∷ turns
    → is_some (first_in connect_in reading.told) ≡ true
connect_come reading title turns e =
    sym (offers_told reading.told)
    ∙ first_true (list_any offered (turns_heard reading.told))
    (list_any offered (fault_turns reading.broken))
    (sym (list_any-append offered (turns_heard reading.told) (fault_turns reading.broken))
    ∙ ap (λ (ts : List Turn). list_any offered ts) e)
    (no_offer reading.broken)
  where
    no_offer : (broken : Option StackFault) → list_any offered (fault_turns broken) ≡ false
    no_offer None = refl
    no_offer (Some fault) = refl

-- what the text of an association fixes, but for its turns, is fixed by its front
pub record Grows (text more : List ℕ) (ended : Bool) : Type 0 where
  pub opening : List ℕ
  pub setup : AssociationSetup
  pub detail : ℤ
  pub turns : List Turn
  pub later : List Turn
  pub short : talk_of (reading_of text) false ≡ talk_with opening setup detail turns
  pub long : talk_of (reading_of (text ++ more)) ended
      ≡ talk_with opening setup detail (turns ++ (later ++ end_turns ended))
  pub closing : (talk_of (reading_of text) true).turns ≡ turns ++ ends ∷ []

talk_is : (a b : List ℕ) (s t : AssociationSetup) (d e : ℤ) (ts us : List Turn) → a ≡ b → s ≡ t → d ≡ e
    → ts ≡ us → talk_with a s d ts ≡ talk_with b t e us
talk_is a b s t d e ts us p q r u =
    ap (λ (x : List ℕ). talk_with x s d ts) p ∙ ap (λ (x : AssociationSetup). talk_with b x d ts) q
    ∙ ap (λ (x : ℤ). talk_with b t x ts) r ∙ ap (λ (x : List Turn). talk_with b t e x) u

grows : (text more : List ℕ) (ended : Bool) → IsOpened text → Grows text more ended
grows text more ended o =
    let r = reading_of text in
    let w = reading_of (text ++ more) in
    let f = read_front text more in
    let g = front_read (text ++ more) r.told f in
    let t = turns_go_on text more in
    let connect = connect_come r o.title o.turns o.is in
    let size = size_first r.told f.messages f.starts.whole f.starts.spelled f.tell connect in
    let first : first_in connect_in w.told ≡ first_in connect_in r.told =
    ap (λ (ts : List Arrival). first_in connect_in ts) g.1
    ∙ first_kept connect_in r.told g.0 connect in
    let setup : setup_after w.told ≡ setup_after r.told =
    ap (λ (ts : List Arrival). setup_after ts) g.1 ∙ setup_kept r.told g.0 size connect in
    let answers : answers_to called w.told ≡ answers_to called r.told =
    ap (λ (ts : List Arrival). answers_to called ts) g.1
    ∙ answers_kept (text ++ more) r.told g.0
    (subst (λ (ts : List Arrival). HasFront (text ++ more) ts) g.1 (whole_front (text ++ more)))
    connect in
    record {
      opening = answers_to called r.told
          ++ accept_wire (setup_after r.told) (first_in connect_in r.told);
      setup = setup_after r.told;
      detail = detail_of (first_in connect_in r.told);
      turns = o.turns;
      later = t.0;
      short = ap (λ (ts : List Turn). talk_with (answers_to called r.told
          ++ accept_wire (setup_after r.told) (first_in connect_in r.told))
          (setup_after r.told) (detail_of (first_in connect_in r.told)) (behind_offer (ts ++ [])))
          o.is
          ∙ ap (λ (ts : List Turn). talk_with (answers_to called r.told
          ++ accept_wire (setup_after r.told) (first_in connect_in r.told))
          (setup_after r.told) (detail_of (first_in connect_in r.told)) ts) (append-nil o.turns);
      long = talk_is _ _ _ _ _ _ _ _
          (ap (λ (os : List ℕ). os
          ++ accept_wire (setup_after w.told) (first_in connect_in w.told)) answers
          ∙ ap (λ (s : AssociationSetup). answers_to called r.told
          ++ accept_wire s (first_in connect_in w.told)) setup
          ∙ ap (λ (c : Option Connecting). answers_to called r.told
          ++ accept_wire (setup_after r.told) c) first)
          setup
          (ap (λ (c : Option Connecting). detail_of c) first)
          (ap (λ (ts : List Turn). behind_offer (ts ++ end_turns ended))
          (t.1 ∙ ap (λ (ts : List Turn). ts ++ t.0) o.is)
          ∙ append_assoc o.turns t.0 (end_turns ended));
      closing = ap (λ (ts : List Turn). behind_offer (ts ++ ends ∷ [])) o.is;
    }

-- ---- what is left

-- what stands in a text for an association with these requests
abbrev left_in : CentreRows → Past → Key → Talk → List Turn
left_in rows past key talk =
    turns_behind talk.turns (acts_made key.ordinal (view_of rows key.peer past))

abbrev sent_by : CentreRows → Past → Key → Talk → List ℕ
sent_by rows past key talk =
    octets_in (own_tables rows key.peer) key.ordinal talk (view_of rows key.peer past)

grown : (rows : CentreRows) (past : Past) (key : Key) (text more : List ℕ) (ended : Bool)
    → AreInText rows past key text → Grows text more ended
grown rows past key text more ended s =
    grows text more ended (opened_by text (turns_told (reading_of text))
    (acts_made key.ordinal (view_of rows key.peer past)) s.0 refl s.1)

stands : (rows : CentreRows) (past : Past) (key : Key) (text more : List ℕ) (ended : Bool)
    → AreInText rows past key text → (g : Grows text more ended)
    → StandIn g.turns (acts_made key.ordinal (view_of rows key.peer past))
stands rows past key text more ended s g = (
  s.0,
  ap (λ (ts : List Turn). turns_behind ts (acts_made key.ordinal (view_of rows key.peer past)))
      (sym g.closing) ∙ s.1,
)

-- a longer text has more turns left, behind those that the shorter one has
pub left_more : (rows : CentreRows) (past : Past) (key : Key) (text more : List ℕ) (ended : Bool)
    → AreInText rows past key text → (later : List Turn)
    × (turns_left rows past key (text ++ more) ended
    ≡ turns_left rows past key text false ++ (later ++ end_turns ended))
left_more rows past key text more ended s =
    let g = grown rows past key text more ended s in
    let others = g.later ++ end_turns ended in (
      g.later,
      ap (λ (talk : Talk). left_in rows past key talk) g.long
          ∙ left_grows g.turns others (acts_made key.ordinal (view_of rows key.peer past))
          (stands rows past key text more ended s g)
          ∙ ap (λ (ts : List Turn). ts ++ others)
          (sym (ap (λ (talk : Talk). left_in rows past key talk) g.short)),
    )

-- ---- the requests stand in the text

pub in_more : (rows : CentreRows) (past : Past) (key : Key) (text more : List ℕ)
    → AreInText rows past key text → AreInText rows past key (text ++ more)
in_more rows past key text more s =
    let l = left_more rows past key text more true s in (
      turns_left rows past key text false ++ l.0,
      l.1 ∙ sym (append_assoc (turns_left rows past key text false) l.0 (ends ∷ [])),
    )

-- before the open all of the text is left
pub in_yet : (rows : CentreRows) (past : Past) (key : Key) (text : List ℕ)
    (title : Option (List ℕ)) (turns : List Turn) → opens_in past key.peer ≤ key.ordinal
    → turns_told (reading_of text) ≡ offers title ∷ turns → AreInText rows past key text
in_yet rows past key text title turns yet e = (
  turns,
  all_left rows (talk_of (reading_of text) true).turns key past yet
      ∙ ap (λ (ts : List Turn). behind_offer (ts ++ ends ∷ [])) e,
)

pub in_asked : (rows : CentreRows) (past : Past) (key : Key) (who invoke : ℕ) (call : CallKind)
    (later : List Turn) (text : List ℕ) → IsCall call
    → key_at (events.Request call) past who ≡ Some key → AreInText rows past key text
    → turns_left rows past key text false ≡ asks invoke call ∷ later
    → AreInText rows (record { who = who; event = events.Request call } ∷ past) key text
in_asked rows past key who invoke call later text i e s left =
    let l = left_more rows past key text [] true s in
    let now : turns_left rows past key text true
    ≡ asks invoke call ∷ (later ++ (l.0 ++ ends ∷ [])) =
    subst (λ (octets : List ℕ). turns_left rows past key octets true
    ≡ turns_left rows past key text false ++ (l.0 ++ ends ∷ [])) (append-nil text) l.1
    ∙ ap (λ (ts : List Turn). ts ++ (l.0 ++ ends ∷ [])) left in (
      later ++ l.0,
      left_asked rows (talk_of (reading_of text) true).turns key who invoke call
          (later ++ (l.0 ++ ends ∷ [])) past i e now
          ∙ sym (append_assoc later l.0 (ends ∷ [])),
    )

pub in_quiet : (rows : CentreRows) (past : Past) (key : Key) (who : ℕ) (event : EventKind)
    (text : List ℕ) → AsksNoService event → key_at event past who ≡ Some key
    → AreInText rows past key text
    → AreInText rows (record { who = who; event = event } ∷ past) key text
in_quiet rows past key who event text q e s = (
  s.0,
  ap (λ n. turns_behind (talk_of (reading_of text) true).turns n)
      (quiet_event rows key who event past q e) ∙ s.1,
)

pub in_other : (rows : CentreRows) (past : Past) (key : Key) (who : ℕ) (event : EventKind)
    (text : List ℕ) → (key_at event past who ≡ Some key → ⊥) → AreInText rows past key text
    → AreInText rows (record { who = who; event = event } ∷ past) key text
in_other rows past key who event text apart s = (
  s.0,
  ap (λ n. turns_behind (talk_of (reading_of text) true).turns n)
      (made_apart rows key who event past apart) ∙ s.1,
)

-- ---- what is sent

-- until it is closed it is sent the same
pub sent_more : (rows : CentreRows) (past : Past) (key : Key) (text more : List ℕ) (ended : Bool)
    → is_closed key past ≡ false → AreInText rows past key text
    → association_octets rows past key (text ++ more) ended ≡ association_octets rows past key text false
sent_more rows past key text more ended unclosed_yet s =
    let g = grown rows past key text more ended s in
    ap (λ (talk : Talk). sent_by rows past key talk) g.long
    ∙ open_same rows (own_tables rows key.peer) key g.opening g.setup g.detail g.turns
    (g.later ++ end_turns ended) past unclosed_yet (stands rows past key text more ended s g)
    ∙ sym (ap (λ (talk : Talk). sent_by rows past key talk) g.short)

-- once it is, by what stands at the place of its close
closed_more : (rows : CentreRows) (past : Past) (key : Key) (text more : List ℕ) (ended : Bool)
    (added : List ℕ) → is_closed key past ≡ true → (s : AreInText rows past key text)
    → (g : Grows text more ended)
    → close_octets g.setup (turns_left rows past key text false ++ (g.later ++ end_turns ended))
    ≡ close_octets g.setup (turns_left rows past key text false) ++ added
    → association_octets rows past key (text ++ more) ended ≡ association_octets rows past key text false ++ added
closed_more rows past key text more ended added c s g adds =
    ap (λ (talk : Talk). sent_by rows past key talk) g.long
    ∙ ends_so rows (own_tables rows key.peer) key g.opening g.setup g.detail g.turns
    (g.later ++ end_turns ended) added past c
    (record {
      stand = stands rows past key text more ended s g;
      adds = subst (λ (left : List Turn). close_octets g.setup
          (left ++ (g.later ++ end_turns ended)) ≡ close_octets g.setup left ++ added)
          (ap (λ (talk : Talk). left_in rows past key talk) g.short) adds;
    })
    ∙ ap (λ (os : List ℕ). os ++ added)
    (sym (ap (λ (talk : Talk). sent_by rows past key talk) g.short))

fixed_close : (setup : AssociationSetup) (left others : List Turn) → IsFixed left
    → close_octets setup (left ++ others) ≡ close_octets setup left
fixed_close setup [] others f = absurd f
fixed_close setup (concludes ∷ []) others f = absurd f
fixed_close setup (concludes ∷ releases ∷ left) others f = refl
fixed_close setup (concludes ∷ breaks ∷ left) others f = refl
fixed_close setup (concludes ∷ turn ∷ left) others f = refl
fixed_close setup (turn ∷ left) others f = refl

pub sent_fixed : (rows : CentreRows) (past : Past) (key : Key) (text more : List ℕ)
    (ended : Bool) → is_closed key past ≡ true → AreInText rows past key text
    → IsFixed (turns_left rows past key text false)
    → association_octets rows past key (text ++ more) ended ≡ association_octets rows past key text false
sent_fixed rows past key text more ended c s f =
    let g = grown rows past key text more ended s in
    let left = turns_left rows past key text false in
    closed_more rows past key text more ended [] c s g
    (fixed_close g.setup left (g.later ++ end_turns ended) f
    ∙ sym (append-nil (close_octets g.setup left)))
    ∙ append-nil (association_octets rows past key text false)

-- where conclude was the last, what follows it is answered
pub sent_concluded : (rows : CentreRows) (past : Past) (key : Key) (text more : List ℕ)
    (ended : Bool) (later : List Turn) → is_closed key past ≡ true
    → AreInText rows past key text → turns_left rows past key text false ≡ concludes ∷ []
    → turns_left rows past key (text ++ more) ended ≡ concludes ∷ later
    → association_octets rows past key (text ++ more) ended ≡ association_octets rows past key text false
    ++ concluded_octets (talk_of (reading_of text) false).setup later
sent_concluded rows past key text more ended later c s left now =
    let g = grown rows past key text more ended s in
    let others = g.later ++ end_turns ended in
    let l : turns_left rows past key (text ++ more) ended ≡ concludes ∷ others =
    ap (λ (talk : Talk). left_in rows past key talk) g.long
    ∙ left_grows g.turns others (acts_made key.ordinal (view_of rows key.peer past))
    (stands rows past key text more ended s g)
    ∙ ap (λ (ts : List Turn). ts ++ others)
    (sym (ap (λ (talk : Talk). left_in rows past key talk) g.short) ∙ left) in
    let same : others ≡ later = ap (λ (ts : List Turn). drop 1 ts) (sym l ∙ now) in
    closed_more rows past key text more ended (concluded_octets g.setup others) c s g
    (subst (λ (ts : List Turn). close_octets g.setup (ts ++ others)
    ≡ close_octets g.setup ts ++ concluded_octets g.setup others) (sym left)
    (ap (λ (os : List ℕ). os ++ concluded_octets g.setup others)
    (sym (append-nil (said g.setup pdus.Concluded)))))
    ∙ ap (λ (ts : List Turn). association_octets rows past key text false ++ concluded_octets g.setup ts) same
    ∙ ap (λ (talk : Talk). association_octets rows past key text false ++ concluded_octets talk.setup later)
    (sym g.short)
