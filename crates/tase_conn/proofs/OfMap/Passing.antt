-- What the text of an association has left behind the requests that were made so far.
use Rattle.std.proofs.Common.{◌≡◌, ◌==◌, ℕ, ◌+◌, ◌-◌, ◌<◌, ◌≤◌, Bool, true, false, List, [], ◌∷◌}
use Rattle.std.proofs.Common.{Some, refl, sym, ap, subst, ◌∙◌, arith, length}
use Rattle.std.proofs.Common.{⊎_elim, map, ◌⊎◌, inl, inr}
use Rattle.std.specs.Prelude.{if◌then◌else◌, nat_lt}
use Rattle.std.proofs.lemmas.Bool.{false≢true, eq-eqb, cases_eq, ltb-true, ltb-false}
use Rattle.std.proofs.lemmas.Option.{same_Some}
use Rattle.sbo_device.specs.declared.key.Key.{Key}
use Rattle.bilateral.specs.Rows.{CentreRows}
use Rattle.tase_views.specs.Calls.{IsCall}
use Rattle.tase_views.specs.declared.call.CallKind.{CallKind}
use Rattle.tase_views.specs.declared.event.EventKind.{EventKind}
use Rattle.tase_views.specs.declared.event.EventKind.TheVariants as events
use Rattle.tase_views.specs.declared.event.Entry.{Entry}
use Rattle.tase_views.specs.History.{Past, counts_open, opens_in, next_key, key_at}
use Rattle.tase_views.specs.OwnTables.{OwnTables, own_tables}
use Rattle.tase_views.specs.Moves.{Act, acts_of_call, moves_of, sort_of}
use Rattle.tase_views.specs.View.{own, moves_in, View, view_of, seen_in}
use Rattle.tase_views.specs.Moves as act
use Rattle.tase_views.proofs.Seen.{view_of-entry}
use Rattle.tase_conn.specs.Map.Turns.{Turn, offers, offers_badly, asks, concludes, releases, aborts}
use Rattle.tase_conn.specs.Map.Turns.{breaks, ends, pauses}
use Rattle.tase_conn.specs.Map.Out.{Talk, is_asked, acts_made, turns_behind, octets_in}
use Rattle.tase_conn.specs.Map.Sent.{AsksNoService, IsNoted}
use Rattle.tase_conn.proofs.OfMap.Apart.{apart_event, apart_made}
use Rattle.tase_conn.proofs.OfMap.Closing.{issued}
use Rattle.tase_conn.proofs.OfMap.Adding.{is_asking, call_at, asks_front, asks_inside, asks_passed, if_eq}
use Rattle.tase_conn.proofs.OfMap.Adding.{if_ne, none_asking, made_all, acts_asked, some_acts, with_acts}
use Rattle.tase_conn.proofs.OfMap.Adding.{shown, other_adds, noted_apart}

-- ---- behind a whole request

pub behind_none : (turns : List Turn) → turns_behind turns 0 ≡ turns
behind_none [] = refl
behind_none (asks invoke call ∷ turns) = asks_front invoke call turns 0 refl
behind_none (offers title ∷ turns) = refl
behind_none (offers_badly ∷ turns) = refl
behind_none (concludes ∷ turns) = refl
behind_none (releases ∷ turns) = refl
behind_none (aborts ∷ turns) = refl
behind_none (breaks ∷ turns) = refl
behind_none (ends ∷ turns) = refl
behind_none (pauses ∷ turns) = refl

abbrev behind_first : List Turn → List Turn
behind_first [] = []
behind_first (turn ∷ turns) = turns

-- the request in front, whole
abbrev PassedBy : List Turn → ℕ → Type 0
PassedBy turns count = is_asking (turns_behind turns count) ≡ true
    → 0 < call_at (turns_behind turns count)
    → turns_behind turns (count + call_at (turns_behind turns count))
    ≡ behind_first (turns_behind turns count)

asks_whole : (invoke : ℕ) (call : CallKind) (turns : List Turn) (count : ℕ)
    → ((n : ℕ) → PassedBy turns n) → PassedBy (asks invoke call ∷ turns) count
asks_whole invoke call turns count go asking some =
    let n = length (acts_of_call call) in
    ⊎_elim
    (λ none.
    let front = asks_front invoke call turns count none in
    let size : call_at (turns_behind (asks invoke call ∷ turns) count) ≡ n =
    ap (λ (ts : List Turn). call_at ts) front in
    let least : 0 < n = subst (λ m. 0 < m) size some in
    ap (λ m. turns_behind (asks invoke call ∷ turns) m) (at_front count n
    (call_at (turns_behind (asks invoke call ∷ turns) count)) none size)
    ∙ asks_passed invoke call turns n least (omega arith)
    ∙ ap (λ m. turns_behind turns m) (same n) ∙ behind_none turns
    ∙ sym (ap (λ (ts : List Turn). behind_first ts) front))
    (λ apart.
    let here : 0 < count = omega (arith, apart) in
    ⊎_elim
    (λ below. absurd (none_asking (turns_behind (asks invoke call ∷ turns) count)
    (asks_inside invoke call turns count here (ltb-true count n below)) asking))
    (λ beyond.
    let least : n ≤ count = ltb-false count n beyond in
    let e = asks_passed invoke call turns count here least in
    let size = ap (λ (ts : List Turn). call_at ts) e in
    let more = call_at (turns_behind (asks invoke call ∷ turns) count) in
    asks_passed invoke call turns (count + more) (omega (arith, here))
    (omega (arith, least))
    ∙ ap (λ m. turns_behind turns m)
    (shifted count more n (call_at (turns_behind turns (count - n))) least size)
    ∙ go (count - n) (ap (λ (ts : List Turn). is_asking ts) (sym e) ∙ asking)
    (subst (λ m. 0 < m) size some)
    ∙ sym (ap (λ (ts : List Turn). behind_first ts) e))
    (two (nat_lt count n)))
    (cases_eq count 0)
  where
    at_front : (count n m : ℕ) → count ≡ 0 → m ≡ n → count + m ≡ n
    at_front count n m c e = omega (arith, c, e)

    same : (n : ℕ) → n - n ≡ 0
    same n = omega arith

    shifted : (count more n m : ℕ) → n ≤ count → more ≡ m → count + more - n ≡ count - n + m
    shifted count more n m l e = omega (arith, l, e)

    two : (b : Bool) → (b ≡ true) ⊎ (b ≡ false)
    two true = inl refl
    two false = inr refl

other_whole : (turn : Turn) (turns : List Turn) (count : ℕ)
    → ((n : ℕ) → turns_behind (turn ∷ turns) n ≡ (if n == 0 then turn ∷ turns else []))
    → is_asking (turn ∷ turns) ≡ false → PassedBy (turn ∷ turns) count
other_whole turn turns count by never asking some =
    ⊎_elim
    (λ none. absurd (false≢true (sym never
    ∙ ap (λ (ts : List Turn). is_asking ts) (sym (by count ∙ if_eq count (turn ∷ turns) [] none))
    ∙ asking)))
    (λ apart. absurd (none_asking (turns_behind (turn ∷ turns) count)
    (by count ∙ if_ne count (turn ∷ turns) [] (omega (arith, apart))) asking))
    (cases_eq count 0)

whole : (turns : List Turn) (count : ℕ) → PassedBy turns count
whole [] count = λ asking some. absurd (false≢true asking)
whole (asks invoke call ∷ turns) count =
    asks_whole invoke call turns count (λ n. whole turns n)
whole (offers title ∷ turns) count = other_whole (offers title) turns count (λ n. refl) refl
whole (offers_badly ∷ turns) count = other_whole offers_badly turns count (λ n. refl) refl
whole (concludes ∷ turns) count = other_whole concludes turns count (λ n. refl) refl
whole (releases ∷ turns) count = other_whole releases turns count (λ n. refl) refl
whole (aborts ∷ turns) count = other_whole aborts turns count (λ n. refl) refl
whole (breaks ∷ turns) count = other_whole breaks turns count (λ n. refl) refl
whole (ends ∷ turns) count = other_whole ends turns count (λ n. refl) refl
whole (pauses ∷ turns) count = other_whole pauses turns count (λ n. refl) refl

passed_whole : (turns : List Turn) (count invoke : ℕ) (call : CallKind) (later : List Turn)
    → turns_behind turns count ≡ asks invoke call ∷ later → 0 < length (acts_of_call call)
    → turns_behind turns (count + length (acts_of_call call)) ≡ later
passed_whole turns count invoke call later e some =
    let size = ap (λ (ts : List Turn). call_at ts) e in
    ap (λ m. turns_behind turns (count + m)) (sym size)
    ∙ whole turns count (ap (λ (ts : List Turn). is_asking ts) e)
    (subst (λ m. 0 < m) (sym size) some)
    ∙ ap (λ (ts : List Turn). behind_first ts) e

-- ---- what makes no act of the association

abbrev with_event : ℕ → EventKind → Past → Past
with_event who event past = record { who = who; event = event } ∷ past

pub made_apart : (rows : CentreRows) (key : Key) (who : ℕ) (event : EventKind) (past : Past)
    → (key_at event past who ≡ Some key → ⊥)
    → acts_made key.ordinal (view_of rows key.peer (with_event who event past))
    ≡ acts_made key.ordinal (view_of rows key.peer past)
made_apart rows key who event past apart =
    ap (λ (v : View). acts_made key.ordinal v)
    (view_of-entry rows key.peer past (record { who = who; event = event }))
    ∙ apart_made key.ordinal
    (seen_in rows (own_tables rows) key.peer (moves_in past)
    (moves_of (sort_of event) (key_at event past who))) (view_of rows key.peer past)
    (apart_event rows (own_tables rows) key event (key_at event past who) (moves_in past) apart)

-- an act that no request makes
quiet_made : (ordinal : ℕ) (a : Act) (view : View) → is_asked a ≡ false
    → acts_made ordinal (own ordinal a ∷ view) ≡ acts_made ordinal view
quiet_made ordinal a view i = rw (eq-eqb ordinal ordinal refl, i) refl

pub made_quiet : (rows : CentreRows) (key : Key) (who : ℕ) (event : EventKind) (past : Past)
    (this : Act) → is_asked this ≡ false
    → seen_in rows (own_tables rows) key.peer (moves_in past)
    (moves_of (sort_of event) (key_at event past who)) ≡ map (own key.ordinal) (this ∷ [])
    → acts_made key.ordinal (view_of rows key.peer (with_event who event past))
    ≡ acts_made key.ordinal (view_of rows key.peer past)
made_quiet rows key who event past this i e =
    ap (λ (v : View). acts_made key.ordinal v)
    (with_acts rows key who event past (this ∷ []) e)
    ∙ quiet_made key.ordinal this (view_of rows key.peer past) i

pub made_asked : (rows : CentreRows) (key : Key) (who : ℕ) (call : CallKind) (past : Past)
    → key_at (events.Request call) past who ≡ Some key
    → acts_made key.ordinal (view_of rows key.peer (with_event who (events.Request call) past))
    ≡ acts_made key.ordinal (view_of rows key.peer past) + length (acts_of_call call)
made_asked rows key who call past e =
    ap (λ (v : View). acts_made key.ordinal v)
    (with_acts rows key who (events.Request call) past (acts_of_call call)
    (shown rows key (moves_in past) (key_at (events.Request call) past who) (acts_of_call call) e))
    ∙ made_all key.ordinal (acts_of_call call) (view_of rows key.peer past) (acts_asked call)

pub left_asked : (rows : CentreRows) (turns : List Turn) (key : Key) (who invoke : ℕ)
    (call : CallKind) (later : List Turn) (past : Past) → IsCall call
    → key_at (events.Request call) past who ≡ Some key
    → turns_behind turns (acts_made key.ordinal (view_of rows key.peer past))
    ≡ asks invoke call ∷ later
    → turns_behind turns (acts_made key.ordinal
    (view_of rows key.peer (with_event who (events.Request call) past))) ≡ later
left_asked rows turns key who invoke call later past i e f =
    ap (λ m. turns_behind turns m) (made_asked rows key who call past e)
    ∙ passed_whole turns (acts_made key.ordinal (view_of rows key.peer past)) invoke call later f
    (some_acts call i)

-- an event of no association's doing
made_noted : (rows : CentreRows) (key : Key) (who : ℕ) (event : EventKind) (past : Past)
    → IsNoted event
    → acts_made key.ordinal (view_of rows key.peer (with_event who event past))
    ≡ acts_made key.ordinal (view_of rows key.peer past)
made_noted rows key who event past i =
    ap (λ (v : View). acts_made key.ordinal v)
    (view_of-entry rows key.peer past (record { who = who; event = event }))
    ∙ apart_made key.ordinal
    (seen_in rows (own_tables rows) key.peer (moves_in past)
    (moves_of (sort_of event) (key_at event past who))) (view_of rows key.peer past)
    (noted_apart rows key event (key_at event past who) (moves_in past) i)

-- any other event of the association
pub quiet_event : (rows : CentreRows) (key : Key) (who : ℕ) (event : EventKind) (past : Past)
    → AsksNoService event → key_at event past who ≡ Some key
    → acts_made key.ordinal (view_of rows key.peer (with_event who event past))
    ≡ acts_made key.ordinal (view_of rows key.peer past)
quiet_event rows key who (events.Open peer) past q e =
    made_quiet rows key who (events.Open peer) past act.opens refl
    (shown rows key (moves_in past) (key_at (events.Open peer) past who) (act.opens ∷ []) e)
quiet_event rows key who (events.Request call) past q e = absurd q
quiet_event rows key who events.Take past q e =
    made_quiet rows key who events.Take past act.takes refl
    (shown rows key (moves_in past) (key_at events.Take past who) (act.takes ∷ []) e)
quiet_event rows key who events.Close past q e =
    made_quiet rows key who events.Close past act.closes refl
    (shown rows key (moves_in past) (key_at events.Close past who) (act.closes ∷ []) e)
quiet_event rows key who (events.Update point value) past q e =
    made_noted rows key who (events.Update point value) past tt
quiet_event rows key who (events.Table chooser variant) past q e =
    made_noted rows key who (events.Table chooser variant) past tt
quiet_event rows key who (events.Tick now) past q e =
    made_noted rows key who (events.Tick now) past tt
quiet_event rows key who (events.Ask asker slot) past q e =
    made_noted rows key who (events.Ask asker slot) past tt
quiet_event rows key who (events.Tag device tag) past q e =
    made_noted rows key who (events.Tag device tag) past tt
quiet_event rows key who events.TakeOrders past q e =
    made_noted rows key who events.TakeOrders past tt
quiet_event rows key who events.Stop past q e = made_noted rows key who events.Stop past tt

-- ---- before the open

abbrev IsYet : Key → Past → Type 0
IsYet key past = opens_in past key.peer ≤ key.ordinal

next_yet : (past : Past) (peer : ℕ) (key : Key) → Some (next_key past peer) ≡ Some key
    → counts_open (events.Open peer) key.peer + opens_in past key.peer ≤ key.ordinal → ⊥
next_yet past peer key e y =
    let f = same_Some (next_key past peer) key e in
    let l : counts_open (events.Open peer) peer + opens_in past peer ≤ opens_in past peer =
    subst (λ (k : Key). counts_open (events.Open peer) k.peer + opens_in past k.peer ≤ k.ordinal)
    (sym f) y in
    let one : counts_open (events.Open peer) peer ≡ 1 = rw (eq-eqb peer peer refl) refl in
    omega (arith, l, one)

yet_none : (who : ℕ) (event : EventKind) (past : Past) (key : Key)
    → IsYet key (with_event who event past) → key_at event past who ≡ Some key → ⊥
yet_none who (events.Open peer) past key y e = next_yet past peer key e y
yet_none who (events.Request call) past key y e =
    let g = issued past who key e in omega (arith, g, y)
yet_none who events.Take past key y e = let g = issued past who key e in omega (arith, g, y)
yet_none who events.Close past key y e = let g = issued past who key e in omega (arith, g, y)
yet_none who (events.Update point value) past key y e =
    let g = issued past who key e in omega (arith, g, y)
yet_none who (events.Table chooser variant) past key y e =
    let g = issued past who key e in omega (arith, g, y)
yet_none who (events.Tick now) past key y e =
    let g = issued past who key e in omega (arith, g, y)
yet_none who (events.Ask asker slot) past key y e =
    let g = issued past who key e in omega (arith, g, y)
yet_none who (events.Tag device tag) past key y e =
    let g = issued past who key e in omega (arith, g, y)
yet_none who events.TakeOrders past key y e =
    let g = issued past who key e in omega (arith, g, y)
yet_none who events.Stop past key y e = let g = issued past who key e in omega (arith, g, y)

yet_before : (entry : Entry) (past : Past) (key : Key) → IsYet key (entry ∷ past) → IsYet key past
yet_before entry past key y = omega (arith, y)

pub none_made : (rows : CentreRows) (key : Key) (past : Past) → IsYet key past
    → acts_made key.ordinal (view_of rows key.peer past) ≡ 0
none_made rows key [] y = refl
none_made rows key (entry ∷ past) y =
    made_apart rows key entry.who entry.event past (yet_none entry.who entry.event past key y)
    ∙ none_made rows key past (yet_before entry past key y)

pub none_sent : (rows : CentreRows) (table : OwnTables) (talk : Talk) (key : Key) (past : Past)
    → IsYet key past → octets_in table key.ordinal talk (view_of rows key.peer past) ≡ []
none_sent rows table talk key [] y = refl
none_sent rows table talk key (entry ∷ past) y =
    other_adds rows table talk key entry.who entry.event past
    (yet_none entry.who entry.event past key y)
    ∙ none_sent rows table talk key past (yet_before entry past key y)

pub all_left : (rows : CentreRows) (turns : List Turn) (key : Key) (past : Past) → IsYet key past
    → turns_behind turns (acts_made key.ordinal (view_of rows key.peer past)) ≡ turns
all_left rows turns key past y =
    ap (λ m. turns_behind turns m) (none_made rows key past y) ∙ behind_none turns
