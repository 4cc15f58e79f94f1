-- Associations of seats: no two seats have one, and each that a seat has is open.
use Rattle.std.proofs.Common.{◌≡◌, ◌==◌, ℕ, ◌+◌, ◌<◌, Bool, true, false, ◌&&◌}
use Rattle.std.proofs.Common.{if◌then◌else◌, List, [], ◌∷◌, ◌++◌, map, reverse, Option, Some, None}
use Rattle.std.proofs.Common.{refl, sym, ap, subst, ◌∙◌, ⊎_elim, arith}
use Rattle.std.proofs.lemmas.Bool.{false≢true, eqb-true, eq-eqb, ne_eqb, cases_eq}
use Rattle.std.proofs.lemmas.Option.{same_Some, none-some}
use Rattle.std.proofs.lemmas.List.{reverse-append}
use Rattle.mms_data.specs.Datum.{Datum}
use Rattle.mms_data.specs.ObjectName.{ObjectName}
use Rattle.sbo_device.specs.declared.key.Key.{Key}
use Rattle.sbo_device.specs.States.{same_key}
use Rattle.tase_views.specs.declared.call.CallKind.{CallKind}
use Rattle.tase_views.specs.declared.call.CallKind.TheVariants.{Identify, Read, ReadSet, Write}
use Rattle.tase_views.specs.declared.call.CallKind.TheVariants.{WriteSet, NameList, TypeOf, Define}
use Rattle.tase_views.specs.declared.call.CallKind.TheVariants.{MembersOf, Delete, DeleteScope, Odd}
use Rattle.tase_views.specs.declared.event.EventKind.{EventKind}
use Rattle.tase_views.specs.declared.event.EventKind.TheVariants.{Open, Request, Take, Close}
use Rattle.tase_views.specs.declared.event.EventKind.TheVariants.{Update, Table, Tag, Tick, Ask}
use Rattle.tase_views.specs.declared.event.EventKind.TheVariants.{TakeOrders, Stop}
use Rattle.tase_views.specs.declared.event.Entry.{Entry}
use Rattle.tase_views.specs.Moves.{Act, opens, takes, closes, reads, writes, defines, deletes}
use Rattle.tase_views.specs.Moves.{calls}
use Rattle.tase_views.specs.Moves.{Move, acts, updates, tags, ticks, asks, chooses, takes_orders}
use Rattle.tase_views.specs.Moves.{stops, EventSort, opening, requesting, taking, closing}
use Rattle.tase_views.specs.Moves.{taking_orders, feeding, sort_of, writes_of, acts_of_call}
use Rattle.tase_views.specs.Moves.{moves_of}
use Rattle.tase_views.specs.History.{Past, counts_opening, counts_open, opens_in, next_key}
use Rattle.tase_views.specs.History.{association_by, association_in, key_by}
use Rattle.tase_views.specs.View.{moves_in}
use Rattle.tase_views.proofs.OpenKeys.{is_open, AreOrderly, open_behind_open}
use Rattle.tase_views.proofs.OpenKeys.{open_behind_close}

-- a key that was given out
abbrev pub IsGiven : Key → Past → Type 0
IsGiven key past = key.ordinal < opens_in past key.peer

opened_given : (past : Past) (peer : ℕ)
    → opens_in past peer < counts_opening (opening peer) peer + opens_in past peer
opened_given past peer = rw (eq-eqb peer peer refl) (omega arith)

next_given : (past : Past) (peer : ℕ) (key : Key) → Some (next_key past peer) ≡ Some key
    → key.ordinal < counts_opening (opening peer) key.peer + opens_in past key.peer
next_given past peer key e =
    subst (λ (k : Key). k.ordinal < counts_opening (opening peer) k.peer + opens_in past k.peer)
    (same_Some (next_key past peer) key e) (opened_given past peer)

next_new : (past : Past) (peer : ℕ) (key : Key) → Some (next_key past peer) ≡ Some key
    → IsGiven key past → ⊥
next_new past peer key e g =
    let old : opens_in past peer < opens_in past peer =
    subst (λ (k : Key). IsGiven k past) (sym (same_Some (next_key past peer) key e)) g in
    omega (arith, old)

after_given : (sort : EventSort) (past : Past) (before : Option Key) (key : Key)
    → (before ≡ Some key → IsGiven key past) → association_by sort past before ≡ Some key
    → key.ordinal < counts_opening sort key.peer + opens_in past key.peer
after_given (opening peer) past before key g e = next_given past peer key e
after_given (requesting call) past before key g e =
    let h : IsGiven key past = g e in omega (arith, h)
after_given taking past before key g e = let h : IsGiven key past = g e in omega (arith, h)
after_given closing past before key g e = absurd (none-some key e)
after_given taking_orders past before key g e = let h : IsGiven key past = g e in omega (arith, h)
after_given (feeding move) past before key g e =
    let h : IsGiven key past = g e in omega (arith, h)

given_chosen : (b : Bool) (entry : Entry) (past : Past) (before : Option Key) (key : Key)
    → (before ≡ Some key → IsGiven key past)
    → (if b then association_by (sort_of entry.event) past before else before) ≡ Some key
    → key.ordinal < counts_open entry.event key.peer + opens_in past key.peer
given_chosen true entry past before key g e =
    after_given (sort_of entry.event) past before key g e
given_chosen false entry past before key g e = let h : IsGiven key past = g e in omega (arith, h)

-- a seat's association has a key that was given out
pub issued : (past : Past) (who : ℕ) (key : Key) → association_in past who ≡ Some key
    → IsGiven key past
issued [] who key e = absurd (none-some key e)
issued (entry ∷ past) who key e =
    given_chosen (entry.who == who) entry past (association_in past who) key
    (issued past who key) e

-- an event gives no key that was given out before
held_before : (sort : EventSort) (past : Past) (before : Option Key) (key : Key)
    → IsGiven key past → association_by sort past before ≡ Some key → before ≡ Some key
held_before (opening peer) past before key g e = absurd (next_new past peer key e g)
held_before (requesting call) past before key g e = e
held_before taking past before key g e = e
held_before closing past before key g e = absurd (none-some key e)
held_before taking_orders past before key g e = e
held_before (feeding move) past before key g e = e

if_true : (b : Bool) (x y : Option Key) → b ≡ true → (if b then x else y) ≡ x
if_true true x y e = refl
if_true false x y e = absurd (false≢true e)

if_false : (b : Bool) (x y : Option Key) → b ≡ false → (if b then x else y) ≡ y
if_false true x y e = absurd (false≢true (sym e))
if_false false x y e = refl

-- the association of the entry's own seat, and of another
at_seat : (entry : Entry) (past : Past) (who : ℕ) → entry.who ≡ who
    → association_in (entry ∷ past) who
    ≡ association_by (sort_of entry.event) past (association_in past who)
at_seat entry past who same =
    if_true (entry.who == who) (association_by (sort_of entry.event) past (association_in past who))
    (association_in past who) (eq-eqb entry.who who same)

at_other : (entry : Entry) (past : Past) (who : ℕ) → (entry.who ≡ who → ⊥)
    → association_in (entry ∷ past) who ≡ association_in past who
at_other entry past who other =
    if_false (entry.who == who)
    (association_by (sort_of entry.event) past (association_in past who))
    (association_in past who) (ne_eqb entry.who who other)

-- two seats never have one key
pub one_seat : (past : Past) (a b : ℕ) (key : Key) → association_in past a ≡ Some key
    → association_in past b ≡ Some key → a ≡ b
one_seat [] a b key ea eb = absurd (none-some key ea)
one_seat (entry ∷ past) a b key ea eb =
    ⊎_elim
    (λ as_a. ⊎_elim
    (λ as_b. sym as_a ∙ as_b)
    (λ not_b.
    let fb : association_in past b ≡ Some key = sym (at_other entry past b not_b) ∙ eb in
    one_seat past a b key
    (held_before (sort_of entry.event) past (association_in past a) key (issued past b key fb)
    (sym (at_seat entry past a as_a) ∙ ea)) fb)
    (cases_eq entry.who b))
    (λ not_a.
    let fa : association_in past a ≡ Some key = sym (at_other entry past a not_a) ∙ ea in
    ⊎_elim
    (λ as_b. one_seat past a b key fa
    (held_before (sort_of entry.event) past (association_in past b) key (issued past a key fa)
    (sym (at_seat entry past b as_b) ∙ eb)))
    (λ not_b. one_seat past a b key fa (sym (at_other entry past b not_b) ∙ eb))
    (cases_eq entry.who b))
    (cases_eq entry.who a)

-- the acts of a call are neither opens nor closes

abbrev IsQuiet : Act → Type 0
IsQuiet opens = ⊥
IsQuiet closes = ⊥
IsQuiet _ = Unit {0}

abbrev AreQuiet : List Act → Type 0
AreQuiet [] = Unit {0}
AreQuiet (act ∷ these) = IsQuiet act × AreQuiet these

quiet_joined : (one other : List Act) → AreQuiet one → AreQuiet other → AreQuiet (one ++ other)
quiet_joined [] other first second = second
quiet_joined (act ∷ one) other first second = (first.0, quiet_joined one other first.1 second)

quiet_reversed : (these : List Act) → AreQuiet these → AreQuiet (reverse these)
quiet_reversed [] quiet = tt
quiet_reversed (act ∷ these) quiet =
    subst AreQuiet (sym (reverse-append (act ∷ []) these))
    (quiet_joined (reverse these) (act ∷ []) (quiet_reversed these quiet.1) (quiet.0, tt))

reads_quiet : (names : List ObjectName) → AreQuiet (map reads names)
reads_quiet [] = tt
reads_quiet (name ∷ names) = (tt, reads_quiet names)

deletes_quiet : (sets : List ObjectName) → AreQuiet (map deletes sets)
deletes_quiet [] = tt
deletes_quiet (set ∷ sets) = (tt, deletes_quiet sets)

writes_quiet : (names : List ObjectName) (values : List Datum) → AreQuiet (writes_of names values)
writes_quiet [] values = tt
writes_quiet (name ∷ names) [] = tt
writes_quiet (name ∷ names) (value ∷ values) = (tt, writes_quiet names values)

call_quiet : (call : CallKind) → AreQuiet (acts_of_call call)
call_quiet Identify = (tt, tt)
call_quiet (Read names echo) = quiet_reversed (map reads names) (reads_quiet names)
call_quiet (ReadSet set echo) = (tt, tt)
call_quiet (Write names values) =
    quiet_reversed (writes_of names values) (writes_quiet names values)
call_quiet (WriteSet set values) = (tt, tt)
call_quiet (NameList class scope after) = (tt, tt)
call_quiet (TypeOf name) = (tt, tt)
call_quiet (Define set members) = (tt, tt)
call_quiet (MembersOf set) = (tt, tt)
call_quiet (Delete sets) = quiet_reversed (map deletes sets) (deletes_quiet sets)
call_quiet (DeleteScope scope) = (tt, tt)
call_quiet (Odd kind code) = (tt, tt)

-- they leave open what is
quiet_act : (key by : Key) (act : Act) (before : List Move) → IsQuiet act
    → is_open before key ≡ true → is_open (acts by act ∷ before) key ≡ true
quiet_act key by opens before quiet there = absurd quiet
quiet_act key by closes before quiet there = absurd quiet
quiet_act key by takes before quiet there = there
quiet_act key by (reads name) before quiet there = there
quiet_act key by (writes name value) before quiet there = there
quiet_act key by (defines set members) before quiet there = there
quiet_act key by (deletes set) before quiet there = there
quiet_act key by (calls call) before quiet there = there

quiet_acts : (key by : Key) (these : List Act) (before : List Move) → AreQuiet these
    → is_open before key ≡ true → is_open (map (acts by) these ++ before) key ≡ true
quiet_acts key by [] before quiet there = there
quiet_acts key by (act ∷ these) before quiet there =
    quiet_act key by act (map (acts by) these ++ before) quiet.0
    (quiet_acts key by these before quiet.1 there)

-- and are in order where their association is open
orderly_act : (by : Key) (act : Act) (before : List Move) → IsQuiet act
    → is_open before by ≡ true → AreOrderly before → AreOrderly (acts by act ∷ before)
orderly_act by opens before quiet there orderly = absurd quiet
orderly_act by closes before quiet there orderly = absurd quiet
orderly_act by takes before quiet there orderly = (there, orderly)
orderly_act by (reads name) before quiet there orderly = (there, orderly)
orderly_act by (writes name value) before quiet there orderly = (there, orderly)
orderly_act by (defines set members) before quiet there orderly = (there, orderly)
orderly_act by (deletes set) before quiet there orderly = (there, orderly)
orderly_act by (calls call) before quiet there orderly = (there, orderly)

orderly_acts : (by : Key) (these : List Act) (before : List Move) → AreQuiet these
    → is_open before by ≡ true → AreOrderly before → AreOrderly (map (acts by) these ++ before)
orderly_acts by [] before quiet there orderly = orderly
orderly_acts by (act ∷ these) before quiet there orderly =
    orderly_act by act (map (acts by) these ++ before) quiet.0
    (quiet_acts by by these before quiet.1 there)
    (orderly_acts by these before quiet.1 there orderly)

-- the centre's own moves are no acts
abbrev IsCentres : EventSort → Type 0
IsCentres (feeding (acts key act)) = ⊥
IsCentres _ = Unit {0}

fed : (event : EventKind) → IsCentres (sort_of event)
fed (Open peer) = tt
fed (Request call) = tt
fed Take = tt
fed Close = tt
fed (Update point value) = tt
fed (Table peer variant) = tt
fed (Tag device tag) = tt
fed (Tick now) = tt
fed (Ask asker slot) = tt
fed TakeOrders = tt
fed Stop = tt

orderly_sort : (sort : EventSort) (past : Past) (before : List Move) (seat : Option Key)
    → IsCentres sort → ((key : Key) → seat ≡ Some key → is_open before key ≡ true)
    → AreOrderly before → AreOrderly (moves_of sort (key_by sort past seat) ++ before)
orderly_sort (opening peer) past before seat centres there orderly = orderly
orderly_sort (requesting call) past before None centres there orderly = orderly
orderly_sort (requesting call) past before (Some key) centres there orderly =
    orderly_acts key (acts_of_call call) before (call_quiet call) (there key refl) orderly
orderly_sort taking past before None centres there orderly = orderly
orderly_sort taking past before (Some key) centres there orderly = (there key refl, orderly)
orderly_sort closing past before None centres there orderly = orderly
orderly_sort closing past before (Some key) centres there orderly = (there key refl, orderly)
orderly_sort taking_orders past before seat centres there orderly = orderly
orderly_sort (feeding (acts key act)) past before seat centres there orderly = absurd centres
orderly_sort (feeding (updates point value)) past before seat centres there orderly = orderly
orderly_sort (feeding (tags device tag)) past before seat centres there orderly = orderly
orderly_sort (feeding (ticks now)) past before seat centres there orderly = orderly
orderly_sort (feeding (asks asker slot)) past before seat centres there orderly = orderly
orderly_sort (feeding (chooses peer variant)) past before seat centres there orderly = orderly
orderly_sort (feeding takes_orders) past before seat centres there orderly = orderly
orderly_sort (feeding stops) past before seat centres there orderly = orderly

-- an association that isn't closed by an event stays open
open_sort : (sort : EventSort) (past : Past) (before : List Move) (seat : Option Key) (key : Key)
    → IsCentres sort
    → ((by : Key) → sort ≡ closing → seat ≡ Some by → same_key key by ≡ false)
    → is_open before key ≡ true
    → is_open (moves_of sort (key_by sort past seat) ++ before) key ≡ true
open_sort (opening peer) past before seat key centres apart there =
    open_behind_open (next_key past peer) key before there
open_sort (requesting call) past before None key centres apart there = there
open_sort (requesting call) past before (Some by) key centres apart there =
    quiet_acts key by (acts_of_call call) before (call_quiet call) there
open_sort taking past before None key centres apart there = there
open_sort taking past before (Some by) key centres apart there = there
open_sort closing past before None key centres apart there = there
open_sort closing past before (Some by) key centres apart there =
    open_behind_close by key before (apart by refl refl) there
open_sort taking_orders past before seat key centres apart there = there
open_sort (feeding (acts by act)) past before seat key centres apart there = absurd centres
open_sort (feeding (updates point value)) past before seat key centres apart there = there
open_sort (feeding (tags device tag)) past before seat key centres apart there = there
open_sort (feeding (ticks now)) past before seat key centres apart there = there
open_sort (feeding (asks asker slot)) past before seat key centres apart there = there
open_sort (feeding (chooses peer variant)) past before seat key centres apart there = there
open_sort (feeding takes_orders) past before seat key centres apart there = there
open_sort (feeding stops) past before seat key centres apart there = there

-- an association that an event leaves to its seat is open behind it
open_after : (sort : EventSort) (past : Past) (before : List Move) (seat : Option Key) (key : Key)
    → IsCentres sort → ((k : Key) → seat ≡ Some k → is_open before k ≡ true)
    → association_by sort past seat ≡ Some key
    → is_open (moves_of sort (key_by sort past seat) ++ before) key ≡ true
open_after (opening peer) past before seat key centres there e =
    subst (λ (k : Key). is_open (acts (next_key past peer) opens ∷ before) k ≡ true)
    (same_Some (next_key past peer) key e) (first (eq-eqb peer peer refl)
    (eq-eqb (opens_in past peer) (opens_in past peer) refl))
  where
    first : (peer == peer) ≡ true → (opens_in past peer == opens_in past peer) ≡ true
        → is_open (acts (next_key past peer) opens ∷ before) (next_key past peer) ≡ true
    first same equal = rw (same, equal) refl
open_after (requesting call) past before seat key centres there e =
    open_sort (requesting call) past before seat key centres (λ by is. absurd cc) (there key e)
open_after taking past before seat key centres there e =
    open_sort taking past before seat key centres (λ by is. absurd cc) (there key e)
open_after closing past before seat key centres there e = absurd (none-some key e)
open_after taking_orders past before seat key centres there e = there key e
open_after (feeding move) past before seat key centres there e =
    open_sort (feeding move) past before seat key centres (λ by is. absurd cc) (there key e)

pub same_parts : (a b : Key) → same_key a b ≡ true → a ≡ b
same_parts a b e =
    let both = parts (a.peer == b.peer) (a.ordinal == b.ordinal) e in
    let P : ℕ → Type 0 = λ o. a ≡ record { peer = b.peer; ordinal = o } in
    subst P (eqb-true a.ordinal b.ordinal both.1)
    (ap (λ (p : ℕ). let k : Key = record { peer = p; ordinal = a.ordinal } in k)
    (eqb-true a.peer b.peer both.0))
  where
    parts : (x y : Bool) → (x && y) ≡ true → (x ≡ true) × (y ≡ true)
    parts true y f = (refl, f)
    parts false y f = absurd (false≢true f)

other_key : (past : Past) (a b : ℕ) (key by : Key) → (b ≡ a → ⊥)
    → association_in past a ≡ Some key → association_in past b ≡ Some by
    → same_key key by ≡ false
other_key past a b key by apart one other = choose (same_key key by) refl
  where
    choose : (t : Bool) → same_key key by ≡ t → same_key key by ≡ false
    choose true e =
        absurd (apart (one_seat past b a key (other ∙ ap (λ (k : Key). Some k)
        (sym (same_parts key by e))) one))
    choose false e = e

-- the association of a seat is open
pub seat_open : (past : Past) (who : ℕ) (key : Key) → association_in past who ≡ Some key
    → is_open (moves_in past) key ≡ true
seat_open [] who key e = absurd (none-some key e)
seat_open (entry ∷ past) who key e =
    ⊎_elim
    (λ same. open_after (sort_of entry.event) past (moves_in past)
    (association_in past entry.who) key
    (fed entry.event) (λ k f. seat_open past entry.who k f)
    (ap (λ (w : ℕ). association_by (sort_of entry.event) past (association_in past w)) same
    ∙ sym (at_seat entry past who same) ∙ e))
    (λ apart. let mine : association_in past who ≡ Some key =
    sym (at_other entry past who apart) ∙ e in
    open_sort (sort_of entry.event) past (moves_in past) (association_in past entry.who) key
    (fed entry.event) (λ by closes seat. other_key past who entry.who key by apart mine seat)
    (seat_open past who key mine))
    (cases_eq entry.who who)

-- the moves of a history are in order
pub orderly : (past : Past) → AreOrderly (moves_in past)
orderly [] = tt
orderly (entry ∷ past) =
    orderly_sort (sort_of entry.event) past (moves_in past) (association_in past entry.who)
    (fed entry.event) (seat_open past entry.who) (orderly past)
