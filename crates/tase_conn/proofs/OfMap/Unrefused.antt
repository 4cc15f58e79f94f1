-- Events of a seat that come in turn have no refusal by the seat or by a name.
use Rattle.std.proofs.Common.{◌≡◌, ◌==◌, ℕ, Bool, true, false, List, [], ◌∷◌, ◌++◌, Option}
use Rattle.std.proofs.Common.{Some, None, refl, sym, ap, subst, ◌∙◌, length, reverse, ⊎_elim}
use Rattle.std.specs.Prelude.{if◌then◌else◌, is_some}
use Rattle.std.specs.List.{cons_option, list_any}
use Rattle.std.proofs.lemmas.Bool.{false≢true}
use Rattle.std.proofs.lemmas.Bool.{lt-ltb}
use Rattle.std.proofs.lemmas.List.{reverse-append, reverse-reverse}
use Rattle.sbo_device.specs.declared.key.Key.{Key}
use Rattle.bilateral.specs.Rows.{CentreRows}
use Rattle.tase_views.specs.declared.event.EventKind.{EventKind}
use Rattle.tase_views.specs.declared.event.EventKind.TheVariants.{Open, Request, Take, Close}
use Rattle.tase_views.specs.declared.event.EventKind.TheVariants.{Update, Table, Tick, Ask, Tag, TakeOrders, Stop}
use Rattle.tase_views.specs.declared.event.Entry.{Entry}
use Rattle.tase_views.specs.History.{Past, association_after, association_in}
use Rattle.tase_views.specs.Outcomes.{seat_refusal, name_refusal}
use Rattle.tase_conn.specs.Map.Inputs.{Item, IsLinkInput}
use Rattle.tase_conn.specs.Map.Turns.{turns_of}
use Rattle.tase_conn.specs.Map.Asks.{AreServed, AreInTurn, is_last, asks_of}
use Rattle.tase_conn.specs.Map.Sent.{events_by}
use Rattle.tase_conn.proofs.OfMap.InTurn.{ComesToClose, IsShutBy, asked_shut}

-- ---- whether a seat has an association, by its events, the newest first

last_open : List EventKind → Bool
last_open [] = false
last_open (Open peer ∷ es) = true
last_open (Request call ∷ es) = last_open es
last_open (Take ∷ es) = last_open es
last_open (Close ∷ es) = false
last_open (Update point value ∷ es) = last_open es
last_open ((Table chooser variant) ∷ es) = last_open es
last_open ((Tick now) ∷ es) = last_open es
last_open ((Ask asker slot) ∷ es) = last_open es
last_open ((Tag device tag) ∷ es) = last_open es
last_open (TakeOrders ∷ es) = last_open es
last_open (Stop ∷ es) = last_open es

after_open : (event : EventKind) (past : Past) (before : Option Key) (es : List EventKind)
    → is_some before ≡ last_open es
    → is_some (association_after event past before) ≡ last_open (event ∷ es)
unfolding last_open
after_open (Open peer) past before es e = refl
after_open (Request call) past before es e = e
after_open Take past before es e = e
after_open Close past before es e = refl
after_open (Update point value) past before es e = e
after_open (Table chooser variant) past before es e = e
after_open (Tick now) past before es e = e
after_open (Ask asker slot) past before es e = e
after_open (Tag device tag) past before es e = e
after_open TakeOrders past before es e = e
after_open Stop past before es e = e

entry_open : (b : Bool) (entry : Entry) (past : Past) (before : Option Key) (es : List EventKind)
    → is_some before ≡ last_open es
    → is_some (if b then association_after entry.event past before else before)
    ≡ last_open (cons_option (if b then Some entry.event else None) es)
entry_open true entry past before es e = after_open entry.event past before es e
entry_open false entry past before es e = e

seat_open : (past : Past) (who : ℕ)
    → is_some (association_in past who) ≡ last_open (events_by who past)
unfolding last_open
seat_open [] who = refl
seat_open (entry ∷ past) who =
    entry_open (entry.who == who) entry past (association_in past who) (events_by who past)
    (seat_open past who)

-- ---- in turn

abbrev IsCalled : EventKind → Type 0
IsCalled (Request call) = Unit {0}
IsCalled Take = Unit {0}
IsCalled event = ⊥

abbrev AreCalled : List EventKind → Type 0
AreCalled [] = Unit {0}
AreCalled (event ∷ es) = IsCalled event × AreCalled es

-- what may come behind an open
abbrev IsServedOne : EventKind → Type 0
IsServedOne (Request call) = Unit {0}
IsServedOne Take = Unit {0}
IsServedOne Close = Unit {0}
IsServedOne event = ⊥

not_empty : (es : List EventKind) (event : EventKind) (rest : List EventKind)
    → es ++ event ∷ rest ≡ [] → ⊥
not_empty [] event rest e = absurd cc
not_empty (x ∷ es) event rest e = absurd cc

record Served (es : List EventKind) (event : EventKind) : Type 0 where
  called : AreCalled es
  next : IsServedOne event

one_served : (event : EventKind) (rest : List EventKind) → AreServed (event ∷ rest)
    → IsServedOne event
one_served (Open peer) rest s = absurd s
one_served (Request call) rest s = tt
one_served Take rest s = tt
one_served Close rest s = tt
one_served (Update point value) rest s = absurd s
one_served (Table chooser variant) rest s = absurd s
one_served (Tick now) rest s = absurd s
one_served (Ask asker slot) rest s = absurd s
one_served (Tag device tag) rest s = absurd s
one_served TakeOrders rest s = absurd s
one_served Stop rest s = absurd s

served : (es : List EventKind) (event : EventKind) (rest : List EventKind)
    → AreServed (es ++ event ∷ rest) → Served es event
served [] event rest s = record { called = tt; next = one_served event rest s }
served (Open peer ∷ es) event rest s = absurd s
served (Request call ∷ es) event rest s =
    let r = served es event rest s in record { called = (tt, r.called); next = r.next }
served (Take ∷ es) event rest s =
    let r = served es event rest s in record { called = (tt, r.called); next = r.next }
served (Close ∷ es) event rest s = absurd (not_empty es event rest s)
served (Update point value ∷ es) event rest s = absurd s
served ((Table chooser variant) ∷ es) event rest s = absurd s
served ((Tick now) ∷ es) event rest s = absurd s
served ((Ask asker slot) ∷ es) event rest s = absurd s
served ((Tag device tag) ∷ es) event rest s = absurd s
served (TakeOrders ∷ es) event rest s = absurd s
served (Stop ∷ es) event rest s = absurd s

passed_open : (es more : List EventKind) → AreCalled es
    → last_open (es ++ more) ≡ last_open more
unfolding last_open
passed_open [] more a = refl
passed_open (Open peer ∷ es) more a = absurd a.0
passed_open (Request call ∷ es) more a = passed_open es more a.1
passed_open (Take ∷ es) more a = passed_open es more a.1
passed_open (Close ∷ es) more a = absurd a.0
passed_open (Update point value ∷ es) more a = absurd a.0
passed_open ((Table chooser variant) ∷ es) more a = absurd a.0
passed_open ((Tick now) ∷ es) more a = absurd a.0
passed_open ((Ask asker slot) ∷ es) more a = absurd a.0
passed_open ((Tag device tag) ∷ es) more a = absurd a.0
passed_open (TakeOrders ∷ es) more a = absurd a.0
passed_open (Stop ∷ es) more a = absurd a.0

all_joined : (es more : List EventKind) → AreCalled es → AreCalled more → AreCalled (es ++ more)
all_joined [] more a b = b
all_joined (x ∷ es) more a b = (a.0, all_joined es more a.1 b)

all_reversed : (es : List EventKind) → AreCalled es → AreCalled (reverse es)
all_reversed [] a = tt
all_reversed (x ∷ es) a =
    subst (λ (l : List EventKind). AreCalled l) (sym (reverse-append (x ∷ []) es))
    (all_joined (reverse es) (x ∷ []) (all_reversed es a.1) (a.0, tt))

begun_open : (peer : ℕ) (es : List EventKind) → AreCalled es
    → last_open (reverse (Open peer ∷ es)) ≡ true
unfolding last_open
begun_open peer es a =
    ap (λ (l : List EventKind). last_open l) (reverse-append (Open peer ∷ []) es)
    ∙ passed_open (reverse es) (Open peer ∷ []) (all_reversed es a)

-- ---- refusals

abbrev Unrefused : CentreRows → Option Key → EventKind → Type 0
Unrefused rows found event =
    (seat_refusal found event ≡ None) × (name_refusal rows event ≡ None)

held : (rows : CentreRows) (found : Option Key) (event : EventKind) → is_some found ≡ true
    → IsServedOne event → Unrefused rows found event
held rows found (Open peer) f s = absurd s
held rows found (Request call) f s = (rw f refl, refl)
held rows found Take f s = (rw f refl, refl)
held rows found Close f s = (rw f refl, refl)
held rows found (Update point value) f s = absurd s
held rows found (Table chooser variant) f s = absurd s
held rows found (Tick now) f s = absurd s
held rows found (Ask asker slot) f s = absurd s
held rows found (Tag device tag) f s = absurd s
held rows found TakeOrders f s = absurd s
held rows found Stop f s = absurd s

opened : (rows : CentreRows) (found : Option Key) (event : EventKind) (rest : List EventKind)
    → is_some found ≡ false → AreInTurn rows (event ∷ rest) → Unrefused rows found event
opened rows found (Open peer) rest f t =
    (rw f refl, rw (lt-ltb peer (length rows.tables) t.0) refl)
opened rows found (Request call) rest f t = absurd t
opened rows found Take rest f t = absurd t
opened rows found Close rest f t = absurd t
opened rows found (Update point value) rest f t = absurd t
opened rows found (Table chooser variant) rest f t = absurd t
opened rows found (Tick now) rest f t = absurd t
opened rows found (Ask asker slot) rest f t = absurd t
opened rows found (Tag device tag) rest f t = absurd t
opened rows found TakeOrders rest f t = absurd t
opened rows found Stop rest f t = absurd t

by_events : (rows : CentreRows) (found : Option Key) (es : List EventKind) (event : EventKind)
    (rest : List EventKind) → is_some found ≡ last_open (reverse es)
    → AreInTurn rows (es ++ event ∷ rest) → Unrefused rows found event
unfolding last_open
by_events rows found [] event rest f t = opened rows found event rest f t
by_events rows found (Open peer ∷ es) event rest f t =
    let s = served es event rest t.1 in
    held rows found event (f ∙ begun_open peer es s.called) s.next
by_events rows found (Request call ∷ es) event rest f t = absurd t
by_events rows found (Take ∷ es) event rest f t = absurd t
by_events rows found (Close ∷ es) event rest f t = absurd t
by_events rows found (Update point value ∷ es) event rest f t = absurd t
by_events rows found ((Table chooser variant) ∷ es) event rest f t = absurd t
by_events rows found ((Tick now) ∷ es) event rest f t = absurd t
by_events rows found ((Ask asker slot) ∷ es) event rest f t = absurd t
by_events rows found ((Tag device tag) ∷ es) event rest f t = absurd t
by_events rows found (TakeOrders ∷ es) event rest f t = absurd t
by_events rows found (Stop ∷ es) event rest f t = absurd t

-- an event that comes in turn behind those of its seat
pub unrefused : (rows : CentreRows) (past : Past) (who : ℕ) (event : EventKind)
    (rest : List EventKind)
    → AreInTurn rows (reverse (events_by who past) ++ event ∷ rest)
    → Unrefused rows (association_in past who) event
unrefused rows past who event rest t =
    by_events rows (association_in past who) (reverse (events_by who past)) event rest
    (seat_open past who ∙ ap (λ (l : List EventKind). last_open l)
    (sym (reverse-reverse (events_by who past)))) t

-- ---- closed, where the input has ended

-- no event, or a close behind the others: none is open
shut_open : (asked : List EventKind) → IsShutBy asked → last_open (reverse asked) ≡ false
unfolding last_open
shut_open asked s = ⊎_elim
    (λ (none : asked ≡ []). ap (λ (es : List EventKind). last_open (reverse es)) none)
    (λ (c : ComesToClose asked).
    ap (λ (es : List EventKind). last_open (reverse es)) c.are
    ∙ ap (λ (es : List EventKind). last_open es) (reverse-append c.front (Close ∷ []))) s

no_key : (found : Option Key) → is_some found ≡ false → found ≡ None
no_key None e = refl
no_key (Some key) e = absurd (false≢true (sym e))

-- a seat whose events are all that an input asks has no association, where something has come behind
-- which nothing follows
pub shut_seat : (rows : CentreRows) (past : Past) (who : ℕ) (items : List Item)
    → IsLinkInput items → list_any (is_last rows) (turns_of items) ≡ true
    → reverse (events_by who past) ≡ asks_of rows items → association_in past who ≡ None
shut_seat rows past who items i l e =
    no_key (association_in past who)
    (seat_open past who
    ∙ ap (λ (es : List EventKind). last_open es)
    (sym (reverse-reverse (events_by who past)) ∙ ap reverse e)
    ∙ shut_open (asks_of rows items) (asked_shut rows items i l))
