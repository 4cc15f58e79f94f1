-- An association that was closed has no more entries, and its peer sees none.
use Rattle.std.proofs.Common.{◌≡◌, ◌==◌, ℕ, ◌+◌, ◌<◌, Bool, true, false, [], ◌∷◌, ◌++◌}
use Rattle.std.proofs.Common.{Option, Some, None, refl, sym, ap, subst, ◌∙◌, ⊎_elim, arith, ◌⊎◌, inl, inr}
use Rattle.std.specs.Prelude.{if◌then◌else◌, ◌&&◌, ◌||◌}
use Rattle.std.specs.List.{list_any}
use Rattle.std.proofs.lemmas.Bool.{false≢true, eqb-true, eq-eqb, ne_eqb, cases_eq}
use Rattle.std.proofs.lemmas.Option.{same_Some, none-some}
use Rattle.sbo_device.specs.declared.key.Key.{Key}
use Rattle.bilateral.specs.Rows.{CentreRows}
use Rattle.tase_views.specs.declared.event.EventKind.{EventKind}
use Rattle.tase_views.specs.declared.event.EventKind.TheVariants.{Open, Request, Take, Close}
use Rattle.tase_views.specs.declared.event.EventKind.TheVariants.{Update, Table, Tick, Ask, Tag, TakeOrders, Stop}
use Rattle.tase_views.specs.declared.event.Entry.{Entry}
use Rattle.tase_views.specs.History.{Past, counts_open, opens_in, next_key, association_after}
use Rattle.tase_views.specs.History.{association_in, key_at, is_key, entries_of}
use Rattle.tase_views.specs.OwnTables.{OwnTables, own_tables}
use Rattle.tase_views.specs.Outcomes.{is_close}
use Rattle.tase_views.specs.Moves.{moves_of, sort_of}
use Rattle.tase_views.specs.View.{moves_in, View, view_of, seen_in}
use Rattle.tase_views.proofs.Seen.{view_of-entry}
use Rattle.tase_conn.proofs.OfMap.Apart.{same_key, apart_event, apart_adds}
use Rattle.tase_conn.specs.Map.Out.{Talk, octets_in}
use Rattle.tase_conn.specs.Map.Closed.{is_closed}

-- ---- keys

-- the key was given out
abbrev IsGiven : Key → Past → Type 0
IsGiven key past = key.ordinal < opens_in past key.peer

given_entry : (key : Key) (entry : Entry) (past : Past) → IsGiven key past
    → IsGiven key (entry ∷ past)
given_entry key entry past g = omega (arith, g)

opened_given : (past : Past) (peer : ℕ)
    → opens_in past peer < counts_open (Open peer) peer + opens_in past peer
opened_given past peer = rw (eq-eqb peer peer refl) (omega arith)

next_given : (past : Past) (peer : ℕ) (key : Key) → Some (next_key past peer) ≡ Some key
    → key.ordinal < counts_open (Open peer) key.peer + opens_in past key.peer
next_given past peer key e =
    subst (λ (k : Key). k.ordinal < counts_open (Open peer) k.peer + opens_in past k.peer)
    (same_Some (next_key past peer) key e) (opened_given past peer)

pub next_new : (past : Past) (peer : ℕ) (key : Key) → Some (next_key past peer) ≡ Some key
    → IsGiven key past → ⊥
next_new past peer key e g =
    let old : opens_in past peer < opens_in past peer =
    subst (λ (k : Key). IsGiven k past) (sym (same_Some (next_key past peer) key e)) g in
    omega (arith, old)

after_given : (event : EventKind) (past : Past) (before : Option Key) (key : Key)
    → (before ≡ Some key → IsGiven key past) → association_after event past before ≡ Some key
    → key.ordinal < counts_open event key.peer + opens_in past key.peer
after_given (Open peer) past before key g e = next_given past peer key e
after_given (Request call) past before key g e = let h : IsGiven key past = g e in omega (arith, h)
after_given Take past before key g e = let h : IsGiven key past = g e in omega (arith, h)
after_given Close past before key g e = absurd (none-some key e)
after_given (Update point value) past before key g e =
    let h : IsGiven key past = g e in omega (arith, h)
after_given (Table chooser variant) past before key g e =
    let h : IsGiven key past = g e in omega (arith, h)
after_given (Tick now) past before key g e =
    let h : IsGiven key past = g e in omega (arith, h)
after_given (Ask asker slot) past before key g e =
    let h : IsGiven key past = g e in omega (arith, h)
after_given (Tag device tag) past before key g e =
    let h : IsGiven key past = g e in omega (arith, h)
after_given TakeOrders past before key g e =
    let h : IsGiven key past = g e in omega (arith, h)
after_given Stop past before key g e = let h : IsGiven key past = g e in omega (arith, h)

given_chosen : (b : Bool) (entry : Entry) (past : Past) (before : Option Key) (key : Key)
    → (before ≡ Some key → IsGiven key past)
    → (if b then association_after entry.event past before else before) ≡ Some key
    → IsGiven key (entry ∷ past)
given_chosen true entry past before key g e = after_given entry.event past before key g e
given_chosen false entry past before key g e = given_entry key entry past (g e)

-- a seat's association has a key that was given out
pub issued : (past : Past) (who : ℕ) (key : Key) → association_in past who ≡ Some key
    → IsGiven key past
issued [] who key e = absurd (none-some key e)
issued (entry ∷ past) who key e =
    given_chosen (entry.who == who) entry past (association_in past who) key
    (issued past who key) e

-- an event gives no key that was given out before
pub held_before : (event : EventKind) (past : Past) (before : Option Key) (key : Key)
    → IsGiven key past → association_after event past before ≡ Some key → before ≡ Some key
held_before (Open peer) past before key g e = absurd (next_new past peer key e g)
held_before (Request call) past before key g e = e
held_before Take past before key g e = e
held_before Close past before key g e = absurd (none-some key e)
held_before (Update point value) past before key g e = e
held_before (Table chooser variant) past before key g e = e
held_before (Tick now) past before key g e = e
held_before (Ask asker slot) past before key g e = e
held_before (Tag device tag) past before key g e = e
held_before TakeOrders past before key g e = e
held_before Stop past before key g e = e

if_true : (b : Bool) (x y : Option Key) → b ≡ true → (if b then x else y) ≡ x
if_true true x y e = refl
if_true false x y e = absurd (false≢true e)

if_false : (b : Bool) (x y : Option Key) → b ≡ false → (if b then x else y) ≡ y
if_false true x y e = absurd (false≢true (sym e))
if_false false x y e = refl

-- the association of the entry's own seat, and of another
pub at_seat : (entry : Entry) (past : Past) (who : ℕ) → entry.who ≡ who
    → association_in (entry ∷ past) who
    ≡ association_after entry.event past (association_in past who)
at_seat entry past who same =
    if_true (entry.who == who) (association_after entry.event past (association_in past who))
    (association_in past who) (eq-eqb entry.who who same)

pub at_other : (entry : Entry) (past : Past) (who : ℕ) → (entry.who ≡ who → ⊥)
    → association_in (entry ∷ past) who ≡ association_in past who
at_other entry past who other =
    if_false (entry.who == who) (association_after entry.event past (association_in past who))
    (association_in past who) (ne_eqb entry.who who other)

-- two seats never have one key
pub one_seat : (past : Past) (a b : ℕ) (key : Key) → association_in past a ≡ Some key
    → association_in past b ≡ Some key → a ≡ b
one_seat [] a b key ea eb = absurd (none-some key ea)
one_seat (entry ∷ past) a b key ea eb =
    ⊎_elim
    (λ as_a. ⊎_elim
    (λ as_b. sym as_a ∙ as_b)
    (λ not_b.
    let fb : association_in past b ≡ Some key = sym (at_other entry past b not_b) ∙ eb in
    one_seat past a b key
    (held_before entry.event past (association_in past a) key (issued past b key fb)
    (sym (at_seat entry past a as_a) ∙ ea)) fb)
    (cases_eq entry.who b))
    (λ not_a.
    let fa : association_in past a ≡ Some key = sym (at_other entry past a not_a) ∙ ea in
    ⊎_elim
    (λ as_b. one_seat past a b key fa
    (held_before entry.event past (association_in past b) key (issued past a key fa)
    (sym (at_seat entry past b as_b) ∙ eb)))
    (λ not_b. one_seat past a b key fa (sym (at_other entry past b not_b) ∙ eb))
    (cases_eq entry.who b))
    (cases_eq entry.who a)

-- ---- a key that was given out, and that no seat has

pub record Spent (key : Key) (past : Past) : Type 0 where
  pub given : IsGiven key past
  pub nowhere : (who : ℕ) → association_in past who ≡ Some key → ⊥

nowhere_chosen : (b : Bool) (entry : Entry) (past : Past) (before : Option Key) (key : Key)
    → IsGiven key past → (before ≡ Some key → ⊥)
    → (if b then association_after entry.event past before else before) ≡ Some key → ⊥
nowhere_chosen true entry past before key g n e =
    n (held_before entry.event past before key g e)
nowhere_chosen false entry past before key g n e = n e

spent_entry : (key : Key) (entry : Entry) (past : Past) → Spent key past
    → Spent key (entry ∷ past)
spent_entry key entry past s = record {
  given = given_entry key entry past s.given;
  nowhere = λ who e. nowhere_chosen (entry.who == who) entry past (association_in past who) key
      s.given (s.nowhere who) e;
}

pub spent_later : (key : Key) (later past : Past) → Spent key past → Spent key (later ++ past)
spent_later key [] past s = s
spent_later key (entry ∷ later) past s =
    spent_entry key entry (later ++ past) (spent_later key later past s)

-- no event is of such an association
pub not_key_at : (event : EventKind) (past : Past) (who : ℕ) (key : Key) → Spent key past
    → key_at event past who ≡ Some key → ⊥
not_key_at (Open peer) past who key s e = next_new past peer key e s.given
not_key_at (Request call) past who key s e = s.nowhere who e
not_key_at Take past who key s e = s.nowhere who e
not_key_at Close past who key s e = s.nowhere who e
not_key_at (Update point value) past who key s e = s.nowhere who e
not_key_at (Table chooser variant) past who key s e = s.nowhere who e
not_key_at (Tick now) past who key s e = s.nowhere who e
not_key_at (Ask asker slot) past who key s e = s.nowhere who e
not_key_at (Tag device tag) past who key s e = s.nowhere who e
not_key_at TakeOrders past who key s e = s.nowhere who e
not_key_at Stop past who key s e = s.nowhere who e

both : (a b : Bool) → (a && b) ≡ true → (a ≡ true) × (b ≡ true)
both true true e = (refl, refl)
both true false e = absurd (false≢true e)
both false b e = absurd (false≢true e)

pub key_is : (key : Key) (found : Option Key) → is_key key found ≡ true → found ≡ Some key
key_is key None e = absurd (false≢true e)
key_is key (Some other) e =
    let h = both (other.peer == key.peer) (other.ordinal == key.ordinal) e in
    ap Some (same_key other key (eqb-true other.peer key.peer h.0)
    (eqb-true other.ordinal key.ordinal h.1))

pub not_true : (b : Bool) → (b ≡ true → ⊥) → b ≡ false
not_true true n = absurd (n refl)
not_true false n = refl

close_spent : (who : ℕ) (event : EventKind) (past : Past) (key : Key) → is_close event ≡ true
    → key_at event past who ≡ Some key → Spent key (record { who = who; event = event } ∷ past)
close_spent who (Open peer) past key c e = absurd (false≢true c)
close_spent who (Request call) past key c e = absurd (false≢true c)
close_spent who Take past key c e = absurd (false≢true c)
close_spent who Close past key c e =
    let entry : Entry = record { who = who; event = Close } in
    record {
      given = given_entry key entry past (issued past who key e);
      nowhere = λ other f. ⊎_elim
          (λ same. none-some key (sym (at_seat entry past other same) ∙ f))
          (λ apart. apart (one_seat past who other key e
          (sym (at_other entry past other apart) ∙ f)))
          (cases_eq who other);
    }
close_spent who (Update point value) past key c e = absurd (false≢true c)
close_spent who (Table chooser variant) past key c e = absurd (false≢true c)
close_spent who (Tick now) past key c e = absurd (false≢true c)
close_spent who (Ask asker slot) past key c e = absurd (false≢true c)
close_spent who (Tag device tag) past key c e = absurd (false≢true c)
close_spent who TakeOrders past key c e = absurd (false≢true c)
close_spent who Stop past key c e = absurd (false≢true c)

either : (a b : Bool) → (a || b) ≡ true → (a ≡ true) ⊎ (b ≡ true)
either true b e = inl refl
either false b e = inr e

spent_by : (key : Key) (entry : Entry) (past : Past) (b : Bool)
    → is_key key (key_at entry.event past entry.who) ≡ b
    → (is_closed key past ≡ true → Spent key past)
    → list_any (λ (e : Entry). is_close e.event)
    (if b then entry ∷ entries_of key past else entries_of key past) ≡ true
    → Spent key (entry ∷ past)
spent_by key entry past true m s c =
    ⊎_elim
    (λ here. close_spent entry.who entry.event past key here
    (key_is key (key_at entry.event past entry.who) m))
    (λ there. spent_entry key entry past (s there))
    (either (is_close entry.event) (is_closed key past) c)
spent_by key entry past false m s c = spent_entry key entry past (s c)

-- a closed association's key is one
pub closed_spent : (key : Key) (past : Past) → is_closed key past ≡ true → Spent key past
closed_spent key [] c = absurd (false≢true c)
closed_spent key (entry ∷ past) c =
    spent_by key entry past (is_key key (key_at entry.event past entry.who)) refl
    (closed_spent key past) c

-- ---- its entries

left_out : (b : Bool) (entry : Entry) (entries : Past) → b ≡ false
    → (if b then entry ∷ entries else entries) ≡ entries
left_out true entry entries e = absurd (false≢true (sym e))
left_out false entry entries e = refl

pub entries_kept : (key : Key) (later past : Past) → Spent key past
    → entries_of key (later ++ past) ≡ entries_of key past
entries_kept key [] past s = refl
entries_kept key (entry ∷ later) past s =
    let now = spent_later key later past s in
    left_out (is_key key (key_at entry.event (later ++ past) entry.who)) entry
    (entries_of key (later ++ past))
    (not_true (is_key key (key_at entry.event (later ++ past) entry.who))
    (λ e. not_key_at entry.event (later ++ past) entry.who key now
    (key_is key (key_at entry.event (later ++ past) entry.who) e)))
    ∙ entries_kept key later past s

-- ---- its octets

pub octets_kept : (rows : CentreRows) (table : OwnTables) (talk : Talk) (key : Key)
    (later past : Past) → Spent key past
    → octets_in table key.ordinal talk (view_of rows key.peer (later ++ past))
    ≡ octets_in table key.ordinal talk (view_of rows key.peer past)
octets_kept rows table talk key [] past s = refl
octets_kept rows table talk key (entry ∷ later) past s =
    ap (λ (v : View). octets_in table key.ordinal talk v)
    (view_of-entry rows key.peer (later ++ past) entry)
    ∙ apart_adds table key.ordinal talk
    (seen_in rows (own_tables rows) key.peer (moves_in (later ++ past))
    (moves_of (sort_of entry.event) (key_at entry.event (later ++ past) entry.who)))
    (view_of rows key.peer (later ++ past))
    (apart_event rows (own_tables rows) key entry.event
    (key_at entry.event (later ++ past) entry.who) (moves_in (later ++ past))
    (not_key_at entry.event (later ++ past) entry.who key (spent_later key later past s)))
    ∙ octets_kept rows table talk key later past s
