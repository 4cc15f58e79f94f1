-- Turns behind turns: what they ask, and what is said of them.
use Rattle.std.proofs.Common.{◌≡◌, ℕ, Bool, true, false, List, [], ◌∷◌, ◌++◌, Option, Some, None}
use Rattle.std.proofs.Common.{refl, sym, ap, subst, ◌∙◌, append_assoc}
use Rattle.std.specs.Prelude.{if◌then◌else◌, ◌||◌, not, is_some}
use Rattle.std.specs.List.{list_any}
use Rattle.std.proofs.lemmas.Bool.{false≢true}
use Rattle.std.proofs.lemmas.List.{append-nil}
use Rattle.std.proofs.lemmas.List.Folds.{list_any-append}
use Rattle.bilateral.specs.Rows.{CentreRows, place_of_title}
use Rattle.stack_assoc.specs.declared.wire.setup.AssociationSetup.{AssociationSetup}
use Rattle.tase_views.specs.declared.event.EventKind.{EventKind}
use Rattle.tase_views.specs.declared.event.EventKind.TheVariants as events
use Rattle.tase_conn.specs.Map.Inputs.{Item, IsLinkInput, text_given, link_has_ended}
use Rattle.tase_conn.specs.Map.Turns.{Turn, offers, offers_badly, asks, concludes, releases, aborts}
use Rattle.tase_conn.specs.Map.Turns.{breaks, ends, pauses, turns_of}
use Rattle.tase_conn.specs.Map.Asks.{is_peers, begins, finishes, is_open_behind, is_last, event_if, open_of}
use Rattle.tase_conn.specs.Map.Asks.{asks_behind, without_pauses}
use Rattle.tase_conn.proofs.OfMap.Uncut.{without-append}
use Rattle.tase_conn.proofs.OfMap.TurnOrder.{offered, concluded, IsBegun, AllFollow, turns_follow}
use Rattle.tase_conn.specs.Wanting.{quiet_at, quiet_behind}
use Rattle.stack_assoc.proofs.Enough.{or_left, or_right}
use Rattle.conn_service.specs.Courses.Serving.{HoldsOfAllInput}

-- ---- lists

pub right_none : {A : Type 0} (xs ys : List A) → xs ++ ys ≡ [] → ys ≡ []
right_none [] ys e = e
right_none (x ∷ xs) ys e = absurd cc

-- a test of turns that none of the first meets
pub any_front : (p : Turn → Bool) (front more : List Turn)
    → list_any p (front ++ more) ≡ false → list_any p front ≡ false
any_front p front more e =
    or_left (list_any p front) (list_any p more) (sym (list_any-append p front more) ∙ e)

pub any_back : (p : Turn → Bool) (front more : List Turn)
    → list_any p (front ++ more) ≡ false → list_any p more ≡ false
any_back p front more e =
    or_right (list_any p front) (list_any p more) (sym (list_any-append p front more) ∙ e)

pub none_more : (p : Turn → Bool) (front : List Turn) (turn : Turn)
    → list_any p front ≡ false → p turn ≡ false → list_any p (front ++ turn ∷ []) ≡ false
none_more p front turn f t = list_any-append p front (turn ∷ []) ∙ rw (f, t) refl

-- ---- joined

pub follow_behind : (before front more : List Turn) → AllFollow before (front ++ more)
    → AllFollow (before ++ front) more
follow_behind before [] more a =
    subst (λ (ts : List Turn). AllFollow ts more) (sym (append-nil before)) a
follow_behind before (turn ∷ front) more a =
    subst (λ (ts : List Turn). AllFollow ts more) (append_assoc before (turn ∷ []) front)
    (follow_behind (before ++ turn ∷ []) front more a.1)

-- ---- where something follows each

peer_kept : (b : Bool) (octets : List ℕ) → not b ≡ false → (if b then [] else octets) ≡ []
peer_kept true octets e = refl
peer_kept false octets e = absurd (false≢true (sym e))

quiet_one : (rows : CentreRows) (setup : AssociationSetup) (before : List Turn) (turn : Turn)
    → is_last rows turn ≡ false → quiet_at rows setup before turn ≡ []
quiet_one rows setup before (offers title) e = peer_kept (is_peers rows title) _ e
quiet_one rows setup before offers_badly e = absurd (false≢true (sym e))
quiet_one rows setup before (asks invoke call) e = refl
quiet_one rows setup before concludes e = refl
quiet_one rows setup before releases e = absurd (false≢true (sym e))
quiet_one rows setup before aborts e = refl
quiet_one rows setup before breaks e = absurd (false≢true (sym e))
quiet_one rows setup before ends e = refl
quiet_one rows setup before pauses e = refl

-- nothing is said of them
pub quiet_none : (rows : CentreRows) (setup : AssociationSetup) (before turns : List Turn)
    → list_any (is_last rows) turns ≡ false → quiet_behind rows setup before turns ≡ []
quiet_none rows setup before [] l = refl
quiet_none rows setup before (turn ∷ turns) l =
    ap (λ (os : List ℕ). os ++ quiet_behind rows setup (before ++ turn ∷ []) turns)
    (quiet_one rows setup before turn
    (or_left (is_last rows turn) (list_any (is_last rows) turns) l))
    ∙ quiet_none rows setup (before ++ turn ∷ []) turns
    (or_right (is_last rows turn) (list_any (is_last rows) turns) l)

any_same : (p q : Turn → Bool) (rows : CentreRows)
    → ((turn : Turn) → is_last rows turn ≡ false → p turn ≡ q turn) → (turns : List Turn)
    → list_any (is_last rows) turns ≡ false → list_any p turns ≡ list_any q turns
any_same p q rows each [] l = refl
any_same p q rows each (turn ∷ turns) l =
    ap (λ (b : Bool). b || list_any p turns)
    (each turn (or_left (is_last rows turn) (list_any (is_last rows) turns) l))
    ∙ ap (λ (b : Bool). q turn || b) (any_same p q rows each turns
    (or_right (is_last rows turn) (list_any (is_last rows) turns) l))

not_false : (b : Bool) → not b ≡ false → b ≡ true
not_false true e = refl
not_false false e = absurd (false≢true (sym e))

begins_one : (rows : CentreRows) (turn : Turn) → is_last rows turn ≡ false
    → begins rows turn ≡ offered turn
begins_one rows (offers title) e = not_false (is_peers rows title) e
begins_one rows offers_badly e = absurd (false≢true (sym e))
begins_one rows (asks invoke call) e = refl
begins_one rows concludes e = refl
begins_one rows releases e = refl
begins_one rows aborts e = refl
begins_one rows breaks e = refl
begins_one rows ends e = refl
begins_one rows pauses e = refl

finishes_one : (rows : CentreRows) (turn : Turn) → is_last rows turn ≡ false
    → finishes turn ≡ concluded turn
finishes_one rows (offers title) e = refl
finishes_one rows offers_badly e = refl
finishes_one rows (asks invoke call) e = refl
finishes_one rows concludes e = refl
finishes_one rows releases e = absurd (false≢true (sym e))
finishes_one rows aborts e = absurd (false≢true (sym e))
finishes_one rows breaks e = absurd (false≢true (sym e))
finishes_one rows ends e = absurd (false≢true (sym e))
finishes_one rows pauses e = refl

-- an association has begun by an offer alone
pub begins_offered : (rows : CentreRows) (turns : List Turn)
    → list_any (is_last rows) turns ≡ false
    → list_any (begins rows) turns ≡ list_any offered turns
begins_offered rows turns l = any_same (begins rows) offered rows (begins_one rows) turns l

-- behind an offer, and before a conclude, one is open
pub begun_open : (rows : CentreRows) (turns : List Turn) → list_any (is_last rows) turns ≡ false
    → IsBegun turns → is_open_behind rows turns ≡ true
begun_open rows turns l b =
    rw (
      begins_offered rows turns l ∙ b.offer,
      any_same finishes concluded rows (finishes_one rows) turns l ∙ b.conclude,
    ) refl

-- ---- where nothing is asked

offer_asks : (found : Option ℕ) (more : List EventKind) → not (is_some found) ≡ false
    → open_of found ++ more ≡ [] → ⊥
offer_asks None more l e = false≢true (sym l)
offer_asks (Some peer) more l e = absurd cc

event_asks : (b : Bool) (event : EventKind) (more : List EventKind) → b ≡ true
    → event_if b event ++ more ≡ [] → ⊥
event_asks true event more o e = absurd cc
event_asks false event more o e = false≢true o

-- turns that ask nothing, and behind each of which something follows, are pauses
pub silent : (rows : CentreRows) (before turns rest : List Turn)
    → list_any (is_last rows) before ≡ false → list_any (is_last rows) turns ≡ false
    → AllFollow before (turns ++ rest) → asks_behind rows before turns ≡ []
    → without_pauses turns ≡ []
silent rows before [] rest b l a e = refl
silent rows before (offers title ∷ turns) rest b l a e =
    absurd (offer_asks (place_of_title rows title)
    (asks_behind rows (before ++ offers title ∷ []) turns)
    (or_left (is_last rows (offers title)) (list_any (is_last rows) turns) l) e)
silent rows before (offers_badly ∷ turns) rest b l a e = absurd (false≢true (sym l))
silent rows before (asks invoke call ∷ turns) rest b l a e = absurd cc
silent rows before (concludes ∷ turns) rest b l a e =
    absurd (event_asks (is_open_behind rows before) events.Close
    (asks_behind rows (before ++ concludes ∷ []) turns) (begun_open rows before b a.0) e)
silent rows before (releases ∷ turns) rest b l a e = absurd (false≢true (sym l))
silent rows before (aborts ∷ turns) rest b l a e = absurd (false≢true (sym l))
silent rows before (breaks ∷ turns) rest b l a e = absurd (false≢true (sym l))
silent rows before (ends ∷ turns) rest b l a e = absurd (false≢true (sym l))
silent rows before (pauses ∷ turns) rest b l a e =
    silent rows (before ++ pauses ∷ []) turns rest
    (none_more (is_last rows) before pauses b refl) l a.1
    (right_none (event_if (is_open_behind rows before) events.Take)
    (asks_behind rows (before ++ pauses ∷ []) turns) e)

-- what the turns of an input follow
pub input_follows : (items more : List Item) (front rest : List Turn) → IsLinkInput (items ++ more)
    → turns_of (items ++ more) ≡ front ++ rest → AllFollow [] (front ++ rest)
input_follows items more front rest i t =
    subst (λ (ts : List Turn). AllFollow [] ts) t (turns_follow (items ++ more) i)

-- behind turns that ask nothing all is as it was
pub behind_silent : (Holds : List ℕ → Bool → List Turn → Type 0) (rows : CentreRows)
    (items : List Item) (answered turns : List Turn)
    → list_any (is_last rows) answered ≡ false → list_any (is_last rows) turns ≡ false
    → asks_behind rows answered turns ≡ []
    → HoldsOfAllInput items answered Holds → HoldsOfAllInput items (answered ++ turns) Holds
behind_silent Holds rows items answered turns b l e holds = λ more i rest t.
    let joined : turns_of (items ++ more) ≡ answered ++ (turns ++ rest) =
    t ∙ append_assoc answered turns rest in
    let pauses_alone : without_pauses turns ≡ [] =
    silent rows answered turns rest b l
    (follow_behind [] answered (turns ++ rest)
    (input_follows items more answered (turns ++ rest) i joined)) e in
    subst (λ (ts : List Turn). Holds (text_given (items ++ more)) (link_has_ended (items ++ more)) ts)
    (without-append turns rest
    ∙ ap (λ (ts : List Turn). ts ++ without_pauses rest) pauses_alone)
    (holds more i (turns ++ rest) joined)

-- with one item more
pub one_item_more : (Holds : List ℕ → Bool → List Turn → Type 0) (items : List Item) (item : Item)
    (answered : List Turn) → HoldsOfAllInput items answered Holds
    → HoldsOfAllInput (items ++ item ∷ []) answered Holds
one_item_more Holds items item answered holds = λ more i rest t.
    let same : (items ++ item ∷ []) ++ more ≡ items ++ item ∷ more =
    append_assoc items (item ∷ []) more in
    subst (λ (all : List Item). Holds (text_given all) (link_has_ended all) (without_pauses rest))
    (sym same)
    (holds (item ∷ more) (subst (λ (all : List Item). IsLinkInput all) same i) rest
    (subst (λ (all : List Item). turns_of all ≡ answered ++ rest) same t))

-- ---- the last of a list

abbrev first_or : {A : Type 0} → A → List A → A
first_or other [] = other
first_or other (x ∷ xs) = x

abbrev behind_first : {A : Type 0} → List A → List A
behind_first [] = []
behind_first (x ∷ xs) = xs

pub never_empty : {A : Type 0} (xs : List A) (x : A) (more : List A) → xs ++ x ∷ more ≡ [] → ⊥
never_empty [] x more e = absurd cc
never_empty (y ∷ xs) x more e = absurd cc

-- a list ends with one thing
pub same_ends : {A : Type 0} (xs ys : List A) (x y : A) → xs ++ x ∷ [] ≡ ys ++ y ∷ []
    → (xs ≡ ys) × (x ≡ y)
same_ends [] [] x y e = (refl, ap (λ l. first_or x l) e)
same_ends [] (b ∷ ys) x y e =
    absurd (never_empty ys y [] (sym (ap (λ l. behind_first l) e)))
same_ends (a ∷ xs) [] x y e = absurd (never_empty xs x [] (ap (λ l. behind_first l) e))
same_ends (a ∷ xs) (b ∷ ys) x y e =
    let r = same_ends xs ys x y (ap (λ l. behind_first l) e) in
    (ap (λ l. a ∷ l) r.0 ∙ ap (λ h. h ∷ ys) (ap (λ l. first_or a l) e), r.1)
