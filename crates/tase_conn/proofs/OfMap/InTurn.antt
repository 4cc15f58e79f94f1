-- Events that an input asks come in turn: by what has come before, none is open yet, one is open, or
-- it is closed.
use Rattle.std.proofs.Common.{◌≡◌, ℕ, ◌<◌, Bool, true, false, List, [], ◌∷◌, ◌++◌, Option, Some}
use Rattle.std.proofs.Common.{None, refl, sym, ap, subst, ◌∙◌, length, inl, inr}
use Rattle.std.specs.Prelude.{is_some, if◌then◌else◌, ◌||◌, ◌&&◌, ◌⊎◌, not, bytes_eq}
use Rattle.std.specs.Option.{option_eq}
use Rattle.std.specs.List.{list_any, position}
use Rattle.std.proofs.lemmas.Bool.{false≢true}
use Rattle.std.proofs.lemmas.Option.{none-some}
use Rattle.std.proofs.lemmas.List.Folds.{list_any-append}
use Rattle.std.proofs.lemmas.List.Quantifiers.{position-Some}
use Rattle.bilateral.specs.declared.rows.Table.{Table}
use Rattle.bilateral.specs.Rows.{CentreRows, place_of_title}
use Rattle.tase_views.specs.declared.event.EventKind.{EventKind}
use Rattle.tase_views.specs.declared.event.EventKind.TheVariants as events
use Rattle.tase_conn.specs.Map.Inputs.{Item, IsLinkInput}
use Rattle.tase_conn.specs.Map.Turns.{Turn, offers, offers_badly, asks, concludes, releases, aborts}
use Rattle.tase_conn.specs.Map.Turns.{breaks, ends, pauses, turns_of}
use Rattle.tase_conn.specs.Map.Asks.{begins, finishes, is_open_behind, is_last, up_to_last, event_if}
use Rattle.tase_conn.specs.Map.Asks.{open_of}
use Rattle.tase_conn.specs.Map.Asks.{asks_at, asks_behind, asks_of, AreServed, AreInTurn}
use Rattle.tase_conn.proofs.OfMap.TurnOrder.{offered, concluded, AllFollow, turns_follow}

-- ---- tests of what has come, and of one turn more

more_none : (test : Turn → Bool) (before : List Turn) (turn : Turn)
    → list_any test before ≡ false → test turn ≡ false
    → list_any test (before ++ turn ∷ []) ≡ false
more_none test before turn b t = list_any-append test before (turn ∷ []) ∙ rw (b, t) refl

more_some : (test : Turn → Bool) (before : List Turn) (turn : Turn)
    → list_any test before ≡ true → list_any test (before ++ turn ∷ []) ≡ true
more_some test before turn b = list_any-append test before (turn ∷ []) ∙ rw b refl

more_one : (test : Turn → Bool) (before : List Turn) (turn : Turn) → test turn ≡ true
    → list_any test (before ++ turn ∷ []) ≡ true
more_one test before turn t =
    list_any-append test before (turn ∷ []) ∙ rw t (any_true (list_any test before))
  where
    any_true : (b : Bool) → (b || true) ≡ true
    any_true true = refl
    any_true false = refl

-- ---- behind a close

-- an association was opened and concluded
record IsOver (before : List Turn) : Type 0 where
  finished : list_any finishes before ≡ true
  offer : list_any offered before ≡ true
  conclude : list_any concluded before ≡ true

over_more : (before : List Turn) (turn : Turn) → IsOver before → IsOver (before ++ turn ∷ [])
over_more before turn o = record {
  finished = more_some finishes before turn o.finished;
  offer = more_some offered before turn o.offer;
  conclude = more_some concluded before turn o.conclude;
}

not_open : (rows : CentreRows) (before : List Turn) → list_any finishes before ≡ true
    → is_open_behind rows before ≡ false
not_open rows before f = rw f (never (list_any (begins rows) before))
  where
    never : (b : Bool) → (b && false) ≡ false
    never true = refl
    never false = refl

none_if : (b : Bool) (event : EventKind) → b ≡ false → event_if b event ≡ []
none_if true event e = absurd (false≢true (sym e))
none_if false event e = refl

-- nothing is asked at a turn where none is open
over_last : (rows : CentreRows) (before : List Turn) (event : EventKind) → IsOver before
    → event_if (is_open_behind rows before) event ++ [] ≡ []
over_last rows before event o =
    ap (λ (es : List EventKind). es ++ [])
    (none_if (is_open_behind rows before) event (not_open rows before o.finished))

asks_none : (rows : CentreRows) (before turns : List Turn) → IsOver before
    → AllFollow before turns → asks_behind rows before (up_to_last rows turns) ≡ []
asks_none rows before [] o a = refl
asks_none rows before (offers title ∷ turns) o a = absurd (false≢true (sym a.0 ∙ o.offer))
asks_none rows before (offers_badly ∷ turns) o a = absurd (false≢true (sym a.0 ∙ o.offer))
asks_none rows before (asks invoke call ∷ turns) o a =
    absurd (false≢true (sym a.0.conclude ∙ o.conclude))
asks_none rows before (concludes ∷ turns) o a =
    absurd (false≢true (sym a.0.conclude ∙ o.conclude))
asks_none rows before (releases ∷ turns) o a = over_last rows before events.Close o
asks_none rows before (aborts ∷ turns) o a = over_last rows before events.Close o
asks_none rows before (breaks ∷ turns) o a = over_last rows before events.Close o
asks_none rows before (ends ∷ turns) o a = over_last rows before events.Close o
asks_none rows before (pauses ∷ turns) o a =
    ap (λ (es : List EventKind). es
    ++ asks_behind rows (before ++ pauses ∷ []) (up_to_last rows turns))
    (none_if (is_open_behind rows before) events.Take (not_open rows before o.finished))
    ∙ asks_none rows (before ++ pauses ∷ []) turns (over_more before pauses o) a.1

-- ---- behind an open

record IsServed (rows : CentreRows) (before : List Turn) : Type 0 where
  begun : list_any (begins rows) before ≡ true
  unfinished : list_any finishes before ≡ false
  offer : list_any offered before ≡ true

served_more : (rows : CentreRows) (before : List Turn) (turn : Turn) → finishes turn ≡ false
    → IsServed rows before → IsServed rows (before ++ turn ∷ [])
served_more rows before turn f s = record {
  begun = more_some (begins rows) before turn s.begun;
  unfinished = more_none finishes before turn s.unfinished f;
  offer = more_some offered before turn s.offer;
}

served_open : (rows : CentreRows) (before : List Turn) → IsServed rows before
    → is_open_behind rows before ≡ true
served_open rows before s = rw (s.begun, s.unfinished) refl

-- an event that is asked, and those behind it
served_if : (b : Bool) (event : EventKind) (asked : List EventKind) → b ≡ true
    → AreServed (event ∷ asked) → AreServed (event_if b event ++ asked)
served_if true event asked e s = s
served_if false event asked e s = absurd (false≢true e)

served_last : (rows : CentreRows) (before : List Turn) → IsServed rows before
    → AreServed (event_if (is_open_behind rows before) events.Close ++ [])
served_last rows before s =
    served_if (is_open_behind rows before) events.Close [] (served_open rows before s) refl

asks_served : (rows : CentreRows) (before turns : List Turn) → IsServed rows before
    → AllFollow before turns → AreServed (asks_behind rows before (up_to_last rows turns))
asks_served rows before [] s a = tt
asks_served rows before (offers title ∷ turns) s a = absurd (false≢true (sym a.0 ∙ s.offer))
asks_served rows before (offers_badly ∷ turns) s a = absurd (false≢true (sym a.0 ∙ s.offer))
asks_served rows before (asks invoke call ∷ turns) s a =
    asks_served rows (before ++ asks invoke call ∷ []) turns
    (served_more rows before (asks invoke call) refl s) a.1
asks_served rows before (concludes ∷ turns) s a =
    served_if (is_open_behind rows before) events.Close
    (asks_behind rows (before ++ concludes ∷ []) (up_to_last rows turns))
    (served_open rows before s)
    (asks_none rows (before ++ concludes ∷ []) turns (record {
      finished = more_one finishes before concludes refl;
      offer = more_some offered before concludes s.offer;
      conclude = more_one concluded before concludes refl;
    }) a.1)
asks_served rows before (releases ∷ turns) s a = served_last rows before s
asks_served rows before (aborts ∷ turns) s a = served_last rows before s
asks_served rows before (breaks ∷ turns) s a = served_last rows before s
asks_served rows before (ends ∷ turns) s a = served_last rows before s
asks_served rows before (pauses ∷ turns) s a =
    served_if (is_open_behind rows before) events.Take
    (asks_behind rows (before ++ pauses ∷ []) (up_to_last rows turns))
    (served_open rows before s)
    (asks_served rows (before ++ pauses ∷ []) turns (served_more rows before pauses refl s) a.1)

-- ---- before an open

record IsEarly (rows : CentreRows) (before : List Turn) : Type 0 where
  unbegun : list_any (begins rows) before ≡ false
  unfinished : list_any finishes before ≡ false
  no_offer : list_any offered before ≡ false

early_last : (rows : CentreRows) (before : List Turn) → IsEarly rows before
    → AreInTurn rows (event_if (is_open_behind rows before) events.Close ++ [])
early_last rows before y =
    subst (λ (es : List EventKind). AreInTurn rows (es ++ []))
    (sym (none_if (is_open_behind rows before) events.Close (rw y.unbegun refl))) tt

position_below : {X : Type 0} (p : X → Bool) (xs : List X) (i : ℕ) → position p xs ≡ Some i
    → i < length xs
position_below p [] i e = absurd (none-some i e)
position_below p (x ∷ xs) i e = (position-Some p (x ∷ xs) i x e).0

-- by the peer of an offer
offer_in_turn : (rows : CentreRows) (found : Option ℕ) (before : List Turn)
    (title : Option (List ℕ)) (turns : List Turn) → place_of_title rows title ≡ found
    → IsEarly rows before → AllFollow (before ++ offers title ∷ []) turns
    → AreInTurn rows (open_of found ++ asks_behind rows (before ++ offers title ∷ [])
    (if not (is_some found) then [] else up_to_last rows turns))
offer_in_turn rows None before title turns e y a = tt
offer_in_turn rows (Some peer) before title turns e y a = (
  position_below (λ (table : Table). option_eq bytes_eq table.title title) rows.tables peer e,
  asks_served rows (before ++ offers title ∷ []) turns (record {
    begun = more_one (begins rows) before (offers title) (ap (λ (f : Option ℕ). is_some f) e);
    unfinished = more_none finishes before (offers title) y.unfinished refl;
    offer = more_one offered before (offers title) refl;
  }) a,
)

cut_behind : (rows : CentreRows) (b : Bool) (before : List Turn) (turn : Turn) (turns : List Turn)
    → asks_behind rows before (if b then turn ∷ [] else turn ∷ turns)
    ≡ asks_at rows before turn
    ++ asks_behind rows (before ++ turn ∷ []) (if b then [] else turns)
cut_behind rows true before turn turns = refl
cut_behind rows false before turn turns = refl

asks_early : (rows : CentreRows) (before turns : List Turn) → IsEarly rows before
    → AllFollow before turns → AreInTurn rows (asks_behind rows before (up_to_last rows turns))
asks_early rows before [] y a = tt
asks_early rows before (offers title ∷ turns) y a =
    subst (λ (es : List EventKind). AreInTurn rows es)
    (sym (cut_behind rows (not (is_some (place_of_title rows title))) before (offers title)
    (up_to_last rows turns)))
    (offer_in_turn rows (place_of_title rows title) before title turns refl y a.1)
asks_early rows before (offers_badly ∷ turns) y a = tt
asks_early rows before (asks invoke call ∷ turns) y a =
    absurd (false≢true (sym y.no_offer ∙ a.0.offer))
asks_early rows before (concludes ∷ turns) y a =
    absurd (false≢true (sym y.no_offer ∙ a.0.offer))
asks_early rows before (releases ∷ turns) y a = early_last rows before y
asks_early rows before (aborts ∷ turns) y a = early_last rows before y
asks_early rows before (breaks ∷ turns) y a = early_last rows before y
asks_early rows before (ends ∷ turns) y a = early_last rows before y
asks_early rows before (pauses ∷ turns) y a =
    subst (λ (es : List EventKind). AreInTurn rows (es
    ++ asks_behind rows (before ++ pauses ∷ []) (up_to_last rows turns)))
    (sym (none_if (is_open_behind rows before) events.Take (rw y.unbegun refl)))
    (asks_early rows (before ++ pauses ∷ []) turns (record {
      unbegun = more_none (begins rows) before pauses y.unbegun refl;
      unfinished = more_none finishes before pauses y.unfinished refl;
      no_offer = more_none offered before pauses y.no_offer refl;
    }) a.1)

pub asked_in_turn : (rows : CentreRows) (items : List Item) → IsLinkInput items
    → AreInTurn rows (asks_of rows items)
asked_in_turn rows items i =
    asks_early rows [] (turns_of items)
    (record { unbegun = refl; unfinished = refl; no_offer = refl }) (turns_follow items i)

-- ---- closed, where the input has ended

-- the last of these is a close
pub record ComesToClose (asked : List EventKind) : Type 0 where
  pub front : List EventKind
  pub are : asked ≡ front ++ events.Close ∷ []

-- none, or the last of them is a close
abbrev pub IsShutBy : List EventKind → Type 0
IsShutBy asked = (asked ≡ []) ⊎ ComesToClose asked

close_behind : (event : EventKind) (asked : List EventKind) → ComesToClose asked
    → ComesToClose (event ∷ asked)
close_behind event asked c =
    record { front = event ∷ c.front; are = ap (λ (es : List EventKind). event ∷ es) c.are }

event_closes : (b : Bool) (event : EventKind) (asked : List EventKind) → b ≡ true
    → ComesToClose (event ∷ asked) → ComesToClose (event_if b event ++ asked)
event_closes true event asked e c = c
event_closes false event asked e c = absurd (false≢true e)

close_closes : (b : Bool) (asked : List EventKind) → b ≡ true → asked ≡ []
    → ComesToClose (event_if b events.Close ++ asked)
close_closes b asked e none =
    event_closes b events.Close asked e
    (record { front = []; are = ap (λ (es : List EventKind). events.Close ∷ es) none })

last_closes : (rows : CentreRows) (before : List Turn) → IsServed rows before
    → ComesToClose (event_if (is_open_behind rows before) events.Close ++ [])
last_closes rows before s =
    close_closes (is_open_behind rows before) [] (served_open rows before s) refl

-- an association that was opened comes to its close, where something comes behind which nothing
-- follows
served_closes : (rows : CentreRows) (before turns : List Turn) → IsServed rows before
    → AllFollow before turns → list_any (is_last rows) turns ≡ true
    → ComesToClose (asks_behind rows before (up_to_last rows turns))
served_closes rows before [] s a l = absurd (false≢true l)
served_closes rows before (offers title ∷ turns) s a l = absurd (false≢true (sym a.0 ∙ s.offer))
served_closes rows before (offers_badly ∷ turns) s a l = absurd (false≢true (sym a.0 ∙ s.offer))
served_closes rows before (asks invoke call ∷ turns) s a l =
    close_behind (events.Request call)
    (asks_behind rows (before ++ asks invoke call ∷ []) (up_to_last rows turns))
    (served_closes rows (before ++ asks invoke call ∷ []) turns
    (served_more rows before (asks invoke call) refl s) a.1 l)
served_closes rows before (concludes ∷ turns) s a l =
    close_closes (is_open_behind rows before)
    (asks_behind rows (before ++ concludes ∷ []) (up_to_last rows turns))
    (served_open rows before s)
    (asks_none rows (before ++ concludes ∷ []) turns (record {
      finished = more_one finishes before concludes refl;
      offer = more_some offered before concludes s.offer;
      conclude = more_one concluded before concludes refl;
    }) a.1)
served_closes rows before (releases ∷ turns) s a l = last_closes rows before s
served_closes rows before (aborts ∷ turns) s a l = last_closes rows before s
served_closes rows before (breaks ∷ turns) s a l = last_closes rows before s
served_closes rows before (ends ∷ turns) s a l = last_closes rows before s
served_closes rows before (pauses ∷ turns) s a l =
    event_closes (is_open_behind rows before) events.Take
    (asks_behind rows (before ++ pauses ∷ []) (up_to_last rows turns))
    (served_open rows before s)
    (close_behind events.Take (asks_behind rows (before ++ pauses ∷ []) (up_to_last rows turns))
    (served_closes rows (before ++ pauses ∷ []) turns
    (served_more rows before pauses refl s) a.1 l))

none_asked : (rows : CentreRows) (before : List Turn) (event : EventKind) → IsEarly rows before
    → event_if (is_open_behind rows before) event ≡ []
none_asked rows before event y =
    none_if (is_open_behind rows before) event (rw y.unbegun refl)

none_shut : (rows : CentreRows) (before : List Turn) → IsEarly rows before
    → IsShutBy (event_if (is_open_behind rows before) events.Close ++ [])
none_shut rows before y =
    inl (ap (λ (es : List EventKind). es ++ []) (none_asked rows before events.Close y))

-- by the peer of an offer
offer_shuts : (rows : CentreRows) (found : Option ℕ) (before : List Turn)
    (title : Option (List ℕ)) (turns : List Turn) → place_of_title rows title ≡ found
    → IsEarly rows before → AllFollow (before ++ offers title ∷ []) turns
    → (not (is_some found) || list_any (is_last rows) turns) ≡ true
    → IsShutBy (open_of found ++ asks_behind rows (before ++ offers title ∷ [])
    (if not (is_some found) then [] else up_to_last rows turns))
offer_shuts rows None before title turns e y a l = inl refl
offer_shuts rows (Some peer) before title turns e y a l =
    inr (close_behind (events.Open peer)
    (asks_behind rows (before ++ offers title ∷ []) (up_to_last rows turns))
    (served_closes rows (before ++ offers title ∷ []) turns (record {
      begun = more_one (begins rows) before (offers title) (ap (λ (f : Option ℕ). is_some f) e);
      unfinished = more_none finishes before (offers title) y.unfinished refl;
      offer = more_one offered before (offers title) refl;
    }) a l))

early_shuts : (rows : CentreRows) (before turns : List Turn) → IsEarly rows before
    → AllFollow before turns → list_any (is_last rows) turns ≡ true
    → IsShutBy (asks_behind rows before (up_to_last rows turns))
early_shuts rows before [] y a l = absurd (false≢true l)
early_shuts rows before (offers title ∷ turns) y a l =
    subst (λ (es : List EventKind). IsShutBy es)
    (sym (cut_behind rows (not (is_some (place_of_title rows title))) before (offers title)
    (up_to_last rows turns)))
    (offer_shuts rows (place_of_title rows title) before title turns refl y a.1 l)
early_shuts rows before (offers_badly ∷ turns) y a l = inl refl
early_shuts rows before (asks invoke call ∷ turns) y a l =
    absurd (false≢true (sym y.no_offer ∙ a.0.offer))
early_shuts rows before (concludes ∷ turns) y a l =
    absurd (false≢true (sym y.no_offer ∙ a.0.offer))
early_shuts rows before (releases ∷ turns) y a l = none_shut rows before y
early_shuts rows before (aborts ∷ turns) y a l = none_shut rows before y
early_shuts rows before (breaks ∷ turns) y a l = none_shut rows before y
early_shuts rows before (ends ∷ turns) y a l = none_shut rows before y
early_shuts rows before (pauses ∷ turns) y a l =
    subst (λ (es : List EventKind). IsShutBy (es
    ++ asks_behind rows (before ++ pauses ∷ []) (up_to_last rows turns)))
    (sym (none_asked rows before events.Take y))
    (early_shuts rows (before ++ pauses ∷ []) turns (record {
      unbegun = more_none (begins rows) before pauses y.unbegun refl;
      unfinished = more_none finishes before pauses y.unfinished refl;
      no_offer = more_none offered before pauses y.no_offer refl;
    }) a.1 l)

-- what an input asks that has ended, or behind which nothing follows
pub asked_shut : (rows : CentreRows) (items : List Item) → IsLinkInput items
    → list_any (is_last rows) (turns_of items) ≡ true → IsShutBy (asks_of rows items)
asked_shut rows items i l =
    early_shuts rows [] (turns_of items)
    (record { unbegun = refl; unfinished = refl; no_offer = refl }) (turns_follow items i) l
