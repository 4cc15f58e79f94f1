-- What a link asks, but for takes, by the turns that its octets tell.
use Rattle.std.proofs.Common.{◌≡◌, ℕ, Bool, true, false, List, [], ◌∷◌, ◌++◌, Option, Some}
use Rattle.std.proofs.Common.{None, refl, sym, ap, subst, ◌∙◌}
use Rattle.std.specs.Prelude.{is_some, if◌then◌else◌, ◌||◌, ◌&&◌, not}
use Rattle.std.specs.List.{list_any}
use Rattle.std.proofs.lemmas.Bool.{false≢true}
use Rattle.std.proofs.lemmas.List.{append-nil}
use Rattle.std.proofs.lemmas.List.Folds.{list_any-append}
use Rattle.bilateral.specs.Rows.{CentreRows, place_of_title}
use Rattle.tase_views.specs.declared.event.EventKind.{EventKind}
use Rattle.tase_views.specs.declared.event.EventKind.TheVariants as events
use Rattle.tase_conn.specs.Map.Inputs.{IsLinkInput}
use Rattle.tase_conn.specs.Map.Readings.{Reading, reading_of}
use Rattle.tase_conn.specs.Map.Turns.{Turn, offers, offers_badly, asks, concludes, releases, aborts}
use Rattle.tase_conn.specs.Map.Turns.{breaks, ends, pauses, turns_told, turns_of}
use Rattle.tase_conn.specs.Map.Asks.{begins, finishes, is_open_behind, up_to_last, event_if, open_of}
use Rattle.tase_conn.specs.Map.Asks.{asks_behind, AreServed, AreInTurn}
use Rattle.tase_conn.specs.Map.Asks.{without_takes, without_pauses}
use Rattle.tase_conn.specs.Map.Out.{end_turns}
use Rattle.tase_conn.proofs.OfMap.ReadingLaws.{reading_only}
use Rattle.tase_conn.proofs.OfMap.Uncut.{uncut_from}
use Rattle.tase_conn.proofs.OfMap.TurnOrder.{offered, AllFollow, turns_follow, nothing_said}
use Rattle.tase_conn.proofs.OfMap.InTurn.{asked_in_turn}
use Rattle.tase_verify.specs.Association.Stray.{given, events_asked}
use Rattle.tase_verify.specs.Association.Asking.{asked_open, asked_by, asked_in}

-- ---- while an association is open

open_by : (a b : Bool) → ((a || false) && not (b || false)) ≡ (a && not b)
open_by true true = refl
open_by true false = refl
open_by false true = refl
open_by false false = refl

-- a turn that neither begins nor ends it
open_more : (rows : CentreRows) (before : List Turn) (turn : Turn) → begins rows turn ≡ false
    → finishes turn ≡ false → is_open_behind rows before ≡ true
    → is_open_behind rows (before ++ turn ∷ []) ≡ true
open_more rows before turn b f e =
    rw (
      list_any-append (begins rows) before (turn ∷ []),
      list_any-append finishes before (turn ∷ []),
      b,
      f,
    )
    (open_by (list_any (begins rows) before) (list_any finishes before) ∙ e)

close_asked : (b : Bool) (others : List EventKind) → b ≡ true
    → AreServed (event_if b events.Close ++ others)
    → without_takes (event_if b events.Close ++ others) ≡ events.Close ∷ []
close_asked true others e s = ap (λ (es : List EventKind). without_takes (events.Close ∷ es)) s
close_asked false others e s = absurd (false≢true e)

take_served : (b : Bool) (others : List EventKind)
    → AreServed (event_if b events.Take ++ others) → AreServed others
take_served true others s = s
take_served false others s = s

take_passed : (b : Bool) (others : List EventKind)
    → without_takes (event_if b events.Take ++ others) ≡ without_takes others
take_passed true others = refl
take_passed false others = refl

-- an offer behind an open asks nothing
offer_served : (rows : CentreRows) (found : Option ℕ) (before : List Turn)
    (title : Option (List ℕ)) (turns : List Turn) → place_of_title rows title ≡ found
    → AreServed (asks_behind rows before (if not (is_some found) then offers title ∷ []
    else offers title ∷ turns))
    → without_takes (asks_behind rows before (if not (is_some found) then offers title ∷ []
    else offers title ∷ turns)) ≡ []
offer_served rows None before title turns e s =
    ap (λ (o : Option ℕ). without_takes (open_of o ++ [])) e
offer_served rows (Some peer) before title turns e s =
    absurd (subst (λ (o : Option ℕ). AreServed (open_of o
    ++ asks_behind rows (before ++ offers title ∷ []) turns)) e s)

served_asks : (rows : CentreRows) (before turns : List Turn)
    → is_open_behind rows before ≡ true
    → AreServed (asks_behind rows before (up_to_last rows turns))
    → without_takes (asks_behind rows before (up_to_last rows turns))
    ≡ asked_open (without_pauses turns)
served_asks rows before [] o s = refl
served_asks rows before (offers title ∷ turns) o s =
    offer_served rows (place_of_title rows title) before title (up_to_last rows turns) refl s
served_asks rows before (offers_badly ∷ turns) o s = refl
served_asks rows before (asks invoke call ∷ turns) o s =
    ap (λ (es : List EventKind). events.Request call ∷ es)
    (served_asks rows (before ++ asks invoke call ∷ []) turns
    (open_more rows before (asks invoke call) refl refl o) s)
served_asks rows before (concludes ∷ turns) o s =
    close_asked (is_open_behind rows before)
    (asks_behind rows (before ++ concludes ∷ []) (up_to_last rows turns)) o s
served_asks rows before (releases ∷ turns) o s =
    close_asked (is_open_behind rows before) [] o s
served_asks rows before (aborts ∷ turns) o s =
    close_asked (is_open_behind rows before) [] o s
served_asks rows before (breaks ∷ turns) o s =
    close_asked (is_open_behind rows before) [] o s
served_asks rows before (ends ∷ turns) o s =
    close_asked (is_open_behind rows before) [] o s
served_asks rows before (pauses ∷ turns) o s =
    take_passed (is_open_behind rows before)
    (asks_behind rows (before ++ pauses ∷ []) (up_to_last rows turns))
    ∙ served_asks rows (before ++ pauses ∷ []) turns (open_more rows before pauses refl refl o)
    (take_served (is_open_behind rows before)
    (asks_behind rows (before ++ pauses ∷ []) (up_to_last rows turns)) s)

-- ---- before an open

record IsEarly (rows : CentreRows) (before : List Turn) : Type 0 where
  unbegun : list_any (begins rows) before ≡ false
  unfinished : list_any finishes before ≡ false
  no_offer : list_any offered before ≡ false

not_open : (rows : CentreRows) (before : List Turn) → IsEarly rows before
    → is_open_behind rows before ≡ false
not_open rows before y = rw y.unbegun refl

none_asked : (b : Bool) (event : EventKind) → b ≡ false
    → without_takes (event_if b event ++ []) ≡ []
none_asked true event e = absurd (false≢true (sym e))
none_asked false event e = refl

more_none : (test : Turn → Bool) (before : List Turn) (turn : Turn)
    → list_any test before ≡ false → test turn ≡ false
    → list_any test (before ++ turn ∷ []) ≡ false
more_none test before turn b t = list_any-append test before (turn ∷ []) ∙ rw (b, t) refl

-- behind the offer of a peer it is open
opened_now : (rows : CentreRows) (before : List Turn) (title : Option (List ℕ))
    → is_some (place_of_title rows title) ≡ true → IsEarly rows before
    → is_open_behind rows (before ++ offers title ∷ []) ≡ true
opened_now rows before title e y =
    rw (
      list_any-append (begins rows) before (offers title ∷ []),
      list_any-append finishes before (offers title ∷ []),
      y.unbegun,
      y.unfinished,
      e,
    ) refl

offer_early : (rows : CentreRows) (found : Option ℕ) (before : List Turn)
    (title : Option (List ℕ)) (turns : List Turn) → place_of_title rows title ≡ found
    → IsEarly rows before
    → AreInTurn rows (asks_behind rows before (if not (is_some found) then offers title ∷ []
    else offers title ∷ up_to_last rows turns))
    → without_takes (asks_behind rows before (if not (is_some found) then offers title ∷ []
    else offers title ∷ up_to_last rows turns)) ≡ asked_by found (without_pauses turns)
offer_early rows None before title turns e y s =
    ap (λ (o : Option ℕ). without_takes (open_of o ++ [])) e
offer_early rows (Some peer) before title turns e y s =
    let rest = asks_behind rows (before ++ offers title ∷ []) (up_to_last rows turns) in
    let served = subst (λ (o : Option ℕ). AreInTurn rows (open_of o ++ rest)) e s in
    ap (λ (o : Option ℕ). without_takes (open_of o ++ rest)) e
    ∙ ap (λ (es : List EventKind). events.Open peer ∷ es)
    (served_asks rows (before ++ offers title ∷ []) turns
    (opened_now rows before title (ap (λ (o : Option ℕ). is_some o) e) y) served.1)

early_asks : (rows : CentreRows) (before turns : List Turn) → IsEarly rows before
    → AllFollow before turns → AreInTurn rows (asks_behind rows before (up_to_last rows turns))
    → without_takes (asks_behind rows before (up_to_last rows turns))
    ≡ asked_in rows (without_pauses turns)
early_asks rows before [] y a s = refl
early_asks rows before (offers title ∷ turns) y a s =
    offer_early rows (place_of_title rows title) before title turns refl y s
early_asks rows before (offers_badly ∷ turns) y a s = refl
early_asks rows before (asks invoke call ∷ turns) y a s =
    absurd (false≢true (sym y.no_offer ∙ a.0.offer))
early_asks rows before (concludes ∷ turns) y a s =
    absurd (false≢true (sym y.no_offer ∙ a.0.offer))
early_asks rows before (releases ∷ turns) y a s =
    none_asked (is_open_behind rows before) events.Close (not_open rows before y)
early_asks rows before (aborts ∷ turns) y a s =
    none_asked (is_open_behind rows before) events.Close (not_open rows before y)
early_asks rows before (breaks ∷ turns) y a s =
    none_asked (is_open_behind rows before) events.Close (not_open rows before y)
early_asks rows before (ends ∷ turns) y a s =
    none_asked (is_open_behind rows before) events.Close (not_open rows before y)
early_asks rows before (pauses ∷ turns) y a s =
    take_passed (is_open_behind rows before)
    (asks_behind rows (before ++ pauses ∷ []) (up_to_last rows turns))
    ∙ early_asks rows (before ++ pauses ∷ []) turns (record {
      unbegun = more_none (begins rows) before pauses y.unbegun refl;
      unfinished = more_none finishes before pauses y.unfinished refl;
      no_offer = more_none offered before pauses y.no_offer refl;
    }) a.1
    (subst (λ (b : Bool). AreInTurn rows (event_if b events.Take
    ++ asks_behind rows (before ++ pauses ∷ []) (up_to_last rows turns)))
    (not_open rows before y) s)

-- ---- of what a link gave

-- no octets tell nothing
nothing_told : turns_told (reading_of []) ≡ []
nothing_told =
    ap (λ (r : Reading). turns_told r)
    (reading_only [] [] None
    (nothing_said.0, record { messages = []; said = nothing_said.1; tell = tt }))

is_input : (octets : List ℕ) (has_ended : Bool) → IsLinkInput (given octets has_ended)
is_input octets true = refl
is_input octets false = tt

given_turns : (octets : List ℕ) (has_ended : Bool)
    → without_pauses (turns_of (given octets has_ended))
    ≡ turns_told (reading_of octets) ++ end_turns has_ended
given_turns octets true =
    ap (λ (ts : List Turn). ts ++ without_pauses (turns_of (given octets true))) (sym nothing_told)
    ∙ uncut_from [] (given octets true) (is_input octets true)
    ∙ ap (λ (os : List ℕ). turns_told (reading_of os) ++ end_turns true) (append-nil octets)
given_turns octets false =
    ap (λ (ts : List Turn). ts ++ without_pauses (turns_of (given octets false))) (sym nothing_told)
    ∙ uncut_from [] (given octets false) (is_input octets false)
    ∙ ap (λ (os : List ℕ). turns_told (reading_of os) ++ end_turns false) (append-nil octets)

-- the events that a link asks are those that its turns ask
pub asked_events : (rows : CentreRows) (octets : List ℕ) (has_ended : Bool)
    → events_asked rows octets has_ended
    ≡ asked_in rows (turns_told (reading_of octets) ++ end_turns has_ended)
asked_events rows octets has_ended =
    let items = given octets has_ended in
    early_asks rows [] (turns_of items)
    (record { unbegun = refl; unfinished = refl; no_offer = refl })
    (turns_follow items (is_input octets has_ended))
    (asked_in_turn rows items (is_input octets has_ended))
    ∙ ap (λ (ts : List Turn). asked_in rows ts) (given_turns octets has_ended)
