-- Behind the close of an association nothing of it is entered.
use Rattle.std.proofs.Common.{◌≡◌, Bool, true, false, List, [], ◌∷◌, ◌++◌, refl, sym, ap, subst}
use Rattle.std.proofs.Common.{◌∙◌}
use Rattle.std.specs.Prelude.{map, reverse, if◌then◌else◌, not, ◌||◌}
use Rattle.std.specs.List.{list_any}
use Rattle.std.proofs.lemmas.Bool.{false≢true}
use Rattle.std.proofs.lemmas.List.{map-append, reverse-append}
use Rattle.std.proofs.lemmas.List.Elements.{filter-append}
use Rattle.std.proofs.lemmas.List.Folds.{list_any-append}
use Rattle.sbo_device.specs.declared.key.Key.{Key}
use Rattle.stack_assoc.proofs.Enough.{or_left, or_right}
use Rattle.tase_views.specs.declared.event.EventKind.{EventKind}
use Rattle.tase_views.specs.declared.event.Entry.{Entry}
use Rattle.tase_views.specs.History.{Past, entries_of, is_key, key_at}
use Rattle.tase_views.specs.Outcomes.{is_close}
use Rattle.tase_conn.specs.Map.Asks.{is_take, without_takes}
use Rattle.tase_conn.specs.Map.Closed.{is_closed}
use Rattle.tase_conn.proofs.OfMap.Closing.{key_is}
use Rattle.tase_verify.specs.Association.Stray.{events_entered}
use Rattle.tase_verify.proofs.OfAssociation.Accounted.{ClosesOnce}
use Rattle.tase_verify.proofs.OfAssociation.Matched.{still_open}

abbrev entered_if : Key → Entry → Past → Bool → List EventKind
entered_if key entry past b = without_takes (map (λ (e : Entry). e.event)
    (reverse (if b then entry ∷ entries_of key past else entries_of key past)))

entered_more : (key : Key) (entry : Entry) (past : Past)
    → entered_if key entry past true ≡ events_entered key past ++ without_takes (entry.event ∷ [])
entered_more key entry past =
    ap (λ (es : Past). without_takes (map (λ (e : Entry). e.event) es))
    (reverse-append (entry ∷ []) (entries_of key past))
    ∙ ap (λ (es : List EventKind). without_takes es)
    (map-append (λ (e : Entry). e.event) (reverse (entries_of key past)) (entry ∷ []))
    ∙ filter-append (λ (event : EventKind). not (is_take event))
    (map (λ (e : Entry). e.event) (reverse (entries_of key past))) (entry.event ∷ [])

-- ---- one event

no_close : (b : Bool) (event : EventKind) → is_close event ≡ false
    → list_any is_close (if b then event ∷ [] else []) ≡ false
no_close true event n = ap (λ (c : Bool). c || false) n
no_close false event n = refl

one_once : (b : Bool) (event : EventKind) → ClosesOnce (if b then event ∷ [] else [])
one_once true event = ((λ k. refl), tt)
one_once false event = tt

once_on : (front later : List EventKind) → list_any is_close front ≡ false → ClosesOnce later
    → ClosesOnce (front ++ later)
once_on [] later n o = o
once_on (event ∷ front) later n o = (
  λ k. absurd (false≢true (sym (or_left (is_close event) (list_any is_close front) n) ∙ k)),
  once_on front later (or_right (is_close event) (list_any is_close front) n) o,
)

-- ---- all of them

open_by : (key : Key) (entry : Entry) (past : Past) (b : Bool)
    → (is_closed key past ≡ false → list_any is_close (events_entered key past) ≡ false)
    → list_any (λ (e : Entry). is_close e.event)
    (if b then entry ∷ entries_of key past else entries_of key past) ≡ false
    → list_any is_close (entered_if key entry past b) ≡ false
open_by key entry past false go c = go c
open_by key entry past true go c =
    ap (λ (es : List EventKind). list_any is_close es) (entered_more key entry past)
    ∙ list_any-append is_close (events_entered key past) (without_takes (entry.event ∷ []))
    ∙ ap (λ (b : Bool). b || list_any is_close (without_takes (entry.event ∷ [])))
    (go (or_right (is_close entry.event) (is_closed key past) c))
    ∙ no_close (not (is_take entry.event)) entry.event
    (or_left (is_close entry.event) (is_closed key past) c)

open_entered : (key : Key) (past : Past) → is_closed key past ≡ false
    → list_any is_close (events_entered key past) ≡ false
open_entered key [] c = refl
open_entered key (entry ∷ past) c =
    open_by key entry past (is_key key (key_at entry.event past entry.who))
    (λ n. open_entered key past n) c

once_by : (key : Key) (entry : Entry) (past : Past) (b : Bool)
    → is_key key (key_at entry.event past entry.who) ≡ b → ClosesOnce (events_entered key past)
    → ClosesOnce (entered_if key entry past b)
once_by key entry past false k o = o
once_by key entry past true k o =
    subst (λ (es : List EventKind). ClosesOnce es) (sym (entered_more key entry past))
    (once_on (events_entered key past) (without_takes (entry.event ∷ []))
    (open_entered key past (still_open entry.event past entry.who key
    (key_is key (key_at entry.event past entry.who) k)))
    (one_once (not (is_take entry.event)) entry.event))

pub closes_once : (key : Key) (past : Past) → ClosesOnce (events_entered key past)
closes_once key [] = tt
closes_once key (entry ∷ past) =
    once_by key entry past (is_key key (key_at entry.event past entry.who)) refl
    (closes_once key past)
