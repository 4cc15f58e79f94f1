-- What is left of that which is asked, behind events that it accounts for.
use Rattle.std.proofs.Common.{◌≡◌, ℕ, ◌+◌, Bool, true, false, List, [], ◌∷◌, ◌++◌, Option, Some}
use Rattle.std.proofs.Common.{None, refl, sym, ap, ◌∙◌}
use Rattle.std.specs.Prelude.{map, reverse, if◌then◌else◌, not, option_and_then}
use Rattle.std.proofs.lemmas.Option.{none-some}
use Rattle.std.proofs.lemmas.List.{map-append, reverse-append}
use Rattle.std.proofs.lemmas.List.Elements.{filter-append}
use Rattle.sbo_device.specs.declared.key.Key.{Key}
use Rattle.tase_views.specs.declared.event.EventKind.{EventKind}
use Rattle.tase_views.specs.declared.event.Entry.{Entry}
use Rattle.tase_views.specs.Setup.{Setup}
use Rattle.tase_views.specs.History.{Past, entries_of, is_key, key_at}
use Rattle.tase_conn.specs.Map.Asks.{is_take, without_takes}
use Rattle.tase_verify.specs.declared.association.answered.AnsweredEvent.{AnsweredEvent}
use Rattle.tase_verify.specs.Association.Answered.{answered_at, answered_in}
use Rattle.tase_verify.specs.Association.Stray.{events_entered, events_told, asked_behind, number_if}
use Rattle.tase_verify.specs.Association.Stray.{go_on, stray_from}

-- ---- events one by one

abbrev pub passed : List EventKind → List EventKind → Option (List EventKind)
passed [] rest = Some rest
passed (event ∷ entered) rest =
    option_and_then (λ (others : List EventKind). passed entered others) (asked_behind event rest)

none_missing : (number : ℕ) (rest : List EventKind) → number_if number rest ≡ None
    → Some rest ≡ Some []
none_missing number [] e = refl
none_missing number (next ∷ rest) e = absurd (none-some number (sym e))

passed_by : (number : ℕ) (entered : List EventKind) (found : Option (List EventKind))
    → ((others : List EventKind) → stray_from (number + 1) entered others ≡ None
    → passed entered others ≡ Some [])
    → go_on number (λ others. stray_from (number + 1) entered others) found ≡ None
    → option_and_then (λ (others : List EventKind). passed entered others) found ≡ Some []
passed_by number entered None go e = absurd (none-some number (sym e))
passed_by number entered (Some others) go e = go others e

-- where none is stray, all that is asked is accounted for
pub all_passed : (number : ℕ) (entered rest : List EventKind)
    → stray_from number entered rest ≡ None → passed entered rest ≡ Some []
all_passed number [] rest e = none_missing number rest e
all_passed number (event ∷ entered) rest e =
    passed_by number entered (asked_behind event rest)
    (λ others. all_passed (number + 1) entered others) e

and_then_assoc : {A B C : Type 0} (f : A → Option B) (g : B → Option C) (o : Option A)
    → option_and_then g (option_and_then f o)
    ≡ option_and_then (λ (x : A). option_and_then g (f x)) o
and_then_assoc f g None = refl
and_then_assoc f g (Some x) = refl

passed_join : (one two : List EventKind) (found : Option (List EventKind))
    → ((others : List EventKind) → passed (one ++ two) others
    ≡ option_and_then (λ (rest : List EventKind). passed two rest) (passed one others))
    → option_and_then (λ (others : List EventKind). passed (one ++ two) others) found
    ≡ option_and_then (λ (rest : List EventKind). passed two rest)
    (option_and_then (λ (others : List EventKind). passed one others) found)
passed_join one two None go = refl
passed_join one two (Some others) go = go others

pub passed-append : (one two rest : List EventKind) → passed (one ++ two) rest
    ≡ option_and_then (λ (others : List EventKind). passed two others) (passed one rest)
passed-append [] two rest = refl
passed-append (event ∷ one) two rest =
    passed_join one two (asked_behind event rest) (λ others. passed-append one two others)

-- ---- the events of an association

pub told-append : (one two : List AnsweredEvent)
    → events_told (one ++ two) ≡ events_told one ++ events_told two
told-append one two =
    ap (λ (es : List EventKind). without_takes es)
    (map-append (λ (told : AnsweredEvent). told.event) one two)
    ∙ filter-append (λ (event : EventKind). not (is_take event))
    (map (λ (told : AnsweredEvent). told.event) one)
    (map (λ (told : AnsweredEvent). told.event) two)

entered_by : (setup : Setup) (key : Key) (entry : Entry) (past : Past) (b : Bool)
    → map (λ (e : Entry). e.event) (reverse (entries_of key past))
    ≡ map (λ (told : AnsweredEvent). told.event) (answered_in setup key past)
    → map (λ (e : Entry). e.event)
    (reverse (if b then entry ∷ entries_of key past else entries_of key past))
    ≡ map (λ (told : AnsweredEvent). told.event)
    (if b then answered_in setup key past ++ answered_at setup past entry ∷ []
    else answered_in setup key past)
entered_by setup key entry past true e =
    ap (λ (es : Past). map (λ (x : Entry). x.event) es)
    (reverse-append (entry ∷ []) (entries_of key past))
    ∙ map-append (λ (x : Entry). x.event) (reverse (entries_of key past)) (entry ∷ [])
    ∙ ap (λ (es : List EventKind). es ++ entry.event ∷ []) e
    ∙ sym (map-append (λ (told : AnsweredEvent). told.event) (answered_in setup key past)
    (answered_at setup past entry ∷ []))
entered_by setup key entry past false e = e

entered_all : (setup : Setup) (key : Key) (past : Past)
    → map (λ (e : Entry). e.event) (reverse (entries_of key past))
    ≡ map (λ (told : AnsweredEvent). told.event) (answered_in setup key past)
entered_all setup key [] = refl
entered_all setup key (entry ∷ past) =
    entered_by setup key entry past (is_key key (key_at entry.event past entry.who))
    (entered_all setup key past)

-- are those that are answered
pub entered_told : (setup : Setup) (key : Key) (past : Past)
    → events_entered key past ≡ events_told (answered_in setup key past)
entered_told setup key past =
    ap (λ (es : List EventKind). without_takes es) (entered_all setup key past)
