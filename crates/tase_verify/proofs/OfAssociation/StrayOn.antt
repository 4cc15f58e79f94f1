-- The first stray event, one event more.
use Rattle.std.proofs.Common.{◌≡◌, ◌==◌, ◌≢◌, ℕ, ◌+◌, ◌<◌, ◌≤◌, Bool, List, [], ◌∷◌}
use Rattle.std.proofs.Common.{Option, Some, None, refl, sym, ap, ◌∙◌, arith, drop, length}
use Rattle.std.specs.Prelude.{if◌then◌else◌, slice_get}
use Rattle.std.proofs.lemmas.Bool.{ne_eqb, eq-eqb}
use Rattle.std.proofs.lemmas.List.{drop_all, drop_more, length-drop, length-map}
use Rattle.std.proofs.lemmas.Option.{slice_get_within, get_or_from_slice_get}
use Rattle.tase_views.specs.declared.event.EventKind.{EventKind}
use Rattle.tase_verify.specs.declared.association.spelled_event.SpelledEvent.{SpelledEvent}
use Rattle.tase_verify.specs.Association.Spelled.{event_spelled, events_spelled}
use Rattle.tase_verify.specs.Association.Stray.{number_if, go_on, asked_behind, stray_from, first_stray}

-- from the event with this number on, where nothing was stray before it
abbrev pub stray_at : ℕ → List EventKind → List EventKind → Option ℕ
stray_at number [] rest = if number == 0 then Some number else number_if number rest
stray_at number (event ∷ entered) rest = stray_from number (event ∷ entered) rest

pub at_first : (entered rest : List EventKind) → first_stray entered rest ≡ stray_at 0 entered rest
at_first [] rest = refl
at_first (event ∷ entered) rest = refl

from_next : (number : ℕ) (entered rest : List EventKind)
    → stray_from (number + 1) entered rest ≡ stray_at (number + 1) entered rest
from_next number [] rest =
    sym (ap (λ (b : Bool). if b then Some (number + 1) else number_if (number + 1) rest)
    (ne_eqb (number + 1) 0 (λ e. absurd (omega (arith, e)))))
from_next number (event ∷ entered) rest = refl

-- behind an event that is accounted for
pub goes_on : (number : ℕ) (event : EventKind) (entered rest others : List EventKind)
    → Some others ≡ asked_behind event rest
    → stray_at number (event ∷ entered) rest ≡ stray_at (number + 1) entered others
goes_on number event entered rest others e =
    ap (λ (found : Option (List EventKind)).
    go_on number (λ left. stray_from (number + 1) entered left) found) (sym e)
    ∙ from_next number entered others

-- at one that isn't
pub stops_at : (number : ℕ) (event : EventKind) (entered rest : List EventKind)
    → None ≡ asked_behind event rest → stray_at number (event ∷ entered) rest ≡ Some number
stops_at number event entered rest e =
    ap (λ (found : Option (List EventKind)).
    go_on number (λ left. stray_from (number + 1) entered left) found) (sym e)

-- behind all events: none is stray where there was one, and nothing more is asked
pub none_at_all : (number : ℕ) (rest : List EventKind) → number ≡ 0
    → stray_at number [] rest ≡ Some number
none_at_all number rest e =
    ap (λ (b : Bool). if b then Some number else number_if number rest) (eq-eqb number 0 e)

left_after : (number : ℕ) (rest : List EventKind) → number ≢ 0
    → stray_at number [] rest ≡ number_if number rest
left_after number rest n =
    ap (λ (b : Bool). if b then Some number else number_if number rest) (ne_eqb number 0 n)

one_missing : (number : ℕ) (rest : List EventKind) → 0 < length rest
    → number_if number rest ≡ Some number
one_missing number [] l = absurd (omega (arith, l))
one_missing number (next ∷ rest) l = refl

-- of events with their texts
pub some_missing : (number : ℕ) (asked : List SpelledEvent) (done : ℕ) → number ≢ 0
    → done < length asked
    → stray_at number [] (events_spelled (drop done asked)) ≡ Some number
some_missing number asked done n l =
    let left = length-drop done asked in
    let same = length-map (drop done asked) event_spelled in
    left_after number (events_spelled (drop done asked)) n
    ∙ one_missing number (events_spelled (drop done asked)) (omega (arith, left, same, l))

pub none_missing : (number : ℕ) (asked : List SpelledEvent) (done : ℕ) → number ≢ 0
    → length asked ≤ done → stray_at number [] (events_spelled (drop done asked)) ≡ None
none_missing number asked done n l =
    left_after number (events_spelled (drop done asked)) n
    ∙ ap (λ (rest : List SpelledEvent). number_if number (events_spelled rest))
    (drop_all done asked l)

-- one event more
pub next_asked : (asked : List SpelledEvent) (done : ℕ) (next : SpelledEvent)
    → slice_get asked done ≡ Some next
    → events_spelled (drop done asked) ≡ next.event.now ∷ events_spelled (drop (done + 1) asked)
next_asked asked done next e =
    ap events_spelled (drop_more asked done next (slice_get_within asked done next e))
    ∙ ap (λ (event : SpelledEvent). event.event.now ∷ events_spelled (drop (done + 1) asked))
    (get_or_from_slice_get asked done next next e)

pub none_asked : (asked : List SpelledEvent) (done : ℕ) → length asked ≤ done
    → events_spelled (drop done asked) ≡ []
none_asked asked done l = ap events_spelled (drop_all done asked l)
