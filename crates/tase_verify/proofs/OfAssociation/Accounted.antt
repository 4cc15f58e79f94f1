-- No event is stray exactly where all are accounted for by what is asked.
use Rattle.std.proofs.Common.{◌≡◌, ℕ, ◌+◌, Bool, true, false, List, [], ◌∷◌, ◌++◌, Option}
use Rattle.std.proofs.Common.{Some, None, refl, sym, ap, subst, ◌∙◌, inl, inr}
use Rattle.std.specs.Prelude.{if◌then◌else◌, ◌||◌, ◌↔◌, ◌≢◌}
use Rattle.std.specs.List.{list_any, All}
use Rattle.std.proofs.lemmas.Bool.{false≢true, and_parts}
use Rattle.std.proofs.lemmas.Option.{none-some}
use Rattle.std.proofs.lemmas.List.{append-nil}
use Rattle.std.proofs.lemmas.List.Elements.{All-head, All-tail}
use Rattle.std.proofs.lemmas.Slice.Eq.{bytes_eq-Decides}
use Rattle.tase_views.specs.declared.call.CallKind.{CallKind}
use Rattle.tase_views.specs.declared.event.EventKind.{EventKind}
use Rattle.tase_views.specs.declared.event.EventKind.TheVariants as events
use Rattle.tase_views.specs.EventTexts.{event_text}
use Rattle.tase_views.specs.Outcomes.{is_close}
use Rattle.texts.specs.Journal.Entries.{IsEvent}
use Rattle.tase_verify.specs.Association.Accounts.{AreAccounted}
use Rattle.tase_verify.specs.Association.Stray.{same_event, is_request, is_own_close, asked_behind}
use Rattle.tase_verify.specs.Association.Stray.{number_if, go_on, stray_from, first_stray}
use Rattle.tase_verify.proofs.OfAssociation.Texts.{same_events}

-- nothing stands behind a close
abbrev pub ClosesOnce : List EventKind → Type 0
ClosesOnce [] = Unit {0}
ClosesOnce (event ∷ later) = (is_close event ≡ true → later ≡ []) × ClosesOnce later

-- ---- one event

close_is : (event : EventKind) → is_close event ≡ true → event ≡ events.Close
close_is (events.Open peer) e = absurd (false≢true e)
close_is (events.Request call) e = absurd (false≢true e)
close_is events.Take e = absurd (false≢true e)
close_is events.Close e = refl
close_is (events.Update point value) e = absurd (false≢true e)
close_is (events.Table peer variant) e = absurd (false≢true e)
close_is (events.Tag device tag) e = absurd (false≢true e)
close_is (events.Tick now) e = absurd (false≢true e)
close_is (events.Ask peer slot) e = absurd (false≢true e)
close_is events.TakeOrders e = absurd (false≢true e)
close_is events.Stop e = absurd (false≢true e)

request_is : (event : EventKind) → is_request event ≡ true
    → (call : CallKind) × (event ≡ events.Request call)
request_is (events.Open peer) e = absurd (false≢true e)
request_is (events.Request call) e = (call, refl)
request_is events.Take e = absurd (false≢true e)
request_is events.Close e = absurd (false≢true e)
request_is (events.Update point value) e = absurd (false≢true e)
request_is (events.Table peer variant) e = absurd (false≢true e)
request_is (events.Tag device tag) e = absurd (false≢true e)
request_is (events.Tick now) e = absurd (false≢true e)
request_is (events.Ask peer slot) e = absurd (false≢true e)
request_is events.TakeOrders e = absurd (false≢true e)
request_is events.Stop e = absurd (false≢true e)

not_own : (event : EventKind) → is_own_close event event ≡ false
not_own (events.Open peer) = refl
not_own (events.Request call) = refl
not_own events.Take = refl
not_own events.Close = refl
not_own (events.Update point value) = refl
not_own (events.Table peer variant) = refl
not_own (events.Tag device tag) = refl
not_own (events.Tick now) = refl
not_own (events.Ask peer slot) = refl
not_own events.TakeOrders = refl
not_own events.Stop = refl

-- ---- where they are accounted for, none is stray

goes : (event : EventKind) (others : List EventKind)
    → asked_behind event (event ∷ others) ≡ Some others
goes event others =
    ap (λ (own : Bool).
    if own then Some [] else (if same_event event event then Some others else None)) (not_own event)
    ∙ ap (λ (same : Bool). if same then Some others else None)
    ((bytes_eq-Decides (event_text event) (event_text event)).1 refl)

front_passes : (number : ℕ) (front mine theirs : List EventKind)
    → ((n : ℕ) → stray_from n mine theirs ≡ None)
    → stray_from number (front ++ mine) (front ++ theirs) ≡ None
front_passes number [] mine theirs none = none number
front_passes number (event ∷ front) mine theirs none =
    ap (λ (found : Option (List EventKind)).
    go_on number (λ others. stray_from (number + 1) (front ++ mine) others) found)
    (goes event (front ++ theirs))
    ∙ front_passes (number + 1) front mine theirs none

-- all that is asked, and then this
all_passes : (asked mine : List EventKind) → ((n : ℕ) → stray_from n mine [] ≡ None)
    → stray_from 0 (asked ++ mine) asked ≡ None
all_passes asked mine none =
    ap (λ (es : List EventKind). stray_from 0 (asked ++ mine) es) (sym (append-nil asked))
    ∙ front_passes 0 asked mine [] none

passes : (entered asked : List EventKind) → AreAccounted entered asked
    → stray_from 0 entered asked ≡ None
passes entered asked (inl e) =
    ap (λ (es : List EventKind). stray_from 0 es asked) (e ∙ sym (append-nil asked))
    ∙ all_passes asked [] (λ n. refl)
passes entered asked (inr (inl s)) =
    ap (λ (es : List EventKind). stray_from 0 es asked) s.is_entered
    ∙ ap (λ (es : List EventKind). stray_from 0 (s.front ++ events.Close ∷ []) es) s.is_asked
    ∙ front_passes 0 s.front (events.Close ∷ []) (events.Request s.call ∷ s.later) (λ n. refl)
passes entered asked (inr (inr s)) =
    ap (λ (es : List EventKind). stray_from 0 es asked) s.is_entered
    ∙ all_passes asked (events.Close ∷ []) (λ n. refl)

-- ---- where none is stray, they are accounted for

left_none : (number : ℕ) (rest : List EventKind) → number_if number rest ≡ None → rest ≡ []
left_none number [] e = refl
left_none number (next ∷ rest) e = absurd (none-some number (sym e))

none_later : (number : ℕ) (later rest : List EventKind) → later ≡ []
    → stray_from number later rest ≡ None → rest ≡ []
none_later number later rest e s =
    left_none number rest (ap (λ (es : List EventKind). stray_from number es rest) (sym e) ∙ s)

close_alone : (event : EventKind) (later : List EventKind) → is_close event ≡ true
    → later ≡ [] → event ∷ later ≡ events.Close ∷ []
close_alone event later c e =
    ap (λ (one : EventKind). one ∷ later) (close_is event c)
    ∙ ap (λ (es : List EventKind). events.Close ∷ es) e

in_front : (event : EventKind) (entered asked : List EventKind) → is_close event ≡ false
    → AreAccounted entered asked → AreAccounted (event ∷ entered) (event ∷ asked)
in_front event entered asked n (inl e) = inl (ap (λ (es : List EventKind). event ∷ es) e)
in_front event entered asked n (inr (inl s)) = inr (inl (record {
  front = event ∷ s.front;
  call = s.call;
  later = s.later;
  is_asked = ap (λ (es : List EventKind). event ∷ es) s.is_asked;
  is_entered = ap (λ (es : List EventKind). event ∷ es) s.is_entered;
}))
in_front event entered asked n (inr (inr s)) = inr (inr (record {
  none = ap (λ (b : Bool). b || list_any is_close asked) n ∙ s.none;
  is_entered = ap (λ (es : List EventKind). event ∷ es) s.is_entered;
}))

last_by : (b : Bool) (number : ℕ) (event : EventKind) (later : List EventKind)
    → is_close event ≡ b → (is_close event ≡ true → later ≡ [])
    → go_on number (λ others. stray_from (number + 1) later others)
    (if b then Some [] else None) ≡ None
    → AreAccounted (event ∷ later) []
last_by true number event later c o s =
    inr (inr (record { none = refl; is_entered = close_alone event later c (o c) }))
last_by false number event later c o s = absurd (none-some number (sym s))

same_by : (b : Bool) (number : ℕ) (event : EventKind) (later others : List EventKind)
    → is_close event ≡ b → (is_close event ≡ true → later ≡ [])
    → (stray_from (number + 1) later others ≡ None → AreAccounted later others)
    → stray_from (number + 1) later others ≡ None
    → AreAccounted (event ∷ later) (event ∷ others)
same_by true number event later others c o go s =
    inl (ap (λ (es : List EventKind). event ∷ es)
    (o c ∙ sym (none_later (number + 1) later others (o c) s)))
same_by false number event later others c o go s = in_front event later others c (go s)

next_by : (own same : Bool) (number : ℕ) (event next : EventKind) (later others : List EventKind)
    → is_own_close event next ≡ own → same_event event next ≡ same → IsEvent event → IsEvent next
    → (is_close event ≡ true → later ≡ [])
    → (stray_from (number + 1) later others ≡ None → AreAccounted later others)
    → go_on number (λ rest. stray_from (number + 1) later rest)
    (if own then Some [] else (if same then Some others else None)) ≡ None
    → AreAccounted (event ∷ later) (next ∷ others)
next_by true same number event next later others k e i j o go s =
    let parts = and_parts (is_close event) (is_request next) k in
    let r = request_is next parts.1 in
    inr (inl (record {
      front = [];
      call = r.0;
      later = others;
      is_asked = ap (λ (one : EventKind). one ∷ others) r.1;
      is_entered = close_alone event later parts.0 (o parts.0);
    }))
next_by false true number event next later others k e i j o go s =
    subst (λ (one : EventKind). AreAccounted (event ∷ later) (one ∷ others))
    (same_events event next i j e)
    (same_by (is_close event) number event later others refl o go s)
next_by false false number event next later others k e i j o go s =
    absurd (none-some number (sym s))

accounted : (number : ℕ) (entered asked : List EventKind) → All IsEvent entered
    → All IsEvent asked → ClosesOnce entered → stray_from number entered asked ≡ None
    → AreAccounted entered asked
accounted number [] asked i j o s = inl (sym (left_none number asked s))
accounted number (event ∷ entered) [] i j o s =
    last_by (is_close event) number event entered refl o.0 s
accounted number (event ∷ entered) (next ∷ asked) i j o s =
    next_by (is_own_close event next) (same_event event next) number event next entered asked refl
    refl (All-head IsEvent event entered i) (All-head IsEvent next asked j) o.0
    (λ t. accounted (number + 1) entered asked (All-tail IsEvent event entered i)
    (All-tail IsEvent next asked j) o.1 t) s

-- ---- both

nothing : (entered : List EventKind) → entered ≡ [] → (rest : List EventKind)
    → first_stray entered rest ≡ None → ⊥
nothing entered e rest s =
    none-some 0 (sym (sym (ap (λ (es : List EventKind). first_stray es rest) e) ∙ s))

from_first : (entered rest : List EventKind) → first_stray entered rest ≡ None
    → stray_from 0 entered rest ≡ None
from_first [] rest s = absurd (none-some 0 (sym s))
from_first (event ∷ entered) rest s = s

at_first : (entered rest : List EventKind) → (entered ≡ [] → ⊥)
    → stray_from 0 entered rest ≡ None → first_stray entered rest ≡ None
at_first [] rest some s = absurd (some refl)
at_first (event ∷ entered) rest some s = s

pub none_stray : (entered asked : List EventKind) → All IsEvent entered → All IsEvent asked
    → ClosesOnce entered
    → (first_stray entered asked ≡ None) ↔ ((entered ≢ []) × AreAccounted entered asked)
none_stray entered asked i j o = (
  λ s. (
    λ e. nothing entered e asked s,
    accounted 0 entered asked i j o (from_first entered asked s),
  ),
  λ a. at_first entered asked a.0 (passes entered asked a.1),
)
