-- Calls of a seat, one after another: two runs of them in a row, what they add, what was seen.
use Rattle.std.proofs.Common.{◌≡◌, ℕ, List, [], ◌∷◌, ◌++◌, ap, sym, ◌∙◌, subst, append_assoc}
use Rattle.std.proofs.Common.{Result, refl}
use Rattle.std.proofs.lemmas.List.{append-nil}
use mathlib.Core.List.{IsPrefix}
use Rattle.share_turn.specs.Entries.{own}
use Rattle.share_turn.specs.Public.{Sitting, at, added}
use Rattle.share_turn.proofs.Called.{own_called, seen_called}
use Rattle.node_server.specs.SeatCalls.{SeatCall, taken_events, MakesCalls}

pub prefix-then : {A : Type 0} (xs ys zs : List A) → IsPrefix xs ys → IsPrefix ys zs
    → IsPrefix xs zs
prefix-then xs ys zs first then = (
  first.0 ++ then.0,
  sym (append_assoc xs first.0 then.0)
      ∙ (ap (λ l. l ++ then.0) first.1 ∙ then.1),
)

module _ {E A F : Type 0} where
  pub taken-append : (calls more : List (SeatCall E A F))
      → taken_events (calls ++ more) ≡ taken_events calls ++ taken_events more
  taken-append [] more = refl
  taken-append (call ∷ calls) more =
      ap (λ (l : List E). added call.outcome call.event ++ l) (taken-append calls more)
      ∙ sym (append_assoc (added call.outcome call.event) (taken_events calls)
      (taken_events more))

  module _ {T : Type 0} (right : T → List (ℕ × E) → ℕ → E → Result A F → Type 0) (setup : T) where
    pub calls-append : (seat : Sitting E T) (calls more : List (SeatCall E A F))
        (seen front : List (ℕ × E)) → MakesCalls right setup seat calls seen
        → MakesCalls right setup (at seat seen) more front
        → MakesCalls right setup seat (calls ++ more) front
    calls-append seat [] more seen front first then =
        subst (λ (l : List (ℕ × E)). MakesCalls right setup (at seat l) more front) first then
    calls-append seat (call ∷ calls) more seen front first then =
        (first.0, first.1, calls-append (at seat first.0) calls more seen front first.2 then)

    pub calls_own : (seat : Sitting E T) (calls : List (SeatCall E A F)) (front : List (ℕ × E))
        → MakesCalls right setup seat calls front
        → own seat.number front ≡ own seat.number seat.front ++ taken_events calls
    calls_own seat [] front made = ap (own seat.number) made
        ∙ sym (append-nil (own seat.number seat.front))
    calls_own seat (call ∷ calls) front made =
        calls_own (at seat made.0) calls front made.2
        ∙ (ap (λ (l : List E). l ++ taken_events calls)
        (own_called seat.number seat.front made.0 made.1.0 call.event call.outcome made.1.1
        made.1.3)
        ∙ append_assoc (own seat.number seat.front) (added call.outcome call.event)
        (taken_events calls))

    pub seen_calls : (seat : Sitting E T) (calls : List (SeatCall E A F)) (front : List (ℕ × E))
        → MakesCalls right setup seat calls front → IsPrefix seat.front front
    seen_calls seat [] front made = ([], append-nil seat.front ∙ sym made)
    seen_calls seat (call ∷ calls) front made =
        prefix-then seat.front made.0 front
        (seen_called seat.number seat.front made.0 made.1.0 call.event call.outcome made.1.1
        made.1.3) (seen_calls (at seat made.0) calls front made.2)

    pub calls_split : (seat : Sitting E T) (calls more : List (SeatCall E A F))
        (front : List (ℕ × E)) → MakesCalls right setup seat (calls ++ more) front
        → (seen : List (ℕ × E)) × MakesCalls right setup seat calls seen
        × MakesCalls right setup (at seat seen) more front
    calls_split seat [] more front made = (seat.front, refl, made)
    calls_split seat (call ∷ calls) more front made =
        let rest = calls_split (at seat made.0) calls more front made.2 in
        (rest.0, (made.0, made.1, rest.1), rest.2)
