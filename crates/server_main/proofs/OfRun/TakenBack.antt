-- A seat that was split for a job which came back is joined again.
use Rattle.std.proofs.Common.{◌≡◌, Bool, true, false, List, [], ◌∷◌, ◌++◌, length, refl, sym, ap}
use Rattle.std.proofs.Common.{◌∙◌, subst}
use Rattle.std.specs.Prelude.{if◌then◌else◌, ltb}
use Rattle.share_turn.specs.Public.{IsOf, numbers}
use Rattle.share_turn.specs.Steps.{longer}
use Rattle.node_server.specs.NodeCalls.{NodeLog, NodeSeat}
use Rattle.server_main.specs.Run.Gathering.{SharedNode, SeatClaim, HasFreshSeat}
use Rattle.node_server.specs.declared.jobs.parts.JobParts.{JobParts}
use Rattle.server_main.specs.Run.Starting.{TakesBack, node_of, seat_of}

longer-same : {A : Type 0} (xs : List A) → longer xs xs ≡ xs
longer-same {A} xs = by (ltb (length xs) (length xs))
  where
    by : (b : Bool) → (if b then xs else xs) ≡ xs
    by true = refl
    by false = refl

-- nothing was split
pub none-split : (node : SharedNode) (seat : NodeSeat) → IsOf node seat → TakesBack node 0 seat seat
none-split node seat of = record {
  of = of;
  number = refl;
  front = refl;
  claims = [];
  count = refl;
  ended = refl;
  none = tt;
}

-- a seat that is fresh and has seen the same was joined
pub seat-back : (node : SharedNode) (before after other : NodeSeat) → HasFreshSeat node node other
    → other.front ≡ before.front → IsOf node after × (after.number ≡ before.number)
    → after.front ≡ longer before.front other.front → after.ended ≡ numbers other ++ before.ended
    → TakesBack node 1 before after
seat-back node before after other fresh same of seen ended = record {
  of = of.0;
  number = of.1;
  front = seen ∙ (ap (λ (l : NodeLog). longer before.front l) same ∙ longer-same before.front);
  claims = (other.number, other.front) ∷ [];
  count = refl;
  ended = ended ∙ ap (λ (l : List SeatClaim). ((other.number, other.front) ∷ l) ++ before.ended)
      fresh.none_ended;
  none = (fresh.none, tt);
}

-- the seat of a job that was taken apart
pub joined-back : {L S C : Type 0} (node : SharedNode) (before after : NodeSeat)
    (taken job : JobParts L S C) → taken ≡ job
    → HasFreshSeat node (node_of job) (seat_of job) → (seat_of job).front ≡ before.front
    → IsOf node after × (after.number ≡ before.number)
    → after.front ≡ longer before.front (seat_of taken).front
    → after.ended ≡ numbers (seat_of taken) ++ before.ended → TakesBack node 1 before after
joined-back {L} {S} {C} node before after taken job is fresh same of seen ended =
    let mine : HasFreshSeat node (node_of taken) (seat_of taken) =
    subst (λ (j : JobParts L S C). HasFreshSeat node (node_of j) (seat_of j)) (sym is) fresh in
    seat-back node before after (seat_of taken)
    (record { same = refl; of = mine.of; none = mine.none; none_ended = mine.none_ended })
    (ap (λ (j : JobParts L S C). (seat_of j).front) is ∙ same) of seen ended

-- by whose number it is told
pub joined-number : {L S C : Type 0} (before after : NodeSeat) (taken job : JobParts L S C)
    → taken ≡ job → after.ended ≡ numbers (seat_of taken) ++ before.ended
    → after.ended ≡ numbers (seat_of job) ++ before.ended
joined-number {L} {S} {C} before after taken job is ended =
    ended ∙ ap (λ (j : JobParts L S C). numbers (seat_of j) ++ before.ended) is
