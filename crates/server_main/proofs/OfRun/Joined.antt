-- A seat that joins others, one after another.
use Rattle.std.proofs.Common.{◌≡◌, ℕ, List, [], ◌∷◌, ◌++◌, refl, ap, sym, ◌∙◌, subst, append_assoc}
use Rattle.std.proofs.lemmas.List.{append-nil}
use Rattle.share_turn.specs.Entries.{Each, Keeps}
use Rattle.share_turn.specs.Public.{IsOf, numbers}
use Rattle.node_server.specs.NodeCalls.{NodeSeat}
use Rattle.node_server.specs.NodeCalls.{NodeLog}
use Rattle.server_main.specs.Run.Gathering.{SharedNode, SeatClaim, Gathers, MayJoin, ClosesOver}

module _ {E : Type 0} where
  keeps-refl : (n : ℕ) (front : List (ℕ × E)) → Keeps front (n, front)
  keeps-refl n front = (([], append-nil front), refl)

  pub keeps-then : (n : ℕ) (first next last : List (ℕ × E)) → Keeps next (n, first)
      → Keeps last (n, next) → Keeps last (n, first)
  keeps-then n first next last a b = (
    (
      a.0.0 ++ b.0.0,
      sym (append_assoc first a.0.0 b.0.0)
          ∙ (ap (λ (l : List (ℕ × E)). l ++ b.0.0) a.0.1 ∙ b.0.1),
    ),
    b.1 ∙ a.1,
  )

pub gathers-none : (node : SharedNode) (seat : NodeSeat) → IsOf node seat
    → Gathers node seat seat []
gathers-none node seat of = record {
  of = of;
  number = refl;
  ended = refl;
  keeps = keeps-refl seat.number seat.front;
}

pub gathers-then : (node : SharedNode) (a b c : NodeSeat) (xs ys : List SeatClaim)
    → Gathers node a b xs → Gathers node b c ys → Gathers node a c (ys ++ xs)
gathers-then node a b c xs ys first second = record {
  of = second.of;
  number = second.number ∙ first.number;
  ended = second.ended ∙ (ap (λ (l : List SeatClaim). ys ++ l) first.ended
      ∙ sym (append_assoc ys xs a.ended));
  keeps = keeps-then a.number a.front b.front c.front first.keeps
      (subst (λ (n : ℕ). Keeps c.front (n, b.front)) first.number second.keeps);
}

pub gathers-joined : (node : SharedNode) (before after other : NodeSeat) → MayJoin node other
    → IsOf node after → after.number ≡ before.number
    → after.ended ≡ numbers other ++ before.ended
    → Each (Keeps after.front) ((before.number, before.front) ∷ after.ended)
    → Gathers node before after ((other.number, other.front) ∷ [])
gathers-joined node before after other may of number ended all = record {
  of = of;
  number = number;
  ended = ended ∙ ap (λ (l : List SeatClaim). (other.number, other.front) ∷ l ++ before.ended)
      may.1;
  keeps = all.0;
}

-- what is closed over the numbers of a seat is closed over those of the seat that gathered them,
-- and over those that this one had ended before
pub closes-over : (node : SharedNode) (before after : NodeSeat) (claims : List SeatClaim)
    (log : NodeLog) → Gathers node before after claims → ClosesOver (numbers after) log
    → ClosesOver ((before.number, before.front) ∷ claims ++ before.ended) log
closes-over node before after claims log gathers over =
    let k : ClosesOver ((before.number, after.front) ∷ claims ++ before.ended) log =
    subst (λ (n : ℕ). ClosesOver ((n, after.front) ∷ claims ++ before.ended) log) gathers.number
    (subst (λ (l : List SeatClaim). ClosesOver ((after.number, after.front) ∷ l) log) gathers.ended
    over) in
    record {
      keeps = (
        keeps-then before.number before.front after.front log gathers.keeps k.keeps.0,
        k.keeps.1,
      );
      differ = k.differ;
      no_other = k.no_other;
    }
