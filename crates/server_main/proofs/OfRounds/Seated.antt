-- The calls of a seat that ends other seats between them.
use Rattle.std.proofs.Common.{◌≡◌, ℕ, ◌+◌, List, [], ◌∷◌, ◌++◌, refl, sym, ap, ◌∙◌, subst}
use Rattle.std.proofs.Common.{append_assoc, arith, length-append}
use Rattle.share_turn.specs.Entries.{Each}
use Rattle.share_turn.specs.Public.{IsOf, at, Came}
use Rattle.share_turn.proofs.Owned.{each_append}
use Rattle.node_server.specs.declared.turn.turn_node.NodeSetup.{NodeSetup}
use Rattle.node_server.specs.Turn.Logged.{IsRightTurn}
use Rattle.node_server.specs.NodeCalls.{NodeCall, NodeLog, NodeSeat, CallsNode}
use Rattle.node_server.proofs.Calling.{calls-append}
use Rattle.server_main.specs.Run.Gathering.{SharedNode, SeatClaim}
use Rattle.server_main.specs.Run.Starting.{TakesBack}
use Rattle.server_main.specs.Rounds.Rounds.{AsksForOrders, SeatAfterRounds}

-- calls hang on the seat's number, and on what it has seen
pub calls_so : (setup : NodeSetup) (seat other : NodeSeat) (calls : List NodeCall)
    (front : NodeLog) → other.number ≡ seat.number → other.front ≡ seat.front
    → CallsNode setup other calls front → CallsNode setup seat calls front
calls_so setup seat other [] front number seen made = made ∙ seen
calls_so setup seat other (call ∷ calls) front number seen made = (
  made.0,
  subst (λ (n : ℕ). Came IsRightTurn setup (record seat { number = n }) call.event call.outcome
      made.0) number
      (subst (λ (l : NodeLog). Came IsRightTurn setup (record other { front = l }) call.event
      call.outcome made.0) seen made.1),
  calls_so setup (at seat made.0) (at other made.0) calls front number refl made.2,
)

-- nothing was split
pub back-same : (node : SharedNode) (before after : NodeSeat) → IsOf node before
    → after ≡ before → TakesBack node 0 before after
back-same node before after of same = record {
  of = subst (λ (s : NodeSeat). IsOf node s) (sym same) of;
  number = ap (λ (s : NodeSeat). s.number) same;
  front = ap (λ (s : NodeSeat). s.front) same;
  claims = [];
  count = refl;
  ended = ap (λ (s : NodeSeat). s.ended) same;
  none = tt;
}

-- seats were joined, and then calls were made
pub seat-called : (node : SharedNode) (before mid after : NodeSeat) (calls : List NodeCall)
    (many : ℕ) → TakesBack node many before mid → after ≡ at mid after.front
    → Each AsksForOrders calls → CallsNode node.setup mid calls after.front
    → SeatAfterRounds node before after calls many
seat-called node before mid after calls many back same asks made = record {
  of = subst (λ (s : NodeSeat). IsOf node s) (sym same) back.of;
  number = ap (λ (s : NodeSeat). s.number) same ∙ back.number;
  claims = back.claims;
  count = back.count;
  ended = ap (λ (s : NodeSeat). s.ended) same ∙ back.ended;
  none = back.none;
  asks = asks;
  made = calls_so node.setup before mid calls after.front back.number back.front made;
}

pub seats-then : (node : SharedNode) (a b c : NodeSeat) (xs ys : List NodeCall) (m n : ℕ)
    → SeatAfterRounds node a b xs m → SeatAfterRounds node b c ys n
    → SeatAfterRounds node a c (xs ++ ys) (m + n)
seats-then node a b c xs ys m n first then = record {
  of = then.of;
  number = then.number ∙ first.number;
  claims = then.claims ++ first.claims;
  count = omega (arith, length-append then.claims first.claims, first.count, then.count);
  ended = then.ended ∙ (ap (λ (l : List SeatClaim). then.claims ++ l) first.ended
      ∙ sym (append_assoc then.claims first.claims a.ended));
  none = each_append _ then.claims first.claims then.none first.none;
  asks = each_append AsksForOrders xs ys first.asks then.asks;
  made = calls-append IsRightTurn node.setup a xs ys b.front c.front first.made
      (calls_so node.setup (at a b.front) b ys c.front first.number refl then.made);
}
