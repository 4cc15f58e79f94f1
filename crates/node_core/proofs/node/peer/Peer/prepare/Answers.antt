use Rattle.std.proofs.Common.{◌≡◌, ℕ, ◌+◌, ◌*◌, ◌≤◌, List, arith, subst}
use Rattle.bilateral.specs.Rows.{point_of}
use Rattle.data_sets.specs.Books.{Book}
use Rattle.transfer_sets.specs.Banks.{OwnedSlot, HasMoreRoom}
use Rattle.node_core.specs.Objects.Found.{TableInForce, offered}
use Rattle.node_core.specs.Feeds.SlotFeeds.{IsPlanned, watch_count, planned_count}
use Rattle.node_core.proofs.OfFeeds.Planned.{looked-twice, planned-roomier}
use Rattle.node_core.proofs.node.peer.Peer.prepare.Goals as goal

module _ (t u : TableInForce) (same : t ≡ u) (point : ℕ) (book : Book) (slots : List OwnedSlot)
  where
    -- how many were looked at, and what is planned, by a table in force in other words
    looked-by : (old new : ℕ)
        → new ≤ old + 2 * watch_count (offered t) book (point_of t.rows point).name slots
        → new ≤ old + 2 * watch_count (offered u) book (point_of u.rows point).name slots
    looked-by old new =
        subst (λ (x : TableInForce). new ≤ old + 2 * watch_count (offered x) book
        (point_of x.rows point).name slots) same

    both-by : (plan : List (List ℕ)) (old mid new : ℕ)
        → IsPlanned (offered t) book (point_of t.rows point).name slots plan
        → mid ≤ old + watch_count (offered t) book (point_of t.rows point).name slots
        → new ≤ mid + planned_count plan
        → new ≤ old + 2 * watch_count (offered u) book (point_of u.rows point).name slots
    both-by plan old mid new planned first second =
        looked-by old new (looked-twice (offered t) book (point_of t.rows point).name slots plan
        old mid new planned first second)

    planned-by : (plan : List (List ℕ)) (new : List OwnedSlot) → HasMoreRoom slots new
        → IsPlanned (offered t) book (point_of t.rows point).name slots plan
        → IsPlanned (offered u) book (point_of u.rows point).name new plan
    planned-by plan new more planned =
        subst (λ (x : TableInForce). IsPlanned (offered x) book (point_of x.rows point).name new
        plan) same (planned-roomier (offered t) book (point_of t.rows point).name slots new plan
        more planned)

pub returns-in_err-plan-clause-looks : goal.returns-in_err-plan-clause-looks
returns-in_err-plan-clause-looks c =
    looked-by c.new-table.result _ c.new-table.ensures c.args.point c.args.self.now.book
    c.args.self.now.slots c.args.looks.now c.plan.new.looks (omega (arith, c.plan.ensures.looks))

pub returns-in_err-make_room-clause-looks : goal.returns-in_err-make_room-clause-looks
returns-in_err-make_room-clause-looks c =
    both-by c.new-table.result _ c.new-table.ensures c.args.point c.args.self.now.book
    c.args.self.now.slots c.plan.new.self c.args.looks.now c.plan.new.looks c.make_room.new.looks
    c.in_ok-plan.ensures.ok c.plan.ensures.looks c.make_room.ensures.looks

pub returns-clause-ok : goal.returns-clause-ok
returns-clause-ok c = record {
  planned = planned-by c.new-table.result _ c.new-table.ensures c.args.point c.args.self.now.book
      c.args.self.now.slots c.plan.new.self c.make_room.new.bank c.make_room.ensures.more
      c.in_ok-plan.ensures.ok;
  room = c.in_ok-make_room.ensures.ok;
}

pub returns-clause-looks : goal.returns-clause-looks
returns-clause-looks c =
    both-by c.new-table.result _ c.new-table.ensures c.args.point c.args.self.now.book
    c.args.self.now.slots c.plan.new.self c.args.looks.now c.plan.new.looks c.make_room.new.looks
    c.in_ok-plan.ensures.ok c.plan.ensures.looks c.make_room.ensures.looks
