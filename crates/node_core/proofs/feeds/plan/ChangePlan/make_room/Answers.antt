use Rattle.std.proofs.Common.{◌≡◌, ◌==◌, ◌+◌, ◌<◌, ◌≤◌, ℕ, List, length, arith, ap, sym}
use Rattle.std.proofs.Common.{subst, ◌∙◌}
use Rattle.std.specs.Global.{Vec}
use Rattle.std.proofs.lemmas.List.{length-map}
use Rattle.bilateral.specs.declared.rows.TheConstants.{SLOT_LIMIT}
use Rattle.transfer_sets.specs.Banks.{slot_at}
use Rattle.node_core.specs.Feeds.SlotFeeds.{places_at}
use Rattle.node_core.proofs.OfFeeds.Planned.{planned-read, planned-some, planned-none, is_planned}
use Rattle.node_core.proofs.OfFeeds.Planned.{looked-at, looked-past, looked-within, room-more}
use Rattle.node_core.proofs.OfFeeds.Planned.{room-passed}
use Rattle.node_core.proofs.OfFeeds.Planned.{all_room, HasMoreRoom-then}
use Rattle.node_core.proofs.feeds.plan.ChangePlan.make_room.Goals as goal
use Rattle.node_core.proofs.feeds.plan.ChangePlan.make_room.Goals.{then-not-is_empty+in_ok-room}
use Rattle.node_core.proofs.feeds.plan.ChangePlan.make_room.Goals.{else-not-is_empty}

pub returns-in_err-room-clause-looks : goal.returns-in_err-room-clause-looks
returns-in_err-room-clause-looks c =
    let plan = c.args.self.now in
    let slot = c.loop-slot.slot in
    let plans = c.self.inside.places.items in
    let there : slot < SLOT_LIMIT = omega (arith, c.loop-slot-test.true) in
    let within : slot < length plans = omega (arith, there, c.self.invariant) in
    let here : c.as_slice-places.result.now ≡ places_at plan slot =
    planned-read (λ (places : Vec ℕ). places.items) plans plan slot c.index.result.now
    c.as_slice-places.result.now within c.index.ensures c.as_slice-places.ensures.value
    c.self.view_is in
    let many = ap (λ (places : List ℕ). length places == 0) (sym here) ∙ sym c.is_empty.ensures in
    looked-within (is_planned plan) (slot + 1) c.args.looks.now c.room.new.looks
    (looked-at (is_planned plan) slot c.args.looks.now c.loop-slot.looks c.room.new.looks
    there (planned-some plan slot (many ∙ c.if-not-is_empty.true)) (omega (arith, c.room.ensures.looks))
    c.loop-slot.invariant.looks)

pub loop-slot-preserved : goal.loop-slot-preserved
loop-slot-preserved c =
    let plan = c.args.self.now in
    let old = c.args.looks.now in
    let now = c.loop-slot.looks in
    let mid = c.loop-slot.bank in
    let slot = c.loop-slot.slot in
    let so = c.loop-slot.invariant in
    let plans = c.self.inside.places.items in
    let there : slot < SLOT_LIMIT = omega (arith, c.loop-slot-test.true) in
    let within : slot < length plans = omega (arith, there, c.self.invariant) in
    let here : c.as_slice-places.result.now ≡ places_at plan slot =
    planned-read (λ (places : Vec ℕ). places.items) plans plan slot c.index.result.now
    c.as_slice-places.result.now within c.index.ensures c.as_slice-places.ensures.value
    c.self.view_is in
    let many = ap (λ (places : List ℕ). length places == 0) (sym here) ∙ sym c.is_empty.ensures in
    elim c.if-not-is_empty.branch [
      | then-not-is_empty+in_ok-room w ↦ rw (w.bank-is, w.looks-is) (record {
        more = HasMoreRoom-then c.args.bank.now mid w.room.new.self so.more w.room.ensures.more;
        below = room-more plan slot mid so.below w.room.new.self w.room.ensures.more
            (subst (λ (places : List ℕ). length places ≤ (slot_at w.room.new.self slot).spare) here
            w.in_ok-room.ensures.ok);
        looks = looked-at (is_planned plan) slot old now w.room.new.looks there
            (planned-some plan slot (many ∙ w.if-not-is_empty.true)) (omega (arith, w.room.ensures.looks)) so.looks;
      })
      | else-not-is_empty w ↦ rw (w.bank-is, w.looks-is) (record {
        more = so.more;
        below = room-passed plan slot mid so.below (many ∙ w.if-not-is_empty.false);
        looks = looked-past (is_planned plan) slot old now there
            (planned-none plan slot (many ∙ w.if-not-is_empty.false)) so.looks;
      })
    ]

pub returns-clause-ok : goal.returns-clause-ok
returns-clause-ok c =
    let f : Vec ℕ → List ℕ = λ places. places.items in
    let long : length c.args.self.now ≡ SLOT_LIMIT =
    ap (λ (all : List (List ℕ)). length all) (sym c.self.view_is)
    ∙ length-map c.self.inside.places.items f ∙ c.self.invariant in
    all_room c.args.self.now c.loop-slot.slot c.loop-slot.bank c.loop-slot.invariant.below
    (omega (arith, long, c.loop-slot-test.false))
