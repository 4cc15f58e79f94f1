use Rattle.std.proofs.Common.{◌≡◌, ◌<◌, ℕ, List, [], map, length, arith, ap, sym, ◌∙◌, length-set}
use Rattle.std.specs.Global.{Vec}
use Rattle.std.specs.Prelude.{if◌then◌else◌}
use Rattle.std.proofs.lemmas.List.{length-map}
use Rattle.bilateral.specs.declared.rows.TheConstants.{SLOT_LIMIT}
use Rattle.bilateral.specs.Rows.{point_of}
use Rattle.transfer_sets.specs.declared.wish.Wish.{Wish}
use Rattle.transfer_sets.specs.Banks.{OwnedSlot, slot_at}
use Rattle.node_core.specs.Objects.Found.{offered}
use Rattle.node_core.specs.Feeds.SlotFeeds.{places_by, places_planned}
use Rattle.node_core.proofs.OfFeeds.Planned.{planned-more, all_planned, unwatched-planned}
use Rattle.node_core.proofs.OfFeeds.Planned.{is_watcher}
use Rattle.node_core.proofs.OfFeeds.Planned.{looked-at, looked-past}
use Rattle.node_core.proofs.feeds.plan.ChangePlan.plan.Goals as goal
use Rattle.node_core.proofs.feeds.plan.ChangePlan.plan.Goals.{then-is_watching+in_ok-plan_slot}
use Rattle.node_core.proofs.feeds.plan.ChangePlan.plan.Goals.{else-is_watching}

pub loop-slot-preserved : goal.loop-slot-preserved
loop-slot-preserved c =
    let table = offered c.args.table.now in
    let book = c.args.book.now in
    let name = (point_of c.args.table.now.rows c.args.point).name in
    let plans = c.loop-slot.self-inside.places.items in
    let slot = c.loop-slot.slot in
    let old = c.args.looks.now in
    let now = c.loop-slot.looks in
    let watcher = is_watcher table book name c.args.bank.now in
    let so = c.loop-slot.invariant in
    let there : slot < SLOT_LIMIT = omega (arith, c.loop-slot-test.true) in
    let within : slot < length plans = omega (arith, there, so.many) in
    let seen : c.is_watching.result ≡ watcher slot =
    c.is_watching.ensures ∙ c.requires.watch.each c.args.point slot c.requires.known there in
    let want : ℕ → List ℕ = λ s. places_planned table book name (slot_at c.args.bank.now s) in
    elim c.if-is_watching.branch [
      | then-is_watching+in_ok-plan_slot w ↦ rw (w.self-inside-is, w.looks-is) (record {
        many = length-set plans slot w.plan_slot.new.places ∙ so.many;
        below = planned-more (λ places. places.items) plans slot w.plan_slot.new.places want
            within so.below (w.in_ok-plan_slot.ensures
            ∙ ap (λ (wish : Wish). if wish.status then places_by table book wish name else [])
            (w.wish.ensures ∙ ap (λ (own : OwnedSlot). own.state.wish) w.look.ensures.slot));
        looks = looked-at watcher slot old now w.look.new.looks there
            (sym seen ∙ w.if-is_watching.true) (omega (arith, w.look.ensures.looks)) so.looks;
      })
      | else-is_watching w ↦ rw (w.self-inside-is, w.looks-is) (record {
        many = length-set plans slot w.clear.new.self ∙ so.many;
        below = planned-more (λ places. places.items) plans slot w.clear.new.self want within
            so.below (w.clear.ensures.items
            ∙ sym (unwatched-planned table book name (slot_at c.args.bank.now slot)
            (sym seen ∙ w.if-is_watching.false)));
        looks = looked-past watcher slot old now there (sym seen ∙ w.if-is_watching.false)
            so.looks;
      })
    ]

pub returns-clause-ok : goal.returns-clause-ok
returns-clause-ok c =
    let so = c.loop-slot.invariant in
    let plans = c.loop-slot.self-inside.places.items in
    let f : Vec ℕ → List ℕ = λ places. places.items in
    all_planned (offered c.args.table.now) c.args.book.now
    (point_of c.args.table.now.rows c.args.point).name c.args.bank.now (map f plans)
    c.loop-slot.slot (length-map plans f ∙ so.many) c.requires.many
    (omega (arith, c.loop-slot-test.false)) so.below
