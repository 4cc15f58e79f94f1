use Rattle.std.proofs.Common.{◌≡◌, ◌≤◌, ◌∙◌, ◌-◌, ℕ, List, arith, subst, sym, ap}
use Rattle.std.specs.List.{insert}
use Rattle.point_db.specs.WatchLists.{AreAscending, watched_by}
use Rattle.point_db.proofs.AscendingSlots.{IsGap, gap-searched, there-searched, gap-with_slot}
use Rattle.point_db.proofs.AscendingSlots.{ascending-with_slot}
use Rattle.point_db.proofs.WatchChanges.{spare-gap, added-gap, added-there}
use Rattle.point_db.proofs.watch.PointWatch.add.Goals.{In-Err, After-unwrap}
use Rattle.point_db.proofs.watch.PointWatch.add.Goals as goal

gap : (c : In-Err) → IsGap c.self.inside.slots.items c.args.slot c.in-Err.place
gap c =
    gap-searched c.self.inside.slots.items c.deref.result.now c.args.slot c.in-Err.place
    c.deref.ensures.value c.self.invariant.0 c.in-Err.ensures.position

spare : (c : In-Err) → 1 ≤ c.self.inside.room
spare c = spare-gap _ _ c.args.slot c.in-Err.place c.self.view_is (gap c) c.requires

inserted : (c : After-unwrap)
    → c.insert.new.self.items ≡ insert c.self.inside.slots.items c.in-Err.place c.args.slot
inserted c = rw c.unwrap.ensures at c.insert.ensures.items

pub unwrap-requires : goal.unwrap-requires
unwrap-requires c =
    c.insert.ensures.succeeds
    (omega (arith, c.self.invariant.1, spare (goal.at.unwrap-requires c).In-Err))

pub overflow_sub-self : goal.overflow_sub-self
overflow_sub-self c = spare (goal.at.overflow_sub-self c).In-Err

pub invariant_of-self : goal.invariant_of-self
invariant_of-self c =
    let known = goal.at.invariant_of-self c in
    let slots = c.self.inside.slots.items in (
      subst AreAscending
          (gap-with_slot slots c.args.slot c.in-Err.place (gap known.In-Err)
          ∙ sym (inserted known.After-unwrap))
          (ascending-with_slot slots c.args.slot c.self.invariant.0),
      omega (
        arith,
        rw c.unwrap.ensures at c.insert.ensures.len,
        c.insert.ensures.capacity,
        c.self.invariant.1,
        spare known.In-Err,
      ),
    )

pub returns-in-Err : goal.returns-in-Err
returns-in-Err c =
    let known = goal.at.returns-in-Err c in
    ap (λ (slots : List ℕ). record { slots = slots; spare = c.self.inside.room - 1 })
    (inserted known.After-unwrap)
    ∙ added-gap _ c.args.slot c.in-Err.place (gap known.In-Err)
    ∙ ap (watched_by c.args.slot) c.self.view_is

pub returns-in_default : goal.returns-in_default
returns-in_default c =
    subst (λ point. point ≡ watched_by c.args.slot point) c.self.view_is
    (added-there _ c.args.slot c.self.invariant.0
    (there-searched c.self.inside.slots.items c.deref.result.now c.args.slot c.in_default.field-0
    c.deref.ensures.value c.self.invariant.0 c.in_default.ensures.position))
