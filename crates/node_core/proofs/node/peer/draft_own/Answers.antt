use Rattle.std.proofs.Common.{◌≡◌, ◌<◌, ℕ, length, ap, sym, subst, ◌∙◌, arith}
use Rattle.transfer_sets.specs.Banks.{slot_at, is_owned_by}
use Rattle.node_core.specs.Objects.Found.{TableInForce, table_at}
use Rattle.node_core.specs.Replies.Shown.{Shown, shown_by}
use Rattle.node_core.proofs.OfNode.TickDrafts.{IsMadeOf, owned-start, owned-many, owned-more}
use Rattle.node_core.proofs.OfNode.TickDrafts.{owned-other, owned-all}
use Rattle.node_core.proofs.node.peer.draft_own.Goals as goal
use Rattle.node_core.proofs.node.peer.draft_own.Goals.{then-owns+in_ok-made+in_ok-draft_more}
use Rattle.node_core.proofs.node.peer.draft_own.Goals.{else-owns}

pub loop-place-init : goal.loop-place-init
loop-place-init c = owned-start _ _ _ _

pub loop-place-preserved : goal.loop-place-preserved
loop-place-preserved c =
    let shown = shown_by c.args.number
    (table_at c.args.centre.now c.args.number c.args.variant) c.args.book.now c.args.slots.now
    c.args.plant.now in
    let slot = c.args.slot in
    let now = c.loop-place.associations in
    let f = c.loop-place.invariant in
    let many = owned-many _ _ _ _ _ _ f in
    let there : c.loop-place.place < length now =
    omega (arith, many, c.loop-place-test.true, c.len-place-end.ensures) in
    let owned = ap (λ (ordinal : ℕ). is_owned_by ordinal (slot_at c.args.slots.now slot))
    (sym c.ordinal.ensures)
    ∙ ap (is_owned_by c.ordinal.result) (sym c.look-own.ensures.slot) ∙ sym c.owns.ensures in
    let is : c.new-shown.result ≡ shown =
    c.new-shown.ensures ∙ ap (λ (t : TableInForce). record shown { table = t })
    c.new-table.ensures in
    elim c.if-owns.branch [
      | then-owns+in_ok-made+in_ok-draft_more w ↦
          rw w.associations-is (owned-more _ _ _ _ _ _ f _ _ there (owned ∙ w.if-owns.true)
          (subst (λ (s : Shown). IsMadeOf s c.args.cause slot w.in_ok-made.made) is
          w.in_ok-made.ensures)
          w.in_ok-draft_more.ensures.made w.in_ok-draft_more.ensures.ok)
      | else-owns w ↦
          rw w.associations-is (owned-other _ _ _ _ _ _ f there (owned ∙ w.if-owns.false))
    ]

pub returns-clause-ok : goal.returns-clause-ok
returns-clause-ok c =
    let f = c.loop-place.invariant in
    let many = owned-many _ _ _ _ _ _ f in
    owned-all _ _ _ _ _ _ f
    (omega (arith, many, c.loop-place-test.false, c.len-place-end.ensures))
