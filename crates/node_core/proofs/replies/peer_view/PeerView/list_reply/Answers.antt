use Rattle.std.proofs.Common.{◌≡◌, ℕ, ℤ, IfOk, subst}
use Rattle.std.specs.Int.{w64}
use Rattle.std.proofs.lemmas.Int.{to_z-of_z}
use Rattle.tase_views.specs.declared.call.CallKind.TheVariants.{NameList}
use Rattle.tase_views.specs.Answers.{reply_to}
use Rattle.node_core.specs.Replies.Shown.{Shown, shown_by, InEachView}
use Rattle.node_core.proofs.OfReplies.Answered.{ok_in_each}
use Rattle.node_core.proofs.replies.peer_view.PeerView.list_reply.Goals as goal

pub returns-clause-value : goal.returns-clause-value
returns-clause-value c =
    let given : Shown = shown_by c.self.inside.peer c.self.inside.table c.self.inside.book.now
    c.self.inside.slots.now c.self.inside.plant.now in
    let plain = to_z-of_z w64 c.args.class c.ranges.class in
    ok_in_each given c.args.self.now
    (λ tables view ordinal. reply_to tables view ordinal
    (NameList c.args.class c.args.scope.now c.args.after.now)) c.list_names.result c.self.view_is
    (subst (λ (class : ℤ). InEachView given (λ tables view. (ordinal : ℕ)
    → IfOk c.list_names.result (λ kind. kind ≡ reply_to tables view ordinal
    (NameList class c.args.scope.now c.args.after.now)))) plain
    (λ updates tables view s ordinal. c.list_names.ensures.value tables view s.table s.book))
