use Rattle.std.proofs.Common.{◌≤◌, List, Option, sym, subst, ap, ◌∙◌}
use Rattle.bilateral.specs.declared.rows.TheConstants.{SLOT_LIMIT}
use Rattle.mms_data.specs.declared.outcome.Outcome.{Outcome}
use Rattle.tase_views.specs.declared.reply.ReadSpec.{ReadSpec}
use Rattle.tase_views.specs.declared.reply.ReplyKind.TheVariants.{Results}
use Rattle.tase_views.specs.Answers.{echoed}
use Rattle.node_core.specs.Objects.Found.{offered}
use Rattle.node_core.specs.Slots.SlotsKept.{Drafted, AreSlots}
use Rattle.node_core.specs.Replies.Shown.{Shown}
use Rattle.node_core.proofs.OfReplies.Answered.{read_by_draft, hands_out}
use Rattle.node_core.proofs.OfReplies.Lawful.{echoed_named}
use Rattle.node_core.proofs.replies.peer_view.PeerView.read_reply.Goals as goal

pub new-requires : goal.new-requires
new-requires c = (
  rw c.in_ok-spec.ensures (echoed_named c.args.echo c.args.names.now c.requires.some),
  c.in_ok-results.ensures.lawful,
)

pub returns-clause-value : goal.returns-clause-value
returns-clause-value c = λ updates tables view s.
    let few = subst (λ (shown : Shown). shown.table.table.slots ≤ SLOT_LIMIT) c.self.view_is
    c.table-lawful.ensures.lawful.slots in
    let read = read_by_draft c.args.self.now updates tables view c.args.ordinal c.args.names.now
    c.in_ok-results.results c.new-draft.result _ c.new-draft.ensures
    (ap (λ (shown : Shown). shown.slots) c.self.view_is) few s
    (c.in_ok-results.ensures.value updates tables view s) in
    c.new.ensures
    ∙ ap (λ (spec : Option ReadSpec). Results spec c.in_ok-results.results) c.in_ok-spec.ensures
    ∙ ap (λ (results : List Outcome). Results (echoed c.args.echo c.args.names.now) results) read

pub returns-clause-handed : goal.returns-clause-handed
returns-clause-handed c = (
  hands_out (offered c.args.self.now.table) c.args.ordinal c.args.names.now _
      c.args.self.now.slots c.new-draft.result c.read.new.draft c.into_handed.result.items
      c.new-draft.ensures (ap (λ (shown : Shown). shown.slots) c.self.view_is)
      c.into_handed.ensures c.in_ok-results.ensures.draft,
  subst AreSlots (ap (λ (d : Drafted). d.handed) c.draft.view_is ∙ sym c.into_handed.ensures)
      c.draft.invariant.1,
)
