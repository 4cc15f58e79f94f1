use Rattle.std.proofs.Common.{◌≡◌, ◌≤◌, List, Option, Some, None, sym, subst, ap, ◌∙◌}
use Rattle.std.specs.Option.{option_copied}
use Rattle.bilateral.specs.declared.rows.Table.{Table}
use Rattle.bilateral.specs.declared.rows.TheConstants.{SLOT_LIMIT}
use Rattle.mms_data.specs.declared.outcome.Outcome.{Outcome}
use Rattle.tase_views.specs.declared.call.CallKind.TheVariants.{ReadSet}
use Rattle.tase_views.specs.declared.reply.ReadSpec.{ReadSpec}
use Rattle.tase_views.specs.declared.reply.ReplyKind.TheVariants.{Results}
use Rattle.tase_views.specs.OwnTables.{OwnTable}
use Rattle.tase_views.specs.Slots.{members_of}
use Rattle.tase_views.specs.Answers.{reply_to, set_replied, read_outcomes, echoed_set}
use Rattle.node_core.specs.Replies.Shown.{Shown, IsShown}
use Rattle.node_core.proofs.OfReplies.Answered.{in_view, read_by_draft}
use Rattle.node_core.proofs.OfReplies.Lawful.{echoed_set_named}
use Rattle.node_core.proofs.replies.peer_view.PeerView.read_set_reply.Goals as goal

pub returns-in_default-clause-value : goal.returns-in_default-clause-value
returns-in_default-clause-value c =
    in_view _ c.args.self.now
    (λ tables view. reply_to tables view c.args.ordinal (ReadSet c.args.set.now c.args.echo)) _
    c.self.view_is
    (λ updates tables view s.
    let none : None ≡ members_of tables view c.args.set.now =
    ap option_copied (sym c.in_default.is)
    ∙ c.find_set.ensures.value tables view (ap (λ (x : OwnTable). x.domain) (sym s.table)
    ∙ ap (λ (x : Table). x.domain) (sym c.table.ensures.table)) s.book in
    ap (set_replied (λ members. Results (echoed_set c.args.echo c.args.set.now)
    (read_outcomes tables view c.args.ordinal members))) none)

pub returns-clause-value : goal.returns-clause-value
returns-clause-value c = λ updates tables view s.
    let given = subst (λ (shown : Shown). IsShown updates tables view shown) (sym c.self.view_is) s in
    let members = c.in-Some.members.now in
    let found : Some members ≡ members_of tables view c.args.set.now =
    ap option_copied (sym c.in-Some.is)
    ∙ c.find_set.ensures.value tables view (ap (λ (x : OwnTable). x.domain) (sym given.table)
    ∙ ap (λ (x : Table). x.domain) (sym c.table.ensures.table)) given.book in
    let few = subst (λ (shown : Shown). shown.table.table.slots ≤ SLOT_LIMIT) c.self.view_is
    c.table.ensures.lawful.slots in
    let read = read_by_draft c.args.self.now updates tables view c.args.ordinal members
    c.in_ok-results.results c.new-draft.result _ c.new-draft.ensures
    (ap (λ (shown : Shown). shown.slots) c.self.view_is) few s
    (c.in_ok-results.ensures.value updates tables view s) in
    ap (λ (spec : Option ReadSpec). Results spec c.in_ok-results.results) c.in_ok-spec.ensures
    ∙ ap (λ (results : List Outcome). Results (echoed_set c.args.echo c.args.set.now) results) read
    ∙ ap (set_replied (λ names. Results (echoed_set c.args.echo c.args.set.now)
    (read_outcomes tables view c.args.ordinal names))) found

pub returns-clause-lawful : goal.returns-clause-lawful
returns-clause-lawful c = (
  rw c.in_ok-spec.ensures (echoed_set_named c.args.echo c.args.set.now),
  c.in_ok-results.ensures.lawful,
)
