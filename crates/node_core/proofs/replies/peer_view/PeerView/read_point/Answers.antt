use Rattle.std.proofs.Common.{◌≡◌, true, length, is_some, sym, subst, arith}
use Rattle.mms_data.specs.declared.outcome.Outcome.TheVariants.{Good}
use Rattle.bilateral.specs.Rows.{place_of_see}
use Rattle.tase_views.specs.OwnTables.{own_point}
use Rattle.tase_views.specs.Answers.{outcome_of_point}
use Rattle.node_core.specs.LastValues.{kinds_of}
use Rattle.node_core.specs.Replies.Shown.{Shown, shown_by, InEachView}
use Rattle.node_core.proofs.OfObjects.Known.{named_is_there}
use Rattle.node_core.proofs.OfReplies.Answered.{outcome_of_point-row}
use Rattle.node_core.proofs.OfReplies.Lawful.{shown_lawful}
use Rattle.node_core.proofs.replies.peer_view.PeerView.read_point.Goals as goal

pub value-value-requires : goal.value-value-requires
value-value-requires c =
    let t = c.self.inside.table in
    let seen = subst (λ (shown : Shown). is_some
    (place_of_see shown.table.table c.args.see.now.point) ≡ true) (sym c.self.view_is) c.requires in
    let there = named_is_there (length t.rows.points) t.table c.args.see.now.point
    c.table-lawful.ensures.lawful.known seen in
    record { known = omega (arith, there, c.self.invariant.points) }

pub cov-count-requires : goal.cov-count-requires
cov-count-requires c =
    let t = c.self.inside.table in
    let seen = subst (λ (shown : Shown). is_some
    (place_of_see shown.table.table c.args.see.now.point) ≡ true) (sym c.self.view_is) c.requires in
    let there = named_is_there (length t.rows.points) t.table c.args.see.now.point
    c.table-lawful.ensures.lawful.known seen in
    record { known = omega (arith, there, c.self.invariant.points) }

pub returns-clause-value : goal.returns-clause-value
returns-clause-value c =
    let t = c.self.inside.table in
    let see = c.args.see.now in
    let seen = subst (λ (shown : Shown). is_some (place_of_see shown.table.table see.point) ≡ true)
    (sym c.self.view_is) c.requires in
    let there = named_is_there (length t.rows.points) t.table see.point
    c.table-lawful.ensures.lawful.known seen in
    let given : Shown = shown_by c.self.inside.peer c.self.inside.table c.self.inside.book.now
    c.self.inside.slots.now c.self.inside.plant.now in
    subst (λ (shown : Shown). InEachView shown (λ tables view. Good c.in_ok-shown.shown
    ≡ outcome_of_point view (own_point shown.table.rows see))) c.self.view_is
    (λ updates tables view s. rw c.in_ok-shown.ensures
    (outcome_of_point-row updates tables view given see c.value-value.result.now c.cov-count.result
    s there seen (c.value-value.ensures (kinds_of t.rows) updates s.kept)
    (c.cov-count.ensures (kinds_of t.rows) updates s.kept)))

pub returns-clause-lawful : goal.returns-clause-lawful
returns-clause-lawful c =
    rw c.in_ok-shown.ensures (shown_lawful c.value-value.result.now c.cov-count.result
    c.args.see.now.layout (omega arith))
