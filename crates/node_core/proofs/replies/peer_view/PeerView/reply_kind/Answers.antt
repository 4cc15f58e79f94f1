use Rattle.std.proofs.Common.{ℤ, FitsSigned, rules, sym, ap, ◌∙◌}
use Rattle.std.specs.Int.{w64}
use Rattle.std.proofs.lemmas.Int.{to_z-of_z}
use Rattle.tase_views.specs.declared.call.CallKind.TheVariants.{NameList}
use Rattle.tase_views.specs.Answers.{reply_to}
use Rattle.node_core.proofs.OfReplies.Answered.{ok_of}
use Rattle.node_core.proofs.replies.peer_view.PeerView.reply_kind.Goals as goal

pub returns-in-NameList-clause-value : goal.returns-in-NameList-clause-value
returns-in-NameList-clause-value c =
    let fits : FitsSigned w64 c.in-NameList.class = search rules in
    let plain = to_z-of_z w64 c.in-NameList.class fits in
    let call = sym c.in-NameList.is ∙ c.kind.ensures.value in
    ok_of c.list_reply.result
    (λ kind each updates tables view s. each updates tables view s c.args.ordinal
    ∙ ap (λ (class : ℤ). reply_to tables view c.args.ordinal
    (NameList class c.in-NameList.scope c.in-NameList.after)) plain
    ∙ ap (reply_to tables view c.args.ordinal) call) c.list_reply.ensures.value

pub returns-in-TypeOf-clause-value : goal.returns-in-TypeOf-clause-value
returns-in-TypeOf-clause-value c =
    ok_of c.type_reply.result
    (λ kind each updates tables view s. each updates tables view s c.args.ordinal
    ∙ ap (reply_to tables view c.args.ordinal) (sym c.in-TypeOf.is ∙ c.kind.ensures.value))
    c.type_reply.ensures.value

pub returns-in-Define-clause-value : goal.returns-in-Define-clause-value
returns-in-Define-clause-value c = λ updates tables view s.
    c.definition_reply.ensures.value updates tables view s c.args.ordinal
    ∙ ap (reply_to tables view c.args.ordinal) (sym c.in-Define.is ∙ c.kind.ensures.value)

pub returns-in-MembersOf-clause-value : goal.returns-in-MembersOf-clause-value
returns-in-MembersOf-clause-value c =
    ok_of c.set_reply.result
    (λ kind each updates tables view s. each updates tables view s c.args.ordinal
    ∙ ap (reply_to tables view c.args.ordinal) (sym c.in-MembersOf.is ∙ c.kind.ensures.value))
    c.set_reply.ensures.value
