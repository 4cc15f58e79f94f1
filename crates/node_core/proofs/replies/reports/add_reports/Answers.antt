use Rattle.std.proofs.Common.{◌%◌, ◌≡◌, ◌++◌, ℕ, List, sym, subst, ap, ◌∙◌}
use Rattle.transfer_sets.specs.Banks.{OwnedSlot}
use Rattle.tase_views.specs.declared.reply.ReportKind.{ReportKind}
use Rattle.tase_views.specs.Slots.{makes_report}
use Rattle.node_core.specs.Feeds.SlotFeeds.{conditions_by}
use Rattle.node_core.proofs.OfReplies.ReportsMade.{on_ok, told_some}
use Rattle.node_core.proofs.OfReplies.ReportsAlike.{five}
use Rattle.node_core.proofs.OfReplies.ReportsShown.{IsMade, never_gone, whole-made, changes-known}
use Rattle.node_core.proofs.OfReplies.ReportsShown.{changes-made, changed-some, changed-made}
use Rattle.node_core.proofs.replies.reports.add_reports.Goals as goal
use Rattle.node_core.proofs.replies.reports.add_reports.Goals.{After-wish-wish}

pub add_whole-requires-clause-five : goal.add_whole-requires-clause-five
add_whole-requires-clause-five c =
    subst (λ (n : ℕ). n % 8 ≡ 0) (sym c.conditions_of-conditions.ensures)
    (five c.args.cause c.args.slot c.args.own.now.state)

pub add_changes-requires-clause-five : goal.add_changes-requires-clause-five
add_changes-requires-clause-five c =
    subst (λ (n : ℕ). n % 8 ≡ 0) (sym c.conditions_of-conditions.ensures)
    (five c.args.cause c.args.slot c.args.own.now.state)

-- a report is made, by the transfer set that is lent
is_made : (c : After-wish-wish) → IsMade c.args.shown.now c.args.slot c.args.cause
    c.conditions_of-conditions.result c.moment_of.result c.wish-wish.result.now
is_made c =
    let own = c.requires.own in
    record {
      conditions = c.conditions_of-conditions.ensures
          ∙ ap (λ (s : OwnedSlot). conditions_by c.args.cause c.args.slot s.state) own;
      moment = c.moment_of.ensures;
      wish = c.wish-wish.ensures ∙ ap (λ (s : OwnedSlot). s.state.wish) own;
      makes =
          ap (λ (s : OwnedSlot). makes_report s.state c.conditions_of-conditions.result) (sym own)
          ∙ sym c.makes_report.ensures ∙ c.if-not-makes_report.false;
    }

pub returns-in_default : goal.returns-in_default
returns-in_default c = λ updates tables view s.
    absurd (never_gone updates tables view c.args.shown.now s c.args.slot c.args.cause
    c.conditions_of-conditions.result c.moment_of.result c.wish-wish.result.now
    (is_made (goal.at.returns-in_default c).After-wish-wish) c.in_default.ensures.value)

pub returns-then-not-tells_changes : goal.returns-then-not-tells_changes
returns-then-not-tells_changes c =
    on_ok c.add_whole.result (λ each updates tables view s.
    each updates tables view s
    ∙ ap (λ (rs : List ReportKind). c.args.made.now ++ rs)
    (whole-made updates tables view c.args.shown.now s c.args.slot c.args.cause
    c.conditions_of-conditions.result c.moment_of.result c.wish-wish.result.now
    (is_made (goal.at.returns-then-not-tells_changes c).After-wish-wish) c.in-Some.members.now
    c.in-Some.ensures.value (sym c.tells_changes.ensures ∙ c.if-not-tells_changes.true)))
    c.add_whole.ensures

pub returns-then-wish : goal.returns-then-wish
returns-then-wish c =
    let shown = c.args.shown.now in
    let members = c.in-Some.members.now in
    let notes = c.noted.result.now in
    let noted = c.noted.ensures ∙ ap (λ (s : OwnedSlot). s.state.noted) c.requires.own in
    let tells = sym c.tells_changes.ensures ∙ c.if-not-tells_changes.false in
    let m = is_made (goal.at.returns-then-wish c).After-wish-wish in
    on_ok c.add_changes.result (λ each updates tables view s.
    each updates tables view s
    (changes-known updates tables view shown s _ _ _ _ _ m members notes c.in-Some.ensures.value
    noted tells c.if-wish.true)
    ∙ ap (λ (rs : List ReportKind). c.args.made.now ++ rs)
    (changes-made updates tables view shown s _ _ _ _ _ m members notes c.in-Some.ensures.value
    noted tells c.if-wish.true))
    c.add_changes.ensures

pub returns-else-wish : goal.returns-else-wish
returns-else-wish c =
    let shown = c.args.shown.now in
    let members = c.in-Some.members.now in
    let notes = c.noted-else-wish.result.now in
    let noted = c.noted-else-wish.ensures ∙ ap (λ (s : OwnedSlot). s.state.noted) c.requires.own in
    let tells = sym c.tells_changes.ensures ∙ c.if-not-tells_changes.false in
    let m = is_made (goal.at.returns-else-wish c).After-wish-wish in
    on_ok c.add_changed.result (λ each updates tables view s.
    each updates tables view s
    ∙ sym (told_some c.args.made.now _ _ (changed-some updates tables view shown s _ _ _ _ _ m
    members notes c.in-Some.ensures.value noted tells))
    ∙ ap (λ (rs : List ReportKind). c.args.made.now ++ rs)
    (changed-made updates tables view shown s _ _ _ _ _ m members notes c.in-Some.ensures.value
    noted tells c.if-wish.false))
    c.add_changed.ensures
