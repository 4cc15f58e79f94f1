use Rattle.std.proofs.Common.{◌≡◌, ◌==◌, ◌||◌, ◌++◌, ◌∷◌, [], List, length, map, sym, ap, ◌∙◌}
use Rattle.std.proofs.Common.{arith}
use Rattle.std.specs.List.{list_any}
use Rattle.mms_data.specs.ObjectName.{ObjectName}
use Rattle.mms_data.specs.declared.outcome.Outcome.{Outcome}
use Rattle.transfer_sets.specs.declared.noted.Noted.{Noted}
use Rattle.tase_views.specs.declared.reply.ReportKind.{ReportKind}
use Rattle.tase_views.specs.declared.reply.ReportKind.TheVariants.{Variables}
use Rattle.tase_views.specs.View.{View}
use Rattle.tase_views.specs.Reports.{Told, told_of, members_where, is_variable}
use Rattle.node_core.specs.Objects.Found.{TableInForce, offered}
use Rattle.node_core.proofs.OfReplies.ReportsMade.{on_ok, told_names, told_many, told_some}
use Rattle.node_core.proofs.replies.reports.add_changed.Goals as goal

pub returns : goal.returns
returns c =
    let o = c.args.occasion in
    let own = offered c.args.shown.now.table in
    let names = c.in_ok-names.names in
    let wanted = members_where own 0 (λ place object. is_variable object
    || list_any (λ (n : Noted). n.member == place) c.args.noted.now) c.args.members.now in
    let outcomes = λ (view : View) (these : List ObjectName). map (λ (t : Told). t.outcome)
    (told_of own view o.slot o.now o.conditions these) in
    let named : names ≡ wanted = c.in_ok-names.ensures
    ∙ ap (λ (t : TableInForce). members_where (offered t) 0 (λ place object. is_variable object
    || list_any (λ (n : Noted). n.member == place) c.args.noted.now) c.args.members.now)
    c.table.ensures in
    on_ok c.push.result (λ pushed updates tables view s.
    pushed ∙ ap (λ (r : ReportKind). c.args.made.now ++ r ∷ []) (c.new.ensures
    ∙ ap (λ (results : List Outcome). Variables names results)
    (c.in_ok-results.ensures.value updates tables view s ∙ ap (outcomes view) named)
    ∙ ap (λ (these : List ObjectName). Variables these (outcomes view wanted))
    (named ∙ sym (told_names own view o.slot o.now o.conditions wanted)))
    ∙ told_some c.args.made.now _ _ (omega (
      arith,
      told_many own view o.slot o.now o.conditions
          wanted,
      ap length named,
      c.len.ensures,
      c.if-len-eq0.false,
    )))
    c.push.ensures.ok
