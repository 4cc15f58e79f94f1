use Rattle.std.proofs.Common.{◌≡◌, ◌==◌, ◌||◌, ◌++◌, ◌∷◌, [], List, map, sym, ap, ◌∙◌}
use Rattle.std.specs.List.{list_any}
use Rattle.mms_data.specs.ObjectName.{ObjectName}
use Rattle.mms_data.specs.declared.outcome.Outcome.{Outcome}
use Rattle.transfer_sets.specs.declared.noted.Noted.{Noted}
use Rattle.tase_views.specs.declared.reply.ReportKind.{ReportKind}
use Rattle.tase_views.specs.declared.reply.ReportKind.TheVariants.{Variables}
use Rattle.tase_views.specs.View.{View}
use Rattle.tase_views.specs.Reports.{Told, told_of, members_where, is_variable, noted_of}
use Rattle.node_core.specs.Objects.Found.{TableInForce, offered}
use Rattle.node_core.proofs.OfReplies.ReportsMade.{on_ok, told_names, where-unnoted, mapped-joined}
use Rattle.node_core.proofs.replies.reports.add_part.Goals as goal

pub returns : goal.returns
returns c =
    let o = c.args.occasion in
    let own = offered c.args.shown.now.table in
    let members = c.args.members.now in
    let part = c.args.part.now in
    let names = c.in_ok-names.names in
    let wanted = members_where own 0 (λ place. is_variable) members in
    let told = λ (view : View) (these : List ObjectName).
    told_of own view o.slot o.now o.conditions these in
    let noted = noted_of own [] 0 0 0 members in
    let name_of = λ (t : Told). t.name in
    let outcome_of = λ (t : Told). t.outcome in
    let named : names ≡ wanted = c.in_ok-names.ensures
    ∙ ap (λ (t : TableInForce). members_where (offered t) 0 (λ place object. is_variable object
    || list_any (λ (n : Noted). n.member == place) []) members) c.table.ensures
    ∙ where-unnoted own members in
    on_ok c.push.result (λ pushed updates tables view s some all.
    let all_names = c.in_ok-add_notes.ensures.names all
    ∙ ap (λ (t : TableInForce). names
    ++ map (λ (n : Noted). (noted_of (offered t) [] 0 0 0 members n).name) part) c.table-2.ensures
    ∙ ap (λ (these : List ObjectName). these ++ map (λ (n : Noted). (noted n).name) part)
    (named ∙ sym (told_names own view o.slot o.now o.conditions wanted))
    ∙ mapped-joined name_of noted (told view wanted) part in
    let all_results = c.in_ok-add_notes.ensures.results all
    ∙ ap (λ (t : TableInForce). c.in_ok-results.results
    ++ map (λ (n : Noted). (noted_of (offered t) [] 0 0 0 members n).outcome) part)
    c.table-2.ensures
    ∙ ap (λ (these : List Outcome). these ++ map (λ (n : Noted). (noted n).outcome) part)
    (c.in_ok-results.ensures.value updates tables view s
    ∙ ap (λ (these : List ObjectName). map outcome_of (told view these)) named)
    ∙ mapped-joined outcome_of noted (told view wanted) part in
    pushed ∙ ap (λ (r : ReportKind). c.args.made.now ++ r ∷ []) (c.new.ensures
    ∙ ap (λ (these : List ObjectName). Variables these c.add_notes.new.results) all_names
    ∙ ap (λ (these : List Outcome). Variables
    (map name_of (told view wanted ++ map noted part)) these) all_results))
    c.push.ensures.ok
