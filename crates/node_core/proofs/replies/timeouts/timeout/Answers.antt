use Rattle.std.proofs.Common.{◌++◌, ◌∷◌, [], List, FitsSigned, w16, w64, rules, refl, ap, ◌∙◌}
use Rattle.std.proofs.Common.{arith}
use Rattle.std.proofs.lemmas.Int.{to_z-of_z}
use Rattle.std.specs.Prelude.{codes}
use Rattle.mms_data.specs.Datum.{Datum, integer}
use Rattle.mms_data.specs.ObjectName.{ObjectName}
use Rattle.mms_data.specs.declared.outcome.Outcome.{Outcome}
use Rattle.mms_data.specs.declared.outcome.Outcome.TheVariants.{Good}
use Rattle.tase_views.specs.declared.reply.ReportKind.TheVariants.{Variables}
use Rattle.tase_views.specs.OwnTables.{OwnTable, domain_name}
use Rattle.tase_views.specs.View.{held}
use Rattle.node_core.specs.Objects.Found.{TableInForce, offered}
use Rattle.node_core.proofs.OfObjects.DeviceNames.{IsIdentifier-end}
use Rattle.node_core.proofs.replies.timeouts.timeout.Goals as goal

pub name_with-requires : goal.name_with-requires
name_with-requires c =
    (IsIdentifier-end c.args.row.now.name (codes "_TIMEOUT") c.requires.named (omega arith) refl).1

pub returns : goal.returns
returns c = λ updates tables view s.
    let table = held tables view in
    let item = c.in_ok-item.item in
    let short : FitsSigned w16 c.args.row.now.checkback = search rules in
    let fits : FitsSigned w64 c.from.result = search rules in
    c.new.ensures
    ∙ ap (λ (names : List ObjectName). Variables names c.push-2.new.self)
    (c.in_ok-push.ensures.ok
    ∙ ap (λ (names : List ObjectName). names ++ c.in_ok-own_name.field-0 ∷ []) c.new-names.ensures
    ∙ ap (λ (name : ObjectName). name ∷ []) (c.in_ok-own_name.ensures
    ∙ ap (λ (t : TableInForce). domain_name (offered t) item) c.table.ensures
    ∙ ap (λ (t : OwnTable). domain_name t item) s.table
    ∙ ap (domain_name table) c.in_ok-item.ensures))
    ∙ ap (λ (results : List Outcome). Variables (domain_name table (c.args.row.now.name
    ++ codes "_TIMEOUT") ∷ []) results)
    (c.in_ok-push-2.ensures.ok
    ∙ ap (λ (results : List Outcome). results ++ Good c.new-number.result ∷ [])
    c.new-results.ensures
    ∙ ap (λ (number : Datum). Good number ∷ []) (c.new-number.ensures
    ∙ ap integer (to_z-of_z w64 c.from.result fits ∙ c.from.ensures
    ∙ to_z-of_z w16 c.args.row.now.checkback short)))
