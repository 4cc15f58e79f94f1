use Rattle.std.proofs.Common.{◌≡◌, false, bytes_eq, rules, sym, ◌∙◌}
use Rattle.std.specs.Prelude.{codes}
use Rattle.node_core.proofs.OfObjects.OwnObjects.{reports_alike}
use Rattle.node_core.proofs.objects.naming.special_of_domain.Goals as goal

pub returns-else-eq : goal.returns-else-eq
returns-else-eq c = λ table.
    let id : bytes_eq (codes "Bilateral_Table_ID") c.args.item.now ≡ false = search rules in
    rw id (c.report_variable.ensures table ∙ sym (reports_alike c.args.item.now))
