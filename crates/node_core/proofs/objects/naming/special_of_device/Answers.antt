use Rattle.std.proofs.Common.{◌≡◌, false, bytes_eq, rules}
use Rattle.std.specs.Prelude.{codes}
use Rattle.node_core.proofs.objects.naming.special_of_device.Goals as goal

pub returns-else-eq-2 : goal.returns-else-eq-2
returns-else-eq-2 c = λ table.
    let version : bytes_eq (codes "TASE2_Version") c.args.item.now ≡ false = search rules in
    let features : bytes_eq (codes "Supported_Features") c.args.item.now ≡ false = search rules in
    rw (version, features) (c.report_variable.ensures table)
