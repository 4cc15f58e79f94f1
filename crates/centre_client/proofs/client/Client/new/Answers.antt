use Rattle.std.proofs.Common.{Result, Ok, Err, sym, ap, subst, ◌∙◌}
use Rattle.bilateral.specs.Rows.{CentreRows}
use Rattle.centre_client.specs.declared.fault.ScriptFault.{ScriptFault}
use Rattle.centre_client.specs.declared.script.Script.{Script}
use Rattle.centre_client.specs.Scripts.{HasScriptFault, IsScriptText}
use Rattle.centre_client.proofs.client.Client.new.Goals as goal

abbrev fault_or : ScriptFault → Result Script ScriptFault → ScriptFault
fault_or fault (Ok script) = fault
fault_or fault (Err other) = other

pub returns-in_ok-client-in-Ok-clause-fault : goal.returns-in_ok-client-in-Ok-clause-fault
returns-in_ok-client-in-Ok-clause-fault c = λ fault h.
    let e = sym c.in-Ok.is
    ∙ c.in_ok-script.ensures.fault fault
    (subst (λ (rows : CentreRows). HasScriptFault rows c.args.script.now fault)
    (sym c.deref-tables.ensures) h) in
    absurd (cc e)

pub returns-in-Err-clause-fault : goal.returns-in-Err-clause-fault
returns-in-Err-clause-fault c = λ fault h.
    let e = sym c.in-Err.is
    ∙ c.in_ok-script.ensures.fault fault
    (subst (λ (rows : CentreRows). HasScriptFault rows c.args.script.now fault)
    (sym c.deref-tables.ensures) h) in
    ap (λ (fault : ScriptFault). Err fault)
    (ap (λ (r : Result Script ScriptFault). fault_or c.in-Err.fault r) e)

pub returns-in_err-client-in-Ok-clause-memory : goal.returns-in_err-client-in-Ok-clause-memory
returns-in_err-client-in-Ok-clause-memory c = λ lack.
    subst (λ (rows : CentreRows). IsScriptText rows c.args.script.now) c.deref-tables.ensures
    (record {
      script = c.in-Ok.script;
      spelled = rw c.in-Ok.is at c.in_ok-script.ensures.found;
    })
