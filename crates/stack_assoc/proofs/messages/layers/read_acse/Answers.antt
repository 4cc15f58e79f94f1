use Rattle.acse_assoc.specs.Apdus.{apdu}
use Rattle.stack_assoc.specs.declared.messages.fault.Layer.TheVariants as layers
use Rattle.stack_assoc.specs.Messages.Layers.{octets_at, apdu_at}
use Rattle.stack_assoc.proofs.OfMessages.LayersRead.{layer-read, layer-broken}
use Rattle.stack_assoc.proofs.messages.layers.read_acse.Goals as goal

pub returns-in-Ok-clause-exact : goal.returns-in-Ok-clause-exact
unfolding apdu_at
returns-in-Ok-clause-exact c = layer-read layers.Acse (λ n. n) (apdu c.args.expected) c.args.span.from
    (octets_at c.args.tsdu.now c.args.span) c.in-Ok.apdu c.in_ok-apdu.field-0 c.in-Ok.is
    c.in_ok-apdu.ensures.exact

pub returns-in-Err-clause-exact : goal.returns-in-Err-clause-exact
unfolding apdu_at
returns-in-Err-clause-exact c = layer-broken layers.Acse (λ n. n) (apdu c.args.expected)
    c.args.span.from (octets_at c.args.tsdu.now c.args.span) c.in-Err.fault c.in_ok-apdu.field-0
    c.in-Err.is c.in_ok-apdu.ensures.exact c.fault_of.result c.fault_of.ensures
