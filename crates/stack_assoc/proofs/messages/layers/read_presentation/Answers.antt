use Rattle.presentation_profile.specs.Ppdus.{ppdu}
use Rattle.stack_assoc.specs.declared.messages.fault.Layer.TheVariants as layers
use Rattle.stack_assoc.specs.Messages.Layers.{octets_at, ppdu_at}
use Rattle.stack_assoc.proofs.OfMessages.LayersRead.{layer-read, layer-broken}
use Rattle.stack_assoc.proofs.messages.layers.read_presentation.Goals as goal

pub returns-in-Ok-clause-exact : goal.returns-in-Ok-clause-exact
unfolding ppdu_at
returns-in-Ok-clause-exact c = layer-read layers.Presentation (λ n. n) (ppdu c.args.expected) c.args.span.from
    (octets_at c.args.tsdu.now c.args.span) c.in-Ok.ppdu c.in_ok-ppdu.field-0 c.in-Ok.is
    c.in_ok-ppdu.ensures.exact

pub returns-in-Err-clause-exact : goal.returns-in-Err-clause-exact
unfolding ppdu_at
returns-in-Err-clause-exact c = layer-broken layers.Presentation (λ n. n) (ppdu c.args.expected)
    c.args.span.from (octets_at c.args.tsdu.now c.args.span) c.in-Err.fault c.in_ok-ppdu.field-0
    c.in-Err.is c.in_ok-ppdu.ensures.exact c.fault_of.result c.fault_of.ensures
