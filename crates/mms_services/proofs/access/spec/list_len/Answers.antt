use Rattle.std.proofs.Common.{length, ap, ◌∙◌}
use Rattle.ber_values.specs.Lengths.{capped}
use Rattle.ber_values.proofs.Capped.{capped-written}
use Rattle.mms_services.specs.Access.Specifications.{variables_octets, spec_octets}
use Rattle.mms_services.proofs.access.spec.list_len.Goals as goal

pub returns : goal.returns
unfolding spec_octets
returns c =
    c.part_len.ensures
    ∙ capped-written 160 c.variables_len.result (variables_octets c.args.names.now)
    (c.variables_len.ensures
    ∙ ap (λ xs. capped (length (variables_octets xs))) c.as_slice.ensures)
