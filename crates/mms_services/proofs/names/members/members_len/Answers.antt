use Rattle.std.proofs.Common.{length, ap, ◌∙◌}
use Rattle.ber_values.specs.Lengths.{capped}
use Rattle.ber_values.proofs.Capped.{capped-written}
use Rattle.mms_services.specs.Access.Specifications.{variables_octets}
use Rattle.mms_services.proofs.names.members.members_len.Goals as goal

pub returns-clause-value : goal.returns-clause-value
returns-clause-value c tag =
    c.part_len.ensures
    ∙ capped-written tag c.variables_len.result (variables_octets c.args.members.now)
    (c.variables_len.ensures
    ∙ ap (λ xs. capped (length (variables_octets xs))) c.as_slice.ensures)
