use Rattle.std.proofs.Common.{length, sym, ap, ◌∙◌}
use Rattle.ber_values.specs.Lengths.{capped}
use Rattle.ber_values.proofs.Capped.{capped-written}
use Rattle.mms_services.specs.Access.Specifications.{spec_octets}
use Rattle.mms_services.specs.Access.Reads.{echoed_octets}
use Rattle.mms_services.proofs.access.read.echoed_len.Goals as goal

pub returns-in-None : goal.returns-in-None
unfolding echoed_octets
returns-in-None c = ap (λ s. capped (length (echoed_octets s))) (sym c.in-None.is)

pub returns-in-Some : goal.returns-in-Some
unfolding echoed_octets
returns-in-Some c =
    c.part_len.ensures
    ∙ capped-written 160 c.spec_len.result (spec_octets c.in-Some.spec) c.spec_len.ensures
    ∙ ap (λ s. capped (length (echoed_octets s))) (sym c.in-Some.is)
