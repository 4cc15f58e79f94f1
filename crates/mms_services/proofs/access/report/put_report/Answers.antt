use Rattle.ber_values.specs.Writing.{written}
use Rattle.ber_values.proofs.Pieces.{first-few, listed-few, listed-joined}
use Rattle.mms_services.specs.Access.Specifications.{spec_octets}
use Rattle.mms_services.specs.Access.Reads.{outcomes_octets}
use Rattle.mms_services.specs.Access.Reports.{report_octets}
use Rattle.mms_services.proofs.access.report.put_report.Goals as goal

pub put_spec-requires : goal.put_spec-requires
unfolding report_octets
put_spec-requires c =
    first-few (spec_octets c.args.report.now.spec) (written 160 (outcomes_octets c.args.report.now.results))
    c.requires.bounded

pub put_outcomes_part-requires-clause-bounded : goal.put_outcomes_part-requires-clause-bounded
unfolding report_octets
put_outcomes_part-requires-clause-bounded c =
    listed-few (λ xs. written 160 (outcomes_octets xs)) (spec_octets c.args.report.now.spec)
    c.as_slice.ensures c.requires.bounded

pub returns-clause-ok : goal.returns-clause-ok
unfolding report_octets
returns-clause-ok c =
    listed-joined (λ xs. written 160 (outcomes_octets xs)) c.args.out.now.items
    (spec_octets c.args.report.now.spec) c.as_slice.ensures c.in_ok-put_spec.ensures.ok
    c.in_ok-put_outcomes_part.ensures.ok
