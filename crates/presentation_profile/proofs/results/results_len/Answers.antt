use Rattle.std.proofs.Common.{flat_map, length, ap, ◌∙◌, arith}
use Rattle.ber_values.proofs.Capped.{element-sized, element-few}
use Rattle.presentation_profile.specs.Written.{result_octets, results_octets}
use Rattle.presentation_profile.proofs.results.results_len.Goals as goal

pub returns-clause-value : goal.returns-clause-value
unfolding results_octets
returns-clause-value c =
    element-sized 165 c.each_len.result c.part_len.result (flat_map result_octets c.args.results.now)
    (c.each_len.ensures.value ∙ ap (λ xs. length (flat_map result_octets xs)) c.as_slice.ensures)
    c.part_len.ensures (omega (arith, c.each_len.ensures.few))

pub returns-clause-few : goal.returns-clause-few
returns-clause-few c =
    omega (
      arith,
      element-few c.each_len.result c.part_len.result c.part_len.ensures,
      c.each_len.ensures.few,
    )
