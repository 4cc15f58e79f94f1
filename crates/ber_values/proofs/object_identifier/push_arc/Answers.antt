use Rattle.std.proofs.Common.{arith, ◌≡◌, ◌++◌, ap, length, length-append}
use Rattle.std.proofs.lemmas.Grind.{common_steps}
use Rattle.ber_values.specs.Dotted.{base_128}
use Rattle.ber_values.proofs.DottedOctets.{length-base_128-le}
use Rattle.ber_values.proofs.object_identifier.push_arc.Goals as goal

pub returns-clause-sized : goal.returns-clause-sized
returns-clause-sized c =
    let written : c.push.new.self.items ≡ c.args.out.now.items
    ++ base_128 c.args.arc = grind (arith, common_steps) in
    omega (
      arith,
      ap length written,
      length-append c.args.out.now.items
          (base_128 c.args.arc),
      length-base_128-le c.args.arc c.ranges.arc.fits,
    )
