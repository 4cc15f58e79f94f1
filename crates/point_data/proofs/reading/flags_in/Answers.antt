use Rattle.std.proofs.Common.{◌∙◌, ap, arith}
use Rattle.point_data.specs.Shown.{octet_bits}
use Rattle.point_data.proofs.reading.flags_in.Goals as goal

pub returns-in-Some-default-clause-shown : goal.returns-in-Some-default-clause-shown
returns-in-Some-default-clause-shown c =
    λ carries v cov sample kind shown.
    c.flags_of.ensures.shown 0 v.flags sample.flags
    (c.in-Some-default.ensures.shown v cov shown ∙ ap octet_bits (omega arith))
