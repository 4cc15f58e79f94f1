use Rattle.std.proofs.Common.{◌≡◌, ℕ, ◌-◌, List, drop, Result, Ok, Err, IfOk}
use Rattle.ber_values.specs.declared.fault.BerFault.{BerFault}
use Rattle.ber_values.specs.declared.part.Part.{Part}
use Rattle.ber_values.specs.Faults.{Gives}
use Rattle.ber_values.specs.Parts.{parted_in}
use Rattle.ber_values.specs.PartOf.{parted_of}
use Rattle.ber_values.proofs.Grammars.{part_rest-read}
use Rattle.ber_values.proofs.part.take_part.Goals as goal

after_of : (tag at : ℕ) (octets : List ℕ) (r : Result Part BerFault)
    → Gives parted_of r (parted_in tag at octets)
    → IfOk r (λ part. part.rest.now ≡ drop (part.head.next - at) octets)
after_of tag at octets (Ok part) e = part_rest-read tag at octets (parted_of part) e
after_of tag at octets (Err f) e = tt

pub returns-clause-after : goal.returns-clause-after
returns-clause-after c =
    after_of c.args.tag c.args.at c.args.octets.now c.take_tagged.result c.take_tagged.ensures.exact
