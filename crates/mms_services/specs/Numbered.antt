-- The number of a request, read alone.
use Rattle.std.specs.Prelude.{◌≡◌, ℕ, Ok}
use Rattle.ber_values.specs.Faults.{◌>>=◌}
use Rattle.ber_values.specs.Reading.{Taken}
use Rattle.ber_values.specs.Grammars.{Grammar}
use Rattle.ber_values.specs.Parts.{Contents, part_in, whole_in}
use Rattle.mms_services.specs.Pdus.{invoke_in}

-- contents that begin with one thing, whatever follows it
unfoldable pub front_in : {X : Type 0} → Grammar X → Contents X
front_in {X} g = record {
  spells = λ at x octets. (t : Taken X) × g.begins at octets t × (x ≡ t.value);
  fault = λ head octets f. g.fault head.body octets f;
  reading = λ head octets. g.reading head.body octets >>= λ t. Ok t.value;
}

-- one confirmed request, of which the number alone counts
unfoldable pub numbered_request : Grammar ℕ
numbered_request = whole_in (part_in 160 (front_in invoke_in))
