-- Values of presentation contexts (ISO 8825-1, 8.18, EXTERNAL; ISO 8823-1, PDV-list): the transfer
-- syntax, if it is named, the context's id, and the value.
use Rattle.std.specs.Prelude.{ℕ, ◌≤◌, Bool, true, List, ◌++◌, pos, Option, Some, None, ◌==◌}
use Rattle.ber_values.specs.declared.external.External.{External}
use Rattle.ber_values.specs.declared.fault.Span.{Span}
use Rattle.ber_values.specs.Grammars.{then_in, map_in}
use Rattle.ber_values.specs.Parts.{Contents, part_in, maybe_in, contents_where, all_in}
use Rattle.ber_values.specs.Leaves.{unsigned, oid, span}
use Rattle.ber_values.specs.Writing.{written, integer_octets}

abbrev pub external_of : ℕ → Span → External
external_of id body = record { id = id; body = body }

-- whether this is the id that is wanted, where one is
abbrev pub is_wanted : Option ℕ → ℕ → Bool
is_wanted None id = true
is_wanted (Some wanted) id = id == wanted

unfoldable pub external : Option ℕ → Contents External
external wanted = all_in
    (then_in (maybe_in 6 oid) (λ name.
    then_in (part_in 2 (contents_where (is_wanted wanted) unsigned)) (λ id.
    map_in (external_of id) (part_in 160 span))))

-- octets stand between two places
abbrev pub IsSpanWithin : ℕ → ℕ → Span → Type 0
IsSpanWithin at end span = (at ≤ span.from) × ((span.from ≤ span.to) × (span.to ≤ end))

-- the written form, which names no transfer syntax
abbrev pub external_octets : ℕ → List ℕ → List ℕ
external_octets id body = written 2 (integer_octets (pos id)) ++ written 160 body
