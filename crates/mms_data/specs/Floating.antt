-- Floating-point numbers as contents octets (ISO 9506-2, FloatingPoint).
use Rattle.std.specs.Prelude.{◌≡◌, ◌≢◌, ℕ, List, ◌∷◌, length, drop, slice_index, Result}
use Rattle.std.specs.Prelude.{◌==◌}
use Rattle.ber_values.specs.declared.fault.BerFault.{BerFault}
use Rattle.ber_values.specs.declared.head.Head.{Head}
use Rattle.ber_values.specs.Contents.{HasLength, has_length, ContentsFault, contents_in}
use Rattle.ber_values.specs.Parts.{Contents}

-- a floating-point number: eight exponent bits, and the four octets of its single format
abbrev pub SpellsReal : List ℕ → List ℕ → Type 0
SpellsReal value octets = (octets ≡ 8 ∷ value) × (length value ≡ 4)

unfoldable pub real_in : Head → List ℕ → Result (List ℕ) BerFault
real_in head octets =
    contents_in (has_length 5 5 octets) (slice_index octets 0 == 8) (drop 1 octets) head

unfoldable pub floating : Contents (List ℕ)
floating = record {
  spells = λ at. SpellsReal;
  fault = λ head octets. ContentsFault (HasLength 5 5 octets) (slice_index octets 0 ≢ 8) head;
  reading = real_in;
}
