-- Elements as code holds them.
use Rattle.std.specs.Prelude.{◌≡◌, ℕ, ◌+◌, ◌^◌, ◌<◌, ◌≤◌, false, List, length}
use Rattle.ber_values.specs.declared.part.Part.{Part}
use Rattle.ber_values.specs.Parts.{Parted, is_constructed}

-- an element without where it lies in memory
abbrev pub parted_of : Part → Parted
parted_of part = record {
  head = part.head;
  contents = part.contents.now;
  rest = part.rest.now;
}

-- the places of an element of this tag that stood at the front of octets
pub record IsPartWithin (tag at : ℕ) (octets : List ℕ) (part : Parted) : Type 0 where
  pub after_head : at + 2 ≤ part.head.body
  pub end : part.head.end ≡ part.head.body + length part.contents
  pub after : part.head.end ≤ part.head.next
  pub rest : part.head.next + length part.rest ≡ at + length octets
  pub bounded : is_constructed tag ≡ false → length part.contents < 2 ^ 32

-- the same, of octets that stood behind its tag, whose place this was
pub record IsPartBehind (tag at : ℕ) (octets : List ℕ) (part : Parted) : Type 0 where
  pub after_head : at + 2 ≤ part.head.body
  pub end : part.head.end ≡ part.head.body + length part.contents
  pub after : part.head.end ≤ part.head.next
  pub rest : part.head.next + length part.rest ≡ at + 1 + length octets
  pub bounded : is_constructed tag ≡ false → length part.contents < 2 ^ 32
