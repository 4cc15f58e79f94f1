-- Contents behind a tag as code holds them.
use Rattle.std.specs.Prelude.{◌≡◌, ℕ, ◌+◌, ◌^◌, ◌<◌, ◌≤◌, Bool, false, List, length}
use Rattle.ber_values.specs.declared.extent.Extent.{Extent as Seen}
use Rattle.ber_values.specs.Reading.{Taken}
use Rattle.ber_values.specs.Extents.{Extent}

-- contents without where they lie in memory
abbrev pub extent_seen : Seen → Taken Extent
extent_seen extent = record {
  value = record { body = extent.body; end = extent.end; contents = extent.contents.now };
  next = extent.next;
  rest = extent.rest.now;
}

-- the places of contents behind a tag, which is constructed or not
pub record IsExtentWithin (constructed : Bool) (at : ℕ) (octets : List ℕ) (extent : Taken Extent)
    : Type 0 where
  pub start : at < extent.value.body
  pub end : extent.value.end ≡ extent.value.body + length extent.value.contents
  pub after : extent.value.end ≤ extent.next
  pub rest : extent.next + length extent.rest ≡ at + length octets
  pub bounded : constructed ≡ false → length extent.value.contents < 2 ^ 32
