-- Heads: a tag, and how far the contents behind it go.
use Rattle.std.specs.Prelude.{◌≡◌, ℕ, zero, suc, ◌+◌, ◌-◌, ◌^◌, ◌<◌, ◌≤◌, Bool, false, List, drop}
use Rattle.std.specs.Prelude.{◌⊎◌, Result, Ok}
use Rattle.ber_values.specs.declared.extent.TheConstants.{MOST_CHAINED}
use Rattle.ber_values.specs.declared.fault.BerFault.{BerFault}
use Rattle.ber_values.specs.declared.tag.Tag.{Tag}
use Rattle.ber_values.specs.declared.head.Head.{Head}
use Rattle.ber_values.specs.Faults.{◌>>=◌}
use Rattle.ber_values.specs.Reading.{Taken, Begins}
use Rattle.ber_values.specs.Tags.{SpellsTag, TagFault, tag_in}
use Rattle.ber_values.specs.Grammars.{Grammar, taken, branch_in}
use Rattle.ber_values.specs.Extents.{Extent, definite, indefinite, is_indefinite}

-- the head of a tag and of what stands behind it
abbrev pub head_of : Taken Tag → Taken Extent → Head
head_of tag extent =
    record {
      class = tag.value.class;
      constructed = tag.value.constructed;
      number = tag.value.number;
      long_form = tag.value.long_form;
      length_at = tag.next;
      body = extent.value.body;
      end = extent.value.end;
      next = extent.next;
    }

-- the octets from a place on begin with a tag and an extent, which these grammars tell for a tag
-- that is constructed or not
pub record SpellsHeadBy (extents : Bool → Grammar Extent) (at : ℕ) (octets : List ℕ) (head : Head)
    : Type 0 where
  pub tag : Taken Tag
  pub extent : Taken Extent
  pub tag_spelled : Begins Tag SpellsTag at octets tag
  pub extent_spelled : (extents tag.value.constructed).begins tag.next tag.rest extent
  pub is : head ≡ head_of tag extent

-- a tag is spelled, and what stands behind it breaks a rule
pub record FaultAfterTag (extents : Bool → Grammar Extent) (at : ℕ) (octets : List ℕ)
    (f : BerFault) : Type 0 where
  pub tag : Taken Tag
  pub tag_spelled : Begins Tag SpellsTag at octets tag
  pub breaks : (extents tag.value.constructed).fault tag.next tag.rest f

abbrev pub HeadFaultBy : (Bool → Grammar Extent) → ℕ → List ℕ → BerFault → Type 0
HeadFaultBy extents at octets f = TagFault at octets f ⊎ FaultAfterTag extents at octets f

-- reading a head from the left
unfoldable pub head_by : (Bool → Grammar Extent) → ℕ → List ℕ → Result Head BerFault
head_by extents at octets = do
  tag ← tag_in at octets
  extent ← (extents tag.value.constructed).reading tag.next tag.rest
  Ok (head_of tag extent)

-- one element of any tag, with a sound head and whatever contents
unfoldable pub element_by : (Bool → Grammar Extent) → Grammar (Unit {0})
element_by extents = record {
  begins = λ at octets u. (head : Head) × SpellsHeadBy extents at octets head
      × (u ≡ taken tt head.next (drop (head.next - at) octets));
  fault = HeadFaultBy extents;
  reading = λ at octets. head_by extents at octets
      >>= λ head. Ok (taken tt head.next (drop (head.next - at) octets));
}

-- contents behind a tag that is constructed or not, where at most so many values that end
-- themselves stand in a chain, each a direct element of the one before
unfoldable pub extent_within : ℕ → Bool → Grammar Extent
extent_within zero constructed = definite
extent_within (suc room) constructed =
    branch_in (is_indefinite constructed) (indefinite (element_by (extent_within room))) definite

-- at most sixteen
unfoldable pub extent_of : Bool → Grammar Extent
extent_of = extent_within MOST_CHAINED

-- the octets from a place on begin with a head, and go on for as long as it says
abbrev pub SpellsHead : ℕ → List ℕ → Head → Type 0
SpellsHead = SpellsHeadBy extent_of

-- the first fault of octets that don't begin with a head
abbrev pub HeadFault : ℕ → List ℕ → BerFault → Type 0
HeadFault = HeadFaultBy extent_of

-- the head at the front
unfoldable pub head_in : ℕ → List ℕ → Result Head BerFault
head_in = head_by extent_of

-- the places of a head in a container
pub record IsHeadWithin (at end : ℕ) (head : Head) : Type 0 where
  pub after_tag : at < head.length_at
  pub after_length : head.length_at < head.body
  pub order : head.body ≤ head.end
  pub after : head.end ≤ head.next
  pub stop : head.next ≤ end
  pub bounded : head.constructed ≡ false → head.end < head.body + 2 ^ 32
