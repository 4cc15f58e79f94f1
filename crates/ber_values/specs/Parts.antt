-- Elements with a tag of one octet, and grammars of their contents.
use Rattle.std.specs.Prelude.{◌≡◌, ◌≢◌, ℕ, ◌+◌, ◌/◌, ◌%◌, ◌==◌, Bool, true, false, List, [], ◌∷◌}
use Rattle.std.specs.Prelude.{Option, Some, None, ◌⊎◌, Result, Ok, Err, if◌then◌else◌}
use Rattle.ber_values.specs.declared.fault.BerFault.{BerFault}
use Rattle.ber_values.specs.declared.fault.Why.TheVariants as whys
use Rattle.ber_values.specs.declared.head.Head.{Head}
use Rattle.ber_values.specs.Faults.{fault_at, ◌>>=◌}
use Rattle.ber_values.specs.Reading.{Taken, IsReading}
use Rattle.ber_values.specs.Tags.{tag_with}
use Rattle.ber_values.specs.Extents.{Extent}
use Rattle.ber_values.specs.Heads.{head_of, extent_of}
use Rattle.ber_values.specs.Grammars.{Grammar, taken, gives, map_in, branch_in, has_tag}

-- all octets of an element's contents
pub record Contents (X : Type 0) : Type 1 where
  -- the octets, which stand at this place, are a value's
  pub spells : ℕ → X → List ℕ → Type 0
  -- the first fault of octets that are none's
  pub fault : Head → List ℕ → BerFault → Type 0
  -- reading from the left
  pub reading : Head → List ℕ → Result X BerFault

-- the reading is exact: a value just where the octets are its, else the first fault
abbrev pub IsContentsGrammar : {X : Type 0} → Contents X → Type 0
IsContentsGrammar {X} c = (head : Head) (octets : List ℕ)
    → IsReading X (λ x. c.spells head.body x octets) (c.fault head octets) (c.reading head octets)

-- an element that stood at the front: its head, its contents and the octets after it
pub record Parted : Type 0 where
  pub head : Head
  pub contents : List ℕ
  pub rest : List ℕ

-- whether a tag of one octet is constructed
abbrev pub is_constructed : ℕ → Bool
is_constructed tag = tag / 32 % 2 == 1

-- the element of this tag, behind which this extent stands
abbrev pub parted : ℕ → ℕ → Taken Extent → Parted
parted tag at extent = record {
  head = head_of (taken (tag_with tag (tag % 32) false) (at + 1) []) extent;
  contents = extent.value.contents;
  rest = extent.rest;
}

-- the tag, and an extent
pub record BeginsPart (tag at : ℕ) (octets : List ℕ) (part : Parted) : Type 0 where
  pub after_tag : List ℕ
  pub extent : Taken Extent
  pub tagged : octets ≡ tag ∷ after_tag
  pub extent_spelled : (extent_of (is_constructed tag)).begins (at + 1) after_tag extent
  pub is : part ≡ parted tag at extent

-- no octets, another tag, or an extent that breaks a rule
abbrev pub PartFault : ℕ → ℕ → List ℕ → BerFault → Type 0
PartFault tag at [] f = f ≡ fault_at at whys.Short
PartFault tag at (first ∷ octets) f = ((first ≢ tag) × (f ≡ fault_at at whys.Tag))
    ⊎ ((first ≡ tag) × (extent_of (is_constructed tag)).fault (at + 1) octets f)

-- an element whose tag has been taken, from its length on
unfoldable pub sized_part_in : ℕ → ℕ → List ℕ → Result Parted BerFault
sized_part_in tag at octets = do
  extent ← (extent_of (is_constructed tag)).reading (at + 1) octets
  Ok (parted tag at extent)

-- an element of this tag
unfoldable pub parted_in : ℕ → ℕ → List ℕ → Result Parted BerFault
parted_in tag at [] = Err (fault_at at whys.Short)
parted_in tag at (first ∷ octets) =
    if first == tag then sized_part_in tag at octets else Err (fault_at at whys.Tag)

-- an element of this tag, with such contents
unfoldable pub part_in : {X : Type 0} → ℕ → Contents X → Grammar X
part_in {X} tag c = record {
  begins = λ at octets t. (part : Parted) × BeginsPart tag at octets part
      × ((x : X) × c.spells part.head.body x part.contents
      × (t ≡ taken x part.head.next part.rest));
  fault = λ at octets f. PartFault tag at octets f
      ⊎ ((part : Parted) × BeginsPart tag at octets part × c.fault part.head part.contents f);
  reading = λ at octets. parted_in tag at octets
      >>= λ part. c.reading part.head part.contents
      >>= λ x. Ok (taken x part.head.next part.rest);
}

-- the element of this tag where one stands, else something else
unfoldable pub choose_in : {X : Type 0} → ℕ → Contents X → Grammar X → Grammar X
choose_in tag c other = branch_in (has_tag tag) (part_in tag c) other

-- an element of this tag, if there is one
unfoldable pub maybe_in : {X : Type 0} → ℕ → Contents X → Grammar (Option X)
maybe_in tag c = branch_in (has_tag tag) (map_in Some (part_in tag c)) (gives None)

-- the same contents, and a function of the value
unfoldable pub contents_as : {X Y : Type 0} → (X → Y) → Contents X → Contents Y
contents_as {X} f c = record {
  spells = λ at y octets. (x : X) × c.spells at x octets × (y ≡ f x);
  fault = c.fault;
  reading = λ head octets. c.reading head octets >>= λ x. Ok (f x);
}

-- the contents whose value passes a test
unfoldable pub contents_where : {X : Type 0} → (X → Bool) → Contents X → Contents X
contents_where {X} test c = record {
  spells = λ at y octets. (x : X) × c.spells at x octets × ((test x ≡ true) × (y ≡ x));
  fault = λ head octets f. c.fault head octets f ⊎ ((x : X) × c.spells head.body x octets
      × ((test x ≡ false) × (f ≡ fault_at head.body whys.Value)));
  reading = λ head octets. c.reading head octets
      >>= λ x. if test x then Ok x else Err (fault_at head.body whys.Value);
}

-- no octets are left
abbrev pub end_in : ℕ → List ℕ → Result (Unit {0}) BerFault
end_in at [] = Ok tt
end_in at (first ∷ octets) = Err (fault_at at whys.Tag)

-- one thing, which no octet follows
unfoldable pub whole_in : {X : Type 0} → Grammar X → Grammar X
whole_in {X} g = record {
  begins = λ at octets u. (t : Taken X) × g.begins at octets t × ((t.rest ≡ []) × (u ≡ t));
  fault = λ at octets f. g.fault at octets f
      ⊎ ((t : Taken X) × g.begins at octets t
      × ((t.rest ≢ []) × (f ≡ fault_at t.next whys.Tag)));
  reading = λ at octets. g.reading at octets >>= λ t. end_in t.next t.rest >>= λ u. Ok t;
}

-- contents that are one thing, which no octet follows
unfoldable pub all_in : {X : Type 0} → Grammar X → Contents X
all_in {X} g = record {
  spells = λ at x octets. (t : Taken X) × g.begins at octets t × ((t.rest ≡ []) × (x ≡ t.value));
  fault = λ head octets f. g.fault head.body octets f
      ⊎ ((t : Taken X) × g.begins head.body octets t
      × ((t.rest ≢ []) × (f ≡ fault_at t.next whys.Tag)));
  reading = λ head octets. g.reading head.body octets
      >>= λ t. end_in t.next t.rest >>= λ u. Ok t.value;
}
