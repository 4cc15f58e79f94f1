-- Elements of the context class whose numbers rise, as those of a sequence do.
use Rattle.std.specs.Prelude.{◌≡◌, ℕ, zero, suc, ◌+◌, ◌-◌, Bool, not, ◌&&◌, List, drop}
use Rattle.std.specs.Prelude.{Option, Some, None, ◌⊎◌, Result, Ok, Err, nat_le, ◌==◌}
use Rattle.ber_values.specs.declared.fault.BerFault.{BerFault}
use Rattle.ber_values.specs.declared.tag.Tag.{Tag}
use Rattle.ber_values.specs.Faults.{◌>>=◌}
use Rattle.ber_values.specs.Reading.{Taken, Begins}
use Rattle.ber_values.specs.Tags.{SpellsTag, TagFault, tag_in}
use Rattle.ber_values.specs.Grammars.{Grammar, taken, gives, then_in, branch_in, first_is}
use Rattle.ber_values.specs.Grammars.{refused, by_length, is_context}
use Rattle.ber_values.specs.Passing.{skip}
use Rattle.ber_values.specs.Parts.{Contents, part_in, maybe_in}

-- a grammar that depends on the tag at the front, and takes this tag itself
unfoldable pub by_tag : {X : Type 0} → (Tag → Grammar X) → Grammar X
by_tag {X} g = record {
  begins = λ at octets t. (tag : Taken Tag) × Begins Tag SpellsTag at octets tag
      × (g tag.value).begins at octets t;
  fault = λ at octets f. TagFault at octets f
      ⊎ ((tag : Taken Tag) × Begins Tag SpellsTag at octets tag
      × (g tag.value).fault at octets f);
  reading = λ at octets. tag_in at octets >>= λ tag. (g tag.value).reading at octets;
}

-- one of two grammars
abbrev pub either_in : {X : Type 0} → Bool → Grammar X → Grammar X → Grammar X
either_in test one other = branch_in (λ octets. test) one other

-- whether this is the constructed tag of the context class with this number, in one octet
abbrev pub is_tag_numbered : ℕ → Tag → Bool
is_tag_numbered number tag = tag.constructed && not tag.long_form && (tag.number == number)

-- whether an element may be passed over before the one of a number: its own number is from `least`
-- to that one, and it isn't that element
abbrev pub may_pass : ℕ → ℕ → Tag → Bool
may_pass number least tag =
    nat_le least tag.number && nat_le tag.number number && not (is_tag_numbered number tag)

-- passes over at most so many elements, whose numbers rise from `least` to `number`; the least
-- number that may follow them
unfoldable pub rising_within : ℕ → ℕ → ℕ → Grammar ℕ
rising_within number zero least = gives least
rising_within number (suc room) least =
    branch_in (first_is is_context)
    (by_tag (λ tag. either_in (may_pass number least tag)
    (then_in skip (λ u. rising_within number room (tag.number + 1))) (gives least)))
    (gives least)

-- all of them
unfoldable pub rising_in : ℕ → ℕ → Grammar ℕ
rising_in number least = by_length (λ room. rising_within number room least)

-- the element of a number, where its number may still follow
unfoldable pub named_in : {X : Type 0} → ℕ → Contents X → ℕ → Grammar X
named_in number c least = either_in (nat_le least number) (part_in (160 + number) c) refused

-- the same, if there is one
unfoldable pub perhaps_in : {X : Type 0} → ℕ → Contents X → ℕ → Grammar (Option X)
perhaps_in number c least = either_in (nat_le least number) (maybe_in (160 + number) c) (gives None)

-- the least number that may follow an element of a number, or what may follow in its absence
abbrev pub least_after : {X : Type 0} → ℕ → ℕ → Option X → ℕ
least_after number least None = least
least_after number least (Some x) = number + 1

-- what was read, if anything was
abbrev pub read_of : {X : Type 0} → Result X BerFault → Option X
read_of (Ok x) = Some x
read_of (Err f) = None

-- contents, if they are those of a value: what else stands there counts as none
unfoldable pub attempt : {X : Type 0} → Contents X → Contents (Option X)
attempt {X} c = record {
  spells = λ at v octets. ((x : X) × c.spells at x octets × (v ≡ Some x))
      ⊎ (((x : X) → c.spells at x octets → ⊥) × (v ≡ None));
  fault = λ head octets f. ⊥;
  reading = λ head octets. Ok (read_of (c.reading head octets));
}

-- one more element was passed over, or none may be, or its head has a fault
abbrev pub PassesNext : ℕ → ℕ → ℕ → List ℕ → Result (Option (ℕ × ℕ)) BerFault → Type 0
PassesNext number least at octets (Ok None) = (room : ℕ)
    → (rising_within number (suc room) least).reading at octets ≡ Ok (taken least at octets)
PassesNext number least at octets (Ok (Some x)) = (room : ℕ)
    → (rising_within number (suc room) least).reading at octets
    ≡ (rising_within number room x.0).reading x.1 (drop (x.1 - at) octets)
PassesNext number least at octets (Err f) = (room : ℕ)
    → (rising_within number (suc room) least).reading at octets ≡ Err f
