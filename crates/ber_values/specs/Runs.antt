-- Elements one behind another, whatever their tags and contents, and runs of them.
use Rattle.std.specs.Prelude.{◌≡◌, ℕ, zero, suc, ◌+◌, Bool, true, false, List, [], ◌∷◌, ◌++◌}
use Rattle.std.specs.Prelude.{length}
use Rattle.std.specs.Prelude.{All, flat_map, ◌⊎◌}
use Rattle.ber_values.specs.declared.extent.TheConstants.{MOST_CHAINED}
use Rattle.ber_values.specs.declared.tag.Tag.{Tag}
use Rattle.ber_values.specs.declared.fault.BerFault.{BerFault}
use Rattle.ber_values.specs.Reading.{Taken}
use Rattle.ber_values.specs.Tags.{SpellsTag, SpellsLength}
use Rattle.ber_values.specs.Extents.{is_element}
use Rattle.ber_values.specs.Heads.{HeadFault}
use Rattle.ber_values.specs.Grammars.{first_is}

-- an element: its tag, the octets of the tag, those that stand for its length, its contents, and
-- the octets that end these, where no length says how many they are
pub record AnyElement : Type 0 where
  pub tag : Tag
  pub tagged : List ℕ
  pub sized : List ℕ
  pub contents : List ℕ
  pub closing : List ℕ

abbrev pub element_octets : AnyElement → List ℕ
element_octets e = e.tagged ++ (e.sized ++ (e.contents ++ e.closing))

-- the octets of elements, one behind another
abbrev pub elements_octets : List AnyElement → List ℕ
elements_octets es = flat_map element_octets es

-- the first octet of its tag passes a test
abbrev pub HasPassingTag : (ℕ → Bool) → AnyElement → Type 0
HasPassingTag skips e = first_is skips e.tagged ≡ true

-- the first octets spell the tag; behind one that is constructed or not such octets may stand for a
-- length, as contents and as their end
pub record IsElementBy (Behind : Bool → List ℕ → List ℕ → List ℕ → Type 0) (e : AnyElement)
    : Type 0 where
  pub tag : SpellsTag e.tag e.tagged
  pub behind : Behind e.tag.constructed e.sized e.contents e.closing

-- what may stand behind a tag: how many octets the contents are, and the contents; or, behind one
-- that is constructed, 80, elements of which none begins with 00, and 00 00, at most so many of
-- these in a chain
abbrev pub StandsBehind : ℕ → Bool → List ℕ → List ℕ → List ℕ → Type 0
StandsBehind zero constructed sized contents closing =
    SpellsLength (length contents) sized × (closing ≡ [])
StandsBehind (suc room) constructed sized contents closing =
    (SpellsLength (length contents) sized × (closing ≡ []))
    ⊎ ((constructed ≡ true) × (run : List AnyElement)
    × All (IsElementBy (StandsBehind room)) run × All (HasPassingTag is_element) run
    × (sized ≡ 128 ∷ []) × (contents ≡ elements_octets run) × (closing ≡ 0 ∷ 0 ∷ []))

-- an element whose octets are as the standard has them, with at most sixteen in a chain
abbrev pub IsSoundElement : AnyElement → Type 0
IsSoundElement e = IsElementBy (StandsBehind MOST_CHAINED) e

-- octets begin with these elements, each of which passes a test
pub record BeginsPassed (skips : ℕ → Bool) (octets : List ℕ) (run : List AnyElement)
    (rest : List ℕ) : Type 0 where
  pub sound : All IsSoundElement run
  pub parts : octets ≡ elements_octets run ++ rest
  pub passed : All (HasPassingTag skips) run

-- and behind them is the end, or an octet that doesn't pass
abbrev pub BeginsRun : (ℕ → Bool) → List ℕ → List AnyElement → List ℕ → Type 0
BeginsRun skips octets run rest =
    BeginsPassed skips octets run rest × (first_is skips rest ≡ false)

-- octets, of which the first has the place at, begin with a run that ends where this stands
abbrev pub TakesRun : (ℕ → Bool) → ℕ → List ℕ → Taken (Unit {0}) → Type 0
TakesRun skips at octets t = (run : List AnyElement) × BeginsRun skips octets run t.rest
    × (t.next ≡ at + length (elements_octets run))

-- behind elements that pass stands one that does too, whose head has this first fault
abbrev pub BreaksRun : (ℕ → Bool) → ℕ → List ℕ → BerFault → Type 0
BreaksRun skips at octets f = (run : List AnyElement) × (rest : List ℕ)
    × BeginsPassed skips octets run rest × (first_is skips rest ≡ true)
    × HeadFault (at + length (elements_octets run)) rest f
