-- The title that a word is has arcs within their limits.
use Rattle.std.proofs.Common.{◌≡◌, ℕ, ◌≤◌, Bool, true, false, cond, leb, List, [], ◌∷◌, All, Option}
use Rattle.std.proofs.Common.{Some, None, refl, subst, ◌==◌}
use Rattle.std.specs.Prelude.{option_and_then}
use Rattle.std.specs.Option.{option_map}
use Rattle.std.specs.List.{slice_split}
use Rattle.std.proofs.lemmas.Bool.{leb-true}
use Rattle.std.proofs.lemmas.List.Elements.{All-nil, All-cons}
use Rattle.plain_text.specs.Words.{each_in}
use Rattle.plain_text.specs.Numbers.{number_in, number_up_to, if_passes}
use Rattle.ber_values.specs.Dotted.{is_oid, arcs_octets, oid_of, arcs_in, dotted_in}
use Rattle.ber_values.specs.declared.object_identifier.TheConstants.{ARC_LIMIT}
use Rattle.bilateral.specs.Words.Words.{IsDottedOid}

abbrev IsArc : ℕ → Type 0
IsArc arc = arc ≤ ARC_LIMIT

arc_small : (read : Option ℕ) (n : ℕ)
    → option_and_then (if_passes (λ k. leb k ARC_LIMIT)) read ≡ Some n → IsArc n
arc_small None n is = absurd cc
arc_small (Some k) n is = passed (leb k ARC_LIMIT) refl is
  where
    passed : (test : Bool) → leb k ARC_LIMIT ≡ test → cond test (Some k) None ≡ Some n → IsArc n
    passed false fails is = absurd cc
    passed true passes is =
        let same : k ≡ n = cc in subst IsArc same (leb-true k ARC_LIMIT passes)

arcs_small : (words : List (List ℕ)) (arcs : List ℕ)
    → each_in (number_up_to ARC_LIMIT) words ≡ Some arcs → All IsArc arcs
arcs_small [] arcs is = let same : [] ≡ arcs = cc in subst (All IsArc) same (All-nil IsArc)
arcs_small (word ∷ words) arcs is =
    first (number_up_to ARC_LIMIT word) (each_in (number_up_to ARC_LIMIT) words)
    (arc_small (number_in word)) (arcs_small words) is
  where
    first : (read : Option ℕ) (later : Option (List ℕ))
        → ((n : ℕ) → read ≡ Some n → IsArc n)
        → ((more : List ℕ) → later ≡ Some more → All IsArc more)
        → option_and_then (λ item. option_map (λ items. item ∷ items) later) read ≡ Some arcs
        → All IsArc arcs
    first None later small rest is = absurd cc
    first (Some n) None small rest is = absurd cc
    first (Some n) (Some more) small rest is =
        let same : n ∷ more ≡ arcs = cc in
        subst (All IsArc) same (All-cons IsArc n more (small n refl) (rest more refl))

oid_dotted : (arcs : Option (List ℕ)) (octets : List ℕ)
    → ((own : List ℕ) → arcs ≡ Some own → All IsArc own)
    → option_and_then oid_of arcs ≡ Some octets → IsDottedOid octets
oid_dotted None octets small is = absurd cc
oid_dotted (Some arcs) octets small is = passed (is_oid arcs) refl is
  where
    passed : (test : Bool) → is_oid arcs ≡ test
        → cond test (Some (arcs_octets arcs)) None ≡ Some octets → IsDottedOid octets
    passed false fails is = absurd cc
    passed true passes is = record {
      arcs = arcs;
      is = passes;
      small = small arcs refl;
      same = cc;
    }

-- the object identifier that a word is
pub dotted_lawful : (word octets : List ℕ) → dotted_in word ≡ Some octets → IsDottedOid octets
dotted_lawful word octets is =
    oid_dotted (arcs_in word) octets (arcs_small (slice_split (λ octet. octet == 46) word)) is
