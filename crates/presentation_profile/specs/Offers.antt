-- Presentation contexts that a connect offers (ISO 8823-1, Presentation-context-definition-list).
use Rattle.std.specs.Prelude.{◌≡◌, ℕ, ◌-◌, Bool, List, [], ◌∷◌, drop, Result, Ok, Err}
use Rattle.ber_values.specs.declared.fault.BerFault.{BerFault}
use Rattle.std.specs.List.{list_any}
use Rattle.std.specs.Str.{bytes_eq}
use Rattle.ber_values.specs.Grammars.{Grammar, taken, then_in, map_in}
use Rattle.ber_values.specs.Parts.{Contents, part_in, contents_as, all_in}
use Rattle.ber_values.specs.Lists.{list_in, count_in}
use Rattle.ber_values.specs.Leaves.{unsigned_within, oid}
use Rattle.presentation_profile.specs.declared.offers.Offered.{Offered}
use Rattle.presentation_profile.specs.declared.offers.TheConstants.{MOST_OFFERS, LARGEST_ID}

-- whether this names BER: joint-iso-itu-t asn1(1) basic-encoding(1)
abbrev pub names_ber : List ℕ → Bool
names_ber name = bytes_eq name (81 ∷ 1 ∷ [])

-- whether BER is among the transfer syntaxes
abbrev pub any_ber : List (List ℕ) → Bool
any_ber names = list_any names_ber names

abbrev pub offered : ℕ → List ℕ → Bool → Offered
offered id name ber = record { id = id; abstract_name = name; ber = ber }

-- the transfer syntaxes' names, of which it counts whether BER is among them
unfoldable pub transfers : Contents Bool
transfers = contents_as any_ber (list_in 0 (part_in 6 oid))

-- an id, the abstract syntax's name, and the transfer syntaxes
unfoldable pub offer_contents : Contents Offered
offer_contents = all_in
    (then_in (part_in 2 (unsigned_within 1 LARGEST_ID)) (λ id.
    then_in (part_in 6 oid) (λ name.
    map_in (offered id name) (part_in 48 transfers))))

unfoldable pub offer : Grammar Offered
offer = part_in 48 offer_contents

-- 1 to 16 offers
unfoldable pub offers : Grammar (List Offered)
offers = part_in 164 (count_in 1 MOST_OFFERS offer)

-- the name at the front of octets was read, and whether it is BER's, or else its fault
abbrev pub NamesNext : ℕ → List ℕ → Result (Bool × ℕ) BerFault → Type 0
NamesNext at octets (Ok x) = (name : List ℕ) × (x.0 ≡ names_ber name)
    × ((part_in 6 oid).reading at octets ≡ Ok (taken name x.1 (drop (x.1 - at) octets)))
NamesNext at octets (Err f) = (part_in 6 oid).reading at octets ≡ Err f
