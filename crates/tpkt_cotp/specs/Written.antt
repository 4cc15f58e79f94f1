-- What the writers write (RFC 1006, section 6; ISO 8073, 13).
use Rattle.std.specs.Prelude.{◌≡◌, ℕ, zero, suc, ◌+◌, ◌-◌, ◌*◌, ◌/◌, ◌%◌, ◌<◌, ◌≤◌, Bool, true}
use Rattle.std.specs.Prelude.{false, List, [], ◌∷◌, ◌++◌, length, take, drop, flat_map, Option}
use Rattle.std.specs.Prelude.{Some, None, min, IfSome, option_map, if◌then◌else◌}
use Rattle.std.specs.List.{AllByRecursion}
use Rattle.tpkt_cotp.specs.declared.tpdu.Parameters.{Parameters}
use Rattle.tpkt_cotp.specs.declared.tpdu.ConnectRequest.{ConnectRequest}

-- TPDUs of 1,024 octets, this calling selector, and the called selector 00 01
abbrev pub connection_request_octets : ℕ → List ℕ
connection_request_octets calling = 3 ∷ 0 ∷ 0 ∷ 22 ∷ 17 ∷ 224 ∷ 0 ∷ 0 ∷ 0 ∷ 1 ∷ 0 ∷ 192 ∷ 1 ∷ 10 ∷
    193 ∷ 2
    ∷ calling / 256 ∷ calling % 256 ∷ 194 ∷ 2 ∷ 0 ∷ 1 ∷ []

-- TPDUs of at most 1,024 octets
abbrev pub size_octets : Option ℕ → List ℕ
size_octets None = []
size_octets (Some size) = 192 ∷ 1 ∷ min size 10 ∷ []

abbrev pub selector_octets : ℕ → Option (List ℕ) → List ℕ
selector_octets code None = []
selector_octets code (Some octets) = code ∷ length octets ∷ octets

abbrev pub answer_octets : Parameters → List ℕ
answer_octets p = size_octets p.size ++ selector_octets 193 p.calling ++ selector_octets 194
    p.called

-- the answer to an offer, so long with its parameters
abbrev pub confirm_head : ℕ → ℕ → List ℕ
confirm_head source n = 3 ∷ 0 ∷ 0 ∷ n ∷ (n - 5) ∷ 208 ∷ source / 256 ∷ source % 256 ∷ 0 ∷ 1 ∷ 0 ∷ []

-- the offer's source as target, the source 1, class 0, and its parameters as far as they are taken
abbrev pub confirm_octets : ConnectRequest → List ℕ
confirm_octets offer = confirm_head offer.source (11 + length (answer_octets offer.parameters)) ++
    answer_octets offer.parameters

-- a part of a TSDU in a DT
abbrev pub part_head : Bool → ℕ → List ℕ
part_head last n = 3 ∷ 0 ∷ n / 256 ∷ n % 256 ∷ 2 ∷ 240 ∷ (if last then 128 else 0) ∷ []

abbrev pub part_octets : Bool → List ℕ → List ℕ
part_octets last held = part_head last (7 + length held) ++ held

-- parts that don't end the TSDU
abbrev pub parts_octets : List (List ℕ) → List ℕ
parts_octets parts = flat_map (λ p. part_octets false p) parts

abbrev pub joined_parts : List (List ℕ) → List ℕ
joined_parts parts = flat_map (λ p. p) parts

-- a TSDU cut at a size of TPDUs: all parts but the last are full
pub record IsCut (size : ℕ) (octets written : List ℕ) : Type 0 where
  pub parts : List (List ℕ)
  pub last : List ℕ
  pub full : AllByRecursion (λ p. length p ≡ size - 3) parts
  pub some : 0 < length last
  pub fits : length last ≤ size - 3
  pub are : octets ≡ joined_parts parts ++ last
  pub written_is : written ≡ parts_octets parts ++ part_octets true last

-- so many parts of this length, from the front
abbrev pub front_parts_of : ℕ → ℕ → List ℕ → List (List ℕ)
front_parts_of zero full octets = []
front_parts_of (suc count) full octets = take full octets ∷ front_parts_of count full
    (drop full octets)

-- how many full parts come before the last one, which isn't empty
abbrev pub count_before : ℕ → ℕ → ℕ
count_before full len = (len - 1) / full

-- the octets of the TPKTs in which a TSDU goes out, where TPDUs have at most so many octets
unfoldable pub wire : ℕ → List ℕ → List ℕ
wire size tsdu = parts_octets (front_parts_of (count_before (size - 3) (length tsdu))
    (size - 3) tsdu)
    ++ part_octets true (drop (count_before (size - 3) (length tsdu) * (size - 3)) tsdu)

-- the request that is written
abbrev pub written_request : ℕ → ConnectRequest
written_request calling = record {
  source = 1;
  parameters = record {
    size = Some 10;
    calling = Some (calling / 256 ∷ calling % 256 ∷ []);
    called = Some (0 ∷ 1 ∷ []);
  };
}

-- an offer's parameters, as they are answered
abbrev pub answered_parameters : Parameters → Parameters
answered_parameters p = record p { size = option_map (λ size. min size 10) p.size }

-- the size of an offer is 7 to 13, where it is there
abbrev pub IsOffer : ConnectRequest → Type 0
IsOffer offer = IfSome offer.parameters.size (λ size. (7 ≤ size) × (size ≤ 13))
