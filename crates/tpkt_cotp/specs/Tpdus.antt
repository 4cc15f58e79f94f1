-- TPDUs of class 0 in TPKTs, and how each is spelled (RFC 1006, section 6; ISO 8073, 13).
use Rattle.std.specs.Prelude.{◌≡◌, ℕ, ◌+◌, ◌*◌, ◌<◌, Bool, true, false, not, ◌&&◌, ◌||◌, List, []}
use Rattle.std.specs.Prelude.{◌∷◌, length, flat_map, slice_index, Some, None, is_some, nat_le, ◌==◌}
use Rattle.std.specs.Prelude.{if◌then◌else◌}
use Rattle.tpkt_cotp.specs.declared.limits.TheConstants.{SELECTOR_LIMIT}
use Rattle.tpkt_cotp.specs.declared.tpdu.Parameters.{Parameters}
use Rattle.tpkt_cotp.specs.declared.tpdu.ConnectRequest.{ConnectRequest}
use Rattle.tpkt_cotp.specs.declared.tpdu.ConnectConfirm.{ConnectConfirm}
use Rattle.tpkt_cotp.specs.declared.turn.Kind.{Kind}
use Rattle.tpkt_cotp.specs.declared.turn.Kind.TheVariants as kinds

pub data Tpdu : Type 0 where
  request : ConnectRequest → Tpdu
  confirm : ConnectConfirm → Tpdu
  disconnect : Tpdu
  -- whether it is the last of its TSDU, and the octets of the TSDU
  part : Bool → List ℕ → Tpdu

abbrev pub kind : Tpdu → Kind
kind (request _) = kinds.Request
kind (confirm _) = kinds.Confirm
kind disconnect = kinds.Disconnect
kind (part _ _) = kinds.Part

-- a TPDU and how many octets its TPKT has
pub record Tpkt : Type 0 where
  pub size : ℕ
  pub tpdu : Tpdu

-- C0 the size, C1 the calling selector, C2 the called one: whether it came before
abbrev pub is_twice : Parameters → ℕ → Bool
is_twice seen code = code == 192 && is_some seen.size || code == 193 && is_some seen.calling ||
    code == 194 && is_some seen.called

-- one octet of size, 1 to 32 of a selector, any number of others
abbrev pub is_length_of : ℕ → ℕ → Bool
is_length_of code count = if code == 192 then count == 1 else
    (if code == 193 || code == 194 then nat_le 1 count && nat_le count SELECTOR_LIMIT else true)

-- a size is 7 to 13, the others are free
abbrev pub is_value_of : ℕ → ℕ → Bool
is_value_of code first = not (code == 192) || nat_le 7 first && nat_le first 13

abbrev pub with_value : Parameters → ℕ → List ℕ → Parameters
with_value seen code value = if code == 192 then record seen { size = Some (slice_index value 0) }
    else (if code == 193 then record seen { calling = Some value } else
    (if code == 194 then record seen { called = Some value } else seen))

abbrev pub no_parameters : Parameters
no_parameters = record { size = None; calling = None; called = None }

-- a parameter: its code and its value
pub record TpduParameter : Type 0 where
  pub code : ℕ
  pub value : List ℕ

abbrev pub parameter_octets : TpduParameter → List ℕ
parameter_octets p = p.code ∷ length p.value ∷ p.value

abbrev pub parameters_octets : List TpduParameter → List ℕ
parameters_octets ps = flat_map parameter_octets ps

-- these parameters in this order, none of the three twice, add to the ones before them
abbrev pub AddUp : Parameters → List TpduParameter → Parameters → Type 0
AddUp before [] all = all ≡ before
AddUp before (p ∷ ps) all = (is_twice before p.code ≡ false)
    × (is_length_of p.code (length p.value) ≡ true)
    × (is_value_of p.code (slice_index p.value 0) ≡ true)
    × AddUp (with_value before p.code p.value) ps all

-- CR and CC: 3, an octet that isn't looked at, the length of all; a count to the end, the code,
-- target and source, a class octet whose upper four bits are 0, parameters
pub record SpellsConnect (code target source : ℕ) (all : Parameters) (octets : List ℕ) : Type 0
  where
    pub reserved : ℕ
    pub high : ℕ
    pub low : ℕ
    pub count : ℕ
    pub target_high : ℕ
    pub target_low : ℕ
    pub source_high : ℕ
    pub source_low : ℕ
    pub class : ℕ
    pub parameters : List TpduParameter
    pub is : octets ≡ 3 ∷ reserved ∷ high ∷ low ∷ count ∷ code ∷ target_high ∷ target_low
        ∷ source_high ∷ source_low ∷ class ∷ parameters_octets parameters
    pub size : high * 256 + low ≡ 11 + length (parameters_octets parameters)
    pub counted : count + 5 ≡ high * 256 + low
    pub target_is : target ≡ target_high * 256 + target_low
    pub source_is : source ≡ source_high * 256 + source_low
    pub class_zero : class < 16
    pub adds_up : AddUp no_parameters parameters all

-- DR: any count, the code 80 and at least one octet more
pub record SpellsDisconnect (octets : List ℕ) : Type 0 where
  pub reserved : ℕ
  pub high : ℕ
  pub low : ℕ
  pub count : ℕ
  pub more : List ℕ
  pub is : octets ≡ 3 ∷ reserved ∷ high ∷ low ∷ count ∷ 128 ∷ more
  pub size : high * 256 + low ≡ 6 + length more
  pub some : 0 < length more

-- DT: the count 2, the code F0, an octet whose bit 8 is the end mark, and octets of the TSDU
pub record SpellsPart (last : Bool) (held : List ℕ) (octets : List ℕ) : Type 0 where
  pub reserved : ℕ
  pub high : ℕ
  pub low : ℕ
  pub mark : ℕ
  pub is : octets ≡ 3 ∷ reserved ∷ high ∷ low ∷ 2 ∷ 240 ∷ mark ∷ held
  pub size : high * 256 + low ≡ 7 + length held
  pub last_is : last ≡ nat_le 128 mark

-- these octets are a TPKT with this TPDU
abbrev pub SpellsTpkt : Tpdu → List ℕ → Type 0
SpellsTpkt (request r) octets = (target : ℕ) × SpellsConnect 224 target r.source r.parameters octets
SpellsTpkt (confirm c) octets = SpellsConnect 208 c.target c.source c.parameters octets
SpellsTpkt disconnect octets = SpellsDisconnect octets
SpellsTpkt (part last held) octets = SpellsPart last held octets
