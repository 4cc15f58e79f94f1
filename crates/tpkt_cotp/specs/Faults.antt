-- The first rule that the octets of a TPKT break, from the left (RFC 1006, section 6; ISO 8073,
-- 13). Places count the octets of the TPKT.
use Rattle.std.specs.Prelude.{◌≡◌, ◌≢◌, ℕ, ◌+◌, ◌-◌, ◌*◌, ◌<◌, ◌≤◌, true, false, ◌&&◌, List, ◌∷◌}
use Rattle.std.specs.Prelude.{◌++◌, length, take, slice_index, Option, Some, None, nat_le, ◌⊎◌}
use Rattle.ber_values.specs.declared.fault.Why.{Why}
use Rattle.ber_values.specs.declared.fault.Why.TheVariants as whys
use Rattle.tpkt_cotp.specs.declared.fault.CotpFault.{CotpFault}
use Rattle.tpkt_cotp.specs.declared.limits.TheConstants.{TSDU_LIMIT}
use Rattle.tpkt_cotp.specs.declared.tpdu.Parameters.{Parameters}
use Rattle.tpkt_cotp.specs.declared.turn.Turn.{Turn}
use Rattle.tpkt_cotp.specs.declared.turn.Kind.{Kind}
use Rattle.tpkt_cotp.specs.declared.turn.Kind.TheVariants as kinds
use Rattle.tpkt_cotp.specs.Turns.{tpdu_kind_of, may_come, is_count}
use Rattle.tpkt_cotp.specs.Tpdus.{TpduParameter, parameters_octets, AddUp, is_twice, is_length_of}
use Rattle.tpkt_cotp.specs.Tpdus.{is_value_of, no_parameters}

abbrev pub cotp_fault_at : ℕ → Why → CotpFault
cotp_fault_at place why = record { place = place; why = why }

-- behind the code of a parameter: its length is not allowed, or passes the TPDU
pub record WrongLength (at room code : ℕ) (octets : List ℕ) (f : CotpFault) : Type 0 where
  pub count : ℕ
  pub values : List ℕ
  pub is : octets ≡ count ∷ values
  pub wrong : (is_length_of code count && nat_le (count + 2) room) ≡ false
  pub fault : f ≡ cotp_fault_at (at + 1) whys.Length

-- or its value is not allowed
pub record WrongValue (at room code : ℕ) (octets : List ℕ) (f : CotpFault) : Type 0 where
  pub count : ℕ
  pub values : List ℕ
  pub is : octets ≡ count ∷ values
  pub right : (is_length_of code count && nat_le (count + 2) room) ≡ true
  pub whole : count ≤ length values
  pub wrong : is_value_of code (slice_index (take count values) 0) ≡ false
  pub fault : f ≡ cotp_fault_at (at + 2) whys.Value

-- a parameter at a place, with so much room from its code on: it came before; its length is
-- missing; or one of these
abbrev pub TpduParameterFault : Parameters → ℕ → ℕ → ℕ → List ℕ → CotpFault → Type 0
TpduParameterFault seen at room code octets f =
    ((is_twice seen code ≡ true) × (f ≡ cotp_fault_at at whys.Tag))
    ⊎ ((is_twice seen code ≡ false) × (((room ≡ 1) × (f ≡ cotp_fault_at (at + 1) whys.Short))
    ⊎ ((room ≢ 1) × (WrongLength at room code octets f ⊎ WrongValue at room code octets f))))

-- some parameters are spelled, and the next one breaks a rule
pub record ParametersFault (seen : Parameters) (at room : ℕ) (octets : List ℕ) (f : CotpFault) :
    Type 0 where
  pub parameters : List TpduParameter
  pub before : Parameters
  pub code : ℕ
  pub rest : List ℕ
  pub is : octets ≡ parameters_octets parameters ++ code ∷ rest
  pub adds_up : AddUp seen parameters before
  pub within : length (parameters_octets parameters) < room
  pub breaks : TpduParameterFault before (at + length (parameters_octets parameters))
      (room - length (parameters_octets parameters)) code rest f

-- behind the code of a CR or CC: the TPKT ends before the class octet does
pub record EndsBeforeClass (size : ℕ) (octets : List ℕ) (f : CotpFault) : Type 0 where
  pub short : size < 11
  pub whole : size ≤ length octets + 6
  pub fault : f ≡ cotp_fault_at size whys.Short

-- target, source, and a class octet whose upper four bits aren't 0; or parameters with a fault
pub record BreaksAtClass (size : ℕ) (octets : List ℕ) (f : CotpFault) : Type 0 where
  pub target_high : ℕ
  pub target_low : ℕ
  pub source_high : ℕ
  pub source_low : ℕ
  pub class : ℕ
  pub rest : List ℕ
  pub is : octets ≡ target_high ∷ target_low ∷ source_high ∷ source_low ∷ class ∷ rest
  pub long : 11 ≤ size
  pub breaks : ((16 ≤ class) × (f ≡ cotp_fault_at 10 whys.Value))
      ⊎ ((class < 16) × ParametersFault no_parameters 11 (size - 11) rest f)

abbrev pub ConnectFault : ℕ → List ℕ → CotpFault → Type 0
ConnectFault size octets f = EndsBeforeClass size octets f ⊎ BreaksAtClass size octets f

-- an end mark behind no octets of a TSDU
pub record EndsEmpty (sum size : ℕ) (octets : List ℕ) (f : CotpFault) : Type 0 where
  pub mark : ℕ
  pub rest : List ℕ
  pub is : octets ≡ mark ∷ rest
  pub last : 128 ≤ mark
  pub empty : sum ≡ 0
  pub fault : f ≡ cotp_fault_at size whys.Short

-- behind the code of a DT, where so many octets of the TSDU are known: they pass the limit, or
-- there are none
abbrev pub DataPartFault : ℕ → ℕ → List ℕ → CotpFault → Type 0
DataPartFault sum size octets f = ((TSDU_LIMIT < sum) × (f ≡ cotp_fault_at 2 whys.Long))
    ⊎ ((sum ≤ TSDU_LIMIT) × EndsEmpty sum size octets f)

abbrev pub BodyFault : Kind → ℕ → ℕ → List ℕ → CotpFault → Type 0
BodyFault kinds.Request total size octets f = ConnectFault size octets f
BodyFault kinds.Confirm total size octets f = ConnectFault size octets f
BodyFault kinds.Disconnect total size octets f = ⊥
BodyFault kinds.Part total size octets f = DataPartFault (total + (size - 7)) size octets f

-- a code that is known: its count is wrong; else it may not come now; else what stands behind it
-- breaks a rule
abbrev pub KindFault : Turn → ℕ → ℕ → ℕ → Kind → List ℕ → CotpFault → Type 0
KindFault turn total size count kind octets f =
    ((is_count kind size count ≡ false) × (f ≡ cotp_fault_at 4 whys.Length))
    ⊎ ((is_count kind size count ≡ true) × (((may_come turn kind ≡ false)
    × (f ≡ cotp_fault_at 0 whys.Order)) ⊎ ((may_come turn kind ≡ true)
    × BodyFault kind total size octets f)))

-- the code is not known
abbrev pub CodeFault : Turn → ℕ → ℕ → ℕ → Option Kind → List ℕ → CotpFault → Type 0
CodeFault turn total size count None octets f = f ≡ cotp_fault_at 5 whys.Tag
CodeFault turn total size count (Some kind) octets f = KindFault turn total size count kind octets f

-- another version than 3
pub record WrongVersion (octets : List ℕ) (f : CotpFault) : Type 0 where
  pub version : ℕ
  pub rest : List ℕ
  pub is : octets ≡ version ∷ rest
  pub wrong : version ≢ 3
  pub fault : f ≡ cotp_fault_at 0 whys.Value

-- a length below 7
pub record WrongSize (octets : List ℕ) (f : CotpFault) : Type 0 where
  pub reserved : ℕ
  pub high : ℕ
  pub low : ℕ
  pub rest : List ℕ
  pub is : octets ≡ 3 ∷ reserved ∷ high ∷ low ∷ rest
  pub wrong : high * 256 + low < 7
  pub fault : f ≡ cotp_fault_at 2 whys.Length

-- a TPDU that breaks a rule
pub record WrongTpdu (turn : Turn) (total : ℕ) (octets : List ℕ) (f : CotpFault) : Type 0 where
  pub reserved : ℕ
  pub high : ℕ
  pub low : ℕ
  pub count : ℕ
  pub code : ℕ
  pub rest : List ℕ
  pub is : octets ≡ 3 ∷ reserved ∷ high ∷ low ∷ count ∷ code ∷ rest
  pub long : 7 ≤ high * 256 + low
  pub breaks : CodeFault turn total (high * 256 + low) count (tpdu_kind_of code) rest f

-- a TPKT at the front breaks a rule, where so many octets of a TSDU came before
abbrev pub TpktFault : Turn → ℕ → List ℕ → CotpFault → Type 0
TpktFault turn total octets f = WrongVersion octets f
    ⊎ (WrongSize octets f ⊎ WrongTpdu turn total octets f)
