-- Reading a TPKT from the left: it is whole, or it isn't whole and breaks no rule so far, or it
-- breaks one.
use Rattle.std.specs.Prelude.{◌≡◌, ℕ, zero, suc, ◌+◌, ◌-◌, ◌*◌, Bool, true, false, not, ◌&&◌, List}
use Rattle.std.specs.Prelude.{[], ◌∷◌, length, take, slice_index, Option, Some, None, Result, Ok}
use Rattle.std.specs.Prelude.{Err, nat_lt, nat_le, ◌==◌, if◌then◌else◌}
use Rattle.ber_values.specs.declared.fault.Why.{Why}
use Rattle.ber_values.specs.declared.fault.Why.TheVariants as whys
use Rattle.tpkt_cotp.specs.declared.fault.CotpFault.{CotpFault}
use Rattle.tpkt_cotp.specs.declared.limits.TheConstants.{TSDU_LIMIT}
use Rattle.tpkt_cotp.specs.declared.tpdu.Parameters.{Parameters}
use Rattle.tpkt_cotp.specs.declared.turn.Turn.{Turn}
use Rattle.tpkt_cotp.specs.declared.turn.Kind.{Kind}
use Rattle.tpkt_cotp.specs.declared.turn.Kind.TheVariants as kinds
use Rattle.tpkt_cotp.specs.Turns.{tpdu_kind_of, may_come, is_count}
use Rattle.tpkt_cotp.specs.Tpdus.{Tpdu, request, confirm, disconnect, part, Tpkt, is_twice}
use Rattle.tpkt_cotp.specs.Tpdus.{is_length_of, is_value_of, with_value, no_parameters}

abbrev pub Read : Type 0 → Type 0
Read X = Result (Option X) CotpFault

-- places count the octets of the TPKT
abbrev pub broken : {X : Type 0} → ℕ → Why → Read X
broken place why = Err (record { place = place; why = why })

-- what a function returned, seen by view, is what reading gives
abbrev pub GivesReading : {X Y : Type 0} → (X → Y) → Read X → Read Y → Type 0
GivesReading view (Ok (Some x)) read = read ≡ Ok (Some (view x))
GivesReading view (Ok None) read = read ≡ Ok None
GivesReading view (Err f) read = read ≡ Err f

infixl 10 ◌>>=◌
abbrev pub ◌>>=◌ : {X Y : Type 0} → Read X → (X → Read Y) → Read Y
(Ok (Some x)) >>= f = f x
(Ok None) >>= f = Ok None
(Err f) >>= g = Err f

-- the parameters with one more, and how many octets its value has
pub record TakenParameter : Type 0 where
  pub seen : Parameters
  pub count : ℕ

-- what stands behind the code at a place, in a TPDU with so much room from the code on
abbrev pub parameter_value_in : Parameters → ℕ → ℕ → ℕ → List ℕ → Read TakenParameter
parameter_value_in seen at room code [] = Ok None
parameter_value_in seen at room code (count ∷ octets) = if not
    (is_length_of code count && nat_le (count + 2) room) then broken (at + 1) whys.Length else
    (if nat_lt (length octets) count then Ok None else
    (if is_value_of code (slice_index (take count octets) 0) then Ok
    (Some (record { seen = with_value seen code (take count octets); count = count })) else broken
    (at + 2) whys.Value))

abbrev pub tpdu_parameter_in : Parameters → ℕ → ℕ → ℕ → List ℕ → Read TakenParameter
tpdu_parameter_in seen at room code octets = if is_twice seen code then broken at whys.Tag else
    (if room == 1 then broken (at + 1) whys.Short else parameter_value_in seen at room code octets)

-- parameters fill the room; the octets of a value are passed over
unfoldable pub parameters_in : Parameters → ℕ → ℕ → ℕ → List ℕ → Read Parameters
parameters_in seen at room passed [] = if room == 0 then Ok (Some seen) else Ok None
parameters_in seen at room (suc passed) (_ ∷ octets) = parameters_in seen (at + 1) (room - 1)
    passed octets
parameters_in seen at room zero (code ∷ octets) = if room == 0 then Ok (Some seen) else
    (tpdu_parameter_in seen at room code octets >>= λ p. parameters_in p.seen (at + 1) (room - 1)
    (p.count + 1) octets)

abbrev pub tpkt_of : ℕ → Tpdu → Read Tpkt
tpkt_of size tpdu = Ok (Some (record { size = size; tpdu = tpdu }))

-- behind the class octet of a CR or CC
abbrev pub connect_with : Bool → ℕ → ℕ → ℕ → Read Parameters → Read Tpkt
connect_with true size target source read = read >>= λ p. tpkt_of size
    (request (record { source = source; parameters = p }))
connect_with false size target source read = read >>= λ p. tpkt_of size
    (confirm (record { target = target; source = source; parameters = p }))

-- behind the code of a CR or CC: target, source, a class octet whose upper four bits are 0,
-- parameters
unfoldable pub connection_request_in : Bool → ℕ → List ℕ → Read Tpkt
connection_request_in is_request size (high ∷ low ∷ upper ∷ lower ∷ class ∷ octets) =
    if nat_lt size 11 then
    broken size whys.Short else (if nat_lt class 16 then connect_with is_request size
    (high * 256 + low) (upper * 256 + lower) (parameters_in no_parameters 11 (size - 11) 0 octets)
    else broken 10 whys.Value)
connection_request_in is_request size octets =
    if nat_le size (length octets + 6) then broken size whys.Short
    else Ok None

unfoldable pub disconnect_in : ℕ → List ℕ → Read Tpkt
disconnect_in size octets = if nat_lt (length octets + 6) size then Ok None else tpkt_of size
    disconnect

-- behind the code of a DT: an octet whose bit 8 is the end mark, and so many octets of the TSDU
unfoldable pub marked_in : ℕ → ℕ → List ℕ → Read Tpkt
marked_in sum size [] = Ok None
marked_in sum size (mark ∷ octets) = if nat_le 128 mark && sum == 0 then broken size whys.Short
    else (if nat_lt (length octets) (size - 7) then Ok None else tpkt_of size
    (part (nat_le 128 mark) (take (size - 7) octets)))

-- total octets of the TSDU came before
unfoldable pub data_part_in : ℕ → ℕ → List ℕ → Read Tpkt
data_part_in total size octets = if nat_lt TSDU_LIMIT
    (total + (size - 7)) then broken 2 whys.Long else
    marked_in (total + (size - 7)) size octets

unfoldable pub tpdu_body_in : Kind → ℕ → ℕ → List ℕ → Read Tpkt
tpdu_body_in kinds.Request total size octets = connection_request_in true size octets
tpdu_body_in kinds.Confirm total size octets = connection_request_in false size octets
tpdu_body_in kinds.Disconnect total size octets = disconnect_in size octets
tpdu_body_in kinds.Part total size octets = data_part_in total size octets

-- the code's own rules come before the order
abbrev pub known_in : Turn → ℕ → ℕ → ℕ → Option Kind → List ℕ → Read Tpkt
known_in turn total size count None octets = broken 5 whys.Tag
known_in turn total size count (Some kind) octets = if is_count kind size count then
    (if may_come turn kind then tpdu_body_in kind total size octets else broken 0 whys.Order) else
    broken 4 whys.Length

-- behind the head of the TPKT
unfoldable pub tpdu_in : Turn → ℕ → ℕ → List ℕ → Read Tpkt
tpdu_in turn total size (count ∷ code ∷ octets) = known_in turn total size count (tpdu_kind_of code)
    octets
tpdu_in turn total size _ = Ok None

-- behind the version: an octet that isn't looked at, and the length, at least 7
unfoldable pub sized_in : Turn → ℕ → List ℕ → Read Tpkt
sized_in turn total (_ ∷ high ∷ low ∷ octets) = if nat_lt (high * 256 + low) 7 then broken 2
    whys.Length else tpdu_in turn total (high * 256 + low) octets
sized_in turn total _ = Ok None

-- a TPKT at the front, where so many octets of a TSDU came before
unfoldable pub tpkt_in : Turn → ℕ → List ℕ → Read Tpkt
tpkt_in turn total [] = Ok None
tpkt_in turn total (version ∷ octets) = if version == 3 then sized_in turn total octets else broken
    0 whys.Value
