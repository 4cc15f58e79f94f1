-- Wherever a rule is broken, the first one is answered.
use Rattle.std.proofs.Common.{◌≡◌, ◌≢◌, ℕ, ◌+◌, ◌-◌, ◌*◌, ◌<◌, ◌≤◌, Bool, true, false, List, []}
use Rattle.std.proofs.Common.{◌∷◌, ◌++◌, length, Option, Some, None, Err, refl, sym, ap, subst, ◌∙◌}
use Rattle.std.proofs.Common.{inl, inr, ◌⊎◌, arith, append_assoc}
use Rattle.std.proofs.lemmas.Bool.{lt-ltb, le-ltb, le-leb, eq-eqb, ne_eqb}
use Rattle.std.proofs.lemmas.List.{drop_at, length-append}
use Rattle.ber_values.specs.declared.fault.Why.TheVariants as whys
use Rattle.tpkt_cotp.specs.declared.fault.CotpFault.{CotpFault}
use Rattle.tpkt_cotp.specs.declared.limits.TheConstants.{TSDU_LIMIT}
use Rattle.tpkt_cotp.specs.declared.tpdu.Parameters.{Parameters}
use Rattle.tpkt_cotp.specs.declared.turn.Turn.{Turn}
use Rattle.tpkt_cotp.specs.declared.turn.Kind.{Kind}
use Rattle.tpkt_cotp.specs.declared.turn.Kind.TheVariants as kinds
use Rattle.tpkt_cotp.specs.Turns.{tpdu_kind_of}
use Rattle.tpkt_cotp.specs.Tpdus.{Tpkt, TpduParameter, parameter_octets, parameters_octets, AddUp}
use Rattle.tpkt_cotp.specs.Tpdus.{with_value, no_parameters}
use Rattle.tpkt_cotp.specs.Readings.{Read, TakenParameter, ◌>>=◌, parameter_value_in, tpdu_parameter_in, parameters_in}
use Rattle.tpkt_cotp.specs.Readings.{connect_with, marked_in, data_part_in, connection_request_in, tpdu_body_in}
use Rattle.tpkt_cotp.specs.Readings.{known_in, tpdu_in, sized_in, tpkt_in}
use Rattle.tpkt_cotp.specs.Faults.{cotp_fault_at, WrongLength, WrongValue, TpduParameterFault}
use Rattle.tpkt_cotp.specs.Faults.{ParametersFault, ConnectFault, DataPartFault, BodyFault, CodeFault}
use Rattle.tpkt_cotp.specs.Faults.{TpktFault}
use Rattle.tpkt_cotp.proofs.Again.{parameter_again}
use Rattle.tpkt_cotp.proofs.Stays.{short_connect}
use Rattle.tpkt_cotp.proofs.Passing.{parameters_in-one, parameters_in-passed, bind_some, after}
use Rattle.tpkt_cotp.proofs.FaultReading.{moved}

abbrev refused : {X : Type 0} → CotpFault → Read X
refused f = Err f

value_first : (seen : Parameters) (at room code : ℕ) (octets : List ℕ) (f : CotpFault)
    → WrongLength at room code octets f ⊎ WrongValue at room code octets f
    → parameter_value_in seen at room code octets ≡ Err f
value_first seen at room code octets f (inl w) =
    ap (λ (os : List ℕ). parameter_value_in seen at room code os) w.is
    ∙ rw w.wrong (ap (λ (g : CotpFault). refused {X = TakenParameter} g) (sym w.fault))
value_first seen at room code octets f (inr w) =
    ap (λ (os : List ℕ). parameter_value_in seen at room code os) w.is
    ∙ rw w.right (rw (le-ltb (length w.values) w.count w.whole)
    (rw w.wrong (ap (λ (g : CotpFault). refused {X = TakenParameter} g) (sym w.fault))))

parameter_first : (seen : Parameters) (at room code : ℕ) (octets : List ℕ) (f : CotpFault)
    → TpduParameterFault seen at room code octets f → tpdu_parameter_in seen at room code octets ≡ Err f
parameter_first seen at room code octets f (inl w) = rw w.0
    (ap (λ (g : CotpFault). refused {X = TakenParameter} g) (sym w.1))
parameter_first seen at room code octets f (inr (new, inl w)) = rw new
    (rw (eq-eqb room 1 w.0) (ap (λ (g : CotpFault). refused {X = TakenParameter} g) (sym w.1)))
parameter_first seen at room code octets f (inr (new, inr w)) = rw new
    (rw (ne_eqb room 1 w.0) (value_first seen at room code octets f w.1))

parameters_first : (seen : Parameters) (at room : ℕ) (ps : List TpduParameter) (before : Parameters)
    (code : ℕ) (rest : List ℕ) (f : CotpFault) → AddUp seen ps before
    → length (parameters_octets ps) < room
    → TpduParameterFault before (at + length (parameters_octets ps))
    (room - length (parameters_octets ps)) code rest f
    → parameters_in seen at room 0 (parameters_octets ps ++ code ∷ rest) ≡ Err f
parameters_first seen at room [] before code rest f adds within w =
    let ne : room ≢ 0 = omega arith in
    let here : TpduParameterFault before at room code rest f = moved before (at + 0) at (room - 0) room
    code rest f (omega arith) (omega arith) w in
    let first : TpduParameterFault seen at room code rest f = subst
    (λ (s : Parameters). TpduParameterFault s at room code rest f) adds here in
    parameters_in-one seen at room code rest ne
    ∙ ap (λ (r : Read TakenParameter). r >>= after at room rest)
    (parameter_first seen at room code rest f first)
parameters_first seen at room (p ∷ ps) before code rest f adds within w =
    let n = length p.value in
    let tail : List ℕ = parameters_octets ps ++ code ∷ rest in
    let octets : List ℕ = n ∷ (p.value ++ tail) in
    let len = length-append (parameter_octets p) (parameters_octets ps) in
    let k = length (parameters_octets ps) in
    let ne : room ≢ 0 = omega arith in
    let fits : n + 2 ≤ room = omega (arith, len) in
    let t : TakenParameter = record { seen = with_value seen p.code p.value; count = n } in
    let long : n + 1 ≤ length octets = let l = length-append p.value tail in omega (arith, l) in
    let front : length (n ∷ p.value) ≡ n + 1 = omega arith in
    let whole : ℕ = length (parameters_octets (p ∷ ps)) in
    let next : TpduParameterFault before (at + 1 + (n + 1) + k) (room - 1 - (n + 1) - k) code rest f =
    moved before (at + whole) (at + 1 + (n + 1) + k) (room - whole) (room - 1 - (n + 1) - k)
    code rest f (omega (arith, len)) (omega (arith, len)) w in
    ap (λ (os : List ℕ). parameters_in seen at room 0 (p.code ∷ n ∷ os))
    (append_assoc p.value (parameters_octets ps) (code ∷ rest))
    ∙ parameters_in-one seen at room p.code octets ne
    ∙ bind_some (tpdu_parameter_in seen at room p.code octets) (after at room octets) t
    (parameter_again seen at room p tail adds.0 adds.1 adds.2 fits)
    ∙ parameters_in-passed t.seen (at + 1) (room - 1) (n + 1) octets long
    ∙ ap (λ (os : List ℕ). parameters_in t.seen (at + 1 + (n + 1)) (room - 1 - (n + 1)) 0 os)
    (drop_at (n ∷ p.value) tail (n + 1) front)
    ∙ parameters_first t.seen (at + 1 + (n + 1)) (room - 1 - (n + 1)) ps before code rest f adds.3
    (omega (arith, len)) next

connect_refused : (r : Bool) (size target source : ℕ) (f : CotpFault)
    → connect_with r size target source (refused f) ≡ refused f
connect_refused true size target source f = refl
connect_refused false size target source f = refl

class_first : (r : Bool) (size a b c d class : ℕ) (rest : List ℕ) (f : CotpFault) → 11 ≤ size
    → ((16 ≤ class) × (f ≡ cotp_fault_at 10 whys.Value))
    ⊎ ((class < 16) × ParametersFault no_parameters 11 (size - 11) rest f)
    → connection_request_in r size (a ∷ b ∷ c ∷ d ∷ class ∷ rest) ≡ Err f
unfolding connection_request_in
class_first r size a b c d class rest f long (inl w) = rw (le-ltb size 11 long)
    (rw (le-ltb class 16 w.0) (ap (λ (g : CotpFault). refused {X = Tpkt} g) (sym w.1)))
class_first r size a b c d class rest f long (inr w) =
    let p = w.1 in
    let read : parameters_in no_parameters 11 (size - 11) 0 rest ≡ Err f = ap
    (λ (os : List ℕ). parameters_in no_parameters 11 (size - 11) 0 os) p.is
    ∙ parameters_first no_parameters 11 (size - 11) p.parameters p.before p.code p.rest f
    p.adds_up p.within p.breaks in
    rw (le-ltb size 11 long) (rw (lt-ltb class 16 w.0)
    (ap (λ (q : Read Parameters). connect_with r size (a * 256 + b) (c * 256 + d) q) read
    ∙ connect_refused r size (a * 256 + b) (c * 256 + d) f))

connect_first : (r : Bool) (size : ℕ) (octets : List ℕ) (f : CotpFault)
    → ConnectFault size octets f → connection_request_in r size octets ≡ Err f
connect_first r size octets f (inl w) = short_connect r size octets w.short w.whole
    ∙ ap (λ (g : CotpFault). refused {X = Tpkt} g) (sym w.fault)
connect_first r size octets f (inr w) =
    ap (λ (os : List ℕ). connection_request_in r size os) w.is
    ∙ class_first r size w.target_high w.target_low w.source_high w.source_low w.class w.rest f
    w.long w.breaks

part_first : (total size : ℕ) (octets : List ℕ) (f : CotpFault)
    → DataPartFault (total + (size - 7)) size octets f → data_part_in total size octets ≡ Err f
unfolding data_part_in marked_in
part_first total size octets f (inl w) = rw (lt-ltb TSDU_LIMIT (total + (size - 7)) w.0)
    (ap (λ (g : CotpFault). refused {X = Tpkt} g) (sym w.1))
part_first total size octets f (inr w) =
    let e = w.1 in
    rw (le-ltb TSDU_LIMIT (total + (size - 7)) w.0)
    (ap (λ (os : List ℕ). marked_in (total + (size - 7)) size os) e.is
    ∙ rw (le-leb 128 e.mark e.last) (rw (eq-eqb (total + (size - 7)) 0 e.empty)
    (ap (λ (g : CotpFault). refused {X = Tpkt} g) (sym e.fault))))

body_first : (k : Kind) (total size : ℕ) (octets : List ℕ) (f : CotpFault)
    → BodyFault k total size octets f → tpdu_body_in k total size octets ≡ Err f
unfolding tpdu_body_in
body_first kinds.Request total size octets f w = connect_first true size octets f w
body_first kinds.Confirm total size octets f w = connect_first false size octets f w
body_first kinds.Disconnect total size octets f w = elim w [ ]
body_first kinds.Part total size octets f w = part_first total size octets f w

code_first : (turn : Turn) (total size count : ℕ) (o : Option Kind) (octets : List ℕ)
    (f : CotpFault) → CodeFault turn total size count o octets f
    → known_in turn total size count o octets ≡ Err f
code_first turn total size count None octets f w = ap (λ (g : CotpFault). refused {X = Tpkt} g)
    (sym w)
code_first turn total size count (Some k) octets f (inl w) = rw w.0
    (ap (λ (g : CotpFault). refused {X = Tpkt} g) (sym w.1))
code_first turn total size count (Some k) octets f (inr (counted, inl w)) = rw (counted, w.0)
    (ap (λ (g : CotpFault). refused {X = Tpkt} g) (sym w.1))
code_first turn total size count (Some k) octets f (inr (counted, inr w)) = rw (counted, w.0)
    (body_first k total size octets f w.1)

-- wherever a rule is broken, this fault is answered
pub fault_first : (turn : Turn) (total : ℕ) (octets : List ℕ) (f : CotpFault)
    → TpktFault turn total octets f → tpkt_in turn total octets ≡ Err f
unfolding tpkt_in sized_in tpdu_in
fault_first turn total octets f (inl w) = ap (λ (os : List ℕ). tpkt_in turn total os) w.is
    ∙ rw (ne_eqb w.version 3 w.wrong) (ap (λ (g : CotpFault). refused {X = Tpkt} g) (sym w.fault))
fault_first turn total octets f (inr (inl w)) = ap (λ (os : List ℕ). tpkt_in turn total os) w.is
    ∙ rw (lt-ltb (w.high * 256 + w.low) 7 w.wrong)
    (ap (λ (g : CotpFault). refused {X = Tpkt} g) (sym w.fault))
fault_first turn total octets f (inr (inr w)) =
    ap (λ (os : List ℕ). tpkt_in turn total os) w.is
    ∙ rw (le-ltb (w.high * 256 + w.low) 7 w.long)
    (code_first turn total (w.high * 256 + w.low) w.count (tpdu_kind_of w.code) w.rest f w.breaks)
