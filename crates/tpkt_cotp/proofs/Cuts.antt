-- What isn't whole is shorter than its TPKT; what is whole has lawful selectors and sizes.
use Rattle.std.proofs.Common.{◌≡◌, ◌≢◌, ℕ, zero, suc, ◌+◌, ◌-◌, ◌*◌, ◌<◌, ◌≤◌, Bool, true, false}
use Rattle.std.proofs.Common.{not, ◌&&◌, ◌||◌, cond, eqb, ltb, leb, List, [], ◌∷◌, length, take, get_or}
use Rattle.std.proofs.Common.{Option, Some, None, Ok, Err, refl, sym, subst, arith}
use Rattle.std.proofs.lemmas.Bool.{cond_both, eqb-true, eqb-false, ltb-true, ltb-false, leb-true}
use Rattle.std.proofs.lemmas.Bool.{leb-false, and_parts}
use Rattle.ber_values.specs.declared.fault.Why.TheVariants as whys
use Rattle.tpkt_cotp.specs.declared.limits.TheConstants.{TSDU_LIMIT}
use Rattle.tpkt_cotp.specs.declared.tpdu.Parameters.{Parameters}
use Rattle.tpkt_cotp.specs.declared.turn.Turn.{Turn}
use Rattle.tpkt_cotp.specs.declared.turn.Kind.{Kind}
use Rattle.tpkt_cotp.specs.declared.turn.Kind.TheVariants as kinds
use Rattle.tpkt_cotp.specs.Turns.{tpdu_kind_of, may_come, is_count}
use Rattle.tpkt_cotp.specs.Tpdus.{Tpdu, request, confirm, disconnect, part, Tpkt, TpduParameter, AddUp}
use Rattle.tpkt_cotp.specs.Tpdus.{is_twice, is_length_of, is_value_of, with_value, no_parameters}
use Rattle.tpkt_cotp.specs.Tpdus.{SpellsTpkt}
use Rattle.tpkt_cotp.specs.Sound.{AreSoundParameters, IsSoundTpdu}
use Rattle.tpkt_cotp.specs.Readings.{Read, TakenParameter, broken, ◌>>=◌, tpkt_of, parameter_value_in, tpdu_parameter_in}
use Rattle.tpkt_cotp.specs.Readings.{parameters_in, connect_with, marked_in, data_part_in, disconnect_in}
use Rattle.tpkt_cotp.specs.Readings.{connection_request_in, tpdu_body_in, known_in, tpdu_in, sized_in, tpkt_in}
use Rattle.tpkt_cotp.proofs.Exact.{Right}
use Rattle.tpkt_cotp.proofs.ExactConnect.{ParameterFound, parameter_right}

abbrev pub Cut : {X : Type 0} → Type 0 → Read X → Type 0
Cut Q (Ok (Some x)) = Unit {0}
Cut Q (Ok None) = Q
Cut Q (Err f) = Unit {0}

cut_as : {X : Type 0} (P Q : Type 0) (read : Read X) → (P → Q) → Cut P read → Cut Q read
cut_as P Q (Ok (Some x)) to c = tt
cut_as P Q (Ok None) to c = to c
cut_as P Q (Err f) to c = tt

cut_bind : {X Y : Type 0} (P : X → Type 0) (Q : Type 0) (read : Read X) (f : X → Read Y)
    → Right P read → Cut Q read → ((x : X) → P x → Cut Q (f x)) → Cut Q (read >>= f)
cut_bind P Q (Ok (Some x)) f right c then = then x right
cut_bind P Q (Ok None) f right c then = c
cut_bind P Q (Err e) f right c then = tt

value_cut : (seen : Parameters) (at room code : ℕ) (octets : List ℕ) → room ≢ 0 → room ≢ 1
    → Cut (length octets + 1 < room) (parameter_value_in seen at room code octets)
value_cut seen at room code [] some more = omega arith
value_cut seen at room code (count ∷ octets) some more =
    let whole : Read TakenParameter = Ok (Some (record
    { seen = with_value seen code (take count octets); count = count })) in
    let valued : Read TakenParameter = cond (is_value_of code (get_or (take count octets) 0 0)) whole
    (broken (at + 2) whys.Value) in
    let there : Read TakenParameter = cond (ltb (length octets) count) (Ok None) valued in
    let P : Read TakenParameter → Type 0 = Cut (length (count ∷ octets) + 1 < room) in
    cond_both (not (is_length_of code count && leb (count + 2) room)) (broken (at + 1) whys.Length)
    there P (λ e. tt)
    (λ sound.
    let both = and_parts (is_length_of code count) (leb (count + 2) room) (unnot _ sound) in
    let fits : count + 2 ≤ room = leb-true (count + 2) room both.1 in
    cond_both (ltb (length octets) count) (Ok None) valued P
    (λ short. let few : length octets < count = ltb-true (length octets) count short in omega
    arith)
    (λ enough. cond_both (is_value_of code (get_or (take count octets) 0 0)) whole
    (broken (at + 2) whys.Value) P (λ e. tt) (λ e. tt)))
  where
    unnot : (b : Bool) → not b ≡ false → b ≡ true
    unnot true e = refl
    unnot false e = absurd cc

parameter_cut : (seen : Parameters) (at room code : ℕ) (octets : List ℕ) → room ≢ 0
    → Cut (length octets + 1 < room) (tpdu_parameter_in seen at room code octets)
parameter_cut seen at room code octets some =
    let P : Read TakenParameter → Type 0 = Cut (length octets + 1 < room) in
    let rest : Read TakenParameter = cond (eqb room 1) (broken (at + 1) whys.Short)
    (parameter_value_in seen at room code octets) in
    cond_both (is_twice seen code) (broken at whys.Tag) rest P (λ e. tt)
    (λ new. cond_both (eqb room 1) (broken (at + 1) whys.Short) (parameter_value_in seen at room code octets)
    P (λ e. tt)
    (λ more. value_cut seen at room code octets some (eqb-false room 1 more)))

parameters_cut : (seen : Parameters) (at room passed : ℕ) (octets : List ℕ) → passed ≤ room
    → Cut (length octets < room) (parameters_in seen at room passed octets)
unfolding parameters_in
parameters_cut seen at room zero [] le = cond_both (eqb room 0) (Ok (Some seen)) (Ok None)
    (Cut (0 < room)) (λ e. tt) (λ e. let ne : room ≢ 0 = eqb-false room 0 e in omega arith)
parameters_cut seen at room (suc passed) [] le = cond_both (eqb room 0) (Ok (Some seen)) (Ok None)
    (Cut (0 < room)) (λ e. tt) (λ e. let ne : room ≢ 0 = eqb-false room 0 e in omega arith)
parameters_cut seen at room (suc passed) (o ∷ octets) le = cut_as (length octets < room - 1)
    (length (o ∷ octets) < room) (parameters_in seen (at + 1) (room - 1) passed octets)
    (λ few. omega arith) (parameters_cut seen (at + 1) (room - 1) passed octets (omega arith))
parameters_cut seen at room zero (code ∷ octets) le =
    let then : TakenParameter → Read Parameters = λ p. parameters_in p.seen (at + 1) (room - 1)
    (p.count + 1) octets in
    cond_both (eqb room 0) (Ok (Some seen)) (tpdu_parameter_in seen at room code octets >>= then)
    (Cut (length (code ∷ octets) < room)) (λ e. tt)
    (λ e. let ne : room ≢ 0 = eqb-false room 0 e in
    cut_bind (ParameterFound seen room code octets) (length (code ∷ octets) < room)
    (tpdu_parameter_in seen at room code octets) then (parameter_right seen at room code octets)
    (cut_as (length octets + 1 < room) (length (code ∷ octets) < room)
    (tpdu_parameter_in seen at room code octets) (λ few. omega arith)
    (parameter_cut seen at room code octets ne))
    (λ t one. let fits : t.count + 2 ≤ room = one.value.fits in
    cut_as (length octets < room - 1) (length (code ∷ octets) < room) (then t) (λ few. omega arith)
    (parameters_cut t.seen (at + 1) (room - 1) (t.count + 1) octets (omega arith))))

abbrev few_in : ℕ → List ℕ → Read Tpkt
few_in size octets = cond (leb size (length octets + 6)) (broken size whys.Short) (Ok None)

few_cut : (size : ℕ) (octets : List ℕ) → Cut (length octets + 6 < size) (few_in size octets)
few_cut size octets = cond_both (leb size (length octets + 6)) (broken size whys.Short) (Ok None)
    (Cut (length octets + 6 < size)) (λ e. tt) (λ e. leb-false size (length octets + 6) e)

connect_with_cut : (r : Bool) (Q : Type 0) (size target source : ℕ) (read : Read Parameters)
    → Cut Q read → Cut Q (connect_with r size target source read)
connect_with_cut true Q size target source (Ok (Some x)) c = tt
connect_with_cut true Q size target source (Ok None) c = c
connect_with_cut true Q size target source (Err f) c = tt
connect_with_cut false Q size target source (Ok (Some x)) c = tt
connect_with_cut false Q size target source (Ok None) c = c
connect_with_cut false Q size target source (Err f) c = tt

connect_cut : (r : Bool) (size : ℕ) (octets : List ℕ)
    → Cut (length octets + 6 < size) (connection_request_in r size octets)
unfolding connection_request_in
connect_cut r size [] = few_cut size []
connect_cut r size (a ∷ []) = few_cut size (a ∷ [])
connect_cut r size (a ∷ b ∷ []) = few_cut size (a ∷ b ∷ [])
connect_cut r size (a ∷ b ∷ c ∷ []) = few_cut size (a ∷ b ∷ c ∷ [])
connect_cut r size (a ∷ b ∷ c ∷ d ∷ []) = few_cut size (a ∷ b ∷ c ∷ d ∷ [])
connect_cut r size (th ∷ tl ∷ sh ∷ sl ∷ class ∷ octets) =
    let Q : Type 0 = length (th ∷ tl ∷ sh ∷ sl ∷ class ∷ octets) + 6 < size in
    let read : Read Parameters = parameters_in no_parameters 11 (size - 11) 0 octets in
    let whole : Read Tpkt = connect_with r size (th * 256 + tl) (sh * 256 + sl) read in
    let classed : Read Tpkt = cond (ltb class 16) whole (broken 10 whys.Value) in
    cond_both (ltb size 11) (broken size whys.Short) classed (Cut Q) (λ e. tt)
    (λ long. cond_both (ltb class 16) whole (broken 10 whys.Value) (Cut Q)
    (λ zero_class. connect_with_cut r Q size (th * 256 + tl) (sh * 256 + sl) read
    (cut_as (length octets < size - 11) Q read (λ few. omega arith)
    (parameters_cut no_parameters 11 (size - 11) 0 octets (omega arith))))
    (λ e. tt))

disconnect_cut : (size : ℕ) (octets : List ℕ)
    → Cut (length octets + 6 < size) (disconnect_in size octets)
unfolding disconnect_in
disconnect_cut size octets = cond_both (ltb (length octets + 6) size) (Ok None)
    (tpkt_of size disconnect) (Cut (length octets + 6 < size))
    (λ e. ltb-true (length octets + 6) size e) (λ e. tt)

part_cut : (total size : ℕ) (octets : List ℕ) → 7 ≤ size
    → Cut (length octets + 6 < size) (data_part_in total size octets)
unfolding data_part_in marked_in
part_cut total size [] long = cond_both (ltb TSDU_LIMIT (total + (size - 7))) (broken 2 whys.Long)
    (Ok None) (Cut (6 < size)) (λ e. tt) (λ e. omega arith)
part_cut total size (mark ∷ octets) long =
    let n = size - 7 in
    let Q : Type 0 = length (mark ∷ octets) + 6 < size in
    let whole : Read Tpkt = tpkt_of size (part (leb 128 mark) (take n octets)) in
    let there : Read Tpkt = cond (ltb (length octets) n) (Ok None) whole in
    let marked : Read Tpkt = cond (leb 128 mark && eqb (total + n) 0) (broken size whys.Short)
    there in
    cond_both (ltb TSDU_LIMIT (total + n)) (broken 2 whys.Long) marked (Cut Q) (λ e. tt)
    (λ within. cond_both (leb 128 mark && eqb (total + n) 0) (broken size whys.Short) there (Cut Q)
    (λ e. tt)
    (λ some. cond_both (ltb (length octets) n) (Ok None) whole (Cut Q)
    (λ e. let few : length octets < n = ltb-true (length octets) n e in omega arith) (λ e. tt)))

body_cut : (k : Kind) (total size : ℕ) (octets : List ℕ) → 7 ≤ size
    → Cut (length octets + 6 < size) (tpdu_body_in k total size octets)
unfolding tpdu_body_in
body_cut kinds.Request total size octets long = connect_cut true size octets
body_cut kinds.Confirm total size octets long = connect_cut false size octets
body_cut kinds.Disconnect total size octets long = disconnect_cut size octets
body_cut kinds.Part total size octets long = part_cut total size octets long

known_cut : (turn : Turn) (total size count : ℕ) (o : Option Kind) (octets : List ℕ) → 7 ≤ size
    → Cut (length octets + 6 < size) (known_in turn total size count o octets)
known_cut turn total size count None octets long = tt
known_cut turn total size count (Some k) octets long =
    let ordered : Read Tpkt = cond (may_come turn k) (tpdu_body_in k total size octets)
    (broken 0 whys.Order) in
    let P : Read Tpkt → Type 0 = Cut (length octets + 6 < size) in
    cond_both (is_count k size count) ordered (broken 4 whys.Length) P
    (λ counted. cond_both (may_come turn k) (tpdu_body_in k total size octets) (broken 0 whys.Order) P
    (λ order. body_cut k total size octets long) (λ e. tt))
    (λ e. tt)

tpdu_cut : (turn : Turn) (total size : ℕ) (octets : List ℕ) → 7 ≤ size
    → Cut (length octets + 4 < size) (tpdu_in turn total size octets)
unfolding tpdu_in
tpdu_cut turn total size [] long = omega arith
tpdu_cut turn total size (count ∷ []) long = omega arith
tpdu_cut turn total size (count ∷ code ∷ octets) long = cut_as (length octets + 6 < size)
    (length (count ∷ code ∷ octets) + 4 < size)
    (known_in turn total size count (tpdu_kind_of code) octets) (λ few. omega arith)
    (known_cut turn total size count (tpdu_kind_of code) octets long)

sized_cut : (turn : Turn) (total : ℕ) (octets : List ℕ) → get_or octets 1 0 < 256
    → get_or octets 2 0 < 256 → Cut (length octets + 1 ≤ 65534) (sized_in turn total octets)
unfolding sized_in
sized_cut turn total [] h l = omega arith
sized_cut turn total (a ∷ []) h l = omega arith
sized_cut turn total (a ∷ b ∷ []) h l = omega arith
sized_cut turn total (a ∷ high ∷ low ∷ octets) h l =
    let size = high * 256 + low in
    cond_both (ltb size 7) (broken 2 whys.Length) (tpdu_in turn total size octets)
    (Cut (length (a ∷ high ∷ low ∷ octets) + 1 ≤ 65534)) (λ e. tt)
    (λ long. cut_as (length octets + 4 < size) (length (a ∷ high ∷ low ∷ octets) + 1 ≤ 65534)
    (tpdu_in turn total size octets) (λ few. omega arith)
    (tpdu_cut turn total size octets (ltb-false size 7 long)))

tpkt_cut_of : (turn : Turn) (total : ℕ) (octets : List ℕ) → get_or octets 2 0 < 256
    → get_or octets 3 0 < 256 → Cut (length octets ≤ 65534) (tpkt_in turn total octets)
unfolding tpkt_in
tpkt_cut_of turn total [] h l = omega arith
tpkt_cut_of turn total (version ∷ octets) h l =
    cond_both (eqb version 3) (sized_in turn total octets) (broken 0 whys.Value)
    (Cut (length (version ∷ octets) ≤ 65534))
    (λ e. cut_as (length octets + 1 ≤ 65534) (length (version ∷ octets) ≤ 65534)
    (sized_in turn total octets) (λ few. omega arith) (sized_cut turn total octets h l))
    (λ e. tt)

-- octets that aren't a whole TPKT and break no rule are fewer than the longest TPKT has
pub tpkt_cut : (turn : Turn) (total : ℕ) (octets : List ℕ) → get_or octets 2 0 < 256
    → get_or octets 3 0 < 256 → tpkt_in turn total octets ≡ Ok None → length octets ≤ 65534
tpkt_cut turn total octets h l is = subst (λ (r : Read Tpkt). Cut (length octets ≤ 65534) r) is
    (tpkt_cut_of turn total octets h l)

-- a code's test as an equation
code_cases : (P : Parameters → Type 0) (seen : Parameters) (code : ℕ) (value : List ℕ)
    → ((code ≡ 192) → P (record seen { size = Some (get_or value 0 0) }))
    → ((code ≡ 193) → P (record seen { calling = Some value }))
    → ((code ≡ 194) → P (record seen { called = Some value })) → P seen
    → P (with_value seen code value)
code_cases P seen code value size calling called other =
    cond_both (eqb code 192) (record seen { size = Some (get_or value 0 0) })
    (cond (eqb code 193) (record seen { calling = Some value })
    (cond (eqb code 194) (record seen { called = Some value }) seen)) P
    (λ e. size (eqb-true code 192 e))
    (λ n1. cond_both (eqb code 193) (record seen { calling = Some value })
    (cond (eqb code 194) (record seen { called = Some value }) seen) P
    (λ e. calling (eqb-true code 193 e))
    (λ n2. cond_both (eqb code 194) (record seen { called = Some value }) seen P
    (λ e. called (eqb-true code 194 e)) (λ n3. other)))

selector_length : (count : ℕ) → (leb 1 count && leb count 32) ≡ true → (0 < count) × (count ≤ 32)
selector_length count e = let both = and_parts (leb 1 count) (leb count 32) e in
    (leb-true 1 count both.0, leb-true count 32 both.1)

size_value : (size : ℕ) → (not (eqb 192 192) || leb 7 size && leb size 13) ≡ true
    → (7 ≤ size) × (size ≤ 13)
size_value size e = let both = and_parts (leb 7 size) (leb size 13) e in
    (leb-true 7 size both.0, leb-true size 13 both.1)

parameters_add : (before : Parameters) (ps : List TpduParameter) (all : Parameters)
    → AreSoundParameters before → AddUp before ps all → AreSoundParameters all
parameters_add before [] all sound adds = subst AreSoundParameters (sym adds) sound
parameters_add before (p ∷ ps) all sound adds =
    parameters_add (with_value before p.code p.value) ps all
    (code_cases AreSoundParameters before p.code p.value
    (λ is. (
      sound.0,
      size_value (get_or p.value 0 0)
          (subst (λ (code : ℕ). is_value_of code (get_or p.value 0 0) ≡ true) is adds.2),
    ))
    (λ is. (
      (
        selector_length (length p.value)
            (subst (λ (code : ℕ). is_length_of code (length p.value) ≡ true) is adds.1),
        sound.0.1,
      ),
      sound.1,
    ))
    (λ is. (
      (
        sound.0.0,
        selector_length (length p.value)
            (subst (λ (code : ℕ). is_length_of code (length p.value) ≡ true) is adds.1),
      ),
      sound.1,
    ))
    sound)
    adds.3

pub sound_of : (tpdu : Tpdu) (octets : List ℕ) → SpellsTpkt tpdu octets → IsSoundTpdu tpdu
sound_of (request r) octets s = parameters_add no_parameters s.1.parameters r.parameters ((tt, tt), tt)
    s.1.adds_up
sound_of (confirm c) octets s = parameters_add no_parameters s.parameters c.parameters ((tt, tt), tt)
    s.adds_up
sound_of disconnect octets s = tt
sound_of (part last held) octets s = tt
