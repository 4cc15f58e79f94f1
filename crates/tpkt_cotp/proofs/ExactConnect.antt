-- A connect request or confirm is read only where it is spelled.
use Rattle.std.proofs.Common.{◌≡◌, ◌≢◌, ℕ, zero, suc, ◌+◌, ◌-◌, ◌*◌, ◌<◌, ◌≤◌, Bool, true, false}
use Rattle.std.proofs.Common.{not, ◌&&◌, cond, eqb, ltb, leb, List, [], ◌∷◌, ◌++◌, length, take}
use Rattle.std.proofs.Common.{drop, get_or, Some, None, Ok, Err, refl, sym, ap, subst, ◌∙◌, arith}
use Rattle.std.proofs.Common.{append_assoc}
use Rattle.std.proofs.lemmas.Bool.{cond_both, eqb-true, eqb-false, ltb-true, ltb-false, leb-true}
use Rattle.std.proofs.lemmas.Bool.{and_parts, not-false}
use Rattle.std.proofs.lemmas.List.{take_at, length-append, length-take-le}
use Rattle.ber_values.specs.declared.fault.Why.TheVariants as whys
use Rattle.tpkt_cotp.specs.declared.tpdu.Parameters.{Parameters}
use Rattle.tpkt_cotp.specs.declared.turn.Turn.{Turn}
use Rattle.tpkt_cotp.specs.declared.turn.Kind.{Kind}
use Rattle.tpkt_cotp.specs.declared.turn.Kind.TheVariants as kinds
use Rattle.tpkt_cotp.specs.Turns.{may_come}
use Rattle.tpkt_cotp.specs.Tpdus.{request, confirm, Tpkt, TpduParameter, parameter_octets}
use Rattle.tpkt_cotp.specs.Tpdus.{parameters_octets, AddUp, is_twice, is_length_of, is_value_of}
use Rattle.tpkt_cotp.specs.Tpdus.{with_value, no_parameters, SpellsConnect}
use Rattle.tpkt_cotp.specs.Readings.{Read, TakenParameter, broken, ◌>>=◌, tpkt_of, parameter_value_in, tpdu_parameter_in}
use Rattle.tpkt_cotp.specs.Readings.{parameters_in, connect_with, connection_request_in}
use Rattle.tpkt_cotp.proofs.Exact.{Right, Begins, headed}

pub right_bind : {X Y : Type 0} (P : X → Type 0) (Q : Y → Type 0) (read : Read X) (f : X → Read Y)
    → Right P read → ((x : X) → P x → Right Q (f x)) → Right Q (read >>= f)
right_bind P Q (Ok (Some x)) f right then = then x right
right_bind P Q (Ok None) f right then = tt
right_bind P Q (Err e) f right then = tt

pub right_as : {X : Type 0} (P Q : X → Type 0) (read : Read X) → ((x : X) → P x → Q x)
    → Right P read → Right Q read
right_as P Q (Ok (Some x)) to right = to x right
right_as P Q (Ok None) to right = tt
right_as P Q (Err e) to right = tt

-- what stands behind the code of a parameter
pub record ValueFound (seen : Parameters) (room code : ℕ) (octets : List ℕ) (t : TakenParameter) : Type 0
  where
    pub values : List ℕ
    pub is : octets ≡ t.count ∷ values
    pub seen_is : t.seen ≡ with_value seen code (take t.count values)
    pub may_count : is_length_of code t.count ≡ true
    pub may_be : is_value_of code (get_or (take t.count values) 0 0) ≡ true
    pub fits : t.count + 2 ≤ room
    pub long : t.count ≤ length values

value_right : (seen : Parameters) (at room code : ℕ) (octets : List ℕ)
    → Right (ValueFound seen room code octets) (parameter_value_in seen at room code octets)
value_right seen at room code [] = tt
value_right seen at room code (count ∷ octets) =
    let P : Read TakenParameter → Type 0 = Right (ValueFound seen room code (count ∷ octets)) in
    let whole : Read TakenParameter = Ok (Some (record
    { seen = with_value seen code (take count octets); count = count })) in
    let valued : Read TakenParameter = cond (is_value_of code (get_or (take count octets) 0 0)) whole
    (broken (at + 2) whys.Value) in
    let there : Read TakenParameter = cond (ltb (length octets) count) (Ok None) valued in
    cond_both (not (is_length_of code count && leb (count + 2) room)) (broken (at + 1) whys.Length)
    there P (λ e. tt)
    (λ sound. cond_both (ltb (length octets) count) (Ok None) valued P (λ e. tt)
    (λ enough. cond_both (is_value_of code (get_or (take count octets) 0 0)) whole
    (broken (at + 2) whys.Value) P
    (λ value.
    let both = and_parts (is_length_of code count) (leb (count + 2) room)
    (not-false (is_length_of code count && leb (count + 2) room) sound) in
    record {
      values = octets;
      is = refl;
      seen_is = refl;
      may_count = both.0;
      may_be = value;
      fits = leb-true (count + 2) room both.1;
      long = ltb-false (length octets) count enough;
    })
    (λ e. tt)))

pub record ParameterFound (seen : Parameters) (room code : ℕ) (octets : List ℕ) (t : TakenParameter) : Type
    0 where
  pub new : is_twice seen code ≡ false
  pub value : ValueFound seen room code octets t

pub parameter_right : (seen : Parameters) (at room code : ℕ) (octets : List ℕ)
    → Right (ParameterFound seen room code octets) (tpdu_parameter_in seen at room code octets)
parameter_right seen at room code octets =
    let P : Read TakenParameter → Type 0 = Right (ParameterFound seen room code octets) in
    let rest : Read TakenParameter = cond (eqb room 1) (broken (at + 1) whys.Short)
    (parameter_value_in seen at room code octets) in
    cond_both (is_twice seen code) (broken at whys.Tag) rest P (λ e. tt)
    (λ new. cond_both (eqb room 1) (broken (at + 1) whys.Short) (parameter_value_in seen at room code octets)
    P (λ e. tt)
    (λ more. right_as (ValueFound seen room code octets) (ParameterFound seen room code octets)
    (parameter_value_in seen at room code octets) (λ t value. record { new = new; value = value })
    (value_right seen at room code octets)))

-- so many octets are passed over, then parameters fill the room
pub record ParametersFound (seen : Parameters) (room passed : ℕ) (octets : List ℕ)
    (all : Parameters) : Type 0 where
  pub front : List ℕ
  pub parameters : List TpduParameter
  pub rest : List ℕ
  pub is : octets ≡ front ++ (parameters_octets parameters ++ rest)
  pub passed_is : length front ≡ passed
  pub room_is : passed + length (parameters_octets parameters) ≡ room
  pub adds_up : AddUp seen parameters all

all_found : (seen : Parameters) (room : ℕ) (octets : List ℕ) → room ≡ 0
    → ParametersFound seen room 0 octets seen
all_found seen room octets is = record {
  front = [];
  parameters = [];
  rest = octets;
  is = refl;
  passed_is = refl;
  room_is = sym is;
  adds_up = refl;
}

one_more : (seen : Parameters) (room passed o : ℕ) (octets : List ℕ) (all : Parameters)
    → suc passed ≤ room → ParametersFound seen (room - 1) passed octets all
    → ParametersFound seen room (suc passed) (o ∷ octets) all
one_more seen room passed o octets all le found = record {
  front = o ∷ found.front;
  parameters = found.parameters;
  rest = found.rest;
  is = ap (λ (os : List ℕ). o ∷ os) found.is;
  passed_is = ap suc found.passed_is;
  room_is = omega (arith, found.room_is);
  adds_up = found.adds_up;
}

-- the passed octets are the count and the value
pub same_front : (count : ℕ) (values front more : List ℕ) → count ∷ values ≡ front ++ more
    → length front ≡ count + 1 → front ≡ count ∷ take count values
same_front count values [] more e len = absurd (omega arith)
same_front count values (f ∷ front) more e len =
    let first : count ≡ f = ap (λ (os : List ℕ). get_or os 0 0) e in
    let others : values ≡ front ++ more = ap (λ (os : List ℕ). drop 1 os) e in
    let few : length front ≡ count = omega arith in
    let value : take count values ≡ front = ap (λ (os : List ℕ). take count os) others
    ∙ take_at front more count few in
    ap (λ (n : ℕ). n ∷ front) (sym first) ∙ ap (λ (os : List ℕ). count ∷ os) (sym value)

joined : (seen : Parameters) (room code : ℕ) (octets : List ℕ) (t : TakenParameter) (all : Parameters)
    → room ≢ 0 → ParameterFound seen room code octets t
    → ParametersFound t.seen (room - 1) (t.count + 1) octets all
    → ParametersFound seen room 0 (code ∷ octets) all
joined seen room code octets t all some one more =
    let v = one.value in
    let value : List ℕ = take t.count v.values in
    let p : TpduParameter = record { code = code; value = value } in
    let len : length value ≡ t.count = length-take-le t.count v.values v.long in
    let front : more.front ≡ t.count ∷ value = same_front t.count v.values more.front
    (parameters_octets more.parameters ++ more.rest) (sym v.is ∙ more.is) more.passed_is in
    let spelled : code ∷ octets ≡ parameter_octets p ++
    (parameters_octets more.parameters ++ more.rest) =
    ap (λ (os : List ℕ). code ∷ os) (more.is ∙ ap
    (λ (os : List ℕ). os ++ (parameters_octets more.parameters ++ more.rest))
    (front ∙ ap (λ (n : ℕ). n ∷ value) (sym len))) in
    record {
      front = [];
      parameters = p ∷ more.parameters;
      rest = more.rest;
      is = spelled ∙ sym (append_assoc (parameter_octets p) (parameters_octets more.parameters)
          more.rest);
      passed_is = refl;
      room_is = let e = length-append (parameter_octets p) (parameters_octets more.parameters) in
          omega (arith, e, len, more.room_is);
      adds_up = (
        one.new,
        subst (λ (n : ℕ). is_length_of code n ≡ true) (sym len) v.may_count,
        v.may_be,
        subst (λ (s : Parameters). AddUp s more.parameters all) v.seen_is more.adds_up,
      );
    }

pub parameters_right : (seen : Parameters) (at room passed : ℕ) (octets : List ℕ) → passed ≤ room
    → Right (ParametersFound seen room passed octets) (parameters_in seen at room passed octets)
unfolding parameters_in
parameters_right seen at room zero [] le =
    cond_both (eqb room 0) (Ok (Some seen)) (Ok None) (Right (ParametersFound seen room 0 []))
    (λ e. all_found seen room [] (eqb-true room 0 e)) (λ e. tt)
parameters_right seen at room (suc passed) [] le =
    cond_both (eqb room 0) (Ok (Some seen)) (Ok None)
    (Right (ParametersFound seen room (suc passed) []))
    (λ e. absurd (omega (arith, eqb-true room 0 e))) (λ e. tt)
parameters_right seen at room (suc passed) (o ∷ octets) le =
    right_as (ParametersFound seen (room - 1) passed octets)
    (ParametersFound seen room (suc passed) (o ∷ octets))
    (parameters_in seen (at + 1) (room - 1) passed octets)
    (λ all found. one_more seen room passed o octets all le found)
    (parameters_right seen (at + 1) (room - 1) passed octets (omega arith))
parameters_right seen at room zero (code ∷ octets) le =
    let then : TakenParameter → Read Parameters = λ p. parameters_in p.seen (at + 1) (room - 1)
    (p.count + 1) octets in
    let Q : Read Parameters → Type 0 = Right (ParametersFound seen room 0 (code ∷ octets)) in
    cond_both (eqb room 0) (Ok (Some seen)) (tpdu_parameter_in seen at room code octets >>= then) Q
    (λ e. all_found seen room (code ∷ octets) (eqb-true room 0 e))
    (λ e. right_bind (ParameterFound seen room code octets)
    (ParametersFound seen room 0 (code ∷ octets)) (tpdu_parameter_in seen at room code octets) then
    (parameter_right seen at room code octets)
    (λ t one. let fits : t.count + 2 ≤ room = one.value.fits in
    right_as (ParametersFound t.seen (room - 1) (t.count + 1) octets)
    (ParametersFound seen room 0 (code ∷ octets)) (then t)
    (λ all more. joined seen room code octets t all (eqb-false room 0 e) one more)
    (parameters_right t.seen (at + 1) (room - 1) (t.count + 1) octets (omega arith))))

-- a connect request or confirm whose parameters were found
connect_whole : (size_high size_low reserved count code : ℕ) (th tl sh sl class : ℕ)
    (octets : List ℕ) (all : Parameters) → 11 ≤ size_high * 256 + size_low
    → count + 5 ≡ size_high * 256 + size_low → class < 16
    → (found : ParametersFound no_parameters (size_high * 256 + size_low - 11) 0 octets all)
    → SpellsConnect code (th * 256 + tl) (sh * 256 + sl) all
    (headed reserved size_high size_low count code
    (th ∷ tl ∷ sh ∷ sl ∷ class ∷ parameters_octets found.parameters))
connect_whole high low reserved count code th tl sh sl class octets all long counted zero_class
    found = record {
      reserved = reserved;
      high = high;
      low = low;
      count = count;
      target_high = th;
      target_low = tl;
      source_high = sh;
      source_low = sl;
      class = class;
      parameters = found.parameters;
      is = refl;
      size = omega (arith, found.room_is);
      counted = counted;
      target_is = refl;
      source_is = refl;
      class_zero = zero_class;
      adds_up = found.adds_up;
    }

-- nothing was passed over
at_once : (seen : Parameters) (room : ℕ) (octets : List ℕ) (all : Parameters)
    (found : ParametersFound seen room 0 octets all)
    → octets ≡ parameters_octets found.parameters ++ found.rest
at_once seen room octets all found = found.is
    ∙ ap (λ (os : List ℕ). os ++ (parameters_octets found.parameters ++ found.rest))
    (none found.front found.passed_is)
  where
    none : (os : List ℕ) → length os ≡ 0 → os ≡ []
    none [] e = refl
    none (o ∷ os) e = absurd (omega arith)

abbrev pub connect_kind : Bool → Kind
connect_kind true = kinds.Request
connect_kind false = kinds.Confirm

abbrev pub connect_code : Bool → ℕ
connect_code true = 224
connect_code false = 208

connect_with_right : (turn : Turn) (total high low reserved count th tl sh sl class : ℕ)
    (octets : List ℕ) (is_request : Bool) → may_come turn (connect_kind is_request) ≡ true
    → 11 ≤ high * 256 + low → count + 5 ≡ high * 256 + low → class < 16
    → Right (Begins turn total (headed reserved high low count (connect_code is_request)
    (th ∷ tl ∷ sh ∷ sl ∷ class ∷ octets))) (connect_with is_request (high * 256 + low)
    (th * 256 + tl) (sh * 256 + sl) (parameters_in no_parameters 11 (high * 256 + low - 11) 0
    octets))
connect_with_right turn total high low reserved count th tl sh sl class octets true order long
    counted zero_class =
    right_bind (ParametersFound no_parameters (high * 256 + low - 11) 0 octets)
    (Begins turn total (headed reserved high low count 224
    (th ∷ tl ∷ sh ∷ sl ∷ class ∷ octets))) (parameters_in no_parameters 11
    (high * 256 + low - 11) 0 octets)
    (λ p. tpkt_of (high * 256 + low) (request (record { source = sh * 256 + sl; parameters = p })))
    (parameters_right no_parameters 11 (high * 256 + low - 11) 0 octets (omega arith))
    (λ all found. record {
      spelling = headed reserved high low count 224
          (th ∷ tl ∷ sh ∷ sl ∷ class ∷ parameters_octets found.parameters);
      rest = found.rest;
      is = ap (λ (os : List ℕ). headed reserved high low count 224
          (th ∷ tl ∷ sh ∷ sl ∷ class ∷ os)) (at_once no_parameters (high * 256 + low - 11) octets
          all found);
      size = omega (arith, found.room_is);
      spelled = (
        th * 256 + tl,
        connect_whole high low reserved count 224 th tl sh sl class octets
            all long counted zero_class found,
      );
      comes = record { order = order; fits = tt };
    })
connect_with_right turn total high low reserved count th tl sh sl class octets false order long
    counted zero_class =
    right_bind (ParametersFound no_parameters (high * 256 + low - 11) 0 octets)
    (Begins turn total (headed reserved high low count 208
    (th ∷ tl ∷ sh ∷ sl ∷ class ∷ octets))) (parameters_in no_parameters 11
    (high * 256 + low - 11) 0 octets)
    (λ p. tpkt_of (high * 256 + low) (confirm
    (record { target = th * 256 + tl; source = sh * 256 + sl; parameters = p })))
    (parameters_right no_parameters 11 (high * 256 + low - 11) 0 octets (omega arith))
    (λ all found. record {
      spelling = headed reserved high low count 208
          (th ∷ tl ∷ sh ∷ sl ∷ class ∷ parameters_octets found.parameters);
      rest = found.rest;
      is = ap (λ (os : List ℕ). headed reserved high low count 208
          (th ∷ tl ∷ sh ∷ sl ∷ class ∷ os)) (at_once no_parameters (high * 256 + low - 11) octets
          all found);
      size = omega (arith, found.room_is);
      spelled = connect_whole high low reserved count 208 th tl sh sl class octets all long counted
          zero_class found;
      comes = record { order = order; fits = tt };
    })

-- too few octets behind the code
few_right : (P : Tpkt → Type 0) (size : ℕ) (octets : List ℕ)
    → Right P (cond (leb size (length octets + 6)) (broken size whys.Short) (Ok None))
few_right P size octets = cond_both (leb size (length octets + 6)) (broken size whys.Short)
    (Ok None) (Right P) (λ e. tt) (λ e. tt)

pub connect_right : (turn : Turn) (total high low reserved count : ℕ) (octets : List ℕ)
    (is_request : Bool) → may_come turn (connect_kind is_request) ≡ true
    → count + 5 ≡ high * 256 + low
    → Right (Begins turn total (headed reserved high low count (connect_code is_request) octets))
    (connection_request_in is_request (high * 256 + low) octets)
unfolding connection_request_in
connect_right turn total high low reserved count [] r order counted = few_right _
    (high * 256 + low) []
connect_right turn total high low reserved count (a ∷ []) r order counted = few_right _
    (high * 256 + low) (a ∷ [])
connect_right turn total high low reserved count (a ∷ b ∷ []) r order counted = few_right _
    (high * 256 + low) (a ∷ b ∷ [])
connect_right turn total high low reserved count (a ∷ b ∷ c ∷ []) r order counted = few_right _
    (high * 256 + low) (a ∷ b ∷ c ∷ [])
connect_right turn total high low reserved count (a ∷ b ∷ c ∷ d ∷ []) r order counted = few_right _
    (high * 256 + low) (a ∷ b ∷ c ∷ d ∷ [])
connect_right turn total high low reserved count (th ∷ tl ∷ sh ∷ sl ∷ class ∷ octets) r order
    counted =
    let size = high * 256 + low in
    let P : Read Tpkt → Type 0 = Right (Begins turn total
    (headed reserved high low count (connect_code r) (th ∷ tl ∷ sh ∷ sl ∷ class ∷ octets))) in
    let whole : Read Tpkt = connect_with r size (th * 256 + tl) (sh * 256 + sl)
    (parameters_in no_parameters 11 (size - 11) 0 octets) in
    let classed : Read Tpkt = cond (ltb class 16) whole (broken 10 whys.Value) in
    cond_both (ltb size 11) (broken size whys.Short) classed P (λ e. tt)
    (λ long. cond_both (ltb class 16) whole (broken 10 whys.Value) P
    (λ zero_class. connect_with_right turn total high low reserved count th tl sh sl class octets r
    order (ltb-false size 11 long) counted (ltb-true class 16 zero_class))
    (λ e. tt))
