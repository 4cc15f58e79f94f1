-- A fault is answered only where a rule is broken, and wherever one is: the first.
use Rattle.std.proofs.Common.{◌≡◌, ◌≢◌, ℕ, zero, suc, ◌+◌, ◌-◌, ◌*◌, ◌<◌, ◌≤◌, Bool, true, false}
use Rattle.std.proofs.Common.{not, ◌&&◌, cond, eqb, ltb, leb, List, [], ◌∷◌, ◌++◌, length, take}
use Rattle.std.proofs.Common.{get_or, Option, Some, None, Ok, Err, refl, sym, ap, subst, ◌∙◌, inl}
use Rattle.std.proofs.Common.{inr, ◌⊎◌, arith, append_assoc}
use Rattle.std.proofs.lemmas.Bool.{cond_both, eqb-true, eqb-false, ltb-true, ltb-false, leb-true}
use Rattle.std.proofs.lemmas.Bool.{and_parts}
use Rattle.std.proofs.lemmas.List.{length-append, length-take-le}
use Rattle.ber_values.specs.declared.fault.Why.TheVariants as whys
use Rattle.tpkt_cotp.specs.declared.fault.CotpFault.{CotpFault}
use Rattle.tpkt_cotp.specs.declared.limits.TheConstants.{TSDU_LIMIT}
use Rattle.tpkt_cotp.specs.declared.tpdu.Parameters.{Parameters}
use Rattle.tpkt_cotp.specs.declared.turn.Turn.{Turn}
use Rattle.tpkt_cotp.specs.declared.turn.Kind.{Kind}
use Rattle.tpkt_cotp.specs.declared.turn.Kind.TheVariants as kinds
use Rattle.tpkt_cotp.specs.Turns.{tpdu_kind_of, may_come, is_count}
use Rattle.tpkt_cotp.specs.Tpdus.{disconnect, part, Tpkt, TpduParameter, parameter_octets}
use Rattle.tpkt_cotp.specs.Tpdus.{parameters_octets, AddUp, is_twice, is_length_of, is_value_of}
use Rattle.tpkt_cotp.specs.Tpdus.{with_value, no_parameters}
use Rattle.tpkt_cotp.specs.Readings.{Read, TakenParameter, broken, ◌>>=◌, tpkt_of, parameter_value_in, tpdu_parameter_in}
use Rattle.tpkt_cotp.specs.Readings.{parameters_in, connect_with, marked_in, data_part_in, disconnect_in}
use Rattle.tpkt_cotp.specs.Readings.{connection_request_in, tpdu_body_in, known_in, tpdu_in, sized_in, tpkt_in}
use Rattle.tpkt_cotp.specs.Faults.{WrongLength, WrongValue, TpduParameterFault, ParametersFault}
use Rattle.tpkt_cotp.specs.Faults.{ConnectFault, DataPartFault, BodyFault, KindFault, CodeFault}
use Rattle.tpkt_cotp.specs.Faults.{TpktFault}
use Rattle.tpkt_cotp.proofs.Exact.{Right}
use Rattle.tpkt_cotp.proofs.ExactConnect.{ParameterFound, parameter_right, same_front}

-- a refusal has its cause
abbrev pub Wrong : {X : Type 0} → (CotpFault → Type 0) → Read X → Type 0
Wrong Q (Ok (Some x)) = Unit {0}
Wrong Q (Ok None) = Unit {0}
Wrong Q (Err f) = Q f

wrong_as : {X : Type 0} (P Q : CotpFault → Type 0) (read : Read X) → ((f : CotpFault) → P f → Q f)
    → Wrong P read → Wrong Q read
wrong_as P Q (Ok (Some x)) to w = tt
wrong_as P Q (Ok None) to w = tt
wrong_as P Q (Err f) to w = to f w

wrong_bind : {X Y : Type 0} (P : X → Type 0) (Q : CotpFault → Type 0) (read : Read X)
    (f : X → Read Y) → Right P read → Wrong Q read → ((x : X) → P x → Wrong Q (f x))
    → Wrong Q (read >>= f)
wrong_bind P Q (Ok (Some x)) f right w then = then x right
wrong_bind P Q (Ok None) f right w then = tt
wrong_bind P Q (Err e) f right w then = w

unnot : (b : Bool) → not b ≡ false → b ≡ true
unnot true e = refl
unnot false e = absurd cc

undo_not : (b : Bool) → not b ≡ true → b ≡ false
undo_not true e = absurd cc
undo_not false e = refl

value_wrong : (seen : Parameters) (at room code : ℕ) (octets : List ℕ)
    → Wrong (λ f. WrongLength at room code octets f ⊎ WrongValue at room code octets f)
    (parameter_value_in seen at room code octets)
value_wrong seen at room code [] = tt
value_wrong seen at room code (count ∷ octets) =
    let sound : Bool = is_length_of code count && leb (count + 2) room in
    let whole : Read TakenParameter = Ok (Some (record
    { seen = with_value seen code (take count octets); count = count })) in
    let valued : Read TakenParameter = cond (is_value_of code (get_or (take count octets) 0 0)) whole
    (broken (at + 2) whys.Value) in
    let there : Read TakenParameter = cond (ltb (length octets) count) (Ok None) valued in
    let P : Read TakenParameter → Type 0 = Wrong (λ f. WrongLength at room code (count ∷ octets) f
    ⊎ WrongValue at room code (count ∷ octets) f) in
    cond_both (not sound) (broken (at + 1) whys.Length) there P
    (λ e. inl (record {
      count = count;
      values = octets;
      is = refl;
      wrong = undo_not sound e;
      fault = refl;
    }))
    (λ e. cond_both (ltb (length octets) count) (Ok None) valued P (λ s. tt)
    (λ enough. cond_both (is_value_of code (get_or (take count octets) 0 0)) whole
    (broken (at + 2) whys.Value) P (λ v. tt)
    (λ v. inr (record {
      count = count;
      values = octets;
      is = refl;
      right = unnot sound e;
      whole = ltb-false (length octets) count enough;
      wrong = v;
      fault = refl;
    }))))

parameter_wrong : (seen : Parameters) (at room code : ℕ) (octets : List ℕ)
    → Wrong (TpduParameterFault seen at room code octets) (tpdu_parameter_in seen at room code octets)
parameter_wrong seen at room code octets =
    let P : Read TakenParameter → Type 0 = Wrong (TpduParameterFault seen at room code octets) in
    let rest : Read TakenParameter = cond (eqb room 1) (broken (at + 1) whys.Short)
    (parameter_value_in seen at room code octets) in
    cond_both (is_twice seen code) (broken at whys.Tag) rest P (λ e. inl (e, refl))
    (λ new. cond_both (eqb room 1) (broken (at + 1) whys.Short) (parameter_value_in seen at room code octets)
    P (λ e. inr (new, inl (eqb-true room 1 e, refl)))
    (λ more. wrong_as (λ f. WrongLength at room code octets f ⊎ WrongValue at room code octets f)
    (TpduParameterFault seen at room code octets) (parameter_value_in seen at room code octets)
    (λ f w. inr (new, inr (eqb-false room 1 more, w))) (value_wrong seen at room code octets)))

-- so many octets are passed over, some parameters are spelled, and the next one breaks a rule
record PassedFault (seen : Parameters) (at room passed : ℕ) (octets : List ℕ) (f : CotpFault) :
    Type 0 where
  pub front : List ℕ
  pub parameters : List TpduParameter
  pub before : Parameters
  pub code : ℕ
  pub rest : List ℕ
  pub is : octets ≡ front ++ (parameters_octets parameters ++ code ∷ rest)
  pub passed_is : length front ≡ passed
  pub adds_up : AddUp seen parameters before
  pub within : passed + length (parameters_octets parameters) < room
  pub breaks : TpduParameterFault before (at + passed + length (parameters_octets parameters))
      (room - (passed + length (parameters_octets parameters))) code rest f

pub moved : (seen : Parameters) (at at' room room' code : ℕ) (octets : List ℕ) (f : CotpFault)
    → at ≡ at' → room ≡ room' → TpduParameterFault seen at room code octets f
    → TpduParameterFault seen at' room' code octets f
moved seen at at' room room' code octets f a r w =
    let P : ℕ → Type 0 = λ n. TpduParameterFault seen n room code octets f in
    let Q : ℕ → Type 0 = λ n. TpduParameterFault seen at' n code octets f in
    subst Q r (subst P a w)

one_passed : (seen : Parameters) (at room passed o : ℕ) (octets : List ℕ) (f : CotpFault)
    → suc passed ≤ room → PassedFault seen (at + 1) (room - 1) passed octets f
    → PassedFault seen at room (suc passed) (o ∷ octets) f
one_passed seen at room passed o octets f le w =
    let n = length (parameters_octets w.parameters) in
    record {
      front = o ∷ w.front;
      parameters = w.parameters;
      before = w.before;
      code = w.code;
      rest = w.rest;
      is = ap (λ (os : List ℕ). o ∷ os) w.is;
      passed_is = ap suc w.passed_is;
      adds_up = w.adds_up;
      within = omega (arith, w.within);
      breaks = moved w.before (at + 1 + passed + n) (at + suc passed + n) (room - 1 - (passed + n))
          (room - (suc passed + n)) w.code w.rest f (omega arith) (omega arith) w.breaks;
    }

at_front : (seen : Parameters) (at room code : ℕ) (octets : List ℕ) (f : CotpFault) → room ≢ 0
    → TpduParameterFault seen at room code octets f → PassedFault seen at room 0 (code ∷ octets) f
at_front seen at room code octets f some w = record {
  front = [];
  parameters = [];
  before = seen;
  code = code;
  rest = octets;
  is = refl;
  passed_is = refl;
  adds_up = refl;
  within = omega arith;
  breaks = moved seen at (at + 0 + 0) room (room - (0 + 0)) code octets f (omega arith)
      (omega arith) w;
}

behind_one : (seen : Parameters) (at room code : ℕ) (octets : List ℕ) (t : TakenParameter) (f : CotpFault)
    → ParameterFound seen room code octets t → PassedFault t.seen (at + 1) (room - 1) (t.count + 1)
    octets f → PassedFault seen at room 0 (code ∷ octets) f
behind_one seen at room code octets t f one w =
    let v = one.value in
    let value : List ℕ = take t.count v.values in
    let p : TpduParameter = record { code = code; value = value } in
    let len : length value ≡ t.count = length-take-le t.count v.values v.long in
    let tail : List ℕ = parameters_octets w.parameters ++ w.code ∷ w.rest in
    let front : w.front ≡ t.count ∷ value = same_front t.count v.values w.front tail
    (sym v.is ∙ w.is) w.passed_is in
    let spelled : code ∷ octets ≡ parameter_octets p ++ tail =
    ap (λ (os : List ℕ). code ∷ os) (w.is ∙ ap (λ (os : List ℕ). os ++ tail)
    (front ∙ ap (λ (n : ℕ). n ∷ value) (sym len))) in
    let e = length-append (parameter_octets p) (parameters_octets w.parameters) in
    let n = length (parameters_octets w.parameters) in
    let k : ℕ = length (parameters_octets (p ∷ w.parameters)) in
    record {
      front = [];
      parameters = p ∷ w.parameters;
      before = w.before;
      code = w.code;
      rest = w.rest;
      is = spelled ∙ sym (append_assoc (parameter_octets p) (parameters_octets w.parameters)
          (w.code ∷ w.rest));
      passed_is = refl;
      adds_up = (
        one.new,
        subst (λ (n : ℕ). is_length_of code n ≡ true) (sym len) v.may_count,
        v.may_be,
        subst (λ (s : Parameters). AddUp s w.parameters w.before) v.seen_is w.adds_up,
      );
      within = omega (arith, e, len, w.within);
      breaks = moved w.before (at + 1 + (t.count + 1) + n) (at + 0 + k)
          (room - 1 - (t.count + 1 + n)) (room - (0 + k)) w.code w.rest f (omega (arith, e, len))
          (omega (arith, e, len)) w.breaks;
    }

passed_wrong : (seen : Parameters) (at room passed : ℕ) (octets : List ℕ) → passed ≤ room
    → Wrong (PassedFault seen at room passed octets) (parameters_in seen at room passed octets)
unfolding parameters_in
passed_wrong seen at room zero [] le = cond_both (eqb room 0) (Ok (Some seen)) (Ok None)
    (Wrong (PassedFault seen at room 0 [])) (λ e. tt) (λ e. tt)
passed_wrong seen at room (suc passed) [] le = cond_both (eqb room 0) (Ok (Some seen)) (Ok None)
    (Wrong (PassedFault seen at room (suc passed) [])) (λ e. tt) (λ e. tt)
passed_wrong seen at room (suc passed) (o ∷ octets) le = wrong_as
    (PassedFault seen (at + 1) (room - 1) passed octets)
    (PassedFault seen at room (suc passed) (o ∷ octets))
    (parameters_in seen (at + 1) (room - 1) passed octets)
    (λ f w. one_passed seen at room passed o octets f le w)
    (passed_wrong seen (at + 1) (room - 1) passed octets (omega arith))
passed_wrong seen at room zero (code ∷ octets) le =
    let then : TakenParameter → Read Parameters = λ p. parameters_in p.seen (at + 1) (room - 1)
    (p.count + 1) octets in
    let Q : CotpFault → Type 0 = PassedFault seen at room 0 (code ∷ octets) in
    cond_both (eqb room 0) (Ok (Some seen)) (tpdu_parameter_in seen at room code octets >>= then)
    (Wrong Q) (λ e. tt)
    (λ e. wrong_bind (ParameterFound seen room code octets) Q
    (tpdu_parameter_in seen at room code octets) then (parameter_right seen at room code octets)
    (wrong_as (TpduParameterFault seen at room code octets) Q (tpdu_parameter_in seen at room code octets)
    (λ f w. at_front seen at room code octets f (eqb-false room 0 e) w)
    (parameter_wrong seen at room code octets))
    (λ t one. let fits : t.count + 2 ≤ room = one.value.fits in
    wrong_as (PassedFault t.seen (at + 1) (room - 1) (t.count + 1) octets) Q (then t)
    (λ f w. behind_one seen at room code octets t f one w)
    (passed_wrong t.seen (at + 1) (room - 1) (t.count + 1) octets (omega arith))))

none_of : (os : List ℕ) → length os ≡ 0 → os ≡ []
none_of [] e = refl
none_of (o ∷ os) e = absurd (omega arith)

parameters_wrong : (seen : Parameters) (at room : ℕ) (octets : List ℕ)
    → Wrong (ParametersFault seen at room octets) (parameters_in seen at room 0 octets)
parameters_wrong seen at room octets =
    wrong_as (PassedFault seen at room 0 octets) (ParametersFault seen at room octets)
    (parameters_in seen at room 0 octets)
    (λ f w. let n = length (parameters_octets w.parameters) in record {
      parameters = w.parameters;
      before = w.before;
      code = w.code;
      rest = w.rest;
      is = w.is ∙ ap (λ (os : List ℕ). os ++ (parameters_octets w.parameters ++ w.code ∷ w.rest))
          (none_of w.front w.passed_is);
      adds_up = w.adds_up;
      within = omega (arith, w.within);
      breaks = moved w.before (at + 0 + n) (at + n) (room - (0 + n)) (room - n) w.code w.rest f
          (omega arith) (omega arith) w.breaks;
    })
    (passed_wrong seen at room 0 octets (omega arith))

connect_with_wrong : (r : Bool) (Q : CotpFault → Type 0) (size target source : ℕ)
    (read : Read Parameters) → Wrong Q read → Wrong Q (connect_with r size target source read)
connect_with_wrong true Q size target source (Ok (Some x)) w = tt
connect_with_wrong true Q size target source (Ok None) w = tt
connect_with_wrong true Q size target source (Err f) w = w
connect_with_wrong false Q size target source (Ok (Some x)) w = tt
connect_with_wrong false Q size target source (Ok None) w = tt
connect_with_wrong false Q size target source (Err f) w = w

abbrev few_in : ℕ → List ℕ → Read Tpkt
few_in size octets = cond (leb size (length octets + 6)) (broken size whys.Short) (Ok None)

few_wrong : (size : ℕ) (octets : List ℕ) → length octets < 5
    → Wrong (ConnectFault size octets) (few_in size octets)
few_wrong size octets few = cond_both (leb size (length octets + 6)) (broken size whys.Short)
    (Ok None) (Wrong (ConnectFault size octets))
    (λ e. let le : size ≤ length octets + 6 = leb-true size (length octets + 6) e in inl
    (record { short = omega arith; whole = le; fault = refl })) (λ e. tt)

connect_wrong : (r : Bool) (size : ℕ) (octets : List ℕ)
    → Wrong (ConnectFault size octets) (connection_request_in r size octets)
unfolding connection_request_in
connect_wrong r size [] = few_wrong size [] (omega arith)
connect_wrong r size (a ∷ []) = few_wrong size (a ∷ []) (omega arith)
connect_wrong r size (a ∷ b ∷ []) = few_wrong size (a ∷ b ∷ []) (omega arith)
connect_wrong r size (a ∷ b ∷ c ∷ []) = few_wrong size (a ∷ b ∷ c ∷ []) (omega arith)
connect_wrong r size (a ∷ b ∷ c ∷ d ∷ []) = few_wrong size (a ∷ b ∷ c ∷ d ∷ []) (omega arith)
connect_wrong r size (a ∷ b ∷ c ∷ d ∷ class ∷ octets) =
    let Q : CotpFault → Type 0 = ConnectFault size (a ∷ b ∷ c ∷ d ∷ class ∷ octets) in
    let read : Read Parameters = parameters_in no_parameters 11 (size - 11) 0 octets in
    let whole : Read Tpkt = connect_with r size (a * 256 + b) (c * 256 + d) read in
    cond_both (ltb size 11) (broken size whys.Short)
    (cond (ltb class 16) whole (broken 10 whys.Value)) (Wrong Q)
    (λ e. let short : size < 11 = ltb-true size 11 e in inl
    (record { short = short; whole = omega arith; fault = refl }))
    (λ long. let le : 11 ≤ size = ltb-false size 11 long in
    cond_both (ltb class 16) whole (broken 10 whys.Value) (Wrong Q)
    (λ zero_class. connect_with_wrong r Q size (a * 256 + b) (c * 256 + d) read
    (wrong_as (ParametersFault no_parameters 11 (size - 11) octets) Q read
    (λ f w. inr (record {
      target_high = a;
      target_low = b;
      source_high = c;
      source_low = d;
      class = class;
      rest = octets;
      is = refl;
      long = le;
      breaks = inr (ltb-true class 16 zero_class, w);
    }))
    (parameters_wrong no_parameters 11 (size - 11) octets)))
    (λ e. inr (record {
      target_high = a;
      target_low = b;
      source_high = c;
      source_low = d;
      class = class;
      rest = octets;
      is = refl;
      long = le;
      breaks = inl (ltb-false class 16 e, refl);
    })))

part_wrong : (total size : ℕ) (octets : List ℕ)
    → Wrong (DataPartFault (total + (size - 7)) size octets) (data_part_in total size octets)
unfolding data_part_in marked_in
part_wrong total size [] =
    let sum = total + (size - 7) in
    cond_both (ltb TSDU_LIMIT sum) (broken 2 whys.Long) (Ok None) (Wrong (DataPartFault sum size []))
    (λ e. inl (ltb-true TSDU_LIMIT sum e, refl)) (λ e. tt)
part_wrong total size (mark ∷ octets) =
    let sum = total + (size - 7) in
    let Q : CotpFault → Type 0 = DataPartFault sum size (mark ∷ octets) in
    let whole : Read Tpkt = tpkt_of size (part (leb 128 mark) (take (size - 7) octets)) in
    let there : Read Tpkt = cond (ltb (length octets) (size - 7)) (Ok None) whole in
    cond_both (ltb TSDU_LIMIT sum) (broken 2 whys.Long)
    (cond (leb 128 mark && eqb sum 0) (broken size whys.Short) there) (Wrong Q)
    (λ e. inl (ltb-true TSDU_LIMIT sum e, refl))
    (λ within. cond_both (leb 128 mark && eqb sum 0) (broken size whys.Short) there (Wrong Q)
    (λ e. let both = and_parts (leb 128 mark) (eqb sum 0) e in inr (
      ltb-false TSDU_LIMIT sum within,
      record {
        mark = mark;
        rest = octets;
        is = refl;
        last = leb-true 128 mark both.0;
        empty = eqb-true sum 0 both.1;
        fault = refl;
      },
    ))
    (λ e. cond_both (ltb (length octets) (size - 7)) (Ok None) whole (Wrong Q) (λ s. tt)
    (λ s. tt)))

body_wrong : (k : Kind) (total size : ℕ) (octets : List ℕ)
    → Wrong (BodyFault k total size octets) (tpdu_body_in k total size octets)
unfolding tpdu_body_in disconnect_in
body_wrong kinds.Request total size octets = connect_wrong true size octets
body_wrong kinds.Confirm total size octets = connect_wrong false size octets
body_wrong kinds.Disconnect total size octets = cond_both (ltb (length octets + 6) size) (Ok None)
    (tpkt_of size disconnect) (Wrong (λ f. ⊥)) (λ e. tt) (λ e. tt)
body_wrong kinds.Part total size octets = part_wrong total size octets

known_wrong : (turn : Turn) (total size count : ℕ) (o : Option Kind) (octets : List ℕ)
    → Wrong (CodeFault turn total size count o octets) (known_in turn total size count o octets)
known_wrong turn total size count None octets = refl
known_wrong turn total size count (Some k) octets =
    let Q : CotpFault → Type 0 = KindFault turn total size count k octets in
    let ordered : Read Tpkt = cond (may_come turn k) (tpdu_body_in k total size octets)
    (broken 0 whys.Order) in
    cond_both (is_count k size count) ordered (broken 4 whys.Length) (Wrong Q)
    (λ counted. cond_both (may_come turn k) (tpdu_body_in k total size octets) (broken 0 whys.Order)
    (Wrong Q)
    (λ order. wrong_as (BodyFault k total size octets) Q (tpdu_body_in k total size octets)
    (λ f w. inr (counted, inr (order, w))) (body_wrong k total size octets))
    (λ e. inr (counted, inl (e, refl))))
    (λ e. inl (e, refl))

tpdu_wrong : (turn : Turn) (total reserved high low : ℕ) (octets : List ℕ) → 7 ≤ high * 256 + low
    → Wrong (TpktFault turn total (3 ∷ reserved ∷ high ∷ low ∷ octets))
    (tpdu_in turn total (high * 256 + low) octets)
unfolding tpdu_in
tpdu_wrong turn total reserved high low [] long = tt
tpdu_wrong turn total reserved high low (count ∷ []) long = tt
tpdu_wrong turn total reserved high low (count ∷ code ∷ octets) long =
    wrong_as (CodeFault turn total (high * 256 + low) count (tpdu_kind_of code) octets)
    (TpktFault turn total (3 ∷ reserved ∷ high ∷ low ∷ count ∷ code ∷ octets))
    (known_in turn total (high * 256 + low) count (tpdu_kind_of code) octets)
    (λ f w. inr (inr (record {
      reserved = reserved;
      high = high;
      low = low;
      count = count;
      code = code;
      rest = octets;
      is = refl;
      long = long;
      breaks = w;
    })))
    (known_wrong turn total (high * 256 + low) count (tpdu_kind_of code) octets)

sized_wrong : (turn : Turn) (total : ℕ) (octets : List ℕ)
    → Wrong (TpktFault turn total (3 ∷ octets)) (sized_in turn total octets)
unfolding sized_in
sized_wrong turn total [] = tt
sized_wrong turn total (a ∷ []) = tt
sized_wrong turn total (a ∷ b ∷ []) = tt
sized_wrong turn total (a ∷ high ∷ low ∷ octets) =
    cond_both (ltb (high * 256 + low) 7) (broken 2 whys.Length)
    (tpdu_in turn total (high * 256 + low) octets)
    (Wrong (TpktFault turn total (3 ∷ a ∷ high ∷ low ∷ octets)))
    (λ e. inr (inl (record {
      reserved = a;
      high = high;
      low = low;
      rest = octets;
      is = refl;
      wrong = ltb-true (high * 256 + low) 7 e;
      fault = refl;
    })))
    (λ e. tpdu_wrong turn total a high low octets (ltb-false (high * 256 + low) 7 e))

tpkt_wrong : (turn : Turn) (total : ℕ) (octets : List ℕ)
    → Wrong (TpktFault turn total octets) (tpkt_in turn total octets)
unfolding tpkt_in
tpkt_wrong turn total [] = tt
tpkt_wrong turn total (version ∷ octets) =
    cond_both (eqb version 3) (sized_in turn total octets) (broken 0 whys.Value)
    (Wrong (TpktFault turn total (version ∷ octets)))
    (λ e. let P : ℕ → Type 0 = λ v. Wrong (TpktFault turn total (v ∷ octets))
    (sized_in turn total octets) in subst P (sym (eqb-true version 3 e))
    (sized_wrong turn total octets))
    (λ e. inl (record {
      version = version;
      rest = octets;
      is = refl;
      wrong = eqb-false version 3 e;
      fault = refl;
    }))

-- a fault is answered only where a rule is broken
pub fault_found : (turn : Turn) (total : ℕ) (octets : List ℕ) (f : CotpFault)
    → tpkt_in turn total octets ≡ Err f → TpktFault turn total octets f
fault_found turn total octets f is = subst
    (λ (r : Read Tpkt). Wrong (TpktFault turn total octets) r) is (tpkt_wrong turn total octets)
