-- What was read, and what was refused, stays so whatever octets follow.
use Rattle.std.proofs.Common.{◌≡◌, ℕ, zero, suc, ◌+◌, ◌-◌, ◌*◌, ◌<◌, ◌≤◌, Bool, true, false, not}
use Rattle.std.proofs.Common.{◌&&◌, cond, eqb, ltb, leb, List, [], ◌∷◌, ◌++◌, length, take, get_or}
use Rattle.std.proofs.Common.{Option, Some, None, Ok, Err, refl, sym, ap, subst, arith}
use Rattle.std.proofs.lemmas.Bool.{cond_both, eqb-true, ltb-false, leb-true, lt-ltb, le-ltb, le-leb}
use Rattle.std.proofs.lemmas.List.{length-append, take-append-le}
use Rattle.ber_values.specs.declared.fault.Why.TheVariants as whys
use Rattle.tpkt_cotp.specs.declared.fault.CotpFault.{CotpFault}
use Rattle.tpkt_cotp.specs.declared.limits.TheConstants.{TSDU_LIMIT}
use Rattle.tpkt_cotp.specs.declared.tpdu.Parameters.{Parameters}
use Rattle.tpkt_cotp.specs.declared.turn.Turn.{Turn}
use Rattle.tpkt_cotp.specs.declared.turn.Kind.{Kind}
use Rattle.tpkt_cotp.specs.declared.turn.Kind.TheVariants as kinds
use Rattle.tpkt_cotp.specs.Turns.{tpdu_kind_of, may_come, is_count}
use Rattle.tpkt_cotp.specs.Tpdus.{disconnect, Tpkt, is_twice, is_length_of, is_value_of, with_value}
use Rattle.tpkt_cotp.specs.Tpdus.{no_parameters}
use Rattle.tpkt_cotp.specs.Readings.{Read, TakenParameter, broken, ◌>>=◌, tpkt_of, parameter_value_in, tpdu_parameter_in}
use Rattle.tpkt_cotp.specs.Readings.{parameters_in, connect_with, marked_in, data_part_in, disconnect_in}
use Rattle.tpkt_cotp.specs.Readings.{connection_request_in, tpdu_body_in, known_in, tpdu_in, sized_in, tpkt_in}
use Rattle.tpkt_cotp.proofs.Exact.{Right}
use Rattle.tpkt_cotp.proofs.ExactConnect.{ParameterFound, parameter_right}
use Rattle.tpkt_cotp.proofs.Passing.{parameters_in-done}

abbrev pub Stays : {X : Type 0} → Read X → Read X → Type 0
Stays (Ok (Some x)) r = r ≡ Ok (Some x)
Stays (Ok None) r = Unit {0}
Stays (Err f) r = r ≡ Err f

same : {X : Type 0} (r : Read X) → Stays r r
same (Ok (Some x)) = refl
same (Ok None) = tt
same (Err f) = refl

branch : {X : Type 0} (b : Bool) (x y x' y' : Read X) → (b ≡ true → Stays x x')
    → (b ≡ false → Stays y y') → Stays (cond b x y) (cond b x' y')
branch true x y x' y' t f = t refl
branch false x y x' y' t f = f refl

bind : {X Y : Type 0} (P : X → Type 0) (r r' : Read X) (f g : X → Read Y) → Right P r → Stays r r'
    → ((x : X) → P x → Stays (f x) (g x)) → Stays (r >>= f) (r' >>= g)
bind {X = X} P (Ok (Some x)) r' f g right s then = let Q : Read X
    → Type 0 = λ q. Stays (f x) (q >>= g) in subst Q (sym s) (then x right)
bind P (Ok None) r' f g right s then = tt
bind {X = X} P (Err e) r' f g right s then = ap (λ (q : Read X). q >>= g) s

-- once there are enough octets there are enough
enough : {X : Type 0} (octets more : List ℕ) (n : ℕ) (y y' : Read X)
    → (n ≤ length octets → Stays y y') → Stays (cond (ltb (length octets) n) (Ok None) y)
    (cond (ltb (length (octets ++ more)) n) (Ok None) y')
enough {X = X} octets more n y y' then =
    let P : Read X → Type 0 = λ q. Stays q (cond (ltb (length (octets ++ more)) n) (Ok None) y') in
    cond_both (ltb (length octets) n) (Ok None) y P (λ e. tt)
    (λ e.
    let le : n ≤ length octets = ltb-false (length octets) n e in
    let l = length-append octets more in
    let still : n ≤ length (octets ++ more) = omega (arith, l) in
    rw (le-ltb (length (octets ++ more)) n still) (then le))

abbrev valued : Parameters → ℕ → ℕ → ℕ → List ℕ → Read TakenParameter
valued seen at code count value = cond (is_value_of code (get_or value 0 0))
    (Ok (Some (record { seen = with_value seen code value; count = count })))
    (broken (at + 2) whys.Value)

value_stays : (seen : Parameters) (at room code : ℕ) (octets more : List ℕ)
    → Stays (parameter_value_in seen at room code octets) (parameter_value_in seen at room code (octets ++ more))
value_stays seen at room code [] more = tt
value_stays seen at room code (count ∷ octets) more =
    branch (not (is_length_of code count && leb (count + 2) room)) _ _ _ _ (λ e. refl)
    (λ e. enough octets more count _ _ (λ le. rw (take-append-le count octets more le)
    (same (valued seen at code count (take count octets)))))

parameter_stays : (seen : Parameters) (at room code : ℕ) (octets more : List ℕ)
    → Stays (tpdu_parameter_in seen at room code octets)
    (tpdu_parameter_in seen at room code (octets ++ more))
parameter_stays seen at room code octets more =
    branch (is_twice seen code) _ _ _ _ (λ e. refl)
    (λ e. branch (eqb room 1) _ _ _ _ (λ e. refl)
    (λ e. value_stays seen at room code octets more))

parameters_stays : (seen : Parameters) (at room passed : ℕ) (octets more : List ℕ) → passed ≤ room
    → Stays (parameters_in seen at room passed octets)
    (parameters_in seen at room passed (octets ++ more))
unfolding parameters_in
parameters_stays seen at room zero [] more le =
    cond_both (eqb room 0) (Ok (Some seen)) (Ok None)
    (λ q. Stays q (parameters_in seen at room 0 more))
    (λ e. parameters_in-done seen at room more (eqb-true room 0 e)) (λ e. tt)
parameters_stays seen at room (suc passed) [] more le =
    cond_both (eqb room 0) (Ok (Some seen)) (Ok None)
    (λ q. Stays q (parameters_in seen at room (suc passed) more))
    (λ e. absurd (omega (arith, eqb-true room 0 e))) (λ e. tt)
parameters_stays seen at room (suc passed) (o ∷ octets) more le = parameters_stays seen (at + 1)
    (room - 1) passed octets more (omega arith)
parameters_stays seen at room zero (code ∷ octets) more le =
    branch (eqb room 0) _ _ _ _ (λ e. refl)
    (λ e. bind (ParameterFound seen room code octets) (tpdu_parameter_in seen at room code octets)
    (tpdu_parameter_in seen at room code (octets ++ more)) _ _
    (parameter_right seen at room code octets) (parameter_stays seen at room code octets more)
    (λ t one. let fits : t.count + 2 ≤ room = one.value.fits in parameters_stays t.seen (at + 1)
    (room - 1) (t.count + 1) octets more (omega arith)))

connect_with_stays : (r : Bool) (size target source : ℕ) (read read' : Read Parameters)
    → Stays read read' → Stays (connect_with r size target source read)
    (connect_with r size target source read')
connect_with_stays r size target source (Ok (Some x)) read' s = rw s
    (same (connect_with r size target source (Ok (Some x))))
connect_with_stays true size target source (Ok None) read' s = tt
connect_with_stays false size target source (Ok None) read' s = tt
connect_with_stays r size target source (Err f) read' s = rw s
    (same (connect_with r size target source (Err f)))

-- fewer than five octets behind the code
pub short_connect : (r : Bool) (size : ℕ) (octets : List ℕ) → size < 11 → size ≤ length octets + 6
    → connection_request_in r size octets ≡ broken size whys.Short
unfolding connection_request_in
short_connect r size [] small le = rw (le-leb size 6 le) refl
short_connect r size (a ∷ []) small le = rw (le-leb size 7 le) refl
short_connect r size (a ∷ b ∷ []) small le = rw (le-leb size 8 le) refl
short_connect r size (a ∷ b ∷ c ∷ []) small le = rw (le-leb size 9 le) refl
short_connect r size (a ∷ b ∷ c ∷ d ∷ []) small le = rw (le-leb size 10 le) refl
short_connect r size (a ∷ b ∷ c ∷ d ∷ class ∷ octets) small le = rw (lt-ltb size 11 small) refl

few_stays : (r : Bool) (size : ℕ) (octets more : List ℕ) → length octets < 5
    → Stays (cond (leb size (length octets + 6)) (broken size whys.Short) (Ok None))
    (connection_request_in r size (octets ++ more))
few_stays r size octets more few =
    cond_both (leb size (length octets + 6)) (broken size whys.Short) (Ok None)
    (λ q. Stays q (connection_request_in r size (octets ++ more)))
    (λ e.
    let le : size ≤ length octets + 6 = leb-true size (length octets + 6) e in
    let l = length-append octets more in
    let small : size < 11 = omega arith in
    let still : size ≤ length (octets ++ more) + 6 = omega (arith, l) in
    short_connect r size (octets ++ more) small still)
    (λ e. tt)

connect_stays : (r : Bool) (size : ℕ) (octets more : List ℕ)
    → Stays (connection_request_in r size octets) (connection_request_in r size (octets ++ more))
unfolding connection_request_in
connect_stays r size (a ∷ b ∷ c ∷ d ∷ class ∷ octets) more =
    branch (ltb size 11) _ _ _ _ (λ e. refl)
    (λ long. branch (ltb class 16) _ _ _ _ (λ e. connect_with_stays r size (a * 256 + b)
    (c * 256 + d) _ _ (parameters_stays no_parameters 11 (size - 11) 0 octets more
    (omega arith))) (λ e. refl))
connect_stays r size [] more = few_stays r size [] more (omega arith)
connect_stays r size (a ∷ []) more = few_stays r size (a ∷ []) more (omega arith)
connect_stays r size (a ∷ b ∷ []) more = few_stays r size (a ∷ b ∷ []) more (omega arith)
connect_stays r size (a ∷ b ∷ c ∷ []) more = few_stays r size (a ∷ b ∷ c ∷ []) more (omega arith)
connect_stays r size (a ∷ b ∷ c ∷ d ∷ []) more = few_stays r size (a ∷ b ∷ c ∷ d ∷ []) more
    (omega arith)

disconnect_stays : (size : ℕ) (octets more : List ℕ)
    → Stays (disconnect_in size octets) (disconnect_in size (octets ++ more))
unfolding disconnect_in
disconnect_stays size octets more =
    cond_both (ltb (length octets + 6) size) (Ok None) (tpkt_of size disconnect)
    (λ q. Stays q (cond (ltb (length (octets ++ more) + 6) size) (Ok None)
    (tpkt_of size disconnect))) (λ e. tt)
    (λ e. let le : size ≤ length octets + 6 = ltb-false (length octets + 6) size e in let l =
    length-append octets more in let still : size ≤ length (octets ++ more) + 6 = omega
    (arith, l) in rw (le-ltb (length (octets ++ more) + 6) size still) refl)

part_stays : (total size : ℕ) (octets more : List ℕ)
    → Stays (data_part_in total size octets) (data_part_in total size (octets ++ more))
unfolding data_part_in marked_in
part_stays total size [] more = branch (ltb TSDU_LIMIT (total + (size - 7))) _ _ _ _ (λ e. refl)
    (λ e. tt)
part_stays total size (mark ∷ octets) more =
    branch (ltb TSDU_LIMIT (total + (size - 7))) _ _ _ _ (λ e. refl)
    (λ e. branch (leb 128 mark && eqb (total + (size - 7)) 0) _ _ _ _ (λ e. refl)
    (λ e. enough octets more (size - 7) _ _ (λ le. rw (take-append-le (size - 7) octets more le)
    refl)))

body_stays : (k : Kind) (total size : ℕ) (octets more : List ℕ)
    → Stays (tpdu_body_in k total size octets) (tpdu_body_in k total size (octets ++ more))
unfolding tpdu_body_in
body_stays kinds.Request total size octets more = connect_stays true size octets more
body_stays kinds.Confirm total size octets more = connect_stays false size octets more
body_stays kinds.Disconnect total size octets more = disconnect_stays size octets more
body_stays kinds.Part total size octets more = part_stays total size octets more

known_stays : (turn : Turn) (total size count : ℕ) (o : Option Kind) (octets more : List ℕ)
    → Stays (known_in turn total size count o octets)
    (known_in turn total size count o (octets ++ more))
known_stays turn total size count None octets more = refl
known_stays turn total size count (Some k) octets more =
    branch (is_count k size count) _ _ _ _ (λ e. branch (may_come turn k) _ _ _ _
    (λ e. body_stays k total size octets more) (λ e. refl)) (λ e. refl)

tpdu_stays : (turn : Turn) (total size : ℕ) (octets more : List ℕ)
    → Stays (tpdu_in turn total size octets) (tpdu_in turn total size (octets ++ more))
unfolding tpdu_in
tpdu_stays turn total size [] more = tt
tpdu_stays turn total size (count ∷ []) more = tt
tpdu_stays turn total size (count ∷ code ∷ octets) more = known_stays turn total size count
    (tpdu_kind_of code) octets more

sized_stays : (turn : Turn) (total : ℕ) (octets more : List ℕ)
    → Stays (sized_in turn total octets) (sized_in turn total (octets ++ more))
unfolding sized_in
sized_stays turn total [] more = tt
sized_stays turn total (a ∷ []) more = tt
sized_stays turn total (a ∷ b ∷ []) more = tt
sized_stays turn total (a ∷ high ∷ low ∷ octets) more = branch (ltb (high * 256 + low) 7) _ _ _ _
    (λ e. refl) (λ e. tpdu_stays turn total (high * 256 + low) octets more)

pub tpkt_stays : (turn : Turn) (total : ℕ) (octets more : List ℕ)
    → Stays (tpkt_in turn total octets) (tpkt_in turn total (octets ++ more))
unfolding tpkt_in
tpkt_stays turn total [] more = tt
tpkt_stays turn total (version ∷ octets) more = branch (eqb version 3) _ _ _ _
    (λ e. sized_stays turn total octets more) (λ e. refl)

-- a fault stays
pub tpkt_broken : (turn : Turn) (total : ℕ) (octets more : List ℕ) (f : CotpFault)
    → tpkt_in turn total octets ≡ Err f → tpkt_in turn total (octets ++ more) ≡ Err f
tpkt_broken turn total octets more f is = subst
    (λ (r : Read Tpkt). Stays r (tpkt_in turn total (octets ++ more))) is
    (tpkt_stays turn total octets more)
