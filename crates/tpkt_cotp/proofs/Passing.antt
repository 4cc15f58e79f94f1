-- Parameters, one after the other: the octets of a value are passed over.
use Rattle.std.proofs.Common.{◌≡◌, ◌≢◌, ℕ, zero, suc, ◌+◌, ◌-◌, ◌≤◌, ◌<◌, List, [], ◌∷◌, length}
use Rattle.std.proofs.Common.{take, drop, get_or, Some, None, Ok, Err, refl, arith, ◌∙◌, sym, ap}
use Rattle.std.proofs.Common.{subst, false, ◌==◌, ne_eqb}
use Rattle.std.proofs.Math.Seq.{take-length}
use Rattle.tpkt_cotp.specs.declared.tpdu.Parameters.{Parameters}
use Rattle.tpkt_cotp.specs.declared.fault.CotpFault.{CotpFault}
use Rattle.tpkt_cotp.specs.Readings.{Read, ◌>>=◌, TakenParameter, tpdu_parameter_in, parameters_in}

pub parameters_in-passed : (seen : Parameters) (at room passed : ℕ) (octets : List ℕ)
    → passed ≤ length octets → parameters_in seen at room passed octets ≡ parameters_in seen
    (at + passed) (room - passed) 0 (drop passed octets)
unfolding parameters_in
parameters_in-passed seen at room zero octets le =
    let a : at + 0 ≡ at = omega arith in
    let r : room - 0 ≡ room = omega arith in
    rw (a, r) refl
parameters_in-passed seen at room (suc passed) [] le = absurd (omega arith)
parameters_in-passed seen at room (suc passed) (o ∷ octets) le =
    let fewer : passed ≤ length octets = omega arith in
    let a : at + 1 + passed ≡ at + suc passed = omega arith in
    let r : room - 1 - passed ≡ room - suc passed = omega arith in
    parameters_in-passed seen (at + 1) (room - 1) passed octets fewer ∙ rw (a, r) refl

pub parameters_in-done : (seen : Parameters) (at room : ℕ) (octets : List ℕ) → room ≡ 0
    → parameters_in seen at room 0 octets ≡ Ok (Some seen)
unfolding parameters_in
parameters_in-done seen at room [] is = rw is refl
parameters_in-done seen at room (code ∷ octets) is = rw is refl

pub parameters_in-cut : (seen : Parameters) (at room : ℕ) (octets : List ℕ) → room ≢ 0
    → length octets < 1 → parameters_in seen at room 0 octets ≡ Ok None
unfolding parameters_in
parameters_in-cut seen at room [] some none = let e : (room == 0) ≡ false = ne_eqb room 0 some in
    rw e refl
parameters_in-cut seen at room (code ∷ octets) some none = absurd (omega arith)

-- one parameter, and those behind it
abbrev pub after : (at room : ℕ) (octets : List ℕ) → TakenParameter → Read Parameters
after at room octets p = parameters_in p.seen (at + 1) (room - 1) (p.count + 1) octets

pub parameters_in-one : (seen : Parameters) (at room code : ℕ) (octets : List ℕ) → room ≢ 0
    → parameters_in seen at room 0 (code ∷ octets) ≡
    (tpdu_parameter_in seen at room code octets >>= after at room octets)
unfolding parameters_in
parameters_in-one seen at room code octets some = let e : (room == 0) ≡ false = ne_eqb room 0 some
    in rw e refl

pub bind_some : {X Y : Type 0} (read : Read X) (f : X → Read Y) (x : X) → read ≡ Ok (Some x)
    → (read >>= f) ≡ f x
bind_some read f x e = ap (λ r. r >>= f) e

-- the octets behind the first
abbrev pub behind : List ℕ → List ℕ
behind octets = take (length octets - 1) (drop 1 octets)

pub behind-cons : (code : ℕ) (octets : List ℕ) → behind (code ∷ octets) ≡ octets
behind-cons code octets =
    let n : length (code ∷ octets) - 1 ≡ length octets = omega arith in
    rw n (take-length octets)

pub parameters_in-some : (seen : Parameters) (at room : ℕ) (octets : List ℕ) (p : TakenParameter) → room ≢ 0
    → 1 ≤ length octets → tpdu_parameter_in seen at room (get_or octets 0 0) (behind octets) ≡ Ok
    (Some p) → p.count + 1 ≤ length (behind octets)
    → parameters_in seen at room 0 octets ≡ parameters_in p.seen (at + 2 + p.count)
    (room - 2 - p.count) 0 (drop (p.count + 1) (behind octets))
parameters_in-some seen at room [] p some long read fits = absurd (omega arith)
parameters_in-some seen at room (code ∷ octets) p some long read fits =
    let e = behind-cons code octets in
    let P : List ℕ → Type 0 = λ os. tpdu_parameter_in seen at room code os ≡ Ok (Some p) in
    let F : List ℕ → Type 0 = λ os. p.count + 1 ≤ length os in
    let G : List ℕ → Type 0 = λ os. parameters_in seen at room 0 (code ∷ octets) ≡ parameters_in
    p.seen (at + 2 + p.count) (room - 2 - p.count) 0 (drop (p.count + 1) os) in
    let a : at + 1 + (p.count + 1) ≡ at + 2 + p.count = omega arith in
    let r : room - 1 - (p.count + 1) ≡ room - 2 - p.count = omega arith in
    subst G (sym e)
    (parameters_in-one seen at room code octets some
    ∙ bind_some (tpdu_parameter_in seen at room code octets) (after at room octets) p (subst P e read)
    ∙ parameters_in-passed p.seen (at + 1) (room - 1) (p.count + 1) octets (subst F e fits)
    ∙ rw (a, r) refl)

pub parameters_in-none : (seen : Parameters) (at room : ℕ) (octets : List ℕ) → room ≢ 0
    → 1 ≤ length octets → tpdu_parameter_in seen at room (get_or octets 0 0) (behind octets) ≡ Ok None
    → parameters_in seen at room 0 octets ≡ Ok None
parameters_in-none seen at room [] some long read = absurd (omega arith)
parameters_in-none seen at room (code ∷ octets) some long read =
    let P : List ℕ → Type 0 = λ os. tpdu_parameter_in seen at room code os ≡ Ok None in
    parameters_in-one seen at room code octets some
    ∙ ap (λ (r : Read TakenParameter). r >>= after at room octets)
    (subst P (behind-cons code octets) read)

pub parameters_in-err : (seen : Parameters) (at room : ℕ) (octets : List ℕ) (f : CotpFault)
    → room ≢ 0 → 1 ≤ length octets → tpdu_parameter_in seen at room (get_or octets 0 0) (behind octets)
    ≡ Err f → parameters_in seen at room 0 octets ≡ Err f
parameters_in-err seen at room [] f some long read = absurd (omega arith)
parameters_in-err seen at room (code ∷ octets) f some long read =
    let P : List ℕ → Type 0 = λ os. tpdu_parameter_in seen at room code os ≡ Err f in
    parameters_in-one seen at room code octets some
    ∙ ap (λ (r : Read TakenParameter). r >>= after at room octets)
    (subst P (behind-cons code octets) read)
