-- A TPKT is read only where it is spelled: its head, and all of it.
use Rattle.std.proofs.Common.{◌≡◌, ℕ, ◌+◌, ◌*◌, ◌≤◌, true, false, cond, eqb, ltb, List, [], ◌∷◌}
use Rattle.std.proofs.Common.{Option, Some, None, Ok, refl, sym, ap, subst, ◌∙◌}
use Rattle.std.proofs.lemmas.Bool.{cond_both, eqb-true, ltb-false}
use Rattle.ber_values.specs.declared.fault.Why.TheVariants as whys
use Rattle.tpkt_cotp.specs.declared.turn.Turn.{Turn}
use Rattle.tpkt_cotp.specs.declared.turn.Kind.{Kind}
use Rattle.tpkt_cotp.specs.declared.turn.Kind.TheVariants as kinds
use Rattle.tpkt_cotp.specs.Turns.{tpdu_kind_of, may_come, is_count}
use Rattle.tpkt_cotp.specs.Tpdus.{Tpkt}
use Rattle.tpkt_cotp.specs.Readings.{Read, broken, tpdu_body_in, known_in, tpdu_in, sized_in, tpkt_in}
use Rattle.tpkt_cotp.proofs.Exact.{Right, Begins, headed, part_right, disconnect_right}
use Rattle.tpkt_cotp.proofs.ExactConnect.{connect_right}

abbrev pub code_of : Kind → ℕ
code_of kinds.Request = 224
code_of kinds.Confirm = 208
code_of kinds.Disconnect = 128
code_of kinds.Part = 240

abbrev some_kind : Kind → Option Kind
some_kind k = Some k

-- a kind has one code
pub code_is : (code : ℕ) (k : Kind) → tpdu_kind_of code ≡ Some k → code ≡ code_of k
code_is code k is =
    let P : Option Kind → Type 0 = λ o. o ≡ Some k → code ≡ code_of k in
    cond_both (eqb code 224) (Some kinds.Request)
    (cond (eqb code 208) (Some kinds.Confirm)
    (cond (eqb code 128) (Some kinds.Disconnect) (cond (eqb code 240) (Some kinds.Part) None)))
    P
    (λ e h. eqb-true code 224 e ∙ ap code_of (same kinds.Request k h))
    (λ n1. cond_both (eqb code 208) (Some kinds.Confirm)
    (cond (eqb code 128) (Some kinds.Disconnect) (cond (eqb code 240) (Some kinds.Part) None)) P
    (λ e h. eqb-true code 208 e ∙ ap code_of (same kinds.Confirm k h))
    (λ n2. cond_both (eqb code 128) (Some kinds.Disconnect)
    (cond (eqb code 240) (Some kinds.Part) None) P
    (λ e h. eqb-true code 128 e ∙ ap code_of (same kinds.Disconnect k h))
    (λ n3. cond_both (eqb code 240) (Some kinds.Part) None P
    (λ e h. eqb-true code 240 e ∙ ap code_of (same kinds.Part k h))
    (λ n4 h. absurd cc)))) is
  where
    same : (j k : Kind) → some_kind j ≡ some_kind k → j ≡ k
    same j k h = cc

body_right : (turn : Turn) (total high low reserved count : ℕ) (k : Kind) (octets : List ℕ)
    → may_come turn k ≡ true → is_count k (high * 256 + low) count ≡ true → 7 ≤ high * 256 + low
    → Right (Begins turn total (headed reserved high low count (code_of k) octets))
    (tpdu_body_in k total (high * 256 + low) octets)
unfolding tpdu_body_in
body_right turn total high low reserved count kinds.Request octets order counted long =
    connect_right turn total high low reserved count octets true order
    (eqb-true (count + 5) (high * 256 + low) counted)
body_right turn total high low reserved count kinds.Confirm octets order counted long =
    connect_right turn total high low reserved count octets false order
    (eqb-true (count + 5) (high * 256 + low) counted)
body_right turn total high low reserved count kinds.Disconnect octets order counted long =
    disconnect_right turn total reserved high low count octets order long
body_right turn total high low reserved count kinds.Part octets order counted long =
    let P : ℕ → Type 0 = λ c. Right (Begins turn total (headed reserved high low c 240 octets))
    (tpdu_body_in kinds.Part total (high * 256 + low) octets) in
    subst P (sym (eqb-true count 2 counted)) (part_right turn total reserved high low octets order
    long)

known_right : (turn : Turn) (total high low reserved count code : ℕ) (o : Option Kind)
    (octets : List ℕ) → tpdu_kind_of code ≡ o → 7 ≤ high * 256 + low
    → Right (Begins turn total (headed reserved high low count code octets))
    (known_in turn total (high * 256 + low) count o octets)
known_right turn total high low reserved count code None octets is long = tt
known_right turn total high low reserved count code (Some k) octets is long =
    let size = high * 256 + low in
    let P : Read Tpkt → Type 0 = Right (Begins turn total
    (headed reserved high low count code octets)) in
    let Q : ℕ → Type 0 = λ c. Right (Begins turn total (headed reserved high low count c octets))
    (tpdu_body_in k total size octets) in
    let ordered : Read Tpkt = cond (may_come turn k) (tpdu_body_in k total size octets)
    (broken 0 whys.Order) in
    cond_both (is_count k size count) ordered (broken 4 whys.Length) P
    (λ counted. cond_both (may_come turn k) (tpdu_body_in k total size octets) (broken 0 whys.Order) P
    (λ order. subst Q (sym (code_is code k is))
    (body_right turn total high low reserved count k octets order counted long))
    (λ e. tt))
    (λ e. tt)

tpdu_right : (turn : Turn) (total high low reserved : ℕ) (octets : List ℕ) → 7 ≤ high * 256 + low
    → Right (Begins turn total (3 ∷ reserved ∷ high ∷ low ∷ octets))
    (tpdu_in turn total (high * 256 + low) octets)
unfolding tpdu_in
tpdu_right turn total high low reserved [] long = tt
tpdu_right turn total high low reserved (count ∷ []) long = tt
tpdu_right turn total high low reserved (count ∷ code ∷ octets) long = known_right turn total high
    low reserved count code (tpdu_kind_of code) octets refl long

sized_right : (turn : Turn) (total : ℕ) (octets : List ℕ)
    → Right (Begins turn total (3 ∷ octets)) (sized_in turn total octets)
unfolding sized_in
sized_right turn total [] = tt
sized_right turn total (a ∷ []) = tt
sized_right turn total (a ∷ b ∷ []) = tt
sized_right turn total (reserved ∷ high ∷ low ∷ octets) =
    cond_both (ltb (high * 256 + low) 7) (broken 2 whys.Length)
    (tpdu_in turn total (high * 256 + low) octets)
    (Right (Begins turn total (3 ∷ reserved ∷ high ∷ low ∷ octets))) (λ e. tt)
    (λ long. tpdu_right turn total high low reserved octets (ltb-false (high * 256 + low) 7 long))

tpkt_right : (turn : Turn) (total : ℕ) (octets : List ℕ)
    → Right (Begins turn total octets) (tpkt_in turn total octets)
unfolding tpkt_in
tpkt_right turn total [] = tt
tpkt_right turn total (version ∷ octets) =
    cond_both (eqb version 3) (sized_in turn total octets) (broken 0 whys.Value)
    (Right (Begins turn total (version ∷ octets)))
    (λ e. let P : ℕ → Type 0 = λ v. Right (Begins turn total (v ∷ octets))
    (sized_in turn total octets) in subst P (sym (eqb-true version 3 e))
    (sized_right turn total octets))
    (λ e. tt)

-- what is read is spelled so
pub tpkt_found : (turn : Turn) (total : ℕ) (octets : List ℕ) (p : Tpkt)
    → tpkt_in turn total octets ≡ Ok (Some p) → Begins turn total octets p
tpkt_found turn total octets p is = subst (λ (r : Read Tpkt). Right (Begins turn total octets) r)
    is (tpkt_right turn total octets)
