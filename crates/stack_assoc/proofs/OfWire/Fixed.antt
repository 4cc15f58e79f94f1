-- The fixed answers as octets, for every id of a context.
use Rattle.std.proofs.Common.{◌≡◌, ℕ, ◌-◌, ◌/◌, ◌%◌, ◌<◌, ◌≤◌, true, false, cond, ltb, List, []}
use Rattle.std.proofs.Common.{◌∷◌, ◌++◌, length, pos, refl, sym, ap, ◌∙◌, inl, inr, arith}
use Rattle.std.proofs.lemmas.Bool.{cond_both, lt-ltb, le-ltb, cases_lt}
use Rattle.ber_values.specs.Writing as ber
use Rattle.ber_values.specs.Writing.{written, integer_octets}
use Rattle.tpkt_cotp.specs.Written.{part_octets, wire}
use Rattle.tpkt_cotp.proofs.Wires.{wire_only}
use Rattle.session_profile.specs.declared.spdu.Spdu.TheVariants as spdus
use Rattle.session_profile.specs.Writing as session
use Rattle.session_profile.specs.Writing.{written_form}
use Rattle.presentation_profile.specs.Written.{user_octets}
use Rattle.acse_assoc.specs.Writing.{apdu_octets, short_octets}
use Rattle.stack_assoc.specs.Wire.Layouts.{id_octets, release_layout, abort_layout, refusal_layout}
use Rattle.stack_assoc.specs.Wire.Layouts.{abort_packet, AreLaidOut}
use Rattle.stack_assoc.specs.Wire.Tsdus.{refused_apdu, refusal_tsdu, finish_tsdu, release_tsdu, abort_tsdu}

-- an APDU as data of the context whose id has these contents octets
abbrev data_of : List ℕ → List ℕ → List ℕ
data_of i apdu = written 97 (written 48 (written 2 i ++ written 160 apdu))

record Laid (i : List ℕ) : Type 0 where
  finish : written_form spdus.Finish (data_of i (short_octets 98)) ≡ release_layout 9 98 i
  release : written_form spdus.Disconnect (data_of i (short_octets 99)) ≡ release_layout 10 99 i
  abort : written_form spdus.Abort (written 160 (data_of i (short_octets 100))) ≡ abort_layout i
  refusal : written_form spdus.Refuse (written 48 (data_of i (apdu_octets refused_apdu [])))
      ≡ refusal_layout i
  packet : part_octets true (abort_layout i) ≡ abort_packet i
  some : 0 < length (abort_layout i)
  few : length (abort_layout i) ≤ 125

laid_one : (a : ℕ) → Laid (a ∷ [])
unfolding session.session_length_octets ber.length_octets ber.integer_octets
laid_one a = record {
  finish = refl;
  release = refl;
  abort = refl;
  refusal = refl;
  packet = refl;
  some = omega arith;
  few = omega arith;
}

laid_two : (a b : ℕ) → Laid (a ∷ b ∷ [])
unfolding session.session_length_octets ber.length_octets ber.integer_octets
laid_two a b = record {
  finish = refl;
  release = refl;
  abort = refl;
  refusal = refl;
  packet = refl;
  some = omega arith;
  few = omega arith;
}

laid_three : (a b c : ℕ) → Laid (a ∷ b ∷ c ∷ [])
unfolding session.session_length_octets ber.length_octets ber.integer_octets
laid_three a b c = record {
  finish = refl;
  release = refl;
  abort = refl;
  refusal = refl;
  packet = refl;
  some = omega arith;
  few = omega arith;
}

abbrev long_id : ℕ → List ℕ
long_id id = cond (ltb id 32768) (id / 256 ∷ id % 256 ∷ []) (0 ∷ id / 256 ∷ id % 256 ∷ [])

laid : (id : ℕ) → Laid (id_octets id)
laid id = cond_both (ltb id 128) (id ∷ []) (long_id id) Laid (λ _. laid_one id)
    (λ _. cond_both (ltb id 32768) (id / 256 ∷ id % 256 ∷ []) (0 ∷ id / 256 ∷ id % 256 ∷ []) Laid
    (λ _. laid_two (id / 256) (id % 256)) (λ _. laid_three 0 (id / 256) (id % 256)))

one_octet : (id : ℕ) → id < 128 → id_octets id ≡ id ∷ []
one_octet id lt = let t : ltb id 128 ≡ true = lt-ltb id 128 lt in rw t refl

two_octets : (id : ℕ) → 128 ≤ id → id < 32768 → id_octets id ≡ id / 256 ∷ id % 256 ∷ []
two_octets id ge lt =
    let f : ltb id 128 ≡ false = le-ltb id 128 ge in
    let t : ltb id 32768 ≡ true = lt-ltb id 32768 lt in rw (f, t) refl

three_octets : (id : ℕ) → 32768 ≤ id → id_octets id ≡ 0 ∷ id / 256 ∷ id % 256 ∷ []
three_octets id ge =
    let f : ltb id 128 ≡ false = le-ltb id 128 (omega arith) in
    let g : ltb id 32768 ≡ false = le-ltb id 32768 ge in rw (f, g) refl

integer_one : (id : ℕ) → id < 128 → integer_octets (pos id) ≡ id ∷ []
unfolding ber.integer_octets
integer_one id lt =
    let t : ltb id 128 ≡ true = lt-ltb id 128 lt in
    let e : id % 256 ≡ id = omega arith in rw t (ap (λ (k : ℕ). k ∷ []) e)

integer_two : (id : ℕ) → 128 ≤ id → id < 32768 → integer_octets (pos id) ≡ id / 256 ∷ id % 256 ∷ []
unfolding ber.integer_octets
integer_two id ge lt =
    let f : ltb id 128 ≡ false = le-ltb id 128 ge in
    let t : ltb id 32768 ≡ true = lt-ltb id 32768 lt in
    let e : id / 256 % 256 ≡ id / 256 = omega arith in
    rw (f, t) (ap (λ (k : ℕ). k ∷ id % 256 ∷ []) e)

integer_three : (id : ℕ) → 32768 ≤ id → id ≤ 65535
    → integer_octets (pos id) ≡ 0 ∷ id / 256 ∷ id % 256 ∷ []
unfolding ber.integer_octets
integer_three id ge le =
    let f : ltb id 128 ≡ false = le-ltb id 128 (omega arith) in
    let g : ltb id 32768 ≡ false = le-ltb id 32768 ge in
    let t : ltb id 8388608 ≡ true = lt-ltb id 8388608 (omega arith) in
    let e : id / 256 % 256 ≡ id / 256 = omega arith in
    let z : id / 256 / 256 % 256 ≡ 0 = omega arith in
    rw (f, g, t) (ap (λ (k : ℕ). k ∷ (id / 256 % 256) ∷ id % 256 ∷ []) z
    ∙ ap (λ (k : ℕ). 0 ∷ k ∷ id % 256 ∷ []) e)

integer_id : (id : ℕ) → id ≤ 65535 → integer_octets (pos id) ≡ id_octets id
integer_id id le = elim (cases_lt id 128) [
  | inl lt ↦ integer_one id lt ∙ sym (one_octet id lt)
  | inr ge ↦ elim (cases_lt id 32768) [
    | inl less ↦ integer_two id ge less ∙ sym (two_octets id ge less)
    | inr more ↦ integer_three id more le ∙ sym (three_octets id more)
  ]
]

pub laid_out : (id : ℕ) → id ≤ 65535 → AreLaidOut id
unfolding finish_tsdu release_tsdu abort_tsdu refusal_tsdu user_octets
laid_out id le =
    let i = integer_id id le in
    let l = laid id in
    record {
      finish = ap (λ (os : List ℕ). written_form spdus.Finish (data_of os (short_octets 98))) i
          ∙ l.finish;
      release = ap (λ (os : List ℕ). written_form spdus.Disconnect (data_of os (short_octets 99))) i
          ∙ l.release;
      abort = ap (λ (os : List ℕ). written_form spdus.Abort
          (written 160 (data_of os (short_octets 100)))) i ∙ l.abort;
      refusal = ap (λ (os : List ℕ). written_form spdus.Refuse
          (written 48 (data_of os (apdu_octets refused_apdu [])))) i ∙ l.refusal;
    }

-- a TSDU of few octets goes out in one TPKT
one_packet : (size : ℕ) (octets : List ℕ) → 0 < length octets → length octets ≤ size - 3
    → part_octets true octets ≡ wire size octets
one_packet size octets some fits = wire_only size octets (part_octets true octets) (record {
  parts = [];
  last = octets;
  full = tt;
  some = some;
  fits = fits;
  are = refl;
  written_is = refl;
})

abort_wire : (id size : ℕ) → id ≤ 65535 → 128 ≤ size
    → abort_packet (id_octets id) ≡ wire size (abort_tsdu id)
abort_wire id size le least =
    let l = laid id in
    let few = l.few in
    sym l.packet ∙ one_packet size (abort_layout (id_octets id)) l.some (omega (arith, few))
    ∙ ap (wire size) (sym (laid_out id le).abort)

-- an abort with an id of one octet, of two, and of three
pub abort_behind : (id size : ℕ) (i old new : List ℕ) → id ≤ 65535 → 128 ≤ size → i ≡ id_octets id
    → new ≡ old ++ abort_packet i → new ≡ old ++ wire size (abort_tsdu id)
abort_behind id size i old new le least is e =
    e ∙ ap (λ (os : List ℕ). old ++ abort_packet os) is
    ∙ ap (λ (os : List ℕ). old ++ os) (abort_wire id size le least)

pub low_octets : (id low : ℕ) → id < 128 → low ≡ id % 256 → low ∷ [] ≡ id_octets id
low_octets id low lt is =
    let e : low ≡ id = omega arith in ap (λ (k : ℕ). k ∷ []) e ∙ sym (one_octet id lt)

pub high_octets : (id high low : ℕ) → 128 ≤ id → id < 32768 → high ≡ id / 256 → low ≡ id % 256
    → high ∷ low ∷ [] ≡ id_octets id
high_octets id high low ge lt h l =
    ap (λ (k : ℕ). k ∷ low ∷ []) h ∙ ap (λ (k : ℕ). id / 256 ∷ k ∷ []) l
    ∙ sym (two_octets id ge lt)

pub all_octets : (id high low : ℕ) → 32768 ≤ id → high ≡ id / 256 → low ≡ id % 256
    → 0 ∷ high ∷ low ∷ [] ≡ id_octets id
all_octets id high low ge h l =
    ap (λ (k : ℕ). 0 ∷ k ∷ low ∷ []) h ∙ ap (λ (k : ℕ). 0 ∷ id / 256 ∷ k ∷ []) l
    ∙ sym (three_octets id ge)
