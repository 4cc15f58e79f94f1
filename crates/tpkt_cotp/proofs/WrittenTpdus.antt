-- What is written for a request and for its answer is spelled so.
use Rattle.std.proofs.Common.{◌≡◌, ℕ, ◌+◌, ◌-◌, ◌/◌, ◌%◌, ◌≤◌, true, ◌&&◌, leb, min}
use Rattle.std.proofs.Common.{List, [], ◌∷◌, ◌++◌, length, Option, Some, None, IfSome}
use Rattle.std.proofs.Common.{refl, sym, ap, ◌∙◌, arith}
use Rattle.std.proofs.lemmas.Bool.{le-leb}
use Rattle.std.proofs.lemmas.List.{append-nil}
use Rattle.std.proofs.lemmas.List.Concat.{flat_map-append}
use Rattle.tpkt_cotp.specs.declared.tpdu.Parameters.{Parameters}
use Rattle.tpkt_cotp.specs.declared.tpdu.ConnectRequest.{ConnectRequest}
use Rattle.tpkt_cotp.specs.Selectors.{IsSelector}
use Rattle.tpkt_cotp.specs.Sound.{AreSelectors}
use Rattle.tpkt_cotp.specs.Tpdus.{request, confirm, SpellsTpkt, TpduParameter}
use Rattle.tpkt_cotp.specs.Tpdus.{parameter_octets, parameters_octets, AddUp, no_parameters}
use Rattle.tpkt_cotp.specs.Written.{connection_request_octets, size_octets, selector_octets, answer_octets}
use Rattle.tpkt_cotp.specs.Written.{confirm_head, confirm_octets, written_request, answered_parameters}
use Rattle.tpkt_cotp.specs.Written.{IsOffer}

pub request_spelled : (calling : ℕ) → SpellsTpkt (request (written_request calling))
    (connection_request_octets calling)
request_spelled calling =
    let size : TpduParameter = record { code = 192; value = 10 ∷ [] } in
    let caller : TpduParameter = record { code = 193; value = calling / 256 ∷ calling % 256 ∷ [] } in
    let called : TpduParameter = record { code = 194; value = 0 ∷ 1 ∷ [] } in (
      0,
      record {
        reserved = 0;
        high = 0;
        low = 22;
        count = 17;
        target_high = 0;
        target_low = 0;
        source_high = 0;
        source_low = 1;
        class = 0;
        parameters = size ∷ caller ∷ called ∷ [];
        is = refl;
        size = refl;
        counted = refl;
        target_is = refl;
        source_is = refl;
        class_zero = omega arith;
        adds_up = (refl, refl, refl, (refl, refl, refl, (refl, refl, refl, refl)));
      },
    )

-- the parameters of an answer
size_list : Option ℕ → List TpduParameter
size_list None = []
size_list (Some s) = record { code = 192; value = min s 10 ∷ [] } ∷ []

selector_list : ℕ → Option (List ℕ) → List TpduParameter
selector_list code None = []
selector_list code (Some os) = record { code = code; value = os } ∷ []

size_written : (o : Option ℕ) → parameters_octets (size_list o) ≡ size_octets o
unfolding size_list
size_written None = refl
size_written (Some s) = refl

selector_written : (code : ℕ) (o : Option (List ℕ))
    → parameters_octets (selector_list code o) ≡ selector_octets code o
unfolding selector_list
selector_written code None = refl
selector_written code (Some os) = append-nil (code ∷ length os ∷ os)

answer_list : Parameters → List TpduParameter
answer_list p = size_list p.size ++ selector_list 193 p.calling ++ selector_list 194 p.called

answer_written : (p : Parameters) → parameters_octets (answer_list p) ≡ answer_octets p
unfolding answer_list
answer_written p =
    let front = size_list p.size ++ selector_list 193 p.calling in
    flat_map-append parameter_octets front (selector_list 194 p.called)
    ∙ ap (λ (os : List ℕ). os ++ parameters_octets (selector_list 194 p.called))
    (flat_map-append parameter_octets (size_list p.size) (selector_list 193 p.calling)
    ∙ ap (λ (os : List ℕ). os ++ parameters_octets (selector_list 193 p.calling))
    (size_written p.size)
    ∙ ap (λ (os : List ℕ). size_octets p.size ++ os) (selector_written 193 p.calling))
    ∙ ap (λ (os : List ℕ). (size_octets p.size ++ selector_octets 193 p.calling) ++ os)
    (selector_written 194 p.called)

within : (low high n : ℕ) → low ≤ n → n ≤ high → (leb low n && leb n high) ≡ true
within low high n a b = rw (le-leb low n a) (le-leb n high b)

sized : (s : ℕ) → 7 ≤ s → (leb 7 (min s 10) && leb (min s 10) 13) ≡ true
sized s le = within 7 13 (min s 10) (omega arith) (omega arith)

selects : (os : List ℕ) → IsSelector os → (leb 1 (length os) && leb (length os) 32) ≡ true
selects os s = within 1 32 (length os) s.0 s.1

answer_adds : (size : Option ℕ) (calling called : Option (List ℕ))
    → IfSome size (λ s. (7 ≤ s) × (s ≤ 13))
    → IfSome calling IsSelector → IfSome called IsSelector
    → AddUp no_parameters (answer_list (record { size = size; calling = calling; called = called }))
    (answered_parameters (record { size = size; calling = calling; called = called }))
unfolding answer_list size_list selector_list
answer_adds None None None s a b = refl
answer_adds None None (Some y) s a b = (refl, selects y b, refl, refl)
answer_adds None (Some x) None s a b = (refl, selects x a, refl, refl)
answer_adds None (Some x) (Some y) s a b =
    (refl, selects x a, refl, (refl, selects y b, refl, refl))
answer_adds (Some n) None None s a b = (refl, refl, sized n s.0, refl)
answer_adds (Some n) None (Some y) s a b =
    (refl, refl, sized n s.0, (refl, selects y b, refl, refl))
answer_adds (Some n) (Some x) None s a b =
    (refl, refl, sized n s.0, (refl, selects x a, refl, refl))
answer_adds (Some n) (Some x) (Some y) s a b =
    (refl, refl, sized n s.0, (refl, selects x a, refl, (refl, selects y b, refl, refl)))

abbrev confirm_with : ℕ → ℕ → List ℕ → List ℕ
confirm_with source n octets = confirm_head source n ++ octets

pub confirm_spelled : (offer : ConnectRequest) → IsOffer offer → AreSelectors offer.parameters
    → SpellsTpkt (confirm (record {
      target = offer.source;
      source = 1;
      parameters = answered_parameters offer.parameters;
    }))
    (confirm_octets offer)
confirm_spelled offer sound selectors =
    let p = offer.parameters in
    let n = 11 + length (answer_octets p) in
    let written = answer_written p in
    let l = ap length written in
    record {
      reserved = 0;
      high = 0;
      low = n;
      count = n - 5;
      target_high = offer.source / 256;
      target_low = offer.source % 256;
      source_high = 0;
      source_low = 1;
      class = 0;
      parameters = answer_list p;
      is = ap (λ (os : List ℕ). confirm_with offer.source n os) (sym written);
      size = omega (arith, l);
      counted = omega arith;
      target_is = omega arith;
      source_is = refl;
      class_zero = omega arith;
      adds_up = answer_adds p.size p.calling p.called sound selectors.0 selectors.1;
    }
