-- Lengths of written forms.
use Rattle.std.proofs.Common.{◌≡◌, ℕ, ◌+◌, ◌≤◌, List, ◌++◌, length, Option, Some, pos, refl, ap, ◌∙◌, append_assoc, arith}
use Rattle.std.proofs.lemmas.List.{length-append}
use Rattle.plain_text.proofs.Extended.{Extends-append}
use Rattle.ber_values.specs.Writing.{head_octets, written, integer_octets, length_octets}
use Rattle.ber_values.specs.Lengths.{part_size}
use Rattle.ber_values.proofs.Capped.{length-written, short-sized}
use Rattle.presentation_profile.specs.declared.offers.Offered.{Offered}
use Rattle.presentation_profile.specs.Written.{ber_octets, offered_octets, offers_octets, user_octets, results_octets, calling_octets, selector_element_octets, connect_ppdu_octets, accept_ppdu_octets, mode_octets, ppdu_front_octets, set_up_octets}

pub ruleset extended = (Extends-append)

pub ber-sized : length ber_octets ≡ 6
unfolding ber_octets length_octets
ber-sized = refl

pub calling-sized : length calling_octets ≡ 6
unfolding calling_octets length_octets
calling-sized = refl

pub mode-sized : length mode_octets ≡ 5
unfolding mode_octets length_octets
mode-sized = refl

pub offered-sized : (o : Offered) (n : ℕ) → n ≡ length (integer_octets (pos o.id)) → n ≤ 8 → length o.abstract_name ≤ 32 → 10 + n + length o.abstract_name ≡ length (offered_octets o)
unfolding offered_octets
offered-sized o n is few name = omega (
  arith,
  length-append (written 2 (integer_octets (pos o.id))) (written 6 o.abstract_name ++ ber_octets),
  length-append (written 6 o.abstract_name) ber_octets,
  short-sized 2 (integer_octets (pos o.id)) (omega (arith, is, few)),
  short-sized 6 o.abstract_name (omega (arith, name)),
  ber-sized,
  is,
)

pub selector-sized : (tag : ℕ) (octets : List ℕ) → length octets ≤ 32 → 2 + length octets ≡ length (selector_element_octets tag (Some octets))
selector-sized tag octets few = omega (arith, short-sized tag octets (omega (arith, few)))

pub connect-sized : (called : Option (List ℕ)) (contexts : List Offered) (id s o u : ℕ) (body : List ℕ) → s ≡ length (selector_element_octets 130 called) → o ≡ length (offers_octets contexts) → u ≡ length (user_octets id body) → 6 + s + o + u ≡ length (connect_ppdu_octets called contexts id body)
unfolding connect_ppdu_octets
connect-sized called contexts id s o u body s_is o_is u_is = omega (
  arith,
  length-append calling_octets (selector_element_octets 130 called ++ (offers_octets contexts ++ user_octets id body)),
  length-append (selector_element_octets 130 called) (offers_octets contexts ++ user_octets id body),
  length-append (offers_octets contexts) (user_octets id body),
  calling-sized,
  s_is,
  o_is,
  u_is,
)

pub accept-sized : (called : Option (List ℕ)) (found : List ℕ) (id s o u : ℕ) (body : List ℕ) → s ≡ length (selector_element_octets 131 called) → o ≡ length (results_octets found) → u ≡ length (user_octets id body) → s + o + u ≡ length (accept_ppdu_octets called found id body)
unfolding accept_ppdu_octets
accept-sized called found id s o u body s_is o_is u_is = omega (
  arith,
  length-append (selector_element_octets 131 called) (results_octets found ++ user_octets id body),
  length-append (results_octets found) (user_octets id body),
  s_is,
  o_is,
  u_is,
)

-- parameters after their front
pub set_up-written : (len : ℕ) (old mid new contents : List ℕ) → len ≡ length contents → mid ≡ old ++ ppdu_front_octets len → new ≡ mid ++ contents → new ≡ old ++ set_up_octets contents
unfolding set_up_octets ppdu_front_octets
set_up-written len old mid new contents is head tail =
    let inner : length (mode_octets ++ written 162 contents) ≡ length mode_octets + part_size (length contents) = length-append mode_octets (written 162 contents) ∙ ap (λ n. length mode_octets + n) (length-written 162 contents) in
    let front : ppdu_front_octets len ≡ ppdu_front_octets (length contents) = ap ppdu_front_octets is in
    let whole : ppdu_front_octets (length contents) ++ contents ≡ head_octets 49 (length mode_octets + part_size (length contents)) ++ (mode_octets ++ written 162 contents) =
    append_assoc (head_octets 49 (length mode_octets + part_size (length contents))) (mode_octets ++ head_octets 162 (length contents)) contents
    ∙ ap (λ os. head_octets 49 (length mode_octets + part_size (length contents)) ++ os) (append_assoc mode_octets (head_octets 162 (length contents)) contents) in
    tail ∙ ap (λ os. os ++ contents) (head ∙ ap (λ os. old ++ os) front)
    ∙ append_assoc old (ppdu_front_octets (length contents)) contents
    ∙ ap (λ os. old ++ os) (whole ∙ ap (λ n. head_octets 49 n ++ (mode_octets ++ written 162 contents)) (let back : length mode_octets + part_size (length contents) ≡ length (mode_octets ++ written 162 contents) = omega (arith, inner) in back))
