-- What is written for user data and for results is read back.
use Rattle.std.proofs.Common.{◌≡◌, ℕ, ◌+◌, ◌-◌, ◌*◌, ◌≤◌, ◌<◌, ◌^◌, eqb, Bool, true, false, Option, Some, None, List, [], ◌∷◌, ◌++◌, length, flat_map, pos, refl, sym, ap, subst, inl, inr, arith}
use Rattle.std.proofs.lemmas.List.{length-append}
use Rattle.std.proofs.lemmas.Bool.{eqb-true, cond_both}
use Rattle.ber_values.specs.Writing.{written, integer_octets, length_octets, last_span}
use Rattle.ber_values.specs.Grammars.{taken, gives, then_in, map_in, branch_in}
use Rattle.ber_values.specs.Passing.{is_other}
use Rattle.ber_values.specs.Parts.{part_in, maybe_in, all_in, contents_where, contents_as}
use Rattle.ber_values.specs.Leaves.{oid, octet}
use Rattle.ber_values.proofs.Capped.{short-sized, length-written, part_size-most}
use Rattle.ber_values.proofs.WrittenParts.{Writes, ends_of, part-writes, all-spelled, none_passed, WritesEach, WriteAll, list-spelled}
use Rattle.ber_values.specs.declared.lengths.TheConstants.{MOST_BODY}
use Rattle.presentation_profile.specs.declared.offers.TheConstants.{MOST_OFFERS}
use Rattle.ber_values.specs.Externals.{external_of, is_wanted, external, external_octets}
use Rattle.ber_values.proofs.Externals.{external-spelled}
use Rattle.presentation_profile.specs.UserData.{user_data}
use Rattle.presentation_profile.specs.Results.{may_be, result_contents, one_result, any_results, begin_then_in, accepting_results, results}
use Rattle.presentation_profile.specs.Written.{AreAccepting, user_octets, accepted_octets, refused_octets, result_octets, results_octets}
use Rattle.presentation_profile.proofs.OffersWritten.{id-few, oid-spelled, ber_is}

-- ---- user data

values-few : (id : ℕ) (body : List ℕ) → id < 2 ^ 32 → length body ≤ MOST_BODY → length (external_octets id body) ≤ length body + 16
values-few id body few size = omega (arith, length-append (written 2 (integer_octets (pos id))) (written 160 body), length-written 160 body, part_size-most (length body), short-sized 2 (integer_octets (pos id)) (omega (arith, id-few id few)), id-few id few)

-- the list of one value, which ends where its body does
list-spelled_at : (wanted : Option ℕ) (at id : ℕ) (body : List ℕ) → id < 2 ^ 32 → length body ≤ MOST_BODY → is_wanted wanted id ≡ true → (all_in (part_in 48 (external wanted))).spells at (external_of id (last_span (at + length (written 48 (external_octets id body))) body)) (written 48 (external_octets id body))
list-spelled_at wanted at id body few size is =
    let value = external_octets id body in
    let from = at + 1 + length (length_octets (length value)) in
    let list = written 48 value in
    let ends : from + length value ≡ at + length list = omega (arith, length-append (length_octets (length value)) value) in
    subst (λ (end : ℕ). (all_in (part_in 48 (external wanted))).spells at (external_of id (last_span end body)) list) ends
    (all-spelled (part_in 48 (external wanted)) at (external_of id (last_span (from + length value) body)) list
    (ends_of (part_in 48 (external wanted)) at (external_of id (last_span (from + length value) body)) list
    (part-writes 48 (external wanted) at (external_of id (last_span (from + length value) body)) value (omega (arith, values-few id body few size, size))
    (external-spelled wanted id body from few (omega (arith, size)) is))))

-- what is written for user data begins what follows it, with its body at the end
pub user-writes : (wanted : Option ℕ) (at id : ℕ) (body : List ℕ) → id < 2 ^ 32 → length body ≤ MOST_BODY → is_wanted wanted id ≡ true → Writes (user_data wanted) at (external_of id (last_span (at + length (user_octets id body)) body)) (user_octets id body)
unfolding user_data user_octets
user-writes wanted at id body few size is =
    let value = external_octets id body in
    let list = written 48 value in
    let from = at + 1 + length (length_octets (length list)) in
    let whole = written 97 list in
    let ends : from + length list ≡ at + length whole = omega (arith, length-append (length_octets (length list)) list) in
    let values_few = values-few id body few size in
    subst (λ (end : ℕ). Writes (part_in 97 (all_in (part_in 48 (external wanted)))) at (external_of id (last_span end body)) whole) ends
    (part-writes 97 (all_in (part_in 48 (external wanted))) at (external_of id (last_span (from + length list) body)) list (omega (arith, values_few, length-written 48 value, part_size-most (length value), size))
    (list-spelled_at wanted from id body few size is))

-- ---- results

octet-spelled : (accepting : Bool) (at value : ℕ) → may_be accepting value ≡ true → (contents_where (may_be accepting) octet).spells at value (value ∷ [])
unfolding contents_where octet
octet-spelled accepting at value right = (value, refl, (right, refl))

-- a result that accepts may stand anywhere
zero_may : (accepting : Bool) → may_be accepting 0 ≡ true
zero_may true = refl
zero_may false = refl

accepted-spelled : (accepting : Bool) (at : ℕ) → (result_contents accepting).spells at 0 (written 128 (0 ∷ []) ++ written 129 (81 ∷ 1 ∷ []))
unfolding result_contents maybe_in branch_in map_in then_in
accepted-spelled accepting at =
    let first = written 128 (0 ∷ []) in
    let last = written 129 (81 ∷ 1 ∷ []) in
    let next = at + length first in
    let end = next + length last in
    let ends : end ≡ at + length (first ++ last) = omega (arith, length-append first last) in
    all-spelled _ at 0 (first ++ last) (
      taken 0 next last,
      part-writes 128 _ at 0 (0 ∷ []) (omega arith) (octet-spelled accepting _ 0 (zero_may accepting)) last,
      (
        taken (Some (81 ∷ 1 ∷ [])) end [],
        inl (refl, (taken (81 ∷ 1 ∷ []) end [], ends_of (part_in 129 oid) next (81 ∷ 1 ∷ []) last (part-writes 129 oid next (81 ∷ 1 ∷ []) (81 ∷ 1 ∷ []) (omega arith) (oid-spelled _ (81 ∷ 1 ∷ []) ber_is)), refl)),
        (taken tt end [], none_passed (is_other 0 255 []) end [] refl, ap (λ (k : ℕ). taken 0 k []) (sym ends)),
      ),
    )

refused-spelled : (at value : ℕ) → (result_contents false).spells at value (written 128 (value ∷ []))
unfolding result_contents maybe_in branch_in map_in then_in gives
refused-spelled at value =
    let first = written 128 (value ∷ []) in
    let end = at + length first in
    all-spelled _ at value first (
      taken value end [],
      ends_of (part_in 128 (contents_where (may_be false) octet)) at value first (part-writes 128 _ at value (value ∷ []) (omega arith) (octet-spelled false _ value refl)),
      (
        taken None end [],
        inr (refl, refl),
        (taken tt end [], none_passed (is_other 0 255 []) end [] refl, refl),
      ),
    )

accepted-few : length (written 128 (0 ∷ []) ++ written 129 (81 ∷ 1 ∷ [])) ≡ 7
accepted-few = omega (arith, length-append (written 128 (0 ∷ [])) (written 129 (81 ∷ 1 ∷ [])), short-sized 128 (0 ∷ []) (omega arith), short-sized 129 (81 ∷ 1 ∷ []) (omega arith))

accepted-writes : (accepting : Bool) (at : ℕ) → Writes (one_result accepting) at 0 accepted_octets
unfolding one_result accepted_octets
accepted-writes accepting at = part-writes 48 (result_contents accepting) at 0 _ (omega (arith, accepted-few)) (accepted-spelled accepting _)

refused-writes : (at value : ℕ) → Writes (one_result false) at value (refused_octets value)
unfolding one_result refused_octets
refused-writes at value = part-writes 48 (result_contents false) at value _ (omega (arith, short-sized 128 (value ∷ []) (omega arith))) (refused-spelled _ value)

accepted-sized : length accepted_octets ≡ 9
unfolding accepted_octets
accepted-sized = omega (arith, accepted-few, short-sized 48 (written 128 (0 ∷ []) ++ written 129 (81 ∷ 1 ∷ [])) (omega (arith, accepted-few)))

refused-sized : (value : ℕ) → length (refused_octets value) ≡ 5
unfolding refused_octets
refused-sized value = omega (arith, short-sized 128 (value ∷ []) (omega arith), short-sized 48 (written 128 (value ∷ [])) (omega (arith, short-sized 128 (value ∷ []) (omega arith))))

result-writes : (value : ℕ) → WritesEach (one_result false) result_octets value
result-writes value = record {
  some = cond_both (eqb value 0) accepted_octets (refused_octets value) (λ os. 0 < length os) (λ e. omega (arith, accepted-sized)) (λ e. omega (arith, refused-sized value));
  writes = λ at. cond_both (eqb value 0) accepted_octets (refused_octets value) (Writes (one_result false) at value)
      (λ e. subst (λ (v : ℕ). Writes (one_result false) at v accepted_octets) (sym (eqb-true value 0 e)) (accepted-writes false at)) (λ e. refused-writes at value);
}

each-write : (found : List ℕ) → WriteAll (one_result false) result_octets found
each-write [] = tt
each-write (value ∷ found) = (result-writes value, each-write found)

result-few : (value : ℕ) → length (result_octets value) ≤ 9
result-few value = cond_both (eqb value 0) accepted_octets (refused_octets value) (λ os. length os ≤ 9) (λ e. omega (arith, accepted-sized)) (λ e. omega (arith, refused-sized value))

each-few : (found : List ℕ) → length (flat_map result_octets found) ≤ 9 * length found
each-few [] = omega arith
each-few (value ∷ found) = omega (arith, each-few found, result-few value, length-append (result_octets value) (flat_map result_octets found))

any-spelled : (at : ℕ) (found : List ℕ) → any_results.spells at found (flat_map result_octets found)
any-spelled at found = list-spelled (one_result false) result_octets 0 at found (omega arith) (each-write found)

-- two that accept, and others
accepting-spelled : (at : ℕ) (others : List ℕ) → accepting_results.spells at (0 ∷ 0 ∷ others) (flat_map result_octets (0 ∷ 0 ∷ others))
unfolding accepting_results begin_then_in contents_as
accepting-spelled at others =
    let rest = flat_map result_octets others in
    let one = at + length accepted_octets in
    let two = one + length accepted_octets in (
      taken 0 one (accepted_octets ++ rest),
      accepted-writes true at (accepted_octets ++ rest),
      (taken 0 two rest, accepted-writes true one rest, (others, any-spelled two others, refl)),
    )

-- what is written for results begins what follows it
pub results-write : (accepting : Bool) (at : ℕ) (found : List ℕ) → length found ≤ MOST_OFFERS → (accepting ≡ true → AreAccepting found) → Writes (results accepting) at found (results_octets found)
unfolding results branch_in results_octets
results-write false at found few right rest =
    inr (refl, part-writes 165 any_results at found (flat_map result_octets found) (omega (arith, each-few found, few)) (any-spelled _ found) rest)
results-write true at found few right rest =
    inl (refl, part-writes 165 accepting_results at found (flat_map result_octets found) (omega (arith, each-few found, few)) (accepting-of _ found (right refl)) rest)
  where
    accepting-of : (at : ℕ) (found : List ℕ) → AreAccepting found → accepting_results.spells at found (flat_map result_octets found)
    accepting-of at found is = subst (λ (xs : List ℕ). accepting_results.spells at xs (flat_map result_octets xs)) (sym is.1) (accepting-spelled at is.0)

pub results-few : (found : List ℕ) → length found ≤ MOST_OFFERS → length (results_octets found) ≤ 150
unfolding results_octets
results-few found few = omega (arith, each-few found, few, length-written 165 (flat_map result_octets found), part_size-most (length (flat_map result_octets found)))

pub user-few : (id : ℕ) (body : List ℕ) → id < 2 ^ 32 → length body ≤ MOST_BODY → length (user_octets id body) ≤ length body + 28
unfolding user_octets
user-few id body few size =
    let values = external_octets id body in
    omega (arith, values-few id body few size, length-written 48 values, part_size-most (length values), length-written 97 (written 48 values), part_size-most (length (written 48 values)))
