-- What is written for offers is read back.
use Rattle.std.proofs.Common.{◌≡◌, ℕ, suc, ◌+◌, ◌*◌, ◌≤◌, ◌<◌, ◌^◌, true, List, [], ◌∷◌, ◌++◌, length, flat_map, pos, refl, sym, ap, subst, append-nil, arith}
use Rattle.std.specs.List.{All}
use Rattle.std.specs.Int.{w64}
use Rattle.std.specs.Int.RustNames.{FitsSigned}
use Rattle.std.proofs.lemmas.Int.{ints}
use Rattle.std.proofs.lemmas.List.{length-append}
use Rattle.std.proofs.lemmas.Bool.{le-leb}
use Rattle.ber_values.specs.Oid.{IsOid}
use Rattle.ber_values.specs.Writing.{written, integer_octets}
use Rattle.ber_values.specs.Lists.{list_in}
use Rattle.ber_values.specs.Grammars.{map_in}
use Rattle.ber_values.specs.Parts.{part_in, contents_as, contents_where}
use Rattle.ber_values.specs.Leaves.{unsigned, unsigned_within, oid}
use Rattle.ber_values.proofs.Written.{integer_spelled}
use Rattle.ber_values.proofs.Capped.{short-sized, length-written, part_size-most}
use Rattle.ber_values.proofs.WrittenParts.{Writes, Ends, ends_of, then-ends, map-ends, part-writes, all-spelled, WritesEach, WriteAll, list-spelled, count-spelled}
use Rattle.presentation_profile.specs.declared.offers.Offered.{Offered}
use Rattle.presentation_profile.specs.declared.offers.TheConstants.{MOST_OFFERS, LARGEST_ID}
use Rattle.presentation_profile.specs.Offers.{transfers, offered, offer_contents, offer, offers}
use Rattle.presentation_profile.specs.Written.{ber_octets, offered_octets, offer_octets, offers_octets, IsOffered, AreOffers}
use Rattle.presentation_profile.proofs.Sizes.{offered-sized}

-- an id of a context is spelled by the shortest integer
pub id-spelled : (at id : ℕ) → id < 2 ^ 32 → unsigned.spells at id (integer_octets (pos id))
unfolding unsigned
id-spelled at id few = (integer_spelled (pos id) (let fits : FitsSigned w64 (pos id) = omega (arith, ints, few) in fits), few)

pub id-few : (id : ℕ) → id < 2 ^ 32 → length (integer_octets (pos id)) ≤ 8
id-few id few = (integer_spelled (pos id) (let fits : FitsSigned w64 (pos id) = omega (arith, ints, few) in fits)).0.1

bounded_id : (at id : ℕ) → 1 ≤ id → id ≤ LARGEST_ID → (unsigned_within 1 LARGEST_ID).spells at id (integer_octets (pos id))
unfolding unsigned_within contents_where
bounded_id at id least most = (id, id-spelled at id (omega (arith, most)), (rw (le-leb 1 id least, le-leb id LARGEST_ID most) refl, refl))

-- a name is spelled by its octets
pub oid-spelled : (at : ℕ) (octets : List ℕ) → IsOid octets → oid.spells at octets octets
unfolding oid
oid-spelled at octets is = (is, refl)

pub ber_is : IsOid (81 ∷ 1 ∷ [])
ber_is = (omega arith, omega arith)

one_ber : WritesEach (part_in 6 oid) (written 6) (81 ∷ 1 ∷ [])
one_ber = record { some = omega arith; writes = λ at. part-writes 6 oid at (81 ∷ 1 ∷ []) (81 ∷ 1 ∷ []) (omega arith) (oid-spelled _ (81 ∷ 1 ∷ []) ber_is) }

-- BER alone, as the transfer syntaxes
transfers-spelled : (at : ℕ) → transfers.spells at true (written 6 (81 ∷ 1 ∷ []))
unfolding transfers contents_as
transfers-spelled at = (
  (81 ∷ 1 ∷ []) ∷ [],
  subst (λ os. (list_in 0 (part_in 6 oid)).spells at ((81 ∷ 1 ∷ []) ∷ []) os) (append-nil (written 6 (81 ∷ 1 ∷ [])))
      (list-spelled (part_in 6 oid) (written 6) 0 at ((81 ∷ 1 ∷ []) ∷ []) (omega arith) (one_ber, tt)),
  refl,
)

transfers-writes : (at : ℕ) → Writes (part_in 48 transfers) at true ber_octets
unfolding ber_octets
transfers-writes at = part-writes 48 transfers at true (written 6 (81 ∷ 1 ∷ [])) (omega (arith, short-sized 6 (81 ∷ 1 ∷ []) (omega arith))) (transfers-spelled _)

offered_with : (o : Offered) → o.ber ≡ true → offered o.id o.abstract_name true ≡ o
offered_with o e = ap (λ b. offered o.id o.abstract_name b) (sym e)

offer-spelled : (at : ℕ) (o : Offered) → IsOffered o → IsOid o.abstract_name → offer_contents.spells at o (offered_octets o)
unfolding offer_contents offered_octets
offer-spelled at o is named =
    let id = written 2 (integer_octets (pos o.id)) in
    let name = written 6 o.abstract_name in
    let sized = id-few o.id (omega (arith, is.1.0)) in
    all-spelled _ at o (id ++ (name ++ ber_octets))
    (then-ends (part_in 2 (unsigned_within 1 LARGEST_ID)) _ at o.id id o (name ++ ber_octets)
    (part-writes 2 (unsigned_within 1 LARGEST_ID) at o.id (integer_octets (pos o.id)) (omega (arith, sized)) (bounded_id _ o.id is.0 is.1.0))
    (then-ends (part_in 6 oid) _ (at + length id) o.abstract_name name o ber_octets
    (part-writes 6 oid (at + length id) o.abstract_name o.abstract_name (omega (arith, named.1)) (oid-spelled _ o.abstract_name named))
    (subst (λ (p : Offered). Ends (map_in (offered o.id o.abstract_name) (part_in 48 transfers)) (at + length id + length name) p ber_octets) (offered_with o is.1.1)
    (map-ends (offered o.id o.abstract_name) (part_in 48 transfers) (at + length id + length name) true ber_octets
    (ends_of (part_in 48 transfers) (at + length id + length name) true ber_octets (transfers-writes (at + length id + length name)))))))

offered-few : (o : Offered) → IsOffered o → IsOid o.abstract_name → length (offered_octets o) ≤ 50
offered-few o is named =
    let sized = id-few o.id (omega (arith, is.1.0)) in
    omega (arith, offered-sized o (length (integer_octets (pos o.id))) refl sized named.1, sized, named.1)

offer-writes : (o : Offered) → IsOffered o → IsOid o.abstract_name → WritesEach offer offer_octets o
unfolding offer offer_octets
offer-writes o is named = record {
  some = omega arith;
  writes = λ at. part-writes 48 offer_contents at o (offered_octets o) (omega (arith, offered-few o is named)) (offer-spelled _ o is named);
}

-- all of them, one after another
each-write : (os : List Offered) → All IsOffered os → All (λ o. IsOid o.abstract_name) os → WriteAll offer offer_octets os
each-write [] is named = tt
each-write (o ∷ os) is named = (
  offer-writes o (is 0 o (omega arith)) (named 0 o (omega arith)),
  each-write os (λ k d lt. is (suc k) d (omega (arith, lt))) (λ k d lt. named (suc k) d (omega (arith, lt))),
)

each-few : (os : List Offered) → All IsOffered os → All (λ o. IsOid o.abstract_name) os → length (flat_map offer_octets os) ≤ 52 * length os
unfolding offer_octets
each-few [] is named = omega arith
each-few (o ∷ os) is named =
    let few = offered-few o (is 0 o (omega arith)) (named 0 o (omega arith)) in
    let more = each-few os (λ k d lt. is (suc k) d (omega (arith, lt))) (λ k d lt. named (suc k) d (omega (arith, lt))) in
    omega (arith, few, more, short-sized 48 (offered_octets o) (omega (arith, few)), length-append (written 48 (offered_octets o)) (flat_map offer_octets os))

-- what is written for offers begins what follows it
pub offers-writes : (at : ℕ) (os : List Offered) → AreOffers os → All (λ o. IsOid o.abstract_name) os → Writes offers at os (offers_octets os)
unfolding offers offers_octets
offers-writes at os are named =
    part-writes 164 _ at os (flat_map offer_octets os) (omega (arith, each-few os are.each named, are.few))
    (count-spelled offer offer_octets 1 MOST_OFFERS _ os are.some are.few (each-write os are.each named))

pub offers-few : (os : List Offered) → AreOffers os → All (λ o. IsOid o.abstract_name) os → length (offers_octets os) ≤ 838
unfolding offers_octets
offers-few os are named = omega (arith, each-few os are.each named, are.few, length-written 164 (flat_map offer_octets os), part_size-most (length (flat_map offer_octets os)))
