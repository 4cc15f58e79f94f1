-- What stands behind a tag is read exactly.
use Rattle.std.proofs.Common.{◌≡◌, ℕ, ◌+◌, ◌<◌, ◌≤◌, cond, eqb, ltb, [], ◌∷◌, length}
use Rattle.std.proofs.Common.{Ok, Err, inl, inr, ◌⊎◌}
use Rattle.std.proofs.lemmas.Bool.{ltb-true, ltb-false, lt-ltb, le-ltb, eqb-true, eqb-false}
use Rattle.std.proofs.lemmas.Bool.{eq-eqb, ne_eqb}
use Rattle.ber_values.specs.declared.fault.Why.{Why}
use Rattle.ber_values.specs.declared.fault.Why.TheVariants as whys
use Rattle.ber_values.specs.Faults.{fault_at}
use Rattle.ber_values.specs.Reading.{Taken, Begins, IsReading}
use Rattle.ber_values.specs.Tags.{SpellsLength, LengthFault, length_in}
use Rattle.ber_values.specs.Grammars.{Grammar, IsGrammar, taken, map_in, passed_in}
use Rattle.ber_values.specs.Extents.{Extent, sized, BeginsSized, IsPastEnd, definite, BeginsOctet}
use Rattle.ber_values.specs.Extents.{OctetFault, this_octet_in, extent_to, spanned, closing}
use Rattle.ber_values.specs.Extents.{is_element, closed, indefinite}
use Rattle.ber_values.proofs.Reading.{IsReading-then, IsReading-as}
use Rattle.ber_values.proofs.Tags.{length_reads}
use Rattle.ber_values.proofs.Combining.{IsReading-done, IsReading-failed, IsReading-map}
use Rattle.ber_values.proofs.Combining.{IsReading-test, then_reads, map_reads, passed_reads}

-- the last step: the contents lie within the octets
fits_reads : (at : ℕ) (size : Taken ℕ) → IsReading (Taken Extent)
    (λ t. (size.value ≤ length size.rest) × (t ≡ sized size))
    (λ f. (length size.rest < size.value) × (f ≡ fault_at at whys.Length))
    (cond (ltb (length size.rest) size.value) (Err (fault_at at whys.Length)) (Ok (sized size)))
fits_reads at size =
    IsReading-as (Taken Extent) _ (λ t. (size.value ≤ length size.rest) × (t ≡ sized size)) _
    (λ f. (length size.rest < size.value) × (f ≡ fault_at at whys.Length)) _
    (λ t h. elim h [
      | inl a ↦ absurd a.1
      | inr b ↦ (ltb-false (length size.rest) size.value b.0, b.1)
    ])
    (λ t h. inr (le-ltb (length size.rest) size.value h.0, h.1))
    (λ f h. elim h [
      | inl a ↦ (ltb-true (length size.rest) size.value a.0, a.1)
      | inr b ↦ absurd b.1
    ])
    (λ f h. inl (lt-ltb (length size.rest) size.value h.0, h.1))
    (IsReading-test (Taken Extent) (λ t. ⊥) (λ t. t ≡ sized size)
    (λ f. f ≡ fault_at at whys.Length) (λ f. ⊥) (ltb (length size.rest) size.value)
    (Err (fault_at at whys.Length)) (Ok (sized size))
    (λ e. IsReading-failed (Taken Extent) (fault_at at whys.Length))
    (λ e. IsReading-done (Taken Extent) (sized size)))

pub definite_reads : IsGrammar definite
unfolding definite
definite_reads at octets =
    IsReading-as (Taken Extent) _ (BeginsSized at octets) _
    (λ f. LengthFault at octets f ⊎ IsPastEnd at octets f) _
    (λ t h. record { size = h.0; size_spelled = h.1; within = h.2.0; is = h.2.1 })
    (λ t h. (h.size, h.size_spelled, (h.within, h.is)))
    (λ f h. elim h [
      | inl a ↦ inl a
      | inr b ↦ inr (record { size = b.0; size_spelled = b.1; past = b.2.0; is = b.2.1 })
    ])
    (λ f h. elim h [
      | inl a ↦ inl a
      | inr b ↦ inr (b.size, b.size_spelled, (b.past, b.is))
    ])
    (IsReading-then (Taken ℕ) (Taken Extent) (Begins ℕ SpellsLength at octets)
    (LengthFault at octets) (length_in at octets)
    (λ size t. (size.value ≤ length size.rest) × (t ≡ sized size))
    (λ size f. (length size.rest < size.value) × (f ≡ fault_at at whys.Length))
    (λ size. cond (ltb (length size.rest) size.value) (Err (fault_at at whys.Length))
    (Ok (sized size))) (length_reads at octets) (λ size s. fits_reads at size))

pub octet_reads : (octet : ℕ) (why : Why) → IsGrammar (this_octet_in octet why)
unfolding this_octet_in
octet_reads octet why at [] =
    IsReading-as (Taken (Unit {0})) (λ t. ⊥) (BeginsOctet octet at []) _
    (OctetFault octet why at []) _ (λ t h. absurd h) (λ t h. h) (λ f h. h) (λ f h. h)
    (IsReading-failed (Taken (Unit {0})) (fault_at at whys.Short))
octet_reads octet why at (first ∷ rest) =
    IsReading-as (Taken (Unit {0})) _ (BeginsOctet octet at (first ∷ rest)) _
    (OctetFault octet why at (first ∷ rest)) _
    (λ t h. elim h [ inl a ↦ (eqb-true first octet a.0, a.1) | inr b ↦ absurd b.1 ])
    (λ t h. inl (eq-eqb first octet h.0, h.1))
    (λ f h. elim h [ inl a ↦ absurd a.1 | inr b ↦ (eqb-false first octet b.0, b.1) ])
    (λ f h. inr (ne_eqb first octet h.0, h.1))
    (IsReading-test (Taken (Unit {0})) (λ t. t ≡ taken tt (at + 1) rest) (λ t. ⊥) (λ f. ⊥)
    (λ f. f ≡ fault_at at why) (eqb first octet) (Ok (taken tt (at + 1) rest))
    (Err (fault_at at why)) (λ e. IsReading-done (Taken (Unit {0})) (taken tt (at + 1) rest))
    (λ e. IsReading-failed (Taken (Unit {0})) (fault_at at why)))

pub spanned_reads : (g : Grammar (Unit {0})) → IsGrammar g → IsGrammar (spanned g)
unfolding spanned
spanned_reads g one at octets =
    IsReading-map (Taken (Unit {0})) (Taken Extent) (g.begins at octets) (g.fault at octets)
    (g.reading at octets) (λ t. taken (extent_to at octets t.next) t.next t.rest) (one at octets)

closing_reads : IsGrammar closing
unfolding closing
closing_reads = then_reads (this_octet_in 0 whys.Tag) (λ u. this_octet_in 0 whys.Length)
    (octet_reads 0 whys.Tag) (λ u. octet_reads 0 whys.Length)

closed_reads : (element : Grammar (Unit {0})) → IsGrammar element → IsGrammar (closed element)
unfolding closed
closed_reads element one =
    then_reads (spanned (passed_in element is_element)) (λ extent. map_in (λ u. extent) closing)
    (spanned_reads (passed_in element is_element) (passed_reads element is_element one))
    (λ extent. map_reads (λ u. extent) closing closing_reads)

pub indefinite_reads : (element : Grammar (Unit {0})) → IsGrammar element
    → IsGrammar (indefinite element)
unfolding indefinite
indefinite_reads element one = then_reads (this_octet_in 128 whys.Length) (λ u. closed element)
    (octet_reads 128 whys.Length) (λ u. closed_reads element one)
