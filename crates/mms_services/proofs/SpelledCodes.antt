-- What octets spell of codes can be written again.
use Rattle.std.proofs.Common.{◌≡◌, ℕ, ◌≤◌, true, List, [], ◌∷◌, inl, inr, arith}
use Rattle.std.specs.Prelude.{◌-◌, nat_le}
use Rattle.std.proofs.lemmas.Bool.{false≢true, and_parts, leb-true}
use Rattle.ber_values.specs.Reading.{Taken}
use Rattle.ber_values.specs.Grammars.{then_in, branch_in, refused}
use Rattle.ber_values.specs.Parts.{part_in, contents_as}
use Rattle.ber_values.specs.Leaves.{octet}
use Rattle.ber_values.proofs.Holding.{part-holds, map-holds, as-holds, all-holds}
use Rattle.mms_services.proofs.OfNames.SpelledNames.{then-holds}
use Rattle.mms_services.specs.declared.coded.Coded.{Coded}
use Rattle.mms_services.specs.declared.error.ErrorPdu.{ErrorPdu}
use Rattle.mms_services.specs.declared.reject.RejectPdu.{RejectPdu}
use Rattle.mms_services.specs.Coded.{by_first, is_within, coded, coded_in}
use Rattle.mms_services.specs.Errors.{error_class, service_error, error_of, error_pdu}
use Rattle.mms_services.specs.Rejects.{reject_of, reject_pdu}
use Rattle.mms_services.specs.Lawful.{IsClassed, IsOfKind}

-- ---- codes

within_is : (low high tag : ℕ) → is_within low high tag ≡ true → (low ≤ tag) × (tag ≤ high)
within_is low high tag e =
    let p = and_parts (nat_le low tag) (nat_le tag high) e in
    (leb-true low tag p.0, leb-true tag high p.1)

coded-holds : (low high : ℕ) (at : ℕ) (os : List ℕ) (t : Taken Coded) → (coded_in low high).begins at os t
    → (low - 128 ≤ t.value.number) × (t.value.number ≤ high - 128)
unfolding coded_in branch_in by_first refused
coded-holds low high at [] t (inl h) = absurd (false≢true h.0)
coded-holds low high at (tag ∷ os) t (inl h) =
    let w = within_is low high tag h.0 in
    part-holds (λ c. (low - 128 ≤ c.number) × (c.number ≤ high - 128)) tag (contents_as (coded tag) octet) at (tag ∷ os) t
    (as-holds (λ c. (low - 128 ≤ c.number) × (c.number ≤ high - 128)) (coded tag) octet (λ place x inner s. (omega (arith, w.0), omega (arith, w.1)))) h.1
coded-holds low high at os t (inr h) = absurd h.1

error_class-holds : (at : ℕ) (c : Coded) (os : List ℕ) → error_class.spells at c os → c.number ≤ 15
unfolding error_class
error_class-holds = all-holds (λ c. c.number ≤ 15) _ (λ at os t b. (coded-holds 128 143 at os t b).1)

service_error-holds : (at : ℕ) (c : Coded) (os : List ℕ) → service_error.spells at c os → c.number ≤ 15
unfolding service_error then_in
service_error-holds = all-holds (λ c. c.number ≤ 15) _ (λ at os t b.
    map-holds (λ c. c.number ≤ 15) (λ u. b.0.value) _ b.0.next b.0.rest t
    (λ u c. part-holds (λ c. c.number ≤ 15) 160 error_class at os b.0 error_class-holds b.1) b.2)

pub error_pdu-holds : (at : ℕ) (e : ErrorPdu) (os : List ℕ) → error_pdu.spells at e os → IsClassed e
unfolding error_pdu
error_pdu-holds = all-holds IsClassed _ (λ at os t. then-holds IsClassed _ _ at os t
    (λ invoke at os t. map-holds IsClassed (error_of invoke) (part_in 162 service_error) at os t
    (λ u. part-holds (λ c. c.number ≤ 15) 162 service_error at os u service_error-holds)))

pub reject_pdu-holds : (at : ℕ) (r : RejectPdu) (os : List ℕ) → reject_pdu.spells at r os → IsOfKind r
unfolding reject_pdu
reject_pdu-holds = all-holds IsOfKind _ (λ at os t. then-holds IsOfKind _ _ at os t
    (λ invoke at os t. map-holds IsOfKind (reject_of invoke) (coded_in 129 143) at os t
    (λ u. coded-holds 129 143 at os u)))
