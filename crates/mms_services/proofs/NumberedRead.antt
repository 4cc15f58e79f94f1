-- The number of a request is read just where the octets are a request with it.
use Rattle.std.proofs.Common.{◌≡◌, ℕ, List, Option, Some, None, Result, Ok, Err}
use Rattle.std.proofs.Common.{refl, sym, ap, ◌∙◌, subst, inl, inr, ◌⊎◌}
use Rattle.ber_values.specs.declared.fault.BerFault.{BerFault}
use Rattle.ber_values.specs.Faults.{Gives}
use Rattle.ber_values.specs.Reading.{Taken, HasOneReading}
use Rattle.ber_values.specs.Grammars.{Grammar, IsGrammar, taken}
use Rattle.ber_values.specs.Parts.{IsContentsGrammar, part_in, whole_in}
use Rattle.ber_values.specs.Readers.{taken_whole}
use Rattle.ber_values.proofs.Reading.{Ok_is, not_both, HasOneReading-from}
use Rattle.ber_values.proofs.Grammars.{IsReading-map, part_reads, whole_reads}
use Rattle.mms_services.specs.Pdus.{HasInvoke, IsInvokeOf}
use Rattle.mms_services.specs.Numbered.{front_in, numbered_request}
use Rattle.mms_services.specs.OneNumber.{HasOneNumber}
use Rattle.mms_services.proofs.PdusRead.{invoke_reads}

front_reads : {X : Type 0} (g : Grammar X) → IsGrammar g → IsContentsGrammar (front_in g)
unfolding front_in
front_reads {X} g one head octets =
    IsReading-map (Taken X) X (g.begins head.body octets) (g.fault head.body octets)
    (g.reading head.body octets) (λ t. t.value) (one head.body octets)

pub numbered_reads : IsGrammar numbered_request
unfolding numbered_request
numbered_reads = whole_reads _ (part_reads 160 _ (front_reads _ invoke_reads))

-- what the reading takes is a request with its number
pub number_begun : (octets : List ℕ) (u : Taken ℕ) → numbered_request.begins 0 octets u
    → HasInvoke octets u.value
unfolding numbered_request whole_in part_in front_in
number_begun octets u h =
    let t = h.0 in
    let part = h.1.0 in
    let x = h.1.2.0 in
    let front = h.1.2.1 in
    let is : t ≡ taken x part.head.next part.rest = h.1.2.2 in
    let same : u ≡ t = h.2.1 in
    record {
      request = part;
      begun = h.1.1;
      sole = sym (ap (λ (v : Taken ℕ). v.rest) is) ∙ h.2.0;
      number = front.0;
      numbered = front.1;
      is = sym front.2 ∙ sym (ap (λ (v : Taken ℕ). v.value) is)
          ∙ sym (ap (λ (v : Taken ℕ). v.value) same);
    }

-- and each request with a number is taken
pub number_taken : (octets : List ℕ) (invoke : ℕ) (h : HasInvoke octets invoke)
    → numbered_request.begins 0 octets (taken invoke h.request.head.next h.request.rest)
unfolding numbered_request whole_in part_in front_in
number_taken octets invoke h =
    let t = taken invoke h.request.head.next h.request.rest in (
      t,
      (h.request, h.begun, (invoke, (h.number, h.numbered, sym h.is), refl)),
      (h.sole, refl),
    )

-- the number that a function answers, or none where it answers a fault
abbrev pub number_of : Result ℕ BerFault → Option ℕ
number_of (Ok n) = Some n
number_of (Err f) = None

some_is : (n m : ℕ) → Some n ≡ Some m → n ≡ m
some_is n m e = cc

none_is : (n : ℕ) → None ≡ Some n → ⊥
none_is n e = cc

pub numbers_read : (octets : List ℕ) (r : Result ℕ BerFault)
    → Gives (taken_whole 0 octets) r (numbered_request.reading 0 octets)
    → IsInvokeOf octets (number_of r)
numbers_read octets (Ok n) gives invoke = (
  λ e. subst (HasInvoke octets) (some_is n invoke e)
      (number_begun octets (taken_whole 0 octets n)
      ((numbered_reads 0 octets).found (taken_whole 0 octets n) gives)),
  λ h. let t = taken invoke h.request.head.next h.request.rest in
      let read = (numbered_reads 0 octets).only t (number_taken octets invoke h) in
      let same : taken_whole 0 octets n ≡ t = Ok_is (taken_whole 0 octets n) t (sym gives ∙ read) in
      ap (λ (v : Taken ℕ). Some v.value) same,
)
numbers_read octets (Err f) gives invoke = (
  λ e. absurd (none_is invoke e),
  λ h. let t = taken invoke h.request.head.next h.request.rest in
      let read = (numbered_reads 0 octets).only t (number_taken octets invoke h) in
      absurd (not_both t f (sym read ∙ gives)),
)

-- a reading of the number is one number, or none
one_read : (octets : List ℕ)
    → HasOneReading (Taken ℕ) (numbered_request.begins 0 octets) (numbered_request.fault 0 octets)
    → HasOneNumber octets
one_read octets (inl o) = inl (
  o.0.0.value,
  number_begun octets o.0.0 o.0.1,
  λ n h. ap (λ (v : Taken ℕ). v.value)
      (o.0.2 (taken n h.request.head.next h.request.rest) (number_taken octets n h)),
)
one_read octets (inr o) = inr
    (λ n h. o.0 (taken n h.request.head.next h.request.rest) (number_taken octets n h))

pub one_number : (octets : List ℕ) → HasOneNumber octets
one_number octets = one_read octets
    (HasOneReading-from (Taken ℕ) (numbered_request.begins 0 octets)
    (numbered_request.fault 0 octets) (numbered_request.reading 0 octets) (numbered_reads 0 octets))
