-- Whole APDUs: one element, whose contents are a sequence.
use Rattle.std.proofs.Common.{◌≡◌, ◌≢◌, ℕ, zero, suc, ◌+◌, ◌%◌, eqb, List, [], ◌∷◌, ◌++◌, length}
use Rattle.std.proofs.Common.{refl, sym, ap, subst, ◌∙◌, inl, inr, append-nil, arith}
use Rattle.ber_values.specs.Octets.{IsOctets}
use Rattle.ber_values.specs.Reading.{Taken}
use Rattle.ber_values.specs.Grammars.{branch_in, has_tag}
use Rattle.ber_values.specs.Parts.{Contents, part_in, choose_in, contents_as, whole_in}
use Rattle.ber_values.specs.Readers.{taken_whole}
use Rattle.ber_values.specs.Leaves.{raw}
use Rattle.ber_values.specs.Runs.{AnyElement, IsSoundElement, element_octets}
use Rattle.ber_values.proofs.Octets.{IsOctets-rest}
use Rattle.ber_values.proofs.Runs.{part-element, element-part}
use Rattle.acse_assoc.specs.declared.expected.Expected.{Expected}
use Rattle.acse_assoc.specs.declared.apdu.Apdu.{Apdu}
use Rattle.acse_assoc.specs.declared.apdu.Apdu.TheVariants.{Aarq, Aare, Rlrq, Rlre, Abrt}
use Rattle.acse_assoc.specs.declared.request.AssociateRequest.{AssociateRequest}
use Rattle.acse_assoc.specs.declared.response.AssociateResponse.{AssociateResponse}
use Rattle.acse_assoc.specs.Requests.{request}
use Rattle.acse_assoc.specs.Responses.{response}
use Rattle.acse_assoc.specs.Apdus.{as_it_is, one_apdu, apdu}
use Rattle.acse_assoc.specs.Sequences.{IsAarq, IsAare, IsOneElement, IsWholeAarq, IsWholeAare}
use Rattle.acse_assoc.proofs.SequencesBack.{octets_behind, aarq-spelled, aare-spelled}
use Rattle.acse_assoc.proofs.SequencesOf.{spelled-aarq, spelled-aare}

octets_before : (xs ys : List ℕ) → IsOctets (xs ++ ys) → IsOctets xs
octets_before [] ys os i = omega arith
octets_before (x ∷ xs) ys os zero = os zero
octets_before (x ∷ xs) ys os (suc i) = octets_before xs ys (IsOctets-rest x (xs ++ ys) os) i

octets_in : (octets : List ℕ) (a : AnyElement) → octets ≡ element_octets a → IsOctets octets
    → IsOctets a.contents
octets_in octets a parts os = octets_before a.contents a.closing
    (octets_behind a.sized (a.contents ++ a.closing)
    (octets_behind a.tagged (a.sized ++ (a.contents ++ a.closing)) (subst IsOctets parts os)))

-- an element whose contents are a function of a value
alone_part : {X : Type 0} (tag : ℕ) (f : X → Apdu) (c : Contents X) (Holds : ℕ → List ℕ → Type 0)
    (at : ℕ) (octets : List ℕ) (t : Taken Apdu) → tag % 32 ≢ 31 → t.rest ≡ []
    → ((x : X) (place : ℕ) (os : List ℕ) → t.value ≡ f x → c.spells place x os
    → (IsOctets octets → IsOctets os) → Holds place os)
    → (part_in tag (contents_as f c)).begins at octets t → IsOneElement tag at octets Holds
unfolding contents_as
alone_part tag f c Holds at octets t single ended each b =
    let p = part-element tag (contents_as f c) at octets t single b in
    let a = p.0 in
    let parts : octets ≡ element_octets a = p.2 ∙ ap (λ os. element_octets a ++ os) ended
    ∙ append-nil (element_octets a) in
    record {
      element = a;
      sound = p.1;
      tagged = p.4;
      parts = parts;
      contents = each p.5.0 (at + length a.tagged + length a.sized) a.contents p.5.2 p.5.1
          (octets_in octets a parts);
    }

part_value : {X : Type 0} (tag : ℕ) (f : X → Apdu) (c : Contents X) (at : ℕ) (octets : List ℕ)
    (t : Taken Apdu) → (part_in tag (contents_as f c)).begins at octets t → (x : X)
    × (t.value ≡ f x)
unfolding part_in contents_as
part_value tag f c at octets t b = (b.2.1.0, ap (λ (u : Taken Apdu). u.value) b.2.2 ∙ b.2.1.2)

-- a number for each kind of APDU
kind_of : Apdu → ℕ
kind_of (Aarq r) = 0
kind_of (Aare r) = 1
kind_of Rlrq = 2
kind_of Rlre = 3
kind_of Abrt = 4

not_of : {X : Type 0} (tag : ℕ) (f : X → Apdu) (c : Contents X) (k at : ℕ) (octets : List ℕ)
    (t : Taken Apdu) → ((x : X) → kind_of (f x) ≡ k → ⊥) → kind_of t.value ≡ k
    → (part_in tag (contents_as f c)).begins at octets t → ⊥
not_of tag f c k at octets t other kind b = let v = part_value tag f c at octets t b in other v.0
    (sym (ap kind_of v.1) ∙ kind)

pub whole-aarq : (e : Expected) (at : ℕ) (octets : List ℕ) (r : AssociateRequest) → IsOctets octets
    → (apdu e).begins at octets (taken_whole at octets (Aarq r)) → IsWholeAarq e at octets r
unfolding apdu one_apdu whole_in choose_in branch_in kind_of
whole-aarq e at octets r os (t, one, (ended, is)) =
    let value : Aarq r ≡ t.value = ap (λ (u : Taken Apdu). u.value) is in
    let kind : kind_of t.value ≡ 0 = sym (ap kind_of value) in
    elim one [
      | inl (first, b) ↦ alone_part 96 (λ q. Aarq q) (request e)
          (λ body contents. (es : List AnyElement) × IsAarq e body contents es r) at octets t
          (omega arith) ended (λ q place xs v s o.
          subst (λ (q : AssociateRequest). (es : List AnyElement) × IsAarq e place xs es q)
          (same_request q r (sym v ∙ sym value)) (spelled-aarq e place xs q (o os) s)) b
      | inr (other, inl (first, b)) ↦ absurd
          (not_of 97 (λ q. Aare q) (response e) 0 at octets t (λ x k. omega (arith, k)) kind b)
      | inr (other, inr (second, inl (first, b))) ↦ absurd
          (not_of 98 (as_it_is Rlrq) raw 0 at octets t (λ x k. omega (arith, k)) kind b)
      | inr (other, inr (second, inr (third, inl (first, b)))) ↦ absurd
          (not_of 99 (as_it_is Rlre) raw 0 at octets t (λ x k. omega (arith, k)) kind b)
      | inr (other, inr (second, inr (third, inr (last, b)))) ↦ absurd
          (not_of 100 (as_it_is Abrt) raw 0 at octets t (λ x k. omega (arith, k)) kind b)
    ]
  where
    same_request : (a b : AssociateRequest) → Aarq a ≡ Aarq b → a ≡ b
    same_request a b e = cc

pub whole-aare : (e : Expected) (at : ℕ) (octets : List ℕ) (r : AssociateResponse)
    → (apdu e).begins at octets (taken_whole at octets (Aare r)) → IsWholeAare e at octets r
unfolding apdu one_apdu whole_in choose_in branch_in kind_of
whole-aare e at octets r (t, one, (ended, is)) =
    let value : Aare r ≡ t.value = ap (λ (u : Taken Apdu). u.value) is in
    let kind : kind_of t.value ≡ 1 = sym (ap kind_of value) in
    elim one [
      | inl (first, b) ↦ absurd
          (not_of 96 (λ q. Aarq q) (request e) 1 at octets t (λ x k. omega (arith, k)) kind b)
      | inr (other, inl (first, b)) ↦ alone_part 97 (λ q. Aare q) (response e)
          (λ body contents. (es : List AnyElement) × IsAare e body contents es r) at octets t
          (omega arith) ended (λ q place xs v s o.
          subst (λ (q : AssociateResponse). (es : List AnyElement) × IsAare e place xs es q)
          (same_response q r (sym v ∙ sym value)) (spelled-aare e place xs q s)) b
      | inr (other, inr (second, inl (first, b))) ↦ absurd
          (not_of 98 (as_it_is Rlrq) raw 1 at octets t (λ x k. omega (arith, k)) kind b)
      | inr (other, inr (second, inr (third, inl (first, b)))) ↦ absurd
          (not_of 99 (as_it_is Rlre) raw 1 at octets t (λ x k. omega (arith, k)) kind b)
      | inr (other, inr (second, inr (third, inr (last, b)))) ↦ absurd
          (not_of 100 (as_it_is Abrt) raw 1 at octets t (λ x k. omega (arith, k)) kind b)
    ]
  where
    same_response : (a b : AssociateResponse) → Aare a ≡ Aare b → a ≡ b
    same_response a b e = cc

-- and the other way round
alone_begins : {X : Type 0} (tag : ℕ) (f : X → Apdu) (c : Contents X) (at : ℕ) (a : AnyElement)
    (x : X) → IsSoundElement a → a.tagged ≡ tag ∷ []
    → c.spells (at + length a.tagged + length a.sized) x a.contents
    → (part_in tag (contents_as f c)).begins at (element_octets a)
    (taken_whole at (element_octets a) (f x))
unfolding contents_as
alone_begins tag f c at a x s tagged spelled = subst
    (λ (os : List ℕ). (part_in tag (contents_as f c)).begins at os
    (taken_whole at (element_octets a) (f x))) (append-nil (element_octets a))
    (element-part tag (contents_as f c) at a [] (f x) s tagged (x, spelled, refl))

tag_is : (tag other : ℕ) (a : AnyElement) → a.tagged ≡ other ∷ []
    → has_tag tag (element_octets a) ≡ eqb other tag
tag_is tag other a tagged =
    ap (λ (os : List ℕ). has_tag tag (os ++ (a.sized ++ (a.contents ++ a.closing)))) tagged

pub aarq-whole : (e : Expected) (at : ℕ) (octets : List ℕ) (r : AssociateRequest) → IsOctets octets
    → IsWholeAarq e at octets r → (apdu e).begins at octets (taken_whole at octets (Aarq r))
unfolding apdu one_apdu whole_in choose_in branch_in
aarq-whole e at octets r os w =
    let a = w.element in
    let spelled = aarq-spelled e (at + length a.tagged + length a.sized) a.contents w.contents.0 r
    (octets_in octets a w.parts os) w.contents.1 in
    subst (λ (xs : List ℕ). (apdu e).begins at xs (taken_whole at xs (Aarq r))) (sym w.parts) (
      taken_whole at (element_octets a) (Aarq r),
      inl (
        tag_is 96 96 a w.tagged,
        alone_begins 96 (λ q. Aarq q) (request e) at a r w.sound w.tagged spelled,
      ),
      (refl, refl),
    )

pub aare-whole : (e : Expected) (at : ℕ) (octets : List ℕ) (r : AssociateResponse) → IsOctets octets
    → IsWholeAare e at octets r → (apdu e).begins at octets (taken_whole at octets (Aare r))
unfolding apdu one_apdu whole_in choose_in branch_in
aare-whole e at octets r os w =
    let a = w.element in
    let spelled = aare-spelled e (at + length a.tagged + length a.sized) a.contents w.contents.0 r
    (octets_in octets a w.parts os) w.contents.1 in
    subst (λ (xs : List ℕ). (apdu e).begins at xs (taken_whole at xs (Aare r))) (sym w.parts) (
      taken_whole at (element_octets a) (Aare r),
      inr (
        tag_is 96 97 a w.tagged,
        inl (
          tag_is 97 97 a w.tagged,
          alone_begins 97 (λ q. Aare q) (response e) at a r w.sound w.tagged spelled,
        ),
      ),
      (refl, refl),
    )
