-- The pieces for elements whose numbers rise are exact.
use Rattle.std.proofs.Common.{◌≡◌, ℕ, zero, suc, ◌+◌, Bool, Option, Some, None}
use Rattle.std.proofs.Common.{Result, Ok, Err, refl, sym, ap, inl, inr, ◌⊎◌, ◌∙◌}
use Rattle.std.specs.Prelude.{nat_le}
use Rattle.ber_values.specs.declared.fault.BerFault.{BerFault}
use Rattle.ber_values.specs.declared.tag.Tag.{Tag}
use Rattle.ber_values.specs.Reading.{Taken, Begins, IsReading}
use Rattle.ber_values.specs.Tags.{SpellsTag, TagFault, tag_in}
use Rattle.ber_values.specs.Grammars.{Grammar, IsGrammar, gives, first_is}
use Rattle.ber_values.specs.Grammars.{refused}
use Rattle.ber_values.specs.Passing.{skip}
use Rattle.ber_values.specs.Parts.{Contents, IsContentsGrammar, part_in, maybe_in}
use Rattle.ber_values.proofs.Reading.{IsReading-as, IsReading-then, Ok_is, not_both}
use Rattle.ber_values.proofs.Tags.{tag_reads}
use Rattle.ber_values.proofs.Grammars.{IsReading-done, gives_reads, then_reads, branch_reads, refused_reads, skip_reads}
use Rattle.ber_values.proofs.Grammars.{by_length_reads, part_reads, maybe_reads}
use Rattle.acse_assoc.specs.Rising.{by_tag, either_in, may_pass, rising_within, rising_in}
use Rattle.ber_values.specs.Grammars.{is_context}
use Rattle.acse_assoc.specs.Rising.{named_in, perhaps_in, read_of, attempt}

pub by_tag_reads : {X : Type 0} (g : Tag → Grammar X) → ((tag : Tag) → IsGrammar (g tag))
    → IsGrammar (by_tag g)
unfolding by_tag
by_tag_reads {X} g each at octets =
    IsReading-then (Taken Tag) (Taken X) (Begins Tag SpellsTag at octets) (TagFault at octets)
    (tag_in at octets) (λ tag t. (g tag.value).begins at octets t)
    (λ tag f. (g tag.value).fault at octets f) (λ tag. (g tag.value).reading at octets)
    (tag_reads at octets) (λ tag s. each tag.value at octets)

pub either_reads : {X : Type 0} (test : Bool) (one other : Grammar X) → IsGrammar one
    → IsGrammar other → IsGrammar (either_in test one other)
either_reads test one other a b = branch_reads (λ octets. test) one other a b

pub rising_within_reads : (number room least : ℕ) → IsGrammar (rising_within number room least)
unfolding rising_within
rising_within_reads number zero least = gives_reads least
rising_within_reads number (suc room) least =
    branch_reads (first_is is_context) _ (gives least)
    (by_tag_reads _ (λ tag. either_reads (may_pass number least tag) _ (gives least)
    (then_reads skip (λ u. rising_within number room (tag.number + 1)) skip_reads
    (λ u. rising_within_reads number room (tag.number + 1))) (gives_reads least)))
    (gives_reads least)

pub rising_reads : (number least : ℕ) → IsGrammar (rising_in number least)
unfolding rising_in
rising_reads number least =
    by_length_reads _ (λ room. rising_within_reads number room least)

pub named_reads : {X : Type 0} (number : ℕ) (c : Contents X) → IsContentsGrammar c → (least : ℕ)
    → IsGrammar (named_in number c least)
unfolding named_in
named_reads number c one least =
    either_reads (nat_le least number) (part_in (160 + number) c) refused
    (part_reads (160 + number) c one) refused_reads

pub perhaps_reads : {X : Type 0} (number : ℕ) (c : Contents X) → IsContentsGrammar c → (least : ℕ)
    → IsGrammar (perhaps_in number c least)
unfolding perhaps_in
perhaps_reads number c one least =
    either_reads (nat_le least number) (maybe_in (160 + number) c) (gives None)
    (maybe_reads (160 + number) c one) (gives_reads None)

attempted : (X : Type 0) (Spelled : X → Type 0) (First : BerFault → Type 0) (r : Result X BerFault)
    → IsReading X Spelled First r
    → IsReading (Option X) (λ v. ((x : X) × Spelled x × (v ≡ Some x))
    ⊎ (((x : X) → Spelled x → ⊥) × (v ≡ None))) (λ f. ⊥) (Ok (read_of r))
attempted X Spelled First (Ok x) one =
    IsReading-as (Option X) (λ v. v ≡ Some x) _ (λ f. ⊥) (λ f. ⊥) _
    (λ v e. inl (x, one.found x refl, e))
    (λ v h. elim h [
      | inl a ↦ a.2 ∙ ap (λ (y : X). Some y) (sym (Ok_is x a.0 (one.only a.0 a.1)))
      | inr b ↦ absurd (b.0 x (one.found x refl))
    ])
    (λ f h. h) (λ f h. h) (IsReading-done (Option X) (Some x))
attempted X Spelled First (Err f) one =
    IsReading-as (Option X) (λ v. v ≡ None) _ (λ f. ⊥) (λ f. ⊥) _
    (λ v e. inr (λ x s. not_both x f (sym (one.only x s)), e))
    (λ v h. elim h [
      | inl a ↦ absurd (not_both a.0 f (sym (one.only a.0 a.1)))
      | inr b ↦ b.1
    ])
    (λ f h. h) (λ f h. h) (IsReading-done (Option X) None)

pub attempt_reads : {X : Type 0} (c : Contents X) → IsContentsGrammar c
    → IsContentsGrammar (attempt c)
unfolding attempt
attempt_reads {X} c one head octets =
    attempted X (λ x. c.spells head.body x octets) (c.fault head octets) (c.reading head octets)
    (one head octets)
