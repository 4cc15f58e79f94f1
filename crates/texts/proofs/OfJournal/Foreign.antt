-- Octets that stand in no escaped text.
use Rattle.std.proofs.Common.{◌≡◌, ℕ, ◌/◌, ◌%◌, ◌<◌, Bool, true, false, not, ◌==◌, List, [], ◌∷◌}
use Rattle.std.proofs.Common.{refl, arith, codes}
use Rattle.std.specs.List.{list_all}
use Rattle.std.proofs.lemmas.Bool.{and_parts}
use Rattle.std.proofs.lemmas.Bool.Decides.{nat_tests}
use Rattle.std.proofs.lemmas.List.Folds.{list_all-append}
use Rattle.plain_text.specs.Octets.{hex_digit}
use Rattle.plain_text.specs.Escaped.{is_octet, is_plain, escaped_octet, escaped_text}
use Rattle.mms_data.specs.declared.object_name.Scope.{Scope}
use Rattle.mms_data.specs.declared.object_name.Scope.TheVariants.{Vmd, Domain, Association}
use Rattle.mms_data.specs.ObjectName.{ObjectName, IsIdentifier, IsScope, IsName}
use Rattle.mms_data.specs.Text.NameIn.{is_separator}
use Rattle.mms_data.specs.Text.Texts.{scope_text, name_text}
use Rattle.mms_data.proofs.OfText.ReadName.{octets_from_visible}

-- a test that no octet of an escaped text passes
pub record IsForeign (p : ℕ → Bool) : Type 0 where
  pub plain : (octet : ℕ) → is_plain octet ≡ true → not (p octet) ≡ true
  pub percent : not (p 37) ≡ true
  pub digit : (value : ℕ) → value < 16 → not (p (hex_digit value)) ≡ true

octet_foreign : (p : ℕ → Bool) → IsForeign p → (octet : ℕ) (plain : Bool)
    → is_plain octet ≡ plain → octet < 256
    → list_all (λ c. not (p c)) (escaped_octet octet) ≡ true
octet_foreign p foreign octet true e h = rw (e, foreign.plain octet e) refl
octet_foreign p foreign octet false e h =
    rw (
      e,
      foreign.percent,
      foreign.digit (octet / 16) (omega arith),
      foreign.digit (octet % 16) (omega arith),
    ) refl

octets_foreign : (p : ℕ → Bool) → IsForeign p → (octets : List ℕ)
    → list_all is_octet octets ≡ true → list_all (λ c. not (p c)) (escaped_text octets) ≡ true
octets_foreign p foreign [] h = refl
octets_foreign p foreign (octet ∷ rest) h =
    let parts = and_parts (is_octet octet) _ h in
    rw (
      list_all-append (λ c. not (p c)) (escaped_octet octet) (escaped_text rest),
      octet_foreign p foreign octet _ refl (grind (arith, nat_tests, parts.0)),
      octets_foreign p foreign rest parts.1,
    ) refl

pub identifier_foreign : (p : ℕ → Bool) → IsForeign p → (octets : List ℕ) → IsIdentifier octets
    → list_all (λ c. not (p c)) (escaped_text octets) ≡ true
identifier_foreign p foreign octets h =
    octets_foreign p foreign octets (octets_from_visible octets h.1.1)

separator_plain : (octet : ℕ) → is_plain octet ≡ true → not (is_separator octet) ≡ true
separator_plain octet e = grind (arith, nat_tests)

separator_digit : (value : ℕ) → value < 16 → not (is_separator (hex_digit value)) ≡ true
separator_digit value h = grind (arith, nat_tests)

pub separator_foreign : IsForeign is_separator
separator_foreign = record { plain = separator_plain; percent = refl; digit = separator_digit }

sign_plain : (octet : ℕ) → is_plain octet ≡ true → not (octet == 61) ≡ true
sign_plain octet e = grind (arith, nat_tests)

sign_digit : (value : ℕ) → value < 16 → not (hex_digit value == 61) ≡ true
sign_digit value h = grind (arith, nat_tests)

sign_foreign : IsForeign (λ octet. octet == 61)
sign_foreign = record { plain = sign_plain; percent = refl; digit = sign_digit }

scope_foreign : (scope : Scope) → IsScope scope
    → list_all (λ c. not (c == 61)) (scope_text scope) ≡ true
scope_foreign Vmd h = refl
scope_foreign (Domain domain) h =
    rw (
      list_all-append (λ c. not (c == 61)) (escaped_text domain) (codes "/"),
      identifier_foreign (λ octet. octet == 61) sign_foreign domain h,
    ) refl
scope_foreign Association h = refl

-- no name has an equals sign
pub name_foreign : (name : ObjectName) → IsName name
    → list_all (λ c. not (c == 61)) (name_text name) ≡ true
name_foreign name h =
    rw (
      list_all-append (λ c. not (c == 61)) (scope_text name.scope) (escaped_text name.item),
      scope_foreign name.scope h.0,
      identifier_foreign (λ octet. octet == 61) sign_foreign name.item h.1,
    ) refl
