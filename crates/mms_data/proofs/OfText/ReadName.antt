-- A name is read from its own text, and from no other.
use Rattle.std.proofs.Common.{◌≡◌, ℕ, ◌+◌, ◌<◌, ◌≤◌, Bool, true, false, not, cond, eqb}
use Rattle.std.proofs.Common.{nat_lt, nat_le, List, [], ◌∷◌, ◌++◌, length, take, drop, slice_index}
use Rattle.std.proofs.Common.{Option, Some, None, option_map, Result, Ok, Err, IfOk, IfSome, refl}
use Rattle.std.proofs.Common.{sym, ap, ◌∙◌, append_assoc, length-append, add-one, arith, codes}
use Rattle.std.specs.List.{list_all, position, prefix_len}
use Rattle.std.specs.Str.{bytes_eq}
use Rattle.std.proofs.Math.Seq.{take-append_seam, get_or-append_seam, drop-append-add, split_at}
use Rattle.std.proofs.lemmas.Bool.{and_parts}
use Rattle.std.proofs.lemmas.Bool.Decides.{nat_tests}
use Rattle.std.proofs.lemmas.List.Quantifiers.{position-Some}
use Rattle.std.proofs.lemmas.Option.{option_and_then_some}
use Rattle.std.proofs.lemmas.Slice.Eq.{bytes_eq-Decides}
use Rattle.plain_text.specs.Escaped.{is_octet, escaped_text, unescaped}
use Rattle.plain_text.proofs.EscapedText.{option_map-found, unescaped-found, unescaped-escaped_text}
use Rattle.ber_values.specs.Visible.{is_visible_octet}
use Rattle.ber_values.specs.declared.visible_string.TheConstants.{VISIBLE_LIMIT}
use Rattle.mms_data.specs.declared.object_name.Scope.{Scope}
use Rattle.mms_data.specs.declared.object_name.Scope.TheVariants.{Vmd, Domain, Association}
use Rattle.mms_data.specs.ObjectName.{ObjectName, IsIdentifier, IsScope, IsName}
use Rattle.mms_data.specs.Text.NameIn.{if_identifier, identifier_in, is_separator, scope_in}
use Rattle.mms_data.specs.Text.NameIn.{name_of_parts, name_in}
use Rattle.mms_data.specs.Text.Texts.{scope_text, name_text}
use Rattle.mms_data.proofs.OfText.WordOctets.{is_word_octet, each_passes, escaped_octets}

-- visible octets are octets
pub octets_from_visible : (octets : List ℕ) → list_all is_visible_octet octets ≡ true
    → list_all is_octet octets ≡ true
octets_from_visible [] e = refl
octets_from_visible (octet ∷ rest) e =
    let parts = and_parts (is_visible_octet octet) _ e in
    let small : is_octet octet ≡ true = grind (arith, nat_tests, parts.0) in
    rw (small, octets_from_visible rest parts.1) refl

if_found : (octets found : List ℕ) (passes : Bool) → cond passes (Some octets) None ≡ Some found
    → (passes ≡ true) × (found ≡ octets)
if_found octets found true e = (refl, cc)
if_found octets found false e = absurd cc

pub identifier_in-found : (escaped octets : List ℕ) → identifier_in escaped ≡ Some octets
    → (escaped ≡ escaped_text octets) × IsIdentifier octets
identifier_in-found escaped octets e =
    option_and_then_some if_identifier (unescaped escaped) octets e
    (λ found is_found passes.
    let whole = if_found found octets _ passes in
    let tests = and_parts _ (list_all is_visible_octet found) whole.0 in
    let lengths = and_parts (nat_lt 0 (length found)) (nat_le (length found) VISIBLE_LIMIT)
    tests.0 in
    let same : octets ≡ found = whole.1 in
    let some : 0 < length found = grind (arith, nat_tests, lengths.0) in
    let few : length found ≤ VISIBLE_LIMIT = grind (arith, nat_tests, lengths.1) in (
      unescaped-found escaped found is_found
          ∙ ap escaped_text (sym same),
      rw same (some, (few, tests.1)),
    ))

pub identifier_in-escaped_text : (octets : List ℕ) → IsIdentifier octets
    → identifier_in (escaped_text octets) ≡ Some octets
identifier_in-escaped_text octets h =
    let some : nat_lt 0 (length octets) ≡ true = grind (arith, nat_tests, h.0) in
    let few : nat_le (length octets) VISIBLE_LIMIT ≡ true = grind (arith, nat_tests, h.1.0) in
    rw (unescaped-escaped_text octets (octets_from_visible octets h.1.1), some, few, h.1.1) refl

scope_found_word : (before : List ℕ) (scope : Scope) (is_vmd is_aa : Bool)
    → bytes_eq before (codes "vmd") ≡ is_vmd → bytes_eq before (codes "aa") ≡ is_aa
    → cond is_vmd (Some Vmd) (cond is_aa (Some Association) None) ≡ Some scope
    → (before ++ 58 ∷ [] ≡ scope_text scope) × IsScope scope
scope_found_word before scope true is_aa e k w =
    let vmd : scope ≡ Vmd = cc in
    let word : before ≡ codes "vmd" = (bytes_eq-Decides before (codes "vmd")).0 e in
    rw vmd (ap (λ t. t ++ 58 ∷ []) word, tt)
scope_found_word before scope false true e k w =
    let association : scope ≡ Association = cc in
    let word : before ≡ codes "aa" = (bytes_eq-Decides before (codes "aa")).0 k in
    rw association (ap (λ t. t ++ 58 ∷ []) word, tt)
scope_found_word before scope false false e k w = absurd cc

scope_found : (before : List ℕ) (separator : ℕ) (scope : Scope) (is_slash : Bool)
    → eqb separator 47 ≡ is_slash → is_separator separator ≡ true
    → cond is_slash (option_map Domain (identifier_in before))
    (cond (bytes_eq before (codes "vmd")) (Some Vmd)
    (cond (bytes_eq before (codes "aa")) (Some Association) None)) ≡ Some scope
    → (before ++ separator ∷ [] ≡ scope_text scope) × IsScope scope
scope_found before separator scope true e s k =
    let slash : separator ≡ 47 = grind (arith, nat_tests) in
    option_map-found Domain (identifier_in before) scope k
    (λ domain is_domain whole.
    let found = identifier_in-found before domain is_domain in
    rw (whole, slash) (ap (λ t. t ++ 47 ∷ []) found.0, found.1))
scope_found before separator scope false e s k =
    let colon : separator ≡ 58 = grind (arith, nat_tests) in
    rw colon (scope_found_word before scope _ _ refl refl k)

pub scope_in-found : (before : List ℕ) (separator : ℕ) (scope : Scope)
    → is_separator separator ≡ true → scope_in before separator ≡ Some scope
    → (before ++ separator ∷ [] ≡ scope_text scope) × IsScope scope
scope_in-found before separator scope s e = scope_found before separator scope _ refl s e

pub name_of_parts-found : (before : List ℕ) (separator : ℕ) (after : List ℕ) (name : ObjectName)
    → is_separator separator ≡ true → name_of_parts before separator after ≡ Some name
    → (before ++ separator ∷ after ≡ name_text name) × IsName name
name_of_parts-found before separator after name s e =
    option_and_then_some
    (λ scope. option_map (λ item. record { scope = scope; item = item }) (identifier_in after))
    (scope_in before separator) name e
    (λ scope is_scope k.
    option_map-found (λ item. record { scope = scope; item = item }) (identifier_in after) name k
    (λ item is_item whole.
    let first = scope_in-found before separator scope s is_scope in
    let second = identifier_in-found after item is_item in
    rw whole (
      sym (append_assoc before (separator ∷ []) after) ∙ ap (λ t. t ++ after) first.0
          ∙ ap (λ t. scope_text scope ++ t) second.0,
      (first.1, second.1),
    )))

pub name_in-found : (escaped : List ℕ) (name : ObjectName) → name_in escaped ≡ Some name
    → (escaped ≡ name_text name) × IsName name
name_in-found escaped name e =
    option_and_then_some
    (λ place. name_of_parts (take place escaped) (slice_index escaped place)
    (drop (place + 1) escaped)) (position is_separator escaped) name e
    (λ place is_place k.
    let at = position-Some is_separator escaped place 0 is_place in
    let found = name_of_parts-found (take place escaped) (slice_index escaped place)
    (drop (place + 1) escaped) name at.1 k in
    let parts : escaped ≡ take place escaped
    ++ slice_index escaped place ∷ drop (place + 1) escaped =
    rw add-one (split_at escaped place 0 at.0) in
    (parts ∙ found.0, found.1))

-- a list in front of what passes
pub prefix_len-append : (p : ℕ → Bool) (xs : List ℕ) (y : ℕ) (ys : List ℕ) → list_all p xs ≡ true
    → p y ≡ false → prefix_len p (xs ++ y ∷ ys) ≡ length xs
prefix_len-append p [] y ys all_pass e = rw e refl
prefix_len-append p (x ∷ xs) y ys all_pass e =
    let parts = and_parts (p x) (list_all p xs) all_pass in
    rw (parts.0, prefix_len-append p xs y ys parts.1 e) (omega arith)

pub position-append : (p : ℕ → Bool) (xs : List ℕ) (y : ℕ) (ys : List ℕ)
    → list_all (λ x. not (p x)) xs ≡ true → p y ≡ true
    → position p (xs ++ y ∷ ys) ≡ Some (length xs)
position-append p xs y ys none e =
    let stops : not (p y) ≡ false = rw e refl in
    let whole = prefix_len-append (λ x. not (p x)) xs y ys none stops in
    let within : nat_lt (length xs) (length (xs ++ y ∷ ys))
    ≡ true = rw (length-append xs (y ∷ ys)) (grind (arith, nat_tests)) in
    rw (whole, within) refl

name_in-parts : (before : List ℕ) (separator : ℕ) (after : List ℕ)
    → list_all (λ octet. not (is_separator octet)) before ≡ true → is_separator separator ≡ true
    → name_in (before ++ separator ∷ after) ≡ name_of_parts before separator after
name_in-parts before separator after none e =
    rw (
      position-append is_separator before separator after none e,
      take-append_seam before
          (separator ∷ after),
      get_or-append_seam before separator after 0,
      drop-append-add before
          (separator ∷ after) 1,
    ) refl

octet_separates_not : (c : ℕ) → is_word_octet c ≡ true → not (is_separator c) ≡ true
octet_separates_not c e = grind (arith, nat_tests)

-- escaped text has no separator
escaped_text_separates_not : (octets : List ℕ) → list_all is_octet octets ≡ true
    → list_all (λ c. not (is_separator c)) (escaped_text octets) ≡ true
escaped_text_separates_not octets h =
    each_passes (λ c. not (is_separator c)) octet_separates_not (escaped_text octets)
    (escaped_octets octets h)

pub name_in-name_text : (name : ObjectName) → IsName name → name_in (name_text name) ≡ Some name
name_in-name_text name h = by_scope name.scope name.item h.0 h.1
  where
    by_scope : (scope : Scope) (item : List ℕ) → IsScope scope → IsIdentifier item
        → name_in (scope_text scope ++ escaped_text item)
        ≡ Some (record { scope = scope; item = item })
    by_scope Vmd item s i = name_in-parts (codes "vmd") 58 (escaped_text item) refl refl
        ∙ rw (identifier_in-escaped_text item i) refl
    by_scope (Domain domain) item s i =
        ap name_in (append_assoc (escaped_text domain) (47 ∷ []) (escaped_text item))
        ∙ name_in-parts (escaped_text domain) 47 (escaped_text item)
        (escaped_text_separates_not domain (octets_from_visible domain s.1.1)) refl
        ∙ rw (identifier_in-escaped_text domain s, identifier_in-escaped_text item i) refl
    by_scope Association item s i = name_in-parts (codes "aa") 58 (escaped_text item) refl refl
        ∙ rw (identifier_in-escaped_text item i) refl

-- where the name that was read is the text's, the text is that name's
pub found_from_exact : {E : Type 0} (read : Result (Option ObjectName) E) (escaped : List ℕ)
    → IfOk read (λ name. name ≡ name_in escaped)
    → IfOk read (λ name. IfSome name (λ n. (escaped ≡ name_text n) × IsName n))
found_from_exact (Ok None) escaped exact = tt
found_from_exact (Ok (Some name)) escaped exact = name_in-found escaped name (sym exact)
found_from_exact (Err e) escaped exact = tt

-- where the name that was read is the text's, each name with this text is the one that was read
pub only_from_exact : {E : Type 0} (read : Result (Option ObjectName) E) (escaped : List ℕ)
    → IfOk read (λ name. name ≡ name_in escaped) → (n : ObjectName) → IsName n
    → escaped ≡ name_text n → IfOk read (λ name. name ≡ Some n)
only_from_exact (Ok name) escaped exact n h e = exact ∙ ap name_in e ∙ name_in-name_text n h
only_from_exact (Err e) escaped exact n h k = tt
