-- Words that are names, values, classes and scopes are told by their octets.
use Rattle.std.proofs.Common.{◌≡◌, ℕ, suc, ◌+◌, ◌-◌, Bool, true, false, not, ◌==◌, List, []}
use Rattle.std.proofs.Common.{◌∷◌, ◌++◌, length, take, drop, get_or, Some, None, ℤ}
use Rattle.std.proofs.Common.{codes, refl, sym, ap, subst, ◌∙◌, arith, cond}
use Rattle.std.specs.Option.{option_map}
use Rattle.std.specs.Fmt.{signed_decimal}
use Rattle.std.specs.List.{list_all}
use Rattle.std.specs.Str.{bytes_eq}
use Rattle.std.specs.Int.{w64}
use Rattle.std.specs.Int.RustNames.{FitsSigned}
use Rattle.std.proofs.Math.Seq.{take-append_seam, drop-append-add, get_or-append_seam}
use Rattle.std.proofs.lemmas.Bool.Decides.{nat_tests}
use Rattle.std.proofs.lemmas.List.{length-append}
use Rattle.std.proofs.lemmas.List.Folds.{list_all-append}
use Rattle.std.proofs.lemmas.Slice.Eq.{bytes_eq-Decides}
use Rattle.plain_text.specs.Escaped.{is_octet, escaped_text}
use Rattle.plain_text.proofs.EscapedText.{option_map-found}
use Rattle.mms_data.specs.declared.object_name.Scope.{Scope}
use Rattle.mms_data.specs.declared.object_name.Scope.TheVariants.{Vmd, Domain, Association}
use Rattle.mms_data.specs.ObjectName.{ObjectName, IsName, IsScope, IsIdentifier}
use Rattle.mms_data.specs.Datum.{Datum, integer}
use Rattle.mms_data.specs.Text.NameIn.{name_in, identifier_in}
use Rattle.mms_data.specs.Text.Texts.{data_text, name_text, scope_text}
use Rattle.mms_data.specs.Text.TextRead.{HasText}
use Rattle.mms_data.proofs.OfText.ReadName.{name_in-name_text, identifier_in-found, position-append}
use Rattle.mms_data.proofs.OfText.ReadName.{identifier_in-escaped_text, octets_from_visible}
use Rattle.mms_data.proofs.OfText.WordOctets.{is_word_octet, each_passes, escaped_octets}
use Rattle.mms_data.proofs.OfText.LeafRead.{integer-read}
use Rattle.mms_data.proofs.OfText.WordText.{word-found, chosen, is_same}
use Rattle.mms_data.proofs.OfText.TextBreaks.{one_datum}
use Rattle.texts.specs.Events.CallWords.{assigned_word}
use Rattle.texts.specs.Events.Assigned.{equals_in}
use Rattle.texts.specs.Events.Verbs.{class_in, bare_scope_in, scope_word_in}

pub some_same : {A : Type 0} (a b : A) → Some a ≡ Some b → a ≡ b
some_same a b e = cc

pub same_name : (a b : ObjectName) → IsName a → IsName b → name_text a ≡ name_text b → a ≡ b
same_name a b h k e =
    some_same a b (sym (name_in-name_text a h) ∙ ap name_in e ∙ name_in-name_text b k)

pub same_after : (a b : List ℕ) → IsIdentifier a → IsIdentifier b
    → escaped_text a ≡ escaped_text b → a ≡ b
same_after a b h k e =
    some_same a b (sym (identifier_in-escaped_text a h) ∙ ap identifier_in e
    ∙ identifier_in-escaped_text b k)

pub same_class : (a b : ℤ) → FitsSigned w64 a → FitsSigned w64 b
    → signed_decimal a ≡ signed_decimal b → a ≡ b
same_class a b h k e =
    some_same a b (sym (integer-read a h) ∙ ap class_in e ∙ integer-read b k)

-- a word that is read as a class is spelled so
pub class_in-found : (word : List ℕ) (class : ℤ) → class_in word ≡ Some class
    → (word ≡ signed_decimal class) × FitsSigned w64 class
class_in-found word class e =
    let w = word-found (105 ∷ word) (integer class) (ap (option_map integer) e) in
    (ap (drop 1) w.spelled, w.parts)

bare-found : (word : List ℕ) (scope : Scope) (vmd aa : Bool) → bytes_eq word (codes "vmd:") ≡ vmd
    → bytes_eq word (codes "aa:") ≡ aa
    → cond vmd (Some Vmd) (cond aa (Some Association) None) ≡ Some scope
    → (word ≡ scope_text scope) × IsScope scope
bare-found word scope true aa h k e =
    let same : Vmd ≡ scope = some_same Vmd scope e in
    subst (λ s. (word ≡ scope_text s) × IsScope s) same
    ((bytes_eq-Decides word (codes "vmd:")).0 h, tt)
bare-found word scope false true h k e =
    let same : Association ≡ scope = some_same Association scope e in
    subst (λ s. (word ≡ scope_text s) × IsScope s) same
    ((bytes_eq-Decides word (codes "aa:")).0 k, tt)
bare-found word scope false false h k e = absurd cc

before_last : (n : ℕ) → suc (suc n) - 1 ≡ suc (suc n - 1)
before_last n = omega arith

last_split : (word : List ℕ) → get_or word (length word - 1) 0 ≡ 47
    → word ≡ take (length word - 1) word ++ 47 ∷ []
last_split [] e = absurd (omega (arith, e))
last_split (c ∷ []) e = ap (λ o. o ∷ []) e
last_split (c ∷ d ∷ more) e =
    rw (before_last (length more)) (ap (λ t. c ∷ t)
    (last_split (d ∷ more) (rw (before_last (length more)) at e)))

-- a word that is read as a scope is spelled so
pub scope_in-found : (word : List ℕ) (scope : Scope) → scope_word_in word ≡ Some scope
    → (word ≡ scope_text scope) × IsScope scope
scope_in-found word scope e =
    chosen ((word ≡ scope_text scope) × IsScope scope) scope
    (get_or word (length word - 1) 0 == 47)
    (option_map Domain (identifier_in (take (length word - 1) word))) (bare_scope_in word)
    (λ slash found.
    option_map-found Domain (identifier_in (take (length word - 1) word)) scope found
    (λ domain domain_is scope_is.
    let d = identifier_in-found (take (length word - 1) word) domain domain_is in
    let spelled : word ≡ escaped_text domain ++ 47 ∷ [] = last_split word (is_same _ _ slash)
    ∙ ap (λ t. t ++ 47 ∷ []) d.0 in
    subst (λ s. (word ≡ scope_text s) × IsScope s) (sym scope_is) (spelled, d.1)))
    (λ other found. bare-found word scope _ _ refl refl found)
    e

domain_read : (escaped domain : List ℕ) → identifier_in escaped ≡ Some domain
    → scope_word_in (escaped ++ 47 ∷ []) ≡ Some (Domain domain)
domain_read escaped domain e =
    let count : length (escaped ++ 47 ∷ []) - 1 ≡ length escaped =
    rw (length-append escaped (47 ∷ [])) (omega arith) in
    rw (
      count,
      get_or-append_seam escaped 47 [] 0,
      take-append_seam escaped (47 ∷ []),
      e,
    ) refl

-- a scope's text is read as this scope
pub scope_in-scope_text : (scope : Scope) → IsScope scope → scope_word_in (scope_text scope) ≡ Some scope
scope_in-scope_text Vmd h = refl
scope_in-scope_text (Domain domain) h =
    domain_read (escaped_text domain) domain (identifier_in-escaped_text domain h)
scope_in-scope_text Association h = refl

pub same_scope : (a b : Scope) → IsScope a → IsScope b → scope_text a ≡ scope_text b → a ≡ b
same_scope a b h k e =
    some_same a b (sym (scope_in-scope_text a h) ∙ ap scope_word_in e ∙ scope_in-scope_text b k)

-- no equals sign
abbrev pub HasNoEquals : List ℕ → Type 0
HasNoEquals octets = list_all (λ c. not (c == 61)) octets ≡ true

octet_is_none : (c : ℕ) → is_word_octet c ≡ true → not (c == 61) ≡ true
octet_is_none c e = grind (arith, nat_tests)

escaped_has_none : (octets : List ℕ) → list_all is_octet octets ≡ true
    → HasNoEquals (escaped_text octets)
escaped_has_none octets h =
    each_passes (λ c. not (c == 61)) octet_is_none (escaped_text octets) (escaped_octets octets h)

scope_has_none : (scope : Scope) → IsScope scope → HasNoEquals (scope_text scope)
scope_has_none Vmd h = refl
scope_has_none (Domain domain) h =
    rw (
      list_all-append (λ c. not (c == 61)) (escaped_text domain) (47 ∷ []),
      escaped_has_none domain (octets_from_visible domain h.1.1),
    ) refl
scope_has_none Association h = refl

name_has_none : (name : ObjectName) → IsName name → HasNoEquals (name_text name)
name_has_none name h =
    rw (
      list_all-append (λ c. not (c == 61)) (scope_text name.scope) (escaped_text name.item),
      scope_has_none name.scope h.0,
      escaped_has_none name.item (octets_from_visible name.item h.1.1.1),
    ) refl

-- an assignment is parted at its first equals sign
pub parted : (name : ObjectName) (value : Datum) → IsName name
    → (equals_in (assigned_word name value) ≡ Some (length (name_text name)))
    × (take (length (name_text name)) (assigned_word name value) ≡ name_text name)
    × (drop (length (name_text name) + 1) (assigned_word name value) ≡ data_text value)
parted name value h = (
  position-append (λ c. c == 61) (name_text name) 61 (data_text value) (name_has_none name h) refl,
  take-append_seam (name_text name) (61 ∷ data_text value),
  drop-append-add (name_text name) (61 ∷ data_text value) 1,
)

pub same_assignment : (a b : ObjectName) (x y : Datum) → IsName a → IsName b → HasText x → HasText y
    → assigned_word a x ≡ assigned_word b y → (a ≡ b) × (x ≡ y)
same_assignment a b x y h k t u e =
    let p = parted a x h in
    let q = parted b y k in
    let count : length (name_text a) ≡ length (name_text b) =
    some_same _ _ (sym p.0 ∙ ap equals_in e ∙ q.0) in
    let name : name_text a ≡ name_text b =
    sym p.1 ∙ ap (λ n. take n (assigned_word a x)) count
    ∙ ap (take (length (name_text b))) e ∙ q.1 in
    let value : data_text x ≡ data_text y =
    sym p.2 ∙ ap (λ n. drop (n + 1) (assigned_word a x)) count
    ∙ ap (drop (length (name_text b) + 1)) e ∙ q.2 in
    (same_name a b h k name, one_datum x y t.parts u.parts value)
