-- The texts of names and outcomes have no space, and names no equals sign; so words with a space
-- between each two are the words of that text.
use Rattle.std.proofs.Common.{◌≡◌, ℕ, ◌<◌, ◌==◌, not, true, false, List, [], ◌∷◌, ◌++◌}
use Rattle.std.proofs.Common.{length, flat_map, filter, decimal, refl, ap, ◌∙◌, append-nil, arith}
use Rattle.std.specs.List.{All, list_all}
use Rattle.std.proofs.lemmas.Bool.{and_parts}
use Rattle.std.proofs.lemmas.Bool.Decides.{nat_tests}
use Rattle.std.proofs.lemmas.List.Elements.{All-nil, All-cons}
use Rattle.std.proofs.lemmas.List.Folds.{list_all-append}
use Rattle.std.proofs.lemmas.List.Splits.{slice_split_none, slice_split_at}
use Rattle.plain_text.specs.Escaped.{escaped_text}
use Rattle.plain_text.specs.Words.{words, is_word}
use Rattle.mms_data.specs.declared.object_name.Scope.{Scope}
use Rattle.mms_data.specs.declared.object_name.Scope.TheVariants.{Vmd, Domain, Association}
use Rattle.mms_data.specs.declared.outcome.Outcome.{Outcome}
use Rattle.mms_data.specs.declared.outcome.Outcome.TheVariants.{Good, Fail}
use Rattle.mms_data.specs.Datum.{Datum, structure, array, Data, no_data, datum}
use Rattle.mms_data.specs.ObjectName.{ObjectName, IsName, IsScope, IsIdentifier}
use Rattle.mms_data.specs.Text.Texts.{name_text, scope_text, data_text, members_text, further_text}
use Rattle.mms_data.specs.Text.Texts.{outcome_text}
use Rattle.mms_data.specs.Text.TextRead.{IsLeaf, IsTextual, AreTextual}
use Rattle.mms_data.proofs.OfText.ReadName.{octets_from_visible}
use Rattle.mms_data.proofs.OfText.WordOctets.{is_word_octet, each_passes, escaped_octets, decimal_octets}
use Rattle.mms_data.proofs.OfText.Marks.{leaf_octets}
use Rattle.texts.specs.Reports.ReportWords.{HasOutcomeText}

-- a text without this octet
abbrev pub HasNone : ℕ → List ℕ → Type 0
HasNone code octets = list_all (λ octet. not (octet == code)) octets ≡ true

-- this octet stands in no word, and is neither a colon nor a slash
pub record IsForeign (code : ℕ) : Type 0 where
  pub words : (octet : ℕ) → is_word_octet octet ≡ true → not (octet == code) ≡ true
  pub colon : HasNone code (58 ∷ [])
  pub slash : HasNone code (47 ∷ [])

space-words : (octet : ℕ) → is_word_octet octet ≡ true → not (octet == 32) ≡ true
space-words octet is = grind (arith, nat_tests)

equals-words : (octet : ℕ) → is_word_octet octet ≡ true → not (octet == 61) ≡ true
equals-words octet is = grind (arith, nat_tests)

pub space : IsForeign 32
space = record { words = space-words; colon = refl; slash = refl }

pub equals : IsForeign 61
equals = record { words = equals-words; colon = refl; slash = refl }

pub both_none : (code : ℕ) (a b : List ℕ) → HasNone code a → HasNone code b
    → HasNone code (a ++ b)
both_none code a b h k = rw (list_all-append (λ octet. not (octet == code)) a b, h, k) refl

-- ---- names

escaped_none : (code : ℕ) → IsForeign code → (octets : List ℕ) → IsIdentifier octets
    → HasNone code (escaped_text octets)
escaped_none code f octets h =
    each_passes (λ octet. not (octet == code)) f.words (escaped_text octets)
    (escaped_octets octets (octets_from_visible octets h.1.1))

scope_none : (code : ℕ) → IsForeign code → (scope : Scope) → IsScope scope
    → HasNone code (scope_text scope)
scope_none code f Vmd h =
    both_none code (118 ∷ 109 ∷ 100 ∷ []) (58 ∷ [])
    (each_passes (λ octet. not (octet == code)) f.words (118 ∷ 109 ∷ 100 ∷ []) refl) f.colon
scope_none code f (Domain domain) h =
    both_none code (escaped_text domain) (47 ∷ []) (escaped_none code f domain h) f.slash
scope_none code f Association h =
    both_none code (97 ∷ 97 ∷ []) (58 ∷ [])
    (each_passes (λ octet. not (octet == code)) f.words (97 ∷ 97 ∷ []) refl) f.colon

pub name_none : (code : ℕ) → IsForeign code → (name : ObjectName) → IsName name
    → HasNone code (name_text name)
name_none code f name h =
    both_none code (scope_text name.scope) (escaped_text name.item)
    (scope_none code f name.scope h.0) (escaped_none code f name.item h.1)

-- ---- outcomes

leaf_none : (d : Datum) → IsLeaf d → IsTextual d → HasNone 32 (data_text d)
leaf_none d leaf t =
    each_passes (λ octet. not (octet == 32)) space-words (data_text d) (leaf_octets d leaf t)

mutual
  datum_none : (d : Datum) → IsTextual d → HasNone 32 (data_text d)
  datum_none (structure ds) t =
      both_none 32 (members_text ds) (125 ∷ []) (members_none ds t) refl
  datum_none (array ds) t = both_none 32 (members_text ds) (93 ∷ []) (members_none ds t) refl
  datum_none d t = leaf_none d tt t

  members_none : (ds : Data) → AreTextual ds → HasNone 32 (members_text ds)
  members_none no_data t = refl
  members_none (datum d ds) t =
      both_none 32 (data_text d) (further_text ds) (datum_none d t.0) (further_none ds t.1)

  further_none : (ds : Data) → AreTextual ds → HasNone 32 (further_text ds)
  further_none no_data t = refl
  further_none (datum d ds) t =
      both_none 32 (data_text d) (further_text ds) (datum_none d t.0) (further_none ds t.1)

pub outcome_none : (outcome : Outcome) → HasOutcomeText outcome
    → HasNone 32 (outcome_text outcome)
outcome_none (Good d) h = datum_none d h.parts
outcome_none (Fail reason) h =
    each_passes (λ octet. not (octet == 32)) space-words (decimal reason)
    (decimal_octets reason (omega (arith, h)))

-- ---- words

-- some octets, and no space among them
pub record IsBare (word : List ℕ) : Type 0 where
  pub some : 0 < length word
  pub unspaced : HasNone 32 word

abbrev pub AreBare : List (List ℕ) → Type 0
AreBare [] = Unit {0}
AreBare (word ∷ words) = IsBare word × AreBare words

-- a space before each word
abbrev pub after_spaces : List (List ℕ) → List ℕ
after_spaces words = flat_map (λ word. 32 ∷ word) words

no_space : (octet : ℕ) → not (octet == 32) ≡ true → (octet == 32) ≡ false
no_space octet e = grind (arith, nat_tests, e)

all_unspaced : (octets : List ℕ) → HasNone 32 octets → All (λ o. (o == 32) ≡ false) octets
all_unspaced [] e = All-nil (λ o. (o == 32) ≡ false)
all_unspaced (octet ∷ octets) e =
    let parts = and_parts (not (octet == 32)) _ e in
    All-cons (λ o. (o == 32) ≡ false) octet octets (no_space octet parts.0)
    (all_unspaced octets parts.1)

some_is_word : (word : List ℕ) → 0 < length word → is_word word ≡ true
some_is_word [] h = absurd (omega (arith, h))
some_is_word (octet ∷ word) h = refl

pub words-parted : (word : List ℕ) (others : List (List ℕ)) → IsBare word → AreBare others
    → words (word ++ after_spaces others) ≡ word ∷ others
words-parted word [] h k =
    ap words (append-nil word)
    ∙ ap (filter is_word) (slice_split_none (λ o. o == 32) word (all_unspaced word h.unspaced))
    ∙ rw (some_is_word word h.some) refl
words-parted word (next ∷ others) h k =
    ap (filter is_word)
    (slice_split_at (λ o. o == 32) word 32 (next ++ after_spaces others)
    (all_unspaced word h.unspaced) refl)
    ∙ rw (some_is_word word h.some) (ap (λ t. word ∷ t) (words-parted next others k.0 k.1))
