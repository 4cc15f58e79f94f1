-- The texts of the parts of calls have printing characters alone: no space and no tab.
use Rattle.std.proofs.Common.{◌≡◌, ℕ, ◌^◌, ◌<◌, ◌&&◌, Bool, true, nat_le, List, [], ◌∷◌, ◌++◌}
use Rattle.std.proofs.Common.{ℤ, decimal, refl, arith}
use Rattle.std.specs.Fmt.{signed_decimal}
use Rattle.std.specs.List.{list_all}
use Rattle.std.specs.Int.{w64}
use Rattle.std.specs.Int.RustNames.{FitsSigned}
use Rattle.std.proofs.lemmas.Bool.Decides.{nat_tests}
use Rattle.std.proofs.lemmas.List.Folds.{list_all-append}
use Rattle.plain_text.specs.Escaped.{escaped_text}
use Rattle.mms_data.specs.declared.object_name.Scope.{Scope}
use Rattle.mms_data.specs.declared.object_name.Scope.TheVariants.{Vmd, Domain, Association}
use Rattle.mms_data.specs.ObjectName.{ObjectName, IsName, IsScope, IsIdentifier}
use Rattle.mms_data.specs.Datum.{Datum, structure, array, Data, no_data, datum}
use Rattle.mms_data.specs.Text.Texts.{data_text, members_text, further_text, name_text, scope_text}
use Rattle.mms_data.specs.Text.TextRead.{IsLeaf, IsTextual, AreTextual, HasText}
use Rattle.mms_data.proofs.OfText.ReadName.{octets_from_visible}
use Rattle.mms_data.proofs.OfText.WordOctets.{is_word_octet, AreWordOctets, each_passes, decimal_octets}
use Rattle.mms_data.proofs.OfText.WordOctets.{signed_octets, escaped_octets}
use Rattle.mms_data.proofs.OfText.Marks.{leaf_octets}

-- a printing character other than a space
abbrev pub is_graphic : ℕ → Bool
is_graphic c = nat_le 33 c && nat_le c 126

abbrev pub AreGraphic : List ℕ → Type 0
AreGraphic os = list_all is_graphic os ≡ true

pub both_graphic : (xs ys : List ℕ) → AreGraphic xs → AreGraphic ys → AreGraphic (xs ++ ys)
both_graphic xs ys h k = rw (list_all-append is_graphic xs ys, h, k) refl

octet_graphic : (c : ℕ) → is_word_octet c ≡ true → is_graphic c ≡ true
octet_graphic c e = grind (arith, nat_tests)

word_graphic : (os : List ℕ) → AreWordOctets os → AreGraphic os
word_graphic os are = each_passes is_graphic octet_graphic os are

pub decimal_graphic : (n : ℕ) → n < 2 ^ 64 → AreGraphic (decimal n)
decimal_graphic n small = word_graphic (decimal n) (decimal_octets n small)

pub escaped_graphic : (os : List ℕ) → IsIdentifier os → AreGraphic (escaped_text os)
escaped_graphic os h =
    word_graphic (escaped_text os) (escaped_octets os (octets_from_visible os h.1.1))

pub signed_graphic : (z : ℤ) → FitsSigned w64 z → AreGraphic (signed_decimal z)
signed_graphic z fits = word_graphic (signed_decimal z) (signed_octets z fits)

leaf_graphic : (d : Datum) → IsLeaf d → IsTextual d → AreGraphic (data_text d)
leaf_graphic d leaf t = word_graphic (data_text d) (leaf_octets d leaf t)

pub scope_graphic : (scope : Scope) → IsScope scope → AreGraphic (scope_text scope)
scope_graphic Vmd h = refl
scope_graphic (Domain domain) h =
    both_graphic (escaped_text domain) (47 ∷ []) (escaped_graphic domain h) refl
scope_graphic Association h = refl

pub name_graphic : (name : ObjectName) → IsName name → AreGraphic (name_text name)
name_graphic name h =
    both_graphic (scope_text name.scope) (escaped_text name.item) (scope_graphic name.scope h.0)
    (escaped_graphic name.item h.1)

mutual
  datum_graphic : (d : Datum) → IsTextual d → AreGraphic (data_text d)
  datum_graphic (structure ds) t =
      both_graphic (members_text ds) (125 ∷ []) (members_graphic ds t) refl
  datum_graphic (array ds) t =
      both_graphic (members_text ds) (93 ∷ []) (members_graphic ds t) refl
  datum_graphic d t = leaf_graphic d tt t

  members_graphic : (ds : Data) → AreTextual ds → AreGraphic (members_text ds)
  members_graphic no_data t = refl
  members_graphic (datum d ds) t =
      both_graphic (data_text d) (further_text ds) (datum_graphic d t.0) (further_graphic ds t.1)

  further_graphic : (ds : Data) → AreTextual ds → AreGraphic (further_text ds)
  further_graphic no_data t = refl
  further_graphic (datum d ds) t =
      both_graphic (data_text d) (further_text ds) (datum_graphic d t.0) (further_graphic ds t.1)

pub data_graphic : (d : Datum) → HasText d → AreGraphic (data_text d)
data_graphic d h = datum_graphic d h.parts
