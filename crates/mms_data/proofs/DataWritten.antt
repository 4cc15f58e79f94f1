-- Lawful data are spelled by their written form, whatever follows it.
use Rattle.std.proofs.Common.{◌≡◌, ℕ, zero, suc, ◌+◌, ◌^◌, ◌≤◌, ◌<◌, List, [], ◌∷◌, ◌++◌, length, pos, refl, sym, ap, subst, arith}
use Rattle.std.proofs.lemmas.List.{length-append}
use Rattle.std.proofs.lemmas.Int.{ints}
use Rattle.std.specs.Int.{w64}
use Rattle.std.specs.Int.RustNames.{FitsSigned}
use Rattle.ber_values.specs.Grammars.{taken}
use Rattle.ber_values.specs.Parts.{contents_as}
use Rattle.ber_values.specs.Lists.{BeginsList, list_in}
use Rattle.ber_values.specs.Leaves as leaves
use Rattle.ber_values.specs.Elements as elements
use Rattle.ber_values.specs.Writing.{written, bits_octets, boolean_octets, integer_octets}
use Rattle.ber_values.proofs.Written.{contents_spelled, integer_spelled}
use Rattle.ber_values.proofs.Capped.{length-written, part_size-more}
use Rattle.ber_values.proofs.Grammars.{choose-written, choose-other}
use Rattle.mms_data.specs.Datum.{Datum, boolean, integer, unsigned, bits, real, octets, text, structure, array, Data, no_data, datum, data_of, depth, deepest}
use Rattle.mms_data.specs.Floating.{floating}
use Rattle.mms_data.specs.DataOctets.{plain_datum, array_of, structure_of, datum_within, one_datum}
use Rattle.mms_data.specs.Lawful.{KeepsUnsigned, KeepUnsigned, IsLawful, IsHeld, AreHeld}
use Rattle.mms_data.specs.DataWritten.{datum_octets, members_octets}

-- contents are shorter than their element
contents_few : (tag : ℕ) (contents : List ℕ) → length (written tag contents) < 2 ^ 32 → length contents + 2 ≤ length (written tag contents)
contents_few tag contents few = omega (arith, length-written tag contents, part_size-more (length contents))

fewer : (tag : ℕ) (contents : List ℕ) → length (written tag contents) < 2 ^ 32 → length contents < 2 ^ 32
fewer tag contents few = omega (arith, few, contents_few tag contents few)

-- each datum has an octet at least, and a level
some_octets : (d : Datum) → 0 < length (datum_octets d)
some_octets (boolean b) = omega arith
some_octets (integer z) = omega arith
some_octets (unsigned n) = omega arith
some_octets (bits b) = omega arith
some_octets (real o) = omega arith
some_octets (octets o) = omega arith
some_octets (text o) = omega arith
some_octets (structure ds) = omega arith
some_octets (array ds) = omega arith

some_depth : (d : Datum) → 0 < depth d
some_depth (boolean b) = omega arith
some_depth (integer z) = omega arith
some_depth (unsigned n) = omega arith
some_depth (bits b) = omega arith
some_depth (real o) = omega arith
some_depth (octets o) = omega arith
some_depth (text o) = omega arith
some_depth (structure ds) = omega arith
some_depth (array ds) = omega arith

-- members as a list
list_of : Data → List Datum
list_of no_data = []
list_of (datum d ds) = d ∷ list_of ds

data_of-list_of : (ds : Data) → data_of (list_of ds) ≡ ds
unfolding list_of
data_of-list_of no_data = refl
data_of-list_of (datum d ds) = ap (datum d) (data_of-list_of ds)

some_first : (xs ys : List ℕ) → 0 < length xs → (xs ++ ys) ≡ [] → ⊥
some_first [] ys some e = omega (arith, some)
some_first (x ∷ xs) ys some e = cc

-- members, each of which is spelled by its written form, are spelled one after another
abbrev AllBegin : ℕ → Data → Type 0
AllBegin n no_data = Unit {0}
AllBegin n (datum d ds) = ((at : ℕ) (rest : List ℕ) → (datum_within n).begins at (datum_octets d ++ rest) (taken d (at + length (datum_octets d)) rest)) × AllBegin n ds

members_begin : (n at : ℕ) (ds : Data) → AllBegin n ds → BeginsList (datum_within n) at (members_octets ds) (list_of ds) (at + length (members_octets ds)) []
unfolding list_of
members_begin n at no_data each = (omega arith, refl)
members_begin n at (datum d ds) each =
    let next = at + length (datum_octets d) in
    let ends : next + length (members_octets ds) ≡ at + length (datum_octets d ++ members_octets ds) = omega (arith, length-append (datum_octets d) (members_octets ds)) in (
      taken d next (members_octets ds),
      some_first (datum_octets d) (members_octets ds) (some_octets d),
      each.0 at (members_octets ds),
      refl,
      subst (λ (k : ℕ). BeginsList (datum_within n) next (members_octets ds) (list_of ds) k []) ends (members_begin n next ds each.1),
    )

members_few : (ds : Data) → length (list_of ds) ≤ length (members_octets ds)
unfolding list_of
members_few no_data = omega arith
members_few (datum d ds) = omega (arith, members_few ds, some_octets d, length-append (datum_octets d) (members_octets ds))

members_spelled : (n at : ℕ) (ds : Data) → AllBegin n ds → (list_in 0 (datum_within n)).spells at (list_of ds) (members_octets ds)
unfolding list_in
members_spelled n at ds each = record { end = at + length (members_octets ds); spelled = members_begin n at ds each; enough = omega arith; few = members_few ds }

array_spelled : (n at : ℕ) (ds : Data) → AllBegin n ds → (contents_as array_of (list_in 0 (datum_within n))).spells at (array ds) (members_octets ds)
unfolding contents_as
array_spelled n at ds each = (list_of ds, members_spelled n at ds each, ap array (sym (data_of-list_of ds)))

structure_spelled : (n at : ℕ) (ds : Data) → AllBegin n ds → (contents_as structure_of (list_in 0 (datum_within n))).spells at (structure ds) (members_octets ds)
unfolding contents_as
structure_spelled n at ds each = (list_of ds, members_spelled n at ds each, ap structure (sym (data_of-list_of ds)))

fits_natural : (n : ℕ) → n < 2 ^ 63 → FitsSigned w64 (pos n)
fits_natural n lt = omega (arith, ints, lt)

mutual
  unfolding datum_within plain_datum contents_as floating leaves.boolean leaves.bits leaves.integer leaves.natural leaves.raw leaves.visible

  pub datum_begins : (n : ℕ) (d : Datum) → depth d ≤ n → KeepsUnsigned d → IsHeld d → length (datum_octets d) < 2 ^ 32 → (at : ℕ) (rest : List ℕ) → (datum_within n).begins at (datum_octets d ++ rest) (taken d (at + length (datum_octets d)) rest)
  datum_begins zero d shallow numbers held few at rest = absurd (omega (arith, shallow, some_depth d))
  datum_begins (suc n) (boolean b) shallow numbers held few at rest =
      choose-other 161 _ _ at _ _ refl (choose-other 162 _ _ at _ _ refl (choose-written 131 _ _ at (boolean b) (boolean_octets b) rest (fewer 131 (boolean_octets b) few) (b, contents_spelled elements.boolean b tt, refl)))
  datum_begins (suc n) (bits b) shallow numbers held few at rest =
      choose-other 161 _ _ at _ _ refl (choose-other 162 _ _ at _ _ refl (choose-other 131 _ _ at _ _ refl (choose-written 132 _ _ at (bits b) (bits_octets b) rest (fewer 132 (bits_octets b) few) (b, contents_spelled elements.bits b (held, omega (arith, few, contents_few 132 (bits_octets b) few)), refl))))
  datum_begins (suc n) (integer z) shallow numbers held few at rest =
      choose-other 161 _ _ at _ _ refl (choose-other 162 _ _ at _ _ refl (choose-other 131 _ _ at _ _ refl (choose-other 132 _ _ at _ _ refl (choose-written 133 _ _ at (integer z) (integer_octets z) rest (fewer 133 (integer_octets z) few) (z, integer_spelled z held, refl)))))
  datum_begins (suc n) (unsigned k) shallow numbers held few at rest =
      choose-other 161 _ _ at _ _ refl (choose-other 162 _ _ at _ _ refl (choose-other 131 _ _ at _ _ refl (choose-other 132 _ _ at _ _ refl (choose-other 133 _ _ at _ _ refl (choose-written 134 _ _ at (unsigned k) (integer_octets (pos k)) rest (fewer 134 (integer_octets (pos k)) few) (k, (integer_spelled (pos k) (fits_natural k numbers), numbers), refl))))))
  datum_begins (suc n) (real o) shallow numbers held few at rest =
      choose-other 161 _ _ at _ _ refl (choose-other 162 _ _ at _ _ refl (choose-other 131 _ _ at _ _ refl (choose-other 132 _ _ at _ _ refl (choose-other 133 _ _ at _ _ refl (choose-other 134 _ _ at _ _ refl (choose-written 135 _ _ at (real o) (8 ∷ o) rest (fewer 135 (8 ∷ o) few) (o, (refl, held), refl)))))))
  datum_begins (suc n) (octets o) shallow numbers held few at rest =
      choose-other 161 _ _ at _ _ refl (choose-other 162 _ _ at _ _ refl (choose-other 131 _ _ at _ _ refl (choose-other 132 _ _ at _ _ refl (choose-other 133 _ _ at _ _ refl (choose-other 134 _ _ at _ _ refl (choose-other 135 _ _ at _ _ refl (choose-written 137 _ _ at (octets o) o rest (fewer 137 o few) (o, refl, refl))))))))
  datum_begins (suc n) (text o) shallow numbers held few at rest =
      choose-other 161 _ _ at _ _ refl (choose-other 162 _ _ at _ _ refl (choose-other 131 _ _ at _ _ refl (choose-other 132 _ _ at _ _ refl (choose-other 133 _ _ at _ _ refl (choose-other 134 _ _ at _ _ refl (choose-other 135 _ _ at _ _ refl (choose-other 137 _ _ at _ _ refl (choose-written 138 _ _ at (text o) o rest (fewer 138 o few) (o, (held, refl), refl)))))))))
  datum_begins (suc n) (structure ds) shallow numbers held few at rest =
      choose-other 161 _ _ at _ _ refl (choose-written 162 _ _ at (structure ds) (members_octets ds) rest (fewer 162 (members_octets ds) few) (structure_spelled n _ ds (all_begin n ds (omega (arith, shallow)) numbers held (fewer 162 (members_octets ds) few))))
  datum_begins (suc n) (array ds) shallow numbers held few at rest =
      choose-written 161 _ _ at (array ds) (members_octets ds) rest (fewer 161 (members_octets ds) few) (array_spelled n _ ds (all_begin n ds (omega (arith, shallow)) numbers held (fewer 161 (members_octets ds) few)))

  all_begin : (n : ℕ) (ds : Data) → deepest ds ≤ n → KeepUnsigned ds → AreHeld ds → length (members_octets ds) < 2 ^ 32 → AllBegin n ds
  all_begin n no_data shallow numbers held few = tt
  all_begin n (datum d ds) shallow numbers held few =
      let len = length-append (datum_octets d) (members_octets ds) in
      (λ at rest. datum_begins n d (omega (arith, shallow)) numbers.0 held.0 (omega (arith, few, len)) at rest, all_begin n ds (omega (arith, shallow)) numbers.1 held.1 (omega (arith, few, len)))

-- what is written for a lawful datum begins what follows it
pub one_datum_begins : (d : Datum) → IsLawful d → IsHeld d → length (datum_octets d) < 2 ^ 32 → (at : ℕ) (rest : List ℕ) → one_datum.begins at (datum_octets d ++ rest) (taken d (at + length (datum_octets d)) rest)
unfolding one_datum
one_datum_begins d lawful held few at rest = datum_begins _ d lawful.shallow lawful.numbers held few at rest
