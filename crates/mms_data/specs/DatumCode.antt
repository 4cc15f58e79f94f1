-- A datum as a list of marks, which gives it back: by it a proof tells data apart.
use Rattle.std.specs.Prelude.{◌≡◌, ◌⊎◌, ℕ, ℤ, Bool, true, false, List, [], ◌∷◌, ◌++◌}
use Rattle.std.specs.Coded.{Coded, code_by, coded×, coded⊎, coded_ℕ, coded_ℤ, coded_bool}
use Rattle.std.specs.Coded.{coded_list}
use base.Stored.{coded_unit}
use Rattle.std.proofs.Common.{refl, sym, ap, ◌∙◌, append_assoc, append-nil, inl, inr}
use Rattle.mms_data.specs.Datum.{Datum, boolean, integer, unsigned, bits, real, octets, text}
use Rattle.mms_data.specs.Datum.{structure, array, Data, no_data, datum}

-- what a datum without members holds
abbrev pub Leaf : Type 0
Leaf = Bool ⊎ (ℤ ⊎ (ℕ ⊎ ((ℕ × List ℕ) ⊎ (List ℕ ⊎ (List ℕ ⊎ List ℕ)))))

-- the begin of a structure or of an array, and the end of either
abbrev pub Bracket : Type 0
Bracket = Bool ⊎ Unit {0}

abbrev pub Mark : Type 0
Mark = Leaf ⊎ Bracket

abbrev pub mark_code : Coded Mark
mark_code =
    coded⊎ (coded⊎ coded_bool
    (coded⊎ coded_ℤ
    (coded⊎ coded_ℕ
    (coded⊎ (coded× coded_ℕ (coded_list coded_ℕ))
    (coded⊎ (coded_list coded_ℕ)
    (coded⊎ (coded_list coded_ℕ) (coded_list coded_ℕ)))))))
    (coded⊎ coded_bool coded_unit)

abbrev pub end_mark : Mark
end_mark = inr (inr tt)

abbrev mutual
  -- the marks of a datum
  pub marks : Datum → List Mark
  marks (boolean b) = inl (inl b) ∷ []
  marks (integer z) = inl (inr (inl z)) ∷ []
  marks (unsigned n) = inl (inr (inr (inl n))) ∷ []
  marks (bits b) = inl (inr (inr (inr (inl (b.count, b.octets))))) ∷ []
  marks (real o) = inl (inr (inr (inr (inr (inl o))))) ∷ []
  marks (octets o) = inl (inr (inr (inr (inr (inr (inl o)))))) ∷ []
  marks (text o) = inl (inr (inr (inr (inr (inr (inr o)))))) ∷ []
  marks (structure ds) = inr (inl true) ∷ (marks_of_data ds ++ end_mark ∷ [])
  marks (array ds) = inr (inl false) ∷ (marks_of_data ds ++ end_mark ∷ [])

  pub marks_of_data : Data → List Mark
  marks_of_data no_data = []
  marks_of_data (datum d ds) = marks d ++ marks_of_data ds

-- the members that were read, and those round them, the innermost first
abbrev pub Frames : Type 0
Frames = Data × List Data

abbrev pub leaf : Leaf → Datum
leaf (inl b) = boolean b
leaf (inr (inl z)) = integer z
leaf (inr (inr (inl n))) = unsigned n
leaf (inr (inr (inr (inl p)))) = bits (record { count = p.0; octets = p.1 })
leaf (inr (inr (inr (inr (inl o))))) = real o
leaf (inr (inr (inr (inr (inr (inl o)))))) = octets o
leaf (inr (inr (inr (inr (inr (inr o)))))) = text o

abbrev pub composed : Bool → Data → Datum
composed true ds = structure ds
composed false ds = array ds

abbrev pub close : Datum → List Data → Frames
close d [] = (datum d no_data, [])
close d (ds ∷ outer) = (datum d ds, outer)

abbrev pub step : Mark → Frames → Frames
step (inl l) f = (datum (leaf l) f.0, f.1)
step (inr (inl b)) f = close (composed b f.0) f.1
step (inr (inr u)) f = (no_data, f.0 ∷ f.1)

-- marks are read from the last one on
abbrev pub frames : List Mark → Frames
frames [] = (no_data, [])
frames (m ∷ ms) = step m (frames ms)

abbrev pub first : Data → Datum
first no_data = boolean false
first (datum d ds) = d

abbrev pub datum_from : List Mark → Datum
datum_from ms = first (frames ms).0

mutual
  pub frames-marks : (d : Datum) (rest : List Mark)
      → frames (marks d ++ rest) ≡ (datum d (frames rest).0, (frames rest).1)
  frames-marks (boolean b) rest = refl
  frames-marks (integer z) rest = refl
  frames-marks (unsigned n) rest = refl
  frames-marks (bits b) rest = refl
  frames-marks (real o) rest = refl
  frames-marks (octets o) rest = refl
  frames-marks (text o) rest = refl
  frames-marks (structure ds) rest =
      ap (λ ms. step (inr (inl true)) (frames ms))
      (append_assoc (marks_of_data ds) (end_mark ∷ []) rest)
      ∙ ap (step (inr (inl true))) (frames-marks_of_data ds rest)
  frames-marks (array ds) rest =
      ap (λ ms. step (inr (inl false)) (frames ms))
      (append_assoc (marks_of_data ds) (end_mark ∷ []) rest)
      ∙ ap (step (inr (inl false))) (frames-marks_of_data ds rest)

  pub frames-marks_of_data : (ds : Data) (rest : List Mark)
      → frames (marks_of_data ds ++ end_mark ∷ rest) ≡ (ds, (frames rest).0 ∷ (frames rest).1)
  frames-marks_of_data no_data rest = refl
  frames-marks_of_data (datum d ds) rest =
      ap frames (append_assoc (marks d) (marks_of_data ds) (end_mark ∷ rest))
      ∙ frames-marks d (marks_of_data ds ++ end_mark ∷ rest)
      ∙ ap (λ f. (datum d f.0, f.1)) (frames-marks_of_data ds rest)

pub datum_from-marks : (d : Datum) → datum_from (marks d) ≡ d
datum_from-marks d = ap (λ ms. first (frames ms).0) (sym (append-nil (marks d)))
    ∙ ap (λ f. first f.0) (frames-marks d [])

-- the code of data
abbrev pub datum_code : Coded Datum
datum_code = code_by (List Mark) (coded_list mark_code) marks datum_from datum_from-marks
