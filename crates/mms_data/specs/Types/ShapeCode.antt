-- A shape as a list of marks, which gives it back: by it a proof tells shapes apart.
use Rattle.std.specs.Prelude.{◌≡◌, ◌⊎◌, ℕ, List, [], ◌∷◌, ◌++◌}
use Rattle.std.specs.Coded.{Coded, code_by, coded⊎, coded_ℕ, coded_list}
use base.Stored.{coded_unit}
use Rattle.std.proofs.Common.{refl, sym, ap, ◌∙◌, append_assoc, append-nil, inl, inr}
use Rattle.mms_data.specs.Types.TypeShape.{TypeShape, bool_shape, bits_shape, int_shape}
use Rattle.mms_data.specs.Types.TypeShape.{uint_shape, real_shape, text_shape, structure_shape}
use Rattle.mms_data.specs.Types.TypeShape.{TypeShapes, no_shapes, shapes}

-- what a shape without components holds
abbrev pub ShapeLeaf : Type 0
ShapeLeaf = Unit {0} ⊎ (ℕ ⊎ (ℕ ⊎ (ℕ ⊎ (Unit {0} ⊎ ℕ))))

-- the begin of a structure, and its end
abbrev pub ShapeBracket : Type 0
ShapeBracket = Unit {0} ⊎ Unit {0}

abbrev pub ShapeMark : Type 0
ShapeMark = ShapeLeaf ⊎ ShapeBracket

abbrev pub shape_mark_code : Coded ShapeMark
shape_mark_code =
    coded⊎ (coded⊎ coded_unit
    (coded⊎ coded_ℕ
    (coded⊎ coded_ℕ
    (coded⊎ coded_ℕ
    (coded⊎ coded_unit coded_ℕ)))))
    (coded⊎ coded_unit coded_unit)

abbrev pub shape_begins : ShapeMark
shape_begins = inr (inl tt)

abbrev pub shape_ends : ShapeMark
shape_ends = inr (inr tt)

abbrev mutual
  -- the marks of a shape
  pub shape_marks : TypeShape → List ShapeMark
  shape_marks bool_shape = inl (inl tt) ∷ []
  shape_marks (bits_shape n) = inl (inr (inl n)) ∷ []
  shape_marks (int_shape n) = inl (inr (inr (inl n))) ∷ []
  shape_marks (uint_shape n) = inl (inr (inr (inr (inl n)))) ∷ []
  shape_marks real_shape = inl (inr (inr (inr (inr (inl tt))))) ∷ []
  shape_marks (text_shape n) = inl (inr (inr (inr (inr (inr n))))) ∷ []
  shape_marks (structure_shape ss) = shape_begins ∷ (marks_of_shapes ss ++ shape_ends ∷ [])

  pub marks_of_shapes : TypeShapes → List ShapeMark
  marks_of_shapes no_shapes = []
  marks_of_shapes (shapes s ss) = shape_marks s ++ marks_of_shapes ss

-- the components that were read, and those round them, the innermost first
abbrev pub ShapeFrames : Type 0
ShapeFrames = TypeShapes × List TypeShapes

abbrev pub shape_leaf : ShapeLeaf → TypeShape
shape_leaf (inl u) = bool_shape
shape_leaf (inr (inl n)) = bits_shape n
shape_leaf (inr (inr (inl n))) = int_shape n
shape_leaf (inr (inr (inr (inl n)))) = uint_shape n
shape_leaf (inr (inr (inr (inr (inl u))))) = real_shape
shape_leaf (inr (inr (inr (inr (inr n))))) = text_shape n

abbrev pub shape_close : TypeShape → List TypeShapes → ShapeFrames
shape_close s [] = (shapes s no_shapes, [])
shape_close s (ss ∷ outer) = (shapes s ss, outer)

abbrev pub shape_step : ShapeMark → ShapeFrames → ShapeFrames
shape_step (inl l) f = (shapes (shape_leaf l) f.0, f.1)
shape_step (inr (inl u)) f = shape_close (structure_shape f.0) f.1
shape_step (inr (inr u)) f = (no_shapes, f.0 ∷ f.1)

-- marks are read from the last one on
abbrev pub shape_frames : List ShapeMark → ShapeFrames
shape_frames [] = (no_shapes, [])
shape_frames (m ∷ ms) = shape_step m (shape_frames ms)

abbrev pub first_shape : TypeShapes → TypeShape
first_shape no_shapes = bool_shape
first_shape (shapes s ss) = s

abbrev pub shape_from : List ShapeMark → TypeShape
shape_from ms = first_shape (shape_frames ms).0

mutual
  pub frames-shape_marks : (s : TypeShape) (rest : List ShapeMark)
      → shape_frames (shape_marks s ++ rest)
      ≡ (shapes s (shape_frames rest).0, (shape_frames rest).1)
  frames-shape_marks bool_shape rest = refl
  frames-shape_marks (bits_shape n) rest = refl
  frames-shape_marks (int_shape n) rest = refl
  frames-shape_marks (uint_shape n) rest = refl
  frames-shape_marks real_shape rest = refl
  frames-shape_marks (text_shape n) rest = refl
  frames-shape_marks (structure_shape ss) rest =
      ap (λ ms. shape_step shape_begins (shape_frames ms))
      (append_assoc (marks_of_shapes ss) (shape_ends ∷ []) rest)
      ∙ ap (shape_step shape_begins) (frames-marks_of_shapes ss rest)

  pub frames-marks_of_shapes : (ss : TypeShapes) (rest : List ShapeMark)
      → shape_frames (marks_of_shapes ss ++ shape_ends ∷ rest)
      ≡ (ss, (shape_frames rest).0 ∷ (shape_frames rest).1)
  frames-marks_of_shapes no_shapes rest = refl
  frames-marks_of_shapes (shapes s ss) rest =
      ap shape_frames (append_assoc (shape_marks s) (marks_of_shapes ss) (shape_ends ∷ rest))
      ∙ frames-shape_marks s (marks_of_shapes ss ++ shape_ends ∷ rest)
      ∙ ap (λ f. (shapes s f.0, f.1)) (frames-marks_of_shapes ss rest)

pub shape_from-marks : (s : TypeShape) → shape_from (shape_marks s) ≡ s
shape_from-marks s = ap (λ ms. first_shape (shape_frames ms).0) (sym (append-nil (shape_marks s)))
    ∙ ap (λ f. first_shape f.0) (frames-shape_marks s [])

-- the code of shapes
abbrev pub shape_code : Coded TypeShape
shape_code =
    code_by (List ShapeMark) (coded_list shape_mark_code) shape_marks shape_from shape_from-marks
