-- The type of a variable as text.
use Rattle.std.specs.Prelude.{ℕ, List, [], ◌++◌, codes, decimal}
use Rattle.mms_data.specs.Types.TypeShape.{TypeShape, bool_shape, bits_shape, int_shape}
use Rattle.mms_data.specs.Types.TypeShape.{uint_shape, real_shape, text_shape, structure_shape}
use Rattle.mms_data.specs.Types.TypeShape.{TypeShapes, no_shapes, shapes}

abbrev mutual
  -- a word for the kind, then its number; components stand in braces, a comma between each two
  pub shape_text : TypeShape → List ℕ
  shape_text bool_shape = codes "bool"
  shape_text (bits_shape n) = codes "bits" ++ decimal n
  shape_text (int_shape n) = codes "int" ++ decimal n
  shape_text (uint_shape n) = codes "uint" ++ decimal n
  shape_text real_shape = codes "real"
  shape_text (text_shape n) = codes "text" ++ decimal n
  shape_text (structure_shape ss) = codes "{" ++ components_text ss ++ codes "}"

  -- components, a comma between each two
  pub components_text : TypeShapes → List ℕ
  components_text no_shapes = []
  components_text (shapes s ss) = shape_text s ++ further_components ss

  -- components, a comma before each
  pub further_components : TypeShapes → List ℕ
  further_components no_shapes = []
  further_components (shapes s ss) = codes "," ++ shape_text s ++ further_components ss
