-- Whether two types are one.
use Rattle.std.specs.Prelude.{◌≡◌, ◌==◌, Bool, true, false, ◌&&◌}
use Rattle.std.specs.Bool.{Decides}
use Rattle.std.specs.Cmp.{IsEquivalence}
use Rattle.std.proofs.Common.{refl, ap}
use Rattle.std.proofs.lemmas.Bool.{and_parts, and_from, eqb-true, eq-eqb}
use Rattle.mms_data.specs.SameName.{IsEquivalence-Decides}
use Rattle.mms_data.specs.Types.TypeShape.{TypeShape, bool_shape, bits_shape, int_shape}
use Rattle.mms_data.specs.Types.TypeShape.{uint_shape, real_shape, text_shape, structure_shape}
use Rattle.mms_data.specs.Types.TypeShape.{TypeShapes, no_shapes, shapes}

abbrev mutual
  pub same_shape : TypeShape → TypeShape → Bool
  same_shape bool_shape bool_shape = true
  same_shape (bits_shape a) (bits_shape b) = a == b
  same_shape (int_shape a) (int_shape b) = a == b
  same_shape (uint_shape a) (uint_shape b) = a == b
  same_shape real_shape real_shape = true
  same_shape (text_shape a) (text_shape b) = a == b
  same_shape (structure_shape ss) (structure_shape ts) = same_shapes ss ts
  same_shape s t = false

  -- the same of components, one after another
  pub same_shapes : TypeShapes → TypeShapes → Bool
  same_shapes no_shapes no_shapes = true
  same_shapes (shapes s ss) (shapes t ts) = same_shape s t && same_shapes ss ts
  same_shapes ss ts = false

both : (s t : TypeShape) (ss ts : TypeShapes) → s ≡ t → ss ≡ ts → shapes s ss ≡ shapes t ts
both s t ss ts one others = λ i. shapes (one i) (others i)

mutual
  pub same_shape-Decides : (s t : TypeShape) → Decides (same_shape s t) (s ≡ t)
  same_shape-Decides bool_shape bool_shape = (λ _. refl, λ _. refl)
  same_shape-Decides (bits_shape a) (bits_shape b) =
      (λ e. ap bits_shape (eqb-true a b e), λ e. let k : a ≡ b = cc in eq-eqb a b k)
  same_shape-Decides (int_shape a) (int_shape b) =
      (λ e. ap int_shape (eqb-true a b e), λ e. let k : a ≡ b = cc in eq-eqb a b k)
  same_shape-Decides (uint_shape a) (uint_shape b) =
      (λ e. ap uint_shape (eqb-true a b e), λ e. let k : a ≡ b = cc in eq-eqb a b k)
  same_shape-Decides real_shape real_shape = (λ _. refl, λ _. refl)
  same_shape-Decides (text_shape a) (text_shape b) =
      (λ e. ap text_shape (eqb-true a b e), λ e. let k : a ≡ b = cc in eq-eqb a b k)
  same_shape-Decides (structure_shape ss) (structure_shape ts) =
      let d = same_shapes-Decides ss ts in
      (λ e. ap structure_shape (d.0 e), λ e. let k : ss ≡ ts = cc in d.1 k)
  same_shape-Decides s t = (λ e. cc, λ e. cc)

  pub same_shapes-Decides : (ss ts : TypeShapes) → Decides (same_shapes ss ts) (ss ≡ ts)
  same_shapes-Decides no_shapes no_shapes = (λ _. refl, λ _. refl)
  same_shapes-Decides (shapes s ss) (shapes t ts) =
      let first = same_shape-Decides s t in
      let others = same_shapes-Decides ss ts in (
        λ e. let parts = and_parts (same_shape s t) (same_shapes ss ts) e in
            both s t ss ts (first.0 parts.0) (others.0 parts.1),
        λ e. let k : s ≡ t = cc in
            let m : ss ≡ ts = cc in
            and_from (same_shape s t) (same_shapes ss ts) (first.1 k) (others.1 m),
      )
  same_shapes-Decides ss ts = (λ e. cc, λ e. cc)

-- `same_shape` is an equivalence
pub same_shape-IsEquivalence : IsEquivalence same_shape
same_shape-IsEquivalence = IsEquivalence-Decides same_shape same_shape-Decides
