-- Reading types is exact, at each number of levels.
use Rattle.std.proofs.Common.{ℕ, zero, suc, [], ◌∷◌, nat_abs}
use Rattle.ber_values.specs.Grammars.{Grammar, IsGrammar}
use Rattle.ber_values.specs.Parts.{Contents, IsContentsGrammar}
use Rattle.ber_values.proofs.Grammars.{choose_reads, maybe_reads, part_reads, as_reads, where_reads}
use Rattle.ber_values.proofs.Grammars.{all_reads, then_reads, map_reads, refused_reads}
use Rattle.ber_values.proofs.Lists.{list_reads}
use Rattle.ber_values.proofs.Leaves.{integer_contents, unsigned_within_contents, raw_contents}
use Rattle.ber_values.proofs.Leaves.{fixed_contents}
use Rattle.mms_data.specs.Types.TypeShape.{TypeShape, bool_shape, bits_shape, int_shape}
use Rattle.mms_data.specs.Types.TypeShape.{uint_shape, real_shape, text_shape}
use Rattle.mms_data.specs.Types.ShapeOctets.{shape_size, signed_size, real_parts, plain_shape}
use Rattle.mms_data.specs.Types.ShapeOctets.{passed_once, marked_in, structured, component_in}
use Rattle.mms_data.specs.Types.ShapeOctets.{shape_within, one_shape, sole_shape}

pub shape_size_contents : IsContentsGrammar shape_size
unfolding shape_size
shape_size_contents = unsigned_within_contents 1 255

pub signed_size_contents : IsContentsGrammar signed_size
unfolding signed_size
signed_size_contents = as_reads nat_abs _ (where_reads _ _ integer_contents)

pub real_parts_contents : IsContentsGrammar real_parts
unfolding real_parts
real_parts_contents = all_reads _
    (then_reads _ _ (part_reads 2 _ (fixed_contents (32 ∷ []))) (λ u.
    part_reads 2 _ (fixed_contents (8 ∷ []))))

pub plain_shape_reads : IsGrammar plain_shape
unfolding plain_shape
plain_shape_reads =
    choose_reads 131 _ _ (as_reads (λ u. bool_shape) _ (fixed_contents []))
    (choose_reads 132 _ _ (as_reads bits_shape _ signed_size_contents)
    (choose_reads 133 _ _ (as_reads int_shape _ shape_size_contents)
    (choose_reads 134 _ _ (as_reads uint_shape _ shape_size_contents)
    (choose_reads 167 _ _ (as_reads (λ u. real_shape) _ real_parts_contents)
    (choose_reads 138 _ _ (as_reads text_shape _ signed_size_contents)
    refused_reads)))))

pub passed_once_reads : (tag : ℕ) → IsGrammar (passed_once tag)
unfolding passed_once
passed_once_reads tag = map_reads _ _ (maybe_reads tag _ raw_contents)

pub marked_contents : {X : Type 0} (c : Contents X) → IsContentsGrammar c
    → IsContentsGrammar (marked_in c)
unfolding marked_in
marked_contents c each =
    all_reads _ (then_reads _ _ (passed_once_reads 128) (λ u. part_reads 161 c each))

pub component_reads : (g : Grammar TypeShape) → IsGrammar g → IsGrammar (component_in g)
unfolding component_in
component_reads g each = part_reads 48 _ (marked_contents _ (all_reads g each))

pub shape_within_reads : (n : ℕ) → IsGrammar (shape_within n)
unfolding shape_within
shape_within_reads zero = refused_reads
shape_within_reads (suc n) =
    choose_reads 162 _ _
    (marked_contents _
    (as_reads structured _ (list_reads 0 _ (component_reads _ (shape_within_reads n)))))
    plain_shape_reads

pub one_shape_reads : IsGrammar one_shape
unfolding one_shape
one_shape_reads = shape_within_reads _

pub sole_shape_contents : IsContentsGrammar sole_shape
unfolding sole_shape
sole_shape_contents = all_reads _ one_shape_reads
