-- Reading data is exact, at each number of levels.
use Rattle.std.proofs.Common.{ℕ, zero, suc}
use Rattle.ber_values.specs.Grammars.{IsGrammar}
use Rattle.ber_values.proofs.Grammars.{choose_reads, as_reads, refused_reads}
use Rattle.ber_values.proofs.Lists.{list_reads}
use Rattle.ber_values.proofs.Leaves.{boolean_contents, bits_contents, integer_contents, natural_contents, raw_contents, visible_contents}
use Rattle.mms_data.specs.Datum.{boolean, integer, unsigned, bits, real, octets, text}
use Rattle.mms_data.specs.Floating.{floating}
use Rattle.mms_data.specs.DataOctets.{plain_datum, array_of, structure_of, datum_within, one_datum}
use Rattle.mms_data.proofs.FloatingRead.{floating_contents}

pub plain_datum_reads : IsGrammar plain_datum
unfolding plain_datum
plain_datum_reads =
    choose_reads 131 _ _ (as_reads boolean _ boolean_contents)
    (choose_reads 132 _ _ (as_reads bits _ bits_contents)
    (choose_reads 133 _ _ (as_reads integer _ integer_contents)
    (choose_reads 134 _ _ (as_reads unsigned _ natural_contents)
    (choose_reads 135 _ _ (as_reads real floating floating_contents)
    (choose_reads 137 _ _ (as_reads octets _ raw_contents)
    (choose_reads 138 _ _ (as_reads text _ visible_contents)
    refused_reads))))))

pub datum_within_reads : (n : ℕ) → IsGrammar (datum_within n)
unfolding datum_within
datum_within_reads zero = refused_reads
datum_within_reads (suc n) =
    choose_reads 161 _ _ (as_reads array_of _ (list_reads 0 _ (datum_within_reads n)))
    (choose_reads 162 _ _ (as_reads structure_of _ (list_reads 0 _ (datum_within_reads n)))
    plain_datum_reads)

pub one_datum_reads : IsGrammar one_datum
unfolding one_datum
one_datum_reads = datum_within_reads _
