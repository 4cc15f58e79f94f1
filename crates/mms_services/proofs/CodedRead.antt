-- Reading codes is exact.
use Rattle.std.proofs.Common.{ℕ}
use Rattle.ber_values.specs.Grammars.{Grammar, IsGrammar}
use Rattle.ber_values.proofs.Grammars.{branch_reads, part_reads, as_reads, refused_reads}
use Rattle.ber_values.proofs.Leaves.{octet_contents}
use Rattle.mms_services.specs.Coded.{first_octet_of, by_first, coded, coded_in}

pub by_first_reads : {X : Type 0} (g : ℕ → Grammar X) → ((n : ℕ) → IsGrammar (g n))
    → IsGrammar (by_first g)
unfolding by_first
by_first_reads g each at octets = each (first_octet_of octets) at octets

pub coded_reads : (low high : ℕ) → IsGrammar (coded_in low high)
unfolding coded_in
coded_reads low high = branch_reads _ _ _
    (by_first_reads _ (λ tag. part_reads tag _ (as_reads (coded tag) _ octet_contents)))
    refused_reads
