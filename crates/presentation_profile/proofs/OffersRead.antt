-- Reading offers is exact.
use Rattle.ber_values.specs.Grammars.{IsGrammar}
use Rattle.ber_values.specs.Parts.{IsContentsGrammar}
use Rattle.ber_values.specs.Leaves.{oid}
use Rattle.ber_values.proofs.Grammars.{then_reads, map_reads, part_reads, as_reads, all_reads}
use Rattle.ber_values.proofs.Lists.{list_reads, count_reads}
use Rattle.ber_values.proofs.Leaves.{oid_contents, unsigned_within_contents}
use Rattle.presentation_profile.specs.Offers.{any_ber, transfers, offered, offer_contents, offer, offers}

pub transfers_read : IsContentsGrammar transfers
unfolding transfers
transfers_read = as_reads any_ber _ (list_reads 0 _ (part_reads 6 oid oid_contents))

pub offer_reads : IsGrammar offer
unfolding offer offer_contents
offer_reads =
    part_reads 48 _ (all_reads _
    (then_reads _ _ (part_reads 2 _ (unsigned_within_contents 1 _)) (λ id.
    then_reads _ _ (part_reads 6 oid oid_contents) (λ name.
    map_reads (offered id name) _ (part_reads 48 transfers transfers_read)))))

pub offers_read : IsGrammar offers
unfolding offers
offers_read = part_reads 164 _ (count_reads 1 _ offer offer_reads)
