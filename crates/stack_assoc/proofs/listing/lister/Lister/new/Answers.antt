use Rattle.tpkt_cotp.specs.declared.turn.Role.TheVariants.{Either}
use Rattle.tpkt_cotp.specs.Places.{stream_in}
use Rattle.stack_assoc.proofs.OfListing.Listing.{new_listed}
use Rattle.stack_assoc.proofs.listing.lister.Lister.new.Goals as goal

pub returns : goal.returns
returns c = λ octets. new_listed c.new.result octets (stream_in Either octets)
    (c.new.ensures.hands_out octets)
