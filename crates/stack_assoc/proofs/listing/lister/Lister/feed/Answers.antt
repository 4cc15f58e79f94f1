use Rattle.std.proofs.Common.{◌≡◌, false, rules}
use Rattle.std.proofs.lemmas.Result.{err_from_is_err_and}
use Rattle.stack_assoc.proofs.OfListing.Listing.{unread_piece}
use Rattle.stack_assoc.proofs.listing.lister.Lister.feed.Goals as goal

pub returns-in_err-feed-clause-cut : goal.returns-in_err-feed-clause-cut
returns-in_err-feed-clause-cut c =
    let p = err_from_is_err_and c.from_residual.result c.from_residual.ensures.1 in
    let going : c.args.self.ended ≡ false = search rules in
    rw p.1 (unread_piece c.args.self c.args.piece.now c.args.out.now.items going)
