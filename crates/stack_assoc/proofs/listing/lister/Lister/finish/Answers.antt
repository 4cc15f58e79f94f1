use Rattle.std.proofs.Common.{◌≡◌, ◌-◌, ◌∙◌, ◌++◌, ℕ, List, Bool, true, false, sym, ap, subst, rules}
use Rattle.stack_assoc.specs.Listing.Lines.{rest_line}
use Rattle.stack_assoc.specs.Listing.Listings.{state, Lists, IsAtRest}
use Rattle.stack_assoc.proofs.OfListing.Listing.{rest_finish}
use Rattle.stack_assoc.proofs.listing.lister.Lister.finish.Goals as goal

pub returns-clause-finishes : goal.returns-clause-finishes
returns-clause-finishes c =
    let u = c.list_all.new.transport in
    let now = c.list_all.new.context in
    let mid = c.list_all.new.out.items in
    let lists : Lists c.args.self (state u now false) c.args.out.now.items mid = search rules in
    let rest : IsAtRest u = search rules in
    rest_finish c.args.self u now c.left.result c.args.out.now.items mid c.put_rest.new.out.items
    lists rest c.left.ensures
    c.in_ok-put_rest.ensures.ok
