use Rattle.std.proofs.Common.{◌≡◌, ◌++◌, ℕ, List, [], Option, ap, ◌∙◌}
use Rattle.std.specs.Arc.{arc_value}
use Rattle.bilateral.specs.Rows.{CentreRows, table_of}
use Rattle.asking_end.specs.Askers.{asker_of}
use Rattle.tase_discover.specs.Listers.{TableListing}
use Rattle.tase_discover.specs.Acts.{listing_acts}
use Rattle.tase_discover.proofs.discover.Discover.new.Goals as goal

pub returns-clause-out : goal.returns-clause-out
returns-clause-out c =
    let rows = arc_value c.args.centre.now in
    let same : c.deref.result.now ≡ arc_value c.args.centre.now = cc in
    c.in_ok-asking.ensures.out
    ∙ ap (λ (t : Option (List ℕ)). c.args.out.now.items
    ++ (asker_of listing_acts t c.in_ok-listing.listing []).said)
    (c.in_ok-title.ensures
    ∙ ap (λ (r : CentreRows). (table_of r c.args.peer).title) same)
    ∙ ap (λ (l : TableListing). c.args.out.now.items
    ++ (asker_of listing_acts (table_of rows c.args.peer).title l []).said)
    c.in_ok-listing.ensures
