use Rattle.std.proofs.Common.{◌∙◌}
use Rattle.std.specs.Option.{option_copied}
use Rattle.bilateral.proofs.TablesOf.{title_place as place_by_lists}
use Rattle.bilateral.proofs.store.title_place.Goals as goal

pub returns-clause-place : goal.returns-clause-place
returns-clause-place c =
    c.titled_place.ensures.place ∙ place_by_lists c.args.peers.now (option_copied c.args.title)
