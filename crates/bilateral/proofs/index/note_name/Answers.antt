use Rattle.std.proofs.Common.{◌≡◌, rules}
use Rattle.indexmap.specs.IndexSet.{keys}
use Rattle.bilateral.proofs.Names.{names-inserted}
use Rattle.bilateral.proofs.index.note_name.Goals as goal

pub returns : goal.returns
returns c =
    let same : c.in_ok-name.name.items ≡ c.args.name.now = search rules in
    names-inserted (keys c.args.names.now) (keys c.insert.new.self) c.in_ok-name.name
    c.args.name.now c.in_ok-insert.ensures.keys same c.requires
