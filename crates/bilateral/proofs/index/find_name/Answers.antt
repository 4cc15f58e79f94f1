use Rattle.std.proofs.Common.{◌∙◌, sym}
use Rattle.indexmap.specs.IndexSet.{keys}
use Rattle.bilateral.proofs.Names.{place-in_set}
use Rattle.bilateral.proofs.index.find_name.Goals as goal

pub returns-in_err-get_index_of : goal.returns-in_err-get_index_of
returns-in_err-get_index_of c =
    c.from_residual.ensures ∙ sym c.in_err-get_index_of.was ∙ c.get_index_of.ensures.index
    ∙ place-in_set (keys c.args.names.now) c.args.name.now

pub returns : goal.returns
returns c =
    sym c.in_ok-get_index_of.was ∙ c.get_index_of.ensures.index
    ∙ place-in_set (keys c.args.names.now) c.args.name.now
