-- Items of a listener in memory, one after another.
use Rattle.std.proofs.Common.{List, [], ◌∷◌, ◌++◌, Option}
use Rattle.outside.specs.Links.ScriptStates.{LinkState, IsNewItem, AllNewLinks}

-- one item more
pub AllNewLinks-push : (items : List (Option LinkState)) (item : Option LinkState)
    → AllNewLinks items → IsNewItem item → AllNewLinks (items ++ item ∷ [])
AllNewLinks-push [] item all new = (new, tt)
AllNewLinks-push (first ∷ items) item all new = (all.0, AllNewLinks-push items item all.1 new)
