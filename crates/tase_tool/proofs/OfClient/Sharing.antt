-- Tables that are read, and then shared.
use Rattle.std.proofs.Common.{◌≡◌, ◌⊎◌, inl, inr, ℕ, List, Ok, Err, sym, subst}
use Rattle.std.specs.Prelude.{Result, Vec}
use Rattle.std.specs.declared.alloc.Global.{Global}
use Rattle.outside.specs.Names.Outside.{OutsideTold}
use Rattle.bilateral.specs.Rows.{CentreRows}
use Rattle.commands.specs.declared.io.input.InputEnd.{InputEnd}
use Rattle.commands.specs.declared.io.input.InputEnd.TheVariants.{Memory}
use Rattle.commands.specs.Io.Plans.{IsValue, ReadsValue}
use Rattle.commands.specs.Files.Tables.{tables_in}
use Rattle.tase_tool.specs.Client.Playing.{IsShared}

-- memory may be wanting for a value that was there
no_value : (read : Result (Vec ℕ Global) InputEnd) (rows : CentreRows)
    → IsValue tables_in read (Ok rows) → IsValue tables_in read (Err Memory)
no_value (Ok text) rows is = tt
no_value (Err end) rows is = absurd cc

pub shared_read : (name : List ℕ) (limit : ℕ) (before after : OutsideTold)
    (read shared : Result CentreRows InputEnd) → ReadsValue tables_in name limit read before after
    → IsShared read shared → ReadsValue tables_in name limit shared before after
shared_read name limit before after (Ok rows) shared reads (inl same) =
    subst (λ r. ReadsValue tables_in name limit r before after) (sym same) reads
shared_read name limit before after (Ok rows) shared reads (inr lack) =
    subst (λ r. ReadsValue tables_in name limit r before after) (sym lack)
    (reads.0, reads.1, no_value reads.0 rows reads.2)
shared_read name limit before after (Err end) shared reads same =
    subst (λ r. ReadsValue tables_in name limit r before after) (sym same) reads
