-- A client calls by its table's title, with its script.
use Rattle.std.proofs.Common.{◌≡◌, ℕ, List, Option, subst}
use Rattle.bilateral.specs.Rows.{CentreRows}
use Rattle.centre_client.specs.declared.script.Script.{Script}
use Rattle.centre_client.specs.Scripted.{Scripted, scripted, title_of}

-- what holds of a title and of what is asked, said of the script
pub of_script : (P : Option (List ℕ) → Scripted → Type 0) (rows : CentreRows) (script : Script)
    (title : Option (List ℕ)) (agenda : Scripted) → title ≡ title_of rows script
    → agenda ≡ scripted rows script → P title agenda
    → P (title_of rows script) (scripted rows script)
of_script P rows script title agenda named asked h =
    subst (λ (a : Scripted). P (title_of rows script) a) asked
    (subst (λ (t : Option (List ℕ)). P t agenda) named h)
