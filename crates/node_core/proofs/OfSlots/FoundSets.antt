-- What holds of each data set of a book holds of that which is found by its name.
use Rattle.std.proofs.Common.{◌≡◌, ℕ, Bool, true, false, List, [], ◌∷◌, Bor, Option, Some, None}
use Rattle.std.proofs.Common.{bytes_eq, refl, sym, subst}
use Rattle.std.specs.Prelude.{if◌then◌else◌}
use Rattle.std.specs.Option.{IfSome, option_map, option_copied}
use Rattle.std.specs.List.{All, find}
use Rattle.std.proofs.lemmas.Option.{none-some, same_Some}
use Rattle.std.proofs.lemmas.List.Elements.{All-head, All-tail}
use Rattle.std.proofs.lemmas.Slice.Eq.{bytes_eq-Decides}
use Rattle.mms_data.specs.ObjectName.{ObjectName}
use Rattle.data_sets.specs.declared.book.DataSet.{DataSet}
use Rattle.data_sets.specs.Books.{is_set_named, members_in}

abbrev set_of : List ℕ → List ObjectName → DataSet
set_of name members = record { name = name; members = members }

module _ (P : DataSet → Type 0) (name : List ℕ) where
  holds_of : (sets : List DataSet) (members : List ObjectName)
      → members_in sets name ≡ Some members → All P sets → P (set_of name members)
  holds_of [] members found all = absurd (none-some members found)
  holds_of (set ∷ sets) members found all =
      by (bytes_eq set.name name) refl found
      (λ e. holds_of sets members e (All-tail P set sets all))
    where
      by : (c : Bool) → bytes_eq set.name name ≡ c
          → option_map (λ (s : DataSet). s.members)
          (if c then Some set else find (is_set_named name) sets) ≡ Some members
          → (members_in sets name ≡ Some members → P (set_of name members))
          → P (set_of name members)
      by true same e rest =
          subst (λ (n : List ℕ). P (set_of n members)) ((bytes_eq-Decides set.name name).0 same)
          (subst (λ (those : List ObjectName). P (set_of set.name those))
          (same_Some set.members members e) (All-head P set sets all))
      by false other e rest = rest e

  pub holds_of_found : (found : Option (Bor (List ObjectName))) (sets : List DataSet)
      → option_copied found ≡ members_in sets name → All P sets
      → IfSome found (λ members. P (set_of name members.now))
  holds_of_found None sets is all = tt
  holds_of_found (Some members) sets is all = holds_of sets members.now (sym is) all
