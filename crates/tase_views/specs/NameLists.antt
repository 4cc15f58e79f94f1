-- The names of the objects that there are for a peer (ISO 9506-2, GetNameList).
use Rattle.std.specs.Prelude.{ℕ, ℤ, nat_lt, Bool, true, false, not, ◌&&◌}
use Rattle.std.specs.Prelude.{if◌then◌else◌, List, [], ◌∷◌, length, map, filter, take, Option, Some}
use Rattle.std.specs.Prelude.{None, bytes_eq}
use Rattle.std.specs.Cmp.Lexicographic.{slice_cmp}
use Rattle.std.specs.Ordering.{is_lt, nat_cmp, int_eq}
use Rattle.mms_data.specs.declared.object_name.Scope.{Scope}
use Rattle.mms_data.specs.declared.object_name.Scope.TheVariants.{Vmd, Domain, Association}
use Rattle.tase_views.specs.declared.call.TheConstants.{NAMED_VARIABLES, NAMED_VARIABLE_LISTS}
use Rattle.tase_views.specs.declared.call.TheConstants.{DOMAINS}
use Rattle.tase_views.specs.declared.reply.ReplyKind.{ReplyKind}
use Rattle.tase_views.specs.declared.reply.ReplyKind.TheVariants.{NamesAre, Error}
use Rattle.tase_views.specs.declared.reply.TheConstants.{ACCESS_ERRORS, NON_EXISTENT}
use Rattle.tase_views.specs.declared.reply.TheConstants.{ACCESS_DENIED, NAMES_LIMIT}
use Rattle.tase_views.specs.OwnTables.{OwnTable, is_scope_of}
use Rattle.tase_views.specs.Objects.{NamedObject}

-- whether a name stands below another in the order of octets
abbrev pub is_below : List ℕ → List ℕ → Bool
is_below a b = is_lt (slice_cmp nat_cmp a b)

-- a name among names in the order of octets
abbrev pub with_name : List ℕ → List (List ℕ) → List (List ℕ)
with_name name [] = name ∷ []
with_name name (first ∷ names) =
    if is_below first name then first ∷ with_name name names else name ∷ first ∷ names

-- names in the order of octets
abbrev pub in_order : List (List ℕ) → List (List ℕ)
in_order [] = []
in_order (name ∷ names) = with_name name (in_order names)

-- whether a list of names that goes on after a name has this one
abbrev pub is_after : Option (List ℕ) → List ℕ → Bool
is_after None name = true
is_after (Some after) name = is_below after name

-- the first of names that stand in order, and whether some are left
abbrev pub first_of : List (List ℕ) → ReplyKind
first_of names = NamesAre (take NAMES_LIMIT names) (nat_lt NAMES_LIMIT (length names))

abbrev pub is_vmd : Scope → Bool
is_vmd Vmd = true
is_vmd (Domain domain) = false
is_vmd Association = false

-- whether a scope is a domain other than the table's
abbrev pub is_foreign : OwnTable → Scope → Bool
is_foreign table Vmd = false
is_foreign table (Domain domain) = not (bytes_eq domain table.domain)
is_foreign table Association = false

-- the names of these objects in a scope
abbrev pub variables_in : OwnTable → List NamedObject → Scope → List (List ℕ)
variables_in table objects scope =
    map (λ o. o.item) (filter (λ o. is_scope_of table scope o.vmd) objects)

-- the names of the objects of a class in a scope, where there are these variables and these data
-- sets: the variables of each scope, the data sets of the domain, the domain of the whole device
abbrev pub objects_in : OwnTable → List NamedObject → List (List ℕ) → ℤ → Scope
    → Option (List (List ℕ))
objects_in table objects sets class scope =
    if int_eq class NAMED_VARIABLES then Some (variables_in table objects scope)
    else (if int_eq class DOMAINS && is_vmd scope then Some (table.domain ∷ [])
    else (if int_eq class NAMED_VARIABLE_LISTS
    then Some (if is_scope_of table scope false then sets else []) else None))

-- of these names those after a name, in order; no other class may be listed
abbrev pub listed : Option (List ℕ) → Option (List (List ℕ)) → ReplyKind
listed after None = Error ACCESS_ERRORS ACCESS_DENIED
listed after (Some names) = first_of (in_order (filter (is_after after) names))

-- the reply to a list of names: there is no other domain than the table's
abbrev pub names_listed : OwnTable → List NamedObject → List (List ℕ) → ℤ → Scope
    → Option (List ℕ) → ReplyKind
names_listed table objects sets class scope after =
    if is_foreign table scope then Error ACCESS_ERRORS NON_EXISTENT
    else listed after (objects_in table objects sets class scope)
