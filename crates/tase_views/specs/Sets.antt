-- The data sets of a peer in its view (IEC 60870-6-503, data set objects; ISO 9506-2, named
-- variable lists). They belong to the peer, and outlive the associations that defined them.
use Rattle.std.specs.Prelude.{ℕ, ◌+◌, nat_le, nat_lt, not, ◌&&◌, ◌||◌, if◌then◌else◌, Bool}
use Rattle.std.specs.Prelude.{List, [], ◌∷◌, length, filter, Option, Some, None, is_some, is_none}
use Rattle.std.specs.Prelude.{bytes_eq}
use Rattle.std.specs.List.{list_all}
use Rattle.mms_data.specs.declared.object_name.Scope.TheVariants.{Domain}
use Rattle.mms_data.specs.ObjectName.{ObjectName, same_scope, same_name}
use Rattle.data_sets.specs.declared.book.TheConstants.{MOST_MEMBERS}
use Rattle.bilateral.specs.Words.Words.{is_identifier}
use Rattle.tase_views.specs.declared.reply.TheConstants.{ACCESS_ERRORS, ACCESS_DENIED}
use Rattle.tase_views.specs.declared.reply.TheConstants.{DEFINITION_ERRORS, UNDEFINED, EXISTS}
use Rattle.tase_views.specs.declared.reply.TheConstants.{RESOURCE_ERRORS, OTHER}
use Rattle.tase_views.specs.OwnTables.{OwnTable, domain_name}
use Rattle.tase_views.specs.Objects.{object_named, is_member}
use Rattle.tase_views.specs.Moves.{Act, defines, deletes}
use Rattle.tase_views.specs.View.{own, View}

-- the data sets that there are, by their names in the domain
abbrev pub Sets : Type 0
Sets = List ℕ → Option (List ObjectName)

-- the names that definitions in a view have, each once
abbrev pub names_defined : View → List (List ℕ)
names_defined [] = []
names_defined (own ordinal (defines set members) ∷ view) =
    set.item ∷ filter (λ name. not (bytes_eq name set.item)) (names_defined view)
names_defined (_ ∷ view) = names_defined view

-- the names of those that there are
abbrev pub sets_there : Sets → View → List (List ℕ)
sets_there sets view = filter (λ name. is_some (sets name)) (names_defined view)

-- an error's class and code
pub record SetError : Type 0 where
  pub class : ℕ
  pub code : ℕ

abbrev pub error_of : ℕ → ℕ → Option SetError
error_of class code = Some (record { class = class; code = code })

-- why a data set isn't defined (ISO 9506-2, ServiceError), the first of: its name is none of the
-- domain; it is there; there are too many members, or as many data sets as the table allows; a
-- member is no point and no report variable of the table
abbrev pub define_fault : OwnTable → Sets → View → ObjectName → List ObjectName → Option SetError
define_fault table sets view set members =
    if not (same_scope set.scope (Domain table.domain) && is_identifier set.item)
    then error_of ACCESS_ERRORS ACCESS_DENIED
    else (if is_some (sets set.item) then error_of DEFINITION_ERRORS EXISTS
    else (if nat_lt MOST_MEMBERS (length members)
    || nat_le table.sets (length (sets_there sets view)) then error_of RESOURCE_ERRORS OTHER
    else (if not (list_all (λ member. is_member (object_named table member)) members)
    then error_of DEFINITION_ERRORS UNDEFINED
    else None)))

-- the members of the data set with a name behind one act more of the peer, where some are kept
-- whatever is deleted: a definition that has no error adds it, a deletion of it takes it away
abbrev pub set_behind : OwnTable → (List ℕ → Bool) → Sets → View → Act → Sets
set_behind table kept sets view (defines set members) name =
    if bytes_eq set.item name && is_none (define_fault table sets view set members)
    then Some members else sets name
set_behind table kept sets view (deletes set) name =
    if same_name set (domain_name table name) && not (kept name) then None else sets name
set_behind table kept sets view _ name = sets name

-- the members of the data set that a name of the peer is that of, among data sets of the domain
abbrev pub members_among : OwnTable → Sets → ObjectName → Option (List ObjectName)
members_among table sets set =
    if same_scope set.scope (Domain table.domain) then sets set.item else None

-- how many of the names of a deletion are those of data sets, and how many of these are deleted
pub record Deletion : Type 0 where
  pub matched : ℕ
  pub deleted : ℕ

abbrev pub one_deletion : Bool → Bool → Deletion → Deletion
one_deletion there kept rest =
    if not there then rest
    else record {
      matched = 1 + rest.matched;
      deleted = if kept then rest.deleted else 1 + rest.deleted;
    }

-- of the data sets in a view those that are kept, by their names, are matched and not deleted; each
-- name after those before it
abbrev pub deletion_by : (View → ObjectName → Bool) → (View → List ℕ → Bool) → View → ℕ
    → List ObjectName → Deletion
deletion_by there kept view ordinal [] = record { matched = 0; deleted = 0 }
deletion_by there kept view ordinal (set ∷ sets) =
    one_deletion (there view set) (kept view set.item)
    (deletion_by there kept (own ordinal (deletes set) ∷ view) ordinal sets)
