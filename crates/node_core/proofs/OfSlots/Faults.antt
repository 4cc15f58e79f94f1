-- Why a data set isn't defined, by a book that a peer's view shows.
use Rattle.std.proofs.Common.{◌≡◌, ◌≢◌, ltb, leb, Bool, true, false, not, ◌&&◌, ◌||◌, List, length}
use Rattle.std.proofs.Common.{Option, Some, None, is_some, refl, sym}
use Rattle.std.specs.Prelude.{if◌then◌else◌}
use Rattle.std.specs.List.{list_all}
use Rattle.std.proofs.lemmas.Option.{none-some}
use Rattle.mms_data.specs.declared.object_name.Scope.TheVariants.{Domain}
use Rattle.mms_data.specs.ObjectName.{ObjectName, same_scope}
use Rattle.bilateral.specs.Words.Words.{is_identifier}
use Rattle.data_sets.specs.declared.book.TheConstants.{MOST_MEMBERS}
use Rattle.data_sets.specs.Books.{Book, members_in}
use Rattle.tase_views.specs.declared.reply.TheConstants.{ACCESS_ERRORS, ACCESS_DENIED}
use Rattle.tase_views.specs.declared.reply.TheConstants.{DEFINITION_ERRORS, UNDEFINED, EXISTS}
use Rattle.tase_views.specs.declared.reply.TheConstants.{RESOURCE_ERRORS, OTHER}
use Rattle.tase_views.specs.declared.reply.ReplyKind.TheVariants.{Defined}
use Rattle.tase_views.specs.OwnTables.{OwnTable, OwnTables}
use Rattle.tase_views.specs.Objects.{object_named, is_member}
use Rattle.tase_views.specs.View.{View}
use Rattle.tase_views.specs.Sets.{SetError, error_of, define_fault}
use Rattle.tase_views.specs.Slots.{sets_in}
use Rattle.tase_views.specs.Answers.{define_replied}
use Rattle.node_core.specs.Slots.SetsKept.{IsBook}
use Rattle.node_core.proofs.OfObjects.SetNames.{names_counted}

-- its name is none of the domain; it is there; there are too many; a member is none
abbrev pub first_error : Bool → Bool → Bool → Bool → Option SetError
first_error named there many fit =
    if not named then error_of ACCESS_ERRORS ACCESS_DENIED
    else (if there then error_of DEFINITION_ERRORS EXISTS
    else (if many then error_of RESOURCE_ERRORS OTHER
    else (if not fit then error_of DEFINITION_ERRORS UNDEFINED else None)))

abbrev pub is_own : OwnTable → ObjectName → Bool
is_own table set = same_scope set.scope (Domain table.domain) && is_identifier set.item

abbrev pub exceeds : OwnTable → Book → List ObjectName → Bool
exceeds table book members =
    ltb MOST_MEMBERS (length members) || leb table.sets (length book.sets)

abbrev pub fits : OwnTable → List ObjectName → Bool
fits table members = list_all (λ member. is_member (object_named table member)) members

pub fault_told : (table : OwnTable) (tables : OwnTables) (view : View) (book : Book)
    (set : ObjectName) (members : List ObjectName) (named there many fit : Bool)
    → named ≡ is_own table set → there ≡ is_some (members_in book.sets set.item)
    → many ≡ exceeds table book members → fit ≡ fits table members → IsBook tables view book
    → define_fault table (sets_in tables view) view set members ≡ first_error named there many fit
fault_told table tables view book set members named there many fit n t m f b =
    rw (n, t, m, f, b.members set.item, names_counted tables view book b) refl

-- without an error each test is passed
pub faultless : (named there many fit : Bool) → first_error named there many fit ≡ None
    → (named ≡ true) × (there ≡ false) × (many ≡ false) × (fit ≡ true)
faultless false there many fit e = absurd (none-some _ (sym e))
faultless true true many fit e = absurd (none-some _ (sym e))
faultless true false true fit e = absurd (none-some _ (sym e))
faultless true false false false e = absurd (none-some _ (sym e))
faultless true false false true e = (refl, refl, refl, refl)

-- a definition that isn't answered so has an error
pub error_of_reply : (fault : Option SetError) → define_replied fault ≢ Defined
    → (error : SetError) × (fault ≡ Some error)
error_of_reply None other = absurd (other refl)
error_of_reply (Some error) other = (error, refl)

pub no_error_of_reply : (fault : Option SetError) → define_replied fault ≡ Defined → fault ≡ None
no_error_of_reply None e = refl
no_error_of_reply (Some error) e = absurd cc
