-- Data sets of a peer that may have two: defined in order, refused, deleted.
use Rattle.std.proofs.Common.{◌≡◌, [], ◌∷◌, Some, None, refl}
use Rattle.std.specs.Prelude.{codes}
use Rattle.mms_data.specs.declared.object_name.Scope.TheVariants.{Domain}
use Rattle.mms_data.specs.ObjectName.{ObjectName}
use Rattle.data_sets.specs.declared.book.SetFault.TheVariants.{Exists, TooMany}
use Rattle.data_sets.specs.Books.{Book, members_in, fault_by, set_fault_of, defined, deleted}

abbrev bus : ObjectName
bus = record { scope = Domain (codes "DOMA"); item = codes "BUS1" }

abbrev empty : Book
empty = record { limit = 2; sets = [] }

abbrev first : Book
first = defined empty (codes "S") (bus ∷ [])

abbrev second : Book
second = defined first (codes "T") (bus ∷ bus ∷ [])

found : members_in second.sets (codes "T") ≡ Some (bus ∷ bus ∷ [])
found = refl

exists : set_fault_of first (codes "S") (bus ∷ []) ≡ Some Exists
exists = refl

-- a name that is there counts before the number of data sets
exists_first : set_fault_of second (codes "S") (bus ∷ []) ≡ Some Exists
exists_first = refl

too_many : set_fault_of second (codes "U") (bus ∷ []) ≡ Some TooMany
too_many = refl

most_members : fault_by empty (codes "S") 500 ≡ None
most_members = refl

too_many_members : fault_by empty (codes "S") 501 ≡ Some TooMany
too_many_members = refl

refused : defined second (codes "U") (bus ∷ []) ≡ second
refused = refl

gone : members_in (deleted second (codes "S")).sets (codes "S") ≡ None
gone = refl

kept : (deleted second (codes "S")).sets
    ≡ record { name = codes "T"; members = bus ∷ bus ∷ [] } ∷ []
kept = refl

again : set_fault_of (deleted second (codes "S")) (codes "U") (bus ∷ []) ≡ None
again = refl
