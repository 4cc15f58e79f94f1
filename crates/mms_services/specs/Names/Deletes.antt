-- Deleting named variable lists (ISO 9506-2, DeleteNamedVariableList).
use Rattle.std.specs.Prelude.{◌≡◌, ℕ, zero, suc, ◌+◌, ◌≤◌, ◌<◌, ◌^◌, Bool, true, false, List, []}
use Rattle.std.specs.Prelude.{length, ◌++◌, flat_map, ℤ, pos, negsuc, Ok, if◌then◌else◌}
use Rattle.std.specs.Prelude.{MatchBool}
use Rattle.std.specs.List.{All}
use Rattle.std.specs.Int.{w64}
use Rattle.std.specs.Int.RustNames.{FitsSigned}
use Rattle.ber_values.specs.Grammars.{Grammar, taken, gives, then_in, map_in, branch_in}
use Rattle.ber_values.specs.Parts.{Contents, part_in, choose_in, all_in}
use Rattle.ber_values.specs.Lists.{list_in}
use Rattle.ber_values.specs.Leaves.{integer, unsigned}
use Rattle.ber_values.specs.Writing.{written, integer_octets}
use Rattle.mms_data.specs.ObjectName.{ObjectName, IsName}
use Rattle.mms_data.specs.NameOctets.{one_name, name_octets}
use Rattle.mms_services.specs.declared.names.delete.DeleteRequest.{DeleteRequest}
use Rattle.mms_services.specs.declared.names.delete.DeleteResponse.{DeleteResponse}

-- whether a scope is the one of the lists that are named
abbrev pub is_specific : ℤ → Bool
is_specific (pos zero) = true
is_specific (pos (suc n)) = false
is_specific (negsuc n) = false

-- the scope; where none is said, that of the lists that are named
unfoldable pub deletion_scope : Grammar ℤ
deletion_scope = choose_in 128 integer (gives (pos 0))

-- all octets that are left, whatever they are
unfoldable pub free : Grammar (Unit {0})
free = record {
  begins = λ at octets t. t ≡ taken tt (at + length octets) [];
  fault = λ at octets f. ⊥;
  reading = λ at octets. Ok (taken tt (at + length octets) []);
}

-- one or more names of lists
unfoldable pub set_names : Contents (List ObjectName)
set_names = list_in 1 one_name

abbrev pub delete_of : ℤ → List ObjectName → DeleteRequest
delete_of scope sets = record { scope = scope; sets = sets }

-- the names of the lists, where those are meant; else nothing that follows the scope counts
unfoldable pub delete_request : Contents DeleteRequest
delete_request = all_in
    (then_in deletion_scope (λ scope. branch_in (λ octets. is_specific scope)
    (map_in (delete_of scope) (part_in 161 set_names))
    (map_in (λ u. delete_of scope []) free)))

abbrev pub deleted_of : ℕ → ℕ → DeleteResponse
deleted_of matched deleted = record { matched = matched; deleted = deleted }

-- how many lists were meant, and how many of them were deleted
unfoldable pub delete_response : Contents DeleteResponse
delete_response = all_in
    (then_in (part_in 128 unsigned) (λ matched.
    map_in (deleted_of matched) (part_in 129 unsigned)))

-- ---- written forms

-- names, one after another
unfoldable pub set_names_octets : List ObjectName → List ℕ
set_names_octets names = flat_map name_octets names

-- the names of the lists, where those are meant, else the scope alone
unfoldable pub delete_request_octets : DeleteRequest → List ℕ
delete_request_octets r = if is_specific r.scope
    then written 161 (set_names_octets r.sets)
    else written 128 (integer_octets r.scope)

unfoldable pub delete_response_octets : DeleteResponse → List ℕ
delete_response_octets r =
    written 128 (integer_octets (pos r.matched)) ++ written 129 (integer_octets (pos r.deleted))

-- lists are named just where those that are named are meant
abbrev pub IsDelete : DeleteRequest → Type 0
IsDelete r = MatchBool (is_specific r.scope) (1 ≤ length r.sets) (r.sets ≡ [])

-- what the types keep of their names and numbers
abbrev pub IsNamedDelete : DeleteRequest → Type 0
IsNamedDelete r = FitsSigned w64 r.scope × All IsName r.sets

abbrev pub IsCounted : DeleteResponse → Type 0
IsCounted r = (r.matched < 2 ^ 32) × (r.deleted < 2 ^ 32)
