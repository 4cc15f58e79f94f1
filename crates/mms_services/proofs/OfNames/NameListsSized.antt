-- Lengths of lists of names that are asked for and given.
use Rattle.std.proofs.Common.{◌≡◌, ℕ, ◌+◌, ◌≤◌, Bool, List, ◌++◌, length, ℤ, refl, arith}
use Rattle.std.proofs.lemmas.List.{length-append}
use Rattle.ber_values.specs.Visible.{IsVisible}
use Rattle.ber_values.specs.Lengths.{capped}
use Rattle.ber_values.specs.Writing.{written, integer_octets, length_octets}
use Rattle.ber_values.proofs.Capped.{short-sized}
use Rattle.mms_data.specs.declared.object_name.Scope.{Scope}
use Rattle.mms_data.proofs.NameWritten.{visible-size}
use Rattle.mms_services.specs.declared.names.name_list.NameListRequest.{NameListRequest}
use Rattle.mms_services.specs.Names.NameLists.{class_octets, scope_octets, in_scope_octets, after_octets}
use Rattle.mms_services.specs.Names.NameLists.{name_list_request_octets, listed_octets, more_octets}
use Rattle.ber_values.proofs.Pieces.{integer-sized}

pub class-sized : (class : ℤ) (n : ℕ) → n ≡ length (integer_octets class) → n ≤ 8
    → 4 + n ≡ length (class_octets class)
unfolding class_octets
class-sized class n is few =
    let inner = written 128 (integer_octets class) in
    let size : 2 + n ≡ length inner = integer-sized 128 n class is few in
    omega (arith, size, few, short-sized 160 inner (omega (arith, size, few)))

pub in_scope-sized : (scope : Scope) (n : ℕ) → n ≡ length (scope_octets scope) → n ≤ 66
    → 2 + n ≡ length (in_scope_octets scope)
unfolding in_scope_octets
in_scope-sized scope n is few =
    omega (arith, is, short-sized 161 (scope_octets scope) (omega (arith, is, few)))

pub name_list_request-sized : (r : NameListRequest) (a b c : ℕ) → a ≡ length (class_octets r.class)
    → b ≡ length (in_scope_octets r.scope) → c ≡ length (after_octets r.after)
    → a + b + c ≡ length (name_list_request_octets r)
unfolding name_list_request_octets
name_list_request-sized r a b c a_is b_is c_is = omega (
  arith,
  a_is,
  b_is,
  c_is,
  length-append (class_octets r.class) (in_scope_octets r.scope ++ after_octets r.after),
  length-append (in_scope_octets r.scope) (after_octets r.after),
)

pub listed-sized : (text : List ℕ) → IsVisible text
    → 2 + length text ≡ capped (length (listed_octets text))
unfolding listed_octets
listed-sized text v = omega (arith, visible-size 26 text v, v.0)

pub more-sized : (more : Bool) → length (more_octets more) ≡ 3
unfolding more_octets length_octets
more-sized more = refl
