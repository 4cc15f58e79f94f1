-- What is written for lists of names is read back.
use Rattle.std.proofs.Common.{◌≡◌, ℕ, suc, ◌+◌, ◌<◌, ◌≤◌, ◌^◌, Bool, List, [], ◌∷◌, ◌++◌, length, Option, Some, None, ℤ, IfSome, refl, subst, arith}
use Rattle.std.proofs.lemmas.List.{length-append}
use Rattle.std.specs.Int.{w64}
use Rattle.std.specs.Int.RustNames.{FitsSigned}
use Rattle.std.specs.List.{All}
use Rattle.ber_values.specs.Writing.{written, integer_octets, boolean_octets}
use Rattle.ber_values.specs.Elements as elements
use Rattle.ber_values.specs.Parts.{part_in, maybe_in, contents_as}
use Rattle.ber_values.specs.Lists.{list_in}
use Rattle.ber_values.specs.Leaves.{integer, boolean, visible_within, fixed}
use Rattle.ber_values.specs.Grammars.{taken, map_in, then_in}
use Rattle.ber_values.proofs.Capped.{short-sized}
use Rattle.ber_values.proofs.Grammars.{choose-written, choose-other, part-written}
use Rattle.ber_values.proofs.Written.{integer_spelled, contents_spelled}
use Rattle.ber_values.proofs.WrittenParts.{Writes, Ends, ends_of, then-ends, map-ends, part-writes, all-spelled, WritesEach, WriteAll, list-spelled}
use Rattle.mms_data.specs.ObjectName.{IsIdentifier, IsScope}
use Rattle.mms_data.specs.NameOctets.{identifier}
use Rattle.mms_data.specs.declared.object_name.Scope.{Scope}
use Rattle.mms_data.specs.declared.object_name.Scope.TheVariants.{Vmd, Domain, Association}
use Rattle.mms_services.specs.declared.names.name_list.NameListRequest.{NameListRequest}
use Rattle.mms_services.specs.declared.names.name_list.NameListResponse.{NameListResponse}
use Rattle.mms_services.specs.Names.NameLists.{object_class, one_scope, object_scope, after_name, request_of, name_list_request, listed_name, or_true, more_names, response_of, name_list_response, class_octets, scope_octets, in_scope_octets, after_octets, name_list_request_octets, IsNamedRequest, listed_octets, names_octets, more_octets, list_octets, name_list_response_octets, IsNamedResponse}
use Rattle.ber_values.proofs.WrittenParts.{maybe-none, maybe-some}
use Rattle.ber_values.proofs.Pieces.{contents-few}

identifier-spelled : (at : ℕ) (text : List ℕ) → IsIdentifier text → identifier.spells at text text
unfolding identifier visible_within
identifier-spelled at text named = ((named.0, named.1.0), named.1.1, refl)

identifier-few : (text : List ℕ) → IsIdentifier text → length text < 2 ^ 32
identifier-few text named = omega (arith, named.1.0)

-- ---- integers

integer-spelled : (at : ℕ) (z : ℤ) → FitsSigned w64 z → integer.spells at z (integer_octets z)
unfolding integer
integer-spelled at z fits = integer_spelled z fits

pub integer-writes : (tag : ℕ) (z : ℤ) (at : ℕ) → FitsSigned w64 z → Writes (part_in tag integer) at z (written tag (integer_octets z))
integer-writes tag z at fits = part-writes tag integer at z (integer_octets z) (omega (arith, (integer_spelled z fits).0.1)) (integer-spelled _ z fits)

-- ---- requests

class-writes : (class : ℤ) (at : ℕ) → FitsSigned w64 class → Writes (part_in 160 object_class) at class (class_octets class)
unfolding object_class class_octets
class-writes class at fits =
    let inner : List ℕ = written 128 (integer_octets class) in
    let size : length (integer_octets class) ≤ 8 = (integer_spelled class fits).0.1 in
    part-writes 160 object_class at class inner (omega (arith, size, short-sized 128 (integer_octets class) (omega (arith, size))))
    (all-spelled (part_in 128 integer) _ class inner (ends_of (part_in 128 integer) _ class inner (integer-writes 128 class _ fits)))

scope-writes : (s : Scope) (at : ℕ) → IsScope s → Writes one_scope at s (scope_octets s)
unfolding one_scope contents_as fixed
scope-writes Vmd at named rest = choose-written 128 _ _ at Vmd [] rest (omega arith) (tt, refl, refl)
scope-writes (Domain domain) at named rest =
    choose-other 128 _ _ at _ _ refl
    (choose-written 129 _ _ at (Domain domain) domain rest (identifier-few domain named) (domain, identifier-spelled _ domain named, refl))
scope-writes Association at named rest =
    choose-other 128 _ _ at _ _ refl (choose-other 129 _ _ at _ _ refl (part-written 130 _ at Association [] rest (omega arith) (tt, refl, refl)))

scope-few : (s : Scope) → IsScope s → length (scope_octets s) ≤ 66
scope-few Vmd named = omega (arith, short-sized 128 [] (omega arith))
scope-few (Domain domain) named = omega (arith, named.1.0, short-sized 129 domain (omega (arith, named.1.0)))
scope-few Association named = omega (arith, short-sized 130 [] (omega arith))

in_scope-writes : (s : Scope) (at : ℕ) → IsScope s → Writes (part_in 161 object_scope) at s (in_scope_octets s)
unfolding object_scope in_scope_octets
in_scope-writes s at named =
    part-writes 161 object_scope at s (scope_octets s) (omega (arith, scope-few s named))
    (all-spelled one_scope _ s (scope_octets s) (ends_of one_scope _ s (scope_octets s) (scope-writes s _ named)))

after-ends : (after : Option (List ℕ)) (at : ℕ) → IfSome after IsIdentifier → Ends after_name at after (after_octets after)
unfolding after_name
after-ends None at named =
    let same : at ≡ at + 0 = omega arith in
    subst (λ (n : ℕ). (maybe_in 130 identifier).begins at [] (taken None n [])) same (maybe-none 130 identifier at [] refl)
after-ends (Some name) at named =
    let octets : List ℕ = written 130 name in
    maybe-some 130 identifier at name octets [] (at + length octets) refl
    (ends_of (part_in 130 identifier) at name octets (part-writes 130 identifier at name name (identifier-few name named) (identifier-spelled _ name named)))

-- what is written for a request is the request
pub name_list_request-spelled : (at : ℕ) (r : NameListRequest) → FitsSigned w64 r.class → IsNamedRequest r → name_list_request.spells at r (name_list_request_octets r)
unfolding name_list_request name_list_request_octets
name_list_request-spelled at r fits named =
    let one = class_octets r.class in
    let two = in_scope_octets r.scope in
    let three = after_octets r.after in
    let next = at + length one in
    let last = next + length two in
    all-spelled _ at r (one ++ (two ++ three))
    (then-ends (part_in 160 object_class) (λ class. then_in (part_in 161 object_scope) (λ scope. map_in (request_of class scope) after_name)) at r.class one r (two ++ three)
    (class-writes r.class at fits)
    (then-ends (part_in 161 object_scope) (λ scope. map_in (request_of r.class scope) after_name) next r.scope two r three
    (in_scope-writes r.scope next named.scope)
    (map-ends (request_of r.class r.scope) after_name last r.after three (after-ends r.after last named.after))))

-- ---- responses

listed-writes : (name : List ℕ) → IsIdentifier name → WritesEach listed_name listed_octets name
unfolding listed_name listed_octets
listed-writes name named = record {
  some = omega arith;
  writes = λ at. part-writes 26 identifier at name name (identifier-few name named) (identifier-spelled _ name named);
}

names-write : (names : List (List ℕ)) → All IsIdentifier names → WriteAll listed_name listed_octets names
names-write [] named = tt
names-write (n ∷ ns) named = (
  listed-writes n (named 0 n (omega arith)),
  names-write ns (λ k d lt. named (suc k) d (omega (arith, lt))),
)

names-spelled : (at : ℕ) (names : List (List ℕ)) → All IsIdentifier names → (list_in 0 listed_name).spells at names (names_octets names)
unfolding names_octets
names-spelled at names named = list-spelled listed_name listed_octets 0 at names (omega arith) (names-write names named)

list-writes : (names : List (List ℕ)) (at : ℕ) → All IsIdentifier names → length (list_octets names) < 2 ^ 32 → Writes (part_in 160 (list_in 0 listed_name)) at names (list_octets names)
unfolding list_octets
list-writes names at named few =
    part-writes 160 (list_in 0 listed_name) at names (names_octets names) (contents-few 160 (names_octets names) few) (names-spelled _ names named)

more-ends : (more : Bool) (at : ℕ) → Ends more_names at more (more_octets more)
unfolding more_names more_octets boolean
more-ends more at =
    let octets : List ℕ = written 129 (boolean_octets more) in
    map-ends or_true (maybe_in 129 boolean) at (Some more) octets
    (maybe-some 129 boolean at more octets [] (at + length octets) refl
    (ends_of (part_in 129 boolean) at more octets (part-writes 129 boolean at more (boolean_octets more) (omega arith) (contents_spelled elements.boolean more tt))))

-- what is written for a response is the response
pub name_list_response-spelled : (at : ℕ) (r : NameListResponse) → IsNamedResponse r → length (name_list_response_octets r) < 2 ^ 32 → name_list_response.spells at r (name_list_response_octets r)
unfolding name_list_response name_list_response_octets
name_list_response-spelled at r named few =
    let one = list_octets r.names in
    let two = more_octets r.more in
    let next = at + length one in
    let front : length one < 2 ^ 32 = omega (arith, few, length-append one two) in
    all-spelled _ at r (one ++ two)
    (then-ends (part_in 160 (list_in 0 listed_name)) (λ names. map_in (response_of names) more_names) at r.names one r two
    (list-writes r.names at named front)
    (map-ends (response_of r.names) more_names next r.more two (more-ends r.more next)))
