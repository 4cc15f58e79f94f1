-- What is written for services of named variable lists is read back.
use Rattle.std.proofs.Common.{◌≡◌, ℕ, zero, suc, ◌+◌, ◌≤◌, ◌<◌, ◌^◌, Bool, true, false, List, [], ◌∷◌, ◌++◌, length, ℤ, pos, negsuc, refl, sym, ap, subst, inl, inr, ◌∙◌, append-nil, arith}
use Rattle.std.specs.Prelude.{MatchBool}
use Rattle.std.specs.List.{All}
use Rattle.std.specs.Int.{w64}
use Rattle.std.specs.Int.RustNames.{FitsSigned}
use Rattle.std.proofs.lemmas.Int.{ints}
use Rattle.std.proofs.lemmas.Bool.{false≢true}
use Rattle.std.proofs.lemmas.List.{length-append}
use Rattle.ber_values.specs.Writing.{written, integer_octets}
use Rattle.ber_values.specs.Grammars.{taken, gives, then_in, map_in, branch_in}
use Rattle.ber_values.specs.Parts.{part_in, choose_in, contents_as, all_in}
use Rattle.ber_values.specs.Lengths.{capped, part_size}
use Rattle.ber_values.proofs.Capped.{capped-written}
use Rattle.ber_values.proofs.Written.{integer_spelled}
use Rattle.ber_values.specs.Leaves.{integer, unsigned, fixed}
use Rattle.ber_values.proofs.WrittenParts.{Writes, Ends, ends_of, then-ends, map-ends, part-writes, all-spelled, WriteAll, list-spelled}
use Rattle.mms_data.specs.ObjectName.{ObjectName, IsName}
use Rattle.mms_data.specs.declared.object_name.Scope.{Scope}
use Rattle.mms_data.specs.declared.object_name.Scope.TheVariants.{Vmd, Domain, Association}
use Rattle.mms_data.specs.NameOctets.{one_name, item_octets, name_octets}
use Rattle.mms_data.proofs.NameWritten.{one_name_begins}
use Rattle.mms_services.specs.declared.names.define.DefineRequest.{DefineRequest}
use Rattle.mms_services.specs.declared.names.members.MembersRequest.{MembersRequest}
use Rattle.mms_services.specs.declared.names.members.MembersResponse.{MembersResponse}
use Rattle.mms_services.specs.declared.names.delete.DeleteRequest.{DeleteRequest}
use Rattle.mms_services.specs.Access.Specifications.{variables, variables_octets}
use Rattle.mms_services.specs.Names.Defines.{define_of, define_request, define_request_octets, IsDefine, IsNamedDefine}
use Rattle.mms_services.specs.Names.MemberLists.{members_request, members_listed, members_response, members_request_octets, deletable_octets, members_response_octets, IsMembers, IsNamedSet, IsNamedMembers}
use Rattle.mms_services.specs.declared.names.delete.DeleteResponse.{DeleteResponse}
use Rattle.mms_services.specs.Names.Deletes.{is_specific, deletion_scope, free, set_names, delete_of, delete_request, deleted_of, delete_response, set_names_octets, delete_request_octets, delete_response_octets, IsDelete, IsNamedDelete, IsCounted}
use Rattle.ber_values.proofs.Pieces.{contents-few}
use Rattle.mms_services.proofs.OfAccess.SpecsWritten.{sole_name-spelled, variables-spelled}

-- variables in an element are at the end of what they follow
members-end : (tag at : ℕ) (ns : List ObjectName) → 1 ≤ length ns → All IsName ns
    → length (written tag (variables_octets ns)) < 2 ^ 32
    → Ends (part_in tag variables) at ns (written tag (variables_octets ns))
members-end tag at ns some named few =
    ends_of (part_in tag variables) at ns (written tag (variables_octets ns))
    (part-writes tag variables at ns (variables_octets ns) (contents-few tag (variables_octets ns) few)
    (variables-spelled _ ns some named))

pub define_request-spelled : (at : ℕ) (r : DefineRequest) → IsDefine r → IsNamedDefine r
    → length (define_request_octets r) < 2 ^ 32
    → define_request.spells at r (define_request_octets r)
unfolding define_request define_request_octets
define_request-spelled at r some named few =
    let name = name_octets r.set in
    let rest = written 160 (variables_octets r.members) in
    let less : length rest < 2 ^ 32 = omega (arith, few, length-append name rest) in
    all-spelled _ at r (name ++ rest)
    (then-ends one_name _ at r.set name r rest (one_name_begins r.set named.0 at)
    (map-ends (define_of r.set) (part_in 160 variables) (at + length name) r.members rest
    (members-end 160 (at + length name) r.members some named.1 less)))

pub members_request-spelled : (at : ℕ) (r : MembersRequest) → IsNamedSet r
    → members_request.spells at r (members_request_octets r)
unfolding members_request members_request_octets contents_as
members_request-spelled at r named = (r.set, sole_name-spelled at r.set named, refl)

deletable-writes : (at : ℕ) → Writes (part_in 128 (fixed (255 ∷ []))) at tt deletable_octets
unfolding deletable_octets fixed
deletable-writes at = part-writes 128 (fixed (255 ∷ [])) at tt (255 ∷ []) (omega arith) refl

pub members_response-spelled : (at : ℕ) (r : MembersResponse) → IsMembers r → IsNamedMembers r
    → length (members_response_octets r) < 2 ^ 32
    → members_response.spells at r (members_response_octets r)
unfolding members_response members_response_octets
members_response-spelled at r some named few =
    let rest = written 161 (variables_octets r.members) in
    let less : length rest < 2 ^ 32 = omega (arith, few, length-append deletable_octets rest) in
    let next = at + length deletable_octets in
    all-spelled _ at r (deletable_octets ++ rest)
    (then-ends (part_in 128 (fixed (255 ∷ []))) _ at tt deletable_octets r rest (deletable-writes at)
    (map-ends members_listed (part_in 161 variables) next r.members rest
    (members-end 161 next r.members some named less)))

-- ---- the forms of a deletion

pub delete-named : (r : DeleteRequest) → is_specific r.scope ≡ true
    → delete_request_octets r ≡ written 161 (set_names_octets r.sets)
unfolding delete_request_octets
delete-named r e = rw e refl

pub delete-scoped : (r : DeleteRequest) → is_specific r.scope ≡ false
    → delete_request_octets r ≡ written 128 (integer_octets r.scope)
unfolding delete_request_octets
delete-scoped r e = rw e refl

-- how many octets a scope has
pub scope-len : (n r : ℕ) (contents : List ℕ) → n ≡ length contents → n ≤ 8
    → r ≡ capped (part_size n) → r ≡ capped (length (written 128 contents))
scope-len n r contents e few is =
    is ∙ capped-written 128 n contents (omega (arith, e, few))

-- ---- what is written for a deletion

names-write : (ns : List ObjectName) → All IsName ns → WriteAll one_name name_octets ns
names-write [] named = tt
names-write (n ∷ ns) named = (
  record { some = some_name n; writes = λ at. one_name_begins n (named 0 n (omega arith)) at },
  names-write ns (λ k d lt. named (suc k) d (omega (arith, lt))),
)
  where
    some_name : (n : ObjectName) → 0 < length (name_octets n)
    some_name n = of_scope n.scope n.item
      where
        of_scope : (scope : Scope) (item : List ℕ) → 0 < length (item_octets scope item)
        of_scope Vmd item = omega arith
        of_scope (Domain domain) item = omega arith
        of_scope Association item = omega arith

set_names-spelled : (at : ℕ) (ns : List ObjectName) → 1 ≤ length ns → All IsName ns
    → set_names.spells at ns (set_names_octets ns)
unfolding set_names set_names_octets
set_names-spelled at ns some named = list-spelled one_name name_octets 1 at ns some (names-write ns named)

-- no scope is said where what follows has another tag
no_scope : (at : ℕ) (contents rest : List ℕ)
    → deletion_scope.begins at (written 161 contents ++ rest) (taken (pos 0) at (written 161 contents ++ rest))
unfolding deletion_scope choose_in branch_in gives
no_scope at contents rest = inr (refl, refl)

specific_is : (z : ℤ) → is_specific z ≡ true → z ≡ pos 0
specific_is (pos zero) e = refl
specific_is (pos (suc n)) e = absurd (false≢true e)
specific_is (negsuc n) e = absurd (false≢true e)

named-spelled : (at : ℕ) (sets : List ObjectName) → 1 ≤ length sets → All IsName sets
    → length (written 161 (set_names_octets sets)) < 2 ^ 32
    → delete_request.spells at (delete_of (pos 0) sets) (written 161 (set_names_octets sets))
unfolding delete_request all_in then_in branch_in
named-spelled at sets some named few =
    let octets = written 161 (set_names_octets sets) in
    let g = part_in 161 set_names in
    let end = at + length octets in
    let ends = map-ends (delete_of (pos 0)) g at sets octets (ends_of g at sets octets
    (part-writes 161 set_names at sets (set_names_octets sets)
    (contents-few 161 (set_names_octets sets) few) (set_names-spelled _ sets some named))) in
    let alone = subst (λ os. deletion_scope.begins at os (taken (pos 0) at os)) (append-nil octets)
    (no_scope at (set_names_octets sets) []) in (
      taken (delete_of (pos 0) sets) end [],
      (taken (pos 0) at octets, alone, inl (refl, ends)),
      (refl, refl),
    )

-- a scope is said
scope-writes : (at : ℕ) (scope : ℤ) → FitsSigned w64 scope
    → Ends deletion_scope at scope (written 128 (integer_octets scope))
unfolding deletion_scope choose_in branch_in integer
scope-writes at scope fits =
    let spelled = integer_spelled scope fits in
    inl (
      refl,
      ends_of (part_in 128 integer) at scope (written 128 (integer_octets scope))
          (part-writes 128 integer at scope (integer_octets scope) (omega (arith, spelled.0.1)) spelled),
    )

-- and nothing follows it
free-ends : (scope : ℤ) (at : ℕ)
    → (map_in (λ u. delete_of scope []) free).begins at [] (taken (delete_of scope []) at [])
unfolding free map_in
free-ends scope at =
    let none : at ≡ at + 0 = omega arith in
    (taken tt at [], ap (λ (k : ℕ). taken tt k []) none, refl)

scoped-spelled : (at : ℕ) (scope : ℤ) → is_specific scope ≡ false → FitsSigned w64 scope
    → delete_request.spells at (delete_of scope []) (written 128 (integer_octets scope))
unfolding delete_request all_in then_in branch_in
scoped-spelled at scope other fits =
    let end = at + length (written 128 (integer_octets scope)) in (
      taken (delete_of scope []) end [],
      (taken scope end [], scope-writes at scope fits, inr (other, free-ends scope end)),
      (refl, refl),
    )

pub delete_request-spelled : (at : ℕ) (r : DeleteRequest) → IsDelete r → IsNamedDelete r
    → length (delete_request_octets r) < 2 ^ 32
    → delete_request.spells at r (delete_request_octets r)
delete_request-spelled at r lists named few = by_scope (is_specific r.scope) refl
  where
    by_scope : (b : Bool) → is_specific r.scope ≡ b → delete_request.spells at r (delete_request_octets r)
    by_scope true e =
        let some = subst (λ b. MatchBool b (1 ≤ length r.sets) (r.sets ≡ [])) e lists in
        let less = subst (λ os. length os < 2 ^ 32) (delete-named r e) few in
        subst (delete_request.spells at r) (sym (delete-named r e))
        (subst (λ z. delete_request.spells at (delete_of z r.sets) (written 161 (set_names_octets r.sets)))
        (sym (specific_is r.scope e)) (named-spelled at r.sets some named.1 less))
    by_scope false e =
        let none = subst (λ b. MatchBool b (1 ≤ length r.sets) (r.sets ≡ [])) e lists in
        subst (delete_request.spells at r) (sym (delete-scoped r e))
        (subst (λ xs. delete_request.spells at (delete_of r.scope xs) (written 128 (integer_octets r.scope)))
        (sym none) (scoped-spelled at r.scope e named.0))

-- ---- what is written for its response

pub unsigned-written : (tag at n : ℕ) → n < 2 ^ 32
    → Writes (part_in tag unsigned) at n (written tag (integer_octets (pos n)))
unfolding unsigned
unsigned-written tag at n few =
    let fits : FitsSigned w64 (pos n) = omega (arith, ints, few) in
    let spelled = integer_spelled (pos n) fits in
    part-writes tag unsigned at n (integer_octets (pos n)) (omega (arith, spelled.0.1)) (spelled, few)

pub delete_response-spelled : (at : ℕ) (r : DeleteResponse) → IsCounted r
    → delete_response.spells at r (delete_response_octets r)
unfolding delete_response delete_response_octets
delete_response-spelled at r counted =
    let one = written 128 (integer_octets (pos r.matched)) in
    let two = written 129 (integer_octets (pos r.deleted)) in
    let next = at + length one in
    all-spelled _ at r (one ++ two)
    (then-ends (part_in 128 unsigned) _ at r.matched one r two (unsigned-written 128 at r.matched counted.0)
    (map-ends (deleted_of r.matched) (part_in 129 unsigned) next r.deleted two
    (ends_of (part_in 129 unsigned) next r.deleted two (unsigned-written 129 next r.deleted counted.1))))
