-- What octets spell of lists of names and named variable lists can be written again.
use Rattle.std.proofs.Common.{◌≡◌, ℕ, ◌≤◌, Bool, List, [], length, Option, ℤ, sym, subst, inl, inr, refl}
use Rattle.std.specs.Prelude.{MatchBool, IfSome}
use Rattle.std.specs.List.{All}
use Rattle.ber_values.specs.Reading.{Taken}
use Rattle.ber_values.specs.Grammars.{Grammar, then_in, map_in, branch_in}
use Rattle.ber_values.specs.Parts.{part_in}
use Rattle.ber_values.specs.Lists.{list_in}
use Rattle.ber_values.proofs.Holding.{part-holds, choose-holds, maybe-holds, map-holds, as-holds, all-holds, list-holds}
use Rattle.mms_data.specs.ObjectName.{ObjectName, IsScope, IsIdentifier}
use Rattle.mms_data.specs.declared.object_name.Scope.{Scope}
use Rattle.mms_data.specs.declared.object_name.Scope.TheVariants.{Domain}
use Rattle.mms_data.specs.NameOctets.{identifier}
use Rattle.mms_data.proofs.NameRead.{identifier_named}
use Rattle.mms_services.specs.Access.Specifications.{variables}
use Rattle.mms_services.proofs.OfAccess.SpelledAccess.{variables-hold}
use Rattle.mms_services.specs.declared.names.name_list.NameListRequest.{NameListRequest}
use Rattle.mms_services.specs.declared.names.name_list.NameListResponse.{NameListResponse}
use Rattle.mms_services.specs.declared.names.define.DefineRequest.{DefineRequest}
use Rattle.mms_services.specs.declared.names.members.MembersResponse.{MembersResponse}
use Rattle.mms_services.specs.declared.names.delete.DeleteRequest.{DeleteRequest}
use Rattle.mms_services.specs.Names.Defines.{define_of, define_request, IsDefine}
use Rattle.mms_services.specs.Names.MemberLists.{members_listed, members_response, IsMembers}
use Rattle.mms_services.specs.Names.Deletes.{is_specific, free, set_names, delete_of, delete_request, IsDelete}
use Rattle.mms_services.specs.Names.NameLists.{one_scope, object_scope, after_name, request_of, name_list_request, listed_name, more_names, response_of, name_list_response, IsNamedRequest, IsNamedResponse}

-- ---- what follows something else

pub then-holds : {X Y : Type 0} (P : Y → Type 0) (g : Grammar X) (next : X → Grammar Y) (at : ℕ) (os : List ℕ) (u : Taken Y)
    → ((x : X) (at : ℕ) (os : List ℕ) (u : Taken Y) → (next x).begins at os u → P u.value)
    → (then_in g next).begins at os u → P u.value
unfolding then_in
then-holds P g next at os u each h = each h.0.value h.0.next h.0.rest u h.2

-- ---- named variable lists

pub define_request-holds : (at : ℕ) (r : DefineRequest) (os : List ℕ) → define_request.spells at r os → IsDefine r
unfolding define_request
define_request-holds = all-holds IsDefine _ (λ at os t. then-holds IsDefine _ _ at os t
    (λ set at os t. map-holds IsDefine (define_of set) (part_in 160 variables) at os t
    (λ u. part-holds (λ ns. 1 ≤ length ns) 160 variables at os u variables-hold)))

pub members_response-holds : (at : ℕ) (r : MembersResponse) (os : List ℕ) → members_response.spells at r os → IsMembers r
unfolding members_response
members_response-holds = all-holds IsMembers _ (λ at os t. then-holds IsMembers _ _ at os t
    (λ x at os t. map-holds IsMembers members_listed (part_in 161 variables) at os t
    (λ u. part-holds (λ ns. 1 ≤ length ns) 161 variables at os u variables-hold)))

set_names-hold : (at : ℕ) (ns : List ObjectName) (os : List ℕ) → set_names.spells at ns os → 1 ≤ length ns
unfolding set_names list_in
set_names-hold at ns os h = h.enough

deletion-holds : (scope : ℤ) (at : ℕ) (os : List ℕ) (t : Taken DeleteRequest)
    → (branch_in (λ octets. is_specific scope) (map_in (delete_of scope) (part_in 161 set_names)) (map_in (λ u. delete_of scope []) free)).begins at os t
    → IsDelete t.value
unfolding branch_in
deletion-holds scope at os t (inl h) =
    map-holds IsDelete (delete_of scope) (part_in 161 set_names) at os t
    (λ u b. subst (λ k. MatchBool k (1 ≤ length u.value) (u.value ≡ [])) (sym h.0)
    (part-holds (λ ns. 1 ≤ length ns) 161 set_names at os u set_names-hold b)) h.1
deletion-holds scope at os t (inr h) =
    let none : List ObjectName = [] in
    map-holds IsDelete (λ u. delete_of scope []) free at os t
    (λ u b. subst (λ (k : Bool). MatchBool k (1 ≤ length none) (none ≡ [])) (sym h.0) refl) h.1

pub delete_request-holds : (at : ℕ) (r : DeleteRequest) (os : List ℕ) → delete_request.spells at r os → IsDelete r
unfolding delete_request
delete_request-holds = all-holds IsDelete _ (λ at os t. then-holds IsDelete _ _ at os t deletion-holds)

-- ---- lists of names

scope-holds : (at : ℕ) (s : Scope) (os : List ℕ) → object_scope.spells at s os → IsScope s
unfolding object_scope one_scope
scope-holds = all-holds IsScope _ (λ at os t.
    choose-holds IsScope 128 _ _ at os t (as-holds IsScope _ _ (λ place x inner s. tt))
    (choose-holds IsScope 129 _ _ at os t (as-holds IsScope Domain identifier identifier_named)
    (part-holds IsScope 130 _ at os t (as-holds IsScope _ _ (λ place x inner s. tt)))))

after-holds : (at : ℕ) (os : List ℕ) (t : Taken (Option (List ℕ))) → after_name.begins at os t → IfSome t.value IsIdentifier
unfolding after_name
after-holds at os t = maybe-holds (λ o. IfSome o IsIdentifier) 130 identifier at os t tt identifier_named

pub name_list_request-holds : (at : ℕ) (r : NameListRequest) (os : List ℕ) → name_list_request.spells at r os → IsNamedRequest r
unfolding name_list_request then_in
name_list_request-holds = all-holds IsNamedRequest _ (λ at os t b.
    map-holds IsNamedRequest (request_of b.0.value b.2.0.value) after_name b.2.0.next b.2.0.rest t
    (λ u c. record {
      scope = part-holds IsScope 161 object_scope b.0.next b.0.rest b.2.0 scope-holds b.2.1;
      after = after-holds b.2.0.next b.2.0.rest u c;
    }) b.2.2)

listed-holds : (at : ℕ) (os : List ℕ) (t : Taken (List ℕ)) → listed_name.begins at os t → IsIdentifier t.value
unfolding listed_name
listed-holds at os t = part-holds IsIdentifier 26 identifier at os t identifier_named

names-hold : (at : ℕ) (ns : List (List ℕ)) (os : List ℕ) → (list_in 0 listed_name).spells at ns os → All IsIdentifier ns
unfolding list_in
names-hold at ns os h = list-holds IsIdentifier listed_name listed-holds ns at os h.end _ h.spelled

pub name_list_response-holds : (at : ℕ) (r : NameListResponse) (os : List ℕ) → name_list_response.spells at r os → IsNamedResponse r
unfolding name_list_response then_in
name_list_response-holds = all-holds IsNamedResponse _ (λ at os t b.
    map-holds IsNamedResponse (response_of b.0.value) more_names b.0.next b.0.rest t
    (λ u c. part-holds (All IsIdentifier) 160 (list_in 0 listed_name) at os b.0 names-hold b.1) b.2)
