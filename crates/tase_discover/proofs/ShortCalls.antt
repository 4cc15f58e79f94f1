-- The requests of a listing are short.
use Rattle.std.proofs.Common.{◌≡◌, ℕ, ◌+◌, ◌≤◌, List, [], ◌++◌, length, pos}
use Rattle.std.proofs.Common.{Option, Some, None, refl, arith}
use Rattle.std.specs.Prelude.{IfSome}
use Rattle.std.proofs.lemmas.List.{length-append}
use Rattle.ber_values.specs.Writing.{written, integer_octets}
use Rattle.ber_values.proofs.Capped.{length-written, part_size-most}
use Rattle.ber_values.proofs.Written.{length-integer_octets}
use Rattle.mms_data.specs.declared.object_name.Scope.{Scope}
use Rattle.mms_data.specs.declared.object_name.Scope.TheVariants.{Vmd, Domain, Association}
use Rattle.mms_data.specs.ObjectName.{ObjectName, IsScope, IsName, IsIdentifier}
use Rattle.mms_data.specs.NameOctets.{item_octets, name_octets}
use Rattle.mms_services.specs.declared.request.Request.{Request}
use Rattle.mms_services.specs.declared.pdu.MmsPdu.TheVariants as pdus
use Rattle.mms_services.specs.Names.NameLists.{class_octets, scope_octets, in_scope_octets}
use Rattle.mms_services.specs.Names.NameLists.{after_octets, name_list_request_octets}
use Rattle.mms_services.specs.Access.TypesOf.{type_request_octets}
use Rattle.mms_services.specs.PduOctets.{invoke_octets, request_octets, request_tag, pdu_octets}
use Rattle.mms_services.specs.PduOctets.{request_contents}
use Rattle.tase_views.specs.declared.call.CallKind.{CallKind}
use Rattle.tase_views.specs.declared.call.CallKind.TheVariants as calls
use Rattle.tase_views.specs.declared.call.TheConstants.{NAMED_VARIABLES}
use Rattle.tase_conn.specs.Map.Asked.{request_in}
use Rattle.asking_end.specs.declared.limits.TheConstants.{LAST_INVOKE}
use Rattle.asking_end.specs.Sayings.{IsShort, IsAskable}

-- an element is little longer than its contents
element-most : (tag : ℕ) (contents : List ℕ) → length (written tag contents) ≤ length contents + 6
element-most tag contents =
    omega (arith, length-written tag contents, part_size-most (length contents))

invoke-most : length (invoke_octets LAST_INVOKE) ≤ 10
unfolding invoke_octets
invoke-most =
    let few : length (integer_octets (pos LAST_INVOKE)) ≡ 4 =
    length-integer_octets (pos LAST_INVOKE) in
    omega (arith, element-most 2 (integer_octets (pos LAST_INVOKE)))

-- a request is short where its service's contents are
short_request : (request : Request) → length (request_contents request) ≤ 1000
    → length (pdu_octets (pdus.Request LAST_INVOKE request)) ≤ 65000
unfolding request_octets pdu_octets
short_request request few =
    let all : length (invoke_octets LAST_INVOKE ++ written (request_tag request)
    (request_contents request)) ≤ 1016 =
    omega (
      arith,
      invoke-most,
      few,
      element-most (request_tag request) (request_contents request),
      length-append (invoke_octets LAST_INVOKE) (written (request_tag request)
          (request_contents request)),
    ) in
    omega (
      arith,
      all,
      element-most 160 (invoke_octets LAST_INVOKE
          ++ written (request_tag request) (request_contents request)),
    )

short_call : (call : CallKind) → length (request_contents (request_in call)) ≤ 1000 → IsShort call
short_call call few = omega (arith, short_request (request_in call) few)

item-most : (scope : Scope) (item : List ℕ) → IsScope scope → length item ≤ 64
    → length (item_octets scope item) ≤ 200
item-most Vmd item named few = omega (arith, few, element-most 128 item)
item-most (Domain domain) item named few =
    omega (
      arith,
      few,
      named.1.0,
      element-most 26 domain,
      element-most 26 item,
      length-append (written 26 domain) (written 26 item),
      element-most 161 (written 26 domain ++ written 26 item),
    )
item-most Association item named few = omega (arith, few, element-most 130 item)

pub type_askable : (name : ObjectName) → IsName name → IsAskable (calls.TypeOf name)
unfolding type_request_octets
type_askable name named = record {
  service = refl;
  short = short_call (calls.TypeOf name)
      (omega (
        arith,
        item-most name.scope name.item named.0 named.1.1.0,
        element-most 160 (name_octets name),
      ));
}

class-most : length (class_octets NAMED_VARIABLES) ≤ 20
unfolding class_octets
class-most =
    let one : length (integer_octets NAMED_VARIABLES) ≡ 1 =
    length-integer_octets NAMED_VARIABLES in
    omega (
      arith,
      element-most 128 (integer_octets NAMED_VARIABLES),
      element-most 160 (written 128 (integer_octets NAMED_VARIABLES)),
    )

scope-most : (scope : Scope) → IsScope scope → length (scope_octets scope) ≤ 70
scope-most Vmd named = omega (arith, element-most 128 [])
scope-most (Domain domain) named = omega (arith, named.1.0, element-most 129 domain)
scope-most Association named = omega (arith, element-most 130 [])

in_scope-most : (scope : Scope) → IsScope scope → length (in_scope_octets scope) ≤ 76
unfolding in_scope_octets
in_scope-most scope named =
    omega (arith, scope-most scope named, element-most 161 (scope_octets scope))

after-most : (after : Option (List ℕ)) → IfSome after IsIdentifier → length (after_octets after) ≤ 70
after-most None named = omega arith
after-most (Some name) named = omega (arith, named.1.0, element-most 130 name)

pub names_askable : (scope : Scope) (after : Option (List ℕ)) → IsScope scope
    → IfSome after IsIdentifier → IsAskable (calls.NameList NAMED_VARIABLES scope after)
unfolding name_list_request_octets
names_askable scope after in_scope named = record {
  service = refl;
  short = short_call (calls.NameList NAMED_VARIABLES scope after)
      (omega (
        arith,
        class-most,
        in_scope-most scope in_scope,
        after-most after named,
        length-append (in_scope_octets scope) (after_octets after),
        length-append (class_octets NAMED_VARIABLES)
            (in_scope_octets scope ++ after_octets after),
      ));
}
