-- Responses of services (ISO 9506-2, ConfirmedServiceResponse).
use Rattle.std.specs.Prelude.{[]}
use Rattle.ber_values.specs.Grammars.{Grammar}
use Rattle.ber_values.specs.Parts.{part_in, choose_in, contents_as}
use Rattle.ber_values.specs.Leaves.{fixed}
use Rattle.mms_services.specs.declared.response.Response.{Response}
use Rattle.mms_services.specs.declared.response.Response.TheVariants as services
use Rattle.mms_services.specs.Names.NameLists.{name_list_response}
use Rattle.mms_services.specs.Identities.{identify_response}
use Rattle.mms_services.specs.Access.Reads.{read_response}
use Rattle.mms_services.specs.Access.Writes.{write_response}
use Rattle.mms_services.specs.Access.TypesOf.{type_response}
use Rattle.mms_services.specs.Names.MemberLists.{members_response}
use Rattle.mms_services.specs.Names.Deletes.{delete_response}

-- a service of named variable lists; that one is defined has no contents
unfoldable pub set_response : Grammar Response
set_response =
    choose_in 139 (contents_as (λ u. services.Define) (fixed []))
    (choose_in 172 (contents_as services.MembersOf members_response)
    (part_in 173 (contents_as services.Delete delete_response)))

-- a service, by its tag
unfoldable pub one_response : Grammar Response
one_response =
    choose_in 161 (contents_as services.NameList name_list_response)
    (choose_in 162 (contents_as (λ u. services.Identify) identify_response)
    (choose_in 164 (contents_as services.Read read_response)
    (choose_in 165 (contents_as services.Write write_response)
    (choose_in 166 (contents_as services.TypeIs type_response)
    set_response))))
