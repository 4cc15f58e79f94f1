-- Requests of services (ISO 9506-2, ConfirmedServiceRequest).
use Rattle.ber_values.specs.Grammars.{Grammar, map_in, branch_in, first_is, is_context, refused}
use Rattle.ber_values.specs.Passing.{skip}
use Rattle.ber_values.specs.Parts.{choose_in, contents_as}
use Rattle.mms_services.specs.declared.request.Request.{Request}
use Rattle.mms_services.specs.declared.request.Request.TheVariants as services
use Rattle.mms_services.specs.Names.NameLists.{name_list_request}
use Rattle.mms_services.specs.Identities.{identify_request}
use Rattle.mms_services.specs.Access.Reads.{read_request}
use Rattle.mms_services.specs.Access.Writes.{write_request}
use Rattle.mms_services.specs.Access.TypesOf.{type_request}
use Rattle.mms_services.specs.Names.Defines.{define_request}
use Rattle.mms_services.specs.Names.MemberLists.{members_request}
use Rattle.mms_services.specs.Names.Deletes.{delete_request}

-- any other service: an element of the context class with a sound head
unfoldable pub unknown_request : Grammar Request
unknown_request = branch_in (first_is is_context) (map_in (λ u. services.Unknown) skip) refused

-- a service of named variable lists, or another one
unfoldable pub set_request : Grammar Request
set_request =
    choose_in 171 (contents_as services.Define define_request)
    (choose_in 172 (contents_as services.MembersOf members_request)
    (choose_in 173 (contents_as services.Delete delete_request)
    unknown_request))

-- a service, by its tag
unfoldable pub one_request : Grammar Request
one_request =
    choose_in 161 (contents_as services.NameList name_list_request)
    (choose_in 130 (contents_as (λ u. services.Identify) identify_request)
    (choose_in 164 (contents_as services.Read read_request)
    (choose_in 165 (contents_as services.Write write_request)
    (choose_in 166 (contents_as services.TypeOf type_request)
    set_request))))
