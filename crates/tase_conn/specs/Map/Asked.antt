-- Requests of MMS as calls of the node, and calls as requests (IEC 60870-6-503 on ISO 9506-2):
-- named variable lists are data sets.
use Rattle.std.specs.Prelude.{ℤ, pos, if◌then◌else◌, Bool, true, false, List, []}
use Rattle.mms_data.specs.Datum.{Datum}
use Rattle.mms_data.specs.ObjectName.{ObjectName}
use Rattle.mms_services.specs.Names.Deletes.{is_specific}
use Rattle.mms_services.specs.declared.request.Request.{Request}
use Rattle.mms_services.specs.declared.request.Request.TheVariants as requests
use Rattle.mms_services.specs.declared.access.spec.Spec.{Spec}
use Rattle.mms_services.specs.declared.access.spec.Spec.TheVariants as specs
use Rattle.tase_views.specs.declared.call.CallKind.{CallKind}
use Rattle.tase_views.specs.declared.call.CallKind.TheVariants as calls

-- a request of a service that the node doesn't have: unrecognized-service
abbrev pub unrecognized : CallKind
unrecognized = calls.Odd 1 1

-- a request in whose service a rule is broken: invalid-pdu
abbrev pub invalid : CallKind
invalid = calls.Odd 5 1

-- variables are read and written by their names, or by that of a data set
abbrev pub read_call_of : Bool → Spec → CallKind
read_call_of echo (specs.List names) = calls.Read names echo
read_call_of echo (specs.Set name) = calls.ReadSet name echo

abbrev pub write_call_of : List Datum → Spec → CallKind
write_call_of values (specs.List names) = calls.Write names values
write_call_of values (specs.Set name) = calls.WriteSet name values

-- the data sets that are named are deleted, or those of another scope
abbrev pub delete_asked : ℤ → List ObjectName → CallKind
delete_asked scope sets = if is_specific scope then calls.Delete sets else calls.DeleteScope scope

-- the call that a request is
abbrev pub call_of_request : Request → CallKind
call_of_request (requests.NameList r) = calls.NameList r.class r.scope r.after
call_of_request requests.Identify = calls.Identify
call_of_request (requests.Read r) = read_call_of r.echo r.spec
call_of_request (requests.Write r) = write_call_of r.values r.spec
call_of_request (requests.TypeOf r) = calls.TypeOf r.name
call_of_request (requests.Define r) = calls.Define r.set r.members
call_of_request (requests.MembersOf r) = calls.MembersOf r.set
call_of_request (requests.Delete r) = delete_asked r.scope r.sets
call_of_request requests.Unknown = unrecognized

-- whether a call is a request that no service is
abbrev pub is_odd : CallKind → Bool
is_odd (calls.Odd kind code) = true
is_odd call = false

-- the request that a call is; an odd one has no service
abbrev pub request_in : CallKind → Request
request_in calls.Identify = requests.Identify
request_in (calls.Read names echo) =
    requests.Read (record { echo = echo; spec = specs.List names })
request_in (calls.ReadSet set echo) =
    requests.Read (record { echo = echo; spec = specs.Set set })
request_in (calls.WriteSet set values) =
    requests.Write (record { spec = specs.Set set; values = values })
request_in (calls.TypeOf name) = requests.TypeOf (record { name = name })
request_in (calls.Define set members) = requests.Define (record { set = set; members = members })
request_in (calls.MembersOf set) = requests.MembersOf (record { set = set })
request_in (calls.Delete sets) = requests.Delete (record { scope = pos 0; sets = sets })
request_in (calls.DeleteScope scope) = requests.Delete (record { scope = scope; sets = [] })
request_in (calls.Write names values) =
    requests.Write (record { spec = specs.List names; values = values })
request_in (calls.NameList class scope after) =
    requests.NameList (record { class = class; scope = scope; after = after })
request_in (calls.Odd kind code) = requests.Unknown
