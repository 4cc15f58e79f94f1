-- Requests and calls are each other's.
use Rattle.std.proofs.Common.{◌≡◌, ◌≤◌, ℤ, pos, negsuc, zero, suc, Bool, true, false, List}
use Rattle.std.proofs.Common.{[], refl, sym, ap, ◌∙◌, subst, inl}
use Rattle.std.specs.Prelude.{MatchBool}
use Rattle.std.proofs.lemmas.Bool.{false≢true}
use Rattle.mms_data.specs.Datum.{Datum}
use Rattle.mms_services.specs.declared.request.Request.{Request}
use Rattle.mms_services.specs.declared.request.Request.TheVariants as requests
use Rattle.mms_services.specs.declared.access.spec.Spec.{Spec}
use Rattle.mms_services.specs.declared.access.spec.Spec.TheVariants as specs
use Rattle.mms_services.specs.Access.Specifications.{IsSpec}
use Rattle.mms_services.specs.Access.Writes.{HasValues}
use Rattle.mms_services.specs.Names.Deletes.{is_specific}
use Rattle.mms_services.specs.Lawful.{IsLawfulRequest}
use Rattle.mms_services.specs.PduOctets.{IsWritableRequest}
use Rattle.std.specs.List.{All}
use Rattle.std.specs.Prelude.{length}
use Rattle.mms_data.specs.Lawful.{IsLawful}
use Rattle.mms_data.specs.ObjectName.{ObjectName}
use Rattle.tase_views.specs.declared.call.CallKind.{CallKind}
use Rattle.tase_views.specs.declared.call.CallKind.TheVariants as calls
use Rattle.tase_views.specs.Calls.{IsCall}
use Rattle.tase_conn.specs.Map.Asked.{call_of_request, request_in, is_odd, read_call_of, write_call_of}
use Rattle.tase_conn.specs.Map.Asked.{delete_asked, unrecognized}

-- ---- deletions

pub delete_named : (scope : ℤ) (sets : List ObjectName) → is_specific scope ≡ true
    → calls.Delete sets ≡ delete_asked scope sets
delete_named (pos zero) sets is = refl
delete_named (pos (suc n)) sets is = absurd (false≢true is)
delete_named (negsuc n) sets is = absurd (false≢true is)

pub delete_scoped : (scope : ℤ) (sets : List ObjectName) → is_specific scope ≡ false
    → calls.DeleteScope scope ≡ delete_asked scope sets
delete_scoped (pos zero) sets is = absurd (false≢true (sym is))
delete_scoped (pos (suc n)) sets is = refl
delete_scoped (negsuc n) sets is = refl

-- ---- what types keep

unrecognized_call : IsCall unrecognized
unrecognized_call = (inl refl, refl)

read_call : (echo : Bool) (spec : Spec) → IsSpec spec → IsCall (read_call_of echo spec)
read_call echo (specs.List names) s = s
read_call echo (specs.Set name) s = tt

write_call : (values : List Datum) (spec : Spec) → IsSpec spec → HasValues spec (length values)
    → All IsLawful values → IsCall (write_call_of values spec)
write_call values (specs.List names) s h l = (s, h, l)
write_call values (specs.Set name) s h l = (h, l)

other_scope : (scope : ℤ) → is_specific scope ≡ false → scope ≡ pos 0 → ⊥
other_scope scope other e = false≢true (sym other ∙ ap is_specific e)

delete_call : (scope : ℤ) (sets : List ObjectName)
    → MatchBool (is_specific scope) (1 ≤ length sets) (sets ≡ []) → IsCall (delete_asked scope sets)
delete_call (pos zero) sets l = l
delete_call (pos (suc n)) sets l = other_scope (pos (suc n)) refl
delete_call (negsuc n) sets l = other_scope (negsuc n) refl

call_lawful : (request : Request) → IsLawfulRequest request → IsCall (call_of_request request)
call_lawful (requests.NameList r) l = (l.scope, l.after)
call_lawful requests.Identify l = tt
call_lawful (requests.Read r) l = read_call r.echo r.spec l
call_lawful (requests.Write r) l = write_call r.values r.spec l.spec l.enough l.lawful
call_lawful (requests.TypeOf r) l = tt
call_lawful (requests.Define r) l = l
call_lawful (requests.MembersOf r) l = tt
call_lawful (requests.Delete r) l = delete_call r.scope r.sets l
call_lawful requests.Unknown l = unrecognized_call

-- the call of a lawful request keeps what calls keep
pub lawful_call : (request : Request) (kind : CallKind) → IsLawfulRequest request
    → kind ≡ call_of_request request → IsCall kind
lawful_call request kind l e = subst IsCall (sym e) (call_lawful request l)

request_writable : (call : CallKind) → is_odd call ≡ false → IsCall call
    → IsWritableRequest (request_in call)
request_writable calls.Identify o i = tt
request_writable (calls.Read names echo) o i = i
request_writable (calls.Write names values) o i =
    record { spec = i.0; enough = i.1; lawful = i.2 }
request_writable (calls.ReadSet set echo) o i = tt
request_writable (calls.WriteSet set values) o i =
    record { spec = tt; enough = i.0; lawful = i.1 }
request_writable (calls.TypeOf name) o i = tt
request_writable (calls.Define set members) o i = i
request_writable (calls.MembersOf set) o i = tt
request_writable (calls.Delete sets) o i = i
request_writable (calls.DeleteScope (pos zero)) o i = absurd (i refl)
request_writable (calls.DeleteScope (pos (suc n))) o i = refl
request_writable (calls.DeleteScope (negsuc n)) o i = refl
request_writable (calls.NameList class scope after) o i = record { scope = i.0; after = i.1 }
request_writable (calls.Odd kind code) o i = absurd cc

-- the request of a call that isn't odd may be written
pub writable_request : (call : CallKind) (request : Request) → is_odd call ≡ false → IsCall call
    → request ≡ request_in call → IsWritableRequest request
writable_request call request o i e =
    subst IsWritableRequest (sym e) (request_writable call o i)

-- ---- there and back

pub call_again : (call : CallKind) → is_odd call ≡ false → IsCall call
    → call_of_request (request_in call) ≡ call
call_again calls.Identify o i = refl
call_again (calls.Read names echo) o i = refl
call_again (calls.ReadSet set echo) o i = refl
call_again (calls.Write names values) o i = refl
call_again (calls.WriteSet set values) o i = refl
call_again (calls.NameList class scope after) o i = refl
call_again (calls.TypeOf name) o i = refl
call_again (calls.Define set members) o i = refl
call_again (calls.MembersOf set) o i = refl
call_again (calls.Delete sets) o i = refl
call_again (calls.DeleteScope (pos zero)) o i = absurd (i refl)
call_again (calls.DeleteScope (pos (suc n))) o i = refl
call_again (calls.DeleteScope (negsuc n)) o i = refl
call_again (calls.Odd kind code) o i = absurd cc

read_again : (echo : Bool) (spec : Spec) → is_odd (read_call_of echo spec) ≡ false
    → request_in (read_call_of echo spec) ≡ requests.Read (record { echo = echo; spec = spec })
read_again echo (specs.List names) o = refl
read_again echo (specs.Set name) o = refl

write_again : (values : List Datum) (spec : Spec) → is_odd (write_call_of values spec) ≡ false
    → request_in (write_call_of values spec)
    ≡ requests.Write (record { spec = spec; values = values })
write_again values (specs.List names) o = refl
write_again values (specs.Set name) o = refl

delete_again : (scope : ℤ) (sets : List ObjectName)
    → MatchBool (is_specific scope) (1 ≤ length sets) (sets ≡ [])
    → request_in (delete_asked scope sets)
    ≡ requests.Delete (record { scope = scope; sets = sets })
delete_again (pos zero) sets l = refl
delete_again (pos (suc n)) sets l =
    ap (λ s. requests.Delete (record { scope = pos (suc n); sets = s })) (sym l)
delete_again (negsuc n) sets l =
    ap (λ s. requests.Delete (record { scope = negsuc n; sets = s })) (sym l)

pub request_again : (request : Request) → is_odd (call_of_request request) ≡ false
    → IsLawfulRequest request → request_in (call_of_request request) ≡ request
request_again (requests.NameList r) o l = refl
request_again requests.Identify o l = refl
request_again (requests.Read r) o l = read_again r.echo r.spec o
request_again (requests.Write r) o l = write_again r.values r.spec o
request_again (requests.TypeOf r) o l = refl
request_again (requests.Define r) o l = refl
request_again (requests.MembersOf r) o l = refl
request_again (requests.Delete r) o l = delete_again r.scope r.sets l
request_again requests.Unknown o l = absurd cc
