-- Which devices the requests of a script write, and of which request a checkback is the reply.
use Rattle.std.proofs.Common.{◌≡◌, ℕ, ℤ, Bool, true, false, List, [], ◌∷◌, Option, Some, None}
use Rattle.std.proofs.Common.{refl, sym, ap, subst, ◌∙◌}
use Rattle.std.specs.Prelude.{◌&&◌, not, ◌==◌}
use Rattle.std.specs.List.{Contains, list_any}
use Rattle.std.proofs.lemmas.Bool.{true≢false}
use Rattle.std.proofs.lemmas.Bool.Decides.{Decides-eqb}
use Rattle.std.proofs.lemmas.List.Elements.{All-contains, All-cons, All-nil}
use Rattle.std.proofs.lemmas.List.Folds.{list_any_at}
use Rattle.std.proofs.lemmas.Option.{same_Some}
use Rattle.std.proofs.lemmas.Slice.Eq.{bytes_eq-Decides}
use Rattle.mms_data.specs.Datum.{Datum}
use Rattle.mms_data.specs.ObjectName.{ObjectName}
use Rattle.mms_services.specs.declared.access.spec.Spec.{Spec}
use Rattle.mms_services.specs.declared.access.spec.Spec.TheVariants as specs
use Rattle.mms_services.specs.declared.pdu.MmsPdu.{MmsPdu}
use Rattle.mms_services.specs.declared.pdu.MmsPdu.TheVariants as pdus
use Rattle.mms_services.specs.declared.request.Request.{Request}
use Rattle.mms_services.specs.declared.request.Request.TheVariants as requests
use Rattle.bilateral.specs.Rows.{CentreRows, table_of, device_of}
use Rattle.tase_views.specs.declared.call.CallKind.{CallKind}
use Rattle.tase_views.specs.declared.call.CallKind.TheVariants as calls
use Rattle.tase_views.specs.declared.reply.ReplyKind.{ReplyKind}
use Rattle.tase_conn.specs.Map.Asked.{request_in}
use Rattle.tase_conn.specs.Map.Replied.{reply_in, answered_number}
use Rattle.centre_client.specs.StepLines.{controlled_device, is_guarded, is_selected_first}
use Rattle.centre_client.specs.StepLines.{writes_guarded}
use Rattle.centre_client.specs.Plays.{device_variable, variable_list, operate_call}
use Rattle.asking_end.specs.Asking.{is_awaited}
use Rattle.centre_client.specs.Plays.{number_answered}
use Rattle.asking_end.specs.Sayings.{request_pdu}
use Rattle.centre_client.specs.Checkbacks.{ScriptSaying, silence, says_pdu, WritesSelectable}

-- ---- what a request writes

-- a request, if there is one, is said
abbrev pub requested : Option MmsPdu → ScriptSaying
requested None = silence
requested (Some pdu) = says_pdu pdu

abbrev pdu_or : MmsPdu → ScriptSaying → MmsPdu
pdu_or other (says_pdu pdu) = pdu
pdu_or other s = other

pub same_said : (pdu other : MmsPdu) → says_pdu pdu ≡ says_pdu other → pdu ≡ other
same_said pdu other e = ap (pdu_or pdu) e

abbrev request_or : Request → MmsPdu → Request
request_or other (pdus.Request number r) = r
request_or other pdu = other

abbrev spec_or : Spec → Request → Spec
spec_or other (requests.Write r) = r.spec
spec_or other r = other

abbrev names_or : List ObjectName → Spec → List ObjectName
names_or other (specs.List names) = names
names_or other spec = other

abbrev ListsNames : Spec → Type 0
ListsNames (specs.List names) = Unit {0}
ListsNames spec = ⊥

-- it writes variables by their names
abbrev WritesNames : Request → Type 0
WritesNames (requests.Write r) = ListsNames r.spec
WritesNames r = ⊥

module _ (rows : CentreRows) (peer device : ℕ) where
  abbrev Meant : MmsPdu → Type 0
  Meant pdu = WritesSelectable rows peer device pdu

  request_written : (number : ℕ) (call : CallKind) → (w : Meant (request_pdu number call))
      → request_in call ≡ requests.Write (record { spec = specs.List w.names; values = w.values })
  request_written number call w = ap (request_or (request_in call)) w.is

  names_written : (number : ℕ) (names : List ObjectName) (values : List Datum)
      → (w : Meant (request_pdu number (calls.Write names values))) → names ≡ w.names
  names_written number names values w =
      ap (λ (r : Request). names_or names (spec_or (specs.List names) r))
      (request_written number (calls.Write names values) w)

  variable_guarded : (item : List ℕ) → controlled_device rows peer item ≡ Some device
      → (device_of rows device).direct ≡ false
      → is_guarded rows peer (device_variable rows peer item) ≡ true
  variable_guarded item named selectable =
      let domain : List ℕ = (table_of rows peer).domain in
      ap (λ (b : Bool). b && is_selected_first rows (controlled_device rows peer item))
      ((bytes_eq-Decides domain domain).1 refl)
      ∙ ap (λ (o : Option ℕ). true && is_selected_first rows o) named
      ∙ ap (λ (b : Bool). true && not b) selectable

  -- a call of a script writes none
  unguarded : (number : ℕ) (names : List ObjectName) (values : List Datum)
      → list_any (is_guarded rows peer) names ≡ false
      → Meant (request_pdu number (calls.Write names values)) → ⊥
  unguarded number names values none w =
      let variable : ObjectName = device_variable rows peer w.item in
      let has : Contains names variable =
      subst (λ (ns : List ObjectName). Contains ns variable)
      (sym (names_written number names values w)) w.among in
      true≢false
      (sym (list_any_at (is_guarded rows peer) names has.0 variable has.1
      (ap (is_guarded rows peer) has.2 ∙ variable_guarded w.item w.named w.selectable)) ∙ none)

  pub call_unmeant : (number : ℕ) (call : CallKind) → writes_guarded rows peer call ≡ false
      → Meant (request_pdu number call) → ⊥
  call_unmeant number (calls.Write names values) none w = unguarded number names values none w
  call_unmeant number other none w =
      subst WritesNames (sym (request_written number other w)) tt

  -- an operate writes its own device
  pub operate_meant : (number : ℕ) (own : ℕ) (value : ℤ)
      → controlled_device rows peer (device_of rows own).name ≡ Some own
      → Meant (request_pdu number (operate_call rows peer own value)) → own ≡ device
  operate_meant number own value is w =
      let name : List ℕ = (device_of rows own).name in
      let names : List ObjectName = variable_list rows peer name in
      let variable : ObjectName = device_variable rows peer w.item in
      let is_own : ObjectName → Type 0 = λ n. n ≡ device_variable rows peer name in
      let has : Contains names variable =
      subst (λ (ns : List ObjectName). Contains ns variable)
      (sym (ap (λ (r : Request). names_or names (spec_or (specs.List names) r))
      (request_written number (operate_call rows peer own value) w))) w.among in
      let one : variable ≡ device_variable rows peer name =
      All-contains is_own names variable
      (All-cons is_own (device_variable rows peer name) [] refl (All-nil is_own)) has in
      let item : w.item ≡ name = ap (λ (n : ObjectName). n.item) one in
      same_Some own device
      (sym is ∙ ap (controlled_device rows peer) (sym item) ∙ w.named)

-- ---- a checkback

-- the reply that a request with this number awaits, of which a number is told, has its number
pub answers_request : (pdu : MmsPdu) (reply : ReplyKind) (number : ℕ) (want got : ℤ)
    → reply_in pdu ≡ Some reply → number_answered want reply ≡ Some got
    → is_awaited (Some number) (answered_number pdu) ≡ true
    → answered_number pdu ≡ Some number
answers_request (pdus.Response invoke response) reply number want got told answer awaited =
    ap (λ (n : ℕ). Some n) (sym ((Decides-eqb number invoke).0 awaited))
answers_request (pdus.Error e) reply number want got told answer awaited =
    ap (λ (n : ℕ). Some n) (sym ((Decides-eqb number e.invoke).0 awaited))
answers_request (pdus.Reject r) reply number want got told answer awaited =
    absurd (rejected (answered_none told) answer)
  where
    answered_none : reply_in (pdus.Reject r) ≡ Some reply
        → number_answered want reply ≡ None
    answered_none e = subst (λ (k : ReplyKind). number_answered want k ≡ None)
        (same_Some _ reply e) refl

    rejected : number_answered want reply ≡ None → number_answered want reply ≡ Some got → ⊥
    rejected a b = absurd (cc (a, b))
answers_request other reply number want got told answer awaited = absurd cc
