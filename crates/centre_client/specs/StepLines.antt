-- The lines of a script: `use KEY`, and the steps `call CALL`, `operate NAME VALUE` and `wait N`.
use Rattle.std.specs.Prelude.{◌≡◌, ℕ, ◌<◌, ◌≤◌, nat_le, nat_lt, if◌then◌else◌, ℤ}
use Rattle.std.specs.Prelude.{Bool, true, false, not, ◌&&◌, List, [], ◌∷◌, length, Option}
use Rattle.std.specs.Prelude.{Some, None, option_and_then, is_some}
use Rattle.std.specs.Prelude.{bytes_eq, codes, Result, Ok, Err}
use Rattle.std.specs.List.{list_any}
use Rattle.plain_text.specs.Numbers.{if_passes, number_up_to}
use Rattle.bilateral.specs.Words.Devices.{short_in}
use Rattle.plain_text.specs.Words.{words_in}
use Rattle.bilateral.specs.Rows.{CentreRows, table_of, device_of, place_of_peer, place_of_device}
use Rattle.bilateral.specs.Rows.{place_of_control}
use Rattle.mms_data.specs.ObjectName.{ObjectName}
use Rattle.mms_data.specs.declared.object_name.Scope.{Scope}
use Rattle.mms_data.specs.declared.object_name.Scope.TheVariants as scopes
use Rattle.mms_services.specs.declared.pdu.MmsPdu.TheVariants as pdus
use Rattle.mms_services.specs.PduOctets.{pdu_len}
use Rattle.tase_views.specs.declared.call.CallKind.{CallKind}
use Rattle.tase_views.specs.declared.call.CallKind.TheVariants as calls
use Rattle.texts.specs.Journal.CallIn.{call_in}
use Rattle.tase_conn.specs.Map.Asked.{request_in, is_odd}
use Rattle.centre_client.specs.declared.fault.ScriptWhy.{ScriptWhy}
use Rattle.centre_client.specs.declared.fault.ScriptWhy.TheVariants.{Start, Word, Unknown, Long}
use Rattle.centre_client.specs.declared.fault.ScriptWhy.TheVariants.{Selectable}
use Rattle.centre_client.specs.declared.script.StepKind.{StepKind}
use Rattle.centre_client.specs.declared.script.StepKind.TheVariants as kinds
use Rattle.asking_end.specs.declared.limits.TheConstants.{LAST_INVOKE, REQUEST_LIMIT}
use Rattle.centre_client.specs.declared.steps.TheConstants.{WAIT_LIMIT}

-- `KEY` behind `use`
abbrev pub key_behind_use : List (List ℕ) → Option (List ℕ)
key_behind_use (verb ∷ key ∷ []) = if bytes_eq verb (codes "use") then Some key else None
key_behind_use words = None

-- what is there, or this reason against it
abbrev pub or_why : {A : Type 0} → ScriptWhy → Option A → Result A ScriptWhy
or_why why None = Err why
or_why why (Some x) = Ok x

-- the peer with the key that a line tells
abbrev pub peer_with : CentreRows → Option (List ℕ) → Result ℕ ScriptWhy
peer_with rows None = Err Start
peer_with rows (Some key) = or_why Unknown (place_of_peer rows key)

-- the peer that the first line tells, or the reason against it
abbrev pub peer_in : CentreRows → List ℕ → Result ℕ ScriptWhy
peer_in rows line = peer_with rows (option_and_then key_behind_use (words_in line))

-- the device with this name, where the peer's table controls it
abbrev pub controlled_device : CentreRows → ℕ → List ℕ → Option ℕ
controlled_device rows peer name =
    option_and_then (if_passes (λ device. is_some (place_of_control (table_of rows peer) device)))
    (place_of_device rows name)

-- whether a device, if there is one, has to be selected before it is operated
abbrev pub is_selected_first : CentreRows → Option ℕ → Bool
is_selected_first rows None = false
is_selected_first rows (Some device) = not (device_of rows device).direct

-- whether a name is the variable in the table's domain by which a device is operated that has to be
-- selected before
abbrev pub is_variable_guarded : CentreRows → ℕ → Scope → List ℕ → Bool
is_variable_guarded rows peer (scopes.Domain domain) item =
    bytes_eq domain (table_of rows peer).domain
    && is_selected_first rows (controlled_device rows peer item)
is_variable_guarded rows peer scope item = false

abbrev pub is_guarded : CentreRows → ℕ → ObjectName → Bool
is_guarded rows peer name = is_variable_guarded rows peer name.scope name.item

-- whether a call writes such a variable
abbrev pub writes_guarded : CentreRows → ℕ → CallKind → Bool
writes_guarded rows peer (calls.Write names values) =
    list_any (is_guarded rows peer) names
writes_guarded rows peer call = false

-- whether the request of a call is longer than what the client offers, by whichever number it is
-- said
abbrev pub is_long : CallKind → Bool
is_long call = nat_lt REQUEST_LIMIT (pdu_len (pdus.Request LAST_INVOKE (request_in call)))

-- the first reason against a call of a script: no service has it, it operates without a selection,
-- it is too long
abbrev pub call_why : CentreRows → ℕ → CallKind → Option ScriptWhy
call_why rows peer call =
    if is_odd call then Some Word
    else (if writes_guarded rows peer call then Some Selectable
    else (if is_long call then Some Long else None))

abbrev pub unless_why : Option ScriptWhy → StepKind → Result StepKind ScriptWhy
unless_why None step = Ok step
unless_why (Some why) step = Err why

-- `CALL` behind `call`
abbrev pub call_step : CentreRows → ℕ → Option CallKind → Result StepKind ScriptWhy
call_step rows peer None = Err Word
call_step rows peer (Some call) = unless_why (call_why rows peer call) (kinds.Call call)

abbrev pub operate_with : Option ℕ → Option ℤ → Result StepKind ScriptWhy
operate_with device None = Err Word
operate_with None (Some value) = Err Unknown
operate_with (Some device) (Some value) = Ok (kinds.Operate device value)

-- `NAME VALUE` behind `operate`
abbrev pub operate_step : CentreRows → ℕ → List (List ℕ) → Result StepKind ScriptWhy
operate_step rows peer (name ∷ value ∷ []) =
    operate_with (controlled_device rows peer name) (short_in value)
operate_step rows peer words = Err Word

-- so many reports, at least one
abbrev pub wait_of : Option ℕ → Result StepKind ScriptWhy
wait_of None = Err Word
wait_of (Some reports) = if nat_le 1 reports then Ok (kinds.Wait reports) else Err Word

-- `N` behind `wait`
abbrev pub wait_step : List (List ℕ) → Result StepKind ScriptWhy
wait_step (word ∷ []) = wait_of (number_up_to WAIT_LIMIT word)
wait_step words = Err Word

-- the step that words are
abbrev pub step_of_words : CentreRows → ℕ → List (List ℕ) → Result StepKind ScriptWhy
step_of_words rows peer [] = Err Word
step_of_words rows peer (verb ∷ words) =
    if bytes_eq verb (codes "call") then call_step rows peer (call_in words)
    else (if bytes_eq verb (codes "operate") then operate_step rows peer words
    else (if bytes_eq verb (codes "wait") then wait_step words else Err Word))

abbrev pub step_of_spaced : CentreRows → ℕ → Option (List (List ℕ)) → Result StepKind ScriptWhy
step_of_spaced rows peer None = Err Word
step_of_spaced rows peer (Some words) = step_of_words rows peer words

-- the step of a peer's script that a line is, or the first reason against it
abbrev pub step_in : CentreRows → ℕ → List ℕ → Result StepKind ScriptWhy
step_in rows peer line = step_of_spaced rows peer (words_in line)

-- a step may be played: its call has a service, operates nothing that is to be selected and is
-- short enough by whichever number it is said; its device is one of the table's, and the one with
-- its name; it waits for some reports
abbrev pub IsStep : CentreRows → ℕ → StepKind → Type 0
IsStep rows peer (kinds.Call call) =
    (is_odd call ≡ false) × (writes_guarded rows peer call ≡ false) × (is_long call ≡ false)
IsStep rows peer (kinds.Operate device value) =
    (device < length rows.devices)
    × (is_some (place_of_control (table_of rows peer) device) ≡ true)
    × (controlled_device rows peer (device_of rows device).name ≡ Some device)
IsStep rows peer (kinds.Wait reports) = (1 ≤ reports) × (reports ≤ WAIT_LIMIT)
