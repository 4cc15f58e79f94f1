-- What is told of bad lines without memory is what their reading tells.
use Rattle.std.proofs.Common.{◌≡◌, ℕ, ◌+◌, Bool, cond, List, [], ◌∷◌, length, Option}
use Rattle.std.proofs.Common.{Some}
use Rattle.std.proofs.Common.{None, Result, Ok, Err, refl, sym, ap, ◌∙◌, arith, nat_lt}
use Rattle.std.proofs.Common.{◌++◌, length-append}
use Rattle.std.specs.Option.{option_map}
use Rattle.ber_values.specs.Lengths.{capped, part_size}
use Rattle.ber_values.proofs.Capped.{capped-part, length-written}
use Rattle.bilateral.specs.Rows.{CentreRows}
use Rattle.mms_services.specs.declared.pdu.MmsPdu.TheVariants as pdus
use Rattle.mms_services.specs.PduOctets.{request_octets, request_contents, request_tag, pdu_octets}
use Rattle.mms_services.specs.PduOctets.{invoke_octets}
use Rattle.tase_views.specs.declared.call.CallKind.{CallKind}
use Rattle.texts.specs.Journal.CallIn.{call_in}
use Rattle.tase_conn.specs.Map.Asked.{request_in, is_odd}
use Rattle.centre_client.specs.declared.fault.ScriptFault.{ScriptFault}
use Rattle.centre_client.specs.declared.fault.ScriptWhy.{ScriptWhy}
use Rattle.centre_client.specs.declared.fault.ScriptWhy.TheVariants.{Word, Selectable, Long}
use Rattle.centre_client.specs.declared.script.Script.{Script}
use Rattle.centre_client.specs.declared.script.Step.{Step}
use Rattle.centre_client.specs.declared.script.StepKind.{StepKind}
use Rattle.centre_client.specs.declared.script.StepKind.TheVariants as kinds
use Rattle.asking_end.specs.declared.limits.TheConstants.{LAST_INVOKE, REQUEST_LIMIT}
use Rattle.centre_client.specs.NumberedLines.{NumberedLine}
use Rattle.centre_client.specs.StepLines.{is_long, writes_guarded, call_why, unless_why, call_step}
use Rattle.centre_client.specs.StepLines.{step_in}
use Rattle.centre_client.specs.Scripts.{at_line, value_behind, steps_in, script_of}
use Rattle.centre_client.specs.Scripts.{script_in, IsScriptText}
use Rattle.centre_client.specs.CallSizes.{part_count, contents_len, sketch_of, sketch_in}
use Rattle.centre_client.specs.LineFaults.{error_told, fault_at_line, first_fault_in}
use Rattle.centre_client.specs.SketchFaults.{is_size_long, why_of_sketch, sketch_why, judged_step}
use Rattle.centre_client.proofs.CallsSized.{call-sketched}
use Rattle.asking_end.proofs.ShortRequests.{last-length}
use Rattle.centre_client.proofs.Spelled.{spells-if}

-- ---- calls

-- how many octets the request of a call has
request-length : (call : CallKind) → length (request_octets (request_in call))
    ≡ part_size (length (request_contents (request_in call)))
unfolding request_octets
request-length call = length-written (request_tag (request_in call)) (request_contents (request_in
    call))

-- and with the highest number
numbered-length : (call : CallKind)
    → length (pdu_octets (pdus.Request LAST_INVOKE (request_in call)))
    ≡ part_size (length (invoke_octets LAST_INVOKE) + length (request_octets (request_in call)))
unfolding pdu_octets
numbered-length call =
    length-written 160 (invoke_octets LAST_INVOKE ++ request_octets (request_in call))
    ∙ ap part_size
    (length-append (invoke_octets LAST_INVOKE) (request_octets (request_in call)))

inner_size : (n : ℕ) → capped (6 + part_count (capped n)) ≡ capped (6 + part_size n)
inner_size n =
    let e : capped (6 + capped (part_size n)) ≡ capped (6 + part_size n) = omega arith in
    ap (λ (k : ℕ). capped (6 + k)) (capped-part n) ∙ e

sized_request : (n : ℕ)
    → part_count (capped (6 + part_count (capped n))) ≡ capped (part_size (6 + part_size n))
sized_request n = ap part_count (inner_size n) ∙ capped-part (6 + part_size n)

long-sized : (call : CallKind) → is_size_long (contents_len call) ≡ is_long call
long-sized call =
    let contents : ℕ = length (request_contents (request_in call)) in
    let whole : length (pdu_octets (pdus.Request LAST_INVOKE (request_in call)))
    ≡ part_size (6 + part_size contents) =
    numbered-length call
    ∙ ap (λ n. part_size (n + length (request_octets (request_in call)))) last-length
    ∙ ap (λ n. part_size (6 + n)) (request-length call) in
    ap (nat_lt REQUEST_LIMIT) (sized_request contents ∙ ap capped (sym whole))

why-sketched : (rows : CentreRows) (peer : ℕ) (call : CallKind)
    → why_of_sketch (sketch_of rows peer call) ≡ call_why rows peer call
why-sketched rows peer call =
    ap (λ (long : Bool). cond (is_odd call) (Some Word)
    (cond (writes_guarded rows peer call) (Some Selectable) (cond long (Some Long) None)))
    (long-sized call)

unless-fault : (why : Option ScriptWhy) (step : StepKind) → error_told (unless_why why step) ≡ why
unless-fault None step = refl
unless-fault (Some why) step = refl

words_fault : (rows : CentreRows) (peer : ℕ) (call : Option CallKind)
    → sketch_why (option_map (sketch_of rows peer) call) ≡ error_told (call_step rows peer call)
words_fault rows peer None = refl
words_fault rows peer (Some call) =
    why-sketched rows peer call ∙ sym (unless-fault (call_why rows peer call) (kinds.Call call))

pub call-fault : (rows : CentreRows) (peer : ℕ) (words : List (List ℕ))
    → sketch_why (sketch_in rows peer words) ≡ error_told (call_step rows peer (call_in words))
call-fault rows peer words =
    ap sketch_why (call-sketched rows peer words) ∙ words_fault rows peer (call_in words)

pub fault-err : {A E : Type 0} (read : Result A E) (fault : E) → error_told read ≡ Some fault
    → read ≡ Err fault
fault-err (Ok value) fault e = absurd cc
fault-err (Err other) fault e = let same : other ≡ fault = cc in ap Err same

unless-none : (why : Option ScriptWhy) (step : StepKind) → error_told (unless_why why step) ≡ None
    → Ok step ≡ unless_why why step
unless-none None step e = refl
unless-none (Some why) step e = absurd cc

pub judged-good : (rows : CentreRows) (peer : ℕ) (call : Option CallKind)
    → error_told (call_step rows peer call) ≡ None → judged_step call ≡ call_step rows peer call
judged-good rows peer None e = refl
judged-good rows peer (Some call) e = unless-none (call_why rows peer call) (kinds.Call call) e

-- ---- lines

line_fault : (number : ℕ) (f : StepKind → Step) (kind : Result StepKind ScriptWhy)
    (rest : Result (List Step) ScriptFault) (later : Option ScriptFault) → later ≡ error_told rest
    → fault_at_line number (error_told kind) later ≡ error_told (value_behind (at_line number f
    kind) rest)
line_fault number f (Ok kind) (Ok steps) later e = e
line_fault number f (Ok kind) (Err fault) later e = e
line_fault number f (Err why) rest later e = refl

pub fault-steps : (rows : CentreRows) (peer : ℕ) (lines : List NumberedLine)
    → first_fault_in rows peer lines ≡ error_told (steps_in rows peer lines)
fault-steps rows peer [] = refl
fault-steps rows peer (line ∷ more) =
    line_fault line.number (λ kind. record { line = line.number; kind = kind })
    (step_in rows peer line.text) (steps_in rows peer more) (first_fault_in rows peer more)
    (fault-steps rows peer more)

pub fault-script : (peer : ℕ) (steps : Result (List Step) ScriptFault)
    → error_told (script_of peer steps) ≡ error_told steps
fault-script peer (Ok steps) = refl
fault-script peer (Err fault) = refl

-- a text without a bad line spells a script
pub script_good : (rows : CentreRows) (text : List ℕ) → error_told (script_in rows text) ≡ None
    → IsScriptText rows text
script_good rows text none = one (script_in rows text) refl none
  where
    one : (read : Result Script ScriptFault) → script_in rows text ≡ read → error_told read ≡ None
        → IsScriptText rows text
    one (Ok script) e none = record { script = script; spelled = spells-if rows text script e }
    one (Err fault) e none = absurd cc
