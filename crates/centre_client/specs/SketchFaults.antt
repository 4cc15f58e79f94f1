-- The reason against a call, by what is judged of it.
use Rattle.std.specs.Prelude.{ℕ, ◌+◌, Bool, nat_lt, if◌then◌else◌, Option, Some, None, Result, Ok}
use Rattle.std.specs.Prelude.{Err}
use Rattle.ber_values.specs.Lengths.{capped}
use Rattle.tase_views.specs.declared.call.CallKind.{CallKind}
use Rattle.centre_client.specs.declared.fault.ScriptWhy.{ScriptWhy}
use Rattle.centre_client.specs.declared.fault.ScriptWhy.TheVariants.{Word, Selectable, Long}
use Rattle.centre_client.specs.declared.script.StepKind.{StepKind}
use Rattle.centre_client.specs.declared.script.StepKind.TheVariants as kinds
use Rattle.asking_end.specs.declared.limits.TheConstants.{REQUEST_LIMIT}
use Rattle.centre_client.specs.declared.call_lines.verbs.CallSketch.{CallSketch}
use Rattle.centre_client.specs.CallSizes.{part_count}

-- whether a request with so many octets of contents is too long; its number has six
abbrev pub is_size_long : ℕ → Bool
is_size_long contents = nat_lt REQUEST_LIMIT (part_count (capped (6 + part_count contents)))

abbrev pub why_of_sketch : CallSketch → Option ScriptWhy
why_of_sketch sketch =
    if sketch.odd then Some Word
    else (if sketch.guarded then Some Selectable
    else (if is_size_long sketch.size then Some Long else None))

abbrev pub sketch_why : Option CallSketch → Option ScriptWhy
sketch_why None = Some Word
sketch_why (Some sketch) = why_of_sketch sketch

-- the step of words whose call has nothing against it
abbrev pub judged_step : Option CallKind → Result StepKind ScriptWhy
judged_step None = Err Word
judged_step (Some call) = Ok (kinds.Call call)
