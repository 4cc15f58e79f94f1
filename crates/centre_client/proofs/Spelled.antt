-- The reader finds the script that a text spells, or its first bad line, and whatever is one of
-- these it finds.
use Rattle.std.proofs.Common.{◌≡◌, inl, inr, ℕ, ◌+◌, ◌-◌, ◌^◌, min, List, [], ◌∷◌, ◌++◌, map}
use Rattle.std.proofs.Common.{length, Result, Ok, Err, refl, sym, ap, subst, ◌∙◌}
use Rattle.std.specs.Prelude.{IfOk, MatchResult}
use Rattle.std.specs.Str.Lines.{lines}
use Rattle.bilateral.specs.Rows.{CentreRows}
use Rattle.centre_client.specs.declared.fault.ScriptFault.{ScriptFault}
use Rattle.centre_client.specs.declared.fault.ScriptWhy.TheVariants.{Start}
use Rattle.centre_client.specs.declared.script.Script.{Script}
use Rattle.centre_client.specs.declared.script.Step.{Step}
use Rattle.centre_client.specs.NumberedLines.{NumberedLine, numbered_lines}
use Rattle.centre_client.specs.declared.script.StepKind.{StepKind}
use Rattle.centre_client.specs.StepLines.{step_in}
use Rattle.centre_client.proofs.FirstErrors.{in_front, one_in_front}
use Rattle.centre_client.specs.Scripts.{value_behind, at_line}
use Rattle.centre_client.specs.Scripts.{peer_at, step_at, steps_in, script_of}
use Rattle.centre_client.specs.Scripts.{script_behind, begun_by, script_told, script_in}
use Rattle.centre_client.specs.Scripts.{SpellsScript, IsSilent, IsPeerBad, IsStepBad}
use Rattle.centre_client.specs.Scripts.{HasScriptFault}
use Rattle.centre_client.proofs.FirstErrors.{values_of-all, values_of-ok}
use Rattle.centre_client.proofs.FirstErrors.{values_of-first, first-values_of, goes_on}

-- the number of the line behind the last
abbrev missed : List ℕ → ℕ
missed text = min (length (lines text) + 1) (2 ^ 64 - 1)

abbrev a_script : Script → Result Script ScriptFault
a_script script = Ok script

-- what the lines behind the first one give
record Behind (rows : CentreRows) (peer : ℕ) (texts : List NumberedLine) (script : Script)
    : Type 0 where
  pub peer_is : peer ≡ script.peer
  pub steps : map (step_at rows peer) texts ≡ map Ok script.steps

behind-if : (rows : CentreRows) (peer : ℕ) (texts : List NumberedLine) (script : Script)
    → script_behind rows peer texts ≡ Ok script → Behind rows peer texts script
behind-if rows peer texts script is = one (steps_in rows peer texts) refl is
  where
    one : (r : Result (List Step) ScriptFault) → steps_in rows peer texts ≡ r
        → script_of peer r ≡ Ok script → Behind rows peer texts script
    one (Ok steps) at is =
        let whole : record { peer = peer; steps = steps } ≡ script = cc in
        record {
          peer_is = ap (λ (s : Script). s.peer) whole;
          steps = values_of-all (step_at rows peer) texts script.steps
              (at ∙ ap (λ (s : Script). Ok s.steps) whole);
        }
    one (Err fault) at is = absurd cc

pub spells-if : (rows : CentreRows) (text : List ℕ) (script : Script)
    → script_in rows text ≡ Ok script → SpellsScript rows text script
spells-if rows text script is = parts (numbered_lines text) refl is
  where
    later : (first : NumberedLine) (more : List NumberedLine)
        → numbered_lines text ≡ first ∷ more → (r : Result ℕ ScriptFault)
        → peer_at rows first ≡ r
        → begun_by r (λ peer. script_behind rows peer more) ≡ Ok script
        → SpellsScript rows text script
    later first more at (Ok peer) told is =
        let b = behind-if rows peer more script is in
        record {
          first = first;
          more = more;
          parts = at;
          peer = told ∙ ap Ok b.peer_is;
          steps = subst (λ (p : ℕ). map (step_at rows p) more ≡ map Ok script.steps) b.peer_is
              b.steps;
        }
    later first more at (Err fault) told is = absurd cc

    parts : (texts : List NumberedLine) → numbered_lines text ≡ texts
        → script_told rows (missed text) texts ≡ Ok script → SpellsScript rows text script
    parts [] at is = absurd cc
    parts (first ∷ more) at is = later first more at (peer_at rows first) refl is

fault-if : (rows : CentreRows) (text : List ℕ) (fault : ScriptFault)
    → script_in rows text ≡ Err fault → HasScriptFault rows text fault
fault-if rows text fault is = parts (numbered_lines text) refl is
  where
    last : (first : NumberedLine) (more : List NumberedLine)
        → numbered_lines text ≡ first ∷ more → (peer : ℕ) → peer_at rows first ≡ Ok peer
        → (r : Result (List Step) ScriptFault) → steps_in rows peer more ≡ r
        → script_of peer r ≡ Err fault → HasScriptFault rows text fault
    last first more at peer told (Ok steps) steps_are is = absurd cc
    last first more at peer told (Err e) steps_are is =
        let same : e ≡ fault = cc in
        let broken : steps_in rows peer more ≡ Err fault = steps_are ∙ ap Err same in
        let f = values_of-first (step_at rows peer) more fault broken in
        inr (inr (record {
          first = first;
          before = f.before;
          bad = f.bad;
          after = f.after;
          parts = goes_on (numbered_lines text) first more (f.before ++ f.bad ∷ f.after) at f.parts;
          peer = peer;
          told = told;
          steps = f.values;
          spelled = f.spelled;
          reason = f.reason;
        }))

    later : (first : NumberedLine) (more : List NumberedLine)
        → numbered_lines text ≡ first ∷ more → (r : Result ℕ ScriptFault)
        → peer_at rows first ≡ r
        → begun_by r (λ peer. script_behind rows peer more) ≡ Err fault
        → HasScriptFault rows text fault
    later first more at (Ok peer) told is =
        last first more at peer told (steps_in rows peer more) refl is
    later first more at (Err e) told is =
        let same : e ≡ fault = cc in
        inr (inl (record {
          first = first;
          more = more;
          parts = at;
          reason = told ∙ ap Err same;
        }))

    parts : (texts : List NumberedLine) → numbered_lines text ≡ texts
        → script_told rows (missed text) texts ≡ Err fault → HasScriptFault rows text fault
    parts [] at is =
        let same : record { line = missed text; why = Start } ≡ fault = cc in
        inl (record {
          none = at;
          line = ap (λ (f : ScriptFault). f.line) (sym same);
          why = ap (λ (f : ScriptFault). f.why) (sym same);
        })
    parts (first ∷ more) at is = later first more at (peer_at rows first) refl is

spelled-found : (rows : CentreRows) (text : List ℕ) (script : Script)
    → SpellsScript rows text script → script_in rows text ≡ Ok script
spelled-found rows text script s =
    ap (script_told rows (missed text)) s.parts
    ∙ ap (λ r. begun_by r (λ peer. script_behind rows peer s.more)) s.peer
    ∙ ap (script_of script.peer)
    (values_of-ok (map (step_at rows script.peer) s.more) script.steps s.steps)

silent-found : (rows : CentreRows) (text : List ℕ) (fault : ScriptFault) → IsSilent text fault
    → script_in rows text ≡ Err fault
silent-found rows text fault s =
    ap (script_told rows (missed text)) s.none
    ∙ ap (λ (n : ℕ). Err (record { line = n; why = Start })) (sym s.line)
    ∙ ap (λ w. Err (record { line = fault.line; why = w })) (sym s.why)

peer_bad-found : (rows : CentreRows) (text : List ℕ) (fault : ScriptFault)
    → IsPeerBad rows text fault → script_in rows text ≡ Err fault
peer_bad-found rows text fault s =
    ap (script_told rows (missed text)) s.parts
    ∙ ap (λ r. begun_by r (λ peer. script_behind rows peer s.more)) s.reason

step_bad-found : (rows : CentreRows) (text : List ℕ) (fault : ScriptFault)
    → IsStepBad rows text fault → script_in rows text ≡ Err fault
step_bad-found rows text fault s =
    ap (script_told rows (missed text)) s.parts
    ∙ ap (λ r. begun_by r (λ peer. script_behind rows peer (s.before ++ s.bad ∷ s.after))) s.told
    ∙ ap (script_of s.peer)
    (first-values_of (step_at rows s.peer) s.before s.bad s.after s.steps fault s.spelled s.reason)

bad-found : (rows : CentreRows) (text : List ℕ) (fault : ScriptFault)
    → HasScriptFault rows text fault → script_in rows text ≡ Err fault
bad-found rows text fault (inl s) = silent-found rows text fault s
bad-found rows text fault (inr (inl s)) = peer_bad-found rows text fault s
bad-found rows text fault (inr (inr s)) = step_bad-found rows text fault s

pub found-in : {E : Type 0} (rows : CentreRows) (text : List ℕ)
    (result : Result (Result Script ScriptFault) E)
    → IfOk result (λ read. read ≡ script_in rows text)
    → IfOk result (λ read. MatchResult read (SpellsScript rows text) (HasScriptFault rows text))
found-in rows text (Ok (Ok script)) value = spells-if rows text script (sym value)
found-in rows text (Ok (Err fault)) value = fault-if rows text fault (sym value)
found-in rows text (Err e) value = tt

pub only-in : {E : Type 0} (rows : CentreRows) (text : List ℕ)
    (result : Result (Result Script ScriptFault) E) (script : Script)
    → SpellsScript rows text script → IfOk result (λ read. read ≡ script_in rows text)
    → IfOk result (λ read. read ≡ Ok script)
only-in rows text (Ok read) script spells value = value ∙ spelled-found rows text script spells
only-in rows text (Err e) script spells value = tt

pub fault-in : {E : Type 0} (rows : CentreRows) (text : List ℕ)
    (result : Result (Result Script ScriptFault) E) (fault : ScriptFault)
    → HasScriptFault rows text fault → IfOk result (λ read. read ≡ script_in rows text)
    → IfOk result (λ read. read ≡ Err fault)
fault-in rows text (Ok read) fault bad value = value ∙ bad-found rows text fault bad
fault-in rows text (Err e) fault bad value = tt

-- ---- the loop over the steps

pub step-taken : (rows : CentreRows) (peer : ℕ) (line : NumberedLine) (kind : StepKind)
    (before : List Step) (more : List NumberedLine) → step_in rows peer line.text ≡ Ok kind
    → in_front before (steps_in rows peer (line ∷ more))
    ≡ in_front (before ++ record { line = line.number; kind = kind } ∷ []) (steps_in rows peer more)
step-taken rows peer line kind before more is =
    ap (λ r. in_front before (value_behind
    (at_line line.number (λ k. record { line = line.number; kind = k }) r)
    (steps_in rows peer more))) is
    ∙ one_in_front before (record { line = line.number; kind = kind }) (steps_in rows peer more)
