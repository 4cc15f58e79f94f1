-- What the text of a script spells: its first line tells the peer, and each line behind it is a
-- step. A text that spells no script has a first bad line.
use Rattle.std.specs.Prelude.{◌≡◌, ℕ, ◌+◌, ◌-◌, ◌^◌, ◌<◌, min, ◌⊎◌, List, [], ◌∷◌, ◌++◌, map}
use Rattle.std.specs.Prelude.{length, Result, Ok, Err}
use Rattle.std.specs.List.{All}
use Rattle.std.specs.Str.Lines.{lines}
use Rattle.bilateral.specs.Rows.{CentreRows}
use Rattle.centre_client.specs.declared.fault.ScriptFault.{ScriptFault}
use Rattle.centre_client.specs.declared.fault.ScriptWhy.{ScriptWhy}
use Rattle.centre_client.specs.declared.fault.ScriptWhy.TheVariants.{Start}
use Rattle.centre_client.specs.declared.script.Script.{Script}
use Rattle.centre_client.specs.declared.script.Step.{Step}
use Rattle.centre_client.specs.NumberedLines.{NumberedLine, numbered_lines}
use Rattle.centre_client.specs.StepLines.{peer_in, step_in, IsStep}

-- what a line is for a reason against it, or for none
abbrev pub at_line : {A B : Type 0} → ℕ → (A → B) → Result A ScriptWhy → Result B ScriptFault
at_line number f (Ok x) = Ok (f x)
at_line number f (Err why) = Err (record { line = number; why = why })

-- the peer that a line tells
abbrev pub peer_at : CentreRows → NumberedLine → Result ℕ ScriptFault
peer_at rows line = at_line line.number (λ peer. peer) (peer_in rows line.text)

-- the step that a line is
abbrev pub step_at : CentreRows → ℕ → NumberedLine → Result Step ScriptFault
step_at rows peer line =
    at_line line.number (λ kind. record { line = line.number; kind = kind })
    (step_in rows peer line.text)

-- each of these lines is the step at its place
abbrev pub AreSteps : CentreRows → ℕ → List NumberedLine → List Step → Type 0
AreSteps rows peer texts steps = map (step_at rows peer) texts ≡ map Ok steps

-- a text spells a script
pub record SpellsScript (rows : CentreRows) (text : List ℕ) (script : Script) : Type 0 where
  pub first : NumberedLine
  pub more : List NumberedLine
  pub parts : numbered_lines text ≡ first ∷ more
  pub peer : peer_at rows first ≡ Ok script.peer
  pub steps : AreSteps rows script.peer more script.steps

-- the text spells a script, so no line of it is bad
pub record IsScriptText (rows : CentreRows) (text : List ℕ) : Type 0 where
  pub script : Script
  pub spelled : SpellsScript rows text script

-- no line of the text says anything: the line after its last one is missed
pub record IsSilent (text : List ℕ) (fault : ScriptFault) : Type 0 where
  pub none : numbered_lines text ≡ []
  pub line : fault.line ≡ min (length (lines text) + 1) (2 ^ 64 - 1)
  pub why : fault.why ≡ Start

-- the first line tells no peer, for this reason
pub record IsPeerBad (rows : CentreRows) (text : List ℕ) (fault : ScriptFault) : Type 0 where
  pub first : NumberedLine
  pub more : List NumberedLine
  pub parts : numbered_lines text ≡ first ∷ more
  pub reason : peer_at rows first ≡ Err fault

-- a later line is no step, for this reason, and those before it are steps
pub record IsStepBad (rows : CentreRows) (text : List ℕ) (fault : ScriptFault) : Type 0 where
  pub first : NumberedLine
  pub before : List NumberedLine
  pub bad : NumberedLine
  pub after : List NumberedLine
  pub parts : numbered_lines text ≡ first ∷ (before ++ bad ∷ after)
  pub peer : ℕ
  pub told : peer_at rows first ≡ Ok peer
  pub steps : List Step
  pub spelled : AreSteps rows peer before steps
  pub reason : step_at rows peer bad ≡ Err fault

-- the text has this first bad line
abbrev pub HasScriptFault : CentreRows → List ℕ → ScriptFault → Type 0
HasScriptFault rows text fault =
    IsSilent text fault ⊎ (IsPeerBad rows text fault ⊎ IsStepBad rows text fault)

-- all values, or the first error
abbrev pub value_behind : {A E : Type 0} → Result A E → Result (List A) E → Result (List A) E
value_behind (Err e) more = Err e
value_behind (Ok x) (Err e) = Err e
value_behind (Ok x) (Ok xs) = Ok (x ∷ xs)

abbrev pub values_of : {A E : Type 0} → List (Result A E) → Result (List A) E
values_of [] = Ok []
values_of (x ∷ xs) = value_behind x (values_of xs)

-- the steps that lines are, or the first bad line
abbrev pub steps_in : CentreRows → ℕ → List NumberedLine → Result (List Step) ScriptFault
steps_in rows peer texts = values_of (map (step_at rows peer) texts)

abbrev pub script_of : ℕ → Result (List Step) ScriptFault → Result Script ScriptFault
script_of peer (Ok steps) = Ok (record { peer = peer; steps = steps })
script_of peer (Err fault) = Err fault

-- the script of a peer with these lines behind the first, or the first bad line
abbrev pub script_behind : CentreRows → ℕ → List NumberedLine → Result Script ScriptFault
script_behind rows peer texts = script_of peer (steps_in rows peer texts)

abbrev pub begun_by : Result ℕ ScriptFault → (ℕ → Result Script ScriptFault)
    → Result Script ScriptFault
begun_by (Ok peer) next = next peer
begun_by (Err fault) next = Err fault

-- the script that numbered lines are, or the first bad one; `missed` is the line after the last
abbrev pub script_told : CentreRows → ℕ → List NumberedLine → Result Script ScriptFault
script_told rows missed [] = Err (record { line = missed; why = Start })
script_told rows missed (first ∷ more) =
    begun_by (peer_at rows first) (λ peer. script_behind rows peer more)

-- the script that a text spells, or its first bad line
abbrev pub script_in : CentreRows → List ℕ → Result Script ScriptFault
script_in rows text =
    script_told rows (min (length (lines text) + 1) (2 ^ 64 - 1)) (numbered_lines text)

-- what every script of these tables keeps: its peer is there, and each step may be played
pub record IsScript (rows : CentreRows) (script : Script) : Type 0 where
  pub peer : script.peer < length rows.tables
  pub steps : All (λ step. IsStep rows script.peer step.kind) script.steps
