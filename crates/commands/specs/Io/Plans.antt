-- What a command says once it has read its inputs, one after another, and what a run of it owes.
use Rattle.std.specs.Prelude.{◌≡◌, ℕ, ◌≤◌, Bool, true, false, if◌then◌else◌, nat_lt, length}
use Rattle.std.specs.Prelude.{bytes_eq, List, [], ◌∷◌, Result, Ok, Err, Vec, IfOk}
use Rattle.std.specs.declared.alloc.Global.{Global}
use Rattle.outside.specs.Names.Outside.{OutsideTold}
use Rattle.commands.specs.declared.io.status.Status.{Status}
use Rattle.commands.specs.declared.io.status.Status.TheVariants.{Input, Outside}
use Rattle.commands.specs.declared.io.input.Refusal.{Refusal}
use Rattle.commands.specs.declared.io.input.Refusal.TheVariants.{Long, BadLine, BadKey}
use Rattle.commands.specs.declared.io.input.InputEnd.{InputEnd}
use Rattle.commands.specs.declared.io.input.InputEnd.TheVariants.{Refused}
use Rattle.commands.specs.declared.io.input.InputEnd.TheVariants as ends
use Rattle.commands.specs.Io.Saying.{Said, prints, refusal_text, Text, untold, missing, told}
use Rattle.commands.specs.Io.Saying.{emptied, texts_of, Duty, duty_to_say}
use Rattle.commands.specs.Io.Inputs.{ReadsInput}
use Rattle.commands.specs.Io.Runs.{IsRun, EndsUnread}

-- an input of a command
pub record Asked : Type 0 where
  -- the name that it is opened under
  pub file : List ℕ
  -- its name where it is refused
  pub called : List ℕ
  -- the octets that it may have
  pub limit : ℕ

-- what a command says, or the input that it reads first, and then, by its octets, the rest
pub data Plan : Type 0 where
  says : Said → Plan
  reads : Asked → (List ℕ → Plan) → Plan

-- what is said of a refused input
abbrev pub refused_said : List ℕ → Refusal → Said
refused_said input refusal = prints Input (refusal_text input refusal)

-- octets that spell themselves
abbrev pub whole_text : List ℕ → Result (List ℕ) ℕ
whole_text octets = Ok octets

-- the octets of a text in memory
abbrev pub octets_of : Vec ℕ Global → List ℕ
octets_of text = text.items

-- what comes behind an input that was read to a value; its first bad line is told alone
abbrev pub by_value : {V : Type 0} → List ℕ → (V → Plan) → Result V ℕ → Plan
by_value called onward (Ok value) = onward value
by_value called onward (Err line) = says (refused_said called (BadLine line))

-- an input is read to the value that its octets spell, and the rest goes by that
abbrev pub reads_value : {V : Type 0} → Asked → (List ℕ → Result V ℕ) → (V → Plan) → Plan
reads_value asked spelled onward =
    reads asked (λ octets. by_value asked.called onward (spelled octets))

-- the texts behind an input that was read: nothing is left under its name
abbrev pub texts_behind : (List ℕ → Text) → List ℕ → List ℕ → Text
texts_behind texts file name = if bytes_eq name file then emptied (texts file) else texts name

-- a duty with one more input before the others
abbrev pub opening : List ℕ → Duty → Duty
opening name duty = record duty { inputs = name ∷ duty.inputs }

-- what an input is found to be of which this is told: that; where nothing is told, that it isn't
-- there, or any octets
abbrev pub IsFound : Text → Text → Type 0
IsFound untold untold = ⊥
IsFound untold found = Unit {0}
IsFound missing found = found ≡ missing
IsFound (told octets) found = found ≡ told octets

-- what is owed behind octets, which may be too many
abbrev pub OwesWithin : Bool → Duty → (Duty → Type 0) → Duty → Type 0
OwesWithin true refused next duty = duty ≡ refused
OwesWithin false refused next duty = next duty

-- what is owed behind an input that was found to be this: one that isn't there is a fault outside,
-- and one with more octets than it may have is refused
abbrev pub OwesFound : Asked → (List ℕ → Duty → Type 0) → Text → Duty → Type 0
OwesFound asked next untold duty = ⊥
OwesFound asked next missing duty = duty ≡ duty_to_say true (prints Outside [])
OwesFound asked next (told octets) duty =
    OwesWithin (nat_lt asked.limit (length octets))
    (duty_to_say true (refused_said asked.called Long)) (next octets) duty

-- what a run of a plan owes, by what is told under each name: each input that it reads is found to
-- be something, and the rest is owed by that
abbrev pub Owes : Plan → (List ℕ → Text) → Duty → Type 0
Owes (says said) texts duty = duty ≡ duty_to_say true said
Owes (reads asked next) texts duty = (found : Text) × IsFound (texts asked.file) found
    × ((rest : Duty)
    × OwesFound asked (λ octets. Owes (next octets) (texts_behind texts asked.file)) found rest
    × (duty ≡ opening asked.file rest))

-- what a run of a plan leaves outside, and the status that it answers: what it owes by what is told
-- of its inputs, and where nothing is told, by octets that they may have had
abbrev pub RunsPlan : Plan → OutsideTold → OutsideTold → Status → Type 0
RunsPlan (says said) before after status = IsRun (duty_to_say true said) before after status
RunsPlan (reads asked next) before after status =
    (duty : Duty) × Owes (reads asked next) (texts_of before) duty × IsRun duty before after status

-- what a command comes to whose input was read to this: it goes on by the value, or it ends without
-- one
abbrev pub EndsPlan : {V : Type 0} → List ℕ → (V → Plan) → Result V InputEnd → OutsideTold
    → OutsideTold → Status → Type 0
EndsPlan called onward (Ok value) before after status =
    RunsPlan (onward value) before after status
EndsPlan called onward (Err end) before after status = EndsUnread called end before after status

-- the value that octets spell, or their first bad line, or want of memory alone
abbrev pub IsSpelled : {V : Type 0} → Result V InputEnd → Result V ℕ → Type 0
IsSpelled (Ok value) spelled = spelled ≡ Ok value
IsSpelled (Err (Refused Long)) spelled = ⊥
IsSpelled (Err (Refused (BadLine line))) spelled = spelled ≡ Err line
IsSpelled (Err (Refused BadKey)) spelled = ⊥
IsSpelled (Err ends.Outside) spelled = ⊥
IsSpelled (Err ends.Memory) spelled = Unit {0}

-- the same of an input that was read to this
abbrev pub IsValue : {V : Type 0} → (List ℕ → Result V ℕ) → Result (Vec ℕ Global) InputEnd
    → Result V InputEnd → Type 0
IsValue spelled (Ok text) result = IsSpelled result (spelled text.items)
IsValue spelled (Err end) result = result ≡ Err end

-- an input was opened, read and closed again, and this is the value that it spells, or why there is
-- none
abbrev pub ReadsValue : {V : Type 0} → (List ℕ → Result V ℕ) → List ℕ → ℕ → Result V InputEnd
    → OutsideTold → OutsideTold → Type 0
ReadsValue spelled name limit result before after = (read : Result (Vec ℕ Global) InputEnd)
    × ReadsInput before after name limit read × IsValue spelled read result

-- a fact of the value that an input spells, where its octets are told and aren't too many
abbrev pub OnValue : {V : Type 0} → (List ℕ → Result V ℕ) → ℕ → (V → Type 0) → Text → Type 0
OnValue spelled limit fact untold = Unit {0}
OnValue spelled limit fact missing = Unit {0}
OnValue spelled limit fact (told octets) = length octets ≤ limit → IfOk (spelled octets) fact
