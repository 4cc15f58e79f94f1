-- What a command says, and what is told of its inputs.
use Rattle.std.specs.Prelude.{ℕ, Bool, List, [], ◌∷◌, ◌++◌, map, Option, Some, None, codes, decimal}
use Rattle.outside.specs.Source.{SourceTold}
use Rattle.outside.specs.Names.Outside.{NameEntry, OutsideTold, lent, there}
use Rattle.outside.specs.Names.Outside.{untold as untold_name, missing as missing_name}
use Rattle.commands.specs.declared.io.status.Status.{Status}
use Rattle.commands.specs.declared.io.input.Refusal.{Refusal}
use Rattle.commands.specs.declared.io.input.Refusal.TheVariants.{Long, BadLine, BadKey}

-- a status, the octets that standard output takes, and those that each named file takes
pub record Said : Type 0 where
  pub status : Status
  pub text : List ℕ
  pub files : List (List ℕ × List ℕ)

-- a status and what is printed with it; no file is written
abbrev pub prints : Status → List ℕ → Said
prints status text = record { status = status; text = text; files = [] }

-- the same, and a file that is written
abbrev pub with_file : List ℕ → List ℕ → Said → Said
with_file name octets said = record said { files = (name, octets) ∷ [] }

-- the line that refuses an input
abbrev pub refusal_text : List ℕ → Refusal → List ℕ
refusal_text input Long = codes "input " ++ input ++ codes " long" ++ 10 ∷ []
refusal_text input (BadLine line) =
    codes "input " ++ input ++ codes " line " ++ decimal line ++ 10 ∷ []
refusal_text input BadKey = codes "input " ++ input ++ codes " key" ++ 10 ∷ []

-- the line of a history that would weigh more than its limit
abbrev pub full_text : ℕ → ℕ → List ℕ
full_text weight limit = codes "full " ++ decimal weight ++ codes " " ++ decimal limit ++ 10 ∷ []

-- what is told of an input: nothing, that it isn't there, or its octets
pub data Text : Type 0 where
  untold : Text
  missing : Text
  told : List ℕ → Text

-- what an object tells
abbrev pub told_by : Option (List ℕ) → Text
told_by None = untold
told_by (Some octets) = told octets

-- what is told of the text that stands under a name
abbrev pub text_of : NameEntry SourceTold → Text
text_of untold_name = untold
text_of missing_name = missing
text_of lent = missing
text_of (there source) = told_by source.left

-- the texts under all names
abbrev pub texts_of : OutsideTold → List ℕ → Text
texts_of outside name = text_of (outside.sources name)

-- the text when its octets were read
abbrev pub emptied : Text → Text
emptied untold = untold
emptied missing = missing
emptied (told octets) = told []

-- the names of files
abbrev pub names_in : List (List ℕ × List ℕ) → List (List ℕ)
names_in files = map (λ file. file.0) files

-- what a run owes: whether its words are a command, what is said, and the names that are opened for
-- reading, in order
pub record Duty : Type 0 where
  pub is_command : Bool
  pub says : Said
  pub inputs : List (List ℕ)

-- the duty to say this, with no input opened
abbrev pub duty_to_say : Bool → Said → Duty
duty_to_say is_command said = record { is_command = is_command; says = said; inputs = [] }
