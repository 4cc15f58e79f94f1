-- What the other node says over a link in memory.
use Rattle.std.specs.Prelude.{ℕ, List, [], ◌∷◌, take, drop}
use Rattle.outside.specs.declared.links.script.LinkItem.{LinkItem}
use Rattle.outside.specs.declared.links.script.LinkItem.TheVariants.{Piece, Idle, End}
use Rattle.outside.specs.Links.LinkAnswers.{Received, piece, idle, ended}

-- what is left of a script: the octets of the piece that was begun, and the items behind it
pub record ScriptLeft : Type 0 where
  pub begun : List ℕ
  pub items : List LinkItem

-- what recv answers with so much room: octets of the piece at the front as far as they fit. An
-- empty piece is none
abbrev pub script_answer : ℕ → List ℕ → List LinkItem → Received
script_answer room (octet ∷ octets) items = piece (take room (octet ∷ octets))
script_answer room [] [] = ended
script_answer room [] (Piece octets ∷ items) = script_answer room octets.items items
script_answer room [] (Idle ∷ items) = idle
script_answer room [] (End ∷ items) = ended

-- what is left then. Behind an end nothing is
abbrev pub script_after : ℕ → List ℕ → List LinkItem → ScriptLeft
script_after room (octet ∷ octets) items =
    record { begun = drop room (octet ∷ octets); items = items }
script_after room [] [] = record { begun = []; items = [] }
script_after room [] (Piece octets ∷ items) = script_after room octets.items items
script_after room [] (Idle ∷ items) = record { begun = []; items = items }
script_after room [] (End ∷ items) = record { begun = []; items = [] }
