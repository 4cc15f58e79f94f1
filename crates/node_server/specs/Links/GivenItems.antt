-- What a connection gets of the answers of a link.
use Rattle.std.specs.Prelude.{List, [], ◌∷◌, flat_map}
use Rattle.outside.specs.Links.LinkAnswers.{Received, piece, idle, ended, failed, LinkAnswer}
use Rattle.tase_conn.specs.Map.Inputs.{Item, piece as piece_item, idle as idle_item, ended as ended_item}

-- what recv gave: a fault gave nothing
abbrev pub items_given : Received → List Item
items_given (piece octets) = piece_item octets ∷ []
items_given idle = idle_item ∷ []
items_given ended = ended_item ∷ []
items_given failed = []

abbrev pub items_of : List LinkAnswer → List Item
items_of answers = flat_map (λ (answer : LinkAnswer). items_given answer.received) answers

-- more may come behind it
abbrev pub MayGoOn : Received → Type 0
MayGoOn (piece octets) = Unit {0}
MayGoOn idle = Unit {0}
MayGoOn ended = ⊥
MayGoOn failed = ⊥
