-- The octets that a link has given.
use Rattle.std.specs.Prelude.{ℕ, List, [], flat_map}
use Rattle.outside.specs.Links.LinkAnswers.{Received, piece, LinkAnswer}

abbrev pub received_octets : Received → List ℕ
received_octets (piece octets) = octets
received_octets received = []

abbrev pub octets_given : List LinkAnswer → List ℕ
octets_given answers = flat_map (λ (answer : LinkAnswer). received_octets answer.received) answers
