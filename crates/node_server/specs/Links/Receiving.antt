-- What receiving does to a connection and its link.
use Rattle.std.specs.Prelude.{◌≡◌, Bool, true, false, [], ◌∷◌}
use Rattle.outside.specs.Links.LinkAnswers.{Received, LinkAnswers, next_answer, with_answer}
use Rattle.outside.specs.Links.Links.{LinkTold}
use Rattle.tase_conn.specs.Map.Inputs.{Item}
use Rattle.tase_conn.specs.Talking.{Talking}
use Rattle.tase_conn.specs.Places.{GainsItem}
use Rattle.tase_conn.specs.Taken.{TakesIn}
use Rattle.node_server.specs.Links.GivenItems.{items_given}
use Rattle.node_server.specs.Links.LinkUses.{UsesLink}
use Rattle.node_server.specs.declared.links.receiving.Intake.{Intake}
use Rattle.node_server.specs.declared.links.receiving.Intake.TheVariants.{Taken, Memory, Failed}

abbrev pub is_failed_intake : Intake → Bool
is_failed_intake Taken = false
is_failed_intake Memory = false
is_failed_intake Failed = true

-- the item was taken in; or memory was wanting for it; or the link has failed, and gave none
abbrev pub IsTakenIn : Intake → Received → Talking → Talking → Type 0
IsTakenIn Taken received old new = (item : Item) × (items_given received ≡ item ∷ [])
    × GainsItem item old new × TakesIn old new
IsTakenIn Memory received old new =
    (item : Item) × (items_given received ≡ item ∷ []) × (new ≡ old)
IsTakenIn Failed received old new = (items_given received ≡ []) × (new ≡ old)

-- recv gave one answer more, of a link that had heard so much, and what it gave was taken in
pub record ReceivesOnce (before after : LinkTold) (first : LinkAnswers) (old new : Talking)
    (intake : Intake) : Type 0 where
  pub received : Received
  pub uses : UsesLink before after first (with_answer received first)
      (next_answer received first ∷ []) [] (is_failed_intake intake)
  pub taken_in : IsTakenIn intake received old new
