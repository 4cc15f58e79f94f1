-- Answers of recv that come in turn, and others that don't; what may wait at an end.
use Rattle.std.proofs.Common.{◌≡◌, ℕ, Bool, true, false, List, [], ◌∷◌, Some, None, refl, inl, inr}
use Rattle.std.proofs.Common.{lit<, lit≤, arith}
use Rattle.std.proofs.lemmas.Bool.{false≢true}
use Rattle.bilateral.specs.Rows.{CentreRows}
use Rattle.outside.specs.Links.LinkAnswers.{piece, idle, LinkAnswer, LinkAnswers}
use Rattle.outside.specs.Links.Links.{LinkTold}
use Rattle.tase_conn.specs.Map.Inputs.{piece as piece_item, idle as idle_item}
use Rattle.tase_conn.specs.declared.stage.ConnEnd.TheVariants.{Overflow, Full, Stopped}
use Rattle.node_server.specs.NodeCalls.{NodeCall, AsksStop}
use Rattle.node_server.specs.Links.GivenItems.{items_of}
use Rattle.node_server.specs.Links.ServedLinks.{HasTaken, WaitAtEnd, StopsIfFull, limit_over}

abbrev behind_sends : ℕ → Bool → LinkAnswer
behind_sends sent nothing = record { received = idle; sent = sent; after_nothing = nothing }

-- ten octets were taken before, and five are due: all were taken
all_row : HasTaken 10 5 0 (behind_sends 15 false)
all_row = inl refl

-- the link took two and no more, and three may wait
some_row : HasTaken 10 5 3 (behind_sends 12 true)
some_row = inr (refl, lit≤ tt)

-- it would take more
early_row : HasTaken 10 5 3 (behind_sends 12 false) → ⊥
early_row (inl all) = absurd (omega (arith, all))
early_row (inr some) = absurd (false≢true some.0)

-- two may wait
over_row : HasTaken 10 5 2 (behind_sends 12 true) → ⊥
over_row (inl all) = absurd (omega (arith, all))
over_row (inr some) = absurd (omega (arith, some.1))

given_row : items_of (record { received = piece (7 ∷ []); sent = 0; after_nothing = false }
    ∷ behind_sends 0 false ∷ []) ≡ piece_item (7 ∷ []) ∷ idle_item ∷ []
given_row = refl

-- before an association is open
limit_row : (rows : CentreRows) (who : ℕ) → limit_over rows [] who ≡ 1048576
limit_row rows who = refl

abbrev full_link : LinkTold
full_link = record {
  hearing = None;
  taken = None;
  refused = Some (Some true);
  heard = Some (Some false);
  closing = None;
  is_closed = false;
  faults = 0;
  name = [];
}

abbrev full_answers : LinkAnswers
full_answers = record { answers = []; sent = 12; after_nothing = true }

overflow_row : WaitAtEnd (Overflow 3 2) 2 full_link full_answers (1 ∷ 2 ∷ 3 ∷ [])
overflow_row = (refl, refl, lit< tt, (refl, refl), refl)

stop_row : (calls : List NodeCall) → StopsIfFull (Full 9 8) calls ≡ AsksStop calls
stop_row calls = refl

no_stop_row : StopsIfFull Stopped []
no_stop_row = refl
