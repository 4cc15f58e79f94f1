-- What a seat is given of orders, over a history that grows.
use Rattle.std.proofs.Common.{◌≡◌, ℕ, ◌==◌, Bool, true, false, List, [], ◌∷◌, ◌++◌, map, reverse}
use Rattle.std.proofs.Common.{refl, sym, ap, ◌∙◌, append_assoc, eq-eqb}
use Rattle.std.specs.Prelude.{if◌then◌else◌}
use Rattle.std.proofs.lemmas.List.{append-nil, map-append, reverse-append}
use Rattle.bilateral.specs.Rows.{CentreRows}
use Rattle.sbo_device.specs.declared.order.Order.{Order}
use Rattle.tase_views.specs.declared.event.EventKind.{EventKind}
use Rattle.tase_views.specs.declared.event.EventKind.TheVariants.{TakeOrders}
use Rattle.tase_views.specs.Moves.{sort_of}
use Rattle.tase_views.specs.History.{Past}
use Rattle.tase_views.specs.OwnTables.{own_tables}
use Rattle.tase_views.specs.View.{moves_in}
use Rattle.tase_views.specs.Orders.{orders_left}
use Rattle.share_turn.specs.Entries.{own, Keeps}
use Rattle.share_turn.proofs.Owned.{own_append, none_both}
use Rattle.node_server.specs.Turn.Logged.{logged_entry, past_in}
use Rattle.node_server.specs.NodeCalls.{NodeLog}
use Rattle.server_main.specs.Plant.PlantHistory.{given_by, given_at, orders_given}

-- one entry more
pub past-push : (log : NodeLog) (e : ℕ × EventKind)
    → past_in (log ++ e ∷ []) ≡ logged_entry e ∷ past_in log
past-push log e = ap reverse (map-append logged_entry log (e ∷ []))
    ∙ reverse-append (map logged_entry log) (logged_entry e ∷ [])

none_added : (xs ys : List EventKind) → xs ++ ys ≡ xs → ys ≡ []
none_added [] ys e = e
none_added (x ∷ xs) ys e = none_added xs ys (cc e)

module _ (rows : CentreRows) (who : ℕ) where
  -- of another seat's entry it is given nothing
  quiet : (e : ℕ × EventKind) (past : Past) → own who (e ∷ []) ≡ []
      → given_at rows who (logged_entry e) past ≡ []
  quiet e past none = by (e.0 == who) none
    where
      by : (b : Bool) → map (λ (x : ℕ × EventKind). x.1) (if b then e ∷ [] else []) ≡ []
          → (if b then given_by (sort_of e.1)
          (orders_left rows (own_tables rows) (moves_in past)) else []) ≡ []
      by true none = absurd cc
      by false none = refl

  given-push : (log : NodeLog) (e : ℕ × EventKind) → own who (e ∷ []) ≡ []
      → orders_given rows who (past_in (log ++ e ∷ [])) ≡ orders_given rows who (past_in log)
  given-push log e none = ap (orders_given rows who) (past-push log e)
      ∙ ap (λ (os : List Order). orders_given rows who (past_in log) ++ os)
      (quiet e (past_in log) none)
      ∙ append-nil (orders_given rows who (past_in log))

  given-others : (rest front : NodeLog) → own who rest ≡ []
      → orders_given rows who (past_in (front ++ rest)) ≡ orders_given rows who (past_in front)
  given-others [] front none =
      ap (λ (l : NodeLog). orders_given rows who (past_in l)) (append-nil front)
  given-others (e ∷ rest) front none =
      let both = none_both who (e ∷ []) rest none in
      ap (λ (l : NodeLog). orders_given rows who (past_in l))
      (sym (append_assoc front (e ∷ []) rest))
      ∙ given-others rest (front ++ e ∷ []) both.1 ∙ given-push front e both.0

  -- entries of others give it nothing
  pub given-kept : (front log : NodeLog) → Keeps log (who, front)
      → orders_given rows who (past_in log) ≡ orders_given rows who (past_in front)
  given-kept front log keeps =
      let rest = keeps.0.0 in
      let seen : front ++ rest ≡ log = keeps.0.1 in
      let none : own who rest ≡ [] = none_added (own who front) (own who rest)
      (sym (own_append who front rest) ∙ (ap (own who) seen ∙ keeps.1)) in
      ap (λ (l : NodeLog). orders_given rows who (past_in l)) (sym seen)
      ∙ given-others rest front none

  -- where it takes orders, it is given those that are left
  pub given-taken : (log : NodeLog)
      → orders_given rows who (past_in (log ++ (who, TakeOrders) ∷ []))
      ≡ orders_given rows who (past_in log)
      ++ orders_left rows (own_tables rows) (moves_in (past_in log))
  given-taken log = ap (orders_given rows who) (past-push log (who, TakeOrders))
      ∙ ap (λ (b : Bool). orders_given rows who (past_in log)
      ++ (if b then orders_left rows (own_tables rows) (moves_in (past_in log)) else []))
      (eq-eqb who who refl)
