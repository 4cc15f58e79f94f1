-- A connection that has ended leaves no association of its seat open.
use Rattle.std.proofs.Common.{◌≡◌, ℕ, Bool, true, false, List, [], ◌∷◌, Option, Some, None}
use Rattle.std.proofs.Common.{refl, ⊎_elim, filter}
use Rattle.std.specs.Prelude.{option_and_then, slice_get, if◌then◌else◌}
use Rattle.std.specs.List.{list_any}
use Rattle.std.proofs.lemmas.Option.{none-some}
use Rattle.bilateral.specs.Rows.{CentreRows}
use Rattle.tase_views.specs.Setup.{Setup}
use Rattle.tase_views.specs.History.{Past, association_in}
use Rattle.tase_conn.specs.Map.Inputs.{Item, IsLinkInput, text_given}
use Rattle.tase_conn.specs.Map.Readings.{reading_of}
use Rattle.tase_conn.specs.Map.Turns.{Turn, turns_of}
use Rattle.tase_conn.specs.Map.Asks.{is_last}
use Rattle.tase_conn.proofs.OfMap.Unrefused.{shut_seat}
use Rattle.tase_conn.specs.declared.stage.ConnEnd.{ConnEnd}
use Rattle.tase_conn.specs.PeerEnd.{last_turn, end_at}
use Rattle.conn_service.specs.Sends.{Sends, IsAllTaken, IsCutOff}

-- one of them passes the test, where the first that does is found
found_by : {X : Type 0} (test : X → Bool) (y : X) (xs : List X) (x : X) (b : Bool) → test y ≡ b
    → (slice_get (filter test xs) 0 ≡ Some x → list_any test xs ≡ true)
    → slice_get (if b then y ∷ filter test xs else filter test xs) 0 ≡ Some x
    → list_any test (y ∷ xs) ≡ true
found_by test y xs x true t more e = rw t refl
found_by test y xs x false t more e = rw t (more e)

any_found : {X : Type 0} (test : X → Bool) (xs : List X) (x : X)
    → slice_get (filter test xs) 0 ≡ Some x → list_any test xs ≡ true
any_found test [] x e = absurd (none-some x e)
any_found test (y ∷ xs) x e = found_by test y xs x (test y) refl (any_found test xs x) e

-- where the peer has ended the connection, something has come behind which nothing follows
came_by : (rows : CentreRows) (items : List Item) (end : ConnEnd) (found : Option Turn)
    → last_turn rows (turns_of items) ≡ found
    → option_and_then (end_at (reading_of (text_given items)).broken) found ≡ Some end
    → list_any (is_last rows) (turns_of items) ≡ true
came_by rows items end None f e = absurd (none-some end e)
came_by rows items end (Some turn) f e = any_found (is_last rows) (turns_of items) turn f

taken_closed : (setup : Setup) (past : Past) (who : ℕ) (items : List Item) (end : ConnEnd)
    → IsLinkInput items → IsAllTaken setup past who items (Some end)
    → association_in past who ≡ None
taken_closed setup past who items end i t =
    shut_seat setup.centre past who items i
    (came_by setup.centre items end (last_turn setup.centre (turns_of items)) refl t.by_peer)
    t.events

pub ended_closed : (setup : Setup) (past : Past) (who : ℕ) (items : List Item) (end : ConnEnd)
    (octets : List ℕ) → IsLinkInput items → Sends setup past who items (Some end) octets
    → association_in past who ≡ None
ended_closed setup past who items end octets i s = ⊎_elim
    (λ (t : IsAllTaken setup past who items (Some end)). taken_closed setup past who items end i t)
    (λ (c : (cut : ConnEnd) × (Some end ≡ Some cut) × IsCutOff setup past who items cut).
    c.2.none_open) s.events
