-- What is watched of each entry of a history shows what its moves show.
use Rattle.std.proofs.Common.{◌≡◌, ℕ, ◌==◌, if◌then◌else◌, Bool, true, false, List, [], ◌∷◌, ◌++◌}
use Rattle.std.proofs.Common.{map, Option, Some, None, refl, sym, ap, ◌∙◌, subst, append_assoc}
use Rattle.std.proofs.Common.{append-nil}
use Rattle.std.proofs.lemmas.Bool.{eqb-true}
use Rattle.std.proofs.lemmas.Option.{same_Some}
use Rattle.bilateral.specs.Rows.{CentreRows}
use Rattle.sbo_device.specs.declared.key.Key.{Key}
use Rattle.tase_views.specs.Moves.{Act, Move, acts, EventSort, sort_of, opening, requesting, taking}
use Rattle.tase_views.specs.Moves.{closing, taking_orders, feeding, moves_of}
use Rattle.tase_views.specs.History.{Past, key_at}
use Rattle.tase_views.specs.OwnTables.{own_tables}
use Rattle.tase_views.specs.View.{own, View, moves_in, view_of, seen_in}
use Rattle.tase_views.proofs.Seen.{view_of-entry, seen_own}
use Rattle.tase_audit.specs.Watching.{OwnEntry, open_entry, call_entry, take_entry, close_entry}
use Rattle.tase_audit.specs.Watching.{WatchItem, own_item, seen_item, entry_as, own_by, items_or}
use Rattle.tase_audit.specs.Watching.{items_at, watch_of, acts_of_entry, view_of_item}
use Rattle.tase_audit.specs.Watching.{view_of_items}

items_joined : (xs ys : List WatchItem)
    → view_of_items (xs ++ ys) ≡ view_of_items xs ++ view_of_items ys
items_joined [] ys = refl
items_joined (x ∷ xs) ys =
    ap (λ (v : View). view_of_item x ++ v) (items_joined xs ys)
    ∙ sym (append_assoc (view_of_item x) (view_of_items xs) (view_of_items ys))

-- items of what is seen are the view that they were made of
seen_again : (view : View) → view_of_items (map seen_item view) ≡ view
seen_again [] = refl
seen_again (seen ∷ view) = ap (λ (v : View). seen ∷ v) (seen_again view)

-- the moves of an event that is an entry of an association
own_moves : (sort : EventSort) (key : Key) (entry : OwnEntry) → entry_as sort ≡ Some entry
    → map (acts key) (acts_of_entry entry) ≡ moves_of sort (Some key)
own_moves (opening peer) key entry e =
    ap (λ (o : OwnEntry). map (acts key) (acts_of_entry o)) (sym (same_Some open_entry entry e))
own_moves (requesting call) key entry e =
    ap (λ (o : OwnEntry). map (acts key) (acts_of_entry o))
    (sym (same_Some (call_entry call) entry e))
own_moves taking key entry e =
    ap (λ (o : OwnEntry). map (acts key) (acts_of_entry o)) (sym (same_Some take_entry entry e))
own_moves closing key entry e =
    ap (λ (o : OwnEntry). map (acts key) (acts_of_entry o)) (sym (same_Some close_entry entry e))
own_moves taking_orders key entry e = absurd cc
own_moves (feeding move) key entry e = absurd cc

module _ (rows : CentreRows) (peer : ℕ) (before : List Move) where
  acts_shown : (key : Key) (these : List Act) → key.peer ≡ peer
      → seen_in rows (own_tables rows) peer before (map (acts key) these)
      ≡ map (own key.ordinal) these
  acts_shown key these same =
      subst
      (λ (p : ℕ). seen_in rows (own_tables rows) p before (map (acts key) these)
      ≡ map (own key.ordinal) these) same (seen_own rows (own_tables rows) key before these)

  own_shows : (key : Key) (sort : EventSort) (entry : OwnEntry) (mine : Bool)
      → (key.peer == peer) ≡ mine → entry_as sort ≡ Some entry
      → view_of_items
      (items_or (if mine then Some (own_item key.ordinal entry) else None)
      (seen_in rows (own_tables rows) peer before (moves_of sort (Some key))))
      ≡ seen_in rows (own_tables rows) peer before (moves_of sort (Some key))
  own_shows key sort entry false test e =
      seen_again (seen_in rows (own_tables rows) peer before (moves_of sort (Some key)))
  own_shows key sort entry true test e =
      append-nil (map (own key.ordinal) (acts_of_entry entry))
      ∙ sym (acts_shown key (acts_of_entry entry) (eqb-true key.peer peer test))
      ∙ ap (λ (m : List Move). seen_in rows (own_tables rows) peer before m)
      (own_moves sort key entry e)

  items_show : (key : Option Key) (sort : EventSort)
      → view_of_items
      (items_or (own_by peer key (entry_as sort))
      (seen_in rows (own_tables rows) peer before (moves_of sort key)))
      ≡ seen_in rows (own_tables rows) peer before (moves_of sort key)
  items_show None sort =
      seen_again (seen_in rows (own_tables rows) peer before (moves_of sort None))
  items_show (Some key) (opening opener) =
      own_shows key (opening opener) open_entry (key.peer == peer) refl refl
  items_show (Some key) (requesting call) =
      own_shows key (requesting call) (call_entry call) (key.peer == peer) refl refl
  items_show (Some key) taking = own_shows key taking take_entry (key.peer == peer) refl refl
  items_show (Some key) closing = own_shows key closing close_entry (key.peer == peer) refl refl
  items_show (Some key) taking_orders =
      seen_again (seen_in rows (own_tables rows) peer before (moves_of taking_orders (Some key)))
  items_show (Some key) (feeding move) =
      seen_again (seen_in rows (own_tables rows) peer before (moves_of (feeding move) (Some key)))

-- what is watched of a history shows what the peer sees of it
pub watch_shows : (rows : CentreRows) (peer : ℕ) (past : Past)
    → view_of_items (watch_of rows peer past) ≡ view_of rows peer past
watch_shows rows peer [] = refl
watch_shows rows peer (entry ∷ past) =
    items_joined (items_at rows peer past entry) (watch_of rows peer past)
    ∙ ap (λ (v : View). v ++ view_of_items (watch_of rows peer past))
    (items_show rows peer (moves_in past) (key_at entry.event past entry.who)
    (sort_of entry.event))
    ∙ ap
    (λ (v : View).
    seen_in rows (own_tables rows) peer (moves_in past)
    (moves_of (sort_of entry.event) (key_at entry.event past entry.who)) ++ v)
    (watch_shows rows peer past)
    ∙ sym (view_of-entry rows peer past entry)
