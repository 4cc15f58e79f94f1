-- What a node answers a peer's associations at each entry of a history comes of what is watched.
use Rattle.std.proofs.Common.{◌≡◌, ℕ, ◌==◌, if◌then◌else◌, Bool, true, false, List, [], ◌∷◌, ◌++◌}
use Rattle.std.proofs.Common.{map, Option, Some, None, refl, sym, ap, ◌∙◌, subst, append-nil}
use Rattle.std.proofs.lemmas.Bool.{eqb-true}
use Rattle.std.proofs.lemmas.Option.{same_Some}
use Rattle.bilateral.specs.Rows.{CentreRows}
use Rattle.sbo_device.specs.declared.key.Key.{Key}
use Rattle.tase_views.specs.Setup.{Setup}
use Rattle.tase_views.specs.Moves.{EventSort, sort_of, opening, requesting, taking}
use Rattle.tase_views.specs.Moves.{closing, taking_orders, feeding, moves_of}
use Rattle.tase_views.specs.History.{Past, key_at}
use Rattle.tase_views.specs.OwnTables.{OwnTables, own_tables}
use Rattle.tase_views.specs.View.{View, moves_in, view_of, seen_in}
use Rattle.tase_views.specs.Outcomes.{answer_at, answer_of}
use Rattle.tase_audit.specs.Watching.{OwnEntry, open_entry, call_entry, take_entry, close_entry}
use Rattle.tase_audit.specs.Watching.{WatchItem, own_item, seen_item, entry_as, items_or}
use Rattle.tase_audit.specs.Watching.{items_by, watch_of, view_of_items}
use Rattle.tase_audit.specs.PeerAnswers.{PeerAnswer, answers_of_entry, answers_by, answers_as}
use Rattle.tase_audit.specs.PeerAnswers.{answers_for}
use Rattle.tase_audit.specs.PeerAnswers.{answers_in}
use Rattle.tase_audit.proofs.ViewsWatched.{watch_shows}

-- at what is seen nothing is answered
seen_untold : (tables : OwnTables) (seen : View) (items : List WatchItem)
    → answers_by tables (map seen_item seen ++ items) ≡ answers_by tables items
seen_untold tables [] items = refl
seen_untold tables (s ∷ seen) items =
    append-nil (answers_by tables (map seen_item seen ++ items)) ∙ seen_untold tables seen items

abbrev no_answers : List PeerAnswer
no_answers = []

nothing_either : (mine : Bool) → (if mine then no_answers else no_answers) ≡ no_answers
nothing_either true = refl
nothing_either false = refl

-- what an own entry is answered is the answer to its event
own_told : (rows : CentreRows) (past : Past) (key : Key) (sort : EventSort) (entry : OwnEntry)
    → entry_as sort ≡ Some entry
    → answers_of_entry (own_tables rows key.peer) (view_of rows key.peer past) key.ordinal entry
    ≡ answers_as key.ordinal (answer_at rows past sort (Some key))
own_told rows past key (opening opener) entry e =
    ap (answers_of_entry (own_tables rows key.peer) (view_of rows key.peer past) key.ordinal)
    (sym (same_Some open_entry entry e))
own_told rows past key (requesting call) entry e =
    ap (answers_of_entry (own_tables rows key.peer) (view_of rows key.peer past) key.ordinal)
    (sym (same_Some (call_entry call) entry e))
own_told rows past key taking entry e =
    ap (answers_of_entry (own_tables rows key.peer) (view_of rows key.peer past) key.ordinal)
    (sym (same_Some take_entry entry e))
own_told rows past key closing entry e =
    ap (answers_of_entry (own_tables rows key.peer) (view_of rows key.peer past) key.ordinal)
    (sym (same_Some close_entry entry e))
own_told rows past key taking_orders entry e = absurd cc
own_told rows past key (feeding move) entry e = absurd cc

module _ (rows : CentreRows) (peer : ℕ) (past : Past) where
  abbrev watched : List WatchItem
  watched = watch_of rows peer past

  peers_told : (key : Key) (sort : EventSort) (entry : OwnEntry) → key.peer ≡ peer
      → entry_as sort ≡ Some entry
      → answers_of_entry (own_tables rows peer) (view_of_items watched) key.ordinal entry
      ≡ answers_as key.ordinal (answer_at rows past sort (Some key))
  peers_told key sort entry same e =
      ap (λ (v : View). answers_of_entry (own_tables rows peer) v key.ordinal entry)
      (watch_shows rows peer past)
      ∙ subst
      (λ (p : ℕ). answers_of_entry (own_tables rows p) (view_of rows p past) key.ordinal entry
      ≡ answers_as key.ordinal (answer_at rows past sort (Some key))) same
      (own_told rows past key sort entry e)

  entry_told : (key : Key) (sort : EventSort) (entry : OwnEntry) (seen : View) (mine : Bool)
      → (key.peer == peer) ≡ mine → entry_as sort ≡ Some entry
      → answers_by (own_tables rows peer)
      (items_or (if mine then Some (own_item key.ordinal entry) else None) seen ++ watched)
      ≡ answers_by (own_tables rows peer) watched
      ++ (if mine then answers_as key.ordinal (answer_at rows past sort (Some key)) else [])
  entry_told key sort entry seen false test e =
      seen_untold (own_tables rows peer) seen watched
      ∙ sym (append-nil (answers_by (own_tables rows peer) watched))
  entry_told key sort entry seen true test e =
      ap (λ (l : List PeerAnswer). answers_by (own_tables rows peer) watched ++ l)
      (peers_told key sort entry (eqb-true key.peer peer test) e)

  -- where nothing is answered
  untold : (seen : View) (others : List PeerAnswer) → others ≡ []
      → answers_by (own_tables rows peer) (map seen_item seen ++ watched)
      ≡ answers_by (own_tables rows peer) watched ++ others
  untold seen others none =
      seen_untold (own_tables rows peer) seen watched
      ∙ sym (append-nil (answers_by (own_tables rows peer) watched))
      ∙ ap (λ (l : List PeerAnswer). answers_by (own_tables rows peer) watched ++ l) (sym none)

  event_told : (key : Option Key) (sort : EventSort)
      → answers_by (own_tables rows peer) (items_by rows peer past key sort ++ watched)
      ≡ answers_by (own_tables rows peer) watched
      ++ answers_for peer key (answer_at rows past sort key)
  event_told None sort =
      untold (seen_in rows (own_tables rows) peer (moves_in past) (moves_of sort None)) [] refl
  event_told (Some key) (opening opener) =
      entry_told key (opening opener) open_entry
      (seen_in rows (own_tables rows) peer (moves_in past) (moves_of (opening opener) (Some key)))
      (key.peer == peer) refl refl
  event_told (Some key) (requesting call) =
      entry_told key (requesting call) (call_entry call)
      (seen_in rows (own_tables rows) peer (moves_in past)
      (moves_of (requesting call) (Some key))) (key.peer == peer) refl refl
  event_told (Some key) taking =
      entry_told key taking take_entry
      (seen_in rows (own_tables rows) peer (moves_in past) (moves_of taking (Some key)))
      (key.peer == peer) refl refl
  event_told (Some key) closing =
      entry_told key closing close_entry
      (seen_in rows (own_tables rows) peer (moves_in past) (moves_of closing (Some key)))
      (key.peer == peer) refl refl
  event_told (Some key) taking_orders =
      untold (seen_in rows (own_tables rows) peer (moves_in past)
      (moves_of taking_orders (Some key))) _ (nothing_either (key.peer == peer))
  event_told (Some key) (feeding move) =
      untold (seen_in rows (own_tables rows) peer (moves_in past)
      (moves_of (feeding move) (Some key))) _ (nothing_either (key.peer == peer))

-- what a peer is answered in a history is what its own tables give for what is watched for it
pub answers_told : (setup : Setup) (peer : ℕ) (past : Past)
    → answers_in setup peer past
    ≡ answers_by (own_tables setup.centre peer) (watch_of setup.centre peer past)
answers_told setup peer [] = refl
answers_told setup peer (entry ∷ past) =
    ap
    (λ (l : List PeerAnswer).
    l ++ answers_for peer (key_at entry.event past entry.who)
    (answer_of setup past entry.who entry.event)) (answers_told setup peer past)
    ∙ sym (event_told setup.centre peer past (key_at entry.event past entry.who)
    (sort_of entry.event))
