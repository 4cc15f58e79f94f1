-- The reports that are pending for an open association are alike by the table in force, which is
-- that with which they were made.
use Rattle.std.proofs.Common.{◌≤◌}
use Rattle.tase_views.specs.OwnTables.{OwnTables}
use Rattle.tase_views.specs.View.{held, seen_in}
use Rattle.tase_resume.proofs.KeysAlike.{raised_in}
use Rattle.std.proofs.Common.{◌≡◌, ℕ, ◌+◌, true, List, [], ◌∷◌, ◌++◌, map, Option, Some}
use Rattle.std.proofs.Common.{None, refl, sym, ap, subst, ◌∙◌, inl, arith}
use Rattle.std.proofs.lemmas.Bool.{false≢true}
use Rattle.bilateral.specs.Rows.{CentreRows, IsCentre}
use Rattle.sbo_device.specs.declared.key.Key.{Key}
use Rattle.tase_views.specs.Moves.{Move}
use Rattle.tase_views.specs.History.{Past, association_in, opens_in}
use Rattle.tase_views.specs.OwnTables.{own_tables}
use Rattle.tase_views.specs.View.{View, moves_in, view_of, view_by}
use Rattle.tase_views.specs.Reports.{reports_pending}
use Rattle.tase_views.proofs.Seen.{view_by-append}
use Rattle.tase_views.specs.Lived.{IsLived}
use Rattle.tase_resume.specs.Recounted.{Gap, AreReportsRecounted, asker}
use Rattle.tase_resume.proofs.RaisedHolds.{Offsets, raised_key}
use Rattle.tase_resume.proofs.Like.{raised, IsLike}
use Rattle.tase_resume.proofs.KeysAlike.{moves_behind, moves_are, moves_raised, new_moves}
use Rattle.tase_resume.proofs.PeerOffsets.{offsets_seen}
use Rattle.tase_resume.proofs.ViewsAlike.{seen_alike}
use Rattle.tase_resume.proofs.Selectable.{selectable}
use Rattle.tase_resume.proofs.StepAlike.{like_behind_all}
use Rattle.tase_views.specs.Moves.{opens, takes, closes, reads, writes, defines, deletes, calls}
use Rattle.tase_views.specs.Moves.{acts, updates, tags, ticks, asks, chooses, takes_orders, stops}
use Rattle.tase_views.specs.OwnTables.{OwnTable}
use Rattle.tase_views.specs.View.{Seen, held_in, seen_by}
use Rattle.std.specs.List.{cons_option}
use Rattle.std.proofs.Common.{inr, ◌⊎◌, ⊎_elim}
use Rattle.tase_views.proofs.OpenKeys.{among, is_open, AreOrderly, held_stays}
use Rattle.tase_views.proofs.Seated.{orderly, seat_open}
use Rattle.tase_views.proofs.InForce.{held-seen}
use Rattle.tase_resume.proofs.Closing.{behind_open, behind_close}
use Rattle.tase_resume.proofs.Settled.{none_open}
use Rattle.tase_resume.proofs.KeysAlike.{AreNew}
use Rattle.tase_resume.proofs.SeenOrder.{orderly_alike}
use Rattle.tase_resume.proofs.Fresh.{none_pending}
use Rattle.tase_resume.proofs.PendingAlike.{pending_seen}
use Rattle.tase_resume.proofs.CountedMoves.{opens_of, AreCounted, counted_moves, counted_behind}
use Rattle.tase_resume.proofs.CountedMoves.{counted_fresh}
use Rattle.tase_resume.proofs.Resumed.{IsWarm, start, forces, view_is, other_view_is, lived_alike}

-- behind a move an association is open that was, or that the move opens
behind_any : (move : Move) (before : List Move) (key : Key)
    → is_open (move ∷ before) key ≡ true
    → (move ≡ acts key opens) ⊎ (is_open before key ≡ true)
behind_any (acts by opens) before key there =
    ⊎_elim (λ same. inl (ap (λ (k : Key). acts k opens) same)) (λ old. inr old)
    (behind_open by key before there)
behind_any (acts by closes) before key there = inr (behind_close by key before there).0
behind_any (acts by takes) before key there = inr there
behind_any (acts by (reads name)) before key there = inr there
behind_any (acts by (writes name value)) before key there = inr there
behind_any (acts by (defines set members)) before key there = inr there
behind_any (acts by (deletes set)) before key there = inr there
behind_any (acts by (calls call)) before key there = inr there
behind_any (updates point value) before key there = inr there
behind_any (tags device tag) before key there = inr there
behind_any (ticks now) before key there = inr there
behind_any (asks asker slot) before key there = inr there
behind_any (chooses chooser variant) before key there = inr there
behind_any takes_orders before key there = inr there
behind_any stops before key there = inr there

orderly_behind : (move : Move) (before : List Move) → AreOrderly (move ∷ before)
    → AreOrderly before
orderly_behind (acts key opens) before these = these
orderly_behind (acts key closes) before these = these.1
orderly_behind (acts key takes) before these = these.1
orderly_behind (acts key (reads item)) before these = these.1
orderly_behind (acts key (writes item value)) before these = these.1
orderly_behind (acts key (defines set members)) before these = these.1
orderly_behind (acts key (deletes set)) before these = these.1
orderly_behind (acts key (calls call)) before these = these.1
orderly_behind (updates point value) before these = these
orderly_behind (tags device tag) before these = these
orderly_behind (ticks now) before these = these
orderly_behind (asks asker slot) before these = these
orderly_behind (chooses peer variant) before these = these
orderly_behind takes_orders before these = these
orderly_behind stops before these = these

new_behind : (rows : CentreRows) (past : Past)
    (free : (who : ℕ) → association_in past who ≡ None) (move : Move) (moves : List Move)
    → AreNew rows past free (move ∷ moves) → AreNew rows past free moves
new_behind rows past free (acts key act) moves new = new.1
new_behind rows past free (updates point value) moves new = new
new_behind rows past free (tags device tag) moves new = new
new_behind rows past free (ticks now) moves new = new
new_behind rows past free (asks peer slot) moves new = new
new_behind rows past free (chooses peer variant) moves new = new
new_behind rows past free takes_orders moves new = new
new_behind rows past free stops moves new = new

-- an association that a move opens has the number of the opens before
opened_count : (rows : CentreRows) (move : Move) (key : Key) (before : List Move)
    → move ≡ acts key opens → AreCounted rows (move ∷ before)
    → key.ordinal ≡ opens_of key.peer before
opened_count rows move key before is counted =
    (subst (λ (m : Move). AreCounted rows (m ∷ before)) is counted).0

module _ (rows : CentreRows) (lawful : IsCentre rows) (off : Offsets) (gap : Gap)
    (one other : Past) (warm : IsWarm rows off gap one other) (peer n : ℕ) where
  abbrev key : Key
  key = record { peer = peer; ordinal = n }

  abbrev tables : OwnTables
  tables = own_tables rows peer

  -- what is seen of moves behind each
  abbrev seen_behind : List Move → View
  seen_behind moves = seen_in rows (own_tables rows) peer (moves_in other) moves

  abbrev one_view : List Move → View
  one_view moves =
      map (raised (offsets_seen rows peer off)) (seen_behind moves) ++ view_of rows peer one

  abbrev other_view : List Move → View
  other_view moves = seen_behind moves ++ view_of rows peer other

  other_is : (moves : List Move)
      → view_by rows (own_tables rows) peer (moves ++ moves_in other) ≡ other_view moves
  other_is moves = view_by-append rows (own_tables rows) peer moves (moves_in other)

  one_is : (moves : List Move) → AreNew rows other warm.both.other_free moves
      → view_by rows (own_tables rows) peer (map (raised_in off) moves ++ moves_in one)
      ≡ one_view moves
  one_is moves new =
      view_by-append rows (own_tables rows) peer (map (raised_in off) moves) (moves_in one)
      ∙ ap (λ (v : View). v ++ view_of rows peer one)
      (seen_alike rows lawful (own_tables rows) off peer other warm.both.other_free (moves_in one)
      (moves_in other) (forces rows lawful off gap one other warm) moves new)

  like_at : (moves : List Move)
      → IsLike (own_tables rows peer) (offsets_seen rows peer off) gap (opens_in other peer)
      (one_view moves) (other_view moves)
  like_at moves =
      like_behind_all (own_tables rows peer) (offsets_seen rows peer off) gap
      (opens_in other peer) (selectable rows peer lawful) (seen_behind moves)
      (view_of rows peer one) (view_of rows peer other)
      (start rows lawful off gap one other warm peer)

  held_at : (moves : List Move)
      → held tables (other_view moves)
      ≡ held_in rows (own_tables rows) (moves ++ moves_in other) peer
  held_at moves =
      ap (held tables) (sym (other_is moves))
      ∙ held-seen rows (own_tables rows) peer (moves ++ moves_in other)

  -- nothing is pending where it is yet to be opened
  none_yet : (k : ℕ) (moves : List Move) (view : View)
      → view_by rows (own_tables rows) peer moves ≡ view → opens_of peer moves ≤ k
      → AreCounted rows moves → AreOrderly moves → reports_pending tables view k ≡ []
  none_yet k moves view is yet counted these =
      subst (λ (v : View). reports_pending tables v k ≡ []) is
      (none_pending tables k (view_by rows (own_tables rows) peer moves)
      (counted_fresh rows (own_tables rows) peer k moves lawful yet counted)
      (orderly_alike rows (own_tables rows) peer moves these))

  abbrev AreRecountedAt : OwnTable → View → View → Type 0
  AreRecountedAt table v w =
      AreReportsRecounted table gap (reports_pending tables v (n + off peer))
      (reports_pending tables w n)

  one_move : (found : Option Seen) (moves : List Move) (table : OwnTable)
      → held tables (other_view moves) ≡ table
      → AreRecountedAt (held tables (other_view moves)) (one_view moves) (other_view moves)
      → AreRecountedAt table
      (map (raised (offsets_seen rows peer off)) (cons_option found (seen_behind moves))
      ++ view_of rows peer one)
      (cons_option found (seen_behind moves) ++ view_of rows peer other)
  one_move None moves table is before =
      subst (λ (t : OwnTable). AreRecountedAt t (one_view moves) (other_view moves)) is before
  one_move (Some move) moves table is before =
      subst (λ (t : OwnTable). AreRecountedAt t
      (raised (offsets_seen rows peer off) move ∷ one_view moves) (move ∷ other_view moves)) is
      (pending_seen tables (offsets_seen rows peer off) gap (opens_in other peer)
      (one_view moves) (other_view moves) (like_at moves) (selectable rows peer lawful) n before
      move)

  pending_at : (moves : List Move) → AreNew rows other warm.both.other_free moves
      → AreOrderly (moves ++ moves_in other)
      → AreOrderly (map (raised_in off) moves ++ moves_in one)
      → AreCounted rows (moves ++ moves_in other)
      → AreCounted rows (map (raised_in off) moves ++ moves_in one)
      → is_open (moves ++ moves_in other) key ≡ true
      → AreRecountedAt (held tables (other_view moves)) (one_view moves) (other_view moves)
  pending_at [] new here there counted also open_now =
      absurd (false≢true (sym (ap (among n)
      (none_open rows other warm.other_lived warm.both.other_free peer)) ∙ open_now))
  pending_at (move ∷ moves) new here there counted also open_now =
      let before = moves ++ moves_in other in
      let first = map (raised_in off) moves ++ moves_in one in
      let newer = new_behind rows other warm.both.other_free move moves new in
      let stays : held tables (other_view moves)
      ≡ held tables (other_view (move ∷ moves)) =
      held_at moves
      ∙ sym (held_stays rows (own_tables rows) before move key here open_now)
      ∙ sym (held_at (move ∷ moves)) in
      one_move (seen_by rows (own_tables rows) peer before move) moves
      (held tables (other_view (move ∷ moves))) stays
      (⊎_elim
      (λ opened. both_none opened)
      (λ old. pending_at moves newer (orderly_behind move before here)
      (orderly_behind (raised_in off move) first there) (counted_behind rows move before counted)
      (counted_behind rows (raised_in off move) first also) old)
      (behind_any move before key open_now))
    where
      both_none : move ≡ acts key opens
          → AreRecountedAt (held tables (other_view moves)) (one_view moves) (other_view moves)
      both_none opened =
          let before = moves ++ moves_in other in
          let first = map (raised_in off) moves ++ moves_in one in
          let newer = new_behind rows other warm.both.other_free move moves new in
          let count = opened_count rows move key before opened counted in
          let raised_count = opened_count rows (raised_in off move) (raised_key off key) first
          (ap (raised_in off) opened) also in
          let second_none : reports_pending tables (other_view moves) n ≡ [] =
          none_yet n before (other_view moves) (other_is moves) (omega (arith, count))
          (counted_behind rows move before counted) (orderly_behind move before here) in
          let first_none : reports_pending tables (one_view moves) (n + off peer) ≡ [] =
          none_yet (n + off peer) first (one_view moves) (one_is moves newer)
          (omega (arith, raised_count)) (counted_behind rows (raised_in off move) first also)
          (orderly_behind (raised_in off move) first there) in
          rw (first_none, second_none) refl

-- of an association that a seat has
pub held_reports : (rows : CentreRows) (lawful : IsCentre rows) (off : Offsets) (gap : Gap)
    (one other : Past) (warm : IsWarm rows off gap one other) (later : Past) (who : ℕ) (key : Key)
    → IsLived rows (later ++ other) → association_in (later ++ other) who ≡ Some key
    → AreReportsRecounted
    (held (own_tables rows key.peer) (view_of rows key.peer (later ++ other))) gap
    (reports_pending (own_tables rows key.peer) (view_of rows key.peer (later ++ one))
    (key.ordinal + off key.peer))
    (reports_pending (own_tables rows key.peer) (view_of rows key.peer (later ++ other))
    key.ordinal)
held_reports rows lawful off gap one other warm later who key lived is =
    let moves = moves_behind later other in
    let here = moves_are later other in
    let there = moves_are later one
    ∙ ap (λ (m : List Move). m ++ moves_in one) (moves_raised off one other warm.both later) in
    let both = pending_at rows lawful off gap one other warm key.peer key.ordinal moves
    (new_moves rows other warm.both.other_free later lived)
    (subst AreOrderly here (orderly (later ++ other)))
    (subst AreOrderly there (orderly (later ++ one)))
    (subst (AreCounted rows) here (counted_moves rows (later ++ other) lived))
    (subst (AreCounted rows) there (counted_moves rows (later ++ one)
    (lived_alike rows lawful off gap one other warm later lived)))
    (subst (λ (m : List Move). is_open m key ≡ true) here (seat_open (later ++ other) who key is))
    in
    let v_is = view_is rows lawful off gap one other warm key.peer later lived in
    let w_is = other_view_is rows lawful off gap one other warm key.peer later in
    subst (λ (w : View). AreReportsRecounted (held (own_tables rows key.peer) w) gap
    (reports_pending (own_tables rows key.peer) (view_of rows key.peer (later ++ one))
    (key.ordinal + off key.peer))
    (reports_pending (own_tables rows key.peer) w key.ordinal)) (sym w_is)
    (subst (λ (v : View). AreReportsRecounted
    (held (own_tables rows key.peer)
    (seen_in rows (own_tables rows) key.peer (moves_in other) (moves_behind later other)
    ++ view_of rows key.peer other)) gap
    (reports_pending (own_tables rows key.peer) v (key.ordinal + off key.peer))
    (reports_pending (own_tables rows key.peer)
    (seen_in rows (own_tables rows) key.peer (moves_in other) (moves_behind later other)
    ++ view_of rows key.peer other) key.ordinal)) (sym v_is) both)
