-- Among the moves of a history each association is opened once, with the number of the opens before
-- it, and acts behind that.
use Rattle.std.proofs.Common.{◌≡◌, ◌==◌, ℕ, ◌+◌, ◌<◌, ◌≤◌, Bool, true, false, if◌then◌else◌, List}
use Rattle.std.proofs.Common.{[], ◌∷◌, ◌++◌, map, length, Option, Some, None, is_some, refl, sym}
use Rattle.std.proofs.Common.{ap, subst, ◌∙◌, arith}
use Rattle.std.specs.List.{cons_option}
use Rattle.std.proofs.lemmas.Bool.{eqb-true, eq-eqb, ne_eqb, ltb-true}
use Rattle.bilateral.specs.Rows.{CentreRows, IsCentre, table_of, point_of, device_of}
use Rattle.sbo_device.specs.declared.key.Key.{Key}
use Rattle.tase_views.specs.Moves.{Act, opens, takes, closes, reads, writes, defines, deletes}
use Rattle.tase_views.specs.Moves.{calls, EventSort, sort_of, opening, requesting, taking, closing}
use Rattle.tase_views.specs.Moves.{taking_orders, feeding, Move, acts, updates, tags, ticks, asks}
use Rattle.tase_views.specs.Moves.{chooses, takes_orders, stops, moves_of, acts_of_call}
use Rattle.tase_views.specs.History.{Past, counts_opening, opens_in, association_in, key_by}
use Rattle.tase_views.specs.Outcomes.{is_named_there}
use Rattle.tase_views.specs.OwnTables.{Owns, is_point_of, device_named}
use Rattle.tase_views.specs.View.{own, updated, tagged, asked, chose, held_in, other_seen, view_by}
use Rattle.tase_views.specs.View.{moves_in}
use Rattle.tase_views.specs.Lived.{IsLived}
use Rattle.tase_resume.proofs.QuietActs.{IsQuiet, AreQuiet, call_quiet, IsCentres, fed}
use Rattle.tase_resume.proofs.KeysAlike.{name_allows}
use Rattle.tase_resume.proofs.PeerOffsets.{key_numbered}
use Rattle.tase_resume.proofs.Fresh.{AreFresh}
use Rattle.tase_resume.proofs.GivenKeys.{IsKnown, seat_known, fresh_if, other_fresh}

-- how many associations a peer opens among moves
abbrev pub opens_of : ℕ → List Move → ℕ
opens_of peer [] = 0
opens_of peer (acts key opens ∷ moves) = (if key.peer == peer then 1 else 0) + opens_of peer moves
opens_of peer (_ ∷ moves) = opens_of peer moves

abbrev pub AreCounted : CentreRows → List Move → Type 0
AreCounted rows [] = Unit {0}
AreCounted rows (acts key opens ∷ moves) =
    (key.ordinal ≡ opens_of key.peer moves) × (key.peer < length rows.tables)
    × AreCounted rows moves
AreCounted rows (acts key act ∷ moves) =
    (key.ordinal < opens_of key.peer moves) × (key.peer < length rows.tables)
    × AreCounted rows moves
AreCounted rows (_ ∷ moves) = AreCounted rows moves

-- the acts of a call

one_opens : (peer : ℕ) (by : Key) (act : Act) (before : List Move) → IsQuiet act
    → opens_of peer (acts by act ∷ before) ≡ opens_of peer before
one_opens peer by opens before quiet = absurd quiet
one_opens peer by closes before quiet = absurd quiet
one_opens peer by takes before quiet = refl
one_opens peer by (reads name) before quiet = refl
one_opens peer by (writes name value) before quiet = refl
one_opens peer by (defines set members) before quiet = refl
one_opens peer by (deletes set) before quiet = refl
one_opens peer by (calls call) before quiet = refl

quiet_opens : (peer : ℕ) (by : Key) (these : List Act) (before : List Move) → AreQuiet these
    → opens_of peer (map (acts by) these ++ before) ≡ opens_of peer before
quiet_opens peer by [] before quiet = refl
quiet_opens peer by (act ∷ these) before quiet =
    one_opens peer by act (map (acts by) these ++ before) quiet.0
    ∙ quiet_opens peer by these before quiet.1

one_counted : (rows : CentreRows) (by : Key) (act : Act) (before : List Move) → IsQuiet act
    → by.ordinal < opens_of by.peer before → by.peer < length rows.tables
    → AreCounted rows before → AreCounted rows (acts by act ∷ before)
one_counted rows by opens before quiet below there rest = absurd quiet
one_counted rows by closes before quiet below there rest = absurd quiet
one_counted rows by takes before quiet below there rest = (below, there, rest)
one_counted rows by (reads name) before quiet below there rest = (below, there, rest)
one_counted rows by (writes name value) before quiet below there rest = (below, there, rest)
one_counted rows by (defines set members) before quiet below there rest = (below, there, rest)
one_counted rows by (deletes set) before quiet below there rest = (below, there, rest)
one_counted rows by (calls call) before quiet below there rest = (below, there, rest)

quiet_counted : (rows : CentreRows) (by : Key) (these : List Act) (before : List Move)
    → AreQuiet these → by.ordinal < opens_of by.peer before → by.peer < length rows.tables
    → AreCounted rows before → AreCounted rows (map (acts by) these ++ before)
quiet_counted rows by [] before quiet below there rest = rest
quiet_counted rows by (act ∷ these) before quiet below there rest =
    one_counted rows by act (map (acts by) these ++ before) quiet.0
    (subst (λ n. by.ordinal < n) (sym (quiet_opens by.peer by these before quiet.1)) below) there
    (quiet_counted rows by these before quiet.1 below there rest)

-- those of a history

opens_sort : (past : Past) (peer : ℕ) (sort : EventSort) (seat : Option Key) → IsCentres sort
    → opens_of peer (moves_in past) ≡ opens_in past peer
    → opens_of peer (moves_of sort (key_by sort past seat) ++ moves_in past)
    ≡ counts_opening sort peer + opens_in past peer
opens_sort past peer (opening opener) seat centres same =
    ap (λ n. (if opener == peer then 1 else 0) + n) same
opens_sort past peer (requesting call) None centres same = omega (arith, same)
opens_sort past peer (requesting call) (Some key) centres same =
    let quiet = quiet_opens peer key (acts_of_call call) (moves_in past) (call_quiet call) in
    omega (arith, same, quiet)
opens_sort past peer taking None centres same = omega (arith, same)
opens_sort past peer taking (Some key) centres same = omega (arith, same)
opens_sort past peer closing None centres same = omega (arith, same)
opens_sort past peer closing (Some key) centres same = omega (arith, same)
opens_sort past peer taking_orders seat centres same = omega (arith, same)
opens_sort past peer (feeding (acts key act)) seat centres same = absurd centres
opens_sort past peer (feeding (updates point value)) seat centres same = omega (arith, same)
opens_sort past peer (feeding (tags device tag)) seat centres same = omega (arith, same)
opens_sort past peer (feeding (ticks now)) seat centres same = omega (arith, same)
opens_sort past peer (feeding (asks asker slot)) seat centres same = omega (arith, same)
opens_sort past peer (feeding (chooses chooser variant)) seat centres same = omega (arith, same)
opens_sort past peer (feeding takes_orders) seat centres same = omega (arith, same)
opens_sort past peer (feeding stops) seat centres same = omega (arith, same)

opens_same : (past : Past) (peer : ℕ) → opens_of peer (moves_in past) ≡ opens_in past peer
opens_same [] peer = refl
opens_same (entry ∷ past) peer =
    opens_sort past peer (sort_of entry.event) (association_in past entry.who) (fed entry.event)
    (opens_same past peer)

counted_sort : (rows : CentreRows) (past : Past) (sort : EventSort) (seat : Option Key)
    → IsCentres sort → is_named_there rows sort ≡ true
    → ((key : Key) → seat ≡ Some key → IsKnown rows past key)
    → AreCounted rows (moves_in past)
    → AreCounted rows (moves_of sort (key_by sort past seat) ++ moves_in past)
counted_sort rows past (opening peer) seat centres named known rest =
    (sym (opens_same past peer), ltb-true peer (length rows.tables) named, rest)
counted_sort rows past (requesting call) None centres named known rest = rest
counted_sort rows past (requesting call) (Some key) centres named known rest =
    quiet_counted rows key (acts_of_call call) (moves_in past) (call_quiet call)
    (subst (λ n. key.ordinal < n) (sym (opens_same past key.peer)) (known key refl).0)
    (known key refl).1 rest
counted_sort rows past taking None centres named known rest = rest
counted_sort rows past taking (Some key) centres named known rest = (
  subst (λ n. key.ordinal < n) (sym (opens_same past key.peer)) (known key refl).0,
  (known key refl).1,
  rest,
)
counted_sort rows past closing None centres named known rest = rest
counted_sort rows past closing (Some key) centres named known rest = (
  subst (λ n. key.ordinal < n) (sym (opens_same past key.peer)) (known key refl).0,
  (known key refl).1,
  rest,
)
counted_sort rows past taking_orders seat centres named known rest = rest
counted_sort rows past (feeding (acts key act)) seat centres named known rest = absurd centres
counted_sort rows past (feeding (updates point value)) seat centres named known rest = rest
counted_sort rows past (feeding (tags device tag)) seat centres named known rest = rest
counted_sort rows past (feeding (ticks now)) seat centres named known rest = rest
counted_sort rows past (feeding (asks asker slot)) seat centres named known rest = rest
counted_sort rows past (feeding (chooses chooser variant)) seat centres named known rest = rest
counted_sort rows past (feeding takes_orders) seat centres named known rest = rest
counted_sort rows past (feeding stops) seat centres named known rest = rest

pub counted_moves : (rows : CentreRows) (past : Past) → IsLived rows past
    → AreCounted rows (moves_in past)
counted_moves rows [] lived = tt
counted_moves rows (entry ∷ past) lived =
    counted_sort rows past (sort_of entry.event) (association_in past entry.who) (fed entry.event)
    (name_allows rows entry past lived) (λ key is. seat_known rows past entry.who key lived.1 is)
    (counted_moves rows past lived.1)

-- what stands behind one more
pub counted_behind : (rows : CentreRows) (move : Move) (before : List Move)
    → AreCounted rows (move ∷ before) → AreCounted rows before
counted_behind rows (acts key opens) before counted = counted.2
counted_behind rows (acts key takes) before counted = counted.2
counted_behind rows (acts key closes) before counted = counted.2
counted_behind rows (acts key (reads name)) before counted = counted.2
counted_behind rows (acts key (writes name value)) before counted = counted.2
counted_behind rows (acts key (defines set members)) before counted = counted.2
counted_behind rows (acts key (deletes set)) before counted = counted.2
counted_behind rows (acts key (calls call)) before counted = counted.2
counted_behind rows (updates point value) before counted = counted
counted_behind rows (tags device tag) before counted = counted
counted_behind rows (ticks now) before counted = counted
counted_behind rows (asks asker slot) before counted = counted
counted_behind rows (chooses chooser variant) before counted = counted
counted_behind rows takes_orders before counted = counted
counted_behind rows stops before counted = counted

-- an association that is yet to be opened has done nothing that its peer sees

acted_below : (peer n : ℕ) (key : Key) (before : List Move)
    → key.ordinal < opens_of key.peer before → opens_of peer before ≤ n → key.peer ≡ peer
    → key.ordinal < n
acted_below peer n key before below yet same =
    let less : key.ordinal < opens_of peer before =
    subst (λ p. key.ordinal < opens_of p before) same below in
    omega (arith, less, yet)

act_below : (rows : CentreRows) (peer n : ℕ) (key : Key) (act : Act) (before : List Move)
    → AreCounted rows (acts key act ∷ before) → opens_of peer (acts key act ∷ before) ≤ n
    → (key.peer ≡ peer → key.ordinal < n) × (key.peer < length rows.tables)
    × (opens_of peer before ≤ n)
act_below rows peer n key opens before counted yet = (
  λ same.
      let is : key.ordinal ≡ opens_of peer before =
      counted.0 ∙ ap (λ p. opens_of p before) same in
      let one : opens_of peer (acts key opens ∷ before) ≡ 1 + opens_of peer before =
      ap (λ b. (if b then 1 else 0) + opens_of peer before) (eq-eqb key.peer peer same) in
      omega (arith, is, one, yet),
  counted.1,
  fewer (key.peer == peer) yet,
)
  where
    fewer : (b : Bool) → (if b then 1 else 0) + opens_of peer before ≤ n
        → opens_of peer before ≤ n
    fewer true le = omega (arith, le)
    fewer false le = omega (arith, le)
act_below rows peer n key takes before counted yet =
    (λ same. acted_below peer n key before counted.0 yet same, counted.1, yet)
act_below rows peer n key closes before counted yet =
    (λ same. acted_below peer n key before counted.0 yet same, counted.1, yet)
act_below rows peer n key (reads name) before counted yet =
    (λ same. acted_below peer n key before counted.0 yet same, counted.1, yet)
act_below rows peer n key (writes name value) before counted yet =
    (λ same. acted_below peer n key before counted.0 yet same, counted.1, yet)
act_below rows peer n key (defines set members) before counted yet =
    (λ same. acted_below peer n key before counted.0 yet same, counted.1, yet)
act_below rows peer n key (deletes set) before counted yet =
    (λ same. acted_below peer n key before counted.0 yet same, counted.1, yet)
act_below rows peer n key (calls call) before counted yet =
    (λ same. acted_below peer n key before counted.0 yet same, counted.1, yet)

pub counted_fresh : (rows : CentreRows) (owns : Owns) (peer n : ℕ) (moves : List Move)
    → IsCentre rows → opens_of peer moves ≤ n → AreCounted rows moves
    → AreFresh n (view_by rows owns peer moves)
counted_fresh rows owns peer n [] lawful yet counted = tt
counted_fresh rows owns peer n (acts key act ∷ before) lawful yet counted =
    let parts = act_below rows peer n key act before counted yet in
    by (key.peer == peer) refl parts.0 parts.1
    (counted_fresh rows owns peer n before lawful parts.2
    (counted_behind rows (acts key act) before counted))
  where
    by : (b : Bool) → (key.peer == peer) ≡ b → (key.peer ≡ peer → key.ordinal < n)
        → key.peer < length rows.tables → AreFresh n (view_by rows owns peer before)
        → AreFresh n (cons_option (if b then Some (own key.ordinal act)
        else other_seen (owns peer) (table_of rows key.peer).key
        (held_in rows owns before key.peer) key.ordinal act) (view_by rows owns peer before))
    by true e below there rest =
        let less = below (eqb-true key.peer peer e) in
        (ne_eqb key.ordinal n (λ same. omega (arith, less, same)), rest)
    by false e below there rest =
        other_fresh n (owns peer) (table_of rows key.peer).key
        (held_in rows owns before key.peer) key.ordinal act (view_by rows owns peer before)
        (key_numbered rows key.peer lawful there) rest
counted_fresh rows owns peer n (updates point value ∷ before) lawful yet counted =
    fresh_if n (is_point_of rows peer point) (updated (point_of rows point).name value)
    (view_by rows owns peer before) tt
    (counted_fresh rows owns peer n before lawful yet counted)
counted_fresh rows owns peer n (tags device tag ∷ before) lawful yet counted =
    fresh_if n (is_some (device_named (owns peer) (device_of rows device).name))
    (tagged (device_of rows device).name tag) (view_by rows owns peer before) tt
    (counted_fresh rows owns peer n before lawful yet counted)
counted_fresh rows owns peer n (ticks now ∷ before) lawful yet counted =
    (tt, counted_fresh rows owns peer n before lawful yet counted)
counted_fresh rows owns peer n (asks asker slot ∷ before) lawful yet counted =
    fresh_if n (asker == peer) (asked slot) (view_by rows owns peer before) tt
    (counted_fresh rows owns peer n before lawful yet counted)
counted_fresh rows owns peer n (chooses chooser variant ∷ before) lawful yet counted =
    fresh_if n (chooser == peer) (chose variant) (view_by rows owns peer before) tt
    (counted_fresh rows owns peer n before lawful yet counted)
counted_fresh rows owns peer n (takes_orders ∷ before) lawful yet counted =
    counted_fresh rows owns peer n before lawful yet counted
counted_fresh rows owns peer n (stops ∷ before) lawful yet counted =
    (tt, counted_fresh rows owns peer n before lawful yet counted)
