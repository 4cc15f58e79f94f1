-- The same entries behind two histories without associations: seats have the same associations but
-- for their ordinals, and the moves are the same but for these.
use Rattle.std.proofs.Common.{◌≡◌, ◌==◌, ℕ, ◌+◌, ◌<◌, ◌≤◌, Bool, true, false, if◌then◌else◌, List}
use Rattle.std.proofs.Common.{[], ◌∷◌, ◌++◌, map, length, Option, Some, None, is_some, refl, sym}
use Rattle.std.proofs.Common.{ap, subst, ◌∙◌, ⊎_elim, arith}
use Rattle.std.specs.Prelude.{option_map}
use Rattle.std.proofs.lemmas.Bool.{cases_eq, ltb-true}
use Rattle.std.proofs.lemmas.Option.{same_Some, none-some}
use Rattle.std.proofs.lemmas.List.{append_assoc}
use Rattle.bilateral.specs.Rows.{CentreRows}
use Rattle.sbo_device.specs.declared.key.Key.{Key}
use Rattle.tase_views.specs.declared.event.EventKind.{EventKind}
use Rattle.tase_views.specs.declared.event.Entry.{Entry}
use Rattle.tase_views.specs.declared.fault.StepFault.{StepFault}
use Rattle.tase_views.specs.declared.fault.StepFault.TheVariants.{UnknownName}
use Rattle.tase_views.specs.Moves.{Act, EventSort, sort_of, opening, requesting, taking, closing}
use Rattle.tase_views.specs.Moves.{taking_orders, feeding, Move, acts, updates, tags, ticks, asks}
use Rattle.tase_views.specs.Moves.{chooses, takes_orders, stops, moves_of, acts_of_call}
use Rattle.tase_views.specs.History.{Past, opens_in, next_key, association_by, association_in}
use Rattle.tase_views.specs.History.{key_by, key_at, moment_by, last_tick, is_stop, stop_in}
use Rattle.tase_views.specs.Outcomes.{first_refusal, seat_refusal, seat_refusal_by, name_refusal}
use Rattle.tase_views.specs.Outcomes.{own_refusal, stop_refusal, clock_refusal, is_named_there}
use Rattle.tase_views.specs.View.{moves_in}
use Rattle.tase_views.specs.Lived.{IsLived}
use Rattle.tase_resume.proofs.RaisedHolds.{Offsets, raised_key}
use Rattle.tase_resume.proofs.QuietActs.{IsCentres, fed}
use Rattle.tase_resume.proofs.Calm.{three_none, two_none}
use Rattle.tase_resume.proofs.Closing.{at_seat, at_other}

-- a move of the node with the higher ordinal
abbrev pub raised_in : Offsets → Move → Move
raised_in off (acts key act) = acts (raised_key off key) act
raised_in off (updates point value) = updates point value
raised_in off (tags device tag) = tags device tag
raised_in off (ticks now) = ticks now
raised_in off (asks peer slot) = asks peer slot
raised_in off (chooses peer variant) = chooses peer variant
raised_in off takes_orders = takes_orders
raised_in off stops = stops

-- the moves of entries behind a past, the newest first
abbrev pub moves_behind : Past → Past → List Move
moves_behind [] past = []
moves_behind (entry ∷ later) past =
    moves_of (sort_of entry.event) (key_at entry.event (later ++ past) entry.who)
    ++ moves_behind later past

pub moves_are : (later past : Past)
    → moves_in (later ++ past) ≡ moves_behind later past ++ moves_in past
moves_are [] past = refl
moves_are (entry ∷ later) past =
    let these = moves_of (sort_of entry.event) (key_at entry.event (later ++ past) entry.who) in
    ap (λ (l : List Move). these ++ l) (moves_are later past)
    ∙ sym (append_assoc these (moves_behind later past) (moves_in past))

map_append : (f : Move → Move) (xs ys : List Move) → map f (xs ++ ys) ≡ map f xs ++ map f ys
map_append f [] ys = refl
map_append f (x ∷ xs) ys = ap (λ (l : List Move). f x ∷ l) (map_append f xs ys)

acts_raised : (off : Offsets) (key : Key) (these : List Act)
    → map (acts (raised_key off key)) these ≡ map (raised_in off) (map (acts key) these)
acts_raised off key [] = refl
acts_raised off key (act ∷ these) =
    ap (λ (l : List Move). acts (raised_key off key) act ∷ l) (acts_raised off key these)

sort_raised : (off : Offsets) (sort : EventSort) (key : Option Key) → IsCentres sort
    → moves_of sort (option_map (raised_key off) key) ≡ map (raised_in off) (moves_of sort key)
sort_raised off (opening peer) None centres = refl
sort_raised off (opening peer) (Some key) centres = refl
sort_raised off (requesting call) None centres = refl
sort_raised off (requesting call) (Some key) centres = acts_raised off key (acts_of_call call)
sort_raised off taking None centres = refl
sort_raised off taking (Some key) centres = refl
sort_raised off closing None centres = refl
sort_raised off closing (Some key) centres = refl
sort_raised off taking_orders key centres = refl
sort_raised off (feeding (acts by act)) key centres = absurd centres
sort_raised off (feeding (updates point value)) key centres = refl
sort_raised off (feeding (tags device tag)) key centres = refl
sort_raised off (feeding (ticks now)) key centres = refl
sort_raised off (feeding (asks peer slot)) key centres = refl
sort_raised off (feeding (chooses peer variant)) key centres = refl
sort_raised off (feeding takes_orders) key centres = refl
sort_raised off (feeding stops) key centres = refl

-- two histories without associations, of which the first has had so many opens more
pub record AreBoth (off : Offsets) (one other : Past) : Type 0 where
  pub free : (who : ℕ) → association_in one who ≡ None
  pub other_free : (who : ℕ) → association_in other who ≡ None
  pub more : (peer : ℕ) → opens_in one peer ≡ opens_in other peer + off peer

module _ (off : Offsets) (one other : Past) (both : AreBoth off one other) where
  opens_more : (later : Past) (peer : ℕ)
      → opens_in (later ++ one) peer ≡ opens_in (later ++ other) peer + off peer
  opens_more [] peer = both.more peer
  opens_more (entry ∷ later) peer =
      let rest = opens_more later peer in omega (arith, rest)

  opened_more : (later : Past) (peer : ℕ)
      → Some (next_key (later ++ one) peer)
      ≡ option_map (raised_key off) (Some (next_key (later ++ other) peer))
  opened_more later peer =
      ap (λ n. let key : Key = record { peer = peer; ordinal = n } in Some key)
      (opens_more later peer)

  behind : (later : Past) (sort : EventSort) (before after : Option Key)
      → before ≡ option_map (raised_key off) after
      → association_by sort (later ++ one) before
      ≡ option_map (raised_key off) (association_by sort (later ++ other) after)
  behind later (opening peer) before after same = opened_more later peer
  behind later (requesting call) before after same = same
  behind later taking before after same = same
  behind later closing before after same = refl
  behind later taking_orders before after same = same
  behind later (feeding move) before after same = same

  key_behind : (later : Past) (sort : EventSort) (before after : Option Key)
      → before ≡ option_map (raised_key off) after
      → key_by sort (later ++ one) before
      ≡ option_map (raised_key off) (key_by sort (later ++ other) after)
  key_behind later (opening peer) before after same = opened_more later peer
  key_behind later (requesting call) before after same = same
  key_behind later taking before after same = same
  key_behind later closing before after same = same
  key_behind later taking_orders before after same = same
  key_behind later (feeding move) before after same = same

  seat_if : (b : Bool) (x y z u : Option Key) → x ≡ option_map (raised_key off) z
      → y ≡ option_map (raised_key off) u
      → (if b then x else y) ≡ option_map (raised_key off) (if b then z else u)
  seat_if true x y z u first second = first
  seat_if false x y z u first second = second

  -- the association of a seat
  pub seat_more : (later : Past) (who : ℕ)
      → association_in (later ++ one) who
      ≡ option_map (raised_key off) (association_in (later ++ other) who)
  seat_more [] who = rw (both.free who, both.other_free who) refl
  seat_more (entry ∷ later) who =
      seat_if (entry.who == who)
      (association_by (sort_of entry.event) (later ++ one) (association_in (later ++ one) who))
      (association_in (later ++ one) who)
      (association_by (sort_of entry.event) (later ++ other) (association_in (later ++ other) who))
      (association_in (later ++ other) who)
      (behind later (sort_of entry.event) (association_in (later ++ one) who)
      (association_in (later ++ other) who) (seat_more later who))
      (seat_more later who)

  -- and that which an event of it is of
  pub key_more : (later : Past) (event : EventKind) (who : ℕ)
      → key_at event (later ++ one) who
      ≡ option_map (raised_key off) (key_at event (later ++ other) who)
  key_more later event who =
      key_behind later (sort_of event) (association_in (later ++ one) who)
      (association_in (later ++ other) who) (seat_more later who)

  pub moves_raised : (later : Past)
      → moves_behind later one ≡ map (raised_in off) (moves_behind later other)
  moves_raised [] = refl
  moves_raised (entry ∷ later) =
      ap (λ (k : Option Key). moves_of (sort_of entry.event) k ++ moves_behind later one)
      (key_more later entry.event entry.who)
      ∙ ap (λ (l : List Move). moves_of (sort_of entry.event)
      (option_map (raised_key off) (key_at entry.event (later ++ other) entry.who)) ++ l)
      (moves_raised later)
      ∙ ap (λ (l : List Move). l ++ map (raised_in off) (moves_behind later other))
      (sort_raised off (sort_of entry.event) (key_at entry.event (later ++ other) entry.who)
      (fed entry.event))
      ∙ sym (map_append (raised_in off)
      (moves_of (sort_of entry.event) (key_at entry.event (later ++ other) entry.who))
      (moves_behind later other))

  some_raised : (key : Option Key) → is_some (option_map (raised_key off) key) ≡ is_some key
  some_raised None = refl
  some_raised (Some key) = refl

  seat_refused : (sort : EventSort) (a b : Option Key) → is_some a ≡ is_some b
      → seat_refusal_by a sort ≡ seat_refusal_by b sort
  seat_refused (opening peer) a b same = rw same refl
  seat_refused (requesting call) a b same = rw same refl
  seat_refused taking a b same = rw same refl
  seat_refused closing a b same = rw same refl
  seat_refused taking_orders a b same = refl
  seat_refused (feeding move) a b same = refl

  -- events are refused alike for what their seat has done and what they name
  pub own_refused : (rows : CentreRows) (later : Past) (who : ℕ) (event : EventKind)
      → own_refusal rows (later ++ one) who event ≡ own_refusal rows (later ++ other) who event
  own_refused rows later who event =
      ap (λ (o : Option StepFault). first_refusal (o ∷ name_refusal rows event ∷ []))
      (seat_refused (sort_of event) (association_in (later ++ one) who)
      (association_in (later ++ other) who)
      (ap (λ (k : Option Key). is_some k) (seat_more later who)
      ∙ some_raised (association_in (later ++ other) who)))

-- the moment behind the same entries
pub tick_alike : (later one other : Past) → last_tick one ≡ last_tick other
    → last_tick (later ++ one) ≡ last_tick (later ++ other)
tick_alike [] one other same = same
tick_alike (entry ∷ later) one other same =
    ap (moment_by (sort_of entry.event)) (tick_alike later one other same)

-- there is a stop behind the same entries in both or in none
pub stop_alike : (later one other : Past) → is_some (stop_in one) ≡ is_some (stop_in other)
    → is_some (stop_in (later ++ one)) ≡ is_some (stop_in (later ++ other))
stop_alike [] one other same = same
stop_alike (entry ∷ later) one other same =
    by (is_stop entry.event) (stop_alike later one other same)
  where
    by : (b : Bool) → is_some (stop_in (later ++ one)) ≡ is_some (stop_in (later ++ other))
        → is_some (if b then Some (length (later ++ one)) else stop_in (later ++ one))
        ≡ is_some (if b then Some (length (later ++ other)) else stop_in (later ++ other))
    by true rest = refl
    by false rest = rest

-- what is named by an entry of a lived history is there
pub name_allows : (rows : CentreRows) (entry : Entry) (past : Past) → IsLived rows (entry ∷ past)
    → is_named_there rows (sort_of entry.event) ≡ true
name_allows rows entry past lived =
    by (is_named_there rows (sort_of entry.event))
    (two_none (seat_refusal (association_in past entry.who) entry.event)
    (name_refusal rows entry.event)
    (three_none (stop_refusal past entry.event) (own_refusal rows past entry.who entry.event)
    (clock_refusal past entry.event) lived.0).1).1
  where
    by : (b : Bool) → (if b then None else Some UnknownName) ≡ None → b ≡ true
    by true e = refl
    by false e = absurd (none-some UnknownName (sym e))

-- an association of a peer that is there, opened behind a past
abbrev pub IsNew : CentreRows → Past → Key → Type 0
IsNew rows past key = (opens_in past key.peer ≤ key.ordinal) × (key.peer < length rows.tables)

opens_grow : (later past : Past) (peer : ℕ) → opens_in past peer ≤ opens_in (later ++ past) peer
opens_grow [] past peer = omega arith
opens_grow (entry ∷ later) past peer =
    let rest = opens_grow later past peer in omega (arith, rest)

module _ (rows : CentreRows) (past : Past)
    (free : (who : ℕ) → association_in past who ≡ None) where
  new_opened : (later : Past) (peer : ℕ) → is_named_there rows (opening peer) ≡ true
      → IsNew rows past (next_key (later ++ past) peer)
  new_opened later peer there =
      (opens_grow later past peer, ltb-true peer (length rows.tables) there)

  new_after : (later : Past) (sort : EventSort) (before : Option Key) (key : Key)
      → is_named_there rows sort ≡ true → (before ≡ Some key → IsNew rows past key)
      → association_by sort (later ++ past) before ≡ Some key → IsNew rows past key
  new_after later (opening peer) before key there had is =
      subst (IsNew rows past) (same_Some (next_key (later ++ past) peer) key is)
      (new_opened later peer there)
  new_after later (requesting call) before key there had is = had is
  new_after later taking before key there had is = had is
  new_after later closing before key there had is = absurd (none-some key is)
  new_after later taking_orders before key there had is = had is
  new_after later (feeding move) before key there had is = had is

  pub new_seat : (later : Past) (who : ℕ) (key : Key) → IsLived rows (later ++ past)
      → association_in (later ++ past) who ≡ Some key → IsNew rows past key
  new_seat [] who key lived is = absurd (none-some key (sym (free who) ∙ is))
  new_seat (entry ∷ later) who key lived is =
      ⊎_elim
      (λ same. new_after later (sort_of entry.event) (association_in (later ++ past) who) key
      (name_allows rows entry (later ++ past) lived) (new_seat later who key lived.1)
      (sym (at_seat entry (later ++ past) who same) ∙ is))
      (λ apart. new_seat later who key lived.1
      (sym (at_other entry (later ++ past) who apart) ∙ is))
      (cases_eq entry.who who)

  new_key : (later : Past) (sort : EventSort) (before : Option Key) (key : Key)
      → is_named_there rows sort ≡ true → (before ≡ Some key → IsNew rows past key)
      → key_by sort (later ++ past) before ≡ Some key → IsNew rows past key
  new_key later (opening peer) before key there had is =
      subst (IsNew rows past) (same_Some (next_key (later ++ past) peer) key is)
      (new_opened later peer there)
  new_key later (requesting call) before key there had is = had is
  new_key later taking before key there had is = had is
  new_key later closing before key there had is = had is
  new_key later taking_orders before key there had is = had is
  new_key later (feeding move) before key there had is = had is

  -- the acts among moves are of such associations
  abbrev pub AreNew : List Move → Type 0
  AreNew [] = Unit {0}
  AreNew (acts key act ∷ moves) = IsNew rows past key × AreNew moves
  AreNew (_ ∷ moves) = AreNew moves

  new_acts : (key : Key) (these : List Act) (moves : List Move) → IsNew rows past key
      → AreNew moves → AreNew (map (acts key) these ++ moves)
  new_acts key [] moves new rest = rest
  new_acts key (act ∷ these) moves new rest = (new, new_acts key these moves new rest)

  new_sort : (sort : EventSort) (key : Option Key) (moves : List Move) → IsCentres sort
      → ((k : Key) → key ≡ Some k → IsNew rows past k) → AreNew moves
      → AreNew (moves_of sort key ++ moves)
  new_sort (opening peer) None moves centres new rest = rest
  new_sort (opening peer) (Some key) moves centres new rest = (new key refl, rest)
  new_sort (requesting call) None moves centres new rest = rest
  new_sort (requesting call) (Some key) moves centres new rest =
      new_acts key (acts_of_call call) moves (new key refl) rest
  new_sort taking None moves centres new rest = rest
  new_sort taking (Some key) moves centres new rest = (new key refl, rest)
  new_sort closing None moves centres new rest = rest
  new_sort closing (Some key) moves centres new rest = (new key refl, rest)
  new_sort taking_orders key moves centres new rest = rest
  new_sort (feeding (acts by act)) key moves centres new rest = absurd centres
  new_sort (feeding (updates point value)) key moves centres new rest = rest
  new_sort (feeding (tags device tag)) key moves centres new rest = rest
  new_sort (feeding (ticks now)) key moves centres new rest = rest
  new_sort (feeding (asks peer slot)) key moves centres new rest = rest
  new_sort (feeding (chooses peer variant)) key moves centres new rest = rest
  new_sort (feeding takes_orders) key moves centres new rest = rest
  new_sort (feeding stops) key moves centres new rest = rest

  pub new_moves : (later : Past) → IsLived rows (later ++ past) → AreNew (moves_behind later past)
  new_moves [] lived = tt
  new_moves (entry ∷ later) lived =
      new_sort (sort_of entry.event) (key_at entry.event (later ++ past) entry.who)
      (moves_behind later past) (fed entry.event)
      (λ k is. new_key later (sort_of entry.event) (association_in (later ++ past) entry.who) k
      (name_allows rows entry (later ++ past) lived) (new_seat later entry.who k lived.1) is)
      (new_moves later lived.1)
