-- Which entries are a snapshot, and which text is one: by which line may follow which, and by what
-- a node takes.
use Rattle.std.specs.Prelude.{◌≡◌, ℕ, ◌+◌, ◌-◌, ◌^◌, ◌==◌, nat_lt, min, ◌&&◌, ◌||◌, Bool, true}
use Rattle.std.specs.Prelude.{false, if◌then◌else◌, List, [], ◌∷◌, length, reverse, slice_get}
use Rattle.std.specs.Prelude.{Option, Some, None, is_none, option_and_then, unwrap_or, Result, Ok}
use Rattle.std.specs.Prelude.{Err}
use Rattle.std.specs.Option.{option_map_or}
use Rattle.std.specs.Str.Lines.{lines}
use Rattle.bilateral.specs.Rows.{CentreRows}
use Rattle.tase_views.specs.declared.event.EventKind.{EventKind}
use Rattle.tase_views.specs.declared.event.EventKind.TheVariants.{Open, Update, Table, Tick}
use Rattle.tase_views.specs.declared.event.EventKind.TheVariants as events
use Rattle.tase_views.specs.declared.event.Entry.{Entry}
use Rattle.tase_views.specs.declared.reply.Answer.{Answer}
use Rattle.tase_views.specs.declared.reply.Answer.TheVariants.{Reply}
use Rattle.tase_views.specs.declared.reply.ReplyKind.TheVariants.{Defined}
use Rattle.tase_views.specs.Setup.{Setup}
use Rattle.tase_views.specs.History.{Past}
use Rattle.tase_views.specs.Outcomes.{refusal_of, answer_of, is_close}
use Rattle.texts.specs.Journal.Entries.{entry_in}
use Rattle.tase_resume.specs.declared.turns.LineTurn.{LineTurn}

-- the place of a line
abbrev pub turn_at : ℕ → ℕ → Option LineTurn
turn_at part number = Some (record { part = part; number = number })

-- tables come first, each other than the first one, then points, then devices with a tag or a
-- reason, then the moment, then associations that define data sets; no other event begins a line
abbrev pub turn_of : EventKind → Option LineTurn
turn_of (Table peer variant) = if variant == 0 then None else turn_at 0 peer
turn_of (Update point value) = turn_at 1 point
turn_of (events.Tag device tag) =
    if (tag.tag == 0) && (length tag.reason == 0) then None else turn_at 2 device
turn_of (Tick now) = turn_at 3 0
turn_of (Open peer) = turn_at 4 peer
turn_of _ = None

-- whether a line's place is above that of the last one
abbrev pub is_above : Option LineTurn → LineTurn → Bool
is_above None turn = true
is_above (Some last) turn =
    nat_lt last.part turn.part || (last.part == turn.part) && nat_lt last.number turn.number

-- where a snapshot stands: its entries, the newest first; the place of its last line outside an
-- association; inside one, whether it has defined a data set
pub record SnapshotState : Type 0 where
  pub past : Past
  pub last : Option LineTurn
  pub defining : Option Bool

abbrev pub no_lines : SnapshotState
no_lines = record { past = []; last = None; defining = None }

-- a snapshot is read as a journal is: its history may weigh 2^31 octets
abbrev pub snapshot_setup : CentreRows → Setup
snapshot_setup rows = record { centre = rows; limit = 2 ^ 31 }

abbrev pub is_defined : Answer → Bool
is_defined (Reply Defined) = true
is_defined _ = false

abbrev pub opens_association : EventKind → Bool
opens_association (Open peer) = true
opens_association _ = false

-- one entry more that a node takes: outside an association a line at a higher place, inside one a
-- definition that is made, or, behind one, the close
abbrev pub line_taken : CentreRows → SnapshotState → Entry → Option Bool → Option SnapshotState
line_taken rows state entry None =
    option_and_then
    (λ turn. if is_above state.last turn
    then Some (record {
      past = entry ∷ state.past;
      last = Some turn;
      defining = if opens_association entry.event then Some false else None;
    }) else None) (turn_of entry.event)
line_taken rows state entry (Some some) =
    if is_defined (answer_of (snapshot_setup rows) state.past 0 entry.event)
    then Some (record { past = entry ∷ state.past; last = state.last; defining = Some true })
    else (if some && is_close entry.event
    then Some (record { past = entry ∷ state.past; last = state.last; defining = None })
    else None)

abbrev pub snapshot_with : CentreRows → SnapshotState → Entry → Option SnapshotState
snapshot_with rows state entry =
    if (entry.who == 0)
    && is_none (refusal_of (snapshot_setup rows) state.past 0 entry.event)
    then line_taken rows state entry state.defining else None

-- where entries, the oldest first, lead to
abbrev pub snapshot_behind : CentreRows → SnapshotState → List Entry → Option SnapshotState
snapshot_behind rows state [] = Some state
snapshot_behind rows state (entry ∷ entries) =
    option_and_then (λ after. snapshot_behind rows after entries)
    (snapshot_with rows state entry)

-- entries are a snapshot of a centre: no association is left open
abbrev pub IsSnapshot : CentreRows → List Entry → Type 0
IsSnapshot rows entries =
    (state : SnapshotState) × (snapshot_behind rows no_lines entries ≡ Some state)
    × (state.defining ≡ None)

-- a text without octets, or one that ends with LF
abbrev pub ends_lines : List ℕ → Bool
ends_lines text = unwrap_or (slice_get text (length text - 1)) 10 == 10

abbrev pub some_left : List (List ℕ) → Bool
some_left [] = false
some_left (line ∷ more) = true

-- lines count from 1, and the count stands still at its end
abbrev pub line_after : ℕ → ℕ
line_after number = min (number + 1) (2 ^ 64 - 1)

-- the state behind the line with this number, which has its LF or lacks it
abbrev pub line_read : CentreRows → SnapshotState → Bool → List ℕ → Option SnapshotState
line_read rows state whole line =
    if whole then option_and_then (snapshot_with rows state) (entry_in line) else None

-- Lines behind a state, of which the first has this number, and the last has its LF or lacks it:
-- the entries of all, the oldest first, or the number of the first line that is bad. A line is bad
-- that is no entry, that may not follow, or that lacks its LF; where the last leaves an association
-- open, so is the one behind it.
abbrev pub lines_read : CentreRows → Bool → SnapshotState → ℕ → List (List ℕ)
    → Result (List Entry) ℕ
lines_read rows ended state number [] =
    if is_none state.defining then Ok (reverse state.past) else Err number
lines_read rows ended state number (line ∷ more) =
    option_map_or (λ after. lines_read rows ended after (line_after number) more)
    (line_read rows state (some_left more || ended) line) (Err number)

-- the snapshot that a text is, or the number of its first bad line
abbrev pub snapshot_in : CentreRows → List ℕ → Result (List Entry) ℕ
snapshot_in rows text = lines_read rows (ends_lines text) no_lines 1 (lines text)
