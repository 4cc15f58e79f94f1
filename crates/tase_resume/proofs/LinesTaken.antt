-- A node that reads a snapshot goes on by its lines, and what is read is a snapshot.
use Rattle.std.proofs.Common.{◌≡◌, ◌==◌, ℕ, ◌^◌, Bool, true, false, ◌&&◌, ◌||◌, if◌then◌else◌, List}
use Rattle.std.proofs.Common.{[], ◌∷◌, ◌++◌, reverse, Option, Some, None, refl, sym, ap}
use Rattle.std.proofs.Common.{subst, ◌∙◌, ◌+◌, ◌<◌, length, take, get_or, Result, Ok, Err}
use Rattle.std.specs.Prelude.{is_none, option_and_then, option_map, slice_get, IfSome}
use Rattle.std.specs.Option.{option_map_or}
use Rattle.std.specs.Str.Lines.{lines}
use Rattle.std.proofs.lemmas.Bool.{false≢true}
use Rattle.std.proofs.lemmas.Option.{none-some, slice_get-get_or, get_or_from_slice_get}
use Rattle.std.proofs.lemmas.List.{append_assoc, append-nil, reverse-append, reverse-reverse}
use Rattle.std.proofs.lemmas.List.{take_more}
use Rattle.bilateral.specs.Rows.{CentreRows}
use Rattle.tase_views.specs.declared.event.Entry.{Entry}
use Rattle.tase_views.specs.declared.event.EventKind.{EventKind}
use Rattle.tase_views.specs.declared.event.EventKind.TheVariants.{Close}
use Rattle.tase_views.specs.declared.fault.StepFault.{StepFault}
use Rattle.tase_views.specs.Setup.{Setup}
use Rattle.tase_views.specs.History.{Past}
use Rattle.tase_views.specs.Outcomes.{refusal_of, answer_of, is_close}
use Rattle.texts.specs.Journal.Entries.{entry_in}
use Rattle.node_core.specs.NodeState.{NodeState}
use Rattle.tase_resume.specs.declared.turns.LineTurn.{LineTurn}
use Rattle.tase_resume.specs.declared.turns.Standing.{Standing}
use Rattle.tase_resume.specs.Snapshots.{turn_of, is_above, SnapshotState, no_lines, snapshot_setup}
use Rattle.tase_resume.specs.Snapshots.{is_defined, line_taken, snapshot_with, snapshot_behind}
use Rattle.tase_resume.specs.Snapshots.{IsSnapshot, ends_lines, some_left, line_after, line_read}
use Rattle.tase_resume.specs.Snapshots.{lines_read, snapshot_in}
use Rattle.tase_resume.specs.Turns.{begun_by, behind_inside, behind_by}
use Rattle.tase_resume.specs.Turns.{standing_behind, next_of}
use Rattle.tase_resume.specs.Reading.{state_of, HasTaken, IsTaken, TakesLine, TakesLines}
use Rattle.tase_resume.proofs.ReadBack.{grows}

abbrev own : EventKind → Entry
own event = record { who = 0; event = event }

abbrev with_past : Past → Standing → SnapshotState
with_past past standing =
    record { past = past; last = standing.last; defining = standing.defining }

pub not_taken : (old new : NodeState) (found : Option SnapshotState) → found ≡ None
    → TakesLine old new found None
not_taken old new found is = record { state = is; setup = λ e. absurd (false≢true e) }

-- an entry of another seat isn't taken
pub other_seat : (old new : NodeState) (state : SnapshotState) (entry : Entry)
    → (entry.who == 0) ≡ false
    → TakesLine old new (snapshot_with old.setup.centre state entry) None
other_seat old new state entry other =
    not_taken old new _
    (ap (λ b. if b && is_none (refusal_of (snapshot_setup old.setup.centre) state.past 0
    entry.event) then line_taken old.setup.centre state entry state.defining else None) other)

-- where a line leaves a snapshot, whatever is before it

if_map : (past : Past) (b : Bool) (standing : Standing)
    → (if b then Some (with_past past standing) else None)
    ≡ option_map (with_past past) (if b then Some standing else None)
if_map past true standing = refl
if_map past false standing = refl

abbrev outside_by : Past → Option LineTurn → EventKind → LineTurn → Option SnapshotState
outside_by past last event turn =
    if is_above last turn
    then Some (record { past = past; last = Some turn; defining = begun_by event }) else None

outside_map : (past : Past) (last : Option LineTurn) (event : EventKind) (turn : Option LineTurn)
    → option_and_then (outside_by past last event) turn
    ≡ option_map (with_past past) (option_and_then
    (λ (t : LineTurn). if is_above last t
    then Some (let s : Standing = record { last = Some t; defining = begun_by event } in s)
    else None) turn)
outside_map past last event None = refl
outside_map past last event (Some turn) =
    if_map past (is_above last turn) (record { last = Some turn; defining = begun_by event })

abbrev inside_by : Past → Option LineTurn → Bool → Bool → Option SnapshotState
inside_by past last defined may_close =
    if defined then Some (record { past = past; last = last; defining = Some true })
    else (if may_close then Some (record { past = past; last = last; defining = None })
    else None)

inside_map : (past : Past) (last : Option LineTurn) (defined may_close : Bool)
    → inside_by past last defined may_close
    ≡ option_map (with_past past) (behind_inside last defined may_close)
inside_map past last true may_close = refl
inside_map past last false true = refl
inside_map past last false false = refl

line_map : (rows : CentreRows) (before : Past) (last : Option LineTurn) (event : EventKind)
    (defined : Bool)
    → defined ≡ is_defined (answer_of (snapshot_setup rows) before 0 event)
    → (current defining : Option Bool)
    → line_taken rows (record { past = before; last = last; defining = current }) (own event)
    defining
    ≡ option_map (with_past (own event ∷ before)) (behind_by last event defined defining)
line_map rows before last event defined is current None =
    outside_map (own event ∷ before) last event (turn_of event)
line_map rows before last event defined is current (Some some) =
    ap (λ b. inside_by (own event ∷ before) last b (some && is_close event)) (sym is)
    ∙ inside_map (own event ∷ before) last defined (some && is_close event)

module _ (old : NodeState) (limit : old.setup.limit ≡ 2 ^ 31) (event : EventKind)
    (before : Standing) where
  is_setup : old.setup ≡ snapshot_setup old.setup.centre
  is_setup =
      ap (λ n. let s : Setup = record { centre = old.setup.centre; limit = n } in s) limit

  -- the node refuses it
  pub event_refused : (new : NodeState)
      → (refusal_of old.setup (reverse old.history) 0 event ≡ None → ⊥)
      → TakesLine old new (snapshot_with old.setup.centre (state_of old before) (own event)) None
  event_refused new refuses =
      not_taken old new _
      (by (refusal_of (snapshot_setup old.setup.centre) (reverse old.history) 0 event)
      (ap (λ (s : Setup). refusal_of s (reverse old.history) 0 event) is_setup))
    where
      by : (r : Option StepFault) → refusal_of old.setup (reverse old.history) 0 event ≡ r
          → (if is_none r then line_taken old.setup.centre (state_of old before) (own event)
          before.defining else None)
          ≡ None
      by None is = absurd (refuses is)
      by (Some fault) is = refl

  -- the node takes it
  pub event_taken : (new : NodeState) (defined : Bool) (next : Option Standing)
      → HasTaken old new event defined → next ≡ standing_behind before event defined
      → TakesLine old new (snapshot_with old.setup.centre (state_of old before) (own event)) next
  event_taken new defined next taken is =
      let rows = old.setup.centre in
      let past : Past = reverse old.history in
      let free : refusal_of (snapshot_setup rows) past 0 event ≡ None =
      sym (ap (λ (s : Setup). refusal_of s past 0 event) is_setup) ∙ taken.allowed in
      let answered : defined ≡ is_defined (answer_of (snapshot_setup rows) past 0 event) =
      taken.answered ∙ ap (λ (s : Setup). is_defined (answer_of s past 0 event)) is_setup in
      let grown : reverse new.history ≡ own event ∷ past =
      ap (λ (n : NodeState). reverse n.history) taken.node
      ∙ reverse-append old.history (own event ∷ []) in
      record {
        state = ap (λ (r : Option StepFault). if is_none r
            then line_taken rows (state_of old before) (own event) before.defining else None) free
            ∙ line_map rows past before.last event defined answered before.defining
            before.defining
            ∙ ap (option_map (with_past (own event ∷ past))) (sym is)
            ∙ ap (λ (p : Past). option_map (with_past p) next) (sym grown);
        setup = λ yes. ap (λ (n : NodeState). n.setup) taken.node;
      }

  -- whatever becomes of it
  pub event_stepped : (new : NodeState) (taken : Option Bool) (defined other next : Option Standing)
      → IsTaken old new event taken → defined ≡ standing_behind before event true
      → other ≡ standing_behind before event false → next ≡ next_of taken defined other
      → TakesLine old new (snapshot_with old.setup.centre (state_of old before) (own event)) next
  event_stepped new None defined other next refuses one two is =
      subst (TakesLine old new (snapshot_with old.setup.centre (state_of old before) (own event)))
      (sym is) (event_refused new refuses)
  event_stepped new (Some true) defined other next taken one two is =
      event_taken new true next taken (is ∙ one)
  event_stepped new (Some false) defined other next taken one two is =
      event_taken new false next taken (is ∙ two)

-- a line leads on, or is bad

pub line_on : (old new : NodeState) (before next : Standing) (ended : Bool) (line : List ℕ)
    (more : List (List ℕ)) (number : ℕ)
    → TakesLine old new
    (line_read old.setup.centre (state_of old before) (some_left more || ended) line) (Some next)
    → lines_read old.setup.centre ended (state_of old before) number (line ∷ more)
    ≡ lines_read new.setup.centre ended (state_of new next) (line_after number) more
line_on old new before next ended line more number takes =
    ap (λ (o : Option SnapshotState). option_map_or (λ after.
    lines_read old.setup.centre ended after (line_after number) more) o (Err number)) takes.state
    ∙ ap (λ (s : Setup). lines_read s.centre ended (state_of new next) (line_after number) more)
    (sym (takes.setup refl))

pub line_bad : (old new : NodeState) (before : Standing) (ended : Bool) (line : List ℕ)
    (more : List (List ℕ)) (number : ℕ)
    → TakesLine old new
    (line_read old.setup.centre (state_of old before) (some_left more || ended) line) None
    → lines_read old.setup.centre ended (state_of old before) number (line ∷ more) ≡ Err number
line_bad old new before ended line more number takes =
    ap (λ (o : Option SnapshotState). option_map_or (λ after.
    lines_read old.setup.centre ended after (line_after number) more) o (Err number)) takes.state

-- the end of the lines

abbrev end_of : Option Bool → ℕ → Result (Unit {0}) ℕ
end_of defining number = if is_none defining then Ok tt else Err number

pub lines_end : (first last : NodeState) (standing : Standing) (text : List ℕ) (number : ℕ)
    (end : Result (Unit {0}) ℕ)
    → lines_read first.setup.centre (ends_lines text)
    (state_of first (record { last = None; defining = None })) 1 (lines text)
    ≡ lines_read last.setup.centre (ends_lines text) (state_of last standing) number []
    → end ≡ end_of standing.defining number → TakesLines first last text end
lines_end first last standing text number end read is =
    by standing.defining end read is
  where
    by : (d : Option Bool) (e : Result (Unit {0}) ℕ)
        → lines_read first.setup.centre (ends_lines text)
        (state_of first (record { last = None; defining = None })) 1 (lines text)
        ≡ (if is_none d
        then (let r : Result (List Entry) ℕ = Ok (reverse (reverse last.history)) in r)
        else Err number)
        → e ≡ end_of d number → TakesLines first last text e
    by None (Ok done) r f =
        r ∙ ap (λ (l : List Entry). let o : Result (List Entry) ℕ = Ok l in o)
        (reverse-reverse last.history)
    by None (Err line) r f = absurd (not_done line f)
      where
        not_done : (n : ℕ) → (let o : Result (Unit {0}) ℕ = Err n in o) ≡ Ok tt → ⊥
        not_done n e = cc
    by (Some some) (Ok done) r f = absurd (not_bad number f)
      where
        not_bad : (n : ℕ) → (let o : Result (Unit {0}) ℕ = Ok tt in o) ≡ Err n → ⊥
        not_bad n e = cc
    by (Some some) (Err line) r f =
        r ∙ ap (λ (n : ℕ). let o : Result (List Entry) ℕ = Err n in o) (same_err number line (sym f))
      where
        same_err : (a b : ℕ) → (let o : Result (Unit {0}) ℕ = Err a in o) ≡ Err b → a ≡ b
        same_err a b e = cc

-- what lines are behind a state is what may follow it

record Rests (rows : CentreRows) (state : SnapshotState) (entries : List Entry) : Type 0 where
  rest : List Entry
  final : SnapshotState
  all : entries ≡ reverse state.past ++ rest
  runs : snapshot_behind rows state rest ≡ Some final
  outside : final.defining ≡ None

same_ok : (a b : List Entry) → (let r : Result (List Entry) ℕ = Ok a in r) ≡ Ok b → a ≡ b
same_ok a b e = cc

not_ok : (number : ℕ) (entries : List Entry)
    → (let r : Result (List Entry) ℕ = Err number in r) ≡ Ok entries → ⊥
not_ok number entries e = cc

entry_of : (rows : CentreRows) (state after : SnapshotState) (whole : Bool) (line : List ℕ)
    → line_read rows state whole line ≡ Some after
    → (entry : Entry) × (snapshot_with rows state entry ≡ Some after)
entry_of rows state after false line e = absurd (none-some after e)
entry_of rows state after true line e = by (entry_in line) e
  where
    by : (found : Option Entry)
        → option_and_then (snapshot_with rows state) found ≡ Some after
        → (entry : Entry) × (snapshot_with rows state entry ≡ Some after)
    by None f = absurd (none-some after f)
    by (Some entry) f = (entry, f)

lines_sound : (rows : CentreRows) (ended : Bool) (texts : List (List ℕ)) (state : SnapshotState)
    (number : ℕ) (entries : List Entry)
    → lines_read rows ended state number texts ≡ Ok entries → Rests rows state entries
lines_sound rows ended [] state number entries e = by state.defining refl e
  where
    by : (d : Option Bool) → state.defining ≡ d
        → (if is_none d then (let r : Result (List Entry) ℕ = Ok (reverse state.past) in r)
        else Err number) ≡ Ok entries
        → Rests rows state entries
    by None is f = record {
      rest = [];
      final = state;
      all = sym (same_ok (reverse state.past) entries f) ∙ sym (append-nil (reverse state.past));
      runs = refl;
      outside = is;
    }
    by (Some some) is f = absurd (not_ok number entries f)
lines_sound rows ended (line ∷ more) state number entries e =
    by (line_read rows state (some_left more || ended) line) refl e
    (λ after f. lines_sound rows ended more after (line_after number) entries f)
  where
    by : (found : Option SnapshotState)
        → line_read rows state (some_left more || ended) line ≡ found
        → option_map_or (λ after. lines_read rows ended after (line_after number) more) found
        (Err number)
        ≡ Ok entries
        → ((after : SnapshotState)
        → lines_read rows ended after (line_after number) more ≡ Ok entries
        → Rests rows after entries)
        → Rests rows state entries
    by None is f go = absurd (not_ok number entries f)
    by (Some after) is f go =
        let w = entry_of rows state after (some_left more || ended) line is in
        let r = go after f in
        record {
          rest = w.0 ∷ r.rest;
          final = r.final;
          all = r.all
              ∙ ap (λ (p : Past). reverse p ++ r.rest) (grows rows state after w.0 w.1)
              ∙ ap (λ (l : List Entry). l ++ r.rest) (reverse-append (w.0 ∷ []) state.past)
              ∙ append_assoc (reverse state.past) (w.0 ∷ []) r.rest;
          runs = ap (option_and_then (λ s. snapshot_behind rows s r.rest)) w.1 ∙ r.runs;
          outside = r.outside;
        }

-- what a text is read as is a snapshot
pub read_sound : (rows : CentreRows) (text : List ℕ) (entries : List Entry)
    → snapshot_in rows text ≡ Ok entries → IsSnapshot rows entries
read_sound rows text entries e =
    let r = lines_sound rows (ends_lines text) (lines text) no_lines 1 entries e in
    (r.final, ap (snapshot_behind rows no_lines) r.all ∙ r.runs, r.outside)

-- a node without a history reads what the text is

abbrev pub fresh : CentreRows → NodeState
fresh rows = record { setup = snapshot_setup rows; history = [] }

pub read_whole : (rows : CentreRows) (text : List ℕ) (old new : NodeState) (done : Unit {0})
    → old ≡ fresh rows → TakesLines old new text (Ok done)
    → snapshot_in rows text ≡ Ok new.history
read_whole rows text old new done is takes =
    sym (ap (λ (n : NodeState). lines_read n.setup.centre (ends_lines text)
    (state_of n (record { last = None; defining = None })) 1 (lines text)) is)
    ∙ takes

pub read_bad : (rows : CentreRows) (text : List ℕ) (old new : NodeState) (line : ℕ)
    → old ≡ fresh rows → TakesLines old new text (Err line) → snapshot_in rows text ≡ Err line
read_bad rows text old new line is takes =
    sym (ap (λ (n : NodeState). lines_read n.setup.centre (ends_lines text)
    (state_of n (record { last = None; defining = None })) 1 (lines text)) is)
    ∙ takes

-- the entries of a history one by one
pub entry_more : (history : List Entry) (k : ℕ) (out new : List Entry) → k < length history
    → out ≡ take k history
    → IfSome (slice_get history k) (λ (entry : Entry). new ≡ out ++ entry ∷ [])
    → new ≡ take (k + 1) history
entry_more history k out new within before more = by (slice_get history k) refl more
  where
    by : (found : Option Entry) → slice_get history k ≡ found
        → IfSome found (λ (entry : Entry). new ≡ out ++ entry ∷ [])
        → new ≡ take (k + 1) history
    by None e f = absurd (none-some (get_or history k (own Close))
        (sym e ∙ slice_get-get_or history k (own Close) within))
    by (Some entry) e f =
        f ∙ ap (λ (l : List Entry). l ++ entry ∷ []) before
        ∙ ap (λ (x : Entry). take k history ++ x ∷ [])
        (sym (get_or_from_slice_get history k entry entry e))
        ∙ sym (take_more history k entry within)
