-- A snapshot is read back from its text.
use Rattle.std.proofs.Common.{◌≡◌, ◌==◌, ℕ, suc, ◌-◌, Bool, true, false, ◌&&◌, ◌||◌, if◌then◌else◌}
use Rattle.std.proofs.Common.{List, [], ◌∷◌, ◌++◌, map, reverse, length, get_or, Option, Some, None}
use Rattle.std.proofs.Common.{refl, sym, ap, ◌∙◌, arith, Result, Ok, Err}
use Rattle.std.specs.Prelude.{is_none, option_and_then, All, slice_get, unwrap_or}
use Rattle.std.specs.Option.{option_map_or}
use Rattle.std.specs.Str.Lines.{lines}
use Rattle.std.proofs.lemmas.Bool.{eq-eqb}
use Rattle.std.proofs.lemmas.Option.{same_Some, none-some, unwrap_or-slice_get}
use Rattle.std.proofs.lemmas.List.{append_assoc, append-nil, reverse-append}
use Rattle.std.proofs.lemmas.List.Elements.{All-head, All-tail}
use Rattle.bilateral.specs.Rows.{CentreRows}
use Rattle.tase_views.specs.declared.event.Entry.{Entry}
use Rattle.tase_views.specs.History.{Past}
use Rattle.tase_views.specs.Outcomes.{refusal_of, answer_of, is_close}
use Rattle.texts.specs.Journal.Entries.{entry_in, IsEntry}
use Rattle.texts.specs.Journal.Journals.{entry_text, entry_line, journal_text}
use Rattle.texts.proofs.OfJournal.EntryRead.{entry_in-text, journal_lines}
use Rattle.tase_resume.specs.declared.turns.LineTurn.{LineTurn}
use Rattle.tase_resume.specs.Snapshots.{turn_of, is_above, SnapshotState, no_lines}
use Rattle.tase_resume.specs.Snapshots.{snapshot_setup, is_defined, opens_association, line_taken}
use Rattle.tase_resume.specs.Snapshots.{snapshot_with, snapshot_behind, IsSnapshot, ends_lines}
use Rattle.tase_resume.specs.Snapshots.{some_left, line_after, line_read, lines_read, snapshot_in}

-- a journal ends with LF

abbrev last_octet : List ℕ → ℕ
last_octet [] = 10
last_octet (x ∷ []) = x
last_octet (x ∷ y ∷ l) = last_octet (y ∷ l)

last_at : (text : List ℕ) → get_or text (length text - 1) 10 ≡ last_octet text
last_at [] = refl
last_at (x ∷ []) = refl
last_at (x ∷ y ∷ l) =
    let one : length (x ∷ y ∷ l) - 1 ≡ suc (length (y ∷ l) - 1) = omega arith in
    ap (λ n. get_or (x ∷ y ∷ l) n 10) one ∙ last_at (y ∷ l)

ended_both : (a b : List ℕ) → last_octet a ≡ 10 → last_octet b ≡ 10 → last_octet (a ++ b) ≡ 10
ended_both [] b first second = second
ended_both (x ∷ []) [] first second = first
ended_both (x ∷ []) (y ∷ b) first second = second
ended_both (x ∷ y ∷ a) b first second = ended_both (y ∷ a) b first second

ended_line : (text : List ℕ) → last_octet (text ++ 10 ∷ []) ≡ 10
ended_line [] = refl
ended_line (x ∷ []) = refl
ended_line (x ∷ y ∷ text) = ended_line (y ∷ text)

journal_ended : (entries : List Entry) → last_octet (journal_text entries) ≡ 10
journal_ended [] = refl
journal_ended (entry ∷ entries) =
    ended_both (entry_line entry) (journal_text entries) (ended_line (entry_text entry))
    (journal_ended entries)

journal_ends : (entries : List Entry) → ends_lines (journal_text entries) ≡ true
journal_ends entries =
    let text = journal_text entries in
    eq-eqb (unwrap_or (slice_get text (length text - 1)) 10) 10
    (unwrap_or-slice_get text (length text - 1) 10 ∙ last_at text ∙ journal_ended entries)

-- an entry that is taken is the newest

some_if : (b : Bool) (state after : SnapshotState)
    → (if b then Some state else None) ≡ Some after → state ≡ after
some_if true state after e = same_Some state after e
some_if false state after e = absurd (none-some after e)

turn_grows : (state after : SnapshotState) (entry : Entry) (turn : Option LineTurn)
    (defining : Option Bool)
    → option_and_then
    (λ t. if is_above state.last t
    then Some (let s : SnapshotState = record {
      past = entry ∷ state.past;
      last = Some t;
      defining = defining;
    } in s) else None) turn
    ≡ Some after
    → after.past ≡ entry ∷ state.past
turn_grows state after entry None defining e = absurd (none-some after e)
turn_grows state after entry (Some turn) defining e =
    sym (ap (λ (s : SnapshotState). s.past) (some_if (is_above state.last turn) _ after e))

inside_grows : (state after : SnapshotState) (entry : Entry) (defined closing : Bool)
    → (if defined
    then Some (let s : SnapshotState = record {
      past = entry ∷ state.past;
      last = state.last;
      defining = Some true;
    } in s)
    else (if closing
    then Some (let s : SnapshotState = record {
      past = entry ∷ state.past;
      last = state.last;
      defining = None;
    } in s) else None))
    ≡ Some after
    → after.past ≡ entry ∷ state.past
inside_grows state after entry true closing e =
    sym (ap (λ (s : SnapshotState). s.past) (same_Some _ after e))
inside_grows state after entry false true e =
    sym (ap (λ (s : SnapshotState). s.past) (same_Some _ after e))
inside_grows state after entry false false e = absurd (none-some after e)

line_grows : (rows : CentreRows) (state after : SnapshotState) (entry : Entry)
    (defining : Option Bool) → line_taken rows state entry defining ≡ Some after
    → after.past ≡ entry ∷ state.past
line_grows rows state after entry None e =
    turn_grows state after entry (turn_of entry.event)
    (if opens_association entry.event then Some false else None) e
line_grows rows state after entry (Some some) e =
    inside_grows state after entry
    (is_defined (answer_of (snapshot_setup rows) state.past 0 entry.event))
    (some && is_close entry.event) e

pub grows : (rows : CentreRows) (state after : SnapshotState) (entry : Entry)
    → snapshot_with rows state entry ≡ Some after → after.past ≡ entry ∷ state.past
grows rows state after entry e =
    by ((entry.who == 0) && is_none (refusal_of (snapshot_setup rows) state.past 0 entry.event)) e
  where
    by : (b : Bool)
        → (if b then line_taken rows state entry state.defining else None) ≡ Some after
        → after.past ≡ entry ∷ state.past
    by true f = line_grows rows state after entry state.defining f
    by false f = absurd (none-some after f)

all_grow : (rows : CentreRows) (entries : List Entry) (state final : SnapshotState)
    → snapshot_behind rows state entries ≡ Some final
    → final.past ≡ reverse entries ++ state.past
all_grow rows [] state final e = sym (ap (λ (s : SnapshotState). s.past) (same_Some state final e))
all_grow rows (entry ∷ entries) state final e =
    by (snapshot_with rows state entry) refl e (λ after f. all_grow rows entries after final f)
  where
    by : (found : Option SnapshotState) → snapshot_with rows state entry ≡ found
        → option_and_then (λ after. snapshot_behind rows after entries) found ≡ Some final
        → ((after : SnapshotState) → snapshot_behind rows after entries ≡ Some final
        → final.past ≡ reverse entries ++ after.past)
        → final.past ≡ reverse (entry ∷ entries) ++ state.past
    by None is f rest = absurd (none-some final f)
    by (Some after) is f rest =
        rest after f
        ∙ ap (λ (p : Past). reverse entries ++ p) (grows rows state after entry is)
        ∙ sym (append_assoc (reverse entries) (entry ∷ []) state.past)
        ∙ sym (ap (λ (l : List Entry). l ++ state.past) (reverse-append (entry ∷ []) entries))

twice : (entries : List Entry) → reverse (reverse entries) ≡ entries
twice [] = refl
twice (entry ∷ entries) =
    ap reverse (reverse-append (entry ∷ []) entries)
    ∙ reverse-append (reverse entries) (entry ∷ [])
    ∙ ap (λ (l : List Entry). entry ∷ l) (twice entries)

-- the lines are read one by one
read_all : (rows : CentreRows) (entries : List Entry) (state final : SnapshotState) (number : ℕ)
    → All IsEntry entries → snapshot_behind rows state entries ≡ Some final
    → final.defining ≡ None
    → lines_read rows true state number (map entry_text entries) ≡ Ok (reverse final.past)
read_all rows [] state final number are e none =
    let same : state ≡ final = same_Some state final e in
    rw (ap (λ (s : SnapshotState). s.defining) same ∙ none)
    (ap (λ (s : SnapshotState). let r : Result (List Entry) ℕ = Ok (reverse s.past) in r) same)
read_all rows (entry ∷ entries) state final number are e none =
    ap (λ (o : Option SnapshotState). option_map_or
    (λ after. lines_read rows true after (line_after number) (map entry_text entries)) o
    (Err number)) line
    ∙ by (snapshot_with rows state entry) e
    (λ after f. read_all rows entries after final (line_after number)
    (All-tail IsEntry entry entries are) f none)
  where
    or_true : (b : Bool) → (b || true) ≡ true
    or_true true = refl
    or_true false = refl

    line : line_read rows state (some_left (map entry_text entries) || true) (entry_text entry)
        ≡ snapshot_with rows state entry
    line =
        ap (λ b. if b then option_and_then (snapshot_with rows state)
        (entry_in (entry_text entry)) else None) (or_true (some_left (map entry_text entries)))
        ∙ ap (λ (o : Option Entry). option_and_then (snapshot_with rows state) o)
        (entry_in-text entry (All-head IsEntry entry entries are))

    by : (found : Option SnapshotState)
        → option_and_then (λ after. snapshot_behind rows after entries) found ≡ Some final
        → ((after : SnapshotState) → snapshot_behind rows after entries ≡ Some final
        → lines_read rows true after (line_after number) (map entry_text entries)
        ≡ Ok (reverse final.past))
        → option_map_or
        (λ after. lines_read rows true after (line_after number) (map entry_text entries)) found
        (Err number)
        ≡ Ok (reverse final.past)
    by None f rest = absurd (none-some final f)
    by (Some after) f rest = rest after f

pub read_back : (rows : CentreRows) (entries : List Entry) → IsSnapshot rows entries
    → All IsEntry entries → snapshot_in rows (journal_text entries) ≡ Ok entries
read_back rows entries is are =
    ap (λ b. lines_read rows b no_lines 1 (lines (journal_text entries))) (journal_ends entries)
    ∙ ap (λ (l : List (List ℕ)). lines_read rows true no_lines 1 l) (journal_lines entries are)
    ∙ read_all rows entries no_lines is.0 1 are is.1 is.2
    ∙ ap (λ (l : List Entry). let r : Result (List Entry) ℕ = Ok l in r)
    (ap reverse (all_grow rows entries no_lines is.0 is.1 ∙ append-nil (reverse entries))
    ∙ twice entries)
