-- The rows that lines come to are lawful: each line that is taken keeps them so.
use Rattle.std.proofs.Common.{◌≡◌, ℕ, ◌<◌, Bool, true, false, cond, List, [], ◌∷◌, length}
use Rattle.std.proofs.Common.{Option, Some, None, unwrap_or, refl, sym, ap, subst, ◌∙◌, arith}
use Rattle.std.specs.Prelude.{Result, Ok, Err, IfOk, IfSome}
use Rattle.std.specs.Str.Lines.{lines}
use Rattle.std.proofs.lemmas.List.{length-map, length_push}
use Rattle.std.proofs.lemmas.List.Elements.{All-get_or}
use Rattle.std.proofs.lemmas.List.Quantifiers.{position-Some}
use Rattle.plain_text.specs.Lines.{is_skipped}
use Rattle.tase_points.specs.declared.layout.Component.{Component}
use Rattle.tase_points.specs.Layouts.{IsLayout}
use Rattle.bilateral.specs.declared.fault.TableFault.{TableFault}
use Rattle.bilateral.specs.declared.fault.TableWhy.{TableWhy}
use Rattle.bilateral.specs.declared.line.TableLine.{TableLine}
use Rattle.bilateral.specs.declared.line.TableLine.TheVariants.{Point, Device, Peer, Slots, Sets}
use Rattle.bilateral.specs.declared.line.TableLine.TheVariants.{Pending, See, Control, Variant}
use Rattle.bilateral.specs.declared.rows.See.{See as SeeRow}
use Rattle.bilateral.specs.declared.rows.Control.{Control as ControlRow}
use Rattle.bilateral.specs.declared.rows.Table.{Table}
use Rattle.bilateral.specs.Rows.{CentreRows, IsCentre, IsTable, IsControlling, table_of, further_of}
use Rattle.bilateral.specs.Rows.{new_variant, place_of_point, place_of_device, place_of_see}
use Rattle.bilateral.specs.Rows.{place_of_control, no_table, no_point, no_device}
use Rattle.bilateral.specs.Lines.{line_in, IsLawfulLine}
use Rattle.bilateral.specs.Reasons.{SoFar, row_fault, last_table, current_table}
use Rattle.bilateral.specs.Reading.{with_row, with_last, with_see, with_control}
use Rattle.bilateral.specs.Reading.{with_slots, with_sets, with_pending, varied}
use Rattle.bilateral.specs.Reading.{unless, after_said, after_line, and_go_on}
use Rattle.bilateral.specs.Reading.{next_number, after_lines, at_start, centre_in}
use Rattle.bilateral.proofs.Taken.{IsNewPoint-from_no_fault, IsNewDevice-from_no_fault}
use Rattle.bilateral.proofs.Taken.{IsNewPeer-from_no_fault, IsNewVariant-from_no_fault}
use Rattle.bilateral.proofs.Taken.{IsNewSee-from_no_fault, IsNewControl-from_no_fault}
use Rattle.bilateral.proofs.Taken.{limit_taken, pending_taken}
use Rattle.bilateral.proofs.Grown.{IsCentre-with_point, IsCentre-with_device, IsCentre-with_peer}
use Rattle.bilateral.proofs.Grown.{IsCentre-with_last, IsCentre-with_further, IsTable-last}
use Rattle.bilateral.proofs.Grown.{IsControlling-last, IsControlling-same, IsTable-variant}
use Rattle.bilateral.proofs.Grown.{IsControlling-variant, IsTable-with_see, IsTable-with_control}
use Rattle.bilateral.proofs.Grown.{IsControlling-with_control, IsTable-with_slots}
use Rattle.bilateral.proofs.Grown.{IsTable-with_sets, IsTable-with_pending}
use Rattle.bilateral.proofs.Keyed.{keys-with_last}
use Rattle.bilateral.proofs.Stores.{IsCentre-start}
use Rattle.bilateral.proofs.LawfulLines.{line_lawful}

-- lawful rows, and a peer that is there wherever one is
record IsSoFar (s : SoFar) : Type 0 where
  lawful : IsCentre s.rows
  peer : 0 < length s.rows.tables → s.peer < length s.rows.tables

peers_kept : (rows : CentreRows) (peer : ℕ) (table : Table)
    → table.key ≡ (last_table rows peer).key
    → length (with_last rows peer table).tables ≡ length rows.tables
peers_kept rows peer table same =
    sym (length-map (with_last rows peer table).tables (λ (t : Table). t.key))
    ∙ ap length (keys-with_last rows peer table same)
    ∙ length-map rows.tables (λ (t : Table). t.key)

none_is_some : {A : Type 0} (x : A) → None ≡ Some x → ⊥
none_is_some x same = cc

-- rows of which the last table of the peer is another
module _ (s : SoFar) (is : IsSoFar s) (some : 0 < length s.rows.tables) where
  below : s.peer < length s.rows.tables
  below = is.peer some

  last_is : IsTable (length s.rows.points) (current_table s)
  last_is = IsTable-last s.rows is.lawful s.peer below

  last_controlling : IsControlling (length s.rows.devices) (current_table s)
  last_controlling = IsControlling-last s.rows is.lawful s.peer below

  with_table : (new : SoFar) (table : Table) → new.rows ≡ with_last s.rows s.peer table
      → new.peer ≡ s.peer → table.key ≡ (current_table s).key
      → table.title ≡ (current_table s).title
      → (0 < length (further_of s.rows s.peer) → table.pending ≡ (current_table s).pending)
      → IsTable (length s.rows.points) table → IsControlling (length s.rows.devices) table
      → IsSoFar new
  with_table new table rows peer key title pending is_table is_controlling =
      let long = peers_kept s.rows s.peer table key in
      record {
        lawful = subst IsCentre (sym rows)
            (IsCentre-with_last s.rows s.peer table is.lawful below is_table is_controlling key
            title pending);
        peer = λ any. omega (
          arith,
          peer,
          long,
          ap (λ (rs : CentreRows). length rs.tables) rows,
        );
      }

  with_limit : (new : SoFar) (table : Table) → new.rows ≡ with_last s.rows s.peer table
      → new.peer ≡ s.peer → table.key ≡ (current_table s).key
      → table.title ≡ (current_table s).title
      → (0 < length (further_of s.rows s.peer) → table.pending ≡ (current_table s).pending)
      → table.controls ≡ (current_table s).controls
      → IsTable (length s.rows.points) table → IsSoFar new
  with_limit new table rows peer key title pending controls is_table =
      with_table new table rows peer key title pending is_table
      (IsControlling-same (length s.rows.devices) (current_table s) table controls last_controlling)

variant_kept : (s : SoFar) → IsSoFar s → (key domain id : List ℕ)
    → IsLawfulLine (Variant key domain id) → row_fault s (Variant key domain id) ≡ None
    → IsSoFar (with_row s (Variant key domain id))
variant_kept s is key domain id lawful none =
    let new = IsNewVariant-from_no_fault s key domain id none in
    let peer = new.0 in
    let known = new.1.known in
    let own = table_of s.rows peer in
    let below = (position-Some _ s.rows.tables peer own known).0 in
    let is_own =
    All-get_or (IsTable (length s.rows.points)) s.rows.tables peer no_table below
    is.lawful.tables in
    subst (λ n. IsSoFar (varied s.rows n domain id)) (sym (ap (λ o. unwrap_or o 0) known))
    (record {
      lawful = IsCentre-with_further s.rows peer (new_variant own domain id) is.lawful below
          new.1.room
          (IsTable-variant (length s.rows.points) own domain id is_own lawful.1 lawful.2)
          (IsControlling-variant (length s.rows.devices) own domain id)
          (record { key = refl; title = refl; pending = refl });
      peer = λ any. below;
    })

see_kept : (s : SoFar) → IsSoFar s → (name : List ℕ) (vmd : Bool)
    (layout : Option (List Component)) → IsLawfulLine (See name vmd layout)
    → row_fault s (See name vmd layout) ≡ None → IsSoFar (with_row s (See name vmd layout))
see_kept s is name vmd layout lawful none =
    let found = IsNewSee-from_no_fault s name vmd layout none in
    let new = found.2 in
    let row : SeeRow = record {
      point = unwrap_or (place_of_point s.rows name) 0;
      vmd = vmd;
      layout = unwrap_or layout [];
    } in
    let same : row.point ≡ found.0 = ap (λ o. unwrap_or o 0) new.known in
    let below : found.0 < length s.rows.points =
    (position-Some _ s.rows.points found.0 no_point new.known).0 in
    let is_layout : IsLayout row.layout =
    subst IsLayout (sym (ap (λ o. unwrap_or o []) new.shown))
    (subst (λ o. IfSome o IsLayout) new.shown lawful) in
    with_table s is new.some_table (with_row s (See name vmd layout))
    (with_see (current_table s) row) refl refl refl refl (λ further. refl)
    (IsTable-with_see (length s.rows.points) (current_table s) row
    (last_is s is new.some_table) (omega (arith, same, below))
    (ap (place_of_see (current_table s)) same ∙ new.fresh) new.room is_layout)
    (IsControlling-same (length s.rows.devices) (current_table s)
    (with_see (current_table s) row) refl (last_controlling s is new.some_table))

control_kept : (s : SoFar) → IsSoFar s → (name : List ℕ) (tag : Bool)
    → row_fault s (Control name tag) ≡ None → IsSoFar (with_row s (Control name tag))
control_kept s is name tag none =
    let found = IsNewControl-from_no_fault s name tag none in
    let new = found.1 in
    let row : ControlRow =
    record { device = unwrap_or (place_of_device s.rows name) 0; tag = tag } in
    let same : row.device ≡ found.0 = ap (λ o. unwrap_or o 0) new.known in
    let below : found.0 < length s.rows.devices =
    (position-Some _ s.rows.devices found.0 no_device new.known).0 in
    with_table s is new.some_table (with_row s (Control name tag))
    (with_control (current_table s) row) refl refl refl refl (λ further. refl)
    (IsTable-with_control (length s.rows.points) (current_table s) row
    (last_is s is new.some_table))
    (IsControlling-with_control (length s.rows.devices) (current_table s) row
    (last_controlling s is new.some_table) (omega (arith, same, below))
    (ap (place_of_control (current_table s)) same ∙ new.fresh) new.room)

-- a line that can be taken
kept : (s : SoFar) → IsSoFar s → (line : TableLine) → IsLawfulLine line → row_fault s line ≡ None
    → IsSoFar (with_row s line)
kept s is (Point point) lawful none =
    let new = IsNewPoint-from_no_fault s point none in
    record { lawful = IsCentre-with_point s.rows point is.lawful lawful new; peer = is.peer }
kept s is (Device device) lawful none =
    let new = IsNewDevice-from_no_fault s device none in
    record { lawful = IsCentre-with_device s.rows device is.lawful lawful new; peer = is.peer }
kept s is (Peer table) lawful none =
    let new = IsNewPeer-from_no_fault s table none in
    record {
      lawful = IsCentre-with_peer s.rows table is.lawful lawful new;
      peer = λ any. omega (arith, length_push s.rows.tables table);
    }
kept s is (Variant key domain id) lawful none = variant_kept s is key domain id lawful none
kept s is (Slots None) lawful none =
    absurd (none_is_some _ (limit_taken s.rows s.given.slots None none).2)
kept s is (Slots (Some n)) lawful none =
    let some = (limit_taken s.rows s.given.slots (Some n) none).0 in
    with_limit s is some (with_row s (Slots (Some n))) (with_slots (current_table s) n) refl refl
    refl refl (λ further. refl) refl
    (IsTable-with_slots (length s.rows.points) (current_table s) n (last_is s is some) lawful.0
    lawful.1)
kept s is (Sets None) lawful none =
    absurd (none_is_some _ (limit_taken s.rows s.given.sets None none).2)
kept s is (Sets (Some n)) lawful none =
    let some = (limit_taken s.rows s.given.sets (Some n) none).0 in
    with_limit s is some (with_row s (Sets (Some n))) (with_sets (current_table s) n) refl refl
    refl refl (λ further. refl) refl
    (IsTable-with_sets (length s.rows.points) (current_table s) n (last_is s is some) lawful.0
    lawful.1)
kept s is (Pending None) lawful none =
    absurd (none_is_some _ (pending_taken s.rows s.peer s.given.pending None none).3)
kept s is (Pending (Some n)) lawful none =
    let taken = pending_taken s.rows s.peer s.given.pending (Some n) none in
    with_limit s is taken.0 (with_row s (Pending (Some n))) (with_pending (current_table s) n)
    refl refl refl refl (λ further. absurd (omega (arith, taken.1))) refl
    (IsTable-with_pending (length s.rows.points) (current_table s) n (last_is s is taken.0)
    lawful.0 lawful.1)
kept s is (See name vmd layout) lawful none = see_kept s is name vmd layout lawful none
kept s is (Control name tag) lawful none = control_kept s is name tag none

unless_kept : (s : SoFar) → IsSoFar s → (line : TableLine) → IsLawfulLine line
    → (why : Option TableWhy) → row_fault s line ≡ why
    → IfOk (unless why (with_row s line)) IsSoFar
unless_kept s is line lawful None none = kept s is line lawful none
unless_kept s is line lawful (Some why) some = tt

said_kept : (s : SoFar) → IsSoFar s → (said : Option TableLine) → IfSome said IsLawfulLine
    → IfOk (after_said s said) IsSoFar
said_kept s is None lawful = tt
said_kept s is (Some line) lawful = unless_kept s is line lawful (row_fault s line) refl

line_kept : (s : SoFar) → IsSoFar s → (line : List ℕ) → (skipped : Bool)
    → IfOk (cond skipped (Ok s) (after_said s (line_in line))) IsSoFar
line_kept s is line true = is
line_kept s is line false = said_kept s is (line_in line) (line_lawful line)

going_on : (number : ℕ) (next : SoFar → Result CentreRows TableFault)
    → ((s : SoFar) → IsSoFar s → IfOk (next s) IsCentre) → (r : Result SoFar TableWhy)
    → IfOk r IsSoFar → IfOk (and_go_on number r next) IsCentre
going_on number next goes (Ok s) is = goes s is
going_on number next goes (Err why) is = tt

lines_kept : (texts : List (List ℕ)) (s : SoFar) → IsSoFar s → (number : ℕ)
    → IfOk (after_lines s number texts) IsCentre
lines_kept [] s is number = is.lawful
lines_kept (line ∷ more) s is number =
    going_on number (λ next. after_lines next (next_number number) more)
    (λ next kept. lines_kept more next kept (next_number number)) (after_line s line)
    (line_kept s is line (is_skipped line))

-- what is read of a text is lawful
pub centre_lawful : (text : List ℕ) (rows : CentreRows) → centre_in text ≡ Ok rows → IsCentre rows
centre_lawful text rows found =
    subst (λ r. IfOk r IsCentre) found
    (lines_kept (lines text) at_start
    (record { lawful = IsCentre-start; peer = λ some. absurd (omega arith) }) 1)
