-- Lines that stand keep the keys of peers different, and a variant's key one of them.
use Rattle.std.proofs.Common.{◌≡◌, ◌≢◌, ℕ, ◌<◌, true, false, List, [], ◌∷◌, ◌++◌, length, map}
use Rattle.std.proofs.Common.{get_or, AllPairs, Option, Some, None, position, refl, sym, ap, subst}
use Rattle.std.proofs.Common.{◌∙◌, arith, bytes_eq}
use Rattle.std.proofs.Math.Seq.{map-set_same}
use Rattle.std.proofs.lemmas.List.{map-append, length-map, get_or-map}
use Rattle.bilateral.specs.declared.line.TableLine.{TableLine}
use Rattle.bilateral.specs.declared.line.TableLine.TheVariants.{Point, Device, Peer, Slots, Sets}
use Rattle.bilateral.specs.declared.line.TableLine.TheVariants.{Pending, See, Control, Variant}
use Rattle.bilateral.specs.declared.rows.Table.{Table}
use Rattle.bilateral.specs.Rows.{CentreRows, no_table, table_of, further_of, place_of_peer}
use Rattle.bilateral.specs.Reading.{SoFar, row_fault, with_row, with_last, with_last_of, last_table}
use Rattle.bilateral.specs.Spelling.{told, sections, TableSection, last_or, last_begun, begins_table}
use Rattle.bilateral.proofs.Names.{position-mapped}
use Rattle.bilateral.proofs.Taken.{IsNewPeer-from_no_fault, IsNewVariant-from_no_fault}
use Rattle.bilateral.proofs.Sections.{on_last, with_own, sections-push_line, sections-push_begun}
use Rattle.bilateral.proofs.Sections.{last_or-push}
use Rattle.bilateral.proofs.Grown.{still_differ, same_octets}
use Rattle.bilateral.proofs.Told.{Keyed, told-push}

abbrev pub keys_of : List Table → List (List ℕ)
keys_of tables = map (λ (t : Table). t.key) tables

key_at : (tables : List Table) (k : ℕ) (d : Table) → k < length tables
    → get_or (keys_of tables) k [] ≡ (get_or tables k d).key
key_at tables k d below = get_or-map (λ (t : Table). t.key) tables k d [] below

-- tables with the same keys
unique_by_keys : (old new : List Table) → keys_of new ≡ keys_of old
    → AllPairs (λ a b. a.key ≢ b.key) old → AllPairs (λ a b. a.key ≢ b.key) new
unique_by_keys old new same pairs = λ i j d before below equal.
    let long : length new ≡ length old =
    omega (
      arith,
      length-map new (λ (t : Table). t.key),
      length-map old (λ (t : Table). t.key),
      ap length same,
    ) in
    pairs i j d before (omega arith)
    (sym (key_at old i d (omega arith)) ∙ ap (λ ks. get_or ks i []) (sym same)
    ∙ key_at new i d (omega arith) ∙ equal ∙ sym (key_at new j d below)
    ∙ ap (λ ks. get_or ks j []) same ∙ key_at old j d (omega arith))

place_by_keys : (old new : List Table) (key : List ℕ) → keys_of new ≡ keys_of old
    → position (λ (t : Table). bytes_eq t.key key) new
    ≡ position (λ (t : Table). bytes_eq t.key key) old
place_by_keys old new key same =
    sym (position-mapped (λ (t : Table). t.key) (λ other. bytes_eq other key)
    (λ t. bytes_eq t.key key) (λ t. refl) new)
    ∙ ap (position (λ other. bytes_eq other key)) same
    ∙ position-mapped (λ (t : Table). t.key) (λ other. bytes_eq other key)
    (λ t. bytes_eq t.key key) (λ t. refl) old

-- another last table with the same key
keys-with_last_of : (rows : CentreRows) (peer : ℕ) (further : List Table) (table : Table)
    → table.key ≡ (last_or (table_of rows peer) further).key
    → keys_of (with_last_of rows peer further table).tables ≡ keys_of rows.tables
keys-with_last_of rows peer [] table same =
    map-set_same (λ (t : Table). t.key) rows.tables peer table no_table same
keys-with_last_of rows peer (x ∷ more) table same = refl

pub keys-with_last : (rows : CentreRows) (peer : ℕ) (table : Table)
    → table.key ≡ (last_table rows peer).key
    → keys_of (with_last rows peer table).tables ≡ keys_of rows.tables
keys-with_last rows peer table same = keys-with_last_of rows peer (further_of rows peer) table same

firsts_kept : (line : TableLine) (parts : List TableSection)
    → map (λ part. Some part.0) (on_last (with_own line) parts)
    ≡ map (λ part. Some part.0) parts
firsts_kept line [] = refl
firsts_kept line (x ∷ []) = refl
firsts_kept line (x ∷ y ∷ more) = ap (λ firsts. Some x.0 ∷ firsts) (firsts_kept line (y ∷ more))

-- with a line more that begins no table
keyed-push_own : (said : List TableLine) (line : TableLine) → Keyed said
    → begins_table line ≡ false
    → keys_of (told (said ++ line ∷ [])).rows.tables ≡ keys_of (told said).rows.tables
    → Keyed (said ++ line ∷ [])
keyed-push_own said line keyed other same =
    let begun : last_begun (sections (said ++ line ∷ [])) ≡ last_begun (sections said) =
    ap last_begun (sections-push_line line other said)
    ∙ ap (last_or None) (firsts_kept line (sections said)) in
    record {
      unique = unique_by_keys (told said).rows.tables (told (said ++ line ∷ [])).rows.tables same
          keyed.unique;
      there = λ key domain id is.
          let found = keyed.there key domain id (sym begun ∙ is) in (
            found.0,
            place_by_keys (told said).rows.tables (told (said ++ line ∷ [])).rows.tables key same
                ∙ found.1,
          );
    }

begun_now : (said : List TableLine) (line : TableLine) → begins_table line ≡ true
    → last_begun (sections (said ++ line ∷ [])) ≡ Some line
begun_now said line begins =
    ap last_begun (sections-push_begun line begins said)
    ∙ ap (last_or None)
    (map-append (λ (part : TableSection). Some part.0) (sections said) ((line, []) ∷ []))
    ∙ last_or-push (map (λ (part : TableSection). Some part.0) (sections said)) (Some line) None

-- the key of a variant
abbrev key_in : Option TableLine → List ℕ
key_in (Some (Variant key domain id)) = key
key_in _ = []

abbrev is_peer : Option TableLine → ℕ
is_peer (Some (Peer table)) = 1
is_peer _ = 0

keyed-push_peer : (said : List TableLine) (table : Table) → Keyed said
    → row_fault (told said) (Peer table) ≡ None → Keyed (said ++ Peer table ∷ [])
keyed-push_peer said table keyed taken =
    let new = IsNewPeer-from_no_fault (told said) table taken in
    record {
      unique = subst (λ (s : SoFar). AllPairs (λ a b. a.key ≢ b.key) s.rows.tables)
          (sym (told-push said (Peer table) keyed taken))
          (still_differ bytes_eq same_octets (λ (t : Table). t.key) (told said).rows.tables table
          keyed.unique new.fresh);
      there = λ key domain id is.
          absurd (omega (arith, ap is_peer (sym (begun_now said (Peer table) refl) ∙ is)));
    }

keyed-push_variant : (said : List TableLine) (key domain id : List ℕ) → Keyed said
    → row_fault (told said) (Variant key domain id) ≡ None
    → Keyed (said ++ Variant key domain id ∷ [])
keyed-push_variant said key domain id keyed taken =
    let new = IsNewVariant-from_no_fault (told said) key domain id taken in
    let same = told-push said (Variant key domain id) keyed taken in
    record {
      unique = subst (λ (s : SoFar). AllPairs (λ a b. a.key ≢ b.key) s.rows.tables) (sym same)
          keyed.unique;
      there = λ other d i is. (
        new.0,
        ap (λ (s : SoFar). place_of_peer s.rows other) same
            ∙ ap (place_of_peer (told said).rows)
            (sym (ap key_in (sym (begun_now said (Variant key domain id) refl) ∙ is)))
            ∙ new.1.known,
      );
    }

-- a line that can be taken
pub keyed-push : (said : List TableLine) (line : TableLine) → Keyed said
    → row_fault (told said) line ≡ None → Keyed (said ++ line ∷ [])
keyed-push said line keyed taken = by line taken (told-push said line keyed taken)
  where
    last : (line : TableLine) → begins_table line ≡ false → (table : Table)
        → table.key ≡ (last_table (told said).rows (told said).peer).key → told (said ++ line ∷ []) ≡ with_row (told said) line
        → (with_row (told said) line).rows ≡ with_last (told said).rows (told said).peer table
        → Keyed (said ++ line ∷ [])
    last line other table same next is =
        keyed-push_own said line keyed other
        (ap (λ (s : SoFar). keys_of s.rows.tables) next
        ∙ ap (λ (rows : CentreRows). keys_of rows.tables) is
        ∙ keys-with_last (told said).rows (told said).peer table same)

    by : (line : TableLine) → row_fault (told said) line ≡ None
        → told (said ++ line ∷ []) ≡ with_row (told said) line → Keyed (said ++ line ∷ [])
    by (Point point) taken next =
        keyed-push_own said (Point point) keyed refl
        (ap (λ (s : SoFar). keys_of s.rows.tables) next)
    by (Device device) taken next =
        keyed-push_own said (Device device) keyed refl
        (ap (λ (s : SoFar). keys_of s.rows.tables) next)
    by (Peer table) taken next = keyed-push_peer said table keyed taken
    by (Variant key domain id) taken next = keyed-push_variant said key domain id keyed taken
    by (Slots number) taken next = last (Slots number) refl _ refl next refl
    by (Sets number) taken next = last (Sets number) refl _ refl next refl
    by (Pending number) taken next = last (Pending number) refl _ refl next refl
    by (See name vmd layout) taken next = last (See name vmd layout) refl _ refl next refl
    by (Control name tag) taken next = last (Control name tag) refl _ refl next refl

-- at the start
pub keyed-start : Keyed []
keyed-start = record {
  unique = λ i j d before below. absurd (omega arith);
  there = λ key domain id is. absurd cc;
}
