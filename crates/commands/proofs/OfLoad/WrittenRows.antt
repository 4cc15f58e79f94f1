-- The written form of the load run's rows is the text of its tables.
use Rattle.std.proofs.Common.{◌≡◌, ℕ, zero, suc, ◌+◌, ◌-◌, ◌*◌, ◌<◌, leb, List, [], ◌∷◌, ◌++◌, map}
use Rattle.std.proofs.Common.{Some, refl, sym, ap, subst, ◌∙◌, arith, append_assoc, add-one}
use Rattle.std.specs.Prelude.{decimal, codes, zip, Ok}
use Rattle.std.specs.Fmt.{digits}
use Rattle.std.specs.List.{flat_map, join_with_byte}
use Rattle.std.specs.Str.Lines.{lines}
use Rattle.std.proofs.lemmas.Bool.{cond-false, lt-leb}
use Rattle.std.proofs.lemmas.List.{append-nil}
use Rattle.std.proofs.lemmas.List.Folds.{flat_map-map}
use Rattle.std.proofs.lemmas.List.FromFn.{map-range_with_len_more}
use Rattle.std.proofs.lemmas.Grind.{flat_map-append}
use Rattle.bilateral.specs.declared.line.TableLine.{TableLine}
use Rattle.bilateral.specs.declared.line.TableLine.TheVariants.{Point, Slots, Sets, Pending, Peer}
use Rattle.bilateral.specs.declared.rows.PointRow.{PointRow}
use Rattle.bilateral.specs.declared.rows.TheConstants.{SET_DEFAULT, PENDING_DEFAULT}
use Rattle.bilateral.specs.declared.rows.Table.{Table}
use Rattle.bilateral.specs.Rows.{no_point}
use Rattle.bilateral.specs.Spelling.{PeerTables, Spells}
use Rattle.bilateral.specs.Writing.{line_text, lines_text, tables_text, see_line_of, peer_lines}
use Rattle.bilateral.specs.Writing.{centre_lines, table_lines, empty_table, title_word, arcs_behind}
use Rattle.bilateral.proofs.Growing.{centre_told}
use Rattle.bilateral.proofs.LineTexts.{lines_read}
use Rattle.bilateral.proofs.Spelled.{spelled-found}
use Rattle.bilateral.proofs.WrittenCentres.{centre_writable}
use Rattle.commands.specs.declared.load.tables.TheConstants.{POINTS, PEERS, SEEN}
use Rattle.commands.specs.Files.Tables.{tables_in, centre_or_line}
use Rattle.commands.specs.Load.Generated.{each_below, load_point, load_peer, load_sight, peer_head}
use Rattle.commands.specs.Load.Generated.{load_limits, load_tables, seen_point}
use Rattle.commands.specs.Load.Rows.{list_below, load_point_row, load_see, load_table, load_rows}
use Rattle.commands.proofs.OfLoad.LoadRows.{list_below-at, none_of, load_rows_lawful}

-- with one number more
list_below-more : {A : Type 0} (item : ℕ → A) (n : ℕ)
    → list_below item (suc n) ≡ list_below item n ++ item n ∷ []
unfolding list_below
list_below-more item n =
    ap (λ k. list_below item k) (sym (add-one n)) ∙ map-range_with_len_more item 0 n n (omega arith)

-- items whose texts are those of their numbers
pub each_written : {A : Type 0} (write : A → List ℕ) (item : ℕ → A) (text : ℕ → List ℕ) (n : ℕ)
    → ((k : ℕ) → k < n → write (item k) ≡ text k)
    → flat_map write (list_below item n) ≡ each_below text n
unfolding each_below list_below
each_written write item text zero same = refl
each_written write item text (suc n) same =
    ap (flat_map write) (list_below-more item n)
    ∙ flat_map-append write (list_below item n) (item n ∷ [])
    ∙ ap (λ ts. ts ++ (write (item n) ++ []))
    (each_written write item text n (λ k below. same k (omega (arith, below))))
    ∙ ap (λ t. each_below text n ++ t) (append-nil (write (item n)) ∙ same n (omega arith))

-- a line and its end
abbrev ended : TableLine → List ℕ
ended line = line_text line ++ 10 ∷ []

one-is : decimal 1 ≡ codes "1"
unfolding digits
one-is = refl

nines-are : decimal 998 ≡ codes "998"
unfolding digits
nines-are = refl

limits-written : ended (Slots (Some 1)) ++ (ended (Sets (Some SET_DEFAULT))
    ++ ended (Pending (Some PENDING_DEFAULT))) ≡ load_limits
unfolding digits
limits-written = refl

title-written : (t : ℕ) → t < 128
    → title_word (Some (41 ∷ 135 ∷ 102 ∷ t ∷ [])) ≡ codes "1.1.998." ++ decimal t
title-written t small =
    ap (λ (arcs : List ℕ). join_with_byte 46 (map decimal (1 ∷ 1 ∷ 998 ∷ arcs)))
    (cond-false (leb 128 t) (arcs_behind (0 * 128 + (t - 128)) []) ((0 * 128 + t) ∷ [])
    (lt-leb 128 t small)
    ∙ ap (λ n. n ∷ []) (let same : 0 * 128 + t ≡ t = omega arith in same))
    ∙ ap (λ one. one ++ (46 ∷ (one ++ (46 ∷ (decimal 998 ++ 46 ∷ decimal t))))) one-is
    ∙ ap (λ nines. codes "1.1." ++ (nines ++ 46 ∷ decimal t)) nines-are

peer-written : (k : ℕ) → k < PEERS → ended (Peer (empty_table (load_table k))) ≡ peer_head k
peer-written k known =
    ap (λ title. codes "peer K" ++ (decimal k ++ (32 ∷ (title ++ (32 ∷ 68 ∷ (decimal k
    ++ 32 ∷ 84 ∷ decimal k))))) ++ 10 ∷ []) (title-written (k + 1) (omega (arith, known)))
    ∙ simp append_assoc

see-written : (k j : ℕ) → ended (see_line_of load_rows (load_see k j)) ≡ load_sight k j
see-written k j =
    ap (λ (row : PointRow). codes "see " ++ (row.name ++ codes " domain value") ++ 10 ∷ [])
    (list_below-at load_point_row POINTS (seen_point k j) no_point (omega arith))
    ∙ simp append_assoc

pieces : (a b c d e : List ℕ) → a ++ (b ++ (c ++ (d ++ e))) ≡ (a ++ (b ++ (c ++ d))) ++ e
pieces a b c d e = simp append_assoc

table-written : (k : ℕ) → k < PEERS
    → lines_text (peer_lines load_rows (load_table k, [])) ≡ load_peer k
table-written k known =
    let sees = (load_table k).sees in
    let rows = map (see_line_of load_rows) sees in
    ap (flat_map ended) (append-nil (table_lines load_rows (load_table k)))
    ∙ ap (λ rs. ended (Peer (empty_table (load_table k))) ++ (ended (Slots (Some 1))
    ++ (ended (Sets (Some SET_DEFAULT)) ++ (ended (Pending (Some PENDING_DEFAULT)) ++ rs))))
    (ap (flat_map ended) (append-nil rows)
    ∙ flat_map-map ended (see_line_of load_rows) sees
    ∙ each_written (λ see. ended (see_line_of load_rows see)) (load_see k) (load_sight k) SEEN
    (λ j below. see-written k j))
    ∙ pieces (ended (Peer (empty_table (load_table k)))) (ended (Slots (Some 1)))
    (ended (Sets (Some SET_DEFAULT))) (ended (Pending (Some PENDING_DEFAULT)))
    (each_below (load_sight k) SEEN)
    ∙ ap (λ limits. (ended (Peer (empty_table (load_table k))) ++ limits)
    ++ each_below (load_sight k) SEEN) limits-written
    ∙ ap (λ head. (head ++ load_limits) ++ each_below (load_sight k) SEEN) (peer-written k known)

-- tables beside no further ones
abbrev alone : Table → PeerTables
alone table = (table, [])

zip-alone : (tables : List Table) → zip tables (map none_of tables) ≡ map alone tables
zip-alone [] = refl
zip-alone (table ∷ tables) = ap (λ rest. alone table ∷ rest) (zip-alone tables)

peers-written : (tables : List Table)
    → lines_text (flat_map (peer_lines load_rows) (map alone tables))
    ≡ flat_map (λ table. lines_text (peer_lines load_rows (alone table))) tables
peers-written [] = refl
peers-written (table ∷ tables) =
    flat_map-append ended (peer_lines load_rows (alone table))
    (flat_map (peer_lines load_rows) (map alone tables))
    ∙ ap (λ rest. lines_text (peer_lines load_rows (alone table)) ++ rest) (peers-written tables)

pub load_tables-written : tables_text load_rows ≡ load_tables
load_tables-written =
    flat_map-append ended (map Point load_rows.points)
    (flat_map (peer_lines load_rows) (zip load_rows.tables load_rows.variants))
    ∙ ap (λ points. points
    ++ lines_text (flat_map (peer_lines load_rows) (zip load_rows.tables load_rows.variants)))
    (flat_map-map ended Point load_rows.points
    ∙ each_written (λ row. ended (Point row)) load_point_row load_point POINTS (λ m below. refl))
    ∙ ap (λ peers. each_below load_point POINTS ++ peers)
    (ap (λ zs. lines_text (flat_map (peer_lines load_rows) zs)) (zip-alone load_rows.tables)
    ∙ peers-written load_rows.tables
    ∙ each_written (λ table. lines_text (peer_lines load_rows (alone table))) load_table load_peer
    PEERS (λ k below. table-written k below))

-- so these rows are read
pub load_tables-read : tables_in load_tables ≡ Ok load_rows
load_tables-read =
    let told = centre_told load_rows load_rows_lawful in
    ap centre_or_line
    (spelled-found (lines load_tables) load_rows
    (subst (λ text. Spells text load_rows) load_tables-written
    (record {
      said = centre_lines load_rows;
      spelled = record {
        forms = lines_read (centre_lines load_rows) (centre_writable load_rows load_rows_lawful);
        stand = told.0;
      };
      says = sym told.1;
    })))
