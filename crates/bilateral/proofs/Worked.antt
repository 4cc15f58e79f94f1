-- The definitions computed on worked tables, apart from all code: what a text of every form spells,
-- and a first bad line for each reason.
use Rattle.std.proofs.Common.{◌≡◌, ℕ, true, false, not, List, [], ◌∷◌, ◌++◌, filter, Option, Some, None}
use Rattle.std.proofs.Common.{refl}
use Rattle.std.specs.Prelude.{codes, Result, Ok, Err, pos, negsuc, replicate}
use Rattle.std.specs.Option.{option_map}
use Rattle.std.specs.Str.Lines.{lines}
use Rattle.plain_text.specs.Lines.{is_skipped}
use Rattle.plain_text.specs.Words.{each_in}
use Rattle.std.specs.List.{flat_map}
use Rattle.tase_points.specs.declared.kind.Kind.TheVariants.{State, Discrete, Real}
use Rattle.tase_points.specs.declared.layout.Component.TheVariants.{Value, Time, Flags, Cov}
use Rattle.sbo_device.specs.declared.kind.CommandKind.TheVariants.{Command, Setpoint}
use Rattle.bilateral.specs.declared.fault.TableFault.{TableFault}
use Rattle.bilateral.specs.declared.fault.TableWhy.{TableWhy}
use Rattle.bilateral.specs.declared.fault.TableWhy.TheVariants.{Word, Again, Unknown, Limit, Place}
use Rattle.bilateral.specs.declared.line.TableLine.TheVariants.{Variant}
use Rattle.bilateral.specs.declared.rows.See.{See as SeeRow}
use Rattle.bilateral.specs.declared.rows.Control.{Control as ControlRow}
use Rattle.bilateral.specs.declared.rows.Table.{Table}
use Rattle.bilateral.specs.Rows.{CentreRows, no_table}
use Rattle.bilateral.specs.Lines.{line_in}
use Rattle.bilateral.specs.Reasons.{row_fault, nothing_given}
use Rattle.bilateral.specs.Reading.{centre_in}
use Rattle.std.specs.Fmt.{digits}
use Rattle.bilateral.specs.Spelling.{Spells, told}
use Rattle.bilateral.specs.Writing.{tables_text, title_word}
use Rattle.bilateral.proofs.Spelled.{spells-if}

-- lines, each with its end
abbrev text_of : List (List ℕ) → List ℕ
text_of texts = flat_map (λ line. line ++ 10 ∷ []) texts

abbrev tables : List ℕ
tables =
    text_of (codes "point BUS1 state" ∷ codes "point LOAD1 discrete" ∷ codes "point FREQ1 real"
    ∷ codes "device BRK1 command sbo 77 30000" ∷ codes "device CAP1 command direct"
    ∷ codes "peer A 1.1.999.1 DOMA TBLA" ∷ codes "slots 1" ∷ codes "see BUS1 domain value"
    ∷ codes "see LOAD1 domain value,cov" ∷ codes "control BRK1 tag"
    ∷ codes "peer B 1.1.999.2 DOMB TBLB" ∷ codes "see BUS1 domain value,time"
    ∷ codes "see LOAD1 domain value,flags" ∷ codes "see FREQ1 vmd value" ∷ codes "control BRK1"
    ∷ codes "control CAP1" ∷ [])

abbrev centre : CentreRows
centre = record {
  points = (record { name = codes "BUS1"; kind = State })
      ∷ (record { name = codes "LOAD1"; kind = Discrete })
      ∷ (record { name = codes "FREQ1"; kind = Real }) ∷ [];
  devices = (record {
    name = codes "BRK1";
    kind = Command;
    direct = false;
    checkback = pos 77;
    span = 30000;
  })
      ∷ (record {
        name = codes "CAP1";
        kind = Command;
        direct = true;
        checkback = pos 0;
        span = 0;
      })
      ∷ [];
  tables = (record {
    key = codes "A";
    title = Some (41 ∷ 135 ∷ 103 ∷ 1 ∷ []);
    domain = codes "DOMA";
    id = codes "TBLA";
    sees = (record { point = 0; vmd = false; layout = Value ∷ [] })
        ∷ (record { point = 1; vmd = false; layout = Value ∷ Cov ∷ [] }) ∷ [];
    controls = (record { device = 0; tag = true }) ∷ [];
    slots = 1;
    sets = 64;
    pending = 1048576;
  })
      ∷ (record {
        key = codes "B";
        title = Some (41 ∷ 135 ∷ 103 ∷ 2 ∷ []);
        domain = codes "DOMB";
        id = codes "TBLB";
        sees = (record { point = 0; vmd = false; layout = Value ∷ Time ∷ [] })
            ∷ (record { point = 1; vmd = false; layout = Value ∷ Flags ∷ [] })
            ∷ (record { point = 2; vmd = true; layout = Value ∷ [] }) ∷ [];
        controls = (record { device = 0; tag = false }) ∷ (record { device = 1; tag = false }) ∷ [];
        slots = 8;
        sets = 64;
        pending = 1048576;
      })
      ∷ [];
  variants = [] ∷ [] ∷ [];
}

-- the tables of two neighbours are read whole
tables-read : centre_in tables ≡ Ok centre
tables-read = refl

tables-spelled : Spells tables centre
tables-spelled = spells-if tables centre tables-read

-- the other forms
abbrev more_forms : List ℕ
more_forms =
    text_of (codes "# limits" ∷ [] ∷ codes "device TAP1 setpoint -5 7 sbo 1 86400000"
    ∷ codes "peer K * D T" ∷ codes "sets 2" ∷ codes "pending 1024" ∷ codes "slots 16" ∷ [])

more_forms-read : centre_in more_forms
    ≡ Ok
    (record {
      points = [];
      devices = (record {
        name = codes "TAP1";
        kind = Setpoint (negsuc 4) (pos 7);
        direct = false;
        checkback = pos 1;
        span = 86400000;
      })
          ∷ [];
      tables = (record {
        key = codes "K";
        title = None;
        domain = codes "D";
        id = codes "T";
        sees = [];
        controls = [];
        slots = 16;
        sets = 2;
        pending = 1024;
      })
          ∷ [];
      variants = [] ∷ [];
    })
more_forms-read = refl

abbrev bad : TableWhy → ℕ → Result CentreRows TableFault
bad why line = Err (record { line = line; why = why })

-- each reason, and the first of several
reasons : (centre_in (text_of (codes "point BUS1" ∷ [])) ≡ bad Word 1)
    × (centre_in (text_of (codes "see BUS1 domain value" ∷ [])) ≡ bad Place 1)
    × (centre_in
    (text_of (codes "point P state" ∷ codes "peer K * D T" ∷ codes "see Q vmd value,value" ∷ []))
    ≡ bad Unknown 3)
    × (centre_in (text_of (codes "point P state" ∷ codes "device P command sbo 0 0" ∷ []))
    ≡ bad Again 2)
    × (centre_in (text_of (codes "peer K * D T" ∷ codes "slots 17" ∷ [])) ≡ bad Limit 2)
    × (centre_in (text_of (codes "device D command sbo 0 86400001" ∷ [])) ≡ bad Limit 1)
    × (centre_in (text_of (codes "peer K * D T" ∷ codes "slots 0" ∷ [])) ≡ bad Word 2)
    × (centre_in
    (text_of (codes "peer K * D T" ∷ codes "sets 1" ∷ codes "sets 65" ∷ [])) ≡ bad Again 3)
    × (centre_in (text_of (codes "peer K * D T" ∷ codes "peer L * D T" ∷ [])) ≡ bad Again 2)
    × (centre_in (text_of (codes "peer K * D T" ∷ codes "point P state" ∷ [])) ≡ bad Place 2)
reasons = (refl, refl, refl, refl, refl, refl, refl, refl, refl, refl)

-- the written form of these tables, and that it is read back
centre-written : tables_text centre
    ≡ text_of (codes "point BUS1 state" ∷ codes "point LOAD1 discrete" ∷ codes "point FREQ1 real"
    ∷ codes "device BRK1 command sbo 77 30000" ∷ codes "device CAP1 command direct"
    ∷ codes "peer A 1.1.999.1 DOMA TBLA" ∷ codes "slots 1" ∷ codes "sets 64"
    ∷ codes "pending 1048576" ∷ codes "see BUS1 domain value" ∷ codes "see LOAD1 domain value,cov"
    ∷ codes "control BRK1 tag" ∷ codes "peer B 1.1.999.2 DOMB TBLB" ∷ codes "slots 8"
    ∷ codes "sets 64" ∷ codes "pending 1048576" ∷ codes "see BUS1 domain value,time"
    ∷ codes "see LOAD1 domain value,flags" ∷ codes "see FREQ1 vmd value" ∷ codes "control BRK1"
    ∷ codes "control CAP1" ∷ [])
unfolding digits
centre-written = refl

centre-read_back : centre_in (tables_text centre) ≡ Ok centre
unfolding digits
centre-read_back = refl

-- titles by their octets: arcs of one digit in base 128 and of more, the least and the largest
titles-written : (title_word None ≡ codes "*") × (title_word (Some (0 ∷ [])) ≡ codes "0.0")
    × (title_word (Some (119 ∷ 127 ∷ 129 ∷ 0 ∷ 129 ∷ 128 ∷ 0 ∷ 135 ∷ 255 ∷ 255 ∷ 255 ∷ 127 ∷ []))
    ≡ codes "2.39.127.128.16384.2147483647")
    × (title_word (Some (40 ∷ 0 ∷ 255 ∷ 127 ∷ 129 ∷ 0 ∷ 1 ∷ [])) ≡ codes "1.0.0.16383.128.1")
unfolding digits
titles-written = (refl, refl, refl, refl)

-- devices and points by turns: the written form has the points first, and spells the same rows
abbrev mixed : List ℕ
mixed =
    text_of (codes "device D2 command direct" ∷ codes "point P state" ∷ codes "# a remark"
    ∷ codes "device D1 command direct" ∷ codes "point A real" ∷ codes "peer K * D T" ∷ [])

abbrev mixed_rows : CentreRows
mixed_rows = record {
  points = (record { name = codes "P"; kind = State })
      ∷ (record { name = codes "A"; kind = Real }) ∷ [];
  devices = (record {
    name = codes "D2";
    kind = Command;
    direct = true;
    checkback = pos 0;
    span = 0;
  })
      ∷ (record { name = codes "D1"; kind = Command; direct = true; checkback = pos 0; span = 0 })
      ∷ [];
  tables = (record {
    key = codes "K";
    title = None;
    domain = codes "D";
    id = codes "T";
    sees = [];
    controls = [];
    slots = 8;
    sets = 64;
    pending = 1048576;
  })
      ∷ [];
  variants = [] ∷ [];
}

mixed-read : centre_in mixed ≡ Ok mixed_rows
mixed-read = refl

mixed-written : tables_text mixed_rows
    ≡ text_of (codes "point P state" ∷ codes "point A real" ∷ codes "device D2 command direct"
    ∷ codes "device D1 command direct" ∷ codes "peer K * D T" ∷ codes "slots 8" ∷ codes "sets 64"
    ∷ codes "pending 1048576" ∷ [])
unfolding digits
mixed-written = refl

-- a further table of the first peer behind the second: the row that it names, its own limits, and
-- the first peer's title and pending octets
abbrev varied_tables : List ℕ
varied_tables =
    text_of (codes "point P state" ∷ codes "device D command direct" ∷ codes "peer A * DA TA"
    ∷ codes "pending 1024" ∷ codes "slots 2" ∷ codes "peer B 1.1.999.2 DB TB" ∷ codes "see P vmd value"
    ∷ codes "variant A DX TX" ∷ codes "sets 3" ∷ codes "see P domain value" ∷ codes "control D"
    ∷ codes "variant B DB TB" ∷ codes "variant A DX TX" ∷ [])

abbrev table_by : List ℕ → Option (List ℕ) → List ℕ → List ℕ → List SeeRow → List ControlRow → ℕ → ℕ
    → ℕ → Table
table_by key title domain id sees controls slots sets pending = record {
  key = key;
  title = title;
  domain = domain;
  id = id;
  sees = sees;
  controls = controls;
  slots = slots;
  sets = sets;
  pending = pending;
}

abbrev varied_rows : CentreRows
varied_rows = record {
  points = (record { name = codes "P"; kind = State }) ∷ [];
  devices = (record {
    name = codes "D";
    kind = Command;
    direct = true;
    checkback = pos 0;
    span = 0;
  })
      ∷ [];
  tables = table_by (codes "A") None (codes "DA") (codes "TA") [] [] 2 64 1024
      ∷ table_by (codes "B") (Some (41 ∷ 135 ∷ 103 ∷ 2 ∷ [])) (codes "DB") (codes "TB")
      ((record { point = 0; vmd = true; layout = Value ∷ [] }) ∷ []) [] 8 64 1048576
      ∷ [];
  variants = (table_by (codes "A") None (codes "DX") (codes "TX")
      ((record { point = 0; vmd = false; layout = Value ∷ [] }) ∷ [])
      ((record { device = 0; tag = false }) ∷ []) 8 3 1024
      ∷ table_by (codes "A") None (codes "DX") (codes "TX") [] [] 8 64 1024 ∷ [])
      ∷ (table_by (codes "B") (Some (41 ∷ 135 ∷ 103 ∷ 2 ∷ [])) (codes "DB") (codes "TB") [] [] 8 64
      1048576
      ∷ [])
      ∷ [];
}

varied-read : centre_in varied_tables ≡ Ok varied_rows
varied-read = refl

varied-spelled : Spells varied_tables varied_rows
varied-spelled = spells-if varied_tables varied_rows varied-read

varied-written : tables_text varied_rows
    ≡ text_of (codes "point P state" ∷ codes "device D command direct" ∷ codes "peer A * DA TA"
    ∷ codes "slots 2" ∷ codes "sets 64" ∷ codes "pending 1024" ∷ codes "variant A DX TX"
    ∷ codes "slots 8" ∷ codes "sets 3" ∷ codes "see P domain value" ∷ codes "control D"
    ∷ codes "variant A DX TX" ∷ codes "slots 8" ∷ codes "sets 64"
    ∷ codes "peer B 1.1.999.2 DB TB" ∷ codes "slots 8" ∷ codes "sets 64" ∷ codes "pending 1048576"
    ∷ codes "see P vmd value" ∷ codes "variant B DB TB" ∷ codes "slots 8" ∷ codes "sets 64" ∷ [])
unfolding digits
varied-written = refl

-- what such lines say as a function of all of them, and by the reader line by line
varied-told : option_map (λ said. (told said).rows)
    (each_in line_in (filter (λ line. not (is_skipped line)) (lines varied_tables)))
    ≡ Some varied_rows
varied-told = refl

-- the reasons against variants: a peer that isn't there, at the start too; pending octets behind
-- one; each limit once a table; a word that is no identifier. None is there already
reasons_of_variants : (centre_in (text_of (codes "variant A D T" ∷ [])) ≡ bad Unknown 1)
    × (centre_in (text_of (codes "peer A * D T" ∷ codes "variant B D T" ∷ [])) ≡ bad Unknown 2)
    × (centre_in
    (text_of (codes "peer A * D T" ∷ codes "variant A D T" ∷ codes "pending 1024" ∷ []))
    ≡ bad Place 3)
    × (centre_in
    (text_of (codes "peer A * D T" ∷ codes "slots 1" ∷ codes "variant A D T" ∷ codes "slots 2"
    ∷ codes "slots 2" ∷ [])) ≡ bad Again 5)
    × (centre_in (text_of (codes "peer A * D T" ∷ codes "variant A D T T" ∷ [])) ≡ bad Word 2)
    × (centre_in (text_of (codes "peer A * D T" ∷ codes "variant A D-1 T" ∷ [])) ≡ bad Word 2)
    × (centre_in
    (text_of (codes "peer A * D T" ∷ codes "variant A D T" ∷ codes "point P state" ∷ []))
    ≡ bad Place 3)
reasons_of_variants = (refl, refl, refl, refl, refl, refl, refl)

-- a peer with so many further tables
abbrev peer_with : List Table → CentreRows
peer_with further = record {
  points = [];
  devices = [];
  tables = table_by (codes "A") None (codes "D") (codes "T") [] [] 8 64 1048576 ∷ [];
  variants = further ∷ [];
}

-- a fifteenth further table may stand, a sixteenth not
limit_of_variants : (row_fault
    (record { rows = peer_with (replicate 14 no_table); peer = 0; given = nothing_given })
    (Variant (codes "A") (codes "D") (codes "T")) ≡ None)
    × (row_fault
    (record { rows = peer_with (replicate 15 no_table); peer = 0; given = nothing_given })
    (Variant (codes "A") (codes "D") (codes "T")) ≡ Some Limit)
limit_of_variants = (refl, refl)
