-- The centre of the worked moves of a node: two peers, three points, two devices.
use Rattle.std.proofs.Common.{ℕ, List, [], ◌∷◌, None, true, false, pos}
use Rattle.std.specs.Prelude.{codes}
use Rattle.tase_points.specs.declared.kind.Kind.TheVariants.{State, Discrete, Real}
use Rattle.tase_points.specs.declared.body.Body.{Body}
use Rattle.tase_points.specs.declared.layout.Component.TheVariants.{Value, Time, Flags, Cov}
use Rattle.mms_data.specs.Datum.{Datum, integer, bits, text, structure, data_of}
use Rattle.mms_data.specs.declared.object_name.Scope.TheVariants.{Domain}
use Rattle.mms_data.specs.ObjectName.{ObjectName}
use Rattle.bilateral.specs.declared.rows.Table.{Table}
use Rattle.bilateral.specs.Rows.{CentreRows}
use Rattle.sbo_device.specs.declared.key.Key.{Key}
use Rattle.sbo_device.specs.declared.kind.CommandKind.TheVariants.{Command}
use Rattle.transfer_sets.specs.declared.wish.Wish.{Wish}
use Rattle.transfer_sets.specs.Wishes.{empty_wish}
use Rattle.transfer_sets.specs.WishData.{shown_wish}
use Rattle.tase_views.specs.declared.call.CallKind.{CallKind}
use Rattle.tase_views.specs.declared.call.CallKind.TheVariants.{Read, Write}
use Rattle.tase_views.specs.declared.reply.ReplyKind.{ReplyKind}
use Rattle.tase_views.specs.Moves.{Act, reads, writes, defines, Move, acts, updates, tags}
use Rattle.tase_views.specs.OwnTables.{OwnTables, own_tables}
use Rattle.tase_views.specs.View.{View, view_by}
use Rattle.tase_views.specs.Answers.{reply_to}
use Rattle.tase_views.specs.Reports.{reports_pending}
use Rattle.tase_views.specs.declared.reply.ReportKind.{ReportKind}

abbrev pub table_a : Table
table_a =
    record {
      key = codes "A";
      title = None;
      domain = codes "DOMA";
      id = codes "TBLA";
      sees = record { point = 0; vmd = false; layout = Value ∷ [] }
          ∷ record { point = 1; vmd = false; layout = Value ∷ Cov ∷ [] } ∷ [];
      controls = record { device = 0; tag = true } ∷ [];
      slots = 1;
      sets = 64;
      pending = 1048576;
    }

abbrev pub table_b : Table
table_b =
    record {
      key = codes "B";
      title = None;
      domain = codes "DOMB";
      id = codes "TBLB";
      sees = record { point = 0; vmd = false; layout = Value ∷ Time ∷ [] }
          ∷ record { point = 1; vmd = false; layout = Value ∷ Flags ∷ [] }
          ∷ record { point = 2; vmd = true; layout = Value ∷ [] } ∷ [];
      controls = record { device = 0; tag = false } ∷ record { device = 1; tag = false } ∷ [];
      slots = 2;
      sets = 64;
      pending = 1048576;
    }

-- a breaker that is selected for 30 seconds and answers 77, and a capacitor that is direct
abbrev pub rows : CentreRows
rows =
    record {
      points = record { name = codes "BUS1"; kind = State }
          ∷ record { name = codes "LOAD1"; kind = Discrete }
          ∷ record { name = codes "FREQ1"; kind = Real } ∷ [];
      devices =
          record {
            name = codes "BRK1";
            kind = Command;
            direct = false;
            checkback = pos 77;
            span = 30000;
          }
          ∷ record {
            name = codes "CAP1";
            kind = Command;
            direct = true;
            checkback = pos 0;
            span = 0;
          } ∷ [];
      tables = table_a ∷ table_b ∷ [];
      variants = [] ∷ [] ∷ [];
    }

-- the first associations of both
abbrev pub key_a : Key
key_a = record { peer = 0; ordinal = 0 }

abbrev pub key_b : Key
key_b = record { peer = 1; ordinal = 0 }

abbrev pub by_a : Act → Move
by_a act = acts key_a act

abbrev pub by_b : Act → Move
by_b act = acts key_b act

abbrev pub in_a : List ℕ → ObjectName
in_a item = record { scope = Domain (codes "DOMA"); item = item }

abbrev pub in_b : List ℕ → ObjectName
in_b item = record { scope = Domain (codes "DOMB"); item = item }

-- the tables of both, with their devices and transfer sets, and what both see of moves
abbrev pub tables_of : ℕ → OwnTables
tables_of peer = own_tables rows peer

abbrev pub seen_of : ℕ → List Move → View
seen_of peer moves = view_by rows (own_tables rows) peer moves

-- what each is answered behind these moves
abbrev pub told_a : List Move → CallKind → ReplyKind
told_a moves call = reply_to (tables_of 0) (seen_of 0 moves) 0 call

abbrev pub told_b : List Move → CallKind → ReplyKind
told_b moves call = reply_to (tables_of 1) (seen_of 1 moves) 0 call

abbrev pub taken_a : List Move → List ReportKind
taken_a moves = reports_pending (tables_of 0) (seen_of 0 moves) 0

abbrev pub taken_b : List Move → List ReportKind
taken_b moves = reports_pending (tables_of 1) (seen_of 1 moves) 0

abbrev pub read_one : ObjectName → CallKind
read_one name = Read (name ∷ []) false

abbrev pub write_one : ObjectName → Datum → CallKind
write_one name value = Write (name ∷ []) (value ∷ [])

-- a new value of a point, at so many seconds
abbrev pub update : ℕ → Body → ℕ → Move
update point body seconds =
    updates point (record { body = body; flags = 0; seconds = seconds; millis = 0 })

-- an octet as a bit string
abbrev pub octet : ℕ → Datum
octet n = bits (record { count = 8; octets = n ∷ [] })

-- the name of A's transfer set, as data
abbrev pub first_slot : Datum
first_slot =
    structure
    (data_of (integer (pos 1) ∷ text (codes "DOMA") ∷ text (codes "DSTrans1") ∷ []))

-- A defines a data set, is handed out its transfer set and wishes it
abbrev pub wished_a : Wish → List ℕ → List ObjectName → List Move → List Move
wished_a wish set members moves =
    by_a (writes (in_a (codes "DSTrans1")) (shown_wish wish))
    ∷ by_a (reads (in_a (codes "Next_DSTransfer_Set"))) ∷ by_a (defines (in_a set) members) ∷ moves

abbrev pub wished_b : Wish → List ℕ → List ObjectName → List Move → List Move
wished_b wish set members moves =
    by_b (writes (in_b (codes "DSTrans1")) (shown_wish wish))
    ∷ by_b (reads (in_b (codes "Next_DSTransfer_Set"))) ∷ by_b (defines (in_b set) members) ∷ moves

-- a wish of A for its data set
abbrev pub wish_a : List ℕ → Wish
wish_a set = record empty_wish { set_domain = codes "DOMA"; set_name = set; status = true }

abbrev pub wish_b : List ℕ → Wish
wish_b set = record empty_wish { set_domain = codes "DOMB"; set_name = set; status = true }

abbrev pub tagged_with : ℕ → List ℕ → Move
tagged_with tag reason = tags 0 (record { tag = tag; reason = reason })
