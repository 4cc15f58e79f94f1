-- The rows of a peer's tables are of points and devices of its centre.
use Rattle.std.proofs.Common.{◌≡◌, ℕ, zero, suc, ◌<◌, List, [], ◌∷◌, length, Some}
use Rattle.std.proofs.Common.{position, bytes_eq, slice_get, get_or, subst}
use Rattle.std.specs.List.{All}
use Rattle.std.proofs.lemmas.List.Quantifiers.{position-Some}
use Rattle.std.proofs.lemmas.Option.{get_or_from_slice_get, slice_get_within, same_Some}
use Rattle.bilateral.specs.declared.rows.Table.{Table}
use Rattle.bilateral.specs.Rows.{CentreRows, IsCentre, IsTable, IsControlling, no_table, table_of}
use Rattle.bilateral.specs.Rows.{further_of, variants_of, place_of_peer}
use Rattle.tase_audit.specs.Owns.{AreRowsThere}

is_there : (rows : CentreRows) (table : Table) → IsTable (length rows.points) table
    → IsControlling (length rows.devices) table → AreRowsThere rows table
is_there rows table points devices =
    record { points = points.known; devices = devices.known }

pub rows_there : (rows : CentreRows) (peer n : ℕ) (table : Table) → IsCentre rows
    → peer < length rows.tables → slice_get (variants_of rows peer) n ≡ Some table
    → AreRowsThere rows table
rows_there rows peer zero table lawful here e =
    subst (AreRowsThere rows) (same_Some (table_of rows peer) table e)
    (is_there rows (table_of rows peer) (lawful.tables peer no_table here)
    (lawful.controls peer no_table here))
rows_there rows peer (suc n) table lawful here e =
    let further = lawful.further peer in
    let within = slice_get_within (further_of rows peer) n table e in
    subst (AreRowsThere rows) (get_or_from_slice_get (further_of rows peer) n table no_table e)
    (is_there rows (get_or (further_of rows peer) n no_table)
    (further.tables n no_table within) (further.controls n no_table within))

below : (tables : List Table) (key : List ℕ) (peer : ℕ)
    → position (λ (table : Table). bytes_eq table.key key) tables ≡ Some peer
    → peer < length tables
below [] key peer e = absurd cc
below (table ∷ tables) key peer e =
    (position-Some (λ (t : Table). bytes_eq t.key key) (table ∷ tables) peer table e).0

-- a peer that is found is in the tables
pub peer_there : (rows : CentreRows) (key : List ℕ) (peer : ℕ)
    → place_of_peer rows key ≡ Some peer → peer < length rows.tables
peer_there rows key peer e = below rows.tables key peer e
