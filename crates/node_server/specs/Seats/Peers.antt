-- Whose association a connection says that it has, and how many octets may wait for that peer.
use Rattle.std.specs.Prelude.{◌≡◌, ℕ, Option, Some, None, option_map}
use Rattle.bilateral.specs.Rows.{CentreRows, table_of}
use Rattle.sbo_device.specs.declared.key.Key.{Key}
use Rattle.tase_views.specs.History.{Past}
use Rattle.tase_conn.specs.Map.Linked.{opened_in}
use Rattle.tase_conn.specs.Talking.{Talking, stage_peer}

-- the peer of the association that a seat has opened last, open still or not
abbrev pub peer_opened : Past → ℕ → Option ℕ
peer_opened past who = option_map (λ (key : Key). key.peer) (opened_in past who)

-- the peer that the stage of a connection names is that one
abbrev pub HasItsPeer : Past → ℕ → Talking → Type 0
HasItsPeer past who v = stage_peer v.stage ≡ peer_opened past who

-- the stage names whom it named
abbrev pub KeepsPeer : Talking → Talking → Type 0
KeepsPeer old new = stage_peer new.stage ≡ stage_peer old.stage

-- how many octets may wait for the peer of this association: what its table says, and 1,048,576
-- where none was opened
abbrev pub limit_of : CentreRows → Option Key → ℕ
limit_of rows None = 1048576
limit_of rows (Some key) = (table_of rows key.peer).pending
