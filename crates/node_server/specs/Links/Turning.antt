-- What comes of the first half of a turn.
use Rattle.std.specs.Prelude.{ℕ}
use Rattle.outside.specs.Links.Links.{LinkTold}
use Rattle.tase_conn.specs.Talking.{Talking}
use Rattle.node_server.specs.declared.turn.turn_node.NodeSetup.{NodeSetup}
use Rattle.node_server.specs.NodeCalls.{NodeLog}
use Rattle.node_server.specs.Links.ServedLinks.{ServesUpTo}
use Rattle.node_server.specs.Links.Turns.{IsToSendBy}
use Rattle.node_server.specs.declared.links.turning.Turn.{Turn}
use Rattle.node_server.specs.declared.links.turning.Turn.TheVariants.{Over, ToSend}

-- the link was served up to an end, or what is to be said is to be sent
abbrev pub ComesTo : Turn → NodeSetup → ℕ → NodeLog → LinkTold → LinkTold → Talking → Type 0
ComesTo (Over end) setup who log link used v = ServesUpTo setup who log link used end
ComesTo (ToSend ended) setup who log link used v = IsToSendBy ended setup who log link used v
