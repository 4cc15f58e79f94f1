-- A link and a listener in memory may go to another thread. It is shown from the inside out.
use denote.Param.Send.{IsSend, sendable}
use Rattle.std.proofs.Crossing.{crosses}
use Rattle.outside.specs.contracts.object_name.ObjectName as object_name
use Rattle.outside.proofs.links.answers.Answers.TheLaws.TheKnot as knot
use Rattle.outside.specs.contracts.links.script.LinkItem as item
use Rattle.outside.specs.contracts.links.script.Script as script
use Rattle.outside.specs.contracts.links.script_link.ScriptLink as link
use Rattle.outside.specs.contracts.links.script_listener.ScriptListener as listener

item_send : IsSend item.the_row
item_send = search (sendable, crosses) depth 20

script_send : IsSend script.the_row
script_send = search (item_send, sendable, crosses) depth 20

name_send : IsSend object_name.the_row
name_send = search (sendable, crosses) depth 20

pub link_send : IsSend link.the_row
link_send = search (script_send, name_send, knot.crosses, sendable, crosses) depth 60

pub listener_send : IsSend listener.the_row
listener_send = search (link_send, name_send, sendable, crosses) depth 20
