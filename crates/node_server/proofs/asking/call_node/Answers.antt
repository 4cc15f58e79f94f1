use Rattle.node_server.proofs.asking.call_node.Goals as goal

pub returns-clause-asks : goal.returns-clause-asks
returns-clause-asks g c = (c.call.result, c.call.ensures.one, c.err.ensures.value)
