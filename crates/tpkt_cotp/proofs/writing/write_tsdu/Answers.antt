use Rattle.tpkt_cotp.proofs.Wires.{cut_behind}
use Rattle.tpkt_cotp.proofs.writing.write_tsdu.Goals as goal

pub returns-clause-ok : goal.returns-clause-ok
returns-clause-ok c = rw c.or_undo.ensures.same (cut_behind c.put_tsdu-done.result c.args.size
    c.args.octets.now c.args.out.now.items c.put_tsdu-done.new.out.items c.or_undo.new.out.items
    c.put_tsdu-done.ensures.ok (rw (← c.or_undo.ensures.same) c.or_undo.ensures.ok))
