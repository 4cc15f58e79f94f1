use Rattle.tase_replay.proofs.Pending.{sent_lines}
use Rattle.tase_replay.proofs.printing.spell_sent.Goals as goal

pub returns-clause-lines : goal.returns-clause-lines
returns-clause-lines c =
    sent_lines c.args.who c.args.conn.now c.put_any_out.new.conn c.clear.new.self.items
    c.put_any_out.new.text.items c.put_any_end.new.text.items c.clear.ensures.items
    c.in_ok-put_any_out.ensures.line c.in_ok-put_any_out.ensures.same
    c.in_ok-put_any_end.ensures
