use Rattle.tase_replay.proofs.Pending.{no_out, none_next, none_pending, out_shown, some_next}
use Rattle.tase_replay.proofs.printing.put_any_out.Goals as goal

pub returns-then-is_empty-clause-line : goal.returns-then-is_empty-clause-line
returns-then-is_empty-clause-line c =
    let conn = c.args.conn.now in
    no_out c.args.who conn c.args.text.now.items (none_next conn c.pending.result.now
    c.is_empty.result c.pending.ensures c.is_empty.ensures c.if-is_empty.true)

pub returns-then-is_empty-clause-sent : goal.returns-then-is_empty-clause-sent
returns-then-is_empty-clause-sent c =
    let conn = c.args.conn.now in
    none_pending conn (none_next conn c.pending.result.now c.is_empty.result c.pending.ensures
    c.is_empty.ensures c.if-is_empty.true)

pub returns-clause-line : goal.returns-clause-line
returns-clause-line c =
    let conn = c.args.conn.now in
    out_shown c.args.who conn c.args.text.now.items c.put_out.new.text.items
    (some_next conn c.pending.result.now c.is_empty.result c.pending.ensures c.is_empty.ensures
    c.if-is_empty.false) c.in_ok-put_out.ensures.line
