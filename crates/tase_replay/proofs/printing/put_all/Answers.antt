use Rattle.conn_service.specs.TaseConn.Talking.{pending_of}
use Rattle.std.proofs.Common.{◌∙◌}
use Rattle.tase_replay.proofs.Pending.{digits_on, digits_done, fewer_left, none_pending}
use Rattle.tase_replay.proofs.Pending.{none_next, some_next, sent_on}
use Rattle.tase_replay.proofs.printing.put_all.Goals as goal

pub returns : goal.returns
returns c =
    let conn = c.loop-text.conn in
    let nothing = none_pending conn (none_next conn c.pending.result.now c.is_empty.result
    c.pending.ensures c.is_empty.ensures c.loop-text-test.false) in
    record {
      digits = digits_done c.loop-text.text.items _ conn nothing c.loop-text.invariant.digits;
      sent = nothing;
      stands = c.loop-text.invariant.stands;
      same = c.loop-text.invariant.same;
    }

pub loop-text-preserved : goal.loop-text-preserved
loop-text-preserved c =
    let conn = c.loop-text.conn in
    let next = c.put_pending.new.conn in
    record {
      digits = digits_on conn c.loop-text.text.items c.put_pending.new.text.items (pending_of next)
          c.in_ok-put_pending.ensures.digits c.in_ok-put_pending.ensures.sent
          ∙ c.loop-text.invariant.digits;
      stands = λ rows items heard turns s.
          c.in_ok-put_pending.ensures.stands rows items heard turns
          (c.loop-text.invariant.stands rows items heard turns s);
      same = sent_on c.args.conn.now conn next c.loop-text.invariant.same
          c.in_ok-put_pending.ensures.same;
    }

pub loop-text-smaller : goal.loop-text-smaller
loop-text-smaller c =
    let conn = c.loop-text.conn in
    fewer_left conn (pending_of c.put_pending.new.conn) (some_next conn c.pending.result.now
    c.is_empty.result c.pending.ensures c.is_empty.ensures c.loop-text-test.true)
    c.in_ok-put_pending.ensures.sent
