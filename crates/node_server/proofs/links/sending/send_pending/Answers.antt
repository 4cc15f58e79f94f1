use Rattle.std.proofs.Common.{ℕ, List, subst}
use Rattle.outside.specs.declared.sink.WriteEnd.TheVariants.{Took, Failed}
use Rattle.outside.specs.Links.Links.{SendsPiece}
use Rattle.tase_conn.specs.Talking.{next_pending}
use Rattle.node_server.proofs.OfLinks.SentSoFar.{sent_none, sent_more, sent_nothing, sent_failed}
use Rattle.node_server.proofs.links.sending.send_pending.Goals as goal

pub loop-link-init : goal.loop-link-init
loop-link-init g c = λ first heard.
    sent_none (g.L.Link.told c.args.link.now) first c.args.conn.now heard

pub loop-link-preserved : goal.loop-link-preserved
loop-link-preserved g c = λ first heard.
    let here = g.L.Link.told c.loop-link.link in
    let after = g.L.Link.told c.send.new.self in
    let count = c.in-Took.count in
    let s = subst (λ (l : List ℕ). SendsPiece here after (Took count) l)
    c.pending-in-loop-link.ensures c.in-Took.ensures in
    sent_more (g.L.Link.told c.args.link.now) here after first c.args.conn.now c.loop-link.conn
    (c.loop-link.invariant first heard) c.sent.new.self count s s.count c.sent.ensures.pending
    c.sent.ensures.stands c.sent.ensures.same

pub returns-then-count-eq0 : goal.returns-then-count-eq0
returns-then-count-eq0 g c = λ first heard.
    let here = g.L.Link.told c.loop-link.link in
    let after = g.L.Link.told c.send.new.self in
    let s = subst (λ (l : List ℕ). SendsPiece here after (Took c.in-Took.count) l)
    c.pending-in-loop-link.ensures c.in-Took.ensures in
    sent_nothing (g.L.Link.told c.args.link.now) here after first c.args.conn.now c.loop-link.conn
    (c.loop-link.invariant first heard)
    (subst (λ (n : ℕ). SendsPiece here after (Took n) (next_pending c.loop-link.conn))
    c.if-count-eq0.true s)

pub returns-in-Failed : goal.returns-in-Failed
returns-in-Failed g c = λ first heard.
    let here = g.L.Link.told c.loop-link.link in
    let after = g.L.Link.told c.send.new.self in
    sent_failed (g.L.Link.told c.args.link.now) here after first c.args.conn.now c.loop-link.conn
    (c.loop-link.invariant first heard)
    (subst (λ (l : List ℕ). SendsPiece here after Failed l) c.pending-in-loop-link.ensures
    c.in-Failed.ensures)
