use Rattle.std.proofs.Common.{arith}
use Rattle.node_core.proofs.OfNode.PartLists.{FirstDrafted-many, FirstDrafted-step}
use Rattle.node_core.proofs.OfNode.PartLists.{FirstDrafted-all}
use Rattle.node_core.proofs.node.peer.Peer.draft.Goals as goal

pub loop-place-preserved : goal.loop-place-preserved
loop-place-preserved c =
    let f = c.loop-place.invariant in
    let many = FirstDrafted-many _ _ _ _ _ _ _ f in
    FirstDrafted-step _ _ _ _ _ _ _ _ _ f
    (omega (arith, many, c.loop-place-test.true, c.len-place-end.ensures))
    c.in_ok-reports.ensures c.draft.ensures.made c.in_ok-draft.ensures.ok

pub returns-clause-ok : goal.returns-clause-ok
returns-clause-ok c =
    let f = c.loop-place.invariant in
    let many = FirstDrafted-many _ _ _ _ _ _ _ f in
    FirstDrafted-all _ _ _ _ _ _ _ f
    (omega (arith, many, c.loop-place-test.false, c.len-place-end.ensures))
