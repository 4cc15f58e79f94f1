use Rattle.std.proofs.Common.{refl}
use Rattle.tase_verify.specs.Verifying.{journal_setup, verdict_for}
use Rattle.tase_tool.proofs.verifying.verify_link.Goals as goal

pub returns-clause-runs : goal.returns-clause-runs
returns-clause-runs g c =
    let rows = c.args.meant.centre.now in
    let given = c.args.given.now in
    λ past is. c.verify_sent.ensures.runs
    (verdict_for rows past c.args.meant.key given.octets.items given.ended)
    (c.verify_association-account.ensures.account (journal_setup rows) past refl is)

pub returns-clause-memory : goal.returns-clause-memory
returns-clause-memory g c = c.verify_sent.ensures.memory
