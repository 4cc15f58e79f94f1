use Rattle.std.proofs.Common.{codes, sym, subst}
use Rattle.std.specs.Prelude.{IsOk, Ok, refl}
use Rattle.commands.specs.Io.Plans.{says, by_value, RunsPlan}
use Rattle.tase_tool.specs.Decoding.{pdu_said}
use Rattle.tase_tool.proofs.Lacking.{refused_told}
use Rattle.tase_tool.proofs.decoding.decode_capture.Goals as goal

pub returns-in-Ok-clause-runs : goal.returns-in-Ok-clause-runs
returns-in-Ok-clause-runs g c =
    subst (λ spelled. RunsPlan (by_value (codes "in") (λ pdu. says (pdu_said pdu)) spelled)
    (g.O.Outside.told c.args.outside.now) (g.O.Outside.told c.decode_pieces.new.outside)
    c.decode_pieces.result) (sym c.in-Ok.ensures) c.decode_pieces.ensures

pub returns-in-Ok-clause-memory : goal.returns-in-Ok-clause-memory
returns-in-Ok-clause-memory g c =
    λ lack. subst (λ spelled. IsOk spelled) (sym c.in-Ok.ensures) refl

pub returns-in-Err-clause-runs : goal.returns-in-Err-clause-runs
returns-in-Err-clause-runs g c =
    subst (λ spelled. RunsPlan (by_value (codes "in") (λ pdu. says (pdu_said pdu)) spelled)
    (g.O.Outside.told c.args.outside.now) (g.O.Outside.told c.refuse_line.new.outside)
    c.refuse_line.result) (sym c.in-Err.ensures) c.refuse_line.ensures.runs

pub returns-in-Err-clause-memory : goal.returns-in-Err-clause-memory
returns-in-Err-clause-memory g c =
    λ lack. absurd (refused_told c.refuse_line.result c.refuse_line.ensures.answers lack)
