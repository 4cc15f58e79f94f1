use Rattle.std.proofs.Common.{List, ℕ, codes, sym, subst}
use Rattle.std.specs.Prelude.{Vec}
use Rattle.std.specs.declared.alloc.Global.{Global}
use Rattle.commands.specs.Io.Plans.{RunsPlan, EndsPlan, octets_of}
use Rattle.tase_tool.specs.Verifying.{judged_text}
use Rattle.tase_tool.specs.Lacking.{LacksText, LacksNothing}
use Rattle.tase_tool.proofs.Lacking.{lacks_unread}
use Rattle.tase_tool.proofs.verifying.judge_read.Goals as goal

pub returns-in-Ok-clause-runs : goal.returns-in-Ok-clause-runs
returns-in-Ok-clause-runs g c =
    let before = g.O.Outside.told c.args.outside.now in
    let after = g.O.Outside.told c.judge_text.new.outside in
    λ judged are. subst (λ read. EndsPlan (codes "out")
    (λ text. judged_text judged (octets_of text)) read before after c.judge_text.result)
    (sym c.in-Ok.is)
    (subst (λ (octets : List ℕ). RunsPlan (judged_text judged octets) before after
    c.judge_text.result) c.deref.ensures.value (c.judge_text.ensures.runs judged are))

pub returns-in-Ok-clause-memory : goal.returns-in-Ok-clause-memory
returns-in-Ok-clause-memory g c = λ lack. absurd (c.judge_text.ensures.memory lack)

pub returns-in-Err-clause-runs : goal.returns-in-Err-clause-runs
returns-in-Err-clause-runs g c =
    λ judged are. subst (λ read. EndsPlan (codes "out")
    (λ text. judged_text judged (octets_of text)) read (g.O.Outside.told c.args.outside.now)
    (g.O.Outside.told c.end_unread.new.outside) c.end_unread.result) (sym c.in-Err.is)
    c.end_unread.ensures

pub returns-in-Err-clause-memory : goal.returns-in-Err-clause-memory
returns-in-Err-clause-memory g c =
    let before = g.O.Outside.told c.args.outside.now in
    let after = g.O.Outside.told c.end_unread.new.outside in
    λ lack. subst (λ read. LacksText LacksNothing read before after) (sym c.in-Err.is)
    (lacks_unread (λ (text : Vec ℕ Global). LacksNothing text.items) (codes "out") c.in-Err.end
    before after c.end_unread.result c.end_unread.ensures lack)
