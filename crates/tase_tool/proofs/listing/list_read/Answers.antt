use Rattle.std.proofs.Common.{List, ℕ, true, codes, sym, subst}
use Rattle.std.specs.Prelude.{IsOk, Vec}
use Rattle.std.specs.declared.alloc.Global.{Global}
use Rattle.commands.specs.Io.Runs.{IsRun}
use Rattle.commands.specs.Io.Saying.{duty_to_say}
use Rattle.capture_text.specs.Captures.{capture_in}
use Rattle.tase_tool.specs.Lacking.{LacksText, LacksMessages}
use Rattle.tase_tool.specs.Listing.{stream_said}
use Rattle.tase_tool.proofs.Lacking.{lacks_unread}
use Rattle.tase_tool.proofs.listing.list_read.Goals as goal

pub returns-in-Ok-clause-runs : goal.returns-in-Ok-clause-runs
returns-in-Ok-clause-runs g c =
    rw c.in-Ok.is (subst (λ octets. IsRun (duty_to_say true (stream_said (capture_in octets)))
    (g.O.Outside.told c.args.outside.now) (g.O.Outside.told c.list_capture.new.outside)
    c.list_capture.result)
    c.deref.ensures.value c.list_capture.ensures.runs)

pub returns-in-Ok-clause-memory : goal.returns-in-Ok-clause-memory
returns-in-Ok-clause-memory g c =
    let before = g.O.Outside.told c.args.outside.now in
    let after = g.O.Outside.told c.list_capture.new.outside in
    λ lack. subst (λ read. LacksText LacksMessages read before after) (sym c.in-Ok.is)
    (subst (λ (octets : List ℕ). IsOk (capture_in octets)) c.deref.ensures.value
    (c.list_capture.ensures.memory lack))

pub returns-in-Err-clause-memory : goal.returns-in-Err-clause-memory
returns-in-Err-clause-memory g c =
    let before = g.O.Outside.told c.args.outside.now in
    let after = g.O.Outside.told c.end_unread.new.outside in
    λ lack. subst (λ read. LacksText LacksMessages read before after) (sym c.in-Err.is)
    (lacks_unread (λ (text : Vec ℕ Global). LacksMessages text.items) (codes "in") c.in-Err.end
    before after c.end_unread.result c.end_unread.ensures lack)
