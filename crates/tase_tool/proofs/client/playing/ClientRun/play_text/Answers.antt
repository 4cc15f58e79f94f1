use Rattle.std.proofs.Common.{inl, inr, refl}
use Rattle.std.specs.Arc.{arc_value}
use Rattle.tase_tool.proofs.client.playing.ClientRun.play_text.Goals as goal

pub returns-in-Ok-Ok : goal.returns-in-Ok-Ok
returns-in-Ok-Ok g c =
    let found = rw c.in-Ok-Ok.field-0-is at c.in-Ok-Ok.ensures.found in
    inl (c.connect.ensures (arc_value c.args.centre.now) c.args.text.now found)

pub returns-in-Ok-Err : goal.returns-in-Ok-Err
returns-in-Ok-Err g c =
    let found = rw c.in-Ok-Err.field-0-is at c.in-Ok-Err.ensures.found in
    inr (inl (record {
      fault = c.in-Ok-Err.fault;
      has = found;
      told = (c.refuse.ensures.runs, c.refuse.ensures.answers);
    }))

pub returns-in-Err : goal.returns-in-Err
returns-in-Err g c = inr (inr (refl, refl, c.in-Err.ensures.memory refl))
