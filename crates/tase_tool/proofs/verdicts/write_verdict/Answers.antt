use Rattle.std.proofs.Common.{◌≡◌, ◌⊎◌, sym, subst}
use Rattle.commands.specs.declared.io.status.Status.TheVariants.{Outside}
use Rattle.commands.specs.Io.Runs.{TellsSaid}
use Rattle.tase_tool.specs.Lines.{stray_line}
use Rattle.tase_tool.specs.Verifying.{differs_line, verdict_said}
use Rattle.tase_tool.proofs.verdicts.write_verdict.Goals as goal

pub returns-in-Differs : goal.returns-in-Differs
returns-in-Differs g c =
    let v = c.in-Differs in
    let old = g.K.Sink.told c.args.sink.now in
    let now = g.K.Sink.told c.write_differs.new.sink in
    let status = c.differs_status.result in
    let told = c.differs_status.ensures (differs_line v.place v.got v.want) old now
    c.write_differs.ensures in
    record {
      tells = subst (λ verdict. TellsSaid (verdict_said verdict) old now status) (sym v.is) told.0;
      answers = subst (λ verdict. (status ≡ (verdict_said verdict).status) ⊎ (status ≡ Outside))
          (sym v.is) told.1;
    }

pub returns-in-Stray : goal.returns-in-Stray
returns-in-Stray g c =
    let v = c.in-Stray in
    let old = g.K.Sink.told c.args.sink.now in
    let now = g.K.Sink.told c.write_stray.new.sink in
    let status = c.differs_status-in-Stray.result in
    let told = c.differs_status-in-Stray.ensures (stray_line v.number) old now
    c.write_stray.ensures in
    record {
      tells = subst (λ verdict. TellsSaid (verdict_said verdict) old now status) (sym v.is) told.0;
      answers = subst (λ verdict. (status ≡ (verdict_said verdict).status) ⊎ (status ≡ Outside))
          (sym v.is) told.1;
    }
