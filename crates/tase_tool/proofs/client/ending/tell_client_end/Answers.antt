use Rattle.std.proofs.Common.{sym, subst}
use Rattle.tase_tool.specs.Asking.Ending.{refused_line}
use Rattle.tase_tool.specs.Client.Ending.{TellsClientEnd, checkback_line}
use Rattle.tase_tool.specs.Lines.{stray_line}
use Rattle.tase_tool.proofs.client.ending.tell_client_end.Goals as goal

pub returns-in-Refused : goal.returns-in-Refused
returns-in-Refused g c =
    let old = g.K.Sink.told c.args.sink.now in
    let now = g.K.Sink.told c.write_refused.new.sink in
    subst (λ end. TellsClientEnd end old now c.peer_status.result) (sym c.in-Refused.is)
    (c.peer_status.ensures (refused_line c.in-Refused.fault) old now c.write_refused.ensures)

pub returns-in-Stray : goal.returns-in-Stray
returns-in-Stray g c =
    let old = g.K.Sink.told c.args.sink.now in
    let now = g.K.Sink.told c.write_stray.new.sink in
    let told = c.peer_status-in-Stray in
    subst (λ end. TellsClientEnd end old now told.result) (sym c.in-Stray.is)
    (told.ensures (stray_line c.in-Stray.invoke) old now c.write_stray.ensures)

pub returns-in-ByAgenda : goal.returns-in-ByAgenda
returns-in-ByAgenda g c =
    let old = g.K.Sink.told c.args.sink.now in
    let now = g.K.Sink.told c.write_checkback.new.sink in
    let told = c.peer_status-in-ByAgenda in
    subst (λ end. TellsClientEnd end old now told.result) (sym c.in-ByAgenda.is)
    (told.ensures (checkback_line c.in-ByAgenda.checkback) old now c.write_checkback.ensures)
