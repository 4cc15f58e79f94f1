use Rattle.std.proofs.Common.{◌∙◌, ap, refl, sym, subst}
use Rattle.tase_discover.specs.Listings.{is_same}
use Rattle.tase_discover.specs.Listers.{TableListing}
use Rattle.tase_tool.specs.Asking.Ending.{TellsAskEnd, finish_status, refused_line}
use Rattle.tase_tool.specs.Discover.Ending.{ended_text, offers_same}
use Rattle.tase_tool.specs.Lines.{stray_line}
use Rattle.tase_tool.proofs.discover.ending.tell_end.Goals as goal

pub returns-in-Finished : goal.returns-in-Finished
returns-in-Finished g c =
    let old = g.K.Sink.told c.args.sink.now in
    let asking = c.args.asking.now in
    subst (λ end. TellsAskEnd (offers_same asking) (ended_text asking) end old old
    c.finished.result) (sym c.in-Finished.is) (
      c.finished.ensures ∙ ap finish_status (c.is_same.ensures
          ∙ ap (λ (l : TableListing). is_same l.table l.seen) c.agenda.ensures),
      refl,
    )

pub returns-in-Refused : goal.returns-in-Refused
returns-in-Refused g c =
    let old = g.K.Sink.told c.args.sink.now in
    let now = g.K.Sink.told c.write_refused.new.sink in
    let asking = c.args.asking.now in
    subst (λ end. TellsAskEnd (offers_same asking) (ended_text asking) end old now
    c.peer_status.result) (sym c.in-Refused.is)
    (c.peer_status.ensures (refused_line c.in-Refused.fault) old now c.write_refused.ensures)

pub returns-in-Stray : goal.returns-in-Stray
returns-in-Stray g c =
    let old = g.K.Sink.told c.args.sink.now in
    let now = g.K.Sink.told c.write_stray.new.sink in
    let told = c.peer_status-in-Stray in
    let asking = c.args.asking.now in
    subst (λ end. TellsAskEnd (offers_same asking) (ended_text asking) end old now
    told.result) (sym c.in-Stray.is)
    (told.ensures (stray_line c.in-Stray.invoke) old now c.write_stray.ensures)

pub returns-in-ByAgenda : goal.returns-in-ByAgenda
returns-in-ByAgenda g c =
    let old = g.K.Sink.told c.args.sink.now in
    let now = g.K.Sink.told c.write_ended.new.sink in
    let told = c.peer_status-in-ByAgenda in
    let asking = c.args.asking.now in
    subst (λ end. TellsAskEnd (offers_same asking) (ended_text asking) end old now
    told.result) (sym c.in-ByAgenda.is)
    (told.ensures (ended_text asking c.in-ByAgenda.end) old now c.write_ended.ensures)
