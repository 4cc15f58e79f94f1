use Rattle.std.proofs.Common.{◌∙◌, List, ap, codes, length, sym, subst}
use Rattle.outside.specs.Sink.{WritesAll}
use Rattle.mms_data.specs.ObjectName.{ObjectName}
use Rattle.tase_discover.specs.Listers.{TableListing}
use Rattle.tase_tool.specs.Discover.Ending.{ended_text, unordered_line}
use Rattle.tase_tool.specs.Lines.{number_line}
use Rattle.tase_tool.proofs.discover.ending.write_ended.Goals as goal

pub returns-in-Unordered : goal.returns-in-Unordered
returns-in-Unordered g c =
    let old = g.K.Sink.told c.args.sink.now in
    let now = g.K.Sink.told c.write_unordered.new.sink in
    subst (λ end. WritesAll old now (ended_text c.args.asking.now end) c.write_unordered.result)
    (sym c.in-Unordered.is)
    (subst (λ (names : List ObjectName).
    WritesAll old now (unordered_line names) c.write_unordered.result)
    (c.names-names.ensures ∙ ap (λ (l : TableListing). l.seen.names) c.agenda.ensures)
    c.write_unordered.ensures)

pub returns-in-TooMany : goal.returns-in-TooMany
returns-in-TooMany g c =
    let old = g.K.Sink.told c.args.sink.now in
    let now = g.K.Sink.told c.write_number.new.sink in
    subst (λ end. WritesAll old now (ended_text c.args.asking.now end) c.write_number.result)
    (sym c.in-TooMany.is)
    (subst (λ (names : List ObjectName).
    WritesAll old now (number_line (codes "toomany ") (length names)) c.write_number.result)
    (c.names-names.ensures ∙ ap (λ (l : TableListing). l.seen.names) c.agenda.ensures)
    c.write_number.ensures)
