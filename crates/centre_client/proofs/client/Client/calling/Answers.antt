use Rattle.std.proofs.Common.{◌≡◌, [], ◌++◌, ap, ◌∙◌}
use Rattle.std.specs.Arc.{arc_value}
use Rattle.bilateral.specs.Rows.{CentreRows, table_of}
use Rattle.asking_end.specs.Askers.{asker_of}
use Rattle.asking_end.specs.Callers.{AskerStands}
use Rattle.centre_client.specs.Scripted.{Scripted, script_acts}
use Rattle.centre_client.proofs.Called.{of_script}
use Rattle.centre_client.proofs.WaitsOn.{begins_over}
use Rattle.centre_client.proofs.client.Client.calling.Goals as goal

pub returns-clause-rows : goal.returns-clause-rows
returns-clause-rows c =
    begins_over c.in_ok-title.title c.in_ok-play.play c.in_ok-asking.asking
    c.in_ok-asking.ensures.stands
    ∙ ap (λ (a : Scripted). a.rows) c.in_ok-play.ensures

pub returns-clause-stands : goal.returns-clause-stands
returns-clause-stands c =
    let rows = arc_value c.args.centre.now in
    of_script (λ t a. AskerStands script_acts t a [] c.in_ok-asking.asking) rows c.args.script
    c.in_ok-title.title c.in_ok-play.play
    (c.in_ok-title.ensures
    ∙ ap (λ (r : CentreRows). (table_of r c.args.script.peer).title) c.deref-tables.ensures)
    c.in_ok-play.ensures
    c.in_ok-asking.ensures.stands

pub returns-clause-out : goal.returns-clause-out
returns-clause-out c =
    let rows = arc_value c.args.centre.now in
    of_script (λ t a. c.new.new.out.items
    ≡ c.args.out.now.items ++ (asker_of script_acts t a []).said) rows c.args.script
    c.in_ok-title.title c.in_ok-play.play
    (c.in_ok-title.ensures
    ∙ ap (λ (r : CentreRows). (table_of r c.args.script.peer).title) c.deref-tables.ensures)
    c.in_ok-play.ensures
    c.in_ok-asking.ensures.out
