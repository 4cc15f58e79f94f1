use Rattle.std.proofs.Common.{◌≡◌, ap, ◌∙◌}
use Rattle.std.specs.Arc.{arc_value}
use Rattle.bilateral.specs.Rows.{CentreRows, table_of}
use Rattle.asking_end.specs.Service.Talks.{IsTalk}
use Rattle.centre_client.specs.Scripted.{script_acts}
use Rattle.centre_client.proofs.Called.{of_script}
use Rattle.centre_client.proofs.service.talking.script_talk.Goals as goal

pub returns : goal.returns
returns c =
    let rows = arc_value c.args.centre.now in
    of_script (λ t a. IsTalk script_acts t a c.in_ok-talk.talk) rows c.args.script
    c.in_ok-title.title c.in_ok-play.play
    (c.in_ok-title.ensures
    ∙ ap (λ (r : CentreRows). (table_of r c.args.script.peer).title) c.deref-tables.ensures)
    c.in_ok-play.ensures
    c.in_ok-talk.ensures
