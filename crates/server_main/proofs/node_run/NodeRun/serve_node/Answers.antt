use Rattle.std.proofs.Common.{◌≡◌, Bool, rules, sym, ap, subst, ◌∙◌}
use Rattle.std.specs.Arc.{arc_value}
use Rattle.bilateral.specs.Rows.{CentreRows}
use Rattle.node_server.specs.declared.turn.turn_node.NodeSetup.{NodeSetup}
use Rattle.node_server.specs.Turn.Logged.{turn_log}
use Rattle.server_main.specs.Run.Accepting.{accepting}
use Rattle.server_main.specs.Run.Rounds.{serving_state}
use Rattle.server_main.specs.declared.work_end.WorkEnd.{WorkEnd}
use Rattle.server_main.specs.ServedParts.{is_plant_work, EndsBy}
use Rattle.server_main.specs.Working.{telling, inputs_told, no_links}
use Rattle.server_main.specs.Gathered.{TellsLeft}
use Rattle.server_main.proofs.ServedAll.{is-served}
use Rattle.server_main.proofs.node_run.NodeRun.serve_node.Goals as goal

pub gather-gathered-requires-clause-started : goal.gather-gathered-requires-clause-started
gather-gathered-requires-clause-started g c κs within = (
  inputs_told (g.S.Source.told c.args.inputs.feed) (g.C.Clock.told c.args.inputs.clock),
  c.work-worked.ensures.to_gather,
)

pub tell_left-failed-requires : goal.tell_left-failed-requires
tell_left-failed-requires g c =
    let lent : c.deref.result.now ≡ arc_value c.args.self.now.centre.now = search rules in
    ap (λ (s : NodeSetup). s.centre) c.gather-gathered.ensures.setup ∙ sym c.requires.centre
    ∙ sym lent

pub returns-clause-serves : goal.returns-clause-serves
returns-clause-serves g c =
    let node = arc_value c.args.self.now.shared.now in
    let lent : c.deref.result.now ≡ arc_value c.args.self.now.centre.now = search rules in
    let given = inputs_told (g.S.Source.told c.args.inputs.feed)
    (g.C.Clock.told c.args.inputs.clock) in
    let left = inputs_told (g.S.Source.told c.gather-gathered.result.feed)
    (g.C.Clock.told c.gather-gathered.result.clock) in
    let before = serving_state (accepting c.args.seat (g.N.Listener.told c.args.listener.now)
    c.args.spawner.now.told no_links) (g.K.Sink.told c.args.plant.now) in
    let after = serving_state (accepting c.work-worked.new.seat
    (g.N.Listener.told c.work-worked.new.listener) c.work-worked.new.spawner.told
    c.work-worked.result.links) (g.K.Sink.told c.work-worked.new.plant) in
    let log = turn_log c.gather-gathered.result.node.history in
    let plant = g.K.Sink.told c.tell_left-failed.new.plant in
    let tells : TellsLeft (is_plant_work c.work-worked.result.work) node.setup.centre log
    after.plant plant c.tell_left-failed.result =
    subst (λ (w : WorkEnd). TellsLeft (is_plant_work w) node.setup.centre log after.plant plant
    c.tell_left-failed.result) c.gather-gathered.ensures.work
    (subst (λ (b : Bool). TellsLeft b node.setup.centre log after.plant plant
    c.tell_left-failed.result) c.is_plant_fault.ensures
    (subst (λ (rows : CentreRows). TellsLeft c.is_plant_fault.result rows log after.plant plant
    c.tell_left-failed.result) (lent ∙ c.requires.centre) c.tell_left-failed.ensures)) in
    let ended = subst (λ (w : WorkEnd). EndsBy w c.tell_left-failed.result
    c.gather-gathered.result.seats c.serve_end-end.result) c.gather-gathered.ensures.work
    c.serve_end-end.ensures in
    is-served (telling g.N.Link.Link.told g.S.Source.told g.C.Clock.told) node given left before
    after c.work-worked.result.feed c.work-worked.result.clock c.work-worked.result.work
    (g.N.Listener.told c.gather-gathered.new.listener) plant
    c.gather-gathered.new.spawner.told.faults
    log c.gather-gathered.result.seats c.requires.first c.work-worked.ensures
    (c.gather-gathered.ensures.gathers given c.work-worked.ensures.to_gather)
    c.gather-gathered.ensures.unticked c.gather-gathered.ensures.faults
    c.orders_are_told_once.ensures.lines c.tell_left-failed.result c.serve_end-end.result tells
    ended
