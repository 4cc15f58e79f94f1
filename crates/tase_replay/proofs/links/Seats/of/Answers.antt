use Rattle.std.proofs.Common.{◌≤◌, length, ap, ◌∙◌, List, arith}
use Rattle.std.proofs.lemmas.List.{take_all}
use Rattle.tase_views.specs.declared.event.Entry.{Entry}
use Rattle.tase_replay.specs.Standing.{use_by}
use Rattle.tase_replay.proofs.Seating.{first_sits, used_by, used_step}
use Rattle.tase_replay.proofs.links.Seats.of.Goals as goal

pub returns : goal.returns
returns c =
    let history = c.args.node.now.history in
    let all : length history ≤ c.loop-place.place = omega arith in
    first_sits c.args.node.now.setup.centre history c.loop-place.seats
    (λ who. c.loop-place.invariant who
    ∙ ap (λ (es : List Entry). used_by who es) (take_all c.loop-place.place history all))

pub loop-place-init : goal.loop-place-init
loop-place-init c = λ who. c.new-seats.ensures.uses who

pub loop-place-preserved : goal.loop-place-preserved
loop-place-preserved c = λ who.
    used_step who c.args.node.now.history c.loop-place.place c.in_ok-entry.field-0
    (use_by c.loop-place.seats who) _ c.in_ok-entry.ensures (c.loop-place.invariant who)
    (c.in_ok-note_entry.ensures who)
