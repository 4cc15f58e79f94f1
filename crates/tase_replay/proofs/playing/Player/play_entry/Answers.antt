use Rattle.std.proofs.Common.{sym, subst, ap, ◌∙◌, Ok, Err, refl, inl}
use Rattle.bilateral.specs.Rows.{CentreRows}
use Rattle.tase_views.specs.History.{Past}
use Rattle.tase_views.specs.Outcomes.{IsRightOutcome}
use Rattle.conn_service.specs.NodeCore.NodeState.{NodeState}
use Rattle.tase_replay.specs.Ends.{IsShown}
use Rattle.tase_replay.specs.Play.{printed_of}
use Rattle.tase_replay.proofs.Entering.{IsPlayed-taken, IsPlayed-refused, never_done}
use Rattle.tase_replay.proofs.Own.{own_scene}
use Rattle.tase_replay.proofs.Players.{plays_last}
use Rattle.tase_replay.proofs.Seating.{own_unlinked}
use Rattle.tase_replay.proofs.Sending.{own_taken}
use Rattle.tase_replay.proofs.playing.Player.play_entry.Goals as goal

pub returns-in-Ok-clause-plays : goal.returns-in-Ok-clause-plays
returns-in-Ok-clause-plays g c = λ scene h.
    let old = c.args.self.now in
    let node = old.node.now in
    let own = own_unlinked node.setup.centre scene c.args.entry.who h.0 old.seats.now h.2 h.1.sits in
    let right = subst (λ (p : Past). IsRightOutcome node.setup p c.args.entry.who
    c.args.entry.event (Ok c.in-Ok.answer)) (sym h.1.past_is) c.in-Ok.ensures.right in
    let grown = ap (λ (n : NodeState). n.history) c.in-Ok.ensures.ok in
    record {
      played = λ line. IsPlayed-taken node.setup line c.args.number scene c.args.entry
          c.in-Ok.answer node.history c.step.new.self.history (g.K.Sink.told old.sink.now)
          (g.K.Sink.told c.print_answer.new.sink) c.print_answer.result own right.0 right.1 grown
          (subst (λ (rows : CentreRows). IsShown (printed_of rows c.args.entry.who c.in-Ok.answer)
          (g.K.Sink.told old.sink.now) (g.K.Sink.told c.print_answer.new.sink)
          c.print_answer.result)
          (c.centre.ensures ∙ ap (λ (n : NodeState). n.setup.centre) c.in-Ok.ensures.ok)
          c.print_answer.ensures);
      stands = λ done. own_scene node.setup scene c.args.entry node.history
          c.step.new.self.history h.0 old.seats.now h.1 h.2 right.0 grown;
      sent = inl (own_taken node.setup scene c.args.entry own right.0);
    }

pub returns-in-Err-clause-plays : goal.returns-in-Err-clause-plays
returns-in-Err-clause-plays g c = λ scene h.
    let old = c.args.self.now in
    let node = old.node.now in
    let own = own_unlinked node.setup.centre scene c.args.entry.who h.0 old.seats.now h.2 h.1.sits in
    let right = subst (λ (p : Past). IsRightOutcome node.setup p c.args.entry.who
    c.args.entry.event (Err c.in-Err.fault)) (sym h.1.past_is) c.in-Err.ensures.right in
    rw (c.refused.ensures, c.in-Err.ensures.err)
    (plays_last g.K.Sink.told c.args.number scene _ _ _ _ (never_done c.args.number c.in-Err.fault)
    refl (λ line. IsPlayed-refused node.setup line c.args.number scene c.args.entry
    c.in-Err.fault node.history (g.K.Sink.told old.sink.now) own right))
