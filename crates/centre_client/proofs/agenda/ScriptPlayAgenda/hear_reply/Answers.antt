use Rattle.std.proofs.Common.{sym, ap, subst, ◌∙◌}
use Rattle.std.specs.Arc.{arc_value}
use Rattle.bilateral.specs.Rows.{CentreRows}
use Rattle.centre_client.specs.Plays.{IsPlay, answered}
use Rattle.centre_client.proofs.PlayedOn.{answered-plays}
use Rattle.centre_client.proofs.agenda.ScriptPlayAgenda.hear_reply.Goals as goal

pub invariant_of-self : goal.invariant_of-self
invariant_of-self c =
    let rows = arc_value c.self.inside.centre in
    let play = c.self.inside.play in
    let reply = c.args.reply.now in
    subst (IsPlay rows)
    (sym (c.take_reply.ensures.play
    ∙ ap (λ (r : CentreRows). (answered r reply play.doing play).0) c.deref.ensures))
    (answered-plays rows reply play.doing play c.self.invariant)
