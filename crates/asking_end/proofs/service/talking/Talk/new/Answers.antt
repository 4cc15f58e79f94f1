use Rattle.std.proofs.Common.{[], ◌++◌, sym, ap, ◌∙◌}
use Rattle.asking_end.specs.Askers.{asker_of}
use Rattle.asking_end.proofs.StepsOn.{nothing_behind}
use Rattle.asking_end.proofs.service.talking.Talk.new.Goals as goal

pub returns : goal.returns
returns g c = record {
  stands = c.in_ok-asking.ensures.stands;
  said = sym (c.in_ok-asking.ensures.out
      ∙ ap (λ l. l ++ (asker_of g.A.Agenda.acts c.args.title c.args.agenda []).said)
      c.new-out.ensures.items);
  shown = ap (λ r. r.shown) (nothing_behind g.A.Agenda.acts c.args.title c.args.agenda)
      ∙ sym c.new-2.ensures.items;
}
