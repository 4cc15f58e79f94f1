use Rattle.std.proofs.Common.{List, sym, ap, subst, ◌∙◌}
use Rattle.std.specs.List.{All}
use Rattle.stack_assoc.specs.declared.input.StackIn.{StackIn}
use Rattle.tase_views.specs.declared.event.EventKind.{EventKind}
use Rattle.texts.specs.Journal.Entries.{IsEvent}
use Rattle.tase_verify.specs.Association.Asking.{IsLawfulInput, asked_in, turns_of_inputs}
use Rattle.tase_verify.specs.Association.Stray.{events_told, first_stray}
use Rattle.tase_verify.proofs.OfAssociation.LawfulInputs.{inputs_lawful}
use Rattle.tase_verify.proofs.association.check.compare_events.Goals as goal

pub asked_in-requires : goal.asked_in-requires
asked_in-requires c = record {
  lawful = subst (λ (handed : List StackIn). All IsLawfulInput handed)
      (sym c.as_slice.ensures.value)
      (inputs_lawful c.args.octets.now c.in_ok-heard.heard c.in_ok-heard.ensures);
}

pub returns : goal.returns
returns c =
    let heard = c.in_ok-heard.heard in
    record {
      hears = c.in_ok-heard.ensures;
      asked = c.in_ok-asked.asked.items;
      asks = c.in_ok-asked.ensures ∙ ap (λ (handed : List StackIn).
          asked_in c.args.centre.now (turns_of_inputs handed heard.broken c.args.ended))
          c.as_slice.ensures.value;
      spelled = subst (λ (es : List EventKind). All IsEvent es) c.as_slice-2.ensures.value
          c.events_are_spelled.ensures;
      told = c.answered_are_spelled.ensures;
      first = c.in_ok-stray.ensures
          ∙ ap (λ (es : List EventKind). first_stray (events_told c.args.answered.now) es)
          c.as_slice-3.ensures.value;
    }
