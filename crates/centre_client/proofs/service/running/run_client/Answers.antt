use Rattle.std.proofs.Common.{ℕ, List, subst}
use Rattle.asking_end.specs.Service.LinkOctets.{octets_given}
use Rattle.centre_client.specs.Checkbacks.{SaysChecked}
use Rattle.centre_client.specs.Scripted.{scripted, title_of}
use Rattle.centre_client.proofs.Exchanged.{says_checked}
use Rattle.centre_client.proofs.Playable.{plays}
use Rattle.centre_client.proofs.service.running.run_client.Goals as goal

pub returns : goal.returns
returns g c = λ rows text first t heard.
    let played = c.run_asking.ensures (title_of rows t.script) (scripted rows t.script) first
    t.stands heard in
    let octets : List ℕ = octets_given played.given in record {
      script = t.script;
      spelled = t.spelled;
      plays = played;
      checked = subst (λ (l : List ℕ). SaysChecked rows t.script octets l) played.said
          (says_checked rows t.script octets (plays rows text t.script t.spelled));
    }
