-- One answer of a link more.
use Rattle.std.proofs.Common.{◌≡◌, ℕ, List, [], ◌∷◌, ◌++◌, Option, inl}
use Rattle.std.proofs.Common.{inr, refl, sym, ap, subst, ◌∙◌, append_assoc}
use Rattle.std.proofs.lemmas.List.{append-nil}
use Rattle.std.specs.List.{All}
use Rattle.std.proofs.lemmas.List.Elements.{All-head, All-tail}
use Rattle.std.proofs.lemmas.Grind.{flat_map-append}
use Rattle.outside.specs.Links.LinkAnswers.{LinkAnswer}
use Rattle.outside.specs.Sink.{SinkTold, AppendsAll}
use Rattle.asking_end.specs.Agendas.{AgendaActs}
use Rattle.asking_end.specs.Askers.{asker_of}
use Rattle.asking_end.specs.Service.LinkOctets.{received_octets, octets_given}
use Rattle.asking_end.specs.Service.Runs.{IsTimely, LeavesMore, AreTimely, AreShown}

pub octets_more : (given : List LinkAnswer) (answer : LinkAnswer)
    → octets_given (given ++ answer ∷ []) ≡ octets_given given ++ received_octets answer.received
octets_more given answer =
    flat_map-append (λ (answer : LinkAnswer). received_octets answer.received) given (answer ∷ [])
    ∙ ap (λ (l : List ℕ). octets_given given ++ l) (append-nil (received_octets answer.received))

pub timely_more : {A E : Type 0} (acts : AgendaActs A E ℕ) (title : Option (List ℕ)) (agenda : A)
    (first : ℕ) (octets : List ℕ)
    (given : List LinkAnswer) (answer : LinkAnswer) → AreTimely acts title agenda first octets given
    → All LeavesMore given → IsTimely acts title agenda first (octets ++ octets_given given) answer
    → AreTimely acts title agenda first octets (given ++ answer ∷ [])
timely_more acts title agenda first octets [] answer t goes is = (
  subst (λ (l : List ℕ). IsTimely acts title agenda first l answer) (append-nil octets) is,
  inl refl,
  tt,
)
timely_more acts title agenda first octets (a ∷ given) answer t goes is = (
  t.0,
  inr (All-head LeavesMore a given goes),
  timely_more acts title agenda first (octets ++ received_octets a.received) given answer t.2
      (All-tail LeavesMore a given goes)
      (subst (λ (l : List ℕ). IsTimely acts title agenda first l answer)
      (sym (append_assoc octets (received_octets a.received) (octets_given given))) is),
)

pub shown_more : {A E : Type 0} (acts : AgendaActs A E ℕ) (title : Option (List ℕ)) (agenda : A)
    (first : SinkTold) (octets : List ℕ)
    (given : List LinkAnswer) (sinks : List SinkTold) (answer : LinkAnswer) (sink : SinkTold)
    → AreShown acts title agenda first octets given sinks
    → AppendsAll first sink (asker_of acts title agenda (octets ++ octets_given given)).shown
    → AreShown acts title agenda first octets (given ++ answer ∷ []) (sinks ++ sink ∷ [])
shown_more acts title agenda first octets [] [] answer sink are is = (
  subst (λ (l : List ℕ). AppendsAll first sink (asker_of acts title agenda l).shown)
      (append-nil octets) is,
  tt,
)
shown_more acts title agenda first octets [] (k ∷ sinks) answer sink are is = absurd are
shown_more acts title agenda first octets (a ∷ given) [] answer sink are is = absurd are
shown_more acts title agenda first octets (a ∷ given) (k ∷ sinks) answer sink are is = (
  are.0,
  shown_more acts title agenda first (octets ++ received_octets a.received) given sinks answer sink
      are.1
      (subst (λ (l : List ℕ). AppendsAll first sink (asker_of acts title agenda l).shown)
      (sym (append_assoc octets (received_octets a.received) (octets_given given))) is),
)
