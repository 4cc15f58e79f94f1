-- What is sent hangs on the turns by what they are alone.
use Rattle.std.proofs.Common.{◌≡◌, ℕ, List, [], ◌∷◌, ◌++◌, refl, ap, ◌∙◌, drop}
use Rattle.std.specs.Prelude.{map}
use Rattle.mms_services.specs.declared.pdu.MmsPdu.TheVariants as pdus
use Rattle.stack_assoc.specs.declared.wire.setup.AssociationSetup.{AssociationSetup}
use Rattle.tase_views.specs.declared.event.EventKind.{EventKind}
use Rattle.tase_views.specs.declared.event.EventKind.TheVariants as events
use Rattle.tase_views.specs.declared.reply.Answer.{Answer}
use Rattle.tase_views.specs.declared.reply.Answer.TheVariants as answers
use Rattle.tase_conn.specs.Map.Turns.{Turn, offers, offers_badly, asks, concludes, releases, aborts}
use Rattle.tase_conn.specs.Map.Turns.{breaks, ends, pauses}
use Rattle.tase_conn.specs.Map.Out.{Talk, said, close_octets, concluded_octets}
use Rattle.tase_verify.specs.declared.association.answered.AnsweredEvent.{AnsweredEvent}
use Rattle.tase_verify.specs.Association.Saying.{replied, added, added_by, turns_behind_event}
use Rattle.tase_verify.specs.Association.Saying.{octets_by_events, kind_of_turn, turns_of_kinds}

-- turns of the same kinds
abbrev pub alike : List Turn → List Turn
alike turns = turns_of_kinds (map kind_of_turn turns)

concluded_alike : (setup : AssociationSetup) (turns : List Turn)
    → concluded_octets setup (alike turns) ≡ concluded_octets setup turns
concluded_alike setup [] = refl
concluded_alike setup (offers title ∷ turns) = refl
concluded_alike setup (offers_badly ∷ turns) = refl
concluded_alike setup (asks invoke call ∷ turns) = refl
concluded_alike setup (concludes ∷ turns) = refl
concluded_alike setup (releases ∷ turns) = refl
concluded_alike setup (aborts ∷ turns) = refl
concluded_alike setup (breaks ∷ turns) = refl
concluded_alike setup (ends ∷ turns) = refl
concluded_alike setup (pauses ∷ turns) = refl

close_alike : (setup : AssociationSetup) (turns : List Turn)
    → close_octets setup (alike turns) ≡ close_octets setup turns
close_alike setup [] = refl
close_alike setup (offers title ∷ turns) = refl
close_alike setup (offers_badly ∷ turns) = refl
close_alike setup (asks invoke call ∷ turns) = refl
close_alike setup (concludes ∷ turns) =
    ap (λ (os : List ℕ). said setup pdus.Concluded ++ os) (concluded_alike setup turns)
close_alike setup (releases ∷ turns) = refl
close_alike setup (aborts ∷ turns) = refl
close_alike setup (breaks ∷ turns) = refl
close_alike setup (ends ∷ turns) = refl
close_alike setup (pauses ∷ turns) = refl

module _ (talk : Talk) (others : List Turn) where
  abbrev pub with_turns : Talk
  with_turns = record talk { turns = others }

  replied_alike : (turns : List Turn) (answer : Answer)
      → replied with_turns (alike turns) answer ≡ replied talk turns answer
  replied_alike [] answer = refl
  replied_alike (offers title ∷ turns) answer = refl
  replied_alike (offers_badly ∷ turns) answer = refl
  replied_alike (asks invoke call ∷ turns) (answers.Opened key) = refl
  replied_alike (asks invoke call ∷ turns) (answers.Reply reply) = refl
  replied_alike (asks invoke call ∷ turns) (answers.Reports reports) = refl
  replied_alike (asks invoke call ∷ turns) answers.Closed = refl
  replied_alike (asks invoke call ∷ turns) (answers.Orders orders) = refl
  replied_alike (asks invoke call ∷ turns) answers.Noted = refl
  replied_alike (concludes ∷ turns) answer = refl
  replied_alike (releases ∷ turns) answer = refl
  replied_alike (aborts ∷ turns) answer = refl
  replied_alike (breaks ∷ turns) answer = refl
  replied_alike (ends ∷ turns) answer = refl
  replied_alike (pauses ∷ turns) answer = refl

  added_alike : (turns : List Turn) (answer : Answer) (event : EventKind)
      → added_by with_turns (alike turns) answer event ≡ added_by talk turns answer event
  added_alike turns answer (events.Open peer) = refl
  added_alike turns answer (events.Request call) = replied_alike turns answer
  added_alike turns (answers.Opened key) events.Take = refl
  added_alike turns (answers.Reply reply) events.Take = refl
  added_alike turns (answers.Reports reports) events.Take = refl
  added_alike turns answers.Closed events.Take = refl
  added_alike turns (answers.Orders orders) events.Take = refl
  added_alike turns answers.Noted events.Take = refl
  added_alike turns answer events.Close = close_alike talk.setup turns
  added_alike turns answer (events.Update point value) = refl
  added_alike turns answer (events.Table peer variant) = refl
  added_alike turns answer (events.Tag device tag) = refl
  added_alike turns answer (events.Tick now) = refl
  added_alike turns answer (events.Ask peer slot) = refl
  added_alike turns answer events.TakeOrders = refl
  added_alike turns answer events.Stop = refl

  dropped_alike : (turns : List Turn) → drop 1 (alike turns) ≡ alike (drop 1 turns)
  dropped_alike [] = refl
  dropped_alike (turn ∷ turns) = refl

  behind_alike : (event : EventKind) (turns : List Turn)
      → turns_behind_event event (alike turns) ≡ alike (turns_behind_event event turns)
  behind_alike (events.Open peer) turns = refl
  behind_alike (events.Request call) turns = dropped_alike turns
  behind_alike events.Take turns = refl
  behind_alike events.Close turns = refl
  behind_alike (events.Update point value) turns = refl
  behind_alike (events.Table peer variant) turns = refl
  behind_alike (events.Tag device tag) turns = refl
  behind_alike (events.Tick now) turns = refl
  behind_alike (events.Ask peer slot) turns = refl
  behind_alike events.TakeOrders turns = refl
  behind_alike events.Stop turns = refl

  pub octets_alike : (turns : List Turn) (answered : List AnsweredEvent)
      → octets_by_events with_turns (alike turns) answered ≡ octets_by_events talk turns answered
  octets_alike turns [] = refl
  octets_alike turns (told ∷ answered) =
      ap (λ (os : List ℕ). os ++ octets_by_events with_turns
      (turns_behind_event told.event (alike turns)) answered)
      (added_alike turns told.answer told.event)
      ∙ ap (λ (ts : List Turn). added talk turns told ++ octets_by_events with_turns ts answered)
      (behind_alike told.event turns)
      ∙ ap (λ (os : List ℕ). added talk turns told ++ os)
      (octets_alike (turns_behind_event told.event turns) answered)
