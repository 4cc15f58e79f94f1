-- How the events of an association are accounted for, by what was heard of its link.
use Rattle.std.specs.Prelude.{◌≡◌, ℕ, Bool, false, List, Some, None}
use Rattle.std.specs.List.{All}
use Rattle.mms_services.specs.declared.initiate.Initiate.{Initiate}
use Rattle.stack_assoc.specs.Handing.{is_too_little}
use Rattle.bilateral.specs.Rows.{CentreRows}
use Rattle.tase_views.specs.declared.event.EventKind.{EventKind}
use Rattle.texts.specs.Journal.Entries.{IsEvent}
use Rattle.tase_verify.specs.declared.association.account.Account.{Account}
use Rattle.tase_verify.specs.declared.association.account.Account.TheVariants.{Octets, Stray}
use Rattle.tase_verify.specs.declared.association.answered.AnsweredEvent.{AnsweredEvent}
use Rattle.tase_verify.specs.declared.association.check.Compared.{Compared}
use Rattle.tase_verify.specs.declared.association.hearing.Heard.{Heard}
use Rattle.tase_verify.specs.declared.association.saying.Terms.{Terms}
use Rattle.tase_verify.specs.Association.Asking.{asked_in, turns_of_inputs}
use Rattle.tase_verify.specs.Association.Hearing.{HasHeard, offered_in}
use Rattle.tase_verify.specs.Association.Saying.{octets_by_events, talk_kept}
use Rattle.tase_verify.specs.Association.Spelled.{IsToldSpelled}
use Rattle.tase_verify.specs.Association.Stray.{events_told, first_stray}
use Rattle.tase_verify.specs.Association.Terms.{AreTermsOf}

-- these octets are sent of the events, by the terms that were heard
pub record IsSaidBy (heard : Heard) (ended : Bool) (answered : List AnsweredEvent)
    (want : List ℕ) : Type 0 where
  pub terms : Terms
  pub exact : (offer : Initiate) → offered_in heard.inputs.items ≡ Some offer
      → is_too_little offer ≡ false → AreTermsOf offer heard ended terms
  pub said : want ≡ octets_by_events (talk_kept terms) (talk_kept terms).turns answered

-- what octets tell was heard of a link, and the first of these events that is stray by what it asks
-- is known
pub record IsCompared (rows : CentreRows) (answered : List AnsweredEvent) (octets : List ℕ)
    (ended : Bool) (compared : Compared) : Type 0 where
  pub hears : HasHeard octets compared.heard
  pub asked : List EventKind
  pub asks : asked
      ≡ asked_in rows (turns_of_inputs compared.heard.inputs.items compared.heard.broken ended)
  pub spelled : All IsEvent asked
  pub told : All IsToldSpelled answered
  pub first : compared.stray ≡ first_stray (events_told answered) asked

-- an event is stray, or none is, and these octets are sent
abbrev pub IsAccount : Compared → Bool → List AnsweredEvent → Account → Type 0
IsAccount compared ended answered (Stray number) = compared.stray ≡ Some number
IsAccount compared ended answered (Octets want) =
    (compared.stray ≡ None) × IsSaidBy compared.heard ended answered want.items
