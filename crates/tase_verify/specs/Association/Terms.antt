-- What a link fixes of what its association is sent, by what was heard of it.
use Rattle.std.specs.Prelude.{◌≡◌, ℕ, ℤ, Bool, List, [], ◌++◌, map, Option, Some, None}
use Rattle.tpkt_cotp.specs.Written.{wire}
use Rattle.mms_services.specs.declared.initiate.Initiate.{Initiate}
use Rattle.mms_services.specs.declared.initiate.TheConstants.{MOST_DETAIL}
use Rattle.mms_services.specs.Negotiations.{granted, granted_of}
use Rattle.stack_assoc.specs.declared.wire.setup.AssociationSetup.{AssociationSetup}
use Rattle.stack_assoc.specs.Wire.Tsdus.{accept_tsdu}
use Rattle.tase_verify.specs.declared.association.hearing.Heard.{Heard}
use Rattle.tase_verify.specs.declared.association.saying.Terms.{Terms}
use Rattle.tase_verify.specs.Association.Asking.{turns_of_inputs}
use Rattle.tase_verify.specs.Association.Saying.{kind_of_turn}

-- what is granted of some offer
pub record IsGranted (answer : Initiate) : Type 0 where
  pub offer : Initiate
  pub is : answer ≡ granted offer

-- the accept, where something is granted
abbrev pub accepted_by : AssociationSetup → Option Initiate → List ℕ
accepted_by setup None = []
accepted_by setup (Some answer) = wire setup.size (accept_tsdu setup answer)

abbrev pub detail_or : Option ℤ → ℤ
detail_or None = MOST_DETAIL
detail_or (Some detail) = detail

-- the most octets of a PDU that were agreed on
abbrev pub detail_by : Option Initiate → ℤ
detail_by None = MOST_DETAIL
detail_by (Some answer) = detail_or answer.detail

-- what was heard fixes this, where its first offer is accepted
pub record AreTermsOf (offer : Initiate) (heard : Heard) (ended : Bool) (terms : Terms) :
    Type 0 where
  pub opening : terms.opening.items
      ≡ heard.confirm.items ++ accepted_by heard.stack.setup (Some (granted offer))
  pub setup : terms.stack.setup ≡ heard.stack.setup
  pub detail : terms.detail ≡ granted_of MOST_DETAIL offer.detail
  pub turns : terms.turns.items
      ≡ map kind_of_turn (turns_of_inputs heard.inputs.items heard.broken ended)
