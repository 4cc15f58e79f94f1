-- What octets tell the called end of an association, as it is heard.
use Rattle.std.specs.Prelude.{◌≡◌, ℕ, true, false, Bool, List, [], ◌∷◌, Option, Some, None, is_some}
use Rattle.mms_services.specs.declared.initiate.Initiate.{Initiate}
use Rattle.stack_assoc.specs.declared.input.StackIn.{StackIn}
use Rattle.stack_assoc.specs.declared.input.StackIn.TheVariants as inputs
use Rattle.stack_assoc.specs.Arrivals.{Arrival, called, first_in, connect_in}
use Rattle.stack_assoc.specs.Expectations.{setup_after}
use Rattle.stack_assoc.specs.Handing.{handed_out, answers_to}
use Rattle.stack_assoc.specs.Courses.{CourseStands, IsCourseSettled}
use Rattle.tase_conn.specs.Map.Readings.{reading_of, TellsReading}
use Rattle.tase_verify.specs.declared.association.hearing.Heard.{Heard}

-- it was fed these octets; what was told so far was handed out, and answered at once
pub record HearsSome (octets : List ℕ) (heard : Heard) : Type 0 where
  pub told : List Arrival
  pub stands : CourseStands called octets told heard.stack
  pub inputs : heard.inputs.items ≡ handed_out told
  pub confirm : heard.confirm.items ≡ answers_to called told

-- and that is all that they tell: the stack may be fed again
pub record HearsAll (octets : List ℕ) (heard : Heard) : Type 0 where
  pub some : HearsSome octets heard
  pub all : TellsReading octets some.told heard.stack.fault
  pub broken : heard.broken ≡ is_some heard.stack.fault
  pub settled : IsCourseSettled heard.stack

-- where more may come, that was some of it, else all
abbrev pub HearsOn : Bool → List ℕ → Heard → Type 0
HearsOn true octets heard = HearsSome octets heard
HearsOn false octets heard = HearsAll octets heard

abbrev pub is_offering : StackIn → Bool
is_offering (inputs.Offer title initiate) = true
is_offering inputs.BadOffer = true
is_offering input = false

-- all that these octets tell was heard
pub record HasHeard (octets : List ℕ) (heard : Heard) : Type 0 where
  pub inputs : heard.inputs.items ≡ handed_out (reading_of octets).told
  pub confirm : heard.confirm.items ≡ answers_to called (reading_of octets).told
  pub broken : heard.broken ≡ is_some (reading_of octets).broken
  pub setup : is_some (first_in connect_in (reading_of octets).told) ≡ true
      → heard.stack.setup ≡ setup_after (reading_of octets).told

-- the parameters of the first offer, where it may be accepted
abbrev pub offered_in : List StackIn → Option Initiate
offered_in [] = None
offered_in (inputs.Offer title initiate ∷ others) = Some initiate
offered_in (inputs.BadOffer ∷ others) = None
offered_in (input ∷ others) = offered_in others
