-- How an end stands behind an answer.
use Rattle.std.proofs.Common.{◌≡◌, ℕ, Bool, true, false, List, Option, Some, None, refl, sym, ap, subst, ◌∙◌}
use Rattle.std.proofs.Common.{inl, inr, if◌then◌else◌}
use Rattle.mms_services.specs.declared.initiate.Initiate.{Initiate}
use Rattle.stack_assoc.specs.declared.messages.expecting.Side.{Side}
use Rattle.stack_assoc.specs.declared.messages.expecting.Side.TheVariants as sides
use Rattle.stack_assoc.specs.declared.messages.fault.StackFault.{StackFault}
use Rattle.stack_assoc.specs.declared.messages.heard.Heard.{Heard}
use Rattle.stack_assoc.specs.declared.messages.heard.Heard.TheVariants as heards
use Rattle.stack_assoc.specs.declared.input.StackIn.TheVariants as inputs
use Rattle.stack_assoc.specs.declared.input.StackState.TheVariants as states
use Rattle.stack_assoc.specs.declared.end_state.EndState.{EndState}
use Rattle.stack_assoc.specs.declared.end_state.EndState.TheVariants as standings
use Rattle.stack_assoc.specs.declared.taken.Came.{Came}
use Rattle.stack_assoc.specs.declared.taken.Came.TheVariants as cames
use Rattle.stack_assoc.specs.declared.taken.Said.{Said}
use Rattle.stack_assoc.specs.declared.taken.Said.TheVariants as saids
use Rattle.stack_assoc.specs.Handing.{input_heard, is_offer}
use Rattle.stack_assoc.specs.Courses.{Course, standing_heard, standing_offered, EndStandsBehind}
use Rattle.stack_assoc.specs.Courses.{FollowsAnswer, fault_in, is_offered, state_with}
use Rattle.stack_assoc.specs.Saying.{left_by}
use Rattle.stack_assoc.specs.Steps.{told_with, told_answer}
use Rattle.stack_assoc.proofs.Answered.{answered}

offer_follows : (old : EndState) (title : Option (List ℕ)) (i : Initiate) (b : Bool)
    → EndStandsBehind (if b then inputs.Offer title i else inputs.BadOffer) old (standing_offered b)
offer_follows old title i true = refl
offer_follows old title i false = refl

heard_follows : (s : EndState) (h : Heard) → EndStandsBehind (input_heard h) s (standing_heard s h)
heard_follows s (heards.Connect c) = offer_follows s c.title c.initiate (is_offer c)
heard_follows s (heards.Accept a) = refl
heard_follows s heards.Refuse = refl
heard_follows s heards.Finish = inl refl
heard_follows s heards.Disconnect = inr refl
heard_follows s heards.Abort = refl
heard_follows s heards.AbortAccept = refl
heard_follows s (heards.Pdu p) = refl
heard_follows s (heards.BadRequest invoke) = refl

pub told_follows : (s : EndState) (v : Course) (came : Came) (said : Said) → v.standing ≡ s
    → FollowsAnswer (told_answer came said) s (told_with came said (answered v)).standing
told_follows s v cames.Message saids.Nothing e = e
told_follows s v cames.Nothing saids.Nothing e = e
told_follows s v (cames.Fault f) saids.Nothing e = e
told_follows s v came saids.Gone e = refl
told_follows s v came (saids.Heard h results) e =
    let P : EndState → Type 0 = λ w. EndStandsBehind (input_heard h) s (standing_heard w h) in
    subst P (sym e) (heard_follows s h)
told_follows s v came (saids.Broken f) e = e

pub told_fault : (v : Course) (came : Came) (said : Said) → v.fault ≡ None
    → (told_with came said (answered v)).fault ≡ fault_in (told_answer came said)
told_fault v cames.Message saids.Nothing e = e
told_fault v cames.Nothing saids.Nothing e = e
told_fault v (cames.Fault f) saids.Nothing e = refl
told_fault v came saids.Gone e = e
told_fault v came (saids.Heard h results) e = e
told_fault v came (saids.Broken f) e = refl

-- ---- no offer stands unanswered

-- at the start of a stream
pub free_waiting : (f : Option StackFault) (s : EndState) → state_with f s ≡ states.Waiting
    → is_offered s ≡ false
free_waiting None standings.Waiting e = refl
free_waiting None standings.Offered e = absurd cc
free_waiting None standings.BadlyOffered e = absurd cc
free_waiting None standings.Accepted e = absurd cc
free_waiting None standings.Finishing e = absurd cc
free_waiting None standings.Closed e = absurd cc
free_waiting (Some f) s e = absurd cc

-- where the association stands
pub free_accepted : (f : Option StackFault) (s : EndState) → state_with f s ≡ states.Accepted
    → is_offered s ≡ false
free_accepted None standings.Waiting e = absurd cc
free_accepted None standings.Offered e = absurd cc
free_accepted None standings.BadlyOffered e = absurd cc
free_accepted None standings.Accepted e = refl
free_accepted None standings.Finishing e = refl
free_accepted None standings.Closed e = absurd cc
free_accepted (Some f) s e = absurd cc

-- once it was released
pub free_released : (side : Side) (s : EndState) → is_offered s ≡ false
    → is_offered (left_by side s) ≡ false
free_released sides.Called s free = refl
free_released sides.Calling s free = free
free_released sides.Either s free = free

-- ---- a fault is the answer again

abbrev fault_or : StackFault → Option StackFault → StackFault
fault_or f None = f
fault_or f (Some g) = g

pub same_fault : (o : Option StackFault) (f g : StackFault) → o ≡ Some f → o ≡ Some g → f ≡ g
same_fault o f g a b = ap (λ (x : Option StackFault). fault_or f x) (sym a ∙ b)

pub no_fault : (o : Option StackFault) (f : StackFault) → o ≡ None → o ≡ Some f → ⊥
no_fault None f a b = absurd cc
no_fault (Some g) f a b = absurd cc
