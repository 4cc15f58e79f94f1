-- The first offer of a link, and the connect that makes it.
use Rattle.std.proofs.Common.{◌≡◌, ℕ, Bool, true, false, List, [], ◌∷◌, Option, Some}
use Rattle.std.proofs.Common.{refl, ap, ◌∙◌}
use Rattle.std.specs.Prelude.{if◌then◌else◌, not, ◌&&◌, is_some, bytes_eq}
use Rattle.std.proofs.lemmas.Bool.{false≢true}
use Rattle.presentation_profile.specs.Agreements.{acse_of}
use Rattle.acse_assoc.specs.Writing.{mms_context}
use Rattle.mms_services.specs.declared.pdu.MmsPdu.{MmsPdu}
use Rattle.mms_services.specs.declared.pdu.MmsPdu.TheVariants as pdus
use Rattle.stack_assoc.specs.declared.messages.heard.Connecting.{Connecting}
use Rattle.stack_assoc.specs.declared.messages.heard.Heard.TheVariants as heards
use Rattle.stack_assoc.specs.declared.input.StackIn.{StackIn}
use Rattle.stack_assoc.specs.declared.input.StackIn.TheVariants as inputs
use Rattle.stack_assoc.specs.Arrivals.{Arrival, asked, confirmed, gone, heard, first_in, connect_in}
use Rattle.stack_assoc.specs.Handing.{is_offer, is_too_little, handed_out}
use Rattle.tase_conn.specs.Map.Turns.{Turn, offers}
use Rattle.tase_verify.specs.Association.Asking.{last_turns, turns_of_inputs}
use Rattle.tase_verify.specs.Association.Hearing.{offered_in}

-- the first message that hands out a turn is a connect that may be accepted
pub record IsOffered (told : List Arrival) : Type 0 where
  pub connecting : Connecting
  pub first : first_in connect_in told ≡ Some connecting
  pub enough : is_too_little connecting.initiate ≡ false
  pub offered : offered_in (handed_out told) ≡ Some connecting.initiate

enough_by : (a b c : Bool) → (a && (b && not c)) ≡ true → c ≡ false
enough_by true true true e = absurd (false≢true e)
enough_by true true false e = refl
enough_by true false c e = absurd (false≢true e)
enough_by false b c e = absurd (false≢true e)

offer_enough : (c : Connecting) → is_offer c ≡ true → is_too_little c.initiate ≡ false
offer_enough c e =
    enough_by (is_some (acse_of c.contexts)) (bytes_eq c.context mms_context)
    (is_too_little c.initiate) e

abbrev starts_offer : List Turn → Bool
starts_offer (offers title ∷ turns) = true
starts_offer turns = false

started : (title : Option (List ℕ)) (turns : List Turn) {all : List Turn}
    → all ≡ offers title ∷ turns → starts_offer all ≡ true
started title turns e = ap (λ (ts : List Turn). starts_offer ts) e

never_last : (broken ended : Bool) (title : Option (List ℕ)) (turns : List Turn)
    → last_turns broken ended ≡ offers title ∷ turns → ⊥
never_last true ended title turns e = false≢true (started title turns e)
never_last false true title turns e = false≢true (started title turns e)
never_last false false title turns e = false≢true (started title turns e)

module _ (broken ended : Bool) (title : Option (List ℕ)) (turns : List Turn) where
  -- what was handed out has this offer as its first turn
  abbrev Begins : List StackIn → Type 0
  Begins handed = turns_of_inputs handed broken ended ≡ offers title ∷ turns

  connect_by : (c : Connecting) (told : List Arrival) (b : Bool) → is_offer c ≡ b
      → Begins ((if b then inputs.Offer c.title c.initiate else inputs.BadOffer) ∷ handed_out told)
      → IsOffered (heard (heards.Connect c) ∷ told)
  connect_by c told true k e = record {
    connecting = c;
    first = refl;
    enough = offer_enough c k;
    offered = ap (λ (b : Bool). offered_in ((if b then inputs.Offer c.title c.initiate
        else inputs.BadOffer) ∷ handed_out told)) k;
  }
  connect_by c told false k e =
      absurd (false≢true (started title turns e))

  -- behind a message that hands out no turn
  behind : (t : Arrival) (told : List Arrival)
      → first_in connect_in (t ∷ told) ≡ first_in connect_in told
      → offered_in (handed_out (t ∷ told)) ≡ offered_in (handed_out told)
      → IsOffered told → IsOffered (t ∷ told)
  behind t told first offered o = record {
    connecting = o.connecting;
    first = first ∙ o.first;
    enough = o.enough;
    offered = offered ∙ o.offered;
  }

  pdu_by : (p : MmsPdu) (told : List Arrival) → (Begins (handed_out told) → IsOffered told)
      → Begins (inputs.Pdu p ∷ handed_out told) → IsOffered (heard (heards.Pdu p) ∷ told)
  pdu_by (pdus.Request invoke request) told go e = absurd (false≢true (started title turns e))
  pdu_by (pdus.Response invoke response) told go e =
      behind (heard (heards.Pdu (pdus.Response invoke response))) told refl refl (go e)
  pdu_by (pdus.Error x) told go e =
      behind (heard (heards.Pdu (pdus.Error x))) told refl refl (go e)
  pdu_by (pdus.Report r) told go e =
      behind (heard (heards.Pdu (pdus.Report r))) told refl refl (go e)
  pdu_by (pdus.Reject r) told go e =
      behind (heard (heards.Pdu (pdus.Reject r))) told refl refl (go e)
  pdu_by (pdus.Initiate offer) told go e =
      behind (heard (heards.Pdu (pdus.Initiate offer))) told refl refl (go e)
  pdu_by (pdus.Initiated offer) told go e =
      behind (heard (heards.Pdu (pdus.Initiated offer))) told refl refl (go e)
  pdu_by pdus.InitiateError told go e =
      behind (heard (heards.Pdu pdus.InitiateError)) told refl refl (go e)
  pdu_by pdus.Conclude told go e = absurd (false≢true (started title turns e))
  pdu_by pdus.Concluded told go e =
      behind (heard (heards.Pdu pdus.Concluded)) told refl refl (go e)

  pub first_offer : (told : List Arrival) → Begins (handed_out told) → IsOffered told
  first_offer [] e = absurd (never_last broken ended title turns e)
  first_offer (asked r ∷ told) e = behind (asked r) told refl refl (first_offer told e)
  first_offer (confirmed c ∷ told) e = behind (confirmed c) told refl refl (first_offer told e)
  first_offer (gone ∷ told) e = absurd (false≢true (started title turns e))
  first_offer (heard (heards.Connect c) ∷ told) e = connect_by c told (is_offer c) refl e
  first_offer (heard (heards.Accept a) ∷ told) e =
      behind (heard (heards.Accept a)) told refl refl (first_offer told e)
  first_offer (heard heards.Refuse ∷ told) e =
      behind (heard heards.Refuse) told refl refl (first_offer told e)
  first_offer (heard heards.Finish ∷ told) e = absurd (false≢true (started title turns e))
  first_offer (heard heards.Disconnect ∷ told) e = absurd (false≢true (started title turns e))
  first_offer (heard heards.Abort ∷ told) e = absurd (false≢true (started title turns e))
  first_offer (heard heards.AbortAccept ∷ told) e = absurd (false≢true (started title turns e))
  first_offer (heard (heards.Pdu p) ∷ told) e = pdu_by p told (λ f. first_offer told f) e
  first_offer (heard (heards.BadRequest invoke) ∷ told) e =
      absurd (false≢true (started title turns e))
