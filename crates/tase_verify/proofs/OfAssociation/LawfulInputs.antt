-- The PDUs that are handed out have lawful parts.
use Rattle.std.proofs.Common.{ℕ, Bool, true, false, List, [], ◌∷◌, sym, subst}
use Rattle.std.specs.Prelude.{Option, if◌then◌else◌}
use Rattle.std.specs.List.{All}
use Rattle.std.proofs.lemmas.List.Elements.{All-nil, All-cons, All-head, All-tail}
use Rattle.mms_services.specs.declared.initiate.Initiate.{Initiate}
use Rattle.stack_assoc.specs.declared.messages.heard.Heard as messages
use Rattle.stack_assoc.specs.declared.messages.heard.Heard.TheVariants as heards
use Rattle.stack_assoc.specs.declared.input.StackIn.{StackIn}
use Rattle.stack_assoc.specs.declared.input.StackIn.TheVariants as inputs
use Rattle.stack_assoc.specs.Arrivals.{Arrival, asked, confirmed, gone, heard, called}
use Rattle.stack_assoc.specs.Handing.{is_offer, input_heard, handed_out}
use Rattle.tase_conn.specs.Map.LawfulTold.{IsLawfulHeard, IsLawfulTold}
use Rattle.tase_conn.specs.Map.Readings.{reading_of}
use Rattle.tase_conn.proofs.OfMap.Fronts.{whole_front}
use Rattle.tase_conn.proofs.OfMap.LawfulMessages.{told_lawful}
use Rattle.tase_verify.specs.declared.association.hearing.Heard.{Heard}
use Rattle.tase_verify.specs.Association.Asking.{IsLawfulInput}
use Rattle.tase_verify.specs.Association.Hearing.{HasHeard}

offer_lawful : (b : Bool) (title : Option (List ℕ)) (initiate : Initiate)
    → IsLawfulInput (if b then inputs.Offer title initiate else inputs.BadOffer)
offer_lawful true title initiate = tt
offer_lawful false title initiate = tt

heard_lawful : (h : messages.Heard) → IsLawfulHeard h → IsLawfulInput (input_heard h)
heard_lawful (heards.Connect c) l = offer_lawful (is_offer c) c.title c.initiate
heard_lawful (heards.Accept a) l = tt
heard_lawful heards.Refuse l = tt
heard_lawful heards.Finish l = tt
heard_lawful heards.Disconnect l = tt
heard_lawful heards.Abort l = tt
heard_lawful heards.AbortAccept l = tt
heard_lawful (heards.Pdu p) l = l
heard_lawful (heards.BadRequest invoke) l = tt

handed_lawful : (told : List Arrival) → All IsLawfulTold told → All IsLawfulInput (handed_out told)
handed_lawful [] l = All-nil IsLawfulInput
handed_lawful (asked r ∷ told) l = handed_lawful told (All-tail IsLawfulTold (asked r) told l)
handed_lawful (confirmed c ∷ told) l =
    handed_lawful told (All-tail IsLawfulTold (confirmed c) told l)
handed_lawful (gone ∷ told) l =
    All-cons IsLawfulInput inputs.Aborted (handed_out told) tt
    (handed_lawful told (All-tail IsLawfulTold gone told l))
handed_lawful (heard h ∷ told) l =
    All-cons IsLawfulInput (input_heard h) (handed_out told)
    (heard_lawful h (All-head IsLawfulTold (heard h) told l))
    (handed_lawful told (All-tail IsLawfulTold (heard h) told l))

pub inputs_lawful : (octets : List ℕ) (known : Heard) → HasHeard octets known
    → All IsLawfulInput known.inputs.items
inputs_lawful octets known h =
    let front = whole_front octets in
    subst (λ (handed : List StackIn). All IsLawfulInput handed) (sym h.inputs)
    (handed_lawful (reading_of octets).told
    (told_lawful called [] (reading_of octets).told front.messages front.tell))
