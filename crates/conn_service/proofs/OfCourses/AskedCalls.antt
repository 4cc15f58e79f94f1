-- Each request of an input is a call of the node.
use Rattle.std.proofs.Common.{◌≡◌, ℕ, Bool, true, false, List, [], ◌∷◌, ◌++◌, Option, Some, None}
use Rattle.std.proofs.Common.{refl, sym, subst, inr}
use Rattle.std.specs.Prelude.{if◌then◌else◌, IfSome}
use Rattle.std.specs.List.{All, filter_map, cons_option}
use Rattle.std.proofs.lemmas.List.Elements.{All-head, All-tail}
use Rattle.mms_services.specs.declared.initiate.Initiate.{Initiate}
use Rattle.mms_services.specs.declared.pdu.MmsPdu.{MmsPdu}
use Rattle.mms_services.specs.declared.pdu.MmsPdu.TheVariants as pdus
use Rattle.mms_services.specs.Lawful.{IsLawfulPdu}
use Rattle.stack_assoc.specs.declared.messages.fault.StackFault.{StackFault}
use Rattle.stack_assoc.specs.declared.messages.heard.Heard.{Heard}
use Rattle.stack_assoc.specs.declared.messages.heard.Heard.TheVariants as heards
use Rattle.stack_assoc.specs.declared.input.StackIn.TheVariants as inputs
use Rattle.stack_assoc.specs.Arrivals.{Arrival, asked, confirmed, gone, heard, called}
use Rattle.stack_assoc.specs.Handing.{is_offer, input_heard, handed_out}
use Rattle.tase_views.specs.declared.call.CallKind.{CallKind}
use Rattle.tase_views.specs.Calls.{IsCall}
use Rattle.tase_conn.specs.Map.Asked.{call_of_request}
use Rattle.tase_conn.specs.Map.Inputs.{Item, IsLinkInput, text_given, link_has_ended}
use Rattle.tase_conn.specs.Map.LawfulTold.{IsLawfulTold, IsLawfulHeard}
use Rattle.tase_conn.specs.Map.Readings.{reading_of}
use Rattle.tase_conn.specs.Map.Turns.{Turn, offers, offers_badly, asks, concludes, releases, aborts}
use Rattle.tase_conn.specs.Map.Turns.{breaks, ends, pauses, turn_of_pdu, turn_in, fault_turns}
use Rattle.tase_conn.specs.Map.Turns.{turns_told, turns_of}
use Rattle.tase_conn.specs.Map.Asks.{without_pauses}
use Rattle.tase_conn.specs.Map.Out.{end_turns}
use Rattle.tase_conn.proofs.OfMap.AskedLaws.{lawful_call}
use Rattle.tase_conn.proofs.OfMap.LawfulMessages.{told_lawful}
use Rattle.tase_conn.proofs.OfMap.Fronts.{whole_front}
use Rattle.conn_service.proofs.OfCourses.Texts.{text_turns}

abbrev IsAsked : Turn → Type 0
IsAsked (asks invoke call) = IsCall call
IsAsked turn = Unit {0}

abbrev AreAsked : List Turn → Type 0
AreAsked [] = Unit {0}
AreAsked (turn ∷ turns) = IsAsked turn × AreAsked turns

asked-append : (front more : List Turn) → AreAsked front → AreAsked more → AreAsked (front ++ more)
asked-append [] more f m = m
asked-append (turn ∷ front) more f m = (f.0, asked-append front more f.1 m)

asked_found : (found : Option Turn) (turns : List Turn) → IfSome found IsAsked → AreAsked turns
    → AreAsked (cons_option found turns)
asked_found None turns f a = a
asked_found (Some turn) turns f a = (f, a)

asked_pdu : (pdu : MmsPdu) → IsLawfulPdu pdu → IfSome (turn_of_pdu pdu) IsAsked
asked_pdu (pdus.Request invoke request) l = lawful_call request (call_of_request request) l refl
asked_pdu (pdus.Response invoke response) l = tt
asked_pdu (pdus.Error e) l = tt
asked_pdu (pdus.Report r) l = tt
asked_pdu (pdus.Reject r) l = tt
asked_pdu (pdus.Initiate offer) l = tt
asked_pdu (pdus.Initiated offer) l = tt
asked_pdu pdus.InitiateError l = tt
asked_pdu pdus.Conclude l = tt
asked_pdu pdus.Concluded l = tt

asked_offer : (b : Bool) (title : Option (List ℕ)) (initiate : Initiate)
    → IfSome (turn_in (if b then inputs.Offer title initiate else inputs.BadOffer)) IsAsked
asked_offer true title initiate = tt
asked_offer false title initiate = tt

asked_heard : (h : Heard) → IsLawfulHeard h → IfSome (turn_in (input_heard h)) IsAsked
asked_heard (heards.Connect c) l = asked_offer (is_offer c) c.title c.initiate
asked_heard (heards.Accept a) l = tt
asked_heard heards.Refuse l = tt
asked_heard heards.Finish l = tt
asked_heard heards.Disconnect l = tt
asked_heard heards.Abort l = tt
asked_heard heards.AbortAccept l = tt
asked_heard (heards.Pdu p) l = asked_pdu p l
asked_heard (heards.BadRequest invoke) l = (inr refl, refl)

asked_told : (told : List Arrival) → All IsLawfulTold told
    → AreAsked (filter_map turn_in (handed_out told))
asked_told [] l = tt
asked_told (asked r ∷ told) l = asked_told told (All-tail IsLawfulTold (asked r) told l)
asked_told (confirmed c ∷ told) l = asked_told told (All-tail IsLawfulTold (confirmed c) told l)
asked_told (gone ∷ told) l = (tt, asked_told told (All-tail IsLawfulTold gone told l))
asked_told (heard h ∷ told) l =
    asked_found (turn_in (input_heard h)) (filter_map turn_in (handed_out told))
    (asked_heard h (All-head IsLawfulTold (heard h) told l))
    (asked_told told (All-tail IsLawfulTold (heard h) told l))

asked_fault : (broken : Option StackFault) → AreAsked (fault_turns broken)
asked_fault None = tt
asked_fault (Some fault) = (tt, tt)

asked_end : (ended : Bool) → AreAsked (end_turns ended)
asked_end true = (tt, tt)
asked_end false = tt

asked_text : (text : List ℕ) (ended : Bool)
    → AreAsked (turns_told (reading_of text) ++ end_turns ended)
asked_text text ended =
    let r = reading_of text in
    let f = whole_front text in
    asked-append (turns_told r) (end_turns ended)
    (asked-append (filter_map turn_in (handed_out r.told)) (fault_turns r.broken)
    (asked_told r.told (told_lawful called [] r.told f.messages f.tell)) (asked_fault r.broken))
    (asked_end ended)

asked_paused : (turns : List Turn) → AreAsked (without_pauses turns) → AreAsked turns
asked_paused [] a = tt
asked_paused (offers title ∷ turns) a = (tt, asked_paused turns a.1)
asked_paused (offers_badly ∷ turns) a = (tt, asked_paused turns a.1)
asked_paused (asks invoke call ∷ turns) a = (a.0, asked_paused turns a.1)
asked_paused (concludes ∷ turns) a = (tt, asked_paused turns a.1)
asked_paused (releases ∷ turns) a = (tt, asked_paused turns a.1)
asked_paused (aborts ∷ turns) a = (tt, asked_paused turns a.1)
asked_paused (breaks ∷ turns) a = (tt, asked_paused turns a.1)
asked_paused (ends ∷ turns) a = (tt, asked_paused turns a.1)
asked_paused (pauses ∷ turns) a = (tt, asked_paused turns a)

asked_at : (front : List Turn) (invoke : ℕ) (call : CallKind) (rest : List Turn)
    → AreAsked (front ++ asks invoke call ∷ rest) → IsCall call
asked_at [] invoke call rest a = a.0
asked_at (turn ∷ front) invoke call rest a = asked_at front invoke call rest a.1

pub input_calls : (items : List Item) (front : List Turn) (invoke : ℕ) (call : CallKind)
    (rest : List Turn) → IsLinkInput items → turns_of items ≡ front ++ asks invoke call ∷ rest
    → IsCall call
input_calls items front invoke call rest i t =
    asked_at front invoke call rest
    (subst (λ (ts : List Turn). AreAsked ts) t
    (asked_paused (turns_of items)
    (subst (λ (ts : List Turn). AreAsked ts) (sym (text_turns items i))
    (asked_text (text_given items) (link_has_ended items)))))
