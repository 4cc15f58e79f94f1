-- A check of an association, by what was heard of its link.
use Rattle.std.proofs.Common.{◌≡◌, ℕ, ℤ, Bool, false, List, [], ◌∷◌, ◌++◌, Option, Some, None}
use Rattle.std.proofs.Common.{refl, sym, ap, subst, ◌∙◌, append_assoc, ◌⊎◌, inl, inr}
use Rattle.std.specs.Prelude.{is_some, map, drop, Result, Ok, Err, IfOk}
use Rattle.std.specs.List.{filter_map, All}
use Rattle.std.proofs.lemmas.Option.{none-some}
use Rattle.mms_services.specs.declared.initiate.Initiate.{Initiate}
use Rattle.stack_assoc.specs.declared.messages.fault.StackFault.{StackFault}
use Rattle.stack_assoc.specs.declared.messages.heard.Connecting.{Connecting}
use Rattle.stack_assoc.specs.declared.wire.setup.AssociationSetup.{AssociationSetup}
use Rattle.stack_assoc.specs.declared.input.StackIn.{StackIn}
use Rattle.stack_assoc.specs.Arrivals.{called}
use Rattle.stack_assoc.specs.Expectations.{setup_after}
use Rattle.stack_assoc.specs.Handing.{is_too_little, handed_out, answers_to}
use Rattle.bilateral.specs.Rows.{CentreRows, place_of_title}
use Rattle.sbo_device.specs.declared.key.Key.{Key}
use Rattle.tase_views.specs.declared.event.EventKind.{EventKind}
use Rattle.tase_views.specs.declared.event.EventKind.TheVariants as events
use Rattle.tase_views.specs.Setup.{Setup}
use Rattle.tase_views.specs.History.{Past}
use Rattle.tase_conn.specs.Map.Readings.{reading_of}
use Rattle.tase_conn.specs.Map.Turns.{Turn, offers, offers_badly, asks, concludes, releases, aborts}
use Rattle.tase_conn.specs.Map.Turns.{breaks, ends, pauses, turn_in, fault_turns, turns_told}
use Rattle.tase_conn.specs.Map.Out.{Talk, talk_of, behind_offer, end_turns, accept_wire, detail_of}
use Rattle.tase_conn.specs.Map.Sent.{association_octets}
use Rattle.texts.specs.Journal.Entries.{IsEvent}
use Rattle.tase_verify.specs.declared.association.answered.AnsweredEvent.{AnsweredEvent}
use Rattle.tase_verify.specs.declared.association.hearing.Heard.{Heard}
use Rattle.tase_verify.specs.declared.association.saying.Terms.{Terms}
use Rattle.tase_verify.specs.declared.association.account.Account.{Account}
use Rattle.tase_verify.specs.declared.association.account.Account.TheVariants.{Octets, Stray}
use Rattle.tase_verify.specs.declared.association.account.AccountError.{AccountError}
use Rattle.tase_verify.specs.declared.association.check.Compared.{Compared}
use Rattle.tase_verify.specs.declared.association.verdict.Verdict.TheVariants as verdicts
use Rattle.tase_verify.specs.Association.Accounting.{IsAccount, IsCompared}
use Rattle.tase_verify.specs.Association.Answered.{answered_in}
use Rattle.tase_verify.specs.Association.Asking.{asked_open, asked_by, asked_in, broken_turns}
use Rattle.tase_verify.specs.Association.Asking.{turns_of_inputs}
use Rattle.tase_verify.specs.Association.Hearing.{HasHeard, offered_in}
use Rattle.tase_verify.specs.Association.Saying.{octets_by_events, talk_kept, kind_of_turn}
use Rattle.tase_verify.specs.Association.Saying.{turns_of_kinds}
use Rattle.tase_verify.specs.Association.Spelled.{IsToldSpelled}
use Rattle.tase_verify.specs.Association.Stray.{events_entered, events_asked, events_told}
use Rattle.tase_verify.specs.Association.Stray.{stray_from, first_stray}
use Rattle.tase_verify.specs.Association.Terms.{AreTermsOf}
use Rattle.tase_verify.specs.Association.Verdicts.{Judges, verdict_by, verdict_between}
use Rattle.tase_verify.specs.Association.Verdicts.{verdict_of}
use Rattle.tase_verify.proofs.OfAssociation.AskedEvents.{asked_events}
use Rattle.tase_verify.proofs.OfAssociation.KindsAlike.{alike, with_turns, octets_alike}
use Rattle.tase_verify.proofs.OfAssociation.Matched.{IsYet, IsOpened, IsMatched}
use Rattle.tase_verify.proofs.OfAssociation.Matched.{matched}
use Rattle.tase_verify.proofs.OfAssociation.Offered.{IsOffered, first_offer}
use Rattle.tase_verify.proofs.OfAssociation.Passed.{all_passed, entered_told}

-- ---- the turns of a link

abbrev pub turns_given : List ℕ → Bool → List Turn
turns_given octets ended = turns_told (reading_of octets) ++ end_turns ended

broken_is : (fault : Option StackFault) → broken_turns (is_some fault) ≡ fault_turns fault
broken_is None = refl
broken_is (Some fault) = refl

pub heard_turns : (octets : List ℕ) (ended : Bool) (heard : Heard) → HasHeard octets heard
    → turns_of_inputs heard.inputs.items heard.broken ended ≡ turns_given octets ended
heard_turns octets ended heard h =
    let r = reading_of octets in
    ap (λ (handed : List StackIn). turns_of_inputs handed heard.broken ended) h.inputs
    ∙ ap (λ (broken : Bool). turns_of_inputs (handed_out r.told) broken ended) h.broken
    ∙ ap (λ (ts : List Turn). filter_map turn_in (handed_out r.told) ++ (ts ++ end_turns ended))
    (broken_is r.broken)
    ∙ sym (append_assoc (filter_map turn_in (handed_out r.told)) (fault_turns r.broken)
    (end_turns ended))

-- ---- the offer

pub record StartsWithOffer (turns : List Turn) : Type 0 where
  pub title : Option (List ℕ)
  pub later : List Turn
  pub is : turns ≡ offers title ∷ later

offer_of : (rows : CentreRows) (turns : List Turn) (peer : ℕ) (others : List EventKind)
    → asked_in rows turns ≡ events.Open peer ∷ others → StartsWithOffer turns
offer_of rows [] peer others e = absurd cc
offer_of rows (offers title ∷ turns) peer others e =
    record { title = title; later = turns; is = refl }
offer_of rows (offers_badly ∷ turns) peer others e = absurd cc
offer_of rows (asks invoke call ∷ turns) peer others e = absurd cc
offer_of rows (concludes ∷ turns) peer others e = absurd cc
offer_of rows (releases ∷ turns) peer others e = absurd cc
offer_of rows (aborts ∷ turns) peer others e = absurd cc
offer_of rows (breaks ∷ turns) peer others e = absurd cc
offer_of rows (ends ∷ turns) peer others e = absurd cc
offer_of rows (pauses ∷ turns) peer others e = absurd cc

opens_by : (found : Option ℕ) (turns : List Turn)
    → (asked_by found turns ≡ [])
    ⊎ ((peer : ℕ) × (asked_by found turns ≡ events.Open peer ∷ asked_open turns))
opens_by None turns = inl refl
opens_by (Some peer) turns = inr (peer, refl)

opens_first : (rows : CentreRows) (turns : List Turn)
    → (asked_in rows turns ≡ [])
    ⊎ ((peer : ℕ) × (asked_in rows turns ≡ events.Open peer ∷ asked_open (behind_offer turns)))
opens_first rows [] = inl refl
opens_first rows (offers title ∷ turns) = opens_by (place_of_title rows title) turns
opens_first rows (offers_badly ∷ turns) = inl refl
opens_first rows (asks invoke call ∷ turns) = inl refl
opens_first rows (concludes ∷ turns) = inl refl
opens_first rows (releases ∷ turns) = inl refl
opens_first rows (aborts ∷ turns) = inl refl
opens_first rows (breaks ∷ turns) = inl refl
opens_first rows (ends ∷ turns) = inl refl
opens_first rows (pauses ∷ turns) = inl refl

-- ---- where no event is stray

not_none : (event : EventKind) (entered : List EventKind) → event ∷ entered ≡ [] → ⊥
not_none event entered e = cc

none_first : (entered rest : List EventKind) → first_stray entered rest ≡ None
    → (entered ≡ [] → ⊥) × (stray_from 0 entered rest ≡ None)
none_first [] rest e = absurd (none-some 0 (sym e))
none_first (event ∷ entered) rest e = ((λ none. not_none event entered none), e)

pub record IsAllSaid (setup : Setup) (key : Key) (past : Past) (octets : List ℕ) (ended : Bool) :
    Type 0 where
  pub offer : StartsWithOffer (turns_given octets ended)
  pub said : association_octets setup.centre past key octets ended
      ≡ octets_by_events (talk_of (reading_of octets) ended)
      (talk_of (reading_of octets) ended).turns (answered_in setup key past)

said_by : (setup : Setup) (key : Key) (past : Past) (octets : List ℕ) (ended : Bool)
    → (events_told (answered_in setup key past) ≡ [] → ⊥)
    → IsMatched setup.centre key (talk_of (reading_of octets) ended)
    (asked_in setup.centre (turns_given octets ended)) [] (answered_in setup key past) past
    → IsAllSaid setup key past octets ended
said_by setup key past octets ended some m =
    by m.stands
  where
    by : IsYet key (asked_in setup.centre (turns_given octets ended)) []
        (answered_in setup key past) past
        ⊎ IsOpened setup.centre key (talk_of (reading_of octets) ended)
        (asked_in setup.centre (turns_given octets ended)) [] past
        → IsAllSaid setup key past octets ended
    by (inl y) = absurd (some (ap (λ (xs : List AnsweredEvent). events_told xs) y.none))
    by (inr o) = record {
      offer = offer_of setup.centre (turns_given octets ended) o.peer
          (asked_open (talk_of (reading_of octets) ended).turns) o.offer;
      said = m.octets;
    }

pub all_said : (setup : Setup) (key : Key) (past : Past) (octets : List ℕ) (ended : Bool)
    → All IsEvent (asked_in setup.centre (turns_given octets ended))
    → All IsToldSpelled (answered_in setup key past)
    → first_stray (events_told (answered_in setup key past))
    (asked_in setup.centre (turns_given octets ended)) ≡ None
    → IsAllSaid setup key past octets ended
all_said setup key past octets ended spelled told none =
    let all = asked_in setup.centre (turns_given octets ended) in
    let f = none_first (events_told (answered_in setup key past)) all none in
    said_by setup key past octets ended f.0
    (matched setup key (talk_of (reading_of octets) ended) all
    (opens_first setup.centre (turns_given octets ended)) spelled past [] told
    (all_passed 0 (events_told (answered_in setup key past)) all f.1))

-- ---- by the terms of what was heard

abbrev talk_with : List ℕ → AssociationSetup → ℤ → List Turn → Talk
talk_with opening setup detail turns =
    record { opening = opening; setup = setup; detail = detail; turns = turns }

kept_is : (talk : Talk) (terms : Terms) → terms.opening.items ≡ talk.opening
    → terms.stack.setup ≡ talk.setup → terms.detail ≡ talk.detail
    → turns_of_kinds (drop 1 terms.turns.items) ≡ alike talk.turns
    → talk_kept terms ≡ with_turns talk (alike talk.turns)
kept_is talk terms o s d t =
    ap (λ (os : List ℕ). talk_with os terms.stack.setup terms.detail
    (turns_of_kinds (drop 1 terms.turns.items))) o
    ∙ ap (λ (x : AssociationSetup). talk_with talk.opening x terms.detail
    (turns_of_kinds (drop 1 terms.turns.items))) s
    ∙ ap (λ (z : ℤ). talk_with talk.opening talk.setup z
    (turns_of_kinds (drop 1 terms.turns.items))) d
    ∙ ap (λ (ts : List Turn). talk_with talk.opening talk.setup talk.detail ts) t

-- the octets by the terms are those by what the text fixes
terms_said : (talk : Talk) (terms : Terms) (answered : List AnsweredEvent)
    → talk_kept terms ≡ with_turns talk (alike talk.turns)
    → octets_by_events (talk_kept terms) (talk_kept terms).turns answered
    ≡ octets_by_events talk talk.turns answered
terms_said talk terms answered e =
    ap (λ (t : Talk). octets_by_events t t.turns answered) e
    ∙ octets_alike talk (alike talk.turns) talk.turns answered

-- what the first offer makes of the terms
pub record IsTermed (octets : List ℕ) (ended : Bool) (heard : Heard) : Type 0 where
  pub offer : Initiate
  pub offered : offered_in heard.inputs.items ≡ Some offer
  pub enough : is_too_little offer ≡ false
  pub kept : (terms : Terms) → AreTermsOf offer heard ended terms
      → talk_kept terms ≡ with_turns (talk_of (reading_of octets) ended)
      (alike (talk_of (reading_of octets) ended).turns)

turns_kept : (octets : List ℕ) (ended : Bool) (heard : Heard) → HasHeard octets heard
    → (s : StartsWithOffer (turns_given octets ended)) → (terms : Terms) (offer : Initiate)
    → AreTermsOf offer heard ended terms
    → turns_of_kinds (drop 1 terms.turns.items) ≡ alike (behind_offer (turns_given octets ended))
turns_kept octets ended heard h s terms offer t =
    ap (λ (ks : List _). turns_of_kinds (drop 1 ks))
    (t.turns ∙ ap (λ (ts : List Turn). map kind_of_turn ts)
    (heard_turns octets ended heard h ∙ s.is))
    ∙ ap (λ (ts : List Turn). alike (behind_offer ts)) (sym s.is)

pub termed : (octets : List ℕ) (ended : Bool) (heard : Heard) → HasHeard octets heard
    → StartsWithOffer (turns_given octets ended) → IsTermed octets ended heard
termed octets ended heard h s =
    let r = reading_of octets in
    let o : IsOffered r.told = first_offer heard.broken ended s.title s.later r.told
    (ap (λ (handed : List StackIn). turns_of_inputs handed heard.broken ended) (sym h.inputs)
    ∙ heard_turns octets ended heard h ∙ s.is) in
    let setup = h.setup (ap (λ (c : Option Connecting). is_some c) o.first) in
    record {
      offer = o.connecting.initiate;
      offered = ap (λ (handed : List StackIn). offered_in handed) h.inputs ∙ o.offered;
      enough = o.enough;
      kept = λ terms t. kept_is (talk_of r ended) terms
          (t.opening
          ∙ ap (λ (os : List ℕ). os ++ accept_wire heard.stack.setup (Some o.connecting)) h.confirm
          ∙ ap (λ (x : AssociationSetup). answers_to called r.told
          ++ accept_wire x (Some o.connecting)) setup
          ∙ ap (λ (c : Option Connecting). answers_to called r.told
          ++ accept_wire (setup_after r.told) c) (sym o.first))
          (t.setup ∙ setup)
          (t.detail ∙ ap (λ (c : Option Connecting). detail_of c) (sym o.first))
          (turns_kept octets ended heard h s terms o.connecting.initiate t);
    }

-- ---- the verdict

pub stray_verdict : (setup : Setup) (key : Key) (past : Past) (octets : List ℕ) (ended : Bool)
    (sent : List ℕ) (number : ℕ)
    → first_stray (events_told (answered_in setup key past))
    (asked_in setup.centre (turns_given octets ended)) ≡ Some number
    → verdict_of setup.centre past key octets ended sent ≡ verdict_by (Some number) sent []
stray_verdict setup key past octets ended sent number e =
    ap (λ (o : Option ℕ). verdict_by o sent (association_octets setup.centre past key octets ended))
    (ap (λ (es : List EventKind). first_stray es (events_asked setup.centre octets ended))
    (entered_told setup key past)
    ∙ ap (λ (es : List EventKind). first_stray (events_told (answered_in setup key past)) es)
    (asked_events setup.centre octets ended) ∙ e)

pub said_verdict : (setup : Setup) (key : Key) (past : Past) (octets : List ℕ) (ended : Bool)
    (sent : List ℕ) (heard : Heard) (terms : Terms) → HasHeard octets heard
    → (a : IsAllSaid setup key past octets ended)
    → (t : IsTermed octets ended heard) → AreTermsOf t.offer heard ended terms
    → first_stray (events_told (answered_in setup key past))
    (asked_in setup.centre (turns_given octets ended)) ≡ None
    → verdict_of setup.centre past key octets ended sent
    ≡ verdict_between sent (octets_by_events (talk_kept terms) (talk_kept terms).turns
    (answered_in setup key past))
said_verdict setup key past octets ended sent heard terms h a t terms_are e =
    let talk = talk_of (reading_of octets) ended in
    ap (λ (o : Option ℕ). verdict_by o sent (association_octets setup.centre past key octets ended))
    (ap (λ (es : List EventKind). first_stray es (events_asked setup.centre octets ended))
    (entered_told setup key past)
    ∙ ap (λ (es : List EventKind). first_stray (events_told (answered_in setup key past)) es)
    (asked_events setup.centre octets ended) ∙ e)
    ∙ ap (λ (os : List ℕ). verdict_between sent os)
    (a.said ∙ sym (terms_said talk terms (answered_in setup key past) (t.kept terms terms_are)))

-- ---- by what was found

-- what was asked, whatever the history calls the centre
asked_given : (rows other : CentreRows) (octets : List ℕ) (ended : Bool) (heard : Heard)
    (asked : List EventKind) → HasHeard octets heard → other ≡ rows
    → asked ≡ asked_in rows (turns_of_inputs heard.inputs.items heard.broken ended)
    → asked ≡ asked_in other (turns_given octets ended)
asked_given rows other octets ended heard asked h same is =
    is ∙ ap (λ (ts : List Turn). asked_in rows ts) (heard_turns octets ended heard h)
    ∙ ap (λ (r : CentreRows). asked_in r (turns_given octets ended)) (sym same)

stray_given : (found : Option ℕ) (answered others : List AnsweredEvent)
    (asked all : List EventKind) → found ≡ first_stray (events_told answered) asked
    → answered ≡ others → asked ≡ all → first_stray (events_told others) all ≡ found
stray_given found answered others asked all is same alike =
    ap (λ (xs : List AnsweredEvent). first_stray (events_told xs) all) (sym same)
    ∙ ap (λ (es : List EventKind). first_stray (events_told answered) es) (sym alike) ∙ sym is

module _ (rows : CentreRows) (answered : List AnsweredEvent) (octets : List ℕ) (ended : Bool)
    (sent : List ℕ) (heard : Heard) (asked : List EventKind) where
  -- where an event is stray
  pub stray_found : (number : ℕ) → HasHeard octets heard
      → asked ≡ asked_in rows (turns_of_inputs heard.inputs.items heard.broken ended)
      → Some number ≡ first_stray (events_told answered) asked
      → (setup : Setup) (past : Past) (key : Key) → setup.centre ≡ rows
      → answered ≡ answered_in setup key past
      → verdicts.Stray number ≡ verdict_of rows past key octets ended sent
  stray_found number h a f setup past key same is =
      sym (stray_verdict setup key past octets ended sent number
      (stray_given (Some number) answered (answered_in setup key past) asked
      (asked_in setup.centre (turns_given octets ended)) f is
      (asked_given rows setup.centre octets ended heard asked h same a)))
      ∙ ap (λ (r : CentreRows). verdict_of r past key octets ended sent) same

  -- where none is, and this was made of the terms
  pub said_found : (terms : Terms) (want : List ℕ) → HasHeard octets heard
      → asked ≡ asked_in rows (turns_of_inputs heard.inputs.items heard.broken ended)
      → All IsEvent asked → All IsToldSpelled answered
      → None ≡ first_stray (events_told answered) asked
      → ((offer : Initiate) → offered_in heard.inputs.items ≡ Some offer
      → is_too_little offer ≡ false → AreTermsOf offer heard ended terms)
      → want ≡ octets_by_events (talk_kept terms) (talk_kept terms).turns answered
      → (setup : Setup) (past : Past) (key : Key) → setup.centre ≡ rows
      → answered ≡ answered_in setup key past
      → verdict_between sent want ≡ verdict_of rows past key octets ended sent
  said_found terms want h a spelled told f exact w setup past key same is =
      let all = asked_given rows setup.centre octets ended heard asked h same a in
      let none = stray_given None answered (answered_in setup key past) asked
      (asked_in setup.centre (turns_given octets ended)) f is all in
      let s = all_said setup key past octets ended
      (subst (λ (es : List EventKind). All IsEvent es) all spelled)
      (subst (λ (xs : List AnsweredEvent). All IsToldSpelled xs) is told) none in
      let t = termed octets ended heard h s.offer in
      ap (λ (os : List ℕ). verdict_between sent os)
      (w ∙ ap (λ (xs : List AnsweredEvent).
      octets_by_events (talk_kept terms) (talk_kept terms).turns xs) is)
      ∙ sym (said_verdict setup key past octets ended sent heard terms h s t
      (exact t.offer t.offered t.enough) none)
      ∙ ap (λ (r : CentreRows). verdict_of r past key octets ended sent) same

module _ (rows : CentreRows) (answered : List AnsweredEvent) (octets : List ℕ) (ended : Bool)
    (compared : Compared) (known : IsCompared rows answered octets ended compared) where
  -- the first stray event is that of the history
  pub stray_compared : (setup : Setup) (past : Past) (key : Key) → setup.centre ≡ rows
      → answered ≡ answered_in setup key past
      → first_stray (events_entered key past) (events_asked rows octets ended) ≡ compared.stray
  stray_compared setup past key same are =
      ap (λ (r : CentreRows). first_stray (events_entered key past) (events_asked r octets ended))
      (sym same)
      ∙ ap (λ (es : List EventKind). first_stray es (events_asked setup.centre octets ended))
      (entered_told setup key past)
      ∙ ap (λ (es : List EventKind). first_stray (events_told (answered_in setup key past)) es)
      (asked_events setup.centre octets ended)
      ∙ stray_given compared.stray answered (answered_in setup key past) known.asked
      (asked_in setup.centre (turns_given octets ended)) known.first are
      (asked_given rows setup.centre octets ended compared.heard known.asked known.hears same
      known.asks)

  -- by whichever was found
  accounted : (account : Account) → IsAccount compared ended answered account
      → (setup : Setup) (past : Past) (key : Key) → setup.centre ≡ rows
      → answered ≡ answered_in setup key past
      → Judges (verdict_of rows past key octets ended) account
  accounted (Stray number) is setup past key same are =
      λ sent. stray_found rows answered octets ended sent compared.heard known.asked number
      known.hears known.asks (sym is ∙ known.first) setup past key same are
  accounted (Octets want) is setup past key same are =
      λ sent. said_found rows answered octets ended sent compared.heard known.asked is.1.terms
      want.items known.hears known.asks known.spelled known.told (sym is.0 ∙ known.first)
      is.1.exact is.1.said setup past key same are

  -- the same of an answer that may be want of memory
  pub check_of : (found : Result Account AccountError)
      → IfOk found (IsAccount compared ended answered)
      → (setup : Setup) (past : Past) (key : Key) → setup.centre ≡ rows
      → answered ≡ answered_in setup key past
      → IfOk found (Judges (verdict_of rows past key octets ended))
  check_of (Ok account) is setup past key same are =
      accounted account is setup past key same are
  check_of (Err lack) is setup past key same are = tt
