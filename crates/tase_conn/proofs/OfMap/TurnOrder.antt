-- What an input asks comes in turn.
use Rattle.std.proofs.Common.{◌≡◌, ℕ, Bool, true, false, List, [], ◌∷◌, ◌++◌, Option, Some}
use Rattle.std.proofs.Common.{None, refl, sym, ap, subst, ◌∙◌}
use Rattle.std.specs.Prelude.{is_some, if◌then◌else◌, IfSome}
use Rattle.std.specs.List.{list_any, filter_map, cons_option}
use Rattle.std.proofs.lemmas.List.{append-nil}
use Rattle.std.proofs.lemmas.List.Elements.{filter_map-append}
use Rattle.mms_services.specs.declared.initiate.Initiate.{Initiate}
use Rattle.mms_services.specs.declared.pdu.MmsPdu.{MmsPdu}
use Rattle.mms_services.specs.declared.pdu.MmsPdu.TheVariants as pdus
use Rattle.tpkt_cotp.specs.declared.turn.Role.TheVariants as roles
use Rattle.tpkt_cotp.specs.Places.{stream_from}
use Rattle.tpkt_cotp.specs.Streams.{Says}
use Rattle.tpkt_cotp.proofs.Streaming.{left_says}
use Rattle.stack_assoc.specs.declared.messages.fault.StackFault.{StackFault}
use Rattle.stack_assoc.specs.declared.messages.heard.Heard.TheVariants as heards
use Rattle.stack_assoc.specs.declared.input.StackIn.{StackIn}
use Rattle.stack_assoc.specs.declared.input.StackIn.TheVariants as inputs
use Rattle.stack_assoc.specs.Arrivals.{Arrival, asked, confirmed, gone, heard, first_in, connect_in}
use Rattle.stack_assoc.specs.Arrivals.{is_conclude}
use Rattle.stack_assoc.specs.Handing.{is_offer, input_heard, stack_in, handed_out}
use Rattle.tase_conn.specs.Map.Inputs.{Item, text_given, link_has_ended, IsLinkInput}
use Rattle.tase_conn.specs.Map.Readings.{Reading, reading_of}
use Rattle.tase_conn.specs.Map.Turns.{Turn, offers, offers_badly, asks, concludes, releases, aborts}
use Rattle.tase_conn.specs.Map.Turns.{breaks, ends, pauses, turn_of_pdu, turn_in, fault_turns}
use Rattle.tase_conn.specs.Map.Turns.{turns_told, turns_of}
use Rattle.tase_conn.specs.Map.Asks.{is_pause, without_pauses}
use Rattle.tase_conn.specs.Map.Out.{end_turns}
use Rattle.tase_conn.proofs.OfMap.ReadingLaws.{reading_found, reading_only}
use Rattle.tase_conn.proofs.OfMap.Uncut.{any_kept, behind_kept, one_kept, without-append, uncut_from}
use Rattle.tase_conn.proofs.OfMap.MessageOrder.{HasBegun, PduComes, Comes, AllCome, told_come}

-- ---- the turns that messages make

abbrev pub offered : Turn → Bool
offered (offers title) = true
offered offers_badly = true
offered _ = false

abbrev pub concluded : Turn → Bool
concluded concludes = true
concluded _ = false

-- the turns of messages
abbrev turns_heard : List Arrival → List Turn
turns_heard told = filter_map turn_in (handed_out told)

-- an offer has come, and no conclude
pub record IsBegun (before : List Turn) : Type 0 where
  pub offer : list_any offered before ≡ true
  pub conclude : list_any concluded before ≡ false

abbrev pub Follows : List Turn → Turn → Type 0
Follows before (offers title) = list_any offered before ≡ false
Follows before offers_badly = list_any offered before ≡ false
Follows before (asks invoke call) = IsBegun before
Follows before concludes = IsBegun before
Follows before _ = Unit {0}

abbrev pub AllFollow : List Turn → List Turn → Type 0
AllFollow before [] = Unit {0}
AllFollow before (turn ∷ turns) = Follows before turn × AllFollow (before ++ turn ∷ []) turns

-- ---- what has come is told of the turns

connect_offered : (b : Bool) (title : Option (List ℕ)) (initiate : Initiate) (turns : List Turn)
    → list_any offered (cons_option (turn_in (if b then inputs.Offer title initiate
    else inputs.BadOffer)) turns) ≡ true
connect_offered true title initiate turns = refl
connect_offered false title initiate turns = refl

connect_concluded : (b : Bool) (title : Option (List ℕ)) (initiate : Initiate) (turns : List Turn)
    → list_any concluded (cons_option (turn_in (if b then inputs.Offer title initiate
    else inputs.BadOffer)) turns) ≡ list_any concluded turns
connect_concluded true title initiate turns = refl
connect_concluded false title initiate turns = refl

pdu_offered : (p : MmsPdu) (turns : List Turn)
    → list_any offered (cons_option (turn_of_pdu p) turns) ≡ list_any offered turns
pdu_offered (pdus.Request invoke request) turns = refl
pdu_offered (pdus.Response invoke response) turns = refl
pdu_offered (pdus.Error e) turns = refl
pdu_offered (pdus.Report r) turns = refl
pdu_offered (pdus.Reject r) turns = refl
pdu_offered (pdus.Initiate offer) turns = refl
pdu_offered (pdus.Initiated offer) turns = refl
pdu_offered pdus.InitiateError turns = refl
pdu_offered pdus.Conclude turns = refl
pdu_offered pdus.Concluded turns = refl

pub offers_told : (told : List Arrival)
    → list_any offered (turns_heard told) ≡ is_some (first_in connect_in told)
offers_told [] = refl
offers_told (asked r ∷ told) = offers_told told
offers_told (confirmed c ∷ told) = offers_told told
offers_told (gone ∷ told) = offers_told told
offers_told (heard (heards.Connect c) ∷ told) =
    connect_offered (is_offer c) c.title c.initiate (turns_heard told)
offers_told (heard (heards.Accept a) ∷ told) = offers_told told
offers_told (heard heards.Refuse ∷ told) = offers_told told
offers_told (heard heards.Finish ∷ told) = offers_told told
offers_told (heard heards.Disconnect ∷ told) = offers_told told
offers_told (heard heards.Abort ∷ told) = offers_told told
offers_told (heard heards.AbortAccept ∷ told) = offers_told told
offers_told (heard (heards.Pdu p) ∷ told) = pdu_offered p (turns_heard told) ∙ offers_told told
offers_told (heard (heards.BadRequest invoke) ∷ told) = offers_told told

pdu_concluded : (p : MmsPdu) (told : List Arrival)
    → list_any concluded (turns_heard told) ≡ list_any is_conclude told
    → list_any concluded (cons_option (turn_of_pdu p) (turns_heard told))
    ≡ list_any is_conclude (heard (heards.Pdu p) ∷ told)
pdu_concluded (pdus.Request invoke request) told e = e
pdu_concluded (pdus.Response invoke response) told e = e
pdu_concluded (pdus.Error x) told e = e
pdu_concluded (pdus.Report r) told e = e
pdu_concluded (pdus.Reject r) told e = e
pdu_concluded (pdus.Initiate offer) told e = e
pdu_concluded (pdus.Initiated offer) told e = e
pdu_concluded pdus.InitiateError told e = e
pdu_concluded pdus.Conclude told e = refl
pdu_concluded pdus.Concluded told e = e

concludes_told : (told : List Arrival)
    → list_any concluded (turns_heard told) ≡ list_any is_conclude told
concludes_told [] = refl
concludes_told (asked r ∷ told) = concludes_told told
concludes_told (confirmed c ∷ told) = concludes_told told
concludes_told (gone ∷ told) = concludes_told told
concludes_told (heard (heards.Connect c) ∷ told) =
    connect_concluded (is_offer c) c.title c.initiate (turns_heard told) ∙ concludes_told told
concludes_told (heard (heards.Accept a) ∷ told) = concludes_told told
concludes_told (heard heards.Refuse ∷ told) = concludes_told told
concludes_told (heard heards.Finish ∷ told) = concludes_told told
concludes_told (heard heards.Disconnect ∷ told) = concludes_told told
concludes_told (heard heards.Abort ∷ told) = concludes_told told
concludes_told (heard heards.AbortAccept ∷ told) = concludes_told told
concludes_told (heard (heards.Pdu p) ∷ told) = pdu_concluded p told (concludes_told told)
concludes_told (heard (heards.BadRequest invoke) ∷ told) = concludes_told told

begun_turns : (before : List Arrival) → HasBegun before → IsBegun (turns_heard before)
begun_turns before h = record {
  offer = offers_told before ∙ h.connect;
  conclude = concludes_told before ∙ h.conclude;
}

-- ---- each turn follows those before it

found_follow : (before : List Turn) (found : Option Turn) (turns : List Turn)
    → IfSome found (Follows before)
    → AllFollow (before ++ cons_option found []) turns → AllFollow before (cons_option found turns)
found_follow before None turns f a = subst (λ (ts : List Turn). AllFollow ts turns) (append-nil before) a
found_follow before (Some turn) turns f a = (f, a)

-- the turn that a message makes
abbrev turn_of : Arrival → Option Turn
turn_of (asked r) = None
turn_of (confirmed c) = None
turn_of gone = Some aborts
turn_of (heard h) = turn_in (input_heard h)

turns_cons : (t : Arrival) (told : List Arrival)
    → turns_heard (t ∷ told) ≡ cons_option (turn_of t) (turns_heard told)
turns_cons (asked r) told = refl
turns_cons (confirmed c) told = refl
turns_cons gone told = refl
turns_cons (heard h) told = refl

turns_more : (told : List Arrival) (t : Arrival)
    → turns_heard (told ++ t ∷ []) ≡ turns_heard told ++ cons_option (turn_of t) []
turns_more told t =
    ap (λ (ms : List StackIn). filter_map turn_in ms) (filter_map-append stack_in told (t ∷ []))
    ∙ filter_map-append turn_in (handed_out told) (handed_out (t ∷ []))
    ∙ ap (λ (ts : List Turn). turns_heard told ++ ts) (turns_cons t [])

connect_follows : (b : Bool) (title : Option (List ℕ)) (initiate : Initiate) (before : List Turn)
    → list_any offered before ≡ false
    → IfSome (turn_in (if b then inputs.Offer title initiate else inputs.BadOffer)) (Follows before)
connect_follows true title initiate before e = e
connect_follows false title initiate before e = e

pdu_follows : (before : List Arrival) (p : MmsPdu) → PduComes before p
    → IfSome (turn_of_pdu p) (Follows (turns_heard before))
pdu_follows before (pdus.Request invoke request) c = begun_turns before c
pdu_follows before (pdus.Response invoke response) c = tt
pdu_follows before (pdus.Error e) c = tt
pdu_follows before (pdus.Report r) c = tt
pdu_follows before (pdus.Reject r) c = tt
pdu_follows before (pdus.Initiate offer) c = tt
pdu_follows before (pdus.Initiated offer) c = tt
pdu_follows before pdus.InitiateError c = tt
pdu_follows before pdus.Conclude c = begun_turns before c
pdu_follows before pdus.Concluded c = tt

turn_follows : (before : List Arrival) (t : Arrival) → Comes before t
    → IfSome (turn_of t) (Follows (turns_heard before))
turn_follows before (asked r) c = tt
turn_follows before (confirmed x) c = tt
turn_follows before gone c = tt
turn_follows before (heard (heards.Connect x)) c =
    connect_follows (is_offer x) x.title x.initiate (turns_heard before) (offers_told before ∙ c)
turn_follows before (heard (heards.Accept a)) c = tt
turn_follows before (heard heards.Refuse) c = tt
turn_follows before (heard heards.Finish) c = tt
turn_follows before (heard heards.Disconnect) c = tt
turn_follows before (heard heards.Abort) c = tt
turn_follows before (heard heards.AbortAccept) c = tt
turn_follows before (heard (heards.Pdu p)) c = pdu_follows before p c
turn_follows before (heard (heards.BadRequest invoke)) c = begun_turns before c

heard_follow : (before told : List Arrival) → AllCome before told
    → AllFollow (turns_heard before) (turns_heard told)
heard_follow before [] c = tt
heard_follow before (t ∷ told) c =
    subst (λ (ts : List Turn). AllFollow (turns_heard before) ts) (sym (turns_cons t told))
    (found_follow (turns_heard before) (turn_of t) (turns_heard told) (turn_follows before t c.0)
    (subst (λ (ts : List Turn). AllFollow ts (turns_heard told)) (turns_more before t)
    (heard_follow (before ++ t ∷ []) told c.1)))

-- turns that may follow any
abbrev FollowAll : List Turn → Type 0
FollowAll turns = (before : List Turn) → AllFollow before turns

more_follow : (before turns more : List Turn) → AllFollow before turns → FollowAll more
    → AllFollow before (turns ++ more)
more_follow before [] more a f = f before
more_follow before (turn ∷ turns) more a f =
    (a.0, more_follow (before ++ turn ∷ []) turns more a.1 f)

fault_follows : (broken : Option StackFault) → FollowAll (fault_turns broken)
fault_follows None before = tt
fault_follows (Some fault) before = (tt, tt)

end_follows : (ended : Bool) → FollowAll (end_turns ended)
end_follows true before = (tt, tt)
end_follows false before = tt

told_follow : (text : List ℕ) → AllFollow [] (turns_told (reading_of text))
told_follow text =
    let r = reading_of text in
    more_follow [] (turns_heard r.told) (fault_turns r.broken)
    (heard_follow [] r.told (told_come text r.told r.broken (reading_found text)))
    (fault_follows r.broken)

-- ---- with pauses

follows_kept : (before : List Turn) (turn : Turn) → Follows (without_pauses before) turn
    → Follows before turn
follows_kept before (offers title) f = sym (any_kept offered refl before) ∙ f
follows_kept before offers_badly f = sym (any_kept offered refl before) ∙ f
follows_kept before (asks invoke call) f = record {
  offer = sym (any_kept offered refl before) ∙ f.offer;
  conclude = sym (any_kept concluded refl before) ∙ f.conclude;
}
follows_kept before concludes f = record {
  offer = sym (any_kept offered refl before) ∙ f.offer;
  conclude = sym (any_kept concluded refl before) ∙ f.conclude;
}
follows_kept before releases f = tt
follows_kept before aborts f = tt
follows_kept before breaks f = tt
follows_kept before ends f = tt
follows_kept before pauses f = tt

one_follows : (before : List Turn) (turn : Turn) (turns : List Turn) → is_pause turn ≡ false
    → AllFollow (without_pauses before) (without_pauses (turn ∷ turns))
    → (AllFollow (without_pauses (before ++ turn ∷ [])) (without_pauses turns)
    → AllFollow (before ++ turn ∷ []) turns)
    → AllFollow before (turn ∷ turns)
one_follows before turn turns i a go =
    let b : AllFollow (without_pauses before) (turn ∷ without_pauses turns) =
    subst (λ (ts : List Turn). AllFollow (without_pauses before) ts)
    (one_kept turn turns i) a in (
      follows_kept before turn b.0,
      go (subst (λ (ts : List Turn). AllFollow ts (without_pauses turns))
          (sym (behind_kept before turn i)) b.1),
    )

follow_kept : (before turns : List Turn)
    → AllFollow (without_pauses before) (without_pauses turns) → AllFollow before turns
follow_kept before [] a = tt
follow_kept before (pauses ∷ turns) a = (
  tt,
  follow_kept (before ++ pauses ∷ []) turns
      (subst (λ (ts : List Turn). AllFollow ts (without_pauses turns))
      (sym (without-append before (pauses ∷ []) ∙ append-nil (without_pauses before))) a),
)
follow_kept before (turn ∷ turns) a =
    one_follows before turn turns refl a (follow_kept (before ++ turn ∷ []) turns)

-- no octets tell nothing
pub nothing_said : (rest : List ℕ) × Says roles.Called [] [] rest
unfolding stream_from
nothing_said = left_says roles.Called [] 0 refl

nothing_told : turns_told (reading_of []) ≡ []
nothing_told =
    ap (λ (r : Reading). turns_told r)
    (reading_only [] [] None
    (nothing_said.0, record { messages = []; said = nothing_said.1; tell = tt }))

pub turns_follow : (items : List Item) → IsLinkInput items → AllFollow [] (turns_of items)
turns_follow items i =
    follow_kept [] (turns_of items)
    (subst (λ (ts : List Turn). AllFollow [] ts)
    (sym (uncut_from [] items i)
    ∙ ap (λ (ts : List Turn). ts ++ without_pauses (turns_of items)) nothing_told)
    (more_follow [] (turns_told (reading_of (text_given items))) (end_turns (link_has_ended items))
    (told_follow (text_given items)) (end_follows (link_has_ended items))))
