-- What is kept of one association is what a history says of it.
use Rattle.std.proofs.Common.{◌≡◌, ℕ, ◌==◌, Bool, true, false, ◌||◌, if◌then◌else◌, List, [], ◌∷◌}
use Rattle.std.proofs.Common.{◌++◌, Option, Some, None, refl, sym, ap, subst, ◌∙◌}
use Rattle.std.proofs.lemmas.Bool.{false≢true, eq-eqb, eqb-true, and_parts}
use Rattle.bilateral.specs.Rows.{CentreRows}
use Rattle.sbo_device.specs.declared.key.Key.{Key}
use Rattle.tase_views.specs.declared.event.Entry.{Entry}
use Rattle.tase_views.specs.declared.event.EventKind.{EventKind}
use Rattle.tase_views.specs.declared.fault.StepFault.{StepFault}
use Rattle.tase_views.specs.declared.reply.Answer.{Answer}
use Rattle.tase_views.specs.Setup.{Setup}
use Rattle.tase_views.specs.Moves.{EventSort, sort_of, opening, requesting, taking, closing}
use Rattle.tase_views.specs.Moves.{taking_orders, feeding}
use Rattle.tase_views.specs.History.{Past, association_by, association_in, key_by, key_at}
use Rattle.tase_views.specs.History.{next_key}
use Rattle.tase_views.specs.Outcomes.{first_refusal, seat_refusal_by, refusal_of, answer_at}
use Rattle.tase_views.specs.Outcomes.{answer_of, IsAnswer}
use Rattle.tase_views.proofs.Seated.{one_seat, same_parts}
use Rattle.tase_verify.specs.declared.association.answered.AnsweredEvent.{AnsweredEvent}
use Rattle.tase_verify.specs.Association.Answered.{answered_at}
use Rattle.tase_verify.specs.Verifying.{answered_for}
use Rattle.tase_verify.specs.Watching.{is_meant, is_followed, HoldsSeat, IsWatched, opens_by}
use Rattle.tase_verify.specs.Watching.{kept_of, is_told, with_event, seat_after, events_after}

-- ---- the association that is meant

none_meant : (key : Option Key) → is_meant key None ≡ false
none_meant None = refl
none_meant (Some key) = refl

meant_is : (key : Key) (found : Option Key) → is_meant (Some key) found ≡ true → found ≡ Some key
meant_is key None meant = absurd (false≢true meant)
meant_is key (Some other) meant = ap (λ (k : Key). Some k) (same_parts other key meant)

-- two seats never have it
held_once : (past : Past) (key : Option Key) (a b : ℕ)
    → is_meant key (association_in past a) ≡ true → is_meant key (association_in past b) ≡ true
    → a ≡ b
held_once past None a b first second = absurd (false≢true first)
held_once past (Some key) a b first second =
    one_seat past a b key (meant_is key (association_in past a) first)
    (meant_is key (association_in past b) second)

-- ---- the seat that is followed

-- the association of a seat behind an event of this seat or another
abbrev seated : Bool → EventSort → Past → Option Key → Option Key
seated mine sort past before = if mine then association_by sort past before else before

-- where an event is of the association that is meant, no other seat has that
none_else : (past : Past) (who s : ℕ) (event : EventKind) (sort : EventSort) (key : Option Key)
    → sort_of event ≡ sort → (who == s) ≡ false
    → is_meant key (key_by sort past (association_in past who)) ≡ true
    → is_meant key (association_in past s) ≡ false
none_else past who s event sort key is apart mine = by (is_meant key (association_in past s)) refl
  where
    one : (sort : EventSort) → sort_of event ≡ sort
        → is_meant key (key_by sort past (association_in past who)) ≡ true
        → is_meant key (association_in past s) ≡ true → who ≡ s
    one (opening peer) is mine theirs =
        let entry : Entry = record { who = who; event = event } in
        held_once (entry ∷ past) key who s
        (ap (λ (b : Bool). is_meant key (seated b (sort_of event) past (association_in past who)))
        (eq-eqb who who refl)
        ∙ ap (λ (o : EventSort). is_meant key (association_by o past (association_in past who))) is
        ∙ mine)
        (ap (λ (b : Bool). is_meant key (seated b (sort_of event) past (association_in past s)))
        apart ∙ theirs)
    one (requesting call) is mine theirs = held_once past key who s mine theirs
    one taking is mine theirs = held_once past key who s mine theirs
    one closing is mine theirs = held_once past key who s mine theirs
    one taking_orders is mine theirs = held_once past key who s mine theirs
    one (feeding move) is mine theirs = held_once past key who s mine theirs

    by : (t : Bool) → is_meant key (association_in past s) ≡ t
        → is_meant key (association_in past s) ≡ false
    by true e = absurd (false≢true (sym apart ∙ eq-eqb who s (one sort is mine e)))
    by false e = e

-- an event that neither opens nor closes changes nothing
stays : (b : Bool) (seat : Option ℕ) (s : ℕ)
    → is_followed seat s ≡ is_followed (if b then seat else seat) s
stays true seat s = refl
stays false seat s = refl

-- the seat of an event
at_same : (rows : CentreRows) (past : Past) (sort : EventSort) (found key : Option Key)
    (seat : Option ℕ) (who : ℕ) → is_meant key found ≡ is_followed seat who
    → seat_refusal_by found sort ≡ None
    → is_meant key (association_by sort past found)
    ≡ is_followed (seat_after key seat who (answer_at rows past sort (key_by sort past found))) who
at_same rows past (opening peer) (Some other) key seat who holds free = absurd cc
at_same rows past (opening peer) None key seat who holds free =
    by (is_meant key (Some (next_key past peer)))
  where
    by : (t : Bool) → t ≡ is_followed (if t then Some who else seat) who
    by true = sym (eq-eqb who who refl)
    by false = sym (none_meant key) ∙ holds
at_same rows past (requesting call) None key seat who holds free =
    holds ∙ stays (is_followed seat who) seat who
at_same rows past (requesting call) (Some other) key seat who holds free =
    holds ∙ stays (is_followed seat who) seat who
at_same rows past taking None key seat who holds free =
    holds ∙ stays (is_followed seat who) seat who
at_same rows past taking (Some other) key seat who holds free =
    holds ∙ stays (is_followed seat who) seat who
at_same rows past closing None key seat who holds free = absurd cc
at_same rows past closing (Some other) key seat who holds free =
    none_meant key ∙ by (is_followed seat who) refl
  where
    by : (t : Bool) → is_followed seat who ≡ t
        → false ≡ is_followed (if t then None else seat) who
    by true e = refl
    by false e = sym e
at_same rows past taking_orders found key seat who holds free =
    holds ∙ stays (is_followed seat who) seat who
at_same rows past (feeding move) None key seat who holds free =
    holds ∙ stays (is_followed seat who) seat who
at_same rows past (feeding move) (Some other) key seat who holds free =
    holds ∙ stays (is_followed seat who) seat who

-- another seat
at_other : (rows : CentreRows) (past : Past) (sort : EventSort) (found key other : Option Key)
    (seat : Option ℕ) (who s : ℕ) → is_meant key found ≡ is_followed seat who
    → is_meant key other ≡ is_followed seat s → (who == s) ≡ false
    → (is_meant key (key_by sort past found) ≡ true → is_meant key other ≡ false)
    → is_meant key other
    ≡ is_followed (seat_after key seat who (answer_at rows past sort (key_by sort past found))) s
at_other rows past (opening peer) found key other seat who s mine theirs apart none =
    by (is_meant key (Some (next_key past peer))) refl
  where
    by : (t : Bool) → is_meant key (Some (next_key past peer)) ≡ t
        → is_meant key other ≡ is_followed (if t then Some who else seat) s
    by true e = none e ∙ sym apart
    by false e = theirs
at_other rows past (requesting call) None key other seat who s mine theirs apart none =
    theirs ∙ stays (is_followed seat who) seat s
at_other rows past (requesting call) (Some one) key other seat who s mine theirs apart none =
    theirs ∙ stays (is_followed seat who) seat s
at_other rows past taking None key other seat who s mine theirs apart none =
    theirs ∙ stays (is_followed seat who) seat s
at_other rows past taking (Some one) key other seat who s mine theirs apart none =
    theirs ∙ stays (is_followed seat who) seat s
at_other rows past closing None key other seat who s mine theirs apart none =
    theirs ∙ stays (is_followed seat who) seat s
at_other rows past closing (Some one) key other seat who s mine theirs apart none =
    by (is_followed seat who) refl
  where
    by : (t : Bool) → is_followed seat who ≡ t
        → is_meant key other ≡ is_followed (if t then None else seat) s
    by true e = none (mine ∙ e)
    by false e = theirs
at_other rows past taking_orders found key other seat who s mine theirs apart none =
    theirs ∙ stays (is_followed seat who) seat s
at_other rows past (feeding move) None key other seat who s mine theirs apart none =
    theirs ∙ stays (is_followed seat who) seat s
at_other rows past (feeding move) (Some one) key other seat who s mine theirs apart none =
    theirs ∙ stays (is_followed seat who) seat s

holds_behind : (setup : Setup) (past : Past) (who : ℕ) (event : EventKind) (key : Option Key)
    (seat : Option ℕ) → seat_refusal_by (association_in past who) (sort_of event) ≡ None
    → HoldsSeat key past seat
    → HoldsSeat key (record { who = who; event = event } ∷ past)
    (seat_after key seat who (answer_of setup past who event))
holds_behind setup past who event key seat free holds s = by (who == s) refl
  where
    by : (b : Bool) → (who == s) ≡ b
        → is_meant key (seated b (sort_of event) past (association_in past s))
        ≡ is_followed (seat_after key seat who (answer_of setup past who event)) s
    by true e =
        subst (λ (n : ℕ). is_meant key (association_by (sort_of event) past (association_in past n))
        ≡ is_followed (seat_after key seat who (answer_of setup past who event)) n)
        (eqb-true who s e)
        (at_same setup.centre past (sort_of event) (association_in past who) key seat who
        (holds who) free)
    by false e =
        at_other setup.centre past (sort_of event) (association_in past who) key
        (association_in past s) seat who s (holds who) (holds s) e
        (none_else past who s event (sort_of event) key refl e)

-- ---- the events that are kept

-- the answer tells whether an event is of the association that is meant
told_by : (rows : CentreRows) (past : Past) (sort : EventSort) (found key : Option Key)
    (seat : Option ℕ) (who : ℕ) → is_meant key found ≡ is_followed seat who
    → is_told key seat who (answer_at rows past sort (key_by sort past found))
    ≡ is_meant key (key_by sort past found)
told_by rows past (opening peer) found key seat who holds = refl
told_by rows past (requesting call) None key seat who holds = sym holds
told_by rows past (requesting call) (Some other) key seat who holds = sym holds
told_by rows past taking None key seat who holds = sym holds
told_by rows past taking (Some other) key seat who holds = sym holds
told_by rows past closing None key seat who holds = sym holds
told_by rows past closing (Some other) key seat who holds = sym holds
told_by rows past taking_orders found key seat who holds = sym holds
told_by rows past (feeding move) None key seat who holds = sym holds
told_by rows past (feeding move) (Some other) key seat who holds = sym holds

or_first : (a b : Bool) → a ≡ true → (a || b) ≡ true
or_first true b e = refl
or_first false b e = absurd (false≢true e)

or_last : (a b : Bool) → b ≡ true → (a || b) ≡ true
or_last true b e = refl
or_last false b e = e

-- and such an event is kept
may_be : (past : Past) (sort : EventSort) (found key : Option Key) (seat : Option ℕ) (who : ℕ)
    → is_meant key found ≡ is_followed seat who → is_meant key (key_by sort past found) ≡ true
    → (is_followed seat who || opens_by key sort) ≡ true
may_be past sort found None seat who holds meant = absurd (false≢true meant)
may_be past (opening peer) found (Some key) seat who holds meant =
    or_last (is_followed seat who) (peer == key.peer) (and_parts (peer == key.peer) _ meant).0
may_be past (requesting call) found (Some key) seat who holds meant =
    or_first (is_followed seat who) false (sym holds ∙ meant)
may_be past taking found (Some key) seat who holds meant =
    or_first (is_followed seat who) false (sym holds ∙ meant)
may_be past closing found (Some key) seat who holds meant =
    or_first (is_followed seat who) false (sym holds ∙ meant)
may_be past taking_orders found (Some key) seat who holds meant =
    or_first (is_followed seat who) false (sym holds ∙ meant)
may_be past (feeding move) found (Some key) seat who holds meant =
    or_first (is_followed seat who) false (sym holds ∙ meant)

answered_step : (setup : Setup) (key : Option Key) (past : Past) (entry : Entry)
    → answered_for setup key (entry ∷ past)
    ≡ (if is_meant key (key_at entry.event past entry.who)
    then answered_for setup key past ++ answered_at setup past entry ∷ []
    else answered_for setup key past)
answered_step setup None past entry = refl
answered_step setup (Some key) past entry = refl

events_behind : (setup : Setup) (past : Past) (who : ℕ) (event : EventKind) (key : Option Key)
    (seat : Option ℕ) (answered : List AnsweredEvent) → HoldsSeat key past seat
    → answered ≡ answered_for setup key past
    → events_after key seat who answered (kept_of key seat who event)
    (answer_of setup past who event)
    ≡ answered_for setup key (record { who = who; event = event } ∷ past)
events_behind setup past who event key seat answered holds events =
    ap (λ (b : Bool). if b then with_event answered (kept_of key seat who event)
    (answer_of setup past who event) else answered)
    (told_by setup.centre past (sort_of event) (association_in past who) key seat who (holds who))
    ∙ by (is_meant key (key_at event past who)) refl
    ∙ sym (answered_step setup key past (record { who = who; event = event }))
  where
    by : (t : Bool) → is_meant key (key_at event past who) ≡ t
        → (if t then with_event answered (kept_of key seat who event)
        (answer_of setup past who event) else answered)
        ≡ (if t then answered_for setup key past
        ++ answered_at setup past (record { who = who; event = event }) ∷ []
        else answered_for setup key past)
    by true e =
        ap (λ (b : Bool). with_event answered (if b then Some event else None)
        (answer_of setup past who event))
        (may_be past (sort_of event) (association_in past who) key seat who (holds who) e)
        ∙ ap (λ (l : List AnsweredEvent).
        l ++ answered_at setup past (record { who = who; event = event }) ∷ []) events
    by false e = events

-- ---- an event that is taken

second_free : (a b : Option StepFault) (more : List (Option StepFault))
    → first_refusal (a ∷ b ∷ more) ≡ None → b ≡ None
second_free (Some fault) b more free = absurd cc
second_free None (Some fault) more free = absurd cc
second_free None None more free = refl

pub watched_behind : (setup : Setup) (past : Past) (who : ℕ) (event : EventKind) (answer : Answer)
    (key : Option Key) (seat : Option ℕ) (answered : List AnsweredEvent)
    → refusal_of setup past who event ≡ None → IsAnswer setup past who event answer
    → IsWatched setup past key seat answered
    → IsWatched setup (record { who = who; event = event } ∷ past) key
    (seat_after key seat who answer)
    (events_after key seat who answered (kept_of key seat who event) answer)
watched_behind setup past who event answer key seat answered free right watched =
    subst (λ (a : Answer). IsWatched setup (record { who = who; event = event } ∷ past) key
    (seat_after key seat who a)
    (events_after key seat who answered (kept_of key seat who event) a)) (sym right)
    (record {
      holds = holds_behind setup past who event key seat (second_free _ _ _ free) watched.holds;
      events = events_behind setup past who event key seat answered watched.holds watched.events;
    })
