-- An association whose events are accounted for by what its link asks: what it is sent is what its
-- events add one after another.
use Rattle.std.proofs.Common.{◌≡◌, ◌==◌, ℕ, ◌+◌, ◌<◌, ◌≤◌, Bool, true, false, List, [], ◌∷◌, ◌++◌}
use Rattle.std.proofs.Common.{Option, Some, None, refl, sym, ap, subst, ◌∙◌, arith, ◌⊎◌, ⊎_elim}
use Rattle.std.proofs.Common.{inl, inr, length, drop}
use Rattle.std.specs.Prelude.{if◌then◌else◌, ◌&&◌, option_and_then}
use Rattle.std.specs.List.{list_any, All}
use Rattle.std.proofs.lemmas.Bool.{false≢true, eq-eqb, eqb-true}
use Rattle.std.proofs.lemmas.Option.{same_Some, none-some, option_and_then_some}
use Rattle.std.proofs.lemmas.List.Elements.{All-head, All-tail, All-take, All-drop}
use Rattle.std.proofs.Math.Nat.{eq-or-lt_of_le}
use Rattle.std.proofs.Math.Seq.{take-append_seam, drop-append_seam}
use Rattle.bilateral.specs.Rows.{CentreRows}
use Rattle.sbo_device.specs.declared.key.Key.{Key}
use Rattle.tase_views.specs.declared.call.CallKind.{CallKind}
use Rattle.tase_views.specs.declared.event.EventKind.{EventKind}
use Rattle.tase_views.specs.declared.event.EventKind.TheVariants as events
use Rattle.tase_views.specs.declared.event.Entry.{Entry}
use Rattle.tase_views.specs.Setup.{Setup}
use Rattle.tase_views.specs.History.{Past, counts_open, opens_in, next_key, association_in, key_at}
use Rattle.tase_views.specs.History.{is_key, entries_of}
use Rattle.tase_views.specs.Outcomes.{is_close, answer_by}
use Rattle.tase_views.specs.OwnTables.{own_tables}
use Rattle.tase_views.specs.View.{view_of}
use Rattle.tase_conn.specs.Map.Turns.{Turn, offers, offers_badly, asks, concludes, releases, aborts}
use Rattle.tase_conn.specs.Map.Turns.{breaks, ends, pauses}
use Rattle.tase_conn.specs.Map.Asks.{without_takes}
use Rattle.tase_conn.specs.Map.Closed.{is_closed}
use Rattle.tase_conn.specs.Map.Out.{Talk, octets_in, acts_made, turns_behind}
use Rattle.tase_conn.specs.Map.Sent.{AsksNoService}
use Rattle.tase_conn.proofs.OfMap.Adding.{other_adds, open_adds, take_adds, close_adds, asked_adds}
use Rattle.tase_conn.proofs.OfMap.Passing.{behind_none, made_apart, quiet_event, left_asked, all_left}
use Rattle.tase_conn.proofs.OfMap.Closing.{next_new, issued, closed_spent, not_key_at, key_is, not_true}
use Rattle.tase_conn.proofs.OfMap.Apart.{same_key}
use Rattle.texts.specs.Journal.Entries.{IsEvent}
use Rattle.tase_verify.specs.declared.association.answered.AnsweredEvent.{AnsweredEvent}
use Rattle.tase_verify.specs.Association.Answered.{answered_at, answered_in}
use Rattle.tase_verify.specs.Association.Asking.{asked_open}
use Rattle.tase_verify.specs.Association.Saying.{octets_by_events, added}
use Rattle.tase_verify.specs.Association.Spelled.{IsToldSpelled}
use Rattle.tase_verify.specs.Association.Stray.{events_told, same_event, is_request}
use Rattle.tase_verify.proofs.OfAssociation.Passed.{passed, passed-append, told-append}
use Rattle.tase_verify.proofs.OfAssociation.Texts.{same_call}
use Rattle.tase_verify.proofs.OfAssociation.Walked.{turns_behind_all, left_more, octets_more}

-- ---- where an association stands

-- what it is sent, and what is left of its turns
abbrev sent : CentreRows → Key → Talk → Past → List ℕ
sent rows key talk past =
    octets_in (own_tables rows key.peer) key.ordinal talk (view_of rows key.peer past)

abbrev left : CentreRows → Key → Talk → Past → List Turn
left rows key talk past =
    turns_behind talk.turns (acts_made key.ordinal (view_of rows key.peer past))

-- before its open nothing was answered, and all is left that is asked
pub record IsYet (key : Key) (all rest : List EventKind) (answered : List AnsweredEvent)
    (past : Past) : Type 0 where
  pub few : opens_in past key.peer ≤ key.ordinal
  pub none : answered ≡ []
  pub whole : rest ≡ all

-- behind its open, until it is closed, what is left is what its turns ask
pub record IsOpened (rows : CentreRows) (key : Key) (talk : Talk) (all rest : List EventKind)
    (past : Past) : Type 0 where
  pub given : key.ordinal < opens_in past key.peer
  pub peer : ℕ
  pub offer : all ≡ events.Open peer ∷ asked_open talk.turns
  pub rest_is : is_closed key past ≡ false
      → (rest ≡ asked_open (left rows key talk past)) × All IsEvent rest

-- behind these answered events
pub record IsMatched (rows : CentreRows) (key : Key) (talk : Talk) (all rest : List EventKind)
    (answered : List AnsweredEvent) (past : Past) : Type 0 where
  pub octets : sent rows key talk past ≡ octets_by_events talk talk.turns answered
  pub turns : left rows key talk past ≡ turns_behind_all talk.turns answered
  pub stands : IsYet key all rest answered past ⊎ IsOpened rows key talk all rest past

-- ---- what the next event that is asked is

next_by : (event next : EventKind) (others rest : List EventKind) (same : Bool)
    → same_event event next ≡ same
    → option_and_then (λ (others : List EventKind). Some others)
    (if same then Some others else None) ≡ Some rest
    → (others ≡ rest) × (same_event event next ≡ true)
next_by event next others rest true k e = (same_Some others rest e, k)
next_by event next others rest false k e = absurd (none-some rest e)

pub record IsNext (event : EventKind) (middle rest : List EventKind) : Type 0 where
  pub next : EventKind
  pub is : middle ≡ next ∷ rest
  pub same : same_event event next ≡ true

next_is : (event : EventKind) (middle rest : List EventKind) → is_close event ≡ false
    → passed (event ∷ []) middle ≡ Some rest → IsNext event middle rest
next_is event [] rest c e =
    absurd (none-some rest (subst (λ (b : Bool). option_and_then
    (λ (others : List EventKind). Some others) (if b then Some [] else None) ≡ Some rest) c e))
next_is event (next ∷ others) rest c e =
    let f = next_by event next others rest (same_event event next) refl
    (subst (λ (b : Bool). option_and_then (λ (others : List EventKind). Some others)
    (if b && is_request next then Some []
    else (if same_event event next then Some others else None)) ≡ Some rest) c e) in
    record { next = next; is = ap (λ (es : List EventKind). next ∷ es) f.0; same = f.1 }

pub tail_is : (one : EventKind) (rest : List EventKind) (other : EventKind)
    (others : List EventKind) → one ∷ rest ≡ other ∷ others → rest ≡ others
tail_is one rest other others e = ap (λ (es : List EventKind). drop 1 es) e

-- the request that stands first
record IsRequested (turns : List Turn) (next : EventKind) (rest : List EventKind) : Type 0 where
  invoke : ℕ
  call : CallKind
  later : List Turn
  turns_are : turns ≡ asks invoke call ∷ later
  next_is : next ≡ events.Request call
  rest_is : rest ≡ asked_open later

no_close : (call : CallKind) (next : EventKind) (rest : List EventKind)
    → events.Close ∷ [] ≡ next ∷ rest → same_event (events.Request call) next ≡ true → ⊥
no_close call next rest e s =
    let same : next ≡ events.Close = cc in
    false≢true (subst (λ (n : EventKind). same_event (events.Request call) n ≡ true) same s)

none_next : (next : EventKind) (rest : List EventKind) → [] ≡ next ∷ rest → ⊥
none_next next rest e = cc

requested : (call : CallKind) (turns : List Turn) (next : EventKind) (rest : List EventKind)
    → asked_open turns ≡ next ∷ rest → same_event (events.Request call) next ≡ true
    → IsRequested turns next rest
requested call [] next rest e s = absurd (none_next next rest e)
requested call (offers title ∷ turns) next rest e s = absurd (none_next next rest e)
requested call (offers_badly ∷ turns) next rest e s = absurd (none_next next rest e)
requested call (asks invoke other ∷ turns) next rest e s =
    let head : next ≡ events.Request other = cc in
    let tail : rest ≡ asked_open turns = cc in
    record {
      invoke = invoke;
      call = other;
      later = turns;
      turns_are = refl;
      next_is = head;
      rest_is = tail;
    }
requested call (concludes ∷ turns) next rest e s = absurd (no_close call next rest e s)
requested call (releases ∷ turns) next rest e s = absurd (no_close call next rest e s)
requested call (aborts ∷ turns) next rest e s = absurd (no_close call next rest e s)
requested call (breaks ∷ turns) next rest e s = absurd (no_close call next rest e s)
requested call (ends ∷ turns) next rest e s = absurd (no_close call next rest e s)
requested call (pauses ∷ turns) next rest e s = absurd (none_next next rest e)

-- an event of another text than requests and closes
abbrev IsUnlike : EventKind → Type 0
IsUnlike event = ((call : CallKind) → same_event event (events.Request call) ≡ false)
    × (same_event event events.Close ≡ false)

closes_apart : (event next : EventKind) (rest : List EventKind) → IsUnlike event
    → events.Close ∷ [] ≡ next ∷ rest → same_event event next ≡ true → ⊥
closes_apart event next rest u e s =
    let same : next ≡ events.Close = cc in
    false≢true (sym u.1 ∙ subst (λ (n : EventKind). same_event event n ≡ true) same s)

asks_apart : (event : EventKind) (call : CallKind) (next : EventKind)
    (others rest : List EventKind) → IsUnlike event
    → events.Request call ∷ others ≡ next ∷ rest → same_event event next ≡ true → ⊥
asks_apart event call next others rest u e s =
    let same : next ≡ events.Request call = cc in
    false≢true (sym (u.0 call) ∙ subst (λ (n : EventKind). same_event event n ≡ true) same s)

never_next : (event : EventKind) (turns : List Turn) (next : EventKind) (rest : List EventKind)
    → IsUnlike event → asked_open turns ≡ next ∷ rest → same_event event next ≡ true → ⊥
never_next event [] next rest u e s = none_next next rest e
never_next event (offers title ∷ turns) next rest u e s = none_next next rest e
never_next event (offers_badly ∷ turns) next rest u e s = none_next next rest e
never_next event (asks invoke call ∷ turns) next rest u e s =
    asks_apart event call next (asked_open turns) rest u e s
never_next event (concludes ∷ turns) next rest u e s = closes_apart event next rest u e s
never_next event (releases ∷ turns) next rest u e s = closes_apart event next rest u e s
never_next event (aborts ∷ turns) next rest u e s = closes_apart event next rest u e s
never_next event (breaks ∷ turns) next rest u e s = closes_apart event next rest u e s
never_next event (ends ∷ turns) next rest u e s = closes_apart event next rest u e s
never_next event (pauses ∷ turns) next rest u e s = none_next next rest e

-- ---- one event more

-- what is asked of a link, if anything, is an open, and what its turns ask behind it
abbrev pub OpensFirst : Talk → List EventKind → Type 0
OpensFirst talk all =
    (all ≡ []) ⊎ ((peer : ℕ) × (all ≡ events.Open peer ∷ asked_open talk.turns))

given_by : (past : Past) (peer : ℕ) (key : Key) → Some (next_key past peer) ≡ Some key
    → key.ordinal < counts_open (events.Open peer) key.peer + opens_in past key.peer
given_by past peer key e =
    subst (λ (k : Key).
    k.ordinal < counts_open (events.Open peer) k.peer + opens_in past k.peer)
    (same_Some (next_key past peer) key e) (rw (eq-eqb peer peer refl) (omega arith))

own_key : (key : Key) → is_key key (Some key) ≡ true
own_key key = rw (eq-eqb key.peer key.peer refl, eq-eqb key.ordinal key.ordinal refl) refl

-- an association that is open was opened
opened_before : (rows : CentreRows) (key : Key) (talk : Talk) (all rest : List EventKind)
    (answered : List AnsweredEvent) (past : Past) (who : ℕ)
    → IsYet key all rest answered past ⊎ IsOpened rows key talk all rest past
    → association_in past who ≡ Some key → IsOpened rows key talk all rest past
opened_before rows key talk all rest answered past who (inl y) e =
    let given = issued past who key e in absurd (omega (arith, y.few, given))
opened_before rows key talk all rest answered past who (inr o) e = o

pub still_open : (event : EventKind) (past : Past) (who : ℕ) (key : Key)
    → key_at event past who ≡ Some key → is_closed key past ≡ false
still_open event past who key e =
    not_true (is_closed key past) (λ c. not_key_at event past who key (closed_spent key past c) e)

module _ (setup : Setup) (key : Key) (talk : Talk) (all : List EventKind)
    (opens : OpensFirst talk all) (spelled : All IsEvent all) where
  abbrev one_told : ℕ → EventKind → Past → AnsweredEvent
  one_told who event past = answered_at setup past (record { who = who; event = event })

  -- what it is sent is what it was sent and what the event adds
  abbrev Adds : ℕ → EventKind → Past → List Turn → Type 0
  Adds who event past turns =
      sent setup.centre key talk (record { who = who; event = event } ∷ past)
      ≡ sent setup.centre key talk past ++ added talk turns (one_told who event past)

  octets_on : (who : ℕ) (event : EventKind) (past : Past) (rest : List EventKind)
      (answered : List AnsweredEvent) → IsMatched setup.centre key talk all rest answered past
      → Adds who event past (left setup.centre key talk past)
      → sent setup.centre key talk (record { who = who; event = event } ∷ past)
      ≡ octets_by_events talk talk.turns (answered ++ one_told who event past ∷ [])
  octets_on who event past rest answered m e =
      e ∙ ap (λ (os : List ℕ). os ++ added talk (left setup.centre key talk past)
      (one_told who event past)) m.octets
      ∙ ap (λ (ts : List Turn). octets_by_events talk talk.turns answered
      ++ added talk ts (one_told who event past)) m.turns
      ∙ sym (octets_more talk talk.turns answered (one_told who event past))

  next_in : (event : EventKind) (past : Past) (who : ℕ) (middle : List EventKind)
      → IsOpened setup.centre key talk all middle past → key_at event past who ≡ Some key
      → (middle ≡ asked_open (left setup.centre key talk past)) × All IsEvent middle
  next_in event past who middle o e = o.rest_is (still_open event past who key e)

  open_more : (who peer : ℕ) (past : Past) (middle rest : List EventKind)
      (answered : List AnsweredEvent)
      → IsMatched setup.centre key talk all middle answered past
      → key_at (events.Open peer) past who ≡ Some key
      → passed (events.Open peer ∷ []) middle ≡ Some rest
      → IsOpened setup.centre key talk all rest
      (record { who = who; event = events.Open peer } ∷ past)
  open_more who peer past middle rest answered m e p =
      by m.stands opens
    where
      told : (n : IsNext (events.Open peer) middle rest) (y : IsYet key all middle answered past)
          → (o : (first : ℕ) × (all ≡ events.Open first ∷ asked_open talk.turns))
          → IsOpened setup.centre key talk all rest
          (record { who = who; event = events.Open peer } ∷ past)
      told n y o =
          let whole : n.next ∷ rest ≡ events.Open o.0 ∷ asked_open talk.turns =
          sym n.is ∙ y.whole ∙ o.1 in
          let turns : left setup.centre key talk
          (record { who = who; event = events.Open peer } ∷ past) ≡ talk.turns =
          ap (λ (m : ℕ). turns_behind talk.turns m)
          (quiet_event setup.centre key who (events.Open peer) past tt e)
          ∙ all_left setup.centre talk.turns key past y.few in
          record {
            given = given_by past peer key e;
            peer = o.0;
            offer = o.1;
            rest_is = λ closed. (
              tail_is n.next rest (events.Open o.0) (asked_open talk.turns) whole
                  ∙ ap (λ (ts : List Turn). asked_open ts) (sym turns),
              All-tail IsEvent n.next rest
                  (subst (λ (es : List EventKind). All IsEvent es) (sym y.whole ∙ n.is) spelled),
            );
          }

      by : IsYet key all middle answered past ⊎ IsOpened setup.centre key talk all middle past
          → OpensFirst talk all
          → IsOpened setup.centre key talk all rest
          (record { who = who; event = events.Open peer } ∷ past)
      by (inr o) first = absurd (next_new past peer key e o.given)
      by (inl y) (inl none) =
          let n = next_is (events.Open peer) middle rest refl p in
          absurd (none_next n.next rest (sym none ∙ sym y.whole ∙ n.is))
      by (inl y) (inr o) = told (next_is (events.Open peer) middle rest refl p) y o

  request_more : (who : ℕ) (call : CallKind) (past : Past) (middle rest : List EventKind)
      (answered : List AnsweredEvent)
      → IsMatched setup.centre key talk all middle answered past → IsEvent (events.Request call)
      → key_at (events.Request call) past who ≡ Some key
      → passed (events.Request call ∷ []) middle ≡ Some rest
      → IsMatched setup.centre key talk all rest
      (answered ++ one_told who (events.Request call) past ∷ [])
      (record { who = who; event = events.Request call } ∷ past)
  request_more who call past middle rest answered m i e p =
      let o = opened_before setup.centre key talk all middle answered past who m.stands e in
      let f = next_in (events.Request call) past who middle o e in
      let n = next_is (events.Request call) middle rest refl p in
      by o f n (requested call (left setup.centre key talk past) n.next rest (sym f.0 ∙ n.is)
      n.same)
    where
      told : (o : IsOpened setup.centre key talk all middle past)
          → (invoke : ℕ) (later : List Turn)
          → left setup.centre key talk past ≡ asks invoke call ∷ later
          → rest ≡ asked_open later → All IsEvent rest
          → IsMatched setup.centre key talk all rest
          (answered ++ one_told who (events.Request call) past ∷ [])
          (record { who = who; event = events.Request call } ∷ past)
      told o invoke later turns r s =
          let new = left_asked setup.centre talk.turns key who invoke call later past i.0 e turns in
          let adds : Adds who (events.Request call) past (asks invoke call ∷ later) =
          asked_adds setup.centre (own_tables setup.centre key.peer) talk key who past invoke call
          later i.0 e turns
          ∙ ap (λ (k : Option Key). sent setup.centre key talk past
          ++ added talk (asks invoke call ∷ later) (record {
            event = events.Request call;
            answer = answer_by setup.centre past (events.Request call) k;
          })) (sym e) in
          record {
            octets = octets_on who (events.Request call) past middle answered m
                (subst (λ (ts : List Turn). Adds who (events.Request call) past ts) (sym turns)
                adds);
            turns = new ∙ ap (λ (ts : List Turn). drop 1 ts) (sym turns ∙ m.turns)
                ∙ sym (left_more talk.turns answered (one_told who (events.Request call) past));
            stands = inr (record {
              given = let g = o.given in omega (arith, g);
              peer = o.peer;
              offer = o.offer;
              rest_is = λ closed. (r ∙ ap (λ (ts : List Turn). asked_open ts) (sym new), s);
            });
          }

      by : (o : IsOpened setup.centre key talk all middle past)
          → (middle ≡ asked_open (left setup.centre key talk past)) × All IsEvent middle
          → (n : IsNext (events.Request call) middle rest)
          → IsRequested (left setup.centre key talk past) n.next rest
          → IsMatched setup.centre key talk all rest
          (answered ++ one_told who (events.Request call) past ∷ [])
          (record { who = who; event = events.Request call } ∷ past)
      by o f n r =
          let all_spelled = subst (λ (es : List EventKind). All IsEvent es) n.is f.1 in
          let first : IsEvent (events.Request r.call) =
          subst (λ (next : EventKind). IsEvent next) r.next_is
          (All-head IsEvent n.next rest all_spelled) in
          let same : call ≡ r.call = same_call call r.call i first
          (subst (λ (next : EventKind). same_event (events.Request call) next ≡ true) r.next_is
          n.same) in
          told o r.invoke r.later
          (r.turns_are ∙ ap (λ (k : CallKind). asks r.invoke k ∷ r.later) (sym same)) r.rest_is
          (All-tail IsEvent n.next rest all_spelled)

  -- a take, and a close
  quiet_more : (who : ℕ) (event : EventKind) (past : Past) (middle rest : List EventKind)
      (answered : List AnsweredEvent)
      → IsMatched setup.centre key talk all middle answered past → (q : AsksNoService event)
      → key_at event past who ≡ Some key → association_in past who ≡ Some key
      → Adds who event past (left setup.centre key talk past)
      → turns_behind_all talk.turns (answered ++ one_told who event past ∷ [])
      ≡ turns_behind_all talk.turns answered
      → (is_closed key (record { who = who; event = event } ∷ past) ≡ false
      → (rest ≡ asked_open (left setup.centre key talk past)) × All IsEvent rest)
      → IsMatched setup.centre key talk all rest (answered ++ one_told who event past ∷ [])
      (record { who = who; event = event } ∷ past)
  quiet_more who event past middle rest answered m q e seat adds same r =
      let o = opened_before setup.centre key talk all middle answered past who m.stands seat in
      let turns : left setup.centre key talk (record { who = who; event = event } ∷ past)
      ≡ left setup.centre key talk past =
      ap (λ (n : ℕ). turns_behind talk.turns n) (quiet_event setup.centre key who event past q e) in
      record {
        octets = octets_on who event past middle answered m adds;
        turns = turns ∙ m.turns ∙ sym same;
        stands = inr (record {
          given = still_given event o.given;
          peer = o.peer;
          offer = o.offer;
          rest_is = λ closed.
              ((r closed).0 ∙ ap (λ (ts : List Turn). asked_open ts) (sym turns), (r closed).1);
        });
      }
    where
      still_given : (event : EventKind) → key.ordinal < opens_in past key.peer
          → key.ordinal < counts_open event key.peer + opens_in past key.peer
      still_given event g = omega (arith, g)

  take_more : (who : ℕ) (past : Past) (middle rest : List EventKind)
      (answered : List AnsweredEvent)
      → IsMatched setup.centre key talk all middle answered past
      → key_at events.Take past who ≡ Some key → Some middle ≡ Some rest
      → IsMatched setup.centre key talk all rest (answered ++ one_told who events.Take past ∷ [])
      (record { who = who; event = events.Take } ∷ past)
  take_more who past middle rest answered m e p =
      let o = opened_before setup.centre key talk all middle answered past who m.stands e in
      let f = next_in events.Take past who middle o e in
      quiet_more who events.Take past middle rest answered m tt e e
      (take_adds setup.centre (own_tables setup.centre key.peer) talk key who past e
      ∙ ap (λ (k : Option Key). sent setup.centre key talk past
      ++ added talk (left setup.centre key talk past) (record {
        event = events.Take;
        answer = answer_by setup.centre past events.Take k;
      })) (sym e))
      (left_more talk.turns answered (one_told who events.Take past))
      (λ closed. subst (λ (es : List EventKind).
      (es ≡ asked_open (left setup.centre key talk past)) × All IsEvent es)
      (same_Some middle rest p) f)

  close_more : (who : ℕ) (past : Past) (middle rest : List EventKind)
      (answered : List AnsweredEvent)
      → IsMatched setup.centre key talk all middle answered past
      → key_at events.Close past who ≡ Some key
      → IsMatched setup.centre key talk all rest (answered ++ one_told who events.Close past ∷ [])
      (record { who = who; event = events.Close } ∷ past)
  close_more who past middle rest answered m e =
      quiet_more who events.Close past middle rest answered m tt e e
      (close_adds setup.centre (own_tables setup.centre key.peer) talk key who past e)
      (left_more talk.turns answered (one_told who events.Close past))
      (λ closed. absurd (false≢true (sym closed ∙ shut)))
    where
      shut : is_closed key (record { who = who; event = events.Close } ∷ past) ≡ true
      shut =
          ap (λ (b : Bool). list_any (λ (entry : Entry). is_close entry.event)
          (if b then record { who = who; event = events.Close } ∷ entries_of key past
          else entries_of key past)) (ap (λ (k : Option Key). is_key key k) e ∙ own_key key)

  -- no other event is asked
  other_event : (who : ℕ) (event : EventKind) (past : Past) (middle rest : List EventKind)
      (answered : List AnsweredEvent)
      → IsMatched setup.centre key talk all middle answered past → is_close event ≡ false
      → IsUnlike event → key_at event past who ≡ Some key → association_in past who ≡ Some key
      → passed (event ∷ []) middle ≡ Some rest → ⊥
  other_event who event past middle rest answered m c u e seat p =
      let o = opened_before setup.centre key talk all middle answered past who m.stands seat in
      let f = next_in event past who middle o e in
      let n = next_is event middle rest c p in
      never_next event (left setup.centre key talk past) n.next rest u (sym f.0 ∙ n.is) n.same

  event_more : (who : ℕ) (event : EventKind) (past : Past) (middle rest : List EventKind)
      (answered : List AnsweredEvent)
      → IsMatched setup.centre key talk all middle answered past → IsEvent event
      → key_at event past who ≡ Some key → passed (without_takes (event ∷ [])) middle ≡ Some rest
      → IsMatched setup.centre key talk all rest (answered ++ one_told who event past ∷ [])
      (record { who = who; event = event } ∷ past)
  event_more who (events.Open peer) past middle rest answered m i e p = record {
    octets = octets_on who (events.Open peer) past middle answered m
        (open_adds setup.centre (own_tables setup.centre key.peer) talk key who peer past e);
    turns = ap (λ (n : ℕ). turns_behind talk.turns n)
        (quiet_event setup.centre key who (events.Open peer) past tt e) ∙ m.turns
        ∙ sym (left_more talk.turns answered (one_told who (events.Open peer) past));
    stands = inr (open_more who peer past middle rest answered m e p);
  }
  event_more who (events.Request call) past middle rest answered m i e p =
      request_more who call past middle rest answered m i e p
  event_more who events.Take past middle rest answered m i e p =
      take_more who past middle rest answered m e p
  event_more who events.Close past middle rest answered m i e p =
      close_more who past middle rest answered m e
  event_more who (events.Update point value) past middle rest answered m i e p =
      absurd (other_event who (events.Update point value) past middle rest answered m refl
      ((λ call. refl), refl) e e p)
  event_more who (events.Table peer variant) past middle rest answered m i e p =
      absurd (other_event who (events.Table peer variant) past middle rest answered m refl
      ((λ call. refl), refl) e e p)
  event_more who (events.Tag device tag) past middle rest answered m i e p =
      absurd (other_event who (events.Tag device tag) past middle rest answered m refl
      ((λ call. refl), refl) e e p)
  event_more who (events.Tick now) past middle rest answered m i e p =
      absurd (other_event who (events.Tick now) past middle rest answered m refl
      ((λ call. refl), refl) e e p)
  event_more who (events.Ask peer slot) past middle rest answered m i e p =
      absurd (other_event who (events.Ask peer slot) past middle rest answered m refl
      ((λ call. refl), refl) e e p)
  event_more who events.TakeOrders past middle rest answered m i e p =
      absurd (other_event who events.TakeOrders past middle rest answered m refl
      ((λ call. refl), refl) e e p)
  event_more who events.Stop past middle rest answered m i e p =
      absurd (other_event who events.Stop past middle rest answered m refl
      ((λ call. refl), refl) e e p)

  -- ---- an entry of another association

  yet_other : (who : ℕ) (event : EventKind) (past : Past) → opens_in past key.peer ≤ key.ordinal
      → (key_at event past who ≡ Some key → ⊥)
      → counts_open event key.peer + opens_in past key.peer ≤ key.ordinal
  yet_other who (events.Open peer) past few apart =
      by (peer == key.peer) refl
    where
      by : (b : Bool) → (peer == key.peer) ≡ b
          → (if b then 1 else 0) + opens_in past key.peer ≤ key.ordinal
      by false k = omega (arith, few)
      by true k =
          let same : peer ≡ key.peer = eqb-true peer key.peer k in
          ⊎_elim
          (λ full. absurd (apart (ap Some (same_key (next_key past peer) key same
          (ap (λ (p : ℕ). opens_in past p) same ∙ full)))))
          (λ fewer. omega (arith, fewer)) (eq-or-lt_of_le few)
  yet_other who (events.Request call) past few apart = omega (arith, few)
  yet_other who events.Take past few apart = omega (arith, few)
  yet_other who events.Close past few apart = omega (arith, few)
  yet_other who (events.Update point value) past few apart = omega (arith, few)
  yet_other who (events.Table peer variant) past few apart = omega (arith, few)
  yet_other who (events.Tag device tag) past few apart = omega (arith, few)
  yet_other who (events.Tick now) past few apart = omega (arith, few)
  yet_other who (events.Ask peer slot) past few apart = omega (arith, few)
  yet_other who events.TakeOrders past few apart = omega (arith, few)
  yet_other who events.Stop past few apart = omega (arith, few)

  other_more : (entry : Entry) (past : Past) (rest : List EventKind)
      (answered : List AnsweredEvent)
      → IsMatched setup.centre key talk all rest answered past
      → is_key key (key_at entry.event past entry.who) ≡ false
      → IsMatched setup.centre key talk all rest answered (entry ∷ past)
  other_more entry past rest answered m k =
      record {
        octets = other_adds setup.centre (own_tables setup.centre key.peer) talk key entry.who
            entry.event past apart ∙ m.octets;
        turns = turns ∙ m.turns;
        stands = by m.stands;
      }
    where
      apart : key_at entry.event past entry.who ≡ Some key → ⊥
      apart e = false≢true (sym k ∙ ap (λ (found : Option Key). is_key key found) e
          ∙ own_key key)

      turns : left setup.centre key talk (entry ∷ past) ≡ left setup.centre key talk past
      turns = ap (λ (n : ℕ). turns_behind talk.turns n)
          (made_apart setup.centre key entry.who entry.event past apart)

      same_closed : is_closed key (entry ∷ past) ≡ is_closed key past
      same_closed = ap (λ (b : Bool). list_any (λ (e : Entry). is_close e.event)
          (if b then entry ∷ entries_of key past else entries_of key past)) k

      by : IsYet key all rest answered past ⊎ IsOpened setup.centre key talk all rest past
          → IsYet key all rest answered (entry ∷ past)
          ⊎ IsOpened setup.centre key talk all rest (entry ∷ past)
      by (inl y) = inl (record {
        few = yet_other entry.who entry.event past y.few apart;
        none = y.none;
        whole = y.whole;
      })
      by (inr o) = inr (record {
        given = let g = o.given in omega (arith, g);
        peer = o.peer;
        offer = o.offer;
        rest_is = λ closed. let r = o.rest_is (sym same_closed ∙ closed) in
            (r.0 ∙ ap (λ (ts : List Turn). asked_open ts) (sym turns), r.1);
      })

  -- ---- all of them

  front_spelled : (front : List AnsweredEvent) (last : AnsweredEvent)
      → All IsToldSpelled (front ++ last ∷ []) → All IsToldSpelled front × IsToldSpelled last
  front_spelled front last s = (
    subst (λ (xs : List AnsweredEvent). All IsToldSpelled xs) (take-append_seam front (last ∷ []))
        (All-take IsToldSpelled (length front) (front ++ last ∷ []) s),
    All-head IsToldSpelled last []
        (subst (λ (xs : List AnsweredEvent). All IsToldSpelled xs)
        (drop-append_seam front (last ∷ []))
        (All-drop IsToldSpelled (length front) (front ++ last ∷ []) s)),
  )

  entry_more : (entry : Entry) (past : Past) (rest : List EventKind) (b : Bool)
      → is_key key (key_at entry.event past entry.who) ≡ b
      → ((middle : List EventKind) → All IsToldSpelled (answered_in setup key past)
      → passed (events_told (answered_in setup key past)) all ≡ Some middle
      → IsMatched setup.centre key talk all middle (answered_in setup key past) past)
      → All IsToldSpelled (if b then answered_in setup key past ++ answered_at setup past entry ∷ []
      else answered_in setup key past)
      → passed (events_told (if b
      then answered_in setup key past ++ answered_at setup past entry ∷ []
      else answered_in setup key past)) all ≡ Some rest
      → IsMatched setup.centre key talk all rest (if b
      then answered_in setup key past ++ answered_at setup past entry ∷ []
      else answered_in setup key past) (entry ∷ past)
  entry_more entry past rest false k go s p =
      other_more entry past rest (answered_in setup key past) (go rest s p) k
  entry_more entry past rest true k go s p =
      let front = answered_in setup key past in
      let f = front_spelled front (answered_at setup past entry) s in
      option_and_then_some
      (λ (middle : List EventKind). passed (without_takes (entry.event ∷ [])) middle)
      (passed (events_told front) all) rest
      (sym (passed-append (events_told front) (without_takes (entry.event ∷ [])) all)
      ∙ ap (λ (es : List EventKind). passed es all)
      (sym (told-append front (answered_at setup past entry ∷ []))) ∙ p)
      (λ middle h l. event_more entry.who entry.event past middle rest front (go middle f.0 h) f.1
      (key_is key (key_at entry.event past entry.who) k) l)

  pub matched : (past : Past) (rest : List EventKind)
      → All IsToldSpelled (answered_in setup key past)
      → passed (events_told (answered_in setup key past)) all ≡ Some rest
      → IsMatched setup.centre key talk all rest (answered_in setup key past) past
  matched [] rest s p = record {
    octets = refl;
    turns = behind_none talk.turns;
    stands = inl (record {
      few = omega arith;
      none = refl;
      whole = sym (same_Some all rest p);
    });
  }
  matched (entry ∷ past) rest s p =
      entry_more entry past rest (is_key key (key_at entry.event past entry.who)) refl
      (λ middle t q. matched past middle t q) s p
