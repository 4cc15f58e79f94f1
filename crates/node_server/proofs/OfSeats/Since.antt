-- A log in which what a seat did before is put down to another number.
use Rattle.std.proofs.Common.{◌≡◌, ◌==◌, ℕ, ◌+◌, ◌-◌, ◌*◌, ◌≤◌, Bool, true, false, List, [], ◌∷◌}
use Rattle.std.proofs.Common.{◌++◌, map}
use Rattle.std.proofs.Common.{length, take, drop, cond, Option, Some, None, Result}
use Rattle.std.proofs.Common.{refl, sym, ap, subst, ◌∙◌, append_assoc, length-append, arith, ⊎_elim}
use Rattle.std.specs.Prelude.{if◌then◌else◌}
use Rattle.std.specs.List.{cons_option}
use Rattle.std.proofs.lemmas.Bool.{cases_eq, eq-eqb, ne_eqb}
use Rattle.std.proofs.lemmas.List.{append-nil, reverse-append, map-append, take-append-drop}
use Rattle.std.proofs.lemmas.List.{take-append-le, drop-append-le, take_all, drop_all}
use Rattle.std.proofs.lemmas.List.Elements.{filter_map-append}
use mathlib.Core.List.{IsPrefix}
use Rattle.sbo_device.specs.declared.key.Key.{Key}
use Rattle.tase_views.specs.Setup.{Setup}
use Rattle.tase_views.specs.Seats.{reseated, IsInjective}
use Rattle.tase_views.specs.Weights.{weight_of}
use Rattle.tase_views.specs.History.{Past, association_in}
use Rattle.tase_views.specs.declared.event.Entry.{Entry}
use Rattle.tase_views.specs.declared.event.EventKind.{EventKind}
use Rattle.tase_views.specs.declared.fault.StepFault.{StepFault}
use Rattle.tase_views.specs.declared.reply.Answer.{Answer}
use Rattle.tase_conn.specs.Map.Sent.{events_by, event_by}
use Rattle.conn_service.specs.Attending.{remaining, seat_count}
use Rattle.conn_service.proofs.OfCourses.Seats.{none_open}
use Rattle.share_turn.specs.Entries.{own}
use Rattle.share_turn.specs.Public.{Came, at, added}
use Rattle.share_turn.proofs.Owned.{own_append, none_both, none_append, is_own, not_own}
use Rattle.node_server.specs.declared.turn.turn_node.NodeSetup.{NodeSetup}
use Rattle.node_server.specs.Turn.Logged.{logged_entry, past_in, IsRightTurn}
use Rattle.node_server.specs.NodeCalls.{NodeLog, NodeSeat}
use Rattle.node_server.specs.Seats.Since.{Since, put_down, log_since, IsSince, since_here}
use Rattle.node_server.specs.Seats.Serving.{shared_setup}
use Rattle.node_server.proofs.OfSeats.Behind.{past_joined, none_behind, CameBehind, came_behind}
use Rattle.node_server.proofs.OfSeats.Alike.{IsAlike, IsAlikeBy, reseated_alike, alike_behind}
use Rattle.node_server.proofs.OfSeats.Alike.{right_alike}

-- ---- a number without entries

one_none : (mine : Bool) (entry : ℕ × EventKind)
    → map (λ (e : ℕ × EventKind). e.1) (cond mine (entry ∷ []) []) ≡ []
    → cons_option (if mine then Some entry.1 else None) [] ≡ []
one_none true entry none = none
one_none false entry none = refl

-- a seat without entries of its own has no events
pub events_none : (who : ℕ) (log : NodeLog) → own who log ≡ [] → events_by who (past_in log) ≡ []
events_none who [] none = refl
events_none who (entry ∷ log) none =
    let both = none_both who (entry ∷ []) log none in
    let one = logged_entry entry ∷ [] in
    ap (λ past. events_by who past) (reverse-append one (map logged_entry log))
    ∙ filter_map-append (event_by who) (past_in log) one
    ∙ ap (λ (es : List EventKind). es ++ events_by who one) (events_none who log both.1)
    ∙ one_none (entry.0 == who) entry both.0

-- and no open association
pub fresh_closed : (who : ℕ) (log : NodeLog) → own who log ≡ []
    → association_in (past_in log) who ≡ None
fresh_closed who log none = none_open (past_in log) who (events_none who log none)

entry_apart : (number : ℕ) (entry : ℕ × EventKind) → own number (entry ∷ []) ≡ []
    → entry.0 ≡ number → ⊥
entry_apart number entry none same =
    let one : entry.1 ∷ [] ≡ [] = sym (is_own entry.0 entry.1)
    ∙ subst (λ (n : ℕ). own n (entry ∷ []) ≡ []) (sym same) none in
    absurd (cc one)

-- there is a number that no entry has
all_numbers : NodeLog → ℕ
all_numbers [] = 0
all_numbers (entry ∷ log) = entry.0 + all_numbers log

above_unused : (log : NodeLog) (n : ℕ) → all_numbers log ≤ n → own (n + 1) log ≡ []
unfolding all_numbers
above_unused [] n more = refl
above_unused (entry ∷ log) n more =
    none_append (n + 1) (entry ∷ []) log
    (not_own (n + 1) entry.0 entry.1 (λ (is : entry.0 ≡ n + 1). omega (arith, is, more)))
    (above_unused log n (omega (arith, more)))

pub unused_number : (log : NodeLog) → (other : ℕ) × (own other log ≡ [])
unused_number log = (all_numbers log + 1, above_unused log (all_numbers log) (omega arith))

-- ---- two numbers that are exchanged

abbrev exchanged : ℕ → ℕ → ℕ → ℕ
exchanged who other n = if n == who then other else (if n == other then who else n)

at_who : (who other n : ℕ) → n ≡ who → exchanged who other n ≡ other
at_who who other n e = ap (λ (b : Bool). if b then other else (if n == other then who else n))
    (eq-eqb n who e)

at_other : (who other n : ℕ) → n ≡ other → exchanged who other n ≡ who
at_other who other n e = ⊎_elim
    (λ (same : n ≡ who). at_who who other n same ∙ sym e ∙ same)
    (λ (apart : n ≡ who → ⊥).
    ap (λ (b : Bool). if b then other else (if n == other then who else n)) (ne_eqb n who apart)
    ∙ ap (λ (b : Bool). if b then who else n) (eq-eqb n other e))
    (cases_eq n who)

at_neither : (who other n : ℕ) → (n ≡ who → ⊥) → (n ≡ other → ⊥) → exchanged who other n ≡ n
at_neither who other n a b =
    ap (λ (t : Bool). if t then other else (if n == other then who else n)) (ne_eqb n who a)
    ∙ ap (λ (t : Bool). if t then who else n) (ne_eqb n other b)

exchanged_twice : (who other n : ℕ) → exchanged who other (exchanged who other n) ≡ n
exchanged_twice who other n = ⊎_elim
    (λ (same : n ≡ who). at_other who other _ (at_who who other n same) ∙ sym same)
    (λ (a : n ≡ who → ⊥). ⊎_elim
    (λ (same : n ≡ other). at_who who other _ (at_other who other n same) ∙ sym same)
    (λ (b : n ≡ other → ⊥). ap (exchanged who other) (at_neither who other n a b)
    ∙ at_neither who other n a b)
    (cases_eq n other))
    (cases_eq n who)

exchanged_apart : (who other : ℕ) → IsInjective (exchanged who other)
exchanged_apart who other = λ a b same. sym (exchanged_twice who other a)
    ∙ ap (exchanged who other) same ∙ exchanged_twice who other b

exchanged_same : (who other : ℕ) (f : ℕ → Option Key) → f who ≡ None → f other ≡ None → (n : ℕ)
    → f (exchanged who other n) ≡ f n
exchanged_same who other f one two n = ⊎_elim
    (λ (same : n ≡ who). ap f (at_who who other n same) ∙ two ∙ sym (ap f same ∙ one))
    (λ (a : n ≡ who → ⊥). ⊎_elim
    (λ (same : n ≡ other). ap f (at_other who other n same) ∙ one ∙ sym (ap f same ∙ two))
    (λ (b : n ≡ other → ⊥). ap f (at_neither who other n a b))
    (cases_eq n other))
    (cases_eq n who)

-- ---- what was put down

abbrev other_seat : (ℕ → ℕ) → ℕ × EventKind → ℕ × EventKind
other_seat seat entry = (seat entry.0, entry.1)

-- where the other number has no entry, both are exchanged
put_exchanged : (who other : ℕ) (log : NodeLog) → own other log ≡ []
    → map (put_down who other) log ≡ map (other_seat (exchanged who other)) log
put_exchanged who other [] none = refl
put_exchanged who other (entry ∷ log) none =
    let both = none_both other (entry ∷ []) log none in
    ap (λ (b : Bool). (if entry.0 == who then other else (if b then who else entry.0), entry.1)
    ∷ map (put_down who other) log)
    (sym (ne_eqb entry.0 other (entry_apart other entry both.0)))
    ∙ ap (λ (l : NodeLog). other_seat (exchanged who other) entry ∷ l)
    (put_exchanged who other log both.1)

reseated_log : (seat : ℕ → ℕ) (log : NodeLog)
    → past_in (map (other_seat seat) log) ≡ reseated seat (past_in log)
reseated_log seat [] = refl
reseated_log seat (entry ∷ log) =
    let again : Entry → Entry = λ e. record { who = seat e.who; event = e.event } in
    past_joined (other_seat seat entry ∷ []) (map (other_seat seat) log)
    ∙ ap (λ (p : Past). p ++ past_in (other_seat seat entry ∷ [])) (reseated_log seat log)
    ∙ sym (map-append again (past_in log) (past_in (entry ∷ [])))
    ∙ ap (reseated seat) (sym (past_joined (entry ∷ []) log))

put_alike : (who other : ℕ) (log : NodeLog) → own other log ≡ []
    → association_in (past_in log) who ≡ None
    → IsAlike (past_in (map (put_down who other) log)) (past_in log)
put_alike who other log none closed =
    let seat = exchanged who other in
    let past = past_in log in
    let alike = past_in (map (put_down who other) log) in
    let a : IsAlikeBy seat alike past = subst (λ (p : Past). IsAlikeBy seat p past)
    (sym (ap past_in (put_exchanged who other log none) ∙ reseated_log seat log))
    (reseated_alike seat (exchanged_apart who other) past) in
    let never = fresh_closed other log none in record {
      opens = a.opens;
      seats = λ n. ap (association_in alike) (sym (exchanged_twice who other n))
          ∙ a.seats (seat n)
          ∙ exchanged_same who other (association_in past) closed never n;
      moves = a.moves;
      tick = a.tick;
      stop = a.stop;
      count = a.count;
      weighs = a.weighs;
    }

-- ---- as from a beginning

-- the past that a log is as from there
abbrev pub past_since : Since → NodeLog → Past
past_since since log = past_in (log_since since log)

-- a node answers over the log as it answers over it as from there
pub since_alike : (since : Since) (log : NodeLog) → IsSince since log
    → IsAlike (past_in (log_since since log)) (past_in log)
since_alike since log is =
    let first = take since.count log in
    let rest = drop since.count log in
    let put = map (put_down since.who since.other) first in
    subst (λ (p : Past). IsAlike (past_in (put ++ rest)) p)
    (ap past_in (take-append-drop since.count log))
    (subst (λ (p : Past). IsAlike p (past_in (first ++ rest))) (sym (past_joined put rest))
    (subst (λ (p : Past). IsAlike (past_in rest ++ past_in put) p) (sym (past_joined first rest))
    (alike_behind (past_in rest) (past_in put) (past_in first)
    (put_alike since.who since.other first is.unused is.closed))))

-- a seat has one association, from wherever the log is taken
pub seat_since : (since again : Since) (log : NodeLog) (who : ℕ) → IsSince since log
    → IsSince again log
    → association_in (past_since since log) who ≡ association_in (past_since again log) who
seat_since since again log who is other =
    (since_alike since log is).seats who ∙ sym ((since_alike again log other).seats who)

-- and as many events may still be taken
pub remains_since : (setup : Setup) (since : Since) (log : NodeLog) (who : ℕ) → IsSince since log
    → remaining setup (past_since since log) who ≡ remaining setup (past_in log) who
remains_since setup since log who is =
    let a = since_alike since log is in
    ap (λ (n : ℕ). 2 * (setup.limit - n)
    + seat_count (association_in (past_since since log) who)) a.weighs
    ∙ ap (λ (k : Option Key). 2 * (setup.limit - weight_of (past_in log)) + seat_count k)
    (a.seats who)

-- what is seen later stands behind it
since_append : (since : Since) (log more : NodeLog) → since.count ≤ length log
    → log_since since (log ++ more) ≡ log_since since log ++ more
since_append since log more seen =
    let put : NodeLog → NodeLog = map (put_down since.who since.other) in
    ap (λ (l : NodeLog). put l ++ drop since.count (log ++ more))
    (take-append-le since.count log more seen)
    ∙ ap (λ (l : NodeLog). put (take since.count log) ++ l)
    (drop-append-le since.count log more seen)
    ∙ sym (append_assoc (put (take since.count log)) (drop since.count log) more)

pub since_prefix : (since : Since) (log longer : NodeLog) → IsSince since log
    → IsPrefix log longer → IsPrefix (log_since since log) (log_since since longer)
since_prefix since log longer is more =
    (more.0, sym (since_append since log more.0 is.seen) ∙ ap (log_since since) more.1)

-- it is so of all that is seen later
pub since_on : (since : Since) (log longer : NodeLog) → IsPrefix log longer → IsSince since log
    → IsSince since longer
since_on since log longer more is =
    let first : take since.count longer ≡ take since.count log =
    ap (take since.count) (sym more.1) ∙ take-append-le since.count log more.0 is.seen in record {
      seen = subst (λ (l : NodeLog). since.count ≤ length l) more.1
          (omega (arith, is.seen, length-append log more.0));
      closed = ap (λ (l : NodeLog). association_in (past_in l) since.who) first ∙ is.closed;
      unused = ap (own since.other) first ∙ is.unused;
    }

-- a call came behind all that was seen, as from there too
pub came_since : (setup : NodeSetup) (seat : NodeSeat) (event : EventKind)
    (outcome : Result Answer StepFault) (front : NodeLog) (since : Since)
    → IsSince since seat.front → Came IsRightTurn setup seat event outcome front
    → CameBehind (shared_setup setup) seat.number (past_since since seat.front) event outcome
    (past_since since front)
came_since setup seat event outcome front since is c =
    let who = seat.number in
    let before = c.0 in
    let rest = c.1.0.0 in
    let joined : seat.front ++ rest ≡ before = c.1.0.1 in
    let none = none_behind who seat.front rest before joined c.1.1 in
    let later = since_on since seat.front before (rest, joined) is in
    let here = log_since since seat.front in
    let same : log_since since before ≡ here ++ rest =
    ap (log_since since) (sym joined) ∙ since_append since seat.front rest is.seen in
    let kept : own who (log_since since before) ≡ own who here =
    ap (own who) same ∙ own_append who here rest
    ∙ ap (λ (es : List EventKind). own who here ++ es) none ∙ append-nil (own who here) in
    came_behind setup (at seat here) event outcome (log_since since front) (
      log_since since before,
      ((rest, sym same), kept),
      right_alike (shared_setup setup) (past_in (log_since since before)) (past_in before) who event
          (since_alike since before later) outcome c.2,
      ap (log_since since) c.3
          ∙ since_append since before (added outcome (who, event)) later.seen,
    )

-- ---- where a connection begins

pub begins_here : (seat : NodeSeat) (other : ℕ)
    → association_in (past_in seat.front) seat.number ≡ None → own other seat.front ≡ []
    → IsSince (since_here seat other) seat.front
begins_here seat other closed none =
    let n = length seat.front in
    let all : take n seat.front ≡ seat.front = take_all n seat.front (omega arith) in record {
      seen = omega arith;
      closed = ap (λ (l : NodeLog). association_in (past_in l) seat.number) all ∙ closed;
      unused = ap (own other) all ∙ none;
    }

put_none : (who other : ℕ) (log : NodeLog) → own other log ≡ []
    → own who (map (put_down who other) log) ≡ []
put_none who other [] none = refl
put_none who other (entry ∷ log) none =
    let both = none_both other (entry ∷ []) log none in
    let apart = entry_apart other entry both.0 in
    none_append who (put_down who other entry ∷ []) (map (put_down who other) log)
    (not_own who (put_down who other entry).0 entry.1 (⊎_elim
    (λ (same : entry.0 ≡ who) (e : (put_down who other entry).0 ≡ who). apart (same ∙ sym e
    ∙ ap (λ (b : Bool). if b then other else entry.0) (eq-eqb entry.0 who same)))
    (λ (other_one : entry.0 ≡ who → ⊥) (e : (put_down who other entry).0 ≡ who). other_one
    (sym (ap (λ (b : Bool). if b then other else entry.0) (ne_eqb entry.0 who other_one)) ∙ e))
    (cases_eq entry.0 who)))
    (put_none who other log both.1)

-- the seat has done nothing of the connection there
pub here_none : (seat : NodeSeat) (other : ℕ) → own other seat.front ≡ []
    → own seat.number (log_since (since_here seat other) seat.front) ≡ []
here_none seat other none =
    let n = length seat.front in
    let put : NodeLog → NodeLog = map (put_down seat.number other) in
    ap (λ (l : NodeLog). own seat.number (put l ++ drop n seat.front))
    (take_all n seat.front (omega arith))
    ∙ ap (λ (l : NodeLog). own seat.number (put seat.front ++ l))
    (drop_all n seat.front (omega arith))
    ∙ ap (own seat.number) (append-nil (put seat.front))
    ∙ put_none seat.number other seat.front none

-- ---- a seat that has done nothing

put_self : (who : ℕ) (log : NodeLog) → map (put_down who who) log ≡ log
put_self who [] = refl
put_self who (entry ∷ log) =
    ap (λ (l : NodeLog). put_down who who entry ∷ l) (put_self who log)
    ∙ ap (λ (n : ℕ). (n, entry.1) ∷ log) (⊎_elim
    (λ (same : entry.0 ≡ who). ap (λ (b : Bool). if b then who else entry.0)
    (eq-eqb entry.0 who same) ∙ sym same)
    (λ (apart : entry.0 ≡ who → ⊥). ap (λ (b : Bool). if b then who else entry.0)
    (ne_eqb entry.0 who apart))
    (cases_eq entry.0 who))

-- put down to itself, all is as it was
pub since_self : (seat : NodeSeat) (log : NodeLog)
    → log_since (since_here seat seat.number) log ≡ log
since_self seat log =
    let n = length seat.front in
    ap (λ (l : NodeLog). l ++ drop n log) (put_self seat.number (take n log))
    ∙ take-append-drop n log
