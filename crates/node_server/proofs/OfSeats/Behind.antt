-- A call of a seat came behind entries of other seats.
use Rattle.std.proofs.Common.{◌≡◌, ℕ, List, [], ◌∷◌, ◌++◌, map, reverse, Result, Ok, Err}
use Rattle.std.proofs.Common.{sym, ap, subst, ◌∙◌, append_assoc}
use Rattle.std.proofs.lemmas.List.{append-nil, reverse-append, map-append}
use Rattle.std.proofs.lemmas.List.{append_cancel_left}
use mathlib.Core.List.{IsPrefix}
use Rattle.tase_views.specs.Setup.{Setup}
use Rattle.tase_views.specs.History.{Past}
use Rattle.tase_views.specs.Outcomes.{IsRightOutcome}
use Rattle.tase_views.specs.declared.event.EventKind.{EventKind}
use Rattle.tase_views.specs.declared.fault.StepFault.{StepFault}
use Rattle.tase_views.specs.declared.reply.Answer.{Answer}
use Rattle.tase_conn.specs.Map.Sent.{with_event}
use Rattle.conn_service.specs.Courses.Serving.{AreOthers}
use Rattle.share_turn.specs.Entries.{own}
use Rattle.share_turn.specs.Public.{Sitting, Came, at, added}
use Rattle.share_turn.proofs.Owned.{own_append, none_both, is_own}
use Rattle.node_server.specs.declared.turn.turn_node.NodeSetup.{NodeSetup}
use Rattle.node_server.specs.Turn.Logged.{logged_entry, past_in, IsRightTurn}
use Rattle.node_server.specs.Seats.Serving.{shared_setup}

abbrev pub SeatLog : Type 0
SeatLog = List (ℕ × EventKind)

abbrev pub NodeSeat : Type 0
NodeSeat = Sitting EventKind NodeSetup

-- ---- a log as a past

pub past_joined : (xs ys : SeatLog) → past_in (xs ++ ys) ≡ past_in ys ++ past_in xs
past_joined xs ys = ap reverse (map-append logged_entry xs ys)
    ∙ reverse-append (map logged_entry xs) (map logged_entry ys)

others_joined : (who : ℕ) (xs ys : Past) → AreOthers who xs → AreOthers who ys
    → AreOthers who (xs ++ ys)
others_joined who [] ys a b = b
others_joined who (x ∷ xs) ys a b = (a.0, others_joined who xs ys a.1 b)

-- where none of a log's entries is under a number
others_of : (who : ℕ) (rest : SeatLog) → own who rest ≡ [] → AreOthers who (past_in rest)
others_of who [] none = tt
others_of who (e ∷ rest) none =
    let both = none_both who (e ∷ []) rest none in
    let apart : e.0 ≡ who → ⊥ = λ same.
    let one : e.1 ∷ [] ≡ [] = sym (is_own e.0 e.1)
    ∙ subst (λ (n : ℕ). own n (e ∷ []) ≡ []) (sym same) both.0 in
    absurd (cc one) in
    subst (λ (p : Past). AreOthers who p) (sym (past_joined (e ∷ []) rest))
    (others_joined who (past_in rest) (logged_entry e ∷ []) (others_of who rest both.1) (apart, tt))

pub none_behind : (who : ℕ) (front rest before : SeatLog) → front ++ rest ≡ before
    → own who before ≡ own who front → own who rest ≡ []
none_behind who front rest before is kept =
    append_cancel_left (own who front) (own who rest) []
    (sym (own_append who front rest) ∙ ap (own who) is ∙ kept ∙ sym (append-nil (own who front)))

-- ---- a call

-- the past with an event that was answered
abbrev pub taken_by : ℕ → EventKind → Result Answer StepFault → Past → Past
taken_by who event (Ok answer) past = with_event who event past
taken_by who event (Err fault) past = past

taken_in : (who : ℕ) (event : EventKind) (outcome : Result Answer StepFault) (log : SeatLog)
    (front : SeatLog) → front ≡ log ++ added outcome (who, event)
    → past_in front ≡ taken_by who event outcome (past_in log)
taken_in who event (Ok answer) log front is = ap past_in is ∙ past_joined log ((who, event) ∷ [])
taken_in who event (Err fault) log front is = ap past_in (is ∙ append-nil log)

pub record CameBehind (setup : Setup) (who : ℕ) (past : Past) (event : EventKind)
    (outcome : Result Answer StepFault) (after : Past) : Type 0 where
  pub others : Past
  pub apart : AreOthers who others
  pub right : IsRightOutcome setup (others ++ past) who event outcome
  pub after_is : after ≡ taken_by who event outcome (others ++ past)

pub came_behind : (setup : NodeSetup) (seat : NodeSeat) (event : EventKind)
    (outcome : Result Answer StepFault) (front : SeatLog)
    → Came IsRightTurn setup seat event outcome front
    → CameBehind (shared_setup setup) seat.number (past_in seat.front) event outcome (past_in front)
came_behind setup seat event outcome front c =
    let who = seat.number in
    let rest : SeatLog = c.1.0.0 in
    let is : seat.front ++ rest ≡ c.0 = c.1.0.1 in
    let past_is : past_in c.0 ≡ past_in rest ++ past_in seat.front =
    ap past_in (sym is) ∙ past_joined seat.front rest in
    record {
      others = past_in rest;
      apart = others_of who rest (none_behind who seat.front rest c.0 is c.1.1);
      right = subst (λ (p : Past). IsRightOutcome (shared_setup setup) p who event outcome) past_is
          c.2;
      after_is = taken_in who event outcome c.0 front c.3
          ∙ ap (λ (p : Past). taken_by who event outcome p) past_is;
    }

-- ---- the seat behind it

pub at_twice : (first between last : NodeSeat) → between ≡ at first between.front
    → last ≡ at between last.front → last ≡ at first last.front
at_twice first between last one two = two ∙ ap (λ (s : NodeSeat). at s last.front) one

pub prefix_then : (xs ys zs : SeatLog) → IsPrefix xs ys → IsPrefix ys zs → IsPrefix xs zs
prefix_then xs ys zs one two = (
  one.0 ++ two.0,
  sym (append_assoc xs one.0 two.0) ∙ (ap (λ (l : SeatLog). l ++ two.0) one.1 ∙ two.1),
)

-- what holds of the seat that it was, with what it has seen since, holds of it now
pub of_seat : (P : ℕ → SeatLog → Type 0) (first now : NodeSeat) → now ≡ at first now.front
    → P first.number now.front → P now.number now.front
of_seat P first now same p =
    subst (λ (n : ℕ). P n now.front) (sym (ap (λ (s : NodeSeat). s.number) same)) p

pub of_first : (P : ℕ → SeatLog → Type 0) (first now : NodeSeat) → now ≡ at first now.front
    → P now.number now.front → P first.number now.front
of_first P first now same p =
    subst (λ (n : ℕ). P n now.front) (ap (λ (s : NodeSeat). s.number) same) p

pub same_number : (first now : NodeSeat) → now ≡ at first now.front → now.number ≡ first.number
same_number first now same = ap (λ (s : NodeSeat). s.number) same
