-- Two histories over which a node answers alike: they differ in the numbers of seats alone, and each
-- seat has the same association in both.
use Rattle.std.proofs.Common.{◌≡◌, ◌==◌, ℕ, suc, ◌+◌, Bool, List, [], ◌∷◌, ◌++◌, length}
use Rattle.std.proofs.Common.{Option, Some, None, Result, Ok, Err, refl, sym, ap, subst, ◌∙◌, ⊎_elim}
use Rattle.std.specs.Prelude.{if◌then◌else◌, not, ◌&&◌, nat_lt, option_map}
use Rattle.std.proofs.lemmas.Bool.{cases_eq, eq-eqb, ne_eqb}
use Rattle.sbo_device.specs.declared.key.Key.{Key}
use Rattle.tase_views.specs.declared.event.Entry.{Entry}
use Rattle.tase_views.specs.declared.event.EventKind.{EventKind}
use Rattle.tase_views.specs.declared.reply.Answer.{Answer}
use Rattle.tase_views.specs.declared.reply.Answer.TheVariants.{Orders}
use Rattle.tase_views.specs.declared.fault.StepFault.{StepFault}
use Rattle.tase_views.specs.declared.fault.StepFault.TheVariants.{Stopped, HistoryFull}
use Rattle.tase_views.specs.Setup.{Setup}
use Rattle.tase_views.specs.Moves.{EventSort, Move, sort_of, opening, requesting, taking, closing}
use Rattle.tase_views.specs.Moves.{taking_orders, feeding, moves_of}
use Rattle.tase_views.specs.History.{Past, counts_open, opens_in, association_by, association_after}
use Rattle.tase_views.specs.History.{association_in, key_by, key_at, moment_by, last_tick, is_stop}
use Rattle.tase_views.specs.History.{stop_in}
use Rattle.tase_views.specs.Weights.{weight, weight_of}
use Rattle.tase_views.specs.Seats.{reseated, IsInjective}
use Rattle.tase_views.specs.OwnTables.{own_tables}
use Rattle.tase_views.specs.View.{moves_in, view_by}
use Rattle.tase_views.specs.Orders.{orders_left}
use Rattle.tase_views.specs.Outcomes.{is_close, is_ending, seat_refusal, name_refusal}
use Rattle.tase_views.specs.Outcomes.{clock_refusal_by, first_refusal, refusal_of, answer_to}
use Rattle.tase_views.specs.Outcomes.{answer_at, answer_of, IsRefusal, IsRightOutcome}

-- a history is this past, but that each seat of it has another number there
pub record IsAlikeBy (seat : ℕ → ℕ) (alike past : Past) : Type 0 where
  pub opens : (peer : ℕ) → opens_in alike peer ≡ opens_in past peer
  pub seats : (who : ℕ) → association_in alike (seat who) ≡ association_in past who
  pub moves : moves_in alike ≡ moves_in past
  pub tick : last_tick alike ≡ last_tick past
  pub stop : stop_in alike ≡ stop_in past
  pub count : length alike ≡ length past
  pub weighs : weight_of alike ≡ weight_of past

abbrev pub IsAlike : Past → Past → Type 0
IsAlike alike past = IsAlikeBy (λ who. who) alike past

-- ---- one entry more

same_test : (seat : ℕ → ℕ) → IsInjective seat → (a b : ℕ) → (seat a == seat b) ≡ (a == b)
same_test seat apart a b =
    ⊎_elim
    (λ same. eq-eqb (seat a) (seat b) (ap seat same) ∙ sym (eq-eqb a b same))
    (λ other. ne_eqb (seat a) (seat b) (λ e. other (apart a b e)) ∙ sym (ne_eqb a b other))
    (cases_eq a b)

module _ (alike past : Past) (opens : (peer : ℕ) → opens_in alike peer ≡ opens_in past peer) where
  after_alike : (sort : EventSort) (before : Option Key)
      → association_by sort alike before ≡ association_by sort past before
  after_alike (opening peer) before =
      let f : ℕ → Option Key = λ n. Some (record { peer = peer; ordinal = n }) in
      ap f (opens peer)
  after_alike (requesting call) before = refl
  after_alike taking before = refl
  after_alike closing before = refl
  after_alike taking_orders before = refl
  after_alike (feeding move) before = refl

  key_alike : (sort : EventSort) (before : Option Key)
      → key_by sort alike before ≡ key_by sort past before
  key_alike (opening peer) before =
      let f : ℕ → Option Key = λ n. Some (record { peer = peer; ordinal = n }) in
      ap f (opens peer)
  key_alike (requesting call) before = refl
  key_alike taking before = refl
  key_alike closing before = refl
  key_alike taking_orders before = refl
  key_alike (feeding move) before = refl

module _ (seat : ℕ → ℕ) (apart : IsInjective seat) (entry : Entry) (alike past : Past)
    (a : IsAlikeBy seat alike past) where
  key_here : key_at entry.event alike (seat entry.who) ≡ key_at entry.event past entry.who
  key_here = ap (λ (o : Option Key). key_by (sort_of entry.event) alike o) (a.seats entry.who)
      ∙ key_alike alike past a.opens (sort_of entry.event) (association_in past entry.who)

  seat_more : (who : ℕ)
      → association_in (record { who = seat entry.who; event = entry.event } ∷ alike) (seat who)
      ≡ association_in (entry ∷ past) who
  seat_more who =
      let event = entry.event in
      ap (λ (b : Bool). if b
      then association_after event alike (association_in alike (seat who))
      else association_in alike (seat who)) (same_test seat apart entry.who who)
      ∙ ap (λ (o : Option Key). if entry.who == who then association_after event alike o else o)
      (a.seats who)
      ∙ ap (λ (o : Option Key). if entry.who == who then o else association_in past who)
      (after_alike alike past a.opens (sort_of event) (association_in past who))

  pub alike_more :
      IsAlikeBy seat (record { who = seat entry.who; event = entry.event } ∷ alike) (entry ∷ past)
  alike_more = record {
    opens = λ peer. ap (λ (n : ℕ). counts_open entry.event peer + n) (a.opens peer);
    seats = seat_more;
    moves = ap (λ (o : Option Key). moves_of (sort_of entry.event) o ++ moves_in alike) key_here
        ∙ ap (λ (ms : List Move). moves_of (sort_of entry.event)
        (key_at entry.event past entry.who) ++ ms) a.moves;
    tick = ap (λ (n : ℕ). moment_by (sort_of entry.event) n) a.tick;
    stop = ap (λ (n : ℕ). if is_stop entry.event then Some n else stop_in alike) a.count
        ∙ ap (λ (o : Option ℕ). if is_stop entry.event then Some (length past) else o) a.stop;
    count = ap suc a.count;
    weighs = ap (λ (n : ℕ). weight entry.event + n) a.weighs;
  }

-- ---- whole histories

-- the same history by seats with other numbers
pub reseated_alike : (seat : ℕ → ℕ) → IsInjective seat → (past : Past)
    → IsAlikeBy seat (reseated seat past) past
reseated_alike seat apart [] = record {
  opens = λ peer. refl;
  seats = λ who. refl;
  moves = refl;
  tick = refl;
  stop = refl;
  count = refl;
  weighs = refl;
}
reseated_alike seat apart (entry ∷ past) =
    alike_more seat apart entry (reseated seat past) past (reseated_alike seat apart past)

-- the same entries behind both
pub alike_behind : (later alike past : Past) → IsAlike alike past
    → IsAlike (later ++ alike) (later ++ past)
alike_behind [] alike past a = a
alike_behind (entry ∷ later) alike past a =
    alike_more (λ who. who) (λ one other same. same) entry (later ++ alike) (later ++ past)
    (alike_behind later alike past a)

-- ---- what is answered

-- why an event is refused, by what of a history bears on it
abbrev refused_by : Setup → EventKind → Option ℕ → Option Key → ℕ → ℕ → Option StepFault
refused_by setup event stop found last weighs = first_refusal
    ((if is_close event then None else option_map (λ place. Stopped place) stop)
    ∷ seat_refusal found event ∷ name_refusal setup.centre event
    ∷ clock_refusal_by last (sort_of event)
    ∷ (if not (is_ending event) && nat_lt setup.limit (weighs + weight event)
    then Some (HistoryFull (weighs + weight event) setup.limit) else None) ∷ [])

module _ (setup : Setup) (alike past : Past) (who : ℕ) (event : EventKind)
    (a : IsAlike alike past) where
  refusal_alike : refusal_of setup alike who event ≡ refusal_of setup past who event
  refusal_alike =
      ap (λ (o : Option ℕ). refused_by setup event o (association_in alike who) (last_tick alike)
      (weight_of alike)) a.stop
      ∙ ap (λ (o : Option Key). refused_by setup event (stop_in past) o (last_tick alike)
      (weight_of alike)) (a.seats who)
      ∙ ap (λ (n : ℕ). refused_by setup event (stop_in past) (association_in past who) n
      (weight_of alike)) a.tick
      ∙ ap (λ (n : ℕ). refused_by setup event (stop_in past) (association_in past who)
      (last_tick past) n) a.weighs

  seen_alike : (key : Key) (sort : EventSort)
      → answer_to (own_tables setup.centre key.peer)
      (view_by setup.centre (own_tables setup.centre) key.peer (moves_in alike)) key sort
      ≡ answer_to (own_tables setup.centre key.peer)
      (view_by setup.centre (own_tables setup.centre) key.peer (moves_in past)) key sort
  seen_alike key sort = ap (λ (ms : List Move). answer_to (own_tables setup.centre key.peer)
      (view_by setup.centre (own_tables setup.centre) key.peer ms) key sort) a.moves

  answered_alike : (sort : EventSort) (found : Option Key)
      → answer_at setup.centre alike sort found ≡ answer_at setup.centre past sort found
  answered_alike taking_orders found = ap (λ (ms : List Move).
      Orders (orders_left setup.centre (own_tables setup.centre) ms)) a.moves
  answered_alike (opening peer) None = refl
  answered_alike (requesting call) None = refl
  answered_alike taking None = refl
  answered_alike closing None = refl
  answered_alike (feeding move) None = refl
  answered_alike (opening peer) (Some key) = seen_alike key (opening peer)
  answered_alike (requesting call) (Some key) = seen_alike key (requesting call)
  answered_alike taking (Some key) = seen_alike key taking
  answered_alike closing (Some key) = seen_alike key closing
  answered_alike (feeding move) (Some key) = seen_alike key (feeding move)

  answer_alike : answer_of setup alike who event ≡ answer_of setup past who event
  answer_alike =
      ap (λ (o : Option Key). answer_at setup.centre alike (sort_of event) o)
      (ap (λ (o : Option Key). key_by (sort_of event) alike o) (a.seats who)
      ∙ key_alike alike past a.opens (sort_of event) (association_in past who))
      ∙ answered_alike (sort_of event) (key_at event past who)

  pub right_alike : (outcome : Result Answer StepFault)
      → IsRightOutcome setup past who event outcome → IsRightOutcome setup alike who event outcome
  right_alike (Ok answer) r = (refusal_alike ∙ r.0, r.1 ∙ sym answer_alike)
  right_alike (Err fault) r =
      subst (λ (o : Option StepFault). IsRefusal event o fault) (sym refusal_alike) r
