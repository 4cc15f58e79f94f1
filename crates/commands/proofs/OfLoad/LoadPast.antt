-- What the history of a load run keeps, and that no event of its scenario is refused.
use Rattle.std.proofs.Common.{◌≡◌, ◌≢◌, ℕ, ◌+◌, ◌<◌, ◌≤◌, Bool, true, false, not, ◌&&◌}
use Rattle.std.proofs.Common.{cond, eqb, leb, [], ◌∷◌, length, Option, Some, None}
use Rattle.std.proofs.Common.{is_some, pos}
use Rattle.std.proofs.Common.{refl, ap, ◌∙◌, inl, inr, arith}
use Rattle.std.specs.Prelude.{nat_lt, option_map}
use Rattle.std.proofs.lemmas.Bool.{cases_Bool, cond-false, lt-ltb, le-ltb, lt-leb}
use Rattle.std.proofs.lemmas.Bool.{eqb-false, ne_eqb, false≢true, and_right}
use Rattle.tase_points.specs.declared.body.Body.TheVariants.{Discrete}
use Rattle.tase_points.specs.Points.{kind_of}
use Rattle.tase_points.specs.Same.{same_kind}
use Rattle.tase_points.specs.Sample.{Sample}
use Rattle.bilateral.specs.declared.rows.PointRow.{PointRow}
use Rattle.bilateral.specs.Rows.{CentreRows, point_of, no_point}
use Rattle.sbo_device.specs.declared.device.TheConstants.{MOMENT_LIMIT}
use Rattle.sbo_device.specs.declared.key.Key.{Key}
use Rattle.tase_views.specs.declared.call.CallKind.{CallKind}
use Rattle.tase_views.specs.declared.event.Entry.{Entry}
use Rattle.tase_views.specs.declared.event.EventKind.{EventKind}
use Rattle.tase_views.specs.declared.event.EventKind.TheVariants.{Open, Request, Take, Update, Tick}
use Rattle.tase_views.specs.declared.fault.StepFault.{StepFault}
use Rattle.tase_views.specs.declared.fault.StepFault.TheVariants.{Stopped, HistoryFull}
use Rattle.tase_views.specs.declared.fault.StepFault.TheVariants.{NoAssociation, Already}
use Rattle.tase_views.specs.declared.fault.StepFault.TheVariants.{UnknownName, ClockRange, Backward}
use Rattle.tase_views.specs.Setup.{Setup}
use Rattle.tase_views.specs.History.{Past, association_in, association_by, next_key, last_tick}
use Rattle.tase_views.specs.History.{stop_in}
use Rattle.tase_views.specs.Moves.{sort_of}
use Rattle.tase_views.specs.Weights.{weight, weight_of}
use Rattle.tase_views.specs.Outcomes.{first_refusal, refusal_of, is_ending, weight_refusal}
use Rattle.commands.specs.declared.load.tables.TheConstants.{POINTS, PEERS}
use Rattle.commands.specs.Load.Rows.{load_point_row, load_table, load_rows}
use Rattle.commands.proofs.OfLoad.LoadRows.{list_below-at, length-list_below}

-- the value of the points of a round
abbrev pub value_of_round : ℕ → Sample
value_of_round r = record { body = Discrete (pos r); flags = 0; seconds = r; millis = 0 }

-- the scenario's events are of seat 0, or of seats of which so many have an association; so late is
-- the last tick, and no more the history weighs
pub record IsAt (opened now most : ℕ) (past : Past) : Type 0 where
  pub seated : (w : ℕ) → 1 ≤ w → w ≤ opened → is_some (association_in past w) ≡ true
  pub unseated : (w : ℕ) → opened < w → association_in past w ≡ None
  pub clock : last_tick past ≡ now
  pub unstopped : stop_in past ≡ None
  pub light : weight_of past ≤ most

pub at_first : IsAt 0 0 0 []
at_first = record {
  seated = λ w some few. absurd (omega (arith, some, few));
  unseated = λ w some. refl;
  clock = refl;
  unstopped = refl;
  light = omega arith;
}

pub at_more : (opened now most more : ℕ) (past : Past) → most ≤ more → IsAt opened now most past
    → IsAt opened now more past
at_more opened now most more past few at = record {
  seated = at.seated;
  unseated = at.unseated;
  clock = at.clock;
  unstopped = at.unstopped;
  light = omega (arith, few, at.light);
}

-- ---- the history behind an event

same_cond : {A : Type 0} (test : Bool) (a : A) → cond test a a ≡ a
same_cond true a = refl
same_cond false a = refl

opened_here : (test : Bool) (key : Key) (before : Option Key) → test ≡ true
    → is_some (cond test (Some key) before) ≡ true
opened_here true key before is = refl
opened_here false key before is = absurd (false≢true is)

opened_other : (test : Bool) (key : Key) (before : Option Key) → is_some before ≡ true
    → is_some (cond test (Some key) before) ≡ true
opened_other true key before is = refl
opened_other false key before is = is

before_open : (k w : ℕ) → w ≤ k + 1 → eqb (k + 1) w ≡ false → w ≤ k
before_open k w few other =
    let apart : k + 1 ≢ w = eqb-false (k + 1) w other in omega (arith, few, apart)

at_open : (k now most more : ℕ) (past : Past) → most + weight (Open k) ≤ more
    → IsAt k now most past → IsAt (k + 1) now more (record { who = k + 1; event = Open k } ∷ past)
at_open k now most more past few at = record {
  seated = λ w some few.
      elim (cases_Bool (eqb (k + 1) w)) [
        | inl here ↦ opened_here (eqb (k + 1) w) (next_key past k) (association_in past w) here
        | inr other ↦ opened_other (eqb (k + 1) w) (next_key past k) (association_in past w)
            (at.seated w some (before_open k w few other))
      ];
  unseated = λ w beyond.
      cond-false (eqb (k + 1) w) (Some (next_key past k)) (association_in past w)
      (ne_eqb (k + 1) w (λ same. omega (arith, beyond, same)))
      ∙ at.unseated w (omega (arith, beyond));
  clock = at.clock;
  unstopped = at.unstopped;
  light = omega (arith, few, at.light);
}

-- the associations stay behind an entry that neither opens nor closes one
stays : (entry : Entry) (past : Past) (w : ℕ)
    → association_by (sort_of entry.event) past (association_in past w) ≡ association_in past w
    → association_in (entry ∷ past) w ≡ association_in past w
stays entry past w same =
    ap (λ found. cond (eqb entry.who w) found (association_in past w)) same
    ∙ same_cond (eqb entry.who w) (association_in past w)

at_stays : (opened now most later more : ℕ) (entry : Entry) (past : Past)
    → ((w : ℕ) → association_by (sort_of entry.event) past (association_in past w)
    ≡ association_in past w)
    → last_tick (entry ∷ past) ≡ later → stop_in (entry ∷ past) ≡ stop_in past
    → most + weight entry.event ≤ more → IsAt opened now most past
    → IsAt opened later more (entry ∷ past)
at_stays opened now most later more entry past same clock unstopped few at = record {
  seated = λ w some within. ap is_some (stays entry past w (same w)) ∙ at.seated w some within;
  unseated = λ w beyond. stays entry past w (same w) ∙ at.unseated w beyond;
  clock = clock;
  unstopped = unstopped ∙ at.unstopped;
  light = omega (arith, few, at.light);
}

-- ---- no refusals

none_refused : (stop seat name clock weight : Option StepFault) → stop ≡ None → seat ≡ None
    → name ≡ None → clock ≡ None → weight ≡ None
    → first_refusal (stop ∷ seat ∷ name ∷ clock ∷ weight ∷ []) ≡ None
none_refused stop seat name clock weight a b c d e = rw (a, b, c, d, e) refl

abbrev unless_named : Bool → Option StepFault
unless_named there = cond there None (Some UnknownName)

abbrev unless_seated : Bool → Option StepFault
unless_seated seated = cond seated None (Some NoAssociation)

-- an event of a seat is taken, and the history behind it is so
pub record IsTaken (setup : Setup) (past : Past) (entry : Entry) (opened now most : ℕ) : Type 0
  where
    pub taken : refusal_of setup past entry.who entry.event ≡ None
    pub behind : IsAt opened now most (entry ∷ past)

-- a setup of the load run's centre, and a history behind whose next event it weighs no more than is
-- allowed
module _ (setup : Setup) (of_load : setup.centre ≡ load_rows) (past : Past)
    (opened now most more : ℕ) (at : IsAt opened now most past) (limit : more ≤ setup.limit) where
  light_enough : (event : EventKind) → most + weight event ≤ more
      → weight_refusal setup past event ≡ None
  light_enough event few =
      cond-false (not (is_ending event) && nat_lt setup.limit (weight_of past + weight event))
      (Some (HistoryFull (weight_of past + weight event) setup.limit)) None
      (and_right (not (is_ending event)) (nat_lt setup.limit (weight_of past + weight event))
      (le-ltb setup.limit (weight_of past + weight event) (omega (arith, few, at.light, limit))))

  no_stop : option_map Stopped (stop_in past) ≡ None
  no_stop = ap (λ stop. option_map Stopped stop) at.unstopped

  -- an open by peer k, which is the next, at the seat behind those opened
  pub open_taken : opened < PEERS → most + weight (Open opened) ≤ more
      → IsTaken setup past (record { who = opened + 1; event = Open opened }) (opened + 1) now more
  open_taken known few = record {
    taken = none_refused _ _ _ _ _ no_stop
        (ap (λ (found : Option Key). cond (is_some found) (Some Already) None)
        (at.unseated (opened + 1) (omega arith)))
        (ap (λ (rows : CentreRows). unless_named (nat_lt opened (length rows.tables))) of_load
        ∙ ap unless_named (lt-ltb opened (length load_rows.tables)
        (omega (arith, known, length-list_below load_table PEERS))))
        refl (light_enough (Open opened) few);
    behind = at_open opened now most more past few at;
  }

  -- a request and a take of a seat that has an association
  pub request_taken : (w : ℕ) (call : CallKind) → 1 ≤ w → w ≤ opened
      → most + weight (Request call) ≤ more
      → IsTaken setup past (record { who = w; event = Request call }) opened now more
  request_taken w call some within few = record {
    taken = none_refused _ _ _ _ _ no_stop (ap unless_seated (at.seated w some within)) refl refl
        (light_enough (Request call) few);
    behind = at_stays opened now most now more (record { who = w; event = Request call }) past
        (λ v. refl) at.clock refl few at;
  }

  pub take_taken : (w : ℕ) → 1 ≤ w → w ≤ opened → most + weight Take ≤ more
      → IsTaken setup past (record { who = w; event = Take }) opened now more
  take_taken w some within few = record {
    taken = none_refused _ _ _ _ _ no_stop (ap unless_seated (at.seated w some within)) refl refl
        (light_enough Take few);
    behind = at_stays opened now most now more (record { who = w; event = Take }) past
        (λ v. refl) at.clock refl few at;
  }

  -- an update of a point
  pub update_taken : (m r : ℕ) → m < POINTS → most + weight (Update m (value_of_round r)) ≤ more
      → IsTaken setup past (record { who = 0; event = Update m (value_of_round r) }) opened now more
  update_taken m r below few = record {
    taken = none_refused _ _ _ _ _ no_stop refl
        (ap (λ (rows : CentreRows). unless_named (nat_lt m (length rows.points)
        && same_kind (kind_of (value_of_round r).body) (point_of rows m).kind)) of_load
        ∙ ap (λ there. unless_named (there
        && same_kind (kind_of (value_of_round r).body) (point_of load_rows m).kind))
        (lt-ltb m (length load_rows.points)
        (omega (arith, below, length-list_below load_point_row POINTS)))
        ∙ ap (λ (row : PointRow).
        unless_named (same_kind (kind_of (value_of_round r).body) row.kind))
        (list_below-at load_point_row POINTS m no_point below))
        refl (light_enough (Update m (value_of_round r)) few);
    behind = at_stays opened now most now more
        (record { who = 0; event = Update m (value_of_round r) }) past (λ v. refl) at.clock refl few
        at;
  }

  -- a tick to a later moment
  pub tick_taken : (later : ℕ) → now < later → later < MOMENT_LIMIT
      → most + weight (Tick later) ≤ more
      → IsTaken setup past (record { who = 0; event = Tick later }) opened later more
  tick_taken later on early few = record {
    taken = none_refused _ _ _ _ _ no_stop refl refl
        (cond-false (leb MOMENT_LIMIT later) (Some ClockRange) _ (lt-leb MOMENT_LIMIT later early)
        ∙ cond-false (leb later (last_tick past)) (Some (Backward (last_tick past))) None
        (lt-leb later (last_tick past) (omega (arith, on, at.clock))))
        (light_enough (Tick later) few);
    behind = at_stays opened now most later more (record { who = 0; event = Tick later }) past
        (λ v. refl) refl refl few at;
  }
