-- A history without its stops has the same associations and the same moment, and a node takes it.
use Rattle.std.proofs.Common.{◌≡◌, ◌==◌, ℕ, ◌+◌, Bool, true, false, not, if◌then◌else◌, [], ◌∷◌}
use Rattle.std.proofs.Common.{Option, Some, None, refl, sym, ap, ◌∙◌, arith}
use Rattle.std.proofs.lemmas.Bool.{false≢true}
use Rattle.std.proofs.lemmas.Option.{none-some}
use Rattle.bilateral.specs.Rows.{CentreRows}
use Rattle.sbo_device.specs.declared.key.Key.{Key}
use Rattle.tase_views.specs.declared.event.EventKind.{EventKind}
use Rattle.tase_views.specs.declared.fault.StepFault.{StepFault}
use Rattle.tase_views.specs.Moves.{EventSort, sort_of, opening, requesting, taking, closing}
use Rattle.tase_views.specs.Moves.{taking_orders, feeding, acts, updates, tags, ticks, asks}
use Rattle.tase_views.specs.Moves.{chooses, takes_orders, stops}
use Rattle.tase_views.specs.History.{Past, counts_opening, counts_open, opens_in, association_by}
use Rattle.tase_views.specs.History.{association_in, moment_by, last_tick, is_stopping, is_stop}
use Rattle.tase_views.specs.History.{stop_in}
use Rattle.tase_views.specs.Outcomes.{first_refusal, stop_refusal, seat_refusal, own_refusal}
use Rattle.tase_views.specs.Outcomes.{name_refusal, clock_refusal, clock_refusal_by, is_close}
use Rattle.tase_views.specs.Lived.{unweighed_refusal, IsLived}
use Rattle.tase_resume.specs.Bases.{without_stops}

-- no refusal among several

pub three_none : (a b c : Option StepFault) → first_refusal (a ∷ b ∷ c ∷ []) ≡ None
    → (a ≡ None) × (b ≡ None) × (c ≡ None)
three_none (Some fault) b c e = absurd (none-some fault (sym e))
three_none None (Some fault) c e = absurd (none-some fault (sym e))
three_none None None (Some fault) e = absurd (none-some fault (sym e))
three_none None None None e = (refl, refl, refl)

pub two_none : (a b : Option StepFault) → first_refusal (a ∷ b ∷ []) ≡ None
    → (a ≡ None) × (b ≡ None)
two_none (Some fault) b e = absurd (none-some fault (sym e))
two_none None (Some fault) e = absurd (none-some fault (sym e))
two_none None None e = (refl, refl)

pub stop_is : (sort : EventSort) → is_stopping sort ≡ true → sort ≡ feeding stops
stop_is (opening peer) e = absurd (false≢true e)
stop_is (requesting call) e = absurd (false≢true e)
stop_is taking e = absurd (false≢true e)
stop_is closing e = absurd (false≢true e)
stop_is taking_orders e = absurd (false≢true e)
stop_is (feeding (acts key act)) e = absurd (false≢true e)
stop_is (feeding (updates point value)) e = absurd (false≢true e)
stop_is (feeding (tags device tag)) e = absurd (false≢true e)
stop_is (feeding (ticks now)) e = absurd (false≢true e)
stop_is (feeding (asks peer slot)) e = absurd (false≢true e)
stop_is (feeding (chooses peer variant)) e = absurd (false≢true e)
stop_is (feeding takes_orders) e = absurd (false≢true e)
stop_is (feeding stops) e = refl

pub calm_opens : (past : Past) (peer : ℕ) → opens_in (without_stops past) peer ≡ opens_in past peer
calm_opens [] peer = refl
calm_opens (entry ∷ past) peer = by (is_stop entry.event) refl (calm_opens past peer)
  where
    by : (b : Bool) → is_stop entry.event ≡ b
        → opens_in (without_stops past) peer ≡ opens_in past peer
        → opens_in (if not b then entry ∷ without_stops past else without_stops past) peer
        ≡ counts_open entry.event peer + opens_in past peer
    by true e rest =
        let none : counts_open entry.event peer ≡ 0 =
        ap (λ (s : EventSort). counts_opening s peer) (stop_is (sort_of entry.event) e) in
        omega (arith, none, rest)
    by false e rest = ap (λ n. counts_open entry.event peer + n) rest

-- an association behind an event hangs on how many were opened before
pub associated : (sort : EventSort) (one other : Past) (before after : Option Key)
    → ((peer : ℕ) → opens_in one peer ≡ opens_in other peer) → before ≡ after
    → association_by sort one before ≡ association_by sort other after
associated (opening peer) one other before after same e =
    ap (λ n. let key : Key = record { peer = peer; ordinal = n } in Some key) (same peer)
associated (requesting call) one other before after same e = e
associated taking one other before after same e = e
associated closing one other before after same e = refl
associated taking_orders one other before after same e = e
associated (feeding move) one other before after same e = e

either_way : (b : Bool) (x : Option Key) → x ≡ (if b then x else x)
either_way true x = refl
either_way false x = refl

pub calm_association : (past : Past) (who : ℕ)
    → association_in (without_stops past) who ≡ association_in past who
calm_association [] who = refl
calm_association (entry ∷ past) who =
    by (is_stop entry.event) refl (calm_association past who)
  where
    by : (b : Bool) → is_stop entry.event ≡ b
        → association_in (without_stops past) who ≡ association_in past who
        → association_in (if not b then entry ∷ without_stops past else without_stops past) who
        ≡ (if entry.who == who
        then association_by (sort_of entry.event) past (association_in past who)
        else association_in past who)
    by true e rest =
        rest ∙ either_way (entry.who == who) (association_in past who)
        ∙ ap (λ (s : EventSort). if entry.who == who
        then association_by s past (association_in past who) else association_in past who)
        (sym (stop_is (sort_of entry.event) e))
    by false e rest =
        rw (
          rest,
          associated (sort_of entry.event) (without_stops past) past
              (association_in past who) (association_in past who) (calm_opens past) refl,
        ) refl

pub calm_tick : (past : Past) → last_tick (without_stops past) ≡ last_tick past
calm_tick [] = refl
calm_tick (entry ∷ past) = by (is_stop entry.event) refl (calm_tick past)
  where
    by : (b : Bool) → is_stop entry.event ≡ b
        → last_tick (without_stops past) ≡ last_tick past
        → last_tick (if not b then entry ∷ without_stops past else without_stops past)
        ≡ moment_by (sort_of entry.event) (last_tick past)
    by true e rest =
        rest ∙ ap (λ (s : EventSort). moment_by s (last_tick past))
        (sym (stop_is (sort_of entry.event) e))
    by false e rest = ap (moment_by (sort_of entry.event)) rest

pub calm_stop : (past : Past) → stop_in (without_stops past) ≡ None
calm_stop [] = refl
calm_stop (entry ∷ past) = by (is_stop entry.event) refl (calm_stop past)
  where
    by : (b : Bool) → is_stop entry.event ≡ b → stop_in (without_stops past) ≡ None
        → stop_in (if not b then entry ∷ without_stops past else without_stops past) ≡ None
    by true e rest = rest
    by false e rest = rw (e, rest) refl

-- no event is refused for a stop where there is none
pub unstopped : (past : Past) (event : EventKind) → stop_in past ≡ None
    → stop_refusal past event ≡ None
unstopped past event none = rw none (by (is_close event))
  where
    by : (b : Bool)
        → (let o : Option StepFault = if b then None else None in o) ≡ None
    by true = refl
    by false = refl

pub calm_lived : (rows : CentreRows) (past : Past) → IsLived rows past
    → IsLived rows (without_stops past)
calm_lived rows [] lived = tt
calm_lived rows (entry ∷ past) lived =
    by (is_stop entry.event) refl (calm_lived rows past lived.1)
  where
    taken : unweighed_refusal rows (without_stops past) entry.who entry.event ≡ None
    taken =
        let parts = three_none (stop_refusal past entry.event)
        (own_refusal rows past entry.who entry.event) (clock_refusal past entry.event) lived.0 in
        let one = unstopped (without_stops past) entry.event (calm_stop past) in
        let two : own_refusal rows (without_stops past) entry.who entry.event ≡ None =
        ap (λ (k : Option Key). first_refusal
        (seat_refusal k entry.event ∷ name_refusal rows entry.event ∷ []))
        (calm_association past entry.who) ∙ parts.1 in
        let three : clock_refusal (without_stops past) entry.event ≡ None =
        ap (λ n. clock_refusal_by n (sort_of entry.event)) (calm_tick past) ∙ parts.2 in
        rw (one, two, three) refl

    by : (b : Bool) → is_stop entry.event ≡ b → IsLived rows (without_stops past)
        → IsLived rows (if not b then entry ∷ without_stops past else without_stops past)
    by true e rest = rest
    by false e rest = (taken, rest)
