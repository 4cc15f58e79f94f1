-- Steps of a connection, one after another.
use Rattle.std.proofs.Common.{◌≡◌, Bool, true, false, List, [], ◌∷◌, ◌++◌, Option, Some, None}
use Rattle.std.proofs.Common.{refl, sym, ap, subst, ◌∙◌, append_assoc}
use Rattle.std.specs.Prelude.{ℕ, MatchOption}
use Rattle.std.proofs.lemmas.Bool.{false≢true}
use Rattle.std.proofs.lemmas.List.{append-nil}
use Rattle.std.proofs.lemmas.Grind.{flat_map-append}
use Rattle.bilateral.specs.Rows.{CentreRows}
use Rattle.stack_assoc.specs.declared.messages.fault.StackFault.{StackFault}
use Rattle.stack_assoc.specs.declared.wire.setup.AssociationSetup.{AssociationSetup}
use Rattle.stack_assoc.specs.Arrivals.{Arrival, called}
use Rattle.stack_assoc.specs.Expectations.{setup_after}
use Rattle.stack_assoc.specs.Handing.{answer_to, answers_to}
use Rattle.tase_views.specs.declared.event.EventKind.{EventKind}
use Rattle.tase_conn.specs.Map.Inputs.{Item}
use Rattle.tase_conn.specs.Map.Turns.{Turn, turns_of}
use Rattle.tase_conn.specs.Map.Asks.{asks_behind, up_to_last}
use Rattle.tase_conn.specs.declared.stage.ConnEnd.{ConnEnd}
use Rattle.tase_conn.specs.declared.stage.Behind.{Behind}
use Rattle.tase_conn.specs.declared.stage.Behind.TheVariants as behinds
use Rattle.tase_conn.specs.declared.stage.Coming.{Coming}
use Rattle.tase_conn.specs.declared.stage.PendingEvent.TheVariants as askeds
use Rattle.tase_conn.specs.declared.stage.Progress.{Progress}
use Rattle.tase_conn.specs.declared.stage.Progress.TheVariants as progresses
use Rattle.tase_conn.specs.declared.stage.Step.TheVariants as steps
use Rattle.tase_conn.specs.Talking.{Talking, pending_of, IsResting, IsFree}
use Rattle.tase_conn.specs.Places.{ConnStandsAt, IsPlaced, Runs, GoesBy, ReadsBy, BeginsTurns}
use Rattle.tase_conn.specs.Places.{turns_held}
use Rattle.tase_conn.specs.Places.{Position, position_by, Reach, RoomBy}
use Rattle.tase_conn.specs.Wanting.{quiet_at, quiet_behind, ReadsOn, AreAllTurns, ReadsNext}
use Rattle.tase_conn.specs.Wanting.{Passes, IsIdle}
use Rattle.tase_conn.specs.Acting.{ActsOnTurns, StepsBy, HasEnded, has_more, is_left}
use Rattle.tase_conn.proofs.OfMap.AskedOn.{asks_join}
use Rattle.tase_conn.proofs.Acted.{running_idle}
use Rattle.tase_conn.proofs.LastTurns.{uncut, at_end, brought_whole}

-- ---- turns behind turns

pub quiet_join : (rows : CentreRows) (setup : AssociationSetup) (before turns more : List Turn)
    → quiet_behind rows setup before (turns ++ more)
    ≡ quiet_behind rows setup before turns ++ quiet_behind rows setup (before ++ turns) more
quiet_join rows setup before [] more =
    ap (λ (ts : List Turn). quiet_behind rows setup ts more) (sym (append-nil before))
quiet_join rows setup before (turn ∷ turns) more =
    ap (λ (os : List ℕ). quiet_at rows setup before turn ++ os)
    (quiet_join rows setup (before ++ turn ∷ []) turns more
    ∙ ap (λ (ts : List Turn). quiet_behind rows setup (before ++ turn ∷ []) turns
    ++ quiet_behind rows setup ts more) (append_assoc before (turn ∷ []) turns))
    ∙ sym (append_assoc (quiet_at rows setup before turn)
    (quiet_behind rows setup (before ++ turn ∷ []) turns)
    (quiet_behind rows setup (before ++ turn ∷ turns) more))

-- ---- steps that go on

-- it stands where it stood
pub passes_none : (rows : CentreRows) (items : List Item) (told : List Arrival) (turns : List Turn)
    (old new : Talking) → ConnStandsAt rows items told turns new → pending_of new ≡ pending_of old
    → Passes rows items told turns old new
passes_none rows items told turns old new s same =
    record {
      later = [];
      more = [];
      stands = subst (λ (ts : List Arrival). ConnStandsAt rows items ts (turns ++ []) new)
          (sym (append-nil told))
          (subst (λ (ts : List Turn). ConnStandsAt rows items told ts new) (sym (append-nil turns)) s);
      asks_are = refl;
      quiet = λ setup. refl;
      said = same ∙ sym (append-nil (pending_of old));
    }

-- one behind the other
pub passes_then : (rows : CentreRows) (items : List Item) (told : List Arrival) (turns : List Turn)
    (old now new : Talking) → (p : Passes rows items told turns old now)
    → Passes rows items (told ++ p.later) (turns ++ p.more) now new
    → Passes rows items told turns old new
passes_then rows items told turns old now new p q =
    record {
      later = p.later ++ q.later;
      more = p.more ++ q.more;
      stands = subst (λ (ts : List Arrival). ConnStandsAt rows items ts (turns ++ (p.more ++ q.more)) new)
          (append_assoc told p.later q.later)
          (subst (λ (ts : List Turn). ConnStandsAt rows items ((told ++ p.later) ++ q.later) ts new)
          (append_assoc turns p.more q.more) q.stands);
      asks_are = asks_join rows turns p.more q.more
          ∙ ap (λ (es : List EventKind). es ++ asks_behind rows (turns ++ p.more) q.more) p.asks_are
          ∙ q.asks_are;
      quiet = λ setup. quiet_join rows setup turns p.more q.more
          ∙ ap (λ (os : List ℕ). os ++ quiet_behind rows setup (turns ++ p.more) q.more)
          (p.quiet setup) ∙ q.quiet setup;
      said = q.said ∙ ap (λ (os : List ℕ). os ++ answers_to called q.later) p.said
          ∙ append_assoc (pending_of old) (answers_to called p.later) (answers_to called q.later)
          ∙ ap (λ (os : List ℕ). pending_of old ++ os)
          (sym (flat_map-append (answer_to called) p.later q.later));
    }

-- and then what acts on what was read
pub acts_then : (rows : CentreRows) (items : List Item) (told : List Arrival) (turns : List Turn)
    (asked : List EventKind) (old now new : Talking) → (p : Passes rows items told turns old now)
    → ActsOnTurns rows items (told ++ p.later) (turns ++ p.more) asked now new
    → ReadsOn rows items told turns asked old new
acts_then rows items told turns asked old now new p a =
    let setup = setup_after (told ++ p.later) in
    record {
      later = p.later;
      more = p.more ++ a.more;
      stands = subst (λ (ts : List Turn). ConnStandsAt rows items (told ++ p.later) ts new)
          (append_assoc turns p.more a.more) a.stands;
      asks_are = asks_join rows turns p.more a.more
          ∙ ap (λ (es : List EventKind). es ++ asks_behind rows (turns ++ p.more) a.more) p.asks_are
          ∙ a.asks_are;
      said = a.said
          ∙ ap (λ (os : List ℕ). os ++ quiet_behind rows setup (turns ++ p.more) a.more) p.said
          ∙ append_assoc (pending_of old) (answers_to called p.later)
          (quiet_behind rows setup (turns ++ p.more) a.more)
          ∙ ap (λ (os : List ℕ). pending_of old ++ (answers_to called p.later ++ os))
          (sym (quiet_join rows setup turns p.more a.more
          ∙ ap (λ (os : List ℕ). os ++ quiet_behind rows setup (turns ++ p.more) a.more)
          (p.quiet setup)));
    }

pub reads_event : (rows : CentreRows) (items : List Item) (told : List Arrival) (turns : List Turn)
    (event : EventKind) (old now new : Talking) → (p : Passes rows items told turns old now)
    → StepsBy rows items (told ++ p.later) (turns ++ p.more) (steps.Asks event) now new
    → ReadsNext rows items told turns (Some event) old new
reads_event rows items told turns event old now new p s =
    (s.0, acts_then rows items told turns (event ∷ []) old now new p s.1)

-- ---- nothing is left

ended_resting : (rows : CentreRows) (items : List Item) (told : List Arrival) (turns : List Turn)
    (p : Progress) (v : Talking) → v.progress ≡ p → HasEnded p
    → GoesBy p rows items told turns v → IsResting v × AreAllTurns rows items turns v.progress
ended_resting rows items told turns (progresses.Ended end) v e h g = (
  record {
    read = g.1.read;
    acted = g.1.acted;
    free = subst (λ (p : Progress). IsFree p) (sym e) tt;
  },
  subst (λ (p : Progress). AreAllTurns rows items turns p) (sym e)
      (brought_whole rows items turns end (at_end rows items told turns end g.0)),
)
ended_resting rows items told turns (progresses.Cut end) v e h g = absurd h
ended_resting rows items told turns (progresses.Running asked) v e h g = absurd h
ended_resting rows items told turns progresses.Refused v e h g = absurd h
ended_resting rows items told turns (progresses.Leaving end asked) v e h g = absurd h

-- it has ended
pub reads_end : (rows : CentreRows) (items : List Item) (told : List Arrival) (turns : List Turn)
    (old now new : Talking) → (p : Passes rows items told turns old now)
    → StepsBy rows items (told ++ p.later) (turns ++ p.more) steps.Ends now new
    → ReadsNext rows items told turns None old new
reads_end rows items told turns old now new p s =
    let g = acts_then rows items told turns [] old now new p s.1 in
    let e = ended_resting rows items (told ++ g.later) (turns ++ g.more) new.progress new refl s.0
    g.stands.goes in
    record { goes = g; resting = e.0; whole = e.1 }

nothing_left : (held : Option Coming) (behind : Behind) → is_left held behind ≡ false
    → (held ≡ None) × (behind ≡ behinds.Nothing)
nothing_left None behinds.Nothing e = (refl, refl)
nothing_left None behinds.Pause e = absurd (false≢true (sym e))
nothing_left None behinds.End e = absurd (false≢true (sym e))
nothing_left (Some coming) behind e = absurd (false≢true (sym e))

-- all that was read is told by the items
all_seen : (rows : CentreRows) (items : List Item) (told : List Arrival) (turns : List Turn)
    (v : Talking) → v.held ≡ None → v.behind ≡ behinds.Nothing
    → Runs rows items told turns askeds.Nothing v → turns ≡ turns_of items
all_seen rows items told turns v held behind r =
    let clear : v.course.fault ≡ None =
    ap (λ (p : Position). p.fault) r.at
    ∙ ap (λ (h : Option Coming). (position_by v.stage askeds.Nothing h).fault) held in
    let P : Option StackFault → Type 0 = λ f. MatchOption f
    (ReadsBy v.behind items told (turns ++ turns_held v.held) v)
    (λ fault. BeginsTurns (turns ++ turns_held v.held) (turns_of items)) in
    let d = subst (λ (b : Behind). ReadsBy b items told (turns ++ turns_held v.held) v) behind
    (subst P clear r.reads) in
    sym (append-nil turns) ∙ ap (λ (h : Option Coming). turns ++ turns_held h) (sym held)
    ∙ d.seen_is

-- all was acted on
pub reads_all : (rows : CentreRows) (items : List Item) (told : List Arrival) (turns : List Turn)
    (old new : Talking) → Passes rows items told turns old new → IsIdle new.progress
    → has_more new ≡ false → ReadsNext rows items told turns None old new
reads_all rows items told turns old new p idle none =
    let n = nothing_left new.held new.behind none in
    let r = running_idle rows items (told ++ p.later) (turns ++ p.more) new idle p.stands in
    let seen = all_seen rows items (told ++ p.later) (turns ++ p.more) new n.0 n.1 r in
    let setup = setup_after (told ++ p.later) in
    record {
      goes = record {
        later = p.later;
        more = p.more;
        stands = p.stands;
        asks_are = p.asks_are;
        said = p.said ∙ ap (λ (os : List ℕ). pending_of old ++ os)
            (sym (append-nil (answers_to called p.later))
            ∙ ap (λ (os : List ℕ). answers_to called p.later ++ os) (sym (p.quiet setup)));
      };
      resting = record {
        read = n.1;
        acted = n.0;
        free = subst (λ (x : Progress). IsFree x) (sym idle) tt;
      };
      whole = subst (λ (x : Progress). AreAllTurns rows items (turns ++ p.more) x) (sym idle)
          (ap (λ (ts : List Turn). up_to_last rows ts) (sym seen)
          ∙ uncut rows (turns ++ p.more) (ap (λ (x : Reach). x.ending) r.reached));
    }

-- ---- it was left

pub stands_closing : (rows : CentreRows) (items : List Item) (told : List Arrival)
    (turns : List Turn) (end : ConnEnd) (asked : Bool) (v : Talking)
    → v.progress ≡ progresses.Leaving end asked → ConnStandsAt rows items told turns v
    → ConnStandsAt rows items told turns (record v { progress = progresses.Leaving end true })
stands_closing rows items told turns end asked v e s =
    let room = subst (λ (p : Progress). RoomBy p v) e s.room in
    record {
      rows_are = s.rows_are;
      peer = s.peer;
      goes = subst (λ (p : Progress). GoesBy p rows items told turns v) e s.goes;
      room = record { room = room.room; unsaid = room.unsaid };
    }

-- ---- it stands somewhere

pub placed_then : (rows : CentreRows) (items : List Item) (told : List Arrival) (turns : List Turn)
    (old new : Talking) → Passes rows items told turns old new → IsPlaced new
placed_then rows items told turns old new p = record {
  rows = rows;
  items = items;
  told = told ++ p.later;
  turns = turns ++ p.more;
  stands = p.stands;
}
