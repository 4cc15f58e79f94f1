-- What a connection wants, and what it says on the way.
use Rattle.std.proofs.Common.{◌≡◌, ℕ, Bool, List, [], ◌++◌, Option, Some, None, refl, sym, ap, subst}
use Rattle.std.proofs.Common.{inl, ◌∙◌}
use Rattle.std.proofs.lemmas.List.{append-nil}
use Rattle.stack_assoc.specs.Arrivals.{Arrival}
use Rattle.bilateral.specs.Rows.{CentreRows}
use Rattle.tase_views.specs.Setup.{Setup}
use Rattle.tase_views.specs.History.{Past}
use Rattle.tase_views.specs.declared.event.EventKind.{EventKind}
use Rattle.tase_conn.specs.Map.Inputs.{Item}
use Rattle.tase_conn.specs.Map.Turns.{Turn}
use Rattle.tase_conn.specs.declared.stage.PendingEvent.TheVariants as askeds
use Rattle.tase_conn.specs.declared.stage.Progress.{Progress}
use Rattle.tase_conn.specs.declared.stage.Progress.TheVariants as progresses
use Rattle.tase_conn.specs.Talking.{Talking, pending_of, IsResting, IsFree}
use Rattle.tase_conn.specs.Places.{ConnStandsAt, GoesBy, IsReadToEnd, ReadsNoMore}
use Rattle.tase_conn.specs.Wanting.{WantsBy, WantsSo}
use Rattle.conn_service.specs.Courses.Serving.{Serves, IsWaiting}
use Rattle.conn_service.proofs.OfCourses.Ended.{wants_on}
use Rattle.conn_service.specs.Attending.{IsWanted, AnswersEvent}

-- what is said on the way to what is wanted
wanted_by : (p : Progress) (rows : CentreRows) (items : List Item) (told : List Arrival)
    (turns : List Turn) (event : Option EventKind) (old new : Talking) → IsWaiting p None
    → WantsBy p rows items told turns event old new
    → (more : List ℕ) × (pending_of new ≡ pending_of old ++ more)
wanted_by (progresses.Running askeds.Nothing) rows items told turns None old new w r =
    (_, r.goes.said)
wanted_by (progresses.Running askeds.Nothing) rows items told turns (Some event) old new w r =
    (_, r.1.said)
wanted_by (progresses.Running (askeds.Opening peer granted)) rows items told turns event old new w
    r = absurd w
wanted_by (progresses.Running (askeds.Requesting invoke)) rows items told turns event old new w r =
    absurd w
wanted_by (progresses.Running askeds.Taking) rows items told turns event old new w r = absurd w
wanted_by (progresses.Running (askeds.Closing cause)) rows items told turns event old new w r =
    absurd w
wanted_by progresses.Refused rows items told turns event old new w r = absurd w
wanted_by (progresses.Leaving end asked) rows items told turns event old new w r = absurd w
wanted_by (progresses.Ended end) rows items told turns event old new w r =
    ([], ap (λ (v : Talking). pending_of v) r.is ∙ sym (append-nil (pending_of old)))
wanted_by (progresses.Cut end) rows items told turns event old new w r = absurd w

none_rests : (p : Progress) (rows : CentreRows) (items : List Item) (told : List Arrival)
    (turns : List Turn) (old new : Talking) → old.progress ≡ p → IsWaiting p None
    → ConnStandsAt rows items told turns old → WantsBy p rows items told turns None old new
    → IsResting new
none_rests (progresses.Running askeds.Nothing) rows items told turns old new e w s r = r.resting
none_rests (progresses.Running (askeds.Opening peer granted)) rows items told turns old new e w s
    r = absurd w
none_rests (progresses.Running (askeds.Requesting invoke)) rows items told turns old new e w s r =
    absurd w
none_rests (progresses.Running askeds.Taking) rows items told turns old new e w s r = absurd w
none_rests (progresses.Running (askeds.Closing cause)) rows items told turns old new e w s r =
    absurd w
none_rests progresses.Refused rows items told turns old new e w s r = absurd w
none_rests (progresses.Leaving end asked) rows items told turns old new e w s r = absurd w
none_rests (progresses.Ended end) rows items told turns old new e w s r =
    let g : IsReadToEnd rows items told turns end × ReadsNoMore old =
    subst (λ (x : Progress). GoesBy x rows items told turns old) e s.goes in
    subst (λ (v : Talking). IsResting v) (sym r.is) (record {
      read = g.1.read;
      acted = g.1.acted;
      free = subst (λ (x : Progress). IsFree x) (sym e) tt;
    })
none_rests (progresses.Cut end) rows items told turns old new e w s r = absurd w

-- whatever its link gave

abbrev pub WantedSo : Setup → Past → ℕ → Talking → Option EventKind → Past → Talking → Type 0
WantedSo setup past who old event after new = (items : List Item) (said : List ℕ)
    → Serves setup.centre past who items said None old
    → IsWanted setup past who items said old event after new

abbrev pub AnswersSo : Setup → Past → ℕ → EventKind → Talking → Bool → Past → Talking → Type 0
AnswersSo setup past who event old result after new = (items : List Item) (said : List ℕ)
    → Serves setup.centre past who items said (Some event) old
    → AnswersEvent setup past who items said event old result after new

-- an event
pub wants_event : (setup : Setup) (past : Past) (who : ℕ) (items : List Item) (said : List ℕ)
    (event : EventKind) (old new : Talking) → new.stage ≡ old.stage → WantsSo (Some event) old new
    → Serves setup.centre past who items said None old
    → IsWanted setup past who items said old (Some event) past new
wants_event setup past who items said event old new stage wants s =
    let rows = setup.centre in
    let w = wants rows items s.told s.turns s.stands in
    let m = wanted_by old.progress rows items s.told s.turns (Some event) old new s.waits w in (
      refl,
      record { added = m.0; pending = m.1 },
      wants_on rows past who items said m.0 (Some event) old new s stage w m.1,
    )

-- or none
pub wants_none : (setup : Setup) (past : Past) (who : ℕ) (items : List Item) (said : List ℕ)
    (old new : Talking) → new.stage ≡ old.stage → WantsSo None old new
    → Serves setup.centre past who items said None old
    → IsWanted setup past who items said old None past new
wants_none setup past who items said old new stage wants s =
    let rows = setup.centre in
    let w = wants rows items s.told s.turns s.stands in
    let m = wanted_by old.progress rows items s.told s.turns None old new s.waits w in
    inl (record {
      after_is = refl;
      adds = record { added = m.0; pending = m.1 };
      serves = wants_on rows past who items said m.0 None old new s stage w m.1;
      resting = none_rests old.progress rows items s.told s.turns old new refl s.waits s.stands w;
    })

-- by what was found
pub wants_found : (setup : Setup) (past : Past) (who : ℕ) (items : List Item) (said : List ℕ)
    (event : Option EventKind) (old new : Talking) → new.stage ≡ old.stage → WantsSo event old new
    → Serves setup.centre past who items said None old
    → IsWanted setup past who items said old event past new
wants_found setup past who items said None old new stage wants s =
    wants_none setup past who items said old new stage wants s
wants_found setup past who items said (Some event) old new stage wants s =
    wants_event setup past who items said event old new stage wants s
