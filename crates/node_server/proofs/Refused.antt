-- Why a tick and a stop may be refused.
use Rattle.std.proofs.Common.{◌≡◌, ℕ, ◌≤◌, Bool, true, false, [], ◌∷◌, refl}
use Rattle.std.proofs.Common.{subst, Option, Some, None, Result, Ok, Err}
use Rattle.std.specs.Prelude.{nat_le, if◌then◌else◌, option_map}
use Rattle.std.proofs.lemmas.Bool.{leb-true}
use Rattle.sbo_device.specs.declared.device.TheConstants.{MOMENT_LIMIT}
use Rattle.tase_views.specs.declared.event.EventKind.TheVariants.{Tick, Stop}
use Rattle.tase_views.specs.declared.fault.StepFault.{StepFault}
use Rattle.tase_views.specs.declared.fault.StepFault.TheVariants.{Memory, Stopped, HistoryFull}
use Rattle.tase_views.specs.declared.fault.StepFault.TheVariants.{NoAssociation, Already}
use Rattle.tase_views.specs.declared.fault.StepFault.TheVariants.{UnknownName, ClockRange, Backward}
use Rattle.tase_views.specs.declared.reply.Answer.{Answer}
use Rattle.tase_views.specs.Setup.{Setup}
use Rattle.tase_views.specs.History.{Past, last_tick, stop_in}
use Rattle.tase_views.specs.Outcomes.{refusal_of, first_refusal, IsRefusal, IsRightOutcome}
use Rattle.tase_views.specs.Outcomes.{weight_refusal, clock_refusal}
use Rattle.node_server.specs.NodeCalls.{IsStopOutcome}

-- why a tick to this moment may be refused behind the past
abbrev pub MayRefuseTick : Past → ℕ → StepFault → Type 0
MayRefuseTick past now Memory = Unit {0}
MayRefuseTick past now (Stopped place) = Unit {0}
MayRefuseTick past now (HistoryFull weight limit) = Unit {0}
MayRefuseTick past now NoAssociation = ⊥
MayRefuseTick past now Already = ⊥
MayRefuseTick past now UnknownName = ⊥
MayRefuseTick past now ClockRange = MOMENT_LIMIT ≤ now
MayRefuseTick past now (Backward last) = now ≤ last_tick past

some_same : {X : Type 0} (a b : X) → Some a ≡ Some b → a ≡ b
some_same a b e = cc

module _ (setup : Setup) (past : Past) (who : ℕ) where
  refused : (now : ℕ) (fault : StepFault)
      → refusal_of setup past who (Tick now) ≡ Some fault → MayRefuseTick past now fault
  refused now fault is = by (stop_in past) is
    where
      weighed : (b : Bool) (heavy : ℕ)
          → first_refusal ((if b then Some (HistoryFull heavy setup.limit) else None) ∷ [])
          ≡ Some fault → MayRefuseTick past now fault
      weighed true heavy e = subst (MayRefuseTick past now)
          (some_same (HistoryFull heavy setup.limit) fault e) tt
      weighed false heavy e = absurd cc

      timed : (b : Bool) → nat_le now (last_tick past) ≡ b
          → first_refusal ((if b then Some (Backward (last_tick past)) else None)
          ∷ weight_refusal setup past (Tick now) ∷ []) ≡ Some fault
          → MayRefuseTick past now fault
      timed true late e = subst (MayRefuseTick past now)
          (some_same (Backward (last_tick past)) fault e) (leb-true _ _ late)
      timed false late e = weighed _ _ e

      ranged : (b : Bool) → nat_le MOMENT_LIMIT now ≡ b
          → first_refusal ((if b then Some ClockRange else (if nat_le now (last_tick past) then Some
          (Backward (last_tick past)) else None)) ∷ weight_refusal setup past (Tick now) ∷ [])
          ≡ Some fault → MayRefuseTick past now fault
      ranged true large e = subst (MayRefuseTick past now) (some_same ClockRange fault e)
          (leb-true _ _ large)
      ranged false within e = timed (nat_le now (last_tick past)) refl e

      by : (s : Option ℕ)
          → first_refusal (option_map (λ place. Stopped place) s ∷ None ∷ None
          ∷ clock_refusal past (Tick now) ∷ weight_refusal setup past (Tick now) ∷ []) ≡ Some fault
          → MayRefuseTick past now fault
      by None e = ranged (nat_le MOMENT_LIMIT now) refl e
      by (Some place) e = subst (MayRefuseTick past now) (some_same (Stopped place) fault e) tt

  pub tick-refused : (now : ℕ) (fault : StepFault)
      → IsRefusal (Tick now) (refusal_of setup past who (Tick now)) fault
      → MayRefuseTick past now fault
  tick-refused now Memory right = tt
  tick-refused now (Stopped place) right = tt
  tick-refused now (HistoryFull weight limit) right = tt
  tick-refused now NoAssociation right = refused now NoAssociation right
  tick-refused now Already right = refused now Already right
  tick-refused now UnknownName right = refused now UnknownName right
  tick-refused now ClockRange right = refused now ClockRange right
  tick-refused now (Backward last) right = refused now (Backward last) right

  halted : (fault : StepFault) → refusal_of setup past who Stop ≡ Some fault
      → IsStopOutcome (Err fault)
  halted fault is = by (stop_in past) is
    where
      by : (s : Option ℕ)
          → first_refusal (option_map (λ place. Stopped place) s ∷ None ∷ None ∷ None ∷ None ∷ [])
          ≡ Some fault → IsStopOutcome (Err fault)
      by None e = absurd cc
      by (Some place) e = subst (λ (f : StepFault). IsStopOutcome (Err f))
          (some_same (Stopped place) fault e) tt

  -- a stop is taken, or refused for the stop that was
  pub stop-refused : (outcome : Result Answer StepFault)
      → IsRightOutcome setup past who Stop outcome → IsStopOutcome outcome
  stop-refused (Ok answer) right = tt
  stop-refused (Err Memory) right = absurd cc
  stop-refused (Err (Stopped place)) right = tt
  stop-refused (Err (HistoryFull weight limit)) right = halted (HistoryFull weight limit) right
  stop-refused (Err NoAssociation) right = halted NoAssociation right
  stop-refused (Err Already) right = halted Already right
  stop-refused (Err UnknownName) right = halted UnknownName right
  stop-refused (Err ClockRange) right = halted ClockRange right
  stop-refused (Err (Backward last)) right = halted (Backward last) right
