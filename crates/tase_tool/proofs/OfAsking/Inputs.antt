-- The inputs of a command that then runs an asking end: why one isn't there, and what that counts.
use Rattle.std.proofs.Common.{◌≡◌, ◌≢◌, ◌⊎◌, ℕ, Bool, true, false, List, [], ◌∷◌, refl, sym, ap}
use Rattle.std.proofs.Common.{subst, inl, inr}
use Rattle.std.specs.Prelude.{Result, Ok, Err, Vec}
use Rattle.std.specs.declared.alloc.Global.{Global}
use Rattle.outside.specs.Names.Outside.{OutsideTold}
use Rattle.bilateral.specs.Rows.{CentreRows}
use Rattle.commands.specs.declared.io.status.Status.{Status}
use Rattle.commands.specs.declared.io.status.Status.TheVariants as statuses
use Rattle.commands.specs.declared.io.input.InputEnd.{InputEnd}
use Rattle.commands.specs.declared.io.input.InputEnd.TheVariants.{Refused, Outside, Memory}
use Rattle.commands.specs.Io.Statuses.{is_outside}
use Rattle.commands.specs.Io.Inputs.{ReadsInput, is_lost}
use Rattle.commands.specs.Io.OutsideUse.{CleanAt, Grows, Rises, Uses, source_faults, sink_faults}
use Rattle.commands.specs.Io.Runs.{output_name, EndsUnread}
use Rattle.commands.specs.Io.Plans.{IsValue, IsSpelled, ReadsValue}
use Rattle.commands.proofs.OfIo.Leaving.{Grows-same, Rises-after, Rises-grows}
use Rattle.commands.proofs.OfIo.Entries.{IsKept, kept_used}
use Rattle.tase_tool.specs.Asking.Ending.{finish_status}

pub input_grows : (before after : OutsideTold) (name : List ℕ) (limit : ℕ)
    (read : Result (Vec ℕ Global) InputEnd) → ReadsInput before after name limit read
    → Grows before.faults after.faults
input_grows before after name limit read reads = elim reads.opens.uses.counted.kept [
  | inl same ↦ Grows-same before.faults after.faults same
  | inr rose ↦ Rises-grows before.faults after.faults rose.0
]

pub lost : (read : Result (Vec ℕ Global) InputEnd) → read ≡ Err Outside → is_lost read ≡ true
lost read is = ap (λ (r : Result (Vec ℕ Global) InputEnd). is_lost r) is

pub value_lost : (spelled : List ℕ → Result CentreRows ℕ) (read : Result (Vec ℕ Global) InputEnd)
    (result : Result CentreRows InputEnd) → IsValue spelled read result → result ≡ Err Outside
    → is_lost read ≡ true
value_lost spelled (Ok text) result value is =
    absurd (subst (λ (r : Result CentreRows InputEnd). IsSpelled r (spelled text.items)) is value)
value_lost spelled (Err (Refused refusal)) result value is = absurd cc
value_lost spelled (Err Outside) result value is = refl
value_lost spelled (Err Memory) result value is = absurd cc

-- a command that has no input fails where that wasn't read, or where its refusal isn't printed
pub unread_rises : (called : List ℕ) (end : InputEnd) (before after : OutsideTold) (status : Status)
    → EndsUnread called end before after status → status ≡ statuses.Outside
    → ((end ≡ Outside) × (after ≡ before)) ⊎ Rises before.faults after.faults
unread_rises called (Refused refusal) before after status ends is =
    inr (ends.0.uses.counted.cause (ap is_outside is))
unread_rises called Outside before after status ends is = inl (refl, ends.1)
unread_rises called Memory before after status ends is = absurd cc

pub unread_unasked : (called : List ℕ) (end : InputEnd) (before after : OutsideTold) (status : Status)
    → EndsUnread called end before after status → status ≡ statuses.Usage → ⊥
unread_unasked called (Refused refusal) before after status ends is = elim ends.1 [
  | inl input ↦ absurd cc
  | inr outside ↦ absurd cc
]
unread_unasked called Outside before after status ends is = absurd cc
unread_unasked called Memory before after status ends is = absurd cc

-- an input that isn't there, and what the command does then
pub behind_unread : (called : List ℕ) (end : InputEnd) (b m a : OutsideTold) (status : Status)
    → Grows b.faults m.faults → (end ≡ Outside → Rises b.faults m.faults)
    → EndsUnread called end m a status → status ≡ statuses.Outside → Rises b.faults a.faults
behind_unread called end b m a status grows risen ends is =
    elim (unread_rises called end m a status ends is) [
      | inl same ↦ subst (λ (o : OutsideTold). Rises b.faults o.faults) (sym same.1) (risen same.0)
      | inr rose ↦ Rises-after b.faults m.faults a.faults grows rose
    ]

pub tables_grow : (spelled : List ℕ → Result CentreRows ℕ) (name : List ℕ) (limit : ℕ)
    (read : Result CentreRows InputEnd) (before after : OutsideTold)
    → ReadsValue spelled name limit read before after → Grows before.faults after.faults
tables_grow spelled name limit read before after reads =
    input_grows before after name limit reads.0 reads.1

pub tables_rise : (spelled : List ℕ → Result CentreRows ℕ) (name : List ℕ) (limit : ℕ)
    (read : Result CentreRows InputEnd) (before after : OutsideTold)
    → ReadsValue spelled name limit read before after → read ≡ Err Outside
    → Rises before.faults after.faults
tables_rise spelled name limit read before after reads is =
    reads.1.opens.uses.counted.cause (value_lost spelled reads.0 read reads.2 is)

pub input_kept : (b m : OutsideTold) (name : List ℕ) (limit : ℕ)
    (read : Result (Vec ℕ Global) InputEnd) → ReadsInput b m name limit read → IsKept b m
input_kept b m name limit read reads =
    kept_used (name ∷ []) [] (is_lost read) b m reads.opens.uses

pub read_unlost : (b m : OutsideTold) (name : List ℕ) (limit : ℕ)
    (read : Result (Vec ℕ Global) InputEnd) → ReadsInput b m name limit read
    → is_lost read ≡ false → Uses (name ∷ []) [] false b m
read_unlost b m name limit read reads kept =
    subst (λ (f : Bool). Uses (name ∷ []) [] f b m) kept reads.opens.uses

pub read_same : (b m : OutsideTold) (name : List ℕ) → Uses (name ∷ []) [] false b m
    → CleanAt source_faults (b.sources name) → m.faults ≡ b.faults
read_same b m name uses clean = uses.counted.exact ((clean, tt), tt) refl

pub kept_or_lost : (read : Result (Vec ℕ Global) InputEnd)
    → (is_lost read ≡ false) ⊎ (read ≡ Err Outside)
kept_or_lost (Ok text) = inl refl
kept_or_lost (Err (Refused refusal)) = inl refl
kept_or_lost (Err Outside) = inr refl
kept_or_lost (Err Memory) = inl refl

pub value_or_lost : (spelled : List ℕ → Result CentreRows ℕ) (read : Result (Vec ℕ Global) InputEnd)
    (result : Result CentreRows InputEnd) → IsValue spelled read result
    → (is_lost read ≡ false) ⊎ (result ≡ Err Outside)
value_or_lost spelled (Ok text) result value = inl refl
value_or_lost spelled (Err (Refused refusal)) result value = inl refl
value_or_lost spelled (Err Outside) result value = inr value
value_or_lost spelled (Err Memory) result value = inl refl

-- a refusal is printed
pub unread_same : (called : List ℕ) (end : InputEnd) (m a : OutsideTold) (status : Status)
    → EndsUnread called end m a status → CleanAt sink_faults (m.sinks output_name)
    → status ≢ statuses.Outside → a.faults ≡ m.faults
unread_same called (Refused refusal) m a status ends clean other =
    ends.0.uses.counted.exact (tt, (clean, tt)) (elim ends.1 [
      | inl input ↦ ap is_outside input
      | inr outside ↦ absurd (other outside)
    ])
unread_same called Outside m a status ends clean other = absurd (other ends.0)
unread_same called Memory m a status ends clean other = ap (λ (o : OutsideTold). o.faults) ends.1

-- a command that has no input doesn't come to its end
pub unread_unfinished : {A : Type 0} (called : List ℕ) (end : InputEnd) (m a : OutsideTold)
    (same : Bool) → EndsUnread called end m a (finish_status same) → A
unread_unfinished {A} called (Refused refusal) m a true ends = elim ends.1 [
  | inl input ↦ absurd (let e : statuses.Done ≡ statuses.Input = input in cc)
  | inr outside ↦ absurd (let e : statuses.Done ≡ statuses.Outside = outside in cc)
]
unread_unfinished {A} called (Refused refusal) m a false ends = elim ends.1 [
  | inl input ↦ absurd (let e : statuses.Differs ≡ statuses.Input = input in cc)
  | inr outside ↦ absurd (let e : statuses.Differs ≡ statuses.Outside = outside in cc)
]
unread_unfinished {A} called Outside m a true ends =
    absurd (let e : statuses.Done ≡ statuses.Outside = ends.0 in cc)
unread_unfinished {A} called Outside m a false ends =
    absurd (let e : statuses.Differs ≡ statuses.Outside = ends.0 in cc)
unread_unfinished {A} called Memory m a true ends =
    absurd (let e : statuses.Done ≡ statuses.Memory = ends.0 in cc)
unread_unfinished {A} called Memory m a false ends =
    absurd (let e : statuses.Differs ≡ statuses.Memory = ends.0 in cc)
