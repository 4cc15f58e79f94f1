-- What a call leaves of an outside whose objects it opened, used and closed again.
use Rattle.std.specs.Prelude.{◌≡◌, ◌⊎◌, ℕ, zero, suc, Bool, true, false, ◌<◌, List, [], ◌∷◌, take}
use Rattle.std.specs.Prelude.{Option, bytes_eq, if◌then◌else◌}
use Rattle.std.specs.List.{list_any}
use Rattle.outside.specs.Faults.{next_count}
use Rattle.outside.specs.Source.{SourceTold}
use Rattle.outside.specs.Sink.{SinkTold, Appends}
use Rattle.outside.specs.Text.{TextResult, ReadsText}
use Rattle.outside.specs.Names.Outside.{NameEntry, untold, missing, lent, there, OutsideTold, Asks}
use Rattle.outside.specs.Names.Outside.{Acts}
use Rattle.commands.specs.declared.io.input.TheConstants.{TEXT_LIMIT, JOURNAL_LIMIT}

-- a count of faults after so many more
abbrev pub raised : ℕ → ℕ → ℕ
raised zero count = count
raised (suc more) count = next_count (raised more count)

-- a count rose by some faults, or by none
abbrev pub Grows : ℕ → ℕ → Type 0
Grows before now = (more : ℕ) × (now ≡ raised more before)

-- a count rose
abbrev pub Rises : ℕ → ℕ → Type 0
Rises before now = (more : ℕ) × (now ≡ raised (suc more) before)

-- whether a name is one of these
abbrev pub is_among : List (List ℕ) → List ℕ → Bool
is_among names name = list_any (bytes_eq name) names

-- how often a name is one of these
abbrev pub times : List (List ℕ) → List ℕ → ℕ
times [] name = zero
times (n ∷ names) name = if bytes_eq name n then suc (times names name) else times names name

-- so many steps at most, one after another
abbrev pub AtMost : {X : Type 0} → (X → X → Type 0) → ℕ → X → X → Type 0
AtMost {X} step zero before after = after ≡ before
AtMost {X} step (suc n) before after =
    (after ≡ before) ⊎ ((mid : X) × step before mid × AtMost step n mid after)

-- the octets that an input may have: those of a text, or those of a journal
abbrev pub IsLimit : ℕ → Type 0
IsLimit limit = (limit ≡ TEXT_LIMIT) ⊎ (limit ≡ JOURNAL_LIMIT)

-- all calls of a source: it was read as one input is, to its end, to a fault or past its limit
abbrev pub IsTextRead : SourceTold → SourceTold → Type 0
IsTextRead before after = (limit : ℕ) × IsLimit limit
    × ((result : TextResult) × ((octets : List ℕ) × ReadsText before after limit result octets))

-- all calls of a sink: writes of which the last alone may have failed
abbrev pub IsWritten : SinkTold → SinkTold → Type 0
IsWritten before after = (octets : List ℕ) × (failed : Bool) × Appends before after octets failed

-- a fact of some of these names
abbrev pub SomeOf : List (List ℕ) → (List ℕ → Type 0) → Type 0
SomeOf [] fact = ⊥
SomeOf (name ∷ names) fact = fact name ⊎ SomeOf names fact

-- a fact of each of these names
abbrev pub EachOf : List (List ℕ) → (List ℕ → Type 0) → Type 0
EachOf [] fact = Unit {0}
EachOf (name ∷ names) fact = fact name × EachOf names fact

module _ {X : Type 0} (faults : X → ℕ) where
  -- an object stands there again, with no fewer faults, and with no more unless the call failed
  abbrev pub StandsAgain : Bool → NameEntry X → NameEntry X → Type 0
  StandsAgain failed untold after = after ≡ untold
  StandsAgain failed missing after = after ≡ missing
  StandsAgain failed lent after = after ≡ lent
  StandsAgain failed (there x) after =
      (y : X) × (after ≡ there y) × Grows (faults x) (faults y)
      × (failed ≡ false → faults y ≡ faults x)

  -- no object is told to stand there, or the one that stands there has failed since
  abbrev pub FailedAt : NameEntry X → NameEntry X → Type 0
  FailedAt untold after = Unit {0}
  FailedAt missing after = Unit {0}
  FailedAt lent after = Unit {0}
  FailedAt (there x) after = (y : X) × (after ≡ there y) × Rises (faults x) (faults y)

  -- no object is told to stand there, or the one that stands there has a fault, however old
  abbrev pub FaultyAt : NameEntry X → NameEntry X → Type 0
  FaultyAt untold after = Unit {0}
  FaultyAt missing after = Unit {0}
  FaultyAt lent after = Unit {0}
  FaultyAt (there x) after = (y : X) × (after ≡ there y) × (0 < faults y)

  -- the object that stands there, if one does, has no fault
  abbrev pub CleanAt : NameEntry X → Type 0
  CleanAt untold = Unit {0}
  CleanAt missing = Unit {0}
  CleanAt lent = Unit {0}
  CleanAt (there x) = faults x ≡ 0

module _ {X : Type 0} (faults : X → ℕ) (step : X → X → Type 0) where
  -- what stands under other names is as before, and under these names something stands again
  pub record Keeps (failed : Bool) (names : List (List ℕ)) (before after : List ℕ → NameEntry X)
      : Type 0 where
    pub others : (name : List ℕ) → is_among names name ≡ false → after name ≡ before name
    pub again : (name : List ℕ) → StandsAgain faults failed (before name) (after name)
    -- it went through one such step at most for each time that it is named
    pub acts : (name : List ℕ) → Acts (AtMost step (times names name)) (before name) (after name)

abbrev pub source_faults : SourceTold → ℕ
source_faults source = source.faults

abbrev pub sink_faults : SinkTold → ℕ
sink_faults sink = sink.faults

-- a front part of these names was asked for
abbrev pub AsksFront : Option (List (List ℕ)) → Option (List (List ℕ)) → List (List ℕ) → Type 0
AsksFront before after names = (count : ℕ) × Asks before after (take count names)

module _ (inputs outputs : List (List ℕ)) where
  -- an object under one of the names is the reason of a failure
  abbrev pub HasReason : OutsideTold → OutsideTold → Type 0
  HasReason before after =
      SomeOf inputs (λ name. FailedAt source_faults (before.sources name) (after.sources name))
      ⊎ SomeOf outputs (λ name. FailedAt sink_faults (before.sinks name) (after.sinks name))

  -- an object under one of the names is missing or has a fault
  abbrev pub HasFaulty : OutsideTold → OutsideTold → Type 0
  HasFaulty before after =
      SomeOf inputs (λ name. FaultyAt source_faults (before.sources name) (after.sources name))
      ⊎ SomeOf outputs (λ name. FaultyAt sink_faults (before.sinks name) (after.sinks name))

  -- no object under the names has a fault
  abbrev pub IsClean : OutsideTold → Type 0
  IsClean before =
      EachOf inputs (λ name. CleanAt source_faults (before.sources name))
      × EachOf outputs (λ name. CleanAt sink_faults (before.sinks name))

  -- the faults that a call counts: `failed` says whether it answers that something outside failed
  pub record IsCounted (failed : Bool) (before after : OutsideTold) : Type 0 where
    -- a failure is answered only where the count rose
    pub cause : failed ≡ true → Rises before.faults after.faults
    -- and only where nothing stood under one of the names, or what stands there failed since
    pub reason : failed ≡ true → HasReason before after
    -- whatever is answered, the count is as before, or it rose and has its reason
    pub kept : (after.faults ≡ before.faults)
        ⊎ (Rises before.faults after.faults × HasFaulty before after)
    -- where no object had a fault before, the count rises only where a failure is answered
    pub exact : IsClean before → failed ≡ false → after.faults ≡ before.faults

  -- a call opens these names and no others, in order as far as it comes, and closes what it
  -- opened; it reads and writes each as often as that and no more
  pub record Uses (failed : Bool) (before after : OutsideTold) : Type 0 where
    pub counted : IsCounted failed before after
    pub sources : Keeps source_faults IsTextRead failed inputs before.sources after.sources
    pub sinks : Keeps sink_faults IsWritten failed outputs before.sinks after.sinks
    pub read : AsksFront before.read_names after.read_names inputs
    pub written : AsksFront before.written_names after.written_names outputs
    -- and it listens nowhere, connects to nobody and asks no clock
    pub network : after.network ≡ before.network
