-- What a run leaves outside, one part of it after another.
use Rattle.std.proofs.Common.{◌≡◌, ◌⊎◌, ℕ, zero, suc, Bool, true, false, ◌||◌, min}
use Rattle.std.proofs.Common.{List, [], ◌∷◌, ◌++◌, length, take}
use Rattle.std.proofs.Common.{Option, Some, None, refl, sym, ◌∙◌, ap, subst, inl, inr}
use Rattle.std.proofs.Math.Nat.{min-zero, suc-min-suc, zero-min}
use Rattle.std.proofs.lemmas.List.{append-nil}
use Rattle.outside.specs.Octets.{Adds}
use Rattle.outside.specs.Sink.{SinkTold}
use Rattle.outside.specs.Names.Outside.{NameEntry, OutsideTold, Asks}
use Rattle.commands.specs.declared.io.status.Status.{Status}
use Rattle.commands.specs.declared.io.status.Status.TheVariants.{Done, Usage, Input, Outside, Full}
use Rattle.commands.specs.declared.io.status.Status.TheVariants.{Differs, Memory, Peer}
use Rattle.commands.specs.Io.Statuses.{is_outside, OnWhole}
use Rattle.commands.specs.Io.OutsideUse.{is_among, SomeOf, AsksFront, Keeps, Rises, Uses}
use Rattle.commands.specs.Io.OutsideUse.{source_faults, sink_faults, IsTextRead, IsWritten}
use Rattle.commands.specs.Io.Saying.{Said, Duty}
use Rattle.commands.specs.Io.Runs.{output_name, taken_of, Took, EachFile, IsSaid, MatchesWords}
use Rattle.commands.specs.Io.Runs.{AreOutputsThere, FilesBehind}
use Rattle.commands.specs.Io.Runs.{outputs_of, IsComplete, IsRun}
use Rattle.commands.specs.Io.Inputs.{OpensInput}
use Rattle.commands.proofs.OfIo.Leaving.{or-false, is_among-append, SomeOf-left, EachOf-parts}
use Rattle.commands.proofs.OfIo.Leaving.{Asks-none, Asks-append, Acts-wider, Uses-read}
use Rattle.commands.proofs.OfIo.Reading.{Keeps-same}

pub OnWhole-all : (status : Status) {P : Type 0} → P → OnWhole status P
OnWhole-all Done p = p
OnWhole-all Usage p = p
OnWhole-all Input p = p
OnWhole-all Full p = p
OnWhole-all Differs p = p
OnWhole-all Peer p = p
OnWhole-all Outside p = tt
OnWhole-all Memory p = tt

pub OnWhole-map : (status : Status) {P Q : Type 0} → (P → Q) → OnWhole status P → OnWhole status Q
OnWhole-map Done f h = f h
OnWhole-map Usage f h = f h
OnWhole-map Input f h = f h
OnWhole-map Full f h = f h
OnWhole-map Differs f h = f h
OnWhole-map Peer f h = f h
OnWhole-map Outside f h = tt
OnWhole-map Memory f h = tt

-- where nothing outside failed
pub IsComplete-from : (status : Status) (before now : ℕ) (said : Said)
    → OnWhole status (said.status ≡ status)
    → (is_outside status ≡ true → Rises before now) → IsComplete before now status said
IsComplete-from Done before now said answered cause = λ none. inl (sym answered)
IsComplete-from Usage before now said answered cause = λ none. inl (sym answered)
IsComplete-from Input before now said answered cause = λ none. inl (sym answered)
IsComplete-from Full before now said answered cause = λ none. inl (sym answered)
IsComplete-from Differs before now said answered cause = λ none. inl (sym answered)
IsComplete-from Peer before now said answered cause = λ none. inl (sym answered)
IsComplete-from Outside before now said answered cause = λ none. absurd (none (cause refl))
IsComplete-from Memory before now said answered cause = λ none. inr refl

pub complete_of : (duty : Duty) (before after : OutsideTold) (status : Status)
    → IsSaid status before.sinks after.sinks duty.says
    → Uses duty.inputs (outputs_of duty) (is_outside status) before after
    → IsComplete before.faults after.faults status duty.says
complete_of duty before after status said uses =
    IsComplete-from status before.faults after.faults duty.says said.answered uses.counted.cause

-- nothing more was taken
pub Adds-none : (octets : Option (List ℕ)) → Adds octets octets []
Adds-none None = refl
Adds-none (Some octets) = ap Some (sym (append-nil octets))

pub Took-untold : (status : Status) (octets : List ℕ) → Took status None None octets
Took-untold Done octets = refl
Took-untold Usage octets = refl
Took-untold Input octets = refl
Took-untold Full octets = refl
Took-untold Differs octets = refl
Took-untold Peer octets = refl
Took-untold Outside octets = (0, refl)
Took-untold Memory octets = (0, refl)

-- a status with which nothing is called whole: something outside failed, or memory ran out
abbrev pub IsCut : Status → Type 0
IsCut Done = ⊥
IsCut Usage = ⊥
IsCut Input = ⊥
IsCut Full = ⊥
IsCut Differs = ⊥
IsCut Peer = ⊥
IsCut Outside = Unit {0}
IsCut Memory = Unit {0}

module _ (status : Status) (cut : IsCut status) (before after : List ℕ → NameEntry SinkTold)
    (same : (name : List ℕ) → taken_of (after name) ≡ taken_of (before name)) where
  nothing_took : (s : Status) → IsCut s → (name : List ℕ) (octets : List ℕ)
      → Took s (taken_of (before name)) (taken_of (after name)) octets
  nothing_took Done is name octets = absurd is
  nothing_took Usage is name octets = absurd is
  nothing_took Input is name octets = absurd is
  nothing_took Full is name octets = absurd is
  nothing_took Differs is name octets = absurd is
  nothing_took Peer is name octets = absurd is
  nothing_took Outside is name octets = (
    0,
    subst (λ t. Adds (taken_of (before name)) t []) (sym (same name))
        (Adds-none (taken_of (before name))),
  )
  nothing_took Memory is name octets = (
    0,
    subst (λ t. Adds (taken_of (before name)) t []) (sym (same name))
        (Adds-none (taken_of (before name))),
  )

  pub cut_whole : (s : Status) → IsCut s → (P : Type 0) → OnWhole s P
  cut_whole Done is P = absurd is
  cut_whole Usage is P = absurd is
  cut_whole Input is P = absurd is
  cut_whole Full is P = absurd is
  cut_whole Differs is P = absurd is
  cut_whole Peer is P = absurd is
  cut_whole Outside is P = tt
  cut_whole Memory is P = tt

  each_file : (files : List (List ℕ × List ℕ))
      → EachFile files
      (λ name octets. Took status (taken_of (before name)) (taken_of (after name)) octets)
  each_file [] = tt
  each_file (file ∷ files) = (nothing_took status cut file.0 file.1, each_file files)

  -- nothing was said
  pub nothing_said : (said : Said) → IsSaid status before after said
  nothing_said said = record {
    answered = cut_whole status cut _;
    output = nothing_took status cut output_name said.text;
    files = each_file said.files;
  }

-- words of a status with which nothing is called whole
cut_words : (is_command : Bool) (status : Status) → IsCut status
    → (is_command ≡ false → status ≡ Outside) → MatchesWords is_command status
cut_words false status cut lost = inr (lost refl)
cut_words true Done cut lost = absurd cut
cut_words true Usage cut lost = absurd cut
cut_words true Input cut lost = absurd cut
cut_words true Full cut lost = absurd cut
cut_words true Differs cut lost = absurd cut
cut_words true Peer cut lost = absurd cut
cut_words true Outside cut lost = λ same. absurd cc
cut_words true Memory cut lost = λ same. absurd cc

-- nothing was opened
Uses-idle : (inputs outputs : List (List ℕ)) (b : OutsideTold) → Uses inputs outputs false b b
Uses-idle inputs outputs b = record {
  counted = record {
    cause = λ is. absurd cc;
    reason = λ is. absurd cc;
    kept = inl refl;
    exact = λ clean none. refl;
  };
  sources = Keeps-same source_faults IsTextRead false inputs b.sources b.sources refl;
  sinks = Keeps-same sink_faults IsWritten false outputs b.sinks b.sinks refl;
  read = (0, Asks-none b.read_names);
  written = (0, Asks-none b.written_names);
  network = refl;
}

module _ (duty : Duty) (b a : OutsideTold) where
  -- a run that ended with nothing said
  pub cut_run : (status : Status) → IsCut status → (duty.is_command ≡ false → status ≡ Outside)
      → ((name : List ℕ) → taken_of (a.sinks name) ≡ taken_of (b.sinks name))
      → a.written_names ≡ b.written_names
      → Uses duty.inputs (outputs_of duty) (is_outside status) b a → IsRun duty b a status
  cut_run status cut lost same unwritten uses =
      let said : IsSaid status b.sinks a.sinks duty.says =
      nothing_said status cut b.sinks a.sinks same duty.says in
      record {
        words = cut_words duty.is_command status cut lost;
        said = said;
        output = cut_whole status cut b.sinks a.sinks same status cut _;
        uses = uses;
        opened = cut_whole status cut b.sinks a.sinks same status cut _;
        printed = cut_whole status cut b.sinks a.sinks same status cut _;
        filed = inl (
          0,
          subst (λ names. Asks b.written_names names []) (sym unwritten)
              (Asks-none b.written_names),
        );
        complete = complete_of duty b a status said uses;
      }

-- memory ran out before anything was opened
pub IsRun-idle : (duty : Duty) (b : OutsideTold) → duty.is_command ≡ true → IsRun duty b b Memory
IsRun-idle duty b command =
    cut_run duty b b Memory tt (λ none. absurd cc) (λ name. refl) refl
    (Uses-idle duty.inputs (outputs_of duty) b)

-- an input isn't there, since something outside failed or memory ran out
pub IsRun-unread : (duty : Duty) (b a : OutsideTold) (name : List ℕ) (more : List (List ℕ))
    (status : Status) → IsCut status
    → duty.is_command ≡ true → duty.inputs ≡ name ∷ more → OpensInput b a name (is_outside status)
    → IsRun duty b a status
IsRun-unread duty b a name more status cut command inputs opens =
    cut_run duty b a status cut (λ none. absurd cc)
    (λ n. ap (λ (s : List ℕ → NameEntry SinkTold). taken_of (s n)) opens.sinks) opens.written
    (subst (λ names. Uses names (outputs_of duty) (is_outside status) b a) (sym inputs)
    (subst (λ f. Uses (name ∷ more) (outputs_of duty) f b a) (or-right (is_outside status))
    (Uses-read (is_outside status) false (name ∷ []) more (outputs_of duty) b a a
    opens.uses opens.asked opens.written (Uses-idle more (outputs_of duty) a))))
  where
    or-right : (f : Bool) → (f || false) ≡ f
    or-right true = refl
    or-right false = refl

-- a front part of some names is one of more names
take-append-min : (n : ℕ) (names more : List (List ℕ))
    → take (min n (length names)) (names ++ more) ≡ take n names
take-append-min zero names more = rw (zero-min (length names)) refl
take-append-min (suc n) [] more = rw (min-zero (suc n)) refl
take-append-min (suc n) (name ∷ names) more =
    rw suc-min-suc (ap (λ (l : List (List ℕ)). name ∷ l) (take-append-min n names more))

AsksFront-wider : (before after : Option (List (List ℕ))) (names more : List (List ℕ))
    → AsksFront before after names → AsksFront before after (names ++ more)
AsksFront-wider before after names more asked = (
  min asked.0 (length names),
  subst (λ some. Asks before after some) (sym (take-append-min asked.0 names more)) asked.1,
)

Keeps-wider : {X : Type 0} (faults : X → ℕ) (step : X → X → Type 0) (failed : Bool)
    (names more : List (List ℕ)) (before after : List ℕ → NameEntry X)
    → Keeps faults step failed names before after
    → Keeps faults step failed (names ++ more) before after
Keeps-wider faults step failed names more before after kept = record {
  others = λ name absent. kept.others name
      (or-false (is_among names name) (is_among more name)
      (sym (is_among-append names more name) ∙ absent)).0;
  again = kept.again;
  acts = λ name. Acts-wider step names more name (before name) (after name) (kept.acts name);
}

wider : (inputs more outputs others : List (List ℕ)) (P Q : List ℕ → Type 0)
    → (SomeOf inputs P ⊎ SomeOf outputs Q)
    → (SomeOf (inputs ++ more) P ⊎ SomeOf (outputs ++ others) Q)
wider inputs more outputs others P Q (inl some) = inl (SomeOf-left inputs more P some)
wider inputs more outputs others P Q (inr some) = inr (SomeOf-left outputs others Q some)

-- names that might have been opened too
pub Uses-wider : (inputs more outputs others : List (List ℕ)) (failed : Bool) (b a : OutsideTold)
    → Uses inputs outputs failed b a → Uses (inputs ++ more) (outputs ++ others) failed b a
Uses-wider inputs more outputs others failed b a uses = record {
  counted = record {
    cause = uses.counted.cause;
    reason = λ is. wider inputs more outputs others _ _ (uses.counted.reason is);
    kept = elim uses.counted.kept [
      | inl same ↦ inl same
      | inr rose ↦ inr (rose.0, wider inputs more outputs others _ _ rose.1)
    ];
    exact = λ clean none. uses.counted.exact (
      (EachOf-parts inputs more _ clean.0).0,
      (EachOf-parts outputs others _ clean.1).0,
    ) none;
  };
  sources = Keeps-wider source_faults IsTextRead failed inputs more b.sources a.sources
      uses.sources;
  sinks = Keeps-wider sink_faults IsWritten failed outputs others b.sinks a.sinks uses.sinks;
  read = AsksFront-wider b.read_names a.read_names inputs more uses.read;
  written = AsksFront-wider b.written_names a.written_names outputs others uses.written;
  network = uses.network;
}

module _ (rest : Duty) (b m a : OutsideTold) (name : List ℕ) (status : Status) where
  then_uses : OpensInput b m name false → IsRun rest m a status
      → Uses (name ∷ rest.inputs) (outputs_of rest) (is_outside status) b a
  then_uses opens run =
      Uses-read false (is_outside status) (name ∷ []) rest.inputs (outputs_of rest) b m a
      opens.uses opens.asked opens.written run.uses

  Asks-then : Asks b.read_names m.read_names (name ∷ [])
      → Asks m.read_names a.read_names rest.inputs
      → Asks b.read_names a.read_names (name ∷ rest.inputs)
  Asks-then first then =
      Asks-append b.read_names m.read_names a.read_names (name ∷ []) rest.inputs first then

  -- one input is read or refused, and then the rest
  pub IsRun-then : OpensInput b m name false → IsRun rest m a status
      → IsRun (record rest { inputs = name ∷ rest.inputs }) b a status
  IsRun-then opens run = record {
    words = run.words;
    said = said;
    output =
        subst (λ (s : List ℕ → NameEntry SinkTold). OnWhole status (AreOutputsThere rest.says s))
        opens.sinks run.output;
    uses = then_uses opens run;
    opened = OnWhole-map status (λ then. Asks-then opens.asked then) run.opened;
    printed =
        subst (λ w. OnWhole status (Asks w a.written_names (outputs_of rest))) opens.written
        run.printed;
    filed = filed run.filed;
    complete = complete_of (record rest { inputs = name ∷ rest.inputs }) b a status said
        (then_uses opens run);
  }
    where
      said : IsSaid status b.sinks a.sinks rest.says
      said = subst (λ (s : List ℕ → NameEntry SinkTold). IsSaid status s a.sinks rest.says)
          opens.sinks run.said

      -- what was opened for writing before is as when the run began
      filed : FilesBehind m a rest.says.text → FilesBehind b a rest.says.text
      filed (inl few) =
          inl (subst (λ names. AsksFront names a.written_names (output_name ∷ [])) opens.written
          few)
      filed (inr took) =
          inr (subst (λ (s : List ℕ → NameEntry SinkTold).
          Adds (taken_of (s output_name)) (taken_of (a.sinks output_name)) rest.says.text)
          opens.sinks took)
