-- That a replay, a listing and the reading of a PDU go by their plans, and what a replay has sent.
use Rattle.std.proofs.Common.{◌≡◌, ℕ, false, List, Option, Some}
use Rattle.std.proofs.Common.{refl, sym, ap, subst}
use Rattle.std.specs.Prelude.{Result, Ok, Err, IfOk, Vec, codes}
use Rattle.std.specs.declared.alloc.Global.{Global}
use Rattle.outside.specs.Sink.{SinkTold}
use Rattle.outside.specs.Names.Outside.{NameEntry, OutsideTold}
use Rattle.commands.specs.declared.io.status.Status.{Status}
use Rattle.commands.specs.declared.io.input.InputEnd.{InputEnd}
use Rattle.commands.specs.declared.io.input.InputEnd.TheVariants.{Refused, Outside, Memory}
use Rattle.commands.specs.declared.io.input.TheConstants.{TEXT_LIMIT}
use Rattle.commands.specs.Io.Statuses.{is_whole}
use Rattle.commands.specs.Io.Saying.{Text, untold, missing, told, texts_of}
use Rattle.commands.specs.Io.Inputs.{value_as, ReadsInput}
use Rattle.commands.specs.Io.Runs.{Took}
use Rattle.commands.specs.Io.Plans.{Plan, whole_text, octets_of, texts_behind, EndsPlan}
use Rattle.commands.specs.Io.Plans.{ReadsValue, OnValue}
use Rattle.commands.proofs.OfIo.Plans.{OnEnd, OnValue-read, ReadsValue-text}
use Rattle.commands.proofs.OfIo.Plans.{texts_valued}
use Rattle.bilateral.specs.Rows.{CentreRows}
use Rattle.node_core.specs.NodeState.{NodeState}
use Rattle.commands.specs.Words.Words.{ReplayOptions, Task, limit_of, replays}
use Rattle.commands.specs.Files.Tables.{tables_in}
use Rattle.tase_tool.specs.Sent.{node_of, SendsSoFar, SendsOn, SendsOver, SendsBy}
use Rattle.tase_tool.proofs.Sending.{SendsSoFar-still, output_of, output_kept}

-- with nothing printed, nothing was sent of whatever text
SendsOn-still : (node : NodeState) (status : Status) (before after : Option (List ℕ)) (t : Text)
    → is_whole status ≡ false → after ≡ before → SendsOn node status before after t
SendsOn-still node status before after untold cut same = tt
SendsOn-still node status before after missing cut same = tt
SendsOn-still node status before after (told octets) cut same =
    λ within. SendsSoFar-still node octets status before after cut same

module _ (b m a : OutsideTold) (status : Status) where
  -- what was sent of a scenario, and over tables
  abbrev SentOf : NodeState → List ℕ → Type 0
  SentOf node octets =
      SendsSoFar node octets status (Took status (output_of b.sinks) (output_of a.sinks))

  abbrev SentOver : ReplayOptions → Text → CentreRows → Type 0
  SentOver options text =
      SendsOver options status (output_of b.sinks) (output_of a.sinks) text

  -- what was sent of a scenario that was read to this
  pub SendsOn-read : (node : NodeState) (name : List ℕ) (next : Vec ℕ Global → Plan)
      (read : Result (Vec ℕ Global) InputEnd) → ReadsInput b m name TEXT_LIMIT read
      → EndsPlan (codes "scenario") next read m a status
      → IfOk read (λ text. SendsSoFar node text.items status
      (Took status (output_of m.sinks) (output_of a.sinks)))
      → SendsOn node status (output_of b.sinks) (output_of a.sinks) (texts_of b name)
  SendsOn-read node name next read input run sent =
      OnValue-read whole_text name TEXT_LIMIT b m (SentOf node) (value_as octets_of read)
      (ReadsValue-text b m name TEXT_LIMIT read input) (here read run sent)
    where
      here : (r : Result (Vec ℕ Global) InputEnd) → EndsPlan (codes "scenario") next r m a status
          → IfOk r (λ text. SendsSoFar node text.items status
          (Took status (output_of m.sinks) (output_of a.sinks)))
          → OnEnd whole_text name TEXT_LIMIT b m (value_as octets_of r)
          (SentOf node)
      here (Ok text) ran held =
          subst (λ (sinks : List ℕ → NameEntry SinkTold). SendsSoFar node text.items status
          (Took status (output_of sinks) (output_of a.sinks))) input.opens.sinks held
      here (Err (Refused refusal)) ran held = tt
      here (Err Outside) ran held =
          λ octets. SendsSoFar-still node octets status (output_of b.sinks) (output_of a.sinks)
          (ap is_whole ran.0) (output_kept b m a ran.1 input.opens.sinks)
      here (Err Memory) ran held =
          λ octets. SendsSoFar-still node octets status (output_of b.sinks) (output_of a.sinks)
          (ap is_whole ran.0) (output_kept b m a ran.1 input.opens.sinks)

  -- and over tables that were
  pub SendsBy-read : (tables scenario : List ℕ) (options : ReplayOptions)
      (next : CentreRows → Plan) (read : Result CentreRows InputEnd)
      → ReadsValue tables_in tables TEXT_LIMIT read b m
      → EndsPlan (codes "tables") next read m a status
      → IfOk read (SendsOver options status (output_of m.sinks) (output_of a.sinks)
      (texts_of m scenario))
      → SendsBy (Some (replays tables scenario options)) (texts_of b) status (output_of b.sinks)
      (output_of a.sinks)
  SendsBy-read tables scenario options next read value run sent =
      OnValue-read tables_in tables TEXT_LIMIT b m
      (SentOver options (texts_behind (texts_of b) tables scenario)) read value
      (here read value run sent)
    where
      here : (r : Result CentreRows InputEnd) → ReadsValue tables_in tables TEXT_LIMIT r b m
          → EndsPlan (codes "tables") next r m a status
          → IfOk r (SendsOver options status (output_of m.sinks) (output_of a.sinks)
          (texts_of m scenario))
          → OnEnd tables_in tables TEXT_LIMIT b m r
          (SentOver options (texts_behind (texts_of b) tables scenario))
      here (Ok rows) input ran held =
          subst (λ text. SendsOver options status (output_of b.sinks) (output_of a.sinks) text rows)
          (sym (texts_valued tables_in tables TEXT_LIMIT b m rows input scenario))
          (subst (λ (sinks : List ℕ → NameEntry SinkTold). SendsOver options status
          (output_of sinks) (output_of a.sinks) (texts_of m scenario) rows)
          input.1.opens.sinks held)
      here (Err (Refused refusal)) input ran held = tt
      here (Err Outside) input ran held =
          λ rows. SendsOn-still (node_of rows (limit_of options)) status (output_of b.sinks)
          (output_of a.sinks) (texts_behind (texts_of b) tables scenario) (ap is_whole ran.0)
          (output_kept b m a ran.1 input.1.opens.sinks)
      here (Err Memory) input ran held =
          λ rows. SendsOn-still (node_of rows (limit_of options)) status (output_of b.sinks)
          (output_of a.sinks) (texts_behind (texts_of b) tables scenario) (ap is_whole ran.0)
          (output_kept b m a ran.1 input.1.opens.sinks)

-- with nothing printed, nothing was sent by whatever command
pub SendsBy-still : (task : Option Task) (texts : List ℕ → Text) (status : Status)
    (taken : Option (List ℕ)) → is_whole status ≡ false → SendsBy task texts status taken taken
SendsBy-still (Some (replays tables scenario options)) texts status taken cut = here (texts tables)
  where
    over : (r : Result CentreRows ℕ)
        → IfOk r (SendsOver options status taken taken (texts_behind texts tables scenario))
    over (Ok rows) = SendsOn-still (node_of rows (limit_of options)) status taken taken
        (texts_behind texts tables scenario) cut refl
    over (Err line) = tt

    here : (t : Text) → OnValue tables_in TEXT_LIMIT
        (SendsOver options status taken taken (texts_behind texts tables scenario)) t
    here untold = tt
    here missing = tt
    here (told octets) = λ within. over (tables_in octets)
SendsBy-still _ texts status taken cut = tt
