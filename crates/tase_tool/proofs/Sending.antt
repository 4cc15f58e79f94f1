-- What was sent for the lines that a replay has taken, from a play up to the run of words.
use Rattle.std.proofs.Common.{◌≡◌, ◌⊎◌, ℕ, Bool, true, false, List, [], Option, refl, sym, ap, ◌∙◌}
use Rattle.std.proofs.Common.{subst, inl, inr}
use Rattle.outside.specs.Sink.{SinkTold, AppendsPart}
use Rattle.outside.specs.Names.Outside.{NameEntry, OutsideTold}
use Rattle.outside.proofs.Writing.{Adds-none}
use Rattle.commands.specs.declared.io.status.Status.{Status}
use Rattle.commands.specs.declared.io.status.Status.TheVariants.{Done, Usage, Input, Outside, Full}
use Rattle.commands.specs.declared.io.status.Status.TheVariants.{Differs, Memory, Peer}
use Rattle.commands.specs.Io.Saying.{prints}
use Rattle.commands.specs.Io.Runs.{TellsSaid, Took, taken_of, output_name}
use Rattle.commands.specs.Io.Statuses.{is_whole}
use Rattle.tase_views.specs.declared.event.Entry.{Entry}
use Rattle.node_core.specs.NodeState.{NodeState}
use Rattle.tase_replay.specs.declared.playing.ReplayEnd.{ReplayEnd}
use Rattle.tase_replay.specs.declared.playing.ReplayEnd.TheVariants as plays
use Rattle.tase_replay.specs.Play.{Played, steps_in, printed_in}
use Rattle.tase_replay.specs.AllSent.{AreSentSoFar, is_played_out}
use Rattle.tase_replay.specs.Ends.{IsPlayed}
use Rattle.tase_replay.proofs.OrdersBack.{no_orders}
use Rattle.tase_tool.specs.Playing.{EndsPlay}
use Rattle.tase_tool.specs.Sent.{played_on, SendsSoFar}

-- a play whose output is whole is played out
played_whole : (end : ReplayEnd) (k l : SinkTold) (status : Status) → EndsPlay end k l status
    → is_whole status ≡ true → is_played_out end ≡ true
played_whole plays.Done k l status is said = refl
played_whole (plays.BadLine line) k l status is said = refl
played_whole (plays.Full weight limit) k l status is said = refl
played_whole plays.SinkFault k l status is said =
    let e : is_whole Outside ≡ true = ap is_whole (sym is.0) ∙ said in absurd cc
played_whole plays.Memory k l status is said =
    let e : is_whole Memory ≡ true = ap is_whole (sym is.0) ∙ said in absurd cc

-- a front part went out, and a write failed or none did
same_part : (k l : SinkTold) (octets others : List ℕ) (failed other : Bool)
    → AppendsPart k l octets failed → AppendsPart k l others other → AppendsPart k l octets other
same_part k l octets others failed other part ended = (
  part.0,
  record {
    taken = part.1.taken;
    held = part.1.held;
    calls = ended.1.calls;
    faults = ended.1.faults;
    name = part.1.name;
  },
)

-- behind a play that was cut short nothing is told
went_out : (end : ReplayEnd) (played : Played) (history now : List Entry) (k m l : SinkTold)
    (status : Status) (none : Type 0) (octets : List ℕ) → IsPlayed played history now k m end
    → EndsPlay end m l status → (is_played_out end ≡ true → none)
    → none ⊎ ((failed : Bool) × AppendsPart k m octets failed)
    → none ⊎ TellsSaid (prints status octets) k l status
went_out plays.Done played history now k m l status none octets went is all part = inl (all refl)
went_out (plays.BadLine line) played history now k m l status none octets went is all part =
    inl (all refl)
went_out (plays.Full weight limit) played history now k m l status none octets went is all part =
    inl (all refl)
went_out plays.SinkFault played history now k m l status none octets went is all (inl whole) =
    inl whole
went_out plays.SinkFault played history now k m l status none octets went is all (inr part) =
    inr (subst (λ s. TellsSaid (prints s octets) k l s) (sym is.0)
    (subst (λ x. AppendsPart k x octets true) (sym is.1)
    (same_part k m octets _ part.0 true part.1 went.shown)))
went_out plays.Memory played history now k m l status none octets went is all (inl whole) =
    inl whole
went_out plays.Memory played history now k m l status none octets went is all (inr part) =
    inr (subst (λ s. TellsSaid (prints s octets) k l s) (sym is.0)
    (subst (λ x. AppendsPart k x octets false) (sym is.1)
    (same_part k m octets _ part.0 false part.1 went.shown)))

-- of a play, and how its end was told
pub SendsSoFar-played : (node : NodeState) (text : List ℕ) (now : List Entry) (k m l : SinkTold)
    (end : ReplayEnd) (status : Status) → IsPlayed (played_on node text) node.history now k m end
    → EndsPlay end m l status
    → AreSentSoFar node.setup node.history (played_on node text) (is_played_out end) k m
    → SendsSoFar node text status (λ octets. TellsSaid (prints status octets) k l status)
SendsSoFar-played node text now k m l end status went is s = record {
  taken = s.taken;
  others = s.others;
  lines = s.lines;
  all = λ whole. s.all (played_whole end m l status is whole);
  sent = s.sent;
  orders = s.orders;
  printed = went_out end (played_on node text) node.history now k m l status (s.others ≡ [])
      (printed_in (steps_in s.taken)) went is s.all s.printed;
}

-- the same, as it went further
pub SendsSoFar-further : (node : NodeState) (text : List ℕ) (status next : Status)
    (went goes : List ℕ → Type 0) → (is_whole next ≡ true → is_whole status ≡ true)
    → ((octets : List ℕ) → went octets → goes octets)
    → SendsSoFar node text status went → SendsSoFar node text next goes
SendsSoFar-further node text status next went goes whole further s = record {
  taken = s.taken;
  others = s.others;
  lines = s.lines;
  all = λ is. s.all (whole is);
  sent = s.sent;
  orders = s.orders;
  printed = elim s.printed [
    | inl none ↦ inl none
    | inr part ↦ inr (further (printed_in (steps_in s.taken)) part)
  ];
}

-- no line was taken
pub SendsSoFar-none : (node : NodeState) (text : List ℕ) (status : Status)
    (went : List ℕ → Type 0) → is_whole status ≡ false → went []
    → SendsSoFar node text status went
SendsSoFar-none node text status went unwhole none = record {
  taken = [];
  others = (played_on node text).taken;
  lines = refl;
  all = λ whole. let e : true ≡ false = sym whole ∙ unwhole in absurd cc;
  sent = λ who fits. refl;
  orders = no_orders node.setup node.history;
  printed = inr none;
}

Took-none : (status : Status) (taken : Option (List ℕ)) → Took status taken taken []
Took-none Done taken = Adds-none taken
Took-none Usage taken = Adds-none taken
Took-none Input taken = Adds-none taken
Took-none Full taken = Adds-none taken
Took-none Differs taken = Adds-none taken
Took-none Peer taken = Adds-none taken
Took-none Outside taken = (0, Adds-none taken)
Took-none Memory taken = (0, Adds-none taken)

-- and nothing was printed
pub SendsSoFar-still : (node : NodeState) (text : List ℕ) (status : Status)
    (before after : Option (List ℕ)) → is_whole status ≡ false → after ≡ before
    → SendsSoFar node text status (Took status before after)
SendsSoFar-still node text status before after unwhole same =
    SendsSoFar-none node text status (Took status before after) unwhole
    (subst (λ taken. Took status before taken []) (sym same) (Took-none status before))

-- the octets told to be taken by standard output
abbrev pub output_of : (List ℕ → NameEntry SinkTold) → Option (List ℕ)
output_of sinks = taken_of (sinks output_name)

-- an outside that stayed as it was
pub output_kept : (b m a : OutsideTold) → a ≡ m → m.sinks ≡ b.sinks
    → output_of a.sinks ≡ output_of b.sinks
output_kept b m a same kept = ap (λ (o : OutsideTold). output_of o.sinks) same ∙ ap output_of kept
