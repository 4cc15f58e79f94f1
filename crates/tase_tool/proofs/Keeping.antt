-- What a replay leaves whose journal is written to a file.
use Rattle.std.proofs.Common.{◌≡◌, ℕ, Bool, true, false, ◌||◌, List, [], ◌∷◌}
use Rattle.std.proofs.Common.{refl, sym, ap, ◌∙◌, subst, inl}
use Rattle.std.specs.Prelude.{bytes_eq}
use Rattle.std.proofs.lemmas.Slice.Eq.{bytes_eq-Decides}
use Rattle.outside.specs.Sink.{SinkTold}
use Rattle.outside.specs.Names.Outside.{OutsideTold}
use Rattle.commands.specs.declared.io.status.Status.{Status}
use Rattle.commands.specs.declared.io.status.Status.TheVariants.{Done, Usage, Input, Outside, Full}
use Rattle.commands.specs.declared.io.status.Status.TheVariants.{Differs, Memory, Peer}
use Rattle.commands.specs.Io.Statuses.{is_whole, OnWhole}
use Rattle.commands.specs.Io.OutsideUse.{is_among}
use Rattle.commands.specs.Io.Saying.{Said, with_file, duty_to_say}
use Rattle.commands.specs.Io.Runs.{IsRun, Took, WritesFile, status_behind, output_name}
use Rattle.commands.proofs.OfIo.Running.{OnWhole-all}
use Rattle.commands.proofs.OfIo.Filing.{IsRun-filed, IsRun-unfiled}
use Rattle.tase_views.specs.declared.event.Entry.{Entry}
use Rattle.node_core.specs.NodeState.{NodeState}
use Rattle.tase_replay.specs.declared.playing.ReplayEnd.{ReplayEnd}
use Rattle.tase_replay.specs.declared.playing.ReplayEnd.TheVariants as plays
use Rattle.tase_replay.specs.Ends.{IsPlayed}
use Rattle.tase_tool.specs.Playing.{EndsPlay}
use Rattle.tase_tool.specs.Sent.{played_on, SendsSoFar}
use Rattle.commands.specs.Files.Kept.{KeepsJournal}
use Rattle.tase_tool.specs.Kept.{HasPlayed}
use Rattle.tase_tool.proofs.Sending.{output_of}

-- the history behind a play whose end is told
pub OnWhole-played : (node : NodeState) (text : List ℕ) (now : List Entry) (k m l : SinkTold)
    (end : ReplayEnd) (status : Status) → IsPlayed (played_on node text) node.history now k m end
    → EndsPlay end m l status → OnWhole status (HasPlayed node text now)
OnWhole-played node text now k m l plays.Done status went is = OnWhole-all status went.1.entries
OnWhole-played node text now k m l (plays.BadLine line) status went is =
    OnWhole-all status went.1.entries
OnWhole-played node text now k m l (plays.Full weight limit) status went is =
    OnWhole-all status went.1.entries
OnWhole-played node text now k m l plays.SinkFault status went is =
    subst (λ s. OnWhole s (HasPlayed node text now)) (sym is.0) tt
OnWhole-played node text now k m l plays.Memory status went is =
    subst (λ s. OnWhole s (HasPlayed node text now)) (sym is.0) tt

not_among : (name other : List ℕ) → bytes_eq name other ≡ false
    → (is_among (other ∷ []) name ≡ false) × (is_among (name ∷ []) other ≡ false)
not_among name other apart = (ap (λ b. b || false) apart, here (bytes_eq other name) refl)
  where
    here : (same : Bool) → bytes_eq other name ≡ same → is_among (name ∷ []) other ≡ false
    here true at =
        let equal : name ≡ other = sym ((bytes_eq-Decides other name).0 at) in
        let e : true ≡ false = sym ((bytes_eq-Decides name other).1 equal) ∙ apart in absurd cc
    here false at = ap (λ b. b || false) at

module _ (b m a : OutsideTold) (said : Said) (alone : said.files ≡ [])
    (name text octets : List ℕ) (apart : bytes_eq name output_name ≡ false) where
  kept_whole : (status result : Status) → is_whole status ≡ true
      → IsRun (duty_to_say true said) b m status → octets ≡ text
      → (written : Status) × WritesFile name octets m a written
      × (result ≡ status_behind status written)
      → IsRun (duty_to_say true (with_file name text said)) b a result
  kept_whole status result whole run same kept =
      subst (λ s. IsRun (duty_to_say true (with_file name text said)) b a s) (sym kept.2)
      (IsRun-filed b said alone name text (not_among name output_name apart).0
      (not_among name output_name apart).1 m a status kept.0 whole run
      (subst (λ (o : List ℕ). WritesFile name o m a kept.0) same kept.1))

  kept_cut : (status result : Status) → is_whole status ≡ false
      → IsRun (duty_to_say true said) b m status → (result ≡ status) × (a ≡ m)
      → IsRun (duty_to_say true (with_file name text said)) b a result
  kept_cut status result cut run kept =
      subst (λ s. IsRun (duty_to_say true (with_file name text said)) b a s) (sym kept.0)
      (subst (λ (o : OutsideTold). IsRun (duty_to_say true (with_file name text said)) b o status)
      (sym kept.1)
      (IsRun-unfiled b said alone name text (not_among name output_name apart).0
      (not_among name output_name apart).1 m status cut run))

  -- a run behind which a journal is written
  pub IsRun-kept : (status result : Status) → IsRun (duty_to_say true said) b m status
      → OnWhole status (octets ≡ text) → KeepsJournal name octets status m a result
      → IsRun (duty_to_say true (with_file name text said)) b a result
  IsRun-kept Done result run same kept = kept_whole Done result refl run same kept
  IsRun-kept Usage result run same kept = kept_whole Usage result refl run same kept
  IsRun-kept Input result run same kept = kept_whole Input result refl run same kept
  IsRun-kept Full result run same kept = kept_whole Full result refl run same kept
  IsRun-kept Differs result run same kept = kept_whole Differs result refl run same kept
  IsRun-kept Peer result run same kept = kept_whole Peer result refl run same kept
  IsRun-kept Outside result run same kept = kept_cut Outside result refl run kept
  IsRun-kept Memory result run same kept = kept_cut Memory result refl run kept

  -- and what was sent before it
  module _ (node : NodeState) (scenario : List ℕ) where
    whole_before : (status result : Status) → is_whole status ≡ true
        → SendsSoFar node scenario status (Took status (output_of b.sinks) (output_of m.sinks))
        → SendsSoFar node scenario result (Took result (output_of b.sinks) (output_of a.sinks))
    whole_before status result whole s = record {
      taken = s.taken;
      others = s.others;
      lines = s.lines;
      all = λ is. s.all whole;
      sent = s.sent;
      orders = s.orders;
      printed = inl (s.all whole);
    }

    same_before : (status result : Status) → (result ≡ status) × (a ≡ m)
        → SendsSoFar node scenario status (Took status (output_of b.sinks) (output_of m.sinks))
        → SendsSoFar node scenario result (Took result (output_of b.sinks) (output_of a.sinks))
    same_before status result kept s =
        subst (λ t. SendsSoFar node scenario t
        (Took t (output_of b.sinks) (output_of a.sinks))) (sym kept.0)
        (subst (λ (o : OutsideTold). SendsSoFar node scenario status
        (Took status (output_of b.sinks) (output_of o.sinks))) (sym kept.1) s)

    pub SendsSoFar-kept : (status result : Status) → KeepsJournal name octets status m a result
        → SendsSoFar node scenario status (Took status (output_of b.sinks) (output_of m.sinks))
        → SendsSoFar node scenario result (Took result (output_of b.sinks) (output_of a.sinks))
    SendsSoFar-kept Done result kept s = whole_before Done result refl s
    SendsSoFar-kept Usage result kept s = whole_before Usage result refl s
    SendsSoFar-kept Input result kept s = whole_before Input result refl s
    SendsSoFar-kept Full result kept s = whole_before Full result refl s
    SendsSoFar-kept Differs result kept s = whole_before Differs result refl s
    SendsSoFar-kept Peer result kept s = whole_before Peer result refl s
    SendsSoFar-kept Outside result kept s = same_before Outside result kept s
    SendsSoFar-kept Memory result kept s = same_before Memory result kept s
