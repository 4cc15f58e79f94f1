-- What is told through a sink that gathers, as the sink behind it has it.
use Rattle.std.proofs.Common.{◌≡◌, ◌≢◌, ℕ, Bool, true, false, List, [], take, drop, refl, subst}
use Rattle.std.specs.Prelude.{Ok, Err}
use Rattle.std.proofs.Common.{take-append-drop}
use Rattle.outside.specs.declared.sink.SinkFailed.{SinkFailed}
use Rattle.outside.specs.Sink.{SinkTold, Appends, AppendsPart}
use Rattle.outside.specs.Buffered.{buffered_told, Finishes}
use Rattle.outside.proofs.Writing.{Appends-append, AppendsPart-front}
use Rattle.outside.proofs.Buffering.{buffered_empty, unbuffered, handed_all, handed_part}
use Rattle.commands.specs.declared.io.status.Status.{Status}
use Rattle.commands.specs.declared.io.status.Status.TheVariants.{Done, Usage, Input, Outside, Full}
use Rattle.commands.specs.declared.io.status.Status.TheVariants.{Differs, Memory, Peer}
use Rattle.commands.specs.Io.Saying.{Said}
use Rattle.commands.specs.Io.Runs.{TellsSaid}

module _ (k m l : SinkTold) (gathered : List ℕ) (held : k.held ≡ 0) where
  -- from the sink itself
  from_sink : (octets : List ℕ) (failed : Bool)
      → Appends (buffered_told k []) (buffered_told m gathered) octets failed
      → Appends k (buffered_told m gathered) octets failed
  from_sink octets failed wrote =
      Appends-append k (buffered_told k []) (buffered_told m gathered) [] octets failed
      (buffered_empty k) wrote

  front_of_front : (a b : SinkTold) (count : ℕ) (octets : List ℕ) (failed : Bool)
      → AppendsPart a b (take count octets) failed → AppendsPart a b octets failed
  front_of_front a b count octets failed part =
      subst (λ (o : List ℕ). AppendsPart a b o failed) (take-append-drop count octets)
      (AppendsPart-front a b (take count octets) (drop count octets) failed part)

  -- what was gathered is handed on
  pub Tells-handed : (said : Said) (status : Status) → status ≢ Outside
      → TellsSaid said (buffered_told k []) (buffered_told m gathered) status
      → Finishes m l gathered (Ok tt) → TellsSaid said k l status
  Tells-handed said Done other tells handed = (
    tells.0,
    handed_all k m l gathered handed.0 said.text tt (from_sink said.text false tells.1)
        handed.1,
  )
  Tells-handed said Usage other tells handed = (
    tells.0,
    handed_all k m l gathered handed.0 said.text tt (from_sink said.text false tells.1)
        handed.1,
  )
  Tells-handed said Input other tells handed = (
    tells.0,
    handed_all k m l gathered handed.0 said.text tt (from_sink said.text false tells.1)
        handed.1,
  )
  Tells-handed said Full other tells handed = (
    tells.0,
    handed_all k m l gathered handed.0 said.text tt (from_sink said.text false tells.1)
        handed.1,
  )
  Tells-handed said Differs other tells handed = (
    tells.0,
    handed_all k m l gathered handed.0 said.text tt (from_sink said.text false tells.1)
        handed.1,
  )
  Tells-handed said Peer other tells handed = (
    tells.0,
    handed_all k m l gathered handed.0 said.text tt (from_sink said.text false tells.1)
        handed.1,
  )
  Tells-handed said Outside other tells handed = absurd (other refl)
  Tells-handed said Memory other tells handed = (
    tells.0,
    handed_all k m l gathered handed.0 (take tells.0 said.text) tt
        (from_sink (take tells.0 said.text) false tells.1) handed.1,
  )

  -- not all of it
  pub Tells-unhanded : (said : Said) (status : Status) (failed : SinkFailed) → status ≢ Outside
      → TellsSaid said (buffered_told k []) (buffered_told m gathered) status
      → Finishes m l gathered (Err failed) → TellsSaid said k l Outside
  Tells-unhanded said Done failed other tells handed =
      handed_part k m l gathered handed.0 said.text failed held (from_sink said.text false tells.1)
      handed.1
  Tells-unhanded said Usage failed other tells handed =
      handed_part k m l gathered handed.0 said.text failed held (from_sink said.text false tells.1)
      handed.1
  Tells-unhanded said Input failed other tells handed =
      handed_part k m l gathered handed.0 said.text failed held (from_sink said.text false tells.1)
      handed.1
  Tells-unhanded said Full failed other tells handed =
      handed_part k m l gathered handed.0 said.text failed held (from_sink said.text false tells.1)
      handed.1
  Tells-unhanded said Differs failed other tells handed =
      handed_part k m l gathered handed.0 said.text failed held (from_sink said.text false tells.1)
      handed.1
  Tells-unhanded said Peer failed other tells handed =
      handed_part k m l gathered handed.0 said.text failed held (from_sink said.text false tells.1)
      handed.1
  Tells-unhanded said Outside failed other tells handed = absurd (other refl)
  Tells-unhanded said Memory failed other tells handed = front_of_front k l tells.0 said.text true
      (handed_part k m l gathered handed.0 (take tells.0 said.text) failed held
      (from_sink (take tells.0 said.text) false tells.1) handed.1)

  -- a write failed before, and none comes after it
  pub Tells-failed : (said : Said)
      → TellsSaid said (buffered_told k []) (buffered_told m gathered) Outside → TellsSaid said k m Outside
  Tells-failed said tells = front_of_front k m tells.0 said.text true
      (unbuffered k m gathered (take tells.0 said.text) true held
      (from_sink (take tells.0 said.text) true tells.1))
