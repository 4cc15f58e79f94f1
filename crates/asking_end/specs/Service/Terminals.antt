-- What a client works on: a link to its peer, and a sink for what is shown.
use Rattle.std.specs.Prelude.{◌≡◌, ℕ, List, [], ◌∷◌, ◌++◌, Option, None, Result}
use Rattle.std.specs.Prelude.{option_map}
use Rattle.outside.specs.declared.links.link.Recv.{Recv}
use Rattle.outside.specs.declared.sink.SinkFailed.{SinkFailed}
use Rattle.outside.specs.declared.sink.WriteEnd.{WriteEnd}
use Rattle.outside.specs.Links.Links.{LinkTold, ReceivesPiece, SendsPiece}
use Rattle.outside.specs.Sink.{SinkTold, WritesAll}

-- what a terminal tells: of its link, of its sink, and what the sink told at each recv, in order,
-- which may be untold
pub record TerminalTold : Type 0 where
  pub link : LinkTold
  pub sink : SinkTold
  pub moments : Option (List SinkTold)

-- what a link and a sink tell, where it isn't remembered what the sink told
abbrev pub link_terminal : LinkTold → SinkTold → TerminalTold
link_terminal link sink = record { link = link; sink = sink; moments = None }

-- nothing is written
pub record IsUnwritten (before after : TerminalTold) : Type 0 where
  pub sink : after.sink ≡ before.sink
  pub moments : after.moments ≡ before.moments

-- a recv of the link: it is one moment more
pub record ReceivesAt (before after : TerminalTold) (end : Recv) (buf : List ℕ) : Type 0 where
  pub receives : ReceivesPiece before.link after.link end buf
  pub sink : after.sink ≡ before.sink
  pub moments : after.moments ≡ option_map (λ told. told ++ before.sink ∷ []) before.moments

-- a send over the link
pub record SendsAt (before after : TerminalTold) (end : WriteEnd) (piece : List ℕ) : Type 0 where
  pub sends : SendsPiece before.link after.link end piece
  pub unwritten : IsUnwritten before after

-- lines are written to the sink: all of them, or a front part before a write that failed
pub record ShowsAt (before after : TerminalTold) (lines : List ℕ)
    (result : Result (Unit {0}) SinkFailed) : Type 0 where
  pub writes : WritesAll before.sink after.sink lines result
  pub link : after.link ≡ before.link
  pub moments : after.moments ≡ before.moments
