-- What an asking end works on, opened one after another: a link and standard output.
use Rattle.std.specs.Prelude.{◌⊎◌, ℕ, List, Option, Some, None}
use Rattle.outside.specs.Sink.{SinkTold}
use Rattle.outside.specs.Links.Links.{LinkTold, closed_link}
use Rattle.outside.specs.Names.Outside.{OutsideTold, Connects, ClosesLink, OpensOut}
use Rattle.commands.specs.Io.Runs.{output_name}

-- a link is closed, and put back
abbrev pub LeavesLink : OutsideTold → OutsideTold → LinkTold → Type 0
LeavesLink before after link = ClosesLink before after (closed_link link)

-- both are handed out
pub record OpensEach (address : List ℕ) (before after : OutsideTold) (link : LinkTold)
    (sink : SinkTold) : Type 0 where
  pub mid : OutsideTold
  pub connects : Connects before mid address (Some link)
  pub opens : OpensOut mid after output_name (Some sink)

-- standard output isn't handed out, and the link is closed again
pub record OpensLink (address : List ℕ) (before after : OutsideTold) : Type 0 where
  pub link : LinkTold
  pub mid : OutsideTold
  pub late : OutsideTold
  pub connects : Connects before mid address (Some link)
  pub opens : OpensOut mid late output_name None
  pub leaves : LeavesLink late after link

-- a link to the node at an address and standard output are opened, in this order; where one isn't
-- handed out, none is left open
abbrev pub OpensBoth : List ℕ → OutsideTold → OutsideTold → Option (LinkTold × SinkTold) → Type 0
OpensBoth address before after None =
    Connects before after address None ⊎ OpensLink address before after
OpensBoth address before after (Some both) = OpensEach address before after both.0 both.1
