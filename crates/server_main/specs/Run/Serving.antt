-- What stands while links are accepted, behind the jobs that were started first.
use Rattle.std.specs.Prelude.{◌≡◌, ◌≤◌, List, ◌++◌, length}
use Rattle.outside.specs.Links.Links.{LinkTold}
use Rattle.share_turn.specs.Entries.{Each}
use Rattle.share_turn.specs.Public.{IsOf}
use Rattle.node_server.specs.declared.jobs.parts.JobParts.{JobParts}
use Rattle.server_main.specs.Run.Gathering.{SharedNode, IsLinkJob}
use Rattle.server_main.specs.Run.Retiring.{AreOut}
use Rattle.server_main.specs.Run.Accepting.{Accepting}

-- The own seat is one of the node. Behind these first jobs those are pending that serve new links,
-- and no others; there is room for the seats of all of them, and their links are out. So they can
-- be gathered.
pub record IsServing {L S C : Type 0} (told : L → LinkTold) (node : SharedNode)
    (first : List (JobParts L S C)) (now : Accepting L S C) : Type 0 where
  pub of : IsOf node now.seat
  pub serving : List (JobParts L S C)
  pub pending : now.spawner.pending ≡ first ++ serving
  pub jobs : Each (IsLinkJob told node) serving
  pub rooms : length serving ≤ now.links.rooms
  pub out : AreOut (length serving) now.listener

-- the same behind some first jobs
abbrev pub ServesBehind : {L S C : Type 0} → (L → LinkTold) → SharedNode → Accepting L S C
    → Type 0
ServesBehind {L} {S} {C} told node now =
    (first : List (JobParts L S C)) × IsServing told node first now

-- it stands still, behind whichever first jobs it stood
abbrev pub KeepsServing : {L S C : Type 0} → (L → LinkTold) → SharedNode → Accepting L S C
    → Accepting L S C → Type 0
KeepsServing {L} {S} {C} told node before after = (first : List (JobParts L S C))
    → IsServing told node first before → IsServing told node first after
