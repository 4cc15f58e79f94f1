-- What becomes of a link that accept gave.
use Rattle.std.proofs.Common.{◌≡◌, ℕ, ◌+◌, List, [], ◌∷◌, ◌++◌, sym, ap, ◌∙◌, subst, arith}
use Rattle.std.proofs.Common.{false, Option, Some, None}
use Rattle.outside.specs.Links.Jobs.{SpawnerTold}
use Rattle.outside.specs.Links.Links.{LinkTold, IsNewLink, closed_link}
use Rattle.outside.specs.Links.Listeners.{ListenerTold, AcceptsLink, with_retired}
use Rattle.outside.specs.declared.links.job.Start.{Start}
use Rattle.outside.specs.declared.links.job.Start.TheVariants as starts
use Rattle.node_server.specs.NodeCalls.{NodeSeat}
use Rattle.node_server.specs.declared.jobs.parts.JobParts.{JobParts}
use Rattle.node_server.specs.declared.jobs.parts.JobParts.TheVariants as parts
use Rattle.server_main.specs.declared.run.seats.LinkSeat.{LinkSeat}
use Rattle.server_main.specs.declared.run.starting.JobInput.{JobInput}
use Rattle.server_main.specs.declared.run.starting.JobInput.TheVariants as inputs
use Rattle.server_main.specs.declared.run.accepting.Accepted.{Accepted}
use Rattle.server_main.specs.Run.Gathering.{SharedNode, IsLinkJob}
use Rattle.server_main.specs.Run.Retiring.{LinksNoted}
use Rattle.server_main.specs.Run.Starting.{IsJobOn, StartsAs}
use Rattle.server_main.specs.Run.Accepting.{IsLinkInput, SettlesLink}
use Rattle.server_main.specs.Run.Accepting.{accepting, AcceptsOnce}

abbrev link_or : {L S C : Type 0} → L → JobInput L S C → L
link_or {L} {S} {C} other (inputs.Link link) = link
link_or {L} {S} {C} other (inputs.Feed source) = other
link_or {L} {S} {C} other (inputs.Clock clock) = other

-- a job on a new link serves it
pub serves-link : {L S C : Type 0} (told : L → LinkTold) (node : SharedNode) (link : L)
    (job : JobParts L S C) → IsNewLink (told link) → IsJobOn node (inputs.Link link) job
    → IsLinkJob told node job
serves-link {L} {S} {C} told node link (parts.Conn centre shared seat own alloc) new on = (
  subst (λ (l : L). IsNewLink (told l))
      (sym (ap (λ (i : JobInput L S C). link_or link i) on.works_on)) new,
  on.fresh,
)
serves-link {L} {S} {C} told node link (parts.Feed centre shared seat source alloc) new on =
    absurd (subst (λ (i : JobInput L S C). IsLinkInput i) (sym on.works_on) tt)
serves-link {L} {S} {C} told node link (parts.Ticks shared seat clock alloc) new on =
    absurd (subst (λ (i : JobInput L S C). IsLinkInput i) (sym on.works_on) tt)

noted-is : (later noted : LinksNoted) (seats : List (Option LinkSeat)) → later.seats ≡ seats
    → later.rooms ≡ noted.rooms → later ≡ record noted { seats = seats }
noted-is later noted seats a b =
    ap (λ (s : List (Option LinkSeat)). record later { seats = s }) a
    ∙ ap (λ (r : ℕ). record (record noted { seats = seats }) { rooms = r }) b

-- room was taken before, and was used
noted-none : (later noted room : LinksNoted) → room ≡ record noted { rooms = noted.rooms + 1 }
    → later.seats ≡ room.seats ++ None ∷ [] → later.rooms + 1 ≡ room.rooms
    → later ≡ record noted { seats = noted.seats ++ None ∷ [] }
noted-none later noted room taken seats rooms =
    let same : room.seats ≡ noted.seats = ap (λ (l : LinksNoted). l.seats) taken in
    let more : room.rooms ≡ noted.rooms + 1 = ap (λ (l : LinksNoted). l.rooms) taken in
    noted-is later noted (noted.seats ++ None ∷ [])
    (seats ∙ ap (λ (l : List (Option LinkSeat)). l ++ None ∷ []) same)
    (omega (arith, rooms, more))

-- room was taken, and was given back
pub room-back : (noted room later : LinksNoted) → room ≡ record noted { rooms = noted.rooms + 1 }
    → later.seats ≡ room.seats → later.rooms + 1 ≡ room.rooms → later ≡ noted
room-back noted room later taken seats rooms =
    let same : room.seats ≡ noted.seats = ap (λ (l : LinksNoted). l.seats) taken in
    let more : room.rooms ≡ noted.rooms + 1 = ap (λ (l : LinksNoted). l.rooms) taken in
    noted-is later noted noted.seats (seats ∙ same) (omega (arith, rooms, more))

module _ {L S C : Type 0} (told : L → LinkTold) (node : SharedNode) where
  pub accepted-link : (seat later : NodeSeat) (before given after : ListenerTold)
      (jobs jobs' : SpawnerTold (JobParts L S C)) (noted room noted' : LinksNoted) (link : L)
      (start : Start L) (end : Accepted) → AcceptsLink before given (Some (told link)) false
      → room ≡ record noted { rooms = noted.rooms + 1 }
      → StartsAs (λ (l : L). inputs.Link l) node link seat later jobs jobs' start
      → SettlesLink told given after room noted' start end
      → AcceptsOnce told node (accepting seat before jobs noted)
      (accepting later after jobs' noted') end
  accepted-link seat later before given after jobs jobs' noted room noted' link starts.Started end
      accepts taken started settled =
      subst (λ (e : Accepted). AcceptsOnce told node (accepting seat before jobs noted)
      (accepting later after jobs' noted') e) (sym settled.0) (record {
        link = told link;
        accepts = subst (λ (l : ListenerTold). AcceptsLink before l (Some (told link)) false)
            (sym settled.1) accepts;
        same_seat = started.0;
        job = started.1.0;
        serves = serves-link told node link started.1.0 accepts.link started.1.1;
        starts = started.1.2;
        room = settled.2 ∙ taken;
      })
  accepted-link seat later before given after jobs jobs' noted room noted' link
      (starts.Memory back) end accepts taken started settled =
      subst (λ (e : Accepted). AcceptsOnce told node (accepting seat before jobs noted)
      (accepting later after jobs' noted') e) (sym settled.0) (record {
        link = told link;
        given = given;
        accepts = accepts;
        retired = subst (λ (l : L). after ≡ with_retired given (closed_link (told l)))
            started.0 settled.1.0;
        back = started.1;
        counted = started.2;
        noted = noted-none noted' noted room taken settled.1.1 settled.1.2;
      })
  accepted-link seat later before given after jobs jobs' noted room noted' link
      (starts.Refused back) end accepts taken started settled =
      subst (λ (e : Accepted). AcceptsOnce told node (accepting seat before jobs noted)
      (accepting later after jobs' noted') e) (sym settled.0) (record {
        link = told link;
        given = given;
        accepts = accepts;
        retired = subst (λ (l : L). after ≡ with_retired given (closed_link (told l)))
            started.0 settled.1.0;
        back = started.1;
        counted = started.2;
        noted = noted-none noted' noted room taken settled.1.1 settled.1.2;
      })
