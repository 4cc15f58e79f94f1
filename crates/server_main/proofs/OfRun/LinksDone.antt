-- Links that are finished, one after another.
use Rattle.std.proofs.Common.{◌≡◌, ℕ, suc, ◌+◌, List, [], ◌∷◌, ◌++◌, length, refl, ap}
use Rattle.std.proofs.Common.{sym, ◌∙◌, subst, append_assoc, arith, Option, Some, None}
use Rattle.std.proofs.lemmas.List.{append-nil, length-append}
use Rattle.std.specs.Option.{option_map}
use Rattle.std.specs.Arc.{arc_value}
use Rattle.outside.specs.Source.{SourceTold}
use Rattle.outside.specs.Links.Clocks.{ClockTold}
use Rattle.outside.specs.Links.Links.{LinkTold}
use Rattle.outside.specs.Links.Listeners.{ListenerTold, MayRetire, with_retired}
use Rattle.outside.specs.Links.Jobs.{SpawnerTold, FinishesFirst}
use Rattle.share_turn.specs.Entries.{Each}
use Rattle.share_turn.specs.Public.{IsOf}
use Rattle.node_server.specs.TaseConn.declared.stage.ConnEnd.{ConnEnd}
use Rattle.node_server.specs.declared.turn.turn_node.NodeSetup.{NodeSetup}
use Rattle.node_server.specs.NodeCalls.{NodeLog, NodeSeat}
use Rattle.node_server.specs.Links.ServedLinks.{ServesLink}
use Rattle.node_server.proofs.OfLinks.LeftClosed.{fresh_serves}
use Rattle.node_server.specs.Jobs.Running.{MayComeOfJob}
use Rattle.node_server.specs.declared.jobs.parts.JobParts.{JobParts}
use Rattle.node_server.specs.declared.jobs.parts.JobParts.TheVariants as parts
use Rattle.node_server.specs.declared.jobs.done.NodeDone.{NodeDone}
use Rattle.node_server.specs.declared.jobs.done.NodeDone.TheVariants as dones
use Rattle.server_main.specs.declared.run.seats.LinkSeat.{LinkSeat}
use Rattle.server_main.specs.Run.Retiring.{AreOut, with_all_retired}
use Rattle.server_main.specs.Run.Gathering.{SharedNode, IsLinkJob, IsLinkDone, TakesLink, Gathering}
use Rattle.server_main.specs.Run.Gathering.{FinishesLinks, ServedLink, HasServed, laters_of}
use Rattle.server_main.specs.Run.Gathering.{claims_of, noted_of}
use Rattle.server_main.proofs.OfRun.Joined.{gathers-none, gathers-then}
use Rattle.server_main.proofs.OfRun.Came.{may-join, same-number}

-- ---- the listener

twice_retired : (x : LinkTold) (xs : List LinkTold) (links : Option (List LinkTold))
    → option_map (λ (l : List LinkTold). l ++ xs)
    (option_map (λ (l : List LinkTold). l ++ x ∷ []) links)
    ≡ option_map (λ (l : List LinkTold). l ++ x ∷ xs) links
twice_retired x xs None = refl
twice_retired x xs (Some l) = ap Some (append_assoc l (x ∷ []) xs)

retired-more : (listener : ListenerTold) (x : LinkTold) (xs : List LinkTold)
    → with_all_retired (with_retired listener x) xs ≡ with_all_retired listener (x ∷ xs)
retired-more listener x xs =
    ap (λ (links : Option (List LinkTold)). record listener { retired = links })
    (twice_retired x xs listener.retired)

none_retired : (links : Option (List LinkTold))
    → links ≡ option_map (λ (l : List LinkTold). l ++ []) links
none_retired None = refl
none_retired (Some l) = ap Some (sym (append-nil l))

retired-none : (listener : ListenerTold) → listener ≡ with_all_retired listener []
retired-none listener =
    ap (λ (links : Option (List LinkTold)). record listener { retired = links })
    (none_retired listener.retired)

out_may : (many : ℕ) (links : Option (List LinkTold)) (count : Option ℕ)
    (listener : ListenerTold) → AreOut (suc many) (record listener
    { retired = links; accepted = count })
    → MayRetire (record listener { retired = links; accepted = count })
out_may many None count listener out = tt
out_may many (Some l) None listener out = tt
out_may many (Some l) (Some n) listener out = omega (arith, out)

pub out-may : (many : ℕ) (listener : ListenerTold) → AreOut (suc many) listener
    → MayRetire listener
out-may many listener out = out_may many listener.retired listener.accepted listener out

out_less : (many : ℕ) (x : LinkTold) (links : Option (List LinkTold)) (count : Option ℕ)
    (listener : ListenerTold) → AreOut (suc many) (record listener
    { retired = links; accepted = count })
    → AreOut many (with_retired (record listener { retired = links; accepted = count }) x)
out_less many x None count listener out = tt
out_less many x (Some l) None listener out = tt
out_less many x (Some l) (Some n) listener out =
    let long : length (l ++ x ∷ []) ≡ length l + 1 = simp length-append in omega (arith, out, long)

pub out-less : (many : ℕ) (x : LinkTold) (listener : ListenerTold) → AreOut (suc many) listener
    → AreOut many (with_retired listener x)
out-less many x listener out = out_less many x listener.retired listener.accepted listener out

-- ---- one after another

pub links-none : (node : SharedNode) (now : Gathering) → IsOf node now.seat
    → FinishesLinks node 0 now now
links-none node now of = record {
  served = [];
  count = refl;
  each = tt;
  gathers = gathers-none node now.seat of;
  retired = retired-none now.listener;
  noted = sym (append-nil now.seats);
}

module _ {L S C : Type 0} (link_told : L → LinkTold) (feed_told : S → SourceTold)
    (clock_told : C → ClockTold) (node : SharedNode) where
  pub link-done : (job : JobParts L S C) (done : NodeDone L S C) → IsLinkJob link_told node job
      → MayComeOfJob link_told feed_told clock_told job done → IsLinkDone node done
  link-done (parts.Feed centre shared seat source alloc) done f m = absurd f
  link-done (parts.Ticks shared seat clock alloc) done f m = absurd f
  link-done (parts.Conn centre shared seat link alloc) (dones.Feed later left end) f m = absurd m
  link-done (parts.Conn centre shared seat link alloc) (dones.Ticks later left end) f m = absurd m
  link-done (parts.Conn centre shared seat link alloc) (dones.Conn later left end) f m =
      may-join node (arc_value shared) seat later f.1 m.seat_is

  serves-so : (setup setup' : NodeSetup) (seat : NodeSeat) (front : NodeLog)
      (new left left' : LinkTold) (end end' : ConnEnd) → setup ≡ setup' → left ≡ left'
      → end ≡ end' → ServesLink setup seat front new left end
      → ServesLink setup' seat front new left' end'
  serves-so setup setup' seat front new left left' end end' a c d serves =
      subst (λ (x : NodeSetup). ServesLink x seat front new left' end') a
      (subst (λ (x : LinkTold). ServesLink setup seat front new x end') c
      (subst (λ (x : ConnEnd). ServesLink setup seat front new left x) d serves))

  pub links-more : (many : ℕ) (job : JobParts L S C) (done : NodeDone L S C) (before : Gathering)
      (seat : NodeSeat) (back : L) (linked : LinkSeat) (after : Gathering)
      → IsLinkJob link_told node job → MayComeOfJob link_told feed_told clock_told job done
      → TakesLink node before.seat seat done back linked
      → FinishesLinks node many (record {
        seat = seat;
        listener = with_retired before.listener (link_told back);
        seats = before.seats ++ Some linked ∷ [];
      }) after
      → FinishesLinks node (suc many) before after
  links-more many (parts.Feed centre shared seat source alloc) done before mid back linked after f
      m t rest = absurd f
  links-more many (parts.Ticks shared seat clock alloc) done before mid back linked after f m t
      rest = absurd f
  links-more many (parts.Conn centre shared seat link alloc) (dones.Feed later left end) before mid
      back linked after f m t rest = absurd m
  links-more many (parts.Conn centre shared seat link alloc) (dones.Ticks later left end) before mid
      back linked after f m t rest = absurd m
  links-more many (parts.Conn centre shared seat link alloc) (dones.Conn later left end) before mid
      back linked after f m t rest =
      let at_seat : later.number ≡ linked.seat = sym (ap (λ (x : LinkSeat). x.seat) t.1) in
      let one : ServedLink = record {
        later = link_told back;
        linked = linked;
        claim = (later.number, later.front);
      } in
      let served : HasServed node.setup one = record {
        new = link_told link;
        is_new = f.0;
        seat = seat;
        number = same-number seat later m.seat_is ∙ at_seat;
        none = f.1.none;
        claimed = at_seat;
        serves = serves-so (arc_value shared).setup node.setup seat later.front (link_told link)
            (link_told left) (link_told back) end linked.end
            (ap (λ (x : SharedNode). x.setup) f.1.same) (ap link_told (sym t.0))
            (sym (ap (λ (x : LinkSeat). x.end) t.1))
            (fresh_serves (arc_value shared).setup seat later.front (link_told link)
            (link_told left) end f.1.none m.serves);
      } in
      record {
        served = one ∷ rest.served;
        count = ap suc rest.count;
        each = (served, rest.each);
        gathers = gathers-then node before.seat mid after.seat ((later.number, later.front) ∷ [])
            (claims_of rest.served) t.2 rest.gathers;
        retired = rest.retired
            ∙ retired-more before.listener (link_told back) (laters_of rest.served);
        noted = rest.noted ∙ append_assoc before.seats (Some linked ∷ []) (noted_of rest.served);
      }

  -- ---- a turn of the loop

  pub takes-of : (before after : NodeSeat) (done : NodeDone L S C) (back : L) (linked : LinkSeat)
      → TakesLink node before after done back linked → IsOf node after
  takes-of before after (dones.Conn later left end) back linked t = t.2.of
  takes-of before after (dones.Feed later left end) back linked t = absurd t
  takes-of before after (dones.Ticks later left end) back linked t = absurd t

  pub pending-more : (told later : SpawnerTold (JobParts L S C)) (done : NodeDone L S C)
      → FinishesFirst (MayComeOfJob link_told feed_told clock_told) told later (Some done)
      → length told.pending ≡ suc (length later.pending)
  pending-more told later done some =
      ap (λ (b : SpawnerTold (JobParts L S C)). length b.pending) some.2

  first-jobs : (told later : SpawnerTold (JobParts L S C)) (done : NodeDone L S C)
      (some : FinishesFirst (MayComeOfJob link_told feed_told clock_told) told later (Some done))
      → Each (IsLinkJob link_told node) told.pending
      → Each (IsLinkJob link_told node) (some.0 ∷ later.pending)
  first-jobs told later done some jobs =
      let P : SpawnerTold (JobParts L S C) → Type 0 =
      λ b. Each (IsLinkJob link_told node) b.pending in subst P some.2 jobs

  pub link-came : (told later : SpawnerTold (JobParts L S C)) (done : NodeDone L S C)
      → FinishesFirst (MayComeOfJob link_told feed_told clock_told) told later (Some done)
      → Each (IsLinkJob link_told node) told.pending → IsLinkDone node done
  link-came told later done some jobs =
      let all : Each (IsLinkJob link_told node) (some.0 ∷ later.pending) =
      first-jobs told later done some jobs in link-done some.0 done all.0 some.1

  pub jobs-left : (told later : SpawnerTold (JobParts L S C)) (done : NodeDone L S C)
      → FinishesFirst (MayComeOfJob link_told feed_told clock_told) told later (Some done)
      → Each (IsLinkJob link_told node) told.pending
      → Each (IsLinkJob link_told node) later.pending
  jobs-left told later done some jobs =
      let all : Each (IsLinkJob link_told node) (some.0 ∷ later.pending) =
      first-jobs told later done some jobs in all.1

  pub may-retire : (told later : SpawnerTold (JobParts L S C)) (done : NodeDone L S C)
      (listener : ListenerTold)
      → FinishesFirst (MayComeOfJob link_told feed_told clock_told) told later (Some done)
      → AreOut (length told.pending) listener → MayRetire listener
  may-retire told later done listener some out = out-may (length later.pending) listener
      (subst (λ (n : ℕ). AreOut n listener) (pending-more told later done some) out)

  pub out-left : (told later : SpawnerTold (JobParts L S C)) (done : NodeDone L S C) (x : LinkTold)
      (listener next : ListenerTold)
      → FinishesFirst (MayComeOfJob link_told feed_told clock_told) told later (Some done)
      → next ≡ with_retired listener x → AreOut (length told.pending) listener
      → AreOut (length later.pending) next
  out-left told later done x listener next some is out =
      subst (AreOut (length later.pending)) (sym is) (out-less (length later.pending) x listener
      (subst (λ (n : ℕ). AreOut n listener) (pending-more told later done some) out))

  pub same-left : (first told later : SpawnerTold (JobParts L S C)) (done : NodeDone L S C)
      → FinishesFirst (MayComeOfJob link_told feed_told clock_told) told later (Some done)
      → first ≡ record told { pending = first.pending }
      → first ≡ record later { pending = first.pending }
  same-left first told later done some same =
      subst (λ (b : SpawnerTold (JobParts L S C)). first ≡ record b { pending = first.pending })
      some.2 same

  pub goes-on : (told later : SpawnerTold (JobParts L S C)) (done : NodeDone L S C)
      (before : Gathering) (seat : NodeSeat) (back : L) (linked : LinkSeat)
      (listener : ListenerTold) (seats : List (Option LinkSeat)) (after : Gathering)
      → FinishesFirst (MayComeOfJob link_told feed_told clock_told) told later (Some done)
      → Each (IsLinkJob link_told node) told.pending
      → TakesLink node before.seat seat done back linked
      → listener ≡ with_retired before.listener (link_told back)
      → seats ≡ before.seats ++ Some linked ∷ []
      → FinishesLinks node (length later.pending)
      (record { seat = seat; listener = listener; seats = seats }) after
      → FinishesLinks node (length told.pending) before after
  goes-on told later done before seat back linked listener seats after some jobs takes l s rest =
      let all : Each (IsLinkJob link_told node) (some.0 ∷ later.pending) =
      first-jobs told later done some jobs in
      subst (λ (n : ℕ). FinishesLinks node n before after)
      (sym (pending-more told later done some))
      (links-more (length later.pending) some.0 done before seat back linked after all.0 some.1
      takes (subst (λ (x : ListenerTold). FinishesLinks node (length later.pending)
      (record { seat = seat; listener = x; seats = before.seats ++ Some linked ∷ [] }) after) l
      (subst (λ (x : List (Option LinkSeat)). FinishesLinks node (length later.pending)
      (record { seat = seat; listener = listener; seats = x }) after) s rest)))

  pub all-done : (told : SpawnerTold (JobParts L S C)) (now : Gathering) → told.pending ≡ []
      → IsOf node now.seat → FinishesLinks node (length told.pending) now now
  all-done told now none of =
      subst (λ (n : ℕ). FinishesLinks node n now now)
      (sym (ap (λ (l : List (JobParts L S C)). length l) none)) (links-none node now of)

  pub none-left : (first told later : SpawnerTold (JobParts L S C))
      → first ≡ record told { pending = first.pending } → told.pending ≡ [] → later ≡ told
      → later ≡ record first { pending = [] }
  none-left first told later same none is = is
      ∙ (ap (λ (p : List (JobParts L S C)). record told { pending = p }) none
      ∙ sym (ap (λ (x : SpawnerTold (JobParts L S C)). record x { pending = [] }) same))
