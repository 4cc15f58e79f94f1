-- A call of accept keeps what stands while links are accepted.
use Rattle.std.proofs.Common.{◌≡◌, ◌≤◌, ℕ, ◌+◌, List, [], ◌∷◌, ◌++◌, length, ap, sym, ◌∙◌}
use Rattle.std.proofs.Common.{subst, append_assoc, arith, Bool, true, false, Option, Some, None}
use Rattle.std.proofs.lemmas.List.{length-append}
use Rattle.std.specs.Option.{option_map}
use Rattle.outside.specs.Links.Links.{LinkTold, closed_link}
use Rattle.outside.specs.Links.Listeners.{ListenerTold, AcceptsLink, with_link, with_retired}
use Rattle.outside.specs.Links.Jobs.{SpawnerTold}
use Rattle.share_turn.specs.Entries.{Each}
use Rattle.share_turn.specs.Public.{IsOf}
use Rattle.node_server.specs.NodeCalls.{NodeSeat}
use Rattle.node_server.specs.declared.jobs.parts.JobParts.{JobParts}
use Rattle.server_main.specs.declared.run.accepting.Accepted.{Accepted}
use Rattle.server_main.specs.declared.run.accepting.Accepted.TheVariants as ends
use Rattle.server_main.specs.Run.Gathering.{SharedNode, IsLinkJob}
use Rattle.server_main.specs.Run.Retiring.{LinksNoted, AreOut}
use Rattle.server_main.specs.Run.Accepting.{Accepting, AcceptsOnce, GivesNone, Serves, TurnsAway}
use Rattle.server_main.specs.Run.Serving.{IsServing}

-- ---- links that are out

out_more : (many more : ℕ) (given : Option LinkTold) (retired : Option (List LinkTold))
    (accepted : Option ℕ) (listener : ListenerTold) → ((n : ℕ) → n + more ≤ with_link given n)
    → AreOut many (record listener { retired = retired; accepted = accepted })
    → AreOut (many + more) (record listener
    { retired = retired; accepted = option_map (with_link given) accepted })
out_more many more given None accepted listener rises out = tt
out_more many more given (Some l) None listener rises out = tt
out_more many more given (Some l) (Some n) listener rises out =
    let up : n + more ≤ with_link given n = rises n in omega (arith, out, up)

-- so many links more are out by what accept gave
out-given : (many more : ℕ) (given : Option LinkTold) (failed : Bool)
    (before after : ListenerTold) → AcceptsLink before after given failed
    → ((n : ℕ) → n + more ≤ with_link given n) → AreOut many before → AreOut (many + more) after
out-given many more given failed before after accepts rises out =
    let P : Option (List LinkTold) → Option ℕ → Type 0 =
    λ r a. AreOut (many + more) (record after { retired = r; accepted = a }) in
    subst (λ (r : Option (List LinkTold)). P r after.accepted) (sym accepts.retired)
    (subst (λ (a : Option ℕ). P before.retired a) (sym accepts.accepted)
    (out_more many more given before.retired before.accepted before rises out))

out_retired : (many : ℕ) (x : LinkTold) (retired : Option (List LinkTold)) (accepted : Option ℕ)
    (listener : ListenerTold) → AreOut (many + 1) (record listener
    { retired = retired; accepted = accepted })
    → AreOut many (with_retired (record listener { retired = retired; accepted = accepted }) x)
out_retired many x None accepted listener out = tt
out_retired many x (Some l) None listener out = tt
out_retired many x (Some l) (Some n) listener out =
    let long : length (l ++ x ∷ []) ≡ length l + 1 = simp length-append in omega (arith, out, long)

-- ---- one more job

module _ {A : Type 0} (P : A → Type 0) where
  each-more : (xs : List A) (x : A) → Each P xs → P x → Each P (xs ++ x ∷ [])
  each-more [] x all one = (one, tt)
  each-more (y ∷ ys) x all one = (all.0, each-more ys x all.1 one)

module _ {L S C : Type 0} (told : L → LinkTold) (node : SharedNode) where
  -- no link was given
  none-given : (first : List (JobParts L S C)) (failed : Bool) (before after : Accepting L S C)
      → IsServing told node first before → GivesNone failed before after
      → IsServing told node first after
  none-given first failed before after serving gives = record {
    of = subst (λ (s : NodeSeat). IsOf node s) (sym gives.same_seat) serving.of;
    serving = serving.serving;
    pending = ap (λ (s : SpawnerTold (JobParts L S C)). s.pending) gives.same_jobs
        ∙ serving.pending;
    jobs = serving.jobs;
    rooms = subst (λ (l : LinksNoted). length serving.serving ≤ l.rooms) (sym gives.same_links)
        serving.rooms;
    out = subst (λ (n : ℕ). AreOut n after.listener) (omega arith)
        (out-given (length serving.serving) 0 None failed before.listener after.listener
        gives.accepts (λ n. omega arith) serving.out);
  }

  -- a job was started
  one-serves : (first : List (JobParts L S C)) (before after : Accepting L S C)
      → IsServing told node first before → Serves told node before after
      → IsServing told node first after
  one-serves first before after serving serves =
      let long : length (serving.serving ++ serves.job ∷ []) ≡ length serving.serving + 1 =
      simp length-append in
      let room : after.links.rooms ≡ before.links.rooms + 1 =
      ap (λ (l : LinksNoted). l.rooms) serves.room in
      let had : length serving.serving ≤ before.links.rooms = serving.rooms in
      record {
        of = subst (λ (s : NodeSeat). IsOf node s) (sym serves.same_seat) serving.of;
        serving = serving.serving ++ serves.job ∷ [];
        pending = ap (λ (s : SpawnerTold (JobParts L S C)). s.pending) serves.starts
            ∙ (ap (λ (p : List (JobParts L S C)). p ++ serves.job ∷ []) serving.pending
            ∙ append_assoc first serving.serving (serves.job ∷ []));
        jobs = each-more (IsLinkJob told node) serving.serving serves.job serving.jobs
            serves.serves;
        rooms = omega (arith, long, room, had);
        out = subst (λ (n : ℕ). AreOut n after.listener) (sym long)
            (out-given (length serving.serving) 1 (Some serves.link) false before.listener
            after.listener serves.accepts (λ n. omega arith) serving.out);
      }

  -- it was turned away
  one-retired : (first : List (JobParts L S C)) (faults : ℕ) (before after : Accepting L S C)
      → IsServing told node first before → TurnsAway node faults before after
      → IsServing told node first after
  one-retired first faults before after serving away = record {
    of = away.back.of;
    serving = serving.serving;
    pending = ap (λ (s : SpawnerTold (JobParts L S C)). s.pending) away.counted
        ∙ serving.pending;
    jobs = serving.jobs;
    rooms = subst (λ (l : LinksNoted). length serving.serving ≤ l.rooms) (sym away.noted)
        serving.rooms;
    out = subst (λ (l : ListenerTold). AreOut (length serving.serving) l) (sym away.retired)
        (out_retired (length serving.serving) (closed_link away.link) away.given.retired
        away.given.accepted away.given
        (out-given (length serving.serving) 1 (Some away.link) false before.listener away.given
        away.accepts (λ n. omega arith) serving.out));
  }

  pub kept-serving : (first : List (JobParts L S C)) (before after : Accepting L S C)
      (end : Accepted) → IsServing told node first before
      → AcceptsOnce told node before after end → IsServing told node first after
  kept-serving first before after ends.Serving serving accepts =
      one-serves first before after serving accepts
  kept-serving first before after ends.TurnedAway serving accepts =
      one-retired first _ before after serving accepts
  kept-serving first before after ends.NoLink serving accepts =
      none-given first false before after serving accepts
  kept-serving first before after ends.Fault serving accepts =
      none-given first true before after serving accepts
  kept-serving first before after ends.NoRoom serving accepts =
      subst (λ (a : Accepting L S C). IsServing told node first a) (sym accepts) serving
  kept-serving first before after ends.Memory serving accepts =
      one-retired first _ before after serving accepts
