-- Which object outside is the reason of a failure of a command that runs an asking end, and that
-- none is where none has a fault.
use Rattle.std.proofs.Common.{◌≡◌, ◌∙◌, ℕ, ◌<◌, false, List, [], ◌∷◌, Some, None, sym, ap}
use Rattle.std.proofs.Common.{subst, inl, inr}
use Rattle.outside.specs.Sink.{SinkTold}
use Rattle.outside.specs.Links.Links.{LinkTold, closed_link}
use Rattle.outside.specs.Names.Outside.{NameEntry, untold, missing, lent, there, OutsideTold}
use Rattle.outside.specs.Names.Outside.{NetworkTold, HandsOutObject, ClosesOut}
use Rattle.commands.specs.Io.OutsideUse.{FaultyAt, FailedAt, CleanAt, HasReason, Uses}
use Rattle.commands.specs.Io.OutsideUse.{sink_faults, source_faults}
use Rattle.commands.specs.Io.Runs.{output_name}
use Rattle.commands.proofs.OfIo.Entries.{unhanded, handed_faulty, failed_faulty, IsKept, kept_all}
use Rattle.commands.proofs.OfIo.Entries.{sources_between, sinks_between}
use Rattle.commands.proofs.OfIo.Leaving.{CleanAt-after, EachOf-map, SomeOf-map}
use Rattle.tase_tool.specs.Asking.Opening.{OpensEach, OpensBoth, LeavesLink}
use Rattle.tase_tool.specs.Asking.Parts.{HasFaultyObject, HasCleanObjects, link_faults}
use Rattle.tase_tool.proofs.OfAsking.Closed.{IsFaulty}

pub handed_clean : {X : Type 0} (name_of : X → List ℕ) (faults : X → ℕ)
    (entries : List ℕ → NameEntry X) (name : List ℕ) (s : NameEntry X) (x : X)
    → HandsOutObject name_of faults entries name s (Some x) → CleanAt faults s → faults x ≡ 0
handed_clean {X} name_of faults entries name untold x hands clean = hands.0
handed_clean {X} name_of faults entries name missing x hands clean =
    absurd (let e : Some x ≡ None = hands in cc)
handed_clean {X} name_of faults entries name lent x hands clean =
    absurd (let e : Some x ≡ None = hands in cc)
handed_clean {X} name_of faults entries name (there z) x hands clean =
    let same : Some x ≡ Some z = hands.0 in
    let is : x ≡ z = cc in ap faults is ∙ clean

module _ (names : List (List ℕ)) (address : List ℕ) where
  -- ---- what isn't handed out

  pub unopened_faulty : (t a : OutsideTold) → OpensBoth address t a None
      → HasFaultyObject names address t a
  unopened_faulty t a (inl connects) =
      inr (inr (unhanded link_faults (λ link. link.name) t.network.links address
      (t.network.links address) (a.network.links address) connects.link))
  unopened_faulty t a (inr opens) =
      let same : opens.mid.sinks ≡ t.sinks = ap (λ (x : OutsideTold). x.sinks) opens.connects.rest
      in
      inr (inl (inl (subst (λ k. FaultyAt sink_faults (k output_name) (a.sinks output_name)) same
      (unhanded sink_faults (λ sink. sink.name) opens.mid.sinks output_name
      (opens.mid.sinks output_name) (a.sinks output_name) opens.opens.sink))))

  -- ---- what failed while it was handed out

  module _ (t o m a : OutsideTold) (link gone : LinkTold) (sink told : SinkTold)
      (opens : OpensEach address t o link sink) (leaves : LeavesLink o m gone)
      (closes : ClosesOut m a told) (gone_named : gone.name ≡ link.name)
      (told_named : told.name ≡ sink.name) where
    link_failed : 0 < gone.faults → HasFaultyObject names address t a
    link_failed positive =
        let opened : o.network.links ≡ opens.mid.network.links =
        ap (λ (n : NetworkTold). n.links) opens.opens.network in
        let closed : a.network.links ≡ m.network.links =
        ap (λ (n : NetworkTold). n.links) closes.network in
        inr (inr (subst (λ k. FaultyAt link_faults (t.network.links address) (k address))
        (sym closed)
        (handed_faulty link_faults (λ link. link.name) address t.network.links
        opens.mid.network.links o.network.links m.network.links link (closed_link gone)
        opens.connects.link opens.connects.links opened gone_named leaves.links positive)))

    sink_failed : 0 < told.faults → HasFaultyObject names address t a
    sink_failed positive =
        let first : opens.mid.sinks ≡ t.sinks =
        ap (λ (x : OutsideTold). x.sinks) opens.connects.rest in
        let left : m.sinks ≡ o.sinks = ap (λ (x : OutsideTold). x.sinks) leaves.rest in
        inr (inl (inl (subst (λ k. FaultyAt sink_faults (k output_name) (a.sinks output_name))
        first
        (handed_faulty sink_faults (λ sink. sink.name) output_name opens.mid.sinks o.sinks
        m.sinks a.sinks sink told opens.opens.sink opens.opens.sinks left told_named
        closes.sinks positive))))

    pub opened_faulty : IsFaulty gone told → HasFaultyObject names address t a
    opened_faulty (inl positive) = link_failed positive
    opened_faulty (inr positive) = sink_failed positive

  -- ---- what was read and printed

  -- a reason stays one, with what came before
  pub faulty_behind : (b m a : OutsideTold) → IsKept b m → HasFaultyObject names address m a
      → HasFaultyObject names address b a
  faulty_behind b m a first (inl some) =
      inl (sources_between names b m a a first (kept_all a) some)
  faulty_behind b m a first (inr (inl some)) =
      inr (inl (sinks_between (output_name ∷ []) b m a a first (kept_all a) some))
  faulty_behind b m a first (inr (inr faulty)) =
      inr (inr (subst (λ n. FaultyAt link_faults (n.links address) (a.network.links address))
      first.network faulty))

  pub inputs_faulty : (b a : OutsideTold) → HasReason names [] b a
      → HasFaultyObject names address b a
  inputs_faulty b a (inl some) = inl (SomeOf-map names
      (λ name. FailedAt source_faults (b.sources name) (a.sources name))
      (λ name. FaultyAt source_faults (b.sources name) (a.sources name))
      (λ name failed. failed_faulty source_faults (b.sources name) (a.sources name) failed) some)
  inputs_faulty b a (inr none) = absurd none

  pub printing_faulty : (b a : OutsideTold) → HasReason [] (output_name ∷ []) b a
      → HasFaultyObject names address b a
  printing_faulty b a (inl none) = absurd none
  printing_faulty b a (inr (inl failed)) = inr (inl (inl
      (failed_faulty sink_faults (b.sinks output_name) (a.sinks output_name) failed)))
  printing_faulty b a (inr (inr none)) = absurd none

  -- ---- objects without faults

  -- an input was read, and wasn't lost: all are clean still
  pub clean_behind : (reads : List (List ℕ)) (b m : OutsideTold) → Uses reads [] false b m
      → HasCleanObjects names address b → HasCleanObjects names address m
  clean_behind reads b m uses clean = (
    EachOf-map names (λ name. CleanAt source_faults (b.sources name))
        (λ name. CleanAt source_faults (m.sources name))
        (λ name was. CleanAt-after source_faults (b.sources name) (m.sources name)
        (uses.sources.again name) was) clean.0,
    (
      CleanAt-after sink_faults (b.sinks output_name) (m.sinks output_name)
          (uses.sinks.again output_name) clean.1.0,
      tt,
    ),
    subst (λ n. CleanAt link_faults (n.links address)) (sym uses.network) clean.2,
  )

  -- what is handed out is clean
  pub opened_clean : (t o : OutsideTold) (link : LinkTold) (sink : SinkTold)
      → OpensEach address t o link sink → HasCleanObjects names address t
      → (link.faults ≡ 0) × (sink.faults ≡ 0)
  opened_clean t o link sink opens clean =
      let sinks : t.sinks ≡ opens.mid.sinks =
      sym (ap (λ (x : OutsideTold). x.sinks) opens.connects.rest) in (
        handed_clean (λ link. link.name) link_faults t.network.links address
            (t.network.links address) link opens.connects.link clean.2,
        handed_clean (λ sink. sink.name) sink_faults opens.mid.sinks output_name
            (opens.mid.sinks output_name) sink opens.opens.sink
            (subst (λ k. CleanAt sink_faults (k output_name)) sinks clean.1.0),
      )
