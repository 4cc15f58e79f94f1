-- What a link's peer is sent, in two worlds that are alike for it.
use Rattle.std.proofs.Common.{◌≡◌, ℕ, Bool, List, [], ◌∷◌, ◌++◌, Option, Some, None, not}
use Rattle.std.proofs.Common.{refl, ap, ◌∙◌, if◌then◌else◌}
use Rattle.bilateral.specs.Rows.{CentreRows}
use Rattle.sbo_device.specs.declared.key.Key.{Key}
use Rattle.stack_assoc.specs.Arrivals.{called}
use Rattle.stack_assoc.specs.Expectations.{setup_after}
use Rattle.stack_assoc.specs.Handing.{answers_to}
use Rattle.stack_assoc.specs.Wire.Tsdus.{refusal_tsdu}
use Rattle.tpkt_cotp.specs.Written.{wire}
use Rattle.tase_views.specs.History.{Past}
use Rattle.tase_views.specs.OwnTables.{OwnTables, own_tables}
use Rattle.tase_views.specs.View.{View, view_of}
use Rattle.tase_conn.specs.Map.Inputs.{Item, text_given, link_has_ended}
use Rattle.tase_conn.specs.Map.Readings.{Reading, reading_of}
use Rattle.tase_conn.specs.Map.Turns.{Turn, offers, offers_badly, asks, concludes, releases, aborts}
use Rattle.tase_conn.specs.Map.Turns.{breaks, ends, pauses, turns_told}
use Rattle.tase_conn.specs.Map.Asks.{is_peers}
use Rattle.tase_conn.specs.Map.Out.{octets_out, is_declined, early_octets}
use Rattle.tase_conn.specs.Map.Sent.{association_octets}
use Rattle.tase_conn.specs.Map.Linked.{opened_in, link_octets}

-- an association is sent the same over the same own tables and the same view
sent-alike : (here there : CentreRows) (past other_past : Past) (key other : Key) (text : List ℕ)
    (ended : Bool)
    → own_tables here key.peer ≡ own_tables there other.peer
    → view_of here key.peer past ≡ view_of there other.peer other_past
    → key.ordinal ≡ other.ordinal
    → association_octets here past key text ended ≡ association_octets there other_past other text ended
sent-alike here there past other_past key other text ended table view ordinal =
    ap (λ (t : OwnTables). octets_out t (view_of here key.peer past) key.ordinal text ended) table
    ∙ ap (λ (v : View). octets_out (own_tables there other.peer) v key.ordinal text ended) view
    ∙ ap (λ (n : ℕ). octets_out (own_tables there other.peer)
    (view_of there other.peer other_past) n text ended) ordinal

pub associated-alike : (here there : CentreRows) (past other_past : Past) (who seat : ℕ)
    (items : List Item) (key other : Key)
    → opened_in past who ≡ Some key → opened_in other_past seat ≡ Some other
    → own_tables here key.peer ≡ own_tables there other.peer
    → view_of here key.peer past ≡ view_of there other.peer other_past
    → key.ordinal ≡ other.ordinal
    → link_octets here past who items ≡ link_octets there other_past seat items
associated-alike here there past other_past who seat items key other opened others table view
    ordinal = rw (opened, others)
    (sent-alike here there past other_past key other (text_given items) (link_has_ended items) table view
    ordinal)

-- an offer is declined where its title is no peer's
declined-alike : (here there : CentreRows)
    → ((title : Option (List ℕ)) → is_peers here title ≡ is_peers there title)
    → (turns : List Turn) → is_declined here turns ≡ is_declined there turns
declined-alike here there same [] = refl
declined-alike here there same (offers title ∷ turns) = ap not (same title)
declined-alike here there same (offers_badly ∷ turns) = refl
declined-alike here there same (asks invoke call ∷ turns) = refl
declined-alike here there same (concludes ∷ turns) = refl
declined-alike here there same (releases ∷ turns) = refl
declined-alike here there same (aborts ∷ turns) = refl
declined-alike here there same (breaks ∷ turns) = refl
declined-alike here there same (ends ∷ turns) = refl
declined-alike here there same (pauses ∷ turns) = refl

early-alike : (here there : CentreRows) (text : List ℕ)
    → ((title : Option (List ℕ)) → is_peers here title ≡ is_peers there title)
    → early_octets here text ≡ early_octets there text
early-alike here there text same =
    let reading : Reading = reading_of text in
    let refusal : List ℕ = wire (setup_after reading.told).size
    (refusal_tsdu (setup_after reading.told).acse) in
    ap (λ (declined : Bool). answers_to called reading.told
    ++ (if declined then refusal else []))
    (declined-alike here there same (turns_told reading))

pub unopened-alike : (here there : CentreRows) (past other_past : Past) (who seat : ℕ)
    (items : List Item) → opened_in past who ≡ None → opened_in other_past seat ≡ None
    → ((title : Option (List ℕ)) → is_peers here title ≡ is_peers there title)
    → link_octets here past who items ≡ link_octets there other_past seat items
unopened-alike here there past other_past who seat items opened others same =
    rw (opened, others) (early-alike here there (text_given items) same)
