-- A run of `discover`: what it answers, and why a failure is answered.
use Rattle.std.proofs.Common.{◌≡◌, ◌≢◌, ◌⊎◌, ◌∙◌, ℕ, Bool, [], ◌∷◌, refl, sym, ap, subst, inl, inr}
use Rattle.std.specs.Prelude.{Option, Some, None, Result, Ok, Err, codes}
use Rattle.outside.specs.Names.Outside.{OutsideTold}
use Rattle.bilateral.specs.Rows.{CentreRows, place_of_peer}
use Rattle.commands.specs.declared.io.status.Status.{Status}
use Rattle.commands.specs.declared.io.status.Status.TheVariants as statuses
use Rattle.commands.specs.declared.io.input.TheConstants.{TEXT_LIMIT}
use Rattle.commands.specs.declared.io.input.Refusal.TheVariants.{BadKey}
use Rattle.commands.specs.declared.io.input.InputEnd.{InputEnd}
use Rattle.commands.specs.declared.io.input.InputEnd.TheVariants.{Refused, Outside, Memory}
use Rattle.commands.specs.Io.Statuses.{is_outside}
use Rattle.commands.specs.Io.OutsideUse.{Rises}
use Rattle.commands.specs.Io.Runs.{EndsUnread}
use Rattle.commands.specs.Io.Plans.{ReadsValue}
use Rattle.commands.proofs.OfIo.Leaving.{Rises-after}
use Rattle.commands.specs.Words.Words.{DiscoverTask}
use Rattle.commands.specs.Files.Tables.{tables_in}
use Rattle.tase_tool.specs.Asking.Ending.{finish_status}
use Rattle.tase_tool.specs.Asking.Parts.{HasFaultyObject, HasCleanObjects}
use Rattle.tase_tool.specs.Discover.Discovering.{ListsPeer, ListsByKey, ListsBehind}
use Rattle.tase_tool.specs.Discover.Discovering.{IsListed}
use Rattle.tase_tool.specs.Discover.Ending.{ended_text, offers_same}
use Rattle.tase_tool.proofs.OfAsking.Faults.{unopened_rises}
use Rattle.tase_tool.proofs.OfAsking.Inputs.{behind_unread, input_kept, read_same, read_unlost}
use Rattle.tase_tool.proofs.OfAsking.Inputs.{tables_grow, tables_rise, unread_same}
use Rattle.tase_tool.proofs.OfAsking.Inputs.{unread_unasked, unread_unfinished, value_lost}
use Rattle.tase_tool.proofs.OfAsking.Inputs.{value_or_lost}
use Rattle.tase_tool.proofs.OfAsking.Objects.{clean_behind, faulty_behind, inputs_faulty}
use Rattle.tase_tool.proofs.OfAsking.Objects.{printing_faulty, unopened_faulty}
use Rattle.tase_tool.proofs.OfAsking.Told.{finish_fits, finish_lasts, run_finished, run_unasked}
use Rattle.tase_tool.proofs.OfDiscover.Listed.{node_faulty, node_rises, node_same}

-- ---- behind the key

-- the refusal of the key
module _ (task : DiscoverTask) (before after : OutsideTold) (status : Status) where
  key_rises : EndsUnread (codes "tables") (Refused BadKey) before after status
      → status ≡ statuses.Outside → Rises before.faults after.faults
  key_rises ends is = ends.0.uses.counted.cause (ap is_outside is)

  key_faulty : EndsUnread (codes "tables") (Refused BadKey) before after status
      → status ≡ statuses.Outside
      → HasFaultyObject (task.tables ∷ []) task.address before after
  key_faulty ends is = printing_faulty (task.tables ∷ []) task.address before after
      (ends.0.uses.counted.reason (ap is_outside is))

module _ (task : DiscoverTask) (rows : CentreRows) (before after : OutsideTold) (status : Status)
  where
    peer_rises : (peer : ℕ) → ListsPeer task rows peer before after status
        → status ≡ statuses.Outside → Rises before.faults after.faults
    peer_rises peer (inl (inl over)) is = node_rises task rows peer before after status over is
    peer_rises peer (inl (inr unreached)) is =
        unopened_rises task.address before after unreached.unopened
    peer_rises peer (inr wanting) is = absurd cc

    peer_faulty : (peer : ℕ) → ListsPeer task rows peer before after status
        → status ≡ statuses.Outside
        → HasFaultyObject (task.tables ∷ []) task.address before after
    peer_faulty peer (inl (inl over)) is = node_faulty task rows peer before after status over is
    peer_faulty peer (inl (inr unreached)) is =
        unopened_faulty (task.tables ∷ []) task.address before after unreached.unopened
    peer_faulty peer (inr wanting) is = absurd cc

    peer_same : (peer : ℕ) → ListsPeer task rows peer before after status
        → HasCleanObjects (task.tables ∷ []) task.address before → status ≢ statuses.Outside
        → after.faults ≡ before.faults
    peer_same peer (inl (inl over)) clean other =
        node_same task rows peer before after status over clean other
    peer_same peer (inl (inr unreached)) clean other = absurd (other unreached.answers)
    peer_same peer (inr wanting) clean other = ap (λ (o : OutsideTold). o.faults) wanting.1

    peer_unasked : (peer : ℕ) → ListsPeer task rows peer before after status
        → status ≡ statuses.Usage → ⊥
    peer_unasked peer (inl (inl over)) is =
        run_unasked (offers_same over.lists.asking) (ended_text over.lists.asking) over.lists.end
        over.lists.shown over.lists.told status over.lists.tells is
    peer_unasked peer (inl (inr unreached)) is = absurd cc
    peer_unasked peer (inr wanting) is = absurd cc

    by_key_rises : (found : Option ℕ) → ListsByKey task rows found before after status
        → status ≡ statuses.Outside → Rises before.faults after.faults
    by_key_rises None goes is = key_rises task before after status goes is
    by_key_rises (Some peer) goes is = peer_rises peer goes is

    by_key_faulty : (found : Option ℕ) → ListsByKey task rows found before after status
        → status ≡ statuses.Outside
        → HasFaultyObject (task.tables ∷ []) task.address before after
    by_key_faulty None goes is = key_faulty task before after status goes is
    by_key_faulty (Some peer) goes is = peer_faulty peer goes is

    by_key_same : (found : Option ℕ) → ListsByKey task rows found before after status
        → HasCleanObjects (task.tables ∷ []) task.address before → status ≢ statuses.Outside
        → after.faults ≡ before.faults
    by_key_same None goes clean other = unread_same (codes "tables") (Refused BadKey) before after
        status goes clean.1.0 other
    by_key_same (Some peer) goes clean other = peer_same peer goes clean other

    by_key_unasked : (found : Option ℕ) → ListsByKey task rows found before after status
        → status ≡ statuses.Usage → ⊥
    by_key_unasked None goes is =
        unread_unasked (codes "tables") (Refused BadKey) before after status goes is
    by_key_unasked (Some peer) goes is = peer_unasked peer goes is

-- ---- behind the tables

pub command_rises : (task : DiscoverTask) (read : Result CentreRows InputEnd) (b m a : OutsideTold)
    (status : Status) → ReadsValue tables_in task.tables TEXT_LIMIT read b m
    → ListsBehind task read m a status → status ≡ statuses.Outside → Rises b.faults a.faults
command_rises task (Ok rows) b m a status reads goes is =
    Rises-after b.faults m.faults a.faults
    (tables_grow tables_in task.tables TEXT_LIMIT (Ok rows) b m reads)
    (by_key_rises task rows m a status (place_of_peer rows task.key) goes is)
command_rises task (Err end) b m a status reads goes is =
    behind_unread (codes "tables") end b m a status
    (tables_grow tables_in task.tables TEXT_LIMIT (Err end) b m reads)
    (λ same. tables_rise tables_in task.tables TEXT_LIMIT (Err end) b m reads
    (ap (λ (e : InputEnd). Err e) same)) goes is

pub command_unasked : (task : DiscoverTask) (read : Result CentreRows InputEnd) (m a : OutsideTold)
    (status : Status) → ListsBehind task read m a status → status ≡ statuses.Usage → ⊥
command_unasked task (Ok rows) m a status goes is =
    by_key_unasked task rows m a status (place_of_peer rows task.key) goes is
command_unasked task (Err end) m a status goes is =
    unread_unasked (codes "tables") end m a status goes is

unread_faulty : (task : DiscoverTask) (end : InputEnd) (m a : OutsideTold) (status : Status)
    → EndsUnread (codes "tables") end m a status → status ≡ statuses.Outside
    → HasFaultyObject (task.tables ∷ []) task.address m a ⊎ ((end ≡ Outside) × (a ≡ m))
unread_faulty task (Refused refusal) m a status ends is =
    inl (printing_faulty (task.tables ∷ []) task.address m a
    (ends.0.uses.counted.reason (ap is_outside is)))
unread_faulty task Outside m a status ends is = inr (refl, ends.1)
unread_faulty task Memory m a status ends is = absurd cc

pub command_reason : (task : DiscoverTask) (read : Result CentreRows InputEnd)
    (b m a : OutsideTold) (status : Status) → ReadsValue tables_in task.tables TEXT_LIMIT read b m
    → ListsBehind task read m a status → status ≡ statuses.Outside
    → HasFaultyObject (task.tables ∷ []) task.address b a
command_reason task (Ok rows) b m a status reads goes is =
    faulty_behind (task.tables ∷ []) task.address b m a
    (input_kept b m task.tables TEXT_LIMIT reads.0 reads.1)
    (by_key_faulty task rows m a status (place_of_peer rows task.key) goes is)
command_reason task (Err end) b m a status reads goes is =
    elim (unread_faulty task end m a status goes is) [
      | inl later ↦ faulty_behind (task.tables ∷ []) task.address b m a
          (input_kept b m task.tables TEXT_LIMIT reads.0 reads.1) later
      | inr same ↦
          subst (λ (o : OutsideTold). HasFaultyObject (task.tables ∷ []) task.address b o)
          (sym same.1)
          (inputs_faulty (task.tables ∷ []) task.address b m (reads.1.opens.uses.counted.reason
          (value_lost tables_in reads.0 (Err end) reads.2
          (ap (λ (e : InputEnd). Err e) same.0))))
    ]

behind_same : (task : DiscoverTask) (read : Result CentreRows InputEnd) (m a : OutsideTold)
    (status : Status) → ListsBehind task read m a status
    → HasCleanObjects (task.tables ∷ []) task.address m → status ≢ statuses.Outside
    → a.faults ≡ m.faults
behind_same task (Ok rows) m a status goes clean other =
    by_key_same task rows m a status (place_of_peer rows task.key) goes clean other
behind_same task (Err end) m a status goes clean other =
    unread_same (codes "tables") end m a status goes clean.1.0 other

lost_tables : {P : Type 0} (task : DiscoverTask) (read : Result CentreRows InputEnd)
    (m a : OutsideTold) (status : Status) → read ≡ Err Outside
    → ListsBehind task read m a status → status ≢ statuses.Outside → P
lost_tables {P} task read m a status lost goes other =
    let ended : ListsBehind task (Err Outside) m a status =
    subst (λ (r : Result CentreRows InputEnd). ListsBehind task r m a status) lost goes in
    absurd (other ended.0)

pub command_same : (task : DiscoverTask) (read : Result CentreRows InputEnd) (b m a : OutsideTold)
    (status : Status) → ReadsValue tables_in task.tables TEXT_LIMIT read b m
    → ListsBehind task read m a status → HasCleanObjects (task.tables ∷ []) task.address b
    → status ≢ statuses.Outside → a.faults ≡ b.faults
command_same task read b m a status reads goes clean other =
    elim (value_or_lost tables_in reads.0 read reads.2) [
      | inl kept ↦
          let uses = read_unlost b m task.tables TEXT_LIMIT reads.0 reads.1 kept in
          behind_same task read m a status goes
          (clean_behind (task.tables ∷ []) task.address (task.tables ∷ []) b m uses clean) other
          ∙ read_same b m task.tables uses clean.0.0
      | inr lost ↦ lost_tables task read m a status lost goes other
    ]

-- ---- all was listed

peer_listed : (task : DiscoverTask) (rows : CentreRows) (peer : ℕ) (same : Bool)
    (b m a : OutsideTold) → ReadsValue tables_in task.tables TEXT_LIMIT (Ok rows) b m
    → place_of_peer rows task.key ≡ Some peer
    → ListsPeer task rows peer m a (finish_status same) → IsListed task same b a
peer_listed task rows peer same b m a tables key (inl (inl over)) =
    let f = run_finished (offers_same over.lists.asking) (ended_text over.lists.asking)
    over.lists.end over.lists.shown over.lists.told same over.lists.tells in
    record {
      rows = rows;
      peer = peer;
      mid = m;
      tables = tables;
      key = key;
      lists = over;
      finished = f.0;
      alike = f.1;
    }
peer_listed task rows peer same b m a tables key (inl (inr unreached)) =
    absurd (finish_lasts same unreached.answers)
peer_listed task rows peer same b m a tables key (inr wanting) =
    absurd (finish_fits same wanting.0)

by_key_listed : (task : DiscoverTask) (rows : CentreRows) (found : Option ℕ) (same : Bool)
    (b m a : OutsideTold) → ReadsValue tables_in task.tables TEXT_LIMIT (Ok rows) b m
    → place_of_peer rows task.key ≡ found
    → ListsByKey task rows found m a (finish_status same) → IsListed task same b a
by_key_listed task rows None same b m a tables key goes =
    unread_unfinished (codes "tables") (Refused BadKey) m a same goes
by_key_listed task rows (Some peer) same b m a tables key goes =
    peer_listed task rows peer same b m a tables key goes

behind_listed : (task : DiscoverTask) (read : Result CentreRows InputEnd) (same : Bool)
    (b m a : OutsideTold) → ReadsValue tables_in task.tables TEXT_LIMIT read b m
    → ListsBehind task read m a (finish_status same) → IsListed task same b a
behind_listed task (Ok rows) same b m a tables goes =
    by_key_listed task rows (place_of_peer rows task.key) same b m a tables refl goes
behind_listed task (Err end) same b m a tables goes =
    unread_unfinished (codes "tables") end m a same goes

pub command_listed : (task : DiscoverTask) (read : Result CentreRows InputEnd) (same : Bool)
    (b m a : OutsideTold) (status : Status)
    → ReadsValue tables_in task.tables TEXT_LIMIT read b m
    → ListsBehind task read m a status → status ≡ finish_status same → IsListed task same b a
command_listed task read same b m a status tables goes is =
    behind_listed task read same b m a tables
    (subst (λ (s : Status). ListsBehind task read m a s) is goes)
