-- The indexes of peers behind what becomes of their parts.
use Rattle.std.proofs.Common.{◌≡◌, ◌≢◌, ◌==◌, ℕ, zero, suc, ◌+◌, ◌<◌, ◌≤◌, Bool, true, false}
use Rattle.std.proofs.Common.{not, ◌&&◌, ◌++◌}
use Rattle.std.proofs.Common.{List, [], ◌∷◌, length, set, Some, refl, sym, ap}
use Rattle.std.proofs.Common.{subst, ◌∙◌, ⊎_elim, arith, length-set, slice_get, get_or}
use Rattle.std.proofs.Common.{get_or-set_same}
use Rattle.std.proofs.Common.{get_or-set_other}
use Rattle.std.specs.Prelude.{slice_set, nat_lt, if◌then◌else◌}
use Rattle.std.proofs.lemmas.Bool.{cases_eq, cases_lt, eqb-true}
use Rattle.std.proofs.lemmas.Option.{slice_get_within, same_Some, slice_get-get_or, slice_get_read}
use Rattle.std.proofs.lemmas.Option.{slice_get_past, get_or_from_slice_get}
use Rattle.bilateral.specs.declared.rows.TheConstants.{SLOT_LIMIT}
use Rattle.bilateral.specs.Rows.{CentreRows, IsCentre, point_of, variants_of, variant_of}
use Rattle.data_sets.specs.Books.{Book}
use Rattle.transfer_sets.specs.declared.wish.Wish.{Wish}
use Rattle.transfer_sets.specs.SlotState.{SlotState}
use Rattle.transfer_sets.specs.Banks.{OwnedSlot, slot_at, told}
use Rattle.transfer_sets.specs.NextDue.{IsNextMoment}
use Rattle.transfer_sets.specs.DueIndex.{IsDueIndex, next_at}
use Rattle.point_db.specs.WatchLists.{PointSlots}
use Rattle.tase_views.specs.OwnTables.{OwnTable, OwnTables, own_tables, table_in}
use Rattle.node_core.specs.declared.feeds.index.PeerIndex.{PeerIndex}
use Rattle.tase_views.specs.Slots.{makes_report}
use Rattle.node_core.specs.declared.feeds.cause.ReportCause.{ReportCause}
use Rattle.node_core.specs.declared.feeds.cause.ReportCause.TheVariants.{Tick}
use Rattle.node_core.specs.declared.node.peer.Peer.{Peer}
use Rattle.node_core.specs.Objects.Found.{TableInForce, table_at, offered}
use Rattle.node_core.specs.Feeds.SlotFeeds.{places_by, watches_point, conditions_by}
use Rattle.node_core.specs.Feeds.SlotFeeds.{reported_on}
use Rattle.node_core.specs.declared.slots.writes.Asked.{Asked}
use Rattle.node_core.specs.declared.slots.writes.Asked.TheVariants.{Answered, Wished, Switched}
use Rattle.node_core.specs.declared.slots.writes.Asked.TheVariants.{Operated, Tagged}
use Rattle.node_core.specs.Slots.SlotWrites.{all_slots, slots_asked}
use Rattle.node_core.specs.PeerParts.{settled, no_sets}
use Rattle.node_core.specs.PartFeeds.{IsAlike, IsReported, OneBecomes, EachBecomes}
use Rattle.node_core.specs.Stored.{IsPeerThere, IsChanged}
use Rattle.node_core.specs.Feeds.Indexed.{IsWatch, HasWatchRoom, IsIndexed, AreIndexed, OthersStay}
use Rattle.node_core.specs.Feeds.Indexed.{HasIndex}
use Rattle.node_core.specs.Feeds.Indexed.{KeepsSlots}
use Rattle.node_core.proofs.OfNode.PartLists.{slice_get-set_other, OneBecomes-set}
use Rattle.node_core.proofs.OfNode.Steps.{part_there, own_few}

-- as far as an index goes, a part is as before: its transfer sets have the same states, its data sets
-- and its table in force stay
pub record IsSameIndexed (old new : Peer) : Type 0 where
  pub many : length new.slots ≡ length old.slots
  pub state : (s : ℕ) → (slot_at new.slots s).state ≡ (slot_at old.slots s).state
  pub book : new.book ≡ old.book
  pub variant : new.variant ≡ old.variant

-- whether a transfer set is enabled and its data set names a point is told by its wish
watches_alike : (table : OwnTable) (book : Book) (name : List ℕ) (one other : OwnedSlot)
    → one.state.wish ≡ other.state.wish
    → watches_point table book name one ≡ watches_point table book name other
watches_alike table book name one other same =
    ap (λ (w : Wish). nat_lt 0 (length (if w.status then places_by table book w name else []))) same

-- a watch stays that of transfer sets with the same wishes, by the same data sets and table
pub IsWatch-same : (t u : TableInForce) (book other : Book) (slots new : List OwnedSlot)
    (watch : List PointSlots) → u ≡ t → other ≡ book
    → ((s : ℕ) → (slot_at new s).state.wish ≡ (slot_at slots s).state.wish)
    → IsWatch t book slots watch → IsWatch u other new watch
IsWatch-same t u book other slots new watch table sets same w =
    subst (λ (x : TableInForce). IsWatch x other new watch) (sym table)
    (subst (λ (b : Book). IsWatch t b new watch) (sym sets)
    (record {
      each = λ p s known there. w.each p s known there
          ∙ sym (watches_alike (offered t) book (point_of t.rows p).name (slot_at new s)
          (slot_at slots s) (same s));
    }))

-- an index stays that of a part which is as before
pub IsIndexed-same : (rows : CentreRows) (peer now : ℕ) (index : PeerIndex) (old new : Peer)
    → IsSameIndexed old new → IsIndexed rows peer now old index → IsIndexed rows peer now new index
IsIndexed-same rows peer now index old new same i = record {
  roomy = i.roomy;
  dues = record {
    many = i.dues.many ∙ sym same.many;
    each = λ s there. subst (λ (x : SlotState). IsNextMoment x now (next_at index.dues s))
        (sym (same.state s)) (i.dues.each s (omega (arith, there, same.many)));
  };
  watch = IsWatch-same (table_at rows peer old.variant) (table_at rows peer new.variant) old.book
      new.book old.slots new.slots index.watch (ap (table_at rows peer) same.variant) same.book
      (λ s. ap (λ (x : SlotState). x.wish) (same.state s)) i.watch;
}

-- ---- behind a tick, and behind a change of a point

wish_reported : (conditions : ℕ) (slot : OwnedSlot)
    → (reported_on conditions slot).state.wish ≡ slot.state.wish
wish_reported conditions slot =
    elim (makes_report slot.state conditions) as
    (λ b. (if b then told slot else slot).state.wish ≡ slot.state.wish)
    [ true ↦ refl | false ↦ refl ]

-- where the wishes stay, and the index holds what is due next
IsIndexed-turned : (rows : CentreRows) (peer from to : ℕ) (old new : Peer)
    (index after : PeerIndex) → length new.slots ≡ length old.slots
    → ((s : ℕ) → (slot_at new.slots s).state.wish ≡ (slot_at old.slots s).state.wish)
    → new.book ≡ old.book → new.variant ≡ old.variant → IsDueIndex new.slots to after.dues
    → after.watch ≡ index.watch → IsIndexed rows peer from old index
    → IsIndexed rows peer to new after
IsIndexed-turned rows peer from to old new index after many wishes book variant dues watch i =
    record {
      roomy = record {
        slots = omega (arith, dues.many, many, i.dues.many, i.roomy.slots);
        watch = λ n. subst (HasWatchRoom (length rows.points) (variant_of rows peer n)) (sym watch)
            (i.roomy.watch n);
      };
      dues = dues;
      watch = subst (IsWatch (table_at rows peer new.variant) new.book new.slots) (sym watch)
          (IsWatch-same (table_at rows peer old.variant) (table_at rows peer new.variant) old.book
          new.book old.slots new.slots index.watch (ap (table_at rows peer) variant) book wishes
          i.watch);
    }

pub IsIndexed-reported : (rows : CentreRows) (peer from to : ℕ) (old new : Peer)
    (index after : PeerIndex) → IsReported (Tick from to) old new
    → IsDueIndex new.slots to after.dues → after.watch ≡ index.watch
    → IsIndexed rows peer from old index → IsIndexed rows peer to new after
IsIndexed-reported rows peer from to old new index after r =
    IsIndexed-turned rows peer from to old new index after r.slots.many
    (λ s. ap (λ (x : OwnedSlot). x.state.wish) (r.slots.each s)
    ∙ wish_reported (conditions_by (Tick from to) s (slot_at old.slots s).state)
    (slot_at old.slots s))
    (ap (λ (x : Peer). x.book) r.same) (ap (λ (x : Peer). x.variant) r.same)

pub IsIndexed-noted : (rows : CentreRows) (peer now : ℕ) (old new : Peer)
    (index after : PeerIndex) → new ≡ record old { slots = new.slots }
    → length new.slots ≡ length old.slots
    → ((s : ℕ) → (slot_at new.slots s).state.wish ≡ (slot_at old.slots s).state.wish)
    → IsDueIndex new.slots now after.dues → after.watch ≡ index.watch
    → IsIndexed rows peer now old index → IsIndexed rows peer now new after
IsIndexed-noted rows peer now old new index after same many wishes =
    IsIndexed-turned rows peer now now old new index after many wishes
    (ap (λ (x : Peer). x.book) same) (ap (λ (x : Peer). x.variant) same)

-- other drafts, another plan and more room are nothing to it
alike_indexed : (old new : Peer) → IsAlike old new → IsSameIndexed old new
alike_indexed old new alike = record {
  many = alike.slots.many;
  state = alike.slots.state;
  book = ap (λ (x : Peer). x.book) alike.same;
  variant = ap (λ (x : Peer). x.variant) alike.same;
}

-- each part is as before, as far as indexes go
pub AreIndexed-same : (rows : CentreRows) (now : ℕ) (old new : List Peer)
    (indexes : List PeerIndex) → EachBecomes (λ peer. IsSameIndexed) old new
    → AreIndexed rows now old indexes → AreIndexed rows now new indexes
AreIndexed-same rows now old new indexes same a = record {
  many = a.many ∙ sym same.many;
  each = λ peer part index here at.
      let before = part_there old peer
      (omega (arith, same.many, slice_get_within new peer part here)) in
      IsIndexed-same rows peer now index before.0 part (same.each peer before.0 part before.1 here)
      (a.each peer before.0 index before.1 at);
}

pub AreIndexed-alike : (rows : CentreRows) (now : ℕ) (old new : List Peer)
    (indexes : List PeerIndex) → EachBecomes (λ peer. IsAlike) old new
    → AreIndexed rows now old indexes → AreIndexed rows now new indexes
AreIndexed-alike rows now old new indexes alike =
    AreIndexed-same rows now old new indexes (record {
      many = alike.many;
      each = λ peer part after here there.
          alike_indexed part after (alike.each peer part after here there);
    })

-- the part that was put
got : (old new : List Peer) (peer : ℕ) (part after : Peer) → slice_get old peer ≡ Some part
    → new ≡ slice_set old peer after → slice_get new peer ≡ Some after
got old new peer part after at is =
    ap (λ (l : List Peer). slice_get l peer) is
    ∙ slice_get-get_or (set old peer after) peer after
    (omega (arith, slice_get_within old peer part at, length-set old peer after))
    ∙ ap (λ (x : Peer). Some x) (get_or-set_same old peer after after
    (slice_get_within old peer part at))

-- ---- a list of anything, of which one is read and written

module _ {X : Type 0} where
  pub item_read : (old : List X) (place : ℕ) (x : X) → place < length old → x ≡ get_or old place x
      → slice_get old place ≡ Some x
  item_read old place x there read = slice_get_read old (length old) place x refl there read

  pub item_other : (old : List X) (place other : ℕ) (after : X) → other ≢ place
      → slice_get (set old place after) other ≡ slice_get old other
  item_other old place other after apart =
      let many = length-set old place after in
      ⊎_elim
      (λ (there : other < length old).
      slice_get-get_or (set old place after) other after (omega (arith, there, many))
      ∙ ap (λ (x : X). Some x) (get_or-set_other old place other after after apart)
      ∙ sym (slice_get-get_or old other after there))
      (λ past. slice_get_past (set old place after) other (omega (arith, past, many))
      ∙ sym (slice_get_past old other past))
      (cases_lt other (length old))

  pub item_set : (old : List X) (place : ℕ) (after found : X) → place < length old
      → slice_get (set old place after) place ≡ Some found → after ≡ found
  item_set old place after found there at =
      sym (get_or-set_same old place after after there)
      ∙ get_or_from_slice_get (set old place after) place found after at

-- one part is another, and the others stay
pub stays_set : (old new : List Peer) (peer : ℕ) (after : Peer) → new ≡ slice_set old peer after
    → OthersStay peer old new
stays_set old new peer after is = record {
  many = ap length is ∙ length-set old peer after;
  others = λ other apart. ap (λ (l : List Peer). slice_get l other) is
      ∙ slice_get-set_other old peer other after apart;
}

pub stays_one : (R : Peer → Peer → Type 0) (old new : List Peer) (peer : ℕ)
    → OneBecomes R peer old new → OthersStay peer old new
stays_one R old new peer one = record { many = one.many; others = one.others }

-- Where of parts and indexes those of one peer are others, which belong together, and all others
-- stay, each still has its index.
pub AreIndexed-one : (rows : CentreRows) (now : ℕ) (old new : List Peer)
    (indexes after : List PeerIndex) (peer : ℕ) → OthersStay peer old new
    → length after ≡ length indexes
    → ((other : ℕ) → other ≢ peer → slice_get after other ≡ slice_get indexes other)
    → ((part : Peer) (index : PeerIndex) → slice_get new peer ≡ Some part
    → slice_get after peer ≡ Some index → IsIndexed rows peer now part index)
    → AreIndexed rows now old indexes → AreIndexed rows now new after
AreIndexed-one rows now old new indexes after peer stay many others one a = record {
  many = many ∙ a.many ∙ sym stay.many;
  each = λ p part index here at.
      ⊎_elim
      (λ (mine : p ≡ peer). subst (λ (q : ℕ). IsIndexed rows q now part index) (sym mine)
      (one part index (ap (slice_get new) (sym mine) ∙ here) (ap (slice_get after) (sym mine) ∙ at)))
      (λ apart. a.each p part index (sym (stay.others p apart) ∙ here)
      (sym (others p apart) ∙ at))
      (cases_eq p peer);
}

-- where a part has changed, the others stay
pub stays_changed : (old new : List Peer) (peer : ℕ) (change : Peer → Peer)
    → peer < length old → IsChanged old peer change new → OthersStay peer old new
stays_changed old new peer change there changed =
    let found = part_there old peer there in
    stays_set old new peer (change found.0) (changed found.0 found.1)

-- a part that is as before, as far as indexes go, keeps its index
pub AreIndexed-set : (rows : CentreRows) (now : ℕ) (old new : List Peer)
    (indexes : List PeerIndex) (peer : ℕ) (part after : Peer) → slice_get old peer ≡ Some part
    → new ≡ slice_set old peer after → IsSameIndexed part after → AreIndexed rows now old indexes
    → AreIndexed rows now new indexes
AreIndexed-set rows now old new indexes peer part after at is same a =
    AreIndexed-one rows now old new indexes indexes peer (stays_set old new peer after is) refl
    (λ other apart. refl)
    (λ found index here there.
    subst (λ (x : Peer). IsIndexed rows peer now x index)
    (same_Some after found (sym (got old new peer part after at is) ∙ here))
    (IsIndexed-same rows peer now index part after same (a.each peer part index at there))) a

-- ---- a peer whose part has changed is there still

module _ (rows : CentreRows) (lawful : IsCentre rows) (peer : ℕ) (old new : List Peer)
    (there : IsPeerThere rows old peer) where
  pub there_set : (part after : Peer) → slice_get old peer ≡ Some part
      → new ≡ slice_set old peer after → after.variant < length (variants_of rows peer)
      → after.chosen_last < length (variants_of rows peer) → length after.slots ≡ SLOT_LIMIT
      → IsPeerThere rows new peer
  there_set part after at is variant chosen many = record {
    table = there.table;
    part = omega (arith, there.part, ap length is, length-set old peer after);
    in_force = λ x here. subst (λ (p : Peer). p.variant < length (variants_of rows peer))
        (only x here) variant;
    chosen = λ x here. subst (λ (p : Peer). p.chosen_last < length (variants_of rows peer))
        (only x here) chosen;
    few = λ x here. subst (λ (p : Peer).
        (table_in (own_tables rows peer) p.variant).slots ≤ length p.slots) (only x here)
        (omega (arith, own_few rows lawful peer after.variant, many));
    slots = λ x here. subst (λ (p : Peer). length p.slots ≡ SLOT_LIMIT) (only x here) many;
  }
    where
      only : (x : Peer) → slice_get new peer ≡ Some x → after ≡ x
      only x here = same_Some after x (sym (got old new peer part after at is) ∙ here)

  -- the same table, with as many transfer sets
  pub there_slots : (part after : Peer) → slice_get old peer ≡ Some part
      → new ≡ slice_set old peer after → after.variant ≡ part.variant
      → after.chosen_last ≡ part.chosen_last → length after.slots ≡ length part.slots
      → IsPeerThere rows new peer
  there_slots part after at is variant chosen many =
      there_set part after at is (omega (arith, variant, there.in_force part at))
      (omega (arith, chosen, there.chosen part at)) (many ∙ there.slots part at)

  -- behind the choice of a table, or the end of an association
  pub there_settled : (tables : OwnTables) (part before : Peer) → slice_get old peer ≡ Some part
      → new ≡ slice_set old peer (settled tables before) → before.variant ≡ part.variant
      → before.chosen_last < length (variants_of rows peer)
      → length before.slots ≡ length part.slots → IsPeerThere rows new peer
  there_settled tables part before at is variant chosen many =
      by ((before.open_now == 0) && not (before.chosen_last == before.variant)) is
    where
      by : (b : Bool) → new ≡ slice_set old peer (if b then record before {
        variant = before.chosen_last;
        book = no_sets (table_in tables before.chosen_last).sets;
      } else before) → IsPeerThere rows new peer
      by true e = there_set part _ at e chosen chosen (many ∙ there.slots part at)
      by false e = there_set part before at e (omega (arith, variant, there.in_force part at)) chosen
          (many ∙ there.slots part at)

  -- where another part is there, with the same tables and as many transfer sets
  there_changed : (part after : Peer) → slice_get old peer ≡ Some part
      → slice_get new peer ≡ Some after → length new ≡ length old → after.variant ≡ part.variant
      → after.chosen_last ≡ part.chosen_last → length after.slots ≡ length part.slots
      → IsPeerThere rows new peer
  there_changed part after before here same variant chosen many = record {
    table = there.table;
    part = omega (arith, there.part, same);
    in_force = λ x at. subst (λ (p : Peer). p.variant < length (variants_of rows peer))
        (same_Some after x (sym here ∙ at)) (omega (arith, variant, there.in_force part before));
    chosen = λ x at. subst (λ (p : Peer). p.chosen_last < length (variants_of rows peer))
        (same_Some after x (sym here ∙ at)) (omega (arith, chosen, there.chosen part before));
    few = λ x at. subst (λ (p : Peer).
        (table_in (own_tables rows peer) p.variant).slots ≤ length p.slots)
        (same_Some after x (sym here ∙ at))
        (omega (arith, own_few rows lawful peer after.variant, many, there.slots part before));
    slots = λ x at. subst (λ (p : Peer). length p.slots ≡ SLOT_LIMIT)
        (same_Some after x (sym here ∙ at)) (many ∙ there.slots part before);
  }

  -- behind what keeps the tables and the transfer sets
  pub there_kept : OneBecomes KeepsSlots peer old new → IsPeerThere rows new peer
  there_kept one =
      let part = part_there old peer there.part in
      let after = part_there new peer (omega (arith, there.part, one.many)) in
      let k = one.here part.0 after.0 part.1 after.1 in
      there_changed part.0 after.0 part.1 after.1 one.many k.variant k.chosen (ap length k.slots)

  -- behind reports
  pub there_reported : (cause : ReportCause) → OneBecomes (IsReported cause) peer old new
      → IsPeerThere rows new peer
  there_reported cause one =
      let part = part_there old peer there.part in
      let after = part_there new peer (omega (arith, there.part, one.many)) in
      let r = one.here part.0 after.0 part.1 after.1 in
      there_changed part.0 after.0 part.1 after.1 one.many (ap (λ (x : Peer). x.variant) r.same)
      (ap (λ (x : Peer). x.chosen_last) r.same) r.slots.many

-- parts that change twice, the same one
pub stays_both : (peer : ℕ) (old mid new : List Peer) → OthersStay peer old mid
    → OthersStay peer mid new → OthersStay peer old new
stays_both peer old mid new a b = record {
  many = b.many ∙ a.many;
  others = λ other apart. b.others other apart ∙ a.others other apart;
}

-- writes leave as many transfer sets
pub length-all_slots : (table : OwnTable) (book : Book) (ordinal now : ℕ) (asked : List Asked)
    (slots : List OwnedSlot)
    → length (all_slots table book ordinal now asked slots) ≡ length slots
length-all_slots table book ordinal now [] slots = refl
length-all_slots table book ordinal now (one ∷ more) slots =
    length-all_slots table book ordinal now more (slots_asked table book ordinal now one slots)
    ∙ by one
  where
    by : (a : Asked) → length (slots_asked table book ordinal now a slots) ≡ length slots
    by (Answered answer) = refl
    by (Wished s wish) = length-set slots s _
    by (Switched s status) = length-set slots s _
    by (Operated n number) = refl
    by (Tagged n tag reason) = refl

-- a peer has its index
pub has_index-of : (rows : CentreRows) (now : ℕ) (peers : List Peer) (indexes : List PeerIndex)
    → AreIndexed rows now peers indexes → (peer : ℕ) → peer < length peers
    → HasIndex rows peer indexes
has_index-of rows now peers indexes a peer there = record {
  there = omega (arith, there, a.many);
  roomy = λ index at.
      let part = part_there peers peer there in
      (a.each peer part.0 index part.1 at).roomy;
}

-- nothing is handed out
pub empty_is : (l : List ℕ) → (length l == 0) ≡ true → l ≡ []
empty_is [] e = refl
empty_is (x ∷ l) e = absurd (omega (arith, eqb-true (length (x ∷ l)) 0 e))

-- ---- one peer more

module _ {X : Type 0} where
  pub length_more : (xs : List X) (x : X) → length (xs ++ x ∷ []) ≡ length xs + 1
  length_more [] x = refl
  length_more (y ∷ xs) x = let rest = length_more xs x in omega (arith, rest)

  before_more : (xs : List X) (x : X) (p : ℕ) → p < length xs
      → slice_get (xs ++ x ∷ []) p ≡ slice_get xs p
  before_more [] x p there = absurd (omega (arith, there))
  before_more (y ∷ xs) x zero there = refl
  before_more (y ∷ xs) x (suc p) there = before_more xs x p (omega (arith, there))

  last_more : (xs : List X) (x : X) → slice_get (xs ++ x ∷ []) (length xs) ≡ Some x
  last_more [] x = refl
  last_more (y ∷ xs) x = last_more xs x

pub AreIndexed-more : (rows : CentreRows) (now : ℕ) (peers : List Peer)
    (indexes : List PeerIndex) (part : Peer) (index : PeerIndex)
    → IsIndexed rows (length peers) now part index → AreIndexed rows now peers indexes
    → AreIndexed rows now (peers ++ part ∷ []) (indexes ++ index ∷ [])
AreIndexed-more rows now peers indexes part index one a = record {
  many = omega (arith, length_more indexes index, length_more peers part, a.many);
  each = λ p x i here at.
      ⊎_elim
      (λ (last : p ≡ length peers).
      let px : part ≡ x = same_Some part x (sym (last_more peers part)
      ∙ ap (slice_get (peers ++ part ∷ [])) (sym last) ∙ here) in
      let ix : index ≡ i = same_Some index i (sym (last_more indexes index)
      ∙ ap (slice_get (indexes ++ index ∷ [])) (a.many ∙ sym last) ∙ at) in
      subst (λ (q : ℕ). IsIndexed rows q now x i) (sym last)
      (subst (λ (y : Peer). IsIndexed rows (length peers) now y i) px
      (subst (λ (j : PeerIndex). IsIndexed rows (length peers) now part j) ix one)))
      (λ apart.
      let below : p < length peers = omega (
        arith,
        apart,
        length_more peers part,
        slice_get_within (peers ++ part ∷ []) p x here,
      ) in
      a.each p x i (sym (before_more peers part p below) ∙ here)
      (sym (before_more indexes index p (omega (arith, below, a.many))) ∙ at))
      (cases_eq p (length peers));
}

-- ---- parts that keep their tables and their transfer sets

pub kept_by : (old new : Peer) (book : Book) → new ≡ record old { book = book } → KeepsSlots old new
kept_by old new book is = record {
  variant = ap (λ (x : Peer). x.variant) is;
  chosen = ap (λ (x : Peer). x.chosen_last) is;
  slots = ap (λ (x : Peer). x.slots) is;
}

pub one_kept : (peer : ℕ) (peers : List Peer) → OneBecomes KeepsSlots peer peers peers
one_kept peer peers = record {
  many = refl;
  here = λ part after at here. subst (KeepsSlots part) (same_Some part after (sym at ∙ here))
      (record { variant = refl; chosen = refl; slots = refl });
  others = λ other apart. refl;
}

-- where the part that was lent is as before
pub one_kept-as : (peer : ℕ) (peers : List Peer) (part after : Peer) → peer < length peers
    → part ≡ get_or peers peer part → after ≡ part
    → OneBecomes KeepsSlots peer peers (slice_set peers peer after)
one_kept-as peer peers part after there read same =
    OneBecomes-set KeepsSlots peers peer part after there read
    (subst (KeepsSlots part) (sym same) (record { variant = refl; chosen = refl; slots = refl }))
