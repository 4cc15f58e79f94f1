-- A part behind one more move that its peer sees is the part of the longer view.
use Rattle.std.proofs.Common.{◌≡◌, ◌≢◌, ◌==◌, ℕ, ◌+◌, ◌-◌, ◌<◌, ◌≤◌, Bool, true, false, not, ◌&&◌}
use Rattle.std.proofs.Common.{List, [], ◌∷◌, ◌++◌, length, map, Option, Some, None}
use Rattle.std.proofs.Common.{refl, sym, ap, subst, ◌∙◌, inl, inr, ⊎_elim, arith}
use Rattle.std.specs.Prelude.{◌⊎◌, if◌then◌else◌}
use Rattle.std.specs.List.{All}
use Rattle.std.proofs.lemmas.Bool.{false≢true, ne_eqb, eqb-true, eqb-false, cases_eq}
use Rattle.std.proofs.lemmas.List.Elements.{All-nil}
use Rattle.std.proofs.lemmas.Option.{none-some}
use Rattle.mms_data.specs.ObjectName.{IsIdentifier}
use Rattle.tase_points.specs.Sample.{Sample}
use Rattle.bilateral.specs.declared.rows.TheConstants.{SLOT_LIMIT}
use Rattle.transfer_sets.specs.SlotMoves.{owner_in}
use Rattle.transfer_sets.specs.Banks.{OwnedSlot, free_slot, slot_at, is_owned_by, freed}
use Rattle.data_sets.specs.declared.book.DataSet.{DataSet}
use Rattle.data_sets.specs.Books.{Book}
use Rattle.tase_views.specs.OwnTables.{OwnTables, table_in}
use Rattle.tase_views.specs.Moves.{opens, takes, closes, reads, writes, defines, deletes}
use Rattle.tase_views.specs.Moves.{calls}
use Rattle.tase_views.specs.Force.{TableMove, opened, closed, chosen, open_count, last_chosen}
use Rattle.tase_views.specs.Force.{force_of}
use Rattle.tase_views.specs.View.{Seen, own, other_acted, other_closed, updated, tagged, asked}
use Rattle.tase_views.specs.View.{chose, ticked, stopped, View, force, held, keeps_force}
use Rattle.tase_views.specs.View.{moment_in}
use Rattle.tase_views.specs.Slots.{owns, sets_in, slot_moves}
use Rattle.tase_views.specs.Listed.{defined_by}
use Rattle.tase_views.specs.Reports.{reports_by}
use Rattle.node_core.specs.declared.feeds.cause.ReportCause.{ReportCause}
use Rattle.node_core.specs.declared.feeds.cause.ReportCause.TheVariants.{Tick, Ask}
use Rattle.node_core.specs.declared.node.peer.Peer.{Peer}
use Rattle.node_core.specs.Slots.Associations.{OpenAssociation, new_association, is_open_in}
use Rattle.node_core.specs.Slots.Associations.{open_without, with_drafted}
use Rattle.node_core.specs.Slots.SetsKept.{IsBook}
use Rattle.node_core.specs.Slots.SlotsKept.{IsBank, slots_read, slots_written}
use Rattle.node_core.specs.Feeds.SlotFeeds.{move_of, moment_before, AreReported}
use Rattle.node_core.specs.PeerParts.{table_moves, opens_seen, AreAssociations, IsPart, no_sets}
use Rattle.node_core.specs.PeerParts.{new_part, settled, part_after, IsLawfulAct}
use Rattle.node_core.specs.PartFeeds.{IsAlike, IsReported}
use Rattle.node_core.proofs.OfSlots.SetBooks.{none_listed, IsBook-still, IsBook-defines}
use Rattle.node_core.proofs.OfSlots.SetBooks.{IsBook-deletes}
use Rattle.node_core.proofs.OfSlots.SlotBanks.{IsBank-new, IsBank-still, IsBank-unowned}
use Rattle.node_core.proofs.OfSlots.SlotBanks.{IsBank-closes}
use Rattle.node_core.proofs.OfSlots.SlotBanks.{IsBank-reads, IsBank-writes, IsBank-defines}
use Rattle.node_core.proofs.OfSlots.SlotBanks.{IsBank-deletes-set, freed-at, owned_alike}
use Rattle.node_core.proofs.OfFeeds.SlotFeeds.{IsBank-reported, IsBank-roomier}
use Rattle.node_core.proofs.OfSlots.AssociationSteps.{IsQuiet, EndsNothing, AreAssociations-still}
use Rattle.node_core.proofs.OfSlots.AssociationSteps.{AreAssociations-opens, AreAssociations-closes}
use Rattle.node_core.proofs.OfSlots.AssociationSteps.{AreAssociations-takes}
use Rattle.node_core.proofs.OfSlots.AssociationSteps.{AreAssociations-reported}
use Rattle.node_core.proofs.OfSlots.AssociationSteps.{AreAssociations-alike, owner_read}
use Rattle.node_core.proofs.OfSlots.AssociationSteps.{owner_written}
use Rattle.node_core.proofs.OfSlots.AssociationSteps.{owner_changed}

-- ---- the table in force

-- it stays while one is open
pub force_while_open : (move : TableMove) (moves : List TableMove)
    → open_count (move ∷ moves) ≢ 0 → force_of (move ∷ moves) ≡ force_of moves
force_while_open move moves some = rw (ne_eqb (open_count (move ∷ moves)) 0 some) refl

-- ---- an empty view

pub IsPart-new : (tables : OwnTables) → 0 < length tables.tables
    → IsPart tables [] (new_part (table_in tables 0).sets)
IsPart-new tables some = record {
  in_force = refl;
  last = refl;
  now_open = refl;
  in_all = refl;
  fewer = omega arith;
  force_there = some;
  last_there = some;
  open_ones = record {
    fewer = omega arith;
    opened = All-nil (λ (a : OpenAssociation). a.ordinal < 0);
    made = All-nil (λ (a : OpenAssociation). a.made ≡ []);
    owners = λ s ordinal e. absurd (none-some ordinal e);
    unopened = λ ordinal later. refl;
  };
  sets = record {
    limit = refl;
    few = omega arith;
    members = λ name. refl;
    listed = refl;
    once = λ i j d below within. absurd (omega arith);
    named = All-nil (λ (s : DataSet). IsIdentifier s.name);
    some = All-nil (λ (s : DataSet). 0 < length s.members);
  };
  slots = IsBank-new tables;
}

-- ---- moves that bear on no table

-- what a move leaves of all but the associations, the data sets and the transfer sets
IsPart-kept : (tables : OwnTables) (view : View) (part : Peer) (seen : Seen)
    (those : List OpenAssociation) (book : Book) (slots : List OwnedSlot)
    → table_moves (seen ∷ view) ≡ table_moves view → opens_seen (seen ∷ view) ≡ opens_seen view
    → AreAssociations tables (seen ∷ view) those part.open_now part.opened_in_all
    → IsBook tables (seen ∷ view) book → IsBank tables (seen ∷ view) slots
    → IsPart tables view part
    → IsPart tables (seen ∷ view)
    (record part { associations = those; book = book; slots = slots })
IsPart-kept tables view part seen those book slots same unopened a b k p = record {
  in_force = p.in_force ∙ sym (ap force_of same);
  last = p.last ∙ sym (ap last_chosen same);
  now_open = p.now_open ∙ sym (ap open_count same);
  in_all = p.in_all ∙ sym unopened;
  fewer = p.fewer;
  force_there = p.force_there;
  last_there = p.last_there;
  open_ones = a;
  sets = b;
  slots = k;
}

-- one that leaves the data sets
IsPart-booked : (tables : OwnTables) (view : View) (part : Peer) (seen : Seen)
    (those : List OpenAssociation) (slots : List OwnedSlot)
    → table_moves (seen ∷ view) ≡ table_moves view → opens_seen (seen ∷ view) ≡ opens_seen view
    → ((name : List ℕ) → sets_in tables (seen ∷ view) name
    ≡ (if keeps_force seen view then sets_in tables view name else None))
    → defined_by tables view seen ≡ []
    → AreAssociations tables (seen ∷ view) those part.open_now part.opened_in_all
    → IsBank tables (seen ∷ view) slots → IsPart tables view part
    → IsPart tables (seen ∷ view) (record part { associations = those; slots = slots })
IsPart-booked tables view part seen those slots same unopened shown adds a k p =
    IsPart-kept tables view part seen those part.book slots same unopened a
    (IsBook-still tables view seen part.book (ap force_of same) shown adds p.sets) k p

-- ---- moves that bear on a table

-- with a part that tells what a move makes of all but table in force and data sets
record IsUnsettled (tables : OwnTables) (view : View) (move : TableMove) (part : Peer) : Type 0
  where
    before : part.variant ≡ force view
    last : part.chosen_last ≡ last_chosen (move ∷ table_moves view)
    now_open : part.open_now ≡ open_count (move ∷ table_moves view)
    fewer : part.open_now ≤ part.opened_in_all
    force_there : part.variant < length tables.tables
    last_there : part.chosen_last < length tables.tables
    sets : IsBook tables view part.book

-- the table in force behind the move
force_behind : (tables : OwnTables) (view : View) (move : TableMove) (part : Peer)
    → IsUnsettled tables view move part
    → force_of (move ∷ table_moves view)
    ≡ (if part.open_now == 0 then part.chosen_last else part.variant)
force_behind tables view move part u =
    rw (u.now_open, u.last, u.before) refl

-- where the table in force changes, there are no data sets
IsBook-fresh : (tables : OwnTables) (view : View) (seen : Seen) (limit : ℕ)
    → limit ≡ (held tables (seen ∷ view)).sets → force (seen ∷ view) ≢ force view
    → ((name : List ℕ) → sets_in tables (seen ∷ view) name
    ≡ (if keeps_force seen view then sets_in tables view name else None))
    → defined_by tables view seen ≡ [] → IsBook tables (seen ∷ view) (no_sets limit)
IsBook-fresh tables view seen limit limit_is other shown adds = record {
  limit = limit_is;
  few = omega arith;
  members = λ name. sym (shown name ∙ rw (ne_eqb (force (seen ∷ view)) (force view) other) refl);
  listed = none_listed tables view seen adds
      (λ name. shown name ∙ rw (ne_eqb (force (seen ∷ view)) (force view) other) refl);
  once = λ i j d below within. absurd (omega arith);
  named = All-nil (λ (s : DataSet). IsIdentifier s.name);
  some = All-nil (λ (s : DataSet). 0 < length s.members);
}

IsPart-settled : (tables : OwnTables) (view : View) (seen : Seen) (move : TableMove) (part : Peer)
    → table_moves (seen ∷ view) ≡ move ∷ table_moves view
    → part.opened_in_all ≡ opens_seen (seen ∷ view)
    → ((name : List ℕ) → sets_in tables (seen ∷ view) name
    ≡ (if keeps_force seen view then sets_in tables view name else None))
    → defined_by tables view seen ≡ [] → IsUnsettled tables view move part
    → AreAssociations tables (seen ∷ view) part.associations part.open_now part.opened_in_all
    → IsBank tables (seen ∷ view) part.slots
    → IsPart tables (seen ∷ view) (settled tables part)
IsPart-settled tables view seen move part moves in_all shown adds u open_ones bank =
    by (part.open_now == 0) (part.chosen_last == part.variant) refl refl
  where
    forced : force (seen ∷ view) ≡ (if part.open_now == 0 then part.chosen_last else part.variant)
    forced = ap force_of moves ∙ force_behind tables view move part u

    stays : part.variant ≡ force (seen ∷ view) → IsPart tables (seen ∷ view) part
    stays same = record {
      in_force = same;
      last = u.last ∙ sym (ap last_chosen moves);
      now_open = u.now_open ∙ sym (ap open_count moves);
      in_all = in_all;
      fewer = u.fewer;
      force_there = u.force_there;
      last_there = u.last_there;
      open_ones = open_ones;
      sets = IsBook-still tables view seen part.book (sym same ∙ u.before) shown adds u.sets;
      slots = bank;
    }

    changes : part.chosen_last ≡ force (seen ∷ view) → part.chosen_last ≢ part.variant
        → IsPart tables (seen ∷ view)
        (record part {
          variant = part.chosen_last;
          book = no_sets (table_in tables part.chosen_last).sets;
        })
    changes same other = record {
      in_force = same;
      last = u.last ∙ sym (ap last_chosen moves);
      now_open = u.now_open ∙ sym (ap open_count moves);
      in_all = in_all;
      fewer = u.fewer;
      force_there = u.last_there;
      last_there = u.last_there;
      open_ones = open_ones;
      sets = IsBook-fresh tables view seen (table_in tables part.chosen_last).sets
          (ap (λ (n : ℕ). (table_in tables n).sets) same)
          (λ e. other (same ∙ e ∙ sym u.before)) shown adds;
      slots = bank;
    }

    by : (none alike : Bool) → (part.open_now == 0) ≡ none
        → (part.chosen_last == part.variant) ≡ alike
        → IsPart tables (seen ∷ view)
        (if none && not alike
        then record part {
          variant = part.chosen_last;
          book = no_sets (table_in tables part.chosen_last).sets;
        } else part)
    by true true n a =
        stays (sym (eqb-true part.chosen_last part.variant a) ∙ sym (forced ∙ rw n refl))
    by true false n a =
        changes (sym (forced ∙ rw n refl)) (eqb-false part.chosen_last part.variant a)
    by false true n a = stays (sym (forced ∙ rw n refl))
    by false false n a = stays (sym (forced ∙ rw n refl))

-- ---- one move

-- where no association is open, nobody owns a transfer set
unowned : (tables : OwnTables) (view : View) (slots : List OwnedSlot)
    (those : List OpenAssociation) (n k : ℕ) → n ≡ 0
    → AreAssociations tables view those n k
    → ((s : ℕ) → (slot_at slots s).owner ≡ owner_in (slot_moves tables view s)) → (s : ℕ)
    → (slot_at slots s).owner ≡ None
unowned tables view slots those n k none a owner s =
    owner s ∙ by those (owner_in (slot_moves tables view s)) (omega (arith, none, a.fewer))
    (a.owners s)
  where
    by : (these : List OpenAssociation) (found : Option ℕ) → length these ≤ 0
        → ((ordinal : ℕ) → found ≡ Some ordinal → is_open_in ordinal these ≡ true)
        → found ≡ None
    by these None few owns = refl
    by [] (Some ordinal) few owns = absurd (false≢true (owns ordinal refl))
    by (a ∷ these) (Some ordinal) few owns = absurd (omega (arith, few))

-- who owns what, behind the end of an association
freed_owner : (tables : OwnTables) (view : View) (slots : List OwnedSlot)
    → IsBank tables view slots → (ordinal s : ℕ)
    → (slot_at (map (freed ordinal) slots) s).owner
    ≡ owner_in (slot_moves tables (own ordinal closes ∷ view) s)
freed_owner tables view slots b ordinal s =
    ap (λ (slot : OwnedSlot). slot.owner) (freed-at ordinal slots s)
    ∙ by (is_owned_by ordinal (slot_at slots s)) (owned_alike tables view slots b ordinal s)
  where
    by : (mine : Bool) → mine ≡ owns ordinal (slot_moves tables view s)
        → (if mine then free_slot else slot_at slots s).owner
        ≡ owner_in (if owns ordinal (slot_moves tables view s) then []
        else slot_moves tables view s)
    by true e = rw (← e) refl
    by false e = rw (← e) (b.owner s)

-- tables as a node offers them: with no more transfer sets than there is room for
pub record AreOffered (tables : OwnTables) : Type 0 where
  pub few : (n : ℕ) → (table_in tables n).slots ≤ SLOT_LIMIT

-- an association that is opened has the next ordinal, and one that acts is open; a definition is
-- lawful, and a table that is chosen is there; causes of reports and updates change more
abbrev pub IsLawfulMove : OwnTables → Peer → Seen → Type 0
IsLawfulMove tables part (own ordinal opens) = ordinal ≡ part.opened_in_all
IsLawfulMove tables part (own ordinal act) =
    IsLawfulAct act × (is_open_in ordinal part.associations ≡ true)
IsLawfulMove tables part (chose variant) = variant < length tables.tables
IsLawfulMove tables part (updated name value) = ⊥
IsLawfulMove tables part (asked slot) = ⊥
IsLawfulMove tables part (ticked now) = ⊥
IsLawfulMove tables part _ = Unit {0}

module _ (tables : OwnTables) (o : AreOffered tables) (view : View) (part : Peer) (now : ℕ)
    (at_now : now ≡ moment_in view) where
  -- a move that is nothing to the data sets and transfer sets
  IsPart-still : (seen : Seen) → IsQuiet seen → table_moves (seen ∷ view) ≡ table_moves view
      → opens_seen (seen ∷ view) ≡ opens_seen view
      → ((name : List ℕ) → sets_in tables (seen ∷ view) name
      ≡ (if keeps_force seen view then sets_in tables view name else None))
      → defined_by tables view seen ≡ []
      → ((s : ℕ) → slot_moves tables (seen ∷ view) s ≡ slot_moves tables view s)
      → IsPart tables view part → IsPart tables (seen ∷ view) part
  IsPart-still seen still same unopened shown adds moves p =
      IsPart-booked tables view part seen part.associations part.slots same unopened shown adds
      (AreAssociations-still tables view seen still part.associations part.open_now
      part.opened_in_all (λ s ordinal e. inl (ap owner_in (sym (moves s)) ∙ e)) p.open_ones)
      (IsBank-still tables view seen part.slots (ap force_of same) shown moves p.slots) p

  -- the associations behind an act of one that leaves each owner or is that of an open one
  acted : (seen : Seen) → IsQuiet seen
      → ((s ordinal : ℕ) → owner_in (slot_moves tables (seen ∷ view) s) ≡ Some ordinal
      → (owner_in (slot_moves tables view s) ≡ Some ordinal)
      ⊎ (is_open_in ordinal part.associations ≡ true))
      → IsPart tables view part
      → AreAssociations tables (seen ∷ view) part.associations part.open_now part.opened_in_all
  acted seen still owned p =
      AreAssociations-still tables view seen still part.associations part.open_now
      part.opened_in_all owned p.open_ones

  pub IsPart-after : (seen : Seen) → IsLawfulMove tables part seen → IsPart tables view part
      → IsPart tables (seen ∷ view) (part_after tables now seen part)
  IsPart-after (own ordinal opens) lawful p =
      let after : Peer = record part {
        opened_in_all = part.opened_in_all + 1;
        open_now = part.open_now + 1;
        associations = part.associations ++ new_association ordinal ∷ [];
      } in
      let kept : settled tables after ≡ after =
      rw (ne_eqb (part.open_now + 1) 0 (omega arith)) refl in
      let P : Peer → Type 0 = λ (x : Peer). IsPart tables (own ordinal opens ∷ view) x in
      let same : force (own ordinal opens ∷ view) ≡ force view =
      force_while_open opened (table_moves view) (omega arith) in
      subst P kept
      (IsPart-settled tables view (own ordinal opens) opened after refl (omega (arith, p.in_all))
      (λ name. refl) refl
      (record {
        before = p.in_force;
        last = p.last;
        now_open = omega (arith, p.now_open);
        fewer = omega (arith, p.fewer);
        force_there = p.force_there;
        last_there = p.last_there;
        sets = p.sets;
      })
      (AreAssociations-opens tables view ordinal part.associations part.open_now
      part.opened_in_all lawful p.open_ones)
      (IsBank-still tables view (own ordinal opens) part.slots same (λ name. refl) (λ s. refl)
      p.slots))
  IsPart-after (own ordinal closes) lawful p =
      let those = open_without ordinal part.associations in
      let freed_slots = map (freed ordinal) part.slots in
      let a = AreAssociations-closes tables view ordinal part.associations part.open_now
      part.opened_in_all lawful.1 p.open_ones in
      let counted : part.open_now - 1 ≡ open_count (closed ∷ table_moves view) =
      ap (λ (n : ℕ). n - 1) p.now_open in
      IsPart-settled tables view (own ordinal closes) closed
      (record part { open_now = part.open_now - 1; associations = those; slots = freed_slots })
      refl p.in_all (λ name. refl) refl
      (record {
        before = p.in_force;
        last = p.last;
        now_open = counted;
        fewer = omega (arith, p.fewer);
        force_there = p.force_there;
        last_there = p.last_there;
        sets = p.sets;
      })
      a
      (IsBank-closes tables view ordinal part.slots
      (⊎_elim
      (λ (none : part.open_now - 1 ≡ 0). inr (unowned tables (own ordinal closes ∷ view)
      freed_slots those (part.open_now - 1) part.opened_in_all none a
      (freed_owner tables view part.slots p.slots ordinal)))
      (λ some. inl (force_while_open closed (table_moves view) (λ e. some (counted ∙ e))))
      (cases_eq (part.open_now - 1) 0)) p.slots)
  IsPart-after (chose variant) lawful p =
      IsPart-settled tables view (chose variant) (chosen variant)
      (record part { chosen_last = variant }) refl p.in_all (λ name. refl) refl
      (record {
        before = p.in_force;
        last = refl;
        now_open = p.now_open;
        fewer = p.fewer;
        force_there = p.force_there;
        last_there = lawful;
        sets = p.sets;
      })
      (acted (chose variant) tt (λ s owner e. inl e) p)
      (⊎_elim
      (λ (none : part.open_now ≡ 0). IsBank-unowned tables view (chose variant) part.slots
      (λ s. refl) (unowned tables view part.slots part.associations part.open_now
      part.opened_in_all none p.open_ones p.slots.owner) p.slots)
      (λ some. IsBank-still tables view (chose variant) part.slots
      (force_while_open (chosen variant) (table_moves view) (λ e. some (p.now_open ∙ e)))
      (λ name. refl) (λ s. refl) p.slots)
      (cases_eq part.open_now 0))
  IsPart-after (own ordinal (defines set members)) lawful p =
      IsPart-kept tables view part (own ordinal (defines set members)) part.associations _
      part.slots refl refl
      (acted (own ordinal (defines set members)) tt (λ s owner e. inl e) p)
      (IsBook-defines tables view part.book ordinal set members part.variant p.in_force lawful.0
      p.sets)
      (IsBank-defines tables view part.slots ordinal set members p.slots) p
  IsPart-after (own ordinal (deletes set)) lawful p =
      IsPart-kept tables view part (own ordinal (deletes set)) part.associations _ part.slots
      refl refl (acted (own ordinal (deletes set)) tt (λ s owner e. inl e) p)
      (IsBook-deletes tables view part.book part.slots ordinal set part.variant p.in_force p.slots
      p.sets)
      (IsBank-deletes-set tables view part.slots ordinal set p.slots) p
  IsPart-after (own ordinal takes) lawful p =
      IsPart-booked tables view part (own ordinal takes) _ part.slots refl refl (λ name. refl) refl
      (AreAssociations-takes tables view ordinal part.associations part.open_now
      part.opened_in_all p.open_ones)
      (IsBank-still tables view (own ordinal takes) part.slots refl (λ name. refl) (λ s. refl)
      p.slots) p
  IsPart-after (own ordinal (reads name)) lawful p =
      IsPart-booked tables view part (own ordinal (reads name)) part.associations _ refl refl
      (λ other. refl) refl
      (acted (own ordinal (reads name)) tt
      (λ s owner e. ⊎_elim (λ before. inl before)
      (λ same. inr (ap (λ (n : ℕ). is_open_in n part.associations) (sym same) ∙ lawful.1))
      (owner_read _ ordinal owner (slot_moves tables view s) e)) p)
      (subst (λ (n : ℕ). IsBank tables (own ordinal (reads name) ∷ view)
      (slots_read (table_in tables n) ordinal name part.slots)) (sym p.in_force)
      (IsBank-reads tables view part.slots p.slots ordinal name (o.few (force view)))) p
  IsPart-after (own ordinal (writes name value)) lawful p =
      IsPart-booked tables view part (own ordinal (writes name value)) part.associations _ refl
      refl (λ other. refl) refl
      (acted (own ordinal (writes name value)) tt
      (λ s owner e. inl (sym (owner_written _ (moment_in view) _ (slot_moves tables view s)) ∙ e))
      p)
      (subst (λ (n : ℕ). IsBank tables (own ordinal (writes name value) ∷ view)
      (slots_written (table_in tables n) part.book ordinal now name value part.slots))
      (sym p.in_force)
      (IsBank-writes tables view part.slots p.slots part.book p.sets.members ordinal now name
      value at_now)) p
  IsPart-after (own ordinal (calls call)) lawful p =
      IsPart-still (own ordinal (calls call)) tt refl refl (λ name. refl) refl (λ s. refl) p
  IsPart-after (other_acted key ordinal device act) lawful p =
      IsPart-still (other_acted key ordinal device act) tt refl refl (λ name. refl) refl (λ s. refl) p
  IsPart-after (other_closed key ordinal) lawful p =
      IsPart-still (other_closed key ordinal) tt refl refl (λ name. refl) refl (λ s. refl) p
  IsPart-after (updated name value) lawful p = absurd lawful
  IsPart-after (tagged name tag) lawful p =
      IsPart-still (tagged name tag) tt refl refl (λ other. refl) refl (λ s. refl) p
  IsPart-after (asked slot) lawful p = absurd lawful
  IsPart-after (ticked moment) lawful p = absurd lawful
  IsPart-after stopped lawful p =
      IsPart-still stopped tt refl refl (λ name. refl) refl (λ s. refl) p

  -- ---- what the centre does

  -- a part behind a cause of reports, which were drafted
  pub IsPart-reported : (cause : ReportCause) (new : Peer)
      → moment_in view ≡ moment_before cause
      → ((ordinal : ℕ) → part.opened_in_all ≤ ordinal → EndsNothing tables view ordinal)
      → All (λ (a : OpenAssociation).
      a.drafted ≡ reports_by tables view a.ordinal (move_of cause)) part.associations
      → IsReported cause part new → IsPart tables view part
      → IsPart tables (move_of cause ∷ view) new
  IsPart-reported cause new before late drafted r p =
      subst (λ (x : Peer). IsPart tables (move_of cause ∷ view) x) (sym r.same)
      (by cause before drafted r.slots p)
    where
      by : (cause : ReportCause) → moment_in view ≡ moment_before cause
          → All (λ (a : OpenAssociation).
          a.drafted ≡ reports_by tables view a.ordinal (move_of cause)) part.associations
          → AreReported cause part.slots new.slots → IsPart tables view part
          → IsPart tables (move_of cause ∷ view)
          (record part { associations = map with_drafted part.associations; slots = new.slots })
      by (Tick from to) before drafted slots p =
          IsPart-booked tables view part (ticked to) (map with_drafted part.associations)
          new.slots refl refl (λ name. refl) refl
          (AreAssociations-reported tables view (Tick from to) part.associations part.open_now
          part.opened_in_all late drafted p.open_ones)
          (IsBank-reported tables view (Tick from to) part.slots new.slots before slots p.slots) p
      by (Ask slot moment) before drafted slots p =
          IsPart-booked tables view part (asked slot) (map with_drafted part.associations)
          new.slots refl refl (λ name. refl) refl
          (AreAssociations-reported tables view (Ask slot moment) part.associations part.open_now
          part.opened_in_all late drafted p.open_ones)
          (IsBank-reported tables view (Ask slot moment) part.slots new.slots before slots
          p.slots) p

  -- a part behind an update, with the transfer sets that it leaves
  pub IsPart-updated : (name : List ℕ) (value : Sample) (slots : List OwnedSlot)
      → IsBank tables (updated name value ∷ view) slots → IsPart tables view part
      → IsPart tables (updated name value ∷ view) (record part { slots = slots })
  IsPart-updated name value slots k p =
      IsPart-booked tables view part (updated name value) part.associations slots refl refl
      (λ other. refl) refl
      (acted (updated name value) tt
      (λ s owner e. inl (sym (owner_changed _ _ (slot_moves tables view s)) ∙ e)) p) k p

-- another bank of the same view
pub IsPart-banked : (tables : OwnTables) (view : View) (part : Peer) (slots : List OwnedSlot)
    → IsBank tables view slots → IsPart tables view part
    → IsPart tables view (record part { slots = slots })
IsPart-banked tables view part slots k p = record {
  in_force = p.in_force;
  last = p.last;
  now_open = p.now_open;
  in_all = p.in_all;
  fewer = p.fewer;
  force_there = p.force_there;
  last_there = p.last_there;
  open_ones = p.open_ones;
  sets = p.sets;
  slots = k;
}

-- other drafts
pub IsPart-alike : (tables : OwnTables) (view : View) (part new : Peer) → IsAlike part new
    → IsPart tables view part → IsPart tables view new
IsPart-alike tables view part new alike p =
    subst (λ (x : Peer). IsPart tables view x) (sym alike.same) (record {
      in_force = p.in_force;
      last = p.last;
      now_open = p.now_open;
      in_all = p.in_all;
      fewer = p.fewer;
      force_there = p.force_there;
      last_there = p.last_there;
      open_ones = AreAssociations-alike tables view part.associations new.associations
          part.open_now part.opened_in_all alike.associations p.open_ones;
      sets = p.sets;
      slots = IsBank-roomier tables view part.slots new.slots alike.slots p.slots;
    })
