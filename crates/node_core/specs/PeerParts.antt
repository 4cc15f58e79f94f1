-- What a node keeps of one peer, and what a move that the peer sees makes of it.
use Rattle.std.specs.Prelude.{◌≡◌, ℕ, ◌+◌, ◌-◌, ◌<◌, ◌≤◌, ◌==◌, nat_le, nat_lt, not, ◌&&◌, ◌||◌}
use Rattle.std.specs.Prelude.{◌++◌}
use Rattle.std.specs.Prelude.{if◌then◌else◌, List, [], ◌∷◌, length, filter_map, Option, Some, None}
use Rattle.std.specs.Prelude.{Bool, true, is_some, map}
use Rattle.std.specs.List.{All, list_all}
use Rattle.mms_data.specs.declared.object_name.Scope.TheVariants.{Domain}
use Rattle.mms_data.specs.ObjectName.{ObjectName, IsIdentifier, same_scope}
use Rattle.bilateral.specs.Words.Words.{is_identifier}
use Rattle.data_sets.specs.declared.book.TheConstants.{MOST_MEMBERS}
use Rattle.data_sets.specs.Books.{Book, members_in, defined}
use Rattle.bilateral.specs.declared.rows.TheConstants.{SLOT_LIMIT}
use Rattle.transfer_sets.specs.SlotMoves.{owner_in}
use Rattle.transfer_sets.specs.Banks.{OwnedSlot, free_slots, freed}
use Rattle.tase_views.specs.declared.reply.TheConstants.{ACCESS_ERRORS, ACCESS_DENIED}
use Rattle.tase_views.specs.declared.reply.TheConstants.{DEFINITION_ERRORS, UNDEFINED, EXISTS}
use Rattle.tase_views.specs.declared.reply.TheConstants.{RESOURCE_ERRORS, OTHER}
use Rattle.tase_views.specs.declared.call.CallKind.{CallKind}
use Rattle.tase_views.specs.declared.call.CallKind.TheVariants.{Define}
use Rattle.tase_views.specs.declared.event.EventKind.{EventKind}
use Rattle.tase_views.specs.declared.event.EventKind.TheVariants.{Request}
use Rattle.tase_views.specs.declared.reply.ReplyKind.{ReplyKind}
use Rattle.tase_views.specs.OwnTables.{OwnTable, OwnTables, table_in}
use Rattle.tase_views.specs.Objects.{object_named, is_member}
use Rattle.tase_views.specs.Moves.{Act, opens, takes, closes, reads, writes, defines, deletes}
use Rattle.tase_views.specs.Moves.{acts_of_call}
use Rattle.tase_views.specs.Force.{TableMove, open_count, last_chosen}
use Rattle.tase_views.specs.View.{Seen, own, chose, View, table_seen, force}
use Rattle.tase_views.specs.Sets.{SetError, error_of}
use Rattle.tase_views.specs.Slots.{slot_moves}
use Rattle.tase_views.specs.Answers.{define_replied}
use Rattle.tase_views.specs.Reports.{reports_pending}
use Rattle.node_core.specs.declared.node.peer.Peer.{Peer}
use Rattle.node_core.specs.Slots.SetsKept.{IsBook, left_behind}
use Rattle.node_core.specs.Slots.SlotsKept.{IsBank, is_kept, slots_read, slots_written}
use Rattle.node_core.specs.Feeds.SlotFeeds.{no_plan}
use Rattle.node_core.specs.Slots.Associations.{OpenAssociation, new_association, is_open_in}
use Rattle.node_core.specs.Slots.Associations.{open_without, behind_take}

-- what a view shows of the peer's table in force
abbrev pub table_moves : View → List TableMove
table_moves view = filter_map table_seen view

-- how many associations the peer has opened in a view
abbrev pub opens_seen : View → ℕ
opens_seen [] = 0
opens_seen (own ordinal opens ∷ view) = opens_seen view + 1
opens_seen (_ ∷ view) = opens_seen view

-- Of the associations of a peer, of which so many are open and so many were opened, no more are
-- kept than are open, and none that wasn't opened; each has the reports that the view makes for it;
-- whoever owns a transfer set is among them; and nothing was made for one that isn't opened yet.
pub record AreAssociations (tables : OwnTables) (view : View) (those : List OpenAssociation)
    (now_open in_all : ℕ) : Type 0 where
  pub fewer : length those ≤ now_open
  pub opened : All (λ a. a.ordinal < in_all) those
  pub made : All (λ a. a.made ≡ reports_pending tables view a.ordinal) those
  pub owners : (s ordinal : ℕ) → owner_in (slot_moves tables view s) ≡ Some ordinal
      → is_open_in ordinal those ≡ true
  pub unopened : (ordinal : ℕ) → in_all ≤ ordinal → reports_pending tables view ordinal ≡ []

-- A part has of its peer: the table in force, and that which was chosen last; how many associations
-- it has opened, and how many are open; these, with their reports; its data sets, and its transfer
-- sets. Both tables are there.
pub record IsPart (tables : OwnTables) (view : View) (part : Peer) : Type 0 where
  pub in_force : part.variant ≡ force view
  pub last : part.chosen_last ≡ last_chosen (table_moves view)
  pub now_open : part.open_now ≡ open_count (table_moves view)
  pub in_all : part.opened_in_all ≡ opens_seen view
  pub fewer : part.open_now ≤ part.opened_in_all
  pub force_there : part.variant < length tables.tables
  pub last_there : part.chosen_last < length tables.tables
  pub open_ones : AreAssociations tables view part.associations part.open_now
      part.opened_in_all
  pub sets : IsBook tables view part.book
  pub slots : IsBank tables view part.slots

-- no data sets, of which there may be so many
abbrev pub no_sets : ℕ → Book
no_sets limit = record { limit = limit; sets = [] }

-- a part of which nothing was seen, whose first table allows so many data sets
abbrev pub new_part : ℕ → Peer
new_part limit = record {
  variant = 0;
  chosen_last = 0;
  opened_in_all = 0;
  open_now = 0;
  associations = [];
  book = no_sets limit;
  slots = free_slots SLOT_LIMIT;
  plan = no_plan;
}

-- Where no association is open, the table that was chosen last comes into force. Another one than
-- before has no data sets, and allows so many.
abbrev pub settled_by : ℕ → Peer → Peer
settled_by limit part =
    if (part.open_now == 0) && not (part.chosen_last == part.variant)
    then record part { variant = part.chosen_last; book = no_sets limit } else part

abbrev pub settled : OwnTables → Peer → Peer
settled tables part = settled_by (table_in tables part.chosen_last).sets part

-- why a data set isn't defined, as the book tells it
abbrev pub fault_in : OwnTable → Book → ObjectName → List ObjectName → Option SetError
fault_in table book set members =
    if not (same_scope set.scope (Domain table.domain) && is_identifier set.item)
    then error_of ACCESS_ERRORS ACCESS_DENIED
    else (if is_some (members_in book.sets set.item) then error_of DEFINITION_ERRORS EXISTS
    else (if nat_lt MOST_MEMBERS (length members) || nat_le table.sets (length book.sets)
    then error_of RESOURCE_ERRORS OTHER
    else (if not (list_all (λ member. is_member (object_named table member)) members)
    then error_of DEFINITION_ERRORS UNDEFINED
    else None)))

-- a book behind a definition, which has an error or none
abbrev pub book_defined : Option SetError → ObjectName → List ObjectName → Book → Book
book_defined None set members book = defined book set.item members
book_defined (Some error) set members book = book

-- which data sets are kept whatever is deleted: those that an enabled transfer set wishes
abbrev pub kept_in : OwnTable → List OwnedSlot → List ℕ → Bool
kept_in table slots = is_kept table.domain table.slots slots

-- a part behind one more move that its peer sees, at a moment
abbrev pub part_after : OwnTables → ℕ → Seen → Peer → Peer
part_after tables now (own ordinal opens) part = record part {
  opened_in_all = part.opened_in_all + 1;
  open_now = part.open_now + 1;
  associations = part.associations ++ new_association ordinal ∷ [];
}
part_after tables now (own ordinal closes) part = settled tables (record part {
  open_now = part.open_now - 1;
  associations = open_without ordinal part.associations;
  slots = map (freed ordinal) part.slots;
})
part_after tables now (own ordinal takes) part =
    record part { associations = map (behind_take ordinal) part.associations }
part_after tables now (own ordinal (reads name)) part =
    record part { slots = slots_read (table_in tables part.variant) ordinal name part.slots }
part_after tables now (own ordinal (writes name value)) part =
    let table = table_in tables part.variant in
    record part { slots = slots_written table part.book ordinal now name value part.slots }
part_after tables now (own ordinal (defines set members)) part =
    let table = table_in tables part.variant in
    record part {
      book = book_defined (fault_in table part.book set members) set members part.book;
    }
part_after tables now (own ordinal (deletes set)) part =
    let table = table_in tables part.variant in
    record part { book = left_behind (kept_in table part.slots) table.domain part.book set }
part_after tables now (chose variant) part =
    settled tables (record part { chosen_last = variant })
part_after tables now _ part = part

-- a part behind acts of an association of its peer, the newest first
abbrev pub part_behind : OwnTables → ℕ → ℕ → List Act → Peer → Peer
part_behind tables now ordinal [] part = part
part_behind tables now ordinal (act ∷ these) part =
    part_after tables now (own ordinal act) (part_behind tables now ordinal these part)

-- a definition's name is an identifier, and it has a member
abbrev pub IsLawfulAct : Act → Type 0
IsLawfulAct (defines set members) = IsIdentifier set.item × (0 < length members)
IsLawfulAct act = Unit {0}

abbrev pub EachAct : (Act → Type 0) → List Act → Type 0
EachAct P [] = Unit {0}
EachAct P (act ∷ these) = P act × EachAct P these

-- what a reply says of the definition that a call is, if it is one: whether the book refuses it
abbrev pub IsReplyTo : OwnTable → Book → CallKind → ReplyKind → Type 0
IsReplyTo table book (Define set members) reply =
    reply ≡ define_replied (fault_in table book set members)
IsReplyTo table book call reply = Unit {0}

-- the acts of an event that is a request, and what its reply says
abbrev pub acts_asked : EventKind → List Act
acts_asked (Request call) = acts_of_call call
acts_asked event = []

abbrev pub IsReplyBy : OwnTable → Book → EventKind → ReplyKind → Type 0
IsReplyBy table book (Request call) reply = IsReplyTo table book call reply
IsReplyBy table book event reply = Unit {0}
