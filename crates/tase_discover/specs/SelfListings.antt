-- A listing of a node that answers by the table against which it is held.
use Rattle.std.specs.Prelude.{◌≡◌, ℕ, zero, suc, ◌<◌, ◌≤◌, true, List, [], ◌∷◌, ◌++◌, length, flat_map}
use Rattle.std.specs.Prelude.{Some}
use Rattle.std.specs.Option.{option_map_or}
use Rattle.mms_data.specs.declared.object_name.Scope.TheVariants.{Vmd, Domain}
use Rattle.mms_data.specs.ObjectName.{ObjectName}
use Rattle.tase_views.specs.declared.call.CallKind.{CallKind}
use Rattle.tase_views.specs.declared.reply.ReplyKind.{ReplyKind}
use Rattle.tase_views.specs.OwnTables.{OwnTable, OwnTables}
use Rattle.tase_views.specs.Objects.{objects, object_named}
use Rattle.tase_views.specs.Shapes.{shape_of}
use Rattle.tase_views.specs.NameLists.{variables_in}
use Rattle.tase_views.specs.View.{View, held}
use Rattle.tase_views.specs.Answers.{reply_to}
use Rattle.tase_discover.specs.declared.end.ListingEnd.{ListingEnd}
use Rattle.tase_discover.specs.declared.end.TheConstants.{MOST_NAMES}
use Rattle.asking_end.specs.declared.next.Next.{Next}
use Rattle.asking_end.specs.declared.next.Next.TheVariants as nexts
use Rattle.tase_discover.specs.Listings.{ListingSeen, listing_begun, listing_call, reply_heeded}
use Rattle.tase_discover.specs.Listings.{reply_shown, listed_names, type_line, is_same}

-- how far a listing has come, and what it has shown
pub record Heard : Type 0 where
  pub seen : ListingSeen
  pub shown : List ℕ

-- a name is none of these
abbrev pub Apart : List ℕ → List (List ℕ) → Type 0
Apart x [] = Unit {0}
Apart x (y ∷ ys) = (y ≡ x → ⊥) × Apart x ys

-- none of these names is another one
abbrev pub Differ : List (List ℕ) → Type 0
Differ [] = Unit {0}
Differ (x ∷ xs) = Apart x xs × Differ xs

-- the names of a table differ in each scope, and aren't more than a peer may offer
pub record NamesDiffer (table : OwnTable) : Type 0 where
  pub device : Differ (variables_in table (objects table) Vmd)
  pub domain : Differ (variables_in table (objects table) (Domain table.domain))
  pub few : length (listed_names table) ≤ MOST_NAMES

module _ (table : OwnTable) (replies : ℕ → ReplyKind) where
  -- a listing after the first so many replies
  abbrev pub heard_after : ℕ → Heard
  heard_after zero = record { seen = listing_begun; shown = [] }
  heard_after (suc n) =
      let before = heard_after n in
      record {
        seen = (reply_heeded table before.seen (replies n)).seen;
        shown = before.shown ++ reply_shown table before.seen (replies n);
      }

  -- what it does by a reply
  abbrev pub next_at : ℕ → Next ListingEnd
  next_at n = (reply_heeded table (heard_after n).seen (replies n)).next

  -- each reply is a node's to the call that is asked, over a view in which the table is in force
  abbrev pub AreReplies : OwnTables → ℕ → Type 0
  AreReplies tables ordinal =
      (n : ℕ) → (view : View) × ((held tables view ≡ table)
      × ((call : CallKind) → listing_call table (heard_after n).seen ≡ Some call
      → replies n ≡ reply_to tables view ordinal call))

-- a name of a table with the type of what it stands for, as it is shown
abbrev pub name_shown : OwnTable → ObjectName → List ℕ
name_shown table name =
    option_map_or (λ object. type_line name (shape_of object)) (object_named table name) []

-- after so many replies it asks on, and by the next one it concludes; it has shown the names of the
-- table with their types, and nothing differs
pub record ListsItself (table : OwnTable) (replies : ℕ → ReplyKind) : Type 0 where
  pub count : ℕ
  pub asks : (k : ℕ) → k < count → next_at table replies k ≡ nexts.Ask
  pub concludes : next_at table replies count ≡ nexts.Conclude
  pub shown : (heard_after table replies (suc count)).shown
      ≡ flat_map (name_shown table) (listed_names table)
  pub same : is_same table (heard_after table replies (suc count)).seen ≡ true
