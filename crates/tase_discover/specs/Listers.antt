-- A listing, and by what it goes as the agenda of a calling end.
use Rattle.std.specs.Prelude.{◌≡◌, ◌<◌, ℕ, true, false, [], length}
use Rattle.mms_data.specs.declared.object_name.Scope.TheVariants.{Domain}
use Rattle.mms_data.specs.ObjectName.{IsScope}
use Rattle.bilateral.specs.Rows.{CentreRows}
use Rattle.tase_views.specs.OwnTables.{OwnTable}
use Rattle.tase_discover.specs.declared.seen.Seen.{Seen}
use Rattle.tase_discover.specs.declared.seen.Mark.{Mark}
use Rattle.tase_discover.specs.Listings.{ListingSeen, first_table, is_done, is_types}
use Rattle.tase_discover.specs.Listings.{nothing_differs, listing_begun}
use Rattle.tase_discover.specs.Kept.{seen_of, undone}

-- the table that the names and types are held against, and how far the listing has come
pub record TableListing : Type 0 where
  pub table : OwnTable
  pub seen : ListingSeen

-- a listing that hasn't begun
abbrev pub listing_of : OwnTable → TableListing
listing_of table = record { table = table; seen = listing_begun }

-- no type is judged before all names came
abbrev pub IsFresh : ListingSeen → Type 0
IsFresh s = is_types s.stage ≡ false → s.judged ≡ []

-- the domain is the table's, and it is known whether anything differs once all came
pub record IsHeld (table : OwnTable) (s : Seen) : Type 0 where
  pub domain : s.domain ≡ Domain table.domain
  pub named : IsScope s.domain
  pub fresh : IsFresh (seen_of s)
  pub alike : is_done (seen_of s) ≡ true → s.alike ≡ nothing_differs table (seen_of s)

-- it may be concluded, and was held at the mark
pub record MayConclude (table : OwnTable) (mark : Mark) (s : Seen) : Type 0 where
  pub domain : s.domain ≡ Domain table.domain
  pub named : IsScope s.domain
  pub fresh : IsFresh (seen_of s)
  pub fresh_before : IsFresh (undone mark (seen_of s))
  pub alike_before : is_done (undone mark (seen_of s)) ≡ true
      → s.alike ≡ nothing_differs table (undone mark (seen_of s))

-- the peer is there, and what is kept is held against its table
pub record IsListing (rows : CentreRows) (peer : ℕ) (s : Seen) : Type 0 where
  pub known : peer < length rows.tables
  pub held : IsHeld (first_table rows peer) s
