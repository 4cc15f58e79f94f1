-- What contracts see of a node's log.
use Rattle.std.specs.Prelude.{ℕ, List, Option}
use Rattle.tase_views.specs.declared.event.Entry.{Entry}

-- what the events may weigh, closes and a stop aside; the entries, the oldest first; what their
-- events weigh; the place of the stop; how many more lines there is room for, and how many octets
-- these may have together; and the line that was spelled last
pub record LogState : Type 0 where
  pub limit : ℕ
  pub entries : List Entry
  pub weight : ℕ
  pub stop : Option ℕ
  pub spare_lines : ℕ
  pub spare_octets : ℕ
  pub draft : List ℕ
