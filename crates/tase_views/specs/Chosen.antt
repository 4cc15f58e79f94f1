-- Which of a peer's tables was chosen last.
use Rattle.std.specs.Prelude.{ℕ, filter_map}
use Rattle.tase_views.specs.Force.{last_chosen}
use Rattle.tase_views.specs.View.{View, table_seen}

-- the number of the table that was chosen last, whether it is in force or waits for a close
abbrev pub chosen_in : View → ℕ
chosen_in view = last_chosen (filter_map table_seen view)
