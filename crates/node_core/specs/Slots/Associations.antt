-- The open associations of a peer, with the reports that they haven't taken.
use Rattle.std.specs.Prelude.{ℕ, ◌==◌, not, if◌then◌else◌, Bool, List, [], ◌++◌, filter}
use Rattle.std.specs.Prelude.{slice_index_or, find}
use Rattle.std.specs.List.{list_any}
use Rattle.std.specs.Option.{option_map_or}
use Rattle.tase_views.specs.declared.reply.ReportKind.{ReportKind}

-- an association, by its ordinal; the reports that were made for it since its last take, the oldest
-- first; and those of an event that isn't noted yet
pub record OpenAssociation : Type 0 where
  pub ordinal : ℕ
  pub made : List ReportKind
  pub drafted : List ReportKind

abbrev pub new_association : ℕ → OpenAssociation
new_association ordinal = record { ordinal = ordinal; made = []; drafted = [] }

-- whether the association with this ordinal is among these
abbrev pub is_open_in : ℕ → List OpenAssociation → Bool
is_open_in ordinal those = list_any (λ (a : OpenAssociation). a.ordinal == ordinal) those

-- behind the end of the association with this ordinal
abbrev pub open_without : ℕ → List OpenAssociation → List OpenAssociation
open_without ordinal those = filter (λ (a : OpenAssociation). not (a.ordinal == ordinal)) those

-- the association at a place
abbrev pub association_at : List OpenAssociation → ℕ → OpenAssociation
association_at those place = slice_index_or those place (new_association 0)

-- with these reports of an event that isn't noted yet; with none; and where it is noted
abbrev pub drafted_by : List ReportKind → OpenAssociation → OpenAssociation
drafted_by reports a = record a { drafted = reports }

abbrev pub undrafted : OpenAssociation → OpenAssociation
undrafted a = record a { drafted = [] }

abbrev pub with_drafted : OpenAssociation → OpenAssociation
with_drafted a = record a { made = a.made ++ a.drafted; drafted = [] }

-- the reports that were made for the association with this ordinal, where it is open
abbrev pub made_for : ℕ → List OpenAssociation → List ReportKind
made_for ordinal those =
    option_map_or (λ (a : OpenAssociation). a.made)
    (find (λ (a : OpenAssociation). a.ordinal == ordinal) those) []

-- behind a take of the association with this ordinal
abbrev pub behind_take : ℕ → OpenAssociation → OpenAssociation
behind_take ordinal a =
    if a.ordinal == ordinal then record a { made = []; drafted = [] } else a
