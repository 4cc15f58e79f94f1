-- Data, outcomes and names as text.
use Rattle.std.specs.Prelude.{ℕ, if◌then◌else◌, List, [], ◌++◌, map, codes, decimal}
use Rattle.std.specs.Fmt.{signed_decimal}
use Rattle.std.specs.List.{join_with_byte}
use Rattle.plain_text.specs.Octets.{hex_text}
use Rattle.plain_text.specs.Escaped.{escaped_text}
use Rattle.mms_data.specs.declared.object_name.Scope.{Scope}
use Rattle.mms_data.specs.declared.object_name.Scope.TheVariants.{Vmd, Domain, Association}
use Rattle.mms_data.specs.declared.outcome.Outcome.{Outcome}
use Rattle.mms_data.specs.declared.outcome.Outcome.TheVariants.{Good, Fail}
use Rattle.mms_data.specs.Datum.{Datum, boolean, integer, unsigned, bits, real, octets, text}
use Rattle.mms_data.specs.Datum.{structure, array, Data, no_data, datum}
use Rattle.mms_data.specs.ObjectName.{ObjectName}

abbrev mutual
  -- a letter for the kind of a datum, then its value; members stand in brackets, a comma between
  -- each two
  pub data_text : Datum → List ℕ
  data_text (boolean b) = if b then codes "T" else codes "F"
  data_text (integer z) = codes "i" ++ signed_decimal z
  data_text (unsigned n) = codes "u" ++ decimal n
  data_text (bits b) = codes "b" ++ decimal b.count ++ codes "." ++ hex_text b.octets
  data_text (real o) = codes "f" ++ hex_text o
  data_text (octets o) = codes "o" ++ hex_text o
  data_text (text o) = codes "v" ++ escaped_text o
  data_text (structure ds) = codes "{" ++ members_text ds ++ codes "}"
  data_text (array ds) = codes "[" ++ members_text ds ++ codes "]"

  -- members, a comma between each two
  pub members_text : Data → List ℕ
  members_text no_data = []
  members_text (datum d ds) = data_text d ++ further_text ds

  -- members, a comma before each
  pub further_text : Data → List ℕ
  further_text no_data = []
  further_text (datum d ds) = codes "," ++ data_text d ++ further_text ds

-- a datum, or `!` and the number of the reason
abbrev pub outcome_text : Outcome → List ℕ
outcome_text (Good d) = data_text d
outcome_text (Fail reason) = codes "!" ++ decimal reason

-- a scope: `vmd:`, a domain and `/`, or `aa:`
abbrev pub scope_text : Scope → List ℕ
scope_text Vmd = codes "vmd:"
scope_text (Domain domain) = escaped_text domain ++ codes "/"
scope_text Association = codes "aa:"

-- the scope and the item
abbrev pub name_text : ObjectName → List ℕ
name_text name = scope_text name.scope ++ escaped_text name.item

-- names, a space between each two
abbrev pub names_text : List ObjectName → List ℕ
names_text names = join_with_byte 32 (map name_text names)
