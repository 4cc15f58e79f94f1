-- User information (ISO 8650-1, Association-information): an EXTERNAL.
use Rattle.std.specs.Prelude.{ℕ, Option}
use Rattle.ber_values.specs.declared.external.External.{External}
use Rattle.ber_values.specs.Parts.{Contents, part_in, all_in}
use Rattle.ber_values.specs.Externals.{external}

-- of the context with this id, where it is known
unfoldable pub user_information : Option ℕ → Contents External
user_information id = all_in (part_in 40 (external id))
