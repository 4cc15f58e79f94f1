-- The data of the presentation's user (ISO 8823-1, 8.4.2, User-data): one list of one value.
use Rattle.std.specs.Prelude.{ℕ, Option}
use Rattle.ber_values.specs.declared.external.External.{External}
use Rattle.ber_values.specs.Grammars.{Grammar}
use Rattle.ber_values.specs.Parts.{part_in, all_in}
use Rattle.ber_values.specs.Externals.{external}

unfoldable pub user_data : Option ℕ → Grammar External
user_data wanted = part_in 97 (all_in (part_in 48 (external wanted)))
