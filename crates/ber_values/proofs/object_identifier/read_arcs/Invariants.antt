use Rattle.std.proofs.Common.{◌≡◌, ◌+◌, ◌==◌, ◌++◌, length}
use Rattle.std.specs.Option.{option_map, option_map_or, option_copied}
use Rattle.std.specs.List.{slice_split}
use Rattle.plain_text.specs.Numbers.{number_up_to}
use Rattle.plain_text.specs.Words.{parts_after}
use Rattle.plain_text.specs.Words.{each_in}
use Rattle.ber_values.specs.declared.object_identifier.TheConstants.{ARC_LIMIT}
use Rattle.ber_values.proofs.object_identifier.read_arcs.Given as goal

abbrev pub invariant-loop-rest : goal.invariant-loop-rest
invariant-loop-rest l =
    each_in (number_up_to ARC_LIMIT) (slice_split (λ octet. octet == 46) l.word)
    ≡ option_map (λ more. l.arcs.items ++ more)
    (each_in (number_up_to ARC_LIMIT) (parts_after 46 (option_copied l.rest)))

abbrev pub decreases-loop-rest : goal.decreases-loop-rest
decreases-loop-rest l = option_map_or (λ text. length text + 1) (option_copied l.rest) 0
