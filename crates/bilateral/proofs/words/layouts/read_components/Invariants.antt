use Rattle.std.proofs.Common.{◌≡◌, ◌<◌, ◌+◌, ◌==◌, ◌++◌, length, None}
use Rattle.std.specs.Option.{option_map, option_map_or, option_copied}
use Rattle.std.specs.List.{slice_split}
use Rattle.plain_text.specs.Words.{parts_after}
use Rattle.plain_text.specs.Words.{each_in}
use Rattle.bilateral.specs.Words.Words.{component_in}
use Rattle.bilateral.proofs.words.layouts.read_components.Given as goal

abbrev pub invariant-loop-rest : goal.invariant-loop-rest
invariant-loop-rest l = record {
  read : each_in component_in (slice_split (λ octet. octet == 44) l.word)
      ≡ option_map (λ more. l.components.items ++ more)
      (each_in component_in (parts_after 44 (option_copied l.rest)));
  nonempty : option_copied l.rest ≡ None → 0 < length l.components.items;
}

abbrev pub decreases-loop-rest : goal.decreases-loop-rest
decreases-loop-rest l = option_map_or (λ text. length text + 1) (option_copied l.rest) 0
