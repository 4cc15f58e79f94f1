-- The parts so far are words.
use Rattle.std.proofs.Common.{◌≡◌, ◌==◌, length}
use Rattle.std.specs.List.{list_all, slice_split}
use Rattle.plain_text.specs.Words.{is_word}
use Rattle.texts.proofs.journal.reading.is_single_spaced.Given as goal

abbrev pub invariant-loop-more : goal.invariant-loop-more
invariant-loop-more l =
    list_all is_word (slice_split (λ octet. octet == 32) l.fn.line)
    ≡ list_all is_word (slice_split (λ octet. octet == 32) l.rest)

abbrev pub decreases-loop-more : goal.decreases-loop-more
decreases-loop-more l = length l.rest
