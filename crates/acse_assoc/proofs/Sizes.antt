-- Lengths of what is written.
use Rattle.std.proofs.Common.{◌≡◌, ℕ, ◌+◌, ◌<◌, List, length, refl, sym, ap, ◌∙◌, arith}
use Rattle.plain_text.proofs.Extended.{Extends-append}
use Rattle.ber_values.specs.Writing.{written}
use Rattle.ber_values.proofs.Capped.{length-written, part_size-short}
use Rattle.acse_assoc.specs.Writing.{mms_context}

pub ruleset extended = (Extends-append)

-- an element of few octets has a length of one octet
pub written-short : (tag n : ℕ) (contents : List ℕ) → n ≡ length contents → n < 128
    → 2 + n ≡ length (written tag contents)
written-short tag n contents e few =
    ap (λ (k : ℕ). 2 + k) e
    ∙ sym (length-written tag contents ∙ part_size-short (length contents) (omega (arith, e, few)))

pub context_len : length (written 161 (written 6 mms_context)) ≡ 9
context_len = sym (written-short 161 7 (written 6 mms_context)
    (written-short 6 5 mms_context refl (omega arith)) (omega arith))
