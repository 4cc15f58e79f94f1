-- What printed texts show, computed.
use Rattle.std.proofs.Common.{◌≡◌, ℕ, List, [], ◌∷◌, ◌++◌, map, refl}
use Rattle.std.specs.Prelude.{codes}
use Rattle.std.specs.Fmt.{digits}
use Rattle.hex.specs.Hex.{decode_pairs}
use Rattle.tase_replay.specs.PrintedLines.{sent_octet, end_words, shown_to}
use Rattle.tase_replay.specs.OrdersPrinted.{orders_shown}

abbrev example : List ℕ
example = codes "reply 7 read i5" ++ 10 ∷ codes "out 7 0aff" ++ 10 ∷ codes "out 70 00" ++ 10 ∷
    codes "report 7 vars DOMA/LOAD1={i5,u3}" ++ 10 ∷ codes "out 7 10" ++ 10 ∷ codes "ended 7 refused acse 3 tag" ++ 10 ∷ []

own_lines : shown_to 7 example
    ≡ map sent_octet (10 ∷ 255 ∷ 16 ∷ []) ++ end_words (codes "refused acse 3 tag") ∷ []
unfolding digits decode_pairs
own_lines = refl

others_lines : shown_to 70 example ≡ sent_octet 0 ∷ []
unfolding digits decode_pairs
others_lines = refl

no_lines : shown_to 1 example ≡ []
unfolding digits decode_pairs
no_lines = refl

-- orders, and lines that begin nearly so
orders_apart : orders_shown (codes "order BRK1 1" ++ 10 ∷ codes "reply 7 read !2" ++ 10 ∷
    codes "orders" ++ 10 ∷ codes "out 7 0a" ++ 10 ∷ codes "order TAP1 -5" ++ 10 ∷ [])
    ≡ codes "BRK1 1" ∷ codes "TAP1 -5" ∷ []
orders_apart = refl
