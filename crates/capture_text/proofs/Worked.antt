-- Captures worked out by hand.
use Rattle.std.proofs.Common.{◌≡◌, ◌++◌, [], ◌∷◌, Ok, Err, codes, refl}
use Rattle.hex.proofs.OnLiterals.{hex_on_literals}
use Rattle.capture_text.specs.Captures.{capture_in}

-- digits in either case, a CR dropped, a remark and an empty line skipped, the last line without LF
two_lines : capture_in (codes "# a remark" ++ 10 ∷ codes "8b" ++ 13 ∷ 10 ∷ 10 ∷ codes "00aF")
    ≡ Ok (139 ∷ 0 ∷ 175 ∷ [])
unfolding hex_on_literals
two_lines = refl

-- an odd number of digits
odd_line : capture_in (codes "8B00" ++ 10 ∷ 10 ∷ codes "8B0" ++ 10 ∷ codes "0") ≡ Err 3
unfolding hex_on_literals
odd_line = refl

-- a space is no digit
spaced_line : capture_in (codes "8B 00") ≡ Err 1
unfolding hex_on_literals
spaced_line = refl

no_line : capture_in [] ≡ Ok []
unfolding hex_on_literals
no_line = refl
