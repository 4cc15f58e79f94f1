-- What a link gave, worked out by hand.
use Rattle.std.proofs.Common.{◌≡◌, ◌++◌, [], ◌∷◌, Ok, Err, true, false, codes, refl}
use Rattle.hex.proofs.OnLiterals.{hex_on_literals}
use Rattle.tase_verify.specs.LinkText.{given_in}

nothing : given_in [] ≡ Ok ([], false)
unfolding hex_on_literals
nothing = refl

-- a link that goes on
going_on : given_in (codes "# a remark" ++ 10 ∷ codes "8b" ++ 13 ∷ 10 ∷ 10 ∷ codes "00aF")
    ≡ Ok (139 ∷ 0 ∷ 175 ∷ [], false)
unfolding hex_on_literals
going_on = refl

-- one that has ended; the line may have a CR, and skipped lines stand behind it
has_ended : given_in (codes "8b" ++ 10 ∷ codes "end" ++ 13 ∷ 10 ∷ codes "# over" ++ 10 ∷ 10 ∷ [])
    ≡ Ok (139 ∷ [], true)
unfolding hex_on_literals
has_ended = refl

-- one that ended at once, without LF
ended_at_once : given_in (codes "end") ≡ Ok ([], true)
unfolding hex_on_literals
ended_at_once = refl

-- octets behind the end
octets_behind : given_in (codes "8b" ++ 10 ∷ codes "end" ++ 10 ∷ 10 ∷ codes "00") ≡ Err 4
unfolding hex_on_literals
octets_behind = refl

-- a second end
ended_twice : given_in (codes "end" ++ 10 ∷ codes "end") ≡ Err 2
unfolding hex_on_literals
ended_twice = refl

-- a bad line in front of the end comes first
bad_in_front : given_in (codes "8" ++ 10 ∷ codes "end" ++ 10 ∷ codes "end") ≡ Err 1
unfolding hex_on_literals
bad_in_front = refl

-- a space makes another line of it
spaced_end : given_in (codes "end ") ≡ Err 1
unfolding hex_on_literals
spaced_end = refl
