-- The lines that are taken are the first of a scenario.
use Rattle.std.proofs.Common.{◌≡◌, ℕ, ◌+◌, List, [], ◌∷◌, ◌++◌, map, refl, ap}
use Rattle.tase_views.specs.Setup.{Setup}
use Rattle.tase_replay.specs.Play.{Scene, LineMeaning, bad, too_heavy, gives, line_meaning, TakenLine, Played}
use Rattle.tase_replay.specs.Play.{done, play_line, play}

abbrev taken_lines : Played → List (List ℕ)
taken_lines played = map (λ (taken : TakenLine). taken.line) played.taken

pub first_taken : (setup : Setup) (lines : List (List ℕ)) (scene : Scene) (at : ℕ)
    → (rest : List (List ℕ)) × (taken_lines (play setup lines scene at) ++ rest ≡ lines)
first_taken setup [] scene at = ([], refl)
first_taken setup (line ∷ more) scene at =
    one (line_meaning setup scene line) (λ after. first_taken setup more after (at + 1))
  where
    one : (meaning : LineMeaning)
        → ((after : Scene) → (rest : List (List ℕ))
        × (taken_lines (play setup more after (at + 1)) ++ rest ≡ more))
        → (rest : List (List ℕ)) × (taken_lines (play_line line at meaning
        (λ after. play setup more after (at + 1))) ++ rest ≡ line ∷ more)
    one bad each = (line ∷ more, refl)
    one (too_heavy steps weight limit) each = (line ∷ more, refl)
    one (gives steps after) each =
        let next = each after in
        (next.0, ap (λ (texts : List (List ℕ)). line ∷ texts) next.1)

-- where no line is bad, all lines are taken
pub all_taken : (setup : Setup) (lines : List (List ℕ)) (scene : Scene) (at : ℕ)
    → (play setup lines scene at).end ≡ done → taken_lines (play setup lines scene at) ≡ lines
all_taken setup [] scene at e = refl
all_taken setup (line ∷ more) scene at e =
    one (line_meaning setup scene line) e (λ after ends. all_taken setup more after (at + 1) ends)
  where
    one : (meaning : LineMeaning) → (play_line line at meaning
        (λ after. play setup more after (at + 1))).end ≡ done
        → ((after : Scene) → (play setup more after (at + 1)).end ≡ done
        → taken_lines (play setup more after (at + 1)) ≡ more)
        → taken_lines (play_line line at meaning (λ after. play setup more after (at + 1)))
        ≡ line ∷ more
    one bad ends rest = absurd cc
    one (too_heavy steps weight limit) ends rest = absurd cc
    one (gives steps after) ends rest = ap (λ (texts : List (List ℕ)). line ∷ texts)
        (rest after ends)
