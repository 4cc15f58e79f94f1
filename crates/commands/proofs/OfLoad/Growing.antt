-- What a loop has written.
use Rattle.std.proofs.Common.{◌≡◌, ℕ, suc, ◌+◌, List, ◌++◌, sym, ap, ◌∙◌, append_assoc, append-nil}
use Rattle.std.proofs.Common.{add-one}
use Rattle.commands.specs.Load.Generated.{each_below}

-- with what is written for one more number
pub each_more : (text : ℕ → List ℕ) (n : ℕ) (start old new : List ℕ)
    → old ≡ start ++ each_below text n → new ≡ old ++ text n
    → new ≡ start ++ each_below text (n + 1)
unfolding each_below
each_more text n start old new so_far more = rw add-one
    (more ∙ ap (λ (o : List ℕ). o ++ text n) so_far
    ∙ append_assoc start (each_below text n) (text n))

-- before its first number
pub none_below : (text : ℕ → List ℕ) (start : List ℕ) → start ≡ start ++ each_below text 0
unfolding each_below
none_below text start = sym (append-nil start)

pub ruleset grown = (each_more, none_below)

-- pieces that are appended one after another
pub ruleset joined = (append_assoc)
