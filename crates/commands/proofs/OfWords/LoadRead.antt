-- What `clap` makes of `load N`.
use Rattle.std.proofs.Common.{◌≡◌, true, [], ◌∷◌, Some, refl, ap, codes}
use Rattle.clap.specs.Simple.{Shape, built, matches_of}
use Rattle.clap.specs.Takes.{takes}
use Rattle.clap.specs.Walk.{Text, Walk, first_of, nothing_held, walk_from}
use Rattle.clap.proofs.OnLiterals.{clap_on_literals}
use Rattle.commands.specs.Words.Matched.{load_app}
use Rattle.commands.proofs.OfWords.PlainWords.{IsPlainWord}
use Rattle.commands.proofs.OfWords.Walked.{IsRead, placed, read_none, read_placed, rows_are, taken}

abbrev shape : Shape
shape = (built load_app).top

abbrev end : Text → Walk
end word = placed shape 1 word nothing_held

read : (word : Text) → IsPlainWord word
    → IsRead shape (walk_from nothing_held) (end word) (word ∷ [])
unfolding clap_on_literals
read word plain =
    read_placed shape 1 nothing_held (end word) (end word) word [] plain refl refl
    (read_none shape (end word))

pub load_taken : (word : Text) → IsPlainWord word
    → takes load_app (codes "load" ∷ word ∷ []) ≡ true
unfolding clap_on_literals
load_taken word plain =
    taken load_app (codes "load") (word ∷ []) (end word) refl refl (read word plain) refl refl

pub load_first : (word : Text) → IsPlainWord word
    → first_of (codes "N") (matches_of load_app (codes "load" ∷ word ∷ [])) ≡ Some word
unfolding clap_on_literals
load_first word plain = ap (first_of (codes "N"))
    (rows_are load_app (codes "load") (word ∷ []) (end word) refl refl (read word plain))
