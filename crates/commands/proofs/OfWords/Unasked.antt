-- Words of which no command has so many.
use Rattle.std.proofs.Common.{◌≡◌, ◌≢◌, ◌<◌, List, [], ◌∷◌, length, None, false, refl, arith}
use Rattle.std.specs.Prelude.{String, map, string_bytes}
use Rattle.std.specs.declared.alloc.Global.{Global}
use Rattle.commands.specs.Words.Kinds.{are_options, is_question, kind_in}

-- so many words are no options
pub no_more_options : (words : List (String Global)) → length words ≢ 0 → length words ≢ 2
    → length words ≢ 4 → false ≡ are_options (map string_bytes words)
no_more_options [] none two four = absurd (none refl)
no_more_options (a ∷ []) none two four = refl
no_more_options (a ∷ b ∷ []) none two four = absurd (two refl)
no_more_options (a ∷ b ∷ c ∷ []) none two four = refl
no_more_options (a ∷ b ∷ c ∷ d ∷ []) none two four = absurd (four refl)
no_more_options (a ∷ b ∷ c ∷ d ∷ e ∷ more) none two four = refl

-- nor a question
pub no_question : (words : List (String Global)) → length words ≢ 4
    → false ≡ is_question (map string_bytes words)
no_question [] four = refl
no_question (a ∷ []) four = refl
no_question (a ∷ b ∷ []) four = refl
no_question (a ∷ b ∷ c ∷ []) four = refl
no_question (a ∷ b ∷ c ∷ d ∷ []) four = absurd (four refl)
no_question (a ∷ b ∷ c ∷ d ∷ e ∷ more) four = refl

-- fewer than two words are no command
pub no_kind : (words : List (String Global)) → length words < 2
    → None ≡ kind_in (map string_bytes words)
no_kind [] few = refl
no_kind (a ∷ []) few = refl
no_kind (a ∷ b ∷ more) few = absurd (omega (arith, few))
