-- Lengths of the texts of data: of values without members, and of members one by one.
use Rattle.std.proofs.Common.{◌≡◌, ◌==◌, ℕ, zero, suc, ◌+◌, ◌<◌, false, List}
use Rattle.std.proofs.Common.{[], ◌∷◌, ◌++◌, length, take, get_or, refl, ap, ◌∙◌, arith}
use Rattle.std.specs.Prelude.{if◌then◌else◌}
use Rattle.std.proofs.lemmas.Bool.{ne_eqb}
use Rattle.std.proofs.lemmas.List.{length-append}
use Rattle.plain_text.specs.Lengths.{capped_len}
use Rattle.mms_data.specs.Datum.{Datum, data_of}
use Rattle.mms_data.specs.Text.Texts.{data_text, members_text}
use Rattle.mms_data.proofs.OfText.Spelled.{members_text-take_one, members_text-take_more}

-- the text of the members up to one, by that of those before it
members_text-length : (ds : List Datum) (i : ℕ) (d : Datum) → i < length ds
    → length (members_text (data_of (take (i + 1) ds)))
    ≡ length (members_text (data_of (take i ds)))
    + ((if i == 0 then 0 else 1) + length (data_text (get_or ds i d)))
members_text-length ds zero d within =
    ap length (members_text-take_one ds 0 d within refl)
    ∙ length-append (members_text (data_of (take 0 ds))) (data_text (get_or ds 0 d))
    ∙ omega arith
members_text-length ds (suc i) d within =
    let later : (suc i == 0) ≡ false = ne_eqb (suc i) 0 (λ e. omega arith) in
    rw later (ap length (members_text-take_more ds (suc i) d within (omega arith))
    ∙ length-append (members_text (data_of (take (suc i) ds))) (44 ∷ data_text (get_or ds
    (suc i) d))
    ∙ omega arith)

pub capped-member : (ds : List Datum) (i : ℕ) (d : Datum) → i < length ds
    → capped_len (capped_len (length (members_text (data_of (take i ds))))
    + capped_len ((if i == 0 then 0 else 1) + capped_len (length (data_text (get_or ds i d)))))
    ≡ capped_len (length (members_text (data_of (take (i + 1) ds))))
capped-member ds i d within = omega (arith, members_text-length ds i d within)

pub ruleset member_lengths = (capped-member)

-- members in brackets
pub bracketed-length : (a b : ℕ) (os : List ℕ) (n : ℕ) → n ≡ capped_len (length os)
    → capped_len (2 + n) ≡ capped_len (length ((a ∷ []) ++ os ++ (b ∷ [])))
bracketed-length a b os n e =
    omega (arith, e, length-append ((a ∷ []) ++ os) (b ∷ []), length-append (a ∷ []) os)
