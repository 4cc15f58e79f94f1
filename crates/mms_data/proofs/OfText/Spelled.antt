-- The text of members grows by one member.
use Rattle.std.proofs.Common.{◌≡◌, ℕ, ◌+◌, ◌<◌, ◌≤◌, List, [], ◌∷◌, ◌++◌, length, take, get_or, sym, ap}
use Rattle.std.proofs.Common.{◌∙◌, append_assoc, append-nil, length-take, zero, suc, arith}
use Rattle.std.proofs.lemmas.List.{take_more}
use Rattle.mms_data.specs.Datum.{Datum, data_of, depth, deepest}
use Rattle.mms_data.specs.Text.Texts.{data_text, members_text, further_text}
use Rattle.plain_text.proofs.Extended.{Extends-append}

pub further_text-push : (ds : List Datum) (d : Datum)
    → further_text (data_of (ds ++ d ∷ [])) ≡ further_text (data_of ds) ++ 44 ∷ data_text d
further_text-push [] d = ap (λ t. 44 ∷ t) (append-nil (data_text d))
further_text-push (x ∷ xs) d =
    ap (λ t. 44 ∷ (data_text x ++ t)) (further_text-push xs d)
    ∙ ap (λ t. 44 ∷ t)
    (sym (append_assoc (data_text x) (further_text (data_of xs)) (44 ∷ data_text d)))

pub members_text-push : (ds : List Datum) (d : Datum) → 0 < length ds
    → members_text (data_of (ds ++ d ∷ [])) ≡ members_text (data_of ds) ++ 44 ∷ data_text d
members_text-push [] d h = absurd (omega arith)
members_text-push (x ∷ xs) d h =
    ap (λ t. data_text x ++ t) (further_text-push xs d)
    ∙ sym (append_assoc (data_text x) (further_text (data_of xs)) (44 ∷ data_text d))

-- the text of the first member
pub members_text-take_one : (ds : List Datum) (i : ℕ) (d : Datum) → i < length ds → i ≡ 0
    → members_text (data_of (take (i + 1) ds)) ≡ members_text (data_of (take i ds))
    ++ data_text (get_or ds i d)
members_text-take_one [] i d h e = absurd (omega arith)
members_text-take_one (x ∷ xs) zero d h e = append-nil (data_text x)
members_text-take_one (x ∷ xs) (suc i) d h e = absurd (omega arith)

-- the text of one member more
pub members_text-take_more : (ds : List Datum) (i : ℕ) (d : Datum) → i < length ds → 0 < i
    → members_text (data_of (take (i + 1) ds)) ≡ members_text (data_of (take i ds))
    ++ 44 ∷ data_text (get_or ds i d)
members_text-take_more ds i d h p =
    rw (take_more ds i d h)
    (members_text-push (take i ds) (get_or ds i d) (omega (arith, length-take i ds)))

-- no member is deeper than the deepest
pub member_shallow : (ds : List Datum) (i : ℕ) (d : Datum) → i < length ds
    → depth (get_or ds i d) ≤ deepest (data_of ds)
member_shallow [] i d h = absurd (omega arith)
member_shallow (x ∷ xs) zero d h = omega arith
member_shallow (x ∷ xs) (suc i) d h = omega (arith, member_shallow xs i d (omega arith))

pub ruleset spelled = (Extends-append, members_text-take_one, members_text-take_more)
