-- A search of all places, one place after another.
use Rattle.std.proofs.Common.{◌≡◌, ℕ, zero, suc, ◌+◌, ◌-◌, ◌<◌, Bool, true, false}
use Rattle.std.proofs.Common.{filter, get_or, refl, ap, ◌∙◌, arith}
use Rattle.std.specs.List.{range_with_len}

-- of so many places from one on that pass a test, the one of this number, or the end
abbrev pub found_from : (ℕ → Bool) → ℕ → ℕ → ℕ → ℕ → ℕ
found_from test place count number end =
    get_or (filter test (range_with_len place count)) number end

here : (test : ℕ → Bool) (place count end : ℕ) → 0 < count → test place ≡ true
    → found_from test place count 0 end ≡ place
here test place zero end some e = absurd (omega (arith, some))
here test place (suc count) end some e = rw e refl

later : (test : ℕ → Bool) (place count number end : ℕ) → test place ≡ true
    → found_from test place (suc count) (suc number) end
    ≡ found_from test (place + 1) count number end
later test place count number end e = rw e refl

passed : (test : ℕ → Bool) (place count number end : ℕ) → test place ≡ false
    → found_from test place (suc count) number end ≡ found_from test (place + 1) count number end
passed test place count number end e = rw e refl

pub found-here : (test : ℕ → Bool) (place number end : ℕ) → place < end → test place ≡ true
    → number ≡ 0 → found_from test place (end - place) number end ≡ place
found-here test place number end below e none =
    rw none (here test place (end - place) end (omega (arith, below)) e)

pub found-later : (test : ℕ → Bool) (place number end : ℕ) → place < end → test place ≡ true
    → 0 < number
    → found_from test place (end - place) number end
    ≡ found_from test (place + 1) (end - (place + 1)) (number - 1) end
found-later test place number end below e some =
    let count : end - place ≡ suc (end - (place + 1)) = omega (arith, below) in
    let number_is : number ≡ suc (number - 1) = omega (arith, some) in
    ap (λ n. found_from test place n number end) count
    ∙ ap (λ n. found_from test place (suc (end - (place + 1))) n end) number_is
    ∙ later test place (end - (place + 1)) (number - 1) end e

pub found-passed : (test : ℕ → Bool) (place number end : ℕ) → place < end → test place ≡ false
    → found_from test place (end - place) number end
    ≡ found_from test (place + 1) (end - (place + 1)) number end
found-passed test place number end below e =
    let count : end - place ≡ suc (end - (place + 1)) = omega (arith, below) in
    ap (λ n. found_from test place n number end) count
    ∙ passed test place (end - (place + 1)) number end e
