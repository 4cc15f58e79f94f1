-- Lists of which one item after another is changed.
use Rattle.std.proofs.Common.{◌≡◌, ℕ, zero, suc, ◌+◌, ◌<◌, ◌≤◌, List, [], ◌∷◌, map, length, set}
use Rattle.std.proofs.Common.{get_or, refl, ap, add-one, arith}
use Rattle.sbo_device.specs.Banks.{DeviceRecord}

-- a list of which the first so many items are changed
abbrev pub part_by : (DeviceRecord → DeviceRecord) → ℕ → List DeviceRecord → List DeviceRecord
part_by f zero xs = xs
part_by f (suc n) [] = []
part_by f (suc n) (x ∷ xs) = f x ∷ part_by f n xs

pub part-length : (f : DeviceRecord → DeviceRecord) (n : ℕ) (xs : List DeviceRecord)
    → length (part_by f n xs) ≡ length xs
part-length f zero xs = refl
part-length f (suc n) [] = refl
part-length f (suc n) (x ∷ xs) = ap suc (part-length f n xs)

step : (f : DeviceRecord → DeviceRecord) (n : ℕ) (xs : List DeviceRecord) (d : DeviceRecord)
    → n < length xs
    → set (part_by f n xs) n (f (get_or (part_by f n xs) n d)) ≡ part_by f (suc n) xs
step f zero [] d within = absurd (omega (arith, within))
step f zero (x ∷ xs) d within = refl
step f (suc n) [] d within = absurd (omega (arith, within))
step f (suc n) (x ∷ xs) d within =
    ap (λ (ys : List DeviceRecord). f x ∷ ys) (step f n xs d (omega (arith, within)))

pub part-step : (f : DeviceRecord → DeviceRecord) (n : ℕ) (xs : List DeviceRecord)
    (d : DeviceRecord) → n < length xs
    → set (part_by f n xs) n (f (get_or (part_by f n xs) n d)) ≡ part_by f (n + 1) xs
part-step f n xs d within = rw (add-one n) (step f n xs d within)

pub part-all : (f : DeviceRecord → DeviceRecord) (n : ℕ) (xs : List DeviceRecord)
    → length xs ≤ n → part_by f n xs ≡ map f xs
part-all f zero [] past = refl
part-all f zero (x ∷ xs) past = absurd (omega (arith, past))
part-all f (suc n) [] past = refl
part-all f (suc n) (x ∷ xs) past =
    ap (λ (ys : List DeviceRecord). f x ∷ ys) (part-all f n xs (omega (arith, past)))
