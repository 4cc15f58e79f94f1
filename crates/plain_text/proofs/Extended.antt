-- A text that grew keeps its begin.
use Rattle.std.proofs.Common.{ℕ, List, ◌++◌, length, take, drop, ◌≡◌, sym, ap, ◌∙◌, append_assoc}
use Rattle.std.proofs.lemmas.List.{take-append-drop}
use Rattle.std.proofs.Math.Seq.{take-append_seam}
use Rattle.plain_text.specs.Extends.{Extends}

-- what begins with a longer text begins with the shorter one
pub Extends-append : (xs ys zs : List ℕ) → Extends (xs ++ ys) zs → Extends xs zs
Extends-append xs ys zs e =
    let n = length (xs ++ ys) in
    let whole : zs ≡ xs ++ (ys ++ drop n zs) = sym (take-append-drop n zs)
    ∙ ap (λ t. t ++ drop n zs) e ∙ append_assoc xs ys (drop n zs) in
    ap (take (length xs)) whole ∙ take-append_seam xs (ys ++ drop n zs)
