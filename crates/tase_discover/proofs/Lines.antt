-- Lines of the items of a list that pass a test, item by item.
use Rattle.std.proofs.Common.{◌≡◌, ℕ, ◌+◌, ◌<◌, Bool, true, false, List, [], ◌∷◌, ◌++◌, length}
use Rattle.std.proofs.Common.{get_or, take, flat_map, sym, ap, ◌∙◌, append_assoc, append-nil}
use Rattle.std.specs.Prelude.{filter, cond}
use Rattle.std.proofs.lemmas.List.{take_more}
use Rattle.std.proofs.lemmas.List.Elements.{filter-append}
use Rattle.std.proofs.lemmas.Grind.{flat_map-append}

abbrev pub kept_lines : {A : Type 0} → (A → Bool) → (A → List ℕ) → List A → List ℕ
kept_lines test line items = flat_map line (filter test items)

kept_lines-append : {A : Type 0} (test : A → Bool) (line : A → List ℕ) (some more : List A)
    → kept_lines test line (some ++ more) ≡ kept_lines test line some ++ kept_lines test line more
kept_lines-append test line some more =
    ap (flat_map line) (filter-append test some more)
    ∙ flat_map-append line (filter test some) (filter test more)

kept_lines-more : {A : Type 0} (test : A → Bool) (line : A → List ℕ) (items : List A) (i : ℕ)
    (d : A) → i < length items → kept_lines test line (take (i + 1) items)
    ≡ kept_lines test line (take i items) ++ kept_lines test line (get_or items i d ∷ [])
kept_lines-more test line items i d within =
    ap (kept_lines test line) (take_more items i d within)
    ∙ kept_lines-append test line (take i items) (get_or items i d ∷ [])

one_kept : {A : Type 0} (test : A → Bool) (line : A → List ℕ) (item : A) → test item ≡ true
    → kept_lines test line (item ∷ []) ≡ line item
one_kept {A = A} test line item kept =
    ap (λ (b : Bool). flat_map line (cond b (item ∷ []) [])) kept ∙ append-nil (line item)

none_kept : {A : Type 0} (test : A → Bool) (line : A → List ℕ) (item : A) → test item ≡ false
    → kept_lines test line (item ∷ []) ≡ []
none_kept {A = A} test line item passed =
    ap (λ (b : Bool). flat_map line (cond b (item ∷ []) [])) passed

-- the line of an item that passes the test is appended
pub line_pushed : {A : Type 0} (test : A → Bool) (line : A → List ℕ) (items : List A) (i : ℕ)
    (item : A) (first shown after : List ℕ) → i < length items → item ≡ get_or items i item
    → test item ≡ true → shown ≡ first ++ kept_lines test line (take i items)
    → after ≡ shown ++ line item → after ≡ first ++ kept_lines test line (take (i + 1) items)
line_pushed {A = A} test line items i item first shown after within is kept so_far appended =
    let here : kept_lines test line (get_or items i item ∷ []) ≡ line item =
    ap (λ (x : A). kept_lines test line (x ∷ [])) (sym is) ∙ one_kept test line item kept in
    appended ∙ ap (λ (os : List ℕ). os ++ line item) so_far
    ∙ append_assoc first (kept_lines test line (take i items)) (line item)
    ∙ ap (λ (os : List ℕ). first ++ os)
    (ap (λ (os : List ℕ). kept_lines test line (take i items) ++ os) (sym here)
    ∙ sym (kept_lines-more test line items i item within))

-- nothing is appended of one that doesn't
pub line_passed : {A : Type 0} (test : A → Bool) (line : A → List ℕ) (items : List A) (i : ℕ)
    (item : A) (first shown : List ℕ) → i < length items → item ≡ get_or items i item
    → test item ≡ false → shown ≡ first ++ kept_lines test line (take i items)
    → shown ≡ first ++ kept_lines test line (take (i + 1) items)
line_passed {A = A} test line items i item first shown within is passed so_far =
    let here : kept_lines test line (get_or items i item ∷ []) ≡ [] =
    ap (λ (x : A). kept_lines test line (x ∷ [])) (sym is) ∙ none_kept test line item passed in
    so_far ∙ ap (λ (os : List ℕ). first ++ os)
    (sym (append-nil (kept_lines test line (take i items)))
    ∙ ap (λ (os : List ℕ). kept_lines test line (take i items) ++ os) (sym here)
    ∙ sym (kept_lines-more test line items i item within))
