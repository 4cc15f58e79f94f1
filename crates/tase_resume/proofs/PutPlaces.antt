-- Entries put place by place are those of all places.
use Rattle.std.proofs.Common.{◌≡◌, ℕ, zero, suc, ◌+◌, List, [], ◌∷◌, ◌++◌, map, sym, ap, ◌∙◌}
use Rattle.std.proofs.Common.{arith, add-zero, add-one, Result, Ok, Err}
use Rattle.std.specs.Prelude.{flat_map, OnOk}
use Rattle.std.specs.List.{range_with_len}
use Rattle.std.proofs.lemmas.Grind.{flat_map-append}
use Rattle.std.proofs.lemmas.List.{append_assoc, append-nil, map-append}
use Rattle.tase_views.specs.declared.event.EventKind.{EventKind}
use Rattle.tase_views.specs.declared.event.Entry.{Entry}
use Rattle.tase_resume.specs.Warming.{of_centre}

range_more : (a n : ℕ) → range_with_len a (suc n) ≡ range_with_len a n ++ (a + n) ∷ []
range_more a zero = ap (λ (x : ℕ). x ∷ []) (sym (add-zero a))
range_more a (suc n) =
    let same : (a + 1) + n ≡ a + suc n = omega arith in
    ap (λ (l : List ℕ). a ∷ l)
    (range_more (a + 1) n ∙ ap (λ (x : ℕ). range_with_len (a + 1) n ++ x ∷ []) same)

places_more : (f : ℕ → List EventKind) (k : ℕ)
    → flat_map f (range_with_len 0 (k + 1)) ≡ flat_map f (range_with_len 0 k) ++ f k
places_more f k =
    let here : 0 + k ≡ k = omega arith in
    ap (λ (n : ℕ). flat_map f (range_with_len 0 n)) (add-one k)
    ∙ ap (flat_map f) (range_more 0 k)
    ∙ ap (λ (x : ℕ). flat_map f (range_with_len 0 k ++ x ∷ [])) here
    ∙ flat_map-append f (range_with_len 0 k) (k ∷ [])
    ∙ ap (λ (l : List EventKind). flat_map f (range_with_len 0 k) ++ l) (append-nil (f k))

pub put_more : (f : ℕ → List EventKind) (first out new : List Entry) (k : ℕ)
    → out ≡ first ++ map of_centre (flat_map f (range_with_len 0 k))
    → new ≡ out ++ map of_centre (f k)
    → new ≡ first ++ map of_centre (flat_map f (range_with_len 0 (k + 1)))
put_more f first out new k before is =
    is ∙ ap (λ (l : List Entry). l ++ map of_centre (f k)) before
    ∙ append_assoc first (map of_centre (flat_map f (range_with_len 0 k))) (map of_centre (f k))
    ∙ ap (λ (l : List Entry). first ++ l)
    (sym (map-append of_centre (flat_map f (range_with_len 0 k)) (f k)))
    ∙ ap (λ (l : List EventKind). first ++ map of_centre l) (sym (places_more f k))

-- what is put of one place

pub none_put : (these : List EventKind) (out : List Entry) → these ≡ []
    → out ≡ out ++ map of_centre these
none_put these out is =
    sym (append-nil out) ∙ ap (λ (l : List EventKind). out ++ map of_centre l) (sym is)

pub one_put : {T E : Type 0} (result : Result T E) (these : List EventKind) (event : EventKind)
    (out new : List Entry) → these ≡ event ∷ []
    → OnOk result (new ≡ out ++ of_centre event ∷ [])
    → OnOk result (new ≡ out ++ map of_centre these)
one_put (Ok value) these event out new is put =
    put ∙ ap (λ (l : List EventKind). out ++ map of_centre l) (sym is)
one_put (Err error) these event out new is put = tt

-- an association in which data sets are defined
pub block_put : {T E : Type 0} (result : Result T E) (these inner : List EventKind)
    (first last : EventKind) (out opened defined new : List Entry)
    → these ≡ first ∷ inner ++ last ∷ [] → opened ≡ out ++ of_centre first ∷ []
    → defined ≡ opened ++ map of_centre inner
    → OnOk result (new ≡ defined ++ of_centre last ∷ [])
    → OnOk result (new ≡ out ++ map of_centre these)
block_put (Ok value) these inner first last out opened defined new is open_is defined_is put =
    put
    ∙ ap (λ (l : List Entry). l ++ of_centre last ∷ []) (defined_is
    ∙ ap (λ (l : List Entry). l ++ map of_centre inner) open_is)
    ∙ append_assoc (out ++ of_centre first ∷ []) (map of_centre inner) (of_centre last ∷ [])
    ∙ append_assoc out (of_centre first ∷ []) (map of_centre inner ++ of_centre last ∷ [])
    ∙ ap (λ (l : List Entry). out ++ of_centre first ∷ l)
    (sym (map-append of_centre inner (last ∷ [])))
    ∙ ap (λ (l : List EventKind). out ++ map of_centre l) (sym is)
block_put (Err error) these inner first last out opened defined new is open_is defined_is put = tt

-- all phases, one behind another
pub all_put : (a b c d e : List EventKind) (first second third fourth fifth : List Entry)
    → first ≡ [] ++ map of_centre a → second ≡ first ++ map of_centre b
    → third ≡ second ++ map of_centre c → fourth ≡ third ++ map of_centre d
    → fifth ≡ fourth ++ map of_centre e
    → fifth ≡ map of_centre (a ++ b ++ c ++ d ++ e)
all_put a b c d e first second third fourth fifth one two three four five =
    five
    ∙ ap (λ (l : List Entry). l ++ map of_centre e)
    (four ∙ ap (λ (l : List Entry). l ++ map of_centre d)
    (three ∙ ap (λ (l : List Entry). l ++ map of_centre c)
    (two ∙ ap (λ (l : List Entry). l ++ map of_centre b) one
    ∙ sym (map-append of_centre a b))
    ∙ sym (map-append of_centre (a ++ b) c))
    ∙ sym (map-append of_centre (a ++ b ++ c) d))
    ∙ sym (map-append of_centre (a ++ b ++ c ++ d) e)
