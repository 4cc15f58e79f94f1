-- Names in the order of the file: where one stands, and one more at the end.
use Rattle.std.proofs.Common.{◌≡◌, ℕ, ◌+◌, Bool, false, cond, List, [], ◌∷◌, ◌++◌}
use Rattle.std.proofs.Common.{map, Some, None, position, refl, sym, ap, ◌∙◌}
use Rattle.std.proofs.Common.{bytes_eq, nat_eq, Vec, Global}
use Rattle.std.specs.List.{position_from, list_any}
use Rattle.std.specs.Cmp.Lexicographic.{pointwise, nat_list_eq_equiv}
use Rattle.std.proofs.lemmas.Iterator.Adapters.{position_from-zero}
use Rattle.std.proofs.lemmas.Bool.{cond-false}
use Rattle.std.proofs.lemmas.List.{map-append}
use Rattle.indexmap.specs.IndexSet.{insert_key}
use Rattle.bilateral.specs.Index.{place_among}
use Rattle.plain_text.proofs.Parts.{position-None}
use Rattle.std.proofs.lemmas.List.Folds.{list_any_none}

from-mapped : {X Y : Type 0} (f : X → Y) (p : Y → Bool) (q : X → Bool) → ((x : X) → p (f x) ≡ q x)
    → (n : ℕ) (xs : List X) → position_from p n (map f xs) ≡ position_from q n xs
from-mapped f p q same n [] = refl
from-mapped f p q same n (x ∷ xs) =
    ap (λ b. cond b (Some n) (position_from p (n + 1) (map f xs))) (same x)
    ∙ ap (cond (q x) (Some n)) (from-mapped f p q same (n + 1) xs)

pub position-mapped : {X Y : Type 0} (f : X → Y) (p : Y → Bool) (q : X → Bool)
    → ((x : X) → p (f x) ≡ q x) → (xs : List X) → position p (map f xs) ≡ position q xs
position-mapped f p q same xs =
    position_from-zero p (map f xs) ∙ from-mapped f p q same 0 xs ∙ sym (position_from-zero q xs)

-- a name's place among the keys of rows is the place of the row with this key
pub place-by_key : {X : Type 0} (key : X → List ℕ) (rows : List X) (names : List (List ℕ))
    (name : List ℕ) → names ≡ map key rows
    → place_among names name ≡ position (λ row. bytes_eq (key row) name) rows
place-by_key key rows names name same =
    ap (λ keys. place_among keys name) same
    ∙ position-mapped key (λ other. bytes_eq other name) (λ row. bytes_eq (key row) name)
    (λ row. refl) rows

-- the same for the keys of a set
pub place-in_set : (keys : List (Vec ℕ Global)) (name : List ℕ)
    → position (λ key. bytes_eq name key.items) keys
    ≡ place_among (map (λ key. key.items) keys) name
place-in_set keys name =
    sym (position-mapped (λ (key : Vec ℕ Global). key.items) (λ other. bytes_eq other name)
    (λ key. bytes_eq name key.items) (λ key. nat_list_eq_equiv.symm key.items name) keys)

pub position-none_any : {X : Type 0} (p : X → Bool) (xs : List X) → position p xs ≡ None
    → list_any p xs ≡ false
position-none_any p xs none = list_any_none p xs (position-None p xs none)

-- the names of rows, with one row more
pub names-pushed : {X : Type 0} (key : X → List ℕ) (old new : List X) (row : X)
    (names names_new : List (List ℕ)) (name : List ℕ)
    → names ≡ map key old → names_new ≡ names ++ name ∷ [] → name ≡ key row
    → new ≡ old ++ row ∷ [] → names_new ≡ map key new
names-pushed key old new row names names_new name same noted called pushed =
    noted ∙ ap (λ ns. ns ++ name ∷ []) same ∙ ap (λ n. map key old ++ n ∷ []) called
    ∙ sym (map-append key old (row ∷ [])) ∙ ap (map key) (sym pushed)

-- the keys of a set after a name is added that isn't there
pub names-inserted : (keys keys_new : List (Vec ℕ Global)) (key : Vec ℕ Global) (name : List ℕ)
    → keys_new ≡ insert_key (λ x y. pointwise nat_eq x.items y.items) keys key
    → key.items ≡ name → place_among (map (λ k. k.items) keys) name ≡ None
    → map (λ k. k.items) keys_new ≡ map (λ k. k.items) keys ++ name ∷ []
names-inserted keys keys_new key name inserted called fresh =
    let absent : list_any (λ y. pointwise nat_eq key.items y.items) keys ≡ false =
    position-none_any (λ y. bytes_eq key.items y.items) keys
    (place-in_set keys key.items
    ∙ ap (place_among (map (λ (k : Vec ℕ Global). k.items) keys)) called ∙ fresh) in
    ap (map (λ (k : Vec ℕ Global). k.items)) inserted
    ∙ ap (map (λ (k : Vec ℕ Global). k.items))
    (cond-false (list_any (λ y. pointwise nat_eq key.items y.items) keys) keys (keys ++ key ∷ [])
    absent)
    ∙ map-append (λ (k : Vec ℕ Global). k.items) keys (key ∷ [])
    ∙ ap (λ n. map (λ (k : Vec ℕ Global). k.items) keys ++ n ∷ []) called
