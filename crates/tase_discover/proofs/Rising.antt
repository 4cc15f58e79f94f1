-- Names in the order of octets, none twice: the order keeps what a list goes on after.
use Rattle.std.proofs.Common.{◌≡◌, ℕ, zero, suc, Bool, true, false, ◌⊎◌, inl, inr}
use Rattle.std.proofs.Common.{List, [], ◌∷◌, ◌++◌, take, None, refl}
use Rattle.std.proofs.Common.{sym, ap, ◌∙◌, Ordering, Less, Equal, Greater}
use Rattle.std.specs.Prelude.{if◌then◌else◌, filter}
use Rattle.std.specs.Ordering.{is_lt, is_eq, nat_cmp, ordering_reverse}
use Rattle.std.specs.Cmp.Lexicographic.{slice_cmp, nat_list_cmp_total}
use Rattle.std.proofs.lemmas.Bool.{false≢true, true≢false}
use Rattle.std.proofs.lemmas.List.Sorted.{ranks_by}
use Rattle.std.proofs.lemmas.Map.Text.{is_eq-slice_cmp}
use Rattle.std.proofs.lemmas.Slice.Eq.{bytes_eq-Decides}
use Rattle.tase_views.specs.NameLists.{is_below, with_name, in_order, is_after}
use Rattle.tase_discover.specs.SelfListings.{Apart, Differ}

-- ---- the order of octets

one_way : (a b : List ℕ) → is_below a b ≡ true → is_below b a ≡ false
one_way a b lt = (ranks_by nat_list_cmp_total (λ (name : List ℕ). name)).one_way a b lt

chain : (a b c : List ℕ) → is_below b a ≡ false → is_below c b ≡ false → is_below c a ≡ false
chain a b c ab bc = (ranks_by nat_list_cmp_total (λ (name : List ℕ). name)).chain c b a bc ab

either : (b : Bool) → (b ≡ true) ⊎ (b ≡ false)
either true = inl refl
either false = inr refl

equal_of : (r : Ordering) → is_lt r ≡ false → is_lt (ordering_reverse r) ≡ false → is_eq r ≡ true
equal_of Less a b = absurd (true≢false a)
equal_of Equal a b = refl
equal_of Greater a b = absurd (true≢false b)

antisym : (a b : List ℕ) → is_below b a ≡ false → is_below a b ≡ false → a ≡ b
antisym a b ab ba =
    let flipped : slice_cmp nat_cmp b a ≡ ordering_reverse (slice_cmp nat_cmp a b) =
    nat_list_cmp_total.antisymm b a in
    (bytes_eq-Decides a b).0 (sym (is_eq-slice_cmp a b)
    ∙ equal_of (slice_cmp nat_cmp a b) ba (ap is_lt (sym flipped) ∙ ab))

below_trans : (a b c : List ℕ) → is_below a b ≡ true → is_below b c ≡ true → is_below a c ≡ true
below_trans a b c ab bc = go (is_below a c) refl
  where
    go : (d : Bool) → is_below a c ≡ d → is_below a c ≡ true
    go true e = e
    go false e = absurd (false≢true (sym (chain c a b e (one_way a b ab)) ∙ bc))

below_other : (a b : List ℕ) → (a ≡ b → ⊥) → is_below a b ≡ false → is_below b a ≡ true
below_other a b other e = go (is_below b a) refl
  where
    go : (d : Bool) → is_below b a ≡ d → is_below b a ≡ true
    go true f = f
    go false f = absurd (other (antisym a b f e))

not_self : (a : List ℕ) → is_below a a ≡ false
not_self a = go (is_below a a) refl
  where
    go : (d : Bool) → is_below a a ≡ d → is_below a a ≡ false
    go true e = one_way a a e
    go false e = e

-- ---- names that rise

-- both branches
pub if_elim : {A : Type 0} (P : A → Type 0) (b : Bool) (x y : A) → (b ≡ true → P x)
    → (b ≡ false → P y) → P (if b then x else y)
if_elim P true x y one other = one refl
if_elim P false x y one other = other refl

-- a name stands below all of these
abbrev pub Under : List ℕ → List (List ℕ) → Type 0
Under x [] = Unit {0}
Under x (y ∷ ys) = (is_below x y ≡ true) × Under x ys

-- each stands below all behind it
abbrev pub Rises : List (List ℕ) → Type 0
Rises [] = Unit {0}
Rises (x ∷ xs) = Under x xs × Rises xs

Under-more : (x y : List ℕ) (ys : List (List ℕ)) → is_below x y ≡ true → Under y ys → Under x ys
Under-more x y [] e u = tt
Under-more x y (z ∷ zs) e u = (below_trans x y z e u.0, Under-more x y zs e u.1)

Under-with : (x n : List ℕ) (ns : List (List ℕ)) → is_below x n ≡ true → Under x ns
    → Under x (with_name n ns)
Under-with x n [] e u = (e, tt)
Under-with x n (f ∷ r) e u =
    if_elim (Under x) (is_below f n) (f ∷ with_name n r) (n ∷ f ∷ r)
    (λ _. (u.0, Under-with x n r e u.1)) (λ _. (e, u))

Apart-with : (x n : List ℕ) (ns : List (List ℕ)) → (n ≡ x → ⊥) → Apart x ns
    → Apart x (with_name n ns)
Apart-with x n [] e u = (e, tt)
Apart-with x n (f ∷ r) e u =
    if_elim (Apart x) (is_below f n) (f ∷ with_name n r) (n ∷ f ∷ r)
    (λ _. (u.0, Apart-with x n r e u.1)) (λ _. (e, u))

Rises-with : (n : List ℕ) (ns : List (List ℕ)) → Rises ns → Apart n ns → Rises (with_name n ns)
Rises-with n [] r a = (tt, tt)
Rises-with n (f ∷ ns) r a =
    if_elim Rises (is_below f n) (f ∷ with_name n ns) (n ∷ f ∷ ns)
    (λ e. (Under-with f n ns e r.0, Rises-with n ns r.1 a.1))
    (λ e. let up : is_below n f ≡ true = below_other f n a.0 e in
    ((up, Under-more n f ns up r.0), r))

Apart-in_order : (x : List ℕ) (ns : List (List ℕ)) → Apart x ns → Apart x (in_order ns)
Apart-in_order x [] a = tt
Apart-in_order x (n ∷ ns) a = Apart-with x n (in_order ns) a.0 (Apart-in_order x ns a.1)

pub Rises-in_order : (ns : List (List ℕ)) → Differ ns → Rises (in_order ns)
Rises-in_order [] d = tt
Rises-in_order (n ∷ ns) d =
    Rises-with n (in_order ns) (Rises-in_order ns d.1) (Apart-in_order n ns d.0)

-- ---- the order keeps what passes a test

-- a name stands at the front of these
abbrev NoneBelow : List ℕ → List (List ℕ) → Type 0
NoneBelow x [] = Unit {0}
NoneBelow x (y ∷ ys) = (is_below y x ≡ false) × NoneBelow x ys

Under-none : (x f : List ℕ) (ys : List (List ℕ)) → is_below f x ≡ false → Under f ys
    → NoneBelow x ys
Under-none x f [] e u = tt
Under-none x f (y ∷ ys) e u = (chain x f y e (one_way f y u.0), Under-none x f ys e u.1)

none-filter : (p : List ℕ → Bool) (x : List ℕ) (ys : List (List ℕ)) → NoneBelow x ys
    → NoneBelow x (filter p ys)
none-filter p x [] n = tt
none-filter p x (y ∷ ys) n =
    if_elim (NoneBelow x) (p y) (y ∷ filter p ys) (filter p ys)
    (λ _. (n.0, none-filter p x ys n.1)) (λ _. none-filter p x ys n.1)

with-front : (x : List ℕ) (ys : List (List ℕ)) → NoneBelow x ys → with_name x ys ≡ x ∷ ys
with-front x [] n = refl
with-front x (y ∷ ys) n =
    ap (λ (b : Bool). if b then y ∷ with_name x ys else x ∷ y ∷ ys) n.0

abbrev with_if : Bool → List ℕ → List (List ℕ) → List (List ℕ)
with_if b x ys = if b then with_name x ys else ys

later : (x f : List ℕ) (here there : List (List ℕ)) (b c : Bool) → is_below f x ≡ true
    → here ≡ with_if b x there → (if c then f ∷ here else here)
    ≡ with_if b x (if c then f ∷ there else there)
later x f here there true true e same =
    ap (λ (ns : List (List ℕ)). f ∷ ns) same
    ∙ sym (ap (λ (d : Bool). if d then f ∷ with_name x there else x ∷ f ∷ there) e)
later x f here there true false e same = same
later x f here there false true e same = ap (λ (ns : List (List ℕ)). f ∷ ns) same
later x f here there false false e same = same

at_front : (x : List ℕ) (ys : List (List ℕ)) (b : Bool) → NoneBelow x ys
    → (if b then x ∷ ys else ys) ≡ with_if b x ys
at_front x ys true n = sym (with-front x ys n)
at_front x ys false n = refl

at_end : (x : List ℕ) (b : Bool) → (if b then x ∷ [] else []) ≡ with_if b x []
at_end x true = refl
at_end x false = refl

filter-with : (p : List ℕ → Bool) (x : List ℕ) (ys : List (List ℕ)) → Rises ys
    → filter p (with_name x ys) ≡ with_if (p x) x (filter p ys)
filter-with p x [] r = at_end x (p x)
filter-with p x (f ∷ ys) r =
    if_elim (λ (ns : List (List ℕ)). filter p ns ≡ with_if (p x) x (filter p (f ∷ ys)))
    (is_below f x) (f ∷ with_name x ys) (x ∷ f ∷ ys)
    (λ e. later x f (filter p (with_name x ys)) (filter p ys) (p x) (p f) e
    (filter-with p x ys r.1))
    (λ e. at_front x (filter p (f ∷ ys)) (p x)
    (none-filter p x (f ∷ ys) (e, Under-none x f ys e r.0)))

kept_in : (p : List ℕ → Bool) (n : List ℕ) (ns : List (List ℕ)) (b : Bool)
    → in_order (filter p ns) ≡ filter p (in_order ns)
    → in_order (if b then n ∷ filter p ns else filter p ns)
    ≡ with_if b n (filter p (in_order ns))
kept_in p n ns true same = ap (with_name n) same
kept_in p n ns false same = same

-- in order, and those that pass a test: in either order the same
pub filter-in_order : (p : List ℕ → Bool) (ns : List (List ℕ)) → Differ ns
    → in_order (filter p ns) ≡ filter p (in_order ns)
filter-in_order p [] d = refl
filter-in_order p (n ∷ ns) d =
    kept_in p n ns (p n) (filter-in_order p ns d.1)
    ∙ sym (filter-with p n (in_order ns) (Rises-in_order ns d.1))

-- ---- what stands behind a name

keeps-all : (x : List ℕ) (ys : List (List ℕ)) → Under x ys → filter (is_below x) ys ≡ ys
keeps-all x [] u = refl
keeps-all x (y ∷ ys) u =
    ap (λ (b : Bool). if b then y ∷ filter (is_below x) ys else filter (is_below x) ys) u.0
    ∙ ap (λ (ns : List (List ℕ)). y ∷ ns) (keeps-all x ys u.1)

drops-one : (x y : List ℕ) (ys : List (List ℕ)) → is_below x y ≡ false
    → filter (is_below x) (y ∷ ys) ≡ filter (is_below x) ys
drops-one x y ys e =
    ap (λ (b : Bool). if b then y ∷ filter (is_below x) ys else filter (is_below x) ys) e

Under-within : (a x : List ℕ) (some more : List (List ℕ)) → Under a (some ++ (x ∷ more))
    → is_below a x ≡ true
Under-within a x [] more u = u.0
Under-within a x (s ∷ some) more u = Under-within a x some more u.1

pub behind : (some : List (List ℕ)) (x : List ℕ) (more : List (List ℕ))
    → Rises (some ++ (x ∷ more)) → filter (is_below x) (some ++ (x ∷ more)) ≡ more
behind [] x more r = drops-one x x more (not_self x) ∙ keeps-all x more r.0
behind (a ∷ some) x more r =
    drops-one x a (some ++ (x ∷ more)) (one_way a x (Under-within a x some more r.0))
    ∙ behind some x more r.1

pub all_after : (ns : List (List ℕ)) → filter (is_after None) ns ≡ ns
all_after [] = refl
all_after (n ∷ ns) = ap (λ (ms : List (List ℕ)). n ∷ ms) (all_after ns)

-- ---- parts of what rises

pub Rises-behind : (some more : List (List ℕ)) → Rises (some ++ more) → Rises more
Rises-behind [] more r = r
Rises-behind (s ∷ some) more r = Rises-behind some more r.1

pub Under-behind : (some : List (List ℕ)) (x : List ℕ) (more : List (List ℕ))
    → Rises (some ++ (x ∷ more)) → Under x more
Under-behind some x more r = (Rises-behind some (x ∷ more) r).0

pub Under-take : (n : ℕ) (x : List ℕ) (ys : List (List ℕ)) → Under x ys → Under x (take n ys)
Under-take zero x ys u = tt
Under-take (suc n) x [] u = tt
Under-take (suc n) x (y ∷ ys) u = (u.0, Under-take n x ys u.1)

pub Rises-take : (n : ℕ) (ys : List (List ℕ)) → Rises ys → Rises (take n ys)
Rises-take zero ys r = tt
Rises-take (suc n) [] r = tt
Rises-take (suc n) (y ∷ ys) r = (Under-take n y ys r.0, Rises-take n ys r.1)
