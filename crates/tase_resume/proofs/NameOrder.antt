-- Names in the order of octets are the same where each stands as often among them.
use Rattle.std.proofs.Common.{◌≡◌, ℕ, ◌+◌, ◌<◌, Bool, true, false, List, [], ◌∷◌, get_or, Ordering}
use Rattle.std.proofs.Common.{Less, Equal, Greater, bytes_eq, refl, sym, ap, ◌∙◌, arith}
use Rattle.std.specs.Prelude.{if◌then◌else◌}
use Rattle.std.specs.List.{All}
use Rattle.std.specs.Ordering.{is_lt, is_eq, nat_cmp, ordering_reverse}
use Rattle.std.specs.Cmp.Lexicographic.{slice_cmp, nat_list_cmp_total}
use Rattle.std.proofs.lemmas.Bool.{false≢true, true≢false, false_from_ne_true}
use Rattle.std.proofs.lemmas.List.Elements.{All-head, All-tail, All-cons}
use Rattle.std.proofs.lemmas.List.Sorted.{ranks_by}
use Rattle.std.proofs.lemmas.Map.Text.{is_eq-slice_cmp}
use Rattle.std.proofs.lemmas.Slice.Eq.{bytes_eq-Decides}
use Rattle.tase_views.specs.NameLists.{is_below, with_name, in_order}

-- a name doesn't stand behind another
abbrev pub IsAtMost : List ℕ → List ℕ → Type 0
IsAtMost a b = is_below b a ≡ false

-- each name is at most those behind it
abbrev pub Rise : List (List ℕ) → Type 0
Rise [] = Unit {0}
Rise (name ∷ names) = All (IsAtMost name) names × Rise names

at_most_trans : (a b c : List ℕ) → IsAtMost a b → IsAtMost b c → IsAtMost a c
at_most_trans a b c ab bc =
    (ranks_by nat_list_cmp_total (λ (name : List ℕ). name)).chain c b a bc ab

below_at_most : (a b : List ℕ) → is_below a b ≡ true → IsAtMost a b
below_at_most a b lt = (ranks_by nat_list_cmp_total (λ (name : List ℕ). name)).one_way a b lt

equal_of : (r : Ordering) → is_lt r ≡ false → is_lt (ordering_reverse r) ≡ false → is_eq r ≡ true
equal_of Less a b = absurd (true≢false a)
equal_of Equal a b = refl
equal_of Greater a b = absurd (true≢false b)

at_most_antisym : (a b : List ℕ) → IsAtMost a b → IsAtMost b a → a ≡ b
at_most_antisym a b ab ba =
    let flipped : slice_cmp nat_cmp b a ≡ ordering_reverse (slice_cmp nat_cmp a b) =
    nat_list_cmp_total.antisymm b a in
    (bytes_eq-Decides a b).0 (sym (is_eq-slice_cmp a b)
    ∙ equal_of (slice_cmp nat_cmp a b) ba (ap is_lt (sym flipped) ∙ ab))

-- how often a name stands among names
abbrev pub one_if : List ℕ → List ℕ → ℕ
one_if name other = if bytes_eq name other then 1 else 0

abbrev pub count_of : List ℕ → List (List ℕ) → ℕ
count_of name [] = 0
count_of name (first ∷ names) = one_if name first + count_of name names

pub one_if-same : (name : List ℕ) → one_if name name ≡ 1
one_if-same name = rw ((bytes_eq-Decides name name).1 refl) refl

among_here : (P : List ℕ → Type 0) (name first : List ℕ) (names : List (List ℕ)) (b : Bool)
    → bytes_eq name first ≡ b → P first
    → (0 < count_of name names → P name)
    → 0 < one_if name first + count_of name names → P name
among_here P name first names true e here later some =
    let same : name ≡ first = (bytes_eq-Decides name first).0 e in rw same here
among_here P name first names false e here later some =
    let none : one_if name first ≡ 0 = rw e refl in later (omega (arith, some, none))

-- what holds of all names holds of one that stands among them
among : (P : List ℕ → Type 0) (name : List ℕ) (names : List (List ℕ)) → 0 < count_of name names
    → All P names → P name
among P name [] some all = absurd (omega (arith, some))
among P name (first ∷ names) some all =
    among_here P name first names (bytes_eq name first) refl (All-head P first names all)
    (λ later. among P name names later (All-tail P first names all)) some

count_placed : (z name first : List ℕ) (names placed : List (List ℕ)) (b : Bool)
    → count_of z placed ≡ one_if z name + count_of z names
    → count_of z (if b then first ∷ placed else name ∷ first ∷ names)
    ≡ one_if z name + (one_if z first + count_of z names)
count_placed z name first names placed true e = omega (arith, e)
count_placed z name first names placed false e = refl

count-with_name : (z name : List ℕ) (names : List (List ℕ))
    → count_of z (with_name name names) ≡ one_if z name + count_of z names
count-with_name z name [] = refl
count-with_name z name (first ∷ names) =
    count_placed z name first names (with_name name names) (is_below first name)
    (count-with_name z name names)

pub count-in_order : (z : List ℕ) (names : List (List ℕ))
    → count_of z (in_order names) ≡ count_of z names
count-in_order z [] = refl
count-in_order z (name ∷ names) =
    count-with_name z name (in_order names) ∙ ap (λ n. one_if z name + n) (count-in_order z names)

All_placed : (P : List ℕ → Type 0) (name first : List ℕ) (names placed : List (List ℕ)) (b : Bool)
    → P name → All P (first ∷ names) → All P placed
    → All P (if b then first ∷ placed else name ∷ first ∷ names)
All_placed P name first names placed true holds all more =
    All-cons P first placed (All-head P first names all) more
All_placed P name first names placed false holds all more =
    All-cons P name (first ∷ names) holds all

-- what holds of a name and of others holds of all of them
All-with_name : (P : List ℕ → Type 0) (name : List ℕ) (names : List (List ℕ)) → P name
    → All P names → All P (with_name name names)
All-with_name P name [] holds all = All-cons P name [] holds all
All-with_name P name (first ∷ names) holds all =
    All_placed P name first names (with_name name names) (is_below first name) holds all
    (All-with_name P name names holds (All-tail P first names all))

All-weaker : (P Q : List ℕ → Type 0) (names : List (List ℕ)) → ((name : List ℕ) → P name → Q name)
    → All P names → All Q names
All-weaker P Q names weaker all = λ k d within. weaker (get_or names k d) (all k d within)

Rise-with_name : (name : List ℕ) (names : List (List ℕ)) → Rise names → Rise (with_name name names)
Rise-with_name name [] rise = ((λ k d within. absurd (omega (arith, within))), tt)
Rise-with_name name (first ∷ names) rise =
    rising (is_below first name) refl
    (λ lt. All-with_name (IsAtMost first) name names (below_at_most first name lt) rise.0)
    (Rise-with_name name names rise.1)
  where
    rising : (b : Bool) → is_below first name ≡ b
        → (is_below first name ≡ true → All (IsAtMost first) (with_name name names))
        → Rise (with_name name names)
        → Rise (if b then first ∷ with_name name names else name ∷ first ∷ names)
    rising true lt all more = (all lt, more)
    rising false ge all more = (
      All-cons (IsAtMost name) first names ge
          (All-weaker (IsAtMost first) (IsAtMost name) names
          (λ other le. at_most_trans name first other ge le) rise.0),
      rise,
    )

pub Rise-in_order : (names : List (List ℕ)) → Rise (in_order names)
Rise-in_order [] = tt
Rise-in_order (name ∷ names) = Rise-with_name name (in_order names) (Rise-in_order names)

at_most_self : (a : List ℕ) → IsAtMost a a
at_most_self a =
    false_from_ne_true (is_below a a) (λ e. false≢true (sym (below_at_most a a e) ∙ e))

-- the first of names that rise is at most one that stands among them
first_at_most : (x y : List ℕ) (ys : List (List ℕ)) → Rise (y ∷ ys) → 0 < count_of x (y ∷ ys)
    → IsAtMost y x
first_at_most x y ys rise some =
    among (IsAtMost y) x (y ∷ ys) some (All-cons (IsAtMost y) y ys (at_most_self y) rise.0)

first_counts : (x : List ℕ) (xs : List (List ℕ)) → 0 < count_of x (x ∷ xs)
first_counts x xs = omega (arith, one_if-same x)

counts_left : (x y z : List ℕ) (xs ys : List (List ℕ)) → x ≡ y
    → count_of z (x ∷ xs) ≡ count_of z (y ∷ ys) → count_of z xs ≡ count_of z ys
counts_left x y z xs ys same e = omega (arith, e, ap (one_if z) same)

both_same : (x y : List ℕ) (xs ys : List (List ℕ)) → x ≡ y → xs ≡ ys → x ∷ xs ≡ y ∷ ys
both_same x y xs ys e es = rw (e, es) refl

-- names that rise are the same where each stands as often among them
pub rise_once : (xs ys : List (List ℕ)) → Rise xs → Rise ys
    → ((z : List ℕ) → count_of z xs ≡ count_of z ys) → xs ≡ ys
rise_once [] [] rx ry same = refl
rise_once [] (y ∷ ys) rx ry same = absurd (omega (arith, same y, first_counts y ys))
rise_once (x ∷ xs) [] rx ry same = absurd (omega (arith, same x, first_counts x xs))
rise_once (x ∷ xs) (y ∷ ys) rx ry same =
    let there : 0 < count_of x (y ∷ ys) = rw (same x) at (first_counts x xs) in
    let here : 0 < count_of y (x ∷ xs) = rw (← (same y)) at (first_counts y ys) in
    let first : x ≡ y = at_most_antisym x y (first_at_most y x xs rx here)
    (first_at_most x y ys ry there) in
    both_same x y xs ys first
    (rise_once xs ys rx.1 ry.1 (λ z. counts_left x y z xs ys first (same z)))
