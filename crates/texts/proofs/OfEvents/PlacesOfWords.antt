-- From the place of a word on a text has this word and those behind it.
use Rattle.std.proofs.Common.{◌≡◌, ℕ, zero, suc, ◌+◌, ◌-◌, Bool, true, false, not, ◌&&◌}
use Rattle.std.proofs.Common.{◌==◌, List, [], ◌∷◌, length, map, filter, drop, get_or, cond}
use Rattle.std.proofs.Common.{refl, sym, ap, ◌∙◌, arith}
use Rattle.std.specs.List.{range_with_len, slice_split, onto_first}
use Rattle.std.proofs.lemmas.Bool.Decides.{nat_tests}
use Rattle.std.proofs.lemmas.List.Splits.{slice_split-cons_yes, slice_split-cons_no}
use Rattle.plain_text.specs.Words.{words, is_word}
use Rattle.texts.specs.Events.WordPlaces.{is_word_start, word_place}

-- whether what stands before a place lets a word begin there; `free` says it of the first place
abbrev follows : Bool → List ℕ → ℕ → Bool
follows free text zero = free
follows free text (suc p) = get_or text p 0 == 32

abbrev starts : Bool → List ℕ → ℕ → Bool
starts free text p = not (get_or text p 0 == 32) && follows free text p

not_first : (p : ℕ) → (suc p == 0) ≡ false
not_first p = grind (arith, nat_tests)

before : (p : ℕ) → suc p - 1 ≡ p
before p = omega arith

starts-are : (text : List ℕ) (p : ℕ) → is_word_start text p ≡ starts true text p
starts-are text zero = refl
starts-are text (suc p) = rw (not_first p, before p) refl

starts-later : (free : Bool) (c : ℕ) (cs : List ℕ) (p : ℕ)
    → starts free (c ∷ cs) (suc p) ≡ starts (c == 32) cs p
starts-later free c cs zero = refl
starts-later free c cs (suc p) = refl

filter-as : (p q : ℕ → Bool) (xs : List ℕ) → ((x : ℕ) → p x ≡ q x) → filter p xs ≡ filter q xs
filter-as p q [] e = refl
filter-as p q (x ∷ xs) e =
    ap (λ b. cond b (x ∷ filter p xs) (filter p xs)) (e x)
    ∙ ap (λ t. cond (q x) (x ∷ t) t) (filter-as p q xs e)

mapped : (b : Bool) (x : ℕ) (xs : List ℕ)
    → cond b (suc x ∷ map suc xs) (map suc xs) ≡ map suc (cond b (x ∷ xs) xs)
mapped true x xs = refl
mapped false x xs = refl

filter-later : (p : ℕ → Bool) (xs : List ℕ)
    → filter p (map suc xs) ≡ map suc (filter (λ x. p (suc x)) xs)
filter-later p [] = refl
filter-later p (x ∷ xs) =
    ap (λ t. cond (p (suc x)) (suc x ∷ t) t) (filter-later p xs)
    ∙ mapped (p (suc x)) x (filter (λ y. p (suc y)) xs)

next : (a : ℕ) → a + 1 ≡ suc a
next a = omega arith

range-later : (a n : ℕ) → range_with_len (a + 1) n ≡ map suc (range_with_len a n)
range-later a zero = refl
range-later a (suc n) =
    let others = range-later (a + 1) n in λ i. next a i ∷ others i

abbrev places : Bool → List ℕ → List ℕ
places free text = filter (starts free text) (range_with_len 0 (length text))

places-cons : (free : Bool) (c : ℕ) (cs : List ℕ)
    → places free (c ∷ cs)
    ≡ cond (starts free (c ∷ cs) 0) (0 ∷ map suc (places (c == 32) cs))
    (map suc (places (c == 32) cs))
places-cons free c cs =
    let later : filter (starts free (c ∷ cs)) (range_with_len 1 (length cs))
    ≡ map suc (places (c == 32) cs) =
    ap (filter (starts free (c ∷ cs))) (range-later 0 (length cs))
    ∙ filter-later (starts free (c ∷ cs)) (range_with_len 0 (length cs))
    ∙ ap (map suc) (filter-as (λ p. starts free (c ∷ cs) (suc p)) (starts (c == 32) cs)
    (range_with_len 0 (length cs)) (starts-later free c cs)) in
    ap (λ t. cond (starts free (c ∷ cs) 0) (0 ∷ t) t) later

abbrev place : Bool → List ℕ → ℕ → ℕ
place free text n = get_or (places free text) n (length text)

get-later : (xs : List ℕ) (n end : ℕ) → get_or (map suc xs) n (suc end) ≡ suc (get_or xs n end)
get-later [] n end = refl
get-later (x ∷ xs) zero end = refl
get-later (x ∷ xs) (suc n) end = get-later xs n end

-- the words behind the one in which a text begins
abbrev inner : List ℕ → List (List ℕ)
inner text = filter is_word (drop 1 (slice_split (λ c. c == 32) text))

words-space : (c : ℕ) (cs : List ℕ) → (c == 32) ≡ true → words (c ∷ cs) ≡ words cs
words-space c cs e = ap (filter is_word) (slice_split-cons_yes (λ o. o == 32) c cs e)

inner-space : (c : ℕ) (cs : List ℕ) → (c == 32) ≡ true → inner (c ∷ cs) ≡ words cs
inner-space c cs e =
    ap (λ s. filter is_word (drop 1 s)) (slice_split-cons_yes (λ o. o == 32) c cs e)

onto-words : (c : ℕ) (parts : List (List ℕ))
    → drop 1 (filter is_word (onto_first c parts)) ≡ filter is_word (drop 1 parts)
onto-words c [] = refl
onto-words c (part ∷ parts) = refl

onto-inner : (c : ℕ) (parts : List (List ℕ)) → drop 1 (onto_first c parts) ≡ drop 1 parts
onto-inner c [] = refl
onto-inner c (part ∷ parts) = refl

words-letter : (c : ℕ) (cs : List ℕ) → (c == 32) ≡ false → drop 1 (words (c ∷ cs)) ≡ inner cs
words-letter c cs e =
    ap (λ s. drop 1 (filter is_word s)) (slice_split-cons_no (λ o. o == 32) c cs e)
    ∙ onto-words c (slice_split (λ o. o == 32) cs)

inner-letter : (c : ℕ) (cs : List ℕ) → (c == 32) ≡ false → inner (c ∷ cs) ≡ inner cs
inner-letter c cs e =
    ap (λ s. filter is_word (drop 1 s)) (slice_split-cons_no (λ o. o == 32) c cs e)
    ∙ ap (filter is_word) (onto-inner c (slice_split (λ o. o == 32) cs))

place-passed : (free free_next : Bool) (c : ℕ) (cs : List ℕ) (n : ℕ) → (c == 32) ≡ free_next
    → starts free (c ∷ cs) 0 ≡ false → place free (c ∷ cs) n ≡ suc (place free_next cs n)
place-passed free free_next c cs n e none =
    ap (λ p. get_or p n (suc (length cs)))
    (places-cons free c cs ∙ rw (none, e) refl)
    ∙ get-later (places free_next cs) n (length cs)

place-later : (free : Bool) (c : ℕ) (cs : List ℕ) (n : ℕ) → (c == 32) ≡ false
    → starts free (c ∷ cs) 0 ≡ true → place free (c ∷ cs) (suc n) ≡ suc (place false cs n)
place-later free c cs n e here =
    let are : places free (c ∷ cs) ≡ 0 ∷ map suc (places false cs) =
    places-cons free c cs ∙ rw (here, e) refl in
    ap (λ p. get_or p (suc n) (suc (length cs))) are ∙ get-later (places false cs) n (length cs)

place-here : (free : Bool) (c : ℕ) (cs : List ℕ) → starts free (c ∷ cs) 0 ≡ true
    → place free (c ∷ cs) 0 ≡ 0
place-here free c cs here =
    let are : places free (c ∷ cs) ≡ 0 ∷ map suc (places (c == 32) cs) =
    places-cons free c cs ∙ rw here refl in
    ap (λ p. get_or p 0 (suc (length cs))) are

drop-empty : (n : ℕ) → drop {A = List ℕ} n [] ≡ []
drop-empty zero = refl
drop-empty (suc n) = refl

drop-more : (n : ℕ) (xs : List (List ℕ)) → drop (suc n) xs ≡ drop n (drop 1 xs)
drop-more n [] = sym (drop-empty n)
drop-more n (x ∷ xs) = refl

outer_by : (c : ℕ) (cs : List ℕ) (n : ℕ) (b : Bool) → (c == 32) ≡ b
    → ((m : ℕ) → words (drop (place true cs m) cs) ≡ drop m (words cs))
    → ((m : ℕ) → words (drop (place false cs m) cs) ≡ drop m (inner cs))
    → words (drop (place true (c ∷ cs) n) (c ∷ cs)) ≡ drop n (words (c ∷ cs))
outer_by c cs n true e outer inside =
    ap (λ p. words (drop p (c ∷ cs))) (place-passed true true c cs n e (rw e refl))
    ∙ outer n ∙ ap (drop n) (sym (words-space c cs e))
outer_by c cs zero false e outer inside =
    ap (λ p. words (drop p (c ∷ cs))) (place-here true c cs (rw e refl))
outer_by c cs (suc n) false e outer inside =
    ap (λ p. words (drop p (c ∷ cs))) (place-later true c cs n e (rw e refl))
    ∙ inside n ∙ ap (drop n) (sym (words-letter c cs e)) ∙ sym (drop-more n (words (c ∷ cs)))

inner_by : (c : ℕ) (cs : List ℕ) (n : ℕ) (b : Bool) → (c == 32) ≡ b
    → ((m : ℕ) → words (drop (place true cs m) cs) ≡ drop m (words cs))
    → ((m : ℕ) → words (drop (place false cs m) cs) ≡ drop m (inner cs))
    → words (drop (place false (c ∷ cs) n) (c ∷ cs)) ≡ drop n (inner (c ∷ cs))
inner_by c cs n true e outer inside =
    ap (λ p. words (drop p (c ∷ cs))) (place-passed false true c cs n e (rw e refl))
    ∙ outer n ∙ ap (drop n) (sym (inner-space c cs e))
inner_by c cs n false e outer inside =
    ap (λ p. words (drop p (c ∷ cs))) (place-passed false false c cs n e (rw e refl))
    ∙ inside n ∙ ap (drop n) (sym (inner-letter c cs e))

mutual
  outer-at : (text : List ℕ) (n : ℕ) → words (drop (place true text n) text) ≡ drop n (words text)
  outer-at [] n = sym (drop-empty n)
  outer-at (c ∷ cs) n = outer_by c cs n (c == 32) refl (λ m. outer-at cs m) (λ m. inner-at cs m)

  inner-at : (text : List ℕ) (n : ℕ) → words (drop (place false text n) text) ≡ drop n (inner text)
  inner-at [] n = sym (drop-empty n)
  inner-at (c ∷ cs) n = inner_by c cs n (c == 32) refl (λ m. outer-at cs m) (λ m. inner-at cs m)

-- from the place of a word on a text has this word and those behind it
pub words_from-place : (text : List ℕ) (n : ℕ)
    → words (drop (word_place text n) text) ≡ drop n (words text)
words_from-place text n =
    ap (λ p. words (drop (get_or p n (length text)) text))
    (filter-as (is_word_start text) (starts true text) (range_with_len 0 (length text))
    (starts-are text))
    ∙ outer-at text n
