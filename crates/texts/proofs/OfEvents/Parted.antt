-- Words with a space between each two are the words of that text.
use Rattle.std.proofs.Common.{◌≡◌, ℕ, suc, ◌-◌, ◌<◌, ◌==◌, true, false}
use Rattle.std.proofs.Common.{List, [], ◌∷◌, ◌++◌, length, flat_map, filter, get_or, refl, ap, ◌∙◌}
use Rattle.std.proofs.Common.{arith, append-nil}
use Rattle.std.specs.List.{list_any, All}
use Rattle.std.proofs.lemmas.Bool.{and_parts}
use Rattle.std.proofs.lemmas.Bool.Decides.{nat_tests}
use Rattle.std.proofs.lemmas.List.Elements.{All-nil, All-cons}
use Rattle.std.proofs.lemmas.List.Splits.{slice_split_none, slice_split_at}
use Rattle.plain_text.specs.Words.{words, is_word, is_spaced}
use Rattle.texts.proofs.OfEvents.Graphic.{is_graphic, AreGraphic}

-- a word of printing characters
pub record IsPrinted (word : List ℕ) : Type 0 where
  pub some : 0 < length word
  pub graphic : AreGraphic word

-- each word has printing characters alone, and at least one
abbrev pub ArePrinted : List (List ℕ) → Type 0
ArePrinted [] = Unit {0}
ArePrinted (word ∷ words) = IsPrinted word × ArePrinted words

-- a space before each word
abbrev pub after_spaces : List (List ℕ) → List ℕ
after_spaces words = flat_map (λ word. 32 ∷ word) words

no_space : (c : ℕ) → is_graphic c ≡ true → (c == 32) ≡ false
no_space c e = grind (arith, nat_tests, e)

no_tab : (c : ℕ) → is_graphic c ≡ true → (c == 9) ≡ false
no_tab c e = grind (arith, nat_tests, e)

all_unspaced : (os : List ℕ) → AreGraphic os → All (λ c. (c == 32) ≡ false) os
all_unspaced [] e = All-nil (λ c. (c == 32) ≡ false)
all_unspaced (c ∷ os) e =
    let parts = and_parts (is_graphic c) _ e in
    All-cons (λ c. (c == 32) ≡ false) c os (no_space c parts.0) (all_unspaced os parts.1)

printed_is_word : (word : List ℕ) → 0 < length word → is_word word ≡ true
printed_is_word [] h = absurd (omega (arith, h))
printed_is_word (c ∷ word) h = refl

pub words-parted : (word : List ℕ) (others : List (List ℕ)) → IsPrinted word → ArePrinted others
    → words (word ++ after_spaces others) ≡ word ∷ others
words-parted word [] h k =
    ap words (append-nil word)
    ∙ ap (filter is_word) (slice_split_none (λ c. c == 32) word (all_unspaced word h.graphic))
    ∙ rw (printed_is_word word h.some) refl
words-parted word (next ∷ others) h k =
    ap (filter is_word)
    (slice_split_at (λ c. c == 32) word 32 (next ++ after_spaces others)
    (all_unspaced word h.graphic) refl)
    ∙ rw (printed_is_word word h.some) (ap (λ t. word ∷ t) (words-parted next others k.0 k.1))

any_tab : (os rest : List ℕ) → AreGraphic os → list_any (λ c. c == 9) rest ≡ false
    → list_any (λ c. c == 9) (os ++ rest) ≡ false
any_tab [] rest e k = k
any_tab (c ∷ os) rest e k =
    let parts = and_parts (is_graphic c) _ e in
    rw (no_tab c parts.0) (any_tab os rest parts.1 k)

no_tabs : (word : List ℕ) (others : List (List ℕ)) → IsPrinted word → ArePrinted others
    → list_any (λ c. c == 9) (word ++ after_spaces others) ≡ false
no_tabs word [] h k = any_tab word [] h.graphic refl
no_tabs word (next ∷ others) h k =
    any_tab word (32 ∷ (next ++ after_spaces others)) h.graphic (no_tabs next others k.0 k.1)

first_bare : (word rest : List ℕ) → IsPrinted word → (get_or (word ++ rest) 0 0 == 32) ≡ false
first_bare [] rest h = absurd (omega (arith, h.some))
first_bare (c ∷ word) rest h = no_space c (and_parts (is_graphic c) _ h.graphic).0

before_last : (n : ℕ) → suc (suc n) - 1 ≡ suc (suc n - 1)
before_last n = omega arith

last-append : (xs : List ℕ) (y : ℕ) (ys : List ℕ)
    → get_or (xs ++ y ∷ ys) (length (xs ++ y ∷ ys) - 1) 0 ≡ get_or (y ∷ ys) (length (y ∷ ys) - 1) 0
last-append [] y ys = refl
last-append (x ∷ []) y ys = rw (before_last (length ys)) refl
last-append (x ∷ z ∷ xs) y ys =
    rw (before_last (length (xs ++ y ∷ ys))) (last-append (z ∷ xs) y ys)

last_on : (x c : ℕ) (xs : List ℕ)
    → get_or (x ∷ c ∷ xs) (length (x ∷ c ∷ xs) - 1) 0 ≡ get_or (c ∷ xs) (length (c ∷ xs) - 1) 0
last_on x c xs = rw (before_last (length xs)) refl

last_graphic : (word : List ℕ) → IsPrinted word
    → (get_or word (length word - 1) 0 == 32) ≡ false
last_graphic [] h = absurd (omega (arith, h.some))
last_graphic (c ∷ []) h = no_space c (and_parts (is_graphic c) _ h.graphic).0
last_graphic (c ∷ d ∷ word) h =
    rw (before_last (length word)) (last_graphic (d ∷ word) (record {
      some = omega arith;
      graphic = (and_parts (is_graphic c) _ h.graphic).1;
    }))

last_bare : (word : List ℕ) (others : List (List ℕ)) → IsPrinted word → ArePrinted others
    → (get_or (word ++ after_spaces others) (length (word ++ after_spaces others) - 1) 0 == 32)
    ≡ false
last_bare word [] h k =
    ap (λ t. get_or t (length t - 1) 0 == 32) (append-nil word) ∙ last_graphic word h
last_bare word ([] ∷ others) h k = absurd (omega (arith, k.0.some))
last_bare word ((c ∷ next) ∷ others) h k =
    ap (λ o. o == 32) (last-append word 32 ((c ∷ next) ++ after_spaces others))
    ∙ ap (λ o. o == 32) (last_on 32 c (next ++ after_spaces others))
    ∙ last_bare (c ∷ next) others k.0 k.1

pub spaced-parted : (word : List ℕ) (others : List (List ℕ)) → IsPrinted word → ArePrinted others
    → is_spaced (word ++ after_spaces others) ≡ true
spaced-parted word others h k =
    rw (
      no_tabs word others h k,
      first_bare word (after_spaces others) h,
      last_bare word others h k,
    ) refl
