-- Where words break: from the words behind the first one to all of them.
use Rattle.std.proofs.Common.{◌≡◌, ℕ, zero, suc, ◌<◌, ◌≤◌, List, [], ◌∷◌, ◌++◌, length, take}
use Rattle.std.proofs.Common.{refl, subst, ap, arith, add-one}
use Rattle.texts.specs.Events.Breaks.{Breaks}
use Rattle.texts.specs.Events.Verbs.{EachWord, OneOrMore, HaltsAtWords, one_more}
use Rattle.texts.specs.declared.events.reading.halt.Halt.{Halt}
use Rattle.texts.specs.declared.events.reading.halt.Halt.TheVariants as halts

abbrev Words : Type 0
Words = List (List ℕ)

-- no word stands, and one may
pub breaks-none : (P : Words → Type 0) (fine : Words) → P fine → (P [] → ⊥) → Breaks P [] 0
breaks-none P fine p wrong = record {
  within = omega arith;
  begins = (fine, p);
  breaks = λ below begins. absurd (omega (arith, below));
  unspelled = wrong;
}

-- the first word is wrong
pub breaks-first : (P : Words → Type 0) (word : List ℕ) (words fine : Words) → P fine
    → ((more : Words) → P (word ∷ more) → ⊥) → Breaks P (word ∷ words) 0
breaks-first P word words fine p wrong = record {
  within = omega arith;
  begins = (fine, p);
  breaks = λ below begins. wrong begins.0 begins.1;
  unspelled = λ q. wrong words q;
}

-- a word behind the first is wrong
pub breaks-behind : (P Q : Words → Type 0) (word : List ℕ) (words : Words) (count : ℕ)
    → ((more : Words) → P more → Q (word ∷ more)) → ((more : Words) → Q (word ∷ more) → P more)
    → Breaks P words count → Breaks Q (word ∷ words) (suc count)
breaks-behind P Q word words count to back b = record {
  within = omega (arith, b.within);
  begins = (b.begins.0, to (take count words ++ b.begins.0) b.begins.1);
  breaks = λ below begins. b.breaks (omega (arith, below))
      (begins.0, back (take (suc count) words ++ begins.0) begins.1);
  unspelled = λ q. b.unspelled (back words q);
}

-- after words that are such one isn't
breaks-each : (W : List ℕ → Type 0) (before : Words) (word : List ℕ) (words : Words)
    → EachWord W before → (W word → ⊥) → Breaks (EachWord W) (before ++ word ∷ words) (length before)
breaks-each W [] word words each wrong =
    breaks-first (EachWord W) word words [] tt (λ more q. wrong q.0)
breaks-each W (first ∷ before) word words each wrong =
    breaks-behind (EachWord W) (EachWord W) first (before ++ word ∷ words) (length before)
    (λ more q. (each.0, q)) (λ more q. q.1)
    (breaks-each W before word words each.1 wrong)

pub breaks-among : (W : List ℕ → Type 0) (fine : List ℕ) → W fine → (before : Words)
    (word : List ℕ) (words : Words) → EachWord W before → (W word → ⊥)
    → Breaks (OneOrMore W) (before ++ word ∷ words) (length before)
breaks-among W fine w [] word words each wrong =
    breaks-first (OneOrMore W) word words (fine ∷ []) (w, tt) (λ more q. wrong q.0)
breaks-among W fine w (first ∷ before) word words each wrong =
    breaks-behind (EachWord W) (OneOrMore W) first (before ++ word ∷ words) (length before)
    (λ more q. (each.0, q)) (λ more q. q.1)
    (breaks-each W before word words each.1 wrong)

shorter : (n m : ℕ) (words more : Words) → n ≤ m → m ≤ length words
    → (rest : Words) × (take m words ++ more ≡ take n words ++ rest)
shorter zero m words more h k = (take m words ++ more, refl)
shorter (suc n) zero words more h k = absurd (omega (arith, h))
shorter (suc n) (suc m) [] more h k = absurd (omega (arith, k))
shorter (suc n) (suc m) (word ∷ words) more h k =
    let s = shorter n m words more (omega (arith, h)) (omega (arith, k)) in
    (s.0, ap (λ t. word ∷ t) s.1)

not_below : (P : Words → Type 0) (words : Words) (a b : ℕ) → Breaks P words a → Breaks P words b
    → a < b → ⊥
not_below P words a b x y h =
    let s = shorter (suc a) b words y.begins.0 (omega (arith, h)) y.within in
    x.breaks (omega (arith, h, y.within)) (s.0, subst P s.1 y.begins.1)

order : (a b : ℕ) → (a < b → ⊥) → (b < a → ⊥) → a ≡ b
order zero zero h k = refl
order zero (suc b) h k = absurd (h (omega arith))
order (suc a) zero h k = absurd (k (omega arith))
order (suc a) (suc b) h k =
    ap suc (order a b (λ l. h (omega (arith, l))) (λ l. k (omega (arith, l))))

-- words break at one place
pub one_break : (P : Words → Type 0) (words : Words) (a b : ℕ) → Breaks P words a
    → Breaks P words b → a ≡ b
one_break P words a b x y = order a b (not_below P words a b x y) (not_below P words b a y x)

-- where a reading of words stopped, if not for want of memory, is one further behind one more word
pub halts-behind : (P Q : Words → Type 0) (word : List ℕ) (words : Words) (halt : Halt)
    → ((more : Words) → P more → Q (word ∷ more)) → ((more : Words) → Q (word ∷ more) → P more)
    → HaltsAtWords halt (λ count. Breaks P words count)
    → HaltsAtWords (one_more halt) (λ count. Breaks Q (word ∷ words) count)
halts-behind P Q word words halts.Memory to back b = tt
halts-behind P Q word words (halts.Bad count) to back b =
    rw add-one (breaks-behind P Q word words count to back b)

pub halts-within : (halt : Halt) (small large : ℕ) → small < large
    → HaltsAtWords halt (λ count. count ≤ small) → HaltsAtWords (one_more halt) (λ count. count ≤ large)
halts-within halts.Memory small large h k = tt
halts-within (halts.Bad count) small large h k = omega (arith, h, k)
