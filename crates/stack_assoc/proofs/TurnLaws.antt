-- Items spell values in turn in one way, or one of them breaks a rule behind those before it.
use Rattle.std.proofs.Common.{◌≡◌, List, [], ◌∷◌, ◌++◌, ◌⊎◌, inl, inr, refl, sym, ap, subst, ◌∙◌}
use Rattle.std.proofs.Common.{append_assoc, get_or, drop}
use Rattle.std.proofs.lemmas.List.{append-nil}
use Rattle.stack_assoc.specs.InTurn.{SpellInTurn}

-- what came before, and one value more
shifted : {T : Type 0} (P : List T → Type 0) (before : List T) (t : T) (ts : List T)
    → P (before ++ t ∷ ts) → P ((before ++ t ∷ []) ++ ts)
shifted {T = T} P before t ts p = subst P (sym (append_assoc before (t ∷ []) ts)) p

pub unshifted : {T : Type 0} (P : List T → Type 0) (before : List T) (t : T) (ts : List T)
    → P ((before ++ t ∷ []) ++ ts) → P (before ++ t ∷ ts)
unshifted {T = T} P before t ts p = subst P (append_assoc before (t ∷ []) ts) p

-- one value more
pub spelled_push : {X T : Type 0} (S : List T → T → X → Type 0) (before ts : List T) (t : T)
    (ms : List X) (m : X) → SpellInTurn S before ts ms → S (before ++ ts) t m
    → SpellInTurn S before (ts ++ t ∷ []) (ms ++ m ∷ [])
spelled_push {X = X} {T = T} S before [] t [] m s one =
    let P : List T → Type 0 = λ b. S b t m in (subst P (append-nil before) one, tt)
spelled_push S before [] t (n ∷ ms) m s one = absurd s
spelled_push S before (u ∷ ts) t [] m s one = absurd s
spelled_push {X = X} {T = T} S before (u ∷ ts) t (n ∷ ms) m s one = (
  s.0,
  spelled_push S (before ++ u ∷ []) ts t ms m s.1
      (shifted (λ (b : List T). S b t m) before u ts one),
)

-- in one way
pub spelled_once : {X T : Type 0} (S : List T → T → X → Type 0)
    → ((b : List T) (t u : T) (m : X) → S b t m → S b u m → t ≡ u)
    → (before ts us : List T) (ms : List X) → SpellInTurn S before ts ms
    → SpellInTurn S before us ms → ts ≡ us
spelled_once S one before [] [] [] s r = refl
spelled_once S one before [] [] (m ∷ ms) s r = refl
spelled_once S one before [] (u ∷ us) [] s r = absurd r
spelled_once S one before [] (u ∷ us) (m ∷ ms) s r = absurd s
spelled_once S one before (t ∷ ts) [] [] s r = absurd s
spelled_once S one before (t ∷ ts) [] (m ∷ ms) s r = absurd r
spelled_once S one before (t ∷ ts) (u ∷ us) [] s r = absurd s
spelled_once {X = X} {T = T} S one before (t ∷ ts) (u ∷ us) (m ∷ ms) s r =
    let first : t ≡ u = one before t u m s.0 r.0 in
    let P : T → Type 0 = λ v. SpellInTurn S (before ++ v ∷ []) us ms in
    let rest : ts ≡ us = spelled_once S one (before ++ t ∷ []) ts us ms s.1 (subst P (sym first) r.1)
    in
    ap (λ (v : T). v ∷ ts) first ∙ ap (λ (vs : List T). u ∷ vs) rest

-- the first of the items spell the first of the values
pub record SpelledParts {X T : Type 0} (S : List T → T → X → Type 0) (before all : List T)
    (ms ns : List X) : Type 0 where
  pub first : List T
  pub later : List T
  pub is : all ≡ first ++ later
  pub front : SpellInTurn S before first ms
  pub back : SpellInTurn S (before ++ first) later ns

pub spelled_parts : {X T : Type 0} (S : List T → T → X → Type 0) (before all : List T)
    (ms ns : List X) → SpellInTurn S before all (ms ++ ns) → SpelledParts S before all ms ns
spelled_parts {X = X} {T = T} S before all [] ns s = record {
  first = [];
  later = all;
  is = refl;
  front = tt;
  back = let P : List T → Type 0 = λ b. SpellInTurn S b all ns in
      subst P (sym (append-nil before)) s;
}
spelled_parts S before [] (m ∷ ms) ns s = absurd s
spelled_parts {X = X} {T = T} S before (t ∷ all) (m ∷ ms) ns s =
    let p = spelled_parts S (before ++ t ∷ []) all ms ns s.1 in
    record {
      first = t ∷ p.first;
      later = p.later;
      is = ap (λ (vs : List T). t ∷ vs) p.is;
      front = (s.0, p.front);
      back = unshifted (λ (b : List T). SpellInTurn S b p.later ns) before t p.first p.back;
    }

-- behind items that are spelled, one breaks a rule
pub record BrokenTurn {X T B : Type 0} (S : List T → T → X → Type 0) (F : List T → X → B → Type 0)
    (before : List T) (all : List X) : Type 0 where
  pub told : List T
  pub passed : List X
  pub item : X
  pub left : List X
  pub fault : B
  pub is : all ≡ passed ++ item ∷ left
  pub spelled : SpellInTurn S before told passed
  pub breaks : F (before ++ told) item fault

-- the first item breaks one
abbrev pub broken_first : {X T B : Type 0} (S : List T → T → X → Type 0)
    (F : List T → X → B → Type 0) (before : List T) (m : X) (ms : List X) (fault : B)
    → F before m fault → BrokenTurn S F before (m ∷ ms)
broken_first {X = X} {T = T} S F before m ms fault breaks = record {
  told = [];
  passed = [];
  item = m;
  left = ms;
  fault = fault;
  is = refl;
  spelled = tt;
  breaks = let P : List T → Type 0 = λ v. F v m fault in
      subst P (sym (append-nil before)) breaks;
}

-- the first item is spelled, and one behind it breaks one
abbrev pub broken_later : {X T B : Type 0} (S : List T → T → X → Type 0)
    (F : List T → X → B → Type 0) (before : List T) (t : T) (m : X) (ms : List X) → S before t m
    → BrokenTurn S F (before ++ t ∷ []) ms → BrokenTurn S F before (m ∷ ms)
broken_later {X = X} {T = T} S F before t m ms spelled b = record {
  told = t ∷ b.told;
  passed = m ∷ b.passed;
  item = b.item;
  left = b.left;
  fault = b.fault;
  is = ap (λ (xs : List X). m ∷ xs) b.is;
  spelled = (spelled, b.spelled);
  breaks = unshifted (λ (v : List T). F v b.item b.fault) before t b.told b.breaks;
}

-- all are spelled, or one breaks a rule
pub spelled_or_broken : {X T B : Type 0} (S : List T → T → X → Type 0)
    (F : List T → X → B → Type 0)
    → ((b : List T) (m : X) → ((t : T) × S b t m) ⊎ ((f : B) × F b m f))
    → (before : List T) (ms : List X)
    → ((ts : List T) × SpellInTurn S before ts ms) ⊎ BrokenTurn S F before ms
spelled_or_broken S F each before [] = inl ([], tt)
spelled_or_broken {X = X} {T = T} {B = B} S F each before (m ∷ ms) =
    elim (each before m) [
      | inl found ↦ elim (spelled_or_broken S F each (before ++ found.0 ∷ []) ms) [
        | inl all ↦ inl (found.0 ∷ all.0, (found.1, all.1))
        | inr b ↦ inr (broken_later S F before found.0 m ms found.1 b)
      ]
      | inr fault ↦ inr (broken_first S F before m ms fault.0 fault.1)
    ]

-- what the laws of turns rest on: an item is a value in one way, or breaks one rule, and not both
pub record OneEach {X T B : Type 0} (S : List T → T → X → Type 0) (F : List T → X → B → Type 0) :
    Type 0 where
  pub each : (b : List T) (m : X) → ((t : T) × S b t m) ⊎ ((f : B) × F b m f)
  pub once : (b : List T) (t u : T) (m : X) → S b t m → S b u m → t ≡ u
  pub first : (b : List T) (m : X) (f g : B) → F b m f → F b m g → f ≡ g
  pub never : (b : List T) (t : T) (m : X) (f : B) → S b t m → F b m f → ⊥

front_unbroken : {X T B : Type 0} (S : List T → T → X → Type 0)
    (F : List T → X → B → Type 0) → ((b : List T) (t : T) (m : X) (f : B) → S b t m → F b m f → ⊥)
    → (before vs : List T) (m : X) (left : List X) (f : B) → SpellInTurn S before vs (m ∷ left)
    → F before m f → ⊥
front_unbroken S F never before [] m left f s b = s
front_unbroken S F never before (v ∷ vs) m left f s b = never before v m f s.0 b

-- what is spelled breaks no rule
pub spelled_unbroken : {X T B : Type 0} (S : List T → T → X → Type 0)
    (F : List T → X → B → Type 0) → OneEach S F
    → (before all ts : List T) (ms : List X) (m : X) (left : List X) (f : B)
    → SpellInTurn S before all (ms ++ m ∷ left) → SpellInTurn S before ts ms
    → F (before ++ ts) m f → ⊥
spelled_unbroken {X = X} {T = T} {B = B} S F one before all ts ms m left f s r b =
    let p = spelled_parts S before all ms (m ∷ left) s in
    let same : p.first ≡ ts = spelled_once S one.once before p.first ts ms p.front r in
    let P : List T → Type 0 = λ v. F (before ++ v) m f in
    front_unbroken S F one.never (before ++ p.first) p.later m left f p.back (subst P (sym same) b)

-- these values, and this rule behind them
pub record SameBreak {T B : Type 0} (ts us : List T) (f g : B) : Type 0 where
  pub told : ts ≡ us
  pub fault : f ≡ g

heads : {X : Type 0} (m n : X) (ms ns : List X) → m ∷ ms ≡ n ∷ ns → m ≡ n
heads {X = X} m n ms ns e = ap (λ (xs : List X). get_or xs 0 m) e

tails : {X : Type 0} (m n : X) (ms ns : List X) → m ∷ ms ≡ n ∷ ns → ms ≡ ns
tails {X = X} m n ms ns e = ap (λ (xs : List X). drop 1 xs) e

-- the first rule that is broken is one
pub broken_once : {X T B : Type 0} (S : List T → T → X → Type 0) (F : List T → X → B → Type 0)
    → OneEach S F → (before ts us : List T) (ms ns : List X) (m n : X) (left rest : List X)
    (f g : B) → ms ++ m ∷ left ≡ ns ++ n ∷ rest → SpellInTurn S before ts ms
    → SpellInTurn S before us ns → F (before ++ ts) m f → F (before ++ us) n g
    → SameBreak ts us f g
broken_once S F one before [] us (x ∷ ms) ns m n left rest f g is s r b c = absurd s
broken_once S F one before (t ∷ ts) us [] ns m n left rest f g is s r b c = absurd s
broken_once S F one before [] [] [] (y ∷ ns) m n left rest f g is s r b c = absurd r
broken_once S F one before [] (u ∷ us) [] [] m n left rest f g is s r b c = absurd r
broken_once S F one before (t ∷ ts) [] (x ∷ ms) (y ∷ ns) m n left rest f g is s r b c = absurd r
broken_once S F one before (t ∷ ts) (u ∷ us) (x ∷ ms) [] m n left rest f g is s r b c = absurd r
broken_once {X = X} {T = T} {B = B} S F one before [] [] [] [] m n left rest f g is s r b c =
    let same : m ≡ n = heads m n left rest is in
    let P : X → Type 0 = λ x. F (before ++ []) x f in
    record { told = refl; fault = one.first (before ++ []) n f g (subst P same b) c }
broken_once {X = X} {T = T} {B = B} S F one before [] (u ∷ us) [] (y ∷ ns) m n left rest f g is s r
    b c =
    let same : m ≡ y = heads m y left (ns ++ n ∷ rest) is in
    let P : X → Type 0 = λ x. F (before ++ []) x f in
    let Q : List T → Type 0 = λ v. F v y f in
    absurd (one.never before u y f r.0 (subst Q (append-nil before) (subst P same b)))
broken_once {X = X} {T = T} {B = B} S F one before (t ∷ ts) [] (x ∷ ms) [] m n left rest f g is s r
    b c =
    let same : x ≡ n = heads x n (ms ++ m ∷ left) rest is in
    let P : X → Type 0 = λ y. F (before ++ []) y g in
    let Q : List T → Type 0 = λ v. F v x g in
    absurd (one.never before t x g s.0 (subst Q (append-nil before) (subst P (sym same) c)))
broken_once {X = X} {T = T} {B = B} S F one before (t ∷ ts) (u ∷ us) (x ∷ ms) (y ∷ ns) m n left rest
    f g is s r b c =
    let same : x ≡ y = heads x y (ms ++ m ∷ left) (ns ++ n ∷ rest) is in
    let P : X → Type 0 = λ z. S before u z in
    let first : t ≡ u = one.once before t u x s.0 (subst P (sym same) r.0) in
    let Q : T → Type 0 = λ v. SpellInTurn S (before ++ v ∷ []) us ns in
    let R : T → Type 0 = λ v. F ((before ++ v ∷ []) ++ us) n g in
    let later = broken_once S F one (before ++ t ∷ []) ts us ms ns m n left rest f g
    (tails x y (ms ++ m ∷ left) (ns ++ n ∷ rest) is) s.1 (subst Q (sym first) r.1)
    (shifted (λ (v : List T). F v m f) before t ts b)
    (subst R (sym first) (shifted (λ (v : List T). F v n g) before u us c)) in
    record {
      told = ap (λ (v : T). v ∷ ts) first ∙ ap (λ (vs : List T). u ∷ vs) later.told;
      fault = later.fault;
    }
