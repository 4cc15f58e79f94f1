-- Elements of the context class whose numbers rise.
use Rattle.std.proofs.Common.{◌≡◌, ◌≢◌, ℕ, zero, suc, ◌+◌, ◌/◌, ◌%◌, ◌<◌, ◌≤◌, Bool, true}
use Rattle.std.proofs.Common.{false, not, ◌&&◌, eqb, List, [], ◌∷◌, ◌++◌, length}
use Rattle.std.proofs.Common.{refl, sym, ap, subst, ◌∙◌, inl, inr, ◌⊎◌}
use Rattle.std.proofs.Common.{arith}
use Rattle.std.specs.Prelude.{nat_le}
use Rattle.std.specs.List.{All}
use Rattle.std.proofs.lemmas.Bool.{false≢true, eqb-true, eq-eqb, leb-true}
use Rattle.std.proofs.lemmas.Bool.{leb-false, le-leb, cases_Bool}
use Rattle.std.proofs.lemmas.List.{length-append}
use Rattle.std.proofs.lemmas.List.Elements.{All-nil, All-cons, All-head, All-tail}
use Rattle.ber_values.specs.declared.tag.Tag.{Tag}
use Rattle.ber_values.specs.Tags.{SpellsTag}
use Rattle.ber_values.specs.Grammars.{first_is}
use Rattle.ber_values.specs.Parts.{Contents}
use Rattle.ber_values.specs.Runs.{AnyElement, IsSoundElement, element_octets, elements_octets}
use Rattle.acse_assoc.specs.Rising.{is_tag_numbered, may_pass}
use Rattle.ber_values.specs.Grammars.{is_context}
use Rattle.acse_assoc.specs.Sequences.{IsRising, IsSequence, HasElement, LacksElement}

-- ---- tests of a tag

three : (a b c : Bool) → (a && b && c) ≡ true → (a ≡ true) × (b ≡ true) × (c ≡ true)
three true true true e = (refl, refl, refl)
three a b c e = absurd (false≢true e)

all_three : (a b c : Bool) → a ≡ true → b ≡ true → c ≡ true → (a && b && c) ≡ true
all_three a b c one two three = rw (one, two, three) refl

not_false : (b : Bool) → not b ≡ true → b ≡ false
not_false true e = absurd (false≢true e)
not_false false e = refl

-- the class of a tag is that of its first octet
class_of : (tag : Tag) (tagged : List ℕ) → SpellsTag tag tagged
    → first_is is_context tagged ≡ (eqb tag.class 2)
class_of tag [] s = elim s [ ]
class_of tag (first ∷ []) s = ap (λ (t : Tag). eqb t.class 2) (sym s.1)
class_of tag (first ∷ low ∷ []) s = ap (λ (t : Tag). eqb t.class 2) (sym s.2)
class_of tag (first ∷ high ∷ low ∷ []) s = ap (λ (t : Tag). eqb t.class 2) (sym s.3)
class_of tag (a ∷ b ∷ c ∷ d ∷ more) s = elim s [ ]

pub context-first : (e : AnyElement) → IsSoundElement e → e.tag.class ≡ 2
    → first_is is_context e.tagged ≡ true
context-first e s c = class_of e.tag e.tagged s.tag ∙ eq-eqb e.tag.class 2 c

pub first-context : (e : AnyElement) → IsSoundElement e → first_is is_context e.tagged ≡ true
    → e.tag.class ≡ 2
first-context e s c = eqb-true e.tag.class 2 (sym (class_of e.tag e.tagged s.tag) ∙ c)

not_long : (n : ℕ) (tag : Tag) → tag.long_form ≡ true → is_tag_numbered n tag ≡ true → ⊥
not_long n tag long named =
    let p = three tag.constructed (not tag.long_form) (eqb tag.number n) named in
    false≢true (sym (not_false tag.long_form p.1) ∙ long)

octet_of : (first n : ℕ) → first / 64 ≡ 2 → first / 32 % 2 ≡ 1 → first % 32 ≡ n → first ≡ 160 + n
octet_of first n class form number = omega (arith, class, form, number)

spelled_named : (n : ℕ) (tag : Tag) (tagged : List ℕ) → SpellsTag tag tagged → tag.class ≡ 2
    → is_tag_numbered n tag ≡ true → tagged ≡ (160 + n) ∷ []
spelled_named n tag [] s c named = elim s [ ]
spelled_named n tag (first ∷ []) s c named =
    let p = three tag.constructed (not tag.long_form) (eqb tag.number n) named in
    let class : first / 64 ≡ 2 = sym (ap (λ (t : Tag). t.class) s.1) ∙ c in
    let form : eqb (first / 32 % 2) 1 ≡ true = sym (ap (λ (t : Tag). t.constructed) s.1) ∙ p.0 in
    let number : first % 32 ≡ n = sym (ap (λ (t : Tag). t.number) s.1)
    ∙ eqb-true tag.number n p.2 in
    ap (λ (k : ℕ). k ∷ []) (octet_of first n class (eqb-true _ _ form) number)
spelled_named n tag (first ∷ low ∷ []) s c named = absurd
    (not_long n tag (ap (λ (t : Tag). t.long_form) s.2) named)
spelled_named n tag (first ∷ high ∷ low ∷ []) s c named = absurd
    (not_long n tag (ap (λ (t : Tag). t.long_form) s.3) named)
spelled_named n tag (a ∷ b ∷ c ∷ d ∷ more) s d' named = elim s [ ]

-- the element of a number has its tag in one octet
pub named-tagged : (n : ℕ) (e : AnyElement) → IsSoundElement e → e.tag.class ≡ 2 → is_tag_numbered n e.tag ≡ true
    → e.tagged ≡ (160 + n) ∷ []
named-tagged n e s c named = spelled_named n e.tag e.tagged s.tag c named

number_of_octet : (n : ℕ) → n < 31 → (160 + n) % 32 ≡ n
number_of_octet n small = omega (arith, small)

form_of_octet : (n : ℕ) → n < 31 → (160 + n) / 32 % 2 ≡ 1
form_of_octet n small = omega (arith, small)

named_spelled : (n : ℕ) (tag : Tag) → n < 31 → SpellsTag tag ((160 + n) ∷ []) → (tag.number ≡ n)
    × (is_tag_numbered n tag ≡ true)
named_spelled n tag small s =
    let number : tag.number ≡ n = ap (λ (t : Tag). t.number) s.1 ∙ number_of_octet n small in
    let form : tag.constructed ≡ true = ap (λ (t : Tag). t.constructed) s.1
    ∙ eq-eqb _ _ (form_of_octet n small) in
    let short : not tag.long_form ≡ true = ap (λ (t : Tag). not t.long_form) s.1 in (
      number,
      all_three tag.constructed (not tag.long_form) (eqb tag.number n) form short
          (eq-eqb tag.number n number),
    )

pub tagged-named : (n : ℕ) (e : AnyElement) → n < 31 → IsSoundElement e → e.tagged ≡ (160 + n) ∷ []
    → (e.tag.number ≡ n) × (is_tag_numbered n e.tag ≡ true)
tagged-named n e small s is = named_spelled n e.tag small (subst (SpellsTag e.tag) is s.tag)

class_spelled : (n : ℕ) (tag : Tag) → n < 31 → SpellsTag tag ((160 + n) ∷ []) → tag.class ≡ 2
class_spelled n tag small s = let octet : (160 + n) / 64 ≡ 2 = omega (arith, small) in ap
    (λ (t : Tag). t.class) s.1 ∙ octet

pub tagged-context : (n : ℕ) (e : AnyElement) → n < 31 → IsSoundElement e → e.tagged ≡ (160 + n) ∷ []
    → e.tag.class ≡ 2
tagged-context n e small s is = class_spelled n e.tag small (subst (SpellsTag e.tag) is s.tag)

-- what an element that is passed over is, and one that isn't
pub record PassesAt (number from : ℕ) (tag : Tag) : Type 0 where
  pub least : from ≤ tag.number
  pub most : tag.number ≤ number
  pub unnamed : is_tag_numbered number tag ≡ false

pub passes-at : (number least : ℕ) (tag : Tag) → may_pass number least tag ≡ true
    → PassesAt number least tag
passes-at number least tag e =
    let p = three (nat_le least tag.number) (nat_le tag.number number)
    (not (is_tag_numbered number tag)) e in
    record {
      least = leb-true least tag.number p.0;
      most = leb-true tag.number number p.1;
      unnamed = not_false (is_tag_numbered number tag) p.2;
    }

pub stops-at : (number least : ℕ) (tag : Tag) → least ≤ tag.number
    → may_pass number least tag ≡ false → (number < tag.number) ⊎ (is_tag_numbered number tag ≡ true)
stops-at number least tag enough stops = elim (cases_Bool (is_tag_numbered number tag)) [
  | inl named ↦ inr named
  | inr unnamed ↦ inl (above (cases_Bool (nat_le tag.number number)) unnamed)
]
  where
    above : (nat_le tag.number number ≡ true) ⊎ (nat_le tag.number number ≡ false)
        → is_tag_numbered number tag ≡ false → number < tag.number
    above (inr more) unnamed = leb-false tag.number number more
    above (inl most) unnamed = absurd
        (false≢true (sym stops
        ∙ all_three (nat_le least tag.number) (nat_le tag.number number) (not (is_tag_numbered number tag))
        (le-leb least tag.number enough) most (ap not unnamed)))

-- ---- elements whose numbers rise from a least one

abbrev pub RisesFrom : ℕ → List AnyElement → Type 0
RisesFrom least [] = Unit {0}
RisesFrom least (e ∷ es) = IsSoundElement e × (e.tag.class ≡ 2) × (least ≤ e.tag.number)
    × RisesFrom (e.tag.number + 1) es

abbrev pub IsAbove : ℕ → AnyElement → Type 0
IsAbove least e = least ≤ e.tag.number

-- a rising sequence in one piece
pub record RisesWhole (least : ℕ) (es : List AnyElement) : Type 0 where
  pub sound : All IsSoundElement es
  pub context : All (λ e. e.tag.class ≡ 2) es
  pub rising : IsRising es
  pub above : All (IsAbove least) es

All_least : (least more : ℕ) (es : List AnyElement) → least ≤ more → All (IsAbove more) es
    → All (IsAbove least) es
All_least least more es le all k d lt = omega (arith, le, all k d lt)

rising_cons : (e : AnyElement) (es : List AnyElement) → All (IsAbove (e.tag.number + 1)) es
    → IsRising es → IsRising (e ∷ es)
rising_cons e es above rising zero zero d lt within = absurd (omega (arith, lt))
rising_cons e es above rising zero (suc j) d lt within = let h = above j d
    (omega (arith, within)) in omega (arith, h)
rising_cons e es above rising (suc i) zero d lt within = absurd (omega (arith, lt))
rising_cons e es above rising (suc i) (suc j) d lt within = rising i j d (omega (arith, lt))
    (omega (arith, within))

pub rises-all : (least : ℕ) (es : List AnyElement) → RisesFrom least es → RisesWhole least es
rises-all least [] r =
    record {
      sound = All-nil IsSoundElement;
      context = All-nil _;
      rising = λ i j d lt within. absurd (omega (arith, within));
      above = All-nil (IsAbove least);
    }
rises-all least (e ∷ es) r =
    let rest = rises-all (e.tag.number + 1) es r.3 in record {
      sound = All-cons IsSoundElement e es r.0 rest.sound;
      context = All-cons (λ x. x.tag.class ≡ 2) e es r.1 rest.context;
      rising = rising_cons e es rest.above rest.rising;
      above = All-cons (IsAbove least) e es r.2
          (All_least least (e.tag.number + 1) es (omega (arith, r.2)) rest.above);
    }

pub rises-from : (least : ℕ) (es : List AnyElement) → All IsSoundElement es → All (λ e. e.tag.class ≡ 2) es
    → IsRising es → All (IsAbove least) es → RisesFrom least es
rises-from least [] sound context rising above = tt
rises-from least (e ∷ es) sound context rising above = (
  All-head IsSoundElement e es sound,
  All-head (λ x. x.tag.class ≡ 2) e es context,
  All-head (IsAbove least) e es above,
  rises-from (e.tag.number + 1) es (All-tail IsSoundElement e es sound)
      (All-tail (λ x. x.tag.class ≡ 2) e es context)
      (λ i j d lt within. rising (suc i) (suc j) d (omega (arith, lt)) (omega (arith, within)))
      (λ k d within. let h = rising 0 (suc k) d (omega arith) (omega (arith, within)) in omega
      (arith, h)),
)

pub sequence-rises : (octets : List ℕ) (es : List AnyElement) → IsSequence octets es
    → RisesFrom 0 es
sequence-rises octets es s = rises-from 0 es s.sound s.context s.rising (λ k d within. omega arith)

pub rises-sequence : (octets : List ℕ) (es : List AnyElement) → octets ≡ elements_octets es
    → RisesFrom 0 es → IsSequence octets es
rises-sequence octets es parts r = let all =
    rises-all 0 es r in record {
      sound = all.sound;
      parts = parts;
      context = all.context;
      rising = all.rising;
    }

-- ---- elements that are there, or aren't

abbrev pub LacksTag : ℕ → AnyElement → Type 0
LacksTag tag e = e.tagged ≢ tag ∷ []

pub lacks-has : {X : Type 0} (tag : ℕ) (c : Contents X) (at : ℕ) (es : List AnyElement) (x : X)
    → LacksElement tag es → HasElement tag c at es x → ⊥
lacks-has tag c at [] x lacks h = h
lacks-has tag c at (e ∷ es) x lacks (inl a) = All-head (LacksTag tag) e es lacks a.0
lacks-has tag c at (e ∷ es) x lacks (inr b) = lacks-has tag c (at + length (element_octets e)) es x
    (All-tail (LacksTag tag) e es lacks) b

pub has-weaker : {X Y : Type 0} (tag : ℕ) (c : Contents X) (d : Contents Y) (x : X) (y : Y)
    → ((place : ℕ) (os : List ℕ) → c.spells place x os → d.spells place y os)
    → (at : ℕ) (es : List AnyElement) → HasElement tag c at es x → HasElement tag d at es y
has-weaker tag c d x y each at [] h = h
has-weaker tag c d x y each at (e ∷ es) (inl a) = inl
    (a.0, each (at + length e.tagged + length e.sized) e.contents a.1)
has-weaker tag c d x y each at (e ∷ es) (inr b) = inr
    (has-weaker tag c d x y each (at + length (element_octets e)) es b)

place_on : (at : ℕ) (e : AnyElement) (es : List AnyElement)
    → at + length (element_octets e) + length (elements_octets es) ≡ at + length
    (elements_octets (e ∷ es))
place_on at e es = omega (arith, length-append (element_octets e) (elements_octets es))

pub has-behind : {X : Type 0} (tag : ℕ) (c : Contents X) (at : ℕ) (front es : List AnyElement)
    (x : X) → LacksElement tag front → HasElement tag c at (front ++ es) x
    → HasElement tag c (at + length (elements_octets front)) es x
has-behind tag c at [] es x lacks h = subst (λ (k : ℕ). HasElement tag c k es x) (omega arith) h
has-behind tag c at (e ∷ front) es x lacks (inl a) = absurd
    (All-head (LacksTag tag) e front lacks a.0)
has-behind tag c at (e ∷ front) es x lacks (inr b) = subst (λ (k : ℕ). HasElement tag c k es x)
    (place_on at e front)
    (has-behind tag c (at + length (element_octets e)) front es x
    (All-tail (LacksTag tag) e front lacks) b)

pub has-before : {X : Type 0} (tag : ℕ) (c : Contents X) (at : ℕ) (front es : List AnyElement)
    (x : X) → HasElement tag c (at + length (elements_octets front)) es x
    → HasElement tag c at (front ++ es) x
has-before tag c at [] es x h = subst (λ (k : ℕ). HasElement tag c k es x) (omega arith) h
has-before tag c at (e ∷ front) es x h = inr
    (has-before tag c (at + length (element_octets e)) front es x
    (subst (λ (k : ℕ). HasElement tag c k es x) (sym (place_on at e front)) h))

pub has-front : {X : Type 0} (tag : ℕ) (c : Contents X) (at : ℕ) (front es : List AnyElement)
    (x : X) → HasElement tag c at front x → HasElement tag c at (front ++ es) x
has-front tag c at [] es x h = absurd h
has-front tag c at (e ∷ front) es x (inl a) = inl a
has-front tag c at (e ∷ front) es x (inr b) = inr
    (has-front tag c (at + length (element_octets e)) front es x b)

pub lacks-behind : (tag : ℕ) (front es : List AnyElement) → LacksElement tag (front ++ es)
    → LacksElement tag es
lacks-behind tag [] es lacks = lacks
lacks-behind tag (e ∷ front) es lacks = lacks-behind tag front es
    (All-tail (LacksTag tag) e (front ++ es) lacks)

-- numbers above that of an element
pub above-lacks : (n least : ℕ) (es : List AnyElement) → n < 31 → n < least → RisesFrom least es
    → LacksElement (160 + n) es
above-lacks n least [] small below r = All-nil (LacksTag (160 + n))
above-lacks n least (e ∷ es) small below r =
    All-cons (LacksTag (160 + n)) e es
    (λ is. let k = (tagged-named n e small r.0 is).0 in omega (arith, k, r.2, below))
    (above-lacks n (e.tag.number + 1) es small (omega (arith, below, r.2)) r.3)

-- ---- elements that are passed over

abbrev pub PassRising : ℕ → ℕ → List AnyElement → Type 0
PassRising number least [] = Unit {0}
PassRising number least (e ∷ es) = IsSoundElement e × (e.tag.class ≡ 2)
    × (may_pass number least e.tag ≡ true) × PassRising number (e.tag.number + 1) es

abbrev pub after_run : ℕ → List AnyElement → ℕ
after_run least [] = least
after_run least (e ∷ es) = after_run (e.tag.number + 1) es

pub passes-rises : (number least : ℕ) (run es : List AnyElement) → PassRising number least run
    → RisesFrom (after_run least run) es → RisesFrom least (run ++ es)
passes-rises number least [] es p r = r
passes-rises number least (e ∷ run) es p r = (
  p.0,
  p.1,
  (passes-at number least e.tag p.2).least,
  passes-rises number (e.tag.number + 1) run es p.3 r,
)

-- they lack the element that they are passed over for, and those of larger numbers
pub passes-lacks : (n m least : ℕ) (run : List AnyElement) → n ≤ m → m < 31 → PassRising n least run
    → LacksElement (160 + m) run
passes-lacks n m least [] le small p = All-nil (LacksTag (160 + m))
passes-lacks n m least (e ∷ run) le small p =
    let a = passes-at n least e.tag p.2 in
    All-cons (LacksTag (160 + m)) e run (λ is.
    let k = tagged-named m e small p.0 is in
    let same : m ≡ n = omega (arith, k.0, a.most, le) in
    false≢true (sym a.unnamed ∙ subst (λ (j : ℕ). is_tag_numbered j e.tag ≡ true) same k.1))
    (passes-lacks n m (e.tag.number + 1) run le small p.3)
