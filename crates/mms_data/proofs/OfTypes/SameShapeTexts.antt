-- A text begins with at most one type.
use Rattle.std.proofs.Common.{◌≡◌, ℕ, eqb, cond, List, [], ◌∷◌, ◌++◌, drop}
use Rattle.std.proofs.Common.{get_or, Some, decimal, codes, refl, sym, ap, ◌∙◌, append_assoc}
use Rattle.std.proofs.Common.{append-nil, arith}
use Rattle.std.proofs.lemmas.List.{append_cancel_left}
use Rattle.plain_text.proofs.Decimal.{number_in-of_decimal}
use Rattle.plain_text.specs.Numbers.{number_in}
use Rattle.mms_data.specs.Text.WordValue.{word_of}
use Rattle.mms_data.specs.Text.TextRead.{IsEnd}
use Rattle.mms_data.proofs.OfText.WordOctets.{AreWordOctets, each_passes, both_words}
use Rattle.mms_data.proofs.OfText.WordOctets.{decimal_octets}
use Rattle.mms_data.proofs.OfText.Marks.{unmarked, octet_unmarked, word_whole}
use Rattle.mms_data.proofs.OfText.SameParts.{first_octet, other_octets}
use Rattle.mms_data.specs.Types.TypeShape.{TypeShape, bool_shape, bits_shape, int_shape}
use Rattle.mms_data.specs.Types.TypeShape.{uint_shape, real_shape, text_shape, structure_shape}
use Rattle.mms_data.specs.Types.TypeShape.{TypeShapes, no_shapes, shapes, IsShapeSize, KeepsSizes}
use Rattle.mms_data.specs.Types.TypeShape.{KeepAllSizes, IsTypeShape}
use Rattle.mms_data.specs.Types.ShapeTexts.{shape_text, components_text, further_components}

-- no components
abbrev IsPlain : TypeShape → Type 0
IsPlain (structure_shape ss) = ⊥
IsPlain _ = Unit {0}

sized_octets : (word : List ℕ) (n : ℕ) → AreWordOctets word → IsShapeSize n
    → AreWordOctets (word ++ decimal n)
sized_octets word n w h = both_words word (decimal n) w (decimal_octets n (omega (arith, h)))

plain_octets : (s : TypeShape) → IsPlain s → KeepsSizes s → AreWordOctets (shape_text s)
plain_octets bool_shape plain sizes = refl
plain_octets (bits_shape n) plain sizes = sized_octets (codes "bits") n refl sizes
plain_octets (int_shape n) plain sizes = sized_octets (codes "int") n refl sizes
plain_octets (uint_shape n) plain sizes = sized_octets (codes "uint") n refl sizes
plain_octets real_shape plain sizes = refl
plain_octets (text_shape n) plain sizes = sized_octets (codes "text") n refl sizes
plain_octets (structure_shape ss) plain sizes = absurd plain

-- a shape without components is the first word
plain_word : (s : TypeShape) (r : List ℕ) → IsPlain s → KeepsSizes s → IsEnd r
    → word_of (shape_text s ++ r) ≡ shape_text s
plain_word s r plain sizes end =
    word_whole (shape_text s) r
    (each_passes unmarked octet_unmarked (shape_text s) (plain_octets s plain sizes)) end

-- which kind a text begins with, by its first two letters
abbrev text_kind : List ℕ → ℕ
text_kind os =
    cond (eqb (get_or os 0 0) 98) (cond (eqb (get_or os 1 0) 111) 0 1) (get_or os 0 0)

abbrev shape_kind : TypeShape → ℕ
shape_kind bool_shape = 0
shape_kind (bits_shape n) = 1
shape_kind (int_shape n) = 105
shape_kind (uint_shape n) = 117
shape_kind real_shape = 114
shape_kind (text_shape n) = 116
shape_kind (structure_shape ss) = 123

kind_of_text : (s : TypeShape) (r : List ℕ) → text_kind (shape_text s ++ r) ≡ shape_kind s
kind_of_text bool_shape r = refl
kind_of_text (bits_shape n) r = refl
kind_of_text (int_shape n) r = refl
kind_of_text (uint_shape n) r = refl
kind_of_text real_shape r = refl
kind_of_text (text_shape n) r = refl
kind_of_text (structure_shape ss) r = refl

same_kind : (s t : TypeShape) (r q : List ℕ) → shape_text s ++ r ≡ shape_text t ++ q
    → shape_kind s ≡ shape_kind t
same_kind s t r q e = sym (kind_of_text s r) ∙ ap text_kind e ∙ kind_of_text t q

some_is : (m n : ℕ) → Some m ≡ Some n → m ≡ n
some_is m n e = cc

same_number : (m n : ℕ) → IsShapeSize m → IsShapeSize n → decimal m ≡ decimal n → m ≡ n
same_number m n h k e =
    some_is m n (sym (number_in-of_decimal m (omega (arith, h))) ∙ ap number_in e
    ∙ number_in-of_decimal n (omega (arith, k)))

-- two shapes without components of one text
same_word : (s t : TypeShape) → IsPlain s → IsPlain t → KeepsSizes s → KeepsSizes t
    → shape_kind s ≡ shape_kind t → shape_text s ≡ shape_text t → s ≡ t
same_word bool_shape bool_shape p q h k kind e = refl
same_word (bits_shape m) (bits_shape n) p q h k kind e =
    ap bits_shape (same_number m n h k (ap (drop 4) e))
same_word (int_shape m) (int_shape n) p q h k kind e =
    ap int_shape (same_number m n h k (ap (drop 3) e))
same_word (uint_shape m) (uint_shape n) p q h k kind e =
    ap uint_shape (same_number m n h k (ap (drop 4) e))
same_word real_shape real_shape p q h k kind e = refl
same_word (text_shape m) (text_shape n) p q h k kind e =
    ap text_shape (same_number m n h k (ap (drop 4) e))
same_word (structure_shape ss) t p q h k kind e = absurd p
same_word s (structure_shape ts) p q h k kind e = absurd q
same_word s t p q h k kind e = absurd (omega (arith, kind))

same_plain : (s t : TypeShape) (r q : List ℕ) → IsPlain s → IsPlain t → KeepsSizes s → KeepsSizes t
    → IsEnd r → IsEnd q → shape_text s ++ r ≡ shape_text t ++ q → (s ≡ t) × (r ≡ q)
same_plain s t r q plain other h k end behind e =
    let words : shape_text s ≡ shape_text t =
    sym (plain_word s r plain h end) ∙ ap word_of e ∙ plain_word t q other k behind in
    let rests : shape_text t ++ r ≡ shape_text t ++ q = ap (λ w. w ++ r) (sym words) ∙ e in (
      same_word s t plain other h k (same_kind s t r q e) words,
      append_cancel_left (shape_text t) r q rests,
    )

-- components in braces and what stands behind them, without the opening brace
inside : (t u : List ℕ) (r s : List ℕ)
    → (123 ∷ (t ++ 125 ∷ [])) ++ r ≡ (123 ∷ (u ++ 125 ∷ [])) ++ s → t ++ 125 ∷ r ≡ u ++ 125 ∷ s
inside t u r s k =
    sym (append_assoc t (125 ∷ []) r) ∙ other_octets 123 123 _ _ k ∙ append_assoc u (125 ∷ []) s

-- behind a component stands a comma or the closing brace
further_ends : (ss : TypeShapes) (tail : List ℕ) → IsEnd (further_components ss ++ 125 ∷ tail)
further_ends no_shapes tail = refl
further_ends (shapes s ss) tail = refl

-- the text of a type begins with no closing brace
kind_opens : (s : TypeShape) (x r : List ℕ) → shape_text s ++ r ≡ 125 ∷ x → ⊥
kind_opens s x r e = opens s (sym (kind_of_text s r) ∙ ap text_kind e)
  where
    opens : (s : TypeShape) → shape_kind s ≡ text_kind (125 ∷ x) → ⊥
    opens bool_shape k = omega (arith, k)
    opens (bits_shape n) k = omega (arith, k)
    opens (int_shape n) k = omega (arith, k)
    opens (uint_shape n) k = omega (arith, k)
    opens real_shape k = omega (arith, k)
    opens (text_shape n) k = omega (arith, k)
    opens (structure_shape ss) k = omega (arith, k)

mutual
  pub same_shape_text : (s t : TypeShape) (r q : List ℕ) → KeepsSizes s → KeepsSizes t
      → (IsPlain s → IsEnd r) → (IsPlain t → IsEnd q) → shape_text s ++ r ≡ shape_text t ++ q
      → (s ≡ t) × (r ≡ q)
  same_shape_text (structure_shape ss) (structure_shape ts) r q h k end behind e =
      let m = same_components ss ts r q h k
      (inside (components_text ss) (components_text ts) r q e) in
      (ap structure_shape m.0, m.1)
  same_shape_text (structure_shape ss) t r q h k end behind e =
      absurd (omega (arith, same_kind (structure_shape ss) t r q e))
  same_shape_text s (structure_shape ts) r q h k end behind e =
      absurd (omega (arith, same_kind s (structure_shape ts) r q e))
  same_shape_text s t r q h k end behind e = same_plain s t r q tt tt h k (end tt) (behind tt) e

  same_components : (ss ts : TypeShapes) (r q : List ℕ) → KeepAllSizes ss → KeepAllSizes ts
      → components_text ss ++ 125 ∷ r ≡ components_text ts ++ 125 ∷ q → (ss ≡ ts) × (r ≡ q)
  same_components no_shapes no_shapes r q h k e = (refl, other_octets 125 125 r q e)
  same_components no_shapes (shapes t ts) r q h k e =
      absurd (kind_opens t r (further_components ts ++ 125 ∷ q)
      (sym (append_assoc (shape_text t) (further_components ts) (125 ∷ q)) ∙ sym e))
  same_components (shapes s ss) no_shapes r q h k e =
      absurd (kind_opens s q (further_components ss ++ 125 ∷ r)
      (sym (append_assoc (shape_text s) (further_components ss) (125 ∷ r)) ∙ e))
  same_components (shapes s ss) (shapes t ts) r q h k e =
      let parts : shape_text s ++ (further_components ss ++ 125 ∷ r)
      ≡ shape_text t ++ (further_components ts ++ 125 ∷ q) =
      sym (append_assoc (shape_text s) (further_components ss) (125 ∷ r)) ∙ e
      ∙ append_assoc (shape_text t) (further_components ts) (125 ∷ q) in
      let first = same_shape_text s t (further_components ss ++ 125 ∷ r)
      (further_components ts ++ 125 ∷ q) h.0 k.0 (λ plain. further_ends ss r)
      (λ plain. further_ends ts q) parts in
      let others = same_further ss ts r q h.1 k.1 first.1 in
      ((λ i. shapes (first.0 i) (others.0 i)), others.1)

  same_further : (ss ts : TypeShapes) (r q : List ℕ) → KeepAllSizes ss → KeepAllSizes ts
      → further_components ss ++ 125 ∷ r ≡ further_components ts ++ 125 ∷ q → (ss ≡ ts) × (r ≡ q)
  same_further no_shapes no_shapes r q h k e = (refl, other_octets 125 125 r q e)
  same_further no_shapes (shapes t ts) r q h k e =
      absurd (omega (arith, first_octet 125 44 r _ e))
  same_further (shapes s ss) no_shapes r q h k e =
      absurd (omega (arith, first_octet 44 125 _ q e))
  same_further (shapes s ss) (shapes t ts) r q h k e =
      let rests : (shape_text s ++ further_components ss) ++ 125 ∷ r
      ≡ (shape_text t ++ further_components ts) ++ 125 ∷ q = other_octets 44 44 _ _ e in
      let parts : shape_text s ++ (further_components ss ++ 125 ∷ r)
      ≡ shape_text t ++ (further_components ts ++ 125 ∷ q) =
      sym (append_assoc (shape_text s) (further_components ss) (125 ∷ r)) ∙ rests
      ∙ append_assoc (shape_text t) (further_components ts) (125 ∷ q) in
      let first = same_shape_text s t (further_components ss ++ 125 ∷ r)
      (further_components ts ++ 125 ∷ q) h.0 k.0 (λ plain. further_ends ss r)
      (λ plain. further_ends ts q) parts in
      let others = same_further ss ts r q h.1 k.1 first.1 in
      ((λ i. shapes (first.0 i) (others.0 i)), others.1)

-- two types of one text are one
pub same_text : (s t : TypeShape) → IsTypeShape s → IsTypeShape t → shape_text s ≡ shape_text t
    → s ≡ t
same_text s t h k e =
    (same_shape_text s t [] [] h.sizes k.sizes (λ plain. tt) (λ plain. tt)
    (append-nil (shape_text s) ∙ e ∙ sym (append-nil (shape_text t)))).0
