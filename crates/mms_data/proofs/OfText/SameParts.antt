-- A text begins with at most one datum and with at most one list of members.
use Rattle.std.proofs.Common.{◌≡◌, ◌≢◌, ◌⊎◌, ℕ, ◌+◌, List, [], ◌∷◌, ◌++◌, true}
use Rattle.std.proofs.Common.{drop, get_or, Some, None, refl, sym, ap, ◌∙◌, inl, inr, append_assoc, subst, arith}
use Rattle.std.proofs.lemmas.List.{append_cancel_left}
use Rattle.mms_data.specs.Datum.{Datum, structure, array, Data, no_data, datum, depth, deepest}
use Rattle.mms_data.specs.Text.Texts.{data_text, members_text, further_text}
use Rattle.mms_data.specs.Text.WordValue.{is_mark, word_of, word_value}
use Rattle.mms_data.specs.Text.TextRead.{IsLeaf, IsEnd, IsTextual, AreTextual, IsClosing}
use Rattle.mms_data.proofs.OfText.Marks.{leaf_unmarked, word_whole}
use Rattle.mms_data.proofs.OfText.LeafRead.{leaf_stands}

-- octets that no word begins with
abbrev pub IsNoLetter : ℕ → Type 0
IsNoLetter c = (held : List ℕ) → word_value (c ∷ held) ≡ None

pub first_octet : (a b : ℕ) (x y : List ℕ) → a ∷ x ≡ b ∷ y → a ≡ b
first_octet a b x y e = ap (λ t. get_or t 0 0) e

pub other_octets : (a b : ℕ) (x y : List ℕ) → a ∷ x ≡ b ∷ y → x ≡ y
other_octets a b x y e = ap (drop 1) e

word_opens : (t : List ℕ) (d : Datum) (c : ℕ) (x s : List ℕ) → word_value t ≡ Some d
    → IsNoLetter c → t ++ s ≡ c ∷ x → ⊥
word_opens [] d c x s stands none e = absurd cc
word_opens (a ∷ rs) d c x s stands none e =
    let same : a ≡ c = first_octet a c (rs ++ s) x e in
    let k : Some d ≡ None = sym stands ∙ ap (λ o. word_value (o ∷ rs)) same ∙ none rs in absurd cc

-- the text of a datum without members begins with a letter
leaf_opens : (d : Datum) (c : ℕ) (x s : List ℕ) → IsLeaf d → IsTextual d → IsNoLetter c
    → data_text d ++ s ≡ c ∷ x → ⊥
leaf_opens d c x s leaf t none e = word_opens (data_text d) d c x s (leaf_stands d leaf t) none e

-- a text of a datum that begins with no letter is that of a structure or of an array
members_first : (d : Datum) (c : ℕ) (x s : List ℕ) → IsTextual d → IsNoLetter c
    → data_text d ++ s ≡ c ∷ x
    → (ds : Data) × (((d ≡ structure ds) × (123 ≡ c)) ⊎ ((d ≡ array ds) × (91 ≡ c)))
members_first (structure ds) c x s t none e = (ds, inl (refl, first_octet 123 c _ x e))
members_first (array ds) c x s t none e = (ds, inr (refl, first_octet 91 c _ x e))
members_first d c x s t none e = absurd (leaf_opens d c x s tt t none e)

-- the text of a datum begins with a letter or with an opening bracket
pub datum_opens : (d : Datum) (c : ℕ) (x s : List ℕ) → IsTextual d → IsNoLetter c → c ≢ 123
    → c ≢ 91 → data_text d ++ s ≡ c ∷ x → ⊥
datum_opens d c x s t none brace bracket e =
    elim ((members_first d c x s t none e).1) [
      | inl k ↦ brace (sym k.1)
      | inr k ↦ bracket (sym k.1)
    ]

-- what is known of a closing bracket
pub record Closes (close : ℕ) : Type 0 where
  pub mark : is_mark close ≡ true
  pub letter : IsNoLetter close
  pub comma : close ≢ 44
  pub brace : close ≢ 123
  pub bracket : close ≢ 91

closing_bracket : Closes 93
closing_bracket = record {
  mark = refl;
  letter = λ held. refl;
  comma = λ e. omega (arith, e);
  brace = λ e. omega (arith, e);
  bracket = λ e. omega (arith, e);
}

closing_brace : Closes 125
closing_brace = record {
  mark = refl;
  letter = λ held. refl;
  comma = λ e. omega (arith, e);
  brace = λ e. omega (arith, e);
  bracket = λ e. omega (arith, e);
}

pub closes : (close : ℕ) → IsClosing close → Closes close
closes close (inl e) = subst Closes (sym e) closing_bracket
closes close (inr e) = subst Closes (sym e) closing_brace

-- behind a member stands a comma or the closing bracket
pub further_ends : (ds : Data) (close : ℕ) (tail : List ℕ) → is_mark close ≡ true
    → IsEnd (further_text ds ++ close ∷ tail)
further_ends no_data close tail mark = mark
further_ends (datum d ds) close tail mark = refl

-- a datum without members is the first word
first_word : (d : Datum) (r : List ℕ) → IsLeaf d → IsTextual d → IsEnd r
    → word_of (data_text d ++ r) ≡ data_text d
first_word d r leaf t end = word_whole (data_text d) r (leaf_unmarked d leaf t) end

same_leaf : (d e : Datum) (r s : List ℕ) → IsLeaf d → IsLeaf e → IsTextual d → IsTextual e
    → IsEnd r → IsEnd s → data_text d ++ r ≡ data_text e ++ s → (d ≡ e) × (r ≡ s)
same_leaf d e r s leaf other t u end behind k =
    let words : data_text d ≡ data_text e =
    sym (first_word d r leaf t end) ∙ ap word_of k ∙ first_word e s other u behind in
    let both : Some d ≡ Some e =
    sym (leaf_stands d leaf t) ∙ ap word_value words ∙ leaf_stands e other u in
    let rests : data_text e ++ r ≡ data_text e ++ s = ap (λ w. w ++ r) (sym words) ∙ k in
    (cc, append_cancel_left (data_text e) r s rests)

-- a text that begins with a datum without members
leaf_first : (d e : Datum) (r s : List ℕ) → IsLeaf d → IsTextual d → IsTextual e → IsEnd r
    → (IsLeaf e → IsEnd s) → data_text d ++ r ≡ data_text e ++ s → (d ≡ e) × (r ≡ s)
leaf_first d (structure es) r s leaf t u end behind k =
    absurd (leaf_opens d 123 _ r leaf t (λ held. refl) k)
leaf_first d (array es) r s leaf t u end behind k =
    absurd (leaf_opens d 91 _ r leaf t (λ held. refl) k)
leaf_first d e r s leaf t u end behind k = same_leaf d e r s leaf tt t u end (behind tt) k

-- members in brackets and what stands behind them, without the opening bracket
inside : (t u : List ℕ) (close : ℕ) (r s : List ℕ)
    → (t ++ close ∷ []) ++ r ≡ (u ++ close ∷ []) ++ s → t ++ close ∷ r ≡ u ++ close ∷ s
inside t u close r s k =
    sym (append_assoc t (close ∷ []) r) ∙ k ∙ append_assoc u (close ∷ []) s

-- an opening bracket, the one that closes it, and what stands in them
pub record Brackets (open_ close : ℕ) (of : Data → Datum) : Type 0 where
  pub closes : Closes close
  pub letter : IsNoLetter open_
  pub text_is : (ds : Data) → data_text (of ds) ≡ open_ ∷ (members_text ds ++ close ∷ [])
  pub depth_is : (ds : Data) → depth (of ds) ≡ deepest ds + 1
  pub parts : (ds : Data) → IsTextual (of ds) → AreTextual ds
  pub whole : (ds : Data) → AreTextual ds → IsTextual (of ds)
  pub branch : (ds : Data) → IsLeaf (of ds) → ⊥
  pub only : (d : Datum) (x s : List ℕ) → IsTextual d → data_text d ++ s ≡ open_ ∷ x
      → (ds : Data) × (d ≡ of ds)

in_braces : (d : Datum) (x s : List ℕ) → IsTextual d → data_text d ++ s ≡ 123 ∷ x
    → (ds : Data) × (d ≡ structure ds)
in_braces d x s t e =
    let found = members_first d 123 x s t (λ held. refl) e in
    elim found.1 [
      | inl k ↦ (found.0, k.0)
      | inr k ↦ absurd (omega (arith, k.1))
    ]

in_brackets : (d : Datum) (x s : List ℕ) → IsTextual d → data_text d ++ s ≡ 91 ∷ x
    → (ds : Data) × (d ≡ array ds)
in_brackets d x s t e =
    let found = members_first d 91 x s t (λ held. refl) e in
    elim found.1 [
      | inl k ↦ absurd (omega (arith, k.1))
      | inr k ↦ (found.0, k.0)
    ]

pub braces : Brackets 123 125 structure
braces = record {
  closes = closing_brace;
  letter = λ held. refl;
  text_is = λ ds. refl;
  depth_is = λ ds. refl;
  parts = λ ds t. t;
  whole = λ ds t. t;
  branch = λ ds leaf. leaf;
  only = in_braces;
}

pub brackets : Brackets 91 93 array
brackets = record {
  closes = closing_bracket;
  letter = λ held. refl;
  text_is = λ ds. refl;
  depth_is = λ ds. refl;
  parts = λ ds t. t;
  whole = λ ds t. t;
  branch = λ ds leaf. leaf;
  only = in_brackets;
}

-- a text that begins with a bracket
bracketed : (open_ close : ℕ) (of : Data → Datum) → Brackets open_ close of → (ds : Data)
    (e : Datum) (r s : List ℕ) → IsTextual e → data_text (of ds) ++ r ≡ data_text e ++ s
    → ((es : Data) → AreTextual es → members_text ds ++ close ∷ r ≡ members_text es ++ close ∷ s
    → (ds ≡ es) × (r ≡ s))
    → (of ds ≡ e) × (r ≡ s)
bracketed open_ close of b ds e r s u k each =
    let opened : data_text e ++ s ≡ open_ ∷ ((members_text ds ++ close ∷ []) ++ r) =
    sym k ∙ ap (λ t. t ++ r) (b.text_is ds) in
    let found = b.only e _ s u opened in
    let es : Data = found.0 in
    let spelled : open_ ∷ ((members_text ds ++ close ∷ []) ++ r)
    ≡ open_ ∷ ((members_text es ++ close ∷ []) ++ s) =
    sym opened ∙ ap (λ d. data_text d ++ s) found.1 ∙ ap (λ t. t ++ s) (b.text_is es) in
    let m = each es (b.parts es (subst (λ (d : Datum). IsTextual d) found.1 u))
    (inside (members_text ds) (members_text es) close r s (other_octets open_ open_ _ _ spelled)) in
    (ap of m.0 ∙ sym found.1, m.1)

mutual
  pub same_datum : (d e : Datum) (r s : List ℕ) → IsTextual d → IsTextual e
      → (IsLeaf d → IsEnd r) → (IsLeaf e → IsEnd s) → data_text d ++ r ≡ data_text e ++ s
      → (d ≡ e) × (r ≡ s)
  same_datum (structure ds) e r s t u end behind k =
      bracketed 123 125 structure braces ds e r s u k
      (λ es v q. same_members 125 closing_brace ds es r s t v q)
  same_datum (array ds) e r s t u end behind k =
      bracketed 91 93 array brackets ds e r s u k
      (λ es v q. same_members 93 closing_bracket ds es r s t v q)
  same_datum d e r s t u end behind k = leaf_first d e r s tt t u (end tt) behind k

  same_members : (close : ℕ) → Closes close → (ds es : Data) (r s : List ℕ) → AreTextual ds
      → AreTextual es → members_text ds ++ close ∷ r ≡ members_text es ++ close ∷ s
      → (ds ≡ es) × (r ≡ s)
  same_members close c no_data no_data r s t u k = (refl, other_octets close close r s k)
  same_members close c no_data (datum e es) r s t u k =
      absurd (datum_opens e close r (further_text es ++ close ∷ s) u.0 c.letter c.brace c.bracket
      (sym (append_assoc (data_text e) (further_text es) (close ∷ s)) ∙ sym k))
  same_members close c (datum d ds) no_data r s t u k =
      absurd (datum_opens d close s (further_text ds ++ close ∷ r) t.0 c.letter c.brace c.bracket
      (sym (append_assoc (data_text d) (further_text ds) (close ∷ r)) ∙ k))
  same_members close c (datum d ds) (datum e es) r s t u k =
      let parts : data_text d ++ (further_text ds ++ close ∷ r)
      ≡ data_text e ++ (further_text es ++ close ∷ s) =
      sym (append_assoc (data_text d) (further_text ds) (close ∷ r)) ∙ k
      ∙ append_assoc (data_text e) (further_text es) (close ∷ s) in
      let first = same_datum d e (further_text ds ++ close ∷ r) (further_text es ++ close ∷ s)
      t.0 u.0 (λ leaf. further_ends ds close r c.mark) (λ leaf. further_ends es close s c.mark)
      parts in
      let others = same_further close c ds es r s t.1 u.1 first.1 in
      ((λ i. datum (first.0 i) (others.0 i)), others.1)

  same_further : (close : ℕ) → Closes close → (ds es : Data) (r s : List ℕ) → AreTextual ds
      → AreTextual es → further_text ds ++ close ∷ r ≡ further_text es ++ close ∷ s
      → (ds ≡ es) × (r ≡ s)
  same_further close c no_data no_data r s t u k = (refl, other_octets close close r s k)
  same_further close c no_data (datum e es) r s t u k =
      absurd (c.comma (first_octet close 44 r _ k))
  same_further close c (datum d ds) no_data r s t u k =
      absurd (c.comma (sym (first_octet 44 close _ s k)))
  same_further close c (datum d ds) (datum e es) r s t u k =
      let rests : (data_text d ++ further_text ds) ++ close ∷ r
      ≡ (data_text e ++ further_text es) ++ close ∷ s = other_octets 44 44 _ _ k in
      let parts : data_text d ++ (further_text ds ++ close ∷ r)
      ≡ data_text e ++ (further_text es ++ close ∷ s) =
      sym (append_assoc (data_text d) (further_text ds) (close ∷ r)) ∙ rests
      ∙ append_assoc (data_text e) (further_text es) (close ∷ s) in
      let first = same_datum d e (further_text ds ++ close ∷ r) (further_text es ++ close ∷ s)
      t.0 u.0 (λ leaf. further_ends ds close r c.mark) (λ leaf. further_ends es close s c.mark)
      parts in
      let others = same_further close c ds es r s t.1 u.1 first.1 in
      ((λ i. datum (first.0 i) (others.0 i)), others.1)

-- a datum has no members, or its text begins with a bracket
pub leaf_or_bracket : (d : Datum)
    → IsLeaf d ⊎ ((rest : List ℕ) × ((data_text d ≡ 123 ∷ rest) ⊎ (data_text d ≡ 91 ∷ rest)))
leaf_or_bracket (structure ds) = inr (members_text ds ++ 125 ∷ [], inl refl)
leaf_or_bracket (array ds) = inr (members_text ds ++ 93 ∷ [], inr refl)
leaf_or_bracket _ = inl tt
