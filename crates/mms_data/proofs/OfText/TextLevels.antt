-- Members are read one after another, and a text breaks where one of them does.
use Rattle.std.proofs.Common.{◌≡◌, ◌≢◌, ◌⊎◌, ℕ, zero, suc, ◌+◌, ◌-◌, ◌≤◌, ◌<◌}
use Rattle.std.proofs.Common.{false, List, [], ◌∷◌, ◌++◌, length, refl, sym, ap, ◌∙◌, inl, inr}
use Rattle.std.proofs.Common.{subst, append_assoc, append-nil, arith}
use Rattle.std.proofs.lemmas.Bool.{cases_lt}
use Rattle.std.proofs.lemmas.Bool.Decides.{nat_tests}
use Rattle.std.proofs.lemmas.List.{length-append}
use Rattle.mms_data.specs.declared.text.data_text.Halt.{Halt}
use Rattle.mms_data.specs.declared.text.data_text.Halt.TheVariants as halts
use Rattle.mms_data.specs.Datum.{Datum}
use Rattle.mms_data.specs.Datum.{structure, array, Data, no_data, datum, data_of, depth, deepest}
use Rattle.mms_data.specs.Text.Texts.{data_text, members_text, further_text}
use Rattle.mms_data.specs.Text.TextRead.{IsEnd, IsTextual, AreTextual, IsClosing, IsTextWithin}
use Rattle.mms_data.specs.Text.TextRead.{AreWithin, BeginsDatum, BreaksDatum, BreaksMembers, HaltsInText}
use Rattle.mms_data.specs.Text.TextRead.{begins_with, Shares, BegunDatum, BegunMembers}
use Rattle.mms_data.proofs.OfText.SameParts.{same_datum, datum_opens, Closes, closes, further_ends}
use Rattle.mms_data.proofs.OfText.SameParts.{Brackets, braces, brackets, first_octet, other_octets}

-- members, a comma behind each
abbrev pub members_before : List Datum → List ℕ
members_before [] = []
members_before (d ∷ ds) = data_text d ++ 44 ∷ members_before ds

-- members so far, a comma behind each, and what is still to be read
pub record SoFar (n close : ℕ) (octets : List ℕ) (members : List Datum) (rest : List ℕ)
    : Type 0 where
  pub spelled : octets ≡ members_before members ++ rest
  pub lawful : AreWithin n (data_of members)
  pub opened : members ≡ [] → begins_with close rest ≡ false
  pub shorter : length rest ≤ length octets

pub halts_as : (h : Halt) (P Q : ℕ → Type 0) → ((left : ℕ) → P left → Q left) → HaltsInText h P
    → HaltsInText h Q
halts_as halts.Memory P Q each k = tt
halts_as (halts.Bad left) P Q each k = each left k

pub some_depth : (d : Datum) → 0 < depth d
some_depth (structure ds) = omega arith
some_depth _ = omega arith

-- a front part of one text that is one of another, cut where both go on alike
pub split : (xs ys fs rs : List ℕ) → xs ++ ys ≡ fs ++ rs → length xs ≤ length fs
    → (gs : List ℕ) × (fs ≡ xs ++ gs) × (ys ≡ gs ++ rs)
split [] ys fs rs k h = (fs, refl, k)
split (x ∷ xs) ys [] rs k h = absurd (omega (arith, h))
split (x ∷ xs) ys (f ∷ fs) rs k h =
    let first : f ≡ x = sym (first_octet x f (xs ++ ys) (fs ++ rs) k) in
    let rest : xs ++ ys ≡ fs ++ rs = other_octets x f (xs ++ ys) (fs ++ rs) k in
    let more = split xs ys fs rs rest (omega (arith, h)) in
    (more.0, (λ i. first i ∷ more.1 i), more.2)

pub bounded : (os : List ℕ) (left : ℕ) (spelling : List ℕ) → Shares os left spelling
    → left ≤ length os
bounded os left spelling s =
    omega (arith, s.end, ap length s.parts ∙ length-append s.front s.rest)

shift : (c : ℕ) (inner : List ℕ) (left : ℕ) (spelling : List ℕ) → Shares inner left spelling
    → Shares (c ∷ inner) left (c ∷ spelling)
shift c inner left spelling s = record {
  front = c ∷ s.front;
  rest = s.rest;
  more = s.more;
  parts = ap (λ t. c ∷ t) s.parts;
  end = s.end;
  spelled = ap (λ t. c ∷ t) s.spelled;
}

-- both texts begin with this octet
pub record Opens (c : ℕ) (inner : List ℕ) (left : ℕ) (spelling : List ℕ) : Type 0 where
  pub others : List ℕ
  pub begins : spelling ≡ c ∷ others
  pub shares : Shares inner left others

opens_by : (c : ℕ) (inner : List ℕ) (l : ℕ) (spelling front rest more : List ℕ)
    → length rest ≡ l → c ∷ inner ≡ front ++ rest → spelling ≡ front ++ more
    → (l ≡ suc (length inner)) ⊎ Opens c inner l spelling
opens_by c inner l spelling [] rest more end parts spelled =
    inl (sym end ∙ ap length (sym parts))
opens_by c inner l spelling (f ∷ fs) rest more end parts spelled =
    let first : f ≡ c = sym (first_octet c f inner (fs ++ rest) parts) in
    let others : inner ≡ fs ++ rest = other_octets c f inner (fs ++ rest) parts in
    inr (record {
      others = fs ++ more;
      begins = spelled ∙ ap (λ o. o ∷ (fs ++ more)) first;
      shares = record {
        front = fs;
        rest = rest;
        more = more;
        parts = others;
        end = end;
        spelled = refl;
      };
    })

-- the front part that both share is empty, or both begin with this octet
opens : (c : ℕ) (inner : List ℕ) (l : ℕ) (spelling : List ℕ) → Shares (c ∷ inner) l spelling
    → (l ≡ suc (length inner)) ⊎ Opens c inner l spelling
opens c inner l spelling s =
    opens_by c inner l spelling s.front s.rest s.more s.end s.parts s.spelled

-- members of a datum whose text begins with an opening bracket
inner_of : (open_ close : ℕ) (of : Data → Datum) → Brackets open_ close of → (n m : ℕ)
    → m ≡ n - 1 → (d : Datum) (tail x : List ℕ) → IsTextWithin n d → data_text d ++ tail ≡ open_ ∷ x
    → (ds : Data) × AreWithin m ds × (x ≡ members_text ds ++ close ∷ tail)
inner_of open_ close of b n m less d tail x w e =
    let found = b.only d x tail w.parts e in
    let ds : Data = found.0 in
    let within : IsTextWithin n (of ds) = subst (λ (y : Datum). IsTextWithin n y) found.1 w in
    let spelled : (open_ ∷ (members_text ds ++ close ∷ [])) ++ tail ≡ open_ ∷ x =
    ap (λ t. t ++ tail) (sym (b.text_is ds) ∙ ap data_text (sym found.1)) ∙ e in
    let same : (members_text ds ++ close ∷ []) ++ tail ≡ x =
    other_octets open_ open_ _ x spelled in (
      ds,
      record {
        shallow = omega (arith, within.shallow, b.depth_is ds, less);
        parts = b.parts ds within.parts;
      },
      sym same ∙ append_assoc (members_text ds) (close ∷ []) tail,
    )

inside : (open_ close : ℕ) (of : Data → Datum) → Brackets open_ close of → (n m : ℕ)
    (inner : List ℕ) → 0 < n → m ≡ n - 1 → (left : ℕ) → BreaksMembers m close inner left
    → BreaksDatum n (open_ ∷ inner) left
inside open_ close of b n m inner some less left k = record {
  none = λ zero. absurd (omega (arith, zero, some));
  begins = λ _. record {
    value = of k.begins.members;
    lawful = record {
      shallow = omega (arith, k.begins.lawful.shallow, b.depth_is k.begins.members, some, less);
      parts = b.whole k.begins.members k.begins.lawful.parts;
    };
    shares = subst (λ (t : List ℕ). Shares (open_ ∷ inner) left t)
        (sym (b.text_is k.begins.members)) (shift open_ inner left _ k.begins.shares);
  };
  longest = λ d tail w end l s.
      elim (opens open_ inner l (data_text d ++ tail) s) [
        | inl e ↦ omega (arith, e, bounded inner left _ k.begins.shares)
        | inr o ↦
            let found = inner_of open_ close of b n m less d tail o.others w o.begins in
            k.longest found.0 tail found.1 l
            (subst (λ (t : List ℕ). Shares inner l t) found.2 o.shares)
      ];
  unspelled = λ d tail w end e.
      let found = inner_of open_ close of b n m less d tail inner w (sym e) in
      k.unspelled found.0 tail found.1 found.2;
}

-- what breaks between brackets breaks before a datum
pub inside_brace : (n m : ℕ) (os inner : List ℕ) → 0 < n → m ≡ n - 1 → os ≡ 123 ∷ inner
    → (left : ℕ) → BreaksMembers m 125 inner left → BreaksDatum n os left
inside_brace n m os inner some less opened left k =
    subst (λ (t : List ℕ). BreaksDatum n t left) (sym opened)
    (inside 123 125 structure braces n m inner some less left k)

pub inside_bracket : (n m : ℕ) (os inner : List ℕ) → 0 < n → m ≡ n - 1 → os ≡ 91 ∷ inner
    → (left : ℕ) → BreaksMembers m 93 inner left → BreaksDatum n os left
inside_bracket n m os inner some less opened left k =
    subst (λ (t : List ℕ). BreaksDatum n t left) (sym opened)
    (inside 91 93 array brackets n m inner some less left k)

-- one member more is lawful
pub within_push : (n : ℕ) (ds : List Datum) (d : Datum) → AreWithin n (data_of ds) → IsTextWithin n d
    → AreWithin n (data_of (ds ++ d ∷ []))
within_push n [] d a w =
    record { shallow = omega (arith, w.shallow); parts = (w.parts, tt) }
within_push n (e ∷ es) d a w =
    let first : depth e ≤ n = omega (arith, a.shallow) in
    let others : deepest (data_of es) ≤ n = omega (arith, a.shallow) in
    let more : AreWithin n (data_of (es ++ d ∷ [])) =
    within_push n es d (record { shallow = others; parts = a.parts.1 }) w in
    record {
      shallow = omega (arith, first, more.shallow);
      parts = (a.parts.0, more.parts);
    }

further_push : (ds : List Datum) (d : Datum)
    → further_text (data_of (ds ++ d ∷ [])) ≡ 44 ∷ (members_before ds ++ data_text d)
further_push [] d = ap (λ t. 44 ∷ t) (append-nil (data_text d))
further_push (e ∷ es) d =
    ap (λ t. 44 ∷ (data_text e ++ t)) (further_push es d)
    ∙ ap (λ t. 44 ∷ t)
    (sym (append_assoc (data_text e) (44 ∷ members_before es) (data_text d)))

-- the text of members is that of all but the last, a comma behind each, and of the last
pub members_push : (ds : List Datum) (d : Datum)
    → members_text (data_of (ds ++ d ∷ [])) ≡ members_before ds ++ data_text d
members_push [] d = append-nil (data_text d)
members_push (e ∷ es) d =
    ap (λ t. data_text e ++ t) (further_push es d)
    ∙ sym (append_assoc (data_text e) (44 ∷ members_before es) (data_text d))

before_push : (ds : List Datum) (d : Datum)
    → members_before (ds ++ d ∷ []) ≡ members_before ds ++ (data_text d ++ 44 ∷ [])
before_push [] d = refl
before_push (e ∷ es) d =
    ap (λ t. data_text e ++ 44 ∷ t) (before_push es d)
    ∙ sym (append_assoc (data_text e) (44 ∷ members_before es) (data_text d ++ 44 ∷ []))

some_pushed : (ds : List Datum) (d : Datum) → ds ++ d ∷ [] ≡ [] → ⊥
some_pushed [] d e = absurd cc
some_pushed (x ∷ xs) d e = absurd cc

pub so_far-none : (n close : ℕ) (os : List ℕ) (ds : List Datum) → ds ≡ []
    → begins_with close os ≡ false → SoFar n close os ds os
so_far-none n close os [] none open_ =
    record {
      spelled = refl;
      lawful = record { shallow = omega arith; parts = tt };
      opened = λ e. open_;
      shorter = omega arith;
    }
so_far-none n close os (d ∷ ds) none open_ = absurd cc

-- members that are left behind those that were read
record Left (n close : ℕ) (tail z : List ℕ) : Type 0 where
  pub first : Datum
  pub others : Data
  pub lawful : AreWithin n (datum first others)
  pub spelled : data_text first ++ (further_text others ++ close ∷ tail) ≡ z

-- members behind a comma
behind_comma : (n close : ℕ) → Closes close → (d : Datum) (ds : Data) → AreWithin n (datum d ds)
    → (tail z y : List ℕ) → further_text ds ++ close ∷ tail ≡ 44 ∷ y
    → ((e : Datum) (es : Data) → AreWithin n (datum e es)
    → data_text e ++ (further_text es ++ close ∷ tail) ≡ y → Left n close tail z)
    → Left n close tail z
behind_comma n close c d no_data w tail z y k each =
    absurd (c.comma (first_octet close 44 tail y k))
behind_comma n close c d (datum e es) w tail z y k each =
    each e es (record { shallow = omega (arith, w.shallow); parts = w.parts.1 })
    (sym (append_assoc (data_text e) (further_text es) (close ∷ tail))
    ∙ other_octets 44 44 _ y k)

peel : (n close : ℕ) → Closes close → (before : List Datum) → AreTextual (data_of before)
    → (d : Datum) (ds : Data) → AreWithin n (datum d ds) → (tail z : List ℕ)
    → data_text d ++ (further_text ds ++ close ∷ tail) ≡ members_before before ++ z
    → Left n close tail z
peel n close c [] t d ds w tail z k =
    record { first = d; others = ds; lawful = w; spelled = k }
peel n close c (b ∷ bs) t d ds w tail z k =
    let parts = k ∙ append_assoc (data_text b) (44 ∷ members_before bs) z in
    let same = same_datum d b (further_text ds ++ close ∷ tail) (44 ∷ (members_before bs ++ z))
    w.parts.0 t.0 (λ leaf. further_ends ds close tail c.mark) (λ leaf. refl) parts in
    behind_comma n close c d ds w tail z (members_before bs ++ z) same.1
    (λ e es v q. peel n close c bs t.1 e es v tail z q)

-- whether members are left: none, where none was read and the closing bracket comes next
members_left : (n close : ℕ) → Closes close → (before : List Datum) → AreTextual (data_of before)
    → (ds : Data) → AreWithin n ds → (tail z : List ℕ)
    → members_text ds ++ close ∷ tail ≡ members_before before ++ z
    → ((before ≡ []) × (z ≡ close ∷ tail)) ⊎ Left n close tail z
members_left n close c [] t no_data w tail z k = inl (refl, sym k)
members_left n close c (b ∷ bs) t no_data w tail z k =
    absurd (datum_opens b close tail (44 ∷ members_before bs ++ z) t.0 c.letter c.brace c.bracket
    (sym (append_assoc (data_text b) (44 ∷ members_before bs) z) ∙ sym k))
members_left n close c before t (datum d ds) w tail z k =
    inr (peel n close c before t d ds w tail z
    (sym (append_assoc (data_text d) (further_text ds) (close ∷ tail)) ∙ k))

-- what stands behind a member
abbrev GoesOn : ℕ → List ℕ → Type 0
GoesOn close rest = (t : List ℕ) × ((rest ≡ 44 ∷ t) ⊎ (rest ≡ close ∷ t))

goes_on : (close : ℕ) (ds : Data) (tail : List ℕ) → GoesOn close (further_text ds ++ close ∷ tail)
goes_on close no_data tail = (tail, inr refl)
goes_on close (datum d ds) tail = ((data_text d ++ further_text ds) ++ close ∷ tail, inl refl)

first_within : (n : ℕ) (d : Datum) (ds : Data) → AreWithin n (datum d ds) → IsTextWithin n d
first_within n d ds w = record { shallow = omega (arith, w.shallow); parts = w.parts.0 }

not_first : (c : ℕ) (os t : List ℕ) → begins_with c os ≡ false → os ≡ c ∷ t → ⊥
not_first c [] t e k = absurd cc
not_first c (x ∷ xs) t e k =
    let same : x ≡ c = first_octet x c xs t k in absurd (grind (arith, nat_tests))

-- no front part is longer, where none of what is still to be read is
longest_so_far : (n close : ℕ) (os : List ℕ) (before : List Datum) (rest : List ℕ) → Closes close
    → SoFar n close os before rest → (left : ℕ) → left ≤ length rest
    → ((d : Datum) (behind : List ℕ) → IsTextWithin n d → GoesOn close behind
    → IsEnd behind → (l : ℕ) → Shares rest l (data_text d ++ behind) → left ≤ l)
    → (ds : Data) (tail : List ℕ) → AreWithin n ds → (l : ℕ)
    → Shares os l (members_text ds ++ close ∷ tail) → left ≤ l
longest_so_far n close os before rest c s left few next ds tail w l share =
    let start : List ℕ = members_before before in
    let whole : start ++ rest ≡ share.front ++ share.rest = sym s.spelled ∙ share.parts in
    let sizes : length start + length rest ≡ length share.front + length share.rest =
    sym (length-append start rest) ∙ ap length whole ∙ length-append share.front share.rest in
    elim (cases_lt (length share.front) (length start)) [
      | inl shorter ↦ omega (arith, shorter, sizes, share.end, few)
      | inr longer ↦
          let cut = split start rest share.front share.rest whole longer in
          let spelled : members_text ds ++ close ∷ tail ≡ start ++ (cut.0 ++ share.more) =
          share.spelled ∙ ap (λ t. t ++ share.more) cut.1 ∙ append_assoc start cut.0 share.more in
          elim (members_left n close c before s.lawful.parts ds w tail (cut.0 ++ share.more)
          spelled) [
            | inl none ↦ closed_so_far close rest cut.0 share.rest share.more tail left l few
                share.end cut.2 (s.opened none.0) none.1
            | inr more ↦ next more.first (further_text more.others ++ close ∷ tail)
                (first_within n more.first more.others more.lawful)
                (goes_on close more.others tail) (further_ends more.others close tail c.mark) l
                (record {
                  front = cut.0;
                  rest = share.rest;
                  more = share.more;
                  parts = cut.2;
                  end = share.end;
                  spelled = more.spelled;
                })
          ]
    ]
  where
    closed_so_far : (close : ℕ) (rest front others more tail : List ℕ) (left l : ℕ)
        → left ≤ length rest → length others ≡ l → rest ≡ front ++ others
        → begins_with close rest ≡ false → front ++ more ≡ close ∷ tail → left ≤ l
    closed_so_far close rest [] others more tail left l few end parts open_ k =
        omega (arith, few, end, ap length parts)
    closed_so_far close rest (f ∷ fs) others more tail left l few end parts open_ k =
        let same : f ≡ close = first_octet f close (fs ++ more) tail k in
        absurd (not_first close rest (fs ++ others) open_
        (parts ∙ ap (λ o. o ∷ (fs ++ others)) same))

-- a text is none of members, where none of what is still to be read is
unspelled_so_far : (n close : ℕ) (os : List ℕ) (before : List Datum) (rest : List ℕ)
    → Closes close → SoFar n close os before rest
    → ((d : Datum) (behind : List ℕ) → IsTextWithin n d → GoesOn close behind → IsEnd behind
    → rest ≢ data_text d ++ behind)
    → (ds : Data) (tail : List ℕ) → AreWithin n ds → os ≢ members_text ds ++ close ∷ tail
unspelled_so_far n close os before rest c s next ds tail w e =
    elim (members_left n close c before s.lawful.parts ds w tail rest (sym e ∙ s.spelled)) [
      | inl none ↦ not_first close rest tail (s.opened none.0) none.1
      | inr more ↦ next more.first (further_text more.others ++ close ∷ tail)
          (first_within n more.first more.others more.lawful) (goes_on close more.others tail)
          (further_ends more.others close tail c.mark) (sym more.spelled)
    ]

-- members up to one that is begun
begun_last : (n close : ℕ) (os : List ℕ) (before : List Datum) (rest : List ℕ) (left : ℕ)
    → SoFar n close os before rest → BegunDatum n rest left → BegunMembers n close os left
begun_last n close os before rest left s b =
    let start : List ℕ = members_before before in
    record {
      members = data_of (before ++ b.value ∷ []);
      lawful = within_push n before b.value s.lawful b.lawful;
      shares = record {
        front = start ++ b.shares.front;
        rest = b.shares.rest;
        more = b.shares.more ++ close ∷ [];
        parts = s.spelled ∙ ap (λ t. start ++ t) b.shares.parts
            ∙ sym (append_assoc start b.shares.front b.shares.rest);
        end = b.shares.end;
        spelled = ap (λ t. t ++ close ∷ []) (members_push before b.value
            ∙ ap (λ t. start ++ t) b.shares.spelled
            ∙ sym (append_assoc start b.shares.front b.shares.more))
            ∙ append_assoc (start ++ b.shares.front) b.shares.more (close ∷ []);
      };
    }

none_of_no_levels : (close : ℕ) (os : List ℕ) (before : List Datum) (rest : List ℕ) (left : ℕ)
    → SoFar 0 close os before rest → left ≡ length rest → BegunMembers 0 close os left
none_of_no_levels close os [] rest left s e =
    record {
      members = no_data;
      lawful = record { shallow = omega arith; parts = tt };
      shares = record {
        front = [];
        rest = os;
        more = close ∷ [];
        parts = refl;
        end = ap length s.spelled ∙ sym e;
        spelled = refl;
      };
    }
none_of_no_levels close os (d ∷ ds) rest left s e =
    absurd (omega (arith, some_depth d, s.lawful.shallow))

begun_so_far : (n close : ℕ) (os : List ℕ) (before : List Datum) (rest : List ℕ) (left : ℕ)
    → SoFar n close os before rest → BreaksDatum n rest left → BegunMembers n close os left
begun_so_far zero close os before rest left s k =
    none_of_no_levels close os before rest left s (k.none refl)
begun_so_far (suc n) close os before rest left s k =
    begun_last (suc n) close os before rest left s (k.begins (omega arith))

pub breaks_within : (n : ℕ) (rest : List ℕ) (left : ℕ) → BreaksDatum n rest left
    → left ≤ length rest
breaks_within zero rest left k = omega (arith, k.none refl)
breaks_within (suc n) rest left k = bounded rest left _ (k.begins (omega arith)).shares

-- a text breaks in the next member
pub so_far-breaks : (n close : ℕ) (os : List ℕ) (ds : List Datum) (rest : List ℕ)
    → IsClosing close → SoFar n close os ds rest → (left : ℕ) → BreaksDatum n rest left
    → BreaksMembers n close os left
so_far-breaks n close os ds rest closing s left k =
    record {
      begins = begun_so_far n close os ds rest left s k;
      longest = longest_so_far n close os ds rest (closes close closing) s left
          (breaks_within n rest left k) (λ d behind w on end l share. k.longest d behind w end l share);
      unspelled = unspelled_so_far n close os ds rest (closes close closing) s
          (λ d behind w on end. k.unspelled d behind w end);
    }

pub so_far-within : (n close : ℕ) (os : List ℕ) (ds : List Datum) (rest : List ℕ)
    → SoFar n close os ds rest → (left : ℕ) → left ≤ length rest → left ≤ length os
so_far-within n close os ds rest s left k = omega (arith, k, s.shorter)

-- behind the next member stands the closing bracket
pub so_far-end : (n close : ℕ) (os : List ℕ) (ds : List Datum) (rest : List ℕ) (d : Datum)
    (after end : List ℕ) → SoFar n close os ds rest → BeginsDatum n rest d after
    → after ≡ close ∷ end → os ≡ members_text (data_of (ds ++ d ∷ [])) ++ close ∷ end
so_far-end n close os ds rest d after end s b e =
    s.spelled
    ∙ ap (λ t. members_before ds ++ t) (b.spelled ∙ ap (λ t. data_text d ++ t) e)
    ∙ sym (append_assoc (members_before ds) (data_text d) (close ∷ end))
    ∙ ap (λ t. t ++ close ∷ end) (sym (members_push ds d))

-- behind the next member stands a comma
pub so_far-more : (n close : ℕ) (os : List ℕ) (ds : List Datum) (rest : List ℕ) (d : Datum)
    (after more : List ℕ) → SoFar n close os ds rest → BeginsDatum n rest d after
    → after ≡ 44 ∷ more → SoFar n close os (ds ++ d ∷ []) more
so_far-more n close os ds rest d after more s b e =
    let parts : rest ≡ data_text d ++ 44 ∷ more = b.spelled ∙ ap (λ t. data_text d ++ t) e in
    let len : length rest ≡ length (data_text d) + suc (length more) =
    ap length parts ∙ length-append (data_text d) (44 ∷ more) in
    record {
      spelled = s.spelled ∙ ap (λ t. members_before ds ++ t) parts
          ∙ ap (λ t. members_before ds ++ t) (sym (append_assoc (data_text d) (44 ∷ []) more))
          ∙ sym (append_assoc (members_before ds) (data_text d ++ 44 ∷ []) more)
          ∙ ap (λ t. t ++ more) (sym (before_push ds d));
      lawful = within_push n ds d s.lawful b.lawful;
      opened = λ none. absurd (some_pushed ds d none);
      shorter = omega (arith, s.shorter, len);
    }

-- octets that begin with no comma and no closing bracket don't stand behind a member
goes_on_not : (close : ℕ) (after behind : List ℕ) → begins_with close after ≡ false
    → begins_with 44 after ≡ false → GoesOn close behind → after ≡ behind → ⊥
goes_on_not close after behind closing comma on e =
    elim on.1 [
      | inl k ↦ not_first 44 after on.0 comma (e ∙ k)
      | inr k ↦ not_first close after on.0 closing (e ∙ k)
    ]

-- octets that begin with no comma and no closing bracket begin otherwise than what stands behind a
-- member
goes_on_no_first : (close : ℕ) (after behind : List ℕ) → begins_with close after ≡ false
    → begins_with 44 after ≡ false → GoesOn close behind
    → (c : ℕ) × (t u : List ℕ) × (after ≡ c ∷ t) × (behind ≡ c ∷ u) → ⊥
goes_on_no_first close after behind closing comma on p =
    let c : ℕ = p.0 in
    elim on.1 [
      | inl k ↦ let same : c ≡ 44 = first_octet c 44 p.2 on.0 (sym p.4 ∙ k) in
          not_first 44 after p.1 comma (p.3 ∙ ap (λ o. o ∷ p.1) same)
      | inr k ↦ let same : c ≡ close = first_octet c close p.2 on.0 (sym p.4 ∙ k) in
          not_first close after p.1 closing (p.3 ∙ ap (λ o. o ∷ p.1) same)
    ]

-- a front part that goes on behind a datum goes on as what stands behind it
pub front_behind : (n : ℕ) (rest : List ℕ) (d : Datum) (after : List ℕ) → BeginsDatum n rest d after
    → (e : Datum) (behind : List ℕ) → IsTextual e → IsEnd behind → (l : ℕ)
    → Shares rest l (data_text e ++ behind) → l < length after
    → (c : ℕ) × (t u : List ℕ) × (after ≡ c ∷ t) × (behind ≡ c ∷ u)
front_behind n rest d after b e behind t end l share less =
    let whole : data_text d ++ after ≡ share.front ++ share.rest = sym b.spelled ∙ share.parts in
    let sizes : length (data_text d) + length after ≡ length share.front + length share.rest =
    sym (length-append (data_text d) after) ∙ ap length whole
    ∙ length-append share.front share.rest in
    let cut = split (data_text d) after share.front share.rest whole
    (omega (arith, sizes, share.end, less)) in
    by_cut cut.0 cut.1 cut.2
  where
    by_cut : (gs : List ℕ) → share.front ≡ data_text d ++ gs → after ≡ gs ++ share.rest
        → (c : ℕ) × (t u : List ℕ) × (after ≡ c ∷ t) × (behind ≡ c ∷ u)
    by_cut [] front rests = absurd (omega (arith, share.end, ap length rests, less))
    by_cut (g ∷ gs) front rests =
        let spelled : data_text e ++ behind ≡ data_text d ++ g ∷ (gs ++ share.more) =
        share.spelled ∙ ap (λ t. t ++ share.more) front
        ∙ append_assoc (data_text d) (g ∷ gs) share.more in
        let same = same_datum e d behind (g ∷ (gs ++ share.more)) t b.lawful.parts (λ leaf. end)
        (λ leaf. subst (λ (t : List ℕ). IsEnd t) rests (b.whole leaf)) spelled in
        (g, gs ++ share.rest, gs ++ share.more, rests, same.1)

pub begun_whole : (n : ℕ) (rest : List ℕ) (d : Datum) (after : List ℕ) → BeginsDatum n rest d after
    → BegunDatum n rest (length after)
begun_whole n rest d after b = record {
  value = d;
  lawful = b.lawful;
  shares = record {
    front = data_text d;
    rest = after;
    more = [];
    parts = b.spelled;
    end = refl;
    spelled = sym (append-nil (data_text d));
  };
}

pub begins-within : (n : ℕ) (rest : List ℕ) (d : Datum) (after : List ℕ)
    → BeginsDatum n rest d after → length after ≤ length rest
begins-within n rest d after b =
    omega (arith, ap length b.spelled ∙ length-append (data_text d) after)

pub not_longer : (a b : ℕ) → (b < a → ⊥) → a ≤ b
not_longer a b never = elim (cases_lt b a) [ inl less ↦ absurd (never less) | inr most ↦ most ]

-- nothing fits behind the next member
pub so_far-behind : (n close : ℕ) (os : List ℕ) (ds : List Datum) (rest : List ℕ) (d : Datum)
    (after : List ℕ) → IsClosing close → SoFar n close os ds rest → BeginsDatum n rest d after
    → begins_with close after ≡ false → begins_with 44 after ≡ false
    → BreaksMembers n close os (length after)
so_far-behind n close os ds rest d after closing s b closed comma =
    record {
      begins = begun_last n close os ds rest (length after) s (begun_whole n rest d after b);
      longest = longest_so_far n close os ds rest (closes close closing) s (length after)
          (begins-within n rest d after b)
          (λ e behind w on end l share. not_longer (length after) l (λ less.
          goes_on_no_first close after behind closed comma on
          (front_behind n rest d after b e behind w.parts end l share less)));
      unspelled = unspelled_so_far n close os ds rest (closes close closing) s
          (λ e behind w on end k.
          let same = same_datum d e after behind b.lawful.parts w.parts b.whole (λ leaf. end)
          (sym b.spelled ∙ k) in
          goes_on_not close after behind closed comma on same.1);
    }

pub begins-shorter : (n : ℕ) (rest : List ℕ) (d : Datum) (after more : List ℕ)
    → BeginsDatum n rest d after → after ≡ 44 ∷ more → length more < length rest
begins-shorter n rest d after more b e =
    omega (arith, ap length b.spelled ∙ length-append (data_text d) after, ap length e)
