-- Each text is that of a datum or breaks.
use Rattle.std.proofs.Common.{◌≡◌, ◌⊎◌, ℕ, zero, suc, ◌+◌, ◌-◌, ◌<◌, ◌==◌, Bool, true}
use Rattle.std.proofs.Common.{false, List, [], ◌∷◌, ◌++◌, length, Option, Some, None, refl, sym, ap}
use Rattle.std.proofs.Common.{◌∙◌, inl, inr, append_assoc, append-nil, arith, option_map, subst}
use Rattle.std.specs.Option.{option_and_then}
use Rattle.std.proofs.lemmas.Bool.Decides.{nat_tests}
use Rattle.std.proofs.lemmas.List.{length-append, take-append-drop}
use Rattle.std.proofs.lemmas.Option.{none-some, same_Some}
use Rattle.mms_data.specs.declared.data.octets.TheConstants.{MOST_DEPTH}
use Rattle.mms_data.specs.Datum.{Datum, structure, array, Data, data_of}
use Rattle.mms_data.specs.Text.Texts.{data_text, members_text}
use Rattle.mms_data.specs.Text.WordValue.{mark_in, up_to, from, word_of, after_word, word_value}
use Rattle.mms_data.specs.Text.WordFront.{word_front}
use Rattle.mms_data.specs.Text.DatumIn.{DatumAndRest, MembersAndRest, member_first, leading_members}
use Rattle.mms_data.specs.Text.DatumIn.{some_leading_members, leading_datum, whole_datum, datum_in}
use Rattle.mms_data.specs.Text.TextRead.{HasText, IsTextWithin, AreWithin, BeginsDatum, BreaksDatum}
use Rattle.mms_data.specs.Text.TextRead.{BreaksMembers, begins_with, IsClosing, BreaksAt}
use Rattle.mms_data.specs.Text.TextRead.{HasOneTextReading}
use Rattle.mms_data.proofs.OfText.SameParts.{Brackets, braces, brackets, same_datum}
use Rattle.mms_data.proofs.OfText.TextLevels.{SoFar, so_far-none, so_far-breaks, so_far-end, so_far-more}
use Rattle.mms_data.proofs.OfText.TextLevels.{so_far-behind, inside_brace, inside_bracket, begins-shorter}
use Rattle.mms_data.proofs.OfText.TextLevels.{within_push, breaks_within}
use Rattle.mms_data.proofs.OfText.WordText.{word_begins}
use Rattle.mms_data.proofs.OfText.WordKinds.{front_within}
use Rattle.mms_data.proofs.OfText.TextBreaks.{after_word_ends, word_breaks, no_levels, datum_breaks}
use Rattle.mms_data.proofs.OfText.TextBreaks.{after_breaks, one_datum, one_place}

-- a text begins with a datum of at most so many levels
record Begun (n : ℕ) (os : List ℕ) : Type 0 where
  pub value : Datum
  pub rest : List ℕ
  pub begins : BeginsDatum n os value rest
  pub read : leading_datum n os ≡ Some (value, rest)

-- or it breaks
record Broken (n : ℕ) (os : List ℕ) : Type 0 where
  pub left : ℕ
  pub breaks : BreaksDatum n os left
  pub unread : leading_datum n os ≡ None

-- a text begins with members and a closing bracket
record BegunAll (n close : ℕ) (os : List ℕ) (answer : Option MembersAndRest) : Type 0 where
  pub members : List Datum
  pub rest : List ℕ
  pub lawful : AreWithin n (data_of members)
  pub spelled : os ≡ members_text (data_of members) ++ close ∷ rest
  pub read : answer ≡ Some (members, rest)

record BrokenAll (n close : ℕ) (os : List ℕ) (answer : Option MembersAndRest) : Type 0 where
  pub left : ℕ
  pub breaks : BreaksMembers n close os left
  pub unread : answer ≡ None

-- a text begins with members, and that is what is read, or it breaks, and nothing is
abbrev Members : ℕ → ℕ → List ℕ → Option MembersAndRest → Type 0
Members n close os answer = BegunAll n close os answer ⊎ BrokenAll n close os answer

-- an octet first, and others
abbrev First : ℕ → List ℕ → Type 0
First c os = (rest : List ℕ) × (os ≡ c ∷ rest) × (begins_with c os ≡ true)

first_or : (c : ℕ) (os : List ℕ) → First c os ⊎ (begins_with c os ≡ false)
first_or c [] = inr refl
first_or c (f ∷ fs) = by_test (f == c) refl
  where
    by_test : (b : Bool) → (f == c) ≡ b → First c (f ∷ fs) ⊎ ((f == c) ≡ false)
    by_test true e =
        let same : f ≡ c = grind (arith, nat_tests) in inl (fs, ap (λ o. o ∷ fs) same, e)
    by_test false e = inr e

-- members that were read before, and those that are read
abbrev behind_those : List Datum → Option MembersAndRest → Option MembersAndRest
behind_those before read = option_map (λ m. (before ++ m.0, m.1)) read

behind_none : (read : Option MembersAndRest) → behind_those [] read ≡ read
behind_none None = refl
behind_none (Some m) = refl

behind_push : (before : List Datum) (d : Datum) (read : Option MembersAndRest)
    → behind_those (before ++ d ∷ []) read ≡ behind_those before (option_map (member_first d) read)
behind_push before d None = refl
behind_push before d (Some m) = ap (λ ds. Some (ds, m.1)) (append_assoc before (d ∷ []) m.0)

-- members one after another
members_from : (fuel n close : ℕ) (os : List ℕ) → IsClosing close
    → ((t : List ℕ) → Begun n t ⊎ Broken n t) → (before : List Datum) (rest : List ℕ)
    → length rest < fuel → SoFar n close os before rest
    → Members n close os
    (behind_those before (some_leading_members (leading_datum n) close fuel rest))
members_from zero n close os closing each before rest few s = absurd (omega (arith, few))
members_from (suc fuel) n close os closing each before rest few s =
    elim (each rest) [
      | inr k ↦ inr (record {
        left = k.left;
        breaks = so_far-breaks n close os before rest closing s k.left k.breaks;
        unread = rw k.unread refl;
      })
      | inl b ↦ elim (first_or close b.rest) [
        | inl end ↦ inl (record {
          members = before ++ b.value ∷ [];
          rest = end.0;
          lawful = within_push n before b.value s.lawful b.begins.lawful;
          spelled = so_far-end n close os before rest b.value b.rest end.0 s b.begins end.1;
          read = rw (b.read, end.2, end.1) refl;
        })
        | inr closed ↦ elim (first_or 44 b.rest) [
          | inl more ↦
              let answer : Option MembersAndRest =
              some_leading_members (leading_datum n) close fuel more.0 in
              let same : behind_those (before ++ b.value ∷ []) answer
              ≡ behind_those before (some_leading_members (leading_datum n) close (suc fuel) rest) =
              rw (b.read, closed, more.2, more.1) (behind_push before b.value answer) in
              subst (Members n close os) same
              (members_from fuel n close os closing each (before ++ b.value ∷ []) more.0
              (omega (
                arith,
                few,
                begins-shorter n rest b.value b.rest more.0 b.begins more.1,
              ))
              (so_far-more n close os before rest b.value b.rest more.0 s b.begins more.1))
          | inr comma ↦ inr (record {
            left = length b.rest;
            breaks = so_far-behind n close os before rest b.value b.rest closing s b.begins
                closed comma;
            unread = rw (b.read, closed, comma) refl;
          })
        ]
      ]
    ]

members_or : (n close : ℕ) (os : List ℕ) → IsClosing close
    → ((t : List ℕ) → Begun n t ⊎ Broken n t)
    → Members n close os (leading_members (leading_datum n) close os)
members_or n close os closing each =
    elim (first_or close os) [
      | inl end ↦ inl (record {
        members = [];
        rest = end.0;
        lawful = record { shallow = omega arith; parts = tt };
        spelled = end.1;
        read = rw (end.2, end.1) refl;
      })
      | inr opened ↦
          let answer : Option MembersAndRest =
          some_leading_members (leading_datum n) close (suc (length os)) os in
          let same : behind_those [] answer ≡ leading_members (leading_datum n) close os =
          behind_none answer ∙ sym (rw opened refl) in
          subst (Members n close os) same
          (members_from (suc (length os)) n close os closing each [] os (omega arith)
          (so_far-none n close os [] refl opened))
    ]

parts_by : (place : Option ℕ) (os : List ℕ) → os ≡ up_to place os ++ from place os
parts_by None os = sym (append-nil os)
parts_by (Some i) os = sym (take-append-drop i os)

first_word : (n : ℕ) (os : List ℕ) → begins_with 123 os ≡ false → begins_with 91 os ≡ false
    → (o : Option Datum) → word_value (word_of os) ≡ o → Begun (suc n) os ⊎ Broken (suc n) os
first_word n os brace bracket (Some d) e = inl (record {
  value = d;
  rest = after_word os;
  begins = word_begins (suc n) os (word_of os) (after_word os) d (λ k. omega (arith, k))
      (parts_by (mark_in os) os) (after_word_ends os) e;
  read = rw (brace, bracket, e) refl;
})
first_word n os brace bracket None e =
    let both : os ≡ word_of os ++ after_word os = parts_by (mark_in os) os in
    let left : ℕ = length os - word_front (word_of os) in
    let front : left + word_front (word_of os) ≡ length os =
    omega (
      arith,
      front_within (word_of os),
      ap length both ∙ length-append (word_of os) (after_word os),
    ) in
    inr (record {
      left = left;
      breaks = word_breaks (suc n) os left (λ k. omega (arith, k)) (record {
        brace = brace;
        bracket = bracket;
        both = both;
        refused = e;
        front = front;
      });
      unread = rw (brace, bracket, e) refl;
    })

closed_datum : (n open_ close : ℕ) (of : Data → Datum) (os inner : List ℕ)
    → Brackets open_ close of → os ≡ open_ ∷ inner
    → (m : BegunAll n close inner (leading_members (leading_datum n) close inner))
    → leading_datum (suc n) os ≡ Some (of (data_of m.members), m.rest) → Begun (suc n) os
closed_datum n open_ close of os inner b opened m read = record {
  value = of (data_of m.members);
  rest = m.rest;
  begins = record {
    spelled = opened
        ∙ ap (λ t. open_ ∷ t) (m.spelled ∙ sym (append_assoc (members_text (data_of m.members))
        (close ∷ []) m.rest))
        ∙ ap (λ t. t ++ m.rest) (sym (b.text_is (data_of m.members)));
    whole = λ leaf. absurd (b.branch (data_of m.members) leaf);
    lawful = record {
      shallow = omega (arith, b.depth_is (data_of m.members), m.lawful.shallow);
      parts = b.whole (data_of m.members) m.lawful.parts;
    };
  };
  read = read;
}

datum_or : (n : ℕ) (os : List ℕ) → Begun n os ⊎ Broken n os
datum_or zero os =
    inr (record { left = length os; breaks = no_levels 0 os refl; unread = refl })
datum_or (suc n) os =
    let one : n ≡ suc n - 1 = omega arith in
    elim (first_or 123 os) [
      | inl inner ↦ elim (members_or n 125 inner.0 (inr refl) (λ t. datum_or n t)) [
        | inl m ↦ inl (closed_datum n 123 125 structure os inner.0 braces inner.1 m
            (rw (inner.2, inner.1, m.read) refl))
        | inr k ↦ inr (record {
          left = k.left;
          breaks = inside_brace (suc n) n os inner.0 (omega arith) one inner.1 k.left k.breaks;
          unread = rw (inner.2, inner.1, k.unread) refl;
        })
      ]
      | inr brace ↦ elim (first_or 91 os) [
        | inl inner ↦ elim (members_or n 93 inner.0 (inl refl) (λ t. datum_or n t)) [
          | inl m ↦ inl (closed_datum n 91 93 array os inner.0 brackets inner.1 m
              (rw (brace, inner.2, inner.1, m.read) refl))
          | inr k ↦ inr (record {
            left = k.left;
            breaks = inside_bracket (suc n) n os inner.0 (omega arith) one inner.1 k.left
                k.breaks;
            unread = rw (brace, inner.2, inner.1, k.unread) refl;
          })
        ]
        | inr bracket ↦ first_word n os brace bracket (word_value (word_of os)) refl
      ]
    ]

-- a text that breaks has one place
broken_reading : (os : List ℕ) (place : ℕ) → BreaksAt os place → HasOneTextReading os
broken_reading os place k =
    inr (k.unspelled, (place, k, λ q b. one_place os q place b k))

whole_reading : (os : List ℕ) (d : Datum) (rest : List ℕ) → BeginsDatum MOST_DEPTH os d rest
    → HasOneTextReading os
whole_reading os d [] b =
    let spelled : os ≡ data_text d = b.spelled ∙ append-nil (data_text d) in
    inl (
      (d, (b.lawful, spelled), λ e h. one_datum e d h.0.parts b.lawful.parts (sym h.1 ∙ spelled)),
      λ place k. k.unspelled d b.lawful spelled,
    )
whole_reading os d (c ∷ cs) b =
    let place : ℕ = length os - length (c ∷ cs) in
    let size : length os ≡ length (data_text d) + length (c ∷ cs) =
    ap length b.spelled ∙ length-append (data_text d) (c ∷ cs) in
    broken_reading os place (after_breaks os d (c ∷ cs) b (λ e. absurd cc) place
    (omega (arith, size)))

-- each text has one reading
pub one_text_reading : (os : List ℕ) → HasOneTextReading os
one_text_reading os =
    elim (datum_or MOST_DEPTH os) [
      | inl b ↦ whole_reading os b.value b.rest b.begins
      | inr k ↦ broken_reading os (length os - k.left) (datum_breaks os k.left k.breaks
          (length os - k.left) (omega (arith, breaks_within MOST_DEPTH os k.left k.breaks)))
    ]

-- what is read, where nothing stands behind it
abbrev whole_of : Option DatumAndRest → Option Datum
whole_of read = option_and_then (λ first. whole_datum first.0 first.1) read

whole-found : (n : ℕ) (text : List ℕ) (d e : Datum) (rest : List ℕ) → BeginsDatum n text d rest
    → whole_datum d rest ≡ Some e → IsTextWithin n e × (text ≡ data_text e)
whole-found n text d e [] b k =
    subst (λ x. IsTextWithin n x × (text ≡ data_text x)) (same_Some d e k)
    (b.lawful, b.spelled ∙ append-nil (data_text d))
whole-found n text d e (c ∷ cs) b k = absurd (none-some e k)

read-found : (n : ℕ) (text : List ℕ) (d : Datum) → whole_of (leading_datum n text) ≡ Some d
    → IsTextWithin n d × (text ≡ data_text d)
read-found n text d e =
    elim (datum_or n text) [
      | inl b ↦ whole-found n text b.value d b.rest b.begins (rw b.read at e)
      | inr k ↦ absurd (none-some d (rw k.unread at e))
    ]

read-text : (n : ℕ) (d : Datum) → IsTextWithin n d
    → whole_of (leading_datum n (data_text d)) ≡ Some d
read-text n d h =
    let same : data_text d ++ [] ≡ data_text d = append-nil (data_text d) in
    elim (datum_or n (data_text d)) [
      | inl b ↦
          let one = same_datum d b.value [] b.rest h.parts b.begins.lawful.parts (λ leaf. tt)
          b.begins.whole (same ∙ b.begins.spelled) in
          rw (b.read, ← one.0, ← one.1) refl
      | inr k ↦ absurd (k.breaks.unspelled d [] h tt (sym same))
    ]

-- the datum that is found in a text spells it
pub datum_in-found : (text : List ℕ) (d : Datum) → datum_in text ≡ Some d
    → HasText d × (text ≡ data_text d)
unfolding datum_in
datum_in-found text d e = read-found MOST_DEPTH text d e

-- a datum that has a text is found in it
pub datum_in-text : (d : Datum) → HasText d → datum_in (data_text d) ≡ Some d
unfolding datum_in
datum_in-text d h = read-text MOST_DEPTH d h
