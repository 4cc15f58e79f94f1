-- Words spell one call at most.
use Rattle.std.proofs.Common.{◌≡◌, ◌⊎◌, ℕ, true, false, List, [], ◌∷◌, length, map}
use Rattle.std.proofs.Common.{Option, Some, None, codes, decimal, refl, sym, ap, ◌∙◌, inl, inr}
use Rattle.std.proofs.Common.{arith, drop}
use Rattle.std.specs.Prelude.{IfSome}
use Rattle.std.specs.List.{All}
use Rattle.std.specs.Str.{bytes_eq}
use Rattle.std.proofs.lemmas.List.Elements.{All-head, All-tail}
use Rattle.mms_data.specs.Datum.{Datum}
use Rattle.mms_data.specs.ObjectName.{ObjectName, IsName, IsIdentifier}
use Rattle.mms_data.specs.Text.Texts.{name_text, data_text}
use Rattle.mms_data.specs.Text.TextRead.{HasText}
use Rattle.tase_views.specs.declared.call.CallKind.{CallKind}
use Rattle.tase_views.specs.declared.call.CallKind.TheVariants.{Identify, Read, ReadSet, Write}
use Rattle.tase_views.specs.declared.call.CallKind.TheVariants.{WriteSet, NameList, TypeOf, Define}
use Rattle.tase_views.specs.declared.call.CallKind.TheVariants.{MembersOf, Delete, DeleteScope, Odd}
use Rattle.tase_views.specs.Calls.{IsCall}
use Rattle.texts.specs.Events.CallWords.{assigned_words, after_words}
use Rattle.texts.specs.Events.CallWords.{HasWords, SpellsCall}
use Rattle.texts.proofs.OfEvents.WordsRead.{same_name, same_assignment, same_class, same_scope}
use Rattle.texts.proofs.OfEvents.WordsRead.{same_after}
use Rattle.mms_data.proofs.OfText.TextBreaks.{one_datum}
use Rattle.texts.proofs.OfEvents.Behind.{verb_of, others_of, call_words-are, spells-verb}
use Rattle.texts.proofs.OfEvents.Behind.{one-is, five-is}
use Rattle.texts.specs.declared.events.reading.verbs.Verb.{Verb}
use Rattle.texts.specs.declared.events.reading.verbs.Verb.TheVariants as verbs

abbrev first_word : List (List ℕ) → List ℕ
first_word [] = []
first_word (word ∷ words) = word

same_names : (a b : List ObjectName) → All IsName a → All IsName b
    → map name_text a ≡ map name_text b → a ≡ b
same_names [] [] h k e = refl
same_names [] (y ∷ b) h k e = absurd cc
same_names (x ∷ a) [] h k e = absurd cc
same_names (x ∷ a) (y ∷ b) h k e =
    let first = same_name x y (All-head IsName x a h) (All-head IsName y b k) (ap first_word e) in
    let others = same_names a b (All-tail IsName x a h) (All-tail IsName y b k) (ap (drop 1) e) in
    λ i. first i ∷ others i

same_data : (a b : List Datum) → All HasText a → All HasText b → map data_text a ≡ map data_text b
    → a ≡ b
same_data [] [] h k e = refl
same_data [] (y ∷ b) h k e = absurd cc
same_data (x ∷ a) [] h k e = absurd cc
same_data (x ∷ a) (y ∷ b) h k e =
    let t = All-head HasText x a h in
    let u = All-head HasText y b k in
    let first = one_datum x y t.parts u.parts (ap first_word e) in
    let others = same_data a b (All-tail HasText x a h) (All-tail HasText y b k) (ap (drop 1) e) in
    λ i. first i ∷ others i

same_assigned : (a b : List ObjectName) (x y : List Datum) → length x ≡ length a
    → length y ≡ length b → All IsName a → All IsName b → All HasText x → All HasText y
    → assigned_words a x ≡ assigned_words b y → (a ≡ b) × (x ≡ y)
same_assigned [] [] [] [] m n h k t u e = (refl, refl)
same_assigned [] b (v ∷ x) y m n h k t u e = absurd (omega (arith, m))
same_assigned a [] x (w ∷ y) m n h k t u e = absurd (omega (arith, n))
same_assigned [] (d ∷ b) x [] m n h k t u e = absurd (omega (arith, n))
same_assigned (c ∷ a) [] [] y m n h k t u e = absurd (omega (arith, m))
same_assigned [] (d ∷ b) [] (w ∷ y) m n h k t u e = absurd cc
same_assigned (c ∷ a) [] (v ∷ x) [] m n h k t u e = absurd cc
same_assigned (c ∷ a) (d ∷ b) [] y m n h k t u e = absurd (omega (arith, m))
same_assigned (c ∷ a) (d ∷ b) (v ∷ x) [] m n h k t u e = absurd (omega (arith, n))
same_assigned (c ∷ a) (d ∷ b) (v ∷ x) (w ∷ y) m n h k t u e =
    let first = same_assignment c d v w (All-head IsName c a h) (All-head IsName d b k)
    (All-head HasText v x t) (All-head HasText w y u) (ap first_word e) in
    let others = same_assigned a b x y (omega (arith, m)) (omega (arith, n)) (All-tail IsName c a h)
    (All-tail IsName d b k) (All-tail HasText v x t) (All-tail HasText w y u) (ap (drop 1) e) in
    ((λ i. first.0 i ∷ others.0 i), (λ i. first.1 i ∷ others.1 i))

same_afters : (a b : Option (List ℕ)) → IfSome a IsIdentifier → IfSome b IsIdentifier
    → after_words a ≡ after_words b → a ≡ b
same_afters None None h k e = refl
same_afters None (Some b) h k e = absurd cc
same_afters (Some a) None h k e = absurd cc
same_afters (Some a) (Some b) h k e = ap Some (same_after a b h k (ap first_word e))

one_or_five : decimal 1 ≡ decimal 5 → ⊥
one_or_five e =
    let same : true ≡ false = ap (λ t. bytes_eq t (codes "1")) (sym one-is ∙ e ∙ five-is) in
    absurd cc

same_kinds : (a b : ℕ) → (a ≡ 1) ⊎ (a ≡ 5) → (b ≡ 1) ⊎ (b ≡ 5) → decimal a ≡ decimal b → a ≡ b
same_kinds a b (inl h) (inl k) e = h ∙ sym k
same_kinds a b (inl h) (inr k) e = absurd (one_or_five (sym (ap decimal h) ∙ e ∙ ap decimal k))
same_kinds a b (inr h) (inl k) e = absurd (one_or_five (sym (ap decimal k) ∙ sym e ∙ ap decimal h))
same_kinds a b (inr h) (inr k) e = h ∙ sym k

-- a number for each kind of call
abbrev kind_number : CallKind → ℕ
kind_number Identify = 0
kind_number (Read names echo) = 1
kind_number (Write names values) = 2
kind_number (NameList class scope after) = 3
kind_number (Odd kind code) = 4
kind_number (ReadSet set echo) = 5
kind_number (WriteSet set values) = 6
kind_number (Define set members) = 7
kind_number (MembersOf set) = 8
kind_number (Delete sets) = 9
kind_number (DeleteScope scope) = 10
kind_number (TypeOf name) = 11

abbrev verb_number : Verb → ℕ
verb_number verbs.Identify = 0
verb_number verbs.Read = 1
verb_number verbs.ReadEcho = 1
verb_number verbs.Write = 2
verb_number verbs.NameList = 3
verb_number verbs.Odd = 4
verb_number verbs.ReadSet = 5
verb_number verbs.ReadSetEcho = 5
verb_number verbs.WriteSet = 6
verb_number verbs.Define = 7
verb_number verbs.MembersOf = 8
verb_number verbs.Delete = 9
verb_number verbs.DeleteScope = 10
verb_number verbs.TypeOf = 11

number-is : (call : CallKind) → verb_number (verb_of call) ≡ kind_number call
number-is Identify = refl
number-is (Read names true) = refl
number-is (Read names false) = refl
number-is (Write names values) = refl
number-is (NameList class scope after) = refl
number-is (Odd kind code) = refl
number-is (ReadSet set true) = refl
number-is (ReadSet set false) = refl
number-is (WriteSet set values) = refl
number-is (Define set members) = refl
number-is (MembersOf set) = refl
number-is (Delete sets) = refl
number-is (DeleteScope scope) = refl
number-is (TypeOf name) = refl

same_others : (a b : CallKind) → kind_number a ≡ kind_number b → verb_of a ≡ verb_of b
    → others_of a ≡ others_of b → IsCall a
    → HasWords a → IsCall b → HasWords b → a ≡ b
same_others Identify Identify r v e h t k u = refl
same_others (Read x true) (Read y true) r v e h t k u =
    ap (λ n. Read n true) (same_names x y t u e)
same_others (Read x false) (Read y false) r v e h t k u =
    ap (λ n. Read n false) (same_names x y t u e)
same_others (Read x true) (Read y false) r v e h t k u = absurd cc
same_others (Read x false) (Read y true) r v e h t k u = absurd cc
same_others (Write a x) (Write b y) r v e h t k u =
    let s = same_assigned a b x y h.1 k.1 t.0 u.0 t.1 u.1 e in λ i. Write (s.0 i) (s.1 i)
same_others (NameList c s a) (NameList d q b) r v e h t k u =
    let class = same_class c d t u (ap first_word e) in
    let scope = same_scope s q h.0 k.0 (ap (λ w. first_word (drop 1 w)) e) in
    let after = same_afters a b h.1 k.1 (ap (drop 2) e) in
    λ i. NameList (class i) (scope i) (after i)
same_others (Odd c x) (Odd d y) r v e h t k u =
    let kind = same_kinds c d h.0 k.0 (ap first_word e) in
    let code : x ≡ y = h.1 ∙ sym k.1 in
    λ i. Odd (kind i) (code i)
same_others (ReadSet x true) (ReadSet y true) r v e h t k u =
    ap (λ n. ReadSet n true) (same_name x y t u (ap first_word e))
same_others (ReadSet x false) (ReadSet y false) r v e h t k u =
    ap (λ n. ReadSet n false) (same_name x y t u (ap first_word e))
same_others (ReadSet x true) (ReadSet y false) r v e h t k u = absurd cc
same_others (ReadSet x false) (ReadSet y true) r v e h t k u = absurd cc
same_others (WriteSet a x) (WriteSet b y) r v e h t k u =
    let set = same_name a b t.0 u.0 (ap first_word e) in
    let values = same_data x y t.1 u.1 (ap (drop 1) e) in
    λ i. WriteSet (set i) (values i)
same_others (Define a x) (Define b y) r v e h t k u =
    let set = same_name a b t.0 u.0 (ap first_word e) in
    let members = same_names x y t.1 u.1 (ap (drop 1) e) in
    λ i. Define (set i) (members i)
same_others (MembersOf a) (MembersOf b) r v e h t k u =
    ap MembersOf (same_name a b t u (ap first_word e))
same_others (TypeOf a) (TypeOf b) r v e h t k u =
    ap TypeOf (same_name a b t u (ap first_word e))
same_others (Delete x) (Delete y) r v e h t k u = ap Delete (same_names x y t u e)
same_others (DeleteScope a) (DeleteScope b) r v e h t k u =
    ap DeleteScope (same_class a b t u (ap first_word e))
same_others a b r v e h t k u = absurd cc

-- words spell one call at most
pub one_call : (words : List (List ℕ)) (a b : CallKind) → SpellsCall words a → SpellsCall words b
    → a ≡ b
one_call words a b x y =
    let s = spells-verb (verb_of a) (others_of a) b (record {
      spelled = sym (call_words-are a) ∙ sym x.spelled ∙ y.spelled;
      lawful = y.lawful;
      textual = y.textual;
    }) in
    same_others a b (sym (number-is a) ∙ ap verb_number s.0 ∙ number-is b) s.0 s.1 x.lawful
    x.textual y.lawful y.textual
