-- The call that words spell is the one that is read, and no other.
use Rattle.std.proofs.Common.{◌≡◌, ◌⊎◌, inl, inr, decimal, ℕ, ℤ, ◌<◌, Bool, true, false, List, []}
use Rattle.std.proofs.Common.{◌∷◌, length}
use Rattle.std.proofs.Common.{map, Option, Some, None, option_map, refl, sym, ap, ◌∙◌, subst, arith}
use Rattle.std.proofs.Common.{codes}
use Rattle.std.specs.Prelude.{IfSome}
use Rattle.std.specs.Fmt.{signed_decimal}
use Rattle.std.specs.Int.{w64}
use Rattle.std.specs.Int.RustNames.{FitsSigned}
use Rattle.std.specs.List.{All}
use Rattle.std.specs.Option.{option_and_then}
use Rattle.std.specs.Str.{bytes_eq}
use Rattle.std.proofs.lemmas.Slice.Eq.{bytes_eq-Decides}
use Rattle.std.proofs.lemmas.List.Elements.{All-cons, All-head, All-tail}
use Rattle.std.proofs.lemmas.Option.{option_and_then_some, none-some, same_Some}
use Rattle.plain_text.specs.Words.{each_in}
use Rattle.plain_text.proofs.EscapedText.{option_map-found}
use Rattle.mms_data.specs.Datum.{Datum}
use Rattle.mms_data.specs.Lawful.{IsLawful}
use Rattle.mms_data.specs.ObjectName.{ObjectName, IsIdentifier, IsScope, IsName}
use Rattle.mms_data.specs.declared.object_name.Scope.{Scope}
use Rattle.mms_data.specs.Text.NameIn.{name_in}
use Rattle.mms_data.specs.Text.Texts.{scope_text, name_text}
use Rattle.mms_data.specs.Text.TextRead.{HasText}
use Rattle.mms_data.proofs.OfText.ReadName.{name_in-found, name_in-name_text}
use Rattle.mms_data.proofs.OfText.TextBreaks as breaks
use Rattle.mms_data.proofs.OfText.WordText.{chosen}
use Rattle.tase_views.specs.declared.call.CallKind.{CallKind}
use Rattle.tase_views.specs.declared.call.CallKind.TheVariants.{Identify, Read, ReadSet, Write}
use Rattle.tase_views.specs.declared.call.CallKind.TheVariants.{WriteSet, NameList, TypeOf, Define}
use Rattle.tase_views.specs.declared.call.CallKind.TheVariants.{MembersOf, Delete, DeleteScope, Odd}
use Rattle.tase_views.specs.EventTexts.{read_verb}
use Rattle.texts.proofs.OfEvents.Behind.{one-is, five-is}
use Rattle.texts.specs.Events.CallWords.{assigned_words, after_words, SpellsCall, AreCallWords}
use Rattle.texts.specs.Journal.CallIn.{assigned_in, some_in, read_in, write_in, signed_64_in}
use Rattle.texts.specs.Journal.CallIn.{scope_of_word, after_in, names_call_in, identify_in, odd_in}
use Rattle.texts.specs.Journal.CallIn.{odd_kind}
use Rattle.texts.specs.Journal.CallIn.{call_in}
use Rattle.texts.proofs.OfJournal.CallParts.{Assigned, IsAssigned, word_of_pair, assigned_in-found}
use Rattle.texts.proofs.OfJournal.CallParts.{assigned_in-word, class_in-found, class_in-text}
use Rattle.texts.proofs.OfJournal.CallParts.{scope_of_word-found, scope_of_word-text, after_in-found}
use Rattle.texts.proofs.OfJournal.CallParts.{after_in-words, each_in-found, each_in-words}
use Rattle.texts.proofs.OfJournal.CallParts.{if_some-found, if_some-whole}
use Rattle.texts.proofs.OfJournal.SetCalls.{verb_is, type_in-found, set_call_in-found}
use Rattle.texts.proofs.OfJournal.SetCalls.{read_set_in-words, type_in-words}
use Rattle.texts.proofs.OfJournal.SetCalls.{members_in-words, delete_in-words, define_in-words}
use Rattle.texts.proofs.OfJournal.SetCalls.{write_set_in-words, delete_scope_in-words}

read_in-found : (echo : Bool) (words : List (List ℕ)) (call : CallKind)
    → read_in echo words ≡ Some call → SpellsCall (read_verb echo ∷ words) call
read_in-found echo words call e =
    option_map-found (λ names. Read names echo) (some_in name_in words) call e
    (λ names is whole.
    let some = if_some-found (each_in name_in words) names is in
    let found = each_in-found name_in name_text IsName name_in-found words names some.0 in
    subst (λ (c : CallKind). SpellsCall (read_verb echo ∷ words) c) (sym whole) (record {
      spelled = ap (λ ws. read_verb echo ∷ ws) found.0;
      lawful = some.1;
      textual = found.1;
    }))

read_in-words : (echo : Bool) (names : List ObjectName) → 0 < length names → All IsName names
    → read_in echo (map name_text names) ≡ Some (Read names echo)
read_in-words echo names some all =
    rw (
      each_in-words name_in name_text IsName name_in-name_text names all,
      if_some-whole names some,
    ) refl

abbrev names_of : List Assigned → List ObjectName
names_of pairs = map (λ p. p.0) pairs

abbrev values_of : List Assigned → List Datum
values_of pairs = map (λ p. p.1) pairs

words_of-pairs : (pairs : List Assigned)
    → map word_of_pair pairs ≡ assigned_words (names_of pairs) (values_of pairs)
words_of-pairs [] = refl
words_of-pairs (p ∷ pairs) = ap (λ ws. word_of_pair p ∷ ws) (words_of-pairs pairs)

-- what each pair keeps, each name and each value keep
record AreAssigned (pairs : List Assigned) : Type 0 where
  pub names : All IsName (names_of pairs)
  pub values : All HasText (values_of pairs)
  pub lawful : All IsLawful (values_of pairs)
  pub many : length (values_of pairs) ≡ length (names_of pairs)
  pub counted : length (names_of pairs) ≡ length pairs

assigned_parts : (pairs : List Assigned) → All IsAssigned pairs → AreAssigned pairs
assigned_parts [] all = record {
  names = λ k d h. absurd (omega arith);
  values = λ k d h. absurd (omega arith);
  lawful = λ k d h. absurd (omega arith);
  many = refl;
  counted = refl;
}
assigned_parts (p ∷ pairs) all =
    let head = All-head IsAssigned p pairs all in
    let tail = assigned_parts pairs (All-tail IsAssigned p pairs all) in
    record {
      names = All-cons IsName p.0 (names_of pairs) head.0 tail.names;
      values = All-cons HasText p.1 (values_of pairs) head.1 tail.values;
      lawful = All-cons IsLawful p.1 (values_of pairs) (breaks.lawful p.1 head.1) tail.lawful;
      many = omega (arith, tail.many);
      counted = omega (arith, tail.counted);
    }

write_in-found : (words : List (List ℕ)) (call : CallKind) → write_in words ≡ Some call
    → SpellsCall (codes "write" ∷ words) call
write_in-found words call e =
    option_map-found (λ pairs. Write (names_of pairs) (values_of pairs))
    (some_in assigned_in words) call e
    (λ pairs is whole.
    let some = if_some-found (each_in assigned_in words) pairs is in
    let found = each_in-found assigned_in word_of_pair IsAssigned assigned_in-found words pairs
    some.0 in
    let parts = assigned_parts pairs found.1 in
    subst (λ (c : CallKind). SpellsCall (codes "write" ∷ words) c) (sym whole) (record {
      spelled = ap (λ ws. codes "write" ∷ ws) (found.0 ∙ words_of-pairs pairs);
      lawful = (omega (arith, some.1, parts.counted), parts.many, parts.lawful);
      textual = (parts.names, parts.values);
    }))

abbrev paired : List ObjectName → List Datum → List Assigned
paired [] values = []
paired (name ∷ names) [] = []
paired (name ∷ names) (value ∷ values) = (name, value) ∷ paired names values

-- names and values, one of each
record ArePaired (names : List ObjectName) (values : List Datum) : Type 0 where
  pub words : assigned_words names values ≡ map word_of_pair (paired names values)
  pub firsts : names_of (paired names values) ≡ names
  pub seconds : values_of (paired names values) ≡ values
  pub all : All IsAssigned (paired names values)
  pub many : length (paired names values) ≡ length names

pair_up : (names : List ObjectName) (values : List Datum) → length values ≡ length names
    → All IsName names → All HasText values → ArePaired names values
pair_up [] [] many named textual = record {
  words = refl;
  firsts = refl;
  seconds = refl;
  all = λ k d h. absurd (omega arith);
  many = refl;
}
pair_up [] (value ∷ values) many named textual = absurd (omega (arith, many))
pair_up (name ∷ names) [] many named textual = absurd (omega (arith, many))
pair_up (name ∷ names) (value ∷ values) many named textual =
    let rest = pair_up names values (omega (arith, many)) (All-tail IsName name names named)
    (All-tail HasText value values textual) in
    record {
      words = ap (λ ws. word_of_pair (name, value) ∷ ws) rest.words;
      firsts = ap (λ ns. name ∷ ns) rest.firsts;
      seconds = ap (λ vs. value ∷ vs) rest.seconds;
      all = All-cons IsAssigned (name, value) (paired names values)
          (All-head IsName name names named, All-head HasText value values textual) rest.all;
      many = omega (arith, rest.many);
    }

write_in-words : (names : List ObjectName) (values : List Datum) → 0 < length names
    → length values ≡ length names → All IsName names → All HasText values
    → write_in (assigned_words names values) ≡ Some (Write names values)
write_in-words names values some many named textual =
    let pairs = pair_up names values many named textual in
    let few : 0 < length (paired names values) = omega (arith, some, pairs.many) in
    let read : some_in assigned_in (map word_of_pair (paired names values))
    ≡ Some (paired names values) =
    rw (
      each_in-words assigned_in word_of_pair IsAssigned assigned_in-word (paired names values)
          pairs.all,
      if_some-whole (paired names values) few,
    ) refl in
    ap write_in pairs.words
    ∙ ap (option_map (λ ps. Write (names_of ps) (values_of ps))) read
    ∙ ap (λ ns. Some (Write ns (values_of (paired names values)))) pairs.firsts
    ∙ ap (λ vs. Some (Write names vs)) pairs.seconds

list_in-found : (words : List (List ℕ)) (call : CallKind) → names_call_in words ≡ Some call
    → SpellsCall (codes "names" ∷ words) call
list_in-found [] call e = absurd (none-some call e)
list_in-found (class ∷ []) call e = absurd (none-some call e)
list_in-found (class ∷ scope ∷ more) call e =
    option_and_then_some
    (λ c. option_and_then (λ s. option_map (λ a. NameList c s a) (after_in more))
    (scope_of_word scope)) (signed_64_in class) call e
    (λ c is_c k.
    option_and_then_some (λ s. option_map (λ a. NameList c s a) (after_in more))
    (scope_of_word scope) call k
    (λ s is_s m.
    option_map-found (λ a. NameList c s a) (after_in more) call m
    (λ a is_a whole.
    let first = class_in-found class c is_c in
    let second = scope_of_word-found scope s is_s in
    let third = after_in-found more a is_a in
    subst (λ (x : CallKind). SpellsCall (codes "names" ∷ class ∷ scope ∷ more) x) (sym whole)
    (record {
      spelled = ap (λ w. codes "names" ∷ w ∷ scope ∷ more) first.0
          ∙ ap (λ w. codes "names" ∷ signed_decimal c ∷ w ∷ more) second.0
          ∙ ap (λ ws. codes "names" ∷ signed_decimal c ∷ scope_text s ∷ ws) third.0;
      lawful = (second.1, third.1);
      textual = first.1;
    }))))

list_in-words : (class : ℤ) (scope : Scope) (after : Option (List ℕ)) → FitsSigned w64 class
    → IsScope scope → IfSome after IsIdentifier
    → names_call_in (signed_decimal class ∷ scope_text scope ∷ after_words after)
    ≡ Some (NameList class scope after)
list_in-words class scope after fits s a =
    rw (class_in-text class fits, scope_of_word-text scope s, after_in-words after a) refl

identify_in-found : (words : List (List ℕ)) (call : CallKind) → identify_in words ≡ Some call
    → SpellsCall (codes "identify" ∷ words) call
identify_in-found [] call e =
    subst (λ (c : CallKind). SpellsCall (codes "identify" ∷ []) c) (same_Some Identify call e)
    (record { spelled = refl; lawful = tt; textual = tt })
identify_in-found (word ∷ words) call e = absurd (none-some call e)

odd_kind-found : (word : List ℕ) (kind : ℕ) → odd_kind word ≡ Some kind
    → (word ≡ decimal kind) × ((kind ≡ 1) ⊎ (kind ≡ 5))
odd_kind-found word kind e =
    chosen ((word ≡ decimal kind) × ((kind ≡ 1) ⊎ (kind ≡ 5))) kind
    (bytes_eq word (codes "1")) _ _
    (λ is k.
    let one : 1 ≡ kind = same_Some 1 kind k in (
      (bytes_eq-Decides word (codes "1")).0 is ∙ sym one-is ∙ ap (λ n. decimal n) one,
      inl (sym one),
    ))
    (λ other k. chosen ((word ≡ decimal kind) × ((kind ≡ 1) ⊎ (kind ≡ 5))) kind
    (bytes_eq word (codes "5")) _ _
    (λ is m.
    let five : 5 ≡ kind = same_Some 5 kind m in (
      (bytes_eq-Decides word (codes "5")).0 is ∙ sym five-is ∙ ap (λ n. decimal n) five,
      inr (sym five),
    ))
    (λ other m. absurd (none-some kind m)) k) e

odd_in-found : (words : List (List ℕ)) (call : CallKind) → odd_in words ≡ Some call
    → SpellsCall (codes "odd" ∷ words) call
odd_in-found [] call e = absurd (none-some call e)
odd_in-found (kind ∷ []) call e = absurd (none-some call e)
odd_in-found (kind ∷ code ∷ []) call e =
    chosen (SpellsCall (codes "odd" ∷ kind ∷ code ∷ []) call) call
    (bytes_eq code (codes "1")) _ _
    (λ is k. option_map-found (λ n. Odd n 1) (odd_kind kind) call k
    (λ n is_n whole.
    let found = odd_kind-found kind n is_n in
    subst (λ (c : CallKind). SpellsCall (codes "odd" ∷ kind ∷ code ∷ []) c) (sym whole) (record {
      spelled = ap (λ w. codes "odd" ∷ w ∷ code ∷ []) found.0
          ∙ ap (λ w. codes "odd" ∷ decimal n ∷ w ∷ [])
          ((bytes_eq-Decides code (codes "1")).0 is ∙ sym one-is);
      lawful = (found.1, refl);
      textual = tt;
    })))
    (λ other k. absurd (none-some call k)) e
odd_in-found (kind ∷ code ∷ next ∷ more) call e = absurd (none-some call e)

odd_in-words : (kind code : ℕ) → (kind ≡ 1) ⊎ (kind ≡ 5) → code ≡ 1
    → odd_in (decimal kind ∷ decimal code ∷ []) ≡ Some (Odd kind code)
odd_in-words kind code (inl one) is = rw (one, is, one-is) refl
odd_in-words kind code (inr five) is = rw (five, is, one-is, five-is) refl

pub call_in-found : (words : List (List ℕ)) (call : CallKind) → call_in words ≡ Some call
    → SpellsCall words call
call_in-found [] call e = absurd (none-some call e)
call_in-found (verb ∷ words) call e =
    chosen (SpellsCall (verb ∷ words) call) call (bytes_eq verb (codes "read")) _ _
    (λ is k. verb_is verb (codes "read") words call is (read_in-found false words call k))
    (λ other k. chosen (SpellsCall (verb ∷ words) call) call (bytes_eq verb (codes "read+")) _ _
    (λ is m. verb_is verb (codes "read+") words call is (read_in-found true words call m))
    (λ other m. chosen (SpellsCall (verb ∷ words) call) call (bytes_eq verb (codes "write")) _ _
    (λ is n. verb_is verb (codes "write") words call is (write_in-found words call n))
    (λ other n. chosen (SpellsCall (verb ∷ words) call) call (bytes_eq verb (codes "names")) _ _
    (λ is o. verb_is verb (codes "names") words call is (list_in-found words call o))
    (λ other o. chosen (SpellsCall (verb ∷ words) call) call (bytes_eq verb (codes "identify")) _ _
    (λ is p. verb_is verb (codes "identify") words call is (identify_in-found words call p))
    (λ other p. chosen (SpellsCall (verb ∷ words) call) call (bytes_eq verb (codes "odd")) _ _
    (λ is q. verb_is verb (codes "odd") words call is (odd_in-found words call q))
    (λ other q. chosen (SpellsCall (verb ∷ words) call) call (bytes_eq verb (codes "type")) _ _
    (λ is r. verb_is verb (codes "type") words call is (type_in-found words call r))
    (λ other r. set_call_in-found verb words call r) q) p) o) n) m) k) e

pub call_in-words : (words : List (List ℕ)) (call : CallKind) → SpellsCall words call
    → call_in words ≡ Some call
call_in-words words Identify s = ap call_in s.spelled
call_in-words words (Read names true) s =
    ap call_in s.spelled ∙ read_in-words true names s.lawful s.textual
call_in-words words (Read names false) s =
    ap call_in s.spelled ∙ read_in-words false names s.lawful s.textual
call_in-words words (Write names values) s =
    ap call_in s.spelled
    ∙ write_in-words names values s.lawful.0 s.lawful.1 s.textual.0 s.textual.1
call_in-words words (ReadSet set true) s =
    ap call_in s.spelled ∙ read_set_in-words true set s.textual
call_in-words words (ReadSet set false) s =
    ap call_in s.spelled ∙ read_set_in-words false set s.textual
call_in-words words (WriteSet set values) s =
    ap call_in s.spelled
    ∙ write_set_in-words set values s.textual.0 s.lawful.0 s.textual.1
call_in-words words (TypeOf name) s = ap call_in s.spelled ∙ type_in-words name s.textual
call_in-words words (Define set members) s =
    ap call_in s.spelled ∙ define_in-words set members s.textual.0 s.lawful s.textual.1
call_in-words words (MembersOf set) s = ap call_in s.spelled ∙ members_in-words set s.textual
call_in-words words (Delete sets) s =
    ap call_in s.spelled ∙ delete_in-words sets s.lawful s.textual
call_in-words words (DeleteScope scope) s =
    ap call_in s.spelled ∙ delete_scope_in-words scope s.textual s.lawful
call_in-words words (NameList class scope after) s =
    ap call_in s.spelled ∙ list_in-words class scope after s.textual s.lawful.0 s.lawful.1
call_in-words words (Odd kind code) s =
    ap call_in s.spelled ∙ odd_in-words kind code s.lawful.0 s.lawful.1

-- of words that spell no call
pub call_in-none : (words : List (List ℕ)) → (AreCallWords words → ⊥) → call_in words ≡ None
call_in-none words unspelled = by (call_in words) refl
  where
    by : (found : Option CallKind) → call_in words ≡ found → found ≡ None
    by None e = refl
    by (Some call) e = absurd (unspelled (call, call_in-found words call e))
