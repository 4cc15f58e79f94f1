-- What stands behind the first word of a call is what may stand behind this verb.
use Rattle.std.proofs.Common.{◌≡◌, ◌⊎◌, ℕ, suc, ◌<◌, Bool, true, false, List, [], ◌∷◌, length}
use Rattle.std.proofs.Common.{map, Option, Some, None, codes, decimal, refl, sym, ap, subst, ◌∙◌}
use Rattle.std.proofs.Common.{inl, inr, arith, drop, cond}
use Rattle.std.specs.Prelude.{IfSome}
use Rattle.std.specs.Fmt.{signed_decimal, digits}
use Rattle.std.specs.List.{All}
use Rattle.std.specs.Str.{bytes_eq}
use Rattle.std.proofs.lemmas.List.Elements.{All-nil, All-cons, All-head, All-tail}
use Rattle.std.proofs.lemmas.Slice.Eq.{bytes_eq-Decides}
use Rattle.mms_data.specs.Datum.{Datum}
use Rattle.mms_data.specs.Lawful.{IsLawful}
use Rattle.mms_data.specs.ObjectName.{ObjectName, IsName, IsIdentifier}
use Rattle.mms_data.specs.Text.Texts.{name_text, scope_text, data_text}
use Rattle.mms_data.specs.Text.TextRead.{HasText}
use Rattle.mms_data.proofs.OfText.WordText.{chosen}
use Rattle.tase_views.specs.declared.call.CallKind.{CallKind}
use Rattle.tase_views.specs.declared.call.CallKind.TheVariants.{Identify, Read, ReadSet, Write}
use Rattle.tase_views.specs.declared.call.CallKind.TheVariants.{WriteSet, NameList, TypeOf, Define}
use Rattle.tase_views.specs.declared.call.CallKind.TheVariants.{MembersOf, Delete, DeleteScope, Odd}
use Rattle.tase_views.specs.Calls.{IsCall}
use Rattle.tase_views.specs.EventTexts.{read_verb, read_set_verb}
use Rattle.texts.specs.Events.CallWords.{call_words, assigned_words, after_words, HasWords}
use Rattle.texts.specs.Events.CallWords.{SpellsCall, AreCallWords}
use Rattle.texts.specs.Events.Breaks.{Breaks}
use Rattle.texts.specs.Events.Assigned.{AreAssignments}
use Rattle.texts.specs.Events.Verbs.{verb_text, verb_in, set_verb_in, Behind, EachWord, OneOrMore, AtMostOne}
use Rattle.texts.specs.Events.Verbs.{IsNameWord, IsAssignedWord, IsValueWord, IsAfterWord}
use Rattle.texts.specs.Events.Verbs.{IsOddKind}
use Rattle.texts.specs.declared.events.reading.verbs.Verb.{Verb}
use Rattle.texts.specs.declared.events.reading.verbs.Verb.TheVariants as verbs
use Rattle.texts.specs.Events.Verbs.{HaltsAtWords, one_more}
use Rattle.texts.specs.declared.events.reading.halt.Halt.{Halt}
use Rattle.texts.proofs.OfEvents.Breaking.{halts-behind}
use Rattle.texts.proofs.OfEvents.WordsRead.{some_same}

-- the verb of a call, and its other words
abbrev pub verb_of : CallKind → Verb
verb_of Identify = verbs.Identify
verb_of (Read names true) = verbs.ReadEcho
verb_of (Read names false) = verbs.Read
verb_of (ReadSet set true) = verbs.ReadSetEcho
verb_of (ReadSet set false) = verbs.ReadSet
verb_of (Write names values) = verbs.Write
verb_of (WriteSet set values) = verbs.WriteSet
verb_of (NameList class scope after) = verbs.NameList
verb_of (TypeOf name) = verbs.TypeOf
verb_of (Define set members) = verbs.Define
verb_of (MembersOf set) = verbs.MembersOf
verb_of (Delete sets) = verbs.Delete
verb_of (DeleteScope scope) = verbs.DeleteScope
verb_of (Odd kind code) = verbs.Odd

abbrev pub others_of : CallKind → List (List ℕ)
others_of Identify = []
others_of (Read names echo) = map name_text names
others_of (ReadSet set echo) = name_text set ∷ []
others_of (Write names values) = assigned_words names values
others_of (WriteSet set values) = name_text set ∷ map data_text values
others_of (NameList class scope after) = signed_decimal class ∷ scope_text scope ∷ after_words after
others_of (TypeOf name) = name_text name ∷ []
others_of (Define set members) = name_text set ∷ map name_text members
others_of (MembersOf set) = name_text set ∷ []
others_of (Delete sets) = map name_text sets
others_of (DeleteScope scope) = signed_decimal scope ∷ []
others_of (Odd kind code) = decimal kind ∷ decimal code ∷ []

pub call_words-are : (call : CallKind)
    → call_words call ≡ verb_text (verb_of call) ∷ others_of call
call_words-are Identify = refl
call_words-are (Read names true) = refl
call_words-are (Read names false) = refl
call_words-are (ReadSet set true) = refl
call_words-are (ReadSet set false) = refl
call_words-are (Write names values) = refl
call_words-are (WriteSet set values) = refl
call_words-are (NameList class scope after) = refl
call_words-are (TypeOf name) = refl
call_words-are (Define set members) = refl
call_words-are (MembersOf set) = refl
call_words-are (Delete sets) = refl
call_words-are (DeleteScope scope) = refl
call_words-are (Odd kind code) = refl

-- a verb's word is that verb
pub verb_in-verb_text : (verb : Verb) → verb_in (verb_text verb) ≡ Some verb
verb_in-verb_text verbs.Identify = refl
verb_in-verb_text verbs.Read = refl
verb_in-verb_text verbs.ReadEcho = refl
verb_in-verb_text verbs.Write = refl
verb_in-verb_text verbs.NameList = refl
verb_in-verb_text verbs.Odd = refl
verb_in-verb_text verbs.TypeOf = refl
verb_in-verb_text verbs.ReadSet = refl
verb_in-verb_text verbs.ReadSetEcho = refl
verb_in-verb_text verbs.WriteSet = refl
verb_in-verb_text verbs.Define = refl
verb_in-verb_text verbs.MembersOf = refl
verb_in-verb_text verbs.Delete = refl
verb_in-verb_text verbs.DeleteScope = refl

is_word : (word text : List ℕ) (verb found : Verb) → text ≡ verb_text verb
    → bytes_eq word text ≡ true → Some verb ≡ Some found → word ≡ verb_text found
is_word word text verb found e test k =
    (bytes_eq-Decides word text).0 test ∙ e ∙ ap verb_text (some_same verb found k)

-- a word is the text of the verb that it is found to be: by this test, or by those behind it
verb_or : (word : List ℕ) (verb tested : Verb) (text : List ℕ) (others : Option Verb)
    → text ≡ verb_text tested → cond (bytes_eq word text) (Some tested) others ≡ Some verb
    → (others ≡ Some verb → word ≡ verb_text verb) → word ≡ verb_text verb
verb_or word verb tested text others same found behind =
    chosen (word ≡ verb_text verb) verb (bytes_eq word text) _ _
    (λ t k. is_word word text tested verb same t k) (λ t k. behind k) found

set_verb_in-found : (word : List ℕ) (verb : Verb) → set_verb_in word ≡ Some verb
    → word ≡ verb_text verb
set_verb_in-found word verb e =
    verb_or word verb verbs.ReadSet (codes "readset") _ refl e (λ k.
    verb_or word verb verbs.ReadSetEcho (codes "readset+") _ refl k (λ k.
    verb_or word verb verbs.WriteSet (codes "writeset") _ refl k (λ k.
    verb_or word verb verbs.Define (codes "define") _ refl k (λ k.
    verb_or word verb verbs.MembersOf (codes "members") _ refl k (λ k.
    verb_or word verb verbs.Delete (codes "delete") _ refl k (λ k.
    verb_or word verb verbs.DeleteScope (codes "deletescope") _ refl k (λ k.
    absurd cc)))))))

pub verb_in-found : (word : List ℕ) (verb : Verb) → verb_in word ≡ Some verb
    → word ≡ verb_text verb
verb_in-found word verb e =
    verb_or word verb verbs.Identify (codes "identify") _ refl e (λ k.
    verb_or word verb verbs.Read (codes "read") _ refl k (λ k.
    verb_or word verb verbs.ReadEcho (codes "read+") _ refl k (λ k.
    verb_or word verb verbs.Write (codes "write") _ refl k (λ k.
    verb_or word verb verbs.NameList (codes "names") _ refl k (λ k.
    verb_or word verb verbs.Odd (codes "odd") _ refl k (λ k.
    verb_or word verb verbs.TypeOf (codes "type") _ refl k (λ k.
    set_verb_in-found word verb k)))))))

-- each name's text is a name's word
names_each : (names : List ObjectName) → All IsName names → EachWord IsNameWord (map name_text names)
names_each [] all = tt
names_each (name ∷ names) all = (
  record { name = name; spelled = refl; named = All-head IsName name names all },
  names_each names (All-tail IsName name names all),
)

pub names_are : (names : List ObjectName) → 0 < length names → All IsName names
    → OneOrMore IsNameWord (map name_text names)
names_are [] some all = absurd (omega (arith, some))
names_are (name ∷ names) some all = names_each (name ∷ names) all

-- each value's text is a value's word
pub values_each : (values : List Datum) → All IsLawful values → All HasText values
    → EachWord IsValueWord (map data_text values)
values_each [] lawful textual = tt
values_each (value ∷ values) lawful textual = (
  record {
    value = value;
    spelled = refl;
    lawful = All-head IsLawful value values lawful;
    textual = All-head HasText value values textual;
  },
  values_each values (All-tail IsLawful value values lawful)
      (All-tail HasText value values textual),
)

values_are : (values : List Datum) → 0 < length values → All IsLawful values → All HasText values
    → OneOrMore IsValueWord (map data_text values)
values_are [] some lawful textual = absurd (omega (arith, some))
values_are (value ∷ values) some lawful textual = values_each (value ∷ values) lawful textual

name_is : (name : ObjectName) → IsName name → IsNameWord (name_text name)
name_is name named = record { name = name; spelled = refl; named = named }

-- each name with its value is a word that assigns
pub assigned_each : (names : List ObjectName) (values : List Datum) → All IsName names
    → All IsLawful values → All HasText values → EachWord IsAssignedWord (assigned_words names values)
assigned_each [] values all lawful textual = tt
assigned_each (name ∷ names) [] all lawful textual = tt
assigned_each (name ∷ names) (value ∷ values) all lawful textual = (
  record {
    name = name;
    value = value;
    spelled = refl;
    named = All-head IsName name names all;
    lawful = All-head IsLawful value values lawful;
    textual = All-head HasText value values textual;
  },
  assigned_each names values (All-tail IsName name names all)
      (All-tail IsLawful value values lawful) (All-tail HasText value values textual),
)

pub assigned_are : (names : List ObjectName) (values : List Datum) → 0 < length names
    → length values ≡ length names → All IsName names → All IsLawful values → All HasText values
    → OneOrMore IsAssignedWord (assigned_words names values)
assigned_are [] values some many all lawful textual = absurd (omega (arith, some))
assigned_are (name ∷ names) [] some many all lawful textual = absurd (omega (arith, many))
assigned_are (name ∷ names) (value ∷ values) some many all lawful textual =
    assigned_each (name ∷ names) (value ∷ values) all lawful textual

after_are : (after : Option (List ℕ)) → IfSome after IsIdentifier
    → AtMostOne IsAfterWord (after_words after)
after_are None h = tt
after_are (Some after) h = (record { after = after; spelled = refl; named = h }, tt)

pub one-is : decimal 1 ≡ codes "1"
unfolding digits
one-is = refl

pub five-is : decimal 5 ≡ codes "5"
unfolding digits
five-is = refl

odd_kind : (kind : ℕ) → (kind ≡ 1) ⊎ (kind ≡ 5) → IsOddKind (decimal kind)
odd_kind kind (inl e) = inl (ap decimal e ∙ one-is)
odd_kind kind (inr e) = inr (ap decimal e ∙ five-is)

-- the other words of a call may stand behind its verb
pub others-behind : (call : CallKind) → IsCall call → HasWords call
    → Behind (verb_of call) (others_of call)
others-behind Identify h k = tt
others-behind (Read names true) h k = names_are names h k
others-behind (Read names false) h k = names_are names h k
others-behind (ReadSet set true) h k = (name_is set k, tt)
others-behind (ReadSet set false) h k = (name_is set k, tt)
others-behind (WriteSet set values) h k = (name_is set k.0, values_are values h.0 h.1 k.1)
others-behind (TypeOf name) h k = (name_is name k, tt)
others-behind (Define set members) h k = (name_is set k.0, names_are members h k.1)
others-behind (MembersOf set) h k = (name_is set k, tt)
others-behind (Delete sets) h k = names_are sets h k
others-behind (DeleteScope scope) h k =
    (record { scope = scope; spelled = refl; fits = k; other = h }, tt)
others-behind (Write names values) h k = assigned_are names values h.0 h.1 k.0 h.2 k.1
others-behind (NameList class scope after) h k = (
  record { class = class; spelled = refl; fits = k },
  (record { scope = scope; spelled = refl; named = h.0 }, after_are after h.1),
)
others-behind (Odd kind code) h k = (odd_kind kind h.0, (ap decimal h.1 ∙ one-is, tt))

-- words of a call are the word of its verb and its other words
pub spells-verb : (verb : Verb) (words : List (List ℕ)) (call : CallKind)
    → SpellsCall (verb_text verb ∷ words) call → (verb ≡ verb_of call) × (words ≡ others_of call)
spells-verb verb words call s =
    let e = s.spelled ∙ call_words-are call in (
      some_same verb (verb_of call)
          (sym (verb_in-verb_text verb) ∙ ap (λ t. verb_in (first_word t)) e
          ∙ verb_in-verb_text (verb_of call)),
      ap (drop 1) e,
    )
  where
    first_word : List (List ℕ) → List ℕ
    first_word [] = []
    first_word (word ∷ words) = word

pub spelled-behind : (verb : Verb) (words : List (List ℕ))
    → AreCallWords (verb_text verb ∷ words) → Behind verb words
spelled-behind verb words (call, s) =
    let e = spells-verb verb words call s in
    subst (λ v. Behind v words) (sym e.0)
    (subst (λ w. Behind (verb_of call) w) (sym e.1) (others-behind call s.lawful s.textual))

-- the names that words are
record AreNames (words : List (List ℕ)) : Type 0 where
  pub names : List ObjectName
  pub spelled : words ≡ map name_text names
  pub named : All IsName names

each-names : (words : List (List ℕ)) → EachWord IsNameWord words → AreNames words
each-names [] each = record { names = []; spelled = refl; named = All-nil IsName }
each-names (word ∷ words) each =
    let w = each.0 in
    let more = each-names words each.1 in
    record {
      names = w.name ∷ more.names;
      spelled = λ i. w.spelled i ∷ more.spelled i;
      named = All-cons IsName w.name more.names w.named more.named;
    }

-- the names and the values that words are
record AreAssigned (words : List (List ℕ)) : Type 0 where
  pub names : List ObjectName
  pub values : List Datum
  pub are : AreAssignments words names values

each-assigned : (words : List (List ℕ)) → EachWord IsAssignedWord words → AreAssigned words
each-assigned [] each = record {
  names = [];
  values = [];
  are = record {
    spelled = refl;
    many = refl;
    named = All-nil IsName;
    lawful = All-nil IsLawful;
    textual = All-nil HasText;
  };
}
each-assigned (word ∷ words) each =
    let w = each.0 in
    let more = each-assigned words each.1 in
    record {
      names = w.name ∷ more.names;
      values = w.value ∷ more.values;
      are = record {
        spelled = λ i. w.spelled i ∷ more.are.spelled i;
        many = ap suc more.are.many;
        named = All-cons IsName w.name more.names w.named more.are.named;
        lawful = All-cons IsLawful w.value more.values w.lawful more.are.lawful;
        textual = All-cons HasText w.value more.values w.textual more.are.textual;
      };
    }

read_words : (echo : Bool) (word : List ℕ) (words : List (List ℕ)) → EachWord IsNameWord (word ∷ words)
    → (call : CallKind) × SpellsCall (read_verb echo ∷ word ∷ words) call
read_words echo word words each =
    let first = each.0 in
    let more = each-names words each.1 in (
      Read (first.name ∷ more.names) echo,
      record {
        spelled = λ i. read_verb echo ∷ first.spelled i ∷ more.spelled i;
        lawful = omega arith;
        textual = All-cons IsName first.name more.names first.named more.named;
      },
    )

-- the values that words are
record AreValues (words : List (List ℕ)) : Type 0 where
  pub values : List Datum
  pub spelled : words ≡ map data_text values
  pub lawful : All IsLawful values
  pub textual : All HasText values

each-values : (words : List (List ℕ)) → EachWord IsValueWord words → AreValues words
each-values [] each = record {
  values = [];
  spelled = refl;
  lawful = All-nil IsLawful;
  textual = All-nil HasText;
}
each-values (word ∷ words) each =
    let w = each.0 in
    let more = each-values words each.1 in
    record {
      values = w.value ∷ more.values;
      spelled = λ i. w.spelled i ∷ more.spelled i;
      lawful = All-cons IsLawful w.value more.values w.lawful more.lawful;
      textual = All-cons HasText w.value more.values w.textual more.textual;
    }

read_set_words : (echo : Bool) (word : List ℕ) → IsNameWord word
    → (call : CallKind) × SpellsCall (read_set_verb echo ∷ word ∷ []) call
read_set_words echo word w = (
  ReadSet w.name echo,
  record { spelled = λ i. read_set_verb echo ∷ w.spelled i ∷ []; lawful = tt; textual = w.named },
)

-- the word of a verb and words that may stand behind this verb are a call
pub behind-spells : (verb : Verb) (words : List (List ℕ)) → Behind verb words
    → AreCallWords (verb_text verb ∷ words)
behind-spells verbs.Identify [] b = (Identify, record { spelled = refl; lawful = tt; textual = tt })
behind-spells verbs.Identify (word ∷ words) b = absurd b
behind-spells verbs.Read [] b = absurd b
behind-spells verbs.Read (word ∷ words) b = read_words false word words b
behind-spells verbs.ReadEcho [] b = absurd b
behind-spells verbs.ReadEcho (word ∷ words) b = read_words true word words b
behind-spells verbs.ReadSet [] b = absurd b
behind-spells verbs.ReadSet (set ∷ []) b = read_set_words false set b.0
behind-spells verbs.ReadSet (set ∷ word ∷ words) b = absurd b.1
behind-spells verbs.ReadSetEcho [] b = absurd b
behind-spells verbs.ReadSetEcho (set ∷ []) b = read_set_words true set b.0
behind-spells verbs.ReadSetEcho (set ∷ word ∷ words) b = absurd b.1
behind-spells verbs.WriteSet [] b = absurd b
behind-spells verbs.WriteSet (set ∷ []) b = absurd b.1
behind-spells verbs.WriteSet (set ∷ word ∷ words) b =
    let first = b.1.0 in
    let more = each-values words b.1.1 in (
      WriteSet b.0.name (first.value ∷ more.values),
      record {
        spelled = λ i. codes "writeset" ∷ b.0.spelled i ∷ first.spelled i ∷ more.spelled i;
        lawful = (
          omega arith,
          All-cons IsLawful first.value more.values first.lawful more.lawful,
        );
        textual = (
          b.0.named,
          All-cons HasText first.value more.values first.textual more.textual,
        );
      },
    )
behind-spells verbs.Define [] b = absurd b
behind-spells verbs.Define (set ∷ []) b = absurd b.1
behind-spells verbs.Define (set ∷ word ∷ words) b =
    let first = b.1.0 in
    let more = each-names words b.1.1 in (
      Define b.0.name (first.name ∷ more.names),
      record {
        spelled = λ i. codes "define" ∷ b.0.spelled i ∷ first.spelled i ∷ more.spelled i;
        lawful = omega arith;
        textual = (
          b.0.named,
          All-cons IsName first.name more.names first.named more.named,
        );
      },
    )
behind-spells verbs.MembersOf [] b = absurd b
behind-spells verbs.MembersOf (set ∷ []) b = (
  MembersOf b.0.name,
  record { spelled = λ i. codes "members" ∷ b.0.spelled i ∷ []; lawful = tt; textual = b.0.named },
)
behind-spells verbs.MembersOf (set ∷ word ∷ words) b = absurd b.1
behind-spells verbs.TypeOf [] b = absurd b
behind-spells verbs.TypeOf (name ∷ []) b = (
  TypeOf b.0.name,
  record { spelled = λ i. codes "type" ∷ b.0.spelled i ∷ []; lawful = tt; textual = b.0.named },
)
behind-spells verbs.TypeOf (name ∷ word ∷ words) b = absurd b.1
behind-spells verbs.Delete [] b = absurd b
behind-spells verbs.Delete (word ∷ words) b =
    let first = b.0 in
    let more = each-names words b.1 in (
      Delete (first.name ∷ more.names),
      record {
        spelled = λ i. codes "delete" ∷ first.spelled i ∷ more.spelled i;
        lawful = omega arith;
        textual = All-cons IsName first.name more.names first.named more.named;
      },
    )
behind-spells verbs.DeleteScope [] b = absurd b
behind-spells verbs.DeleteScope (scope ∷ []) b = (
  DeleteScope b.0.scope,
  record {
    spelled = λ i. codes "deletescope" ∷ b.0.spelled i ∷ [];
    lawful = b.0.other;
    textual = b.0.fits;
  },
)
behind-spells verbs.DeleteScope (scope ∷ word ∷ words) b = absurd b.1
behind-spells verbs.Write [] b = absurd b
behind-spells verbs.Write (word ∷ words) b =
    let all = each-assigned (word ∷ words) b in (
      Write all.names all.values,
      record {
        spelled = ap (λ t. codes "write" ∷ t) all.are.spelled;
        lawful = (
          assigned_some word words all.names all.values all.are.spelled,
          all.are.many,
          all.are.lawful,
        );
        textual = (all.are.named, all.are.textual);
      },
    )
  where
    assigned_some : (word : List ℕ) (words : List (List ℕ)) (names : List ObjectName)
        (values : List Datum) → word ∷ words ≡ assigned_words names values → 0 < length names
    assigned_some word words [] values e = absurd cc
    assigned_some word words (name ∷ names) values e = omega arith
behind-spells verbs.NameList [] b = absurd b
behind-spells verbs.NameList (class ∷ []) b = absurd b.1
behind-spells verbs.NameList (class ∷ scope ∷ []) b = (
  NameList b.0.class b.1.0.scope None,
  record {
    spelled = λ i. codes "names" ∷ b.0.spelled i ∷ b.1.0.spelled i ∷ [];
    lawful = (b.1.0.named, tt);
    textual = b.0.fits;
  },
)
behind-spells verbs.NameList (class ∷ scope ∷ after ∷ []) b = (
  NameList b.0.class b.1.0.scope (Some b.1.1.0.after),
  record {
    spelled = λ i. codes "names" ∷ b.0.spelled i ∷ b.1.0.spelled i ∷ b.1.1.0.spelled i ∷ [];
    lawful = (b.1.0.named, b.1.1.0.named);
    textual = b.0.fits;
  },
)
behind-spells verbs.NameList (class ∷ scope ∷ after ∷ word ∷ words) b = absurd b.1.1.1
behind-spells verbs.Odd [] b = absurd b
behind-spells verbs.Odd (kind ∷ []) b = absurd b.1
behind-spells verbs.Odd (kind ∷ code ∷ []) b = odd_words kind code b.0 b.1.0
  where
    odd_words : (kind code : List ℕ) → IsOddKind kind → code ≡ codes "1"
        → AreCallWords (codes "odd" ∷ kind ∷ code ∷ [])
    odd_words kind code (inl e) k = (
      Odd 1 1,
      record {
        spelled = λ i. codes "odd" ∷ (e ∙ sym one-is) i ∷ (k ∙ sym one-is) i ∷ [];
        lawful = (inl refl, refl);
        textual = tt;
      },
    )
    odd_words kind code (inr e) k = (
      Odd 5 1,
      record {
        spelled = λ i. codes "odd" ∷ (e ∙ sym five-is) i ∷ (k ∙ sym one-is) i ∷ [];
        lawful = (inr refl, refl);
        textual = tt;
      },
    )
behind-spells verbs.Odd (kind ∷ code ∷ word ∷ words) b = absurd b.1.1

-- words of a call, of whatever kind
pub some_call : AreCallWords (codes "identify" ∷ [])
some_call = (Identify, record { spelled = refl; lawful = tt; textual = tt })

pub no_words : AreCallWords [] → ⊥
no_words (call, s) =
    let e : [] ≡ verb_text (verb_of call) ∷ others_of call = s.spelled ∙ call_words-are call in
    absurd cc

pub no_verb : (word : List ℕ) (words : List (List ℕ)) → verb_in word ≡ None
    → AreCallWords (word ∷ words) → ⊥
no_verb word words none (call, s) =
    let e = s.spelled ∙ call_words-are call in
    let found : verb_in word ≡ Some (verb_of call) =
    ap (λ t. verb_in (first_word t)) e ∙ verb_in-verb_text (verb_of call) in
    absurd cc
  where
    first_word : List (List ℕ) → List ℕ
    first_word [] = []
    first_word (word ∷ words) = word

-- where the words behind a verb break, those of a call do
pub verb-halts : (word : List ℕ) (words : List (List ℕ)) (verb : Verb) (halt : Halt)
    → verb_in word ≡ Some verb → HaltsAtWords halt (λ count. Breaks (Behind verb) words count)
    → HaltsAtWords (one_more halt) (λ count. Breaks AreCallWords (word ∷ words) count)
verb-halts word words verb halt e h =
    let same = verb_in-found word verb e in
    halts-behind (Behind verb) AreCallWords word words halt
    (λ more b. subst (λ w. AreCallWords (w ∷ more)) (sym same) (behind-spells verb more b))
    (λ more q. spelled-behind verb more (subst (λ w. AreCallWords (w ∷ more)) same q)) h
