-- Words that are read as nothing are nothing, and one right word of each kind.
use Rattle.std.proofs.Common.{◌≡◌, ◌⊎◌, ℕ, suc, ◌+◌, ◌<◌, ◌≤◌, true, false, List, [], ◌∷◌, ◌++◌}
use Rattle.std.proofs.Common.{length, map, Some, None, pos, codes, decimal, refl}
use Rattle.std.proofs.Common.{sym, ap, ◌∙◌, inl, inr, arith, append_assoc}
use Rattle.std.specs.Fmt.{signed_decimal}
use Rattle.std.specs.List.{All}
use Rattle.std.specs.Str.{bytes_eq}
use Rattle.std.proofs.lemmas.List.{length-append}
use Rattle.std.proofs.lemmas.List.Elements.{All-nil, All-cons, All-append, All-head, All-tail}
use Rattle.std.proofs.lemmas.Slice.Eq.{bytes_eq-Decides}
use Rattle.mms_data.specs.declared.object_name.Scope.TheVariants.{Vmd}
use Rattle.mms_data.specs.Datum.{boolean}
use Rattle.mms_data.specs.ObjectName.{ObjectName, IsName}
use Rattle.mms_data.specs.Text.NameIn.{name_in, identifier_in}
use Rattle.mms_data.specs.Text.Texts.{name_text}
use Rattle.mms_data.proofs.OfText.ReadName.{name_in-name_text, identifier_in-escaped_text}
use Rattle.mms_data.proofs.OfText.LeafRead.{integer-read}
use Rattle.mms_data.proofs.OfText.TextBreaks.{lawful}
use Rattle.mms_data.proofs.OfText.WordText.{chosen}
use Rattle.texts.specs.Events.Breaks.{Breaks}
use Rattle.texts.specs.Events.CallWords.{assigned_word}
use Rattle.texts.specs.Events.Verbs.{IsNameWord, IsAssignedWord, IsClassWord, IsScopeWord}
use Rattle.texts.specs.Events.Verbs.{IsAfterWord, IsOddKind, IsOddCode, Then, NoWord, AtMostOne}
use Rattle.texts.specs.Events.Verbs.{OneOrMore, EachWord, class_in, scope_word_in, odd_kind_in, HaltsAtWords}
use Rattle.texts.specs.Events.Verbs.{one_more}
use Rattle.texts.specs.declared.events.reading.halt.Halt.{Halt}
use Rattle.texts.proofs.OfEvents.Breaking.{breaks-none, breaks-first, breaks-behind, breaks-among}
use Rattle.texts.proofs.OfEvents.Breaking.{halts-behind}
use Rattle.texts.proofs.OfEvents.WordsRead.{scope_in-scope_text, some_same}
use Rattle.texts.proofs.OfEvents.Behind.{one-is, five-is}

none_some : {A : Type 0} (x : A) → None ≡ Some x → ⊥
none_some x e = absurd cc

pub wrong_name : (word : List ℕ) → None ≡ name_in word → IsNameWord word → ⊥
wrong_name word e w =
    none_some w.name (e ∙ ap name_in w.spelled ∙ name_in-name_text w.name w.named)

pub wrong_class : (word : List ℕ) → None ≡ class_in word → IsClassWord word → ⊥
wrong_class word e w =
    none_some w.class (e ∙ ap class_in w.spelled ∙ integer-read w.class w.fits)

pub wrong_scope : (word : List ℕ) → None ≡ scope_word_in word → IsScopeWord word → ⊥
wrong_scope word e w =
    none_some w.scope (e ∙ ap scope_word_in w.spelled ∙ scope_in-scope_text w.scope w.named)

pub wrong_after : (word : List ℕ) → None ≡ identifier_in word → IsAfterWord word → ⊥
wrong_after word e w =
    none_some w.after (e ∙ ap identifier_in w.spelled ∙ identifier_in-escaped_text w.after w.named)

pub wrong_kind : (word : List ℕ) → None ≡ odd_kind_in word → IsOddKind word → ⊥
wrong_kind word e (inl k) = none_some 1 (e ∙ ap odd_kind_in k)
wrong_kind word e (inr k) = none_some 5 (e ∙ ap odd_kind_in k)

pub wrong_code : (word : List ℕ) → bytes_eq word (codes "1") ≡ false → IsOddCode word → ⊥
wrong_code word e k =
    let same : true ≡ false = sym ((bytes_eq-Decides word (codes "1")).1 k) ∙ e in absurd cc

pub kind-found : (word : List ℕ) (kind : ℕ) → odd_kind_in word ≡ Some kind
    → (word ≡ decimal kind) × ((kind ≡ 1) ⊎ (kind ≡ 5)) × IsOddKind word
kind-found word kind e =
    chosen goal kind (bytes_eq word (codes "1")) _ _
    (λ t k.
    let one : 1 ≡ kind = some_same 1 kind k in
    let spelled = (bytes_eq-Decides word (codes "1")).0 t in
    (spelled ∙ sym one-is ∙ ap decimal one, inl (sym one), inl spelled))
    (λ f k. chosen goal kind (bytes_eq word (codes "5")) _ _
    (λ t k.
    let five : 5 ≡ kind = some_same 5 kind k in
    let spelled = (bytes_eq-Decides word (codes "5")).0 t in
    (spelled ∙ sym five-is ∙ ap decimal five, inr (sym five), inr spelled))
    (λ g l. absurd cc) k) e
  where
    goal : Type 0
    goal = (word ≡ decimal kind) × ((kind ≡ 1) ⊎ (kind ≡ 5)) × IsOddKind word

-- a name
pub some_name : ObjectName
some_name = record { scope = Vmd; item = codes "A" }

some_named : IsName some_name
unfolding some_name
some_named = (tt, (omega arith, (omega arith, refl)))

pub fine_name : IsNameWord (name_text some_name)
fine_name = record { name = some_name; spelled = refl; named = some_named }

pub fine_assigned : IsAssignedWord (assigned_word some_name (boolean true))
fine_assigned = record {
  name = some_name;
  value = boolean true;
  spelled = refl;
  named = some_named;
  lawful = lawful (boolean true) (record { shallow = omega arith; parts = tt });
  textual = record { shallow = omega arith; parts = tt };
}

pub fine_class : IsClassWord (signed_decimal (pos 0))
fine_class = record { class = pos 0; spelled = refl; fits = omega arith }

pub fine_scope : IsScopeWord (codes "vmd:")
fine_scope = record { scope = Vmd; spelled = refl; named = tt }

-- what may stand behind `names`
abbrev ScopeAfter : List (List ℕ) → Type 0
ScopeAfter = Then IsScopeWord (AtMostOne IsAfterWord)

abbrev ClassScopeAfter : List (List ℕ) → Type 0
ClassScopeAfter = Then IsClassWord ScopeAfter

pub no_scope : Breaks ScopeAfter [] 0
no_scope = breaks-none ScopeAfter (codes "vmd:" ∷ []) (fine_scope, tt) (λ none. none)

pub bad_scope : (word : List ℕ) (words : List (List ℕ)) → None ≡ scope_word_in word
    → Breaks ScopeAfter (word ∷ words) 0
bad_scope word words e =
    breaks-first ScopeAfter word words (codes "vmd:" ∷ []) (fine_scope, tt)
    (λ more q. wrong_scope word e q.0)

pub no_class : Breaks ClassScopeAfter [] 0
no_class =
    breaks-none ClassScopeAfter (signed_decimal (pos 0) ∷ codes "vmd:" ∷ [])
    (fine_class, (fine_scope, tt)) (λ none. none)

pub bad_class : (word : List ℕ) (words : List (List ℕ)) → None ≡ class_in word
    → Breaks ClassScopeAfter (word ∷ words) 0
bad_class word words e =
    breaks-first ClassScopeAfter word words (signed_decimal (pos 0) ∷ codes "vmd:" ∷ [])
    (fine_class, (fine_scope, tt)) (λ more q. wrong_class word e q.0)

pub bad_after : (word : List ℕ) (words : List (List ℕ)) → None ≡ identifier_in word
    → Breaks (AtMostOne IsAfterWord) (word ∷ words) 0
bad_after word words e =
    breaks-first (AtMostOne IsAfterWord) word words [] tt (λ more q. wrong_after word e q.0)

-- a word too many
pub one_too_many : (W : List ℕ → Type 0) (word next : List ℕ) (words : List (List ℕ)) → W word
    → Breaks (AtMostOne W) (word ∷ next ∷ words) 1
one_too_many W word next words w =
    breaks-behind NoWord (AtMostOne W) word (next ∷ words) 0 (λ more n. (w, n)) (λ more q. q.1)
    (breaks-first NoWord next words [] tt (λ more q. q))

abbrev KindCode : List (List ℕ) → Type 0
KindCode = Then IsOddKind (Then IsOddCode NoWord)

abbrev Code : List (List ℕ) → Type 0
Code = Then IsOddCode NoWord

pub no_code : Breaks Code [] 0
no_code = breaks-none Code (codes "1" ∷ []) (refl, tt) (λ none. none)

pub bad_code : (word : List ℕ) (words : List (List ℕ)) → bytes_eq word (codes "1") ≡ false
    → Breaks Code (word ∷ words) 0
bad_code word words e =
    breaks-first Code word words (codes "1" ∷ []) (refl, tt) (λ more q. wrong_code word e q.0)

pub behind_code : (word next : List ℕ) (words : List (List ℕ))
    → bytes_eq word (codes "1") ≡ true → Breaks Code (word ∷ next ∷ words) 1
behind_code word next words e =
    let code = (bytes_eq-Decides word (codes "1")).0 e in
    breaks-behind NoWord Code word (next ∷ words) 0 (λ more n. (code, n)) (λ more q. q.1)
    (breaks-first NoWord next words [] tt (λ more q. q))

pub no_kind : Breaks KindCode [] 0
no_kind =
    breaks-none KindCode (codes "1" ∷ codes "1" ∷ []) (inl refl, (refl, tt)) (λ none. none)

pub bad_kind : (word : List ℕ) (words : List (List ℕ)) → None ≡ odd_kind_in word
    → Breaks KindCode (word ∷ words) 0
bad_kind word words e =
    breaks-first KindCode word words (codes "1" ∷ codes "1" ∷ []) (inl refl, (refl, tt))
    (λ more q. wrong_kind word e q.0)

-- a right word in front, and a fault behind it
pub then-halts : (W : List ℕ → Type 0) (P : List (List ℕ) → Type 0) (word : List ℕ)
    (words : List (List ℕ)) (halt : Halt) → W word → HaltsAtWords halt (λ count. Breaks P words count)
    → HaltsAtWords (one_more halt) (λ count. Breaks (Then W P) (word ∷ words) count)
then-halts W P word words halt w h =
    halts-behind P (Then W P) word words halt (λ more p. (w, p)) (λ more q. q.1) h

-- names, and a word that is none
pub names-break : (whole : List (List ℕ)) (names : List ObjectName) (word : List ℕ)
    (words : List (List ℕ)) (count : ℕ) → whole ≡ map name_text names ++ word ∷ words
    → count ≡ length names → All IsName names → None ≡ name_in word
    → Breaks (OneOrMore IsNameWord) whole count
names-break whole names word words count parts count_is named none =
    rw (parts, count_is ∙ sym (many names))
    (breaks-among IsNameWord (name_text some_name) fine_name (map name_text names) word words
    (each names named) (wrong_name word none))
  where
    many : (names : List ObjectName) → length (map name_text names) ≡ length names
    many [] = refl
    many (name ∷ names) = ap suc (many names)

    each : (names : List ObjectName) → All IsName names → EachWord IsNameWord (map name_text names)
    each [] all = tt
    each (name ∷ names) all = (
      record { name = name; spelled = refl; named = All-head IsName name names all },
      each names (All-tail IsName name names all),
    )

pub names-none : (whole rest : List (List ℕ)) (names : List ObjectName)
    → whole ≡ map name_text names ++ rest → rest ≡ [] → length names ≡ 0
    → Breaks (OneOrMore IsNameWord) whole 0
names-none whole rest [] parts none few =
    rw (parts ∙ none) (breaks-none (OneOrMore IsNameWord) (name_text some_name ∷ [])
    (fine_name, tt) (λ q. q))
names-none whole rest (name ∷ names) parts none few = absurd (omega (arith, few))

map-push : (names : List ObjectName) (name : ObjectName)
    → map name_text (names ++ name ∷ []) ≡ map name_text names ++ name_text name ∷ []
map-push [] name = refl
map-push (n ∷ names) name = ap (λ t. name_text n ∷ t) (map-push names name)

pub names-more : (whole rest after : List (List ℕ)) (names : List ObjectName) (name : ObjectName)
    (word : List ℕ) (left less all : ℕ) → whole ≡ map name_text names ++ rest
    → All IsName names → length names + left ≤ all → rest ≡ word ∷ after → less < left
    → (word ≡ name_text name) × IsName name
    → (whole ≡ map name_text (names ++ name ∷ []) ++ after) × All IsName (names ++ name ∷ [])
    × (length (names ++ name ∷ []) + less ≤ all)
names-more whole rest after names name word left less all parts named within rest_is shorter n = (
  parts ∙ ap (λ t. map name_text names ++ t) rest_is
      ∙ ap (λ w. map name_text names ++ w ∷ after) n.0
      ∙ sym (append_assoc (map name_text names) (name_text name ∷ []) after)
      ∙ ap (λ t. t ++ after) (sym (map-push names name)),
  All-append IsName names (name ∷ []) named (All-cons IsName name [] n.1 (All-nil IsName)),
  rw (length-append names (name ∷ [])) (omega (arith, within, shorter)),
)
