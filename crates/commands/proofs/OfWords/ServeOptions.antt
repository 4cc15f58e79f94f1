-- The options of a server, one by one.
use Rattle.std.proofs.Common.{◌≡◌, ◌≤◌, ◌∙◌, ◌||◌, inl, inr, ℕ, Bool, true, false, not, List}
use Rattle.std.proofs.Common.{[], ◌∷◌, Option, Some, None, IfSome, is_some, option_map, ap, sym}
use Rattle.std.proofs.Common.{refl, codes, bytes_eq, if◌then◌else◌, subst}
use Rattle.std.proofs.Common.{true≢false, lit≤}
use Rattle.std.specs.Option.{unwrap_or}
use Rattle.std.proofs.lemmas.Slice.Eq.{bytes_eq-Decides}
use Rattle.commands.specs.declared.words.words.TheConstants.{HISTORY_LIMIT, MOST_LIMIT}
use Rattle.commands.specs.Words.Words.{IsServed, ServeOptions, ServeTask, is_address, is_file_name}
use Rattle.commands.specs.Words.Words.{is_journal_name, limit_in, nothing_given, serve_address}
use Rattle.commands.specs.Words.Words.{serve_asked, serve_in, serve_journal, serve_limit}
use Rattle.commands.specs.Words.Words.{serve_option, serve_options}
use Rattle.commands.proofs.OfWords.Tests.{both, chosen, followed, mapped, not_none, some_is}
use Rattle.commands.proofs.OfWords.OptionWords.{counted}

-- an option with its word
pub data ServeOption : Type 0 where
  limits : ℕ → List ℕ → ServeOption
  journals : List ℕ → ServeOption
  listens : List ℕ → ServeOption

abbrev pub flag : ServeOption → List ℕ
flag (limits n word) = codes "--limit"
flag (journals word) = codes "--journal"
flag (listens word) = codes "--listen"

abbrev pub word_of : ServeOption → List ℕ
word_of (limits n word) = word
word_of (journals word) = word
word_of (listens word) = word

-- the words of options
abbrev pub words_of : List ServeOption → List (List ℕ)
words_of [] = []
words_of (option ∷ options) = flag option ∷ word_of option ∷ words_of options

-- an option as its word spells it
abbrev pub IsSpelled : ServeOption → Type 0
IsSpelled (limits n word) = limit_in word ≡ Some n
IsSpelled (journals word) = is_journal_name word ≡ true
IsSpelled (listens word) = is_address word ≡ true

abbrev pub is_given : ServeOption → ServeOptions → Bool
is_given (limits n word) given = is_some given.limit
is_given (journals word) given = is_some given.journal
is_given (listens word) given = is_some given.address

abbrev pub with_given : ServeOption → ServeOptions → ServeOptions
with_given (limits n word) given = record given { limit = Some n }
with_given (journals word) given = record given { journal = Some word }
with_given (listens word) given = record given { address = Some word }

-- each is new, and these are what they give behind others
abbrev pub AreNew : List ServeOption → ServeOptions → ServeOptions → Type 0
AreNew [] before after = after ≡ before
AreNew (option ∷ options) before after =
    ((is_given option before ≡ false) × IsSpelled option)
    × AreNew options (with_given option before) after

-- two words are an option
pub record IsOption (first word : List ℕ) (before after : ServeOptions) : Type 0 where
  pub option : ServeOption
  pub flag_is : first ≡ flag option
  pub word_is : word ≡ word_of option
  pub fresh : is_given option before ≡ false
  pub spelled : IsSpelled option
  pub after_is : after ≡ with_given option before

text_is : (xs ys : List ℕ) → bytes_eq xs ys ≡ true → xs ≡ ys
text_is xs ys e = (bytes_eq-Decides xs ys).0 e

neither : (a b : Bool) → (a || not b) ≡ false → (a ≡ false) × (b ≡ true)
neither true b e = absurd (true≢false e)
neither false true e = (refl, refl)
neither false false e = absurd (true≢false e)

limited : (first word : List ℕ) (before after : ServeOptions)
    → bytes_eq first (codes "--limit") ≡ true → serve_limit word before ≡ Some after
    → IsOption first word before after
limited first word before after is e =
    let made : ℕ → ServeOptions = λ n. record before { limit = Some n } in
    elim (chosen (is_some before.limit) None (option_map made (limit_in word)) after e) [
      | inl h ↦ absurd (not_none after h.1)
      | inr h ↦
          let m = mapped (limit_in word) made after h.1 in
          record {
            option = limits m.0 word;
            flag_is = text_is first (codes "--limit") is;
            word_is = refl;
            fresh = h.0;
            spelled = m.1;
            after_is = sym m.2;
          }
    ]

journaled : (first word : List ℕ) (before after : ServeOptions)
    → bytes_eq first (codes "--journal") ≡ true → serve_journal word before ≡ Some after
    → IsOption first word before after
journaled first word before after is e =
    let made : ServeOptions = record before { journal = Some word } in
    elim (chosen (is_some before.journal || not (is_journal_name word)) None (Some made) after e) [
      | inl h ↦ absurd (not_none after h.1)
      | inr h ↦
          let n = neither (is_some before.journal) (is_journal_name word) h.0 in
          record {
            option = journals word;
            flag_is = text_is first (codes "--journal") is;
            word_is = refl;
            fresh = n.0;
            spelled = n.1;
            after_is = sym (some_is made after h.1);
          }
    ]

listened : (first word : List ℕ) (before after : ServeOptions)
    → bytes_eq first (codes "--listen") ≡ true → serve_address word before ≡ Some after
    → IsOption first word before after
listened first word before after is e =
    let made : ServeOptions = record before { address = Some word } in
    elim (chosen (is_some before.address || not (is_address word)) None (Some made) after e) [
      | inl h ↦ absurd (not_none after h.1)
      | inr h ↦
          let n = neither (is_some before.address) (is_address word) h.0 in
          record {
            option = listens word;
            flag_is = text_is first (codes "--listen") is;
            word_is = refl;
            fresh = n.0;
            spelled = n.1;
            after_is = sym (some_is made after h.1);
          }
    ]

optioned : (first word : List ℕ) (before after : ServeOptions)
    → serve_option first word before ≡ Some after → IsOption first word before after
optioned first word before after e =
    let third : Option ServeOptions = if bytes_eq first (codes "--listen")
    then serve_address word before else None in
    let second : Option ServeOptions = if bytes_eq first (codes "--journal")
    then serve_journal word before else third in
    elim (chosen (bytes_eq first (codes "--limit")) (serve_limit word before) second after e) [
      | inl h ↦ limited first word before after h.0 h.1
      | inr h ↦ elim (chosen (bytes_eq first (codes "--journal")) (serve_journal word before) third
          after h.1) [
            | inl k ↦ journaled first word before after k.0 k.1
            | inr k ↦ elim (chosen (bytes_eq first (codes "--listen")) (serve_address word before)
                None after k.1) [
                  | inl l ↦ listened first word before after l.0 l.1
                  | inr l ↦ absurd (not_none after l.1)
                ]
          ]
    ]

-- what options words are
pub record AreOptions (words : List (List ℕ)) (before after : ServeOptions) : Type 0 where
  pub options : List ServeOption
  pub words_are : words ≡ words_of options
  pub new : AreNew options before after

first_option : (first word : List ℕ) (more : List (List ℕ)) (before mid after : ServeOptions)
    → IsOption first word before mid → AreOptions more mid after
    → AreOptions (first ∷ word ∷ more) before after
first_option first word more before mid after o rest = record {
  options = o.option ∷ rest.options;
  words_are = ap (λ (v : List ℕ). v ∷ word ∷ more) o.flag_is
      ∙ ap (λ (v : List ℕ). flag o.option ∷ v ∷ more) o.word_is
      ∙ ap (λ (v : List (List ℕ)). flag o.option ∷ word_of o.option ∷ v) rest.words_are;
  new = (
    (o.fresh, o.spelled),
    subst (λ (g : ServeOptions). AreNew rest.options g after) o.after_is rest.new,
  );
}

pub options_are : (words : List (List ℕ)) (before after : ServeOptions)
    → serve_options words before ≡ Some after → AreOptions words before after
options_are [] before after e =
    record { options = []; words_are = refl; new = sym (some_is before after e) }
options_are (first ∷ []) before after e = absurd (not_none after e)
options_are (first ∷ word ∷ more) before after e =
    let f = followed (serve_option first word before) (serve_options more) after e in
    first_option first word more before f.0 after (optioned first word before f.0 f.1)
    (options_are more f.0 after f.2)

-- a limit that a history may have, and a journal that isn't standard output
record AreLawful (given : ServeOptions) : Type 0 where
  pub limit : IfSome given.limit (λ n. n ≤ MOST_LIMIT)
  pub journal : IfSome given.journal (λ name. bytes_eq name (codes "-") ≡ false)

no_output : (word : List ℕ) → is_journal_name word ≡ true → bytes_eq word (codes "-") ≡ false
no_output word e = by (bytes_eq word (codes "-"))
    (both (is_file_name word) (not (bytes_eq word (codes "-"))) e).1
  where
    by : (b : Bool) → not b ≡ true → b ≡ false
    by true is = absurd (true≢false (sym is))
    by false is = refl

kept : (option : ServeOption) (given : ServeOptions) → IsSpelled option → AreLawful given
    → AreLawful (with_given option given)
kept (limits n word) given spelled lawful = record {
  limit = (counted MOST_LIMIT word n spelled).below;
  journal = lawful.journal;
}
kept (journals word) given spelled lawful =
    record { limit = lawful.limit; journal = no_output word spelled }
kept (listens word) given spelled lawful =
    record { limit = lawful.limit; journal = lawful.journal }

all_kept : (options : List ServeOption) (before after : ServeOptions) → AreLawful before
    → AreNew options before after → AreLawful after
all_kept [] before after lawful new = subst AreLawful (sym new) lawful
all_kept (option ∷ options) before after lawful new =
    all_kept options (with_given option before) after (kept option before new.0.1 lawful) new.1

within : (limit : Option ℕ) → IfSome limit (λ n. n ≤ MOST_LIMIT)
    → unwrap_or limit HISTORY_LIMIT ≤ MOST_LIMIT
within None lawful = lit≤ tt
within (Some n) lawful = lawful

asked_lawful : (tables : List ℕ) (given : ServeOptions) (task : ServeTask) → AreLawful given
    → serve_asked tables given ≡ Some task → IsServed task
asked_lawful tables given task lawful e =
    let asked : List ℕ → List ℕ → ServeTask = λ journal address. record {
      tables = tables;
      journal = journal;
      address = address;
      limit = given.limit;
    } in
    let f = followed given.journal (λ journal. option_map (asked journal) given.address) task e in
    let m = mapped given.address (asked f.0) task f.2 in
    subst IsServed m.2 (record {
      limit = within given.limit lawful.limit;
      journal = subst (λ (o : Option (List ℕ)).
          IfSome o (λ name. bytes_eq name (codes "-") ≡ false)) f.1 lawful.journal;
    })

-- what is to be served is lawful
pub served_lawful : (tables : List ℕ) (words : List (List ℕ)) (task : ServeTask)
    → serve_in tables words ≡ Some task → IsServed task
served_lawful tables words task e =
    let f = followed (serve_options words nothing_given) (serve_asked tables) task e in
    let options = options_are words nothing_given f.0 f.1 in
    asked_lawful tables f.0 task
    (all_kept options.options nothing_given f.0 (record { limit = tt; journal = tt }) options.new)
    f.2
