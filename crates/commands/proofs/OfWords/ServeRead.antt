-- What `clap` makes of `serve TABLES` and its options.
use Rattle.std.proofs.Common.{◌≡◌, ◌∙◌, ◌&&◌, Bool, true, ℕ, List, [], ◌∷◌, Option, Some}
use Rattle.std.proofs.Common.{None, refl, ap, sym, subst, codes, true≢false, option_map}
use Rattle.clap.specs.Simple.{Shape, built, matches_of}
use Rattle.clap.specs.Takes.{settle_passes, takes}
use Rattle.clap.specs.Walk.{Held, Text, Walk, finished, nothing_held, walk_from, walked}
use Rattle.clap.proofs.OnLiterals.{clap_on_literals}
use Rattle.commands.specs.declared.words.words.TheConstants.{MOST_LIMIT}
use Rattle.commands.specs.Words.Words.{ServeOptions, ServeTask, is_file_name, limit_in}
use Rattle.commands.specs.Words.Words.{nothing_given, serve_asked, serve_in, serve_options}
use Rattle.commands.specs.Words.Matched.{serve_app, served_matched}
use Rattle.commands.proofs.OfWords.Tests.{both, followed, not_none}
use Rattle.commands.proofs.OfWords.OptionWords.{counted}
use Rattle.commands.proofs.OfWords.PlainWords.{IsPlainWord, plain_name, plain_number}
use Rattle.commands.proofs.OfWords.ServeOptions.{AreNew, IsSpelled, ServeOption, flag, is_given}
use Rattle.commands.proofs.OfWords.ServeOptions.{journals, limits, listens, options_are, with_given}
use Rattle.commands.proofs.OfWords.ServeOptions.{word_of, words_of}
use Rattle.commands.proofs.OfWords.Walked.{IsRead, at_idle, at_option, end_passes, placed, read_more}
use Rattle.commands.proofs.OfWords.Walked.{read_none, read_placed, read_valued, rows_are, taken}
use Rattle.commands.proofs.OfWords.Walked.{valued}

abbrev shape : Shape
shape = (built serve_app).top

-- behind the tables
abbrev files : Text → Held
files tables = (placed shape 1 tables nothing_held).held

abbrev id_of : ServeOption → Text
id_of (limits n word) = codes "limit"
id_of (journals word) = codes "journal"
id_of (listens word) = codes "listen"

-- behind an option, which waits for its word, and behind that
abbrev flagged : ServeOption → Held → Held
flagged option h = (walked shape.rules [] (at_idle 2 h) (flag option)).held

abbrev behind : ServeOption → Held → Held
behind option h = (valued shape (id_of option) 2 (word_of option) (flagged option h)).held

abbrev behind_all : List ServeOption → Held → Held
behind_all [] h = h
behind_all (option ∷ options) h = behind_all options (behind option h)

abbrev settles : Held → Type 0
settles h = settle_passes shape.rules shape.args_override_self h ≡ true

abbrev Settle : List ServeOption → Held → Type 0
Settle [] h = Unit {0}
Settle (option ∷ options) h = settles h × Settle options (behind option h)

spelled_plain : (option : ServeOption) → IsSpelled option → IsPlainWord (word_of option)
spelled_plain (limits n word) spelled =
    plain_number MOST_LIMIT word n (counted MOST_LIMIT word n spelled).number
spelled_plain (journals word) spelled = plain_name word (both (is_file_name word) _ spelled).0
spelled_plain (listens word) spelled = plain_name word spelled

flag_read : (option : ServeOption) (h : Held) (to : Walk) (words : List Text) → settles h
    → IsRead shape (at_option (id_of option) 2 (flagged option h)) to words
    → IsRead shape (at_idle 2 h) to (flag option ∷ words)
unfolding clap_on_literals
flag_read (limits n word) h to words passes rest =
    read_more shape (at_idle 2 h) (at_option (codes "limit") 2 (flagged (limits n word) h)) to
    (codes "--limit") words refl (ap (λ (b : Bool). b && true) passes) rest
flag_read (journals word) h to words passes rest =
    read_more shape (at_idle 2 h) (at_option (codes "journal") 2 (flagged (journals word) h)) to
    (codes "--journal") words refl (ap (λ (b : Bool). b && true) passes) rest
flag_read (listens word) h to words passes rest =
    read_more shape (at_idle 2 h) (at_option (codes "listen") 2 (flagged (listens word) h)) to
    (codes "--listen") words refl (ap (λ (b : Bool). b && true) passes) rest

word_read : (option : ServeOption) (h : Held) (to : Walk) (words : List Text)
    → IsPlainWord (word_of option) → IsRead shape (at_idle 2 (behind option h)) to words
    → IsRead shape (at_option (id_of option) 2 (flagged option h)) to (word_of option ∷ words)
unfolding clap_on_literals
word_read (limits n word) h to words plain rest =
    read_valued shape (codes "limit") 2 (flagged (limits n word) h)
    (at_idle 2 (behind (limits n word) h)) to word words plain refl rest
word_read (journals word) h to words plain rest =
    read_valued shape (codes "journal") 2 (flagged (journals word) h)
    (at_idle 2 (behind (journals word) h)) to word words plain refl rest
word_read (listens word) h to words plain rest =
    read_valued shape (codes "listen") 2 (flagged (listens word) h)
    (at_idle 2 (behind (listens word) h)) to word words plain refl rest

all_read : (options : List ServeOption) (before after : ServeOptions) (h : Held)
    → AreNew options before after → Settle options h
    → IsRead shape (at_idle 2 h) (at_idle 2 (behind_all options h)) (words_of options)
all_read [] before after h new settle = read_none shape (at_idle 2 h)
all_read (option ∷ options) before after h new settle =
    flag_read option h (at_idle 2 (behind_all (option ∷ options) h))
    (word_of option ∷ words_of options) settle.0
    (word_read option h (at_idle 2 (behind_all (option ∷ options) h)) (words_of options)
    (spelled_plain option new.0.1)
    (all_read options (with_given option before) after (behind option h) new.1 settle.1))

-- `clap` takes the words, and what its matches name
pub record Serves (tables : Text) (more : List Text) (task : ServeTask) : Type 0 where
  pub takes_them : takes serve_app (codes "serve" ∷ tables ∷ more) ≡ true
  pub names : served_matched (matches_of serve_app (codes "serve" ∷ tables ∷ more)) ≡ Some task

module _ (tables : Text) (plain : IsPlainWord tables) (task : ServeTask) where
  read : (options : List ServeOption) (after : ServeOptions) → AreNew options nothing_given after
      → Settle options (files tables)
      → IsRead shape (walk_from nothing_held) (at_idle 2 (behind_all options (files tables)))
      (tables ∷ words_of options)
  unfolding clap_on_literals
  read options after new settle =
      read_placed shape 1 nothing_held (at_idle 2 (files tables))
      (at_idle 2 (behind_all options (files tables))) tables (words_of options) plain refl refl
      (all_read options nothing_given after (files tables) new settle)

  -- some options that `clap` takes, and what its matches then name
  served : (options : List ServeOption) (after : ServeOptions) → AreNew options nothing_given after
      → serve_asked tables after ≡ Some task → Settle options (files tables)
      → end_passes shape (behind_all options (files tables)) ≡ true
      → served_matched (finished shape.rules (behind_all options (files tables)))
      ≡ serve_asked tables after
      → Serves tables (words_of options) task
  unfolding clap_on_literals
  served options after new asked settle end matched =
      let to = at_idle 2 (behind_all options (files tables)) in
      let walk = read options after new settle in
      record {
        takes_them = taken serve_app (codes "serve") (tables ∷ words_of options) to refl refl walk
            refl end;
        names = ap served_matched
            (rows_are serve_app (codes "serve") (tables ∷ words_of options) to refl refl walk)
            ∙ matched ∙ asked;
      }

  -- without a journal or without an address nothing is asked for
  lacking : (given after : ServeOptions) → after ≡ given → serve_asked tables given ≡ None
      → serve_asked tables after ≡ Some task → ⊥
  lacking given after same none asked =
      not_none task (sym none ∙ sym (ap (serve_asked tables) same) ∙ asked)

  one_lacks : (option : ServeOption) → serve_asked tables (with_given option nothing_given) ≡ None
  one_lacks (limits n word) = refl
  one_lacks (journals word) = refl
  one_lacks (listens word) = refl

  -- the options that are there, and nothing behind them
  abbrev full : ℕ → Text → Text → ServeOptions
  full n journal address =
      record { limit = Some n; journal = Some journal; address = Some address }

  all_given : (option : ServeOption) (n : ℕ) (journal address : Text)
      → is_given option (full n journal address) ≡ true
  all_given (limits m word) n journal address = refl
  all_given (journals word) n journal address = refl
  all_given (listens word) n journal address = refl

  abbrev asked_full : ℕ → Text → Text → Option ℕ → Option ServeTask
  asked_full n journal address limit = option_map (λ (l : Option ℕ). let t : ServeTask = record {
    tables = tables;
    journal = journal;
    address = address;
    limit = l;
  } in t) (option_map (λ (m : ℕ). Some m) limit)

  -- three options, and what they give
  three : (first second third : ServeOption) (more : List ServeOption) (n : ℕ)
      (journal address word : Text) (after : ServeOptions)
      → AreNew (first ∷ second ∷ third ∷ more) nothing_given after
      → serve_asked tables after ≡ Some task
      → with_given third (with_given second (with_given first nothing_given))
      ≡ full n journal address
      → limit_in word ≡ Some n
      → Settle (first ∷ second ∷ third ∷ []) (files tables)
      → end_passes shape (behind_all (first ∷ second ∷ third ∷ []) (files tables)) ≡ true
      → served_matched
      (finished shape.rules (behind_all (first ∷ second ∷ third ∷ []) (files tables)))
      ≡ asked_full n journal address (limit_in word)
      → Serves tables (words_of (first ∷ second ∷ third ∷ more)) task
  three first second third [] n journal address word after new asked is limit settle end matched =
      served (first ∷ second ∷ third ∷ []) after new asked settle end
      (matched ∙ ap (asked_full n journal address) limit
      ∙ ap (serve_asked tables) (sym is ∙ sym new.1.1.1))
  three first second third (fourth ∷ more) n journal address word after new asked is limit settle
      end matched =
      absurd (true≢false (sym (all_given fourth n journal address)
      ∙ ap (is_given fourth) (sym is) ∙ new.1.1.1.0.0))

  behind_two : (first second : ServeOption) (more : List ServeOption) (after : ServeOptions)
      → AreNew (first ∷ second ∷ more) nothing_given after → serve_asked tables after ≡ Some task
      → Serves tables (words_of (first ∷ second ∷ more)) task
  unfolding clap_on_literals
  behind_two (limits n w) (limits m v) more after new asked = absurd (true≢false new.1.0.0)
  behind_two (journals w) (journals v) more after new asked = absurd (true≢false new.1.0.0)
  behind_two (listens w) (listens v) more after new asked = absurd (true≢false new.1.0.0)
  behind_two (limits n w) (journals v) [] after new asked =
      absurd (lacking _ after new.1.1 refl asked)
  behind_two (limits n w) (journals v) (limits m u ∷ more) after new asked =
      absurd (true≢false new.1.1.0.0)
  behind_two (limits n w) (journals v) (journals u ∷ more) after new asked =
      absurd (true≢false new.1.1.0.0)
  behind_two (limits n w) (journals v) (listens u ∷ more) after new asked =
      three (limits n w) (journals v) (listens u) more n v u w after new asked refl new.0.1
      (refl, (refl, (refl, tt))) refl refl
  behind_two (limits n w) (listens v) [] after new asked =
      absurd (lacking _ after new.1.1 refl asked)
  behind_two (limits n w) (listens v) (limits m u ∷ more) after new asked =
      absurd (true≢false new.1.1.0.0)
  behind_two (limits n w) (listens v) (listens u ∷ more) after new asked =
      absurd (true≢false new.1.1.0.0)
  behind_two (limits n w) (listens v) (journals u ∷ more) after new asked =
      three (limits n w) (listens v) (journals u) more n u v w after new asked refl new.0.1
      (refl, (refl, (refl, tt))) refl refl
  behind_two (journals w) (limits n v) [] after new asked =
      absurd (lacking _ after new.1.1 refl asked)
  behind_two (journals w) (limits n v) (limits m u ∷ more) after new asked =
      absurd (true≢false new.1.1.0.0)
  behind_two (journals w) (limits n v) (journals u ∷ more) after new asked =
      absurd (true≢false new.1.1.0.0)
  behind_two (journals w) (limits n v) (listens u ∷ more) after new asked =
      three (journals w) (limits n v) (listens u) more n w u v after new asked refl new.1.0.1
      (refl, (refl, (refl, tt))) refl refl
  behind_two (listens w) (limits n v) [] after new asked =
      absurd (lacking _ after new.1.1 refl asked)
  behind_two (listens w) (limits n v) (limits m u ∷ more) after new asked =
      absurd (true≢false new.1.1.0.0)
  behind_two (listens w) (limits n v) (listens u ∷ more) after new asked =
      absurd (true≢false new.1.1.0.0)
  behind_two (listens w) (limits n v) (journals u ∷ more) after new asked =
      three (listens w) (limits n v) (journals u) more n u w v after new asked refl new.1.0.1
      (refl, (refl, (refl, tt))) refl refl
  behind_two (journals w) (listens v) [] after new asked =
      served (journals w ∷ listens v ∷ []) after new asked (refl, (refl, tt)) refl
      (ap (serve_asked tables) (sym new.1.1))
  behind_two (journals w) (listens v) (journals u ∷ more) after new asked =
      absurd (true≢false new.1.1.0.0)
  behind_two (journals w) (listens v) (listens u ∷ more) after new asked =
      absurd (true≢false new.1.1.0.0)
  behind_two (journals w) (listens v) (limits n u ∷ more) after new asked =
      three (journals w) (listens v) (limits n u) more n w v u after new asked refl new.1.1.0.1
      (refl, (refl, (refl, tt))) refl refl
  behind_two (listens w) (journals v) [] after new asked =
      served (listens w ∷ journals v ∷ []) after new asked (refl, (refl, tt)) refl
      (ap (serve_asked tables) (sym new.1.1))
  behind_two (listens w) (journals v) (journals u ∷ more) after new asked =
      absurd (true≢false new.1.1.0.0)
  behind_two (listens w) (journals v) (listens u ∷ more) after new asked =
      absurd (true≢false new.1.1.0.0)
  behind_two (listens w) (journals v) (limits n u ∷ more) after new asked =
      three (listens w) (journals v) (limits n u) more n v w u after new asked refl new.1.1.0.1
      (refl, (refl, (refl, tt))) refl refl

  by_options : (options : List ServeOption) (after : ServeOptions)
      → AreNew options nothing_given after → serve_asked tables after ≡ Some task
      → Serves tables (words_of options) task
  by_options [] after new asked = absurd (lacking nothing_given after new refl asked)
  by_options (option ∷ []) after new asked =
      absurd (lacking (with_given option nothing_given) after new.1 (one_lacks option) asked)
  by_options (first ∷ second ∷ more) after new asked = behind_two first second more after new asked

  pub serve_read : (more : List Text) → serve_in tables more ≡ Some task
      → Serves tables more task
  serve_read more e =
      let f = followed (serve_options more nothing_given) (serve_asked tables) task e in
      let options = options_are more nothing_given f.0 f.1 in
      subst (λ (words : List Text). Serves tables words task) (sym options.words_are)
      (by_options options.options f.0 options.new f.2)
