-- What `clap` makes of `replay TABLES SCENARIO` and its options.
use Rattle.std.proofs.Common.{◌≡◌, ◌∙◌, ◌&&◌, Bool, true, ℕ, List, [], ◌∷◌, inl, inr, Option, Some}
use Rattle.std.proofs.Common.{None, refl, ap, sym, subst, codes, true≢false, is_some, option_map}
use Rattle.clap.specs.Simple.{Shape, built, matches_of}
use Rattle.clap.specs.Takes.{settle_passes, takes}
use Rattle.clap.specs.Walk.{Held, Text, Walk, nothing_held, walk_from, walked}
use Rattle.clap.proofs.OnLiterals.{clap_on_literals}
use Rattle.commands.specs.Words.Words.{ReplayOptions, Task, is_file_name, is_journal_name, limit_in}
use Rattle.commands.specs.Words.Words.{no_options, options_in, replays, with_option}
use Rattle.commands.specs.declared.words.words.TheConstants.{MOST_LIMIT}
use Rattle.commands.specs.Words.Matched.{replay_app, replay_matched}
use Rattle.commands.proofs.OfWords.Tests.{both, followed, not_none, some_is}
use Rattle.commands.proofs.OfWords.OptionWords.{IsOption, counted, optioned}
use Rattle.commands.proofs.OfWords.PlainWords.{IsPlainWord, plain_name, plain_number}
use Rattle.commands.proofs.OfWords.Walked.{IsRead, at_idle, at_option, placed, read_more, read_none}
use Rattle.commands.proofs.OfWords.Walked.{read_placed, read_valued, rows_are, taken, valued}

abbrev shape : Shape
shape = (built replay_app).top

-- behind the tables, and behind the scenario
abbrev held_1 : Text → Held
held_1 tables = (placed shape 1 tables nothing_held).held

abbrev held_2 : Text → Text → Held
held_2 tables scenario = (placed shape 2 scenario (held_1 tables)).held

-- behind an option and its word
abbrev behind_limit : Text → Held → Held
behind_limit word h =
    (valued shape (codes "limit") 3 word
    (walked shape.rules [] (at_idle 3 h) (codes "--limit")).held).held

abbrev behind_journal : Text → Held → Held
behind_journal word h =
    (valued shape (codes "journal") 3 word
    (walked shape.rules [] (at_idle 3 h) (codes "--journal")).held).held

abbrev settles : Held → Type 0
settles h = settle_passes shape.rules shape.args_override_self h ≡ true

read_files : (tables scenario : Text) (to : Walk) (words : List Text) → IsPlainWord tables
    → IsPlainWord scenario → IsRead shape (at_idle 3 (held_2 tables scenario)) to words
    → IsRead shape (walk_from nothing_held) to (tables ∷ scenario ∷ words)
unfolding clap_on_literals
read_files tables scenario to words first second rest =
    read_placed shape 1 nothing_held (at_idle 2 (held_1 tables)) to tables (scenario ∷ words) first
    refl refl
    (read_placed shape 2 (held_1 tables) (at_idle 3 (held_2 tables scenario)) to scenario words
    second refl refl rest)

read_limit : (h : Held) (word : Text) (to : Walk) (words : List Text) → IsPlainWord word
    → settles h → IsRead shape (at_idle 3 (behind_limit word h)) to words
    → IsRead shape (at_idle 3 h) to (codes "--limit" ∷ word ∷ words)
unfolding clap_on_literals
read_limit h word to words plain passes rest =
    let flag = walked shape.rules [] (at_idle 3 h) (codes "--limit") in
    read_more shape (at_idle 3 h) (at_option (codes "limit") 3 flag.held) to (codes "--limit")
    (word ∷ words) refl (ap (λ (b : Bool). b && true) passes)
    (read_valued shape (codes "limit") 3 flag.held (at_idle 3 (behind_limit word h)) to word words
    plain refl rest)

read_journal : (h : Held) (word : Text) (to : Walk) (words : List Text) → IsPlainWord word
    → settles h → IsRead shape (at_idle 3 (behind_journal word h)) to words
    → IsRead shape (at_idle 3 h) to (codes "--journal" ∷ word ∷ words)
unfolding clap_on_literals
read_journal h word to words plain passes rest =
    let flag = walked shape.rules [] (at_idle 3 h) (codes "--journal") in
    read_more shape (at_idle 3 h) (at_option (codes "journal") 3 flag.held) to (codes "--journal")
    (word ∷ words) refl (ap (λ (b : Bool). b && true) passes)
    (read_valued shape (codes "journal") 3 flag.held (at_idle 3 (behind_journal word h)) to word
    words plain refl rest)

-- `clap` takes the words, and what its matches ask for
pub record Replays (tables scenario : Text) (more : List Text) (options : ReplayOptions)
    : Type 0 where
  pub takes_them : takes replay_app (codes "replay" ∷ tables ∷ scenario ∷ more) ≡ true
  pub asks_for : replay_matched (matches_of replay_app (codes "replay" ∷ tables ∷ scenario ∷ more))
      ≡ Some (replays tables scenario options)

module _ (tables scenario : Text) (first : IsPlainWord tables) (second : IsPlainWord scenario) where
  abbrev files : Held
  files = held_2 tables scenario

  abbrev Asks : List Text → ReplayOptions → Type 0
  Asks more options = Replays tables scenario more options

  -- the task with a limit that was read, and a journal
  abbrev with_limited : Option Text → Option ℕ → Option Task
  with_limited journal limit = option_map (replays tables scenario)
      (option_map (λ (l : Option ℕ).
      let o : ReplayOptions = record { limit = l; journal = journal } in o)
      (option_map (λ (n : ℕ). Some n) limit))

  asks_nothing : Asks [] no_options
  unfolding clap_on_literals
  asks_nothing =
      let end = at_idle 3 files in
      let read = read_files tables scenario end [] first second (read_none shape end) in
      record {
        takes_them = taken replay_app (codes "replay") (tables ∷ scenario ∷ []) end refl refl read
            refl refl;
        asks_for = ap replay_matched
            (rows_are replay_app (codes "replay") (tables ∷ scenario ∷ []) end refl refl read);
      }

  asks_limit : (word : Text) (n : ℕ) → limit_in word ≡ Some n
      → Asks (codes "--limit" ∷ word ∷ []) (record { limit = Some n; journal = None })
  unfolding clap_on_literals
  asks_limit word n is =
      let plain = plain_number MOST_LIMIT word n (counted MOST_LIMIT word n is).number in
      let words = tables ∷ scenario ∷ codes "--limit" ∷ word ∷ [] in
      let end = at_idle 3 (behind_limit word files) in
      let read = read_files tables scenario end (codes "--limit" ∷ word ∷ []) first second
      (read_limit files word end [] plain refl (read_none shape end)) in
      record {
        takes_them = taken replay_app (codes "replay") words end refl refl read refl refl;
        asks_for = ap replay_matched (rows_are replay_app (codes "replay") words end refl refl read)
            ∙ ap (with_limited None) is;
      }

  asks_journal : (word : Text) → is_file_name word ≡ true
      → Asks (codes "--journal" ∷ word ∷ []) (record { limit = None; journal = Some word })
  unfolding clap_on_literals
  asks_journal word name =
      let words = tables ∷ scenario ∷ codes "--journal" ∷ word ∷ [] in
      let end = at_idle 3 (behind_journal word files) in
      let read = read_files tables scenario end (codes "--journal" ∷ word ∷ []) first second
      (read_journal files word end [] (plain_name word name) refl (read_none shape end)) in
      record {
        takes_them = taken replay_app (codes "replay") words end refl refl read refl refl;
        asks_for = ap replay_matched
            (rows_are replay_app (codes "replay") words end refl refl read);
      }

  asks_limit_first : (word other : Text) (n : ℕ) → limit_in word ≡ Some n
      → is_file_name other ≡ true
      → Asks (codes "--limit" ∷ word ∷ codes "--journal" ∷ other ∷ [])
      (record { limit = Some n; journal = Some other })
  unfolding clap_on_literals
  asks_limit_first word other n is name =
      let plain = plain_number MOST_LIMIT word n (counted MOST_LIMIT word n is).number in
      let more = codes "--limit" ∷ word ∷ codes "--journal" ∷ other ∷ [] in
      let end = at_idle 3 (behind_journal other (behind_limit word files)) in
      let read = read_files tables scenario end more first second
      (read_limit files word end (codes "--journal" ∷ other ∷ []) plain refl
      (read_journal (behind_limit word files) other end [] (plain_name other name) refl
      (read_none shape end))) in
      record {
        takes_them = taken replay_app (codes "replay") (tables ∷ scenario ∷ more) end refl refl read
            refl refl;
        asks_for = ap replay_matched
            (rows_are replay_app (codes "replay") (tables ∷ scenario ∷ more) end refl refl read)
            ∙ ap (with_limited (Some other)) is;
      }

  asks_journal_first : (word other : Text) (n : ℕ) → is_file_name word ≡ true
      → limit_in other ≡ Some n
      → Asks (codes "--journal" ∷ word ∷ codes "--limit" ∷ other ∷ [])
      (record { limit = Some n; journal = Some word })
  unfolding clap_on_literals
  asks_journal_first word other n name is =
      let plain = plain_number MOST_LIMIT other n (counted MOST_LIMIT other n is).number in
      let more = codes "--journal" ∷ word ∷ codes "--limit" ∷ other ∷ [] in
      let end = at_idle 3 (behind_limit other (behind_journal word files)) in
      let read = read_files tables scenario end more first second
      (read_journal files word end (codes "--limit" ∷ other ∷ []) (plain_name word name) refl
      (read_limit (behind_journal word files) other end [] plain refl (read_none shape end))) in
      record {
        takes_them = taken replay_app (codes "replay") (tables ∷ scenario ∷ more) end refl refl read
            refl refl;
        asks_for = ap replay_matched
            (rows_are replay_app (codes "replay") (tables ∷ scenario ∷ more) end refl refl read)
            ∙ ap (with_limited (Some word)) is;
      }

  file_of : (word : Text) → is_journal_name word ≡ true → is_file_name word ≡ true
  file_of word e = (both (is_file_name word) _ e).0

  one : (option word : Text) (options : ReplayOptions) → IsOption option word no_options options
      → Asks (option ∷ word ∷ []) options
  one option word options o = elim o [
    | inl l ↦ subst (Asks (option ∷ word ∷ [])) (sym l.after_is)
        (subst (λ (v : Text). Asks (v ∷ word ∷ [])
        (record no_options { limit = Some l.limit })) (sym l.name)
        (asks_limit word l.limit l.limit_is))
    | inr j ↦ subst (Asks (option ∷ word ∷ [])) (sym j.after_is)
        (subst (λ (v : Text). Asks (v ∷ word ∷ [])
        (record no_options { journal = Some word })) (sym j.name)
        (asks_journal word (file_of word j.file)))
  ]

  four : (option word next other : Text) (between options : ReplayOptions)
      → IsOption option word no_options between → IsOption next other between options
      → Asks (option ∷ word ∷ next ∷ other ∷ []) options
  four option word next other between options o p = elim o [
    | inl l ↦ elim p [
      | inl m ↦ absurd (true≢false
          (ap (λ (r : ReplayOptions). is_some r.limit) (sym l.after_is) ∙ m.fresh))
      | inr j ↦ subst (Asks (option ∷ word ∷ next ∷ other ∷ []))
          (sym (j.after_is ∙ ap (λ (r : ReplayOptions).
          let o : ReplayOptions = record r { journal = Some other } in o) l.after_is))
          (subst (λ (v : Text). Asks (v ∷ word ∷ next ∷ other ∷ [])
          (record { limit = Some l.limit; journal = Some other })) (sym l.name)
          (subst (λ (v : Text). Asks (codes "--limit" ∷ word ∷ v ∷ other ∷ [])
          (record { limit = Some l.limit; journal = Some other })) (sym j.name)
          (asks_limit_first word other l.limit l.limit_is (file_of other j.file))))
    ]
    | inr j ↦ elim p [
      | inl l ↦ subst (Asks (option ∷ word ∷ next ∷ other ∷ []))
          (sym (l.after_is ∙ ap (λ (r : ReplayOptions).
          let o : ReplayOptions = record r { limit = Some l.limit } in o) j.after_is))
          (subst (λ (v : Text). Asks (v ∷ word ∷ next ∷ other ∷ [])
          (record { limit = Some l.limit; journal = Some word })) (sym j.name)
          (subst (λ (v : Text). Asks (codes "--journal" ∷ word ∷ v ∷ other ∷ [])
          (record { limit = Some l.limit; journal = Some word })) (sym l.name)
          (asks_journal_first word other l.limit (file_of word j.file) l.limit_is)))
      | inr k ↦ absurd (true≢false
          (ap (λ (r : ReplayOptions). is_some r.journal) (sym j.after_is) ∙ k.fresh))
    ]
  ]

  pub replay_read : (more : List Text) (options : ReplayOptions) → options_in more ≡ Some options
      → Replays tables scenario more options
  replay_read [] options e = subst (Asks []) (some_is no_options options e) asks_nothing
  replay_read (option ∷ word ∷ []) options e =
      one option word options (optioned option word no_options options e)
  replay_read (option ∷ word ∷ next ∷ other ∷ []) options e =
      let f = followed (with_option option word no_options) (with_option next other) options e in
      four option word next other f.0 options (optioned option word no_options f.0 f.1)
      (optioned next other f.0 options f.2)
  replay_read _ options e = absurd (not_none options e)
