-- How `clap` reads the words of a command without subcommands, word by word.
use Rattle.std.proofs.Common.{◌≡◌, ◌∙◌, ◌&&◌, ◌||◌, ℕ, Bool, true, false, cond, List, [], ◌∷◌}
use Rattle.std.proofs.Common.{Option, None, refl, ap, ap₂, map, bytes_eq, fold}
use Rattle.std.specs.List.{list_all}
use Rattle.std.specs.Option.{option_map_or}
use Rattle.clap.specs.Lexer.{long_of}
use Rattle.clap.specs.Simple.{App, Shape, argument_words, built, is_simple, label_of, matches_of}
use Rattle.clap.specs.Takes.{bundle_passes, built_takes, default_passes, flag_word_passes, is_valid}
use Rattle.clap.specs.Takes.{level_passes, settle_passes, step_passes, takes, turn_passes}
use Rattle.clap.specs.Takes.{walk_passes}
use Rattle.clap.specs.Walk.{Held, Rule, Step, Text, Walk, after_step, arg_by_index, finished}
use Rattle.clap.specs.Walk.{idle, long_or_other, nothing_held, option, plain_word, rows_after}
use Rattle.clap.specs.Walk.{short_or_plain, to_positional, trailing, value, walk_from, walked}
use Rattle.clap.specs.Walk.{word_met}
use Rattle.clap.proofs.TakesLemmas.{leaf_takes}
use Rattle.commands.proofs.OfWords.PlainWords.{IsPlainWord}
use Rattle.commands.proofs.OfWords.Tests.{both}

-- between two words, where nothing waits
abbrev pub at_idle : ℕ → Held → Walk
at_idle place h = record {
  held = h;
  waiting = idle;
  position = place;
  is_trailing = false;
  stopped = None;
}

-- behind an option, which waits for its word
abbrev pub at_option : Text → ℕ → Held → Walk
at_option id place h = record (at_idle place h) { waiting = option id }

met_idle : (c : List Rule) (place : ℕ) (word : Text) (h : Held) → IsPlainWord word
    → word_met c [] false idle place word h ≡ (h, value)
met_idle c place word h plain =
    ap (λ (b : Bool). cond b (h, trailing place) (long_or_other c idle word (long_of word) h))
    plain.dashes
    ∙ ap (λ (o : Option (Text × Option Text)). long_or_other c idle word o h) plain.long
    ∙ ap (λ (o : Option Text). short_or_plain c idle word o h) plain.short

met_option : (c : List Rule) (id : Text) (place : ℕ) (word : Text) (h : Held) → IsPlainWord word
    → word_met c [] false (option id) place word h ≡ plain_word c (option id) word h
met_option c id place word h plain =
    ap (λ (b : Bool).
    cond b (h, trailing place) (long_or_other c (option id) word (long_of word) h)) plain.dashes
    ∙ ap (λ (o : Option (Text × Option Text)). long_or_other c (option id) word o h) plain.long
    ∙ ap (λ (o : Option Text). short_or_plain c (option id) word o h) plain.short

-- a plain word passes as a word
word_passes : (s : Shape) (word : Text) (h : Held) → IsPlainWord word
    → (bytes_eq word (45 ∷ 45 ∷ [])
    || flag_word_passes s.rules s.args_override_self (long_of word) word h) ≡ true
word_passes s word h plain =
    ap₂ (λ (b : Bool) (o : Option (Text × Option Text)).
    b || flag_word_passes s.rules s.args_override_self o word h) plain.dashes plain.long
    ∙ ap (λ (o : Option Text).
    option_map_or (λ flags. bundle_passes s.rules s.args_override_self flags h) o true) plain.short

-- the words are read from one moment to another, and pass
pub record IsRead (s : Shape) (from to : Walk) (words : List Text) : Type 0 where
  pub walks : fold (walked s.rules []) from words ≡ to
  pub passes : walk_passes s [] from words ≡ true

pub read_none : (s : Shape) (w : Walk) → IsRead s w w []
unfolding walk_passes
read_none s w = record { walks = refl; passes = refl }

pub read_more : (s : Shape) (from mid to : Walk) (word : Text) (words : List Text)
    → walked s.rules [] from word ≡ mid → turn_passes s [] from word ≡ true → IsRead s mid to words
    → IsRead s from to (word ∷ words)
unfolding walk_passes
read_more s from mid to word words is turn rest = record {
  walks = ap (λ (w : Walk). fold (walked s.rules []) w words) is ∙ rest.walks;
  passes = ap₂ (λ (a b : Bool). a && b) turn
      (ap (λ (w : Walk). walk_passes s [] w words) is ∙ rest.passes);
}

-- the word goes to the positional of its place
abbrev pub placed : Shape → ℕ → Text → Held → Walk
placed s place word h =
    to_positional s.rules (arg_by_index s.rules place) word (at_idle place h) h

walked_idle : (s : Shape) (place : ℕ) (word : Text) (h : Held) → IsPlainWord word
    → walked s.rules [] (at_idle place h) word ≡ placed s place word h
unfolding walked
walked_idle s place word h plain =
    ap (λ (m : Held × Step). after_step s.rules word (at_idle place h) m.0 m.1)
    (met_idle s.rules place word h plain)

turn_idle : (s : Shape) (place : ℕ) (word : Text) (h : Held) → IsPlainWord word
    → step_passes s place h value ≡ true → turn_passes s [] (at_idle place h) word ≡ true
turn_idle s place word h plain step =
    ap₂ (λ (b : Bool) (m : Held × Step). b && step_passes s place m.0 m.1)
    (word_passes s word h plain) (met_idle s.rules place word h plain) ∙ step

pub read_placed : (s : Shape) (place : ℕ) (h : Held) (mid to : Walk) (word : Text)
    (words : List Text) → IsPlainWord word → placed s place word h ≡ mid
    → step_passes s place h value ≡ true → IsRead s mid to words
    → IsRead s (at_idle place h) to (word ∷ words)
read_placed s place h mid to word words plain is step rest =
    read_more s (at_idle place h) mid to word words (walked_idle s place word h plain ∙ is)
    (turn_idle s place word h plain step) rest

-- the word is the value of the option that waits
abbrev pub valued : Shape → Text → ℕ → Text → Held → Walk
valued s id place word h =
    let met = plain_word s.rules (option id) word h in
    after_step s.rules word (at_option id place h) met.0 met.1

walked_option : (s : Shape) (id : Text) (place : ℕ) (word : Text) (h : Held) → IsPlainWord word
    → walked s.rules [] (at_option id place h) word ≡ valued s id place word h
unfolding walked
walked_option s id place word h plain =
    ap (λ (m : Held × Step). after_step s.rules word (at_option id place h) m.0 m.1)
    (met_option s.rules id place word h plain)

turn_option : (s : Shape) (id : Text) (place : ℕ) (word : Text) (h : Held) → IsPlainWord word
    → turn_passes s [] (at_option id place h) word ≡ true
turn_option s id place word h plain =
    ap₂ (λ (b : Bool) (m : Held × Step). b && step_passes s place m.0 m.1)
    (word_passes s word h plain) (met_option s.rules id place word h plain)

pub read_valued : (s : Shape) (id : Text) (place : ℕ) (h : Held) (mid to : Walk) (word : Text)
    (words : List Text) → IsPlainWord word → valued s id place word h ≡ mid → IsRead s mid to words
    → IsRead s (at_option id place h) to (word ∷ words)
read_valued s id place h mid to word words plain is rest =
    read_more s (at_option id place h) mid to word words
    (walked_option s id place word h plain ∙ is) (turn_option s id place word h plain) rest

-- what is asked at the end of the words
abbrev pub end_passes : Shape → Held → Bool
end_passes s end = settle_passes s.rules s.args_override_self end
    && (list_all default_passes s.rules && is_valid s (finished s.rules end) false)

module _ (a : App) (verb : Text) (words : List Text) (to : Walk)
    (named : a.top.no_binary_name ≡ false) (leaf : (built a).subs ≡ [])
    (read : IsRead (built a).top (walk_from nothing_held) to words) where
  argued : argument_words a (verb ∷ words) ≡ words
  argued = ap (λ (b : Bool). cond b (verb ∷ words) words) named

  -- the command takes the words behind its name
  pub taken : is_simple a ≡ true → end_passes (built a).top to.held ≡ true
      → takes a (verb ∷ words) ≡ true
  taken simple end =
      let level : level_passes (built a).top [] nothing_held words false ≡ true =
      ap₂ (λ (b : Bool) (w : Walk). b && end_passes (built a).top w.held) read.passes read.walks
      ∙ end in
      ap₂ (λ (b c : Bool). b && c) simple (ap (built_takes (built a) nothing_held) argued
      ∙ leaf_takes (built a) nothing_held words leaf level)

  -- its matches of them
  pub rows_are : matches_of a (verb ∷ words) ≡ finished (built a).top.rules to.held
  rows_are =
      ap₂ (λ (subs : List Shape) (ws : List Text).
      rows_after (built a).top.rules (map label_of subs) ws) leaf argued
      ∙ ap (λ (w : Walk). finished (built a).top.rules w.held) read.walks

-- a command that takes words is simple
pub takes_simple : (a : App) (words : List Text) → takes a words ≡ true → is_simple a ≡ true
takes_simple a words e =
    (both (is_simple a) (built_takes (built a) nothing_held (argument_words a words)) e).0
