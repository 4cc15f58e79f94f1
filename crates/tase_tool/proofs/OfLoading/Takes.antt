-- Texts all of whose lines are taken, from where a scenario stands before them to where it stands
-- behind them.
use Rattle.std.proofs.Common.{◌≡◌, ℕ, zero, suc, ◌+◌, ◌<◌, false, List, [], ◌∷◌, ◌++◌, Some}
use Rattle.std.proofs.Common.{None, sym, ap, subst, ◌∙◌, arith, append_assoc, add-one}
use Rattle.std.specs.Prelude.{option_and_then}
use Rattle.std.specs.Str.Lines.{lines}
use Rattle.std.proofs.lemmas.Bool.{cond-false}
use Rattle.plain_text.specs.Lines.{is_skipped}
use Rattle.bilateral.specs.Writing.{spaced}
use Rattle.bilateral.proofs.CleanWords.{AreClean, words_of_spaced, lines_of_spaced}
use Rattle.tase_views.specs.declared.event.Entry.{Entry}
use Rattle.tase_views.specs.Setup.{Setup}
use Rattle.tase_views.specs.Outcomes.{refusal_of}
use Rattle.tase_replay.specs.Links.{asking_of, asking_in, an_event}
use Rattle.tase_replay.specs.Play.{Scene, is_linked, with_taken, step_of, meaning_of, bad, gives}
use Rattle.tase_replay.specs.Play.{means, line_meaning, play_line, play, done}
use Rattle.commands.specs.Load.Generated.{each_below}
use Rattle.commands.proofs.OfLoad.LoadLines.{line_of}

-- an entry of a seat that isn't a link's is taken, and the scene behind it is such
pub record GoesOn (setup : Setup) (after : Scene → Type 0) (scene : Scene) (entry : Entry) : Type 0
  where
    pub apart : is_linked entry.who scene ≡ false
    pub taken : refusal_of setup scene.past entry.who entry.event ≡ None
    pub behind : after (with_taken entry scene)

-- whatever comes behind a text, it is played as far as the end from a scene behind the text
abbrev pub Takes : Setup → (Scene → Type 0) → List ℕ → (Scene → Type 0) → Type 0
Takes setup before text after =
    (rest : List ℕ) (scene : Scene) (number : ℕ) → before scene
    → ((later : Scene) (next : ℕ) → after later → (play setup (lines rest) later next).end ≡ done)
    → (play setup (lines (text ++ rest)) scene number).end ≡ done

module _ (setup : Setup) where
  pub Takes-append : (P Q R : Scene → Type 0) (a b : List ℕ) → Takes setup P a Q
      → Takes setup Q b R → Takes setup P (a ++ b) R
  Takes-append P Q R a b first second = λ rest scene number here later.
      subst (λ text. (play setup (lines text) scene number).end ≡ done)
      (sym (append_assoc a b rest))
      (first (b ++ rest) scene number here
      (λ middle next there. second rest middle next there later))

  -- from scenes of which more is known, to such of which less is
  pub Takes-between : (P Q R S : Scene → Type 0) (a : List ℕ) → ((s : Scene) → P s → Q s)
      → ((s : Scene) → R s → S s) → Takes setup Q a R → Takes setup P a S
  Takes-between P Q R S a before behind takes = λ rest scene number here later.
      takes rest scene number (before scene here)
      (λ middle next there. later middle next (behind middle there))

  pub Takes-below : (P : ℕ → Scene → Type 0) (text : ℕ → List ℕ) (n : ℕ)
      → ((k : ℕ) → k < n → Takes setup (P k) (text k) (P (k + 1)))
      → Takes setup (P 0) (each_below text n) (P n)
  unfolding each_below
  Takes-below P text zero each = λ rest scene number here later. later scene number here
  Takes-below P text (suc n) each =
      Takes-append (P 0) (P n) (P (suc n)) (each_below text n) (text n)
      (Takes-below P text n (λ k below. each k (omega (arith, below))))
      (subst (λ k. Takes setup (P n) (text n) (P k)) (add-one n) (each n (omega arith)))

  -- a line of words that ask for an entry
  pub Takes-line : (P Q : Scene → Type 0) (word : List ℕ) (more : List (List ℕ)) (entry : Entry)
      → AreClean (word ∷ more) → is_skipped (spaced (word ∷ more)) ≡ false
      → asking_of setup.centre (word ∷ more) ≡ Some (an_event entry)
      → ((scene : Scene) → P scene → GoesOn setup Q scene entry)
      → Takes setup P (line_of (word ∷ more)) Q
  Takes-line P Q word more entry clean told asked going = λ rest scene number here later.
      let line = spaced (word ∷ more) in
      let goes = going scene here in
      let step = step_of setup scene.past entry in
      let meaning : line_meaning setup scene line ≡ gives (step ∷ []) (with_taken entry scene) =
      cond-false (is_skipped line) (gives [] scene)
      (means setup scene (asking_in setup.centre line)) told
      ∙ ap (λ words. means setup scene (option_and_then (asking_of setup.centre) words))
      (words_of_spaced (word ∷ more) (omega arith) clean)
      ∙ ap (means setup scene) asked
      ∙ cond-false (is_linked entry.who scene) bad
      (meaning_of (with_taken entry scene) step
      (refusal_of setup scene.past entry.who entry.event)) goes.apart
      ∙ ap (meaning_of (with_taken entry scene) step) goes.taken in
      let parted : lines (line_of (word ∷ more) ++ rest) ≡ line ∷ lines rest =
      ap lines (append_assoc line (10 ∷ []) rest)
      ∙ lines_of_spaced (word ∷ more) rest (omega arith) clean in
      ap (λ ls. (play setup ls scene number).end) parted
      ∙ ap (λ m. (play_line line number m
      (λ after. play setup (lines rest) after (number + 1))).end) meaning
      ∙ later (with_taken entry scene) (number + 1) goes.behind
