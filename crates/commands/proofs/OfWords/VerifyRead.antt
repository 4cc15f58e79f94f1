-- What `clap` makes of `verify TABLES JOURNAL KEY ORDINAL IN OUT`.
use Rattle.std.proofs.Common.{◌≡◌, ◌∙◌, ◌^◌, ◌-◌, true, List, [], ◌∷◌, ℕ, Option, Some, refl, ap}
use Rattle.std.proofs.Common.{codes}
use Rattle.std.proofs.Common.{option_and_then}
use Rattle.plain_text.specs.Numbers.{number_up_to}
use Rattle.clap.specs.Simple.{Shape, built, matches_of}
use Rattle.clap.specs.Takes.{takes}
use Rattle.clap.specs.Walk.{Held, Text, Walk, nothing_held, walk_from}
use Rattle.clap.proofs.OnLiterals.{clap_on_literals}
use Rattle.commands.specs.Words.Words.{Question}
use Rattle.commands.specs.Words.Matched.{question_matched, verify_app}
use Rattle.commands.proofs.OfWords.PlainWords.{IsPlainWord}
use Rattle.commands.proofs.OfWords.Walked.{IsRead, at_idle, placed, read_none, read_placed, rows_are}
use Rattle.commands.proofs.OfWords.Walked.{taken}

abbrev shape : Shape
shape = (built verify_app).top

-- the words, none of which is a flag
pub record ArePlain (tables journal peer ordinal given sent : Text) : Type 0 where
  pub tables_plain : IsPlainWord tables
  pub journal_plain : IsPlainWord journal
  pub peer_plain : IsPlainWord peer
  pub ordinal_plain : IsPlainWord ordinal
  pub given_plain : IsPlainWord given
  pub sent_plain : IsPlainWord sent

module _ (tables journal peer ordinal given sent : Text) where
  abbrev words : List Text
  words = tables ∷ journal ∷ peer ∷ ordinal ∷ given ∷ sent ∷ []

  abbrev held_1 : Held
  held_1 = (placed shape 1 tables nothing_held).held

  abbrev held_2 : Held
  held_2 = (placed shape 2 journal held_1).held

  abbrev held_3 : Held
  held_3 = (placed shape 3 peer held_2).held

  abbrev held_4 : Held
  held_4 = (placed shape 4 ordinal held_3).held

  abbrev held_5 : Held
  held_5 = (placed shape 5 given held_4).held

  abbrev end : Walk
  end = placed shape 6 sent held_5

  last_read : ArePlain tables journal peer ordinal given sent
      → IsRead shape (at_idle 4 held_3) end (ordinal ∷ given ∷ sent ∷ [])
  unfolding clap_on_literals
  last_read plain =
      read_placed shape 4 held_3 (at_idle 5 held_4) end ordinal (given ∷ sent ∷ [])
      plain.ordinal_plain refl refl
      (read_placed shape 5 held_4 (at_idle 6 held_5) end given (sent ∷ [])
      plain.given_plain refl refl
      (read_placed shape 6 held_5 end end sent [] plain.sent_plain refl refl (read_none shape end)))

  read : ArePlain tables journal peer ordinal given sent
      → IsRead shape (walk_from nothing_held) end words
  unfolding clap_on_literals
  read plain =
      read_placed shape 1 nothing_held (at_idle 2 held_1) end tables
      (journal ∷ peer ∷ ordinal ∷ given ∷ sent ∷ []) plain.tables_plain refl refl
      (read_placed shape 2 held_1 (at_idle 3 held_2) end journal
      (peer ∷ ordinal ∷ given ∷ sent ∷ []) plain.journal_plain refl refl
      (read_placed shape 3 held_2 (at_idle 4 held_3) end peer (ordinal ∷ given ∷ sent ∷ [])
      plain.peer_plain refl refl (last_read plain)))

  pub verify_taken : ArePlain tables journal peer ordinal given sent
      → takes verify_app (codes "verify" ∷ words) ≡ true
  unfolding clap_on_literals
  verify_taken plain =
      taken verify_app (codes "verify") words end refl refl (read plain) refl refl

  -- the question with a number that was read
  abbrev asked : ℕ → Question
  asked number = record {
    tables = tables;
    journal = journal;
    peer = peer;
    ordinal = number;
    given = given;
    sent = sent;
  }

  pub verify_asked : ArePlain tables journal peer ordinal given sent → (number : ℕ)
      → number_up_to (2 ^ 64 - 1) ordinal ≡ Some number
      → question_matched (matches_of verify_app (codes "verify" ∷ words)) ≡ Some (asked number)
  unfolding clap_on_literals
  verify_asked plain number is =
      ap question_matched (rows_are verify_app (codes "verify") words end refl refl (read plain))
      ∙ ap (λ (o : Option ℕ). option_and_then (λ (n : ℕ). Some (asked n)) o) is
