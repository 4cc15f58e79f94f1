-- What `clap` makes of `discover TABLES KEY --connect ADDRESS`.
use Rattle.std.proofs.Common.{◌≡◌, true, List, [], ◌∷◌, inl, inr, Some, None, refl, ap}
use Rattle.std.proofs.Common.{sym, subst, codes, bytes_eq}
use Rattle.std.proofs.lemmas.Slice.Eq.{bytes_eq-Decides}
use Rattle.clap.specs.Simple.{Shape, built, matches_of}
use Rattle.clap.specs.Takes.{takes}
use Rattle.clap.specs.Walk.{Held, Text, Walk, nothing_held, walk_from, walked}
use Rattle.clap.proofs.OnLiterals.{clap_on_literals}
use Rattle.commands.specs.Words.Words.{DiscoverTask, discover_in, is_address, is_connect}
use Rattle.commands.specs.Words.Matched.{discover_app, asked_matched}
use Rattle.commands.proofs.OfWords.Tests.{both, chosen, not_none, some_is}
use Rattle.commands.proofs.OfWords.PlainWords.{IsPlainWord, plain_name}
use Rattle.commands.proofs.OfWords.Walked.{IsRead, at_idle, at_option, placed, read_more, read_none}
use Rattle.commands.proofs.OfWords.Walked.{read_placed, read_valued, rows_are, taken, valued}

abbrev shape : Shape
shape = (built discover_app).top

-- `clap` takes the words, and what its matches name
pub record Asks (tables key : Text) (more : List Text) (task : DiscoverTask) : Type 0 where
  pub takes_them : takes discover_app (codes "discover" ∷ tables ∷ key ∷ more) ≡ true
  pub names : asked_matched (matches_of discover_app (codes "discover" ∷ tables ∷ key ∷ more))
      ≡ Some task

module _ (tables key address : Text) where
  abbrev held_1 : Held
  held_1 = (placed shape 1 tables nothing_held).held

  abbrev held_2 : Held
  held_2 = (placed shape 2 key held_1).held

  -- behind the option, which waits for its word
  abbrev held_3 : Held
  held_3 = (walked shape.rules [] (at_idle 3 held_2) (codes "--connect")).held

  abbrev end : Walk
  end = at_idle 3 (valued shape (codes "connect") 3 address held_3).held

  abbrev asked : DiscoverTask
  asked = record { tables = tables; key = key; address = address }

  read : IsPlainWord tables → IsPlainWord key → IsPlainWord address
      → IsRead shape (walk_from nothing_held) end
      (tables ∷ key ∷ codes "--connect" ∷ address ∷ [])
  unfolding clap_on_literals
  read first second third =
      read_placed shape 1 nothing_held (at_idle 2 held_1) end tables
      (key ∷ codes "--connect" ∷ address ∷ []) first refl refl
      (read_placed shape 2 held_1 (at_idle 3 held_2) end key
      (codes "--connect" ∷ address ∷ []) second refl refl
      (read_more shape (at_idle 3 held_2) (at_option (codes "connect") 3 held_3) end
      (codes "--connect") (address ∷ []) refl refl
      (read_valued shape (codes "connect") 3 held_3 end end address [] third refl
      (read_none shape end))))

  connects : IsPlainWord tables → IsPlainWord key → IsPlainWord address
      → Asks tables key (codes "--connect" ∷ address ∷ []) asked
  unfolding clap_on_literals
  connects first second third =
      let words = tables ∷ key ∷ codes "--connect" ∷ address ∷ [] in
      record {
        takes_them = taken discover_app (codes "discover") words end refl refl
            (read first second third) refl refl;
        names = ap asked_matched
            (rows_are discover_app (codes "discover") words end refl refl (read first second third));
      }

connected : (tables key option word : Text) (task : DiscoverTask) → IsPlainWord tables
    → IsPlainWord key → discover_in tables key (option ∷ word ∷ []) ≡ Some task
    → Asks tables key (option ∷ word ∷ []) task
connected tables key option word task first second e =
    elim (chosen (is_connect option word) (Some (asked tables key word)) None task e) [
      | inl h ↦
          let k = both (bytes_eq option (codes "--connect")) (is_address word) h.0 in
          let plain = plain_name word k.1 in
          subst (λ (t : DiscoverTask). Asks tables key (option ∷ word ∷ []) t)
          (some_is (asked tables key word) task h.1)
          (subst (λ (v : Text). Asks tables key (v ∷ word ∷ []) (asked tables key word))
          (sym ((bytes_eq-Decides option (codes "--connect")).0 k.0))
          (connects tables key word first second plain))
      | inr h ↦ absurd (not_none task h.1)
    ]

pub discover_read : (tables key : Text) (more : List Text) (task : DiscoverTask)
    → IsPlainWord tables → IsPlainWord key → discover_in tables key more ≡ Some task
    → Asks tables key more task
discover_read tables key [] task first second e = absurd (not_none task e)
discover_read tables key (a ∷ []) task first second e = absurd (not_none task e)
discover_read tables key (option ∷ word ∷ []) task first second e =
    connected tables key option word task first second e
discover_read tables key (a ∷ b ∷ c ∷ more) task first second e = absurd (not_none task e)
