-- What `clap` makes of `client TABLES SCRIPT --connect ADDRESS`.
use Rattle.std.proofs.Common.{◌≡◌, true, List, [], ◌∷◌, inl, inr, Some, None, refl, ap}
use Rattle.std.proofs.Common.{sym, subst, codes, bytes_eq}
use Rattle.std.proofs.lemmas.Slice.Eq.{bytes_eq-Decides}
use Rattle.clap.specs.Simple.{Shape, built, matches_of}
use Rattle.clap.specs.Takes.{takes}
use Rattle.clap.specs.Walk.{Held, Text, Walk, nothing_held, walk_from, walked}
use Rattle.clap.proofs.OnLiterals.{clap_on_literals}
use Rattle.commands.specs.Words.Words.{ClientTask, client_in, is_address, is_connect}
use Rattle.commands.specs.Words.Matched.{client_app, played_matched}
use Rattle.commands.proofs.OfWords.Tests.{both, chosen, not_none, some_is}
use Rattle.commands.proofs.OfWords.PlainWords.{IsPlainWord, plain_name}
use Rattle.commands.proofs.OfWords.Walked.{IsRead, at_idle, at_option, placed, read_more, read_none}
use Rattle.commands.proofs.OfWords.Walked.{read_placed, read_valued, rows_are, taken, valued}

abbrev shape : Shape
shape = (built client_app).top

-- `clap` takes the words, and what its matches name
pub record Plays (tables script : Text) (more : List Text) (task : ClientTask) : Type 0 where
  pub takes_them : takes client_app (codes "client" ∷ tables ∷ script ∷ more) ≡ true
  pub names : played_matched (matches_of client_app (codes "client" ∷ tables ∷ script ∷ more))
      ≡ Some task

module _ (tables script address : Text) where
  abbrev held_1 : Held
  held_1 = (placed shape 1 tables nothing_held).held

  abbrev held_2 : Held
  held_2 = (placed shape 2 script held_1).held

  -- behind the option, which waits for its word
  abbrev held_3 : Held
  held_3 = (walked shape.rules [] (at_idle 3 held_2) (codes "--connect")).held

  abbrev end : Walk
  end = at_idle 3 (valued shape (codes "connect") 3 address held_3).held

  abbrev asked : ClientTask
  asked = record { tables = tables; script = script; address = address }

  read : IsPlainWord tables → IsPlainWord script → IsPlainWord address
      → IsRead shape (walk_from nothing_held) end
      (tables ∷ script ∷ codes "--connect" ∷ address ∷ [])
  unfolding clap_on_literals
  read first second third =
      read_placed shape 1 nothing_held (at_idle 2 held_1) end tables
      (script ∷ codes "--connect" ∷ address ∷ []) first refl refl
      (read_placed shape 2 held_1 (at_idle 3 held_2) end script
      (codes "--connect" ∷ address ∷ []) second refl refl
      (read_more shape (at_idle 3 held_2) (at_option (codes "connect") 3 held_3) end
      (codes "--connect") (address ∷ []) refl refl
      (read_valued shape (codes "connect") 3 held_3 end end address [] third refl
      (read_none shape end))))

  connects : IsPlainWord tables → IsPlainWord script → IsPlainWord address
      → Plays tables script (codes "--connect" ∷ address ∷ []) asked
  unfolding clap_on_literals
  connects first second third =
      let words = tables ∷ script ∷ codes "--connect" ∷ address ∷ [] in
      record {
        takes_them = taken client_app (codes "client") words end refl refl
            (read first second third) refl refl;
        names = ap played_matched
            (rows_are client_app (codes "client") words end refl refl (read first second third));
      }

connected : (tables script option word : Text) (task : ClientTask) → IsPlainWord tables
    → IsPlainWord script → client_in tables script (option ∷ word ∷ []) ≡ Some task
    → Plays tables script (option ∷ word ∷ []) task
connected tables script option word task first second e =
    elim (chosen (is_connect option word) (Some (asked tables script word)) None task e) [
      | inl h ↦
          let k = both (bytes_eq option (codes "--connect")) (is_address word) h.0 in
          let plain = plain_name word k.1 in
          subst (λ (t : ClientTask). Plays tables script (option ∷ word ∷ []) t)
          (some_is (asked tables script word) task h.1)
          (subst (λ (v : Text). Plays tables script (v ∷ word ∷ []) (asked tables script word))
          (sym ((bytes_eq-Decides option (codes "--connect")).0 k.0))
          (connects tables script word first second plain))
      | inr h ↦ absurd (not_none task h.1)
    ]

pub client_read : (tables script : Text) (more : List Text) (task : ClientTask)
    → IsPlainWord tables → IsPlainWord script → client_in tables script more ≡ Some task
    → Plays tables script more task
client_read tables script [] task first second e = absurd (not_none task e)
client_read tables script (a ∷ []) task first second e = absurd (not_none task e)
client_read tables script (option ∷ word ∷ []) task first second e =
    connected tables script option word task first second e
client_read tables script (a ∷ b ∷ c ∷ more) task first second e = absurd (not_none task e)
