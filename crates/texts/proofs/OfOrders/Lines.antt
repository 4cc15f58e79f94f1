-- Lines of orders, written one after another.
use Rattle.std.proofs.Common.{◌≡◌, ℕ, ◌+◌, ◌<◌, List, [], ◌∷◌, ◌++◌, length, take, drop, get_or}
use Rattle.std.proofs.Common.{true, false, sym, ap, ◌∙◌, subst}
use Rattle.std.specs.Prelude.{flat_map}
use Rattle.std.proofs.lemmas.List.{append-nil, take_more, take-append-drop}
use Rattle.std.proofs.lemmas.Grind.{flat_map-append}
use Rattle.outside.specs.Sink.{SinkTold, AppendsAll, AppendsPart}
use Rattle.outside.proofs.Writing.{Appends-as, Appends-append, AppendsPart-append}
use Rattle.outside.proofs.Writing.{AppendsPart-front}

module _ {X : Type 0} (f : X → List ℕ) (xs : List X) (i : ℕ) (d : X) (below : i < length xs) where
  with_next : flat_map f (take i xs) ++ f (get_or xs i d) ≡ flat_map f (take (i + 1) xs)
  with_next = sym (ap (flat_map f) (take_more xs i d below)
      ∙ flat_map-append f (take i xs) (get_or xs i d ∷ [])
      ∙ ap (λ (l : List ℕ). flat_map f (take i xs) ++ l) (append-nil (f (get_or xs i d))))

  -- all, from the item at this place on
  all_from : flat_map f (take i xs) ++ f (get_or xs i d) ++ flat_map f (drop (i + 1) xs)
      ≡ flat_map f xs
  all_from = ap (λ (l : List ℕ). l ++ flat_map f (drop (i + 1) xs)) with_next
      ∙ sym (flat_map-append f (take (i + 1) xs) (drop (i + 1) xs))
      ∙ ap (flat_map f) (take-append-drop (i + 1) xs)

  -- the text of one more item is written
  pub one_more : (before mid after : SinkTold)
      → AppendsAll before mid (flat_map f (take i xs)) → AppendsAll mid after (f (get_or xs i d))
      → AppendsAll before after (flat_map f (take (i + 1) xs))
  one_more before mid after first next =
      Appends-as before after (flat_map f (take i xs) ++ f (get_or xs i d))
      (flat_map f (take (i + 1) xs)) false with_next
      (Appends-append before mid after (flat_map f (take i xs)) (f (get_or xs i d)) false first
      next)

  -- the writing of one more item fails
  pub breaks_off : (before mid after : SinkTold)
      → AppendsAll before mid (flat_map f (take i xs))
      → AppendsPart mid after (f (get_or xs i d)) true
      → AppendsPart before after (flat_map f xs) true
  breaks_off before mid after first part =
      subst (λ (all : List ℕ). AppendsPart before after all true) all_from
      (AppendsPart-front before after (flat_map f (take i xs) ++ f (get_or xs i d))
      (flat_map f (drop (i + 1) xs)) true
      (AppendsPart-append before mid after (flat_map f (take i xs)) (f (get_or xs i d)) true first
      part))
