-- Elements that may stand between those that a message names, and selectors.
use Rattle.std.specs.Prelude.{ℕ, List, Option, None}
use Rattle.ber_values.specs.Grammars.{Grammar, gives, then_in, map_in}
use Rattle.ber_values.specs.Passing.{pass_in, is_other}
use Rattle.ber_values.specs.Parts.{choose_in}
use Rattle.ber_values.specs.Leaves.{selector}

-- all context-specific elements at the front, up to one of these tags
unfoldable pub others : List ℕ → Grammar (Unit {0})
others named = pass_in (is_other 128 191 named)

-- something that others may precede
unfoldable pub after_others : {X : Type 0} → List ℕ → Grammar X → Grammar X
after_others named g = then_in (others named) (λ u. g)

-- something that others may follow
unfoldable pub before_others : {X : Type 0} → List ℕ → Grammar X → Grammar X
before_others named g = then_in g (λ x. map_in (λ u. x) (others named))

-- a selector, if there is one: an empty one is none
unfoldable pub selector_element : ℕ → Grammar (Option (List ℕ))
selector_element tag = choose_in tag selector (gives None)
