-- What a link gives to a connection, item by item.
use Rattle.std.specs.Prelude.{◌≡◌, ℕ, Bool, true, false, List, [], ◌∷◌, flat_map}
use Rattle.std.specs.List.{list_any}

pub data Item : Type 0 where
  -- some octets
  piece : List ℕ → Item
  -- none for now
  idle : Item
  -- none any more
  ended : Item

abbrev pub given_octets : Item → List ℕ
given_octets (piece octets) = octets
given_octets idle = []
given_octets ended = []

-- all octets of an input
abbrev pub text_given : List Item → List ℕ
text_given items = flat_map given_octets items

abbrev pub is_link_end : Item → Bool
is_link_end (piece octets) = false
is_link_end idle = false
is_link_end ended = true

-- whether the link has ended
abbrev pub link_has_ended : List Item → Bool
link_has_ended items = list_any is_link_end items

-- an end is the last item
abbrev pub IsLinkInput : List Item → Type 0
IsLinkInput [] = Unit {0}
IsLinkInput (piece octets ∷ items) = IsLinkInput items
IsLinkInput (idle ∷ items) = IsLinkInput items
IsLinkInput (ended ∷ items) = items ≡ []
