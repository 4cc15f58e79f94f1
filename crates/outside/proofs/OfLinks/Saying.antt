-- What a script gives of the piece at its front.
use Rattle.std.proofs.Common.{◌≡◌, ℕ, ◌+◌, ◌<◌, List, [], ◌∷◌, ◌++◌, length, take, drop, min, refl}
use Rattle.std.proofs.Common.{sym, ◌∙◌, ap, arith, length-take, length-drop}
use Rattle.std.proofs.lemmas.List.{take_min, drop_min, drop-drop, take_at}
use Rattle.outside.specs.Links.LinkAnswers.{piece}
use Rattle.outside.specs.declared.links.script.LinkItem.{LinkItem}
use Rattle.outside.specs.Links.Scripts.{ScriptLeft, script_answer, script_after}

abbrev pub script_left_with : List ℕ → List LinkItem → ScriptLeft
script_left_with begun items = record { begun = begun; items = items }

answer_front : (room : ℕ) (left : List ℕ) (items : List LinkItem) → 0 < length left
    → script_answer room left items ≡ piece (take room left)
answer_front room [] items some = absurd (omega arith)
answer_front room (octet ∷ octets) items some = refl

after_front : (room : ℕ) (left : List ℕ) (items : List LinkItem) → 0 < length left
    → script_after room left items ≡ record { begun = drop room left; items = items }
after_front room [] items some = absurd (omega arith)
after_front room (octet ∷ octets) items some = refl

rest_is_some : (octets : List ℕ) (at : ℕ) → at < length octets → 0 < length (drop at octets)
rest_is_some octets at some = omega (arith, length-drop at octets)

-- the octets that were copied to the front of the buffer are those that fit
pub copied_answer : (octets buf copied : List ℕ) (at room count : ℕ) (items : List LinkItem)
    → at < length octets → count ≡ min room (length (drop at octets))
    → copied ≡ take count (drop at octets)
    → piece (take count (copied ++ drop count buf)) ≡ script_answer room (drop at octets) items
copied_answer octets buf copied at room count items some count_is is =
    let left = drop at octets in
    let size : length copied ≡ count = omega (arith, ap length is, length-take count left) in
    ap piece (take_at copied (drop count buf) count size ∙ is ∙ ap (λ n. take n left) count_is
    ∙ take_min room left)
    ∙ sym (answer_front room left items (rest_is_some octets at some))

-- what is left then
pub copied_after : (octets : List ℕ) (at room count : ℕ) (items : List LinkItem)
    → at < length octets → count ≡ min room (length (drop at octets))
    → script_left_with (drop (at + count) octets) items
    ≡ script_after room (drop at octets) items
copied_after octets at room count items some count_is =
    let left = drop at octets in
    ap (λ (l : List ℕ). script_left_with l items)
    (sym (drop-drop count at octets) ∙ ap (λ n. drop n left) count_is ∙ drop_min room left)
    ∙ sym (after_front room left items (rest_is_some octets at some))
