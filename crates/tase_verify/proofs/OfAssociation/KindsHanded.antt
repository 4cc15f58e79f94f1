-- The kinds of the turns that are handed out.
use Rattle.std.proofs.Common.{◌≡◌, ℕ, ◌≤◌, drop, length}
use Rattle.std.proofs.Common.{Bool, true, false, List, [], ◌∷◌, ◌++◌, Option, Some, None}
use Rattle.std.proofs.Common.{refl, sym, ap, ◌∙◌, append_assoc}
use Rattle.std.specs.Prelude.{if◌then◌else◌, map, option_map}
use Rattle.std.specs.List.{filter_map, cons_option}
use Rattle.std.proofs.lemmas.List.{map-append, append-nil, drop_all}
use Rattle.stack_assoc.specs.declared.input.StackIn.{StackIn}
use Rattle.tase_conn.specs.Map.Turns.{Turn, turn_in}
use Rattle.tase_verify.specs.declared.association.turns.TurnKind.{TurnKind}
use Rattle.tase_verify.specs.declared.association.turns.TurnKind.TheVariants as kinds
use Rattle.tase_verify.specs.Association.Asking.{last_turns, turns_of_inputs}
use Rattle.tase_verify.specs.Association.Saying.{kind_of_turn}

abbrev pub kinds_in : List StackIn → List TurnKind
kinds_in handed = filter_map (λ (input : StackIn). option_map kind_of_turn (turn_in input)) handed

one_handed : (found : Option Turn) (turns : List Turn) (others : List TurnKind)
    → map kind_of_turn turns ≡ others
    → map kind_of_turn (cons_option found turns)
    ≡ cons_option (option_map kind_of_turn found) others
one_handed None turns others e = e
one_handed (Some turn) turns others e =
    ap (λ (ks : List TurnKind). kind_of_turn turn ∷ ks) e

kinds_handed : (handed : List StackIn)
    → map kind_of_turn (filter_map turn_in handed) ≡ kinds_in handed
kinds_handed [] = refl
kinds_handed (input ∷ handed) =
    one_handed (turn_in input) (filter_map turn_in handed) (kinds_in handed) (kinds_handed handed)

last_kinds : (broken ended : Bool)
    → map kind_of_turn (last_turns broken ended)
    ≡ (if broken then kinds.Breaks ∷ [] else []) ++ (if ended then kinds.Ends ∷ [] else [])
last_kinds true true = refl
last_kinds true false = refl
last_kinds false true = refl
last_kinds false false = refl

-- with those behind what was handed out
pub all_kinds : (handed : List StackIn) (broken ended : Bool)
    → (kinds_in handed ++ (if broken then kinds.Breaks ∷ [] else []))
    ++ (if ended then kinds.Ends ∷ [] else [])
    ≡ map kind_of_turn (turns_of_inputs handed broken ended)
all_kinds handed broken ended =
    append_assoc (kinds_in handed) (if broken then kinds.Breaks ∷ [] else [])
    (if ended then kinds.Ends ∷ [] else [])
    ∙ ap (λ (ks : List TurnKind). kinds_in handed ++ ks) (sym (last_kinds broken ended))
    ∙ ap (λ (ks : List TurnKind). ks ++ map kind_of_turn (last_turns broken ended))
    (sym (kinds_handed handed))
    ∙ sym (map-append kind_of_turn (filter_map turn_in handed) (last_turns broken ended))

-- once all were handed out, these are appended
pub kinds_end : (first next all : List TurnKind) (handed : List StackIn) (i : ℕ)
    (broken ended : Bool) → first ++ kinds_in (drop i handed) ≡ kinds_in handed
    → length handed ≤ i → next ≡ first ++ (if broken then kinds.Breaks ∷ [] else [])
    → all ≡ next ++ (if ended then kinds.Ends ∷ [] else [])
    → all ≡ map kind_of_turn (turns_of_inputs handed broken ended)
kinds_end first next all handed i broken ended e l n a =
    let whole : first ≡ kinds_in handed =
    sym (append-nil first)
    ∙ ap (λ (rest : List StackIn). first ++ kinds_in rest) (sym (drop_all i handed l)) ∙ e in
    a ∙ ap (λ (ks : List TurnKind). ks ++ (if ended then kinds.Ends ∷ [] else []))
    (n ∙ ap (λ (ks : List TurnKind). ks ++ (if broken then kinds.Breaks ∷ [] else [])) whole)
    ∙ all_kinds handed broken ended
