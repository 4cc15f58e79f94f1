-- PPDUs (ISO 8823-1, CP-type, CPA-type and User-data).
use Rattle.std.specs.Prelude.{ℕ, Bool, false, List, [], ◌∷◌, Option, ◌⊎◌, Result, Ok, Err}
use Rattle.std.specs.Prelude.{if◌then◌else◌}
use Rattle.ber_values.specs.declared.fault.BerFault.{BerFault}
use Rattle.ber_values.specs.declared.fault.Span.{Span}
use Rattle.ber_values.specs.Reading.{Taken}
use Rattle.ber_values.specs.Grammars.{Grammar, then_in, map_in, branch_in, has_tag}
use Rattle.ber_values.specs.Passing.{is_other}
use Rattle.ber_values.specs.Parts.{Contents, part_in, whole_in, all_in}
use Rattle.ber_values.specs.Leaves.{fixed}
use Rattle.ber_values.specs.Runs.{AnyElement, BeginsPassed}
use Rattle.presentation_profile.specs.declared.offers.Offered.{Offered}
use Rattle.ber_values.specs.declared.external.External.{External}
use Rattle.presentation_profile.specs.declared.ppdu.Ppdu.{Ppdu}
use Rattle.presentation_profile.specs.declared.ppdu.Ppdu.TheVariants.{Connect, Accept, Carry}
use Rattle.presentation_profile.specs.Offers.{offers}
use Rattle.presentation_profile.specs.Others.{others, after_others, before_others, selector_element}
use Rattle.presentation_profile.specs.Results.{results}
use Rattle.presentation_profile.specs.UserData.{user_data}
use Rattle.presentation_profile.specs.declared.expected.Expected.{Expected}
use Rattle.presentation_profile.specs.Expecting.{connect_id, accept_id, carry_id, are_judged}

-- the elements that a connect names: the calling and the called selector, and the offers
abbrev pub connect_named : List ℕ
connect_named = 129 ∷ 130 ∷ 164 ∷ []

abbrev pub connect_of : Option (List ℕ) → List Offered → External → Ppdu
connect_of called contexts user = Connect called contexts user.id user.body

-- the selectors, of which the called one counts
unfoldable pub connect_selectors : Grammar (Option (List ℕ))
connect_selectors = after_others connect_named (then_in (selector_element 129) (λ calling.
    after_others connect_named (selector_element 130)))

-- the selectors, the offers and the user data of a connect
unfoldable pub connect : Expected → Grammar Ppdu
connect e =
    then_in connect_selectors (λ called.
    then_in (after_others connect_named offers) (λ contexts.
    map_in (connect_of called contexts)
    (after_others connect_named (before_others connect_named
    (user_data (connect_id e contexts))))))

-- the elements that an accept names: the selector that responds, and the results
abbrev pub accept_named : List ℕ
accept_named = 131 ∷ 165 ∷ []

abbrev pub accept_of : Option (List ℕ) → List ℕ → External → Ppdu
accept_of called found user = Accept called found user.id user.body

-- the selector, the results and the user data of an accept
unfoldable pub accept : Expected → Grammar Ppdu
accept e =
    then_in (after_others accept_named (selector_element 131)) (λ called.
    then_in (after_others accept_named (results (are_judged e))) (λ found.
    map_in (accept_of called found)
    (after_others accept_named (before_others accept_named (user_data (accept_id e))))))

-- whether the first octet is of the context class, and tags neither offers nor results
abbrev pub is_between : ℕ → Bool
is_between first = is_other 128 191 (164 ∷ 165 ∷ []) first

-- octets begin with elements of the context class, none of which are offers or results, and go on
-- with the tag of results
abbrev pub HasResultsFirst : List ℕ → Type 0
HasResultsFirst octets = (before : List AnyElement) × (after : List ℕ)
    × BeginsPassed is_between octets before (165 ∷ after)

-- whether results stand where passing over elements came to
abbrev pub come_to_results : Result (Taken (Unit {0})) BerFault → Bool
come_to_results (Ok t) = has_tag 165 t.rest
come_to_results (Err f) = false

-- the test for that, read from the left
abbrev pub has_results : List ℕ → Bool
has_results octets = come_to_results ((others (164 ∷ 165 ∷ [])).reading 0 octets)

-- one grammar where something holds of the octets, else another; a test tells which is read
abbrev pub case_in : {X : Type 0} → (List ℕ → Type 0) → (List ℕ → Bool) → Grammar X → Grammar X
    → Grammar X
case_in {X} Holds test one other = record {
  begins = λ at octets t. (Holds octets × one.begins at octets t)
      ⊎ ((Holds octets → ⊥) × other.begins at octets t);
  fault = λ at octets f. (Holds octets × one.fault at octets f)
      ⊎ ((Holds octets → ⊥) × other.fault at octets f);
  reading = λ at octets.
      if test octets then one.reading at octets else other.reading at octets;
}

-- an accept where results come before any offers, else a connect
abbrev pub accept_or_connect : Expected → Grammar Ppdu
accept_or_connect e = case_in HasResultsFirst has_results (accept e) (connect e)

-- the parameters of the normal mode
unfoldable pub parameters : Expected → Grammar Ppdu
parameters e = part_in 162 (all_in (accept_or_connect e))

-- the normal mode
unfoldable pub mode : Grammar (Unit {0})
mode = part_in 160 (all_in (part_in 128 (fixed (1 ∷ []))))

-- the mode and the parameters, in either order
unfoldable pub set_up_contents : Expected → Contents Ppdu
set_up_contents e = all_in (branch_in (has_tag 160)
    (then_in mode (λ u. parameters e))
    (then_in (parameters e) (λ p. map_in (λ u. p) mode)))

-- what sets up a connection
unfoldable pub set_up : Expected → Grammar Ppdu
set_up e = part_in 49 (set_up_contents e)

abbrev pub carry_of : External → Ppdu
carry_of user = Carry user.id user.body

-- where the body of a PPDU stands
abbrev pub body_of : Ppdu → Span
body_of (Connect _ _ _ body) = body
body_of (Accept _ _ _ body) = body
body_of (Carry _ body) = body

-- user data alone, or else what sets up a connection, up to the end
unfoldable pub ppdu : Expected → Grammar Ppdu
ppdu e =
    whole_in (branch_in (has_tag 97) (map_in carry_of (user_data (carry_id e))) (set_up e))
