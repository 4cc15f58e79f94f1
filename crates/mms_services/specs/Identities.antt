-- Who answers (ISO 9506-2, Identify-Request and Identify-Response).
use Rattle.std.specs.Prelude.{ℕ, List, [], ◌∷◌, ◌++◌}
use Rattle.ber_values.specs.Grammars.{Grammar, then_in, map_in}
use Rattle.ber_values.specs.Parts.{Contents, part_in, maybe_in, all_in}
use Rattle.ber_values.specs.Leaves.{visible, raw, fixed}
use Rattle.ber_values.specs.Writing.{written}

-- nothing
unfoldable pub identify_request : Contents (Unit {0})
identify_request = fixed []

-- the abstract syntaxes, which may be absent and aren't looked at
unfoldable pub some_syntaxes : Grammar (Unit {0})
some_syntaxes = map_in (λ syntaxes. tt) (maybe_in 163 raw)

-- a vendor, a model and a revision, which are any texts
unfoldable pub identify_response : Contents (Unit {0})
identify_response = all_in
    (then_in (part_in 128 visible) (λ vendor.
    then_in (part_in 129 visible) (λ model.
    then_in (part_in 130 visible) (λ revision.
    some_syntaxes))))

-- ---- the written form

-- the texts CENTRE, TASE2 and 1
unfoldable pub identify_response_octets : List ℕ
identify_response_octets = written 128 (67 ∷ 69 ∷ 78 ∷ 84 ∷ 82 ∷ 69 ∷ [])
    ++ (written 129 (84 ∷ 65 ∷ 83 ∷ 69 ∷ 50 ∷ []) ++ written 130 (49 ∷ []))
