-- What is written for specifications is read back.
use Rattle.std.proofs.Common.{ℕ, suc, ◌≤◌, ◌<◌, ◌^◌, List, [], ◌∷◌, length, refl, arith}
use Rattle.std.specs.List.{All}
use Rattle.ber_values.specs.Writing.{written}
use Rattle.ber_values.specs.Parts.{part_in, contents_as}
use Rattle.ber_values.proofs.Capped.{length-written, part_size-most}
use Rattle.ber_values.proofs.Grammars.{choose-written, choose-other}
use Rattle.ber_values.proofs.Pieces.{contents-few}
use Rattle.ber_values.proofs.WrittenParts.{Writes, ends_of, part-writes, all-spelled, WritesEach, WriteAll, list-spelled}
use Rattle.mms_data.specs.ObjectName.{ObjectName, IsName}
use Rattle.mms_data.specs.NameOctets.{one_name, name_octets}
use Rattle.mms_data.proofs.NameWritten.{one_name_begins}
use Rattle.mms_services.specs.declared.access.spec.Spec.{Spec}
use Rattle.mms_services.specs.declared.access.spec.Spec.TheVariants as kinds
use Rattle.mms_services.specs.Access.Specifications.{sole_name, sole_variable, variable, variables, specification, sole_spec, variable_octets, variables_octets, spec_octets, IsSpec, IsNamedSpec}
use Rattle.mms_services.proofs.OfAccess.NamesSized.{name-few}

-- a name, alone
pub sole_name-spelled : (at : ℕ) (n : ObjectName) → IsName n → sole_name.spells at n (name_octets n)
unfolding sole_name
sole_name-spelled at n named = all-spelled one_name at n (name_octets n) (ends_of one_name at n (name_octets n) (one_name_begins n named at))

pub sole_variable-spelled : (at : ℕ) (n : ObjectName) → IsName n
    → sole_variable.spells at n (written 160 (name_octets n))
unfolding sole_variable
sole_variable-spelled at n named =
    let g = part_in 160 sole_name in
    all-spelled g at n (written 160 (name_octets n))
    (ends_of g at n (written 160 (name_octets n))
    (part-writes 160 sole_name at n (name_octets n) (omega (arith, name-few n named)) (sole_name-spelled _ n named)))

variable-writes : (n : ObjectName) → IsName n → WritesEach variable variable_octets n
unfolding variable variable_octets
variable-writes n named =
    let inner = written 160 (name_octets n) in
    let few : length inner < 2 ^ 32 = omega (arith, name-few n named, length-written 160 (name_octets n), part_size-most (length (name_octets n))) in
    record { some = omega arith; writes = λ at. part-writes 48 sole_variable at n inner few (sole_variable-spelled _ n named) }

variables-write : (ns : List ObjectName) → All IsName ns → WriteAll variable variable_octets ns
variables-write [] named = tt
variables-write (n ∷ ns) named = (
  variable-writes n (named 0 n (omega arith)),
  variables-write ns (λ k d lt. named (suc k) d (omega (arith, lt))),
)

-- variables, one or more
pub variables-spelled : (at : ℕ) (ns : List ObjectName) → 1 ≤ length ns → All IsName ns → variables.spells at ns (variables_octets ns)
unfolding variables variables_octets
variables-spelled at ns some named = list-spelled variable variable_octets 1 at ns some (variables-write ns named)

-- what is written for a specification begins what follows it
pub spec-writes : (at : ℕ) (s : Spec) → IsSpec s → IsNamedSpec s → length (spec_octets s) < 2 ^ 32 → Writes specification at s (spec_octets s)
unfolding specification spec_octets contents_as
spec-writes at (kinds.List ns) some named few rest =
    choose-written 160 (contents_as kinds.List variables) (part_in 161 (contents_as kinds.Set sole_name)) at (kinds.List ns) (variables_octets ns) rest (contents-few 160 (variables_octets ns) few)
    (ns, variables-spelled _ ns some named, refl)
spec-writes at (kinds.Set n) some named few rest =
    choose-other 160 (contents_as kinds.List variables) (part_in 161 (contents_as kinds.Set sole_name)) at _ _ refl
    (part-writes 161 (contents_as kinds.Set sole_name) at (kinds.Set n) (name_octets n) (contents-few 161 (name_octets n) few) (n, sole_name-spelled _ n named, refl) rest)

-- and alone in an element
pub sole_spec-spelled : (at : ℕ) (s : Spec) → IsSpec s → IsNamedSpec s → length (spec_octets s) < 2 ^ 32 → sole_spec.spells at s (spec_octets s)
unfolding sole_spec
sole_spec-spelled at s some named few = all-spelled specification at s (spec_octets s) (ends_of specification at s (spec_octets s) (spec-writes at s some named few))
