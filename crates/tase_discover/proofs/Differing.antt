-- The lines of what differs, one scope after another, and that there are none.
use Rattle.std.proofs.Common.{◌≡◌, ℕ, ◌+◌, ◌<◌, false, ◌&&◌, List, [], ◌∷◌, ◌++◌, length}
use Rattle.std.proofs.Common.{flat_map, sym, ap, ◌∙◌, append_assoc, arith, eqb, subst}
use Rattle.std.specs.Prelude.{nat_eq}
use Rattle.std.proofs.lemmas.Bool.{eq-eqb, ne_eqb}
use Rattle.std.proofs.lemmas.List.{length-append}
use Rattle.std.proofs.lemmas.Grind.{flat_map-append}
use Rattle.plain_text.specs.Extends.{Extends}
use Rattle.plain_text.proofs.Extended.{Extends-append}
use Rattle.mms_data.specs.declared.object_name.Scope.{Scope}
use Rattle.mms_data.specs.declared.object_name.Scope.TheVariants.{Vmd, Domain}
use Rattle.mms_data.specs.ObjectName.{ObjectName}
use Rattle.tase_views.specs.OwnTables.{OwnTable}
use Rattle.tase_discover.specs.Listings.{ListingSeen, missing_in, missing, extra, missing_line}
use Rattle.tase_discover.specs.Listings.{extra_line, differences, nothing_differs, is_empty}

-- what begins with items that grew begins with what they were
pub begins_with : (first shown more after : List ℕ) → shown ≡ first ++ more → Extends shown after
    → Extends first after
begins_with first shown more after is e =
    Extends-append first more after (subst (λ (s : List ℕ). Extends s after) is e)

module _ (table : OwnTable) (s : ListingSeen) (domain : Scope)
    (same : domain ≡ Domain table.domain) (old one two three : List ℕ)
    (vmd : one ≡ old ++ flat_map missing_line (missing_in table s Vmd))
    (own : two ≡ one ++ flat_map missing_line (missing_in table s domain))
    (more : three ≡ two ++ flat_map extra_line (extra table s)) where
  lines_told : two ≡ old ++ flat_map missing_line (missing table s)
  lines_told =
      let a = flat_map missing_line (missing_in table s Vmd) in
      let b = flat_map missing_line (missing_in table s (Domain table.domain)) in
      own ∙ ap (λ (d : Scope). one ++ flat_map missing_line (missing_in table s d)) same
      ∙ ap (λ (os : List ℕ). os ++ b) vmd ∙ append_assoc old a b
      ∙ ap (λ (os : List ℕ). old ++ os) (sym (flat_map-append missing_line
      (missing_in table s Vmd) (missing_in table s (Domain table.domain))))

  pub differences_told : three ≡ old ++ differences table s
  differences_told =
      more ∙ ap (λ (os : List ℕ). os ++ flat_map extra_line (extra table s)) lines_told
      ∙ append_assoc old (flat_map missing_line (missing table s))
      (flat_map extra_line (extra table s))

abbrev both_lines : List ObjectName → List ObjectName → List ℕ
both_lines some others = flat_map missing_line some ++ flat_map extra_line others

longer : (n k : ℕ) → 0 < k → eqb (n + k) n ≡ false
longer n k some = ne_eqb (n + k) n (λ e. absurd (omega (arith, e, some)))

some_missing : (name : ObjectName) (more : List ℕ) → 0 < length (missing_line name ++ more)
some_missing name more = omega arith

some_extra : (name : ObjectName) (more : List ℕ) → 0 < length (extra_line name ++ more)
some_extra name more = omega arith

no_lines : (n : ℕ) (some others : List ObjectName)
    → eqb (n + length (both_lines some others)) n ≡ (is_empty some && is_empty others)
no_lines n [] [] = eq-eqb (n + 0) n (omega arith)
no_lines n [] (name ∷ others) =
    longer n (length (both_lines [] (name ∷ others)))
    (some_extra name (flat_map extra_line others))
no_lines n (name ∷ some) others =
    longer n (length (both_lines (name ∷ some) others))
    (omega (
      arith,
      some_missing name (flat_map missing_line some),
      length-append (flat_map missing_line (name ∷ some)) (flat_map extra_line others),
    ))

pub differs_told : (table : OwnTable) (s : ListingSeen) (old new : List ℕ)
    → new ≡ old ++ differences table s
    → nat_eq (length new) (length old) ≡ nothing_differs table s
differs_told table s old new told =
    ap (λ (n : ℕ). nat_eq n (length old))
    (ap length told ∙ length-append old (differences table s))
    ∙ no_lines (length old) (missing table s) (extra table s)
