-- A serial that was kept as a mark tells what has changed since.
use Rattle.std.proofs.Common.{◌≡◌, ℕ, ◌+◌, ◌<◌, ◌≤◌, Bool, true, false, List, [], ◌∷◌, ◌++◌}
use Rattle.std.proofs.Common.{refl, ap, subst, ⊎_elim, arith, ◌∙◌, length, append_assoc}
use Rattle.std.specs.Prelude.{if◌then◌else◌, IsTrue}
use Rattle.std.proofs.lemmas.Bool.{cases_eq, eq-eqb, ne_eqb}
use Rattle.tase_points.specs.declared.kind.Kind.{Kind}
use Rattle.point_db.specs.declared.store.TheConstants.{SERIAL_LIMIT}
use Rattle.point_db.specs.Updates.{Update, Updates, change_total, is_change_of}
use Rattle.point_db.specs.Updates.{serial_of, HasChanged, ChangesSince}
use Rattle.point_db.specs.Stored.{last_serial}
use Rattle.point_db.proofs.Serials.{last-within, changed-last}

pub few_changes : (kinds : List Kind) (past : Updates) → change_total kinds past ≤ length past
few_changes kinds [] = omega arith
few_changes kinds (u ∷ before) = elim (is_change_of kinds before u) as
    (λ b. (if b then 1 else 0) + change_total kinds before ≤ length (u ∷ before)) [
      | true ↦ omega (arith, few_changes kinds before)
      | false ↦ omega (arith, few_changes kinds before)
    ]

total_kept : (kinds : List Kind) (since past : Updates)
    → change_total kinds past ≤ change_total kinds (since ++ past)
total_kept kinds [] past = omega arith
total_kept kinds (u ∷ since) past = elim (is_change_of kinds (since ++ past) u) as
    (λ b. change_total kinds past ≤ (if b then 1 else 0) + change_total kinds (since ++ past)) [
      | true ↦ omega (arith, total_kept kinds since past)
      | false ↦ omega (arith, total_kept kinds since past)
    ]

pub serial_kept : (kinds : List Kind) (since past : Updates)
    → serial_of kinds past ≤ serial_of kinds (since ++ past)
serial_kept kinds since past = omega (arith, total_kept kinds since past)

more_since : (kinds : List Kind) (u : Update) (since past : Updates) (p : ℕ)
    → ChangesSince kinds since past p → ChangesSince kinds (u ∷ since) past p
more_since kinds u since past p has = record {
  newer = u ∷ has.newer;
  value = has.value;
  older = has.older;
  is = ap (λ xs. u ∷ xs) has.is;
  change = has.change;
}

-- an update of the point itself
since_here : (kinds : List Kind) (u : Update) (since past : Updates) (changing : Bool)
    → is_change_of kinds (since ++ past) u ≡ changing
    → (serial_of kinds past < last_serial kinds (since ++ past) u.point
    → ChangesSince kinds since past u.point)
    → serial_of kinds past < (if changing then serial_of kinds (u ∷ since ++ past)
    else last_serial kinds (since ++ past) u.point)
    → ChangesSince kinds (u ∷ since) past u.point
since_here kinds u since past true is rest above = record {
  newer = [];
  value = u.value;
  older = since;
  is = refl;
  change = is;
}
since_here kinds u since past false is rest above =
    more_since kinds u since past u.point (rest above)

since_from : (kinds : List Kind) (since past : Updates) (p : ℕ)
    → serial_of kinds past < last_serial kinds (since ++ past) p → ChangesSince kinds since past p
since_from kinds [] past p above = absurd omega (arith, last-within kinds past p)
since_from kinds (u ∷ since) past p above = ⊎_elim
    (λ same. subst (λ at. serial_of kinds past < last_serial kinds (u ∷ since ++ past) at
    → ChangesSince kinds (u ∷ since) past at) same
    (λ more. since_here kinds u since past (is_change_of kinds (since ++ past) u) refl
    (since_from kinds since past u.point) (rw (eq-eqb u.point u.point refl) at more))
    above)
    (λ apart. more_since kinds u since past p
    (since_from kinds since past p (rw (ne_eqb u.point p apart) at above)))
    (cases_eq u.point p)

pub changed_since : (kinds : List Kind) (since past : Updates) (p : ℕ)
    → HasChanged kinds (since ++ past) p (serial_of kinds past) → ChangesSince kinds since past p
changed_since kinds since past p has =
    since_from kinds since past p
    (changed-last kinds (since ++ past) p (serial_of kinds past) has)

one_more : (kinds : List Kind) (u : Update) (before : Updates)
    → IsTrue (is_change_of kinds before u)
    → change_total kinds (u ∷ before) ≡ 1 + change_total kinds before
one_more kinds u before change = rw change refl

pub since_changed : (kinds : List Kind) (since past : Updates) (p : ℕ)
    → change_total kinds (since ++ past) ≤ SERIAL_LIMIT → ChangesSince kinds since past p
    → HasChanged kinds (since ++ past) p (serial_of kinds past)
since_changed kinds since past p few has =
    let u : Update = record { point = p; value = has.value } in
    let before : Updates = has.older ++ past in
    let is : since ++ past ≡ has.newer ++ u ∷ before =
    ap (λ xs. xs ++ past) has.is ∙ append_assoc has.newer (u ∷ has.older) past in
    let within : change_total kinds (u ∷ before) ≤ SERIAL_LIMIT =
    omega (arith, rw is at few, total_kept kinds has.newer (u ∷ before)) in
    record {
      later = has.newer;
      value = has.value;
      before = before;
      is = is;
      change = has.change;
      above = omega (
        arith,
        within,
        one_more kinds u before has.change,
        total_kept kinds has.older past,
      );
    }
