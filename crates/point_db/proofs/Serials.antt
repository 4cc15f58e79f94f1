-- A point has changed since a number exactly where the serial at its last change is above it.
use Rattle.std.proofs.Common.{◌≡◌, ◌==◌, ℕ, ◌+◌, ◌<◌, ◌≤◌, Bool, true, false, List, [], ◌∷◌, ◌++◌}
use Rattle.std.proofs.Common.{refl, ap, subst, ⊎_elim, arith, min}
use Rattle.std.specs.Prelude.{if◌then◌else◌, ◌&&◌, IsTrue}
use Rattle.std.proofs.lemmas.Bool.{cases_eq, eq-eqb, ne_eqb}
use Rattle.tase_points.specs.declared.kind.Kind.{Kind}
use Rattle.tase_points.specs.Sample.{Sample}
use Rattle.tase_points.specs.Values.{is_change}
use Rattle.point_db.specs.declared.store.TheConstants.{SERIAL_LIMIT}
use Rattle.point_db.specs.Updates.{Update, Updates, last_value, change_total, is_change_of}
use Rattle.point_db.specs.Updates.{serial_of, HasChanged}
use Rattle.point_db.specs.Stored.{last_serial}

serial-rises : (kinds : List Kind) (u : Update) (before : Updates)
    → serial_of kinds before ≤ serial_of kinds (u ∷ before)
serial-rises kinds u before = elim (is_change_of kinds before u) as
    (λ b. min (change_total kinds before) SERIAL_LIMIT
    ≤ min ((if b then 1 else 0) + change_total kinds before) SERIAL_LIMIT)
    [ true ↦ omega arith | false ↦ omega arith ]

pub last-within : (kinds : List Kind) (past : Updates) (p : ℕ)
    → last_serial kinds past p ≤ serial_of kinds past
last-within kinds [] p = omega arith
last-within kinds (u ∷ before) p = elim ((u.point == p) && is_change_of kinds before u) as
    (λ b. (if b then serial_of kinds (u ∷ before) else last_serial kinds before p)
    ≤ serial_of kinds (u ∷ before)) [
      | true ↦ omega arith
      | false ↦ omega (arith, last-within kinds before p, serial-rises kinds u before)
    ]

more_changed : (kinds : List Kind) (u : Update) (before : Updates) (p m : ℕ)
    → HasChanged kinds before p m → HasChanged kinds (u ∷ before) p m
more_changed kinds u before p m has = record {
  later = u ∷ has.later;
  value = has.value;
  before = has.before;
  is = ap (λ xs. u ∷ xs) has.is;
  change = has.change;
  above = has.above;
}

-- an update of the point itself
changed_here : (kinds : List Kind) (u : Update) (before : Updates) (m : ℕ) (changing : Bool)
    → is_change_of kinds before u ≡ changing
    → (m < last_serial kinds before u.point → HasChanged kinds before u.point m)
    → m < (if changing then serial_of kinds (u ∷ before) else last_serial kinds before u.point)
    → HasChanged kinds (u ∷ before) u.point m
changed_here kinds u before m true is rest above = record {
  later = [];
  value = u.value;
  before = before;
  is = refl;
  change = is;
  above = above;
}
changed_here kinds u before m false is rest above =
    more_changed kinds u before u.point m (rest above)

pub changed-from : (kinds : List Kind) (past : Updates) (p m : ℕ)
    → m < last_serial kinds past p → HasChanged kinds past p m
changed-from kinds [] p m above = absurd omega arith
changed-from kinds (u ∷ before) p m above = ⊎_elim
    (λ same. subst (λ at. m < last_serial kinds (u ∷ before) at → HasChanged kinds (u ∷ before) at m)
    same
    (λ more. changed_here kinds u before m (is_change_of kinds before u) refl
    (changed-from kinds before u.point m) (rw (eq-eqb u.point u.point refl) at more))
    above)
    (λ apart. more_changed kinds u before p m
    (changed-from kinds before p m (rw (ne_eqb u.point p apart) at above)))
    (cases_eq u.point p)

last-kept : (kinds : List Kind) (u : Update) (before : Updates) (p : ℕ)
    → last_serial kinds before p ≤ last_serial kinds (u ∷ before) p
last-kept kinds u before p = elim ((u.point == p) && is_change_of kinds before u) as
    (λ b. last_serial kinds before p
    ≤ (if b then serial_of kinds (u ∷ before) else last_serial kinds before p)) [
      | true ↦ omega (arith, last-within kinds before p, serial-rises kinds u before)
      | false ↦ omega arith
    ]

last_behind : (kinds : List Kind) (later before : Updates) (p m : ℕ) (value : Sample)
    → IsTrue (is_change (last_value kinds before p) value)
    → m < serial_of kinds (record { point = p; value = value } ∷ before)
    → m < last_serial kinds (later ++ record { point = p; value = value } ∷ before) p
last_behind kinds [] before p m value change above =
    rw (eq-eqb p p refl, change) (rw change at above)
last_behind kinds (u ∷ later) before p m value change above =
    omega (
      arith,
      last_behind kinds later before p m value change above,
      last-kept kinds u (later ++ record { point = p; value = value } ∷ before) p,
    )

pub changed-last : (kinds : List Kind) (past : Updates) (p m : ℕ)
    → HasChanged kinds past p m → m < last_serial kinds past p
changed-last kinds past p m has =
    rw has.is (last_behind kinds has.later has.before p m has.value has.change has.above)
