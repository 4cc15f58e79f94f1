use Rattle.std.proofs.Common.{◌≡◌, Option, Some, None, true, false, bytes_eq, rules, sym, ap}
use Rattle.std.proofs.Common.{◌∙◌, [], refl}
use Rattle.std.specs.Prelude.{codes}
use Rattle.std.specs.Option.{option_map}
use Rattle.std.proofs.lemmas.Bool.Decides.{Decides-eqb}
use Rattle.std.proofs.lemmas.Slice.Eq.{strip_prefix_is}
use Rattle.bilateral.specs.declared.rows.DeviceRow.{DeviceRow}
use Rattle.tase_views.specs.OwnTables.{own_device}
use Rattle.tase_views.specs.Objects.{Object, NamedObject}
use Rattle.node_core.proofs.OfObjects.DeviceNames.{named_in, named_by_end, named-apart}
use Rattle.node_core.proofs.OfObjects.DeviceNames.{named-by_end}
use Rattle.node_core.proofs.OfObjects.DeviceNames.{nothing_behind, something_behind}
use Rattle.node_core.proofs.objects.naming.object_of_device.Goals as goal
use Rattle.node_core.proofs.objects.naming.object_of_device.Goals.{After-is_empty, Else-is_empty}
use Rattle.node_core.proofs.objects.naming.object_of_device.Goals.{Else-eq, Else-row}

pub returns-in_err-rest-clause-named : goal.returns-in_err-rest-clause-named
returns-in_err-rest-clause-named c =
    let d = own_device c.args.table.now.rows c.args.control.now in
    let name = c.as_slice.ensures.value ∙ ap (λ (r : DeviceRow). r.name) c.device-row.ensures.row in
    rw c.from_residual.ensures
    (ap (option_map (λ (o : NamedObject). o.object))
    (sym (named-apart d c.args.item.now (λ rest is.
    strip_prefix_is Decides-eqb c.args.item.now c.as_slice.result.now None
    c.in_err-rest.ensures.cases rest (rw name is)))))

-- what a name stands for by what stands behind the device's
behind : (c : After-is_empty) (found : Option Object)
    → found
    ≡ named_by_end (own_device c.args.table.now.rows c.args.control.now) c.in_ok-rest.rest.now
    → found ≡ option_map (λ (o : NamedObject). o.object)
    (named_in (own_device c.args.table.now.rows c.args.control.now) c.args.item.now)
behind c found is =
    named-by_end (own_device c.args.table.now.rows c.args.control.now) c.device-row.result.now
    c.args.item.now c.as_slice.result.now c.in_ok-rest.rest found c.device-row.ensures.row
    c.as_slice.ensures.value
    (strip_prefix_is Decides-eqb c.args.item.now c.as_slice.result.now (Some c.in_ok-rest.rest)
    c.in_ok-rest.ensures.cases) is

pub returns-then-is_empty-clause-named : goal.returns-then-is_empty-clause-named
returns-then-is_empty-clause-named c =
    let none : bytes_eq [] c.in_ok-rest.rest.now ≡ true =
    nothing_behind c.in_ok-rest.rest.now (search rules) in
    behind (goal.at.returns-then-is_empty-clause-named c).After-is_empty _ (rw none refl)

some : (c : Else-is_empty) → bytes_eq [] c.in_ok-rest.rest.now ≡ false
some c = something_behind c.in_ok-rest.rest.now (search rules)

pub returns-then-eq-clause-named : goal.returns-then-eq-clause-named
returns-then-eq-clause-named c =
    let at = goal.at.returns-then-eq-clause-named c in
    let tag : bytes_eq (codes "_TAG") c.in_ok-rest.rest.now ≡ true = search rules in
    behind at.After-is_empty _ (rw (some at.Else-is_empty, tag) refl)

no_tag : (c : Else-eq) → bytes_eq (codes "_TAG") c.in_ok-rest.rest.now ≡ false
no_tag c = search rules

pub returns-then-row-clause-named : goal.returns-then-row-clause-named
returns-then-row-clause-named c =
    let at = goal.at.returns-then-row-clause-named c in
    let direct = ap (λ (r : DeviceRow). r.direct) (sym c.device-row.ensures.row) ∙ c.if-row.true in
    behind at.After-is_empty _ (rw (some at.Else-is_empty, no_tag at.Else-eq, direct) refl)

selects : (c : Else-row)
    → (own_device c.args.table.now.rows c.args.control.now).row.direct ≡ false
selects c = ap (λ (r : DeviceRow). r.direct) (sym c.device-row.ensures.row) ∙ c.if-row.false

pub returns-then-eq-2-clause-named : goal.returns-then-eq-2-clause-named
returns-then-eq-2-clause-named c =
    let at = goal.at.returns-then-eq-2-clause-named c in
    let sbo : bytes_eq (codes "_SBO") c.in_ok-rest.rest.now ≡ true = search rules in
    behind at.After-is_empty _
    (rw (some at.Else-is_empty, no_tag at.Else-eq, selects at.Else-row, sbo) refl)

pub returns-then-eq-3-clause-named : goal.returns-then-eq-3-clause-named
returns-then-eq-3-clause-named c =
    let at = goal.at.returns-then-eq-3-clause-named c in
    let sbo : bytes_eq (codes "_SBO") c.in_ok-rest.rest.now ≡ false = search rules in
    let late : bytes_eq (codes "_TIMEOUT") c.in_ok-rest.rest.now ≡ true = search rules in
    behind at.After-is_empty _
    (rw (some at.Else-is_empty, no_tag at.Else-eq, selects at.Else-row, sbo, late) refl)

pub returns-else-eq-3-clause-named : goal.returns-else-eq-3-clause-named
returns-else-eq-3-clause-named c =
    let at = goal.at.returns-else-eq-3-clause-named c in
    let sbo : bytes_eq (codes "_SBO") c.in_ok-rest.rest.now ≡ false = search rules in
    let late : bytes_eq (codes "_TIMEOUT") c.in_ok-rest.rest.now ≡ false = search rules in
    behind at.After-is_empty _
    (rw (some at.Else-is_empty, no_tag at.Else-eq, selects at.Else-row, sbo, late) refl)
