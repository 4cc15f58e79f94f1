-- Each class that may be listed, and the others.
use Rattle.std.proofs.Common.{◌≡◌, ℕ, Bool, true, false, ◌&&◌, List, [], ◌∷◌, map, filter, refl}
use Rattle.std.proofs.Common.{sym, ap, ◌∙◌, subst}
use Rattle.std.specs.Prelude.{ℤ}
use Rattle.std.specs.Int.{w64}
use Rattle.std.specs.List.{All}
use Rattle.std.specs.Ordering.{int_eq}
use Rattle.std.proofs.lemmas.Int.{to_z-of_z}
use Rattle.mms_data.specs.ObjectName.{IsIdentifier}
use Rattle.bilateral.specs.declared.rows.Table.{Table}
use Rattle.tase_views.specs.declared.call.TheConstants.{NAMED_VARIABLES, NAMED_VARIABLE_LISTS}
use Rattle.tase_views.specs.declared.call.TheConstants.{DOMAINS}
use Rattle.tase_views.specs.OwnTables.{OwnTable, is_scope_of}
use Rattle.tase_views.specs.Objects.{objects}
use Rattle.tase_views.specs.Answers.{set_names}
use Rattle.tase_views.specs.NameLists.{first_of, in_order, is_after, is_vmd, names_listed}
use Rattle.node_core.specs.Objects.Found.{offered}
use Rattle.node_core.proofs.OfObjects.Listed.{variables-named, domain-named, sets-named}
use Rattle.node_core.proofs.OfObjects.Listed.{listed_in_force}
use Rattle.node_core.proofs.OfObjects.Listed.{listed_variables, listed_domain, listed_nothing}
use Rattle.node_core.proofs.OfObjects.Listed.{listed_sets}
use Rattle.node_core.proofs.objects.listing.list_names.Goals as goal
use Rattle.node_core.proofs.objects.listing.list_names.Goals.{}
use Rattle.node_core.proofs.objects.listing.list_names.Goals.{}
use Rattle.node_core.proofs.objects.listing.list_names.Goals.{else-is_class-2-via-then-is_class-2+else-is_vmd}
use Rattle.node_core.proofs.objects.listing.list_names.Goals.{else-is_class-2-via-else-is_class-2}

and_apart : (a b : Bool) → b ≡ false → (a && b) ≡ false
and_apart true b e = e
and_apart false b e = refl

pub first_of-requires : goal.first_of-requires
first_of-requires c =
    subst (λ (names : List (List ℕ)). All IsIdentifier names)
    (sym (ap (map (λ name. name.now)) c.as_mut_slice.ensures.value ∙ c.in_ok-names.ensures))
    (variables-named c.args.table.now c.args.scope.now c.args.after.now c.table.ensures.centre
    c.table.ensures.lawful c.table.ensures.controls)

pub first_of-requires-then-is_vmd : goal.first_of-requires-then-is_vmd
first_of-requires-then-is_vmd c =
    subst (λ (names : List (List ℕ)). All IsIdentifier names)
    (sym (ap (map (λ name. name.now)) c.as_mut_slice-then-is_vmd.ensures.value
    ∙ c.in_ok-names-2.ensures))
    (domain-named c.table.result.now.domain c.args.after.now
    (rw c.table.ensures.table c.table.ensures.lawful.domain))

pub first_of-requires-then-is_class-3 : goal.first_of-requires-then-is_class-3
first_of-requires-then-is_class-3 c =
    let table = offered c.args.table.now in
    let domain = ap (λ (x : Table). x.domain) (sym c.table.ensures.table) in
    subst (λ (names : List (List ℕ)). All IsIdentifier names)
    (sym (ap (map (λ name. name.now)) c.as_mut_slice-then-is_class-3.ensures.value
    ∙ c.in_ok-names-3.ensures table domain))
    (sets-named (is_scope_of table c.args.scope.now false) c.args.book.now.sets c.args.after.now
    c.requires.named)

pub returns-then-is_class-clause-value : goal.returns-then-is_class-clause-value
returns-then-is_class-clause-value c = λ tables view in_force b.
    let table = offered c.args.table.now in
    let domain = ap (λ (x : Table). x.domain) (sym c.table.ensures.table) in
    let plain = to_z-of_z w64 c.args.class c.ranges.class in
    let own = sym (c.is_foreign.ensures table domain) ∙ c.if-is_foreign.false in
    let variables = sym (c.is_class.ensures ∙ ap (λ (z : ℤ). int_eq z NAMED_VARIABLES) plain) in
    listed_in_force c.first_of.result _ c.args.table.now tables view c.args.class c.args.scope.now
    c.args.after.now in_force
    (ap (λ (names : List (List ℕ)). first_of (in_order names))
    (ap (map (λ name. name.now)) c.as_mut_slice.ensures.value ∙ c.in_ok-names.ensures)
    ∙ sym (listed_variables table (objects table) (set_names tables view) c.args.class
    c.args.scope.now c.args.after.now own
    (variables ∙ c.if-is_class.true)))
    c.first_of.ensures.value

pub returns-then-is_vmd-clause-value : goal.returns-then-is_vmd-clause-value
returns-then-is_vmd-clause-value c = λ tables view in_force b.
    let table = offered c.args.table.now in
    let domain = ap (λ (x : Table). x.domain) (sym c.table.ensures.table) in
    let plain = to_z-of_z w64 c.args.class c.ranges.class in
    let own = sym (c.is_foreign.ensures table domain) ∙ c.if-is_foreign.false in
    let variables = sym (c.is_class.ensures ∙ ap (λ (z : ℤ). int_eq z NAMED_VARIABLES) plain) in
    listed_in_force c.first_of-then-is_vmd.result _ c.args.table.now tables view c.args.class
    c.args.scope.now c.args.after.now in_force
    (ap (λ (names : List (List ℕ)). first_of (in_order names))
    (ap (map (λ name. name.now)) c.as_mut_slice-then-is_vmd.ensures.value ∙ c.in_ok-names-2.ensures
    ∙ ap (λ (d : List ℕ). filter (is_after c.args.after.now) (d ∷ [])) (sym domain))
    ∙ sym (listed_domain table (objects table) (set_names tables view) c.args.class
    c.args.scope.now c.args.after.now own
    (variables ∙ c.if-is_class.false)
    (sym (c.is_class-2.ensures ∙ ap (λ (z : ℤ). int_eq z DOMAINS) plain) ∙ c.if-is_class-2.true)
    (sym c.is_vmd.ensures ∙ c.if-is_vmd.true)))
    c.first_of-then-is_vmd.ensures.value

pub returns-then-is_class-3-clause-value : goal.returns-then-is_class-3-clause-value
returns-then-is_class-3-clause-value c = λ tables view in_force b.
    let table = offered c.args.table.now in
    let domain = ap (λ (x : Table). x.domain) (sym c.table.ensures.table) in
    let plain = to_z-of_z w64 c.args.class c.ranges.class in
    let own = sym (c.is_foreign.ensures table domain) ∙ c.if-is_foreign.false in
    let variables = sym (c.is_class.ensures ∙ ap (λ (z : ℤ). int_eq z NAMED_VARIABLES) plain) in
    let apart : (int_eq c.args.class DOMAINS && is_vmd c.args.scope.now) ≡ false =
    elim c.else-is_class-2.branch [
      | else-is_class-2-via-then-is_class-2+else-is_vmd w ↦
          and_apart _ _ (sym w.is_vmd.ensures ∙ w.if-is_vmd.false)
      | else-is_class-2-via-else-is_class-2 w ↦
          ap (λ (b : Bool). b && is_vmd c.args.scope.now)
          (sym (c.is_class-2.ensures ∙ ap (λ (z : ℤ). int_eq z DOMAINS) plain)
          ∙ w.if-is_class-2.false)
    ] in
    let lists = sym (c.is_class-3.ensures ∙ ap (λ (z : ℤ). int_eq z NAMED_VARIABLE_LISTS) plain) in
    listed_in_force c.first_of-then-is_class-3.result _ c.args.table.now tables view c.args.class
    c.args.scope.now c.args.after.now in_force
    (ap (λ (names : List (List ℕ)). first_of (in_order names))
    (ap (map (λ name. name.now)) c.as_mut_slice-then-is_class-3.ensures.value
    ∙ c.in_ok-names-3.ensures table domain)
    ∙ sym (listed_sets table tables view c.args.book.now (objects table) c.args.class
    c.args.scope.now c.args.after.now b own
    (variables ∙ c.if-is_class.false) apart (lists ∙ c.if-is_class-3.true)))
    c.first_of-then-is_class-3.ensures.value

pub returns-clause-value : goal.returns-clause-value
returns-clause-value c = λ tables view in_force b.
    let table = offered c.args.table.now in
    let domain = ap (λ (x : Table). x.domain) (sym c.table.ensures.table) in
    let plain = to_z-of_z w64 c.args.class c.ranges.class in
    let own = sym (c.is_foreign.ensures table domain) ∙ c.if-is_foreign.false in
    let variables = sym (c.is_class.ensures ∙ ap (λ (z : ℤ). int_eq z NAMED_VARIABLES) plain) in
    let apart : (int_eq c.args.class DOMAINS && is_vmd c.args.scope.now) ≡ false =
    elim c.else-is_class-2.branch [
      | else-is_class-2-via-then-is_class-2+else-is_vmd w ↦
          and_apart _ _ (sym w.is_vmd.ensures ∙ w.if-is_vmd.false)
      | else-is_class-2-via-else-is_class-2 w ↦
          ap (λ (b : Bool). b && is_vmd c.args.scope.now)
          (sym (c.is_class-2.ensures ∙ ap (λ (z : ℤ). int_eq z DOMAINS) plain)
          ∙ w.if-is_class-2.false)
    ] in
    let lists = sym (c.is_class-3.ensures ∙ ap (λ (z : ℤ). int_eq z NAMED_VARIABLE_LISTS) plain) in
    sym (listed_nothing table (objects table) (set_names tables view) c.args.class
    c.args.scope.now c.args.after.now own
    (variables ∙ c.if-is_class.false) apart (lists ∙ c.if-is_class-3.false))
    ∙ ap (λ (those : OwnTable). names_listed those (objects those) (set_names tables view)
    c.args.class c.args.scope.now c.args.after.now) in_force
