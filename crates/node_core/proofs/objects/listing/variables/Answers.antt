use Rattle.std.proofs.Common.{◌≡◌, ℕ, List, ◌++◌, Bor, Some, None, take_all, get_or, sym}
use Rattle.std.proofs.Common.{append-nil, ap, ◌∙◌, arith}
use Rattle.std.specs.List.{filter_map}
use Rattle.std.specs.Option.{option_map}
use Rattle.bilateral.specs.declared.rows.See.{See}
use Rattle.bilateral.specs.declared.rows.Table.{Table}
use Rattle.node_core.specs.Objects.Found.{offered}
use Rattle.node_core.proofs.OfObjects.Listed.{row_listed, front_listed, variables-listed}
use Rattle.node_core.proofs.OfObjects.Listed.{row_pushed}
use Rattle.node_core.proofs.OfObjects.Listed.{row_passed, domain_listed}
use Rattle.node_core.proofs.objects.listing.variables.Goals as goal
use Rattle.node_core.proofs.objects.listing.variables.Goals.{in-Some+in_ok-push, in_default}

pub loop-see-init : goal.loop-see-init
loop-see-init c =
    let table = offered c.args.table.now in
    c.in_ok-push_domain.ensures
    ∙ ap (λ (names : List (List ℕ)). names
    ++ domain_listed table c.args.scope.now c.args.after.now)
    (c.in_ok-names.ensures table (ap (λ (t : Table). t.domain) (sym c.table-own.ensures.table)))
    ∙ sym (append-nil (front_listed table c.args.scope.now c.args.after.now))

pub returns : goal.returns
returns c =
    let t = c.args.table.now in
    let listed = row_listed t.rows (offered t) c.args.scope.now c.args.after.now in
    let first = front_listed (offered t) c.args.scope.now c.args.after.now in
    c.loop-see.invariant
    ∙ ap (λ (sees : List See). first ++ filter_map listed sees)
    (take_all c.loop-see.see-index c.as_slice-see-items.result.now (omega arith)
    ∙ c.as_slice-see-items.ensures ∙ ap (λ (x : Table). x.sees) c.table-own.ensures.table)
    ∙ sym (variables-listed t c.args.scope.now c.args.after.now)

pub loop-see-preserved : goal.loop-see-preserved
loop-see-preserved c =
    let t = c.args.table.now in
    let listed = row_listed t.rows (offered t) c.args.scope.now c.args.after.now in
    let first = front_listed (offered t) c.args.scope.now c.args.after.now in
    let items = c.as_slice-see-items.result.now in
    let index = c.loop-see.see-index in
    let item = c.see-item.result in
    let here : get_or items index item ≡ item = sym c.see-item.is in
    elim c.match-listed_name.branch [
      | in-Some+in_ok-push w ↦
          let is : listed (get_or items index item) ≡ Some w.in-Some.name.now = ap listed here
          ∙ sym c.listed_name.ensures
          ∙ ap (option_map (λ (n : Bor (List ℕ)). n.now)) w.in-Some.is in
          rw (w.names-is, w.in_ok-push.ensures.items)
          (row_pushed listed first items index item c.loop-see.names.items w.in-Some.name
          (omega arith) is c.loop-see.invariant)
      | in_default w ↦
          let is : listed (get_or items index item) ≡ None = ap listed here
          ∙ sym c.listed_name.ensures
          ∙ ap (option_map (λ (n : Bor (List ℕ)). n.now)) w.in_default.is in
          rw w.names-is (row_passed listed first items index item c.loop-see.names.items
          (omega arith) is c.loop-see.invariant)
    ]
