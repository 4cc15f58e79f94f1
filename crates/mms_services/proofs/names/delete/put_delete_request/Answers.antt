use Rattle.std.proofs.Common.{rules, ◌≡◌, ◌<◌, ◌++◌, ◌∙◌, length, sym, ap, subst, OnOk, true, false}
use Rattle.std.specs.Int.{w64}
use Rattle.std.specs.Int.RustNames.{FitsSigned}
use Rattle.std.proofs.lemmas.Int.{to_z-of_z}
use Rattle.ber_values.specs.Writing.{written, integer_octets}
use Rattle.ber_values.specs.declared.lengths.TheConstants.{MOST_LENGTH}
use Rattle.mms_services.specs.Names.Deletes.{is_specific}
use Rattle.mms_services.proofs.OfNames.SetsWritten.{delete-named, delete-scoped}
use Rattle.mms_services.proofs.names.delete.put_delete_request.Goals as goal

pub put_sets-requires : goal.put_sets-requires
put_sets-requires c =
    let r = c.args.request.now in
    let fits : FitsSigned w64 r.scope = search rules in
    let is : is_specific r.scope ≡ true =
    sym (ap is_specific (to_z-of_z w64 r.scope fits)) ∙ sym c.is_specific.ensures
    ∙ c.if-is_specific.true in
    subst (λ os. length os < MOST_LENGTH) (delete-named r is) c.requires

pub returns-then-is_specific-clause-ok : goal.returns-then-is_specific-clause-ok
returns-then-is_specific-clause-ok c =
    let r = c.args.request.now in
    let fits : FitsSigned w64 r.scope = search rules in
    let is : is_specific r.scope ≡ true =
    sym (ap is_specific (to_z-of_z w64 r.scope fits)) ∙ sym c.is_specific.ensures
    ∙ c.if-is_specific.true in
    subst (λ os. OnOk c.put_sets.result (c.put_sets.new.out.items ≡ c.args.out.now.items ++ os))
    (sym (delete-named r is)) c.put_sets.ensures.ok

pub returns-clause-ok : goal.returns-clause-ok
returns-clause-ok c =
    let r = c.args.request.now in
    let fits : FitsSigned w64 r.scope = search rules in
    let scope = to_z-of_z w64 r.scope fits in
    let is : is_specific r.scope ≡ false =
    sym (ap is_specific scope) ∙ sym c.is_specific.ensures ∙ c.if-is_specific.false in
    subst
    (λ os. OnOk c.write_integer.result (c.write_integer.new.out.items ≡ c.args.out.now.items ++ os))
    (ap (λ z. written 128 (integer_octets z)) scope ∙ sym (delete-scoped r is))
    c.write_integer.ensures.ok
