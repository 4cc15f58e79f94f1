use Rattle.std.proofs.Common.{rules, ◌≡◌, ◌∙◌, length, sym, ap, true, false}
use Rattle.std.specs.Int.{w64}
use Rattle.std.specs.Int.RustNames.{FitsSigned}
use Rattle.std.proofs.lemmas.Int.{to_z-of_z}
use Rattle.ber_values.specs.Lengths.{capped}
use Rattle.ber_values.specs.Writing.{integer_octets}
use Rattle.ber_values.proofs.Capped.{capped-written}
use Rattle.mms_services.specs.Names.Deletes.{set_names_octets, is_specific}
use Rattle.mms_services.proofs.OfNames.SetsWritten.{delete-named, delete-scoped, scope-len}
use Rattle.mms_services.proofs.names.delete.delete_request_len.Goals as goal

pub returns-then-is_specific : goal.returns-then-is_specific
returns-then-is_specific c =
    let r = c.args.request.now in
    let fits : FitsSigned w64 r.scope = search rules in
    let scope = to_z-of_z w64 r.scope fits in
    let is : is_specific r.scope ≡ true =
    sym (ap is_specific scope) ∙ sym c.is_specific.ensures ∙ c.if-is_specific.true in
    c.part_len.ensures
    ∙ capped-written 161 c.set_names_len.result (set_names_octets r.sets)
    (c.set_names_len.ensures ∙ ap (λ xs. capped (length (set_names_octets xs))) c.as_slice.ensures)
    ∙ ap (λ os. capped (length os)) (sym (delete-named r is))

pub returns : goal.returns
returns c =
    let r = c.args.request.now in
    let fits : FitsSigned w64 r.scope = search rules in
    let scope = to_z-of_z w64 r.scope fits in
    let is : is_specific r.scope ≡ false =
    sym (ap is_specific scope) ∙ sym c.is_specific.ensures ∙ c.if-is_specific.false in
    scope-len c.integer_len.result c.part_len-2.result (integer_octets r.scope)
    (c.integer_len.ensures.value ∙ ap (λ z. length (integer_octets z)) scope)
    c.integer_len.ensures.few c.part_len-2.ensures
    ∙ ap (λ os. capped (length os)) (sym (delete-scoped r is))
