use Rattle.std.proofs.Common.{true, ◌∷◌, [], List, ℕ, ap, subst, ◌∙◌, rules}
use Rattle.std.specs.Fmt.{signed_decimal}
use Rattle.std.specs.Int.{w64}
use Rattle.std.specs.Int.RustNames.{FitsSigned}
use Rattle.std.proofs.lemmas.Int.{to_z-of_z}
use Rattle.std.proofs.lemmas.Result.{err_from_is_err_and}
use Rattle.plain_text.specs.Escaped.{escaped_text}
use Rattle.outside.specs.Sink.{AppendsPart, AppendsAll}
use Rattle.outside.proofs.Writing.{AppendsPart-front, WritesAll-then}
use Rattle.bilateral.specs.Rows.{device_of}
use Rattle.texts.specs.Orders.PlantLines.{order_text}
use Rattle.texts.proofs.OfOrders.PlainNames.{text_spelled}
use Rattle.texts.proofs.orders.plant_line.write_order.Goals as goal

pub returns-in_err-write_text : goal.returns-in_err-write_text
returns-in_err-write_text g c =
    let p = err_from_is_err_and c.from_residual.result c.from_residual.ensures.1 in
    let rows = c.args.centre.now in
    let order = c.args.order.now in
    let old = g.K.Sink.told c.args.plant.now in
    let now = g.K.Sink.told c.write_text.new.plant in
    let fits : FitsSigned w64 order.value = search rules in
    let spelled = text_spelled rows order.device order.value c.device_name.result.now
    c.as_bytes.result.now c.device_name.ensures.lawful c.device_name.ensures.name
    (c.as_bytes.ensures.value ∙ c.format-value.ensures.text
    ∙ ap signed_decimal (to_z-of_z w64 order.value fits)) in
    rw p.1 (AppendsPart-front old now
    (order_text (escaped_text (device_of rows order.device).name) (signed_decimal order.value))
    (10 ∷ []) true
    (subst (λ (text : List ℕ). AppendsPart old now text true) spelled c.in_err-write_text.ensures))

pub returns : goal.returns
returns g c =
    let rows = c.args.centre.now in
    let order = c.args.order.now in
    let old = g.K.Sink.told c.args.plant.now in
    let now = g.K.Sink.told c.write_text.new.plant in
    let fits : FitsSigned w64 order.value = search rules in
    let spelled = text_spelled rows order.device order.value c.device_name.result.now
    c.as_bytes.result.now c.device_name.ensures.lawful c.device_name.ensures.name
    (c.as_bytes.ensures.value ∙ c.format-value.ensures.text
    ∙ ap signed_decimal (to_z-of_z w64 order.value fits)) in
    WritesAll-then old now (g.K.Sink.told c.write_all.new.sink)
    (order_text (escaped_text (device_of rows order.device).name) (signed_decimal order.value))
    (10 ∷ []) c.write_all.result
    (subst (λ (text : List ℕ). AppendsAll old now text) spelled c.in_ok-write_text.ensures)
    c.write_all.ensures
