-- The orders of a plant as lines of text (this project's profile).
use Rattle.std.specs.Prelude.{ℕ, List, [], ◌∷◌, ◌++◌, flat_map, codes}
use Rattle.std.specs.Fmt.{signed_decimal}
use Rattle.plain_text.specs.Escaped.{escaped_text}
use Rattle.bilateral.specs.Rows.{CentreRows, device_of}
use Rattle.sbo_device.specs.declared.order.Order.{Order}

-- an order for a device that is named so, with a value in digits
abbrev pub order_text : List ℕ → List ℕ → List ℕ
order_text name value = codes "order " ++ (name ++ 32 ∷ value)

-- an order to the plant as a line: `order NAME VALUE`
abbrev pub plant_line : CentreRows → Order → List ℕ
plant_line rows order =
    order_text (escaped_text (device_of rows order.device).name) (signed_decimal order.value)
    ++ 10 ∷ []

-- orders to the plant, each a line
abbrev pub plant_text : CentreRows → List Order → List ℕ
plant_text rows orders = flat_map (plant_line rows) orders
