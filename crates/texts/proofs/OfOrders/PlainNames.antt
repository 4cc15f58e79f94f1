-- The names of devices stand for themselves in escaped text.
use Rattle.std.proofs.Common.{◌≡◌, ℕ, zero, suc, true, ◌||◌, ◌==◌, List, [], ◌∷◌}
use Rattle.std.proofs.Common.{◌++◌, ℤ, All, refl, ap, sym, ◌∙◌, arith}
use Rattle.std.proofs.lemmas.Bool.{cond-true}
use Rattle.std.specs.Prelude.{slice_index_or}
use Rattle.std.specs.Fmt.{signed_decimal}
use Rattle.std.specs.List.{list_all}
use Rattle.std.specs.Char.{is_ascii_alphabetic, is_ascii_alphanumeric}
use Rattle.std.proofs.lemmas.Bool.{false≢true, and_parts}
use Rattle.std.proofs.lemmas.Bool.Decides.{nat_tests}
use Rattle.std.proofs.lemmas.List.Elements.{All-head, All-tail}
use Rattle.plain_text.specs.Escaped.{is_plain, escaped_octet, escaped_text}
use Rattle.bilateral.specs.Words.Words.{is_plain_name}
use Rattle.bilateral.specs.declared.rows.DeviceRow.{DeviceRow}
use Rattle.bilateral.specs.Rows.{CentreRows, IsDevice, IsCentre, no_device, device_of}
use Rattle.texts.specs.Orders.PlantLines.{order_text}

plain_in_names : (octet : ℕ) → (is_ascii_alphanumeric octet || (octet == 95)) ≡ true
    → is_plain octet ≡ true
plain_in_names octet in_name = grind (arith, nat_tests)

plain_letter : (octet : ℕ) → is_ascii_alphabetic octet ≡ true → is_plain octet ≡ true
plain_letter octet letter = grind (arith, nat_tests)

plain_more : (octet : ℕ) (more rest : List ℕ) → is_plain octet ≡ true → rest ≡ more
    → escaped_octet octet ++ rest ≡ octet ∷ more
plain_more octet more rest plain same =
    ap (λ (front : List ℕ). front ++ rest) (cond-true (is_plain octet) _ _ plain)
    ∙ ap (λ (l : List ℕ). octet ∷ l) same

escaped_more : (octets : List ℕ)
    → list_all (λ octet. is_ascii_alphanumeric octet || (octet == 95)) octets ≡ true
    → escaped_text octets ≡ octets
escaped_more [] each = refl
escaped_more (octet ∷ octets) each =
    let parts = and_parts (is_ascii_alphanumeric octet || (octet == 95)) _ each in
    plain_more octet octets (escaped_text octets) (plain_in_names octet parts.0)
    (escaped_more octets parts.1)

escaped_plain_name : (name : List ℕ) → is_plain_name name ≡ true → escaped_text name ≡ name
escaped_plain_name [] named = absurd (false≢true named)
escaped_plain_name (first ∷ more) named =
    let front = and_parts _ _ (and_parts _ _ named).0 in
    plain_more first more (escaped_text more) (plain_letter first front.0)
    (escaped_more more front.1)

rows_escaped : (rows : List DeviceRow) → All IsDevice rows → (device : ℕ)
    → escaped_text (slice_index_or rows device no_device).name
    ≡ (slice_index_or rows device no_device).name
rows_escaped [] each device = refl
rows_escaped (row ∷ rows) each zero =
    escaped_plain_name row.name (and_parts _ _ (All-head IsDevice row rows each).named).0
rows_escaped (row ∷ rows) each (suc device) =
    rows_escaped rows (All-tail IsDevice row rows each) device

-- the name of a device is its own escaped text
pub device_escaped : (rows : CentreRows) (device : ℕ) → IsCentre rows
    → escaped_text (device_of rows device).name ≡ (device_of rows device).name
device_escaped rows device lawful = rows_escaped rows.devices lawful.devices device

-- the text of an order, of its device's name and its value in digits
pub text_spelled : (rows : CentreRows) (device : ℕ) (value : ℤ) (name digits : List ℕ)
    → IsCentre rows → name ≡ (device_of rows device).name → digits ≡ signed_decimal value
    → order_text name digits
    ≡ order_text (escaped_text (device_of rows device).name) (signed_decimal value)
text_spelled rows device value name digits lawful named spelled =
    ap (λ (n : List ℕ). order_text n digits) (named ∙ sym (device_escaped rows device lawful))
    ∙ ap (λ (d : List ℕ). order_text (escaped_text (device_of rows device).name) d) spelled
