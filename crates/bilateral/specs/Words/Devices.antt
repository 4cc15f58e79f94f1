-- What a line of a table text says of a device beside its name.
use Rattle.std.specs.Prelude.{◌≡◌, ℕ, Bool, true, false, IsTrue, ◌&&◌, if◌then◌else◌, List, []}
use Rattle.std.specs.Prelude.{◌∷◌, Option, Some, None, ℤ, pos, negsuc, int_le, option_and_then}
use Rattle.std.specs.Prelude.{bytes_eq, codes}
use Rattle.std.specs.Option.{option_map}
use Rattle.plain_text.specs.Numbers.{integer_word_within}
use Rattle.sbo_device.specs.declared.kind.CommandKind.{CommandKind}
use Rattle.sbo_device.specs.declared.kind.CommandKind.TheVariants.{Command, Setpoint}
use Rattle.bilateral.specs.declared.words.device_form.DeviceForm.{DeviceForm}

-- the signed number of 16 bits that a word is
abbrev pub short_in : List ℕ → Option ℤ
short_in word = integer_word_within (negsuc 32767) (pos 32767) word

-- a number, and 0 for one below
abbrev pub natural_of : ℤ → ℕ
natural_of (pos n) = n
natural_of (negsuc n) = 0

-- the span that a word is: a signed number of 32 bits, which below 0 counts as 0
abbrev pub span_in : List ℕ → Option ℕ
span_in word = option_map natural_of (integer_word_within (negsuc 2147483647) (pos 2147483647) word)

-- a setpoint's range, if its lowest value isn't above its highest
abbrev pub range_of : ℤ → ℤ → Option CommandKind
range_of low high = if int_le low high then Some (Setpoint low high) else None

-- `LOW HIGH`
abbrev pub range_in : List ℕ → List ℕ → Option CommandKind
range_in low high =
    option_and_then (λ l. option_and_then (range_of l) (short_in high)) (short_in low)

-- what follows `direct`: nothing
abbrev pub direct_form : CommandKind → List (List ℕ) → Option DeviceForm
direct_form kind [] = Some (record { kind = kind; direct = true; checkback = pos 0; span = 0 })
direct_form kind (word ∷ more) = None

-- what follows `sbo`: `CHECKBACK MS`
abbrev pub sbo_form : CommandKind → List (List ℕ) → Option DeviceForm
sbo_form kind (checkback ∷ span ∷ []) =
    option_and_then
    (λ c. option_map (λ s. record { kind = kind; direct = false; checkback = c; span = s })
    (span_in span)) (short_in checkback)
sbo_form kind _ = None

-- how a device is operated: after a selection, or directly
abbrev pub form_in : CommandKind → List (List ℕ) → Option DeviceForm
form_in kind [] = None
form_in kind (mode ∷ more) =
    if bytes_eq mode (codes "sbo") then sbo_form kind more
    else (if bytes_eq mode (codes "direct") then direct_form kind more else None)

-- what follows `setpoint`: `LOW HIGH` and how it is operated
abbrev pub setpoint_form : List (List ℕ) → Option DeviceForm
setpoint_form (low ∷ high ∷ more) = option_and_then (λ kind. form_in kind more) (range_in low high)
setpoint_form _ = None

-- what a device takes, and how it is operated
abbrev pub order_in : List (List ℕ) → Option DeviceForm
order_in [] = None
order_in (command ∷ more) =
    if bytes_eq command (codes "command") then form_in Command more
    else (if bytes_eq command (codes "setpoint") then setpoint_form more else None)

-- a signed number of 16 bits
abbrev pub is_short : ℤ → Bool
is_short z = int_le (negsuc 32767) z && int_le z (pos 32767)

-- a setpoint's range is one of numbers of 16 bits, in order
abbrev pub is_range : CommandKind → Bool
is_range Command = true
is_range (Setpoint low high) = is_short low && is_short high && int_le low high

abbrev pub IsRange : CommandKind → Type 0
IsRange kind = IsTrue (is_range kind)

-- what a line of a device keeps
pub record IsDeviceLine (form : DeviceForm) : Type 0 where
  pub range : IsRange form.kind
  pub short : IsTrue (is_short form.checkback)
  pub no_checkback : IsTrue form.direct → form.checkback ≡ pos 0
  pub no_span : IsTrue form.direct → form.span ≡ 0
