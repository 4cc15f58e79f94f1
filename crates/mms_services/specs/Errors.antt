-- Answers that a service failed (ISO 9506-2, Confirmed-ErrorPDU).
use Rattle.std.specs.Prelude.{ℕ, ◌+◌, pos, List, [], ◌∷◌, ◌++◌}
use Rattle.ber_values.specs.Grammars.{then_in, map_in}
use Rattle.ber_values.specs.Passing.{pass_in, is_other}
use Rattle.ber_values.specs.Parts.{Contents, part_in, all_in}
use Rattle.ber_values.specs.Leaves.{unsigned}
use Rattle.ber_values.specs.Writing.{written, integer_octets}
use Rattle.mms_services.specs.declared.coded.Coded.{Coded}
use Rattle.mms_services.specs.declared.error.ErrorPdu.{ErrorPdu}
use Rattle.mms_services.specs.Coded.{coded_in}

-- a code of a class from 0 to 15
unfoldable pub error_class : Contents Coded
error_class = all_in (coded_in 128 143)

-- the code, and elements that count for nothing
unfoldable pub service_error : Contents Coded
service_error = all_in
    (then_in (part_in 160 error_class) (λ error.
    map_in (λ u. error) (pass_in (is_other 0 255 []))))

abbrev pub error_of : ℕ → Coded → ErrorPdu
error_of invoke error =
    record { invoke = invoke; class = error.number; code = error.code }

-- the number of the request, and the error
unfoldable pub error_pdu : Contents ErrorPdu
error_pdu = all_in
    (then_in (part_in 128 unsigned) (λ invoke.
    map_in (error_of invoke) (part_in 162 service_error)))

-- ---- the written form

unfoldable pub service_error_octets : ℕ → ℕ → List ℕ
service_error_octets class code = written 162 (written 160 (written (128 + class) (code ∷ [])))

unfoldable pub error_pdu_octets : ErrorPdu → List ℕ
error_pdu_octets e = written 128 (integer_octets (pos e.invoke))
    ++ service_error_octets e.class e.code
