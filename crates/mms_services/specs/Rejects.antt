-- Answers that a PDU isn't understood (ISO 9506-2, RejectPDU).
use Rattle.std.specs.Prelude.{ℕ, ◌+◌, pos, Option, Some, None, List, [], ◌∷◌, ◌++◌}
use Rattle.ber_values.specs.Grammars.{then_in, map_in}
use Rattle.ber_values.specs.Parts.{Contents, maybe_in, all_in}
use Rattle.ber_values.specs.Leaves.{unsigned}
use Rattle.ber_values.specs.Writing.{written, integer_octets}
use Rattle.mms_services.specs.declared.coded.Coded.{Coded}
use Rattle.mms_services.specs.declared.reject.RejectPdu.{RejectPdu}
use Rattle.mms_services.specs.Coded.{coded_in}

abbrev pub reject_of : Option ℕ → Coded → RejectPdu
reject_of invoke reason =
    record { invoke = invoke; kind = reason.number; code = reason.code }

-- the number of the request, if there is one, and a code of a kind from 1 to 15
unfoldable pub reject_pdu : Contents RejectPdu
reject_pdu = all_in
    (then_in (maybe_in 128 unsigned) (λ invoke.
    map_in (reject_of invoke) (coded_in 129 143)))

-- ---- the written form

abbrev pub some_invoke_octets : Option ℕ → List ℕ
some_invoke_octets None = []
some_invoke_octets (Some invoke) = written 128 (integer_octets (pos invoke))

unfoldable pub reason_octets : ℕ → ℕ → List ℕ
reason_octets kind code = written (128 + kind) (code ∷ [])

unfoldable pub reject_pdu_octets : RejectPdu → List ℕ
reject_pdu_octets r = some_invoke_octets r.invoke ++ reason_octets r.kind r.code
