-- APDUs (ISO 8650-1, ACSE-apdu).
use Rattle.std.specs.Prelude.{ℕ, List}
use Rattle.ber_values.specs.Grammars.{Grammar}
use Rattle.ber_values.specs.Parts.{choose_in, part_in, contents_as, whole_in}
use Rattle.ber_values.specs.Leaves.{raw}
use Rattle.acse_assoc.specs.declared.apdu.Apdu.{Apdu}
use Rattle.acse_assoc.specs.declared.apdu.Apdu.TheVariants.{Aarq, Aare, Rlrq, Rlre, Abrt}
use Rattle.acse_assoc.specs.declared.expected.Expected.{Expected}
use Rattle.acse_assoc.specs.Requests.{request}
use Rattle.acse_assoc.specs.Responses.{response}

-- what may hold anything
abbrev pub as_it_is : Apdu → List ℕ → Apdu
as_it_is value octets = value

-- an APDU; the contents of the last three aren't looked at
unfoldable pub one_apdu : Expected → Grammar Apdu
one_apdu e =
    choose_in 96 (contents_as Aarq (request e))
    (choose_in 97 (contents_as Aare (response e))
    (choose_in 98 (contents_as (as_it_is Rlrq) raw)
    (choose_in 99 (contents_as (as_it_is Rlre) raw)
    (part_in 100 (contents_as (as_it_is Abrt) raw)))))

-- an APDU, alone
unfoldable pub apdu : Expected → Grammar Apdu
apdu e = whole_in (one_apdu e)
