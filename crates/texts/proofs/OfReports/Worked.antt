-- The texts of reports computed on worked rows, apart from all code.
use Rattle.std.proofs.Common.{◌≡◌, List, [], ◌∷◌, ℕ, true, pos, refl}
use Rattle.std.specs.Prelude.{codes}
use Rattle.std.specs.Fmt.{digits}
use Rattle.mms_data.specs.declared.object_name.Scope.TheVariants.{Vmd, Domain}
use Rattle.mms_data.specs.declared.outcome.Outcome.TheVariants.{Good, Fail}
use Rattle.mms_data.specs.ObjectName.{ObjectName}
use Rattle.mms_data.specs.Datum.{Datum, boolean, integer, unsigned, bits, text, structure, data_of}
use Rattle.tase_views.specs.declared.reply.ReportKind.TheVariants.{Set, Variables}
use Rattle.texts.specs.Reports.ReportTexts.{report_text}

abbrev in_doma : List ℕ → ObjectName
in_doma item = record { scope = Domain (codes "DOMA"); item = item }

abbrev slot : Datum
slot = structure (data_of (integer (pos 1) ∷ text (codes "DOMA") ∷ text (codes "DSTrans1") ∷ []))

abbrev bits_of : ℕ → ℕ → Datum
bits_of count octet = bits (record { count = count; octets = octet ∷ [] })

set-written : report_text
    (Set (in_doma (codes "S1")) (Good slot ∷ Good (bits_of 5 128) ∷ Good (bits_of 8 48) ∷ []))
    ≡ codes "set DOMA/S1 {i1,vDOMA,vDSTrans1} b5.80 b8.30"
unfolding digits
set-written = refl

change-written : report_text
    (Variables (in_doma (codes "LOAD1") ∷ [])
    (Good (structure (data_of (integer (pos 5) ∷ unsigned 3 ∷ []))) ∷ []))
    ≡ codes "vars DOMA/LOAD1={i5,u3}"
unfolding digits
change-written = refl

timeout-written : report_text
    (Variables (in_doma (codes "BRK1_TIMEOUT") ∷ []) (Good (integer (pos 77)) ∷ []))
    ≡ codes "vars DOMA/BRK1_TIMEOUT=i77"
unfolding digits
timeout-written = refl

refusals-written : report_text
    (Variables (in_doma (codes "BUS1") ∷ record { scope = Vmd; item = codes "A B" } ∷ [])
    (Fail 10 ∷ Good (boolean true) ∷ []))
    ≡ codes "vars DOMA/BUS1=!10 vmd:A%20B=T"
unfolding digits
refusals-written = refl

empty_set-written : report_text (Set (in_doma (codes "S1")) []) ≡ codes "set DOMA/S1"
empty_set-written = refl
