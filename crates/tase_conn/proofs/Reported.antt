-- What is said of reports, one after another.
use Rattle.std.proofs.Common.{◌≡◌, ℕ, ℤ, pos, Bool, true, false, List, [], ◌∷◌, ◌++◌}
use Rattle.std.proofs.Common.{Option, Some, None, refl, sym}
use Rattle.std.specs.Prelude.{int_lt, if◌then◌else◌}
use borrow.Author.Differences.{lt-true}
use Rattle.mms_services.specs.declared.pdu.MmsPdu.{MmsPdu}
use Rattle.mms_services.specs.PduOctets.{pdu_len}
use Rattle.stack_assoc.specs.declared.wire.setup.AssociationSetup.{AssociationSetup}
use Rattle.stack_assoc.specs.Saying.{says_conclude}
use Rattle.tase_views.specs.declared.reply.ReportKind.{ReportKind}
use Rattle.tase_views.specs.declared.reply.ReportKind.TheVariants as reports
use Rattle.tase_conn.specs.Map.Replied.{pdu_of_report}
use Rattle.tase_conn.specs.Map.Out.{said, reports_said, first_too_long}
use Rattle.tase_conn.specs.Noting.{len_above, said_up_to}

-- no report concludes
pub report_quiet : (report : ReportKind) → says_conclude (pdu_of_report report) ≡ false
report_quiet (reports.Set set results) = refl
report_quiet (reports.Variables names results) = refl

some_none : (len : ℕ) → (let o : Option ℕ = Some len in o) ≡ None → ⊥
some_none len e = absurd cc

-- what is said and found of a report, and of those behind it
module _ (setup : AssociationSetup) (detail : ℤ) (report : ReportKind) (others : List ReportKind)
  where
    abbrev pdu : MmsPdu
    pdu = pdu_of_report report

    abbrev is_long : Bool
    is_long = int_lt detail (pos (pdu_len pdu))

    -- one that isn't too long is said, and then the others
    short_one : (b : Bool) → (if b then Some (pdu_len pdu) else None) ≡ None
        → ((if b then Some (pdu_len pdu) else first_too_long detail others)
        ≡ first_too_long detail others)
        × ((if b then [] else said setup pdu ++ reports_said setup detail others)
        ≡ (if b then [] else said setup pdu) ++ reports_said setup detail others)
    short_one true e = absurd (some_none (pdu_len pdu) e)
    short_one false e = (refl, refl)

    pub one_said : len_above detail pdu ≡ None
        → (first_too_long detail (report ∷ others) ≡ first_too_long detail others)
        × (reports_said setup detail (report ∷ others)
        ≡ said_up_to detail setup pdu ++ reports_said setup detail others)
    one_said e = short_one is_long e

    -- behind one that is too long none is said
    long_one : (b : Bool) (len : ℕ) → (if b then Some (pdu_len pdu) else None) ≡ Some len
        → ((if b then Some (pdu_len pdu) else first_too_long detail others) ≡ Some len)
        × ((if b then [] else said setup pdu ++ reports_said setup detail others)
        ≡ (if b then [] else said setup pdu))
    long_one true len e = (e, refl)
    long_one false len e = absurd (some_none len (sym e))

    pub none_said : (len : ℕ) → len_above detail pdu ≡ Some len
        → (first_too_long detail (report ∷ others) ≡ Some len)
        × (reports_said setup detail (report ∷ others) ≡ said_up_to detail setup pdu)
    none_said len e = long_one is_long len e
