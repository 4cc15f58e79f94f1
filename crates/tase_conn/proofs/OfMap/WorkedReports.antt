-- Reports computed, apart from all code: their PDUs, worked out by hand from the standard, and which
-- of them are said over a connection.
use Rattle.std.proofs.Common.{◌≡◌, ℕ, List, [], ◌∷◌, ◌++◌, Some, None, false, pos, refl}
use Rattle.std.specs.Prelude.{codes}
use Rattle.ber_values.specs.Writing as ber
use Rattle.tpkt_cotp.specs.Written.{wire}
use Rattle.session_profile.specs.Writing as session
use Rattle.presentation_profile.specs.Written as presentation
use Rattle.mms_data.specs.Datum.{integer}
use Rattle.mms_data.specs.declared.outcome.Outcome.TheVariants.{Good, Fail}
use Rattle.mms_data.specs.NameOctets.{of_domain}
use Rattle.mms_services.specs.Access.Specifications.{variable_octets, variables_octets, spec_octets}
use Rattle.mms_services.specs.Access.Reads.{outcomes_octets}
use Rattle.mms_services.specs.Access.Reports.{report_octets, report_pdu_octets}
use Rattle.mms_services.specs.PduOctets.{pdu_octets}
use Rattle.stack_assoc.specs.Wire.Tsdus.{data_tsdu}
use Rattle.tase_views.specs.declared.reply.ReportKind.{ReportKind}
use Rattle.tase_views.specs.declared.reply.ReportKind.TheVariants.{Set, Variables}
use Rattle.tase_conn.specs.Map.Replied.{pdu_of_report}
use Rattle.tase_conn.specs.Map.Out.{talk_of, reports_said, first_too_long}
use Rattle.tase_conn.proofs.OfMap.Worked.{first_two, reading}

-- vars DOMA/BRK1_TIMEOUT=i77
abbrev timed_out : ReportKind
timed_out =
    Variables (of_domain (codes "DOMA") (codes "BRK1_TIMEOUT") ∷ []) (Good (integer (pos 77)) ∷ [])

timed_out_written : pdu_octets (pdu_of_report timed_out)
    ≡ 163 ∷ 35 ∷ 160 ∷ 33 ∷ 160 ∷ 26 ∷ 48 ∷ 24 ∷ 160 ∷ 22 ∷ 161 ∷ 20 ∷ 26 ∷ 4 ∷ 68 ∷ 79 ∷ 77 ∷ 65
    ∷ 26 ∷ 12 ∷ 66 ∷ 82 ∷ 75 ∷ 49 ∷ 95 ∷ 84 ∷ 73 ∷ 77 ∷ 69 ∷ 79 ∷ 85 ∷ 84 ∷ 160 ∷ 3 ∷ 133 ∷ 1 ∷ 77
    ∷ []
unfolding pdu_octets report_pdu_octets report_octets spec_octets variables_octets variable_octets outcomes_octets ber.length_octets ber.integer_octets
timed_out_written = refl

-- set DOMA/S=i5,!3
abbrev of_set : ReportKind
of_set =
    Set (of_domain (codes "DOMA") (codes "S")) (Good (integer (pos 5)) ∷ Fail 3 ∷ [])

of_set_written : pdu_octets (pdu_of_report of_set)
    ≡ 163 ∷ 23 ∷ 160 ∷ 21 ∷ 161 ∷ 11 ∷ 161 ∷ 9 ∷ 26 ∷ 4 ∷ 68 ∷ 79 ∷ 77 ∷ 65 ∷ 26 ∷ 1 ∷ 83 ∷ 160 ∷ 6 ∷ 133 ∷ 1
    ∷ 5 ∷ 128 ∷ 1 ∷ 3 ∷ []
unfolding pdu_octets report_pdu_octets report_octets spec_octets outcomes_octets ber.length_octets ber.integer_octets
of_set_written = refl

abbrev said_within : List ReportKind → List ℕ
said_within reports = reports_said (talk_of (reading first_two) false).setup
    (pos 36) reports

abbrev of_set_octets : List ℕ
of_set_octets = 3 ∷ 0 ∷ 0 ∷ 45 ∷ 2 ∷ 240 ∷ 128 ∷ 1 ∷ 0 ∷ 1 ∷ 0 ∷ 97 ∷ 32 ∷ 48 ∷ 30 ∷ 2 ∷ 1 ∷ 3
    ∷ 160 ∷ 25 ∷ 163 ∷ 23 ∷ 160 ∷ 21 ∷ 161 ∷ 11 ∷ 161 ∷ 9 ∷ 26 ∷ 4 ∷ 68 ∷ 79 ∷ 77 ∷ 65 ∷ 26 ∷ 1 ∷ 83 ∷ 160
    ∷ 6 ∷ 133 ∷ 1 ∷ 5 ∷ 128 ∷ 1 ∷ 3 ∷ []

-- of four the third has 37 octets, where 36 were agreed on
two_said : said_within (of_set ∷ of_set ∷ timed_out ∷ of_set ∷ []) ≡ of_set_octets ++ of_set_octets
unfolding wire session.session_length_octets ber.length_octets ber.integer_octets presentation.user_octets data_tsdu pdu_octets report_pdu_octets report_octets spec_octets variables_octets variable_octets outcomes_octets
two_said = refl

third_too_long : first_too_long (pos 36) (of_set ∷ of_set ∷ timed_out ∷ of_set ∷ []) ≡ Some 37
unfolding pdu_octets report_pdu_octets report_octets spec_octets variables_octets variable_octets outcomes_octets ber.length_octets ber.integer_octets
third_too_long = refl

just_short_enough : first_too_long (pos 37) (of_set ∷ of_set ∷ timed_out ∷ of_set ∷ []) ≡ None
unfolding pdu_octets report_pdu_octets report_octets spec_octets variables_octets variable_octets outcomes_octets ber.length_octets ber.integer_octets
just_short_enough = refl
