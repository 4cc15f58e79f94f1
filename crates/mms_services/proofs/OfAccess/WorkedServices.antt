-- Requests, responses and reports as control centres send them, computed.
use Rattle.std.proofs.Common.{◌≡◌, List, ℕ, [], ◌∷◌, true, false, pos, Some, None, Ok, Err, refl}
use Rattle.ber_values.specs.declared.head.Head.{Head}
use Rattle.ber_values.specs.Tags.{length_in}
use Rattle.ber_values.specs.Numbers.{integer_in}
use Rattle.ber_values.specs.Booleans.{boolean_in}
use Rattle.ber_values.specs.Grammars.{gives, then_in, map_in, branch_in, refused}
use Rattle.ber_values.specs.Parts.{sized_part_in, parted_in, part_in, choose_in, maybe_in, contents_as, all_in}
use Rattle.ber_values.specs.Lists.{more_in, list_in, count_in}
use Rattle.ber_values.specs.Leaves.{text_in, visible_within, integer, boolean, octet_in, octet, fixed}
use Rattle.ber_values.specs.Faults.{fault_at}
use Rattle.ber_values.specs.declared.fault.Why.TheVariants as whys
use Rattle.mms_data.specs.declared.outcome.Outcome.TheVariants.{Good, Fail}
use Rattle.mms_data.specs.Datum.{Datum}
use Rattle.mms_data.specs.NameOctets.{identifier, one_name, of_device}
use Rattle.mms_data.specs.DataOctets.{plain_datum, datum_within, one_datum}
use Rattle.mms_data.specs.OutcomeOctets.{one_outcome}
use Rattle.mms_services.specs.declared.access.spec.Spec.TheVariants as kinds
use Rattle.mms_services.specs.Access.Specifications.{sole_name, sole_variable, variable, variables}
use Rattle.mms_services.specs.Access.Specifications.{specification, sole_spec}
use Rattle.mms_services.specs.Access.Reads.{read_asked, read_answered, echo_in, read_request, read_response}
use Rattle.mms_services.specs.Access.Writes.{write_asked, write_answered, values_of, write_request}
use Rattle.mms_services.specs.Access.Writes.{one_written, write_response}
use Rattle.mms_services.specs.Access.Reports.{reported, report_results, report, report_pdu}
use Rattle.ber_values.specs.Heads.{extent_of, extent_within}
use Rattle.ber_values.specs.Extents.{definite}

-- a head whose contents begin at a place
abbrev from : ℕ → Head
from body = record {
  class = 2;
  constructed = true;
  number = 4;
  long_form = false;
  length_at = 99;
  body = body;
  end = 200;
  next = 200;
}

-- no echo of a list by its name
plain : List ℕ
plain = 161 ∷ 5 ∷ 161 ∷ 3 ∷ 128 ∷ 1 ∷ 83 ∷ []

plain_read : read_request.reading (from 100) plain ≡ Ok (read_asked false (kinds.Set (of_device (83 ∷ []))))
unfolding plain read_request echo_in sole_spec specification sole_name one_name identifier
    visible_within text_in boolean boolean_in length_in gives then_in map_in branch_in sized_part_in
    parted_in part_in choose_in maybe_in contents_as all_in extent_of extent_within definite
plain_read = refl

-- an echo is wanted
echoed : List ℕ
echoed = 128 ∷ 1 ∷ 1 ∷ 161 ∷ 5 ∷ 161 ∷ 3 ∷ 128 ∷ 1 ∷ 83 ∷ []

echoed_read : read_request.reading (from 100) echoed ≡ Ok (read_asked true (kinds.Set (of_device (83 ∷ []))))
unfolding echoed read_request echo_in sole_spec specification sole_name one_name identifier
    visible_within text_in boolean boolean_in length_in gives then_in map_in branch_in sized_part_in
    parted_in part_in choose_in maybe_in contents_as all_in extent_of extent_within definite
echoed_read = refl

-- a value and an error, without the specification
answered : List ℕ
answered = 161 ∷ 6 ∷ 133 ∷ 1 ∷ 7 ∷ 128 ∷ 1 ∷ 10 ∷ []

answered_read : read_response.reading (from 100) answered ≡ Ok (read_answered None (Good (Datum.integer (pos 7)) ∷ Fail 10 ∷ []))
unfolding answered read_response one_outcome one_datum datum_within plain_datum integer integer_in
    octet octet_in list_in more_in length_in gives then_in map_in branch_in refused sized_part_in
    parted_in part_in choose_in maybe_in contents_as all_in extent_of extent_within definite
answered_read = refl

-- a value for a variable
written_one : List ℕ
written_one = 160 ∷ 7 ∷ 48 ∷ 5 ∷ 160 ∷ 3 ∷ 128 ∷ 1 ∷ 81 ∷ 160 ∷ 3 ∷ 133 ∷ 1 ∷ 7 ∷ []

written_one_read : write_request.reading (from 100) written_one ≡ Ok (write_asked (kinds.List (of_device (81 ∷ []) ∷ [])) (Datum.integer (pos 7) ∷ []))
unfolding written_one write_request values_of specification variables variable sole_variable
    sole_name one_name identifier visible_within text_in one_datum datum_within plain_datum integer
    integer_in list_in count_in more_in length_in gives then_in map_in branch_in refused
    sized_part_in parted_in part_in choose_in contents_as all_in extent_of extent_within definite
written_one_read = refl

-- no value for it
written_none : List ℕ
written_none = 160 ∷ 7 ∷ 48 ∷ 5 ∷ 160 ∷ 3 ∷ 128 ∷ 1 ∷ 81 ∷ 160 ∷ 0 ∷ []

written_none_read : write_request.reading (from 100) written_none ≡ Err (fault_at 111 whys.Short)
unfolding written_none write_request values_of specification variables variable sole_variable
    sole_name one_name identifier visible_within text_in one_datum datum_within plain_datum integer
    integer_in list_in count_in more_in length_in gives then_in map_in branch_in refused
    sized_part_in parted_in part_in choose_in contents_as all_in extent_of extent_within definite
written_none_read = refl

-- two values for it
written_two : List ℕ
written_two = 160 ∷ 7 ∷ 48 ∷ 5 ∷ 160 ∷ 3 ∷ 128 ∷ 1 ∷ 81 ∷ 160 ∷ 6 ∷ 133 ∷ 1 ∷ 7 ∷ 133 ∷ 1 ∷ 8 ∷ []

written_two_read : write_request.reading (from 100) written_two ≡ Err (fault_at 114 whys.Tag)
unfolding written_two write_request values_of specification variables variable sole_variable
    sole_name one_name identifier visible_within text_in one_datum datum_within plain_datum integer
    integer_in list_in count_in more_in length_in gives then_in map_in branch_in refused
    sized_part_in parted_in part_in choose_in contents_as all_in extent_of extent_within definite
written_two_read = refl

-- one was written, one wasn't
done : List ℕ
done = 129 ∷ 0 ∷ 128 ∷ 1 ∷ 3 ∷ []

done_read : write_response.reading (from 100) done ≡ Ok (write_answered (None ∷ Some 3 ∷ []))
unfolding done write_response one_written octet octet_in fixed list_in more_in length_in branch_in
    sized_part_in parted_in part_in choose_in contents_as all_in extent_of extent_within definite
done_read = refl

-- a report of a list by its name
told : List ℕ
told = 160 ∷ 10 ∷ 161 ∷ 3 ∷ 128 ∷ 1 ∷ 83 ∷ 160 ∷ 3 ∷ 133 ∷ 1 ∷ 7 ∷ []

told_read : report_pdu.reading (from 100) told ≡ Ok (reported (kinds.Set (of_device (83 ∷ []))) (Good (Datum.integer (pos 7)) ∷ []))
unfolding told report_pdu report report_results specification sole_name one_name identifier
    visible_within text_in one_outcome one_datum datum_within plain_datum integer integer_in list_in
    count_in more_in length_in gives then_in map_in branch_in refused sized_part_in parted_in
    part_in choose_in contents_as all_in extent_of extent_within definite
told_read = refl
