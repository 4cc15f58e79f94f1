-- What is agreed on, and what fails, computed.
use Rattle.std.proofs.Common.{◌≡◌, List, ℕ, [], ◌∷◌, pos, true, false, Some, None, Ok, Err, refl}
use Rattle.ber_values.specs.declared.head.Head.{Head}
use Rattle.ber_values.specs.Tags.{length_in, tag_in}
use Rattle.ber_values.specs.Heads.{head_in}
use Rattle.ber_values.specs.Numbers.{integer_in, unsigned_in}
use Rattle.ber_values.specs.TextContents.{visible_in}
use Rattle.ber_values.specs.Grammars.{taken, gives, then_in, map_in, branch_in, refused}
use Rattle.ber_values.specs.Passing.{skip}
use Rattle.ber_values.specs.Grammars.{by_length}
use Rattle.ber_values.specs.Passing.{pass_in}
use Rattle.ber_values.specs.Parts.{sized_part_in, parted_in, part_in, maybe_in, all_in}
use Rattle.ber_values.specs.Parts.{contents_as}
use Rattle.ber_values.specs.Leaves.{integer, unsigned, octet_in, octet, raw, visible, fixed}
use Rattle.ber_values.specs.Faults.{fault_at}
use Rattle.ber_values.specs.declared.fault.Why.TheVariants as whys
use Rattle.mms_services.specs.Coded.{by_first, coded_in}
use Rattle.mms_services.specs.Errors.{error_class, service_error, error_pdu}
use Rattle.mms_services.specs.Identities.{identify_request, some_syntaxes, identify_response}
use Rattle.mms_services.specs.Initiates.{initiate_detail, initiate}
use Rattle.mms_services.specs.Negotiations.{granted}
use Rattle.mms_services.specs.Rejects.{reject_pdu}
use Rattle.ber_values.specs.Heads.{head_by, element_by, extent_of, extent_within}
use Rattle.ber_values.specs.Extents.{definite}
use Rattle.ber_values.specs.Grammars.{passed_within, passed_in}

-- the head of contents that stand at a place, after a tag and a length of one octet
at_place : ℕ → Head
at_place at = record {
  class = 2;
  constructed = true;
  number = 8;
  long_form = false;
  length_at = 1;
  body = at;
  end = at;
  next = at;
}

-- the initiate that a control centre sends
offered : List ℕ
offered = 128 ∷ 3 ∷ 0 ∷ 253 ∷ 232 ∷ 129 ∷ 1 ∷ 5 ∷ 130 ∷ 1 ∷ 5 ∷ 131 ∷ 1 ∷ 5
    ∷ 164 ∷ 22 ∷ 128 ∷ 1 ∷ 1 ∷ 129 ∷ 3 ∷ 5 ∷ 241 ∷ 0 ∷ 130 ∷ 12 ∷ 3 ∷ 238 ∷ 28 ∷ 0 ∷ 0 ∷ 4 ∷ 8 ∷ 0 ∷ 0 ∷ 121 ∷ 239 ∷ 24 ∷ []

offered_read : initiate.reading (at_place 2) offered ≡ Ok (record {
  detail = Some (pos 65000);
  calling = pos 5;
  called = pos 5;
  nesting = Some (pos 5);
  version = pos 1;
})
unfolding at_place offered initiate initiate_detail then_in map_in branch_in gives maybe_in part_in
    parted_in sized_part_in length_in all_in integer integer_in raw pass_in by_length extent_of
    extent_within definite passed_within passed_in
offered_read = refl

-- without the two that may be absent, and with a null after the bits
bare : List ℕ
bare = 129 ∷ 1 ∷ 1 ∷ 130 ∷ 1 ∷ 1 ∷ 164 ∷ 9 ∷ 128 ∷ 1 ∷ 1 ∷ 129 ∷ 0 ∷ 130 ∷ 0 ∷ 5 ∷ 0 ∷ []

bare_read : initiate.reading (at_place 2) bare ≡ Ok (record {
  detail = None;
  calling = pos 1;
  called = pos 1;
  nesting = None;
  version = pos 1;
})
unfolding at_place bare initiate initiate_detail then_in map_in branch_in gives maybe_in part_in
    parted_in sized_part_in length_in all_in integer integer_in raw pass_in by_length skip head_in
    tag_in extent_of extent_within definite head_by element_by passed_within passed_in
bare_read = refl

-- object-non-existent of the class access, with a text that is passed over
failed : List ℕ
failed = 128 ∷ 1 ∷ 7 ∷ 162 ∷ 8 ∷ 160 ∷ 3 ∷ 135 ∷ 1 ∷ 2 ∷ 129 ∷ 1 ∷ 33 ∷ []

failed_read : error_pdu.reading (at_place 2) failed
    ≡ Ok (record { invoke = 7; class = 7; code = 2 })
unfolding at_place failed error_pdu service_error error_class coded_in by_first then_in map_in
    branch_in gives part_in parted_in sized_part_in length_in all_in unsigned unsigned_in
    contents_as octet octet_in pass_in by_length skip head_in tag_in extent_of extent_within
    definite head_by element_by passed_within passed_in
failed_read = refl

-- a class of 16
unknown_class : error_pdu.reading (at_place 2) (128 ∷ 1 ∷ 7 ∷ 162 ∷ 5 ∷ 160 ∷ 3 ∷ 144 ∷ 1 ∷ 2 ∷ []) ≡ Err (fault_at 9 whys.Tag)
unfolding at_place error_pdu service_error error_class coded_in by_first then_in map_in branch_in
    refused part_in parted_in sized_part_in length_in all_in unsigned unsigned_in extent_of
    extent_within definite
unknown_class = refl

-- invalid-pdu of the kind pdu-error, of no request
rejected_read : reject_pdu.reading (at_place 2) (133 ∷ 1 ∷ 1 ∷ [])
    ≡ Ok (record { invoke = None; kind = 5; code = 1 })
unfolding at_place reject_pdu coded_in by_first then_in map_in branch_in gives maybe_in part_in
    parted_in sized_part_in length_in all_in contents_as octet octet_in extent_of extent_within
    definite
rejected_read = refl

-- unrecognized-service of the kind confirmed-request, of request 4
request_rejected : reject_pdu.reading (at_place 2) (128 ∷ 1 ∷ 4 ∷ 129 ∷ 1 ∷ 1 ∷ [])
    ≡ Ok (record { invoke = Some 4; kind = 1; code = 1 })
unfolding at_place reject_pdu coded_in by_first then_in map_in branch_in gives maybe_in part_in
    parted_in sized_part_in length_in all_in contents_as octet octet_in unsigned unsigned_in
    extent_of extent_within definite
request_rejected = refl

-- a request's number alone
nothing_rejected : reject_pdu.reading (at_place 2) (128 ∷ 1 ∷ 4 ∷ []) ≡ Err (fault_at 5 whys.Short)
unfolding at_place reject_pdu coded_in then_in map_in branch_in refused maybe_in part_in parted_in
    sized_part_in length_in all_in unsigned unsigned_in extent_of extent_within definite
nothing_rejected = refl

-- CENTRE, TASE2, 1
answered : List ℕ
answered = 128 ∷ 6 ∷ 67 ∷ 69 ∷ 78 ∷ 84 ∷ 82 ∷ 69 ∷ 129 ∷ 5 ∷ 84 ∷ 65 ∷ 83 ∷ 69 ∷ 50 ∷ 130 ∷ 1 ∷ 49 ∷ []

answered_read : identify_response.reading (at_place 7) answered ≡ Ok tt
unfolding at_place answered identify_response some_syntaxes then_in map_in branch_in gives maybe_in
    part_in parted_in sized_part_in length_in all_in visible visible_in extent_of extent_within
    definite
answered_read = refl

asked_read : identify_request.reading (at_place 7) [] ≡ Ok tt
unfolding at_place identify_request fixed
asked_read = refl

-- of what a control centre offers, all is granted
all_granted : granted (record {
  detail = Some (pos 65000);
  calling = pos 5;
  called = pos 5;
  nesting = Some (pos 5);
  version = pos 1;
}) ≡ record {
  detail = Some (pos 65000);
  calling = pos 5;
  called = pos 5;
  nesting = Some (pos 5);
  version = pos 1;
}
all_granted = refl

-- the most is granted of more, and of what isn't offered
most_granted : granted (record {
  detail = None;
  calling = pos 11;
  called = pos 300;
  nesting = None;
  version = pos 2;
}) ≡ record {
  detail = Some (pos 65000);
  calling = pos 10;
  called = pos 10;
  nesting = Some (pos 5);
  version = pos 1;
}
most_granted = refl

-- the most levels of data where the called end's services must stand
called_missing : initiate.reading (at_place 2) (129 ∷ 1 ∷ 1 ∷ 131 ∷ 1 ∷ 5 ∷ []) ≡ Err (fault_at 5 whys.Tag)
unfolding at_place initiate then_in branch_in gives maybe_in part_in parted_in sized_part_in
    length_in all_in integer integer_in extent_of extent_within definite
called_missing = refl

-- identify is answered with three texts, and nothing else after the abstract syntaxes
two_texts : identify_response.reading (at_place 2) (128 ∷ 0 ∷ 129 ∷ 0 ∷ []) ≡ Err (fault_at 6 whys.Short)
unfolding at_place identify_response then_in part_in parted_in sized_part_in length_in all_in
    visible visible_in extent_of extent_within branch_in definite
two_texts = refl

after_syntaxes : identify_response.reading (at_place 2) (128 ∷ 0 ∷ 129 ∷ 0 ∷ 130 ∷ 0 ∷ 163 ∷ 0 ∷ 163 ∷ 0 ∷ []) ≡ Err (fault_at 10 whys.Tag)
unfolding at_place identify_response some_syntaxes then_in map_in branch_in maybe_in part_in
    parted_in sized_part_in length_in all_in visible visible_in raw extent_of extent_within definite
after_syntaxes = refl
