-- The definitions, computed on worked rows.
use Rattle.std.proofs.Common.{◌≡◌, [], ◌∷◌, true, Some, None, Ok, refl}
use Rattle.ber_values.specs.declared.fault.Why.TheVariants as whys
use Rattle.tpkt_cotp.specs.declared.turn.Role.TheVariants as roles
use Rattle.tpkt_cotp.specs.declared.turn.Turn.TheVariants as turns
use Rattle.tpkt_cotp.specs.Tpdus.{request, disconnect, part}
use Rattle.tpkt_cotp.specs.Readings.{broken, tpkt_of, parameters_in, connection_request_in, disconnect_in}
use Rattle.tpkt_cotp.specs.Readings.{marked_in, data_part_in, tpdu_body_in, tpdu_in, sized_in, tpkt_in}
use Rattle.tpkt_cotp.specs.Written.{connection_request_octets, confirm_octets}

length_below_seven : tpkt_in (turns.Opening roles.Called) 0 (3 ∷ 0 ∷ 0 ∷ 6 ∷ 2 ∷ 240 ∷ []) ≡ broken
    2 whys.Length
unfolding tpkt_in sized_in tpdu_in tpdu_body_in connection_request_in disconnect_in data_part_in marked_in parameters_in
length_below_seven = refl

another_version : tpkt_in (turns.Opening roles.Called) 0 (4 ∷ []) ≡ broken 0 whys.Value
unfolding tpkt_in sized_in tpdu_in tpdu_body_in connection_request_in disconnect_in data_part_in marked_in parameters_in
another_version = refl

class_four : tpkt_in (turns.Opening roles.Called) 0
    (3 ∷ 0 ∷ 0 ∷ 11 ∷ 6 ∷ 224 ∷ 0 ∷ 0 ∷ 0 ∷ 1 ∷ 64 ∷ []) ≡ broken 10 whys.Value
unfolding tpkt_in sized_in tpdu_in tpdu_body_in connection_request_in disconnect_in data_part_in marked_in parameters_in
class_four = refl

cut_request : tpkt_in (turns.Opening roles.Called) 0 (3 ∷ 0 ∷ 0 ∷ 7 ∷ 2 ∷ 224 ∷ []) ≡ Ok None
unfolding tpkt_in sized_in tpdu_in tpdu_body_in connection_request_in disconnect_in data_part_in marked_in parameters_in
cut_request = refl

no_class : tpkt_in (turns.Opening roles.Called) 0 (3 ∷ 0 ∷ 0 ∷ 7 ∷ 2 ∷ 224 ∷ 0 ∷ []) ≡ broken 7
    whys.Short
unfolding tpkt_in sized_in tpdu_in tpdu_body_in connection_request_in disconnect_in data_part_in marked_in parameters_in
no_class = refl

part_before_request : tpkt_in (turns.Opening roles.Called) 0 (3 ∷ 0 ∷ 0 ∷ 7 ∷ 2 ∷ 240 ∷ []) ≡
    broken 0 whys.Order
unfolding tpkt_in sized_in tpdu_in tpdu_body_in connection_request_in disconnect_in data_part_in marked_in parameters_in
part_before_request = refl

second_request : tpkt_in turns.Transfer 0 (3 ∷ 0 ∷ 0 ∷ 11 ∷ 6 ∷ 224 ∷ []) ≡ broken 0 whys.Order
unfolding tpkt_in sized_in tpdu_in tpdu_body_in connection_request_in disconnect_in data_part_in marked_in parameters_in
second_request = refl

long_count : tpkt_in (turns.Opening roles.Called) 0 (3 ∷ 0 ∷ 0 ∷ 7 ∷ 3 ∷ 240 ∷ []) ≡ broken 4
    whys.Length
unfolding tpkt_in sized_in tpdu_in tpdu_body_in connection_request_in disconnect_in data_part_in marked_in parameters_in
long_count = refl

size_twice : tpkt_in (turns.Opening roles.Called) 0
    (3 ∷ 0 ∷ 0 ∷ 17 ∷ 12 ∷ 224 ∷ 0 ∷ 0 ∷ 0 ∷ 1 ∷ 0 ∷ 192 ∷ 1 ∷ 7 ∷ 192 ∷ []) ≡ broken 14 whys.Tag
unfolding tpkt_in sized_in tpdu_in tpdu_body_in connection_request_in disconnect_in data_part_in marked_in parameters_in
size_twice = refl

size_six : tpkt_in (turns.Opening roles.Called) 0
    (3 ∷ 0 ∷ 0 ∷ 14 ∷ 9 ∷ 224 ∷ 0 ∷ 0 ∷ 0 ∷ 1 ∷ 0 ∷ 192 ∷ 1 ∷ 6 ∷ []) ≡ broken 13 whys.Value
unfolding tpkt_in sized_in tpdu_in tpdu_body_in connection_request_in disconnect_in data_part_in marked_in parameters_in
size_six = refl

size_fourteen : tpkt_in (turns.Opening roles.Called) 0
    (3 ∷ 0 ∷ 0 ∷ 14 ∷ 9 ∷ 224 ∷ 0 ∷ 0 ∷ 0 ∷ 1 ∷ 0 ∷ 192 ∷ 1 ∷ 14 ∷ []) ≡ broken 13 whys.Value
unfolding tpkt_in sized_in tpdu_in tpdu_body_in connection_request_in disconnect_in data_part_in marked_in parameters_in
size_fourteen = refl

empty_selector : tpkt_in (turns.Opening roles.Called) 0
    (3 ∷ 0 ∷ 0 ∷ 13 ∷ 8 ∷ 224 ∷ 0 ∷ 0 ∷ 0 ∷ 1 ∷ 0 ∷ 193 ∷ 0 ∷ []) ≡ broken 12 whys.Length
unfolding tpkt_in sized_in tpdu_in tpdu_body_in connection_request_in disconnect_in data_part_in marked_in parameters_in
empty_selector = refl

selector_of_33 : tpkt_in (turns.Opening roles.Called) 0
    (3 ∷ 0 ∷ 0 ∷ 46 ∷ 41 ∷ 224 ∷ 0 ∷ 0 ∷ 0 ∷ 1 ∷ 0 ∷ 194 ∷ 33 ∷ []) ≡ broken 12 whys.Length
unfolding tpkt_in sized_in tpdu_in tpdu_body_in connection_request_in disconnect_in data_part_in marked_in parameters_in
selector_of_33 = refl

empty_end : tpkt_in turns.Transfer 0 (3 ∷ 0 ∷ 0 ∷ 7 ∷ 2 ∷ 240 ∷ 128 ∷ []) ≡ broken 7 whys.Short
unfolding tpkt_in sized_in tpdu_in tpdu_body_in connection_request_in disconnect_in data_part_in marked_in parameters_in
empty_end = refl

end_behind_octets : tpkt_in turns.Transfer 1 (3 ∷ 0 ∷ 0 ∷ 7 ∷ 2 ∷ 240 ∷ 128 ∷ []) ≡ tpkt_of 7
    (part true [])
unfolding tpkt_in sized_in tpdu_in tpdu_body_in connection_request_in disconnect_in data_part_in marked_in parameters_in
end_behind_octets = refl

past_the_limit : tpkt_in turns.Transfer 65531 (3 ∷ 0 ∷ 0 ∷ 8 ∷ 2 ∷ 240 ∷ []) ≡ broken 2 whys.Long
unfolding tpkt_in sized_in tpdu_in tpdu_body_in connection_request_in disconnect_in data_part_in marked_in parameters_in
past_the_limit = refl

at_the_limit : tpkt_in turns.Transfer 65530 (3 ∷ 0 ∷ 0 ∷ 8 ∷ 2 ∷ 240 ∷ 128 ∷ 9 ∷ []) ≡ tpkt_of 8
    (part true (9 ∷ []))
unfolding tpkt_in sized_in tpdu_in tpdu_body_in connection_request_in disconnect_in data_part_in marked_in parameters_in
at_the_limit = refl

any_count : tpkt_in (turns.Opening roles.Calling) 0 (3 ∷ 0 ∷ 0 ∷ 7 ∷ 255 ∷ 128 ∷ 1 ∷ []) ≡ tpkt_of
    7 disconnect
unfolding tpkt_in sized_in tpdu_in tpdu_body_in connection_request_in disconnect_in data_part_in marked_in parameters_in
any_count = refl

-- the request of a connection that calls 00 01 is read as it was written
request_read : tpkt_in (turns.Opening roles.Called) 0 (connection_request_octets 1) ≡ tpkt_of 22
    (request (record {
      source = 1;
      parameters = record
          { size = Some 10; calling = Some (0 ∷ 1 ∷ []); called = Some (0 ∷ 1 ∷ []) };
    }))
unfolding tpkt_in sized_in tpdu_in tpdu_body_in connection_request_in disconnect_in data_part_in marked_in parameters_in
request_read = refl

-- its answer
answer_written : confirm_octets (record {
  source = 1;
  parameters = record { size = Some 10; calling = Some (0 ∷ 1 ∷ []); called = Some (0 ∷ 1 ∷ []) };
}) ≡ 3 ∷ 0 ∷ 0 ∷ 22 ∷ 17 ∷ 208 ∷ 0 ∷ 1 ∷ 0 ∷ 1 ∷ 0 ∷ 192 ∷ 1 ∷ 10 ∷ 193 ∷ 2 ∷ 0 ∷ 1 ∷ 194 ∷ 2
    ∷ 0 ∷ 1 ∷ []
answer_written = refl
