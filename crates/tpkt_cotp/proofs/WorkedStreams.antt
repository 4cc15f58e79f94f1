-- Whole streams, computed.
use Rattle.std.proofs.Common.{◌≡◌, [], ◌∷◌, ◌++◌, Some, refl}
use Rattle.ber_values.specs.declared.fault.Why.TheVariants as whys
use Rattle.tpkt_cotp.specs.declared.turn.Role.TheVariants as roles
use Rattle.tpkt_cotp.specs.Readings.{parameters_in, connection_request_in, disconnect_in, marked_in, data_part_in}
use Rattle.tpkt_cotp.specs.Readings.{tpdu_body_in, tpdu_in, sized_in, tpkt_in}
use Rattle.tpkt_cotp.specs.Streams.{asks, gone, tsdu}
use Rattle.tpkt_cotp.specs.Written.{connection_request_octets}
use Rattle.tpkt_cotp.specs.Places.{left, stopped, stream_from, stream_in}

-- a request; a TSDU in two TPKTs; a part that a disconnect drops, in front of which it begins; a
-- part and an octet of the next TPKT
four_messages : stream_in roles.Either (connection_request_octets 1
    ++ 3 ∷ 0 ∷ 0 ∷ 8 ∷ 2 ∷ 240 ∷ 0 ∷ 5 ∷ 3 ∷ 0 ∷ 0 ∷ 9 ∷ 2 ∷ 240 ∷ 128 ∷ 6 ∷ 7
    ∷ 3 ∷ 0 ∷ 0 ∷ 8 ∷ 2 ∷ 240 ∷ 0 ∷ 5 ∷ 3 ∷ 0 ∷ 0 ∷ 7 ∷ 9 ∷ 128 ∷ 0
    ∷ 3 ∷ 0 ∷ 0 ∷ 8 ∷ 2 ∷ 240 ∷ 0 ∷ 5 ∷ 3 ∷ [])
    ≡ record {
      messages = record {
        message = asks (record {
          source = 1;
          parameters = record
              { size = Some 10; calling = Some (0 ∷ 1 ∷ []); called = Some (0 ∷ 1 ∷ []) };
        });
        place = 0;
        next = 22;
      } ∷ record { message = tsdu 22 (5 ∷ 6 ∷ 7 ∷ []); place = 22; next = 39 }
          ∷ record { message = gone; place = 39; next = 54 } ∷ [];
      end = left 9;
    }
unfolding stream_from tpkt_in sized_in tpdu_in tpdu_body_in connection_request_in disconnect_in data_part_in marked_in parameters_in
four_messages = refl

-- a second request may not come
second_request : stream_in roles.Either (connection_request_octets 1 ++ 3 ∷ 0 ∷ 0 ∷ 11 ∷ 6 ∷ 224 ∷ [])
    ≡ record {
      messages = record {
        message = asks (record {
          source = 1;
          parameters = record
              { size = Some 10; calling = Some (0 ∷ 1 ∷ []); called = Some (0 ∷ 1 ∷ []) };
        });
        place = 0;
        next = 22;
      } ∷ [];
      end = stopped (record { place = 22; why = whys.Order });
    }
unfolding stream_from tpkt_in sized_in tpdu_in tpdu_body_in connection_request_in disconnect_in data_part_in marked_in parameters_in
second_request = refl

nothing_fed : stream_in roles.Either [] ≡ record { messages = []; end = left 0 }
unfolding stream_from
nothing_fed = refl
