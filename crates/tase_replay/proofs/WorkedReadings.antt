-- Octets that a peer's link gives, worked out by hand from the standards, in hexadecimal digits, and
-- what they tell.
use Rattle.std.proofs.Common.{◌≡◌, ℕ, List, [], ◌∷◌, ◌++◌, Some, None, Ok, Err, refl, inl, inr}
use Rattle.std.proofs.Common.{take, drop}
use Rattle.std.specs.Prelude.{codes, Result}
use Rattle.hex.specs.Hex.{decode_pairs, decode_of}
use Rattle.ber_values.specs.declared.fault.BerFault.{BerFault}
use Rattle.ber_values.specs.declared.fault.Why.TheVariants as whys
use Rattle.ber_values.specs.Tags.{tag_in, length_in}
use Rattle.ber_values.specs.Heads.{head_in}
use Rattle.ber_values.specs.Grammars.{Grammar, IsGrammar, then_in, map_in, branch_in, refused}
use Rattle.ber_values.specs.Parts.{sized_part_in, parted_in, part_in, choose_in, contents_as}
use Rattle.ber_values.specs.Parts.{all_in, whole_in}
use Rattle.tpkt_cotp.specs.declared.turn.Role.TheVariants as roles
use Rattle.tpkt_cotp.specs.Places as streams
use Rattle.tpkt_cotp.specs.Readings as tpkts
use Rattle.tpkt_cotp.specs.Streams.{Says, Stops, asks, tsdu}
use Rattle.tpkt_cotp.proofs.Streaming.{left_says, stopped_stops}
use Rattle.session_profile.specs.declared.spdu.Spdu.TheVariants as spdus
use Rattle.session_profile.specs.Spdus as session
use Rattle.session_profile.proofs.Spdus.{spdu_reads}
use Rattle.presentation_profile.specs.declared.expected.Expected.TheVariants as expects
use Rattle.presentation_profile.specs.UserData.{user_data}
use Rattle.presentation_profile.specs.Ppdus.{ppdu}
use Rattle.presentation_profile.proofs.PpdusRead.{ppdu_reads}
use Rattle.stack_assoc.specs.declared.messages.fault.Layer.{Layer}
use Rattle.stack_assoc.specs.declared.messages.fault.Layer.TheVariants as layers
use Rattle.stack_assoc.specs.declared.messages.fault.StackFault.{StackFault}
use Rattle.stack_assoc.specs.Messages.Meanings.{inside}
use Rattle.stack_assoc.specs.Messages.Layers.{octets_at, in_layer, fault_of, spdu_of, ppdu_at}
use Rattle.stack_assoc.specs.Messages.Messages.{carry_at, message}
use Rattle.stack_assoc.proofs.FrontsKept.{stopped_front}
use Rattle.conn_service.specs.TaseConn.Map.Inputs.{Item, piece, text_given}
use Rattle.conn_service.specs.TaseConn.Map.Readings.{reading_of}
use Rattle.conn_service.proofs.TaseConn.OfMap.ReadingLaws.{reading_only}
use Rattle.stack_assoc.proofs.OfMessages.Worked.{span, connecting_octets, identify_octets, answering}
use Rattle.stack_assoc.proofs.OfMessages.Worked.{connect_heard}
use Rattle.conn_service.proofs.TaseConn.OfMap.WorkedStream.{opener}
use Rattle.conn_service.proofs.TaseConn.OfMap.WorkedStream.{first, second, third, reads, one, two, three}
use Rattle.conn_service.proofs.TaseConn.OfMap.WorkedStream.{read_first, read_second, read_third}
use Rattle.ber_values.specs.Heads.{head_by, extent_of, extent_within}
use Rattle.ber_values.specs.Extents.{definite}

-- ---- the octets

-- a connect request of the transport; an offer by the title 1.1.999.1; a request to identify, with
-- invoke number 1; the same with a TPKT that is an octet too short
abbrev pub call_digits : List ℕ
call_digits = codes "0300001611e00000000100c0010ac1020001c2020001"

abbrev pub connect_digits : List ℕ
connect_digits =
    codes "030000b102f0800da80506130100160102140200023302000134020001c19231818fa003800101a28187"
    ++ codes "810400000001820400000001a423300f0201010604520100013004060251013010020103060528ca22"
    ++ codes "020130040602510161543052020101a04d604ba107060528ca220203a606060429876701a70302010c"
    ++ codes "be33283106025101020103a028a826800300fde8810105820105830105a416800101810305f100820c"
    ++ codes "03ee1c00000408000079ef18"

abbrev pub identify_digits : List ℕ
identify_digits = codes "0300001b02f08001000100610e300c020103a007a0050201018200"

abbrev pub cut_digits : List ℕ
cut_digits = codes "0300001a02f08001000100610e300c020103a007a0050201018200"

abbrev pub octets_or_none : {E : Type 0} → Result (List ℕ) E → List ℕ
octets_or_none (Ok octets) = octets
octets_or_none (Err fault) = []

unfoldable pub octets_of : List ℕ → List ℕ
unfolding decode_pairs
octets_of text = octets_or_none (decode_of text)

unfoldable pub call : List ℕ
unfolding octets_of
call = octets_of call_digits

unfoldable pub connect : List ℕ
unfolding octets_of
connect = octets_of connect_digits

unfoldable pub identify : List ℕ
unfolding octets_of
identify = octets_of identify_digits

unfoldable pub cut : List ℕ
unfolding octets_of
cut = octets_of cut_digits

-- what was given so far
abbrev pub called : List Item
called = piece call ∷ []

abbrev pub offered : List Item
offered = called ++ piece connect ∷ []

abbrev pub asked : List Item
asked = offered ++ piece identify ∷ []

abbrev pub broken : List Item
broken = offered ++ piece cut ∷ []

-- ---- whole messages

pub call_read : reading_of (text_given called) ≡ reads one
unfolding call first
call_read = read_first

pub offered_read : reading_of (text_given offered) ≡ reads two
unfolding call connect first second connecting_octets
offered_read = read_second

pub asked_read : reading_of (text_given asked) ≡ reads three
unfolding call connect identify first second third connecting_octets identify_octets
asked_read = read_third

-- ---- less than a message

reads_transport : Unit {0}
unfolding streams.stream_from tpkts.tpkt_in tpkts.sized_in tpkts.tpdu_in tpkts.tpdu_body_in
    tpkts.connection_request_in tpkts.disconnect_in tpkts.data_part_in tpkts.marked_in tpkts.parameters_in
reads_transport = tt

abbrev pub front : List ℕ
front = 3 ∷ 0 ∷ 0 ∷ []

front_said : (rest : List ℕ) × Says roles.Called front [] rest
unfolding reads_transport
front_said = left_says roles.Called front 3 refl

pub front_read : reading_of front ≡ reads []
front_read = reading_only front [] None
    (front_said.0, record { messages = []; said = front_said.1; tell = tt })

-- ---- a message whose user data passes the end of its TSDU

cut_octets : List ℕ
unfolding cut
cut_octets = take 19 (drop 7 cut)

abbrev pub broken_length : StackFault
broken_length = fault_of layers.Presentation 5 whys.Length

cut_spdu : session.spdu_in cut_octets ≡ Ok (spdus.Carry (span 4 19))
unfolding cut_octets session.spdu_in
cut_spdu = refl

cut_ppdu : (ppdu (expects.Carry 3)).reading 4 (octets_at cut_octets (span 4 19))
    ≡ Err (record { place = 5; why = whys.Length })
unfolding cut_octets ppdu user_data length_in tag_in head_in then_in map_in branch_in refused
    sized_part_in parted_in part_in choose_in contents_as all_in whole_in extent_of extent_within
    definite head_by
cut_ppdu = refl

-- a fault of a grammar in a layer is the octets' own
layer-breaks : {X : Type 0} (layer : Layer) (placed : ℕ → ℕ) (g : Grammar X) (at : ℕ)
    (octets : List ℕ) (b : BerFault) → IsGrammar g → g.reading at octets ≡ Err b
    → (in_layer layer placed g at octets).breaks (fault_of layer (placed b.place) b.why)
unfolding in_layer
layer-breaks layer placed g at octets b exact e = (b, (exact at octets).fault b e, refl)

cut_broken : (message answering cut_octets).breaks broken_length
unfolding message inside spdu_of carry_at ppdu_at
cut_broken = inr (
  spdus.Carry (span 4 19),
  (spdu_reads cut_octets).found _ cut_spdu,
  inl (layer-breaks layers.Presentation (λ n. n) (ppdu (expects.Carry 3)) 4 _ _
      (ppdu_reads (expects.Carry 3)) cut_ppdu),
)

-- the octet behind the short TPKT begins no other
broken_stops : Stops roles.Called (text_given broken)
    (asks opener ∷ tsdu 22 connecting_octets ∷ tsdu 199 cut_octets ∷ [])
    (record { place = 225; why = whys.Value })
unfolding call connect cut cut_octets connecting_octets reads_transport
broken_stops =
    stopped_stops roles.Called (text_given broken) (record { place = 225; why = whys.Value }) refl

pub broken_read : reading_of (text_given broken) ≡ record { told = two; broken = Some broken_length }
broken_read = reading_only (text_given broken) two (Some broken_length) (inr (record {
  messages = asks opener ∷ tsdu 22 connecting_octets ∷ [];
  next = tsdu 199 cut_octets;
  starts = stopped_front roles.Called (text_given broken) _ _ broken_stops;
  tell = (refl, (connect_heard, tt));
  breaks = cut_broken;
}))
