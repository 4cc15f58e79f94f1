-- The texts and the places of words computed on worked rows, apart from all code.
use Rattle.std.proofs.Common.{◌≡◌, [], ◌∷◌, Some, None, true, false, pos, negsuc, refl}
use Rattle.std.specs.Prelude.{codes}
use Rattle.std.specs.Fmt.{digits}
use Rattle.tase_points.specs.declared.kind.Kind.TheVariants as kinds
use Rattle.tase_points.specs.declared.body.Body.TheVariants as bodies
use Rattle.bilateral.specs.Rows.{CentreRows, no_table}
use Rattle.sbo_device.specs.declared.kind.CommandKind.TheVariants.{Command}
use Rattle.mms_data.specs.declared.object_name.Scope.TheVariants.{Vmd, Domain, Association}
use Rattle.mms_data.specs.declared.outcome.Outcome.TheVariants.{Good, Fail}
use Rattle.mms_data.specs.ObjectName.{ObjectName}
use Rattle.mms_data.specs.Datum.{boolean, integer, text}
use Rattle.tase_views.specs.declared.call.CallKind.TheVariants.{Identify, Read, Write, NameList}
use Rattle.tase_views.specs.declared.call.CallKind.TheVariants.{Odd}
use Rattle.tase_views.specs.declared.event.EventKind.TheVariants.{Open, Request, Take, Close}
use Rattle.tase_views.specs.declared.event.EventKind.TheVariants.{Update, Table, Tag, Tick, Ask}
use Rattle.tase_views.specs.declared.event.EventKind.TheVariants.{TakeOrders, Stop}
use Rattle.tase_views.specs.declared.reply.ReadSpec.TheVariants as specs
use Rattle.tase_views.specs.declared.reply.ReplyKind.TheVariants.{Identified, Results, Written}
use Rattle.tase_views.specs.declared.reply.ReplyKind.TheVariants.{NamesAre, Error, Reject}
use Rattle.tase_views.specs.EventTexts.{call_text, event_text}
use Rattle.texts.specs.Events.ReplyTexts.{reply_text}
use Rattle.texts.specs.Events.CallWords.{call_words}
use Rattle.texts.specs.Events.WordPlaces.{word_place, blank_place}
use Rattle.texts.specs.Events.FeedLines.{feed_event_in, centre_event_in}

bus : ObjectName
bus = record { scope = Domain (codes "DOMA"); item = codes "BUS1" }

spaced : ObjectName
spaced = record { scope = Vmd; item = codes "A B" }

identify-written : call_text Identify ≡ codes "identify"
identify-written = refl

read-written : call_text (Read (bus ∷ spaced ∷ []) false) ≡ codes "read DOMA/BUS1 vmd:A%20B"
unfolding bus spaced
read-written = refl

read_echo-written : call_text (Read (bus ∷ []) true) ≡ codes "read+ DOMA/BUS1"
unfolding bus
read_echo-written = refl

write-written : call_text
    (Write (bus ∷ spaced ∷ []) (integer (negsuc 4) ∷ text (codes "x=y") ∷ []))
    ≡ codes "write DOMA/BUS1=i-5 vmd:A%20B=vx%3dy"
unfolding bus spaced digits
write-written = refl

names-written : call_text (NameList (pos 0) (Domain (codes "DOMA")) None) ≡ codes "names 0 DOMA/"
unfolding digits
names-written = refl

names_after-written : call_text (NameList (negsuc 0) Association (Some (codes "A B")))
    ≡ codes "names -1 aa: A%20B"
unfolding digits
names_after-written = refl

odd-written : call_text (Odd 5 1) ≡ codes "odd 5 1"
unfolding digits
odd-written = refl

write-words : call_words (Write (bus ∷ []) (boolean true ∷ []))
    ≡ codes "write" ∷ codes "DOMA/BUS1=T" ∷ []
unfolding bus
write-words = refl

names-words : call_words (NameList (pos 9) Vmd (Some (codes "X")))
    ≡ codes "names" ∷ codes "9" ∷ codes "vmd:" ∷ codes "X" ∷ []
unfolding digits
names-words = refl

open-written : event_text (Open 12) ≡ codes "open 12"
unfolding digits
open-written = refl

request-written : event_text (Request (Odd 1 1)) ≡ codes "call odd 1 1"
unfolding digits
request-written = refl

take-written : event_text Take ≡ codes "take"
take-written = refl

close-written : event_text Close ≡ codes "close"
close-written = refl

update-written : event_text (Update 3 (record {
  body = bodies.Discrete (negsuc 0);
  flags = 48;
  seconds = 1700000000;
  millis = 7;
}))
    ≡ codes "update 3 d-1 30 1700000000 7"
unfolding digits
update-written = refl

update_real-written : event_text (Update 0 (record {
  body = bodies.Real (63 ∷ 128 ∷ 0 ∷ 10 ∷ []);
  flags = 0;
  seconds = 0;
  millis = 999;
}))
    ≡ codes "update 0 r3f80000a 00 0 999"
unfolding digits
update_real-written = refl

tag-written : event_text (Tag 7 (record { tag = 2; reason = codes "test run" }))
    ≡ codes "tag 7 2 vtest%20run"
unfolding digits
tag-written = refl

orders-written : event_text TakeOrders ≡ codes "orders"
orders-written = refl

stop-written : event_text Stop ≡ codes "stop"
stop-written = refl

identified-written : reply_text Identified ≡ codes "identify"
identified-written = refl

results-written : reply_text (Results None (Good (boolean true) ∷ Fail 10 ∷ []))
    ≡ codes "read T !10"
unfolding digits
results-written = refl

results_echo-written : reply_text (Results (Some (specs.List (bus ∷ []))) (Fail 3 ∷ []))
    ≡ codes "read+ !3"
unfolding digits
results_echo-written = refl

written-written : reply_text (Written (None ∷ Some 3 ∷ [])) ≡ codes "write ok !3"
unfolding digits
written-written = refl

names_end-written : reply_text (NamesAre (codes "BUS1" ∷ codes "A B" ∷ []) false)
    ≡ codes "names end BUS1 A%20B"
names_end-written = refl

names_more-written : reply_text (NamesAre [] true) ≡ codes "names more"
names_more-written = refl

error-written : reply_text (Error 7 2) ≡ codes "error 7 2"
unfolding digits
error-written = refl

reject-written : reply_text (Reject 5 1) ≡ codes "reject 5 1"
unfolding digits
reject-written = refl

first_word-place : word_place (codes "read  DOMA/BUS1 x") 0 ≡ 0
first_word-place = refl

second_word-place : word_place (codes "read  DOMA/BUS1 x") 1 ≡ 6
second_word-place = refl

third_word-place : word_place (codes "read  DOMA/BUS1 x") 2 ≡ 16
third_word-place = refl

past_words-place : word_place (codes "read  DOMA/BUS1 x") 3 ≡ 17
past_words-place = refl

front_blank-place : blank_place (codes " read x") ≡ 0
front_blank-place = refl

end_blank-place : blank_place (codes "read x  ") ≡ 7
end_blank-place = refl

rows : CentreRows
rows =
    record {
      points = record { name = codes "BUS1"; kind = kinds.State }
          ∷ record { name = codes "LOAD1"; kind = kinds.Discrete } ∷ [];
      devices = record {
        name = codes "BRK1";
        kind = Command;
        direct = false;
        checkback = pos 77;
        span = 30000;
      } ∷ [];
      tables = record no_table { key = codes "A"; slots = 1 } ∷ [];
      variants = [] ∷ [];
    }

update-line : feed_event_in rows (codes "update  LOAD1 d-7 3f 12 999")
    ≡ Some (Update 1 (record {
      body = bodies.Discrete (negsuc 6);
      flags = 63;
      seconds = 12;
      millis = 999;
    }))
unfolding rows
update-line = refl

other_kind-line : feed_event_in rows (codes "update LOAD1 s2 00 0 0") ≡ None
unfolding rows
other_kind-line = refl

unknown_point-line : feed_event_in rows (codes "update LOAD2 d1 00 0 0") ≡ None
unfolding rows
unknown_point-line = refl

stop-line : feed_event_in rows (codes "stop") ≡ Some Stop
unfolding rows
stop-line = refl

long_stop-line : feed_event_in rows (codes "stop now") ≡ None
unfolding rows
long_stop-line = refl

table-line : feed_event_in rows (codes "table A 0") ≡ Some (Table 0 0)
unfolding rows
table-line = refl

-- the table offers one transfer set
ask-line : feed_event_in rows (codes "ask A 1") ≡ Some (Ask 0 0)
unfolding rows
ask-line = refl

no_slot-line : feed_event_in rows (codes "ask A 0") ≡ None
unfolding rows
no_slot-line = refl

no_such_slot-line : feed_event_in rows (codes "ask A 2") ≡ None
unfolding rows
no_such_slot-line = refl

tick-line : centre_event_in rows (codes "tick 2147483647999") ≡ Some (Tick 2147483647999)
unfolding rows
tick-line = refl

late_tick-line : centre_event_in rows (codes "tick 2147483648000") ≡ None
unfolding rows
late_tick-line = refl

no_tick-line : feed_event_in rows (codes "tick 5") ≡ None
unfolding rows
no_tick-line = refl

no_such_table-line : feed_event_in rows (codes "table A 1") ≡ None
unfolding rows
no_such_table-line = refl

no_such_peer-line : feed_event_in rows (codes "table B 0") ≡ None
unfolding rows
no_such_peer-line = refl

tag-line : feed_event_in rows (codes "tag BRK1 2 vtest%20run")
    ≡ Some (Tag 0 (record { tag = 2; reason = codes "test run" }))
unfolding rows
tag-line = refl

bare_tag-line : feed_event_in rows (codes "tag BRK1 0 v")
    ≡ Some (Tag 0 (record { tag = 0; reason = [] }))
unfolding rows
bare_tag-line = refl

high_tag-line : feed_event_in rows (codes "tag BRK1 3 v") ≡ None
unfolding rows
high_tag-line = refl

no_such_device-line : feed_event_in rows (codes "tag BRK2 1 v") ≡ None
unfolding rows
no_such_device-line = refl

no_reason-line : feed_event_in rows (codes "tag BRK1 1") ≡ None
unfolding rows
no_reason-line = refl

no_text-line : feed_event_in rows (codes "tag BRK1 1 test") ≡ None
unfolding rows
no_text-line = refl

orders-line : centre_event_in rows (codes "orders") ≡ Some TakeOrders
unfolding rows
orders-line = refl

long_orders-line : centre_event_in rows (codes "orders all") ≡ None
unfolding rows
long_orders-line = refl

no_orders_of_a_feed-line : feed_event_in rows (codes "orders") ≡ None
unfolding rows
no_orders_of_a_feed-line = refl
