-- Lines of a journal and their entries computed on worked rows, apart from all code.
use Rattle.std.proofs.Common.{◌≡◌, [], ◌∷◌, Some, None, false, negsuc, refl}
use Rattle.std.specs.Prelude.{codes}
use Rattle.std.specs.Fmt.{digits}
use Rattle.tase_points.specs.declared.body.Body.TheVariants.{Discrete, Real}
use Rattle.mms_data.specs.declared.object_name.Scope.TheVariants.{Domain}
use Rattle.mms_data.specs.ObjectName.{ObjectName}
use Rattle.tase_views.specs.declared.call.CallKind.TheVariants.{Read, Odd}
use Rattle.tase_views.specs.declared.event.EventKind.TheVariants.{Open, Request, Take, Close}
use Rattle.tase_views.specs.declared.event.EventKind.TheVariants.{Update, Table, Tick, Ask}
use Rattle.tase_views.specs.declared.event.EventKind.TheVariants.{TakeOrders, Stop}
use Rattle.tase_views.specs.declared.event.EventKind.TheVariants as events
use Rattle.texts.specs.Journal.Journals.{journal_text}
use Rattle.texts.specs.Journal.Entries.{entry_in}

bus : ObjectName
bus = record { scope = Domain (codes "DOMA"); item = codes "BUS1" }

open-is : entry_in (codes "1 open 0") ≡ Some (record { who = 1; event = Open 0 })
open-is = refl

call-is : entry_in (codes "1 call read DOMA/BUS1")
    ≡ Some (record { who = 1; event = Request (Read (bus ∷ []) false) })
unfolding bus
call-is = refl

odd-is : entry_in (codes "7 call odd 5 1") ≡ Some (record { who = 7; event = Request (Odd 5 1) })
odd-is = refl

take-is : entry_in (codes "18446744073709551615 take")
    ≡ Some (record { who = 18446744073709551615; event = Take })
take-is = refl

close-is : entry_in (codes "1 close") ≡ Some (record { who = 1; event = Close })
close-is = refl

update-is : entry_in (codes "0 update 3 d-7 1f 1760000000 250") ≡ Some (record {
  who = 0;
  event = Update 3
      (record { body = Discrete (negsuc 6); flags = 31; seconds = 1760000000; millis = 250 });
})
update-is = refl

real-is : entry_in (codes "0 update 4294967295 r42f6e979 00 0 999") ≡ Some (record {
  who = 0;
  event = Update 4294967295
      (record { body = Real (66 ∷ 246 ∷ 233 ∷ 121 ∷ []); flags = 0; seconds = 0; millis = 999 });
})
real-is = refl

table-is : entry_in (codes "0 table 2 1") ≡ Some (record { who = 0; event = Table 2 1 })
table-is = refl

tag-is : entry_in (codes "0 tag 4 2 vA%20B") ≡ Some (record {
  who = 0;
  event = events.Tag 4 (record { tag = 2; reason = codes "A B" });
})
tag-is = refl

tick-is : entry_in (codes "0 tick 1760000000250")
    ≡ Some (record { who = 0; event = Tick 1760000000250 })
tick-is = refl

ask-is : entry_in (codes "0 ask 2 5") ≡ Some (record { who = 0; event = Ask 2 5 })
ask-is = refl

orders-is : entry_in (codes "0 orders") ≡ Some (record { who = 0; event = TakeOrders })
orders-is = refl

stop-is : entry_in (codes "0 stop") ≡ Some (record { who = 0; event = Stop })
stop-is = refl

empty-refused : entry_in [] ≡ None
empty-refused = refl

seat_alone-refused : entry_in (codes "1") ≡ None
seat_alone-refused = refl

two_spaces-refused : entry_in (codes "1  take") ≡ None
two_spaces-refused = refl

space_first-refused : entry_in (codes " 1 take") ≡ None
space_first-refused = refl

space_last-refused : entry_in (codes "1 take ") ≡ None
space_last-refused = refl

tab-refused : entry_in (codes "1 take\t") ≡ None
tab-refused = refl

zero_first-refused : entry_in (codes "01 take") ≡ None
zero_first-refused = refl

seat_too_large-refused : entry_in (codes "18446744073709551616 take") ≡ None
seat_too_large-refused = refl

peer_too_large-refused : entry_in (codes "1 open 4294967296") ≡ None
peer_too_large-refused = refl

unknown_verb-refused : entry_in (codes "1 taken") ≡ None
unknown_verb-refused = refl

word_behind-refused : entry_in (codes "0 stop 1") ≡ None
word_behind-refused = refl

odd_code-refused : entry_in (codes "7 call odd 2 1") ≡ None
odd_code-refused = refl

value_wide-refused : entry_in (codes "0 update 3 s4 00 0 0") ≡ None
value_wide-refused = refl

journal-written : journal_text
    (record { who = 1; event = Open 0 } ∷ record { who = 1; event = Take } ∷ [])
    ≡ codes "1 open 0\n1 take\n"
unfolding digits
journal-written = refl
