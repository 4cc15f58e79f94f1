-- Tags by the operator and takes of the plant's orders, computed on worked histories.
use Rattle.std.proofs.Common.{◌≡◌, ℕ, ◌^◌, [], ◌∷◌, Some, None, pos, refl}
use Rattle.std.specs.Prelude.{codes}
use Rattle.std.specs.Fmt.{digits}
use Rattle.mms_data.specs.Datum.{integer, bits, text, structure, data_of}
use Rattle.mms_data.specs.declared.outcome.Outcome.TheVariants.{Good}
use Rattle.tase_views.specs.declared.event.EventKind.{EventKind}
use Rattle.tase_views.specs.declared.event.EventKind.TheVariants.{Open, Request, Tag, TakeOrders}
use Rattle.tase_views.specs.declared.event.EventKind.TheVariants.{Stop}
use Rattle.tase_views.specs.declared.event.Entry.{Entry}
use Rattle.tase_views.specs.declared.fault.StepFault.TheVariants.{Stopped, HistoryFull}
use Rattle.tase_views.specs.declared.fault.StepFault.TheVariants.{UnknownName}
use Rattle.tase_views.specs.declared.reply.Answer.TheVariants.{Reply, Orders, Noted}
use Rattle.tase_views.specs.declared.reply.ReplyKind.TheVariants.{Results}
use Rattle.tase_views.specs.Setup.{Setup}
use Rattle.tase_views.specs.History.{Past}
use Rattle.tase_views.specs.View.{view_of, tagged}
use Rattle.tase_views.specs.EventTexts.{event_text}
use Rattle.tase_views.specs.Weights.{weight}
use Rattle.tase_views.specs.Outcomes.{refusal_of, answer_of}
use Rattle.tase_views.proofs.NodeSample.{rows, in_a, in_b, read_one, write_one}

abbrev setup : Setup
setup = record { centre = rows; limit = 2 ^ 31 }

abbrev small : Setup
small = record { centre = rows; limit = 5 }

abbrev entry : ℕ → EventKind → Entry
entry who event = record { who = who; event = event }

-- the breaker, which both peers control, and the capacitor, which B alone does
abbrev breaker_tagged : EventKind
breaker_tagged = Tag 0 (record { tag = 1; reason = codes "test run" })

abbrev capacitor_tagged : EventKind
capacitor_tagged = Tag 1 (record { tag = 2; reason = [] })

tag-text : event_text breaker_tagged ≡ codes "tag 0 1 vtest%20run"
unfolding digits
tag-text = refl

bare_tag-text : event_text capacitor_tagged ≡ codes "tag 1 2 v"
unfolding digits
bare_tag-text = refl

orders-text : event_text TakeOrders ≡ codes "orders"
orders-text = refl

tag-weighs : weight breaker_tagged ≡ 19
unfolding digits
tag-weighs = refl

tag-is_taken : refusal_of setup [] 0 capacitor_tagged ≡ None
unfolding digits
tag-is_taken = refl

no_such_device : refusal_of setup [] 0 (Tag 2 (record { tag = 0; reason = [] }))
    ≡ Some UnknownName
no_such_device = refl

tag-is_stopped : refusal_of setup (entry 0 Stop ∷ []) 0 (Tag 2 (record { tag = 0; reason = [] }))
    ≡ Some (Stopped 0)
tag-is_stopped = refl

tag-is_noted : answer_of setup [] 0 breaker_tagged ≡ Noted
tag-is_noted = refl

orders-are_stopped : refusal_of setup (entry 0 Stop ∷ []) 0 TakeOrders ≡ Some (Stopped 0)
orders-are_stopped = refl

orders-fill : refusal_of small [] 0 TakeOrders ≡ Some (HistoryFull 6 5)
orders-fill = refl

-- a tag is seen by whoever controls the device, and read as it is
a_sees_its_tag : view_of rows 0 (entry 0 breaker_tagged ∷ [])
    ≡ tagged (codes "BRK1") (record { tag = 1; reason = codes "test run" }) ∷ []
a_sees_its_tag = refl

a_sees_no_other_tag : view_of rows 0 (entry 0 capacitor_tagged ∷ []) ≡ []
a_sees_no_other_tag = refl

b_sees_the_tag : view_of rows 1 (entry 0 capacitor_tagged ∷ [])
    ≡ tagged (codes "CAP1") (record { tag = 2; reason = [] }) ∷ []
b_sees_the_tag = refl

tag-is_read : answer_of setup (entry 1 (Open 0) ∷ entry 0 breaker_tagged ∷ []) 1
    (Request (read_one (in_a (codes "BRK1_TAG"))))
    ≡ Reply (Results None (Good (structure (data_of (bits (record { count = 2; octets = 64 ∷ [] })
    ∷ text (codes "test run") ∷ []))) ∷ []))
tag-is_read = refl

-- B operates the direct capacitor twice; all orders are given once, to whoever takes them
abbrev operated : Past
operated =
    entry 2 (Request (write_one (in_b (codes "CAP1")) (integer (pos 0))))
    ∷ entry 2 (Request (write_one (in_b (codes "CAP1")) (integer (pos 1)))) ∷ entry 2 (Open 1) ∷ []

orders-are_given : answer_of setup operated 0 TakeOrders
    ≡ Orders (record { device = 1; value = pos 1 } ∷ record { device = 1; value = pos 0 } ∷ [])
orders-are_given = refl

orders-are_given_to_any_seat : answer_of setup operated 2 TakeOrders
    ≡ Orders (record { device = 1; value = pos 1 } ∷ record { device = 1; value = pos 0 } ∷ [])
orders-are_given_to_any_seat = refl

orders-are_given_once : answer_of setup (entry 0 TakeOrders ∷ operated) 0 TakeOrders ≡ Orders []
orders-are_given_once = refl
