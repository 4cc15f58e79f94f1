-- What peers of a node are answered that has taken a snapshot, computed apart from all code.
use Rattle.std.proofs.Common.{◌≡◌, ℕ, ◌^◌, List, [], ◌∷◌, ◌++◌, None, refl, true, false, pos}
use Rattle.std.specs.Prelude.{codes}
use Rattle.std.specs.Fmt.{digits}
use Rattle.tase_points.specs.declared.body.Body.{Body}
use Rattle.tase_points.specs.declared.body.Body.TheVariants as bodies
use Rattle.tase_points.specs.Sample.{Sample}
use Rattle.mms_data.specs.Datum.{Datum, integer, unsigned, bits, text, structure, data_of}
use Rattle.mms_data.specs.declared.outcome.Outcome.{Outcome}
use Rattle.mms_data.specs.declared.outcome.Outcome.TheVariants.{Good}
use Rattle.transfer_sets.specs.declared.wish.Wish.{Wish}
use Rattle.transfer_sets.specs.declared.wish.TheConstants.{CHANGE}
use Rattle.transfer_sets.specs.WishData.{shown_wish}
use Rattle.tase_views.specs.declared.call.CallKind.{CallKind}
use Rattle.tase_views.specs.declared.call.CallKind.TheVariants.{Read, ReadSet, Write, Define}
use Rattle.tase_views.specs.declared.event.EventKind.{EventKind}
use Rattle.tase_views.specs.declared.event.EventKind.TheVariants.{Open, Request, Take, Close}
use Rattle.tase_views.specs.declared.event.EventKind.TheVariants.{Update, Tick}
use Rattle.tase_views.specs.declared.event.EventKind.TheVariants as events
use Rattle.tase_views.specs.declared.event.Entry.{Entry}
use Rattle.tase_views.specs.declared.reply.Answer.{Answer}
use Rattle.tase_views.specs.declared.reply.Answer.TheVariants.{Reply}
use Rattle.tase_views.specs.declared.reply.ReplyKind.TheVariants.{Results}
use Rattle.tase_views.specs.Setup.{Setup}
use Rattle.tase_views.specs.History.{Past}
use Rattle.tase_views.specs.Outcomes.{answer_of}
use Rattle.tase_views.proofs.NodeSample.{rows, in_a, in_b, octet, wish_a}
use Rattle.tase_resume.specs.Warming.{warm_entries, warm_past}
use Rattle.tase_resume.specs.Recounted.{gap_of}

abbrev entry : ℕ → EventKind → Entry
entry who event = record { who = who; event = event }

abbrev asks : ℕ → CallKind → Entry
asks who call = entry who (Request call)

abbrev value : Body → ℕ → ℕ → Sample
value body flags seconds = record { body = body; flags = flags; seconds = seconds; millis = 0 }

abbrev setup : Setup
setup = record { centre = rows; limit = 2 ^ 31 }

-- the answer to a call of seat 1 behind further entries, the newest first
abbrev answered : Past → Past → CallKind → Answer
answered past later call = answer_of setup (later ++ warm_past rows past) 1 (Request call)

abbrev told : List Outcome → Answer
told outcomes = Reply (Results None outcomes)

value_is_read : answered (entry 0 (Update 0 (value (bodies.State 2) 0 1700000000)) ∷ [])
    (entry 1 (Open 1) ∷ [])
    (Read (in_b (codes "BUS1") ∷ []) false)
    ≡ told (Good (structure (data_of (octet 128 ∷ integer (pos 1700000000) ∷ []))) ∷ [])
unfolding digits
value_is_read = refl

-- a history with a tag and two values of a point, the second as if it had none
abbrev tagged_past : Past
tagged_past =
    entry 0 (Update 1 (value (bodies.Discrete (pos 0)) 48 2))
    ∷ entry 0 (Update 1 (value (bodies.Discrete (pos 7)) 0 1))
    ∷ entry 0 (events.Tag 0 (record { tag = 2; reason = codes "hold" })) ∷ []

abbrev load : ℕ → ℕ → Datum
load n count = structure (data_of (integer (pos n) ∷ unsigned count ∷ []))

tag_is_read : answered tagged_past (entry 1 (Open 0) ∷ [])
    (Read (in_a (codes "BRK1_TAG") ∷ in_a (codes "LOAD1") ∷ []) false)
    ≡ told (Good (structure (data_of (bits (record { count = 2; octets = 128 ∷ [] })
    ∷ text (codes "hold") ∷ []))) ∷ Good (load 0 0) ∷ [])
unfolding digits
tag_is_read = refl

-- a change more counts on from there; the history that goes on has two changes more
change_counts : answered tagged_past
    (entry 0 (Update 1 (value (bodies.Discrete (pos 1)) 0 3)) ∷ entry 1 (Open 0) ∷ [])
    (Read (in_a (codes "LOAD1") ∷ []) false)
    ≡ told (Good (load 1 1) ∷ [])
unfolding digits
change_counts = refl

two_more : gap_of rows tagged_past (codes "LOAD1") ≡ 2
two_more = refl

-- a transfer set is none of a snapshot; its data set is
abbrev s2 : CallKind
s2 = Define (in_a (codes "S2")) (in_a (codes "LOAD1") ∷ [])

abbrev wish : Wish
wish = record (wish_a (codes "S2")) { conditions = CHANGE; buffer = 3; rbe = true }

abbrev watched_past : Past
watched_past =
    entry 1 Take ∷ entry 0 (Tick 23000) ∷ entry 0 (Tick 22000)
    ∷ entry 0 (Update 1 (value (bodies.Discrete (pos 5)) 0 102))
    ∷ entry 0 (Update 1 (value (bodies.Discrete (pos 9)) 0 101))
    ∷ asks 1 (Write (in_a (codes "DSTrans1") ∷ []) (shown_wish wish ∷ []))
    ∷ asks 1 (Read (in_a (codes "Next_DSTransfer_Set") ∷ []) false) ∷ asks 1 s2
    ∷ entry 0 (Update 1 (value (bodies.Discrete (pos 5)) 0 100)) ∷ entry 1 (Open 0)
    ∷ entry 0 (Tick 20000) ∷ []

its_snapshot : warm_entries rows watched_past
    ≡ entry 0 (Update 1 (value (bodies.Discrete (pos 5)) 0 102)) ∷ entry 0 (Tick 23000)
    ∷ entry 0 (Open 0) ∷ asks 0 s2 ∷ entry 0 Close ∷ []
unfolding digits
its_snapshot = refl

set_is_read : answered watched_past (entry 1 (Open 0) ∷ [])
    (ReadSet (in_a (codes "S2")) false) ≡ told (Good (load 5 1) ∷ [])
unfolding digits
set_is_read = refl
