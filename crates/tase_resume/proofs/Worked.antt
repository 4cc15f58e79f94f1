-- Snapshots of worked histories, computed apart from all code.
use Rattle.std.proofs.Common.{◌≡◌, ℕ, List, [], ◌∷◌, reverse, refl, false, pos}
use Rattle.std.specs.Prelude.{codes}
use Rattle.std.specs.Fmt.{digits}
use Rattle.tase_points.specs.declared.body.Body.{Body}
use Rattle.tase_points.specs.declared.body.Body.TheVariants as bodies
use Rattle.tase_points.specs.Sample.{Sample}
use Rattle.mms_data.specs.Datum.{integer, bits, text, structure, data_of}
use Rattle.mms_data.specs.ObjectName.{ObjectName}
use Rattle.sbo_device.specs.Moves.{Tag}
use Rattle.tase_views.specs.declared.call.CallKind.{CallKind}
use Rattle.tase_views.specs.declared.call.CallKind.TheVariants.{Read, Write, Define, Delete}
use Rattle.tase_views.specs.declared.event.EventKind.{EventKind}
use Rattle.tase_views.specs.declared.event.EventKind.TheVariants.{Open, Request, Close, Update}
use Rattle.tase_views.specs.declared.event.EventKind.TheVariants.{Tick, Stop}
use Rattle.tase_views.specs.declared.event.EventKind.TheVariants as events
use Rattle.tase_views.specs.declared.event.Entry.{Entry}
use Rattle.tase_views.proofs.NodeSample.{rows, in_a, in_b}
use Rattle.tase_resume.specs.Bases.{settled_past}
use Rattle.tase_resume.specs.Warming.{warm_entries}

abbrev entry : ℕ → EventKind → Entry
entry who event = record { who = who; event = event }

abbrev asks : ℕ → CallKind → Entry
asks who call = entry who (Request call)

abbrev value : Body → ℕ → ℕ → Sample
value body flags seconds = record { body = body; flags = flags; seconds = seconds; millis = 0 }

abbrev tag : ℕ → List ℕ → Tag
tag n reason = record { tag = n; reason = reason }

-- the snapshot of a history whose entries are these, the oldest first
abbrev snapshot : List Entry → List Entry
snapshot entries = warm_entries rows (reverse entries)

one_value : snapshot
    (entry 1 (Open 0) ∷ entry 2 (Open 1)
    ∷ entry 0 (Update 0 (value (bodies.State 2) 0 1700000000)) ∷ [])
    ≡ entry 0 (Update 0 (value (bodies.State 2) 0 1700000000)) ∷ []
unfolding digits
one_value = refl

-- the base closes what is open, in the order of the seats, and has no stop
base-is : settled_past
    (reverse (entry 2 (Open 0) ∷ entry 1 (Open 1) ∷ entry 0 Stop ∷ []))
    ≡ entry 2 Close ∷ entry 1 Close ∷ entry 1 (Open 1) ∷ entry 2 (Open 0) ∷ []
base-is = refl

-- a peer's own tagging counts as the centre's; a point that only ever had its unknown value is told
abbrev hold_tag : CallKind
hold_tag =
    Write (in_a (codes "BRK1_TAG") ∷ [])
    (structure (data_of (bits (record { count = 2; octets = 128 ∷ [] }) ∷ text (codes "hold") ∷ []))
    ∷ [])

tags_and_values : snapshot
    (entry 1 (Open 0) ∷ entry 0 (events.Tag 1 (tag 1 (codes "x"))) ∷ asks 1 hold_tag
    ∷ entry 0 (events.Tag 1 (tag 0 [])) ∷ entry 0 (Update 1 (value (bodies.Discrete (pos 7)) 0 1))
    ∷ entry 0 (Update 1 (value (bodies.Discrete (pos 0)) 48 2)) ∷ [])
    ≡ entry 0 (Update 1 (value (bodies.Discrete (pos 0)) 48 2))
    ∷ entry 0 (events.Tag 0 (tag 2 (codes "hold"))) ∷ []
unfolding digits
tags_and_values = refl

-- data sets stand in the order in which they were defined
abbrev s1 : List ObjectName
s1 = in_a (codes "BUS1") ∷ []

abbrev s2 : List ObjectName
s2 = in_a (codes "LOAD1") ∷ []

abbrev s3 : List ObjectName
s3 = in_a (codes "BUS1") ∷ in_a (codes "BUS1") ∷ []

abbrev s1_again : List ObjectName
s1_again = in_a (codes "DSConditions_Detected") ∷ []

three_sets : snapshot
    (entry 1 (Open 0) ∷ asks 1 (Define (in_a (codes "S1")) s1)
    ∷ asks 1 (Define (in_a (codes "S2")) s2) ∷ asks 1 (Define (in_a (codes "S1")) s2)
    ∷ asks 1 (Delete (in_a (codes "S1") ∷ [])) ∷ asks 1 (Define (in_a (codes "S3")) s3)
    ∷ asks 1 (Define (in_a (codes "S1")) s1_again) ∷ [])
    ≡ entry 0 (Open 0) ∷ entry 0 (Request (Define (in_a (codes "S2")) s2))
    ∷ entry 0 (Request (Define (in_a (codes "S3")) s3))
    ∷ entry 0 (Request (Define (in_a (codes "S1")) s1_again)) ∷ entry 0 Close ∷ []
unfolding digits
three_sets = refl

-- a selection is none of it
a_selection : snapshot
    (entry 0 (Tick 1000) ∷ entry 1 (Open 0) ∷ entry 2 (Open 1)
    ∷ asks 1 (Read (in_a (codes "BRK1_SBO") ∷ []) false)
    ∷ asks 2 (Write (in_b (codes "CAP1") ∷ []) (integer (pos 1) ∷ [])) ∷ [])
    ≡ entry 0 (Tick 1000) ∷ []
unfolding digits
a_selection = refl

-- points stand in their order, whatever that of their updates
in_order_of_points : snapshot
    (entry 0 (Update 2 (value (bodies.Real (65 ∷ 32 ∷ 0 ∷ 0 ∷ [])) 0 7))
    ∷ entry 0 (Update 1 (value (bodies.Discrete (pos 0)) 48 0))
    ∷ entry 0 (Update 0 (value (bodies.State 2) 0 5)) ∷ [])
    ≡ entry 0 (Update 0 (value (bodies.State 2) 0 5))
    ∷ entry 0 (Update 1 (value (bodies.Discrete (pos 0)) 48 0))
    ∷ entry 0 (Update 2 (value (bodies.Real (65 ∷ 32 ∷ 0 ∷ 0 ∷ [])) 0 7)) ∷ []
unfolding digits
in_order_of_points = refl
