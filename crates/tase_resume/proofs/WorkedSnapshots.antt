-- Which entries are a snapshot and which aren't, computed apart from all code.
use Rattle.std.proofs.Common.{◌≡◌, ℕ, List, [], ◌∷◌, ◌++◌, Option, Some, None, refl, true, Bool}
use Rattle.std.specs.Prelude.{codes, Ok, Err, option_map}
use Rattle.std.specs.Fmt.{digits}
use Rattle.tase_points.specs.declared.body.Body.TheVariants as bodies
use Rattle.tase_points.specs.Sample.{Sample}
use Rattle.tase_views.specs.declared.call.CallKind.TheVariants.{Define, Identify}
use Rattle.tase_views.specs.declared.event.EventKind.{EventKind}
use Rattle.tase_views.specs.declared.event.EventKind.TheVariants.{Open, Request, Close, Update}
use Rattle.tase_views.specs.declared.event.EventKind.TheVariants.{Table, Tick, Stop}
use Rattle.tase_views.specs.declared.event.EventKind.TheVariants as events
use Rattle.tase_views.specs.declared.event.Entry.{Entry}
use Rattle.tase_views.proofs.NodeSample.{rows, in_a}
use Rattle.tase_resume.specs.Snapshots.{SnapshotState, no_lines, snapshot_behind, snapshot_in}

abbrev entry : ℕ → EventKind → Entry
entry who event = record { who = who; event = event }

-- whether an association is left open behind entries, where each may follow
abbrev left : List Entry → Option (Option Bool)
left entries =
    option_map (λ (s : SnapshotState). s.defining) (snapshot_behind rows no_lines entries)

abbrev tick_5 : Entry
tick_5 = entry 0 (Tick 5)

abbrev tag_1 : Entry
tag_1 = entry 0 (events.Tag 1 (record { tag = 1; reason = codes "x" }))

abbrev define : List ℕ → List ℕ → Entry
define name member =
    entry 0 (Request (Define (in_a name) (in_a member ∷ [])))

abbrev of_5 : Sample
of_5 = record { body = bodies.State 2; flags = 0; seconds = 5; millis = 0 }

in_order : left (entry 0 (Update 0 of_5) ∷ tag_1 ∷ tick_5 ∷ entry 0 (Open 0)
    ∷ define (codes "S1") (codes "BUS1") ∷ entry 0 Close ∷ []) ≡ Some None
unfolding digits
in_order = refl

left_open : left (entry 0 (Open 0) ∷ define (codes "S1") (codes "BUS1") ∷ []) ≡ Some (Some true)
unfolding digits
left_open = refl

another_seat : left (entry 1 (Tick 5) ∷ []) ≡ None
unfolding digits
another_seat = refl

no_moment : left (entry 0 (Tick 0) ∷ []) ≡ None
unfolding digits
no_moment = refl

the_first_table : left (entry 0 (Table 0 0) ∷ []) ≡ None
unfolding digits
the_first_table = refl

no_tag : left (entry 0 (events.Tag 0 (record { tag = 0; reason = [] })) ∷ []) ≡ None
unfolding digits
no_tag = refl

a_stop : left (entry 0 Stop ∷ []) ≡ None
unfolding digits
a_stop = refl

tag_behind_tick : left (tick_5 ∷ tag_1 ∷ []) ≡ None
unfolding digits
tag_behind_tick = refl

twice_a_point : left (entry 0 (Update 0 of_5) ∷ entry 0 (Update 0 of_5) ∷ []) ≡ None
unfolding digits
twice_a_point = refl

no_data_set : left (entry 0 (Open 0) ∷ entry 0 Close ∷ []) ≡ None
unfolding digits
no_data_set = refl

no_such_member : left (entry 0 (Open 0) ∷ define (codes "S1") (codes "NOPE") ∷ []) ≡ None
unfolding digits
no_such_member = refl

another_call : left (entry 0 (Open 0) ∷ entry 0 (Request Identify) ∷ []) ≡ None
unfolding digits
another_call = refl

-- of texts

of_none : snapshot_in rows [] ≡ Ok []
of_none = refl

without_end : snapshot_in rows (codes "0 tick 5") ≡ Err 1
unfolding digits
without_end = refl

two_spaces : snapshot_in rows (codes "0  tick 5" ++ 10 ∷ []) ≡ Err 1
unfolding digits
two_spaces = refl

one_line : snapshot_in rows (codes "0 tick 5" ++ 10 ∷ []) ≡ Ok (tick_5 ∷ [])
unfolding digits
one_line = refl

-- a text that ends inside an association is bad at the line behind its last
inside : snapshot_in rows (codes "0 open 0" ++ 10 ∷ codes "0 call define DOMA/S1 DOMA/BUS1"
    ++ 10 ∷ []) ≡ Err 3
unfolding digits
inside = refl
