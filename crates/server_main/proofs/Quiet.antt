-- Events by which no orders are taken, and lists of them.
use Rattle.std.proofs.Common.{◌≡◌, ℕ, ◌==◌, Bool, true, false, List, [], ◌∷◌, ◌++◌, map, reverse}
use Rattle.std.proofs.Common.{cond, Option, Some, None, Result, Ok, Err, sym, ap, subst, ◌∙◌}
use Rattle.std.specs.Prelude.{if◌then◌else◌, option_map, option_and_then}
use Rattle.std.specs.List.{cons_option}
use Rattle.std.proofs.lemmas.List.{reverse-append, reverse-reverse}
use Rattle.std.proofs.lemmas.List.Elements.{filter_map-append}
use Rattle.tase_views.specs.declared.event.EventKind.{EventKind}
use Rattle.tase_views.specs.declared.event.EventKind.TheVariants.{Stop}
use Rattle.tase_views.specs.declared.fault.StepFault.{StepFault}
use Rattle.tase_views.specs.declared.reply.Answer.{Answer}
use Rattle.tase_views.specs.Moves.{sort_of}
use Rattle.share_turn.specs.Entries.{Each, own}
use Rattle.share_turn.specs.Public.{added}
use Rattle.share_turn.proofs.Owned.{each_append, own_append}
use Rattle.node_server.specs.TaseConn.Map.Sent.{events_by, event_by}
use Rattle.node_server.specs.Turn.Logged.{past_in, logged_entry}
use Rattle.node_server.specs.NodeCalls.{NodeCall, NodeLog}
use Rattle.node_server.specs.SeatCalls.{taken_events}
use Rattle.server_main.specs.Plant.PlantHistory.{AsksOrders}

abbrev pub IsQuiet : EventKind → Type 0
IsQuiet event = AsksOrders (sort_of event) → ⊥

abbrev pub AllQuiet : List EventKind → Type 0
AllQuiet events = Each IsQuiet events

abbrev pub QuietIfSome : Option EventKind → Type 0
QuietIfSome None = Unit {0}
QuietIfSome (Some event) = IsQuiet event

-- ---- one event

pub then-quiet : {A : Type 0} (f : A → Option EventKind) → ((a : A) → QuietIfSome (f a))
    → (o : Option A) → QuietIfSome (option_and_then f o)
then-quiet f each None = tt
then-quiet f each (Some a) = each a

pub map-quiet : {A : Type 0} (f : A → EventKind) → ((a : A) → IsQuiet (f a)) → (o : Option A)
    → QuietIfSome (option_map f o)
map-quiet f each None = tt
map-quiet f each (Some a) = each a

pub if-quiet : (b : Bool) (x y : Option EventKind) → QuietIfSome x → QuietIfSome y
    → QuietIfSome (if b then x else y)
if-quiet true x y quiet other = quiet
if-quiet false x y quiet other = other

-- ---- lists

pub front-quiet : (xs ys : List EventKind) → AllQuiet (xs ++ ys) → AllQuiet xs
front-quiet [] ys each = tt
front-quiet (x ∷ xs) ys each = (each.0, front-quiet xs ys each.1)

pub append-quiet : (xs ys : List EventKind) → AllQuiet xs → AllQuiet ys → AllQuiet (xs ++ ys)
append-quiet xs ys a b = each_append IsQuiet xs ys a b

turned-quiet : (xs : List EventKind) → AllQuiet xs → AllQuiet (reverse xs)
turned-quiet [] quiet = tt
turned-quiet (x ∷ xs) quiet = subst AllQuiet (sym (reverse-append (x ∷ []) xs))
    (append-quiet (reverse xs) (x ∷ []) (turned-quiet xs quiet.1) (quiet.0, tt))

pub back-quiet : (xs : List EventKind) → AllQuiet (reverse xs) → AllQuiet xs
back-quiet xs quiet = subst AllQuiet (reverse-reverse xs) (turned-quiet (reverse xs) quiet)

-- ---- calls

pub taken-quiet : (calls : List NodeCall)
    → AllQuiet (map (λ (call : NodeCall). call.event) calls) → AllQuiet (taken_events calls)
taken-quiet [] quiet = tt
taken-quiet (call ∷ calls) quiet =
    append-quiet (added call.outcome call.event) (taken_events calls)
    (by call.outcome quiet.0) (taken-quiet calls quiet.1)
  where
    by : (outcome : Result Answer StepFault) → IsQuiet call.event
        → AllQuiet (added outcome call.event)
    by (Ok answer) one = (one, tt)
    by (Err fault) one = tt

pub stop-quiet : (calls : List NodeCall) → Each (λ (call : NodeCall). call.event ≡ Stop) calls
    → AllQuiet (taken_events calls)
stop-quiet calls stops = taken-quiet calls (each calls stops)
  where
    each : (calls : List NodeCall) → Each (λ (call : NodeCall). call.event ≡ Stop) calls
        → AllQuiet (map (λ (call : NodeCall). call.event) calls)
    each [] stops = tt
    each (call ∷ calls) stops = (
      subst IsQuiet (sym stops.0) (λ asks. asks),
      each calls stops.1,
    )

-- ---- the own events of a seat

one-quiet : (mine : Bool) (entry : ℕ × EventKind)
    → AllQuiet (cons_option (if mine then Some entry.1 else None) [])
    → AllQuiet (map (λ (e : ℕ × EventKind). e.1) (cond mine (entry ∷ []) []))
one-quiet true entry quiet = quiet
one-quiet false entry quiet = tt

behind-quiet : (xs ys : List EventKind) → AllQuiet (xs ++ ys) → AllQuiet ys
behind-quiet [] ys each = each
behind-quiet (x ∷ xs) ys each = behind-quiet xs ys each.1

pub own-quiet : (who : ℕ) (log : NodeLog) → AllQuiet (events_by who (past_in log))
    → AllQuiet (own who log)
own-quiet who [] quiet = tt
own-quiet who (entry ∷ log) quiet =
    let one = logged_entry entry ∷ [] in
    let both : AllQuiet (events_by who (past_in log) ++ events_by who one) =
    subst AllQuiet (ap (λ past. events_by who past) (reverse-append one (map logged_entry log))
    ∙ filter_map-append (event_by who) (past_in log) one) quiet in
    subst AllQuiet (sym (own_append who (entry ∷ []) log))
    (append-quiet (own who (entry ∷ [])) (own who log)
    (one-quiet (entry.0 == who) entry
    (behind-quiet (events_by who (past_in log)) (events_by who one) both))
    (own-quiet who log (front-quiet (events_by who (past_in log)) (events_by who one) both)))
