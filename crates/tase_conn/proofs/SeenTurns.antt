-- What a connection has read is the front of what its items tell.
use Rattle.std.proofs.Common.{◌≡◌, List, [], ◌∷◌, ◌++◌, Option, Some, None, sym, ap, subst, ◌∙◌}
use Rattle.std.proofs.Common.{append_assoc, MatchOption}
use Rattle.std.proofs.lemmas.List.{append-nil}
use Rattle.bilateral.specs.Rows.{CentreRows}
use Rattle.stack_assoc.specs.declared.messages.fault.StackFault.{StackFault}
use Rattle.stack_assoc.specs.Arrivals.{Arrival, called}
use Rattle.stack_assoc.specs.Courses.{CourseStands}
use Rattle.tase_conn.specs.Map.Inputs.{Item, text_given}
use Rattle.tase_conn.specs.Map.Readings.{reading_of}
use Rattle.tase_conn.specs.Map.Turns.{Turn, fault_turns, turns_behind_octets, turns_of}
use Rattle.tase_conn.proofs.OfMap.Fronts.{told_front}
use Rattle.tase_conn.proofs.OfMap.TurnsRead.{turns_heard, heard-append, item_turns}
use Rattle.tase_conn.specs.declared.stage.PendingEvent.{PendingEvent}
use Rattle.tase_conn.specs.declared.stage.Behind.{Behind}
use Rattle.tase_conn.specs.declared.stage.Behind.TheVariants as behinds
use Rattle.tase_conn.specs.Talking.{Talking}
use Rattle.tase_conn.specs.Places.{turns_held, BeginsTurns, IsWithin, ReadsBy, Runs}

-- what the items tell, where these messages come behind those that were told of the last
pub within_turns : (items : List Item) (told : List Arrival) (seen : List Turn) (v : Talking)
    (w : IsWithin items told seen v) (others : List Arrival)
    → (reading_of (text_given items)).told ≡ told ++ others
    → turns_of items ≡ seen ++ (turns_heard others
    ++ (fault_turns (reading_of (text_given items)).broken ++ turns_behind_octets w.item))
within_turns items told seen v w others e =
    let whole = w.done ++ w.item ∷ [] in
    let first = (reading_of (text_given w.done)).told in
    let later = turns_heard w.later in
    let broken = fault_turns (reading_of (text_given whole)).broken in
    let behind = turns_behind_octets w.item in
    let rest = turns_heard others ++ (broken ++ behind) in
    let all : (reading_of (text_given whole)).told ≡ first ++ (w.later ++ others) =
    subst (λ (is : List Item). (reading_of (text_given is)).told ≡ told ++ others) w.is e
    ∙ ap (λ (ts : List Arrival). ts ++ others) w.told_is ∙ append_assoc first w.later others in
    let joined : (turns_heard (w.later ++ others) ++ broken) ++ behind ≡ later ++ rest =
    append_assoc (turns_heard (w.later ++ others)) broken behind
    ∙ ap (λ (ts : List Turn). ts ++ (broken ++ behind)) (heard-append w.later others)
    ∙ append_assoc later (turns_heard others) (broken ++ behind) in
    let found : turns_of whole ≡ seen ++ rest =
    item_turns w.done w.item (w.later ++ others) w.unbroken all
    ∙ ap (λ (ts : List Turn). turns_of w.done ++ ts) joined
    ∙ sym (append_assoc (turns_of w.done) later rest)
    ∙ ap (λ (ts : List Turn). ts ++ rest) (sym w.seen_is) in
    subst (λ (is : List Item). turns_of is ≡ seen ++ (turns_heard others
    ++ (fault_turns (reading_of (text_given is)).broken ++ behind))) (sym w.is) found

seen_within : (items : List Item) (told : List Arrival) (seen : List Turn) (v : Talking)
    → CourseStands called (text_given items) told v.course → IsWithin items told seen v
    → BeginsTurns seen (turns_of items)
seen_within items told seen v s w =
    let f = told_front (text_given items) told v.course s in (
      turns_heard f.0
          ++ (fault_turns (reading_of (text_given items)).broken ++ turns_behind_octets w.item),
      within_turns items told seen v w f.0 f.1,
    )

seen_read : (items : List Item) (told : List Arrival) (seen : List Turn) (v : Talking)
    (behind : Behind) → CourseStands called (text_given items) told v.course
    → ReadsBy behind items told seen v → BeginsTurns seen (turns_of items)
seen_read items told seen v behinds.Nothing s d = ([], sym d.seen_is ∙ sym (append-nil seen))
seen_read items told seen v behinds.Pause s w = seen_within items told seen v s w
seen_read items told seen v behinds.End s w = seen_within items told seen v s w

seen_by : (items : List Item) (told : List Arrival) (seen : List Turn) (v : Talking)
    (fault : Option StackFault) → CourseStands called (text_given items) told v.course
    → MatchOption fault (ReadsBy v.behind items told seen v) (λ f. BeginsTurns seen (turns_of items))
    → BeginsTurns seen (turns_of items)
seen_by items told seen v None s r = seen_read items told seen v v.behind s r
seen_by items told seen v (Some f) s b = b

-- what was acted on, and what comes next, begins all that the items tell
pub seen_front : (rows : CentreRows) (items : List Item) (told : List Arrival) (turns : List Turn)
    (asked : PendingEvent) (v : Talking) → Runs rows items told turns asked v
    → BeginsTurns (turns ++ turns_held v.held) (turns_of items)
seen_front rows items told turns asked v r =
    seen_by items told (turns ++ turns_held v.held) v v.course.fault r.stands r.reads
