-- What comes of a connection over whatever past its events are taken at, with nothing between an
-- event and the close behind it.
use Rattle.std.proofs.Common.{◌≡◌, ℕ, Bool, true, List, reverse, Some, None, Ok, Err}
use Rattle.std.proofs.Common.{refl, sym, subst}
use Rattle.std.proofs.lemmas.List.{reverse-reverse}
use Rattle.stack_assoc.specs.declared.end_state.EndState.{EndState}
use Rattle.tase_views.specs.Setup.{Setup}
use Rattle.tase_views.specs.History.{Past}
use Rattle.tase_views.specs.Outcomes.{IsRightOutcome, answer_of}
use Rattle.tase_views.specs.declared.event.EventKind.{EventKind}
use Rattle.tase_views.specs.declared.event.Entry.{Entry}
use Rattle.tase_views.specs.declared.fault.StepFault.{StepFault}
use Rattle.tase_views.specs.declared.reply.Answer.{Answer}
use Rattle.node_core.specs.NodeState.{NodeState, with_entry}
use Rattle.tase_conn.specs.Map.Inputs.{Item}
use Rattle.tase_conn.specs.Map.Sent.{with_event}
use Rattle.tase_conn.specs.declared.stage.ConnEnd.{ConnEnd}
use Rattle.tase_conn.specs.declared.stage.ConnEnd.TheVariants as conn_ends
use Rattle.tase_conn.specs.Talking.{Talking, is_running, is_leaving}
use Rattle.tase_conn.specs.Places.{KeepsPlace}
use Rattle.tase_conn.specs.Wanting.{PassesSo, IsIdle}
use Rattle.tase_conn.specs.Leaving.{IsLeft}
use Rattle.tase_conn.specs.Answering.{TellsAnswer, unnoted, end_of_fault}
use Rattle.conn_service.specs.Courses.Serving.{Serves}
use Rattle.conn_service.specs.Courses.AnswerEnd.{end_answered}
use Rattle.conn_service.specs.Served.{with_closed}
use Rattle.conn_service.specs.Attending.{IsAsking, IsParting, ClosesLeft, AsksClose, CutsOff}
use Rattle.conn_service.specs.Attending.{AnswersEvent, GoesOrCloses}
use Rattle.conn_service.proofs.Going.{grown, closed_on}
use Rattle.conn_service.proofs.Refused.{ClosesSo, refused_cut, parting_on}
use Rattle.conn_service.proofs.Memory.{unnoted_cut, unnoted_parting, given_cut}
use Rattle.conn_service.proofs.TooLong.{told_on, told_parting}
use Rattle.node_server.specs.Seats.Serving.{ClosesOverAll}

-- a node with this history
abbrev node_with : Setup → List Entry → NodeState
node_with setup history = record { setup = setup; history = history }

-- what holds over the past of each history holds over every past
of_past : (P : Past → Type 0) → ((history : List Entry) → P (reverse history)) → (past : Past)
    → P past
of_past P each past = subst P (reverse-reverse past) (each (reverse past))

-- the close, over the node's own past
closes_at : (setup : Setup) (history : List Entry) (who : ℕ) (old new : Talking)
    → ClosesOverAll setup.centre who old new
    → ClosesSo (node_with setup history)
    (node_with setup (reverse (with_closed who (reverse history)))) who old new
closes_at setup history who old new closes = λ whole end standing items said h.
    subst (λ (p : Past). ClosesLeft whole end standing setup.centre (reverse history) who items said
    old p new) (sym (reverse-reverse (with_closed who (reverse history))))
    (closes (reverse history) whole end standing items said h)

grown_at : (setup : Setup) (history : List Entry) (who : ℕ) (event : EventKind)
    → reverse (with_entry (node_with setup history) who event).history
    ≡ with_event who event (reverse history)
grown_at setup history who event =
    grown (node_with setup history) (with_entry (node_with setup history) who event) who event refl

-- ---- the event was refused

refused_there : (setup : Setup) (who : ℕ) (items : List Item) (said : List ℕ) (event : EventKind)
    (fault : StepFault) (old between new : Talking) (history : List Entry)
    → KeepsPlace old between → IsLeft (end_of_fault fault) old between
    → ClosesOverAll setup.centre who between new
    → IsRightOutcome setup (reverse history) who event (Err fault)
    → Serves setup.centre (reverse history) who items said (Some event) old
    → CutsOff setup (reverse history) who items said old None
    (with_closed who (reverse history)) new
refused_there setup who items said event fault old between new history stays left closes right s =
    let past = reverse history in
    let node = node_with setup history in
    subst (λ (p : Past). CutsOff setup past who items said old None p new)
    (reverse-reverse (with_closed who past))
    (refused_cut node node (node_with setup (reverse (with_closed who past))) who items said event
    fault old between new refl right stays left (closes_at setup history who between new closes) s)

pub refused_over : (setup : Setup) (past : Past) (who : ℕ) (items : List Item) (said : List ℕ)
    (event : EventKind) (fault : StepFault) (old between new : Talking)
    → KeepsPlace old between → IsLeft (end_of_fault fault) old between
    → ClosesOverAll setup.centre who between new
    → IsRightOutcome setup past who event (Err fault)
    → Serves setup.centre past who items said (Some event) old
    → CutsOff setup past who items said old None (with_closed who past) new
refused_over setup past who items said event fault old between new stays left closes =
    of_past (λ (p : Past). IsRightOutcome setup p who event (Err fault)
    → Serves setup.centre p who items said (Some event) old
    → CutsOff setup p who items said old None (with_closed who p) new)
    (λ history. refused_there setup who items said event fault old between new history stays left
    closes) past

pub refused_parts : (setup : Setup) (past : Past) (who : ℕ) (event : EventKind) (fault : StepFault)
    (old between : Talking) → KeepsPlace old between → IsLeft (end_of_fault fault) old between
    → IsRightOutcome setup past who event (Err fault) → IsAsking setup.centre past who event old
    → IsParting setup.centre past who between
refused_parts setup past who event fault old between stays left =
    of_past (λ (p : Past). IsRightOutcome setup p who event (Err fault)
    → IsAsking setup.centre p who event old → IsParting setup.centre p who between)
    (λ history right x. parting_on (node_with setup history) (node_with setup history) who event
    fault old between refl right stays left x) past

-- ---- it was answered, and memory was wanting for what is said

unnoted_there : (setup : Setup) (who : ℕ) (items : List Item) (said : List ℕ) (event : EventKind)
    (answer : Answer) (old between left new : Talking) (history : List Entry)
    → between ≡ unnoted (Ok answer) old → KeepsPlace old between → KeepsPlace between left
    → IsLeft conn_ends.Memory between left → ClosesOverAll setup.centre who left new
    → IsRightOutcome setup (reverse history) who event (Ok answer)
    → Serves setup.centre (reverse history) who items said (Some event) old
    → CutsOff setup (with_event who event (reverse history)) who items said old
    (end_answered items (answer_of setup (reverse history) who event))
    (with_closed who (with_event who event (reverse history))) new
unnoted_there setup who items said event answer old between left new history is stays on parts
    closes right s =
    let past = reverse history in
    let node = node_with setup history in
    let middle = with_entry node who event in
    let now : reverse middle.history ≡ with_event who event past =
    grown_at setup history who event in
    let brought = end_answered items (answer_of setup past who event) in
    subst (λ (p : Past). CutsOff setup (with_event who event past) who items said old brought
    (with_closed who p) new) now
    (subst (λ (p : Past). CutsOff setup (with_event who event past) who items said old brought
    p new)
    (reverse-reverse (with_closed who (reverse middle.history)))
    (unnoted_cut node middle (node_with setup (reverse (with_closed who (reverse middle.history))))
    who items said event answer old between left new refl right is stays on parts
    (closes_at setup middle.history who left new closes) s))

pub unnoted_over : (setup : Setup) (past : Past) (who : ℕ) (items : List Item) (said : List ℕ)
    (event : EventKind) (answer : Answer) (old between left new : Talking)
    → between ≡ unnoted (Ok answer) old → KeepsPlace old between → KeepsPlace between left
    → IsLeft conn_ends.Memory between left → ClosesOverAll setup.centre who left new
    → IsRightOutcome setup past who event (Ok answer)
    → Serves setup.centre past who items said (Some event) old
    → CutsOff setup (with_event who event past) who items said old
    (end_answered items (answer_of setup past who event))
    (with_closed who (with_event who event past)) new
unnoted_over setup past who items said event answer old between left new is stays on parts closes =
    of_past (λ (p : Past). IsRightOutcome setup p who event (Ok answer)
    → Serves setup.centre p who items said (Some event) old
    → CutsOff setup (with_event who event p) who items said old
    (end_answered items (answer_of setup p who event))
    (with_closed who (with_event who event p)) new)
    (λ history. unnoted_there setup who items said event answer old between left new history is
    stays on parts closes) past

pub unnoted_parts : (setup : Setup) (past : Past) (who : ℕ) (event : EventKind) (answer : Answer)
    (old between left : Talking) → between ≡ unnoted (Ok answer) old → KeepsPlace old between
    → KeepsPlace between left → IsLeft conn_ends.Memory between left
    → IsRightOutcome setup past who event (Ok answer) → IsAsking setup.centre past who event old
    → IsParting setup.centre (with_event who event past) who left
unnoted_parts setup past who event answer old between left is stays on parts =
    of_past (λ (p : Past). IsRightOutcome setup p who event (Ok answer)
    → IsAsking setup.centre p who event old
    → IsParting setup.centre (with_event who event p) who left)
    (λ history right x. let node = node_with setup history in
    subst (λ (p : Past). IsParting setup.centre p who left) (grown_at setup history who event)
    (unnoted_parting node (with_entry node who event) who event answer old between left refl right
    is stays on parts x)) past

-- ---- memory was wanting for what is read

pub given_over : (setup : Setup) (past : Past) (who : ℕ) (items : List Item) (said : List ℕ)
    (old between left new : Talking) → is_running old.progress ≡ true → PassesSo old between
    → IsIdle between.progress → between.stage ≡ old.stage → KeepsPlace between left
    → IsLeft conn_ends.Memory between left → ClosesOverAll setup.centre who left new
    → Serves setup.centre past who items said None old
    → CutsOff setup past who items said old None (with_closed who past) new
given_over setup past who items said old between left new runs passes idle stage on parts closes =
    of_past (λ (p : Past). Serves setup.centre p who items said None old
    → CutsOff setup p who items said old None (with_closed who p) new)
    (λ history s.
    subst (λ (p : Past). CutsOff setup (reverse history) who items said old None p new)
    (reverse-reverse (with_closed who (reverse history)))
    (given_cut (node_with setup history)
    (node_with setup (reverse (with_closed who (reverse history)))) who items said old between left
    new runs passes idle stage on parts (closes_at setup history who left new closes) s)) past

-- ---- it was answered, and the connection was told so

told_there : (goes : Bool) (setup : Setup) (after : Past) (who : ℕ) (items : List Item)
    (said : List ℕ) (event : EventKind) (answer : Answer) (old between new : Talking)
    (history : List Entry) → KeepsPlace old between → TellsAnswer (Ok answer) old between
    → IsRightOutcome setup (reverse history) who event (Ok answer)
    → GoesOrCloses goes setup.centre (with_event who event (reverse history)) who between after new
    → Serves setup.centre (reverse history) who items said (Some event) old
    → AnswersEvent setup (reverse history) who items said event old goes after new
told_there goes setup after who items said event answer old between new history stays tells right g
    s =
    let past = reverse history in
    let node = node_with setup history in
    let middle = with_entry node who event in
    subst (λ (p : Past). AnswersEvent setup past who items said event old goes p new)
    (reverse-reverse after)
    (told_on goes node middle (node_with setup (reverse after)) who items said event answer old
    between new refl right stays tells
    (subst (λ (p : Past). GoesOrCloses goes setup.centre (reverse middle.history) who between p new)
    (sym (reverse-reverse after))
    (subst (λ (p : Past). GoesOrCloses goes setup.centre p who between after new)
    (sym (grown_at setup history who event)) g)) s)

pub told_over : (goes : Bool) (setup : Setup) (past after : Past) (who : ℕ) (items : List Item)
    (said : List ℕ) (event : EventKind) (answer : Answer) (old between new : Talking)
    → KeepsPlace old between → TellsAnswer (Ok answer) old between
    → IsRightOutcome setup past who event (Ok answer)
    → GoesOrCloses goes setup.centre (with_event who event past) who between after new
    → Serves setup.centre past who items said (Some event) old
    → AnswersEvent setup past who items said event old goes after new
told_over goes setup past after who items said event answer old between new stays tells =
    of_past (λ (p : Past). IsRightOutcome setup p who event (Ok answer)
    → GoesOrCloses goes setup.centre (with_event who event p) who between after new
    → Serves setup.centre p who items said (Some event) old
    → AnswersEvent setup p who items said event old goes after new)
    (λ history. told_there goes setup after who items said event answer old between new history
    stays tells) past

pub told_parts : (setup : Setup) (past : Past) (who : ℕ) (event : EventKind) (answer : Answer)
    (old between : Talking) → KeepsPlace old between → TellsAnswer (Ok answer) old between
    → is_leaving between.progress ≡ true
    → IsRightOutcome setup past who event (Ok answer) → IsAsking setup.centre past who event old
    → IsParting setup.centre (with_event who event past) who between
told_parts setup past who event answer old between stays tells leaving =
    of_past (λ (p : Past). IsRightOutcome setup p who event (Ok answer)
    → IsAsking setup.centre p who event old
    → IsParting setup.centre (with_event who event p) who between)
    (λ history right x. let node = node_with setup history in
    subst (λ (p : Past). IsParting setup.centre p who between) (grown_at setup history who event)
    (told_parting node (with_entry node who event) who event answer old between refl right stays
    tells x leaving)) past

-- ---- its close was asked, and taken

pub closed_over : (setup : Setup) (past : Past) (whole : Bool) (end : ConnEnd)
    (standing : EndState) (who : ℕ) (items : List Item) (said : List ℕ) (event : EventKind)
    (answer : Answer) (old between new : Talking) → KeepsPlace between new
    → TellsAnswer (Ok answer) between new
    → AsksClose whole end standing setup.centre past who items said event old between
    → ClosesLeft whole end standing setup.centre past who items said old (with_closed who past) new
closed_over setup past whole end standing who items said event answer old between new stays tells =
    of_past (λ (p : Past). AsksClose whole end standing setup.centre p who items said event old
    between
    → ClosesLeft whole end standing setup.centre p who items said old (with_closed who p) new)
    (λ history asks. let node = node_with setup history in
    let c = closed_on node (with_entry node who event) whole end standing who items said event
    answer old between new asks refl stays tells in
    subst (λ (p : Past). ClosesLeft whole end standing setup.centre (reverse history) who items said
    old p new) c.after_is c) past
