-- All steps of a play print what a reply, a link or nothing says, and are of seats below 2^64.
use Rattle.std.proofs.Common.{◌≡◌, ℕ, ◌+◌, ◌^◌, ◌<◌, ◌≤◌, Bool, true, false, inl, inr, cond, leb}
use Rattle.std.proofs.Common.{List, [], ◌∷◌, ◌++◌, Option, Some, None, refl, ap, subst}
use Rattle.std.proofs.Common.{◌∙◌, arith}
use Rattle.std.proofs.lemmas.Grind.{flat_map-append}
use Rattle.std.specs.Prelude.{IfSome, option_and_then, codes, bytes_eq}
use Rattle.std.specs.Option.{option_map}
use Rattle.std.specs.List.{AllByRecursion}
use Rattle.std.proofs.lemmas.Bool.{leb-true}
use Rattle.plain_text.specs.Numbers.{if_passes, number_in, number_up_to}
use Rattle.plain_text.specs.Words.{words_in}
use Rattle.plain_text.specs.Lines.{is_skipped}
use Rattle.bilateral.specs.Rows.{CentreRows, place_of_peer}
use Rattle.texts.specs.Events.FeedLines.{centre_words_in}
use Rattle.tase_views.specs.declared.event.Entry.{Entry}
use Rattle.tase_views.specs.declared.event.EventKind.{EventKind}
use Rattle.tase_views.specs.declared.event.EventKind.TheVariants.{Take, Close}
use Rattle.tase_views.specs.declared.fault.StepFault.{StepFault}
use Rattle.tase_views.specs.declared.fault.StepFault.TheVariants.{Memory, Stopped, HistoryFull}
use Rattle.tase_views.specs.declared.fault.StepFault.TheVariants.{NoAssociation, Already}
use Rattle.tase_views.specs.declared.fault.StepFault.TheVariants.{UnknownName, ClockRange, Backward}
use Rattle.tase_views.specs.Setup.{Setup}
use Rattle.tase_views.specs.History.{Past, association_in}
use Rattle.tase_views.specs.Outcomes.{refusal_of}
use Rattle.conn_service.specs.TaseConn.Map.Inputs.{Item, idle, ended}
use Rattle.conn_service.specs.TaseConn.declared.stage.ConnEnd.{ConnEnd}
use Rattle.conn_service.specs.TaseConn.declared.stage.ConnEnd.TheVariants as conn_ends
use Rattle.conn_service.specs.Served.{Served, with_closed}
use Rattle.conn_service.specs.Sends.{close_of}
use Rattle.tase_replay.specs.declared.entries.TheConstants.{SEAT_LIMIT}
use Rattle.tase_replay.specs.CallIn.{call_of_words}
use Rattle.tase_replay.specs.Lines.{seat_in, entry_by, open_in, say_in, seated_in, fed_in, entry_of}
use Rattle.tase_replay.specs.Links.{SeatItem, Asking, an_event, an_item, piece_in, piece_given}
use Rattle.tase_replay.specs.Links.{item_given, given_of, is_link_word, asking_of, asking_in}
use Rattle.tase_replay.specs.Play.{Step, Scene, LineMeaning, bad, too_heavy, gives, TakenLine}
use Rattle.tase_replay.specs.Play.{Played, step_of, meaning_of, entry_meaning, entry_step}
use Rattle.tase_replay.specs.Play.{entry_steps}
use Rattle.tase_replay.specs.Play.{link_step, linked, linked_by, received, is_unfit, served_item}
use Rattle.tase_replay.specs.Play.{linked_up_to}
use Rattle.tase_replay.specs.Play.{is_linked, with_taken, means, line_meaning, play_line, play}
use Rattle.tase_replay.specs.Play.{steps_in, steps_of, behind_link}
use Rattle.tase_replay.proofs.PrintedBack.{IsPrintedStep}

-- ---- options

if_any : {A : Type 0} (o : Option A) → IfSome o (λ x. Unit {0})
if_any None = tt
if_any (Some x) = tt

if_mapped : {A B : Type 0} (f : A → B) (o : Option A) (Q : A → Type 0) (P : B → Type 0)
    → IfSome o Q → ((x : A) → Q x → P (f x)) → IfSome (option_map f o) P
if_mapped f None Q P has each = tt
if_mapped f (Some x) Q P has each = each x has

if_then : {A B : Type 0} (f : A → Option B) (o : Option A) (Q : A → Type 0) (P : B → Type 0)
    → IfSome o Q → ((x : A) → Q x → IfSome (f x) P) → IfSome (option_and_then f o) P
if_then f None Q P has each = tt
if_then f (Some x) Q P has each = each x has

if_either : {A : Type 0} (P : A → Type 0) (test : Bool) (a b : Option A) → IfSome a P → IfSome b P
    → IfSome (cond test a b) P
if_either P true a b first second = first
if_either P false a b first second = second

-- the first of four whose test holds, or the last
if_first : {A : Type 0} (P : A → Type 0) (t u v w : Bool) (a b c d e : Option A) → IfSome a P
    → IfSome b P → IfSome c P → IfSome d P → IfSome e P
    → IfSome (cond t a (cond u b (cond v c (cond w d e)))) P
if_first P t u v w a b c d e is_a is_b is_c is_d is_e =
    if_either P t a (cond u b (cond v c (cond w d e))) is_a
    (if_either P u b (cond v c (cond w d e)) is_b
    (if_either P v c (cond w d e) is_c (if_either P w d e is_d is_e)))

if_kept : {A : Type 0} (P : A → Type 0) (test : Bool) (x : A) → (test ≡ true → P x)
    → IfSome (cond test (Some x) None) P
if_kept P true x has = has refl
if_kept P false x has = tt

-- ---- the seats of lines

abbrev IsSeat : ℕ → Type 0
IsSeat who = who < 2 ^ 64

abbrev IsSeated : Entry → Type 0
IsSeated entry = IsSeat entry.who

abbrev IsOfSeat : SeatItem → Type 0
IsOfSeat given = IsSeat given.who

abbrev AsksOfSeat : Asking → Type 0
AsksOfSeat (an_event entry) = IsSeated entry
AsksOfSeat (an_item given) = IsOfSeat given

seat_fits : (word : List ℕ) → IfSome (seat_in word) IsSeat
seat_fits word =
    if_then (if_passes (λ n. leb 1 n)) (number_up_to SEAT_LIMIT word) IsSeat IsSeat
    (if_then (if_passes (λ n. leb n SEAT_LIMIT)) (number_in word) (λ n. Unit {0}) IsSeat
    (if_any (number_in word))
    (λ n any. if_kept IsSeat (leb n SEAT_LIMIT) n
    (λ is. let low : n ≤ SEAT_LIMIT = leb-true n SEAT_LIMIT is in omega arith)))
    (λ n fits. if_kept IsSeat (leb 1 n) n (λ is. fits))

open_fits : (rows : CentreRows) (words : List (List ℕ)) → IfSome (open_in rows words) IsSeated
open_fits rows [] = tt
open_fits rows (seat ∷ []) = tt
open_fits rows (seat ∷ key ∷ []) =
    if_then _ (seat_in seat) IsSeat IsSeated (seat_fits seat)
    (λ who fits. if_mapped _ (place_of_peer rows key) (λ peer. Unit {0}) IsSeated
    (if_any (place_of_peer rows key)) (λ peer any. fits))
open_fits rows (seat ∷ key ∷ more ∷ words) = tt

say_fits : (words : List (List ℕ)) → IfSome (say_in words) IsSeated
say_fits [] = tt
say_fits (seat ∷ call) =
    if_then _ (seat_in seat) IsSeat IsSeated (seat_fits seat)
    (λ who fits. if_mapped _ (call_of_words call) (λ c. Unit {0}) IsSeated
    (if_any (call_of_words call)) (λ c any. fits))

seated_fits : (event : EventKind) (words : List (List ℕ))
    → IfSome (seated_in event words) IsSeated
seated_fits event [] = tt
seated_fits event (seat ∷ []) =
    if_mapped _ (seat_in seat) IsSeat IsSeated (seat_fits seat) (λ who fits. fits)
seated_fits event (seat ∷ more ∷ words) = tt

fed_fits : (rows : CentreRows) (words : List (List ℕ)) → IfSome (fed_in rows words) IsSeated
fed_fits rows words =
    if_mapped _ (centre_words_in rows words) (λ event. Unit {0}) IsSeated
    (if_any (centre_words_in rows words)) (λ event any. omega arith)

entry_fits : (rows : CentreRows) (words : List (List ℕ)) → IfSome (entry_of rows words) IsSeated
entry_fits rows [] = tt
entry_fits rows (verb ∷ words) =
    if_first IsSeated (bytes_eq verb (codes "open")) (bytes_eq verb (codes "say"))
    (bytes_eq verb (codes "take")) (bytes_eq verb (codes "close")) (open_in rows words)
    (say_in words) (seated_in Take words) (seated_in Close words) (fed_in rows (verb ∷ words))
    (open_fits rows words) (say_fits words) (seated_fits Take words) (seated_fits Close words)
    (fed_fits rows (verb ∷ words))

piece_fits : (words : List (List ℕ)) → IfSome (piece_given words) IsOfSeat
piece_fits [] = tt
piece_fits (seat ∷ []) = tt
piece_fits (seat ∷ digits ∷ []) =
    if_then _ (seat_in seat) IsSeat IsOfSeat (seat_fits seat)
    (λ who fits. if_mapped _ (piece_in digits) (λ item. Unit {0}) IsOfSeat
    (if_any (piece_in digits)) (λ item any. fits))
piece_fits (seat ∷ digits ∷ more ∷ words) = tt

item_fits : (item : Item) (words : List (List ℕ)) → IfSome (item_given item words) IsOfSeat
item_fits item [] = tt
item_fits item (seat ∷ []) =
    if_mapped _ (seat_in seat) IsSeat IsOfSeat (seat_fits seat) (λ who fits. fits)
item_fits item (seat ∷ more ∷ words) = tt

given_fits : (words : List (List ℕ)) → IfSome (given_of words) IsOfSeat
given_fits [] = tt
given_fits (verb ∷ words) =
    if_first IsOfSeat (bytes_eq verb (codes "in")) (bytes_eq verb (codes "idle"))
    (bytes_eq verb (codes "end")) true (piece_given words) (item_given idle words)
    (item_given ended words) None None
    (piece_fits words) (item_fits idle words) (item_fits ended words) tt tt

asking_fits : (rows : CentreRows) (words : List (List ℕ)) → IfSome (asking_of rows words) AsksOfSeat
asking_fits rows [] = tt
asking_fits rows (verb ∷ words) =
    if_either AsksOfSeat (is_link_word verb) (option_map an_item (given_of (verb ∷ words)))
    (option_map an_event (entry_of rows (verb ∷ words)))
    (if_mapped an_item (given_of (verb ∷ words)) IsOfSeat AsksOfSeat (given_fits (verb ∷ words))
    (λ given fits. fits))
    (if_mapped an_event (entry_of rows (verb ∷ words)) IsSeated AsksOfSeat
    (entry_fits rows (verb ∷ words)) (λ entry fits. fits))

line_fits : (rows : CentreRows) (line : List ℕ) → IfSome (asking_in rows line) AsksOfSeat
line_fits rows line =
    if_then (asking_of rows) (words_in line) (λ words. Unit {0}) AsksOfSeat (if_any (words_in line))
    (λ words any. asking_fits rows words)

-- ---- the steps of a line

abbrev ArePrinted : List Step → Type 0
ArePrinted steps = AllByRecursion IsPrintedStep steps

append-printed : (a b : List Step) → ArePrinted a → ArePrinted b → ArePrinted (a ++ b)
append-printed [] b first second = second
append-printed (step ∷ a) b first second = (first.0, append-printed a b first.1 second)

-- the steps that a line takes
abbrev taken_by : LineMeaning → List Step
taken_by bad = []
taken_by (too_heavy steps weight limit) = steps
taken_by (gives steps after) = steps

abbrev TakesPrinted : LineMeaning → Type 0
TakesPrinted meaning = ArePrinted (taken_by meaning)

either-takes : (test : Bool) (a b : LineMeaning) → TakesPrinted a → TakesPrinted b
    → TakesPrinted (cond test a b)
either-takes true a b first second = first
either-takes false a b first second = second

answered-step : (setup : Setup) (past : Past) (entry : Entry) → IsSeated entry
    → IsPrintedStep (step_of setup past entry)
answered-step setup past entry fits = record {
  seat = fits;
  prints = inl (record {
    rows = setup.centre;
    answer = _;
    printed = refl;
    octets = refl;
    end = refl;
  });
}

quiet-step : (entry : Entry) → IsSeated entry → IsPrintedStep (entry_step entry)
quiet-step entry fits = record { seat = fits; prints = inr refl }

sent-step : (rows : CentreRows) (before after : Scene) (given : SeatItem) (end : Option ConnEnd)
    → IsOfSeat given → IsPrintedStep (link_step rows before after given end)
sent-step rows before after given end fits = record { seat = fits; prints = inr refl }

refused-takes : (after : Scene) (step : Step) (fault : Option StepFault) → IsPrintedStep step
    → TakesPrinted (meaning_of after step fault)
refused-takes after step None printed = (printed, tt)
refused-takes after step (Some Memory) printed = tt
refused-takes after step (Some (Stopped place)) printed = tt
refused-takes after step (Some (HistoryFull weight limit)) printed = tt
refused-takes after step (Some NoAssociation) printed = tt
refused-takes after step (Some Already) printed = tt
refused-takes after step (Some UnknownName) printed = tt
refused-takes after step (Some ClockRange) printed = tt
refused-takes after step (Some (Backward last)) printed = tt

entry-takes : (setup : Setup) (scene : Scene) (entry : Entry) → IsSeated entry
    → TakesPrinted (entry_meaning setup scene entry)
entry-takes setup scene entry fits =
    either-takes (is_linked entry.who scene) bad _ tt
    (refused-takes (with_taken entry scene) (step_of setup scene.past entry)
    (refusal_of setup scene.past entry.who entry.event)
    (answered-step setup scene.past entry fits))

entries-printed : (who : ℕ) (events : List EventKind) → IsSeat who
    → ArePrinted (entry_steps who events)
entries-printed who [] fits = tt
entries-printed who (event ∷ events) fits =
    (quiet-step (entry_by event who) fits, entries-printed who events fits)

with_sent : (rows : CentreRows) (scene : Scene) (given : SeatItem) (events : List EventKind)
    (past : Past) (end : Option ConnEnd) → IsOfSeat given
    → TakesPrinted (linked rows scene given (entry_steps given.who events) past end)
with_sent rows scene given events past end fits =
    append-printed (entry_steps given.who events)
    (link_step rows scene (behind_link scene past given end) given end ∷ [])
    (entries-printed given.who events fits)
    (sent-step rows scene (behind_link scene past given end) given end fits, tt)

up_to-takes : (rows : CentreRows) (scene : Scene) (given : SeatItem) (end : Option ConnEnd)
    (s : Served) (left : Option ConnEnd) → IsOfSeat given
    → TakesPrinted (linked_up_to rows scene given end s left)
up_to-takes rows scene given end s None fits = with_sent rows scene given s.taken s.past end fits
up_to-takes rows scene given end s (Some over) fits =
    with_sent rows scene given (s.taken ++ close_of (association_in s.past given.who))
    (with_closed given.who s.past) (Some over) fits

linked-takes : (rows : CentreRows) (scene : Scene) (given : SeatItem) (end : Option ConnEnd)
    (s : Served) (refusal : Option StepFault) → IsOfSeat given
    → TakesPrinted (linked_by rows scene given end s refusal)
linked-takes rows scene given end s None fits = up_to-takes rows scene given end s s.end fits
linked-takes rows scene given end s (Some (Stopped place)) fits =
    with_sent rows scene given (s.taken ++ close_of (association_in s.past given.who))
    (with_closed given.who s.past) (Some conn_ends.Stopped) fits
linked-takes rows scene given end s (Some (HistoryFull weight limit)) fits =
    entries-printed given.who (s.taken ++ close_of (association_in s.past given.who)) fits
linked-takes rows scene given end s (Some Memory) fits = tt
linked-takes rows scene given end s (Some NoAssociation) fits = tt
linked-takes rows scene given end s (Some Already) fits = tt
linked-takes rows scene given end s (Some UnknownName) fits = tt
linked-takes rows scene given end s (Some ClockRange) fits = tt
linked-takes rows scene given end s (Some (Backward last)) fits = tt

received-takes : (setup : Setup) (scene : Scene) (given : SeatItem) → IsOfSeat given
    → TakesPrinted (received setup scene given)
received-takes setup scene given fits =
    either-takes (is_unfit given.who scene) bad _ tt
    (linked-takes setup.centre scene given _ (served_item setup scene given)
    (served_item setup scene given).refusal fits)

means-takes : (setup : Setup) (scene : Scene) (asked : Option Asking) → IfSome asked AsksOfSeat
    → TakesPrinted (means setup scene asked)
means-takes setup scene None fits = tt
means-takes setup scene (Some (an_event entry)) fits = entry-takes setup scene entry fits
means-takes setup scene (Some (an_item given)) fits = received-takes setup scene given fits

line-takes : (setup : Setup) (scene : Scene) (line : List ℕ)
    → TakesPrinted (line_meaning setup scene line)
line-takes setup scene line =
    either-takes (is_skipped line) (gives [] scene) _ tt
    (means-takes setup scene (asking_in setup.centre line) (line_fits setup.centre line))

-- ---- a play

record PlaysPrinted (played : Played) : Type 0 where
  taken : ArePrinted (steps_in played.taken)
  last : ArePrinted played.last

line-plays : (line : List ℕ) (number : ℕ) (meaning : LineMeaning) (rest : Scene → Played)
    → TakesPrinted meaning → ((after : Scene) → PlaysPrinted (rest after))
    → PlaysPrinted (play_line line number meaning rest)
line-plays line number bad rest takes each = record { taken = tt; last = tt }
line-plays line number (too_heavy steps weight limit) rest takes each =
    record { taken = tt; last = takes }
line-plays line number (gives steps after) rest takes each =
    let later = each after in
    record {
      taken = append-printed steps (steps_in (rest after).taken) takes later.taken;
      last = later.last;
    }

plays : (setup : Setup) (scenario : List (List ℕ)) (scene : Scene) (number : ℕ)
    → PlaysPrinted (play setup scenario scene number)
plays setup [] scene number = record { taken = tt; last = tt }
plays setup (line ∷ more) scene number =
    line-plays line number (line_meaning setup scene line)
    (λ after. play setup more after (number + 1)) (line-takes setup scene line)
    (λ after. plays setup more after (number + 1))

-- all steps of a play print so
pub play_prints : (setup : Setup) (scenario : List (List ℕ)) (scene : Scene) (number : ℕ)
    → AllByRecursion IsPrintedStep (steps_of (play setup scenario scene number))
play_prints setup scenario scene number =
    let all = plays setup scenario scene number in
    append-printed (steps_in (play setup scenario scene number).taken)
    (play setup scenario scene number).last all.taken all.last

front-printed : (a b : List Step) → ArePrinted (a ++ b) → ArePrinted a
front-printed [] b all = tt
front-printed (step ∷ a) b all = (all.0, front-printed a b all.1)

-- and those of the first lines that are taken
pub taken_prints : (setup : Setup) (scenario : List (List ℕ)) (scene : Scene) (number : ℕ)
    (taken others : List TakenLine)
    → (play setup scenario scene number).taken ≡ taken ++ others
    → AllByRecursion IsPrintedStep (steps_in taken)
taken_prints setup scenario scene number taken others same =
    front-printed (steps_in taken) (steps_in others)
    (subst (λ (steps : List Step). ArePrinted steps)
    (ap (λ (lines : List TakenLine). steps_in lines) same
    ∙ flat_map-append (λ (line : TakenLine). line.steps) taken others)
    (plays setup scenario scene number).taken)
