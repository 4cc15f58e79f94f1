-- But for its takes an input asks the same however its text is cut.
use Rattle.std.proofs.Common.{◌≡◌, ℕ, Bool, true, false, List, [], ◌∷◌, ◌++◌, Option, Some, None}
use Rattle.std.proofs.Common.{refl, sym, ap, subst, ◌∙◌, append_assoc, length, drop}
use Rattle.std.specs.Prelude.{if◌then◌else◌, ◌||◌, ◌&&◌, not, IfSome}
use Rattle.std.specs.List.{filter_map, list_any, cons_option}
use Rattle.std.proofs.lemmas.Bool.{false≢true}
use Rattle.std.proofs.lemmas.List.{append-nil, append_cancel_left}
use Rattle.std.proofs.lemmas.List.Elements.{filter-append}
use Rattle.std.proofs.lemmas.Grind.{flat_map-append}
use Rattle.std.proofs.Math.Seq.{drop-append_seam}
use Rattle.mms_services.specs.declared.pdu.MmsPdu.{MmsPdu}
use Rattle.mms_services.specs.declared.pdu.MmsPdu.TheVariants as pdus
use Rattle.stack_assoc.specs.declared.messages.fault.StackFault.{StackFault}
use Rattle.stack_assoc.specs.declared.input.StackIn.{StackIn}
use Rattle.stack_assoc.specs.declared.input.StackIn.TheVariants as inputs
use Rattle.stack_assoc.specs.Handing.{handed_out}
use Rattle.bilateral.specs.Rows.{CentreRows, place_of_title}
use Rattle.tase_views.specs.declared.event.EventKind.{EventKind}
use Rattle.tase_views.specs.declared.event.EventKind.TheVariants as events
use Rattle.tase_conn.specs.Map.Inputs.{Item, piece, idle, ended, given_octets, text_given, link_has_ended}
use Rattle.tase_conn.specs.Map.Inputs.{IsLinkInput}
use Rattle.tase_conn.specs.Map.Readings.{Reading, reading_of}
use Rattle.tase_conn.specs.Map.Turns.{Turn, offers, offers_badly, asks, concludes, releases, aborts}
use Rattle.tase_conn.specs.Map.Turns.{breaks, ends, pauses, turn_of_pdu, turn_in, fault_turns}
use Rattle.tase_conn.specs.Map.Turns.{turns_told, turns_between, turns_behind_octets, turns_at}
use Rattle.tase_conn.specs.Map.Turns.{turns_from, turns_of}
use Rattle.tase_conn.specs.Map.Asks.{begins, finishes, is_open_behind, is_last, up_to_last, event_if, open_of}
use Rattle.tase_conn.specs.Map.Asks.{asks_at, asks_behind, asks_of, is_pause, without_pauses}
use Rattle.tase_conn.specs.Map.Asks.{without_takes, is_take}
use Rattle.tase_conn.specs.Map.Out.{end_turns}
use Rattle.tase_conn.proofs.OfMap.ReadingLaws.{turns_go_on}

-- ---- a text tells no pause

abbrev IsNoPause : Option Turn → Type 0
IsNoPause found = IfSome found (λ turn. is_pause turn ≡ false)

pdu_no_pause : (pdu : MmsPdu) → IsNoPause (turn_of_pdu pdu)
pdu_no_pause (pdus.Request invoke request) = refl
pdu_no_pause (pdus.Response invoke response) = tt
pdu_no_pause (pdus.Error e) = tt
pdu_no_pause (pdus.Report r) = tt
pdu_no_pause (pdus.Reject r) = tt
pdu_no_pause (pdus.Initiate offer) = tt
pdu_no_pause (pdus.Initiated offer) = tt
pdu_no_pause pdus.InitiateError = tt
pdu_no_pause pdus.Conclude = refl
pdu_no_pause pdus.Concluded = tt

in_no_pause : (input : StackIn) → IsNoPause (turn_in input)
in_no_pause (inputs.Offer title initiate) = refl
in_no_pause inputs.BadOffer = refl
in_no_pause (inputs.Accepted initiate) = tt
in_no_pause (inputs.Pdu pdu) = pdu_no_pause pdu
in_no_pause (inputs.BadRequest invoke) = refl
in_no_pause inputs.Released = refl
in_no_pause inputs.Aborted = refl
in_no_pause inputs.Refused = tt

pub one_kept : (turn : Turn) (turns : List Turn) → is_pause turn ≡ false
    → without_pauses (turn ∷ turns) ≡ turn ∷ without_pauses turns
one_kept turn turns i = rw i refl

found_kept : (found : Option Turn) (turns : List Turn) → IsNoPause found
    → without_pauses turns ≡ turns
    → without_pauses (cons_option found turns) ≡ cons_option found turns
found_kept None turns i e = e
found_kept (Some turn) turns i e =
    one_kept turn turns i ∙ ap (λ (ts : List Turn). turn ∷ ts) e

inputs_kept : (ms : List StackIn)
    → without_pauses (filter_map turn_in ms) ≡ filter_map turn_in ms
inputs_kept [] = refl
inputs_kept (m ∷ ms) =
    found_kept (turn_in m) (filter_map turn_in ms) (in_no_pause m) (inputs_kept ms)

fault_kept : (broken : Option StackFault)
    → without_pauses (fault_turns broken) ≡ fault_turns broken
fault_kept None = refl
fault_kept (Some fault) = refl

pub without-append : (a b : List Turn) → without_pauses (a ++ b) ≡ without_pauses a ++ without_pauses b
without-append a b = filter-append (λ (turn : Turn). not (is_pause turn)) a b

told_kept : (reading : Reading) → without_pauses (turns_told reading) ≡ turns_told reading
told_kept reading =
    without-append (filter_map turn_in (handed_out reading.told)) (fault_turns reading.broken)
    ∙ ap (λ (ts : List Turn). ts ++ without_pauses (fault_turns reading.broken))
    (inputs_kept (handed_out reading.told))
    ∙ ap (λ (ts : List Turn). filter_map turn_in (handed_out reading.told) ++ ts)
    (fault_kept reading.broken)

-- ---- the turns of an input, item by item, are those of its text

abbrev turns_in : List ℕ → List Turn
turns_in text = turns_told (reading_of text)

joined : (text more : List ℕ)
    → turns_in text ++ without_pauses (turns_between (reading_of text) (reading_of (text ++ more)))
    ≡ turns_in (text ++ more)
joined text more =
    let g = turns_go_on text more in
    ap (λ (ts : List Turn). turns_in text ++ without_pauses ts)
    (ap (λ (ts : List Turn). drop (length (turns_in text)) ts) g.1
    ∙ drop-append_seam (turns_in text) g.0)
    ∙ ap (λ (ts : List Turn). ts ++ without_pauses g.0) (sym (told_kept (reading_of text)))
    ∙ sym (without-append (turns_in text) g.0)
    ∙ ap (λ (ts : List Turn). without_pauses ts) (sym g.1)
    ∙ told_kept (reading_of (text ++ more))

text-append : (items more : List Item) → text_given (items ++ more) ≡ text_given items ++ text_given more
text-append items more = flat_map-append given_octets items more

joined_at : (before : List Item) (item : Item)
    → turns_in (text_given before) ++ without_pauses (turns_between (reading_of (text_given before))
    (reading_of (text_given (before ++ item ∷ []))))
    ≡ turns_in (text_given (before ++ item ∷ []))
joined_at before item =
    ap (λ (text : List ℕ). turns_in (text_given before)
    ++ without_pauses (turns_between (reading_of (text_given before)) (reading_of text)))
    (text-append before (item ∷ []))
    ∙ joined (text_given before) (text_given (item ∷ []))
    ∙ ap (λ (text : List ℕ). turns_in text) (sym (text-append before (item ∷ [])))

-- one item, and what stands behind it
item_joined : (before : List Item) (item : Item) (rest : List Turn)
    → turns_in (text_given before) ++ without_pauses (turns_at before item ++ rest)
    ≡ turns_in (text_given (before ++ item ∷ []))
    ++ (without_pauses (turns_behind_octets item) ++ without_pauses rest)
item_joined before item rest =
    let between = turns_between (reading_of (text_given before))
    (reading_of (text_given (before ++ item ∷ []))) in
    let behind = turns_behind_octets item in
    ap (λ (ts : List Turn). turns_in (text_given before) ++ without_pauses ts)
    (append_assoc between behind rest)
    ∙ ap (λ (ts : List Turn). turns_in (text_given before) ++ ts)
    (without-append between (behind ++ rest))
    ∙ sym (append_assoc (turns_in (text_given before)) (without_pauses between)
    (without_pauses (behind ++ rest)))
    ∙ ap (λ (ts : List Turn). ts ++ without_pauses (behind ++ rest)) (joined_at before item)
    ∙ ap (λ (ts : List Turn). turns_in (text_given (before ++ item ∷ [])) ++ ts)
    (without-append behind rest)

pub uncut_from : (before items : List Item) → IsLinkInput items
    → turns_in (text_given before) ++ without_pauses (turns_from before items)
    ≡ turns_in (text_given (before ++ items)) ++ end_turns (link_has_ended items)
uncut_from before [] i =
    ap (λ (items : List Item). turns_in (text_given items) ++ []) (sym (append-nil before))
uncut_from before (piece octets ∷ items) i =
    item_joined before (piece octets) (turns_from (before ++ piece octets ∷ []) items)
    ∙ uncut_from (before ++ piece octets ∷ []) items i
    ∙ ap (λ (all : List Item). turns_in (text_given all) ++ end_turns (link_has_ended items))
    (append_assoc before (piece octets ∷ []) items)
uncut_from before (idle ∷ items) i =
    item_joined before idle (turns_from (before ++ idle ∷ []) items)
    ∙ uncut_from (before ++ idle ∷ []) items i
    ∙ ap (λ (all : List Item). turns_in (text_given all) ++ end_turns (link_has_ended items))
    (append_assoc before (idle ∷ []) items)
uncut_from before (ended ∷ items) i =
    subst (λ (rest : List Item). turns_in (text_given before)
    ++ without_pauses (turns_from before (ended ∷ rest))
    ≡ turns_in (text_given (before ++ ended ∷ rest)) ++ end_turns (link_has_ended (ended ∷ rest))) (sym i)
    (item_joined before ended [])

-- ---- what they ask

pub any_kept : (test : Turn → Bool) → test pauses ≡ false → (turns : List Turn)
    → list_any test (without_pauses turns) ≡ list_any test turns
any_kept test none [] = refl
any_kept test none (pauses ∷ turns) = rw none (any_kept test none turns)
any_kept test none (turn ∷ turns) =
    ap (λ (b : Bool). test turn || b) (any_kept test none turns)

open_kept : (rows : CentreRows) (before : List Turn)
    → is_open_behind rows before ≡ is_open_behind rows (without_pauses before)
open_kept rows before =
    ap (λ (b : Bool). b && not (list_any finishes before))
    (sym (any_kept (begins rows) refl before))
    ∙ ap (λ (b : Bool). list_any (begins rows) (without_pauses before) && not b)
    (sym (any_kept finishes refl before))

open_not_take : (found : Option ℕ) → without_takes (open_of found) ≡ open_of found
open_not_take None = refl
open_not_take (Some peer) = refl

close_not_take : (b : Bool) → without_takes (event_if b events.Close) ≡ event_if b events.Close
close_not_take true = refl
close_not_take false = refl

takes_alone : (b : Bool) → without_takes (event_if b events.Take) ≡ []
takes_alone true = refl
takes_alone false = refl

close_kept : (rows : CentreRows) (before : List Turn)
    → without_takes (event_if (is_open_behind rows before) events.Close)
    ≡ event_if (is_open_behind rows (without_pauses before)) events.Close
close_kept rows before =
    close_not_take (is_open_behind rows before)
    ∙ ap (λ (b : Bool). event_if b events.Close) (open_kept rows before)

at_kept : (rows : CentreRows) (before : List Turn) (turn : Turn) → is_pause turn ≡ false
    → without_takes (asks_at rows before turn) ≡ asks_at rows (without_pauses before) turn
at_kept rows before (offers title) i = open_not_take (place_of_title rows title)
at_kept rows before offers_badly i = refl
at_kept rows before (asks invoke call) i = refl
at_kept rows before pauses i = absurd (false≢true (sym i))
at_kept rows before concludes i = close_kept rows before
at_kept rows before releases i = close_kept rows before
at_kept rows before aborts i = close_kept rows before
at_kept rows before breaks i = close_kept rows before
at_kept rows before ends i = close_kept rows before

takes-append : (a b : List EventKind)
    → without_takes (a ++ b) ≡ without_takes a ++ without_takes b
takes-append a b = filter-append (λ (event : EventKind). not (is_take event)) a b

-- a turn more that is no pause
pub behind_kept : (before : List Turn) (turn : Turn) → is_pause turn ≡ false
    → without_pauses (before ++ turn ∷ []) ≡ without_pauses before ++ turn ∷ []
behind_kept before turn i =
    without-append before (turn ∷ [])
    ∙ ap (λ (ts : List Turn). without_pauses before ++ ts) (one_kept turn [] i)

turn_asks : (rows : CentreRows) (before : List Turn) (turn : Turn) (turns : List Turn)
    → is_pause turn ≡ false
    → without_takes (asks_behind rows (before ++ turn ∷ []) turns)
    ≡ asks_behind rows (without_pauses (before ++ turn ∷ [])) (without_pauses turns)
    → without_takes (asks_behind rows before (turn ∷ turns))
    ≡ asks_behind rows (without_pauses before) (without_pauses (turn ∷ turns))
turn_asks rows before turn turns i e =
    takes-append (asks_at rows before turn) (asks_behind rows (before ++ turn ∷ []) turns)
    ∙ ap (λ (es : List EventKind). es
    ++ without_takes (asks_behind rows (before ++ turn ∷ []) turns)) (at_kept rows before turn i)
    ∙ ap (λ (es : List EventKind). asks_at rows (without_pauses before) turn ++ es)
    (e ∙ ap (λ (ts : List Turn). asks_behind rows ts (without_pauses turns))
    (behind_kept before turn i))
    ∙ ap (λ (ts : List Turn). asks_behind rows (without_pauses before) ts)
    (sym (one_kept turn turns i))

pause_asks : (rows : CentreRows) (before turns : List Turn)
    → without_takes (asks_behind rows (before ++ pauses ∷ []) turns)
    ≡ asks_behind rows (without_pauses (before ++ pauses ∷ [])) (without_pauses turns)
    → without_takes (asks_behind rows before (pauses ∷ turns))
    ≡ asks_behind rows (without_pauses before) (without_pauses turns)
pause_asks rows before turns e =
    takes-append (event_if (is_open_behind rows before) events.Take)
    (asks_behind rows (before ++ pauses ∷ []) turns)
    ∙ ap (λ (es : List EventKind). es
    ++ without_takes (asks_behind rows (before ++ pauses ∷ []) turns))
    (takes_alone (is_open_behind rows before))
    ∙ e ∙ ap (λ (ts : List Turn). asks_behind rows ts (without_pauses turns))
    (without-append before (pauses ∷ []) ∙ append-nil (without_pauses before))

asks_kept : (rows : CentreRows) (before turns : List Turn)
    → without_takes (asks_behind rows before turns)
    ≡ asks_behind rows (without_pauses before) (without_pauses turns)
asks_kept rows before [] = refl
asks_kept rows before (pauses ∷ turns) =
    pause_asks rows before turns (asks_kept rows (before ++ pauses ∷ []) turns)
asks_kept rows before (turn ∷ turns) =
    turn_asks rows before turn turns refl (asks_kept rows (before ++ turn ∷ []) turns)

last_kept : (rows : CentreRows) (b : Bool) (turn : Turn) (turns others : List Turn)
    → is_pause turn ≡ false → without_pauses turns ≡ others
    → without_pauses (if b then turn ∷ [] else turn ∷ turns)
    ≡ (if b then turn ∷ [] else turn ∷ others)
last_kept rows true turn turns others i e = one_kept turn [] i
last_kept rows false turn turns others i e =
    one_kept turn turns i ∙ ap (λ (ts : List Turn). turn ∷ ts) e

up_to_last_kept : (rows : CentreRows) (turns : List Turn)
    → without_pauses (up_to_last rows turns) ≡ up_to_last rows (without_pauses turns)
up_to_last_kept rows [] = refl
up_to_last_kept rows (pauses ∷ turns) = up_to_last_kept rows turns
up_to_last_kept rows (turn ∷ turns) =
    last_kept rows (is_last rows turn) turn (up_to_last rows turns)
    (up_to_last rows (without_pauses turns)) refl (up_to_last_kept rows turns)

asked_uncut : (rows : CentreRows) (items : List Item)
    → without_takes (asks_of rows items)
    ≡ asks_behind rows [] (up_to_last rows (without_pauses (turns_of items)))
asked_uncut rows items =
    asks_kept rows [] (up_to_last rows (turns_of items))
    ∙ ap (λ (ts : List Turn). asks_behind rows [] ts) (up_to_last_kept rows (turns_of items))

same_turns : (here there : List Item) → IsLinkInput here → IsLinkInput there
    → text_given here ≡ text_given there → link_has_ended here ≡ link_has_ended there
    → without_pauses (turns_of here) ≡ without_pauses (turns_of there)
same_turns here there i j text end =
    append_cancel_left (turns_in []) (without_pauses (turns_of here))
    (without_pauses (turns_of there))
    (uncut_from [] here i
    ∙ ap (λ (octets : List ℕ). turns_in octets ++ end_turns (link_has_ended here)) text
    ∙ ap (λ (b : Bool). turns_in (text_given there) ++ end_turns b) end
    ∙ sym (uncut_from [] there j))

pub asked_the_same : (rows : CentreRows) (here there : List Item) → IsLinkInput here → IsLinkInput there
    → text_given here ≡ text_given there → link_has_ended here ≡ link_has_ended there
    → without_takes (asks_of rows here) ≡ without_takes (asks_of rows there)
asked_the_same rows here there i j text end =
    asked_uncut rows here
    ∙ ap (λ (ts : List Turn). asks_behind rows [] (up_to_last rows ts))
    (same_turns here there i j text end)
    ∙ sym (asked_uncut rows there)
