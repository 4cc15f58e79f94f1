-- What an item tells behind those before it, by the messages that come with it.
use Rattle.std.proofs.Common.{◌≡◌, List, [], ◌∷◌, ◌++◌, Option, None, sym, ap, ◌∙◌, append_assoc}
use Rattle.std.proofs.Common.{length, drop}
use Rattle.std.specs.List.{filter_map}
use Rattle.std.proofs.lemmas.List.{append-nil}
use Rattle.std.proofs.lemmas.List.Elements.{filter_map-append}
use Rattle.std.proofs.Math.Seq.{drop-append_seam}
use Rattle.stack_assoc.specs.declared.messages.fault.StackFault.{StackFault}
use Rattle.stack_assoc.specs.declared.input.StackIn.{StackIn}
use Rattle.stack_assoc.specs.Arrivals.{Arrival}
use Rattle.stack_assoc.specs.Handing.{stack_in, handed_out}
use Rattle.tase_conn.specs.Map.Inputs.{Item, text_given}
use Rattle.tase_conn.specs.Map.Readings.{Reading, reading_of}
use Rattle.tase_conn.specs.Map.Turns.{Turn, turn_in, fault_turns, turns_told, turns_between}
use Rattle.tase_conn.specs.Map.Turns.{turns_behind_octets, turns_at, turns_from, turns_of}

-- the turns of messages
abbrev pub turns_heard : List Arrival → List Turn
turns_heard told = filter_map turn_in (handed_out told)

pub heard-append : (told others : List Arrival)
    → turns_heard (told ++ others) ≡ turns_heard told ++ turns_heard others
heard-append told others =
    ap (λ (inputs : List StackIn). filter_map turn_in inputs)
    (filter_map-append stack_in told others)
    ∙ filter_map-append turn_in (handed_out told) (handed_out others)

-- one item more
turns_more : (before items : List Item) (item : Item)
    → turns_from before (items ++ item ∷ [])
    ≡ turns_from before items ++ turns_at (before ++ items) item
turns_more before [] item =
    append-nil (turns_at before item)
    ∙ ap (λ (all : List Item). turns_at all item) (sym (append-nil before))
turns_more before (first ∷ items) item =
    let rest = turns_from (before ++ first ∷ []) items in
    ap (λ (ts : List Turn). turns_at before first ++ ts)
    (turns_more (before ++ first ∷ []) items item
    ∙ ap (λ (all : List Item). rest ++ turns_at all item) (append_assoc before (first ∷ []) items))
    ∙ sym (append_assoc (turns_at before first) rest (turns_at (before ++ first ∷ items) item))

-- what the messages behind a front tell, and the rule that is broken behind them
between_told : (front whole : Reading) (others : List Arrival) → front.broken ≡ None
    → whole.told ≡ front.told ++ others
    → turns_between front whole ≡ turns_heard others ++ fault_turns whole.broken
between_told front whole others unbroken e =
    let first = turns_heard front.told in
    let rest = turns_heard others ++ fault_turns whole.broken in
    let front_is : turns_told front ≡ first =
    ap (λ (broken : Option StackFault). first ++ fault_turns broken) unbroken ∙ append-nil first in
    let whole_is : turns_told whole ≡ first ++ rest =
    ap (λ (told : List Arrival). turns_heard told ++ fault_turns whole.broken) e
    ∙ ap (λ (ts : List Turn). ts ++ fault_turns whole.broken) (heard-append front.told others)
    ∙ append_assoc first (turns_heard others) (fault_turns whole.broken) in
    ap (λ (ts : List Turn). drop (length ts) (turns_told whole)) front_is
    ∙ ap (λ (ts : List Turn). drop (length first) ts) whole_is ∙ drop-append_seam first rest

-- what items and one more tell, where with it these messages come
pub item_turns : (done : List Item) (item : Item) (others : List Arrival)
    → (reading_of (text_given done)).broken ≡ None
    → (reading_of (text_given (done ++ item ∷ []))).told
    ≡ (reading_of (text_given done)).told ++ others
    → turns_of (done ++ item ∷ []) ≡ turns_of done ++ ((turns_heard others
    ++ fault_turns (reading_of (text_given (done ++ item ∷ []))).broken) ++ turns_behind_octets item)
item_turns done item others unbroken e =
    turns_more [] done item
    ∙ ap (λ (ts : List Turn). turns_of done ++ (ts ++ turns_behind_octets item))
    (between_told (reading_of (text_given done)) (reading_of (text_given (done ++ item ∷ []))) others
    unbroken e)
