-- The turn with which the peer ends a connection. It stays so, whatever the link gives behind it.
use Rattle.std.proofs.Common.{◌≡◌, Bool, true, false, ℕ, List, [], ◌∷◌, ◌++◌, Option, Some, None}
use Rattle.std.proofs.Common.{refl, sym, ap, subst, ◌∙◌, append_assoc}
use Rattle.std.specs.Prelude.{◌||◌, if◌then◌else◌, filter, slice_get, option_map, option_and_then}
use Rattle.std.specs.List.{list_any}
use Rattle.std.proofs.lemmas.List.{append-nil}
use Rattle.std.proofs.lemmas.Grind.{flat_map-append}
use Rattle.bilateral.specs.Rows.{CentreRows}
use Rattle.stack_assoc.specs.declared.messages.fault.StackFault.{StackFault}
use Rattle.stack_assoc.specs.Arrivals.{Arrival, called}
use Rattle.stack_assoc.proofs.StreamLaws.{fault_stays}
use Rattle.stack_assoc.proofs.Enough.{or_left, or_right}
use Rattle.tase_conn.specs.Map.Inputs.{Item, given_octets, text_given}
use Rattle.tase_conn.specs.Map.Readings.{Reading, TellsReading, reading_of}
use Rattle.tase_conn.specs.Map.Turns.{Turn, turns_of}
use Rattle.tase_conn.specs.Map.Turns.{offers, offers_badly, asks, concludes, releases, aborts, breaks}
use Rattle.tase_conn.specs.Map.Turns.{ends, pauses}
use Rattle.tase_conn.specs.Map.Asks.{is_last, up_to_last}
use Rattle.tase_conn.proofs.OfMap.AskedOn.{turns_on}
use Rattle.tase_conn.proofs.OfMap.ReadingLaws.{reading_only, reading_found}
use Rattle.tase_conn.specs.declared.stage.ConnEnd.{ConnEnd}
use Rattle.tase_conn.specs.declared.stage.ConnEnd.TheVariants as conn_ends
use Rattle.tase_conn.specs.PeerEnd.{last_turn, end_at, peer_end}
use Rattle.tase_conn.specs.Places.{EndsWithTurn, IsReadToEnd}

-- ---- items more

pub text_on : (items : List Item) (item : Item)
    → text_given (items ++ item ∷ []) ≡ text_given items ++ given_octets item
text_on items item = flat_map-append given_octets items (item ∷ [])
    ∙ ap (λ (os : List ℕ). text_given items ++ os) (append-nil (given_octets item))

broken_by : (text more : List ℕ) (told : List Arrival) (broken : Option StackFault)
    (fault : StackFault) → TellsReading text told broken → broken ≡ Some fault
    → (reading_of (text ++ more)).broken ≡ Some fault
broken_by text more told None fault r e = absurd cc
broken_by text more told (Some f) fault r e =
    ap (λ (x : Reading). x.broken) (reading_only (text ++ more) told (Some f)
    (fault_stays called text more told f r)) ∙ e

broken_stays : (items more : List Item) (fault : StackFault)
    → (reading_of (text_given items)).broken ≡ Some fault
    → (reading_of (text_given (items ++ more))).broken ≡ Some fault
broken_stays items more fault e =
    ap (λ (os : List ℕ). (reading_of os).broken) (flat_map-append given_octets items more)
    ∙ broken_by (text_given items) (text_given more) (reading_of (text_given items)).told
    (reading_of (text_given items)).broken fault (reading_found (text_given items)) e

-- ---- the first turn behind which nothing follows

-- those behind which something follows, and then the others
pub goes_front : (rows : CentreRows) (front more : List Turn)
    → list_any (is_last rows) front ≡ false
    → up_to_last rows (front ++ more) ≡ front ++ up_to_last rows more
goes_front rows [] more goes = refl
goes_front rows (turn ∷ front) more goes =
    let others = up_to_last rows (front ++ more) in
    ap (λ (b : Bool). if b then turn ∷ [] else turn ∷ others)
    (or_left (is_last rows turn) (list_any (is_last rows) front) goes)
    ∙ ap (λ (ts : List Turn). turn ∷ ts) (goes_front rows front more
    (or_right (is_last rows turn) (list_any (is_last rows) front) goes))

-- where there is none, all are kept
pub uncut : (rows : CentreRows) (turns : List Turn) → list_any (is_last rows) turns ≡ false
    → up_to_last rows turns ≡ turns
uncut rows turns goes =
    ap (λ (ts : List Turn). up_to_last rows ts) (sym (append-nil turns))
    ∙ goes_front rows turns [] goes ∙ append-nil turns

-- nothing is kept behind it
cut_at_last : (rows : CentreRows) (front others : List Turn) (last : Turn)
    → list_any (is_last rows) front ≡ false → is_last rows last ≡ true
    → up_to_last rows ((front ++ last ∷ []) ++ others) ≡ front ++ last ∷ []
cut_at_last rows front others last goes is =
    ap (λ (ts : List Turn). up_to_last rows ts) (append_assoc front (last ∷ []) others)
    ∙ goes_front rows front (last ∷ others) goes
    ∙ ap (λ (b : Bool). front ++ (if b then last ∷ [] else last ∷ up_to_last rows others)) is

-- it is found
first_found : (rows : CentreRows) (front rest : List Turn) (last : Turn)
    → list_any (is_last rows) front ≡ false → is_last rows last ≡ true
    → last_turn rows (front ++ last ∷ rest) ≡ Some last
first_found rows [] rest last goes is =
    let others = filter (is_last rows) rest in
    ap (λ (b : Bool). slice_get (if b then last ∷ others else others) 0) is
first_found rows (turn ∷ front) rest last goes is =
    let others = filter (is_last rows) (front ++ last ∷ rest) in
    ap (λ (b : Bool). slice_get (if b then turn ∷ others else others) 0)
    (or_left (is_last rows turn) (list_any (is_last rows) front) goes)
    ∙ first_found rows front rest last
    (or_right (is_last rows turn) (list_any (is_last rows) front) goes) is

none_found : (rows : CentreRows) (turns : List Turn) → list_any (is_last rows) turns ≡ false
    → last_turn rows turns ≡ None
none_found rows [] goes = refl
none_found rows (turn ∷ turns) goes =
    let others = filter (is_last rows) turns in
    ap (λ (b : Bool). slice_get (if b then turn ∷ others else others) 0)
    (or_left (is_last rows turn) (list_any (is_last rows) turns) goes)
    ∙ none_found rows turns (or_right (is_last rows turn) (list_any (is_last rows) turns) goes)

-- and is where it is found
record IsFirstLast (rows : CentreRows) (turns : List Turn) (last : Turn) : Type 0 where
  front : List Turn
  rest : List Turn
  are : turns ≡ front ++ last ∷ rest
  goes : list_any (is_last rows) front ≡ false
  is : is_last rows last ≡ true

first_by : (rows : CentreRows) (turn last : Turn) (turns : List Turn)
    → (last_turn rows turns ≡ Some last → IsFirstLast rows turns last) → (b : Bool)
    → is_last rows turn ≡ b
    → slice_get (if b then turn ∷ filter (is_last rows) turns else filter (is_last rows) turns) 0
    ≡ Some last → IsFirstLast rows (turn ∷ turns) last
first_by rows turn last turns rest true k e =
    let same : turn ≡ last = cc in
    record {
      front = [];
      rest = turns;
      are = ap (λ (t : Turn). t ∷ turns) same;
      goes = refl;
      is = ap (λ (t : Turn). is_last rows t) (sym same) ∙ k;
    }
first_by rows turn last turns rest false k e =
    let f = rest e in
    record {
      front = turn ∷ f.front;
      rest = f.rest;
      are = ap (λ (ts : List Turn). turn ∷ ts) f.are;
      goes = ap (λ (b : Bool). b || list_any (is_last rows) f.front) k ∙ f.goes;
      is = f.is;
    }

first_at : (rows : CentreRows) (turns : List Turn) (last : Turn) → last_turn rows turns ≡ Some last
    → IsFirstLast rows turns last
first_at rows [] last e = absurd cc
first_at rows (turn ∷ turns) last e =
    first_by rows turn last turns (first_at rows turns last) (is_last rows turn) refl e

-- ---- the end

-- the last of these turns, which begin those that the items tell, brings this end
pub record BringsEnd (rows : CentreRows) (items : List Item) (turns : List Turn) (end : ConnEnd) :
    Type 0 where
  pub last : Turn
  pub ends : EndsWithTurn rows turns last
  pub is : is_last rows last ≡ true
  pub cause : end_at (reading_of (text_given items)).broken last ≡ Some end
  pub rest : List Turn
  pub all : turns_of items ≡ turns ++ rest

-- nothing is acted on behind it
pub brought_whole : (rows : CentreRows) (items : List Item) (turns : List Turn) (end : ConnEnd)
    → BringsEnd rows items turns end → up_to_last rows (turns_of items) ≡ turns
brought_whole rows items turns end b =
    ap (λ (ts : List Turn). up_to_last rows ts)
    (b.all ∙ ap (λ (ts : List Turn). ts ++ b.rest) b.ends.is)
    ∙ cut_at_last rows b.ends.front b.rest b.last b.ends.goes b.is ∙ sym b.ends.is

-- so the peer has ended it
pub brought_end : (rows : CentreRows) (items : List Item) (turns : List Turn) (end : ConnEnd)
    → BringsEnd rows items turns end → peer_end rows items ≡ Some end
brought_end rows items turns end b =
    ap (λ (t : Option Turn). option_and_then (end_at (reading_of (text_given items)).broken) t)
    (ap (λ (ts : List Turn). last_turn rows ts)
    (b.all ∙ ap (λ (ts : List Turn). ts ++ b.rest) b.ends.is
    ∙ append_assoc b.ends.front (b.last ∷ []) b.rest)
    ∙ first_found rows b.ends.front b.rest b.last b.ends.goes b.is)
    ∙ b.cause

-- and where it has ended it so, there is such a turn
pub end_brought : (rows : CentreRows) (items : List Item) (turns : List Turn) (end : ConnEnd)
    → peer_end rows items ≡ Some end → up_to_last rows (turns_of items) ≡ turns
    → BringsEnd rows items turns end
end_brought rows items turns end e whole =
    by (last_turn rows (turns_of items)) refl e
  where
    by : (found : Option Turn) → last_turn rows (turns_of items) ≡ found
        → option_and_then (end_at (reading_of (text_given items)).broken) found ≡ Some end
        → BringsEnd rows items turns end
    by None k c = absurd cc
    by (Some last) k c =
        let f = first_at rows (turns_of items) last k in
        let all : turns_of items ≡ (f.front ++ last ∷ []) ++ f.rest =
        f.are ∙ sym (append_assoc f.front (last ∷ []) f.rest) in
        let is : turns ≡ f.front ++ last ∷ [] =
        sym whole ∙ ap (λ (ts : List Turn). up_to_last rows ts) all
        ∙ cut_at_last rows f.front f.rest last f.goes f.is in
        record {
          last = last;
          ends = record { front = f.front; is = is; goes = f.goes };
          is = f.is;
          cause = c;
          rest = f.rest;
          all = all ∙ ap (λ (ts : List Turn). ts ++ f.rest) (sym is);
        }

-- where it goes on
pub none_brought : (rows : CentreRows) (items : List Item)
    → list_any (is_last rows) (turns_of items) ≡ false → peer_end rows items ≡ None
none_brought rows items goes =
    ap (λ (t : Option Turn). option_and_then (end_at (reading_of (text_given items)).broken) t)
    (none_found rows (turns_of items) goes)

cause_stays : (items more : List Item) (end : ConnEnd) (last : Turn)
    → end_at (reading_of (text_given items)).broken last ≡ Some end
    → end_at (reading_of (text_given (items ++ more))).broken last ≡ Some end
cause_stays items more end (offers title) c = c
cause_stays items more end offers_badly c = c
cause_stays items more end (asks invoke call) c = c
cause_stays items more end concludes c = c
cause_stays items more end releases c = c
cause_stays items more end aborts c = c
cause_stays items more end breaks c =
    by (reading_of (text_given items)).broken refl c
  where
    by : (broken : Option StackFault) → (reading_of (text_given items)).broken ≡ broken
        → option_map conn_ends.Refused broken ≡ Some end
        → option_map conn_ends.Refused (reading_of (text_given (items ++ more))).broken ≡ Some end
    by None k c = absurd cc
    by (Some fault) k c =
        ap (λ (b : Option StackFault). option_map conn_ends.Refused b)
        (broken_stays items more fault k) ∙ c
cause_stays items more end ends c = c
cause_stays items more end pauses c = c

-- it stays so behind more
brought_on : (rows : CentreRows) (items more : List Item) (turns : List Turn) (end : ConnEnd)
    → BringsEnd rows items turns end → BringsEnd rows (items ++ more) turns end
brought_on rows items more turns end b =
    let o = turns_on [] items more in
    record {
      last = b.last;
      ends = b.ends;
      is = b.is;
      cause = cause_stays items more end b.last b.cause;
      rest = b.rest ++ o.0;
      all = o.1 ∙ ap (λ (ts : List Turn). ts ++ o.0) b.all ∙ append_assoc turns b.rest o.0;
    }

-- ---- where a connection was read to its end

pub at_end : (rows : CentreRows) (items : List Item) (told : List Arrival) (turns : List Turn)
    (end : ConnEnd) → IsReadToEnd rows items told turns end → BringsEnd rows items turns end
at_end rows items told turns end e =
    subst (λ (is : List Item). BringsEnd rows is turns end) (sym e.items_are)
    (brought_on rows e.done e.dropped turns end
    (end_brought rows e.done turns end e.by_peer e.whole))

pub ends_on : (rows : CentreRows) (items : List Item) (told : List Arrival) (turns : List Turn)
    (item : Item) (end : ConnEnd) → IsReadToEnd rows items told turns end
    → IsReadToEnd rows (items ++ item ∷ []) told turns end
ends_on rows items told turns item end e = record {
  done = e.done;
  dropped = e.dropped ++ item ∷ [];
  items_are = ap (λ (is : List Item). is ++ item ∷ []) e.items_are
      ∙ append_assoc e.done e.dropped (item ∷ []);
  by_peer = e.by_peer;
  whole = e.whole;
  answered = e.answered;
  fixed = e.fixed;
}
