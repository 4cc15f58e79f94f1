-- What is listed, message by message.
use Rattle.std.proofs.Common.{◌≡◌, ℕ, ◌+◌, ◌-◌, length, cond, Bool, true, false, List, [], ◌∷◌, ◌++◌, Option, Some, None}
use Rattle.std.proofs.Common.{Result, Ok, Err, refl, sym, ap, subst, ◌∙◌, append_assoc}
use Rattle.std.proofs.lemmas.List.{append-nil}
use Rattle.tpkt_cotp.specs.declared.fault.CotpFault.{CotpFault}
use Rattle.tpkt_cotp.specs.declared.message.TransportIn.{TransportIn}
use Rattle.tpkt_cotp.specs.Streams.{Message, stream_place}
use Rattle.tpkt_cotp.specs.Seen.{message_seen}
use Rattle.tpkt_cotp.specs.Lines.{Line, fed_to, fed}
use Rattle.tpkt_cotp.specs.Places.{Placed, End, Stream, left}
use Rattle.tpkt_cotp.specs.Goings.{stream_of, HandsOut}
use Rattle.stack_assoc.specs.declared.messages.fault.StackFault.{StackFault}
use Rattle.stack_assoc.specs.declared.listing.hearing.ListedMessage.{ListedMessage}
use Rattle.stack_assoc.specs.Listing.Lines.{at_line, rest_line, fault_line}
use Rattle.stack_assoc.specs.Listing.Hearing.{told_in, either_of, context_told, context_of}
use Rattle.stack_assoc.specs.Listing.Listings.{Listing, with_text, broken_by, listed_transport_fault}
use Rattle.stack_assoc.specs.Listing.Listings.{listed_before, list_after, State}
use Rattle.stack_assoc.specs.Listing.Listings.{list_from, yet_listed, Lists, ListsPiece, FinishesListing, state}
use Rattle.stack_assoc.specs.Listing.Listings.{IsAtRest, IsListed}

-- the id that counts after one message more
context_of-push : (before : List Message) (m : Message)
    → context_of (before ++ m ∷ [])
    ≡ either_of (context_of before) (context_told (told_in (context_of before) m))
context_of-push [] m = here (context_told (told_in None m))
  where
    here : (told : Option ℕ) → either_of told None ≡ told
    here (Some c) = refl
    here None = refl
context_of-push (b ∷ before) m =
    here (context_told (told_in None b)) (context_of-push before m)
  where
    here : (told : Option ℕ)
        → context_of (before ++ m ∷ [])
        ≡ either_of (context_of before) (context_told (told_in (context_of before) m))
        → either_of told (context_of (before ++ m ∷ []))
        ≡ either_of (either_of told (context_of before))
        (context_told (told_in (either_of told (context_of before)) m))
    here (Some c) others = refl
    here None others = others

-- the id that counts stands for the messages before
list_after-from : (before : List Message) (ps : List Placed) (end : End)
    → list_after before ps end ≡ list_from (context_of before) ps end
list_after-from before [] end = refl
list_after-from before (p ∷ ps) end =
    ap (listed_before p (told_in (context_of before) p.message))
    (list_after-from (before ++ p.message ∷ []) ps end
    ∙ ap (λ (c : Option ℕ). list_from c ps end) (context_of-push before p.message))

-- all that a stream gives, where this id counts
abbrev of_stream : Option ℕ → Stream → Listing
of_stream context stream = list_from context stream.messages stream.end

pub new_listed : (t : Line) (octets : List ℕ) (stream : Stream) → stream_of (fed t octets) ≡ stream
    → yet_listed (state t None false) octets ≡ list_after [] stream.messages stream.end
new_listed t octets stream is =
    ap (of_stream None) is ∙ sym (list_after-from [] stream.messages stream.end)

abbrev listing_with : Bool → List ℕ → Listing
listing_with broken text = record { text = text; broken = broken }

pub with_text-twice : (a b : List ℕ) (listing : Listing)
    → with_text a (with_text b listing) ≡ with_text (a ++ b) listing
with_text-twice a b listing =
    ap (listing_with listing.broken) (sym (append_assoc a b listing.text))

pub lists_then : (a b c : State) (x y z : List ℕ) → Lists a b x y → Lists b c y z → Lists a c x z
lists_then a b c x y z one two = record {
  added = one.added ++ two.added;
  is = two.is ∙ ap (λ (os : List ℕ). os ++ two.added) one.is
      ∙ append_assoc x one.added two.added;
  goes = λ more. one.goes more ∙ ap (with_text one.added) (two.goes more)
      ∙ with_text-twice one.added two.added (yet_listed c more);
}

-- nothing was listed
pub lists_none : (s : State) (x : List ℕ) → Lists s s x x
lists_none s x = record {
  added = [];
  is = sym (append-nil x);
  goes = λ more. refl;
}

-- a fault alone
broken_alone : (f : StackFault)
    → broken_by f ≡ with_text (fault_line f) (listing_with true [])
broken_alone f = ap (listing_with true) (sym (append-nil (fault_line f)))

-- a message
pub lists_message : (t u : Line) (m : TransportIn) (context now : Option ℕ) (size : ℕ)
    (before after : List ℕ) (broken : Bool) → HandsOut t (Ok (Some m)) u → size ≡ u.start - t.start
    → IsListed (told_in context (message_seen m)) t.start size context now before after broken
    → Lists (state t context false) (state u now broken) before after
lists_message t u m context now size before after broken hands sized listed =
    here (told_in context (message_seen m)) refl listed
  where
    placed : Placed
    placed = record { message = message_seen m; place = t.start; next = u.start }

    here : (told : Result ListedMessage StackFault) → told_in context (message_seen m) ≡ told
        → IsListed told t.start size context now before after broken
        → Lists (state t context false) (state u now broken) before after
    here (Ok told) at is = record {
      added = at_line t.start told.name size;
      is = is.2;
      goes = λ more.
          ap (of_stream context) (hands more)
          ∙ ap (λ (r : Result ListedMessage StackFault). listed_before (record
          { message = message_seen m; place = t.start; next = u.start }) r
          (of_stream (either_of context (context_told r)) (stream_of (fed u more)))) at
          ∙ ap (λ (n : ℕ). with_text (at_line t.start told.name n)
          (of_stream (either_of context told.context) (stream_of (fed u more)))) (sym sized)
          ∙ ap (λ (c : Option ℕ). with_text (at_line t.start told.name size)
          (of_stream c (stream_of (fed u more)))) (sym is.1)
          ∙ ap (λ (b : Bool). with_text (at_line t.start told.name size)
          (yet_listed (state u now b) more)) (sym is.0);
    }
    here (Err f) at is = record {
      added = fault_line f;
      is = is.1;
      goes = λ more.
          ap (of_stream context) (hands more)
          ∙ ap (λ (r : Result ListedMessage StackFault). listed_before (record
          { message = message_seen m; place = t.start; next = u.start }) r
          (of_stream (either_of context (context_told r)) (stream_of (fed u more)))) at
          ∙ broken_alone f
          ∙ ap (λ (b : Bool). with_text (fault_line f) (yet_listed (state u now b) more))
          (sym is.0);
    }

-- no whole message is left
pub lists_rest : (t u : Line) (context : Option ℕ) (x : List ℕ) → HandsOut t (Ok None) u
    → Lists (state t context false) (state u context false) x x
lists_rest t u context x hands = record {
  added = [];
  is = sym (append-nil x);
  goes = λ more. ap (of_stream context) (hands.0 more);
}

pub rest_at : (t u : Line) → HandsOut t (Ok None) u → IsAtRest u
rest_at t u hands = record { settled = hands.2; rest = hands.1 }

-- a fault of the transport
pub lists_fault : (t u : Line) (f : CotpFault) (context : Option ℕ) (before after : List ℕ)
    → HandsOut t (Err f) u → after ≡ before ++ fault_line (listed_transport_fault f)
    → Lists (state t context false) (state u context true) before after
lists_fault t u f context before after hands is = record {
  added = fault_line (listed_transport_fault f);
  is = is;
  goes = λ more. ap (of_stream context) (hands more).0 ∙ broken_alone (listed_transport_fault f);
}

fed_to-twice : (fault : Option CotpFault) (unread piece more : List ℕ)
    → fed_to fault unread (piece ++ more) ≡ fed_to fault (fed_to fault unread piece) more
fed_to-twice None unread piece more = sym (append_assoc unread piece more)
fed_to-twice (Some f) unread piece more = refl

fed_to-nothing : (fault : Option CotpFault) (unread : List ℕ) → fed_to fault unread [] ≡ unread
fed_to-nothing None unread = append-nil unread
fed_to-nothing (Some f) unread = refl

abbrev line_with : Line → List ℕ → Line
line_with t unread = record t { unread = unread }

-- a piece that comes, and what is listed then
pub lists_piece : (t u v : Line) (context now : Option ℕ) (piece before after : List ℕ)
    (broken : Bool) → u ≡ fed t piece
    → Lists (state u context false) (state v now broken) before after
    → ListsPiece (state t context false) (state v now broken) piece before after
lists_piece t u v context now piece before after broken is lists = record {
  added = lists.added;
  is = lists.is;
  goes = λ more.
      ap (λ (os : List ℕ). of_stream context (stream_of (line_with t os)))
      (fed_to-twice t.fault t.unread piece more)
      ∙ ap (λ (l : Line). of_stream context (stream_of (fed l more))) (sym is)
      ∙ lists.goes more;
}

-- a piece of which nothing is listed yet
pub unread_piece : (s : State) (piece x : List ℕ) → s.ended ≡ false
    → (now : State) × ListsPiece s now piece x x
unread_piece s piece x going =
    let u : Line = fed s.line piece in
    let now : State = state u s.context false in (
      now,
      subst (λ (e : Bool). ListsPiece (state s.line s.context e) now piece x x) (sym going)
          (lists_piece s.line u u s.context s.context piece x x false refl (lists_none now x)),
    )

-- after a fault nothing is listed
pub ended_piece : (s : State) (piece x : List ℕ) → s.ended ≡ true → ListsPiece s s piece x x
ended_piece s piece x is = record {
  added = [];
  is = sym (append-nil x);
  goes = λ more. nothing s (piece ++ more) is ∙ sym (nothing s more is);
}
  where
    nothing : (s : State) (octets : List ℕ) → s.ended ≡ true
        → yet_listed s octets ≡ listing_with true []
    nothing s octets is = ap (λ (b : Bool). cond b (listing_with true [])
        (of_stream s.context (stream_of (fed s.line octets)))) is

pub ended_finish : (s : State) (x : List ℕ) → s.ended ≡ true → FinishesListing s x x true
ended_finish s x is = record {
  added = [];
  is = sym (append-nil x);
  ends = ap (λ (b : Bool). cond b (listing_with true [])
      (of_stream s.context (stream_of (fed s.line [])))) is;
}

pub broken_finish : (s : State) (u : Line) (now : Option ℕ) (before after : List ℕ)
    → Lists s (state u now true) before after → FinishesListing s before after true
broken_finish s u now before after lists = record {
  added = lists.added;
  is = lists.is;
  ends = lists.goes [] ∙ ap (listing_with true) (append-nil lists.added);
}

pub rest_finish : (s : State) (u : Line) (now : Option ℕ) (count : ℕ)
    (before mid after : List ℕ) → Lists s (state u now false) before mid → IsAtRest u
    → count ≡ stream_place (u.place + length u.unread) - u.start → after ≡ mid ++ rest_line count
    → FinishesListing s before after false
rest_finish s u now count before mid after lists rest counted is = record {
  added = lists.added ++ rest_line count;
  is = is ∙ ap (λ (os : List ℕ). os ++ rest_line count) lists.is
      ∙ append_assoc before lists.added (rest_line count);
  ends = lists.goes []
      ∙ ap (with_text lists.added)
      (ap (λ (os : List ℕ). of_stream now (stream_of (line_with u os)))
      (fed_to-nothing u.fault u.unread)
      ∙ ap (of_stream now) rest.rest
      ∙ ap (λ (n : ℕ). listing_with false (rest_line n)) (sym counted));
}
