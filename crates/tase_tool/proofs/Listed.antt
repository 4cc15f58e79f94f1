-- What a listing says, piece by piece.
use Rattle.std.proofs.Common.{◌≡◌, ℕ, Bool, true, false, List, [], ◌++◌}
use Rattle.std.proofs.Common.{Ok, Err, sym, ap, subst, ◌∙◌, ◌≢◌}
use Rattle.outside.specs.Sink.{SinkTold, AppendsAll, AppendsPart}
use Rattle.outside.proofs.Writing.{Appends-append, AppendsPart-append, AppendsPart-front}
use Rattle.commands.specs.declared.io.status.Status.{Status}
use Rattle.commands.specs.declared.io.status.Status.TheVariants.{Done, Usage, Input, Outside, Full}
use Rattle.commands.specs.declared.io.status.Status.TheVariants.{Differs, Memory, Peer}
use Rattle.commands.specs.Io.Runs.{TellsSaid}
use Rattle.stack_assoc.specs.Listing.Listings.{Listing, State, listing_of, yet_listed, with_text, ListsPiece}
use Rattle.stack_assoc.proofs.OfListing.Listing.{with_text-twice}
use Rattle.tase_tool.specs.Listing.{status_of, listing_said, ListsOn}

-- a listing is no answer to words that are no command
pub lists_command : (listing : Listing) (k l : SinkTold) (status : Status)
    → TellsSaid (listing_said listing) k l status → status ≢ Usage
lists_command listing k l Done tells = λ same. absurd cc
lists_command listing k l Usage tells = absurd (no_usage listing.broken tells.0)
  where
    no_usage : (broken : Bool) → status_of broken ≡ Usage → ⊥
    no_usage true e = cc
    no_usage false e = cc
lists_command listing k l Input tells = λ same. absurd cc
lists_command listing k l Full tells = λ same. absurd cc
lists_command listing k l Differs tells = λ same. absurd cc
lists_command listing k l Peer tells = λ same. absurd cc
lists_command listing k l Outside tells = λ same. absurd cc
lists_command listing k l Memory tells = λ same. absurd cc

-- a text that was printed, and then the rest of a listing
pub Tells-behind : (k m l : SinkTold) (text : List ℕ) (listing : Listing) (status : Status)
    → AppendsAll k m text → TellsSaid (listing_said listing) m l status
    → TellsSaid (listing_said (with_text text listing)) k l status
Tells-behind k m l text listing Done all tells =
    (tells.0, Appends-append k m l text listing.text false all tells.1)
Tells-behind k m l text listing Usage all tells =
    (tells.0, Appends-append k m l text listing.text false all tells.1)
Tells-behind k m l text listing Input all tells =
    (tells.0, Appends-append k m l text listing.text false all tells.1)
Tells-behind k m l text listing Full all tells =
    (tells.0, Appends-append k m l text listing.text false all tells.1)
Tells-behind k m l text listing Differs all tells =
    (tells.0, Appends-append k m l text listing.text false all tells.1)
Tells-behind k m l text listing Peer all tells =
    (tells.0, Appends-append k m l text listing.text false all tells.1)
Tells-behind k m l text listing Outside all tells =
    AppendsPart-append k m l text listing.text true all tells
Tells-behind k m l text listing Memory all tells =
    AppendsPart-append k m l text listing.text false all tells

-- where a run of pieces stands: what it printed, and what is yet to be listed
pub record Stands (octets : List ℕ) (lister : State) (left : List ℕ) (k m : SinkTold) : Type 0 where
  pub printed : List ℕ
  pub all : AppendsAll k m printed
  pub goes : listing_of octets ≡ with_text printed (yet_listed lister left)

-- it ends
pub Stands-end : (octets : List ℕ) (lister : State) (left : List ℕ) (k m l : SinkTold)
    (status : Status) → Stands octets lister left k m
    → TellsSaid (listing_said (yet_listed lister left)) m l status
    → TellsSaid (listing_said (listing_of octets)) k l status
Stands-end octets lister left k m l status s tells =
    subst (λ (listing : Listing). TellsSaid (listing_said listing) k l status) (sym s.goes)
    (Tells-behind k m l s.printed (yet_listed lister left) status s.all tells)

-- it goes on behind a piece
pub Stands-next : (octets : List ℕ) (lister next : State) (piece rest left : List ℕ)
    (k m l : SinkTold) → Stands octets lister left k m → left ≡ piece ++ rest
    → ListsOn lister piece m l (Ok next) → Stands octets next rest k l
Stands-next octets lister next piece rest left k m l s is on = record {
  printed = s.printed ++ on.0;
  all = Appends-append k m l s.printed on.0 false s.all on.1;
  goes = s.goes
      ∙ ap (λ (os : List ℕ). with_text s.printed (yet_listed lister os)) is
      ∙ ap (with_text s.printed) (on.2 rest)
      ∙ with_text-twice s.printed on.0 (yet_listed next rest);
}

-- it stops at a piece
pub Stands-stop : (octets : List ℕ) (lister : State) (piece rest left : List ℕ)
    (k m l : SinkTold) (status : Status) → Stands octets lister left k m → left ≡ piece ++ rest
    → ListsOn lister piece m l (Err status) → TellsSaid (listing_said (listing_of octets)) k l status
Stands-stop octets lister piece rest left k m l status s is on =
    Stands-end octets lister left k m l status s
    (subst (λ (os : List ℕ). TellsSaid (listing_said (yet_listed lister os)) m l status) (sym is)
    (on rest))

-- a write of the lines of a piece that fails
pub stopped_piece : (old next : State) (piece before text : List ℕ) (k l : SinkTold)
    → ListsPiece old next piece before text → before ≡ [] → AppendsPart k l text true
    → (more : List ℕ) → TellsSaid (listing_said (yet_listed old (piece ++ more))) k l Outside
stopped_piece old next piece before text k l lists none part more =
    subst (λ (listing : Listing). AppendsPart k l listing.text true) (sym (lists.goes more))
    (AppendsPart-front k l lists.added (yet_listed next more).text true
    (subst (λ (os : List ℕ). AppendsPart k l os true)
    (lists.is ∙ ap (λ (os : List ℕ). os ++ lists.added) none) part))
