-- Octets some of which were sent.
use Rattle.std.proofs.Common.{◌≡◌, ℕ, Bool, true, false, List, [], ◌++◌}
use Rattle.std.proofs.Common.{take, drop, Option, Some, None, IfSome, refl, sym, ap, subst, ◌∙◌}
use Rattle.std.proofs.Common.{append_assoc}
use Rattle.std.specs.Prelude.{option_map}
use Rattle.std.proofs.lemmas.List.{append-nil, take-append-drop}
use Rattle.outside.specs.declared.sink.WriteEnd.{WriteEnd}
use Rattle.outside.specs.declared.sink.WriteEnd.TheVariants.{Took, Failed as SendFailed}
use Rattle.outside.specs.Links.LinkAnswers.{LinkAnswers, with_send, took_none}
use Rattle.outside.specs.Links.Links.{LinkTold, SendsPiece}
use Rattle.node_server.specs.Links.LinkUses.{HasHeard, UsesLink}
use Rattle.node_server.proofs.OfLinks.Uses.{uses_none, uses_then, heard_then, send_uses}
use Rattle.asking_end.specs.declared.service.sending.Sent.TheVariants.{All, Front, Failed}
use Rattle.asking_end.specs.Service.Sends.{SendsOut, IsLastRefused}
use Rattle.asking_end.specs.Service.Terminals.{TerminalTold, IsUnwritten}

-- nothing is written
pub unwritten_none : (t : TerminalTold) → IsUnwritten t t
unwritten_none t = record { sink = refl; moments = refl }

pub unwritten_then : (before between after : TerminalTold) → IsUnwritten before between
    → IsUnwritten between after → IsUnwritten before after
unwritten_then before between after u v =
    record { sink = v.sink ∙ u.sink; moments = v.moments ∙ u.moments }

-- the first of the octets that waited were taken
pub record SentSoFar (before after : LinkTold) (first : LinkAnswers) (old new : List ℕ) :
    Type 0 where
  pub now : LinkAnswers
  pub taken : List ℕ
  pub uses : UsesLink before after first now [] taken false
  pub waited : old ≡ taken ++ new

pub sent_none : (link : LinkTold) (first : LinkAnswers) (out : List ℕ) → HasHeard link first
    → SentSoFar link link first out out
sent_none link first out heard =
    record { now = first; taken = []; uses = uses_none link first heard; waited = refl }

-- a send that took nothing or failed is the last
marked : {A : Type 0} (x : Bool) (o : Option A)
    → IfSome (option_map (λ (a : A). Some x) o) (λ found. found ≡ Some x)
marked x None = tt
marked x (Some a) = refl

refused : (before after : LinkTold) (end : WriteEnd) (piece : List ℕ)
    → SendsPiece before after end piece → took_none end ≡ true → IsLastRefused after
refused before after end piece s none =
    let P : Option (Option Bool) → Type 0 = λ o. IfSome o (λ found. found ≡ Some true) in
    subst P (sym (s.refused ∙ ap (λ (b : Bool). option_map (λ (o : Option Bool). Some b)
    before.refused) none)) (marked true before.refused)

-- none waits any more
pub sent_all : (before after : LinkTold) (first : LinkAnswers) (old new : List ℕ)
    → SentSoFar before after first old new → new ≡ [] → SendsOut before after first old new All
sent_all before after first old new so none =
    record { now = so.now; taken = so.taken; uses = so.uses; waited = so.waited; left = none }

module _ (before between after : LinkTold) (first : LinkAnswers) (old mid : List ℕ)
    (so : SentSoFar before between first old mid) where
  heard : HasHeard between so.now
  heard = heard_then before between first so.now [] so.taken false so.uses

  -- some was taken
  pub sent_more : (new : List ℕ) (count : ℕ) → SendsPiece between after (Took count) mid
      → new ≡ drop count mid → SentSoFar before after first old new
  sent_more new count s is =
      let sent : List ℕ = take count mid in record {
        now = with_send (Took count) so.now;
        taken = so.taken ++ sent;
        uses = uses_then before between after first so.now (with_send (Took count) so.now) [] []
            so.taken sent false so.uses
            (send_uses between after so.now (Took count) mid heard s);
        waited = so.waited
            ∙ ap (λ (l : List ℕ). so.taken ++ l)
            (sym (take-append-drop count mid) ∙ ap (λ (l : List ℕ). sent ++ l) (sym is))
            ∙ sym (append_assoc so.taken sent new);
      }

  -- nothing was taken now
  pub sent_nothing : SendsPiece between after (Took 0) mid
      → SendsOut before after first old mid Front
  sent_nothing s =
      let uses = uses_then before between after first so.now (with_send (Took 0) so.now) [] []
      so.taken [] false so.uses (send_uses between after so.now (Took 0) mid heard s) in record {
        now = with_send (Took 0) so.now;
        taken = so.taken;
        uses = subst (λ (l : List ℕ). UsesLink before after first (with_send (Took 0) so.now) [] l
            false) (append-nil so.taken) uses;
        waited = so.waited;
        left = (refused between after (Took 0) mid s refl, refl);
      }

  -- it has failed
  pub sent_failed : SendsPiece between after SendFailed mid
      → SendsOut before after first old mid Failed
  sent_failed s =
      let uses = uses_then before between after first so.now (with_send SendFailed so.now) [] []
      so.taken [] true so.uses (send_uses between after so.now SendFailed mid heard s) in record {
        now = with_send SendFailed so.now;
        taken = so.taken;
        uses = subst (λ (l : List ℕ). UsesLink before after first (with_send SendFailed so.now) [] l
            true) (append-nil so.taken) uses;
        waited = so.waited;
        left = tt;
      }
