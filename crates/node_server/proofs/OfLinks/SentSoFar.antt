-- A connection some of whose octets were sent.
use Rattle.std.proofs.Common.{◌≡◌, ℕ, ◌≤◌, Bool, true, false, List, [], ◌∷◌, ◌++◌}
use Rattle.std.proofs.Common.{length, take, drop, Option, Some, None}
use Rattle.std.proofs.Common.{IfSome, refl, sym, ap, subst, ◌∙◌}
use Rattle.std.proofs.Common.{append_assoc}
use Rattle.std.specs.Prelude.{option_map}
use Rattle.std.proofs.lemmas.List.{append-nil, take-append-drop, take-append-le}
use Rattle.outside.specs.declared.sink.WriteEnd.{WriteEnd}
use Rattle.outside.specs.declared.sink.WriteEnd.TheVariants.{Took, Failed as SendFailed}
use Rattle.outside.specs.Links.LinkAnswers.{LinkAnswers, with_send, took_none}
use Rattle.outside.specs.Links.Links.{LinkTold, SendsPiece}
use Rattle.tase_conn.specs.Talking.{Talking, pending_of, next_pending, first_filled}
use Rattle.tase_conn.specs.Places.{KeepsPlace}
use Rattle.tase_conn.specs.Taken.{SendsSome}
use Rattle.node_server.specs.Links.LinkUses.{HasHeard, UsesLink, IsUntaken}
use Rattle.node_server.specs.Links.Sending.{SendsPending}
use Rattle.node_server.specs.declared.links.sending.SendsEnd.TheVariants.{NoneTaken, Failed}
use Rattle.node_server.proofs.OfLinks.Uses.{uses_none, uses_then, heard_then, send_uses}

-- ---- what is sent next

-- the first of what is to be sent next are the first of all that wait
next_first : (out farewell : List ℕ) (count : ℕ)
    → count ≤ length (first_filled out farewell)
    → take count (first_filled out farewell) ≡ take count (out ++ farewell)
next_first [] farewell count few = refl
next_first (octet ∷ out) farewell count few =
    sym (take-append-le count (octet ∷ out) farewell few)

-- ---- so far

-- the first of the octets that waited were taken
pub record SendsSoFar (before after : LinkTold) (first : LinkAnswers) (old new : Talking) :
    Type 0 where
  pub now : LinkAnswers
  pub taken : List ℕ
  pub uses : UsesLink before after first now [] taken false
  pub waited : pending_of old ≡ taken ++ pending_of new
  pub stands : KeepsPlace old new
  pub same : SendsSome old new

pub sent_none : (link : LinkTold) (first : LinkAnswers) (v : Talking) → HasHeard link first
    → SendsSoFar link link first v v
sent_none link first v heard = record {
  now = first;
  taken = [];
  uses = uses_none link first heard;
  waited = refl;
  stands = λ rows items told turns s. s;
  same = refl;
}

-- a send that took nothing or failed is untaken
marked : {A : Type 0} (x : Bool) (o : Option A)
    → IfSome (option_map (λ (a : A). Some x) o) (λ found. found ≡ Some x)
marked x None = tt
marked x (Some a) = refl

untaken : (before after : LinkTold) (end : WriteEnd) (piece : List ℕ)
    → SendsPiece before after end piece → took_none end ≡ true → IsUntaken after
untaken before after end piece s none =
    let P : Option (Option Bool) → Type 0 = λ o. IfSome o (λ found. found ≡ Some true) in
    let Q : Option (Option Bool) → Type 0 = λ o. IfSome o (λ found. found ≡ Some false) in (
      subst P (sym (s.refused ∙ ap (λ (b : Bool). option_map (λ (o : Option Bool). Some b)
          before.refused) none)) (marked true before.refused),
      subst Q (sym s.heard) (marked false before.heard),
    )

module _ (before between after : LinkTold) (first : LinkAnswers) (old mid : Talking)
    (so : SendsSoFar before between first old mid) where
  -- some was taken
  pub sent_more : (new : Talking) (count : ℕ)
      → SendsPiece between after (Took count) (next_pending mid)
      → count ≤ length (next_pending mid) → pending_of new ≡ drop count (pending_of mid)
      → KeepsPlace mid new → SendsSome mid new → SendsSoFar before after first old new
  sent_more new count s few left stands same =
      let sent : List ℕ = take count (next_pending mid) in
      let heard = heard_then before between first so.now [] so.taken false so.uses in record {
        now = with_send (Took count) so.now;
        taken = so.taken ++ sent;
        uses = uses_then before between after first so.now (with_send (Took count) so.now) [] []
            so.taken sent false so.uses
            (send_uses between after so.now (Took count) (next_pending mid) heard s);
        waited = so.waited
            ∙ ap (λ (l : List ℕ). so.taken ++ l)
            (sym (take-append-drop count (pending_of mid))
            ∙ ap (λ (l : List ℕ). l ++ drop count (pending_of mid))
            (sym (next_first mid.out mid.farewell.items count few))
            ∙ ap (λ (l : List ℕ). sent ++ l) (sym left))
            ∙ sym (append_assoc so.taken sent (pending_of new));
        stands = λ rows items told turns s.
            stands rows items told turns (so.stands rows items told turns s);
        same = same
            ∙ ap (λ (v : Talking). record v { out = new.out; farewell = new.farewell }) so.same;
      }

  -- nothing was taken now
  pub sent_nothing : SendsPiece between after (Took 0) (next_pending mid)
      → SendsPending before after first old mid NoneTaken
  sent_nothing s =
      let heard = heard_then before between first so.now [] so.taken false so.uses in
      let uses = uses_then before between after first so.now (with_send (Took 0) so.now) [] []
      so.taken [] false so.uses
      (send_uses between after so.now (Took 0) (next_pending mid) heard s) in record {
        now = with_send (Took 0) so.now;
        taken = so.taken;
        uses = subst (λ (l : List ℕ). UsesLink before after first (with_send (Took 0) so.now) [] l
            false) (append-nil so.taken) uses;
        waited = so.waited;
        left = (untaken between after (Took 0) (next_pending mid) s refl, refl);
        stands = so.stands;
        same = so.same;
      }

  -- it has failed
  pub sent_failed : SendsPiece between after SendFailed (next_pending mid)
      → SendsPending before after first old mid Failed
  sent_failed s =
      let heard = heard_then before between first so.now [] so.taken false so.uses in
      let uses = uses_then before between after first so.now (with_send SendFailed so.now) [] []
      so.taken [] true so.uses
      (send_uses between after so.now SendFailed (next_pending mid) heard s) in record {
        now = with_send SendFailed so.now;
        taken = so.taken;
        uses = subst (λ (l : List ℕ). UsesLink before after first (with_send SendFailed so.now) [] l
            true) (append-nil so.taken) uses;
        waited = so.waited;
        left = untaken between after SendFailed (next_pending mid) s refl;
        stands = so.stands;
        same = so.same;
      }
