-- What a link gives is taken in.
use Rattle.std.proofs.Common.{◌≡◌, ℕ, Bool, true, false, List, [], ◌∷◌, ◌++◌, None, refl, sym}
use Rattle.std.proofs.Common.{ap, subst, ◌∙◌, inr}
use Rattle.std.proofs.lemmas.List.{append-nil}
use Rattle.std.proofs.lemmas.Grind.{flat_map-append}
use Rattle.outside.specs.Links.LinkAnswers.{Received, piece, idle, ended, failed, LinkAnswer}
use Rattle.outside.specs.Links.LinkAnswers.{LinkAnswers, next_answer, with_answer}
use Rattle.outside.specs.Links.Links.{LinkTold}
use Rattle.share_turn.specs.Entries.{Each}
use Rattle.tase_conn.specs.Map.Inputs.{Item, IsLinkInput}
use Rattle.tase_conn.specs.Map.Inputs.{piece as piece_item, idle as idle_item, ended as ended_item}
use Rattle.tase_conn.specs.declared.stage.ConnEnd.{ConnEnd}
use Rattle.tase_conn.specs.declared.stage.ConnEnd.TheVariants as conn_ends
use Rattle.tase_conn.specs.Talking.{Talking, pending_of, stage_peer}
use Rattle.tase_conn.specs.Places.{GainsItem}
use Rattle.tase_conn.specs.Taken.{TakesIn}
use Rattle.conn_service.specs.Courses.Serving.{Serves}
use Rattle.conn_service.proofs.OfCourses.Kept.{taken_serves}
use Rattle.node_server.specs.declared.turn.turn_node.NodeSetup.{NodeSetup}
use Rattle.node_server.specs.Turn.Logged.{past_in}
use Rattle.node_server.specs.NodeCalls.{NodeLog}
use Rattle.node_server.specs.Seats.Serving.{IsServersEnd, RestsFor}
use Rattle.node_server.specs.Links.GivenItems.{items_given, items_of, MayGoOn}
use Rattle.node_server.specs.Links.LinkUses.{HasHeard, UsesLink}
use Rattle.node_server.specs.Links.Receiving.{ReceivesOnce}
use Rattle.node_server.specs.Links.ServedLinks.{CameBehind, HasActedOn, limit_over}
use Rattle.node_server.specs.Links.Turns.{HasGiven, IsUnderWay, IsInTurn}
use Rattle.node_server.specs.Links.Leaving.{HasFailedOnly, WaitsToLeave, IsToLeave}
use Rattle.node_server.specs.declared.links.receiving.Intake.TheVariants.{Taken, Memory, Failed}
use Rattle.node_server.proofs.OfLinks.Uses.{heard_then, uses_then}
use Rattle.node_server.proofs.OfLinks.InTurn.{came_next, came_push}

-- ---- the items

-- of one answer more
pub items_push : (given : List LinkAnswer) (answer : LinkAnswer)
    → items_of (given ++ answer ∷ []) ≡ items_of given ++ items_given answer.received
items_push given answer =
    flat_map-append (λ (a : LinkAnswer). items_given a.received) given (answer ∷ [])
    ∙ ap (λ (l : List Item). items_of given ++ l) (append-nil (items_given answer.received))

-- where more may come behind each answer, no item is an end
no_end : (received : Received) (items : List Item) (item : Item) → MayGoOn received
    → IsLinkInput (items ++ item ∷ []) → IsLinkInput ((items_given received ++ items) ++ item ∷ [])
no_end (piece octets) items item more is = is
no_end idle items item more is = is
no_end ended items item more is = absurd more
no_end failed items item more is = absurd more

one_item : (item : Item) → IsLinkInput (item ∷ [])
one_item (piece_item octets) = tt
one_item idle_item = tt
one_item ended_item = refl

pub input_more : (given : List LinkAnswer) (item : Item)
    → Each (λ (answer : LinkAnswer). MayGoOn answer.received) given
    → IsLinkInput (items_of given ++ item ∷ [])
input_more [] item more = one_item item
input_more (answer ∷ given) item more =
    no_end answer.received (items_of given) item more.0 (input_more given item more.1)

each_push : {A : Type 0} (P : A → Type 0) (xs : List A) (x : A) → Each P xs → P x
    → Each P (xs ++ x ∷ [])
each_push P [] x all one = (one, tt)
each_push P (first ∷ xs) x all one = (all.0, each_push P xs x all.1 one)

gave : (received : Received) (item : Item) → items_given received ≡ item ∷ []
    → received ≡ failed → ⊥
gave (piece octets) item is e = absurd cc
gave idle item is e = absurd cc
gave ended item is e = absurd cc
gave failed item is e = absurd cc

-- ---- what was taken in

module _ (setup : NodeSetup) (who : ℕ) (log : NodeLog) (start used after : LinkTold)
    (v : Talking) (t : IsInTurn setup who log start used v) (received : Received) where
  -- the link has given one answer more
  used_more : (has_failed : Bool)
      → UsesLink used after t.stands.way.now (with_answer received t.stands.way.now)
      (next_answer received t.stands.way.now ∷ []) [] has_failed
      → UsesLink start after t.stands.way.first (with_answer received t.stands.way.now)
      (t.stands.way.given ++ next_answer received t.stands.way.now ∷ []) t.stands.way.taken
      has_failed
  used_more has_failed uses =
      let w = t.stands.way in
      let answer = next_answer received w.now in
      subst (λ (l : List ℕ). UsesLink start after w.first (with_answer received w.now)
      (w.given ++ answer ∷ []) l has_failed) (append-nil w.taken)
      (uses_then start used after w.first w.now (with_answer received w.now) w.given (answer ∷ [])
      w.taken [] has_failed w.uses uses)

  in_turn_more : CameBehind setup.centre who t.stands.way.first.sent log []
      (t.stands.way.given ++ next_answer received t.stands.way.now ∷ [])
  in_turn_more =
      let w = t.stands.way in
      came_push setup.centre who w.first.sent log [] w.given (next_answer received w.now) w.in_turn
      (came_next setup who log start used v t received)

  -- what it gave was taken in
  under_way : (new : Talking) (item : Item) → items_given received ≡ item ∷ []
      → UsesLink used after t.stands.way.now (with_answer received t.stands.way.now)
      (next_answer received t.stands.way.now ∷ []) [] false
      → GainsItem item v new → TakesIn v new → IsUnderWay setup who log start after new
  under_way new item is uses gains takes =
      let w = t.stands.way in
      let answer = next_answer received w.now in
      let past = past_in log in
      let items : items_of (w.given ++ answer ∷ []) ≡ items_of w.given ++ item ∷ [] =
      items_push w.given answer ∙ ap (λ (l : List Item). items_of w.given ++ l) is in
      let octets = w.taken ++ pending_of v in
      let s : Serves setup.centre past who (items_of w.given ++ item ∷ []) octets None new =
      taken_serves setup.centre past who (items_of w.given) item octets v new w.serves
      (input_more w.given item t.stands.more)
      (gains setup.centre (items_of w.given) w.serves.told w.serves.turns w.serves.stands) takes in
      let pending : pending_of new ≡ pending_of v = ap (λ (x : Talking). pending_of x) takes in
      record {
        given = w.given ++ answer ∷ [];
        taken = w.taken;
        first = w.first;
        now = with_answer received w.now;
        uses = used_more false uses;
        has_given = each_push HasGiven w.given answer w.has_given (gave received item is);
        serves = subst (λ (l : List Item). Serves setup.centre past who l
            (w.taken ++ pending_of new) None new) (sym items)
            (subst (λ (l : List ℕ). Serves setup.centre past who (items_of w.given ++ item ∷ [])
            (w.taken ++ l) None new) (sym pending) s);
        in_turn = in_turn_more;
        running = ap (λ (x : Talking). x.progress) takes ∙ w.running;
        peer = ap (λ (x : Talking). stage_peer x.stage) takes ∙ w.peer;
      }

  -- nothing of it was taken in, and it is given up for that
  given_up : (new : Talking) (end : ConnEnd) (has_failed : Bool) → IsServersEnd end
      → UsesLink used after t.stands.way.now (with_answer received t.stands.way.now)
      (next_answer received t.stands.way.now ∷ []) [] has_failed
      → HasFailedOnly end has_failed → RestsFor end v
      → HasActedOn end (items_of (t.stands.way.given ++ next_answer received t.stands.way.now ∷ []))
      (items_of t.stands.way.given)
      → WaitsToLeave end (limit_over setup.centre (past_in log) who) after
      (with_answer received t.stands.way.now) (pending_of v)
      → new ≡ v → IsToLeave setup who log start after new end
  given_up new end has_failed by_server uses fails rests acted waits same =
      let w = t.stands.way in
      subst (λ (x : Talking). IsToLeave setup who log start after x end) (sym same) (record {
        by_server = by_server;
        given = w.given ++ next_answer received w.now ∷ [];
        taken = w.taken;
        first = w.first;
        now = with_answer received w.now;
        has_failed = has_failed;
        uses = used_more has_failed uses;
        failed = fails;
        acted = items_of w.given;
        acted_is = acted;
        serves = w.serves;
        running = w.running;
        rests = rests;
        in_turn = in_turn_more;
        waits = waits;
      })

module _ (setup : NodeSetup) (who : ℕ) (log : NodeLog) (start used after : LinkTold)
    (v new : Talking) (t : IsInTurn setup who log start used v) where
  -- the link has heard what it had by then
  heard_here : HasHeard used t.stands.way.now
  heard_here =
      let w = t.stands.way in heard_then start used w.first w.now w.given w.taken false w.uses

  pub taken_way : ((first : LinkAnswers) → HasHeard used first
      → ReceivesOnce used after first v new Taken) → IsUnderWay setup who log start after new
  taken_way receives =
      let r = receives t.stands.way.now heard_here in
      let i = r.taken_in in
      under_way setup who log start used after v t r.received new i.0 i.1 r.uses i.2 i.3

  pub failed_leaves : ((first : LinkAnswers) → HasHeard used first
      → ReceivesOnce used after first v new Failed)
      → IsToLeave setup who log start after new conn_ends.LinkFault
  failed_leaves receives =
      let w = t.stands.way in
      let r = receives w.now heard_here in
      let acted : items_of (w.given ++ next_answer r.received w.now ∷ []) ≡ items_of w.given =
      items_push w.given (next_answer r.received w.now)
      ∙ ap (λ (l : List Item). items_of w.given ++ l) r.taken_in.0
      ∙ append-nil (items_of w.given) in
      given_up setup who log start used after v t r.received new conn_ends.LinkFault true tt r.uses
      refl t.stands.resting acted tt r.taken_in.1

  pub memory_leaves : ((first : LinkAnswers) → HasHeard used first
      → ReceivesOnce used after first v new Memory)
      → IsToLeave setup who log start after new conn_ends.Memory
  memory_leaves receives =
      let w = t.stands.way in
      let r = receives w.now heard_here in
      let i = r.taken_in in
      let acted : items_of (w.given ++ next_answer r.received w.now ∷ [])
      ≡ items_of w.given ++ i.0 ∷ [] =
      items_push w.given (next_answer r.received w.now)
      ∙ ap (λ (l : List Item). items_of w.given ++ l) i.1 in
      given_up setup who log start used after v t r.received new conn_ends.Memory false tt r.uses
      refl tt (inr (i.0, acted)) tt i.2
