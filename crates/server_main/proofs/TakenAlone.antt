-- No seat of a server but its own takes orders.
use Rattle.std.proofs.Common.{◌≡◌, ℕ, List, [], ◌∷◌, ◌++◌}
use Rattle.std.proofs.Common.{sym, ap, subst, ◌∙◌, inl, inr, Option, Some, None, append_assoc}
use Rattle.outside.specs.Source.{SourceTold}
use Rattle.outside.specs.Links.Clocks.{ClockTold}
use Rattle.tase_views.specs.declared.event.EventKind.{EventKind}
use Rattle.tase_views.specs.Moves.{sort_of}
use Rattle.share_turn.specs.Entries.{Each, own, Keeps, Claims}
use Rattle.share_turn.proofs.Owned.{each_append, is_own, own_append}
use Rattle.node_server.specs.declared.turn.turn_node.NodeSetup.{NodeSetup}
use Rattle.node_server.specs.NodeCalls.{NodeLog}
use Rattle.server_main.specs.Plant.PlantHistory.{AsksOrders, TakesAlone}
use Rattle.server_main.specs.declared.run.seats.FeedSeat.{FeedSeat}
use Rattle.server_main.specs.declared.run.seats.TickSeat.{TickSeat}
use Rattle.server_main.specs.Run.Gathering.{SeatClaim, ServedLink, HasServed, claims_of, FeedClaims}
use Rattle.server_main.specs.Run.Gathering.{TicksClaims, ClosesOver}
use Rattle.server_main.proofs.ClaimsLeft.{each-both}
use Rattle.server_main.proofs.Quiet.{IsQuiet, AllQuiet}
use Rattle.server_main.proofs.FeedQuiet.{feed-quiet, ticks-quiet}
use Rattle.server_main.proofs.LinkQuiet.{link-quiet}

-- under the number no orders were taken
IsQuietClaim : SeatClaim → Type 0
IsQuietClaim claim = AllQuiet (own claim.0 claim.1)

fed-claims : (setup : NodeSetup) (given left : SourceTold) (fed : Option FeedSeat)
    (claims : List SeatClaim) → FeedClaims setup given left fed claims
    → Each IsQuietClaim claims
unfolding IsQuietClaim
fed-claims setup given left None claims is =
    subst (λ (cs : List SeatClaim). Each IsQuietClaim cs) (sym is.1) tt
fed-claims setup given left (Some fed) claims is =
    subst (λ (cs : List SeatClaim). Each IsQuietClaim cs) (sym is.2)
    (feed-quiet setup given left fed is.0 is.1, tt)

ticked-claims : (setup : NodeSetup) (given left : ClockTold) (ticked : Option TickSeat)
    (claims : List SeatClaim) → TicksClaims setup given left ticked claims
    → Each IsQuietClaim claims
unfolding IsQuietClaim
ticked-claims setup given left None claims is =
    subst (λ (cs : List SeatClaim). Each IsQuietClaim cs) (sym is.1) tt
ticked-claims setup given left (Some ticked) claims is =
    subst (λ (cs : List SeatClaim). Each IsQuietClaim cs) (sym is.2)
    (ticks-quiet setup given left ticked is.0 is.1, tt)

served-claims : (setup : NodeSetup) (served : List ServedLink) → Each (HasServed setup) served
    → Each IsQuietClaim (claims_of served)
unfolding IsQuietClaim
served-claims setup [] each = tt
served-claims setup (link ∷ links) each =
    each_append IsQuietClaim (claims_of links) (link.claim ∷ []) (served-claims setup links each.1)
    (link-quiet setup link each.0, tt)

-- ---- entries

HasQuiet : NodeLog → ℕ × EventKind → Type 0
HasQuiet log entry = AllQuiet (own entry.0 log) → IsQuiet entry.1

middle-quiet : (xs ys zs : List EventKind) → AllQuiet (xs ++ (ys ++ zs)) → AllQuiet ys
middle-quiet [] [] zs each = tt
middle-quiet [] (y ∷ ys) zs each = (each.0, middle-quiet [] ys zs each.1)
middle-quiet (x ∷ xs) ys zs each = middle-quiet xs ys zs each.1

-- an entry is quiet where all of its number are
each-quiet : (before rest : NodeLog) → Each (HasQuiet (before ++ rest)) rest
unfolding HasQuiet
each-quiet before [] = tt
each-quiet before (e ∷ rest) = (
  λ quiet. let all : AllQuiet (own e.0 before ++ (own e.0 (e ∷ []) ++ own e.0 rest)) =
      subst AllQuiet (own_append e.0 before (e ∷ rest)
      ∙ ap (λ (l : List EventKind). own e.0 before ++ l) (own_append e.0 (e ∷ []) rest)) quiet in
      (subst AllQuiet (is_own e.0 e.1)
      (middle-quiet (own e.0 before) (own e.0 (e ∷ [])) (own e.0 rest) all)).0,
  subst (λ (log : NodeLog). Each (HasQuiet log) rest) (append_assoc before (e ∷ []) rest)
      (each-quiet (before ++ e ∷ []) rest),
)

-- a number that is claimed by a job has none
quiet-under : (log : NodeLog) (claims : List SeatClaim) (n : ℕ) → Each (Keeps log) claims
    → Each IsQuietClaim claims → Claims claims n → AllQuiet (own n log)
unfolding IsQuietClaim
quiet-under log [] n keeps quiet claimed = absurd claimed
quiet-under log (p ∷ ps) n keeps quiet (inl same) =
    subst (λ (m : ℕ). AllQuiet (own m log)) same (subst AllQuiet (sym keeps.0.1) quiet.0)
quiet-under log (p ∷ ps) n keeps quiet (inr claimed) =
    quiet-under log ps n keeps.1 quiet.1 claimed

alone-at : (who : ℕ) (front log : NodeLog) (claims : List SeatClaim) → Each (Keeps log) claims
    → Each IsQuietClaim claims → (e : ℕ × EventKind) → Claims ((who, front) ∷ claims) e.0
    → HasQuiet log e → AsksOrders (sort_of e.1) → e.0 ≡ who
unfolding HasQuiet
alone-at who front log claims keeps quiet e (inl same) has asks = sym same
alone-at who front log claims keeps quiet e (inr claimed) has asks =
    absurd (has (quiet-under log claims e.0 keeps quiet claimed) asks)

pub takes-alone : (setup : NodeSetup) (given left : SourceTold) (clock later : ClockTold)
    (fed : Option FeedSeat) (ticked : Option TickSeat) (of_feed of_ticks : List SeatClaim)
    (served : List ServedLink) (who : ℕ) (front log : NodeLog)
    → FeedClaims setup given left fed of_feed → TicksClaims setup clock later ticked of_ticks
    → Each (HasServed setup) served
    → ClosesOver ((who, front) ∷ (claims_of served ++ (of_ticks ++ of_feed))) log
    → TakesAlone who log
takes-alone setup given left clock later fed ticked of_feed of_ticks served who front log feeds
    ticks serves closes =
    let claims : List SeatClaim = claims_of served ++ (of_ticks ++ of_feed) in
    let quiet : Each IsQuietClaim claims =
    each_append IsQuietClaim (claims_of served) (of_ticks ++ of_feed)
    (served-claims setup served serves)
    (each_append IsQuietClaim of_ticks of_feed
    (ticked-claims setup clock later ticked of_ticks ticks)
    (fed-claims setup given left fed of_feed feeds)) in
    each-both (λ (e : ℕ × EventKind). Claims ((who, front) ∷ claims) e.0) (HasQuiet log)
    (λ (e : ℕ × EventKind). AsksOrders (sort_of e.1) → e.0 ≡ who)
    (alone-at who front log claims closes.keeps.1 quiet) log closes.no_other
    (each-quiet [] log)
