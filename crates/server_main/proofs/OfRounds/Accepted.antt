-- What one call of accept does of a round.
use Rattle.std.proofs.Common.{◌≡◌, ℕ, ◌≤◌, Bool, true, false, List, [], ◌∷◌, ◌++◌}
use Rattle.std.proofs.Common.{map, length, refl, sym, ap, ◌∙◌, subst, arith, Option, Some, None}
use Rattle.std.proofs.lemmas.List.{append-nil}
use Rattle.outside.specs.Sink.{SinkTold}
use Rattle.outside.specs.Links.Links.{LinkTold, closed_link}
use Rattle.outside.specs.Links.Listeners.{ListenerTold}
use Rattle.share_turn.specs.Public.{IsOf}
use Rattle.node_server.specs.NodeCalls.{NodeCall, NodeSeat}
use Rattle.server_main.specs.Plant.PlantHistory.{HasPlantLines}
use Rattle.server_main.specs.declared.run.seats.LinkSeat.{LinkSeat}
use Rattle.server_main.specs.declared.run.accepting.Accepted.{Accepted}
use Rattle.server_main.specs.declared.run.accepting.Accepted.TheVariants as acceptances
use Rattle.server_main.specs.declared.run.serving.ServingEnd.{ServingEnd}
use Rattle.server_main.specs.declared.run.serving.ServingEnd.TheVariants as ends
use Rattle.server_main.specs.Run.Gathering.{SharedNode}
use Rattle.server_main.specs.Run.Retiring.{LinksNoted}
use Rattle.server_main.specs.Run.Starting.{TakesBack}
use Rattle.server_main.specs.Run.Accepting.{Accepting, AcceptsOnce, GivesNone, Serves, TurnsAway}
use Rattle.server_main.specs.Run.Rounds.{end_of_accept}
use Rattle.server_main.specs.Rounds.Rounds.{is_listener_end, is_plant_end, counted_up, IsLastCall}
use Rattle.server_main.specs.Rounds.Rounds.{PlantHas, CountsTurnedAway, without_seat}
use Rattle.server_main.proofs.OfRounds.Listened.{ListenerSoFar, listener-same, listener-called}
use Rattle.server_main.proofs.OfRounds.Listened.{listener-turned, listener-fewer}
use Rattle.server_main.proofs.OfRounds.Given.{GivenSoFar, given-none, given-started, given-turned}
use Rattle.server_main.proofs.OfRounds.Given.{given-same}
use Rattle.server_main.proofs.OfRounds.Seated.{back-same}

-- ---- the same of rounds that may go on

abbrev pub is_listener_end_so : Option ServingEnd → Bool
is_listener_end_so None = false
is_listener_end_so (Some end) = is_listener_end end

abbrev pub is_plant_end_so : Option ServingEnd → Bool
is_plant_end_so None = false
is_plant_end_so (Some end) = is_plant_end end

abbrev pub LastSo : Option ServingEnd → List NodeCall → Type 0
LastSo None calls = Unit {0}
LastSo (Some end) calls = IsLastCall end calls

abbrev pub PlantSo : Option ServingEnd → SharedNode → NodeSeat → SinkTold → SinkTold → Type 0
PlantSo None node seat start now =
    HasPlantLines node.setup.centre seat.number seat.front start now
PlantSo (Some end) node seat start now = PlantHas end node seat start now

abbrev pub CountsSo : Option ServingEnd → ℕ → ℕ → ℕ → Type 0
CountsSo None many before after = after ≡ counted_up many before
CountsSo (Some end) many before after = CountsTurnedAway end many before after

-- where it goes on behind accept, accept was called
abbrev pub calls_owed : Option ServingEnd → ℕ
calls_owed None = 1
calls_owed (Some end) = 0

-- ---- one call

-- accept asks for no orders and tells the plant nothing
pub record StopsByAccept (end : Option ServingEnd) : Type 0 where
  pub last : LastSo end []
  pub plant : (node : SharedNode) (seat : NodeSeat) (start now : SinkTold)
      → HasPlantLines node.setup.centre seat.number seat.front start now
      → PlantSo end node seat start now
  pub no_fault : is_plant_end_so end ≡ false

pub accept-stops : (accepted : Accepted) → StopsByAccept (end_of_accept accepted)
accept-stops acceptances.Serving =
    record { last = tt; plant = λ node seat start now has. has; no_fault = refl }
accept-stops acceptances.TurnedAway =
    record { last = tt; plant = λ node seat start now has. has; no_fault = refl }
accept-stops acceptances.NoLink =
    record { last = tt; plant = λ node seat start now has. has; no_fault = refl }
accept-stops acceptances.Fault =
    record { last = tt; plant = λ node seat start now has. has; no_fault = refl }
accept-stops acceptances.NoRoom =
    record { last = tt; plant = λ node seat start now has. has; no_fault = refl }
accept-stops acceptances.Memory =
    record { last = tt; plant = λ node seat start now has. has; no_fault = refl }

pub record AcceptDone {L S C : Type 0} (node : SharedNode) (before after : Accepting L S C)
    (end : Option ServingEnd) : Type 0 where
  pub turned : List LinkTold
  pub back : TakesBack node (length turned) before.seat after.seat
  pub listener : ListenerSoFar before.listener after.listener (calls_owed end) turned
      (is_listener_end_so end)
  pub given : GivenSoFar before.listener after.listener before.spawner after.spawner
      (length turned)
  pub noted : after.links.seats ≡ before.links.seats ++ map without_seat turned
  pub counts : CountsSo end (length turned) before.spawner.faults after.spawner.faults

noted_none : (noted : List (Option LinkSeat)) → noted ≡ noted ++ []
noted_none noted = sym (append-nil noted)

module _ {L S C : Type 0} (told : L → LinkTold) (node : SharedNode) where
  accept-serves : (before after : Accepting L S C) → IsOf node before.seat
      → Serves told node before after → AcceptDone node before after None
  accept-serves before after of serves = record {
    turned = [];
    back = back-same node before.seat after.seat of serves.same_seat;
    listener = listener-called before.listener after.listener (Some serves.link) false
        serves.accepts;
    given = given-started before.listener after.listener before.spawner after.spawner serves.link
        serves.job serves.accepts serves.starts;
    noted = ap (λ (l : LinksNoted). l.seats) serves.room ∙ noted_none before.links.seats;
    counts = ap (λ s. s.faults) serves.starts;
  }

  accept-none : (before after : Accepting L S C) → IsOf node before.seat
      → GivesNone false before after → AcceptDone node before after None
  accept-none before after of gives = record {
    turned = [];
    back = back-same node before.seat after.seat of gives.same_seat;
    listener = listener-called before.listener after.listener None false gives.accepts;
    given = given-none before.listener after.listener before.spawner after.spawner false
        gives.accepts gives.same_jobs;
    noted = ap (λ (l : LinksNoted). l.seats) gives.same_links ∙ noted_none before.links.seats;
    counts = ap (λ s. s.faults) gives.same_jobs;
  }

  accept-fails : (before after : Accepting L S C) → IsOf node before.seat
      → GivesNone true before after → AcceptDone node before after (Some ends.ListenerFault)
  accept-fails before after of gives = record {
    turned = [];
    back = back-same node before.seat after.seat of gives.same_seat;
    listener = listener-fewer before.listener after.listener 1 0 [] true (omega arith)
        (listener-called before.listener after.listener None true gives.accepts);
    given = given-none before.listener after.listener before.spawner after.spawner true
        gives.accepts gives.same_jobs;
    noted = ap (λ (l : LinksNoted). l.seats) gives.same_links ∙ noted_none before.links.seats;
    counts = ap (λ s. s.faults) gives.same_jobs;
  }

  accept-turns : (before after : Accepting L S C) (faults : ℕ) (end : Option ServingEnd)
      → TurnsAway node faults before after → is_listener_end_so end ≡ false
      → calls_owed end ≤ 1 → CountsSo end 1 before.spawner.faults faults
      → AcceptDone node before after end
  accept-turns before after faults end away quiet owed counts = record {
    turned = closed_link away.link ∷ [];
    back = away.back;
    listener = subst (λ (b : Bool). ListenerSoFar before.listener after.listener (calls_owed end)
        (closed_link away.link ∷ []) b) (sym quiet)
        (listener-fewer before.listener after.listener 1 (calls_owed end) _ false owed
        (listener-turned before.listener away.given after.listener away.link away.accepts
        away.retired));
    given = given-turned before.listener after.listener before.spawner after.spawner away.given
        away.link faults away.accepts (ap (λ (l : ListenerTold). l.accepted) away.retired)
        away.counted;
    noted = ap (λ (l : LinksNoted). l.seats) away.noted;
    counts = subst (λ (n : ℕ). CountsSo end 1 before.spawner.faults n)
        (sym (ap (λ s. s.faults) away.counted)) counts;
  }

  accept-same : (now : Accepting L S C) → IsOf node now.seat
      → AcceptDone node now now (Some ends.Memory)
  accept-same now of = record {
    turned = [];
    back = back-same node now.seat now.seat of refl;
    listener = listener-same now.listener;
    given = given-same now.listener now.spawner;
    noted = noted_none now.links.seats;
    counts = (0, refl, omega arith, omega arith);
  }

  pub accept-done : (before after : Accepting L S C) (accepted : Accepted) → IsOf node before.seat
      → AcceptsOnce told node before after accepted
      → AcceptDone node before after (end_of_accept accepted)
  accept-done before after acceptances.Serving of accepts = accept-serves before after of accepts
  accept-done before after acceptances.TurnedAway of accepts =
      accept-turns before after _ None accepts refl (omega arith) refl
  accept-done before after acceptances.NoLink of accepts = accept-none before after of accepts
  accept-done before after acceptances.Fault of accepts = accept-fails before after of accepts
  accept-done before after acceptances.NoRoom of accepts =
      subst (λ (a : Accepting L S C). AcceptDone node before a (Some ends.Memory)) (sym accepts)
      (accept-same before of)
  accept-done before after acceptances.Memory of accepts =
      accept-turns before after _ (Some ends.Memory) accepts refl (omega arith)
      (0, refl, omega arith, omega arith)
