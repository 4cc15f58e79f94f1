-- What a node's log keeps of its weight and of the room in it stays right.
use Rattle.std.proofs.Common.{◌≡◌, ℕ, ◌+◌, ◌*◌, ◌≤◌, false, ◌∷◌, length, Option, Some}
use Rattle.std.proofs.Common.{None, refl, ap, ◌∙◌, arith, length-append}
use Rattle.std.proofs.lemmas.Bool.{true≢false}
use Rattle.std.proofs.lemmas.Fmt.{length-decimal-le}
use Rattle.std.specs.Prelude.{if◌then◌else◌, ◌^◌, ◌<◌, decimal}
use Rattle.tase_views.specs.declared.event.EventKind.{EventKind}
use Rattle.tase_views.specs.declared.event.EventKind.TheVariants.{Open, Request, Take, Close}
use Rattle.tase_views.specs.declared.event.EventKind.TheVariants.{Update, Table, Tag, Tick, Ask}
use Rattle.tase_views.specs.declared.event.EventKind.TheVariants.{TakeOrders, Stop}
use Rattle.tase_views.specs.EventTexts.{event_text}
use Rattle.tase_views.specs.History.{is_stop, stop_in}
use Rattle.tase_views.specs.Outcomes.{is_ending}
use Rattle.tase_views.specs.Weights.{weight, weight_of}
use Rattle.node_core.specs.declared.node.log.TheConstants.{LONGEST_ENDING}
use Rattle.node_core.specs.LogState.{LogState}
use Rattle.node_core.specs.Room.{past_of, line_of, stops_left, HasRoom, IsReserved, LeavesSeats}
use Rattle.node_core.specs.Room.{MayAppend}

stops_left-most : (stop : Option ℕ) → stops_left stop ≤ 1
stops_left-most None = omega arith
stops_left-most (Some place) = omega arith

-- where there was no stop, one may still be taken
pub one_left : {log : LogState} {seats : ℕ} → HasRoom log seats → stop_in (past_of log) ≡ None
    → stops_left log.stop ≡ 1
one_left r none = ap stops_left (r.stopped ∙ none)

-- what an entry makes of a log
pub record IsAppended (old new : LogState) (who : ℕ) (event : EventKind) : Type 0 where
  pub limit : new.limit ≡ old.limit
  pub past : past_of new ≡ record { who = who; event = event } ∷ past_of old
  pub line : new.spare_lines + 1 ≡ old.spare_lines
  pub octets : old.spare_octets ≤ new.spare_octets + length (line_of who event)
  pub heavier : new.weight ≡ old.weight + weight event
  pub stop : new.stop ≡ (if is_stop event then Some (length (past_of old)) else old.stop)

-- what is left to show of an appended entry
HasRoom-of : (old new : LogState) (who : ℕ) (event : EventKind) (before behind : ℕ)
    → IsAppended old new who event → HasRoom old before
    → behind + stops_left new.stop ≤ new.spare_lines
    → LONGEST_ENDING * (behind + stops_left new.stop) ≤ new.spare_octets
    → 5 * behind ≤ new.weight
    → new.weight + 5 * behind + 4 * stops_left new.stop ≤ 2 * new.limit + 4
    → HasRoom new behind
HasRoom-of old new who event before behind a r lines octets opened light =
    record {
      bounded = rw a.limit r.bounded;
      weighs = rw a.past (omega (arith, a.heavier, r.weighs));
      stopped = rw (a.past, a.stop, r.stopped) refl;
      lines = lines;
      octets = octets;
      opened = opened;
      light = light;
    }

-- the line of a close and that of a stop
pub line-close : (who : ℕ) → who < 2 ^ 64 → length (line_of who Close) ≤ LONGEST_ENDING
line-close who fits =
    omega (
      arith,
      length-append (decimal who) (32 ∷ event_text Close),
      length-decimal-le 20 who (omega arith) (omega (arith, fits)) fits,
    )

pub line-stop : (who : ℕ) → who < 2 ^ 64 → length (line_of who Stop) ≤ LONGEST_ENDING
line-stop who fits =
    omega (
      arith,
      length-append (decimal who) (32 ∷ event_text Stop),
      length-decimal-le 20 who (omega arith) (omega (arith, fits)) fits,
    )

-- an event within the limit, for which room is reserved
HasRoom-within : (old new : LogState) (who : ℕ) (event : EventKind) (before behind : ℕ)
    → IsAppended old new who event → HasRoom old before
    → (weight_of (past_of old) + weight event ≤ old.limit) × IsReserved old behind who event
    → 5 * behind ≤ old.weight + weight event
    → HasRoom new behind
HasRoom-within old new who event before behind a r may opened =
    let left = stops_left-most new.stop in
    HasRoom-of old new who event before behind a r
    (omega (arith, may.1.lines, left, a.line)) (omega (arith, may.1.octets, left, a.octets))
    (omega (arith, opened, a.heavier))
    (omega (arith, left, a.heavier, a.limit, r.weighs, may.0, opened))

pub HasRoom-appended : (old new : LogState) (who : ℕ) (event : EventKind) (before behind : ℕ)
    → IsAppended old new who event → HasRoom old before → LeavesSeats event before behind
    → who < 2 ^ 64 → MayAppend old who event behind → HasRoom new behind
HasRoom-appended old new who (Open peer) before behind a r seats fits may =
    HasRoom-within old new who (Open peer) before behind a r may (omega (arith, seats, r.opened))
HasRoom-appended old new who (Request call) before behind a r seats fits may =
    HasRoom-within old new who (Request call) before behind a r may (omega (arith, seats, r.opened))
HasRoom-appended old new who Take before behind a r seats fits may =
    HasRoom-within old new who Take before behind a r may (omega (arith, seats, r.opened))
HasRoom-appended old new who (Update point value) before behind a r seats fits may =
    HasRoom-within old new who (Update point value) before behind a r may
    (omega (arith, seats, r.opened))
HasRoom-appended old new who (Table peer variant) before behind a r seats fits may =
    HasRoom-within old new who (Table peer variant) before behind a r may
    (omega (arith, seats, r.opened))
HasRoom-appended old new who (Tick now) before behind a r seats fits may =
    HasRoom-within old new who (Tick now) before behind a r may
    (omega (arith, seats, r.opened))
HasRoom-appended old new who (Ask asker slot) before behind a r seats fits may =
    HasRoom-within old new who (Ask asker slot) before behind a r may
    (omega (arith, seats, r.opened))
HasRoom-appended old new who (Tag device tag) before behind a r seats fits may =
    HasRoom-within old new who (Tag device tag) before behind a r may
    (omega (arith, seats, r.opened))
HasRoom-appended old new who TakeOrders before behind a r seats fits may =
    HasRoom-within old new who TakeOrders before behind a r may
    (omega (arith, seats, r.opened))
HasRoom-appended old new who Close before behind a r seats fits may =
    let left : stops_left new.stop ≡ stops_left old.stop = ap stops_left a.stop in
    HasRoom-of old new who Close before behind a r
    (omega (arith, seats, left, r.lines, a.line))
    (omega (arith, seats, left, r.octets, a.octets, line-close who fits))
    (omega (arith, seats, r.opened, a.heavier))
    (omega (arith, seats, left, r.light, a.heavier, a.limit))
HasRoom-appended old new who Stop before behind a r seats fits may =
    let one : stops_left old.stop ≡ 1 = one_left r may in
    let none : stops_left new.stop ≡ 0 = ap stops_left a.stop in
    HasRoom-of old new who Stop before behind a r
    (omega (arith, seats, one, none, r.lines, a.line))
    (omega (arith, seats, one, none, r.octets, a.octets, line-stop who fits))
    (omega (arith, seats, r.opened, a.heavier))
    (omega (arith, seats, one, none, r.light, a.heavier, a.limit))

-- an event that is neither a close nor a stop, once room is reserved
pub MayAppend-reserved : (old new : LogState) (who : ℕ) (event : EventKind) (seats : ℕ)
    → is_ending event ≡ false → new.limit ≡ old.limit → new.entries ≡ old.entries
    → weight_of (past_of old) + weight event ≤ old.limit → IsReserved new seats who event
    → MayAppend new who event seats
MayAppend-reserved old new who (Open peer) seats other limit entries fits reserved =
    (rw (limit, entries) fits, reserved)
MayAppend-reserved old new who (Request call) seats other limit entries fits reserved =
    (rw (limit, entries) fits, reserved)
MayAppend-reserved old new who Take seats other limit entries fits reserved =
    (rw (limit, entries) fits, reserved)
MayAppend-reserved old new who Close seats other limit entries fits reserved = tt
MayAppend-reserved old new who (Update point value) seats other limit entries fits reserved =
    (rw (limit, entries) fits, reserved)
MayAppend-reserved old new who (Table peer variant) seats other limit entries fits reserved =
    (rw (limit, entries) fits, reserved)
MayAppend-reserved old new who (Tick now) seats other limit entries fits reserved =
    (rw (limit, entries) fits, reserved)
MayAppend-reserved old new who (Ask asker slot) seats other limit entries fits reserved =
    (rw (limit, entries) fits, reserved)
MayAppend-reserved old new who (Tag device tag) seats other limit entries fits reserved =
    (rw (limit, entries) fits, reserved)
MayAppend-reserved old new who TakeOrders seats other limit entries fits reserved =
    (rw (limit, entries) fits, reserved)
MayAppend-reserved old new who Stop seats other limit entries fits reserved =
    absurd (true≢false other)
