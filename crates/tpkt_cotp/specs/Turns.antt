-- Which TPDU may come when (ISO 8073, class 0).
use Rattle.std.specs.Prelude.{ℕ, ◌+◌, Bool, true, false, Option, Some, None, ◌==◌, if◌then◌else◌}
use Rattle.tpkt_cotp.specs.declared.turn.Role.TheVariants as roles
use Rattle.tpkt_cotp.specs.declared.turn.Turn.{Turn}
use Rattle.tpkt_cotp.specs.declared.turn.Turn.TheVariants as turns
use Rattle.tpkt_cotp.specs.declared.turn.Kind.{Kind}
use Rattle.tpkt_cotp.specs.declared.turn.Kind.TheVariants as kinds

-- E0 CR, D0 CC, 80 DR, F0 DT
abbrev pub tpdu_kind_of : ℕ → Option Kind
tpdu_kind_of code = if code == 224 then Some kinds.Request else
    (if code == 208 then Some kinds.Confirm else
    (if code == 128 then Some kinds.Disconnect else
    (if code == 240 then Some kinds.Part else None)))

-- the called end takes one CR; the calling end one CC or DR; a reader of either end one CR or CC;
-- then come DTs and DRs
abbrev pub may_come : Turn → Kind → Bool
may_come (turns.Opening roles.Called) kinds.Request = true
may_come (turns.Opening roles.Calling) kinds.Confirm = true
may_come (turns.Opening roles.Calling) kinds.Disconnect = true
may_come (turns.Opening roles.Either) kinds.Request = true
may_come (turns.Opening roles.Either) kinds.Confirm = true
may_come turns.Transfer kinds.Disconnect = true
may_come turns.Transfer kinds.Part = true
may_come _ _ = false

-- in CR and CC the count ends at the end of the TPDU, in DR it is free, in DT it is 2
abbrev pub is_count : Kind → ℕ → ℕ → Bool
is_count kinds.Request size count = count + 5 == size
is_count kinds.Confirm size count = count + 5 == size
is_count kinds.Disconnect size count = true
is_count kinds.Part size count = count == 2
