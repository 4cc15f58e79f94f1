-- The ordinal of an association is at most the count of the entries before it.
use Rattle.std.proofs.Common.{ℕ, suc, ◌==◌, ◌≤◌, if◌then◌else◌, Bool, true, false, [], ◌∷◌}
use Rattle.std.proofs.Common.{length, Option, Some, None, arith}
use Rattle.sbo_device.specs.declared.key.Key.{Key}
use Rattle.tase_views.specs.declared.event.EventKind.{EventKind}
use Rattle.tase_views.specs.Moves.{EventSort, sort_of, opening, requesting, taking, closing}
use Rattle.tase_views.specs.Moves.{taking_orders, feeding}
use Rattle.tase_views.specs.History.{Past, counts_opening, opens_in, association_by}
use Rattle.tase_views.specs.History.{association_in, key_by, key_at}

either_one : (b : Bool) → (if b then 1 else 0) ≤ 1
either_one true = omega arith
either_one false = omega arith

counts_one : (sort : EventSort) (peer : ℕ) → counts_opening sort peer ≤ 1
counts_one (opening opener) peer = either_one (opener == peer)
counts_one (requesting call) peer = omega arith
counts_one taking peer = omega arith
counts_one closing peer = omega arith
counts_one taking_orders peer = omega arith
counts_one (feeding move) peer = omega arith

opens_within : (past : Past) (peer : ℕ) → opens_in past peer ≤ length past
opens_within [] peer = omega arith
opens_within (entry ∷ past) peer =
    omega (arith, counts_one (sort_of entry.event) peer, opens_within past peer)

-- the ordinal of an association, if there is one, is at most this number
abbrev pub IsWithin : ℕ → Option Key → Type 0
IsWithin n None = Unit {0}
IsWithin n (Some key) = key.ordinal ≤ n

more_within : (n : ℕ) (key : Option Key) → IsWithin n key → IsWithin (suc n) key
more_within n None h = tt
more_within n (Some key) h = omega (arith, h)

by_within : (sort : EventSort) (past : Past) (before : Option Key)
    → IsWithin (length past) before
    → IsWithin (suc (length past)) (association_by sort past before)
by_within (opening peer) past before h = omega (arith, opens_within past peer)
by_within (requesting call) past before h = more_within (length past) before h
by_within taking past before h = more_within (length past) before h
by_within closing past before h = tt
by_within taking_orders past before h = more_within (length past) before h
by_within (feeding move) past before h = more_within (length past) before h

chosen_within : (n : ℕ) (b : Bool) (one other : Option Key) → IsWithin n one → IsWithin n other
    → IsWithin n (if b then one else other)
chosen_within n true one other h k = h
chosen_within n false one other h k = k

association_within : (past : Past) (who : ℕ) → IsWithin (length past) (association_in past who)
association_within [] who = tt
association_within (entry ∷ past) who =
    let before = association_within past who in
    chosen_within (suc (length past)) (entry.who == who)
    (association_by (sort_of entry.event) past (association_in past who))
    (association_in past who)
    (by_within (sort_of entry.event) past (association_in past who) before)
    (more_within (length past) (association_in past who) before)

key_by-within : (sort : EventSort) (past : Past) (before : Option Key)
    → IsWithin (length past) before → IsWithin (length past) (key_by sort past before)
key_by-within (opening peer) past before h = opens_within past peer
key_by-within (requesting call) past before h = h
key_by-within taking past before h = h
key_by-within closing past before h = h
key_by-within taking_orders past before h = h
key_by-within (feeding move) past before h = h

pub key_within : (event : EventKind) (past : Past) (who : ℕ)
    → IsWithin (length past) (key_at event past who)
key_within event past who =
    key_by-within (sort_of event) past (association_in past who) (association_within past who)
