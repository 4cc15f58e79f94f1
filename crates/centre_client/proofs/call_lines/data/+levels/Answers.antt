-- Values with members, and the loop over members.
use Rattle.std.proofs.Common.{arith}
use Rattle.centre_client.proofs.MembersSized.{none_any, no_levels, structure-sized, structure-none}
use Rattle.centre_client.proofs.MembersSized.{array-sized, array-none, members-closed}
use Rattle.centre_client.proofs.MembersSized.{so_sized-none, so_sized-more, so_sized-end}
use Rattle.centre_client.proofs.MembersSized.{so_sized-unread, so_sized-broken, so_sized-over}
use Rattle.centre_client.proofs.call_lines.data.+levels.Goals as goal

pub datum_at-returns-then-levels-eq0-clause-none
    : goal.datum_at-returns-then-levels-eq0-clause-none
datum_at-returns-then-levels-eq0-clause-none t c =
    no_levels c.args.levels c.args.text.now c.if-levels-eq0.true

pub datum_at-returns-in_err-len-clause-none : goal.datum_at-returns-in_err-len-clause-none
datum_at-returns-in_err-len-clause-none t c =
    none_any c.from_residual.result
    (structure-none c.args.levels c.args.text.now c.in-Some.inner.now c.in-Some.ensures.some
    c.in_err-len.ensures.none)

pub datum_at-returns-in-Some-clause-some : goal.datum_at-returns-in-Some-clause-some
datum_at-returns-in-Some-clause-some t c =
    structure-sized c.args.levels c.args.text.now c.in-Some.inner.now c.in_ok-len.rest.now
    c.in_ok-len.len c.part_len.result (λ e. omega (arith, e)) c.in-Some.ensures.some
    c.in_ok-len.ensures.some c.part_len.ensures

pub datum_at-returns-in_err-len-2-clause-none : goal.datum_at-returns-in_err-len-2-clause-none
datum_at-returns-in_err-len-2-clause-none t c =
    none_any c.from_residual-in_err-len-2.result
    (array-none c.args.levels c.args.text.now c.in-Some-behind.inner.now
    c.in-Some-behind.ensures.some c.in_err-len-2.ensures.none)

pub datum_at-returns-in-Some-behind-clause-some : goal.datum_at-returns-in-Some-behind-clause-some
datum_at-returns-in-Some-behind-clause-some t c =
    array-sized c.args.levels c.args.text.now c.in-Some-behind.inner.now c.in_ok-len-2.rest.now
    c.in_ok-len-2.len c.part_len-in-Some-behind.result (λ e. omega (arith, e))
    c.in-Some-behind.ensures.some c.in_ok-len-2.ensures.some c.part_len-in-Some-behind.ensures

pub members_at-returns-in-Some-clause-some : goal.members_at-returns-in-Some-clause-some
members_at-returns-in-Some-clause-some t c =
    members-closed c.args.levels c.args.close c.args.text.now c.in-Some.rest.now
    c.in-Some.ensures.some

pub members_at-loop-turn-init : goal.members_at-loop-turn-init
members_at-loop-turn-init t c =
    so_sized-none c.args.levels c.args.close c.args.text.now c.in_default.ensures.none

pub members_at-returns-in_err-member-clause-none
    : goal.members_at-returns-in_err-member-clause-none
members_at-returns-in_err-member-clause-none t c =
    none_any c.from_residual.result
    (so_sized-unread c.args.levels c.args.close c.args.text.now c.loop-turn.turn c.loop-turn.len
    c.loop-turn.rest.now c.loop-turn.invariant (omega arith) c.in_err-member.ensures.none)

pub members_at-returns-in-Some-behind-clause-some
    : goal.members_at-returns-in-Some-behind-clause-some
members_at-returns-in-Some-behind-clause-some t c =
    so_sized-end c.args.levels c.args.close c.args.text.now c.loop-turn.turn c.loop-turn.len
    c.add_len-len.result c.in_ok-member.member c.loop-turn.rest.now c.in_ok-member.after.now
    c.in-Some-behind.end.now c.loop-turn.invariant (omega arith) c.in_ok-member.ensures.some
    c.in-Some-behind.ensures.some c.add_len-len.ensures

pub members_at-returns-in_err-rest-clause-none : goal.members_at-returns-in_err-rest-clause-none
members_at-returns-in_err-rest-clause-none t c =
    none_any c.from_residual-in_err-rest.result
    (so_sized-broken c.args.levels c.args.close c.args.text.now c.loop-turn.turn c.loop-turn.len
    c.in_ok-member.member c.loop-turn.rest.now c.in_ok-member.after.now c.loop-turn.invariant
    (omega arith) c.in_ok-member.ensures.some c.in_default-behind.ensures.none
    c.in_err-rest.ensures.none)

pub members_at-loop-turn-preserved : goal.members_at-loop-turn-preserved
members_at-loop-turn-preserved t c =
    so_sized-more c.args.levels c.args.close c.args.text.now c.loop-turn.turn c.loop-turn.len
    c.add_len-len.result c.in_ok-member.member c.loop-turn.rest.now c.in_ok-member.after.now _
    c.loop-turn.invariant (omega arith) c.in_ok-member.ensures.some
    c.in_default-behind.ensures.none c.in_ok-rest.ensures.some c.add_len-len.ensures

pub members_at-returns-clause-none : goal.members_at-returns-clause-none
members_at-returns-clause-none t c =
    so_sized-over c.args.levels c.args.close c.args.text.now c.loop-turn.turn c.loop-turn.len
    c.loop-turn.rest.now c.loop-turn.invariant (omega arith)
