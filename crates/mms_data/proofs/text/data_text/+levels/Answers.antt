-- The error exits, and the loop over members.
use Rattle.std.proofs.Common.{◌<◌, ◌≤◌, ◌-◌, length, refl, arith}
use Rattle.std.proofs.lemmas.Result.{err_from_is_err_and}
use Rattle.mms_data.specs.Text.TextRead.{BreaksDatum, BreaksMembers}
use Rattle.mms_data.proofs.OfText.TextLevels.{halts_as, inside_brace, inside_bracket, so_far-none}
use Rattle.mms_data.proofs.OfText.TextLevels.{so_far-breaks, so_far-within, so_far-end, so_far-more}
use Rattle.mms_data.proofs.OfText.TextLevels.{so_far-behind, within_push, begins-within, begins-shorter}
use Rattle.mms_data.proofs.OfText.TextBreaks.{no_levels}
use Rattle.mms_data.proofs.text.data_text.+levels.Goals as goal

pub datum_at-returns-in_err-members-clause-fault : goal.datum_at-returns-in_err-members-clause-fault
datum_at-returns-in_err-members-clause-fault t c =
    let p = err_from_is_err_and c.from_residual.result c.from_residual.ensures.1 in
    let n = c.args.levels in
    let some : 0 < n = omega arith in
    rw (p.1, p.2) (halts_as c.in_err-members.field-0.0
    (λ left. BreaksMembers (n - 1) 125 c.in-Some.inner.now left)
    (λ left. BreaksDatum n c.args.text.now left)
    (inside_brace n (n - 1) c.args.text.now c.in-Some.inner.now some refl c.in-Some.ensures.some)
    c.in_err-members.ensures.fault)

pub datum_at-returns-in_err-members-2-clause-fault
    : goal.datum_at-returns-in_err-members-2-clause-fault
datum_at-returns-in_err-members-2-clause-fault t c =
    let p = err_from_is_err_and c.from_residual-in_err-members-2.result
    c.from_residual-in_err-members-2.ensures.1 in
    let n = c.args.levels in
    let some : 0 < n = omega arith in
    let inner = c.in-Some-behind.inner.now in
    rw (p.1, p.2) (halts_as c.in_err-members-2.field-0.0
    (λ left. BreaksMembers (n - 1) 93 inner left)
    (λ left. BreaksDatum n c.args.text.now left)
    (inside_bracket n (n - 1) c.args.text.now inner some refl c.in-Some-behind.ensures.some)
    c.in_err-members-2.ensures.fault)

pub members_at-loop-members-init : goal.members_at-loop-members-init
members_at-loop-members-init t c =
    so_far-none c.args.levels c.args.close c.args.text.now c.new-members.result
    c.new-members.ensures c.in_default.ensures.none

pub members_at-returns-in_err-member-clause-fault
    : goal.members_at-returns-in_err-member-clause-fault
members_at-returns-in_err-member-clause-fault t c =
    let p = err_from_is_err_and c.from_residual.result c.from_residual.ensures.1 in
    let n = c.args.levels in
    let rest = c.loop-members.rest.now in
    rw (p.1, p.2) (halts_as c.in_err-member.field-0.0
    (λ left. BreaksDatum n rest left)
    (λ left. BreaksMembers n c.args.close c.args.text.now left)
    (so_far-breaks n c.args.close c.args.text.now c.loop-members.members rest c.requires
    c.loop-members.invariant)
    c.in_err-member.ensures.fault)

pub members_at-returns-in_err-member-clause-within
    : goal.members_at-returns-in_err-member-clause-within
members_at-returns-in_err-member-clause-within t c =
    let p = err_from_is_err_and c.from_residual.result c.from_residual.ensures.1 in
    let rest = c.loop-members.rest.now in
    rw (p.1, p.2) (halts_as c.in_err-member.field-0.0
    (λ left. left ≤ length rest)
    (λ left. left ≤ length c.args.text.now)
    (so_far-within c.args.levels c.args.close c.args.text.now c.loop-members.members rest
    c.loop-members.invariant)
    c.in_err-member.ensures.within)

pub members_at-returns-in-Some-behind-clause-found
    : goal.members_at-returns-in-Some-behind-clause-found
members_at-returns-in-Some-behind-clause-found t c =
    rw c.in_ok-push.ensures.ok
    (so_far-end c.args.levels c.args.close c.args.text.now c.loop-members.members
    c.loop-members.rest.now c.in_ok-member.member c.in_ok-member.after.now
    c.in-Some-behind.end.now c.loop-members.invariant c.in_ok-member.ensures.found
    c.in-Some-behind.ensures.some)

pub members_at-returns-in-Some-behind-clause-lawful
    : goal.members_at-returns-in-Some-behind-clause-lawful
members_at-returns-in-Some-behind-clause-lawful t c =
    rw c.in_ok-push.ensures.ok
    (within_push c.args.levels c.loop-members.members c.in_ok-member.member
    c.loop-members.invariant.lawful c.in_ok-member.ensures.found.lawful)

pub members_at-returns-in_default-behind-2-clause-fault
    : goal.members_at-returns-in_default-behind-2-clause-fault
members_at-returns-in_default-behind-2-clause-fault t c =
    so_far-behind c.args.levels c.args.close c.args.text.now c.loop-members.members
    c.loop-members.rest.now c.in_ok-member.member c.in_ok-member.after.now c.requires
    c.loop-members.invariant c.in_ok-member.ensures.found c.in_default-behind.ensures.none
    c.in_default-behind-2.ensures.none

pub members_at-returns-in_default-behind-2-clause-within
    : goal.members_at-returns-in_default-behind-2-clause-within
members_at-returns-in_default-behind-2-clause-within t c =
    let less = begins-within c.args.levels c.loop-members.rest.now c.in_ok-member.member
    c.in_ok-member.after.now c.in_ok-member.ensures.found in
    so_far-within c.args.levels c.args.close c.args.text.now c.loop-members.members
    c.loop-members.rest.now c.loop-members.invariant _ less

pub members_at-loop-members-smaller : goal.members_at-loop-members-smaller
members_at-loop-members-smaller t c =
    begins-shorter c.args.levels c.loop-members.rest.now c.in_ok-member.member
    c.in_ok-member.after.now c.in-Some-behind-2.more.now c.in_ok-member.ensures.found
    c.in-Some-behind-2.ensures.some

pub members_at-loop-members-preserved : goal.members_at-loop-members-preserved
members_at-loop-members-preserved t c =
    rw c.in_ok-push.ensures.ok
    (so_far-more c.args.levels c.args.close c.args.text.now c.loop-members.members
    c.loop-members.rest.now c.in_ok-member.member c.in_ok-member.after.now
    c.in-Some-behind-2.more.now c.loop-members.invariant c.in_ok-member.ensures.found
    c.in-Some-behind-2.ensures.some)

pub datum_at-returns-then-levels-eq0-clause-fault
    : goal.datum_at-returns-then-levels-eq0-clause-fault
datum_at-returns-then-levels-eq0-clause-fault t c =
    no_levels c.args.levels c.args.text.now c.if-levels-eq0.true
