use Rattle.std.proofs.Common.{◌≡◌, ℕ, ◌+◌, ◌-◌, drop, length, sym, ap, ◌∙◌, arith}
use Rattle.std.proofs.lemmas.Result.{err_from_is_err_and}
use Rattle.ber_values.specs.Extents.{is_element}
use Rattle.ber_values.specs.Heads.{element_by, extent_within}
use Rattle.ber_values.proofs.Passed.{passed-begin, passed-more, passed-fails, passed-ends}
use Rattle.ber_values.proofs.Closing.{element-read, element-fails, head-later, closed-fails}
use Rattle.ber_values.proofs.Closing.{closed-open, closed-read, extent-definite}
use Rattle.ber_values.proofs.Closing.{extent-none, extent-closed}
use Rattle.ber_values.proofs.extent.+extents.Goals as goal
use Rattle.ber_values.proofs.extent.+extents.Goals.{read_extent-else-room-gt0-via-else-room-gt0}
use Rattle.ber_values.proofs.extent.+extents.Goals.{read_extent-else-room-gt0-via-then-room-gt0+else-is_indefinite}

pub pass_elements-loop-rest-init : goal.pass_elements-loop-rest-init
pass_elements-loop-rest-init t c =
    passed-begin (element_by (extent_within c.args.room)) is_element c.args.at c.args.octets.now
    c.requires

pub pass_elements-returns-in_err-head-clause-exact :
    goal.pass_elements-returns-in_err-head-clause-exact
pass_elements-returns-in_err-head-clause-exact t c =
    let p = err_from_is_err_and c.from_residual.result c.from_residual.ensures.1 in
    let extents = extent_within c.args.room in
    let at = c.loop-rest.place in
    let octets = c.loop-rest.rest.now in
    rw (p.1, p.2) (passed-fails (element_by extents) is_element c.args.at c.args.octets.now at octets
    c.in_err-head.field-0.0 (sym c.begins_element.ensures ∙ c.loop-rest-test.true)
    (element-fails extents at octets c.in_err-head.field-0.0 c.in_err-head.ensures.exact)
    c.loop-rest.invariant)

pub pass_elements-loop-rest-preserved : goal.pass_elements-loop-rest-preserved
pass_elements-loop-rest-preserved t c =
    let extents = extent_within c.args.room in
    let at = c.loop-rest.place in
    let octets = c.loop-rest.rest.now in
    let head = c.in_ok-head.head in
    let within = c.in_ok-head.ensures.within in
    rw c.octets_from-rest.ensures (passed-more (element_by extents) is_element c.args.at
    c.args.octets.now at octets head.next
    (sym c.begins_element.ensures ∙ c.loop-rest-test.true)
    (element-read extents at octets head c.in_ok-head.ensures.exact)
    (head-later at (at + length octets) head within) within.stop c.loop-rest.invariant)

pub pass_elements-returns-clause-exact : goal.pass_elements-returns-clause-exact
pass_elements-returns-clause-exact t c =
    passed-ends (element_by (extent_within c.args.room)) is_element c.args.at c.args.octets.now
    c.loop-rest.place c.loop-rest.rest.now (sym c.begins_element.ensures ∙ c.loop-rest-test.false)
    c.loop-rest.invariant

pub read_closed-returns-in_err-end-clause-exact : goal.read_closed-returns-in_err-end-clause-exact
read_closed-returns-in_err-end-clause-exact t c =
    let p = err_from_is_err_and c.from_residual.result c.from_residual.ensures.1 in
    rw (p.1, p.2) (closed-fails (element_by (extent_within c.args.room)) c.args.at
    c.args.octets.now c.in_err-end.field-0.0 c.in_err-end.ensures.exact)

pub read_closed-returns-in_err-rest-clause-exact :
    goal.read_closed-returns-in_err-rest-clause-exact
read_closed-returns-in_err-rest-clause-exact t c =
    let p = err_from_is_err_and c.from_residual-in_err-rest.result
    c.from_residual-in_err-rest.ensures.1 in
    let octets = c.args.octets.now in
    let end = c.in_ok-end.end in
    rw (p.1, p.2) (closed-open (element_by (extent_within c.args.room)) c.args.at octets end
    (drop (end - c.args.at) octets) c.in_err-rest.field-0.0 c.in_ok-end.ensures.exact
    (rw (← c.split_at.ensures.back) c.in_err-rest.ensures.exact))

pub read_closed-returns-clause-exact : goal.read_closed-returns-clause-exact
read_closed-returns-clause-exact t c =
    let octets = c.args.octets.now in
    let end = c.in_ok-end.end in
    rw c.split_at.ensures.front (closed-read (element_by (extent_within c.args.room)) c.args.at
    octets end (drop (end - c.args.at) octets) (end + 2) c.in_ok-rest.rest.now
    c.in_ok-end.ensures.exact (rw (← c.split_at.ensures.back) c.in_ok-rest.ensures.exact))

pub read_extent-returns-then-is_indefinite-clause-exact :
    goal.read_extent-returns-then-is_indefinite-clause-exact
read_extent-returns-then-is_indefinite-clause-exact t c =
    let is = sym c.is_indefinite.ensures ∙ c.if-is_indefinite.true in
    let one : c.args.at + 1 - c.args.at ≡ 1 = omega arith in
    let rest = c.octets_from.ensures ∙ ap (λ (n : ℕ). drop n c.args.octets.now) one in
    rw (
      extent-closed c.args.room c.args.constructed c.args.at c.args.octets.now
          (omega (arith, c.if-room-gt0.true)) is,
      ← rest,
    ) c.read_closed.ensures.exact

pub read_extent-returns-else-room-gt0-clause-exact :
    goal.read_extent-returns-else-room-gt0-clause-exact
read_extent-returns-else-room-gt0-clause-exact t c = elim c.else-room-gt0.branch [
  | read_extent-else-room-gt0-via-then-room-gt0+else-is_indefinite w ↦ rw
      (extent-definite c.args.room c.args.constructed c.args.at c.args.octets.now
      (sym w.is_indefinite.ensures ∙ w.if-is_indefinite.false)) c.read_definite.ensures.exact
  | read_extent-else-room-gt0-via-else-room-gt0 w ↦ rw
      (extent-none c.args.room c.args.constructed c.args.at c.args.octets.now
      (omega (arith, w.if-room-gt0.false))) c.read_definite.ensures.exact
]
