use Rattle.std.proofs.Common.{◌∙◌, ◌+◌, ◌≤◌, vec_len, vec_capacity, arith}
use Rattle.std.specs.Arc.{arc_value}
use Rattle.tase_conn.proofs.Placing.{started}
use Rattle.tase_conn.proofs.conn.Conn.new.Goals as goal

pub returns-clause-start : goal.returns-clause-start
returns-clause-start c =
    let room : vec_len c.reserve.new.self + 64 ≤ vec_capacity c.reserve.new.self =
    omega (arith, c.in_ok-reserve.ensures.ok, c.in_ok-reserve.ensures.len) in
    started (arc_value c.args.centre) c.in_ok-stack.stack c.new.result.items c.reserve.new.self
    c.in_ok-stack.ensures.0 c.in_ok-stack.ensures.1 c.in_ok-stack.ensures.2 room
    (c.in_ok-reserve.ensures.items ∙ c.new-farewell.ensures.items)
