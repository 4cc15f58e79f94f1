use Rattle.std.proofs.Common.{◌≡◌, ◌+◌, ◌≤◌, length, subst, arith}
use Rattle.std.proofs.lemmas.List.{length-append}
use Rattle.tpkt_cotp.specs.Streams.{stream_place}
use Rattle.stack_assoc.specs.Courses.{count_held}
use Rattle.tase_conn.specs.Talking.{Talking, pending_of}
use Rattle.tase_conn.proofs.conn.Conn.held.Goals as goal

pub returns-clause-count : goal.returns-clause-count
returns-clause-count c =
    let P : Talking → Type 0 = λ v.
    c.saturating_add.result ≡ stream_place (count_held v.course + length (pending_of v)) in
    subst P c.self.view_is (omega (
      arith,
      c.saturating_add.ensures,
      c.saturating_add-pending.ensures,
      c.len_of.ensures,
      c.len_of-2.ensures,
      c.held.ensures.count,
      length-append c.self.inside.out.items c.self.inside.farewell.items,
    ))

pub returns-clause-few : goal.returns-clause-few
returns-clause-few c =
    let P : Talking → Type 0 = λ v.
    c.saturating_add.result ≤ 196601 + length (pending_of v) in
    subst P c.self.view_is (omega (
      arith,
      c.saturating_add.ensures,
      c.saturating_add-pending.ensures,
      c.len_of.ensures,
      c.len_of-2.ensures,
      c.held.ensures.few,
      length-append c.self.inside.out.items c.self.inside.farewell.items,
    ))
