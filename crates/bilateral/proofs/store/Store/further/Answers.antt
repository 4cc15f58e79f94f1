use Rattle.std.proofs.Common.{◌≤◌, ◌-◌, rules, arith}
use Rattle.bilateral.proofs.Stores.{peer_below, some_vec, few_vec, further_count}
use Rattle.bilateral.proofs.store.Store.further.Goals as goal

pub overflow_sub-result : goal.overflow_sub-result
overflow_sub-result c =
    let v = c.index.result.now in
    omega (
      arith,
      c.len.ensures,
      v.ok.0,
      some_vec c.args.self.now c.requires.store c.args.peer (peer_below c.args.self.now c.args.peer c.requires.peer) v c.index.ensures,
    )

pub overflow_cast-result : goal.overflow_cast-result
overflow_cast-result c =
    let v = c.index.result.now in
    let few : c.len.result - 1 ≤ 16 =
    omega (
      arith,
      c.len.ensures,
      v.ok.0,
      few_vec c.args.self.now c.requires.store c.args.peer (peer_below c.args.self.now c.args.peer c.requires.peer) v c.index.ensures,
    ) in
    search rules

pub returns : goal.returns
returns c =
    let v = c.index.result.now in
    omega (
      arith,
      c.len.ensures,
      v.ok.0,
      further_count c.args.self.now c.requires.store c.args.peer (peer_below c.args.self.now c.args.peer c.requires.peer) v c.index.ensures,
    )
