use Rattle.std.proofs.Common.{◌≡◌, ◌+◌, ◌++◌, length, append_assoc, length-append, arith, refl}
use Rattle.std.specs.Prelude.{vec_len}
use Rattle.node_journal.proofs.LinesCut.{Rise-push, lines-push}
use Rattle.node_journal.proofs.pages.Pages.push_joined_reserved.Goals as goal
use Rattle.node_journal.proofs.pages.Pages.push_joined_reserved.Goals.{After-push_reserved}

text_is : (c : After-push_reserved) → c.extend_from_slice-2.new.self.items
    ≡ c.self.inside.text.items ++ (c.args.front.now ++ c.args.back.now)
text_is c =
    let first = rw c.unwrap.ensures at c.extend_from_slice.ensures.items in
    let second = rw c.unwrap-2.ensures at c.extend_from_slice-2.ensures.items in
    rw (second, first, append_assoc) refl

len_is : (c : After-push_reserved) → c.len.result
    ≡ length c.self.inside.text.items + length (c.args.front.now ++ c.args.back.now)
len_is c =
    let first = rw c.unwrap.ensures at c.extend_from_slice.ensures.len in
    let second = rw c.unwrap-2.ensures at c.extend_from_slice-2.ensures.len in
    omega (
      arith,
      first,
      second,
      c.len.ensures,
      c.self.inside.text.ok.0,
      length-append c.args.front.now c.args.back.now,
    )

pub invariant_of-self : goal.invariant_of-self
invariant_of-self c =
    let its = c.self.inside in
    rw (c.push_reserved.ensures.items, ← c.len.ensures)
    (Rise-push 0 its.ends.items (vec_len its.text) c.len.result c.self.invariant
    (omega (arith, len_is c, its.text.ok.0)))

pub returns-clause-lines : goal.returns-clause-lines
returns-clause-lines c =
    let its = c.self.inside in
    rw (← c.self.view_is, text_is c, c.push_reserved.ensures.items, len_is c)
    (lines-push 0 its.text.items its.ends.items (c.args.front.now ++ c.args.back.now)
    (rw (← its.text.ok.0) c.self.invariant))
