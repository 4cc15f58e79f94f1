use Rattle.std.proofs.Common.{◌≡◌, ◌<◌, ◌≤◌, ◌∷◌, length, get_or, sym, arith}
use Rattle.std.specs.Prelude.{vec_len}
use Rattle.std.proofs.lemmas.Option.{slice_get_past}
use Rattle.node_journal.specs.LineText.{lines_from}
use Rattle.node_journal.proofs.LinesCut.{length-lines, lines_at, Rise-at}
use Rattle.node_journal.proofs.pages.Pages.line.Goals as goal
use Rattle.node_journal.proofs.pages.Pages.line.Goals.{After-index-end}

pub returns-then-len-place : goal.returns-then-len-place
returns-then-len-place c =
    let its = c.self.inside in
    rw (← c.self.view_is)
    (sym (slice_get_past (lines_from 0 its.text.items its.ends.items) c.args.place
    (omega (
      arith,
      length-lines 0 its.text.items its.ends.items,
      its.ends.ok,
      c.len.ensures,
      c.if-len-place.true,
    ))))

-- what is known of where the line starts and ends
its_place : (c : After-index-end) → (c.args.place < length c.self.inside.ends.items)
    × (c.start_at-start.result ≡ get_or (0 ∷ c.self.inside.ends.items) c.args.place 0)
its_place c = (
  omega (arith, c.if-len-place.false, c.len.ensures, c.self.inside.ends.ok),
  rw (← c.as_slice.ensures.value) c.start_at-start.ensures,
)

its_span : (c : After-index-end) → (c.start_at-start.result ≤ c.index-end.result.now)
    × (c.index-end.result.now ≤ vec_len c.self.inside.text)
its_span c =
    Rise-at 0 c.self.inside.ends.items _ c.args.place _ _ c.self.invariant (its_place c).0
    (its_place c).1 c.index-end.ensures

pub part-requires-clause-first : goal.part-requires-clause-first
part-requires-clause-first c = (its_span (goal.at.part-requires-clause-first c).After-index-end).0

pub part-requires-clause-within : goal.part-requires-clause-within
part-requires-clause-within c =
    omega (
      arith,
      (its_span (goal.at.part-requires-clause-within c).After-index-end).1,
      c.as_slice-2.ensures.len,
    )

pub returns : goal.returns
returns c =
    let its = c.self.inside in
    let place = its_place (goal.at.returns c).After-index-end in
    rw (← c.self.view_is, c.part.ensures, c.as_slice-2.ensures.value)
    (sym (lines_at 0 its.text.items its.ends.items c.args.place _ _ place.0 place.1
    c.index-end.ensures))
