use Rattle.std.proofs.Common.{◌≡◌, ◌++◌, subst}
use mathlib.Core.List.{IsPrefix}
use Rattle.share_turn.specs.Entries.{own}
use Rattle.share_turn.specs.Public.{added}
use Rattle.share_turn.proofs.Called.{own_called, seen_called}
use Rattle.share_turn.proofs.shared.Shared.call.Goals as goal

pub returns-clause-seen : goal.returns-clause-seen
returns-clause-seen g c = let came = c.run.ensures.one in
    subst (λ s. IsPrefix s.front c.run.new.place.me.0.front) c.seat.view_is
    (seen_called c.seat.inside.place.me.0.number c.seat.inside.place.me.0.front
    c.run.new.place.me.0.front came.0 c.args.event c.run.result came.1 came.3)

pub returns-clause-own : goal.returns-clause-own
returns-clause-own g c = let came = c.run.ensures.one in
    subst (λ s. own s.number c.run.new.place.me.0.front ≡ own s.number s.front ++ added c.run.result
    c.args.event) c.seat.view_is
    (own_called c.seat.inside.place.me.0.number c.seat.inside.place.me.0.front
    c.run.new.place.me.0.front came.0 c.args.event c.run.result came.1 came.3)
