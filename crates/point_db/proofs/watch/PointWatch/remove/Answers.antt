use Rattle.std.proofs.Common.{rules, ◌≡◌, ◌<◌, ℕ, List, eqb, ap, arith, ◌∙◌, subst, sym}
use Rattle.std.specs.Prelude.{not, filter}
use Rattle.std.proofs.lemmas.Fn.{filter_same}
use Rattle.std.proofs.lemmas.List.Kept.{AllPairs-filter}
use Rattle.point_db.specs.WatchLists.{AreAscending, unwatched_by}
use Rattle.point_db.proofs.watch.PointWatch.remove.Goals as goal

kept : (c : goal.After-retain)
    → c.retain.new.self.items ≡ filter (λ x. not (eqb x c.args.slot)) c.self.inside.slots.items
kept c = filter_same _ (λ x. not (eqb x c.args.slot)) _ (λ x b f k. search rules) _ _
    c.retain.ensures.filtered

pub invariant_of-self : goal.invariant_of-self
invariant_of-self c = (
  subst AreAscending (sym (kept c)) (AllPairs-filter (λ x y. x < y)
      (λ x. not (eqb x c.args.slot)) c.self.inside.slots.items c.self.invariant.0),
  omega (arith, c.retain.ensures.bound, c.retain.ensures.capacity, c.self.invariant.1),
)

pub returns : goal.returns
returns c =
    ap (λ (slots : List ℕ). record { slots = slots; spare = c.self.inside.room }) (kept c)
    ∙ ap (unwatched_by c.args.slot) c.self.view_is
