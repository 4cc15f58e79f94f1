use Rattle.std.proofs.Common.{◌≡◌, ◌∙◌, List, ℕ, ap, get_or, arith}
use Rattle.std.proofs.lemmas.Bool.{ltb-true, lt-ltb}
use Rattle.std.proofs.lemmas.Option.{get_or_from_slice_get}
use Rattle.point_db.specs.Stored.{Stored, last_serial}
use Rattle.point_db.proofs.Serials.{changed-from, changed-last}
use Rattle.point_db.proofs.store.PointDb.changed_since.Goals as goal

pub returns : goal.returns
returns c = λ kinds past keeps.
    let inside : c.self.inside.changed.items ≡ c.args.self.now.changed =
    ap (λ (s : Stored). s.changed) c.self.view_is in
    let there : c.index.result.now ≡ last_serial kinds past c.args.point = c.index.ensures
    ∙ ap (λ (xs : List ℕ). get_or xs c.args.point c.index.result.now) inside
    ∙ get_or_from_slice_get c.args.self.now.changed c.args.point
    (last_serial kinds past c.args.point) c.index.result.now
    (keeps.changed c.args.point (omega (arith, keeps.points, c.requires.known))) in (
      λ above. changed-from kinds past c.args.point c.args.serial (rw there at (ltb-true c.args.serial c.index.result.now above)),
      λ has. lt-ltb c.args.serial c.index.result.now (rw there (changed-last kinds past c.args.point c.args.serial has)),
    )
