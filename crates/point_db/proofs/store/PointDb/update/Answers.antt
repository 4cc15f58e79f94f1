use Rattle.std.proofs.Common.{◌∙◌, refl, sym}
use Rattle.point_db.proofs.Kept.{Keeps-put, Keeps-change}
use Rattle.point_db.proofs.store.PointDb.update.Goals as goal

pub returns-then-changes-clause-kept : goal.returns-then-changes-clause-kept
returns-then-changes-clause-kept c = λ kinds past keeps.
    Keeps-change kinds past c.args.point c.args.value c.args.self.now c.put.new.self
    c.requires.known
    (rw (← c.value.ensures kinds past keeps) (sym c.changes.ensures ∙ c.if-changes.true))
    (rw c.put.ensures (rw c.note.ensures refl)) keeps

pub returns-else-changes-clause-kept : goal.returns-else-changes-clause-kept
returns-else-changes-clause-kept c = λ kinds past keeps.
    Keeps-put kinds past c.args.point c.args.value c.args.self.now c.put-else-changes.new.self
    c.requires.known
    (rw (← c.value.ensures kinds past keeps) (sym c.changes.ensures ∙ c.if-changes.false))
    c.put-else-changes.ensures keeps
