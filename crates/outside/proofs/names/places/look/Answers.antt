use Rattle.std.proofs.Common.{◌∙◌, sym, ap}
use Rattle.outside.specs.Names.Places.{object_there}
use Rattle.outside.proofs.OfNames.NameEntries.{standing_found, standing_none, object_at_place}
use Rattle.outside.proofs.names.places.look.Goals as goal

pub returns-in_err-at : goal.returns-in_err-at
returns-in_err-at g c =
    let none = sym c.find.ensures ∙ c.in_err-at.was in
    rw c.from_residual.ensures (sym (ap object_there
    (standing_none c.args.name.now c.args.places.now none)))

pub returns : goal.returns
returns g c =
    let found = sym c.find.ensures ∙ c.in_ok-at.was in
    c.object.ensures ∙ sym (
    ap object_there (standing_found c.args.name.now c.args.places.now c.in_ok-at.at
    c.index-places-at.result found c.index-places-at.is)
    ∙ object_at_place c.index-places-at.result.1
    )
