use Rattle.std.proofs.Common.{◌∙◌, sym, refl, Some}
use Rattle.outside.proofs.OfNames.NameEntries.{closes_found, closes_nowhere, named_found}
use Rattle.outside.proofs.names.places.close.Goals as goal

pub returns-in-Some-clause-closes : goal.returns-in-Some-clause-closes
returns-in-Some-clause-closes g c =
    let found = rw (c.deref.ensures.value, c.place_name.ensures) at (sym c.find.ensures ∙ c.in-Some.is) in
    closes_found (g.X.Named.name_of c.args.object) c.args.places.now.items c.in-Some.at
    c.index_mut.result.now c.put_back.new.self
    c.args.object found c.index_mut.ensures.value c.put_back.ensures

pub returns-in-Some-clause-named : goal.returns-in-Some-clause-named
returns-in-Some-clause-named g c =
    let found = rw (c.deref.ensures.value, c.place_name.ensures) at (sym c.find.ensures ∙ c.in-Some.is) in
    named_found (g.X.Named.name_of c.args.object) g.X.Named.name_of c.args.places.now.items
    c.in-Some.at c.index_mut.result.now
    c.put_back.new.self (Some c.args.object) found c.index_mut.ensures.value c.put_back.ensures refl

pub returns-in_default-clause-closes : goal.returns-in_default-clause-closes
returns-in_default-clause-closes g c =
    let none = rw (c.deref.ensures.value, c.place_name.ensures) at
    (sym c.find.ensures ∙ c.in_default.is) in
    closes_nowhere (g.X.Named.name_of c.args.object) c.args.places.now.items c.args.object none
