use Rattle.std.proofs.Common.{◌∙◌, sym, ap, None}
use Rattle.outside.specs.Names.Places.{object_there}
use Rattle.outside.proofs.OfNames.NameEntries.{lends_found, lends_nothing, named_found, named_at, standing_found, standing_none, object_at_place}
use Rattle.outside.proofs.names.places.open.Goals as goal

pub returns-in_err-at-clause-object : goal.returns-in_err-at-clause-object
returns-in_err-at-clause-object g c =
    let none = rw c.deref.ensures.value at (sym c.find.ensures ∙ c.in_err-at.was) in
    c.from_residual.ensures ∙ sym (ap object_there
    (standing_none c.args.name.now c.args.places.now.items none))

pub returns-in_err-at-clause-lent : goal.returns-in_err-at-clause-lent
returns-in_err-at-clause-lent g c =
    let none = rw c.deref.ensures.value at (sym c.find.ensures ∙ c.in_err-at.was) in
    lends_nothing c.args.name.now c.args.places.now.items none

pub returns-clause-object : goal.returns-clause-object
returns-clause-object g c =
    let found = rw c.deref.ensures.value at (sym c.find.ensures ∙ c.in_ok-at.was) in
    c.hand_out.ensures.object ∙ sym (
    ap object_there (standing_found c.args.name.now c.args.places.now.items c.in_ok-at.at
    c.index_mut.result.now found c.index_mut.ensures.value)
    ∙ object_at_place c.index_mut.result.now.1
    )

pub returns-clause-lent : goal.returns-clause-lent
returns-clause-lent g c =
    let found = rw c.deref.ensures.value at (sym c.find.ensures ∙ c.in_ok-at.was) in
    lends_found c.args.name.now c.args.places.now.items c.in_ok-at.at c.index_mut.result.now
    c.hand_out.new.self found
    c.index_mut.ensures.value c.hand_out.ensures.empty

pub returns-clause-named : goal.returns-clause-named
returns-clause-named g c =
    let found = rw c.deref.ensures.value at (sym c.find.ensures ∙ c.in_ok-at.was) in
    named_found c.args.name.now g.X.Named.name_of c.args.places.now.items c.in_ok-at.at
    c.index_mut.result.now c.hand_out.new.self None
    found c.index_mut.ensures.value c.hand_out.ensures.empty tt

pub returns-clause-name : goal.returns-clause-name
returns-clause-name g c =
    λ named. let h = named_at c.args.name.now g.X.Named.name_of c.args.places.now.items named in
    rw (returns-clause-object g c) h
