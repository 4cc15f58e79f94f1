use Rattle.std.proofs.Common.{◌∙◌, sym, Some}
use Rattle.outside.proofs.OfNames.NameEntries.{puts_found, puts_nowhere, named_found, AllNamed-push}
use Rattle.outside.proofs.names.places.put.Goals as goal

pub returns-in-Some-clause-told : goal.returns-in-Some-clause-told
returns-in-Some-clause-told g c =
    let found = rw c.deref.ensures.value at (sym c.find.ensures ∙ c.in-Some.is) in
    puts_found c.args.name.now c.args.places.now.items c.in-Some.at c.index_mut.result.now
    c.put_back.new.self c.args.object found
    c.index_mut.ensures.value c.put_back.ensures

pub returns-in-Some-clause-named : goal.returns-in-Some-clause-named
returns-in-Some-clause-named g c =
    λ named bears. let found = rw c.deref.ensures.value at (sym c.find.ensures ∙ c.in-Some.is) in
    named_found c.args.name.now g.X.Named.name_of c.args.places.now.items c.in-Some.at
    c.index_mut.result.now c.put_back.new.self
    (Some c.args.object) found c.index_mut.ensures.value c.put_back.ensures bears named

pub returns-in_ok-push-in-None-clause-told : goal.returns-in_ok-push-in-None-clause-told
returns-in_ok-push-in-None-clause-told g c =
    let none = rw c.deref.ensures.value at (sym c.find.ensures ∙ c.in-None.is) in
    puts_nowhere c.args.name.now c.args.places.now.items c.push.new.self.items c.args.object none
    (rw c.in_ok-from_str-in-None.ensures.ok at c.in_ok-push-in-None.ensures.items)

pub returns-in_ok-push-in-None-clause-named : goal.returns-in_ok-push-in-None-clause-named
returns-in_ok-push-in-None-clause-named g c =
    λ named bears. rw (rw c.in_ok-from_str-in-None.ensures.ok at c.in_ok-push-in-None.ensures.items)
    (AllNamed-push c.args.name.now g.X.Named.name_of c.args.places.now.items c.args.object named
    bears)
