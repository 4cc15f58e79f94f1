use Rattle.std.proofs.Common.{◌≡◌, Some, None, rules}
use Rattle.texts.specs.Events.Assigned.{equals_in, IsAssignment, AreParts}
use Rattle.texts.proofs.OfEvents.Assigning.{read-as, parts-assigned, assigned-parts, no_equals}
use Rattle.texts.proofs.events.reading.names.read_assignment.Goals as goal

pub returns-in-Some-clause-found : goal.returns-in-Some-clause-found
returns-in-Some-clause-found c =
    let word = c.args.word.now in
    let parts = c.split_parts.result in
    let place : Some c.in-Some.place ≡ equals_in word = search rules in
    read-as c.read_parts.result (λ a. AreParts parts.0.now parts.1.now a.name a.value)
    (λ a. IsAssignment word a.name a.value)
    (λ a p. parts-assigned word parts.0.now parts.1.now c.in-Some.place a.name a.value place
    c.split_parts.ensures.before c.split_parts.ensures.after p) c.read_parts.ensures.found

pub returns-in-Some-clause-only : goal.returns-in-Some-clause-only
returns-in-Some-clause-only c name value a =
    let word = c.args.word.now in
    let parts = c.split_parts.result in
    let place : Some c.in-Some.place ≡ equals_in word = search rules in
    c.read_parts.ensures.only name value (assigned-parts word parts.0.now parts.1.now
    c.in-Some.place name value place c.split_parts.ensures.before c.split_parts.ensures.after a)

pub returns-in-None-clause-only : goal.returns-in-None-clause-only
returns-in-None-clause-only c name value a =
    let none : None ≡ equals_in c.args.word.now = search rules in
    absurd (no_equals c.args.word.now name value none a)
