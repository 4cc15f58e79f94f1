use Rattle.std.proofs.Common.{◌≡◌, ◌==◌, position, Some, None, rules}
use Rattle.texts.proofs.OfReports.OutcomeRead.{parted, no_equals}
use Rattle.texts.proofs.reports.reading.outcomes.read_told.Goals as goal

pub returns-in-Some-clause-only : goal.returns-in-Some-clause-only
returns-in-Some-clause-only c told is same =
    let word = c.args.word.now in
    let parts = c.split_parts.result in
    let place : Some c.in-Some.place ≡ position (λ octet. octet == 61) word = search rules in
    let p = parted word parts.0.now parts.1.now c.in-Some.place told place
    c.split_parts.ensures.before c.split_parts.ensures.after is same in
    c.read_parts.ensures.only told is p.0 p.1

pub returns-in-None-clause-only : goal.returns-in-None-clause-only
returns-in-None-clause-only c told is same =
    let word = c.args.word.now in
    let none : None ≡ position (λ octet. octet == 61) word = search rules in
    absurd (no_equals word told none is same)
