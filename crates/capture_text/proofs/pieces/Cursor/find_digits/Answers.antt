use Rattle.std.proofs.Common.{◌≡◌, length, sym, ◌∙◌, rules}
use Rattle.capture_text.proofs.Walking.{empty_left}
use Rattle.capture_text.proofs.pieces.Cursor.find_digits.Goals as goal

pub returns-in-None-clause-none : goal.returns-in-None-clause-none
returns-in-None-clause-none c =
    let none : length c.args.self.now.digits.now ≡ 0 = search rules in
    empty_left c.args.self.now.digits.now c.args.self.now.rest.now none ∙ c.in-None.ensures.none

pub returns-in-Some-clause-octets : goal.returns-in-Some-clause-octets
returns-in-Some-clause-octets c =
    let none : length c.args.self.now.digits.now ≡ 0 = search rules in
    sym c.in-Some.ensures.octets
    ∙ sym (empty_left c.args.self.now.digits.now c.args.self.now.rest.now none)
