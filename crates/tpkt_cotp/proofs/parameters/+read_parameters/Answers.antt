use Rattle.std.proofs.Common.{◌+◌, ◌-◌, ◌≤◌, ℕ, List, length, sym, subst, arith}
use Rattle.tpkt_cotp.specs.declared.tpdu.Parameters.{Parameters}
use Rattle.tpkt_cotp.specs.Found.{parameters_of}
use Rattle.tpkt_cotp.specs.Readings.{Read, GivesReading, TakenParameter, parameters_in}
use Rattle.tpkt_cotp.proofs.Passing.{behind, parameters_in-done, parameters_in-cut}
use Rattle.tpkt_cotp.proofs.Passing.{parameters_in-some, parameters_in-none, parameters_in-err}
use Rattle.tpkt_cotp.proofs.parameters.+read_parameters.Goals as goal

pub returns-then-room-eq0 : goal.returns-then-room-eq0
returns-then-room-eq0 t c = parameters_in-done _ _ _ _ c.if-room-eq0.true

pub returns-in_default : goal.returns-in_default
returns-in_default t c = parameters_in-cut _ _ _ _ c.if-room-eq0.false c.in_default.len_below

pub returns-in-Ok-Some : goal.returns-in-Ok-Some
returns-in-Ok-Some t c =
    let found = rw c.in-Ok-Some.field-0-is at c.in-Ok-Some.ensures in
    let p : TakenParameter = record { seen = parameters_of c.in-Ok-Some.seen; count = c.in-Ok-Some.count } in
    let fits : p.count + 1 ≤ length (behind c.args.octets.now) = omega (arith, found.rest.0) in
    let P : Read Parameters → Type 0 = λ r. GivesReading parameters_of c.read_parameters.result r in
    let Q : List ℕ → Type 0 = λ rest. GivesReading parameters_of c.read_parameters.result
    (parameters_in (parameters_of c.in-Ok-Some.seen) (c.args.at + 2 + c.in-Ok-Some.count)
    (c.args.room - 2 - c.in-Ok-Some.count) 0 rest) in
    subst P (sym (parameters_in-some (parameters_of c.args.seen) c.args.at c.args.room
    c.args.octets.now p c.if-room-eq0.false c.in-len1-up.len_at_least found.exact fits))
    (subst Q found.rest.1 c.read_parameters.ensures)

pub returns-in-Ok-None : goal.returns-in-Ok-None
returns-in-Ok-None t c =
    let found = rw c.in-Ok-None.field-0-is at c.in-Ok-None.ensures in
    parameters_in-none (parameters_of c.args.seen) c.args.at c.args.room c.args.octets.now
    c.if-room-eq0.false c.in-len1-up.len_at_least found.exact

pub returns-in-Err : goal.returns-in-Err
returns-in-Err t c = parameters_in-err (parameters_of c.args.seen) c.args.at c.args.room
    c.args.octets.now c.in-Err.fault c.if-room-eq0.false c.in-len1-up.len_at_least
    c.in-Err.ensures.exact
