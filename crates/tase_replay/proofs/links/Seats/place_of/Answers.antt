use Rattle.std.proofs.Common.{◌≡◌, ℕ, sym, ap, ◌∙◌, Some}
use Rattle.std.specs.Arc.{arc_value}
use Rattle.tase_replay.specs.declared.links.Use.{Use}
use Rattle.tase_replay.specs.Standing.{place_going}
use Rattle.tase_replay.proofs.Seating.{found_link, found_begun, going_within}
use Rattle.tase_replay.proofs.links.Seats.place_of.Goals as goal

pub returns-in-Some-Link-clause-found : goal.returns-in-Some-Link-clause-found
returns-in-Some-Link-clause-found c = λ scene s.
    let conns = c.args.self.now.conns.items in
    let place = c.in-Some-Link.place in
    let e : c.going.result ≡ place_going conns place =
    c.going.ensures ∙ ap (λ (p : ℕ). place_going conns p) c.in-Some-Link.place-is in
    rw e (found_link (arc_value c.args.centre.now) scene c.args.who place c.args.self.now s
    (sym c.use_of.ensures ∙ c.in-Some-Link.is
    ∙ ap (λ (u : Use). Some u) c.in-Some-Link.field-0-is))

pub returns-in-Some-Link-clause-within : goal.returns-in-Some-Link-clause-within
returns-in-Some-Link-clause-within c =
    let conns = c.args.self.now.conns.items in
    going_within conns c.in-Some-Link.place c.going.result
    (c.going.ensures ∙ ap (λ (p : ℕ). place_going conns p) c.in-Some-Link.place-is)

pub returns-in_ok-begin-in-None-clause-found : goal.returns-in_ok-begin-in-None-clause-found
returns-in_ok-begin-in-None-clause-found c = λ scene s.
    found_begun (arc_value c.args.centre.now) scene c.args.who c.args.self.now
    c.in_ok-begin-in-None.field-0 c.begin.new.self s (sym c.use_of.ensures ∙ c.in-None.is)
    c.in_ok-begin-in-None.ensures
