-- What stays as it is where something is taken in or was sent.
use Rattle.std.specs.Prelude.{◌≡◌}
use Rattle.tase_conn.specs.Talking.{Talking}

-- but for what was taken in
abbrev pub TakesIn : Talking → Talking → Type 0
TakesIn old new = new ≡ record old { course = new.course; behind = new.behind }

-- but for what is still to be sent
abbrev pub SendsSome : Talking → Talking → Type 0
SendsSome old new = new ≡ record old { out = new.out; farewell = new.farewell }
