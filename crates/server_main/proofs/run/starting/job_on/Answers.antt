use Rattle.node_server.proofs.OfSeats.Since.{fresh_closed}
use Rattle.server_main.proofs.run.starting.job_on.Goals as goal

pub new-requires : goal.new-requires
new-requires g c = (
  c.requires.of,
  c.requires.centre,
  fresh_closed c.args.seat.number c.args.seat.front c.requires.none,
)
