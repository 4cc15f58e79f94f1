-- A job may go to another thread, and what comes of it. It is shown from the inside out, since a `search` for all of it
-- at once comes to its limit.
use denote.RattleType.{RattleType}
use denote.Param.Send.{IsSend, sendable}
use denote.Param.SendFields.{as_row_send, declared_send, variants_send}
use denote.Struct.Field.{row_field}
use Rattle.std.proofs.Crossing.{crosses}
use Rattle.bilateral.proofs.centre.Centre.TheSendSync as centre
use Rattle.share_turn.proofs.shared.Shared.TheSendSync as shared
use Rattle.share_turn.proofs.shared.Seat.TheSendSync as seat
use Rattle.node_server.proofs.OfTurn.Sent.{turn_send}
use Rattle.node_server.specs.contracts.jobs.parts.JobParts as parts
use Rattle.node_server.specs.contracts.jobs.done.NodeDone as done
use Rattle.node_server.specs.contracts.jobs.job.NodeJob as job
use Rattle.node_server.specs.contracts.jobs.job.NodeJob.TheInside as inside

module _ (L S C : RattleType) (link : IsSend L) (source : IsSend S) (clock : IsSend C) where
  parts_send : IsSend (parts.the_row L S C)
  parts_send = variants_send (parts.enum L S C) (
    (
      search (centre.the_send, centre.the_sync, sendable, crosses) depth 20,
      (
        search (turn_send, shared.the_send, shared.the_sync, sendable, crosses) depth 20,
        (
          search (turn_send, seat.the_send, sendable, crosses) depth 20,
          (as_row_send (row_field L) link, (search (sendable, crosses) depth 20, tt)),
        ),
      ),
    ),
    (
      (
        search (centre.the_send, centre.the_sync, sendable, crosses) depth 20,
        (
          search (turn_send, shared.the_send, shared.the_sync, sendable, crosses) depth 20,
          (
            search (turn_send, seat.the_send, sendable, crosses) depth 20,
            (as_row_send (row_field S) source, (search (sendable, crosses) depth 20, tt)),
          ),
        ),
      ),
      (
        (
          search (turn_send, shared.the_send, shared.the_sync, sendable, crosses) depth 20,
          (
            search (turn_send, seat.the_send, sendable, crosses) depth 20,
            (as_row_send (row_field C) clock, (search (sendable, crosses) depth 20, tt)),
          ),
        ),
        tt,
      ),
    ),
  )

  inside_send : IsSend (inside.the_row L S C)
  inside_send = declared_send (inside.the_type L S C) (parts_send, tt)

  pub job_send : IsSend (job.the_row L S C)
  job_send = search (inside_send, sendable)

  pub done_send : IsSend (done.the_row L S C)
  done_send = variants_send (done.enum L S C) (
    (
      search (turn_send, seat.the_send, sendable, crosses) depth 20,
      (as_row_send (row_field L) link, (search (sendable, crosses) depth 20, tt)),
    ),
    (
      (
        search (turn_send, seat.the_send, sendable, crosses) depth 20,
        (as_row_send (row_field S) source, (search (sendable, crosses) depth 20, tt)),
      ),
      (
        (
          search (turn_send, seat.the_send, sendable, crosses) depth 20,
          (as_row_send (row_field C) clock, (search (sendable, crosses) depth 20, tt)),
        ),
        tt,
      ),
    ),
  )
