use denote.Exit.{no}
use denote.Param.{param}
use denote.Param.Send.{arg_send, param_send}
use Rattle.node_server.proofs.OfJobs.Sent.{job_send}
use Rattle.node_server.proofs.jobs.job.job_may_be_sent.Goals as goal

pub sent_over-requires-send-T : goal.sent_over-requires-send-T
sent_over-requires-send-T g c κs within =
    param_send 0 _ (arg_send _ no _ (job_send (param 0 g.row.L) (param 1 g.row.S)
    (param 2 g.row.C) c.type_bounds.send-L c.type_bounds.send-S c.type_bounds.send-C))
