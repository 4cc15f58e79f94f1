use denote.Exit.{no}
use denote.Param.{param}
use denote.Param.Send.{arg_send, param_send}
use Rattle.node_server.proofs.OfJobs.Sent.{job_send, done_send}
use Rattle.server_main.proofs.run.threads.start_thread.Goals as goal

pub start-requires-send-J : goal.start-requires-send-J
start-requires-send-J g c κs within =
    param_send 0 _ (arg_send _ no _ (job_send (param 1 g.row.L) (param 2 g.row.S)
    (param 3 g.row.C) c.type_bounds.send-L c.type_bounds.send-S c.type_bounds.send-C))

pub start-requires-send-J-Done : goal.start-requires-send-J-Done
start-requires-send-J-Done g c κs within =
    param_send 1 _ (arg_send _ no _ (done_send (param 1 g.row.L) (param 2 g.row.S)
    (param 3 g.row.C) c.type_bounds.send-L c.type_bounds.send-S c.type_bounds.send-C))
