-- The course of a command that serves: how far it came, and what its server left.
use Rattle.std.specs.Prelude.{Option, Result, Ok, Err}
use Rattle.bilateral.specs.Rows.{CentreRows}
use Rattle.node_core.specs.NodeState.{NodeState}
use Rattle.commands.specs.declared.io.status.Status.{Status}
use Rattle.commands.specs.declared.io.input.InputEnd.{InputEnd}
use Rattle.server_main.specs.declared.run.seats.Seats.{Seats}
use Rattle.server_main.specs.declared.serve_end.ServeEnd.{ServeEnd}
use Rattle.server_main.specs.Serving.{ServerTold}
use Rattle.tase_tool.specs.Server.Opening.{WorkTold}

-- a run of a server: the tables that it served, what it worked on before and after, the node that
-- it left, if there was one, and how the writing of its journal ended then, the seats, and how it
-- ended
pub record ServerRun : Type 0 where
  pub centre : CentreRows
  pub before : ServerTold
  pub after : ServerTold
  pub node : Option NodeState
  pub written : Option Status
  pub seats : Seats
  pub end : ServeEnd

pub data ServeCourse : Type 0 where
  -- the tables couldn't be read
  unread : InputEnd → ServeCourse
  -- they were read, and memory was wanting for what the threads of a server share
  unshared : CentreRows → ServeCourse
  -- the listener, the feed, the clock or the plant wasn't handed out
  unopened : CentreRows → ServeCourse
  served : ServerRun → ServeCourse

-- what the tables were read to
abbrev pub tables_read : ServeCourse → Result CentreRows InputEnd
tables_read (unread end) = Err end
tables_read (unshared centre) = Ok centre
tables_read (unopened centre) = Ok centre
tables_read (served run) = Ok run.centre

-- what a server works on, of all that it is told
abbrev pub work_of : ServerTold → WorkTold
work_of told = (told.listener, (told.feed, (told.clock, told.plant)))
