use Rattle.std.specs.Arc.{arc_value}
use Rattle.commands.specs.declared.io.input.TheConstants.{TEXT_LIMIT}
use Rattle.commands.specs.Io.Inputs.{value_as}
use Rattle.commands.specs.Words.Words.{client_seen}
use Rattle.tase_tool.proofs.OfClient.Commands.{command_rises, command_unasked, command_reason}
use Rattle.tase_tool.proofs.OfClient.Commands.{command_done}
use Rattle.tase_tool.proofs.OfClient.Sharing.{shared_read}
use Rattle.tase_tool.proofs.OfClient.Spared.{command_same}
use Rattle.tase_tool.proofs.client.playing.run_client_command.Goals as goal

pub returns : goal.returns
returns g c =
    let read = c.read_tables-read in
    let shared = value_as arc_value c.share_read-shared.result in
    let tables = shared_read (client_seen c.args.words).tables TEXT_LIMIT
    (g.O.Outside.told c.args.outside.now) (g.O.Outside.told read.new.outside) read.result shared
    read.ensures c.share_read-shared.ensures in
    record {
      read = shared;
      mid = g.O.Outside.told read.new.outside;
      tables = tables;
      goes = c.play_read.ensures;
      words = command_unasked (client_seen c.args.words) shared
          (g.O.Outside.told read.new.outside) (g.O.Outside.told c.play_read.new.outside)
          c.play_read.result c.play_read.ensures;
      outside = command_rises (client_seen c.args.words) shared
          (g.O.Outside.told c.args.outside.now) (g.O.Outside.told read.new.outside)
          (g.O.Outside.told c.play_read.new.outside) c.play_read.result tables
          c.play_read.ensures;
      reason = command_reason (client_seen c.args.words) shared
          (g.O.Outside.told c.args.outside.now) (g.O.Outside.told read.new.outside)
          (g.O.Outside.told c.play_read.new.outside) c.play_read.result tables
          c.play_read.ensures;
      exact = command_same (client_seen c.args.words) shared
          (g.O.Outside.told c.args.outside.now) (g.O.Outside.told read.new.outside)
          (g.O.Outside.told c.play_read.new.outside) c.play_read.result tables
          c.play_read.ensures;
      done = command_done (client_seen c.args.words) shared
          (g.O.Outside.told c.args.outside.now) (g.O.Outside.told read.new.outside)
          (g.O.Outside.told c.play_read.new.outside) c.play_read.result tables
          c.play_read.ensures;
    }
