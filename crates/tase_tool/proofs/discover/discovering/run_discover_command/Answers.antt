use Rattle.commands.specs.Words.Words.{discover_seen}
use Rattle.std.proofs.Common.{true, false}
use Rattle.tase_tool.proofs.OfDiscover.Commands.{command_rises, command_unasked, command_reason}
use Rattle.tase_tool.proofs.OfDiscover.Commands.{command_same, command_listed}
use Rattle.tase_tool.proofs.discover.discovering.run_discover_command.Goals as goal

pub returns : goal.returns
returns g c =
    let task = discover_seen c.args.words in
    let read = c.read_tables-read in
    let before = g.O.Outside.told c.args.outside.now in
    let mid = g.O.Outside.told read.new.outside in
    let after = g.O.Outside.told c.list_read.new.outside in
    let goes = c.list_read.ensures in
    record {
      read = read.result;
      mid = mid;
      tables = read.ensures;
      goes = goes;
      words = command_unasked task read.result mid after c.list_read.result goes;
      outside = command_rises task read.result before mid after c.list_read.result read.ensures
          goes;
      reason = command_reason task read.result before mid after c.list_read.result read.ensures
          goes;
      exact = command_same task read.result before mid after c.list_read.result read.ensures
          goes;
      done = command_listed task read.result true before mid after c.list_read.result read.ensures
          goes;
      differs = command_listed task read.result false before mid after c.list_read.result
          read.ensures goes;
    }
