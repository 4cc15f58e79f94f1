use Rattle.std.proofs.Common.{◌<◌, ◌^◌, length, map, rules}
use Rattle.std.specs.Str.Lines.{lines}
use Rattle.commands.specs.Load.Tallies.{shown_line, with_line}
use Rattle.commands.proofs.OfLoad.SoFar.{noted_fits, noted_so_far}
use Rattle.commands.proofs.load.tally.tally_of.Goals as goal

pub note-tally-requires : goal.note-tally-requires
note-tally-requires c =
    let small : length c.args.shown.now < 2 ^ 64 = search rules in
    rw c.shown_line.ensures (noted_fits c.args.shown.now
    (with_line c.loop-line.tally (shown_line c.in-Some.line.now))
    (map shown_line (lines c.in-Some.more.now)) small
    (noted_so_far c.args.shown.now c.in-Some.line.now c.loop-line.tally
    (lines c.loop-line.rest.now) (lines c.in-Some.more.now) c.in-Some.ensures.some
    c.loop-line.invariant))
