use Rattle.std.proofs.Common.{◌≡◌, ◌<◌, ◌≤◌, length, None}
use Rattle.asking_end.specs.Service.Talking.{RunStart, TalksSoFar}
use Rattle.asking_end.proofs.service.running.talk_on.Given as goal

abbrev pub invariant-loop : goal.invariant-loop
invariant-loop g l = (0 < length l.room) × (length l.room ≤ 16384)
    × ((start : RunStart g.row.A.Denot)
    → TalksSoFar g.A.Agenda.acts start (g.T.Terminal.told l.initial.terminal) l.initial.talk
    → l.initial.talk.asking.end ≡ None
    → TalksSoFar g.A.Agenda.acts start (g.T.Terminal.told l.terminal) l.talk
    × (l.talk.asking.end ≡ None))
