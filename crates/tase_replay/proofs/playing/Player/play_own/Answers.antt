use Rattle.std.proofs.Common.{Bool, subst, refl}
use Rattle.tase_replay.specs.Standing.{NotesUse}
use Rattle.tase_replay.proofs.Entering.{accepted_bad}
use Rattle.tase_replay.proofs.Players.{plays_bad, plays_none}
use Rattle.tase_replay.proofs.Seating.{link_linked}
use Rattle.tase_replay.proofs.playing.Player.play_own.Goals as goal

pub returns-in-Ok-true-clause-plays : goal.returns-in-Ok-true-clause-plays
returns-in-Ok-true-clause-plays g c = λ scene s.
    let before = c.args.self.now.seats.now in
    let notes = subst (λ (b : Bool). NotesUse c.args.entry.who before b c.note_own.new.self)
    c.in-Ok-true.field-0-test c.in-Ok-true.ensures in
    let plays = c.play_entry.ensures.plays scene (before, s, notes) in
    record { played = plays.played; stands = plays.stands; sent = plays.sent }

pub returns-in-Ok-false-clause-plays : goal.returns-in-Ok-false-clause-plays
returns-in-Ok-false-clause-plays g c = λ scene s.
    let old = c.args.self.now in
    let setup = old.node.now.setup in
    let notes = subst (λ (b : Bool). NotesUse c.args.entry.who old.seats.now b c.note_own.new.self)
    c.in-Ok-false.field-0-test c.in-Ok-false.ensures in
    plays_bad g.K.Sink.told c.args.number scene _ _ _ refl refl
    (accepted_bad setup scene c.args.entry (link_linked setup.centre scene c.args.entry.who
    old.seats.now c.note_own.new.self notes s.sits))

pub returns-in-Err-clause-plays : goal.returns-in-Err-clause-plays
returns-in-Err-clause-plays g c = λ scene s.
    plays_none g.K.Sink.told c.args.number scene _ _ _ refl refl
