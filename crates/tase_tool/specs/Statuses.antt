-- With which statuses a command may end, whatever the outside tells of its inputs.
use Rattle.commands.specs.declared.io.status.Status.{Status}
use Rattle.commands.specs.declared.io.status.Status.TheVariants.{Done, Usage, Input, Outside, Full}
use Rattle.commands.specs.declared.io.status.Status.TheVariants.{Differs, Memory, Peer}
use Rattle.commands.specs.Words.Words.{Task, replays, lists_stream, decodes_pdu, verifies, loads}
use Rattle.commands.specs.Words.Words.{serves, plays_client, discovers}

-- a capture is read: 0, 3, 4 or 7
abbrev pub MayEndReading : Status → Type 0
MayEndReading Done = Unit {0}
MayEndReading Usage = ⊥
MayEndReading Input = Unit {0}
MayEndReading Outside = Unit {0}
MayEndReading Full = ⊥
MayEndReading Differs = ⊥
MayEndReading Memory = Unit {0}
MayEndReading Peer = ⊥

-- a scenario is played: these, or 5
abbrev pub MayEndPlaying : Status → Type 0
MayEndPlaying Full = Unit {0}
MayEndPlaying status = MayEndReading status

-- an association is verified: these, or 6
abbrev pub MayEndVerifying : Status → Type 0
MayEndVerifying Differs = Unit {0}
MayEndVerifying status = MayEndReading status

-- what a command that reads texts, or none, may end with; what a server, a client and a listing end
-- with is theirs to say (RunsServe, RunsClient, RunsDiscover)
abbrev pub MayEndWith : Task → Status → Type 0
MayEndWith (replays tables scenario options) status = MayEndPlaying status
MayEndWith (lists_stream capture) status = MayEndReading status
MayEndWith (decodes_pdu capture) status = MayEndReading status
MayEndWith (verifies question) status = MayEndVerifying status
MayEndWith (loads rounds) status = MayEndPlaying status
MayEndWith (serves task) status = Unit {0}
MayEndWith (plays_client task) status = Unit {0}
MayEndWith (discovers task) status = Unit {0}
