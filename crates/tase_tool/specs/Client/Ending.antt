-- How a client ended, as it is told behind what it showed.
use Rattle.std.specs.Prelude.{true, List, ℕ, [], ◌∷◌, ◌++◌, codes}
use Rattle.std.specs.Fmt.{signed_decimal}
use Rattle.outside.specs.Sink.{SinkTold}
use Rattle.commands.specs.declared.io.status.Status.{Status}
use Rattle.tase_discover.specs.AskingEnd.declared.end.AskEnd.{AskEnd}
use Rattle.tase_discover.specs.AskingEnd.declared.service.run_end.RunEnd.{RunEnd}
use Rattle.centre_client.specs.declared.play.Checkback.{Checkback}
use Rattle.tase_tool.specs.Lines.{named_line}
use Rattle.tase_tool.specs.Asking.Ending.{TellsAskEnd, TellsAsked}

-- `WANT GOT`
abbrev pub number_words : Checkback → List ℕ
number_words checkback =
    signed_decimal checkback.want ++ 32 ∷ [] ++ signed_decimal checkback.got

-- `checkback WANT GOT`
abbrev pub checkback_line : Checkback → List ℕ
checkback_line checkback = named_line (codes "checkback") (number_words checkback)

-- nothing is told where a client has played its script to its end, nor where memory ran out
abbrev pub TellsClientEnd : AskEnd Checkback → SinkTold → SinkTold → Status → Type 0
TellsClientEnd end before after status = TellsAskEnd true checkback_line end before after status

-- nor where its link or its sink has failed
abbrev pub TellsRunEnd : RunEnd Checkback → SinkTold → SinkTold → Status → Type 0
TellsRunEnd end before after status = TellsAsked true checkback_line end before after status
