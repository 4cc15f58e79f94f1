-- What `verify` says: what an association was sent, held against its history and what its link
-- gave.
use Rattle.std.specs.Prelude.{◌≡◌, ◌⊎◌, ℕ, Bool, List, [], ◌∷◌, ◌++◌, Option, Some, None}
use Rattle.std.specs.Prelude.{option_map, Result, Ok, Err, Vec, codes, decimal}
use Rattle.std.specs.declared.alloc.Global.{Global}
use Rattle.outside.specs.Sink.{SinkTold}
use Rattle.commands.specs.declared.io.status.Status.{Status}
use Rattle.commands.specs.declared.io.status.Status.TheVariants.{Done, Differs, Outside}
use Rattle.commands.specs.declared.io.input.InputEnd.{InputEnd}
use Rattle.commands.specs.declared.io.input.TheConstants.{TEXT_LIMIT, JOURNAL_LIMIT}
use Rattle.commands.specs.Io.Saying.{Said, prints}
use Rattle.commands.specs.Io.Runs.{TellsSaid}
use Rattle.commands.specs.Io.Plans.{Asked, Plan, says, reads, by_value, reads_value}
use Rattle.plain_text.specs.Octets.{hex_text}
use Rattle.capture_text.specs.Captures.{capture_in}
use Rattle.bilateral.specs.Rows.{CentreRows, place_of_peer}
use Rattle.sbo_device.specs.declared.key.Key.{Key}
use Rattle.tase_views.specs.History.{Past}
use Rattle.tase_verify.specs.declared.association.answered.AnsweredEvent.{AnsweredEvent}
use Rattle.tase_verify.specs.declared.association.verdict.Verdict.{Verdict}
use Rattle.tase_verify.specs.declared.association.verdict.Verdict.TheVariants as verdicts
use Rattle.tase_verify.specs.declared.link_text.LinkText.{LinkText}
use Rattle.tase_verify.specs.JournalIn.{journal_in}
use Rattle.tase_verify.specs.LinkText.{given_in}
use Rattle.tase_verify.specs.Verifying.{journal_setup, answered_for, verdict_for}
use Rattle.tase_tool.specs.Lines.{named_line, stray_line}
use Rattle.tase_tool.specs.declared.verifying.Meant.{Meant}
use Rattle.commands.specs.Words.Words.{Question}
use Rattle.commands.specs.Files.Tables.{tables_in}

-- two hexadecimal digits of an octet, or `-` where there is none
abbrev pub octet_word : Option ℕ → List ℕ
octet_word None = codes "-"
octet_word (Some octet) = hex_text (octet ∷ [])

-- `differs PLACE GOT WANT`
abbrev pub differs_line : ℕ → Option ℕ → Option ℕ → List ℕ
differs_line place got want = named_line (codes "differs")
    (decimal place ++ 32 ∷ [] ++ octet_word got ++ 32 ∷ [] ++ octet_word want)

-- ` GOT WANT` and the line's end
abbrev pub octets_line : Option ℕ → Option ℕ → List ℕ
octets_line got want = named_line [] (octet_word got ++ 32 ∷ [] ++ octet_word want)

-- a line on a difference; it takes no memory
abbrev pub TellsDifference : List ℕ → SinkTold → SinkTold → Status → Type 0
TellsDifference text before after status =
    TellsSaid (prints Differs text) before after status
    × ((status ≡ Differs) ⊎ (status ≡ Outside))

-- what is said of a verdict
abbrev pub verdict_said : Verdict → Said
verdict_said verdicts.Equal = prints Done (codes "equal" ++ 10 ∷ [])
verdict_said (verdicts.Differs place got want) = prints Differs (differs_line place got want)
verdict_said (verdicts.Stray number) = prints Differs (stray_line number)

-- the association that is meant, if the tables have its peer
abbrev pub key_meant : CentreRows → Question → Option Key
key_meant rows question =
    option_map (λ peer. record { peer = peer; ordinal = question.ordinal })
    (place_of_peer rows question.peer)

-- an input of the command
abbrev pub input_asked : List ℕ → ℕ → List ℕ → Asked
input_asked called limit name = record { file = name; called = called; limit = limit }

-- what the octets of a capture of what the association was sent are told to be, which are judged so
abbrev pub judged_text : (List ℕ → Verdict) → List ℕ → Plan
judged_text judged octets =
    by_value (codes "out") (λ sent. says (verdict_said (judged sent))) (capture_in octets)

-- that capture is read, and judged
abbrev pub judged_plan : List ℕ → (List ℕ → Verdict) → Plan
judged_plan name judged =
    reads (input_asked (codes "out") TEXT_LIMIT name) (judged_text judged)

-- what the association was sent is read, and the verdict on it is told
abbrev pub sent_plan : Question → CentreRows → Option Key → Past → List ℕ × Bool → Plan
sent_plan question rows key past given =
    judged_plan question.sent (verdict_for rows past key given.0 given.1)

-- what its link gave is read, and then what it was sent
abbrev pub given_plan : Question → CentreRows → Option Key → Past → Plan
given_plan question rows key past =
    reads_value (input_asked (codes "in") TEXT_LIMIT question.given) given_in
    (sent_plan question rows key past)

-- the journal over these tables is read, and then the captures
abbrev pub journal_plan : Question → CentreRows → Plan
journal_plan question rows =
    reads_value (input_asked (codes "journal") JOURNAL_LIMIT question.journal)
    (journal_in (journal_setup rows)) (given_plan question rows (key_meant rows question))

-- the tables are read, and then the journal and the captures
abbrev pub verify_plan : Question → Plan
verify_plan question =
    reads_value (input_asked (codes "tables") TEXT_LIMIT question.tables) tables_in
    (journal_plan question)

-- what a link gave, as it is read: its octets, and whether it has ended
abbrev pub link_given : LinkText → List ℕ × Bool
link_given link = (link.octets.items, link.ended)

-- the events of the association that is meant, with their answers, as a journal was read to them,
-- or why it wasn't read
abbrev pub AreAnswers : CentreRows → Option Key → Result Past InputEnd
    → Result (Vec AnsweredEvent Global) InputEnd → Type 0
AreAnswers rows key (Ok past) (Ok answered) =
    answered.items ≡ answered_for (journal_setup rows) key past
AreAnswers rows key (Ok past) (Err end) = ⊥
AreAnswers rows key (Err end) (Ok answered) = ⊥
AreAnswers rows key (Err end) (Err other) = end ≡ other

-- the events of the association that is meant, with their answers, are those of a history
abbrev pub IsMeant : Meant → Past → Type 0
IsMeant meant past =
    meant.answered.now ≡ answered_for (journal_setup meant.centre.now) meant.key past
