-- A client: the calling end that plays a script over a centre's tables.
use Rattle.std.specs.Prelude.{◌≡◌, ◌++◌, ℕ, List, [], Option}
use Rattle.stack_assoc.specs.Arrivals.{Arrival}
use Rattle.bilateral.specs.Rows.{CentreRows}
use Rattle.asking_end.specs.declared.calling.CallingEnd.{CallingEnd}
use Rattle.asking_end.specs.Askers.{AskerStep, HasHeard, asker_behind, asker_of}
use Rattle.asking_end.specs.Callers.{AskerStands, TakesPiece}
use Rattle.centre_client.specs.declared.play.Checkback.{Checkback}
use Rattle.centre_client.specs.declared.script.Script.{Script}
use Rattle.centre_client.specs.Plays.{line_awaited}
use Rattle.centre_client.specs.Scripted.{Scripted, script_acts, scripted, title_of}
use Rattle.centre_client.specs.Scripts.{SpellsScript}

abbrev pub Caller : Type 0
Caller = CallingEnd Scripted Checkback

abbrev pub ClientStep : Type 0
ClientStep = AskerStep Scripted Checkback ℕ

-- what all octets that have come make of a client behind its connect request
abbrev pub client_behind : CentreRows → Script → List ℕ → ClientStep
client_behind rows script octets =
    asker_behind script_acts (title_of rows script) (scripted rows script) octets

-- all that a client says and shows over all octets that have come, and how it stands
abbrev pub client_of : CentreRows → Script → List ℕ → ClientStep
client_of rows script octets =
    asker_of script_acts (title_of rows script) (scripted rows script) octets

-- a client that has heard these messages, one after another, stands so
abbrev pub ClientHeard : CentreRows → Script → List Arrival → ClientStep → Type 0
ClientHeard rows script told step =
    HasHeard script_acts (title_of rows script) (scripted rows script) told step

-- a client of these tables that plays this script, over all octets that have come
abbrev pub ClientStands : CentreRows → Script → List ℕ → Caller → Type 0
ClientStands rows script octets c =
    AskerStands script_acts (title_of rows script) (scripted rows script) octets c

-- a piece is taken
abbrev pub ClientTakes : CentreRows → Script → List ℕ → List ℕ → List ℕ → List ℕ → List ℕ → List ℕ
    → Caller → Type 0
ClientTakes rows script octets piece out written shown behind c =
    TakesPiece script_acts (title_of rows script) (scripted rows script) octets piece
    out written shown behind c

-- a client of the script that this text spells, before anything has come
pub record IsCalling (rows : CentreRows) (text out written : List ℕ) (c : Caller) : Type 0 where
  pub script : Script
  pub spelled : SpellsScript rows text script
  pub stands : ClientStands rows script [] c
  pub said : written ≡ out ++ (client_of rows script []).said

-- the number of the script's line that is being done, once the association stands and before its
-- conclude
abbrev pub line_done : Caller → Option ℕ
line_done c = line_awaited c.asker.awaiting c.asker.agenda.play.rest
