-- Clients worked out by hand, over the messages that they hear.
use Rattle.std.proofs.Common.{◌≡◌, ℕ, List, [], ◌∷◌, ◌++◌, false, Option, Some, None, pos}
use Rattle.std.proofs.Common.{codes, refl}
use Rattle.tpkt_cotp.specs.declared.tpdu.ConnectConfirm.{ConnectConfirm}
use Rattle.mms_data.specs.Datum.{integer}
use Rattle.mms_data.specs.declared.outcome.Outcome.TheVariants.{Good}
use Rattle.mms_services.specs.declared.pdu.MmsPdu.TheVariants as pdus
use Rattle.mms_services.specs.declared.response.Response.{Response}
use Rattle.mms_services.specs.declared.response.Response.TheVariants as responses
use Rattle.stack_assoc.specs.declared.messages.heard.Accepting.{Accepting}
use Rattle.stack_assoc.specs.declared.messages.heard.Heard.TheVariants as heards
use Rattle.stack_assoc.specs.Arrivals.{Arrival, confirmed, gone, heard}
use Rattle.sbo_device.specs.declared.kind.CommandKind.TheVariants.{Command}
use Rattle.bilateral.specs.Rows.{CentreRows, no_table}
use Rattle.tase_views.specs.declared.call.CallKind.TheVariants.{Identify}
use Rattle.tase_views.specs.declared.reply.ReplyKind.TheVariants as replies
use Rattle.centre_client.specs.declared.script.Script.{Script}
use Rattle.centre_client.specs.declared.script.StepKind.TheVariants.{Call, Operate}
use Rattle.asking_end.specs.declared.end.AskEnd.{AskEnd}
use Rattle.asking_end.specs.declared.end.AskEnd.TheVariants as ends
use Rattle.asking_end.specs.Askers.{asker_start, asker_steps, asker_step}
use Rattle.centre_client.specs.declared.play.Checkback.{Checkback}
use Rattle.centre_client.specs.Scripted.{script_acts, scripted, title_of, shown_reply_line}
use Rattle.centre_client.specs.Clients.{ClientStep}

-- peer A controls a device that is selected, whose table tells this checkback
abbrev rows : ℕ → CentreRows
rows checkback = record {
  points = [];
  devices = record {
    name = codes "BRK1";
    kind = Command;
    direct = false;
    checkback = pos checkback;
    span = 30000;
  } ∷ [];
  tables = record no_table {
    key = codes "A";
    domain = codes "DOMA";
    controls = record { device = 0; tag = false } ∷ [];
  } ∷ [];
  variants = [] ∷ [];
}

-- `operate BRK1 1`, and `call identify`
abbrev operating : Script
operating = record { peer = 0; steps = record { line = 2; kind = Operate 0 (pos 1) } ∷ [] }

abbrev asking : Script
asking = record { peer = 0; steps = record { line = 2; kind = Call Identify } ∷ [] }

abbrev response : ℕ → Response → Arrival
response number r = heard (heards.Pdu (pdus.Response number r))

-- the connect confirm, the accept, and what comes behind them
abbrev hearing : ℕ → Script → ConnectConfirm → Accepting → List Arrival → ClientStep
hearing checkback script confirm accept told =
    asker_steps script_acts (confirmed confirm ∷ heard (heards.Accept accept) ∷ told)
    (asker_start script_acts (title_of (rows checkback) script)
    (scripted (rows checkback) script))

abbrev ended_by : ClientStep → Option (AskEnd Checkback)
ended_by r = r.state.end

-- the select is answered 77
abbrev selected : Arrival
selected = response 1
    (responses.Read (record { spec = None; results = Good (integer (pos 77)) ∷ [] }))

abbrev written : Arrival
written = response 2 (responses.Write (record { results = None ∷ [] }))

abbrev selection_line : List ℕ
selection_line = shown_reply_line (replies.Results None (Good (integer (pos 77)) ∷ []))

-- where the table tells 78, the client ends there: the answer is shown, and no write is said
other_checkback : (c : ConnectConfirm) (a : Accepting)
    → (hearing 78 operating c a (selected ∷ [])).state.end
    ≡ Some (ends.ByAgenda (record { want = pos 78; got = pos 77 }))
other_checkback c a = refl

other_shown : (c : ConnectConfirm) (a : Accepting)
    → (hearing 78 operating c a (selected ∷ [])).shown ≡ selection_line ++ []
other_shown c a = refl

nothing_written : (c : ConnectConfirm) (a : Accepting)
    → (asker_step script_acts selected (hearing 78 operating c a []).state).said ≡ []
nothing_written c a = refl

-- where it tells 77, the value is written, and the association is concluded and released
right_checkback : (c : ConnectConfirm) (a : Accepting)
    → ended_by (hearing 77 operating c a (selected ∷ written ∷ heard (heards.Pdu pdus.Concluded)
    ∷ heard heards.Disconnect ∷ [])) ≡ Some ends.Finished
right_checkback c a = refl

right_shown : (c : ConnectConfirm) (a : Accepting)
    → (hearing 77 operating c a (selected ∷ written ∷ [])).shown
    ≡ selection_line ++ (shown_reply_line (replies.Written (None ∷ [])) ++ [])
right_shown c a = refl

-- a reply to another request ends the client, and isn't shown
stray : (c : ConnectConfirm) (a : Accepting)
    → (hearing 77 asking c a (response 7 responses.Identify ∷ [])).state.end ≡ Some (ends.Stray 7)
stray c a = refl

stray_shown : (c : ConnectConfirm) (a : Accepting)
    → (hearing 77 asking c a (response 7 responses.Identify ∷ [])).shown ≡ []
stray_shown c a = refl

-- the transport ends behind the first reply
peer_end : (c : ConnectConfirm) (a : Accepting)
    → (hearing 77 operating c a (selected ∷ gone ∷ [])).state.end ≡ Some ends.PeerEnd
peer_end c a = refl
