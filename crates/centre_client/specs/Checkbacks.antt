-- A device that is to be selected before is written only behind its checkback: said of all messages
-- that a client hears, and of what it says behind each.
use Rattle.std.specs.Prelude.{◌≡◌, ℕ, false, List, [], ◌∷◌, ◌++◌, map, Option, Some}
use Rattle.std.specs.List.{All, Contains}
use Rattle.tpkt_cotp.specs.Streams.{Message}
use Rattle.tpkt_cotp.specs.Written.{connection_request_octets}
use Rattle.tpkt_cotp.specs.declared.turn.Role.TheVariants.{Calling}
use Rattle.mms_data.specs.Datum.{Datum}
use Rattle.mms_data.specs.ObjectName.{ObjectName}
use Rattle.mms_services.specs.declared.access.spec.Spec.TheVariants.{List as ListOf}
use Rattle.mms_services.specs.declared.pdu.MmsPdu.{MmsPdu}
use Rattle.mms_services.specs.declared.pdu.MmsPdu.TheVariants.{Request}
use Rattle.mms_services.specs.declared.request.Request.TheVariants.{Write}
use Rattle.stack_assoc.specs.declared.input.StackIn.TheVariants.{Pdu}
use Rattle.stack_assoc.specs.declared.wire.setup.AssociationSetup.{AssociationSetup}
use Rattle.stack_assoc.specs.Arrivals.{Arrival, Role, calling}
use Rattle.stack_assoc.specs.Expectations.{setup_after}
use Rattle.stack_assoc.specs.Fronts.{StartsWith}
use Rattle.stack_assoc.specs.Handing.{answer_to, stack_in}
use Rattle.stack_assoc.specs.Tellings.{Tell}
use Rattle.bilateral.specs.Rows.{CentreRows, table_of, device_of}
use Rattle.tase_views.specs.declared.reply.ReplyKind.{ReplyKind}
use Rattle.tase_conn.specs.Map.Out.{said}
use Rattle.tase_conn.specs.Map.Replied.{reply_in, answered_number}
use Rattle.centre_client.specs.declared.script.Script.{Script}
use Rattle.centre_client.specs.Plays.{device_variable, select_call, number_answered}
use Rattle.asking_end.specs.Sayings.{request_pdu, finish_said}
use Rattle.centre_client.specs.StepLines.{controlled_device}

-- what is said behind a message for the script: nothing, a PDU, the finish
pub data ScriptSaying : Type 0 where
  silence : ScriptSaying
  says_pdu : MmsPdu → ScriptSaying
  says_finish : ScriptSaying

-- a message that was heard, and what was said behind it
pub record Exchange : Type 0 where
  pub heard : Arrival
  pub says : ScriptSaying

abbrev pub saying_octets : AssociationSetup → ScriptSaying → List ℕ
saying_octets setup silence = []
saying_octets setup (says_pdu pdu) = said setup pdu
saying_octets setup says_finish = finish_said setup

-- the octets that are said in these exchanges, behind these messages: to each message what the end
-- of the association answers of itself, which is its connect, and then what is said for the script
abbrev pub octets_exchanged : Role → List Arrival → List Exchange → List ℕ
octets_exchanged role before [] = []
octets_exchanged role before (e ∷ more) = answer_to role e.heard
    ++ saying_octets (setup_after (before ++ e.heard ∷ [])) e.says
    ++ octets_exchanged role (before ++ e.heard ∷ []) more

-- a PDU writes the variable of a device, among others or alone: one that the script's table
-- controls, and that is to be selected before
pub record WritesSelectable (rows : CentreRows) (peer device : ℕ) (pdu : MmsPdu) : Type 0 where
  pub number : ℕ
  pub names : List ObjectName
  pub values : List Datum
  pub is : pdu ≡ Request number (Write (record { spec = ListOf names; values = values }))
  pub item : List ℕ
  pub among : Contains names (device_variable rows peer item)
  pub named : controlled_device rows peer item ≡ Some device
  pub selectable : (device_of rows device).direct ≡ false

-- behind these exchanges this message is the checkback of a device: the last that was said in them
-- is the read of the device's selection, and the message is the reply to just this request, whose
-- one outcome is the number that the table has for the device
pub record IsCheckback (rows : CentreRows) (peer device : ℕ) (before : List Exchange)
    (message : Arrival) : Type 0 where
  pub earlier : List Exchange
  pub select : Exchange
  pub between : List Exchange
  pub is : before ≡ earlier ++ select ∷ between
  pub number : ℕ
  pub selects : select.says ≡ says_pdu (request_pdu number (select_call rows peer device))
  pub silent : All (λ e. e.says ≡ silence) between
  pub pdu : MmsPdu
  pub came : stack_in message ≡ Some (Pdu pdu)
  pub answers : answered_number pdu ≡ Some number
  pub reply : ReplyKind
  pub told : reply_in pdu ≡ Some reply
  pub checkback : number_answered (device_of rows device).checkback reply
      ≡ Some (device_of rows device).checkback

-- behind these exchanges, what is said in this one writes no device that is to be selected before,
-- unless its message is the checkback of this device
abbrev pub IsChecked : CentreRows → ℕ → List Exchange → Exchange → Type 0
IsChecked rows peer before e = (device : ℕ) (pdu : MmsPdu) → e.says ≡ says_pdu pdu
    → WritesSelectable rows peer device pdu → IsCheckback rows peer device before e.heard

-- All octets that are said over the octets that have come are those of exchanges, one a message:
-- the messages are the first that have come, in order, and each exchange is checked.
pub record SaysChecked (rows : CentreRows) (script : Script) (octets all_said : List ℕ) : Type 0
  where
    pub exchanges : List Exchange
    pub messages : List Message
    pub starts : StartsWith Calling octets messages
    -- after how many messages conclude was said, if it was
    pub concluded : Option ℕ
    pub heard : Tell (calling (table_of rows script.peer).title concluded)
        (map (λ e. e.heard) exchanges) messages
    pub is : all_said ≡ connection_request_octets 1
        ++ octets_exchanged (calling (table_of rows script.peer).title concluded) [] exchanges
    pub checked : (before after : List Exchange) (e : Exchange) → exchanges ≡ before ++ e ∷ after
        → IsChecked rows script.peer before e
