-- Names of messages, of layers, and of the reasons why a rule is broken.
use Rattle.std.specs.Prelude.{ℕ, List, codes}
use Rattle.ber_values.specs.declared.fault.Why.{Why}
use Rattle.ber_values.specs.declared.fault.Why.TheVariants as whys
use Rattle.mms_services.specs.declared.pdu.MmsPdu.{MmsPdu}
use Rattle.mms_services.specs.declared.pdu.MmsPdu.TheVariants as pdus
use Rattle.stack_assoc.specs.declared.messages.fault.Layer.{Layer}
use Rattle.stack_assoc.specs.declared.messages.fault.Layer.TheVariants as layers
use Rattle.stack_assoc.specs.declared.messages.heard.Heard.{Heard}
use Rattle.stack_assoc.specs.declared.messages.heard.Heard.TheVariants as heard
use Rattle.stack_assoc.specs.declared.listing.names.MessageName.{MessageName}
use Rattle.stack_assoc.specs.declared.listing.names.MessageName.TheVariants as names

-- a name as it is printed
abbrev pub message_name_text : MessageName → List ℕ
message_name_text names.Cr = codes "cr"
message_name_text names.Cc = codes "cc"
message_name_text names.Dr = codes "dr"
message_name_text names.Connect = codes "connect"
message_name_text names.Accept = codes "accept"
message_name_text names.Refuse = codes "refuse"
message_name_text names.Finish = codes "finish"
message_name_text names.Disconnect = codes "disconnect"
message_name_text names.Abort = codes "abort"
message_name_text names.AbortAccept = codes "abortaccept"
message_name_text names.Request = codes "request"
message_name_text names.Response = codes "response"
message_name_text names.Error = codes "error"
message_name_text names.Report = codes "report"
message_name_text names.Reject = codes "reject"
message_name_text names.Conclude = codes "conclude"
message_name_text names.Concluded = codes "concluded"
message_name_text names.Initiate = codes "initiate"
message_name_text names.Initiated = codes "initiated"
message_name_text names.InitiateError = codes "initiateerror"
message_name_text names.BadRequest = codes "badrequest"

-- the name of a kind of PDU
abbrev pub pdu_name : MmsPdu → MessageName
pdu_name (pdus.Request invoke request) = names.Request
pdu_name (pdus.Response invoke response) = names.Response
pdu_name (pdus.Error error) = names.Error
pdu_name (pdus.Report report) = names.Report
pdu_name (pdus.Reject reject) = names.Reject
pdu_name (pdus.Initiate initiate) = names.Initiate
pdu_name (pdus.Initiated initiate) = names.Initiated
pdu_name pdus.InitiateError = names.InitiateError
pdu_name pdus.Conclude = names.Conclude
pdu_name pdus.Concluded = names.Concluded

-- the name of a message above the transport
abbrev pub heard_name : Heard → MessageName
heard_name (heard.Connect connecting) = names.Connect
heard_name (heard.Accept accepting) = names.Accept
heard_name heard.Refuse = names.Refuse
heard_name heard.Finish = names.Finish
heard_name heard.Disconnect = names.Disconnect
heard_name heard.Abort = names.Abort
heard_name heard.AbortAccept = names.AbortAccept
heard_name (heard.Pdu pdu) = pdu_name pdu
heard_name (heard.BadRequest invoke) = names.BadRequest

abbrev pub layer_name : Layer → List ℕ
layer_name layers.Transport = codes "transport"
layer_name layers.Session = codes "session"
layer_name layers.Presentation = codes "presentation"
layer_name layers.Acse = codes "acse"
layer_name layers.Mms = codes "mms"

-- the name of a reason
abbrev pub why_name : Why → List ℕ
why_name whys.Short = codes "short"
why_name whys.Length = codes "length"
why_name whys.Tag = codes "tag"
why_name whys.Value = codes "value"
why_name whys.Order = codes "order"
why_name whys.Long = codes "long"
