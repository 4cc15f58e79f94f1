-- One TPKT more.
use Rattle.std.specs.Prelude.{◌≡◌, ◌+◌, ◌-◌, ◌≤◌, [], length, drop, Some, None, Ok, Err}
use Rattle.tpkt_cotp.specs.declared.fault.CotpFault.{CotpFault}
use Rattle.tpkt_cotp.specs.declared.limits.TheConstants.{TPKT_LIMIT}
use Rattle.tpkt_cotp.specs.declared.walk.Step.{Step}
use Rattle.tpkt_cotp.specs.declared.walk.Step.TheVariants as steps
use Rattle.tpkt_cotp.specs.declared.turn.Turn.TheVariants as turns
use Rattle.tpkt_cotp.specs.Tpdus.{Tpkt}
use Rattle.tpkt_cotp.specs.Readings.{tpkt_in}
use Rattle.tpkt_cotp.specs.Streams.{Message, stream_place, message_of, part_after}
use Rattle.tpkt_cotp.specs.Seen.{message_seen}
use Rattle.tpkt_cotp.specs.Lines.{Line}

-- where the line stands behind a TPKT
abbrev pub behind_part : Line → Tpkt → Line
behind_part t p = record t {
  turn = turns.Transfer;
  place = stream_place (t.place + p.size);
  held = part_after t.held p.tpdu;
  unread = drop p.size t.unread;
}

abbrev pub behind_message : Line → Tpkt → Line
behind_message t p = record t {
  turn = turns.Transfer;
  place = stream_place (t.place + p.size);
  start = stream_place (t.place + p.size);
  held = [];
  unread = drop p.size t.unread;
}

pub record StepsPart (old new : Line) : Type 0 where
  pub tpkt : Tpkt
  pub read : tpkt_in old.turn (length old.held) old.unread ≡ Ok (Some tpkt)
  pub ends : message_of old.start old.held tpkt.tpdu ≡ None
  pub is : new ≡ behind_part old tpkt

pub record StepsMessage (old : Line) (m : Message) (new : Line) : Type 0 where
  pub tpkt : Tpkt
  pub read : tpkt_in old.turn (length old.held) old.unread ≡ Ok (Some tpkt)
  pub ends : message_of old.start old.held tpkt.tpdu ≡ Some m
  pub is : new ≡ behind_message old tpkt

pub record StepsNowhere (old new : Line) : Type 0 where
  pub read : tpkt_in old.turn (length old.held) old.unread ≡ Ok None
  pub is : new ≡ old
  pub few : length old.unread ≤ TPKT_LIMIT - 1

pub record StepsBroken (old : Line) (f : CotpFault) (new : Line) : Type 0 where
  pub broken : CotpFault
  pub read : tpkt_in old.turn (length old.held) old.unread ≡ Err broken
  pub fault : f ≡ record { place = stream_place (old.place + broken.place); why = broken.why }
  pub is : new ≡ record old { unread = []; fault = Some f }

abbrev pub Steps : Line → Step → Line → Type 0
Steps old steps.Part new = StepsPart old new
Steps old (steps.Message m) new = StepsMessage old (message_seen m) new
Steps old steps.Rest new = StepsNowhere old new
Steps old (steps.Broken f) new = StepsBroken old f new
