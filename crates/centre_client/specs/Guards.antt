-- When the value of a device that is to be selected before is written.
use Rattle.std.specs.Prelude.{◌≡◌, true, false, List, [], ◌∷◌, Some}
use Rattle.mms_services.specs.declared.pdu.MmsPdu.{MmsPdu}
use Rattle.stack_assoc.specs.declared.input.StackIn.{StackIn}
use Rattle.stack_assoc.specs.declared.input.StackIn.TheVariants.{Pdu}
use Rattle.bilateral.specs.Rows.{CentreRows, device_of}
use Rattle.tase_views.specs.declared.reply.ReplyKind.{ReplyKind}
use Rattle.tase_conn.specs.Map.Replied.{reply_in, answered_number}
use Rattle.asking_end.specs.declared.asker.Asker.{Asker}
use Rattle.asking_end.specs.declared.asker.Awaiting.TheVariants as awaits
use Rattle.asking_end.specs.Asking.{is_awaited, number_awaited}
use Rattle.centre_client.specs.declared.script.Step.{Step}
use Rattle.centre_client.specs.declared.script.StepKind.{StepKind}
use Rattle.centre_client.specs.declared.script.StepKind.TheVariants.{Operate}
use Rattle.centre_client.specs.declared.play.Doing.TheVariants as doings
use Rattle.centre_client.specs.Plays.{number_answered, checkback_of}
use Rattle.centre_client.specs.Scripted.{Scripted}

-- a step that operates a device which isn't direct
abbrev pub IsGuardedKind : CentreRows → StepKind → Type 0
IsGuardedKind rows (Operate device value) = (device_of rows device).direct ≡ false
IsGuardedKind rows kind = ⊥

abbrev pub IsGuardedFirst : CentreRows → List Step → Type 0
IsGuardedFirst rows [] = ⊥
IsGuardedFirst rows (step ∷ more) = IsGuardedKind rows step.kind

-- it awaits the reply to the write of such a step
pub record AwaitsWrite (p : Asker Scripted) : Type 0 where
  pub reply : p.awaiting ≡ awaits.Reply
  pub doing : p.agenda.play.doing ≡ doings.Reply
  pub step : IsGuardedFirst p.agenda.rows p.agenda.play.rest

-- the reply to the select of the same step was heard, and its one outcome is the table's checkback
pub record IsCheckedBack (input : StackIn) (before after : Asker Scripted) : Type 0 where
  pub pdu : MmsPdu
  pub is : input ≡ Pdu pdu
  pub reply : ReplyKind
  pub told : reply_in pdu ≡ Some reply
  pub awaited : is_awaited (number_awaited before) (answered_number pdu) ≡ true
  pub select : before.agenda.play.doing ≡ doings.Select
  pub step : after.agenda.play.rest ≡ before.agenda.play.rest
  pub answer : number_answered (checkback_of before.agenda.rows before.agenda.play.rest) reply
      ≡ Some (checkback_of before.agenda.rows before.agenda.play.rest)
