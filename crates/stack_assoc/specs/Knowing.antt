-- What an end keeps of the messages that have come.
use Rattle.std.specs.Prelude.{◌≡◌, ℕ, Bool, true, false, not, ◌&&◌, ◌||◌, List}
use Rattle.std.specs.Prelude.{Option, Some, None, is_some, if◌then◌else◌}
use Rattle.std.specs.List.{list_any}
use Rattle.stack_assoc.specs.declared.messages.expecting.Expecting.{Expecting}
use Rattle.stack_assoc.specs.declared.messages.heard.Connecting.{Connecting}
use Rattle.stack_assoc.specs.declared.messages.expecting.Phase.{Phase}
use Rattle.stack_assoc.specs.declared.messages.expecting.Phase.TheVariants as phases
use Rattle.stack_assoc.specs.declared.messages.expecting.Side.{Side}
use Rattle.stack_assoc.specs.declared.messages.expecting.Side.TheVariants as sides
use Rattle.stack_assoc.specs.declared.wire.setup.AssociationSetup.{AssociationSetup}
use Rattle.stack_assoc.specs.Wire.Setups.{cut_size}
use Rattle.stack_assoc.specs.declared.milestones.Milestones.{Milestones}
use Rattle.stack_assoc.specs.Arrivals.{Arrival, Role, called, calling, side_of, first_in, size_in}
use Rattle.stack_assoc.specs.Arrivals.{confirm_in}
use Rattle.stack_assoc.specs.Arrivals.{connect_in, accept_in, is_refuse, is_conclude, is_concluded}
use Rattle.stack_assoc.specs.Expectations.{setup_by}

-- this end has said conclude
abbrev pub has_said : Role → Bool
has_said called = false
has_said (calling title None) = false
has_said (calling title (Some n)) = true

-- the milestones are those of these messages
pub record Knows (role : Role) (told : List Arrival) (k : Milestones) : Type 0 where
  pub side : k.side ≡ side_of role
  pub begun : k.begun ≡ is_some (first_in size_in told)
  pub confirmed : k.confirmed ≡ is_some (first_in confirm_in told)
  pub connected : k.connected ≡ is_some (first_in connect_in told)
  pub accepted : k.accepted ≡ is_some (first_in accept_in told)
  pub refused : k.refused ≡ list_any is_refuse told
  pub concluding : k.concluding ≡ list_any is_conclude told
  pub concluded : k.concluded ≡ list_any is_concluded told
  pub said : k.said ≡ has_said role

abbrev pub nothing_known : Side → Milestones
nothing_known side = record {
  side = side;
  begun = false;
  confirmed = false;
  connected = false;
  accepted = false;
  refused = false;
  concluding = false;
  concluded = false;
  said = false;
}

-- the milestones behind one message more
abbrev pub known_with : Milestones → Arrival → Milestones
known_with k t = record {
  side = k.side;
  begun = is_some (size_in t) || k.begun;
  confirmed = is_some (confirm_in t) || k.confirmed;
  connected = is_some (connect_in t) || k.connected;
  accepted = is_some (accept_in t) || k.accepted;
  refused = is_refuse t || k.refused;
  concluding = is_conclude t || k.concluding;
  concluded = is_concluded t || k.concluded;
  said = k.said;
}

-- the first size and the first connect fix what is said after them
abbrev pub sized_by : Option (Option ℕ) → Bool → AssociationSetup → AssociationSetup
sized_by None begun s = s
sized_by (Some size) true s = s
sized_by (Some size) false s = record s { size = cut_size size }

abbrev pub fixed_by : Option Connecting → Bool → AssociationSetup → AssociationSetup
fixed_by None connected s = s
fixed_by (Some c) true s = s
fixed_by (Some c) false s = setup_by s.size (Some c)

abbrev pub setup_with : Milestones → AssociationSetup → Arrival → AssociationSetup
setup_with k s t = sized_by (size_in t) k.begun (fixed_by (connect_in t) k.connected s)

abbrev pub called_phase : Bool → Bool → Phase
called_phase connected concluding = if connected
    then (if concluding then phases.Concluded else phases.Associated) else phases.Unassociated

abbrev pub calling_phase : Bool → Bool → Bool → Bool → Phase
calling_phase confirmed refused accepted concluded = if confirmed && not refused
    then (if accepted then (if concluded then phases.Concluded else phases.Associated)
    else phases.Unassociated) else phases.Ending

abbrev pub phase_by : Side → Milestones → Phase
phase_by sides.Called k = called_phase k.connected k.concluding
phase_by _ k = calling_phase k.confirmed k.refused k.accepted k.concluded

abbrev pub expecting_by : Milestones → ℕ → ℕ → Expecting
expecting_by k acse mms = record {
  side = k.side;
  phase = phase_by k.side k;
  acse = acse;
  mms = mms;
  awaited = k.said && not k.concluded;
}
