-- What may come behind the messages that a stream has told so far (ISO 8073, ISO 8327-1,
-- ISO 9506-2).
use Rattle.std.specs.Prelude.{ℕ, Bool, false, not, ◌&&◌, List, [], Option, Some, None, is_some}
use Rattle.std.specs.Prelude.{nat_le, length, if◌then◌else◌}
use Rattle.std.specs.List.{list_any}
use Rattle.stack_assoc.specs.declared.wire.setup.AssociationSetup.{AssociationSetup}
use Rattle.stack_assoc.specs.Wire.Setups.{cut_size}
use Rattle.presentation_profile.specs.Agreements.{acse_of, mms_of, results_of}
use Rattle.stack_assoc.specs.declared.messages.expecting.Expecting.{Expecting}
use Rattle.stack_assoc.specs.declared.messages.expecting.Phase.{Phase}
use Rattle.stack_assoc.specs.declared.messages.expecting.Phase.TheVariants as phases
use Rattle.stack_assoc.specs.declared.messages.heard.Connecting.{Connecting}
use Rattle.stack_assoc.specs.Arrivals.{Arrival, Role, called, calling, side_of, first_in}
use Rattle.stack_assoc.specs.Arrivals.{connect_in, accept_in, confirm_in, size_in, is_refuse}
use Rattle.stack_assoc.specs.Arrivals.{is_conclude, is_concluded}

-- at the called end none stands until a connect has come, and it is concluded once a conclude has;
-- at the calling end it ends at once where no connect confirm has come or a refuse has, none stands
-- until an accept has come, and it is concluded once a conclude response has
abbrev pub phase_after : Role → List Arrival → Phase
phase_after called told = if is_some (first_in connect_in told)
    then (if list_any is_conclude told then phases.Concluded else phases.Associated)
    else phases.Unassociated
phase_after (calling title said) told =
    if is_some (first_in confirm_in told) && not (list_any is_refuse told)
    then (if is_some (first_in accept_in told)
    then (if list_any is_concluded told then phases.Concluded else phases.Associated)
    else phases.Unassociated)
    else phases.Ending

-- what the connect fixed of what is said after it, the first one where there were several: its
-- selectors, a result for each of its offers, and the ids of the contexts of ACSE and MMS that its
-- offers agree on, else 1 and 3
abbrev pub id_or : ℕ → Option ℕ → ℕ
id_or other None = other
id_or other (Some id) = id

abbrev pub setup_by : ℕ → Option Connecting → AssociationSetup
setup_by size None = record {
  size = size;
  session = None;
  presentation = None;
  results = [];
  acse = 1;
  mms = 3;
}
setup_by size (Some c) = record {
  size = size;
  session = c.session;
  presentation = c.presentation;
  results = results_of c.contexts;
  acse = id_or 1 (acse_of c.contexts);
  mms = id_or 3 (mms_of c.contexts);
}

-- the size of TPDUs by the connect request or confirm, 1,024 where neither has come
abbrev pub size_by : Option (Option ℕ) → ℕ
size_by None = 1024
size_by (Some size) = cut_size size

abbrev pub setup_after : List Arrival → AssociationSetup
setup_after told = setup_by (size_by (first_in size_in told)) (first_in connect_in told)

-- a conclude response is awaited where conclude was said before so many messages came, and none has
-- come
abbrev pub is_concluding : Option ℕ → ℕ → Bool
is_concluding None count = false
is_concluding (Some n) count = nat_le n count

abbrev pub awaited_after : Role → List Arrival → Bool
awaited_after called told = false
awaited_after (calling title said) told =
    is_concluding said (length told) && not (list_any is_concluded told)

-- what is expected behind these messages
abbrev pub expecting_after : Role → List Arrival → Expecting
expecting_after role told = record {
  side = side_of role;
  phase = phase_after role told;
  acse = (setup_after told).acse;
  mms = (setup_after told).mms;
  awaited = awaited_after role told;
}
