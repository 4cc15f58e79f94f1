-- What an end is once it has said something.
use Rattle.std.specs.Prelude.{ℕ, Bool, true, false, List, length, Option, Some, None}
use Rattle.mms_services.specs.declared.pdu.MmsPdu.{MmsPdu}
use Rattle.stack_assoc.specs.declared.messages.expecting.Side.{Side}
use Rattle.stack_assoc.specs.declared.messages.expecting.Side.TheVariants as sides
use Rattle.stack_assoc.specs.declared.messages.fault.StackFault.{StackFault}
use Rattle.stack_assoc.specs.Wire.Tsdus.{finish_tsdu, release_tsdu}
use Rattle.stack_assoc.specs.declared.milestones.Milestones.{Milestones}
use Rattle.stack_assoc.specs.declared.end_state.EndState.{EndState}
use Rattle.stack_assoc.specs.declared.end_state.EndState.TheVariants as standings
use Rattle.stack_assoc.specs.Arrivals.{Arrival, Role, calling, is_conclude_pdu}
use Rattle.stack_assoc.specs.Courses.{Course}

abbrev pub with_standing : EndState → Course → Course
with_standing standing v = record v { standing = standing }

-- conclude of the calling end is remembered
abbrev pub known_concluding : Side → Milestones → Milestones
known_concluding sides.Calling k = record k { said = true }
known_concluding _ k = k

abbrev pub known_said : Bool → Milestones → Milestones
known_said true k = known_concluding k.side k
known_said false k = k

abbrev pub says_conclude : MmsPdu → Bool
says_conclude pdu = is_conclude_pdu (Some pdu)

abbrev pub with_said : MmsPdu → Course → Course
with_said pdu v = record v { known = known_said (says_conclude pdu) v.known }

-- the first conclude of the calling end was said after so many messages
abbrev pub role_concluding : Role → List Arrival → Role
role_concluding (calling title None) told = calling title (Some (length told))
role_concluding role told = role

abbrev pub role_by : Bool → Role → List Arrival → Role
role_by true role told = role_concluding role told
role_by false role told = role

abbrev pub role_said : Role → List Arrival → MmsPdu → Role
role_said role told pdu = role_by (says_conclude pdu) role told

-- the calling end may ask for the release; the called end may answer once that was read
abbrev pub may_leave : Side → EndState → Option StackFault → Bool
may_leave sides.Called standings.Finishing None = true
may_leave sides.Calling standings.Accepted None = true
may_leave _ _ _ = false

abbrev pub may_release : Course → Bool
may_release v = may_leave v.known.side v.standing v.fault

abbrev pub left_by : Side → EndState → EndState
left_by sides.Called s = standings.Closed
left_by _ s = s

abbrev pub course_released : Course → Course
course_released v = record v { standing = left_by v.known.side v.standing }

abbrev pub leaving : Side → ℕ → List ℕ
leaving sides.Called acse = release_tsdu acse
leaving _ acse = finish_tsdu acse

abbrev pub release_said : Course → List ℕ
release_said v = leaving v.known.side v.setup.acse
