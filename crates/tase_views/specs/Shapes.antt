-- The types of the objects that there are for a peer (ISO 9506-2, GetVariableAccessAttributes; the
-- widths are this project's profile).
use Rattle.std.specs.Prelude.{◌∷◌, List, [], map, Option, Some, None}
use Rattle.tase_points.specs.declared.kind.Kind.{Kind}
use Rattle.tase_points.specs.declared.kind.Kind.TheVariants.{State, Discrete, Real}
use Rattle.tase_points.specs.declared.layout.Component.{Component}
use Rattle.tase_points.specs.declared.layout.Component.TheVariants.{Value, Time, Millis, Flags, Cov}
use Rattle.mms_data.specs.Types.TypeShape.{TypeShape, bool_shape, bits_shape, int_shape}
use Rattle.mms_data.specs.Types.TypeShape.{uint_shape, real_shape, text_shape, structure_shape}
use Rattle.mms_data.specs.Types.TypeShape.{shapes_of}
use Rattle.tase_views.specs.declared.reply.ReplyKind.{ReplyKind}
use Rattle.tase_views.specs.declared.reply.ReplyKind.TheVariants.{TypeIs, Error}
use Rattle.tase_views.specs.declared.reply.TheConstants.{ACCESS_ERRORS, NON_EXISTENT}
use Rattle.tase_views.specs.OwnTables.{OwnPoint}
use Rattle.tase_views.specs.Objects.{ReportVariable, set_name, time_stamp, conditions_detected}
use Rattle.tase_views.specs.Objects.{event_code, Object, constant, next_transfer_set}
use Rattle.tase_views.specs.Objects.{report_variable, indication_point, control_point, selection}
use Rattle.tase_views.specs.Objects.{device_tag, timeout, transfer_set, transfer_set_status}
use Rattle.tase_views.specs.Objects.{name_shape}

-- a body: a state with its flags, an integer, or a real value
abbrev pub body_shape : Kind → TypeShape
body_shape State = bits_shape 8
body_shape Discrete = int_shape 32
body_shape Real = real_shape

-- one component of a point of a kind
abbrev pub component_shape : Kind → Component → TypeShape
component_shape kind Value = body_shape kind
component_shape kind Time = int_shape 32
component_shape kind Millis = int_shape 16
component_shape kind Flags = bits_shape 8
component_shape kind Cov = uint_shape 16

-- a layout of a point of a kind: one component stands bare, several as a structure in their order
abbrev pub layout_shape : Kind → List Component → TypeShape
layout_shape kind (component ∷ []) = component_shape kind component
layout_shape kind components = structure_shape (shapes_of (map (component_shape kind) components))

abbrev pub point_shape : OwnPoint → TypeShape
point_shape point = layout_shape point.kind point.layout

-- a name as data: scope, domain, item
abbrev pub set_name_shape : TypeShape
set_name_shape = structure_shape (shapes_of (int_shape 8 ∷ name_shape ∷ name_shape ∷ []))

-- a tag as data: two bits and the reason
abbrev pub tag_shape : TypeShape
tag_shape = structure_shape (shapes_of (bits_shape 2 ∷ text_shape 64 ∷ []))

-- a transfer set's parameters: the data set's name, five integers, the conditions, five booleans,
-- and the event's code
abbrev pub wish_shape : TypeShape
wish_shape = structure_shape (shapes_of
    (set_name_shape ∷ int_shape 32 ∷ int_shape 32 ∷ int_shape 32 ∷ int_shape 32 ∷ int_shape 32
    ∷ bits_shape 5 ∷ bool_shape ∷ bool_shape ∷ bool_shape ∷ bool_shape ∷ bool_shape
    ∷ int_shape 16 ∷ []))

-- what a report tells of itself
abbrev pub report_shape : ReportVariable → TypeShape
report_shape set_name = set_name_shape
report_shape time_stamp = int_shape 32
report_shape conditions_detected = bits_shape 5
report_shape event_code = int_shape 16

-- the type of an object, whether or not the peer may read it
abbrev pub shape_of : Object → TypeShape
shape_of (constant value shape) = shape
shape_of next_transfer_set = set_name_shape
shape_of (report_variable v) = report_shape v
shape_of (indication_point point) = point_shape point
shape_of (control_point d) = int_shape 16
shape_of (selection d) = int_shape 16
shape_of (device_tag d) = tag_shape
shape_of (timeout d) = int_shape 16
shape_of (transfer_set s) = wish_shape
shape_of (transfer_set_status s) = bool_shape

-- the reply to a request for a type: a name that stands for nothing has none
abbrev pub type_replied : Option Object → ReplyKind
type_replied None = Error ACCESS_ERRORS NON_EXISTENT
type_replied (Some object) = TypeIs (shape_of object)
