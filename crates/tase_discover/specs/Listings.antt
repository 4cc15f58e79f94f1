-- What a peer offers, as it is listed, and held against the table by which it should offer
-- (ISO 9506-2, GetNameList and GetVariableAccessAttributes; what differs is this project's own).
use Rattle.std.specs.Prelude.{ℕ, ◌+◌, ◌-◌, nat_lt, Bool, true, false, not, ◌&&◌, if◌then◌else◌}
use Rattle.std.specs.Prelude.{List, [], ◌∷◌, ◌++◌, length, map, flat_map, filter, take, zip}
use Rattle.std.specs.Prelude.{slice_get, Option, Some, None, is_some, codes, option_map}
use Rattle.std.specs.Prelude.{option_and_then}
use Rattle.std.specs.List.{list_any}
use Rattle.std.specs.Option.{option_map_or}
use Rattle.mms_data.specs.declared.object_name.Scope.{Scope}
use Rattle.mms_data.specs.declared.object_name.Scope.TheVariants.{Vmd, Domain}
use Rattle.mms_data.specs.ObjectName.{ObjectName, same_scope, same_name}
use Rattle.mms_data.specs.Text.Texts.{name_text}
use Rattle.mms_data.specs.Types.TypeShape.{TypeShape}
use Rattle.mms_data.specs.Types.SameShape.{same_shape}
use Rattle.mms_data.specs.Types.ShapeTexts.{shape_text}
use Rattle.bilateral.specs.Rows.{CentreRows, table_of}
use Rattle.tase_views.specs.declared.call.CallKind.{CallKind}
use Rattle.tase_views.specs.declared.call.CallKind.TheVariants.{NameList, TypeOf}
use Rattle.tase_views.specs.declared.call.TheConstants.{NAMED_VARIABLES}
use Rattle.tase_views.specs.declared.reply.ReplyKind.{ReplyKind}
use Rattle.tase_views.specs.declared.reply.ReplyKind.TheVariants.{NamesAre, TypeIs}
use Rattle.tase_views.specs.OwnTables.{OwnTable, own_table}
use Rattle.tase_views.specs.Objects.{objects, object_named}
use Rattle.tase_views.specs.Shapes.{shape_of}
use Rattle.tase_views.specs.NameLists.{is_after, in_order, variables_in}
use Rattle.tase_discover.specs.declared.end.Stage.{Stage}
use Rattle.tase_discover.specs.declared.end.Stage.TheVariants as stages
use Rattle.tase_discover.specs.declared.end.ListingEnd.{ListingEnd}
use Rattle.tase_discover.specs.declared.end.ListingEnd.TheVariants as endings
use Rattle.tase_discover.specs.declared.end.TheConstants.{MOST_NAMES}
use Rattle.asking_end.specs.declared.next.Next.{Next}
use Rattle.asking_end.specs.declared.next.Next.TheVariants as nexts

-- the table against which a peer is held: the peer's first
abbrev pub first_table : CentreRows → ℕ → OwnTable
first_table rows peer = own_table rows (table_of rows peer)

-- how far a listing has come: the names that came, those of the whole device first, and for each
-- whose type came whether it was the table's
pub record ListingSeen : Type 0 where
  pub stage : Stage
  pub names : List ObjectName
  pub judged : List Bool

-- what a listing has come to by a reply, and what it does then
pub record Heeded : Type 0 where
  pub seen : ListingSeen
  pub next : Next ListingEnd

abbrev pub heeded : ListingSeen → Next ListingEnd → Heeded
heeded s next = record { seen = s; next = next }

abbrev pub listing_begun : ListingSeen
listing_begun = record { stage = stages.Device; names = []; judged = [] }

-- ---- names, page by page: those of the whole device, then those of the table's domain

-- where the names are that are listed: in the whole device, or in a domain
abbrev pub scope_of : Scope → Stage → Scope
scope_of domain stages.Device = Vmd
scope_of domain stages.Domain = domain
scope_of domain stages.Types = domain

abbrev pub named_in : Scope → List ℕ → ObjectName
named_in scope item = record { scope = scope; item = item }

-- the item of a name, where it is one of this scope
abbrev pub item_in : Scope → ObjectName → Option (List ℕ)
item_in scope name = if same_scope name.scope scope then Some name.item else None

-- the item of the last name, where it is one of this scope
abbrev pub last_item : Scope → List ObjectName → Option (List ℕ)
last_item scope names = option_and_then (item_in scope) (slice_get names (length names - 1))

-- the place of the first item that doesn't stand above the one before it; `last` stands before all
abbrev pub first_fallen : Option (List ℕ) → List (List ℕ) → Option ℕ
first_fallen last [] = None
first_fallen last (item ∷ items) =
    if is_after last item then option_map (λ place. place + 1) (first_fallen (Some item) items)
    else Some 0

-- the names of these items behind those that came
abbrev pub names_with : Scope → ListingSeen → List (List ℕ) → ListingSeen
names_with domain s items =
    record s { names = s.names ++ map (named_in (scope_of domain s.stage)) items }

abbrev pub is_empty : {A : Type 0} → List A → Bool
is_empty [] = true
is_empty (x ∷ xs) = false

-- all names of a scope came: those of the domain come next, then the types, if there are names
abbrev pub types_begun : ListingSeen → Heeded
types_begun s =
    heeded (record s { stage = stages.Types })
    (if is_empty s.names then nexts.Conclude else nexts.Ask)

abbrev pub scope_ended : Stage → ListingSeen → Heeded
scope_ended stages.Device s = heeded (record s { stage = stages.Domain }) nexts.Ask
scope_ended stages.Domain s = types_begun s
scope_ended stages.Types s = types_begun s

-- a page of names in order
abbrev pub page_ordered : Scope → ListingSeen → List (List ℕ) → Bool → Heeded
page_ordered domain s items more =
    if nat_lt MOST_NAMES (length s.names + length items)
    then heeded (names_with domain s items) (nexts.End endings.TooMany)
    else (if not more then scope_ended s.stage (names_with domain s items)
    else (if is_empty items then heeded s (nexts.End endings.Other)
    else heeded (names_with domain s items) nexts.Ask))

-- a page of names, which are to rise, across pages too, to be not too many, and to be some where
-- more follow
abbrev pub page_judged : Scope → ListingSeen → List (List ℕ) → Bool → Option ℕ → Heeded
page_judged domain s items more (Some place) =
    heeded (names_with domain s (take (place + 1) items)) (nexts.End endings.Unordered)
page_judged domain s items more None = page_ordered domain s items more

abbrev pub page_heeded : Scope → ListingSeen → List (List ℕ) → Bool → Heeded
page_heeded domain s items more =
    page_judged domain s items more
    (first_fallen (last_item (scope_of domain s.stage) s.names) items)

-- ---- the types of these names, in the order in which they came

-- whether a type is that of the object which the table has by a name
abbrev pub is_type_of : OwnTable → ObjectName → TypeShape → Bool
is_type_of table name shape =
    option_map_or (λ object. same_shape (shape_of object) shape) (object_named table name) false

-- the name whose type is asked
abbrev pub name_asked : ListingSeen → Option ObjectName
name_asked s = slice_get s.names (length s.judged)

-- whether all types came
abbrev pub are_judged : ListingSeen → Bool
are_judged s = not (nat_lt (length s.judged) (length s.names))

-- behind the last type all is concluded
abbrev pub next_type : ListingSeen → Next ListingEnd
next_type s = if are_judged s then nexts.Conclude else nexts.Ask

abbrev pub type_judged : OwnTable → ListingSeen → TypeShape → Option ObjectName → Heeded
type_judged table s shape None = heeded s (nexts.End endings.Other)
type_judged table s shape (Some name) =
    let more = record s { judged = s.judged ++ is_type_of table name shape ∷ [] } in
    heeded more (next_type more)

abbrev pub type_heeded : OwnTable → ListingSeen → TypeShape → Heeded
type_heeded table s shape = type_judged table s shape (name_asked s)

-- ---- what is asked, and what a reply comes to

-- what is asked: the names that go on behind the last one, or the next type
abbrev pub asked_at : Stage → OwnTable → ListingSeen → Option CallKind
asked_at stages.Device table s =
    Some (NameList NAMED_VARIABLES Vmd (last_item Vmd s.names))
asked_at stages.Domain table s =
    Some (NameList NAMED_VARIABLES (Domain table.domain) (last_item (Domain table.domain) s.names))
asked_at stages.Types table s = option_map (λ name. TypeOf name) (name_asked s)

abbrev pub listing_call : OwnTable → ListingSeen → Option CallKind
listing_call table s = asked_at s.stage table s

-- a page answers while names are listed, and a type while types are
abbrev pub page_at : Stage → Scope → ListingSeen → List (List ℕ) → Bool → Heeded
page_at stages.Device domain s items more = page_heeded domain s items more
page_at stages.Domain domain s items more = page_heeded domain s items more
page_at stages.Types domain s items more = heeded s (nexts.End endings.Other)

abbrev pub type_at : Stage → OwnTable → ListingSeen → TypeShape → Heeded
type_at stages.Device table s shape = heeded s (nexts.End endings.Other)
type_at stages.Domain table s shape = heeded s (nexts.End endings.Other)
type_at stages.Types table s shape = type_heeded table s shape

abbrev pub reply_heeded : OwnTable → ListingSeen → ReplyKind → Heeded
reply_heeded table s (NamesAre items more) = page_at s.stage (Domain table.domain) s items more
reply_heeded table s (TypeIs shape) = type_at s.stage table s shape
reply_heeded table s _ = heeded s (nexts.End endings.Other)

-- ---- how what is offered differs from the table

-- all names that a peer should offer by the table: of the whole device, then of the domain, each in
-- the order of octets
abbrev pub items_in : OwnTable → Scope → List (List ℕ)
items_in table scope = in_order (variables_in table (objects table) scope)

abbrev pub listed_names : OwnTable → List ObjectName
listed_names table =
    map (named_in Vmd) (items_in table Vmd)
    ++ map (named_in (Domain table.domain)) (items_in table (Domain table.domain))

-- whether a name came, and with the table's type
abbrev pub came_alike : List ObjectName → List Bool → ObjectName → Bool
came_alike names judged name =
    list_any (λ came. came.1 && same_name name came.0) (zip names judged)

-- the names of the table that didn't come, or with another type: of the whole device, then of the
-- domain
abbrev pub missing_in : OwnTable → ListingSeen → Scope → List ObjectName
missing_in table s scope =
    map (named_in scope)
    (filter (λ item. not (came_alike s.names s.judged (named_in scope item))) (items_in table scope))

abbrev pub missing : OwnTable → ListingSeen → List ObjectName
missing table s = missing_in table s Vmd ++ missing_in table s (Domain table.domain)

-- the names that came and that the table doesn't have
abbrev pub extra : OwnTable → ListingSeen → List ObjectName
extra table s = filter (λ name. not (is_some (object_named table name))) s.names

abbrev pub nothing_differs : OwnTable → ListingSeen → Bool
nothing_differs table s = is_empty (missing table s) && is_empty (extra table s)

abbrev pub is_types : Stage → Bool
is_types stages.Types = true
is_types _ = false

-- whether all names and types came
abbrev pub is_done : ListingSeen → Bool
is_done s = is_types s.stage && are_judged s

-- whether all came, nothing is missing, and nothing is extra
abbrev pub is_same : OwnTable → ListingSeen → Bool
is_same table s = is_done s && nothing_differs table s

-- ---- what is shown

abbrev pub type_line : ObjectName → TypeShape → List ℕ
type_line name shape = name_text name ++ 32 ∷ shape_text shape ++ 10 ∷ []

abbrev pub missing_line : ObjectName → List ℕ
missing_line name = codes "missing " ++ name_text name ++ 10 ∷ []

abbrev pub extra_line : ObjectName → List ℕ
extra_line name = codes "extra " ++ name_text name ++ 10 ∷ []

abbrev pub differences : OwnTable → ListingSeen → List ℕ
differences table s = flat_map missing_line (missing table s) ++ flat_map extra_line (extra table s)

-- the differences are shown where nothing is asked any more
abbrev pub closing_at : Next ListingEnd → OwnTable → ListingSeen → List ℕ
closing_at nexts.Conclude table s = differences table s
closing_at _ table s = []

-- a name with its type
abbrev pub type_shown_at : Stage → ListingSeen → TypeShape → List ℕ
type_shown_at stages.Device s shape = []
type_shown_at stages.Domain s shape = []
type_shown_at stages.Types s shape =
    option_map_or (λ name. type_line name shape) (name_asked s) []

abbrev pub type_shown : ListingSeen → ReplyKind → List ℕ
type_shown s (TypeIs shape) = type_shown_at s.stage s shape
type_shown s _ = []

abbrev pub reply_shown : OwnTable → ListingSeen → ReplyKind → List ℕ
reply_shown table s reply =
    let h = reply_heeded table s reply in
    type_shown s reply ++ closing_at h.next table h.seen
