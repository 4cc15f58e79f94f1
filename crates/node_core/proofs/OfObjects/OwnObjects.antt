-- What a name stands for: an object of the protocol itself, one in the table's domain, or a point
-- of the table.
use Rattle.std.proofs.Common.{◌≡◌, ℕ, Bool, true, false, not, ◌&&◌, List, [], ◌++◌, map, Option}
use Rattle.std.proofs.Common.{Some, None, bytes_eq, refl, sym, ap, ◌∙◌, append_assoc}
use Rattle.std.specs.List.{find, filter}
use Rattle.std.specs.Option.{option_map, option_or}
use Rattle.std.proofs.lemmas.Bool.{false≢true, true≢false}
use Rattle.std.proofs.lemmas.List.Folds.{find-append}
use Rattle.mms_data.specs.declared.object_name.Scope.{Scope}
use Rattle.mms_data.specs.declared.object_name.Scope.TheVariants.{Vmd, Domain, Association}
use Rattle.mms_data.specs.ObjectName.{ObjectName}
use Rattle.tase_views.specs.OwnTables.{OwnPoint, OwnTable, is_scope_of}
use Rattle.tase_views.specs.Objects.{Object, NamedObject, indication_point, special_objects}
use Rattle.tase_views.specs.Objects.{named_by, report_variables, point_object, is_named}
use Rattle.tase_views.specs.Objects.{object_named, objects, next_objects}
use Rattle.node_core.specs.Objects.Found.{TableInForce, offered, point_named, domain_objects}
use Rattle.node_core.specs.Objects.Found.{device_objects, slot_objects}
use Rattle.node_core.proofs.OfObjects.Names.{find-map, object_of}

pub or_mapped : {X Y : Type 0} (f : X → Y) (a b : Option X)
    → option_map f (option_or a b) ≡ option_or (option_map f a) (option_map f b)
or_mapped f None b = refl
or_mapped f (Some x) b = refl

object_of_point : (found : Option OwnPoint)
    → option_map (λ (o : NamedObject). o.object) (option_map point_object found)
    ≡ option_map indication_point found
object_of_point None = refl
object_of_point (Some p) = refl

-- the object of the protocol itself that a name stands for
abbrev pub special_named : OwnTable → ObjectName → Option Object
special_named table name =
    option_map (λ o. o.object) (find (is_named table name) (special_objects table))

-- the object in the table's domain, but for those and points, that a name stands for
abbrev pub named_in_domain : OwnTable → ObjectName → Option Object
named_in_domain table name =
    option_map (λ o. o.object) (find (is_named table name) (domain_objects table))

-- a table has objects of the protocol itself, those in its domain, and points
pub objects_parted : (table : OwnTable) → objects table
    ≡ special_objects table ++ domain_objects table ++ map point_object table.points
objects_parted table =
    let special : List NamedObject = special_objects table in
    let next : List NamedObject = next_objects table.slots in
    let devices : List NamedObject = device_objects table.devices in
    let slots : List NamedObject = slot_objects table.slots in
    ap (λ (front : List NamedObject). front ++ map point_object table.points)
    (ap (λ (front : List NamedObject). front ++ slots) (append_assoc special next devices)
    ∙ append_assoc special (next ++ devices) slots)

object_named-parts : (t : TableInForce) (name : ObjectName)
    → object_named (offered t) name
    ≡ option_or (option_or (special_named (offered t) name) (named_in_domain (offered t) name))
    (option_map indication_point (point_named (offered t) name))
object_named-parts t name =
    let table : OwnTable = offered t in
    let test : NamedObject → Bool = is_named table name in
    let object : NamedObject → Object = λ o. o.object in
    let special : List NamedObject = special_objects table in
    let own : List NamedObject = domain_objects table in
    let points : List NamedObject = map point_object table.points in
    ap (λ (all : List NamedObject). option_map object (find test all)) (objects_parted table)
    ∙ ap (option_map object) (find-append test (special ++ own) points)
    ∙ or_mapped object (find test (special ++ own)) (find test points)
    ∙ ap (λ (found : Option NamedObject). option_or (option_map object found)
    (option_map object (find test points))) (find-append test special own)
    ∙ ap (λ (found : Option Object). option_or found (option_map object (find test points)))
    (or_mapped object (find test special) (find test own))
    ∙ ap (λ (found : Option NamedObject). option_or
    (option_or (special_named table name) (named_in_domain table name)) (option_map object found))
    (find-map point_object test (λ p. test (point_object p)) table.points (λ k d h. refl))
    ∙ ap (option_or (option_or (special_named table name) (named_in_domain table name)))
    (object_of_point (point_named table name))

module _ (t : TableInForce) (name : ObjectName) where
  -- an object of the protocol itself, where one has the name
  pub object_named-special : (object : Object) → Some object ≡ special_named (offered t) name
      → Some object ≡ object_named (offered t) name
  object_named-special object is =
      ap (λ (o : Option Object). option_or (option_or o (named_in_domain (offered t) name))
      (option_map indication_point (point_named (offered t) name))) is
      ∙ sym (object_named-parts t name)

  -- else one in the table's domain
  pub object_named-domain : (object : Object) → None ≡ special_named (offered t) name
      → Some object ≡ named_in_domain (offered t) name
      → Some object ≡ object_named (offered t) name
  object_named-domain object none is =
      ap (λ (o : Option Object). option_or o
      (option_map indication_point (point_named (offered t) name)))
      (is ∙ ap (λ (o : Option Object). option_or o (named_in_domain (offered t) name)) none)
      ∙ sym (object_named-parts t name)

  -- else a point of the table
  pub object_named-point : (point : Option OwnPoint) → None ≡ special_named (offered t) name
      → None ≡ named_in_domain (offered t) name → point ≡ point_named (offered t) name
      → option_map indication_point point ≡ object_named (offered t) name
  object_named-point point none apart is =
      ap (option_map indication_point) is
      ∙ ap (λ (o : Option Object). option_or o
      (option_map indication_point (point_named (offered t) name)))
      (apart ∙ ap (λ (o : Option Object). option_or o (named_in_domain (offered t) name)) none)
      ∙ sym (object_named-parts t name)

-- ---- the protocol's own objects in the whole device and in the domain

-- those in a scope that has a name
abbrev pub special_at : OwnTable → Scope → List ℕ → Option NamedObject
special_at table scope item =
    find (λ o. is_scope_of table scope o.vmd && bytes_eq o.item item) (special_objects table)

pub special_at-device : (table : OwnTable) (scope : Scope) (item : List ℕ) (found : Option Object)
    → is_scope_of table scope true ≡ true
    → found ≡ object_of (find (λ o. o.vmd && bytes_eq o.item item) (special_objects table))
    → found ≡ object_of (special_at table scope item)
special_at-device table Vmd item found e is = is
special_at-device table (Domain domain) item found e is = absurd (false≢true e)
special_at-device table Association item found e is = absurd (false≢true e)

pub special_at-domain : (table : OwnTable) (scope : Scope) (item : List ℕ) (found : Option Object)
    → is_scope_of table scope false ≡ true
    → found ≡ object_of (find (λ o. not o.vmd && bytes_eq o.item item) (special_objects table))
    → found ≡ object_of (special_at table scope item)
special_at-domain table Vmd item found e is = absurd (false≢true e)
special_at-domain table (Domain domain) item found e is = rw e is
special_at-domain table Association item found e is = absurd (false≢true e)

pub special_at-nowhere : (table : OwnTable) (scope : Scope) (item : List ℕ)
    → is_scope_of table scope true ≡ false → is_scope_of table scope false ≡ false
    → None ≡ object_of (special_at table scope item)
special_at-nowhere table Vmd item e f = absurd (true≢false e)
special_at-nowhere table (Domain domain) item e f = rw f refl
special_at-nowhere table Association item e f = refl

-- the names of those in a scope
abbrev pub specials_in : OwnTable → Scope → List (List ℕ)
specials_in table scope =
    map (λ o. o.item) (filter (λ o. is_scope_of table scope o.vmd) (special_objects table))

pub specials_in-device : (table : OwnTable) (scope : Scope) → is_scope_of table scope true ≡ true
    → specials_in table scope ≡ map (λ o. o.item) (filter (λ o. o.vmd) (special_objects table))
specials_in-device table Vmd e = refl
specials_in-device table (Domain domain) e = absurd (false≢true e)
specials_in-device table Association e = absurd (false≢true e)

pub specials_in-domain : (table : OwnTable) (scope : Scope) → is_scope_of table scope false ≡ true
    → specials_in table scope
    ≡ map (λ o. o.item) (filter (λ o. not o.vmd) (special_objects table))
specials_in-domain table Vmd e = absurd (false≢true e)
specials_in-domain table (Domain domain) e = rw e refl
specials_in-domain table Association e = absurd (false≢true e)

pub specials_in-nowhere : (table : OwnTable) (scope : Scope) → is_scope_of table scope true ≡ false
    → is_scope_of table scope false ≡ false → specials_in table scope ≡ []
specials_in-nowhere table Vmd e f = absurd (true≢false e)
specials_in-nowhere table (Domain domain) e f = rw f refl
specials_in-nowhere table Association e f = refl

-- the report variables of both scopes are found alike
abbrev in_domain : NamedObject → NamedObject
in_domain o = named_by false o.item o.object

found_in_domain : (found : Option NamedObject)
    → option_map (λ (o : NamedObject). o.object) (option_map in_domain found)
    ≡ option_map (λ (o : NamedObject). o.object) found
found_in_domain None = refl
found_in_domain (Some o) = refl

pub reports_alike : (item : List ℕ)
    → option_map (λ (o : NamedObject). o.object)
    (find (λ o. bytes_eq o.item item) (report_variables false))
    ≡ option_map (λ (o : NamedObject). o.object)
    (find (λ o. bytes_eq o.item item) (report_variables true))
reports_alike item =
    let test : NamedObject → Bool = λ o. bytes_eq o.item item in
    ap (option_map (λ (o : NamedObject). o.object))
    (find-map in_domain test test (report_variables true) (λ k d h. refl))
    ∙ found_in_domain (find test (report_variables true))
