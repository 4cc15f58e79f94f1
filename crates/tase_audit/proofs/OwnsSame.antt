-- The tests of what tables say of a peer pass exactly where it is the same.
use Rattle.std.proofs.Common.{◌≡◌, ◌↔◌, ℕ, Bool, true, IsTrue, List, Option, Some, None, refl, sym}
use Rattle.std.proofs.Common.{◌∙◌, subst}
use Rattle.std.specs.Prelude.{bytes_eq}
use Rattle.std.specs.Bool.{Decides}
use Rattle.std.specs.Cmp.{booleans_Decides}
use Rattle.std.specs.Cmp.Lexicographic.{pointwise}
use Rattle.std.specs.Option.{option_eq}
use Rattle.std.proofs.lemmas.Bool.{and_parts, and_from}
use Rattle.std.proofs.lemmas.Bool.Decides.{Decides-eqb, Decides-int_eq}
use Rattle.std.proofs.lemmas.Slice.Eq.{slice_eq-Decides, bytes_eq-Decides}
use Rattle.tase_points.proofs.Same.{same_kind-true, same_kind-same, same_component-true}
use Rattle.tase_points.proofs.Same.{same_component-same}
use Rattle.tase_points.specs.Same.{same_component}
use Rattle.sbo_device.specs.declared.kind.CommandKind.{CommandKind}
use Rattle.sbo_device.specs.declared.kind.CommandKind.TheVariants.{Command, Setpoint}
use Rattle.bilateral.specs.declared.rows.DeviceRow.{DeviceRow}
use Rattle.bilateral.specs.Rows.{CentreRows, place_of_peer}
use Rattle.tase_views.specs.OwnTables.{OwnPoint, OwnDevice, OwnTable}
use Rattle.tase_audit.specs.Owns.{PeerTerms, same_command, same_device_row, same_own_device}
use Rattle.tase_audit.specs.Owns.{same_own_point, same_own_table, own_terms, same_terms}
use Rattle.tase_audit.specs.Owns.{same_owns, same_owns_at, HaveSameOwns}

module _ {A : Type 0} (E : A → A → Bool) (is : (a b : A) → E a b ≡ true → a ≡ b)
    (same : (a : A) → E a a ≡ true) where
  decided : (a b : A) → Decides (E a b) (a ≡ b)
  decided a b = (is a b, λ e. subst (λ (z : A). E a z ≡ true) e (same a))

  list_is : (xs ys : List A) → pointwise E xs ys ≡ true → xs ≡ ys
  list_is xs ys = (slice_eq-Decides decided xs ys (pointwise E xs ys) refl).0

  list_same : (xs : List A) → pointwise E xs xs ≡ true
  list_same xs = (slice_eq-Decides decided xs xs (pointwise E xs xs) refl).1 refl

text_is : (a b : List ℕ) → bytes_eq a b ≡ true → a ≡ b
text_is a b = (bytes_eq-Decides a b).0

text_same : (a : List ℕ) → bytes_eq a a ≡ true
text_same a = (bytes_eq-Decides a a).1 refl

title_is : (a b : Option (List ℕ)) → option_eq bytes_eq a b ≡ true → a ≡ b
title_is None None t = refl
title_is None (Some b) t = absurd cc
title_is (Some a) None t = absurd cc
title_is (Some a) (Some b) t = let same = text_is a b t in λ i. Some (same i)

title_same : (a : Option (List ℕ)) → option_eq bytes_eq a a ≡ true
title_same None = refl
title_same (Some a) = text_same a

command_is : (a b : CommandKind) → same_command a b ≡ true → a ≡ b
command_is Command Command t = refl
command_is Command (Setpoint least most) t = absurd cc
command_is (Setpoint low high) Command t = absurd cc
command_is (Setpoint low high) (Setpoint least most) t =
    let parts = and_parts _ _ t in
    let first = (Decides-int_eq low least).0 parts.0 in
    let second = (Decides-int_eq high most).0 parts.1 in λ i. Setpoint (first i) (second i)

command_same : (a : CommandKind) → same_command a a ≡ true
command_same Command = refl
command_same (Setpoint low high) =
    and_from _ _ ((Decides-int_eq low low).1 refl) ((Decides-int_eq high high).1 refl)

row_is : (a b : DeviceRow) → same_device_row a b ≡ true → a ≡ b
row_is a b t =
    let of_name = and_parts _ _ t in
    let of_kind = and_parts _ _ of_name.1 in
    let of_direct = and_parts _ _ of_kind.1 in
    let of_span = and_parts _ _ of_direct.1 in
    let name = text_is a.name b.name of_name.0 in
    let kind = command_is a.kind b.kind of_kind.0 in
    let direct = (booleans_Decides a.direct b.direct).0 of_direct.0 in
    let checkback = (Decides-int_eq a.checkback b.checkback).0 of_span.0 in
    let span = (Decides-eqb a.span b.span).0 of_span.1 in
    λ i. record {
      name = name i;
      kind = kind i;
      direct = direct i;
      checkback = checkback i;
      span = span i;
    }

row_same : (a : DeviceRow) → same_device_row a a ≡ true
row_same a =
    and_from _ _ (text_same a.name)
    (and_from _ _ (command_same a.kind)
    (and_from _ _ ((booleans_Decides a.direct a.direct).1 refl)
    (and_from _ _ ((Decides-int_eq a.checkback a.checkback).1 refl)
    ((Decides-eqb a.span a.span).1 refl))))

device_is : (a b : OwnDevice) → same_own_device a b ≡ true → a ≡ b
device_is a b t =
    let parts = and_parts _ _ t in
    let row = row_is a.row b.row parts.0 in
    let tag = (booleans_Decides a.tag b.tag).0 parts.1 in
    λ i. record { row = row i; tag = tag i }

device_same : (a : OwnDevice) → same_own_device a a ≡ true
device_same a = and_from _ _ (row_same a.row) ((booleans_Decides a.tag a.tag).1 refl)

point_is : (a b : OwnPoint) → same_own_point a b ≡ true → a ≡ b
point_is a b t =
    let of_name = and_parts _ _ t in
    let of_kind = and_parts _ _ of_name.1 in
    let of_vmd = and_parts _ _ of_kind.1 in
    let name = text_is a.name b.name of_name.0 in
    let kind = same_kind-true a.kind b.kind of_kind.0 in
    let vmd = (booleans_Decides a.vmd b.vmd).0 of_vmd.0 in
    let layout = list_is same_component same_component-true same_component-same a.layout b.layout
    of_vmd.1 in
    λ i. record { name = name i; kind = kind i; vmd = vmd i; layout = layout i }

point_same : (a : OwnPoint) → same_own_point a a ≡ true
point_same a =
    and_from _ _ (text_same a.name)
    (and_from _ _ (same_kind-same a.kind)
    (and_from _ _ ((booleans_Decides a.vmd a.vmd).1 refl)
    (list_same same_component same_component-true same_component-same a.layout)))

table_is : (a b : OwnTable) → same_own_table a b ≡ true → a ≡ b
table_is a b t =
    let of_domain = and_parts _ _ t in
    let of_id = and_parts _ _ of_domain.1 in
    let of_points = and_parts _ _ of_id.1 in
    let of_devices = and_parts _ _ of_points.1 in
    let of_sets = and_parts _ _ of_devices.1 in
    let domain = text_is a.domain b.domain of_domain.0 in
    let id = text_is a.id b.id of_id.0 in
    let points = list_is same_own_point point_is point_same a.points b.points of_points.0 in
    let devices = list_is same_own_device device_is device_same a.devices b.devices
    of_devices.0 in
    let slots = (Decides-eqb a.slots b.slots).0 of_sets.0 in
    let sets = (Decides-eqb a.sets b.sets).0 of_sets.1 in
    λ i. record {
      domain = domain i;
      id = id i;
      points = points i;
      devices = devices i;
      slots = slots i;
      sets = sets i;
    }

table_same : (a : OwnTable) → same_own_table a a ≡ true
table_same a =
    and_from _ _ (text_same a.domain)
    (and_from _ _ (text_same a.id)
    (and_from _ _ (list_same same_own_point point_is point_same a.points)
    (and_from _ _ (list_same same_own_device device_is device_same a.devices)
    (and_from _ _ ((Decides-eqb a.slots a.slots).1 refl)
    ((Decides-eqb a.sets a.sets).1 refl)))))

pub terms_are : (a b : PeerTerms) → same_terms a b ≡ true → a ≡ b
terms_are a b t =
    let of_title = and_parts _ _ t in
    let of_pending = and_parts _ _ of_title.1 in
    let title = title_is a.title b.title of_title.0 in
    let pending = (Decides-eqb a.pending b.pending).0 of_pending.0 in
    let tables = list_is same_own_table table_is table_same a.tables.tables b.tables.tables
    of_pending.1 in
    λ i. record { title = title i; pending = pending i; tables = record { tables = tables i } }

pub terms_same : (a : PeerTerms) → same_terms a a ≡ true
terms_same a =
    and_from _ _ (title_same a.title)
    (and_from _ _ ((Decides-eqb a.pending a.pending).1 refl)
    (list_same same_own_table table_is table_same a.tables.tables))

told_at : (one other : CentreRows) (key : List ℕ) (p q : Option ℕ) → place_of_peer one key ≡ p
    → place_of_peer other key ≡ q → same_owns_at one other p q ≡ true
    → HaveSameOwns one other key
told_at one other key None q is too e = absurd cc
told_at one other key (Some peer) None is too e = absurd cc
told_at one other key (Some peer) (Some place) is too e = record {
  peer = peer;
  place = place;
  there = is;
  too = too;
  terms = terms_are (own_terms one peer) (own_terms other place) e;
}

-- the test passes exactly where both centres have the peer, and say the same of it
pub owns_told : (one other : CentreRows) (key : List ℕ) (result : Bool)
    → result ≡ same_owns one other key → IsTrue result ↔ HaveSameOwns one other key
owns_told one other key result is = (
  λ e.
      told_at one other key (place_of_peer one key) (place_of_peer other key) refl refl
      (sym is ∙ e),
  λ same.
      is ∙ (λ i. same_owns_at one other (same.there i) (same.too i))
      ∙ subst (λ (t : PeerTerms). same_terms (own_terms one same.peer) t ≡ true) same.terms
      (terms_same (own_terms one same.peer)),
)
