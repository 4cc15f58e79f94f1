-- What the events of the load run's scenario weigh at most.
use Rattle.std.proofs.Common.{◌≡◌, ℕ, ◌+◌, ◌*◌, ◌%◌, ◌^◌, ◌<◌, ◌≤◌, Bool, true, false, ◌==◌, List}
use Rattle.std.proofs.Common.{[], ◌∷◌, ◌++◌, length, refl, ap, arith}
use Rattle.std.specs.Prelude.{decimal, codes}
use Rattle.std.specs.List.{flat_map, sum_by}
use Rattle.std.proofs.lemmas.List.{length-append}
use Rattle.std.proofs.lemmas.List.Concat.{length-flat_map}
use Rattle.std.proofs.lemmas.List.Sums.{sum_by-le}
use Rattle.plain_text.specs.Octets.{hex_text}
use Rattle.mms_data.specs.ObjectName.{ObjectName}
use Rattle.mms_data.specs.Text.Texts.{name_text, data_text}
use Rattle.bilateral.specs.Words.Words.{is_identifier}
use Rattle.tase_views.specs.declared.event.EventKind.{EventKind}
use Rattle.tase_views.specs.declared.event.EventKind.TheVariants.{Open, Request, Take, Update, Tick}
use Rattle.tase_views.specs.EventTexts.{event_text, value_text, next_name}
use Rattle.tase_views.specs.Weights.{weight}
use Rattle.commands.specs.declared.load.tables.TheConstants.{POINTS, PEERS}
use Rattle.commands.specs.declared.load.scenario.TheConstants.{MEMBERS}
use Rattle.commands.specs.Load.Generated.{seen_point}
use Rattle.commands.specs.Load.Rows.{list_below}
use Rattle.commands.proofs.OfLoad.LoadRows.{length-list_below, all_below, few_digits}
use Rattle.commands.proofs.OfLoad.LoadPast.{value_of_round}
use Rattle.commands.proofs.OfLoad.LoadCalls.{own_name, name_text-is, member_of, define_call}
use Rattle.commands.proofs.OfLoad.LoadCalls.{next_set_call, enable_call, wish_by, wish_text-is}
use Rattle.commands.proofs.OfLoad.LoadCalls.{behind_set, point_identifier}

-- no more than the length of its text
light : (event : EventKind) (most : ℕ) → length (event_text event) ≤ most → weight event ≤ most
light event most few = omega (arith, few)

pub open_light : (k : ℕ) → k < PEERS → weight (Open k) ≤ 30
open_light k known = light (Open k) 30 (omega (arith, few_digits k (omega (arith, known))))

pub take_light : weight Take ≤ 10
take_light = light Take 10 (omega arith)

pub tick_light : (now : ℕ) → now ≤ 2000000 → weight (Tick now) ≤ 30
tick_light now early = light (Tick now) 30 (omega (arith, few_digits now (omega (arith, early))))

pub update_light : (m r : ℕ) → m < POINTS → r ≤ 2000 → weight (Update m (value_of_round r)) ≤ 100
update_light m r below few =
    light (Update m (value_of_round r)) 100 (simp length-append (omega (
      arith,
      few_digits m (omega (arith, below)),
      few_digits r (omega (arith, few)),
      few_digits 0 (omega arith),
    )))

-- a name of a peer's domain
name_length : (k : ℕ) (item : List ℕ) → k < PEERS → is_identifier item ≡ true
    → length (name_text (own_name k item)) ≤ 22 + length item
name_length k item known identifier =
    omega (
      arith,
      ap length (name_text-is k item known identifier),
      length-append (decimal k) (47 ∷ item),
      few_digits k (omega (arith, known)),
    )

members_length : (k : ℕ) → k < PEERS
    → length (flat_map next_name (list_below (member_of k) MEMBERS)) ≤ 4400
members_length k known =
    let names = list_below (member_of k) MEMBERS in
    omega (
      arith,
      length-flat_map next_name names,
      sum_by-le (λ (name : ObjectName). length (next_name name)) 44 names
          (all_below (λ (name : ObjectName). length (next_name name) ≤ 44) (member_of k) MEMBERS
          (λ j below. omega (
            arith,
            name_length k (80 ∷ decimal (seen_point k j)) known (point_identifier k j),
            few_digits (seen_point k j) (omega arith),
          ))),
      length-list_below (member_of k) MEMBERS,
    )

define_length : (name members : List ℕ) → length name ≤ 24 → length members ≤ 4400
    → length (codes "call " ++ (codes "define" ++ 32 ∷ name ++ members)) ≤ 4500
define_length name members short few = simp length-append (omega (arith, short, few))

pub define_light : (k : ℕ) → k < PEERS → weight (Request (define_call k)) ≤ 4500
define_light k known =
    light (Request (define_call k)) 4500
    (define_length (name_text (own_name k (codes "DS")))
    (flat_map next_name (list_below (member_of k) MEMBERS)) (name_length k (codes "DS") known refl)
    (members_length k known))

read_length : (name : List ℕ) → length name ≤ 41
    → length (codes "call " ++ (codes "read" ++ (32 ∷ name ++ []))) ≤ 100
read_length name short = simp length-append (omega (arith, short))

pub next_set_light : (k : ℕ) → k < PEERS → weight (Request (next_set_call k)) ≤ 100
next_set_light k known =
    light (Request (next_set_call k)) 100
    (read_length (name_text (own_name k (codes "Next_DSTransfer_Set")))
    (name_length k (codes "Next_DSTransfer_Set") known refl))

behind_length : (periodic : Bool) → length (behind_set periodic) ≤ 40
behind_length true = omega arith
behind_length false = omega arith

wish_length : (periodic : Bool) (k : ℕ) → k < PEERS
    → length (data_text (wish_by periodic (68 ∷ decimal k))) ≤ 80
wish_length periodic k known =
    omega (
      arith,
      ap length (wish_text-is periodic k known),
      length-append (decimal k) (codes ",vDS" ++ behind_set periodic),
      few_digits k (omega (arith, known)),
      behind_length periodic,
    )

write_length : (name value : List ℕ) → length name ≤ 30 → length value ≤ 80
    → length (codes "call " ++ (codes "write" ++ (32 ∷ name ++ 61 ∷ value ++ []))) ≤ 200
write_length name value short few = simp length-append (omega (arith, short, few))

pub enable_light : (k : ℕ) → k < PEERS → weight (Request (enable_call k)) ≤ 200
enable_light k known =
    light (Request (enable_call k)) 200
    (write_length (name_text (own_name k (codes "DSTrans1")))
    (data_text (wish_by ((k % 2) == 0) (68 ∷ decimal k)))
    (name_length k (codes "DSTrans1") known refl) (wish_length ((k % 2) == 0) k known))
