-- Reports that are made by what is kept of a transfer set are those of what its view shows.
use Rattle.std.proofs.Common.{◌≡◌, ◌==◌, ◌<◌, ◌+◌, ◌%◌, ℕ, Bool, true, false, not, ◌&&◌, ◌||◌, List}
use Rattle.std.proofs.Common.{[], ◌∷◌, ◌++◌, map, length, reverse, Option, is_some, refl}
use Rattle.std.proofs.Common.{sym, ap, ◌∙◌, arith, eq-eqb}
use Rattle.std.specs.Prelude.{if◌then◌else◌, flat_map}
use Rattle.std.specs.List.{All, filter}
use Rattle.std.proofs.lemmas.Bool.{false≢true}
use Rattle.std.proofs.lemmas.Grind.{flat_map-append, reverse_onto}
use Rattle.std.proofs.lemmas.List.{append-nil}
use Rattle.std.proofs.lemmas.List.Elements.{All-nil, All-cons, All-head, All-append, All-map}
use Rattle.std.proofs.lemmas.List.Folds.{list_any-append}
use Rattle.tase_points.specs.Sample.{Sample}
use Rattle.mms_data.specs.ObjectName.{ObjectName}
use Rattle.transfer_sets.specs.declared.noted.Noted.{Noted}
use Rattle.transfer_sets.specs.declared.wish.Wish.{Wish}
use Rattle.transfer_sets.specs.declared.wish.TheConstants.{OPERATOR}
use Rattle.transfer_sets.specs.Wishes.{has}
use Rattle.transfer_sets.specs.SlotState.{SlotState, IsSlotLike, tells_all, is_noted}
use Rattle.transfer_sets.specs.SlotMoves.{PointChange, Places, noted_by, first_moment}
use Rattle.transfer_sets.proofs.DueNumbers.{one_number, some_number}
use Rattle.transfer_sets.proofs.Followed.{like_due}
use Rattle.tase_views.specs.declared.reply.ReportKind.{ReportKind}
use Rattle.tase_views.specs.OwnTables.{OwnTable}
use Rattle.tase_views.specs.View.{View}
use Rattle.tase_views.specs.Slots.{makes_report, only_changes, places_from}
use Rattle.tase_views.specs.Reports.{told_of, is_variable, report_of_all, whole_report}
use Rattle.tase_views.specs.Reports.{changed_report, change_reports, slot_reports}
use Rattle.node_core.specs.declared.feeds.cause.ReportCause.{ReportCause}
use Rattle.node_core.specs.declared.feeds.cause.ReportCause.TheVariants.{Tick, Ask}
use Rattle.node_core.specs.Feeds.SlotFeeds.{conditions_by}
use Rattle.node_core.proofs.OfReplies.ReportsMade.{where-alike}

-- ---- conditions

-- what isn't enabled has none
pub off-none : (cause : ReportCause) (s : ℕ) (a : SlotState) → a.wish.status ≡ false
    → conditions_by cause s a ≡ 0
off-none (Tick from to) s a off = rw off refl
off-none (Ask slot now) s a off =
    ap (λ (on : Bool). if slot == s then if on && has a.wish.conditions OPERATOR then OPERATOR
    else 0 else 0) off ∙ none (slot == s)
  where
    none : (b : Bool) → ◌≡◌ {A = ℕ} (if b then 0 else 0) 0
    none true = refl
    none false = refl

-- transfer sets that are alike have the same conditions
pub conditions-alike : (cause : ReportCause) (s : ℕ) (a b : SlotState) → IsSlotLike a b
    → conditions_by cause s a ≡ conditions_by cause s b
conditions-alike (Tick from to) s a b like =
    one_number b from to _ _ (like_due a b from to _ like (some_number a from to))
    (some_number b from to)
conditions-alike (Ask slot now) s a b like =
    ap (λ (w : Wish). if slot == s then if w.status && has w.conditions OPERATOR then OPERATOR
    else 0 else 0) like.wish

-- they are five bits
pub five : (cause : ReportCause) (s : ℕ) (a : SlotState) → conditions_by cause s a % 8 ≡ 0
five (Tick from to) s a = let due = some_number a from to in omega (arith, due.no_others.0)
five (Ask slot now) s a = by (slot == s) (a.wish.status && has a.wish.conditions OPERATOR)
  where
    by : (b c : Bool) → (if b then if c then OPERATOR else 0 else 0) % 8 ≡ 0
    by true true = refl
    by true false = refl
    by false c = refl

-- what a report is made of is enabled
pub enabled : (cause : ReportCause) (s : ℕ) (a : SlotState)
    → makes_report a (conditions_by cause s a) ≡ true → a.wish.status ≡ true
enabled cause s a makes = by a.wish.status refl
  where
    by : (b : Bool) → a.wish.status ≡ b → a.wish.status ≡ true
    by true on = on
    by false off =
        absurd (false≢true (sym (ap (makes_report a) (off-none cause s a off)) ∙ makes))

-- ---- what is noted

pub or_true : (b : Bool) → (b || true) ≡ true
or_true true = refl
or_true false = refl

pub places_placed : (is : ObjectName → Bool) (i n : ℕ) (members : List ObjectName)
    → i + length members ≡ n → All (λ p. p < n) (places_from i is members)
places_placed is i n [] many = All-nil (λ p. p < n)
places_placed is i n (member ∷ members) many =
    by (is member) (places_placed is (i + 1) n members (omega arith))
  where
    by : (b : Bool) → All (λ p. p < n) (places_from (i + 1) is members)
        → All (λ p. p < n) (if b then i ∷ places_from (i + 1) is members
        else places_from (i + 1) is members)
    by true rest =
        All-cons (λ p. p < n) i (places_from (i + 1) is members) (omega arith) rest
    by false rest = rest

abbrev pub Below : ℕ → Places → Type 0
Below n places = (point : List ℕ) → All (λ p. p < n) (places point)

pub noted_placed : (n : ℕ) (places : Places) (changed : List PointChange) → Below n places
    → All (λ (note : Noted). note.member < n) (flat_map (noted_by places) changed)
noted_placed n places [] below = All-nil (λ (note : Noted). note.member < n)
noted_placed n places (change ∷ changed) below =
    All-append (λ (note : Noted). note.member < n) (noted_by places change)
    (flat_map (noted_by places) changed)
    (All-map (λ (note : Noted). note.member < n) (noted_with change.value change.count)
    (places change.point) (below change.point))
    (noted_placed n places changed below)
  where
    noted_with : Sample → ℕ → ℕ → Noted
    noted_with value count member = record { member = member; value = value; cov = count }

-- the first change of members that is noted names one
told_last : (places : Places) (change : PointChange) (before : List PointChange)
    → flat_map (noted_by places) (reverse (change ∷ before))
    ≡ flat_map (noted_by places) (reverse before) ++ noted_by places change
told_last places change before =
    ap (flat_map (noted_by places)) (reverse_onto before change [])
    ∙ flat_map-append (noted_by places) (reverse before) (change ∷ [])
    ∙ ap (λ (l : List Noted). flat_map (noted_by places) (reverse before) ++ l)
    (append-nil (noted_by places change))

-- a member below a number that is among notes
abbrev NotedBelow : ℕ → List Noted → Type 0
NotedBelow n noted = (m : ℕ) × (m < n) × (is_noted noted m ≡ true)

abbrev pub is_of_member : Places → PointChange → Bool
is_of_member places change = not (length (places change.point) == 0)

one_noted : (n : ℕ) (here : List ℕ) (value : Sample) (count : ℕ) → All (λ p. p < n) here
    → not (length here == 0) ≡ true
    → NotedBelow n (map (λ member. record { member = member; value = value; cov = count }) here)
one_noted n [] value count below some = absurd (false≢true some)
one_noted n (p ∷ here) value count below some = (
  p,
  All-head (λ p. p < n) p here below,
  ap (λ (b : Bool). b || is_noted (map (λ member. record {
    member = member;
    value = value;
    cov = count;
  }) here) p) (eq-eqb p p refl),
)

pub first_noted : (n : ℕ) (places : Places) (changed : List PointChange) → Below n places
    → is_some (first_moment (filter (is_of_member places) changed)) ≡ true
    → NotedBelow n (flat_map (noted_by places) (reverse (filter (is_of_member places) changed)))
first_noted n places [] below some = absurd (false≢true some)
first_noted n places (change ∷ changed) below some =
    by (is_of_member places change) refl some (first_noted n places changed below)
  where
    by : (b : Bool) → is_of_member places change ≡ b
        → is_some (first_moment (if b then change ∷ filter (is_of_member places) changed
        else filter (is_of_member places) changed)) ≡ true
        → (is_some (first_moment (filter (is_of_member places) changed)) ≡ true
        → NotedBelow n (flat_map (noted_by places)
        (reverse (filter (is_of_member places) changed))))
        → NotedBelow n (flat_map (noted_by places)
        (reverse (if b then change ∷ filter (is_of_member places) changed
        else filter (is_of_member places) changed)))
    by true e some rest =
        let last = filter (is_of_member places) changed in
        let notes = flat_map (noted_by places) (reverse last) in
        let here = one_noted n (places change.point) change.value change.count (below change.point)
        e in (
          here.0,
          here.1,
          ap (λ (l : List Noted). is_noted l here.0) (told_last places change last)
              ∙ list_any-append (λ (note : Noted). note.member == here.0) notes
              (noted_by places change)
              ∙ ap (λ (b : Bool). is_noted notes here.0 || b) here.2
              ∙ or_true (is_noted notes here.0),
        )
    by false e some rest = rest some

-- ---- reports of transfer sets that are alike

-- the reports by what they are of
abbrev reports_of : OwnTable → View → ℕ → ℕ → ℕ → Wish → Option ℕ → List Noted → List ObjectName
    → List ReportKind
reports_of table view s now conditions wish first noted members =
    slot_reports table view s now conditions
    (record { wish = wish; base = 0; first = first; noted = noted }) members

changed_of : (table : OwnTable) (view : View) (s now conditions : ℕ) (w : Wish) (first : Option ℕ)
    (n m : List Noted) (members : List ObjectName) → ((k : ℕ) → is_noted n k ≡ is_noted m k)
    → changed_report table view s now conditions
    (record { wish = w; base = 0; first = first; noted = n }) members
    ≡ changed_report table view s now conditions
    (record { wish = w; base = 0; first = first; noted = m }) members
changed_of table view s now conditions w first n m members same =
    ap (λ (these : List ObjectName). report_of_all (told_of table view s now conditions these))
    (where-alike table (λ place object. is_variable object || is_noted n place)
    (λ place object. is_variable object || is_noted m place)
    (λ place object. ap (λ (b : Bool). is_variable object || b) (same place)) 0 members)

-- one of three, of which the first two don't depend on the notes
one_of : {R : Type 0} (makes rbe only all : Bool) (whole : R) (these those : List R) (this that : R)
    → (rbe ≡ true → all ≡ true → these ≡ those) → (rbe ≡ true → this ≡ that)
    → (if not makes then [] else if not (rbe && only) then whole ∷ [] else if all then these
    else this ∷ [])
    ≡ (if not makes then [] else if not (rbe && only) then whole ∷ [] else if all then those
    else that ∷ [])
one_of false rbe only all whole these those this that many one = refl
one_of true false only all whole these those this that many one = refl
one_of true true false all whole these those this that many one = refl
one_of true true true true whole these those this that many one = many refl refl
one_of {R} true true true false whole these those this that many one =
    ap (λ (r : R). r ∷ []) (one refl)

noted-alike : (table : OwnTable) (view : View) (s now conditions : ℕ) (w : Wish) (first : Option ℕ)
    (n m : List Noted) (members : List ObjectName) → (tells_all w ≡ true → n ≡ m)
    → (w.rbe ≡ true → (k : ℕ) → is_noted n k ≡ is_noted m k)
    → reports_of table view s now conditions w first n members
    ≡ reports_of table view s now conditions w first m members
noted-alike table view s now conditions w first n m members all each =
    let before : List Noted → SlotState =
    λ noted. record { wish = w; base = 0; first = first; noted = noted } in
    one_of (makes_report (before n) conditions) w.rbe (only_changes conditions) (tells_all w)
    (whole_report table view s now conditions (before n) members)
    (change_reports table view s now conditions (before n) members)
    (change_reports table view s now conditions (before m) members)
    (changed_report table view s now conditions (before n) members)
    (changed_report table view s now conditions (before m) members)
    (λ rbe told. ap (λ (noted : List Noted). change_reports table view s now conditions
    (before noted) members) (all told))
    (λ rbe. changed_of table view s now conditions w first n m members (each rbe))

pub reports-alike : (table : OwnTable) (view : View) (cause : ReportCause) (s now : ℕ)
    (a b : SlotState) (members : List ObjectName) → IsSlotLike a b
    → slot_reports table view s now (conditions_by cause s a) a members
    ≡ slot_reports table view s now (conditions_by cause s b) b members
reports-alike table view cause s now a b members like = by a.wish.status refl
  where
    by : (status : Bool) → a.wish.status ≡ status
        → slot_reports table view s now (conditions_by cause s a) a members
        ≡ slot_reports table view s now (conditions_by cause s b) b members
    by true on =
        let c = conditions_by cause s a in
        ap (λ (w : Wish). reports_of table view s now c w a.first a.noted members) like.wish
        ∙ ap (λ (f : Option ℕ). reports_of table view s now c b.wish f a.noted members)
        (like.first on)
        ∙ noted-alike table view s now c b.wish b.first a.noted b.noted members
        (λ all. like.noted on (ap tells_all like.wish ∙ all))
        (λ rbe k. like.members on (ap (λ (w : Wish). w.rbe) like.wish ∙ rbe) k)
        ∙ ap (λ (k : ℕ). slot_reports table view s now k b members)
        (conditions-alike cause s a b like)
    by false off =
        ap (λ (k : ℕ). slot_reports table view s now k a members) (off-none cause s a off)
        ∙ sym (ap (λ (k : ℕ). slot_reports table view s now k b members)
        (off-none cause s b (sym (ap (λ (w : Wish). w.status) like.wish) ∙ off)))
