-- The open associations of a peer have the reports that its view makes, behind each move more.
use Rattle.std.proofs.Common.{◌≡◌, ℕ, suc, ◌+◌, ◌-◌, ◌<◌, ◌≤◌, ◌==◌, Bool, true, false, not}
use Rattle.std.proofs.Common.{List, [], ◌∷◌, ◌++◌, map, length, Option, Some, None, refl, sym}
use Rattle.std.proofs.Common.{ap, subst, ◌∙◌, inl, inr, ⊎_elim, arith, length-append, get_or}
use Rattle.std.specs.Prelude.{◌||◌, ◌⊎◌, if◌then◌else◌, nat_eq, filter_map, flat_map, Result, Ok}
use Rattle.std.specs.Prelude.{Err, find}
use Rattle.std.specs.List.{All, range_with_len}
use Rattle.std.specs.Option.{option_eq, option_map_or}
use Rattle.std.proofs.lemmas.Bool.{false≢true, eq-eqb, eqb-true, ne_eqb, cases_eq}
use Rattle.std.proofs.lemmas.List.{append-nil, length-map, get_or-map}
use Rattle.std.proofs.lemmas.List.Elements.{All-map, All-append, All-filter, All-cons, All-nil}
use Rattle.std.proofs.lemmas.List.Folds.{list_any-append}
use Rattle.std.proofs.lemmas.Option.{same_Some, none-some}
use Rattle.transfer_sets.specs.declared.wish.Wish.{Wish}
use Rattle.transfer_sets.specs.SlotMoves.{SlotMove, PointChange, owner_in, handed_out, changes}
use Rattle.transfer_sets.specs.SlotMoves.{reports}
use Rattle.tase_views.specs.declared.reply.ReportKind.{ReportKind}
use Rattle.tase_views.specs.OwnTables.{OwnTables}
use Rattle.tase_views.specs.Moves.{opens, takes, closes, reads, writes, defines, deletes, calls}
use Rattle.tase_views.specs.View.{Seen, View, own, other_acted, other_closed, updated, tagged}
use Rattle.tase_views.specs.View.{asked}
use Rattle.tase_views.specs.View.{chose, ticked, stopped, held, moment_in}
use Rattle.tase_views.specs.Slots.{owns, with_wish, slot_moves, asked_conditions}
use Rattle.tase_views.specs.Reports.{own_reports, timeout_report, reports_by, reports_pending}
use Rattle.tase_views.specs.Reports.{slot_state, due_conditions}
use Rattle.node_core.specs.declared.feeds.cause.ReportCause.{ReportCause}
use Rattle.node_core.specs.declared.feeds.cause.ReportCause.TheVariants.{Tick, Ask}
use Rattle.node_core.specs.Slots.Associations.{OpenAssociation, new_association, is_open_in}
use Rattle.node_core.specs.Slots.Associations.{open_without, with_drafted, undrafted, behind_take}
use Rattle.node_core.specs.Slots.Associations.{made_for}
use Rattle.node_core.specs.Feeds.SlotFeeds.{move_of}
use Rattle.node_core.specs.PeerParts.{AreAssociations}

-- ---- moves that make no report

-- a move that neither makes reports nor takes them
abbrev pub IsQuiet : Seen → Type 0
IsQuiet (own ordinal takes) = ⊥
IsQuiet (asked slot) = ⊥
IsQuiet (ticked now) = ⊥
IsQuiet _ = Unit {0}

module _ (tables : OwnTables) (view : View) where
  quiet : (seen : Seen) → IsQuiet seen → (ordinal : ℕ)
      → reports_pending tables (seen ∷ view) ordinal ≡ reports_pending tables view ordinal
  quiet (own other opens) still ordinal = append-nil _
  quiet (own other takes) still ordinal = absurd still
  quiet (own other closes) still ordinal = append-nil _
  quiet (own other (reads name)) still ordinal = append-nil _
  quiet (own other (writes name value)) still ordinal = append-nil _
  quiet (own other (defines set members)) still ordinal = append-nil _
  quiet (own other (deletes set)) still ordinal = append-nil _
  quiet (own other (calls call)) still ordinal = append-nil _
  quiet (other_acted key other device act) still ordinal = append-nil _
  quiet (other_closed key other) still ordinal = append-nil _
  quiet (updated name value) still ordinal = append-nil _
  quiet (tagged name tag) still ordinal = append-nil _
  quiet (asked slot) still ordinal = absurd still
  quiet (chose variant) still ordinal = append-nil _
  quiet (ticked now) still ordinal = absurd still
  quiet stopped still ordinal = append-nil _

  -- what was made stays
  made_still : (seen : Seen) → IsQuiet seen → (those : List OpenAssociation)
      → All (λ a. a.made ≡ reports_pending tables view a.ordinal) those
      → All (λ a. a.made ≡ reports_pending tables (seen ∷ view) a.ordinal) those
  made_still seen still those made = λ i d within.
      made i d within ∙ sym (quiet seen still _)

  -- such a move, behind which each owner is an owner before it or open
  pub AreAssociations-still : (seen : Seen) → IsQuiet seen → (those : List OpenAssociation)
      (n k : ℕ)
      → ((s ordinal : ℕ) → owner_in (slot_moves tables (seen ∷ view) s) ≡ Some ordinal
      → (owner_in (slot_moves tables view s) ≡ Some ordinal)
      ⊎ (is_open_in ordinal those ≡ true))
      → AreAssociations tables view those n k → AreAssociations tables (seen ∷ view) those n k
  AreAssociations-still seen still those n k owned a = record {
    fewer = a.fewer;
    opened = a.opened;
    made = made_still seen still those a.made;
    owners = λ s ordinal e. ⊎_elim (a.owners s ordinal) (λ open_one. open_one) (owned s ordinal e);
    unopened = λ ordinal later. quiet seen still ordinal ∙ a.unopened ordinal later;
  }

  -- ---- an open and a close

  all_one : {X : Type 0} (P : X → Type 0) (x : X) → P x → All P (x ∷ [])
  all_one P x p = All-cons P x [] p (All-nil P)

  or_left : (a b : Bool) → a ≡ true → (a || b) ≡ true
  or_left true b e = refl
  or_left false b e = absurd (false≢true e)

  pub AreAssociations-opens : (ordinal : ℕ) (those : List OpenAssociation) (n k : ℕ)
      → ordinal ≡ k → AreAssociations tables view those n k
      → AreAssociations tables (own ordinal opens ∷ view) (those ++ new_association ordinal ∷ [])
      (n + 1) (k + 1)
  AreAssociations-opens ordinal those n k is a = record {
    fewer = omega (arith, length-append those (new_association ordinal ∷ []), a.fewer);
    opened = All-append (λ (o : OpenAssociation). o.ordinal < k + 1) those
        (new_association ordinal ∷ [])
        (λ i d within. (let before = a.opened i d within in omega (arith, before)))
        (all_one (λ (o : OpenAssociation). o.ordinal < k + 1) (new_association ordinal)
        (omega (arith, is)));
    made = All-append (λ (o : OpenAssociation).
        o.made ≡ reports_pending tables (own ordinal opens ∷ view) o.ordinal) those
        (new_association ordinal ∷ []) (made_still (own ordinal opens) tt those a.made)
        (all_one (λ (o : OpenAssociation).
        o.made ≡ reports_pending tables (own ordinal opens ∷ view) o.ordinal)
        (new_association ordinal)
        (sym (quiet (own ordinal opens) tt ordinal ∙ a.unopened ordinal (omega (arith, is)))));
    owners = λ s owner e.
        list_any-append (λ (o : OpenAssociation). o.ordinal == owner) those
        (new_association ordinal ∷ [])
        ∙ or_left (is_open_in owner those) _ (a.owners s owner e);
    unopened = λ later above. quiet (own ordinal opens) tt later
        ∙ a.unopened later (omega (arith, above));
  }

-- with one taken away
no_more : (ordinal : ℕ) (those : List OpenAssociation)
    → length (open_without ordinal those) ≤ length those
no_more ordinal [] = omega arith
no_more ordinal (a ∷ those) = by (a.ordinal == ordinal) (no_more ordinal those)
  where
    by : (b : Bool) → length (open_without ordinal those) ≤ length those
        → length (if not b then a ∷ open_without ordinal those else open_without ordinal those)
        ≤ length (a ∷ those)
    by true h = omega (arith, h)
    by false h = omega (arith, h)

one_less : (ordinal : ℕ) (those : List OpenAssociation) → is_open_in ordinal those ≡ true
    → length (open_without ordinal those) + 1 ≤ length those
one_less ordinal [] there = absurd (false≢true there)
one_less ordinal (a ∷ those) there =
    by (a.ordinal == ordinal) there (no_more ordinal those) (one_less ordinal those)
  where
    by : (b : Bool) → (b || is_open_in ordinal those) ≡ true
        → length (open_without ordinal those) ≤ length those
        → (is_open_in ordinal those ≡ true
        → length (open_without ordinal those) + 1 ≤ length those)
        → length (if not b then a ∷ open_without ordinal those else open_without ordinal those) + 1
        ≤ length (a ∷ those)
    by true there most less = omega (arith, most)
    by false there most less = let h = less there in omega (arith, h)

-- another one stays
pub others_stay : (ordinal other : ℕ) (those : List OpenAssociation) → (other ≡ ordinal → ⊥)
    → is_open_in other those ≡ true → is_open_in other (open_without ordinal those) ≡ true
others_stay ordinal other [] apart there = there
others_stay ordinal other (a ∷ those) apart there =
    by (a.ordinal == ordinal) refl (a.ordinal == other) refl there
    (others_stay ordinal other those apart)
  where
    by : (b : Bool) → (a.ordinal == ordinal) ≡ b → (t : Bool) → (a.ordinal == other) ≡ t
        → (t || is_open_in other those) ≡ true
        → (is_open_in other those ≡ true → is_open_in other (open_without ordinal those) ≡ true)
        → is_open_in other
        (if not b then a ∷ open_without ordinal those else open_without ordinal those) ≡ true
    by true e true f there others =
        absurd (apart (sym (eqb-true a.ordinal other f) ∙ eqb-true a.ordinal ordinal e))
    by true e false f there others = others there
    by false e true f there others = rw f refl
    by false e false f there others = rw f (others there)

owner_apart : (ordinal owner : ℕ) (moves : List SlotMove) → owns ordinal moves ≡ false
    → owner_in moves ≡ Some owner → owner ≡ ordinal → ⊥
owner_apart ordinal owner moves isnt is same =
    let mine : owns ordinal moves ≡ true =
    ap (λ (o : Option ℕ). option_eq nat_eq o (Some ordinal)) is ∙ eq-eqb owner ordinal same in
    false≢true (sym isnt ∙ mine)

module _ (tables : OwnTables) (view : View) where
  pub AreAssociations-closes : (ordinal : ℕ) (those : List OpenAssociation) (n k : ℕ)
      → is_open_in ordinal those ≡ true → AreAssociations tables view those n k
      → AreAssociations tables (own ordinal closes ∷ view) (open_without ordinal those) (n - 1) k
  AreAssociations-closes ordinal those n k there a = record {
    fewer = omega (arith, a.fewer, one_less ordinal those there);
    opened = All-filter _ (λ (o : OpenAssociation). o.ordinal < k) those a.opened;
    made = All-filter _ (λ (o : OpenAssociation).
        o.made ≡ reports_pending tables (own ordinal closes ∷ view) o.ordinal) those
        (made_still tables view (own ordinal closes) tt those a.made);
    owners = λ s owner e. by owner (slot_moves tables view s)
        (owns ordinal (slot_moves tables view s)) refl (a.owners s owner) e;
    unopened = λ later above. quiet tables view (own ordinal closes) tt later
        ∙ a.unopened later above;
  }
    where
      by : (owner : ℕ) (moves : List SlotMove) (b : Bool) → owns ordinal moves ≡ b
          → (owner_in moves ≡ Some owner → is_open_in owner those ≡ true)
          → owner_in (if b then [] else moves) ≡ Some owner
          → is_open_in owner (open_without ordinal those) ≡ true
      by owner moves true mine open_one e = absurd (none-some owner e)
      by owner moves false mine open_one e =
          others_stay ordinal owner those (owner_apart ordinal owner moves mine e) (open_one e)

  -- ---- a take

  turned : (a b : ℕ) → (a == b) ≡ (b == a)
  turned a b = ⊎_elim (λ same. rw (eq-eqb a b same, eq-eqb b a (sym same)) refl)
      (λ apart. rw (ne_eqb a b apart, ne_eqb b a (λ e. apart (sym e))) refl) (cases_eq a b)

  pub AreAssociations-takes : (ordinal : ℕ) (those : List OpenAssociation) (n k : ℕ)
      → AreAssociations tables view those n k
      → AreAssociations tables (own ordinal takes ∷ view) (map (behind_take ordinal) those) n k
  AreAssociations-takes ordinal those n k a = record {
    fewer = omega (arith, length-map those (behind_take ordinal), a.fewer);
    opened = All-map (λ (o : OpenAssociation). o.ordinal < k) (behind_take ordinal) those
        (λ i d within. fewer _ (a.opened i d within));
    made = All-map (λ (o : OpenAssociation).
        o.made ≡ reports_pending tables (own ordinal takes ∷ view) o.ordinal)
        (behind_take ordinal) those (λ i d within. taken _ (a.made i d within));
    owners = λ s owner e. there owner those (a.owners s owner e);
    unopened = λ later above. later_none (ordinal == later) (a.unopened later above);
  }
    where
      fewer : (o : OpenAssociation) → o.ordinal < k → (behind_take ordinal o).ordinal < k
      fewer o below = by (o.ordinal == ordinal)
        where
          by : (b : Bool)
              → (if b then record o { made = []; drafted = [] } else o).ordinal < k
          by true = below
          by false = below

      taken : (o : OpenAssociation) → o.made ≡ reports_pending tables view o.ordinal
          → (behind_take ordinal o).made
          ≡ reports_pending tables (own ordinal takes ∷ view) (behind_take ordinal o).ordinal
      taken o is = by (o.ordinal == ordinal) refl
        where
          by : (b : Bool) → (o.ordinal == ordinal) ≡ b
              → (if b then record o { made = []; drafted = [] } else o).made
              ≡ reports_pending tables (own ordinal takes ∷ view)
              (if b then record o { made = []; drafted = [] } else o).ordinal
          by true e = rw (turned ordinal o.ordinal, e) refl
          by false e = rw (turned ordinal o.ordinal, e) is

      there : (owner : ℕ) (these : List OpenAssociation) → is_open_in owner these ≡ true
          → is_open_in owner (map (behind_take ordinal) these) ≡ true
      there owner these e = same owner these ∙ e
        where
          here : (o : OpenAssociation) → (behind_take ordinal o).ordinal ≡ o.ordinal
          here o = by (o.ordinal == ordinal)
            where
              by : (b : Bool)
                  → (if b then record o { made = []; drafted = [] } else o).ordinal ≡ o.ordinal
              by true = refl
              by false = refl

          same : (owner : ℕ) (these : List OpenAssociation)
              → is_open_in owner (map (behind_take ordinal) these) ≡ is_open_in owner these
          same owner [] = refl
          same owner (o ∷ these) = rw (here o, same owner these) refl

      later_none : (b : Bool) {xs : List ReportKind} → xs ≡ [] → (if b then [] else xs) ≡ []
      later_none true none = refl
      later_none false none = none

-- what a take is given is what was made
given : (ordinal : ℕ) (those : List OpenAssociation) (made : List ReportKind)
    → ((i : ℕ) (d : OpenAssociation) → i < length those
    → (get_or those i d).ordinal ≡ ordinal → (get_or those i d).made ≡ made)
    → is_open_in ordinal those ≡ true → made_for ordinal those ≡ made
given ordinal [] made each there = absurd (false≢true there)
given ordinal (a ∷ those) made each there =
    by (a.ordinal == ordinal) refl there
    (given ordinal those made (λ i d within. each (suc i) d (omega (arith, within))))
  where
    by : (b : Bool) → (a.ordinal == ordinal) ≡ b → (b || is_open_in ordinal those) ≡ true
        → (is_open_in ordinal those ≡ true → made_for ordinal those ≡ made)
        → option_map_or (λ (o : OpenAssociation). o.made)
        (if b then Some a else find (λ (o : OpenAssociation). o.ordinal == ordinal) those) []
        ≡ made
    by true e open_one rest = each 0 a (omega arith) (eqb-true a.ordinal ordinal e)
    by false e open_one rest = rest open_one

pub made_for-is : (tables : OwnTables) (view : View) (ordinal : ℕ)
    (those : List OpenAssociation) (n k : ℕ) → is_open_in ordinal those ≡ true
    → AreAssociations tables view those n k
    → made_for ordinal those ≡ reports_pending tables view ordinal
made_for-is tables view ordinal those n k there a =
    given ordinal those (reports_pending tables view ordinal)
    (λ i d within same. a.made i d within
    ∙ ap (reports_pending tables view) same) there

-- ---- owners behind other moves

pub owner_read : (b : Bool) (ordinal owner : ℕ) (moves : List SlotMove)
    → owner_in (if b then handed_out ordinal ∷ [] else moves) ≡ Some owner
    → (owner_in moves ≡ Some owner) ⊎ (ordinal ≡ owner)
owner_read true ordinal owner moves e = inr (same_Some ordinal owner e)
owner_read false ordinal owner moves e = inl e

pub owner_written : (b : Bool) (now : ℕ) (wish : Result Wish ℕ) (moves : List SlotMove)
    → owner_in (if b then with_wish now wish moves else moves) ≡ owner_in moves
owner_written true now (Ok wish) moves = refl
owner_written true now (Err reason) moves = refl
owner_written false now wish moves = refl

pub owner_changed : (b : Bool) (change : PointChange) (moves : List SlotMove)
    → owner_in (if b then changes change ∷ moves else moves) ≡ owner_in moves
owner_changed true change moves = refl
owner_changed false change moves = refl

owner_reported : (b : Bool) (moves : List SlotMove)
    → owner_in (if b then reports ∷ moves else moves) ≡ owner_in moves
owner_reported true moves = refl
owner_reported false moves = refl

-- ---- reports

open_below : (ordinal k : ℕ) (those : List OpenAssociation)
    → All (λ (o : OpenAssociation). o.ordinal < k) those → is_open_in ordinal those ≡ true
    → ordinal < k
open_below ordinal k [] below there = absurd (false≢true there)
open_below ordinal k (a ∷ those) below there =
    by (a.ordinal == ordinal) refl there
    (open_below ordinal k those (λ i d within. below (suc i) d (omega (arith, within))))
  where
    by : (b : Bool) → (a.ordinal == ordinal) ≡ b → (b || is_open_in ordinal those) ≡ true
        → (is_open_in ordinal those ≡ true → ordinal < k) → ordinal < k
    by true e there rest =
        subst (λ (n : ℕ). n < k) (eqb-true a.ordinal ordinal e) (below 0 a (omega arith))
    by false e there rest = rest there

none_made : {X Y : Type 0} (f : X → List Y) (xs : List X) → ((x : X) → f x ≡ [])
    → flat_map f xs ≡ []
none_made f [] none = refl
none_made f (x ∷ xs) none = rw (none x, none_made f xs none) refl

not_owner : (ordinal : ℕ) (moves : List SlotMove)
    → ((owner : ℕ) → owner_in moves ≡ Some owner → owner ≡ ordinal → ⊥)
    → owns ordinal moves ≡ false
not_owner ordinal moves apart = by (owner_in moves) apart
  where
    by : (found : Option ℕ) → ((owner : ℕ) → found ≡ Some owner → owner ≡ ordinal → ⊥)
        → option_eq nat_eq found (Some ordinal) ≡ false
    by None apart = refl
    by (Some owner) apart = ne_eqb owner ordinal (apart owner refl)

pub drafted_open : (owner : ℕ) (these : List OpenAssociation)
    → is_open_in owner (map with_drafted these) ≡ is_open_in owner these
drafted_open owner [] = refl
drafted_open owner (o ∷ these) = rw (drafted_open owner these) refl

-- no selection of an association ends, whatever the moment
abbrev pub EndsNothing : OwnTables → View → ℕ → Type 0
EndsNothing tables view ordinal =
    (now : ℕ) → filter_map (timeout_report tables view ordinal now) (held tables view).devices ≡ []

module _ (tables : OwnTables) (view : View) where
  unowned : (ordinal now : ℕ) (conditions : ℕ → ℕ) (s : ℕ)
      → owns ordinal (slot_moves tables view s) ≡ false
      → own_reports tables view ordinal now conditions s ≡ []
  unowned ordinal now conditions s none = rw none refl

  -- of an association that owns no transfer set and holds no device nothing is reported
  no_reports : (ordinal : ℕ) → ((s : ℕ) → owns ordinal (slot_moves tables view s) ≡ false)
      → EndsNothing tables view ordinal → (cause : ReportCause)
      → reports_by tables view ordinal (move_of cause) ≡ []
  no_reports ordinal none ends (Tick from to) =
      let reported = own_reports tables view ordinal to (λ s. due_conditions tables view s to) in
      let offered = flat_map reported (range_with_len 0 (held tables view).slots) in
      ap (λ (ended : List ReportKind). ended ++ offered) (ends to)
      ∙ none_made reported (range_with_len 0 (held tables view).slots)
      (λ s. unowned ordinal to (λ s. due_conditions tables view s to) s (none s))
  no_reports ordinal none ends (Ask slot now) =
      unowned ordinal (moment_in view)
      (λ s. asked_conditions (slot_state tables view s)) slot (none slot)

  pending_reported : (cause : ReportCause) (ordinal : ℕ)
      → reports_pending tables (move_of cause ∷ view) ordinal
      ≡ reports_pending tables view ordinal ++ reports_by tables view ordinal (move_of cause)
  pending_reported (Tick from to) ordinal = refl
  pending_reported (Ask slot now) ordinal = refl

  same_owner : (cause : ReportCause) (s : ℕ)
      → owner_in (slot_moves tables (move_of cause ∷ view) s)
      ≡ owner_in (slot_moves tables view s)
  same_owner (Tick from to) s = owner_reported _ (slot_moves tables view s)
  same_owner (Ask slot now) s = owner_reported _ (slot_moves tables view s)

  pub AreAssociations-reported : (cause : ReportCause) (those : List OpenAssociation) (n k : ℕ)
      → ((ordinal : ℕ) → k ≤ ordinal → EndsNothing tables view ordinal)
      → All (λ (o : OpenAssociation).
      o.drafted ≡ reports_by tables view o.ordinal (move_of cause)) those
      → AreAssociations tables view those n k
      → AreAssociations tables (move_of cause ∷ view) (map with_drafted those) n k
  AreAssociations-reported cause those n k late drafted a = record {
    fewer = omega (arith, length-map those with_drafted, a.fewer);
    opened = All-map (λ (o : OpenAssociation). o.ordinal < k) with_drafted those
        (λ i d within. a.opened i d within);
    made = All-map (λ (o : OpenAssociation).
        o.made ≡ reports_pending tables (move_of cause ∷ view) o.ordinal)
        with_drafted those
        (λ i d within. joined _ (a.made i d within) (drafted i d within));
    owners = λ s owner e. drafted_open owner those
        ∙ a.owners s owner (sym (same_owner cause s) ∙ e);
    unopened = λ later above. pending_reported cause later
        ∙ ap (λ (l : List ReportKind). l ++ reports_by tables view later (move_of cause))
        (a.unopened later above)
        ∙ no_reports later (λ s. not_owner later (slot_moves tables view s)
        (λ owner is same. let below = open_below owner k those a.opened (a.owners s owner is) in
        absurd (omega (arith, below, above, same)))) (late later above) cause;
  }
    where
      joined : (o : OpenAssociation) → o.made ≡ reports_pending tables view o.ordinal
          → o.drafted ≡ reports_by tables view o.ordinal (move_of cause)
          → o.made ++ o.drafted ≡ reports_pending tables (move_of cause ∷ view) o.ordinal
      joined o made new =
          ap (λ (l : List ReportKind). l ++ o.drafted) made
          ∙ ap (λ (l : List ReportKind). reports_pending tables view o.ordinal ++ l) new
          ∙ sym (pending_reported cause o.ordinal)

-- ---- other drafts

undrafted_open : (ordinal : ℕ) (these : List OpenAssociation)
    → is_open_in ordinal (map undrafted these) ≡ is_open_in ordinal these
undrafted_open ordinal [] = refl
undrafted_open ordinal (o ∷ these) = rw (undrafted_open ordinal these) refl

pub open_alike : (old new : List OpenAssociation) → map undrafted new ≡ map undrafted old
    → (ordinal : ℕ) → is_open_in ordinal new ≡ is_open_in ordinal old
open_alike old new same ordinal =
    sym (undrafted_open ordinal new) ∙ ap (is_open_in ordinal) same ∙ undrafted_open ordinal old

-- what holds of the items without their drafts holds of the others too
undrafted_all : (P : OpenAssociation → Type 0) (old new : List OpenAssociation)
    → map undrafted new ≡ map undrafted old → ((o : OpenAssociation) → P o → P (undrafted o))
    → ((o : OpenAssociation) → P (undrafted o) → P o) → All P old → All P new
undrafted_all P old new same there back all = λ i d within.
    back (get_or new i d)
    (subst P (get_or-map undrafted new i d (undrafted d) within)
    (subst (All P) (sym same) (All-map P undrafted old (λ j e inside. there _ (all j e inside))) i
    (undrafted d) (omega (arith, within, length-map new undrafted))))

pub AreAssociations-alike : (tables : OwnTables) (view : View) (old new : List OpenAssociation)
    (n k : ℕ) → map undrafted new ≡ map undrafted old → AreAssociations tables view old n k
    → AreAssociations tables view new n k
AreAssociations-alike tables view old new n k same a = record {
  fewer = omega (
    arith,
    a.fewer,
    length-map new undrafted,
    length-map old undrafted,
    ap length same,
  );
  opened = undrafted_all (λ (o : OpenAssociation). o.ordinal < k) old new same (λ o p. p)
      (λ o p. p) a.opened;
  made = undrafted_all (λ (o : OpenAssociation).
      o.made ≡ reports_pending tables view o.ordinal) old new same (λ o p. p) (λ o p. p) a.made;
  owners = λ s owner e. open_alike old new same owner ∙ a.owners s owner e;
  unopened = a.unopened;
}
