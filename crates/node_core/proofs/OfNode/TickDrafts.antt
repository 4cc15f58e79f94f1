-- The drafts of a tick: first the reports of selections that end, then those of each transfer set,
-- one after another, behind the drafts of its owner.
use Rattle.std.proofs.Common.{◌≡◌, ◌≢◌, ℕ, ◌+◌, ◌-◌, ◌<◌, ◌≤◌, true, false, List, [], ◌++◌}
use Rattle.std.proofs.Common.{map, set, length, get_or, refl, sym, ap, ◌∙◌, subst, ⊎_elim, arith}
use Rattle.std.proofs.Common.{get_or-set_same, get_or-set_other}
use Rattle.std.specs.Prelude.{flat_map}
use Rattle.std.specs.List.{All, range_with_len}
use Rattle.std.proofs.lemmas.Bool.{cases_eq}
use Rattle.std.proofs.lemmas.List.{length-map, get_or-map, append-nil, set-get_or}
use Rattle.std.proofs.lemmas.List.{get_or_default}
use Rattle.std.proofs.Common.{◌==◌, not, zero, suc}
use Rattle.bilateral.specs.Rows.{CentreRows}
use Rattle.bilateral.specs.declared.rows.TheConstants.{SLOT_LIMIT}
use Rattle.transfer_sets.specs.LookCount.Counted.{looked}
use Rattle.transfer_sets.specs.Due.{conditions_due}
use Rattle.transfer_sets.specs.Banks.{slot_at, is_owned_by}
use Rattle.tase_views.specs.declared.reply.ReportKind.{ReportKind}
use Rattle.tase_views.specs.OwnTables.{OwnTables}
use Rattle.tase_views.specs.View.{View}
use Rattle.node_core.specs.declared.feeds.cause.ReportCause.{ReportCause}
use Rattle.node_core.specs.declared.feeds.cause.ReportCause.TheVariants.{Tick}
use Rattle.node_core.specs.declared.node.peer.Peer.{Peer}
use Rattle.node_core.specs.declared.plant.Plant.{Plant}
use Rattle.node_core.specs.Slots.Associations.{OpenAssociation, new_association, association_at}
use Rattle.node_core.specs.Slots.Associations.{undrafted, drafted_by}
use Rattle.node_core.specs.Replies.Shown.{Shown, InEachView, IsShown, shown_of}
use Rattle.node_core.specs.Feeds.SlotFeeds.{conditions_by}
use Rattle.node_core.specs.PartFeeds.{IsDrafted, AreDraftedMore}
use Rattle.node_core.proofs.OfNode.PartLists.{FirstDrafted}
use Rattle.node_core.proofs.OfFeeds.SlotFeeds.{due_from, due-looked, undue-passed, none_due}
use Rattle.node_core.proofs.OfReplies.ReportsShown.{made_by, ended_at, ranged-step, ranged-none}
use Rattle.node_core.proofs.OfReplies.ReportsShown.{tick-made}
use Rattle.node_core.proofs.OfReplies.ReportsShown.{own-none, own-undue}

-- what is shown of a part doesn't hang on its associations
pub shown-same : (rows : CentreRows) (peer : ℕ) (plant : Plant) (old now : Peer)
    → now ≡ record old { associations = now.associations }
    → shown_of rows peer now plant ≡ shown_of rows peer old plant
shown-same rows peer plant old now same = ap (λ (x : Peer). shown_of rows peer x plant) same

-- ---- more for one association after another

-- the reports that a cause makes of a transfer set, for whoever owns it
abbrev pub IsMadeOf : Shown → ReportCause → ℕ → List ReportKind → Type 0
IsMadeOf shown cause slot made =
    InEachView shown (λ tables view. (ordinal : ℕ)
    → is_owned_by ordinal (slot_at shown.slots slot) ≡ true
    → made ≡ made_by tables view ordinal cause slot)

-- of associations the first so many have more behind their drafts, and the others stay
pub record FirstDraftedMore (shown : Shown) (more : OwnTables → View → ℕ → List ReportKind)
    (count : ℕ) (old now : List OpenAssociation) : Type 0 where
  pub same : map undrafted now ≡ map undrafted old
  pub done : (place : ℕ) → place < count → place < length old → InEachView shown
      (λ tables view. (association_at now place).drafted ≡ (association_at old place).drafted
      ++ more tables view (association_at old place).ordinal)
  pub left : (place : ℕ) → count ≤ place → association_at now place ≡ association_at old place

-- an association with more behind its drafts
abbrev pub added_to : OpenAssociation → List ReportKind → OpenAssociation
added_to a made = drafted_by (a.drafted ++ made) a

module _ (shown : Shown) (more : OwnTables → View → ℕ → List ReportKind) where
  FirstDraftedMore-step : (count : ℕ) (old now next : List OpenAssociation)
      (made : List ReportKind) → FirstDraftedMore shown more count old now → count < length now
      → map undrafted next ≡ map undrafted now
      → next ≡ set now count (added_to (association_at now count) made)
      → InEachView shown (λ tables view. made
      ≡ more tables view (association_at now count).ordinal)
      → FirstDraftedMore shown more (count + 1) old next
  FirstDraftedMore-step count old now next made f there alike set_is is = record {
    same = alike ∙ f.same;
    done = λ place below within.
        ⊎_elim
        (λ (same : place ≡ count). subst (λ (p : ℕ). InEachView shown
        (λ tables view. (association_at next p).drafted ≡ (association_at old p).drafted
        ++ more tables view (association_at old p).ordinal)) (sym same) here)
        (λ apart updates tables view s.
        ap (λ (a : OpenAssociation). a.drafted) (aside place apart)
        ∙ f.done place (omega (arith, below, apart)) within updates tables view s)
        (cases_eq place count);
    left = λ place past.
        aside place (λ same. omega (arith, past, same)) ∙ f.left place (omega (arith, past));
  }
    where
      aside : (place : ℕ) → place ≢ count → association_at next place ≡ association_at now place
      aside place apart =
          ap (λ (l : List OpenAssociation). association_at l place) set_is
          ∙ get_or-set_other now count place _ (new_association 0) apart

      here : InEachView shown
          (λ tables view. (association_at next count).drafted
          ≡ (association_at old count).drafted
          ++ more tables view (association_at old count).ordinal)
      here = λ updates tables view s.
          ap (λ (l : List OpenAssociation). (association_at l count).drafted) set_is
          ∙ ap (λ (a : OpenAssociation). a.drafted)
          (get_or-set_same now count (added_to (association_at now count) made) (new_association 0)
          there)
          ∙ ap (λ (l : List ReportKind). (association_at now count).drafted ++ l)
          (is updates tables view s)
          ∙ ap (λ (a : OpenAssociation). a.drafted ++ more tables view a.ordinal)
          (f.left count (omega arith))

  -- one for which there is nothing
  FirstDraftedMore-none : (count : ℕ) (old now : List OpenAssociation)
      → FirstDraftedMore shown more count old now → count < length now
      → InEachView shown (λ tables view. []
      ≡ more tables view (association_at now count).ordinal)
      → FirstDraftedMore shown more (count + 1) old now
  FirstDraftedMore-none count old now f there none =
      let a = association_at now count in
      FirstDraftedMore-step count old now now [] f there refl
      (sym (set-get_or now count (new_association 0))
      ∙ ap (λ (l : List ReportKind). set now count (drafted_by l a)) (sym (append-nil a.drafted)))
      none

-- what a cause makes of a transfer set, one association after another
module _ (shown : Shown) (cause : ReportCause) (slot : ℕ) where
  abbrev pub of_slot : OwnTables → View → ℕ → List ReportKind
  of_slot tables view ordinal = made_by tables view ordinal cause slot

  pub owned-start : (old : List OpenAssociation) → FirstDraftedMore shown of_slot 0 old old
  owned-start old = record {
    same = refl;
    done = λ place below. absurd (omega (arith, below));
    left = λ place past. refl;
  }

  module _ (count : ℕ) (old now : List OpenAssociation)
      (f : FirstDraftedMore shown of_slot count old now) where
    -- how many associations there are
    pub owned-many : length now ≡ length old
    owned-many =
        sym (length-map now undrafted)
        ∙ ap (λ (l : List OpenAssociation). length l) f.same
        ∙ length-map old undrafted

    -- the next one owns the transfer set, or it doesn't
    pub owned-more : (next : List OpenAssociation) (made : List ReportKind) → count < length now
        → is_owned_by (association_at now count).ordinal (slot_at shown.slots slot) ≡ true
        → IsMadeOf shown cause slot made → map undrafted next ≡ map undrafted now
        → next ≡ set now count (added_to (association_at now count) made)
        → FirstDraftedMore shown of_slot (count + 1) old next
    owned-more next made there mine is alike set_is =
        FirstDraftedMore-step shown of_slot count old now next made f there alike set_is
        (λ updates tables view s.
        is updates tables view s (association_at now count).ordinal mine)

    pub owned-other : count < length now
        → is_owned_by (association_at now count).ordinal (slot_at shown.slots slot) ≡ false
        → FirstDraftedMore shown of_slot (count + 1) old now
    owned-other there other =
        FirstDraftedMore-none shown of_slot count old now f there
        (λ updates tables view s.
        own-none updates tables view shown s slot cause (association_at now count).ordinal other)

    pub owned-all : length now ≤ count → AreDraftedMore shown of_slot old now
    owned-all all = record {
      same = f.same;
      each = λ place within.
          let many = owned-many in f.done place (omega (arith, all, within, many)) within;
    }

-- ---- one transfer set after another

-- the reports of selections that end at a tick
abbrev pub AreTimeouts : ℕ → Shown → ℕ → List ReportKind → Type 0
AreTimeouts to shown ordinal drafts =
    InEachView shown (λ tables view. drafts ≡ ended_at tables view ordinal to)

-- with what is yet to come of the transfer sets from one on, drafts are all that a tick makes
abbrev pub IsMadeFrom : ℕ → ℕ → ℕ → Shown → ℕ → List ReportKind → Type 0
IsMadeFrom from to slot shown ordinal drafts =
    let count = shown.table.table.slots in
    InEachView shown (λ tables view.
    drafts ++ flat_map (made_by tables view ordinal (Tick from to))
    (range_with_len slot (count - slot))
    ≡ ended_at tables view ordinal to ++ flat_map (made_by tables view ordinal (Tick from to))
    (range_with_len 0 count))

IsMadeFrom-more : (from to slot : ℕ) (shown : Shown) (ordinal : ℕ) (drafts more : List ReportKind)
    → slot < shown.table.table.slots
    → InEachView shown (λ tables view. more
    ≡ drafts ++ made_by tables view ordinal (Tick from to) slot)
    → IsMadeFrom from to slot shown ordinal drafts → IsMadeFrom from to (slot + 1) shown ordinal more
IsMadeFrom-more from to slot shown ordinal drafts more below added made =
    λ updates tables view s.
    let count = shown.table.table.slots in
    ranged-step (made_by tables view ordinal (Tick from to)) slot (count - slot)
    (count - (slot + 1)) drafts more (omega (arith, below)) (added updates tables view s)
    ∙ made updates tables view s

-- a part that is as it was but for its drafts, which have all that a tick makes of the transfer sets
-- below one
pub record IsTickDrafted (rows : CentreRows) (peer : ℕ) (plant : Plant) (from to slot : ℕ)
    (old now : Peer) : Type 0 where
  pub same : now ≡ record old { associations = now.associations }
  pub associations : map undrafted now.associations ≡ map undrafted old.associations
  pub each : All (λ (a : OpenAssociation). IsMadeFrom from to slot (shown_of rows peer old plant)
      a.ordinal a.drafted) now.associations

pub IsTickDrafted-start : (rows : CentreRows) (peer : ℕ) (plant : Plant) (from to count : ℕ)
    (first now : Peer) → FirstDrafted rows peer plant (AreTimeouts to) count first now
    → length now.associations ≤ count → IsTickDrafted rows peer plant from to 0 now now
IsTickDrafted-start rows peer plant from to count first now f all = record {
  same = refl;
  associations = refl;
  each = λ k d there updates tables view s.
      let a = get_or now.associations k d in
      let F = made_by tables view a.ordinal (Tick from to) in
      let n = (shown_of rows peer now plant).table.table.slots in
      let whole : n - 0 ≡ n = omega arith in
      ap (λ (l : List ReportKind). l ++ flat_map F (range_with_len 0 (n - 0)))
      (f.done k d (omega (arith, there, all)) updates tables view s)
      ∙ ap (λ (m : ℕ). ended_at tables view a.ordinal to ++ flat_map F (range_with_len 0 m)) whole;
}

module _ (rows : CentreRows) (peer : ℕ) (plant : Plant) (from to : ℕ) (old : Peer) where
  abbrev first_shown : Shown
  first_shown = shown_of rows peer old plant

  -- one transfer set more of which nothing is due
  pub IsTickDrafted-undue : (slot : ℕ) (now : Peer) → slot < first_shown.table.table.slots
      → conditions_by (Tick from to) slot (slot_at old.slots slot).state ≡ 0
      → IsTickDrafted rows peer plant from to slot old now
      → IsTickDrafted rows peer plant from to (slot + 1) old now
  IsTickDrafted-undue slot now below none t = record {
    same = t.same;
    associations = t.associations;
    each = λ k d there.
        let a = get_or now.associations k d in
        IsMadeFrom-more from to slot first_shown a.ordinal a.drafted a.drafted below
        (λ updates tables view s. sym (append-nil a.drafted)
        ∙ ap (λ (l : List ReportKind). a.drafted ++ l)
        (own-undue updates tables view first_shown s slot (Tick from to) a.ordinal none))
        (t.each k d there);
  }

  -- so many of which nothing is due
  pub IsTickDrafted-undues : (slot : ℕ) (now : Peer) → slot ≤ first_shown.table.table.slots
      → ((s : ℕ) → s < slot → conditions_by (Tick from to) s (slot_at old.slots s).state ≡ 0)
      → IsTickDrafted rows peer plant from to 0 old now
      → IsTickDrafted rows peer plant from to slot old now
  IsTickDrafted-undues zero now within none t = t
  IsTickDrafted-undues (suc n) now within none t =
      let next : n + 1 ≡ suc n = omega arith in
      subst (λ (slot : ℕ). IsTickDrafted rows peer plant from to slot old now) next
      (IsTickDrafted-undue n now (omega (arith, within)) (none n (omega arith))
      (IsTickDrafted-undues n now (omega (arith, within))
      (λ s below. none s (omega (arith, below))) t))

  -- one more that was drafted
  pub IsTickDrafted-due : (slot : ℕ) (now next : Peer) → slot < first_shown.table.table.slots
      → next ≡ record now { associations = next.associations }
      → AreDraftedMore (shown_of rows peer now plant)
      (λ tables view ordinal. made_by tables view ordinal (Tick from to) slot) now.associations
      next.associations
      → IsTickDrafted rows peer plant from to slot old now
      → IsTickDrafted rows peer plant from to (slot + 1) old next
  IsTickDrafted-due slot now next below same more t = record {
    same = same ∙ ap (λ (x : Peer). record x { associations = next.associations }) t.same;
    associations = more.same ∙ t.associations;
    each = λ k d there.
        let none = new_association 0 in
        let a = get_or next.associations k d in
        let b = association_at now.associations k in
        let within : k < length now.associations = omega (arith, there, many) in
        let ordinal : b.ordinal ≡ a.ordinal =
        ap (λ (x : OpenAssociation). x.ordinal)
        (sym (get_or-map undrafted now.associations k none none within)
        ∙ ap (λ (l : List OpenAssociation). get_or l k none) (sym more.same)
        ∙ get_or-map undrafted next.associations k none none there)
        ∙ ap (λ (x : OpenAssociation). x.ordinal)
        (get_or_default next.associations k none d there) in
        subst (λ (o : ℕ). IsMadeFrom from to (slot + 1) first_shown o a.drafted) ordinal
        (IsMadeFrom-more from to slot first_shown b.ordinal b.drafted a.drafted below
        (λ updates tables view s.
        ap (λ (x : OpenAssociation). x.drafted)
        (get_or_default next.associations k d none there)
        ∙ more.each k within updates tables view
        (subst (λ (x : Shown). IsShown updates tables view x)
        (sym (shown-same rows peer plant old now t.same)) s))
        (t.each k none within));
  }
    where
      many : length next.associations ≡ length now.associations
      many = sym (length-map next.associations undrafted)
          ∙ ap (λ (l : List OpenAssociation). length l) more.same
          ∙ length-map now.associations undrafted

  pub IsTickDrafted-all : (slot : ℕ) (now : Peer) → first_shown.table.table.slots ≤ slot
      → IsTickDrafted rows peer plant from to slot old now
      → IsDrafted rows peer plant (Tick from to) now
  IsTickDrafted-all slot now all t = λ k d there updates tables view s moment.
      let a = get_or now.associations k d in
      let F = made_by tables view a.ordinal (Tick from to) in
      let n = first_shown.table.table.slots in
      let none : n - slot ≡ 0 = omega (arith, all) in
      let before = subst (λ (x : Shown). IsShown updates tables view x)
      (shown-same rows peer plant old now t.same) s in
      ranged-none F slot (n - slot) a.drafted none
      ∙ t.each k d there updates tables view before
      ∙ tick-made updates tables view first_shown before a.ordinal from to moment

-- The drafts of a tick are made of the transfer sets below one, and as many looks as are bound leave
-- one for each of the others of which something is due.
pub record IsDraftingTick (rows : CentreRows) (peer : ℕ) (plant : Plant) (from to slot : ℕ)
    (old now : Peer) (looks bound : ℕ) : Type 0 where
  pub drafted : IsTickDrafted rows peer plant from to slot old now
  pub few : looks + due_from from to old.slots slot ≤ bound

module _ (rows : CentreRows) (peer : ℕ) (plant : Plant) (from to slot : ℕ) (old now : Peer)
    (looks bound : ℕ) (d : IsDraftingTick rows peer plant from to slot old now looks bound)
    (below : slot < (shown_of rows peer old plant).table.table.slots) (within : slot < SLOT_LIMIT)
    (next : Peer) (more : ℕ) where
  abbrev due : ℕ
  due = conditions_due (slot_at old.slots slot).state from to

  -- one transfer set more, of which something is due, or nothing
  pub IsDraftingTick-due : (after : Peer) → not (due == 0) ≡ true
      → after ≡ record now { associations = after.associations }
      → AreDraftedMore (shown_of rows peer now plant)
      (λ tables view ordinal. made_by tables view ordinal (Tick from to) slot) now.associations
      after.associations
      → next ≡ after → more ≡ looked looks 1
      → IsDraftingTick rows peer plant from to (slot + 1) old next more bound
  IsDraftingTick-due after is same made next_is one_look = record {
    drafted = subst (λ (x : Peer). IsTickDrafted rows peer plant from to (slot + 1) old x)
        (sym next_is)
        (IsTickDrafted-due rows peer plant from to old slot now after below same made d.drafted);
    few = due-looked from to slot old.slots looks bound within d.few more is one_look;
  }

  pub IsDraftingTick-undue : not (due == 0) ≡ false → next ≡ now → more ≡ looks
      → IsDraftingTick rows peer plant from to (slot + 1) old next more bound
  IsDraftingTick-undue is next_is same = record {
    drafted = subst (λ (x : Peer). IsTickDrafted rows peer plant from to (slot + 1) old x)
        (sym next_is)
        (IsTickDrafted-undue rows peer plant from to old slot now below (none_due due is)
        d.drafted);
    few =
        let few = undue-passed from to slot old.slots looks bound within d.few is in
        omega (arith, few, same);
  }
