-- What a node keeps of its peers: lists of parts of which one or each becomes another, and the
-- drafts of one part.
use Rattle.std.proofs.Common.{◌≡◌, ◌≢◌, ℕ, ◌+◌, ◌<◌, ◌≤◌, List, map, set, length, get_or, Some}
use Rattle.std.proofs.Common.{refl, sym, ap, ◌∙◌, subst, ⊎_elim, arith, length-set}
use Rattle.std.proofs.Common.{get_or-set_same, get_or-set_other, slice_get}
use Rattle.std.specs.List.{All}
use Rattle.std.proofs.lemmas.Bool.{cases_eq, cases_lt}
use Rattle.std.proofs.lemmas.List.{length-map}
use Rattle.std.proofs.lemmas.Option.{slice_get_read, slice_get_within, get_or_from_slice_get}
use Rattle.std.proofs.lemmas.Option.{slice_get-get_or, slice_get_past, same_Some}
use Rattle.bilateral.specs.Rows.{CentreRows}
use Rattle.tase_views.specs.declared.reply.ReportKind.{ReportKind}
use Rattle.tase_views.specs.View.{moment_in}
use Rattle.tase_views.specs.Reports.{reports_by}
use Rattle.node_core.specs.declared.feeds.cause.ReportCause.{ReportCause}
use Rattle.node_core.specs.declared.node.peer.Peer.{Peer}
use Rattle.node_core.specs.declared.plant.Plant.{Plant}
use Rattle.node_core.specs.Slots.Associations.{OpenAssociation, association_at, undrafted}
use Rattle.node_core.specs.Slots.Associations.{drafted_by}
use Rattle.node_core.specs.Replies.Shown.{Shown, InEachView, shown_of}
use Rattle.node_core.specs.Feeds.SlotFeeds.{move_of, moment_before}
use Rattle.node_core.specs.PartFeeds.{IsAlike, OneBecomes, EachBecomes}
use Rattle.node_core.specs.Stored.{IsPeerThere, IsPeerShown, IsPeerBanked}
use Rattle.node_core.proofs.OfFeeds.SlotFeeds.{HasMoreRoom-refl}

-- ---- one part becomes another

-- the part that is read at a place
pub part_read : (old : List Peer) (peer : ℕ) (part : Peer) → peer < length old
    → part ≡ get_or old peer part → slice_get old peer ≡ Some part
part_read old peer part there read = slice_get_read old (length old) peer part refl there read

-- it is whatever part is there
pub part_is : (old : List Peer) (peer : ℕ) (part before : Peer) → peer < length old
    → part ≡ get_or old peer part → slice_get old peer ≡ Some before → part ≡ before
part_is old peer part before there read at =
    same_Some part before (sym (part_read old peer part there read) ∙ at)

pub slice_get-set_other : (old : List Peer) (peer other : ℕ) (after : Peer) → other ≢ peer
    → slice_get (set old peer after) other ≡ slice_get old other
slice_get-set_other old peer other after apart =
    let many = length-set old peer after in
    ⊎_elim
    (λ (there : other < length old).
    slice_get-get_or (set old peer after) other after (omega arith)
    ∙ ap (λ (part : Peer). Some part) (get_or-set_other old peer other after after apart)
    ∙ sym (slice_get-get_or old other after there))
    (λ past. slice_get_past (set old peer after) other (omega arith)
    ∙ sym (slice_get_past old other past))
    (cases_lt other (length old))

-- behind a write of that part
pub OneBecomes-set : (R : Peer → Peer → Type 0) (old : List Peer) (peer : ℕ) (part after : Peer)
    → peer < length old → part ≡ get_or old peer part → R part after
    → OneBecomes R peer old (set old peer after)
OneBecomes-set R old peer part after there read becomes = record {
  many = length-set old peer after;
  here = λ before new at written.
      let same : part ≡ before = part_is old peer part before there read at in
      let is : after ≡ new =
      sym (get_or-set_same old peer after after there)
      ∙ get_or_from_slice_get (set old peer after) peer new after written in
      subst (λ (x : Peer). R before x) is (subst (λ (x : Peer). R x after) same becomes);
  others = λ other apart. slice_get-set_other old peer other after apart;
}

-- ---- of all parts the first so many have become others

pub record FirstBecome (R : ℕ → Peer → Peer → Type 0) (count : ℕ) (old now : List Peer) : Type 0
  where
    pub many : length now ≡ length old
    pub done : (peer : ℕ) (part after : Peer) → peer < count → slice_get old peer ≡ Some part
        → slice_get now peer ≡ Some after → R peer part after
    pub left : (peer : ℕ) → count ≤ peer → slice_get now peer ≡ slice_get old peer

module _ (R : ℕ → Peer → Peer → Type 0) where
  pub FirstBecome-step : (count : ℕ) (old now next : List Peer) → FirstBecome R count old now
      → OneBecomes (R count) count now next → FirstBecome R (count + 1) old next
  FirstBecome-step count old now next f one = record {
    many = one.many ∙ f.many;
    done = λ peer part after below at here.
        ⊎_elim
        (λ (same : peer ≡ count). subst (λ (p : ℕ). R p part after) (sym same)
        (one.here part after
        (f.left count (omega arith) ∙ ap (slice_get old) (sym same) ∙ at)
        (ap (slice_get next) (sym same) ∙ here)))
        (λ apart. f.done peer part after (omega (arith, below, apart)) at
        (sym (one.others peer apart) ∙ here))
        (cases_eq peer count);
    left = λ peer more.
        one.others peer (λ same. absurd (omega (arith, more, same)))
        ∙ f.left peer (omega (arith, more));
  }

  pub FirstBecome-all : (count : ℕ) (old now : List Peer) → length old ≤ count
      → FirstBecome R count old now → EachBecomes R old now
  FirstBecome-all count old now all f = record {
    many = f.many;
    each = λ peer part after at here.
        f.done peer part after (omega (arith, all, slice_get_within old peer part at)) at here;
  }

  -- where a part also becomes itself, the others are behind it too
  pub FirstBecome-each : (count : ℕ) (old now : List Peer)
      → ((peer : ℕ) (part : Peer) → R peer part part) → FirstBecome R count old now
      → EachBecomes R old now
  FirstBecome-each count old now itself f = record {
    many = f.many;
    each = λ peer part after at here.
        ⊎_elim
        (λ below. f.done peer part after below at here)
        (λ past. subst (λ (x : Peer). R peer part x)
        (same_Some part after (sym at ∙ sym (f.left peer past) ∙ here)) (itself peer part))
        (cases_lt peer count);
  }

-- ---- what holds of a part that is as it was

module _ (old now : List Peer) (peer : ℕ) (many : length now ≡ length old)
    (same : slice_get now peer ≡ slice_get old peer) where
  pub IsPeerThere-same : (rows : CentreRows) → IsPeerThere rows old peer
      → IsPeerThere rows now peer
  IsPeerThere-same rows there = record {
    table = there.table;
    part = omega (arith, there.part, many);
    in_force = λ part at. there.in_force part (sym same ∙ at);
    chosen = λ part at. there.chosen part (sym same ∙ at);
    few = λ part at. there.few part (sym same ∙ at);
    slots = λ part at. there.slots part (sym same ∙ at);
  }

  pub IsPeerShown-same : (rows : CentreRows) (plant : Plant)
      → IsPeerShown rows plant old peer → IsPeerShown rows plant now peer
  IsPeerShown-same rows plant shown = record {
    lawful = shown.lawful;
    there = IsPeerThere-same rows shown.there;
    shown = λ part at. shown.shown part (sym same ∙ at);
  }

  pub IsPeerBanked-same : IsPeerBanked old peer → IsPeerBanked now peer
  IsPeerBanked-same banked = record {
    there = omega (arith, banked.there, many);
    many = λ part at. banked.many part (sym same ∙ at);
  }

-- ---- the drafts of one part

pub IsAlike-refl : (part : Peer) → IsAlike part part
IsAlike-refl part = record {
  same = refl;
  associations = refl;
  slots = HasMoreRoom-refl part.slots;
}

-- a part that is as it was but for its drafts
pub IsAlike-drafts : (old now : Peer) → now ≡ record old { associations = now.associations }
    → map undrafted now.associations ≡ map undrafted old.associations → IsAlike old now
IsAlike-drafts old now same alike =
    subst (λ (x : Peer). map undrafted x.associations ≡ map undrafted old.associations
    → IsAlike old x) (sym same)
    (λ drafts. record { same = refl; associations = drafts; slots = HasMoreRoom-refl old.slots })
    alike

-- the reports of a cause for one association, by what its peer is shown
abbrev pub IsMade : ReportCause → Shown → ℕ → List ReportKind → Type 0
IsMade cause shown ordinal made =
    InEachView shown (λ tables view. moment_in view ≡ moment_before cause
    → made ≡ reports_by tables view ordinal (move_of cause))

-- a part that is as it was but for its drafts, of which those of so many first associations are made
pub record FirstDrafted (rows : CentreRows) (peer : ℕ) (plant : Plant)
    (Made : Shown → ℕ → List ReportKind → Type 0) (count : ℕ) (old now : Peer) : Type 0 where
  pub same : now ≡ record old { associations = now.associations }
  pub associations : map undrafted now.associations ≡ map undrafted old.associations
  pub done : (k : ℕ) (d : OpenAssociation) → k < count
      → Made (shown_of rows peer now plant) (get_or now.associations k d).ordinal
      (get_or now.associations k d).drafted

module _ (rows : CentreRows) (peer : ℕ) (plant : Plant)
    (Made : Shown → ℕ → List ReportKind → Type 0) where
  pub FirstDrafted-step : (count : ℕ) (old now : Peer) (those : List OpenAssociation)
      (made : List ReportKind) → FirstDrafted rows peer plant Made count old now
      → count < length now.associations
      → Made (shown_of rows peer now plant)
      (association_at now.associations count).ordinal made
      → map undrafted those ≡ map undrafted now.associations
      → those ≡ set now.associations count
      (drafted_by made (association_at now.associations count))
      → FirstDrafted rows peer plant Made (count + 1) old (record now { associations = those })
  FirstDrafted-step count old now those made f there is alike set_is = record {
    same = ap (λ (x : Peer). record x { associations = those }) f.same;
    associations = alike ∙ f.associations;
    done = λ k d below.
        let a = drafted_by made (association_at now.associations count) in
        subst (λ (x : OpenAssociation).
        Made (shown_of rows peer now plant) x.ordinal x.drafted)
        (ap (λ (l : List OpenAssociation). get_or l k d) (sym set_is))
        (⊎_elim
        (λ (same : k ≡ count).
        subst (λ (x : OpenAssociation).
        Made (shown_of rows peer now plant) x.ordinal x.drafted)
        (sym (ap (λ (n : ℕ). get_or (set now.associations count a) n d) same
        ∙ get_or-set_same now.associations count a d there)) is)
        (λ apart.
        subst (λ (x : OpenAssociation).
        Made (shown_of rows peer now plant) x.ordinal x.drafted)
        (sym (get_or-set_other now.associations count k a d apart))
        (f.done k d (omega (arith, below, apart))))
        (cases_eq k count));
  }

  pub FirstDrafted-all : (count : ℕ) (old now : Peer)
      → FirstDrafted rows peer plant Made count old now → length now.associations ≤ count
      → All (λ (a : OpenAssociation). Made (shown_of rows peer now plant) a.ordinal a.drafted)
      now.associations
  FirstDrafted-all count old now f all =
      λ k d there. f.done k d (omega (arith, there, all))

  -- how many associations there are
  pub FirstDrafted-many : (count : ℕ) (old now : Peer)
      → FirstDrafted rows peer plant Made count old now
      → length now.associations ≡ length old.associations
  FirstDrafted-many count old now f =
      sym (length-map now.associations undrafted)
      ∙ ap (λ (l : List OpenAssociation). length l) f.associations
      ∙ length-map old.associations undrafted
