-- What a slot keeps.
use Rattle.std.specs.Prelude.{◌≡◌, ℕ, ◌==◌, Bool, true, not, ◌&&◌, ◌||◌, if◌then◌else◌}
use Rattle.std.specs.Prelude.{List, [], ◌∷◌, ◌++◌, Option, Some, None}
use Rattle.std.specs.List.{list_any}
use Rattle.transfer_sets.specs.declared.noted.Noted.{Noted}
use Rattle.transfer_sets.specs.declared.wish.Wish.{Wish}
use Rattle.transfer_sets.specs.Wishes.{empty_wish, base_of}

-- the wish, whose status says whether the slot is enabled; the moment from which its times count;
-- the moment of the first change that no report has told yet, if there was one; and, of a wish that
-- has changes told, the members that changed, in order: all changes, or the first of each member
pub record SlotState : Type 0 where
  pub wish : Wish
  pub base : ℕ
  pub first : Option ℕ
  pub noted : List Noted

-- a slot as its owner keeps it: its state, and how many members can be noted without memory
pub record KeptSlot : Type 0 where
  pub state : SlotState
  pub spare : ℕ

-- nothing was wished
abbrev pub new_slot : SlotState
new_slot = record { wish = empty_wish; base = 0; first = None; noted = [] }

-- a wish with this status
abbrev pub with_status : Bool → Wish → Wish
with_status status w = record w { status = status }

-- whether a wish has every change told, each by itself
abbrev pub tells_all : Wish → Bool
tells_all w = w.rbe && w.all_changes

-- an enabled slot begins anew: its times count from the wish's base, and no change is noted
abbrev pub enabled_by : Wish → ℕ → SlotState
enabled_by w now = record {
  wish = with_status true w;
  base = base_of w now;
  first = None;
  noted = [];
}

-- the first change is noted, later ones change nothing
abbrev pub noted_at : ℕ → Option ℕ → Option ℕ
noted_at now None = Some now
noted_at now (Some first) = Some first

-- whether a member is among some notes
abbrev pub is_noted : List Noted → ℕ → Bool
is_noted noted member = list_any (λ (n : Noted). n.member == member) noted

-- notes with further ones behind them: with all of these, or with the first of each member alone
abbrev pub noted_behind : Bool → List Noted → List Noted → List Noted
noted_behind all noted [] = noted
noted_behind all noted (note ∷ notes) =
    noted_behind all (if all || not (is_noted noted note.member) then noted ++ note ∷ [] else noted)
    notes

-- one slot is like another: their wishes are equal; where these enable them their times are; where
-- they have changes told, the same members are noted, and, where every change, with the same notes
pub record IsSlotLike (s other : SlotState) : Type 0 where
  pub wish : s.wish ≡ other.wish
  pub base : s.wish.status ≡ true → s.base ≡ other.base
  pub first : s.wish.status ≡ true → s.first ≡ other.first
  pub noted : s.wish.status ≡ true → tells_all s.wish ≡ true → s.noted ≡ other.noted
  pub members : s.wish.status ≡ true → s.wish.rbe ≡ true → (member : ℕ)
      → is_noted s.noted member ≡ is_noted other.noted member
