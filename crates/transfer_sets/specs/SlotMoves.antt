-- A transfer set by what befell it since it was handed out: its owner, its wish with the status
-- that stands, the base of its times, and the changes that no report has told (IEC 60870-6-503, DS
-- transfer sets).
use Rattle.std.specs.Prelude.{ℕ, Bool, not, List, [], ◌∷◌, map, reverse, flat_map, Option, Some}
use Rattle.std.specs.Prelude.{None, length, ◌==◌, bytes_eq}
use Rattle.std.specs.List.{filter, list_any}
use Rattle.tase_points.specs.Sample.{Sample}
use Rattle.transfer_sets.specs.declared.noted.Noted.{Noted}
use Rattle.transfer_sets.specs.declared.wish.Wish.{Wish}
use Rattle.transfer_sets.specs.Wishes.{empty_wish, base_of}
use Rattle.transfer_sets.specs.SlotState.{SlotState, IsSlotLike, noted_at}

-- a change of a point, by its name: its moment, in milliseconds since 1970, and the value and the
-- shown count of changes just after it
pub record PointChange : Type 0 where
  pub point : List ℕ
  pub moment : ℕ
  pub value : Sample
  pub count : ℕ

-- what befalls a transfer set: it is handed out to an association; a wish is made of it at a
-- moment, be it the last one with another status; a point changes; reports of it are made
pub data SlotMove : Type 0 where
  handed_out : ℕ → SlotMove
  wishes : Wish → ℕ → SlotMove
  changes : PointChange → SlotMove
  reports : SlotMove

-- the association to which it was handed out
abbrev pub owner_in : List SlotMove → Option ℕ
owner_in [] = None
owner_in (handed_out ordinal ∷ moves) = Some ordinal
owner_in (_ ∷ moves) = owner_in moves

-- what it was wished last since it was handed out, and when; before that, nothing. The wish's
-- status says whether it is enabled.
abbrev pub last_wish : List SlotMove → Wish × ℕ
last_wish [] = (empty_wish, 0)
last_wish (handed_out ordinal ∷ moves) = (empty_wish, 0)
last_wish (wishes wish now ∷ moves) = (wish, now)
last_wish (_ ∷ moves) = last_wish moves

-- the changes since the last report or wish, the newest first
abbrev pub untold : List SlotMove → List PointChange
untold (changes change ∷ moves) = change ∷ untold moves
untold _ = []

-- whether a point has a change that no report has told
abbrev pub has_untold : List SlotMove → List ℕ → Bool
has_untold moves point = list_any (λ (change : PointChange). bytes_eq change.point point)
    (untold moves)

-- the moment of the first of some changes, which stand newest first
abbrev pub first_moment : List PointChange → Option ℕ
first_moment [] = None
first_moment (change ∷ before) = noted_at change.moment (first_moment before)

-- the places of a data set's members that name a point
abbrev pub Places : Type 0
Places = List ℕ → List ℕ

-- the members that a change notes, in the set's order
abbrev pub noted_by : Places → PointChange → List Noted
noted_by places change =
    map (λ member. record { member = member; value = change.value; cov = change.count })
    (places change.point)

-- the transfer set as its due conditions see it, over the places of its data set's members: its
-- wish; the base of its times; the first untold change of a member; all of them, the oldest first
abbrev pub slot_in : Places → List SlotMove → SlotState
slot_in places moves =
    let last = last_wish moves in
    let changed = filter (λ (c : PointChange). not (length (places c.point) == 0)) (untold moves) in
    record {
      wish = last.0;
      base = base_of last.0 last.1;
      first = first_moment changed;
      noted = flat_map (noted_by places) (reverse changed);
    }

-- these moves have brought a slot where it stands: it is wished what they say, and where it is
-- enabled all is as they say
abbrev pub FollowsMoves : Places → List SlotMove → SlotState → Type 0
FollowsMoves places moves s = IsSlotLike s (slot_in places moves)
