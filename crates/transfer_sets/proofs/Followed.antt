-- A slot stands where its moves have brought it.
use Rattle.std.proofs.Common.{◌≡◌, ℕ, ◌==◌, ◌≤◌, ◌||◌, Bool, true, false, not, List, [], ◌∷◌, ◌++◌}
use Rattle.std.proofs.Common.{length, map, reverse, Option, None, refl, sym, ap, ◌∙◌, subst, inl}
use Rattle.std.proofs.Common.{inr}
use Rattle.std.specs.List.{filter, flat_map}
use Rattle.std.proofs.lemmas.Bool.{false≢true, and_parts, eqb-true}
use Rattle.std.proofs.lemmas.Grind.{flat_map-append, reverse_onto}
use Rattle.std.proofs.lemmas.List.{append-nil, append_assoc}
use Rattle.std.proofs.lemmas.List.Folds.{list_any-append}
use Rattle.tase_points.specs.Sample.{Sample}
use Rattle.transfer_sets.specs.declared.noted.Noted.{Noted}
use Rattle.transfer_sets.specs.declared.wish.Wish.{Wish}
use Rattle.transfer_sets.specs.SlotState.{SlotState, IsSlotLike, new_slot, with_status, enabled_by}
use Rattle.transfer_sets.specs.SlotState.{noted_at, tells_all, is_noted, noted_behind}
use Rattle.transfer_sets.specs.SlotMoves.{SlotMove, PointChange, Places, handed_out, changes}
use Rattle.transfer_sets.specs.SlotMoves.{reports, wishes, last_wish, untold, first_moment}
use Rattle.transfer_sets.specs.SlotMoves.{noted_by, slot_in, FollowsMoves}
use Rattle.transfer_sets.specs.Due.{AreDue}
use Rattle.transfer_sets.proofs.DueNumbers.{one_number}
use Rattle.transfer_sets.proofs.DueLater.{none_off}

-- a slot that isn't enabled is like each with its wish
resting : (s other : SlotState) → s.wish ≡ other.wish → s.wish.status ≡ false
    → IsSlotLike s other
resting s other wish off = record {
  wish = wish;
  base = λ on. absurd (never on);
  first = λ on. absurd (never on);
  noted = λ on all. absurd (never on);
  members = λ on rbe member. absurd (never on);
}
  where
    never : s.wish.status ≡ true → ⊥
    never on = false≢true (sym off ∙ on)

pub likes : (one s other : SlotState) → IsSlotLike s one → IsSlotLike other one
    → IsSlotLike s other
likes one s other a b =
    let back : other.wish ≡ s.wish = b.wish ∙ sym a.wish in record {
      wish = sym back;
      base = λ on. a.base on ∙ sym (b.base (ap (λ (w : Wish). w.status) back ∙ on));
      first = λ on. a.first on ∙ sym (b.first (ap (λ (w : Wish). w.status) back ∙ on));
      noted = λ on all. a.noted on all
          ∙ sym (b.noted (ap (λ (w : Wish). w.status) back ∙ on) (ap tells_all back ∙ all));
      members = λ on rbe member. a.members on rbe member
          ∙ sym (b.members (ap (λ (w : Wish). w.status) back ∙ on)
          (ap (λ (w : Wish). w.rbe) back ∙ rbe) member);
    }

abbrev state_of : Wish → ℕ → Option ℕ → List Noted → SlotState
state_of w base first noted = record { wish = w; base = base; first = first; noted = noted }

-- what is noted counts where all is told
noted_due : (w : Wish) (base : ℕ) (first : Option ℕ) (n m : List Noted) (from to conditions : ℕ)
    → (tells_all w ≡ true → n ≡ m) → AreDue (state_of w base first n) from to conditions
    → AreDue (state_of w base first m) from to conditions
noted_due w base first n m from to conditions same due = record {
  interval = due.interval;
  integrity = due.integrity;
  change = (
    λ h. (let p = due.change.0 h in (
      p.0,
      p.1,
      elim p.2 [
        | inl e ↦ inl e
        | inr q ↦ inr (q.0, subst (λ (l : List Noted). 500 ≤ length l) (same q.0) q.1)
      ],
    )),
    λ p. due.change.1 (
      p.0,
      p.1,
      elim p.2 [
        | inl e ↦ inl e
        | inr q ↦ inr (q.0, subst (λ (l : List Noted). 500 ≤ length l) (sym (same q.0)) q.1)
      ],
    ),
  );
  no_others = due.no_others;
}

-- one that isn't enabled has nothing due, whatever else it knows
pub like_due : (s other : SlotState) (from to conditions : ℕ) → IsSlotLike s other
    → AreDue s from to conditions → AreDue other from to conditions
like_due s other from to conditions like due = by s.wish.status refl
  where
    by : (b : Bool) → s.wish.status ≡ b → AreDue other from to conditions
    by true on =
        let P : Wish → ℕ → Option ℕ → Type 0 = λ w base first.
        AreDue (state_of w base first s.noted) from to conditions in
        noted_due other.wish other.base other.first s.noted other.noted from to conditions
        (λ all. like.noted on (ap tells_all like.wish ∙ all))
        (subst (λ (f : Option ℕ). P other.wish other.base f) (like.first on)
        (subst (λ (b : ℕ). P other.wish b s.first) (like.base on)
        (subst (λ (w : Wish). P w s.base s.first) like.wish due)))
    by false off =
        let none : conditions ≡ 0 =
        one_number s from to conditions 0 due (none_off s from to off) in
        subst (AreDue other from to) (sym none) (none_off other from to
        (ap (λ (w : Wish). w.status) (sym like.wish) ∙ off))

pub handed : (places : Places) (moves : List SlotMove) (ordinal : ℕ) (new : SlotState)
    → new ≡ new_slot → FollowsMoves places (handed_out ordinal ∷ moves) new
handed places moves ordinal new is = rw is (record {
  wish = refl;
  base = λ on. refl;
  first = λ on. refl;
  noted = λ on all. refl;
  members = λ on rbe member. refl;
})

pub begun : (places : Places) (moves : List SlotMove) (wish : Wish) (now : ℕ)
    (new : SlotState) → new ≡ enabled_by wish now
    → FollowsMoves places (wishes (with_status true wish) now ∷ moves) new
begun places moves wish now new is = rw is (record {
  wish = refl;
  base = λ on. refl;
  first = λ on. refl;
  noted = λ on all. refl;
  members = λ on rbe member. refl;
})

pub kept : (places : Places) (moves : List SlotMove) (wish : Wish) (now : ℕ)
    (new : SlotState) → new.wish ≡ with_status false wish
    → FollowsMoves places (wishes (with_status false wish) now ∷ moves) new
kept places moves wish now new is =
    resting new (slot_in places (wishes (with_status false wish) now ∷ moves)) is
    (ap (λ (w : Wish). w.status) is)

pub disabled : (places : Places) (moves : List SlotMove) (now : ℕ) (old new : SlotState)
    → new.wish ≡ with_status false old.wish → FollowsMoves places moves old
    → FollowsMoves places (wishes (with_status false (last_wish moves).0) now ∷ moves) new
disabled places moves now old new is f =
    resting new (slot_in places (wishes (with_status false (last_wish moves).0) now ∷ moves))
    (is ∙ ap (with_status false) f.wish) (ap (λ (w : Wish). w.status) is)

-- a change behind the others is told last
told_last : (places : Places) (change : PointChange) (before : List PointChange)
    → flat_map (noted_by places) (reverse (change ∷ before))
    ≡ flat_map (noted_by places) (reverse before) ++ noted_by places change
told_last places change before =
    ap (flat_map (noted_by places)) (reverse_onto before change [])
    ∙ flat_map-append (noted_by places) (reverse before) (change ∷ [])
    ∙ ap (λ (l : List Noted). flat_map (noted_by places) (reverse before) ++ l)
    (append-nil (noted_by places change))

-- a member with this value and this count
abbrev noted_with : Sample → ℕ → ℕ → Noted
noted_with value count member = record { member = member; value = value; cov = count }

-- whether some member names the point of a change
abbrev is_of_member : Places → PointChange → Bool
is_of_member places change = not (length (places change.point) == 0)

-- a change of a member, and of another point
noted_in : (places : Places) (moves : List SlotMove) (change : PointChange)
    → is_of_member places change ≡ true
    → slot_in places (changes change ∷ moves) ≡ record (slot_in places moves) {
      first = noted_at change.moment (slot_in places moves).first;
      noted = (slot_in places moves).noted ++ noted_by places change;
    }
noted_in places moves change e =
    let before = filter (is_of_member places) (untold moves) in
    rw e (ap (λ (l : List Noted). record (slot_in places moves) {
      first = noted_at change.moment (first_moment before);
      noted = l;
    }) (told_last places change before))

passed_in : (places : Places) (moves : List SlotMove) (change : PointChange)
    → places change.point ≡ []
    → slot_in places (changes change ∷ moves) ≡ slot_in places moves
passed_in places moves change e = rw e refl

-- all notes behind others
all_behind : (noted notes : List Noted) → noted_behind true noted notes ≡ noted ++ notes
all_behind noted [] = sym (append-nil noted)
all_behind noted (note ∷ notes) =
    all_behind (noted ++ note ∷ []) notes ∙ append_assoc noted (note ∷ []) notes

parted : (a b c : Bool) → ((a || (b || false)) || c) ≡ (a || (b || c))
parted true b c = refl
parted false true c = refl
parted false false c = refl

already : (all noted : Bool) → (all || not noted) ≡ false → noted ≡ true
already true noted e = absurd (false≢true (sym e))
already false true e = refl
already false false e = absurd (false≢true (sym e))

-- a note of a member that is among the notes adds none
there : (noted : List Noted) (note : Noted) (m : ℕ) (more : Bool)
    → is_noted noted note.member ≡ true
    → (is_noted noted m || more) ≡ (is_noted noted m || ((note.member == m) || more))
there noted note m more among = by (note.member == m) refl
  where
    by : (b : Bool) → (note.member == m) ≡ b
        → (is_noted noted m || more) ≡ (is_noted noted m || ((note.member == m) || more))
    by true e = let here : is_noted noted m ≡ true =
        ap (is_noted noted) (sym (eqb-true note.member m e)) ∙ among in rw here refl
    by false e = rw e refl

-- a member is among notes behind others where it is among these or those
abbrev ors : (all : Bool) (m : ℕ) (noted notes : List Noted) → Type 0
ors all m noted notes =
    is_noted (noted_behind all noted notes) m ≡ (is_noted noted m || is_noted notes m)

one_behind : (all : Bool) (m : ℕ) (noted : List Noted) (note : Noted) (notes : List Noted) (b : Bool)
    → (all || not (is_noted noted note.member)) ≡ b → ors all m (noted ++ note ∷ []) notes
    → ors all m noted notes → ors all m noted (note ∷ notes)
one_behind all m noted note notes true e more same = rw e (more
    ∙ ap (λ (b : Bool). b || is_noted notes m)
    (list_any-append (λ (n : Noted). n.member == m) noted (note ∷ []))
    ∙ parted (is_noted noted m) (note.member == m) (is_noted notes m))
one_behind all m noted note notes false e more same = rw e (same
    ∙ there noted note m (is_noted notes m) (already all (is_noted noted note.member) e))

or_false : (b : Bool) → b ≡ (b || false)
or_false true = refl
or_false false = refl

members_behind : (all : Bool) (m : ℕ) (noted notes : List Noted) → ors all m noted notes
members_behind all m noted [] = or_false (is_noted noted m)
members_behind all m noted (note ∷ notes) =
    one_behind all m noted note notes (all || not (is_noted noted note.member)) refl
    (members_behind all m (noted ++ note ∷ []) notes) (members_behind all m noted notes)

pub changed : (places : Places) (moves : List SlotMove) (change : PointChange)
    (old new : SlotState) → is_of_member places change ≡ true → new.wish ≡ old.wish
    → new.base ≡ old.base → new.first ≡ noted_at change.moment old.first
    → (old.wish.rbe ≡ true
    → new.noted ≡ noted_behind old.wish.all_changes old.noted (noted_by places change))
    → FollowsMoves places moves old → FollowsMoves places (changes change ∷ moves) new
changed places moves change old new member wish base first noted f =
    let here = noted_in places moves change member in
    let on_old = λ (on : new.wish.status ≡ true). ap (λ (w : Wish). w.status) (sym wish) ∙ on in
    record {
      wish = wish ∙ f.wish;
      base = λ on. base ∙ f.base (on_old on);
      first = λ on. first ∙ ap (noted_at change.moment) (f.first (on_old on))
          ∙ sym (ap (λ (s : SlotState). s.first) here);
      noted = λ on all. (let all_old : tells_all old.wish ≡ true = ap tells_all (sym wish) ∙ all in
          noted (and_parts old.wish.rbe old.wish.all_changes all_old).0
          ∙ ap (λ (all : Bool). noted_behind all old.noted (noted_by places change))
          (and_parts old.wish.rbe old.wish.all_changes all_old).1
          ∙ all_behind old.noted (noted_by places change)
          ∙ ap (λ (l : List Noted). l ++ noted_by places change) (f.noted (on_old on) all_old)
          ∙ sym (ap (λ (s : SlotState). s.noted) here));
      members = λ on rbe m. (let rbe_old : old.wish.rbe ≡ true =
          ap (λ (w : Wish). w.rbe) (sym wish) ∙ rbe in
          ap (λ (l : List Noted). is_noted l m) (noted rbe_old)
          ∙ members_behind old.wish.all_changes m old.noted (noted_by places change)
          ∙ ap (λ (b : Bool). b || is_noted (noted_by places change) m)
          (f.members (on_old on) rbe_old m)
          ∙ sym (list_any-append (λ (n : Noted). n.member == m) (slot_in places moves).noted
          (noted_by places change))
          ∙ sym (ap (λ (s : SlotState). is_noted s.noted m) here));
    }

-- a change of members of a slot that has changes told
pub all_noted : (places : Places) (moves : List SlotMove) (change : PointChange)
    (here : List ℕ) (old mid new : SlotState) → places change.point ≡ here
    → (length here == 0) ≡ false
    → mid ≡ record old { first = noted_at change.moment old.first }
    → new ≡ record mid {
      noted = noted_behind mid.wish.all_changes mid.noted
          (map (noted_with change.value change.count) here);
    }
    → FollowsMoves places moves old → FollowsMoves places (changes change ∷ moves) new
all_noted places moves change here old mid new same some first noted f =
    changed places moves change old new
    (ap (λ (l : List ℕ). not (length l == 0)) same ∙ ap not some)
    (ap (λ (s : SlotState). s.wish) noted ∙ ap (λ (s : SlotState). s.wish) first)
    (ap (λ (s : SlotState). s.base) noted ∙ ap (λ (s : SlotState). s.base) first)
    (ap (λ (s : SlotState). s.first) noted ∙ ap (λ (s : SlotState). s.first) first)
    (λ rbe. ap (λ (s : SlotState). s.noted) noted
    ∙ ap (λ (s : SlotState). noted_behind s.wish.all_changes s.noted
    (map (noted_with change.value change.count) here)) first
    ∙ ap (λ (l : List ℕ). noted_behind old.wish.all_changes old.noted
    (map (noted_with change.value change.count) l)) (sym same))
    f

pub passed : (places : Places) (moves : List SlotMove) (s : SlotState) (change : PointChange)
    → FollowsMoves places moves s → (s.wish.status ≡ true → places change.point ≡ [])
    → FollowsMoves places (changes change ∷ moves) s
passed places moves s change f other = record {
  wish = f.wish;
  base = f.base;
  first = λ on. f.first on
      ∙ sym (ap (λ (t : SlotState). t.first) (passed_in places moves change (other on)));
  noted = λ on all. f.noted on all
      ∙ sym (ap (λ (t : SlotState). t.noted) (passed_in places moves change (other on)));
  members = λ on rbe m. f.members on rbe m
      ∙ sym (ap (λ (t : SlotState). is_noted t.noted m) (passed_in places moves change (other on)));
}

pub told : (places : Places) (moves : List SlotMove) (old new : SlotState)
    → new ≡ record old { first = None; noted = [] } → FollowsMoves places moves old
    → FollowsMoves places (reports ∷ moves) new
told places moves old new is f = rw is (record {
  wish = f.wish;
  base = f.base;
  first = λ on. refl;
  noted = λ on all. refl;
  members = λ on rbe member. refl;
})

pub over_others : (places other : Places) (moves : List SlotMove) (s : SlotState)
    → s.wish.status ≡ false → FollowsMoves places moves s → FollowsMoves other moves s
over_others places other moves s off f = resting s (slot_in other moves) f.wish off
