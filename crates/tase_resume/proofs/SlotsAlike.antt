-- Transfer sets are alike behind one seen move more: hand-outs, wishes, changes, reports and closes
-- befall them alike.
use Rattle.std.proofs.Common.{◌≡◌, ◌==◌, ℕ, ◌+◌, ◌%◌, Bool, true, false, ◌&&◌, ◌||◌, if◌then◌else◌}
use Rattle.std.proofs.Common.{List, [], ◌∷◌, map, Option, Some, None, refl, sym, ap, subst, ◌∙◌}
use Rattle.std.proofs.Common.{inl, inr, bytes_eq, Result, Ok, Err}
use Rattle.std.specs.Prelude.{find, nat_eq, All}
use Rattle.std.specs.List.{list_any}
use Rattle.std.specs.Option.{option_eq, option_map_or}
use Rattle.std.proofs.lemmas.Bool.{false≢true}
use Rattle.std.proofs.lemmas.Option.{same_Some, none-some}
use Rattle.std.proofs.lemmas.List.Elements.{All-head, All-tail}
use Rattle.std.proofs.lemmas.Slice.Eq.{bytes_eq-Decides}
use Rattle.std.proofs.Math.Nat.{mod-add-mod}
use mathlib.Core.Path.{fun_ext}
use Rattle.tase_points.specs.Sample.{Sample}
use Rattle.tase_points.specs.Values.{is_change}
use Rattle.tase_points.specs.declared.layout.TheConstants.{COV_MODULUS}
use Rattle.point_db.specs.Updates.{last_of, changes_of}
use Rattle.transfer_sets.specs.declared.wish.Wish.{Wish}
use Rattle.transfer_sets.specs.SlotState.{SlotState}
use Rattle.transfer_sets.specs.SlotMoves.{PointChange, SlotMove, handed_out, wishes, changes}
use Rattle.transfer_sets.specs.SlotMoves.{reports}
use Rattle.transfer_sets.specs.Due.{conditions_due}
use Rattle.tase_views.specs.Moves.{opens, takes, closes, reads, writes, defines, deletes, calls}
use Rattle.tase_views.specs.OwnTables.{OwnPoint, OwnTable, OwnTables, table_in}
use Rattle.tase_views.specs.Objects.{object_named}
use Rattle.tase_views.specs.View.{Seen, own, other_acted, other_closed, updated, tagged, asked}
use Rattle.tase_views.specs.View.{chose, ticked, stopped, View, held, force, moment_in}
use Rattle.tase_views.specs.Values.{values_in, change_count_of}
use Rattle.tase_views.specs.Sets.{Sets}
use Rattle.tase_views.specs.Slots.{owns, slot_of, is_next_slot, lowest_free, with_wish}
use Rattle.tase_views.specs.Slots.{wish_written, wish_asked, taken, state_by, makes_report}
use Rattle.tase_views.specs.Slots.{asked_conditions, changes_point, count_shown, sets_in}
use Rattle.tase_views.specs.Slots.{slot_moves}
use Rattle.tase_resume.specs.Recounted.{Gap}
use Rattle.tase_resume.proofs.RaisedHolds.{Offsets}
use Rattle.tase_resume.proofs.Like.{raised, raised_slot, recounted_change, IsFree, AreSlotsAlike}
use Rattle.tase_resume.proofs.Like.{HasGap, IsLike}
use Rattle.tase_resume.proofs.SeenAlike.{changes_seen}
use Rattle.tase_resume.proofs.SetsAlike.{held_alike}
use Rattle.tase_resume.proofs.SlotParts.{free_unowned, owns_alike, wish_alike, lowest_alike}
use Rattle.tase_resume.proofs.SlotParts.{IsStateAlike, due_alike, makes_alike, asked_alike}
use Rattle.tase_resume.proofs.SlotParts.{state_alike}

-- the item that a search finds has what all have
pub found_has : {A : Type 0} (P : A → Type 0) (test : A → Bool) (xs : List A) (x : A)
    → All P xs → find test xs ≡ Some x → P x × (test x ≡ true)
found_has P test [] x all is = absurd (none-some x is)
found_has P test (y ∷ xs) x all is =
    by (test y) refl is (found_has P test xs x (All-tail P y xs all))
  where
    by : (b : Bool) → test y ≡ b → (if b then Some y else find test xs) ≡ Some x
        → (find test xs ≡ Some x → P x × (test x ≡ true)) → P x × (test x ≡ true)
    by true e f rest =
        let same : y ≡ x = same_Some y x f in
        (subst P same (All-head P y xs all), subst (λ z. test z ≡ true) same e)
    by false e f rest = rest f

-- where none is found, none passes a stronger test
none_found : {A : Type 0} (test more : A → Bool) (xs : List A) → find test xs ≡ None
    → list_any (λ x. test x && more x) xs ≡ false
none_found test more [] is = refl
none_found test more (x ∷ xs) is = by (test x) is (none_found test more xs)
  where
    by : (b : Bool) → (if b then Some x else find test xs) ≡ None
        → (find test xs ≡ None → list_any (λ y. test y && more y) xs ≡ false)
        → ((b && more x) || list_any (λ y. test y && more y) xs) ≡ false
    by true e rest = absurd (none-some x (sym e))
    by false e rest = rest e

-- a count that goes modulo a number, with so many more
pub sum_mod : (n more : ℕ) → (n + more) % COV_MODULUS ≡ (n % COV_MODULUS + more) % COV_MODULUS
sum_mod n more = sym (mod-add-mod n COV_MODULUS more)

module _ (off : ℕ) (gap : Gap) (one other : List SlotMove) where
  closed_alike : (b : Bool) → AreSlotsAlike off gap one other
      → AreSlotsAlike off gap (if b then [] else one) (if b then [] else other)
  closed_alike true alike = inr refl
  closed_alike false alike = alike

  handed_alike : (b : Bool) (ordinal : ℕ) → AreSlotsAlike off gap one other
      → AreSlotsAlike off gap (if b then handed_out (ordinal + off) ∷ [] else one)
      (if b then handed_out ordinal ∷ [] else other)
  handed_alike true ordinal alike = inr refl
  handed_alike false ordinal alike = alike

  changed_alike : (b : Bool) (change before : PointChange)
      → (b ≡ true → change ≡ recounted_change gap before) → AreSlotsAlike off gap one other
      → AreSlotsAlike off gap (if b then changes change ∷ one else one)
      (if b then changes before ∷ other else other)
  changed_alike false change before same alike = alike
  changed_alike true change before same (inl free) = inl free
  changed_alike true change before same (inr is) =
      inr (ap (λ (c : PointChange). changes c ∷ one) (same refl)
      ∙ ap (λ (l : List SlotMove). changes (recounted_change gap before) ∷ l) is)

  wish_behind : (now : ℕ) (wish : Result Wish ℕ) → one ≡ map (raised_slot off gap) other
      → with_wish now wish one ≡ map (raised_slot off gap) (with_wish now wish other)
  wish_behind now (Ok wish) is = ap (λ (l : List SlotMove). wishes wish now ∷ l) is
  wish_behind now (Err reason) is = is

  -- a wish is taken from the owner alone
  wished_alike_by : (b : Bool) (now : ℕ) (wish : Result Wish ℕ) (n : ℕ)
      → (b ≡ true → owns n other ≡ true) → AreSlotsAlike off gap one other
      → AreSlotsAlike off gap (if b then with_wish now wish one else one)
      (if b then with_wish now wish other else other)
  wished_alike_by false now wish n mine alike = alike
  wished_alike_by true now wish n mine (inl free) =
      absurd (false≢true (sym (free_unowned other n free.1) ∙ mine refl))
  wished_alike_by true now wish n mine (inr is) = inr (wish_behind now wish is)

  wished_both : (b c : Bool) (now moment : ℕ) (wish more : Result Wish ℕ) (n : ℕ) → b ≡ c
      → now ≡ moment → wish ≡ more → (c ≡ true → owns n other ≡ true)
      → AreSlotsAlike off gap one other
      → AreSlotsAlike off gap (if b then with_wish now wish one else one)
      (if c then with_wish moment more other else other)
  wished_both b c now moment wish more n same moments wishes_same mine alike =
      rw (same, moments, wishes_same) (wished_alike_by c moment more n mine alike)

  report_free : (b : Bool) (moves : List SlotMove) → IsFree moves
      → IsFree (if b then reports ∷ moves else moves)
  report_free true moves free = free
  report_free false moves free = free

  reported_alike : (b c : Bool) → (one ≡ map (raised_slot off gap) other → b ≡ c)
      → AreSlotsAlike off gap one other
      → AreSlotsAlike off gap (if b then reports ∷ one else one)
      (if c then reports ∷ other else other)
  reported_alike b c same (inl free) =
      inl (report_free b one free.0, report_free c other free.1)
  reported_alike b c same (inr is) = by b c (same is)
    where
      by : (b c : Bool) → b ≡ c
          → AreSlotsAlike off gap (if b then reports ∷ one else one)
          (if c then reports ∷ other else other)
      by true true e = inr (ap (λ (l : List SlotMove). reports ∷ l) is)
      by false false e = inr is
      by true false e = absurd (false≢true (sym e))
      by false true e = absurd (false≢true e)

-- whether conditions make a report: those asked for, those due
abbrev makes_asked : Bool → SlotState → Bool
makes_asked mine state = makes_report state (if mine then asked_conditions state else 0)

abbrev makes_due : ℕ → ℕ → SlotState → Bool
makes_due moment now state = makes_report state (conditions_due state moment now)

made_asked : (mine : Bool) (a b : SlotState) → IsStateAlike a b
    → makes_asked mine a ≡ makes_asked mine b
made_asked mine a b alike =
    ap (λ n. makes_report a (if mine then n else 0)) (asked_alike a b alike)
    ∙ makes_alike a b (if mine then asked_conditions b else 0) alike

made_due : (moment now : ℕ) (a b : SlotState) → IsStateAlike a b
    → makes_due moment now a ≡ makes_due moment now b
made_due moment now a b alike =
    ap (λ n. makes_report a n) (due_alike a b moment now alike)
    ∙ makes_alike a b (conditions_due b moment now) alike

and_first : (a b : Bool) → (a && b) ≡ true → a ≡ true
and_first true b e = refl
and_first false b e = e

module _ (tables : OwnTables) (offs : Offsets) (gap : Gap) (from : ℕ) (v w : View)
    (like : IsLike tables offs gap from v w) where
  table_same : held tables v ≡ held tables w
  table_same = held_alike tables offs gap from v w like

  -- a point changes in both views or in none
  pub change_alike : (table : OwnTable) (name : List ℕ) (value : Sample)
      → changes_point table v name value ≡ changes_point table w name value
  change_alike table name value =
      ap (λ (test : OwnPoint → Bool). list_any test table.points)
      (fun_ext (λ p. ap (λ (s : Sample). bytes_eq p.name name && is_change s value)
      (like.last p.kind name)))

  -- and its count is so many more
  count_alike : (n : ℕ) (name : List ℕ) (value : Sample) (found : Option OwnPoint)
      → find (λ (p : OwnPoint). bytes_eq p.name name) (table_in tables n).points ≡ found
      → changes_point (table_in tables n) w name value ≡ true
      → option_map_or
      (λ (p : OwnPoint). change_count_of p.kind (values_in (updated name value ∷ v) name)) found 0
      ≡ (option_map_or
      (λ (p : OwnPoint). change_count_of p.kind (values_in (updated name value ∷ w) name)) found 0
      + gap name) % COV_MODULUS
  count_alike n name value None is there =
      absurd (false≢true (sym (none_found (λ (p : OwnPoint). bytes_eq p.name name)
      (λ (p : OwnPoint). is_change (last_of p.kind (values_in w name)) value)
      (table_in tables n).points is) ∙ there))
  count_alike n name value (Some p) is there =
      let has = found_has (HasGap gap v w) (λ (q : OwnPoint). bytes_eq q.name name)
      (table_in tables n).points p (like.gaps n) is in
      let same : p.name ≡ name = (bytes_eq-Decides p.name name).0 has.1 in
      let before : changes_of p.kind (values_in v name)
      ≡ changes_of p.kind (values_in w name) + gap name =
      subst (λ m. changes_of p.kind (values_in v m)
      ≡ changes_of p.kind (values_in w m) + gap m) same has.0 in
      ap (λ k. k % COV_MODULUS)
      (changes_seen offs (updated name value) v w p.kind name (gap name)
      (like.last p.kind name) before)
      ∙ sum_mod (changes_of p.kind (values_in (updated name value ∷ w) name)) (gap name)

  -- the state of a transfer set that is the same but for ordinal and counts
  pub states : (table : OwnTable) (s : ℕ)
      → slot_moves tables v s ≡ map (raised_slot (offs 0) gap) (slot_moves tables w s)
      → IsStateAlike (state_by table (sets_in tables v) (slot_moves tables v s))
      (state_by table (sets_in tables w) (slot_moves tables w s))
  states table s is =
      state_alike (offs 0) gap table (sets_in tables v) (sets_in tables w) (slot_moves tables v s)
      (slot_moves tables w s) like.sets is

  pub slots_seen : (move : Seen) (s : ℕ)
      → AreSlotsAlike (offs 0) gap (slot_moves tables (raised offs move ∷ v) s)
      (slot_moves tables (move ∷ w) s)
  slots_seen (own ordinal closes) s =
      subst (λ t. AreSlotsAlike (offs 0) gap (if t then [] else slot_moves tables v s)
      (if owns ordinal (slot_moves tables w s) then [] else slot_moves tables w s))
      (sym (owns_alike (offs 0) gap (slot_moves tables v s) (slot_moves tables w s)
      (like.slots s) ordinal))
      (closed_alike (offs 0) gap (slot_moves tables v s) (slot_moves tables w s)
      (owns ordinal (slot_moves tables w s)) (like.slots s))
  slots_seen (own ordinal (reads name)) s =
      subst (λ t. AreSlotsAlike (offs 0) gap
      (if t then handed_out (ordinal + offs 0) ∷ [] else slot_moves tables v s)
      (if is_next_slot (object_named (held tables w) name)
      && option_eq nat_eq (lowest_free (held tables w) (slot_moves tables w)) (Some s)
      then handed_out ordinal ∷ [] else slot_moves tables w s))
      (sym (ap (λ (t : OwnTable). is_next_slot (object_named t name)
      && option_eq nat_eq (lowest_free t (slot_moves tables v)) (Some s)) table_same
      ∙ ap (λ (o : Option ℕ). is_next_slot (object_named (held tables w) name)
      && option_eq nat_eq o (Some s))
      (lowest_alike (offs 0) gap (held tables w) (slot_moves tables v) (slot_moves tables w)
      like.slots)))
      (handed_alike (offs 0) gap (slot_moves tables v s) (slot_moves tables w s) _ ordinal
      (like.slots s))
  slots_seen (own ordinal (writes name value)) s =
      let one = slot_moves tables v s in
      let other = slot_moves tables w s in
      wished_both (offs 0) gap one other
      (owns (ordinal + offs 0) one
      && option_eq nat_eq (slot_of (object_named (held tables v) name)) (Some s))
      (owns ordinal other
      && option_eq nat_eq (slot_of (object_named (held tables w) name)) (Some s))
      (moment_in v) (moment_in w)
      (wish_written (held tables v) (sets_in tables v) one
      (object_named (held tables v) name) value)
      (wish_written (held tables w) (sets_in tables w) other
      (object_named (held tables w) name) value)
      ordinal
      (ap (λ t. t && option_eq nat_eq (slot_of (object_named (held tables v) name)) (Some s))
      (owns_alike (offs 0) gap one other (like.slots s) ordinal)
      ∙ ap (λ (t : OwnTable). owns ordinal other
      && option_eq nat_eq (slot_of (object_named t name)) (Some s)) table_same)
      like.moment
      (ap (λ (t : OwnTable). wish_written t (sets_in tables v) one (object_named t name) value)
      table_same
      ∙ ap (λ (sets : Sets). wish_written (held tables w) sets one
      (object_named (held tables w) name) value) (fun_ext like.sets)
      ∙ ap (λ (l : Wish × ℕ). taken (held tables w) (sets_in tables w)
      (wish_asked l.0 (object_named (held tables w) name) value))
      (wish_alike (offs 0) gap one other (like.slots s)))
      (λ e. and_first (owns ordinal other) _ e) (like.slots s)
  slots_seen (own ordinal opens) s = like.slots s
  slots_seen (own ordinal takes) s = like.slots s
  slots_seen (own ordinal (defines set members)) s = like.slots s
  slots_seen (own ordinal (deletes set)) s = like.slots s
  slots_seen (own ordinal (calls call)) s = like.slots s
  slots_seen (other_acted key ordinal device act) s = like.slots s
  slots_seen (other_closed key ordinal) s = like.slots s
  slots_seen (updated name value) s =
      let there : changes_point (held tables v) v name value
      ≡ changes_point (held tables w) w name value =
      ap (λ (t : OwnTable). changes_point t v name value) table_same
      ∙ change_alike (held tables w) name value in
      subst (λ t. AreSlotsAlike (offs 0) gap
      (if t then changes (record {
        point = name;
        moment = moment_in v;
        value = value;
        count = count_shown (held tables v) (updated name value ∷ v) name;
      }) ∷ slot_moves tables v s else slot_moves tables v s)
      (slot_moves tables (updated name value ∷ w) s)) (sym there)
      (changed_alike (offs 0) gap (slot_moves tables v s) (slot_moves tables w s)
      (changes_point (held tables w) w name value) _ _
      (λ e. same_change (moment_in v) (count_shown (held tables v) (updated name value ∷ v) name)
      like.moment
      (ap (λ (t : OwnTable). count_shown t (updated name value ∷ v) name) table_same
      ∙ count_alike (force w) name value _ refl e)) (like.slots s))
    where
      same_change : (moment count : ℕ) → moment ≡ moment_in w
          → count ≡ (count_shown (held tables w) (updated name value ∷ w) name + gap name)
          % COV_MODULUS
          → (let c : PointChange = record {
            point = name;
            moment = moment;
            value = value;
            count = count;
          } in c)
          ≡ recounted_change gap (record {
            point = name;
            moment = moment_in w;
            value = value;
            count = count_shown (held tables w) (updated name value ∷ w) name;
          })
      same_change moment count m c = rw (m, c) refl
  slots_seen (tagged device tag) s = like.slots s
  slots_seen (asked other) s =
      reported_alike (offs 0) gap (slot_moves tables v s) (slot_moves tables w s) _ _
      (λ is. ap (λ (t : OwnTable). makes_asked (other == s) (state_by t (sets_in tables v)
      (slot_moves tables v s))) table_same
      ∙ made_asked (other == s) _ _ (states (held tables w) s is)) (like.slots s)
  slots_seen (chose variant) s = like.slots s
  slots_seen (ticked now) s =
      reported_alike (offs 0) gap (slot_moves tables v s) (slot_moves tables w s) _ _
      (λ is. ap (λ (t : OwnTable). makes_due (moment_in v) now (state_by t (sets_in tables v)
      (slot_moves tables v s))) table_same
      ∙ ap (λ n. makes_due n now (state_by (held tables w) (sets_in tables v)
      (slot_moves tables v s))) like.moment
      ∙ made_due (moment_in w) now _ _ (states (held tables w) s is)) (like.slots s)
  slots_seen stopped s = like.slots s
