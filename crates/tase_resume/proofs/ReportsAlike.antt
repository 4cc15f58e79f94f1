-- The reports of a transfer set are alike in views that are alike: one by one the same but for
-- counts of changes.
use Rattle.std.proofs.Common.{◌≡◌, ◌==◌, ℕ, suc, ◌+◌, ◌%◌, Bool, true, false, not, ◌&&◌, ◌||◌}
use Rattle.std.proofs.Common.{if◌then◌else◌, List, [], ◌∷◌, ◌++◌, map, length, Option, Some, None}
use Rattle.std.proofs.Common.{refl, sym, ap, subst, ◌∙◌, take, drop}
use Rattle.std.specs.Prelude.{All, flat_map}
use Rattle.std.specs.List.{list_any}
use Rattle.std.specs.Option.{unwrap_or}
use Rattle.std.proofs.lemmas.Bool.{false≢true}
use Rattle.std.proofs.lemmas.List.{map-append, take-map, drop-map}
use Rattle.std.proofs.lemmas.List.Elements.{All-take, All-drop, All-head, All-tail}
use Rattle.std.proofs.lemmas.Slice.Eq.{bytes_eq-Decides}
use mathlib.Core.Path.{fun_ext}
use Rattle.mms_data.specs.ObjectName.{ObjectName}
use Rattle.mms_data.specs.declared.outcome.Outcome.{Outcome}
use Rattle.mms_data.specs.declared.outcome.Outcome.TheVariants.{Good}
use Rattle.point_data.specs.Shown.{shown_as}
use Rattle.tase_points.specs.declared.layout.TheConstants.{COV_MODULUS}
use Rattle.mms_data.specs.Datum.{Datum}
use Rattle.transfer_sets.specs.declared.noted.Noted.{Noted}
use Rattle.transfer_sets.specs.declared.wish.Wish.{Wish}
use Rattle.transfer_sets.specs.SlotState.{SlotState, tells_all}
use Rattle.transfer_sets.specs.Due.{noted_limit}
use Rattle.tase_views.specs.declared.reply.ReportKind.{ReportKind}
use Rattle.tase_views.specs.declared.reply.ReportKind.TheVariants.{Set, Variables}
use Rattle.tase_views.specs.OwnTables.{OwnTable, OwnTables, domain_name}
use Rattle.tase_views.specs.Objects.{Object, constant, next_transfer_set, report_variable}
use Rattle.tase_views.specs.Objects.{indication_point, control_point, selection, device_tag}
use Rattle.tase_views.specs.Objects.{timeout, transfer_set, transfer_set_status, object_named}
use Rattle.tase_views.specs.View.{View, held, force}
use Rattle.tase_views.specs.Slots.{is_point, only_changes, makes_report}
use Rattle.tase_views.specs.Reports.{Told, report_of_all, member_told, noted_told, is_variable}
use Rattle.tase_views.specs.Reports.{members_where, parts_within, told_of, whole_report}
use Rattle.tase_views.specs.Reports.{changed_report, noted_of, change_reports, slot_reports}
use Rattle.tase_resume.specs.Recounted.{Gap, object_recounted, recounted, all_recounted}
use Rattle.tase_resume.specs.Recounted.{IsReportRecounted, AreReportsRecounted}
use Rattle.tase_resume.proofs.RaisedHolds.{Offsets}
use Rattle.tase_resume.proofs.Like.{HasGap, IsLike}
use Rattle.tase_resume.proofs.SlotParts.{IsStateAlike, makes_alike}
use Rattle.tase_resume.proofs.PointsNamed.{point_is}
use Rattle.tase_resume.proofs.MoreChanges.{outcome_more, shown_more}
use Rattle.tase_resume.proofs.NotedPairs.{NotedPair, note_of, more_note, members_same, FitsIn}

-- reports one behind another

pub both_recounted : (table : OwnTable) (gap : Gap) (one other more others : List ReportKind)
    → AreReportsRecounted table gap one other → AreReportsRecounted table gap more others
    → AreReportsRecounted table gap (one ++ more) (other ++ others)
both_recounted table gap [] other more others first second =
    subst (λ (l : List ReportKind). AreReportsRecounted table gap more (l ++ others)) (sym first)
    second
both_recounted table gap (report ∷ one) [] more others first second = absurd first
both_recounted table gap (report ∷ one) (its ∷ other) more others first second =
    (first.0, both_recounted table gap one other more others first.1 second)

pub flat_recounted : (table : OwnTable) (gap : Gap) (f g : ℕ → List ReportKind) (xs : List ℕ)
    → ((s : ℕ) → AreReportsRecounted table gap (f s) (g s))
    → AreReportsRecounted table gap (flat_map f xs) (flat_map g xs)
flat_recounted table gap f g [] each = refl
flat_recounted table gap f g (x ∷ xs) each =
    both_recounted table gap (f x) (g x) (flat_map f xs) (flat_map g xs) (each x)
    (flat_recounted table gap f g xs each)

-- what is told of variables

abbrev recounted_told : OwnTable → Gap → Told → Told
recounted_told table gap t =
    record { name = t.name; outcome = recounted table gap t.name t.outcome }

names_same : (table : OwnTable) (gap : Gap) (told : List Told)
    → map (λ (t : Told). t.name) (map (recounted_told table gap) told)
    ≡ map (λ (t : Told). t.name) told
names_same table gap [] = refl
names_same table gap (t ∷ told) =
    ap (λ (l : List ObjectName). t.name ∷ l) (names_same table gap told)

outcomes_recounted : (table : OwnTable) (gap : Gap) (told : List Told)
    → map (λ (t : Told). t.outcome) (map (recounted_told table gap) told)
    ≡ all_recounted table gap (map (λ (t : Told). t.name) told) (map (λ (t : Told). t.outcome) told)
outcomes_recounted table gap [] = refl
outcomes_recounted table gap (t ∷ told) =
    ap (λ (l : List Outcome). recounted table gap t.name t.outcome ∷ l)
    (outcomes_recounted table gap told)

told_report : (table : OwnTable) (gap : Gap) (told : List Told)
    → IsReportRecounted table gap (report_of_all (map (recounted_told table gap) told))
    (report_of_all told)
told_report table gap told = (
  map (λ (t : Told). t.outcome) told,
  ap (λ (l : List ObjectName). Variables l (map (λ (t : Told). t.outcome) told))
      (sym (names_same table gap told)),
  outcomes_recounted table gap told
      ∙ ap (λ (l : List ObjectName).
      all_recounted table gap l (map (λ (t : Told). t.outcome) told))
      (sym (names_same table gap told)),
)

any_member : (place : ℕ) (noted : List Noted)
    → list_any (λ (n : Noted). n.member == place) noted
    ≡ list_any (λ (m : ℕ). m == place) (map (λ (n : Noted). n.member) noted)
any_member place [] = refl
any_member place (n ∷ noted) = ap (λ b. (n.member == place) || b) (any_member place noted)

module _ (tables : OwnTables) (offs : Offsets) (gap : Gap) (from : ℕ) (v w : View)
    (like : IsLike tables offs gap from v w) (s now conditions : ℕ) where
  abbrev table : OwnTable
  table = held tables w

  member_by : (name : ObjectName) (found : Option Object) → object_named table name ≡ found
      → member_told table v s now conditions found
      ≡ object_recounted gap found (member_told table w s now conditions found)
  member_by name None is = refl
  member_by name (Some (indication_point p)) is =
      outcome_more gap v w p (like.last p.kind p.name)
      (point_is (HasGap gap v w) table name p (like.gaps (force w)) is)
  member_by name (Some (report_variable variable)) is = refl
  member_by name (Some (constant value shape)) is = refl
  member_by name (Some next_transfer_set) is = refl
  member_by name (Some (control_point d)) is = refl
  member_by name (Some (selection d)) is = refl
  member_by name (Some (device_tag d)) is = refl
  member_by name (Some (timeout d)) is = refl
  member_by name (Some (transfer_set k)) is = refl
  member_by name (Some (transfer_set_status k)) is = refl

  member_more : (name : ObjectName)
      → member_told table v s now conditions (object_named table name)
      ≡ recounted table gap name (member_told table w s now conditions (object_named table name))
  member_more name = member_by name (object_named table name) refl

  told_more : (members : List ObjectName)
      → told_of table v s now conditions members
      ≡ map (recounted_told table gap) (told_of table w s now conditions members)
  told_more [] = refl
  told_more (name ∷ members) =
      rw (member_more name, told_more members) refl

  outcomes_more : (members : List ObjectName)
      → map (λ (t : Told). t.outcome) (told_of table v s now conditions members)
      ≡ all_recounted table gap members
      (map (λ (t : Told). t.outcome) (told_of table w s now conditions members))
  outcomes_more [] = refl
  outcomes_more (name ∷ members) = rw (member_more name, outcomes_more members) refl

  told_long : (members : List ObjectName)
      → length members
      ≡ length (map (λ (t : Told). t.outcome) (told_of table w s now conditions members))
  told_long [] = refl
  told_long (name ∷ members) = ap suc (told_long members)

  whole_alike : (one other : SlotState) (members : List ObjectName) → one.wish ≡ other.wish
      → IsReportRecounted table gap (whole_report table v s now conditions one members)
      (whole_report table w s now conditions other members)
  whole_alike one other members same = (
    map (λ (t : Told). t.outcome) (told_of table w s now conditions members),
    members,
    ap (λ (wish : Wish). Set (domain_name table wish.set_name)
        (map (λ (t : Told). t.outcome) (told_of table w s now conditions members))) (sym same),
    told_long members,
    outcomes_more members,
  )

  changed_alike : (one other : SlotState) (members : List ObjectName)
      → map (λ (n : Noted). n.member) one.noted ≡ map (λ (n : Noted). n.member) other.noted
      → IsReportRecounted table gap (changed_report table v s now conditions one members)
      (changed_report table w s now conditions other members)
  changed_alike one other members same =
      subst (λ (report : ReportKind). IsReportRecounted table gap report
      (changed_report table w s now conditions other members))
      (sym (ap (λ (test : ℕ → Option Object → Bool). report_of_all
      (told_of table v s now conditions (members_where table 0 test members)))
      (fun_ext (λ place. fun_ext (λ object. ap (λ b. is_variable object || b)
      (any_member place one.noted ∙ ap (list_any (λ (m : ℕ). m == place)) same
      ∙ sym (any_member place other.noted)))))
      ∙ ap report_of_all (told_more (members_where table 0
      (λ place object. is_variable object
      || list_any (λ (n : Noted). n.member == place) other.noted) members))))
      (told_report table gap (told_of table w s now conditions (members_where table 0
      (λ place object. is_variable object
      || list_any (λ (n : Noted). n.member == place) other.noted) members)))

  -- what is told of a change of a member

  change_by : (pair : NotedPair) (name : ObjectName) (found : Option Object)
      → is_point pair.change.point found ≡ true
      → noted_told (more_note gap pair) found
      ≡ object_recounted gap found (noted_told (note_of pair) found)
  change_by pair name (Some (indication_point p)) there =
      ap (λ (d : Datum). Good d)
      (ap (λ (point : List ℕ). shown_as pair.change.value
      ((pair.change.count + gap point) % COV_MODULUS) p.layout)
      (sym ((bytes_eq-Decides p.name pair.change.point).0 there))
      ∙ shown_more pair.change.value pair.change.count (gap p.name) p.layout)
  change_by pair name None there = absurd (false≢true there)
  change_by pair name (Some (report_variable variable)) there = absurd (false≢true there)
  change_by pair name (Some (constant value shape)) there = absurd (false≢true there)
  change_by pair name (Some next_transfer_set) there = absurd (false≢true there)
  change_by pair name (Some (control_point d)) there = absurd (false≢true there)
  change_by pair name (Some (selection d)) there = absurd (false≢true there)
  change_by pair name (Some (device_tag d)) there = absurd (false≢true there)
  change_by pair name (Some (timeout d)) there = absurd (false≢true there)
  change_by pair name (Some (transfer_set k)) there = absurd (false≢true there)
  change_by pair name (Some (transfer_set_status k)) there = absurd (false≢true there)

  -- what is told of a change of the member with a name
  abbrev note_told : Option ObjectName → Noted → Told
  note_told found noted =
      let name = unwrap_or found (domain_name table []) in
      record { name = name; outcome = noted_told noted (object_named table name) }

  change_told : (members : List ObjectName) (pair : NotedPair) → FitsIn table members pair
      → noted_of table v s now conditions members (more_note gap pair)
      ≡ recounted_told table gap (noted_of table w s now conditions members (note_of pair))
  change_told members pair fits =
      ap (λ (o : Option ObjectName). note_told o (more_note gap pair)) fits.1
      ∙ ap (λ (o : Outcome). let t : Told = record { name = fits.0; outcome = o } in t)
      (change_by pair fits.0 (object_named table fits.0) fits.2)
      ∙ sym (ap (λ (o : Option ObjectName). recounted_told table gap (note_told o (note_of pair)))
      fits.1)

  part_told : (members : List ObjectName) (part : List NotedPair)
      → All (FitsIn table members) part
      → map (noted_of table v s now conditions members) (map (more_note gap) part)
      ≡ map (recounted_told table gap)
      (map (noted_of table w s now conditions members) (map note_of part))
  part_told members [] fits = refl
  part_told members (pair ∷ part) fits =
      rw (
        change_told members pair (All-head (FitsIn table members) pair part fits),
        part_told members part (All-tail (FitsIn table members) pair part fits),
      ) refl

  abbrev variables : View → List ObjectName → List Told
  variables view members =
      told_of table view s now conditions (members_where table 0 (λ place. is_variable) members)

  part_report : (members : List ObjectName) (part : List NotedPair)
      → All (FitsIn table members) part
      → IsReportRecounted table gap
      (report_of_all (variables v members
      ++ map (noted_of table v s now conditions members) (map (more_note gap) part)))
      (report_of_all (variables w members
      ++ map (noted_of table w s now conditions members) (map note_of part)))
  part_report members part fits =
      subst (λ (told : List Told). IsReportRecounted table gap (report_of_all told)
      (report_of_all (variables w members
      ++ map (noted_of table w s now conditions members) (map note_of part))))
      (sym (ap (λ (l : List Told). l
      ++ map (noted_of table v s now conditions members) (map (more_note gap) part))
      (told_more (members_where table 0 (λ place. is_variable) members))
      ∙ ap (λ (l : List Told). map (recounted_told table gap) (variables w members) ++ l)
      (part_told members part fits)
      ∙ sym (map-append (recounted_told table gap) (variables w members)
      (map (noted_of table w s now conditions members) (map note_of part)))))
      (told_report table gap (variables w members
      ++ map (noted_of table w s now conditions members) (map note_of part)))

  parts_alike : (members : List ObjectName) (most pairs : List NotedPair)
      → All (FitsIn table members) pairs
      → AreReportsRecounted table gap
      (map (λ part. report_of_all (variables v members
      ++ map (noted_of table v s now conditions members) part))
      (parts_within noted_limit (map (more_note gap) most) (map (more_note gap) pairs)))
      (map (λ part. report_of_all (variables w members
      ++ map (noted_of table w s now conditions members) part))
      (parts_within noted_limit (map note_of most) (map note_of pairs)))
  parts_alike members [] pairs fits = refl
  parts_alike members (first ∷ most) [] fits = refl
  parts_alike members (first ∷ most) (pair ∷ pairs) fits =
      let all = pair ∷ pairs in (
        subst (λ (part : List Noted). IsReportRecounted table gap
            (report_of_all (variables v members
            ++ map (noted_of table v s now conditions members)
            (take noted_limit (map (more_note gap) all))))
            (report_of_all (variables w members
            ++ map (noted_of table w s now conditions members) part)))
            (sym (take-map note_of noted_limit all))
            (subst (λ (part : List Noted). IsReportRecounted table gap
            (report_of_all (variables v members
            ++ map (noted_of table v s now conditions members) part))
            (report_of_all (variables w members
            ++ map (noted_of table w s now conditions members)
            (map note_of (take noted_limit all)))))
            (sym (take-map (more_note gap) noted_limit all))
            (part_report members (take noted_limit all)
            (All-take (FitsIn table members) noted_limit all fits))),
        rw (drop-map (more_note gap) noted_limit all, drop-map note_of noted_limit all)
            (parts_alike members most (drop noted_limit all)
            (All-drop (FitsIn table members) noted_limit all fits)),
      )

  changes_alike : (one other : SlotState) (members : List ObjectName) (pairs : List NotedPair)
      → one.noted ≡ map (more_note gap) pairs → other.noted ≡ map note_of pairs
      → All (FitsIn table members) pairs
      → AreReportsRecounted table gap (change_reports table v s now conditions one members)
      (change_reports table w s now conditions other members)
  changes_alike one other members pairs is its fits =
      rw (is, its) (parts_alike members pairs pairs fits)

  picked : (a b c d e f : Bool) (whole its changed that : ReportKind)
      (changes those : List ReportKind) → a ≡ b → c ≡ d → e ≡ f
      → IsReportRecounted table gap whole its → AreReportsRecounted table gap changes those
      → IsReportRecounted table gap changed that
      → AreReportsRecounted table gap
      (if a then [] else if c then whole ∷ [] else if e then changes else changed ∷ [])
      (if b then [] else if d then its ∷ [] else if f then those else that ∷ [])
  picked a b c d e f whole its changed that changes those ab cd ef wholes all changeds =
      rw (ab, cd, ef) (by b d f)
    where
      by : (x y z : Bool)
          → AreReportsRecounted table gap
          (if x then [] else if y then whole ∷ [] else if z then changes else changed ∷ [])
          (if x then [] else if y then its ∷ [] else if z then those else that ∷ [])
      by true y z = refl
      by false true z = (wholes, refl)
      by false false true = all
      by false false false = (changeds, refl)

  pub slot_alike : (one other : SlotState) (members : List ObjectName) (pairs : List NotedPair)
      → IsStateAlike one other
      → one.noted ≡ map (more_note gap) pairs → other.noted ≡ map note_of pairs
      → All (FitsIn table members) pairs
      → AreReportsRecounted table gap (slot_reports table v s now conditions one members)
      (slot_reports table w s now conditions other members)
  slot_alike one other members pairs alike is its fits =
      picked (not (makes_report one conditions)) (not (makes_report other conditions))
      (not (one.wish.rbe && only_changes conditions))
      (not (other.wish.rbe && only_changes conditions)) (tells_all one.wish)
      (tells_all other.wish) _ _ _ _ _ _ (ap not (makes_alike one other conditions alike))
      (ap (λ (wish : Wish). not (wish.rbe && only_changes conditions)) alike.wish)
      (ap tells_all alike.wish) (whole_alike one other members alike.wish)
      (changes_alike one other members pairs is its fits)
      (changed_alike one other members
      (ap (λ (l : List Noted). map (λ (n : Noted). n.member) l) is ∙ members_same gap pairs
      ∙ sym (ap (λ (l : List Noted). map (λ (n : Noted). n.member) l) its)))
