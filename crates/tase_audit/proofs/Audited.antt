-- What the verdict on two runs tells of them.
use Rattle.std.proofs.Common.{◌≡◌, ◌≢◌, ◌↔◌, ℕ, suc, Bool, true, false, ◌&&◌, if◌then◌else◌, List}
use Rattle.std.proofs.Common.{[]}
use Rattle.std.proofs.Common.{◌∷◌, reverse, take, Option, Some, None, refl, sym, ap, ◌∙◌, subst}
use Rattle.std.proofs.Common.{inl, inr, bytes_eq, slice_get}
use Rattle.std.specs.Cmp.Lexicographic.{pointwise}
use Rattle.std.proofs.lemmas.Bool.{cases_Bool, cond-true, cond-false, false≢true}
use Rattle.std.proofs.lemmas.Slice.Eq.{slice_eq-Decides, bytes_eq-Decides}
use Rattle.std.proofs.lemmas.Option.{same_Some}
use Rattle.bilateral.specs.Rows.{place_of_peer}
use Rattle.tase_views.specs.OwnTables.{own_tables}
use Rattle.tase_views.specs.View.{view_of}
use Rattle.tase_audit.specs.Watching.{WatchItem, watch_of, view_of_items}
use Rattle.tase_audit.specs.PeerAnswers.{PeerAnswer, answers_by, answers_in}
use Rattle.tase_audit.specs.ItemTexts.{watch_texts, IsWatchItem}
use Rattle.tase_audit.specs.Owns.{PeerTerms, own_terms, same_terms}
use Rattle.tase_audit.specs.Audits.{PastRun, watched_lines, watched_answers, common_lines}
use Rattle.tase_audit.specs.Audits.{AuditVerdict, other_tables, apart_at, equal_runs, lines_verdict}
use Rattle.tase_audit.specs.Audits.{audit_between, audit_at, audit_of}
use Rattle.tase_audit.specs.Alike.{IsPastRun, AreAlike, setup_of, WereEqual, DifferAt}
use Rattle.tase_audit.proofs.ViewsWatched.{watch_shows}
use Rattle.tase_audit.proofs.EntriesAnswered.{answers_told}
use Rattle.tase_audit.proofs.ItemWords.{same_items}
use Rattle.tase_audit.proofs.LawfulItems.{watch_lawful}
use Rattle.tase_audit.proofs.OwnsSame.{terms_are, terms_same}
use Rattle.tase_audit.proofs.Reversed.{all_reversed, same_reversed}

-- ---- runs that are alike

module _ (one other : PastRun) (peer place : ℕ) (alike : AreAlike one other peer place) where
  pub views_alike : view_of one.centre peer one.past ≡ view_of other.centre place other.past
  views_alike =
      sym (watch_shows one.centre peer one.past) ∙ ap view_of_items alike.items
      ∙ watch_shows other.centre place other.past

  watched_alike : watched_answers one peer ≡ watched_answers other place
  watched_alike =
      let tables : own_tables one.centre peer ≡ own_tables other.centre place =
      ap (λ (t : PeerTerms). t.tables) alike.terms in λ i. answers_by (tables i) (alike.items i)

  pub answers_alike : (limit most : ℕ)
      → answers_in (setup_of one limit) peer one.past
      ≡ answers_in (setup_of other most) place other.past
  answers_alike limit most =
      answers_told (setup_of one limit) peer one.past ∙ watched_alike
      ∙ sym (answers_told (setup_of other most) place other.past)

  pub alike_is_told : (key : List ℕ)
      → audit_between one other peer place key ≡ equal_runs (watched_answers one peer)
  alike_is_told key =
      let terms : same_terms (own_terms one.centre peer) (own_terms other.centre place) ≡ true =
      subst (λ (t : PeerTerms). same_terms (own_terms one.centre peer) t ≡ true) alike.terms
      (terms_same (own_terms one.centre peer)) in
      let lines : watched_lines one peer key ≡ watched_lines other place key =
      ap (λ (w : List WatchItem). watch_texts key (reverse w)) alike.items in
      cond-true (same_terms (own_terms one.centre peer) (own_terms other.centre place)) _ _ terms
      ∙ cond-true (pointwise bytes_eq (watched_lines one peer key) (watched_lines other place key))
      _ _
      ((slice_eq-Decides bytes_eq-Decides (watched_lines one peer key)
      (watched_lines other place key) _ refl).1 lines)

-- ---- what a verdict tells

abbrev answers_said : AuditVerdict → List PeerAnswer
answers_said (equal_runs answers) = answers
answers_said _ = []

by_tables : (test : Bool) (verdict : AuditVerdict) (answers : List PeerAnswer)
    → (if test then verdict else other_tables) ≡ equal_runs answers
    → (test ≡ true) × (verdict ≡ equal_runs answers)
by_tables true verdict answers e = (refl, e)
by_tables false verdict answers e = absurd cc

by_lines : (test : Bool) (told answers : List PeerAnswer) (n : ℕ) (a b : Option (List ℕ))
    → (if test then equal_runs told else apart_at n a b) ≡ equal_runs answers
    → (test ≡ true) × (told ≡ answers)
by_lines true told answers n a b e = (refl, ap answers_said e)
by_lines false told answers n a b e = absurd cc

module _ (one other : PastRun) (here : IsPastRun one) (there : IsPastRun other) where
  items_are : (peer place : ℕ) (key : List ℕ)
      → watched_lines one peer key ≡ watched_lines other place key
      → watch_of one.centre peer one.past ≡ watch_of other.centre place other.past
  items_are peer place key lines =
      let first = watch_of one.centre peer one.past in
      let second = watch_of other.centre place other.past in
      same_reversed first second
      (same_items key (reverse first) (reverse second)
      (all_reversed IsWatchItem first
      (watch_lawful one.centre peer one.past here.lawful here.entries here.count))
      (all_reversed IsWatchItem second
      (watch_lawful other.centre place other.past there.lawful there.entries there.count)) lines)

  told_is_alike : (peer place : ℕ) (key : List ℕ) (answers : List PeerAnswer)
      → audit_between one other peer place key ≡ equal_runs answers
      → AreAlike one other peer place × (watched_answers one peer ≡ answers)
  told_is_alike peer place key answers e =
      let tables = by_tables (same_terms (own_terms one.centre peer) (own_terms other.centre place))
      (lines_verdict (watched_lines one peer key) (watched_lines other place key)
      (watched_answers one peer)) answers e in
      let lines = by_lines
      (pointwise bytes_eq (watched_lines one peer key) (watched_lines other place key))
      (watched_answers one peer) answers _ _ _ tables.1 in (
        record {
          terms = terms_are (own_terms one.centre peer) (own_terms other.centre place) tables.0;
          items = items_are peer place key
              ((slice_eq-Decides bytes_eq-Decides (watched_lines one peer key)
              (watched_lines other place key) _ refl).0 lines.0);
        },
        lines.1,
      )

  equal_by : (key : List ℕ) (answers : List PeerAnswer) (p q : Option ℕ)
      → place_of_peer one.centre key ≡ p → place_of_peer other.centre key ≡ q
      → audit_at one other p q key ≡ equal_runs answers → WereEqual one other key answers
  equal_by key answers None q is too e = absurd cc
  equal_by key answers (Some p) None is too e = absurd cc
  equal_by key answers (Some peer) (Some place) is too e =
      let told = told_is_alike peer place key answers e in
      record {
        peer = peer;
        place = place;
        there = is;
        too = too;
        alike = told.0;
        first = λ limit. sym told.1 ∙ sym (answers_told (setup_of one limit) peer one.past);
        second = λ limit.
            sym told.1 ∙ watched_alike one other peer place told.0
            ∙ sym (answers_told (setup_of other limit) place other.past);
      }

  pub equal_is_told : (key : List ℕ) (answers : List PeerAnswer)
      → (audit_of one other key ≡ equal_runs answers) ↔ WereEqual one other key answers
  equal_is_told key answers = (
    λ e. equal_by key answers (place_of_peer one.centre key) (place_of_peer other.centre key) refl
        refl e,
    λ were.
        (λ i. audit_at one other (were.there i) (were.too i) key)
        ∙ alike_is_told one other were.peer were.place were.alike key
        ∙ ap equal_runs
        (sym (answers_told (setup_of one 0) were.peer one.past) ∙ sym (were.first 0)),
  )

-- ---- other tables

no_tables : (test : Bool) (told : List PeerAnswer) (n : ℕ) (a b : Option (List ℕ))
    → (if test then equal_runs told else apart_at n a b) ≡ other_tables → ⊥
no_tables true told n a b e = absurd cc
no_tables false told n a b e = absurd cc

pub tables_are_told : (one other : PastRun) (peer place : ℕ) (key : List ℕ)
    → (audit_between one other peer place key ≡ other_tables)
    ↔ (own_terms one.centre peer ≢ own_terms other.centre place)
tables_are_told one other peer place key =
    let first = own_terms one.centre peer in
    let second = own_terms other.centre place in (
      λ e same.
          no_tables
          (pointwise bytes_eq (watched_lines one peer key) (watched_lines other place key))
          (watched_answers one peer) _ _ _
          (sym (cond-true (same_terms first second) _ _
          (subst (λ (t : PeerTerms). same_terms first t ≡ true) same (terms_same first))) ∙ e),
      λ apart.
          elim (cases_Bool (same_terms first second)) [
            | inl same ↦ absurd (apart (terms_are first second same))
            | inr isnt ↦ cond-false (same_terms first second) _ _ isnt
          ],
    )

-- ---- the first difference

abbrev FirstApart : List (List ℕ) → List (List ℕ) → ℕ → Type 0
FirstApart one other n = (take n one ≡ take n other) × (slice_get one n ≢ slice_get other n)

further_apart : (x y : List ℕ) (xs ys : List (List ℕ)) (n : ℕ) → x ≡ y → FirstApart xs ys n
    → FirstApart (x ∷ xs) (y ∷ ys) (suc n)
further_apart x y xs ys n same apart = (λ i. same i ∷ apart.0 i, apart.1)

lines_apart_by : (x y : List ℕ) (xs ys : List (List ℕ)) (test : Bool) → bytes_eq x y ≡ test
    → (test && pointwise bytes_eq xs ys) ≡ false
    → (pointwise bytes_eq xs ys ≡ false → FirstApart xs ys (common_lines xs ys))
    → FirstApart (x ∷ xs) (y ∷ ys) (if test then suc (common_lines xs ys) else 0)
lines_apart_by x y xs ys true is differ more =
    further_apart x y xs ys (common_lines xs ys) ((bytes_eq-Decides x y).0 is) (more differ)
lines_apart_by x y xs ys false is differ more = (
  refl,
  λ same. false≢true (sym is ∙ (bytes_eq-Decides x y).1 (same_Some x y same)),
)

lines_apart : (one other : List (List ℕ)) → pointwise bytes_eq one other ≡ false
    → FirstApart one other (common_lines one other)
lines_apart [] [] differ = absurd (false≢true (sym differ))
lines_apart [] (y ∷ ys) differ = (refl, λ same. absurd cc)
lines_apart (x ∷ xs) [] differ = (refl, λ same. absurd cc)
lines_apart (x ∷ xs) (y ∷ ys) differ =
    lines_apart_by x y xs ys (bytes_eq x y) refl differ (lines_apart xs ys)

abbrev place_said : AuditVerdict → ℕ
place_said (apart_at n a b) = n
place_said _ = 0

abbrev first_said : AuditVerdict → Option (List ℕ)
first_said (apart_at n a b) = a
first_said _ = None

abbrev second_said : AuditVerdict → Option (List ℕ)
second_said (apart_at n a b) = b
second_said _ = None

apart_by : (one other : List (List ℕ)) (told : List PeerAnswer) (test : Bool) (n : ℕ)
    (a b : Option (List ℕ)) → pointwise bytes_eq one other ≡ test
    → (if test then equal_runs told
    else apart_at (common_lines one other) (slice_get one (common_lines one other))
    (slice_get other (common_lines one other))) ≡ apart_at n a b
    → DifferAt one other n a b
apart_by one other told true n a b is e = absurd cc
apart_by one other told false n a b is e =
    let apart = lines_apart one other is in
    let at : common_lines one other ≡ n = ap place_said e in
    record {
      before = subst (λ (k : ℕ). take k one ≡ take k other) at apart.0;
      first = sym (ap first_said e) ∙ ap (slice_get one) at;
      second = sym (ap second_said e) ∙ ap (slice_get other) at;
      apart = λ same. apart.1 (ap first_said e ∙ same ∙ sym (ap second_said e));
    }

tables_passed : (test : Bool) (verdict : AuditVerdict) (n : ℕ) (a b : Option (List ℕ))
    → (if test then verdict else other_tables) ≡ apart_at n a b
    → (test ≡ true) × (verdict ≡ apart_at n a b)
tables_passed true verdict n a b e = (refl, e)
tables_passed false verdict n a b e = absurd cc

pub difference_is_told : (one other : PastRun) (peer place : ℕ) (key : List ℕ) (n : ℕ)
    (a b : Option (List ℕ)) → audit_between one other peer place key ≡ apart_at n a b
    → (own_terms one.centre peer ≡ own_terms other.centre place)
    × DifferAt (watched_lines one peer key) (watched_lines other place key) n a b
difference_is_told one other peer place key n a b e =
    let first = own_terms one.centre peer in
    let second = own_terms other.centre place in
    let passed = tables_passed (same_terms first second)
    (lines_verdict (watched_lines one peer key) (watched_lines other place key)
    (watched_answers one peer)) n a b e in (
      terms_are first second passed.0,
      apart_by (watched_lines one peer key) (watched_lines other place key)
          (watched_answers one peer) _ n a b refl passed.1,
    )
