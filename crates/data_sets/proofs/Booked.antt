-- A book stays lawful as data sets are defined and deleted.
use Rattle.std.proofs.Common.{◌≡◌, ◌≢◌, ℕ, ◌<◌, ltb, leb, Bool, true, false, not, ◌||◌}
use Rattle.std.proofs.Common.{List, [], ◌∷◌, ◌++◌, length, Some, None, is_some, bytes_eq}
use Rattle.std.proofs.Common.{◌≤◌, refl, sym, ◌∙◌, arith, length-append}
use Rattle.std.specs.Prelude.{if◌then◌else◌}
use Rattle.std.specs.List.{All, filter, find}
use Rattle.std.specs.Option.{option_map}
use Rattle.std.proofs.lemmas.Bool.{false≢true, true≢false, leb-false, ltb-false}
use Rattle.std.proofs.lemmas.Option.{none-some}
use Rattle.std.proofs.lemmas.List.Elements.{All-nil, All-cons, All-push, All-filter}
use Rattle.std.proofs.lemmas.List.Filters.{length-filter_both}
use Rattle.std.proofs.lemmas.List.Kept.{AllPairs-filter}
use Rattle.std.proofs.lemmas.List.Quantifiers.{all_pairs_push}
use Rattle.std.proofs.lemmas.Slice.Eq.{bytes_eq-Decides}
use Rattle.data_sets.specs.declared.book.DataSet.{DataSet}
use Rattle.data_sets.specs.declared.book.SetFault.TheVariants.{Exists, TooMany}
use Rattle.data_sets.specs.declared.book.TheConstants.{MOST_MEMBERS}
use Rattle.data_sets.specs.Books.{IsSetBook, is_set_named, members_in, set_fault_of}

-- where no data set has a name, all have others
pub others_named : (name : List ℕ) (sets : List DataSet)
    → is_some (members_in sets name) ≡ false → All (λ (s : DataSet). s.name ≢ name) sets
others_named name [] none = All-nil (λ (s : DataSet). s.name ≢ name)
others_named name (set ∷ sets) none =
    by (bytes_eq set.name name) refl none (others_named name sets)
  where
    by : (c : Bool) → bytes_eq set.name name ≡ c
        → is_some (option_map (λ (s : DataSet). s.members)
        (if c then Some set else find (is_set_named name) sets)) ≡ false
        → (is_some (members_in sets name) ≡ false → All (λ (s : DataSet). s.name ≢ name) sets)
        → All (λ (s : DataSet). s.name ≢ name) (set ∷ sets)
    by true same n rest = absurd (true≢false n)
    by false other n rest =
        All-cons (λ (s : DataSet). s.name ≢ name) set sets
        (λ same. false≢true (sym other ∙ (bytes_eq-Decides set.name name).1 same)) (rest n)

-- what is defined has a name that none has, there is room for it, and it isn't too long
pub faultless : (there full long : Bool)
    → (if there then Some Exists else if full || long then Some TooMany else None) ≡ None
    → (there ≡ false) × (full ≡ false) × (long ≡ false)
faultless true full long e = absurd (none-some Exists (sym e))
faultless false true long e = absurd (none-some TooMany (sym e))
faultless false false true e = absurd (none-some TooMany (sym e))
faultless false false false e = (refl, refl, refl)

-- one data set more
pub IsSetBook-defined : (limit : ℕ) (sets new : List DataSet) (set : DataSet)
    → 0 < length set.members
    → set_fault_of (record { limit = limit; sets = sets }) set.name set.members ≡ None
    → new ≡ sets ++ set ∷ [] → IsSetBook (record { limit = limit; sets = sets })
    → IsSetBook (record { limit = limit; sets = new })
IsSetBook-defined limit sets new set some fault is b =
    let free = faultless (is_some (members_in sets set.name)) (leb limit (length sets))
    (ltb MOST_MEMBERS (length set.members)) fault in
    rw is (record {
      few = omega (arith, leb-false limit (length sets) free.1, length-append sets (set ∷ []));
      once = all_pairs_push (λ (x y : DataSet). x.name ≢ y.name) sets set b.once
          (others_named set.name sets free.0);
      some = All-push (λ (s : DataSet). 0 < length s.members) sets set b.some some;
      short = All-push (λ (s : DataSet). length s.members ≤ MOST_MEMBERS) sets set b.short
          (ltb-false MOST_MEMBERS (length set.members) free.2);
    })

-- all but those with a name
pub IsSetBook-deleted : (limit : ℕ) (sets new : List DataSet) (name : List ℕ)
    → new ≡ filter (λ set. not (is_set_named name set)) sets
    → IsSetBook (record { limit = limit; sets = sets })
    → IsSetBook (record { limit = limit; sets = new })
IsSetBook-deleted limit sets new name is b =
    let kept : DataSet → Bool = λ set. not (is_set_named name set) in
    rw is (record {
      few = omega (arith, length-filter_both kept (λ s. not (kept s)) (λ s. refl) sets, b.few);
      once = AllPairs-filter (λ (x y : DataSet). x.name ≢ y.name) kept sets b.once;
      some = All-filter kept (λ (s : DataSet). 0 < length s.members) sets b.some;
      short = All-filter kept (λ (s : DataSet). length s.members ≤ MOST_MEMBERS) sets b.short;
    })
