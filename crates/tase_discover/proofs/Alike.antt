-- The items of a scope that came with the table's type, noted name by name.
use Rattle.std.proofs.Common.{◌≡◌, ℕ, ◌+◌, ◌<◌, Bool, true, false, ◌&&◌, ◌||◌, List, length}
use Rattle.std.proofs.Common.{get_or, take, bytes_eq, refl, sym, ap, ◌∙◌}
use Rattle.std.specs.Prelude.{zip}
use Rattle.std.specs.List.{list_any}
use Rattle.std.proofs.lemmas.Bool.{false≢true}
use Rattle.std.proofs.lemmas.List.Folds.{list_any_more}
use Rattle.std.proofs.lemmas.Slice.Zip.{get_or-zip}
use Rattle.mms_data.specs.declared.object_name.Scope.{Scope}
use Rattle.mms_data.specs.ObjectName.{ObjectName, same_scope, same_name}
use Rattle.tase_discover.specs.Listings.{named_in}

-- whether a name that came is the one in a scope, and came alike
abbrev pub is_that : Scope → List ℕ → ObjectName × Bool → Bool
is_that scope item came = came.1 && same_name (named_in scope item) came.0

either : (a b : Bool) → (b || a) ≡ (a || b)
either true true = refl
either true false = refl
either false true = refl
either false false = refl

that_item : (alike here same : Bool) → (alike && here) ≡ true → (alike && (here && same)) ≡ same
that_item true true same e = refl
that_item true false same e = absurd (false≢true e)
that_item false here same e = absurd (false≢true e)

not_that : (alike here same : Bool) → (alike && here) ≡ false → (alike && (here && same)) ≡ false
not_that true true same e = absurd (false≢true (sym e))
not_that true false same e = refl
not_that false here same e = refl

module _ (scope : Scope) (item : List ℕ) (names : List ObjectName) (judged : List Bool) (i : ℕ)
    (name : ObjectName) (there : i < length names) (told : i < length judged)
    (named : name ≡ get_or names i name) where
  abbrev alike : Bool
  alike = get_or judged i false

  came : get_or (zip names judged) i (name, false) ≡ (name, alike)
  came =
      get_or-zip names judged i (name, false) there told
      ∙ ap (λ (n : ObjectName). (n, alike)) (sym named)

  more : (within : i < length (zip names judged))
      → list_any (is_that scope item) (take (i + 1) (zip names judged))
      ≡ (list_any (is_that scope item) (take i (zip names judged))
      || is_that scope item (name, alike))
  more within =
      list_any_more (is_that scope item) (zip names judged) i (name, false) within
      ∙ ap (λ (c : ObjectName × Bool). list_any (is_that scope item) (take i (zip names judged))
      || is_that scope item c) came

  -- an item that was noted, and one that isn't to be
  pub alike_noted : (before after : Bool) → i < length (zip names judged)
      → (alike && same_scope scope name.scope) ≡ true
      → before ≡ list_any (is_that scope item) (take i (zip names judged))
      → after ≡ (bytes_eq item name.item || before)
      → after ≡ list_any (is_that scope item) (take (i + 1) (zip names judged))
  alike_noted before after within alike_here so_far noted =
      noted ∙ ap (λ (b : Bool). bytes_eq item name.item || b) so_far
      ∙ either (list_any (is_that scope item) (take i (zip names judged))) (bytes_eq item name.item)
      ∙ ap (λ (b : Bool). list_any (is_that scope item) (take i (zip names judged)) || b)
      (sym (that_item alike (same_scope scope name.scope) (bytes_eq item name.item) alike_here))
      ∙ sym (more within)

  pub alike_passed : (before : Bool) → i < length (zip names judged)
      → (alike && same_scope scope name.scope) ≡ false
      → before ≡ list_any (is_that scope item) (take i (zip names judged))
      → before ≡ list_any (is_that scope item) (take (i + 1) (zip names judged))
  alike_passed before within away so_far =
      so_far
      ∙ or_false (list_any (is_that scope item) (take i (zip names judged)))
      ∙ ap (λ (b : Bool). list_any (is_that scope item) (take i (zip names judged)) || b)
      (sym (not_that alike (same_scope scope name.scope) (bytes_eq item name.item) away))
      ∙ sym (more within)
    where
      or_false : (a : Bool) → a ≡ (a || false)
      or_false true = refl
      or_false false = refl
