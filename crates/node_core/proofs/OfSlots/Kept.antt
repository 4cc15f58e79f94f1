-- The data sets that enabled transfer sets wish, as a bank has them.
use Rattle.std.proofs.Common.{◌≡◌, ℕ, ◌+◌, ◌<◌, ◌≤◌, Bool, true, false, ◌&&◌, ◌||◌, List, [], ◌∷◌}
use Rattle.std.proofs.Common.{take, get_or, bytes_eq, refl, sym, ap, ◌∙◌, arith}
use Rattle.std.specs.List.{range_with_len, list_any}
use Rattle.std.proofs.lemmas.List.{take_all}
use Rattle.std.proofs.lemmas.List.Folds.{list_any_at, list_any_more}
use Rattle.std.proofs.lemmas.List.FromFn.{length-range_with_len, get_or-range_with_len}
use Rattle.transfer_sets.specs.declared.wish.Wish.{Wish}
use Rattle.transfer_sets.specs.SlotMoves.{last_wish}
use Rattle.transfer_sets.specs.Banks.{OwnedSlot, slot_at}
use Rattle.tase_views.specs.OwnTables.{OwnTables}
use Rattle.tase_views.specs.View.{View, held}
use Rattle.tase_views.specs.Slots.{is_wished, slot_moves}
use Rattle.node_core.specs.Slots.SlotsKept.{IsBank, is_kept}

-- whether an enabled transfer set with this wish sends this data set of a domain
abbrev pub is_wish_for : List ℕ → List ℕ → Wish → Bool
is_wish_for domain name wish =
    wish.status && bytes_eq wish.set_domain domain && bytes_eq wish.set_name name

-- whether the transfer set with a number does
abbrev pub is_kept_by : List ℕ → List OwnedSlot → List ℕ → ℕ → Bool
is_kept_by domain slots name s = is_wish_for domain name (slot_at slots s).state.wish

any_alike : (test other : ℕ → Bool) → ((s : ℕ) → test s ≡ other s) → (all : List ℕ)
    → list_any test all ≡ list_any other all
any_alike test other alike [] = refl
any_alike test other alike (s ∷ all) =
    ap (λ (b : Bool). b || list_any test all) (alike s)
    ∙ ap (λ (b : Bool). other s || b) (any_alike test other alike all)

-- a bank keeps the data sets that the view wishes
pub kept_wished : (tables : OwnTables) (view : View) (slots : List OwnedSlot) (name : List ℕ)
    → IsBank tables view slots
    → is_kept (held tables view).domain (held tables view).slots slots name
    ≡ is_wished (held tables view) (slot_moves tables view) name
kept_wished tables view slots name bank =
    let domain = (held tables view).domain in
    any_alike (is_kept_by domain slots name)
    (λ s. is_wish_for domain name (last_wish (slot_moves tables view s)).0)
    (λ s. ap (is_wish_for domain name) (bank.state s).wish)
    (range_with_len 0 (held tables view).slots)

-- ---- the first so many transfer sets, one after another

module _ (test : ℕ → Bool) (count : ℕ) where
  abbrev numbers : List ℕ
  numbers = range_with_len 0 count

  test_at : (s : ℕ) → s < count → test (get_or numbers s 0) ≡ test s
  test_at s within =
      ap test (get_or-range_with_len 0 count s 0 within ∙ omega arith)

  -- none of those before this one, and not this one
  pub none_more : (s : ℕ) → s < count → list_any test (take s numbers) ≡ false → test s ≡ false
      → list_any test (take (s + 1) numbers) ≡ false
  none_more s within none not_here =
      list_any_more test numbers s 0 (omega (arith, within, length-range_with_len 0 count))
      ∙ ap (λ (b : Bool). b || test (get_or numbers s 0)) none ∙ test_at s within ∙ not_here

  -- this one
  pub one_passes : (s : ℕ) → s < count → test s ≡ true → list_any test numbers ≡ true
  one_passes s within here =
      list_any_at test numbers s 0 (omega (arith, within, length-range_with_len 0 count))
      (test_at s within ∙ here)

  -- none
  pub none_pass : (s : ℕ) → count ≤ s → list_any test (take s numbers) ≡ false
      → list_any test numbers ≡ false
  none_pass s past none =
      ap (list_any test)
      (sym (take_all s numbers (omega (arith, past, length-range_with_len 0 count)))) ∙ none
