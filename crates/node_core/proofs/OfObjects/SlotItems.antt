-- The names of transfer sets are identifiers.
use Rattle.std.proofs.Common.{◌≡◌, ℕ, zero, suc, ◌<◌, Bool, true, ◌&&◌, refl, subst, sym, ⊎_elim}
use Rattle.std.proofs.Common.{arith}
use Rattle.std.specs.Fmt.{digits}
use Rattle.std.proofs.lemmas.Bool.{cases_eq, and_parts}
use Rattle.bilateral.specs.declared.rows.TheConstants.{SLOT_LIMIT}
use Rattle.mms_data.specs.ObjectName.{IsIdentifier}
use Rattle.bilateral.specs.Words.Words.{is_identifier}
use Rattle.tase_views.specs.Objects.{slot_item}
use Rattle.node_core.proofs.OfObjects.Listed.{IsIdentifier-word}

abbrev all_below : (ℕ → Bool) → ℕ → Bool
all_below test zero = true
all_below test (suc n) = test n && all_below test n

one_below : (test : ℕ → Bool) (n s : ℕ) → all_below test n ≡ true → s < n → test s ≡ true
one_below test zero s all below = absurd (omega (arith, below))
one_below test (suc n) s all below =
    let both = and_parts (test n) (all_below test n) all in
    ⊎_elim
    (λ (same : s ≡ n). subst (λ (k : ℕ). test k ≡ true) (sym same) both.0)
    (λ apart. one_below test n s both.1 (omega (arith, below, apart)))
    (cases_eq s n)

items_named : all_below (λ s. is_identifier (slot_item s)) SLOT_LIMIT ≡ true
unfolding digits
items_named = refl

pub item_named : (s : ℕ) → s < SLOT_LIMIT → IsIdentifier (slot_item s)
item_named s below =
    IsIdentifier-word (slot_item s)
    (one_below (λ k. is_identifier (slot_item k)) SLOT_LIMIT s items_named below)
