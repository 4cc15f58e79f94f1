-- Sums over peers, and the indexes of the first so many of them.
use Rattle.std.proofs.Common.{◌≡◌, ◌≢◌, ℕ, zero, suc, ◌+◌, ◌*◌, ◌<◌, ◌≤◌, List, length, Some, refl}
use Rattle.std.proofs.Common.{sym, ap}
use Rattle.std.proofs.Common.{subst, ◌∙◌, ⊎_elim, arith, add-one, slice_get}
use Rattle.std.specs.Option.{option_map_or}
use Rattle.std.proofs.lemmas.Bool.{cases_eq}
use Rattle.std.proofs.lemmas.Option.{slice_get_within}
use Rattle.bilateral.specs.Rows.{CentreRows}
use Rattle.node_core.specs.declared.feeds.index.PeerIndex.{PeerIndex}
use Rattle.node_core.specs.declared.node.parts.Parts.{Parts}
use Rattle.node_core.specs.declared.node.peer.Peer.{Peer}
use Rattle.node_core.specs.Feeds.Indexed.{IsIndexed, AreIndexed, over_peers, of_part}

pub over_peers-more : (n : ℕ) (f : ℕ → ℕ) → over_peers (n + 1) f ≡ over_peers n f + f n
over_peers-more n f = ap (λ (k : ℕ). over_peers k f) (add-one n)

pub over_peers-less : (n m : ℕ) (f : ℕ → ℕ) → n ≤ m → over_peers n f ≤ over_peers m f
over_peers-less n zero f less =
    subst (λ (k : ℕ). over_peers k f ≤ 0) (sym (let none : n ≡ 0 = omega (arith, less) in none))
    (omega arith)
over_peers-less n (suc m) f less =
    ⊎_elim
    (λ (same : n ≡ suc m). subst (λ (k : ℕ). over_peers k f ≤ over_peers (suc m) f) (sym same)
    (omega arith))
    (λ other. let below = over_peers-less n m f (omega (arith, less, other)) in
    omega (arith, below))
    (cases_eq n (suc m))

pub over_peers-same : (n : ℕ) (f g : ℕ → ℕ) → ((p : ℕ) → p < n → f p ≡ g p)
    → over_peers n f ≡ over_peers n g
over_peers-same zero f g same = refl
over_peers-same (suc n) f g same =
    let before = over_peers-same n f g (λ p below. same p (omega (arith, below))) in
    omega (arith, before, same n (omega arith))

pub of_part-at : (peers : List Peer) (number : Peer → ℕ) (peer : ℕ) (part : Peer)
    → slice_get peers peer ≡ Some part → of_part peers number peer ≡ number part
of_part-at peers number peer part at = ap (λ found. option_map_or number found 0) at

-- one peer more of a sum, where the number of its part is known
pub sum_more : (peers : List Peer) (number : Peer → ℕ) (before now after n : ℕ) (part : Peer)
    → slice_get peers n ≡ Some part → now ≤ before + over_peers n (of_part peers number)
    → after ≤ now + number part → after ≤ before + over_peers (n + 1) (of_part peers number)
sum_more peers number before now after n part at below more =
    omega (
      arith,
      below,
      more,
      over_peers-more n (of_part peers number),
      of_part-at peers number n part at,
    )

-- the same where the number counts twice, and where it counts three times
pub sum_more_twice : (peers : List Peer) (number : Peer → ℕ) (before now after n : ℕ) (part : Peer)
    → slice_get peers n ≡ Some part → now ≤ before + 2 * over_peers n (of_part peers number)
    → after ≤ now + 2 * number part → after ≤ before + 2 * over_peers (n + 1) (of_part peers number)
sum_more_twice peers number before now after n part at below more =
    omega (
      arith,
      below,
      more,
      over_peers-more n (of_part peers number),
      of_part-at peers number n part at,
    )

pub sum_more_thrice : (peers : List Peer) (number : Peer → ℕ) (before now after n : ℕ)
    (part : Peer)
    → slice_get peers n ≡ Some part → now ≤ before + 3 * over_peers n (of_part peers number)
    → after ≤ now + 3 * number part → after ≤ before + 3 * over_peers (n + 1) (of_part peers number)
sum_more_thrice peers number before now after n part at below more =
    omega (
      arith,
      below,
      more,
      over_peers-more n (of_part peers number),
      of_part-at peers number n part at,
    )

-- a part of a sum is no more than all of it
pub sum_within : (peers : List Peer) (number : Peer → ℕ) (before now n : ℕ) → n ≤ length peers
    → now ≤ before + over_peers n (of_part peers number)
    → now ≤ before + over_peers (length peers) (of_part peers number)
sum_within peers number before now n within below =
    let less = over_peers-less n (length peers) (of_part peers number) within in
    omega (arith, less, below)

-- of parts and indexes those of the first so many peers have become others, which belong together
pub record FirstIndexed (rows : CentreRows) (now count : ℕ) (old new : Parts) : Type 0 where
  pub many : length new.indexes.items ≡ length old.indexes.items
  pub done : (peer : ℕ) (part : Peer) (index : PeerIndex) → peer < count
      → slice_get new.peers.items peer ≡ Some part → slice_get new.indexes.items peer ≡ Some index
      → IsIndexed rows peer now part index
  pub left : (peer : ℕ) → count ≤ peer
      → slice_get new.indexes.items peer ≡ slice_get old.indexes.items peer

pub FirstIndexed-step : (rows : CentreRows) (now count : ℕ) (old mid new : Parts)
    → FirstIndexed rows now count old mid
    → ((peer : ℕ) → peer ≢ count → slice_get new.peers.items peer ≡ slice_get mid.peers.items peer)
    → ((peer : ℕ) → peer ≢ count
    → slice_get new.indexes.items peer ≡ slice_get mid.indexes.items peer)
    → length new.indexes.items ≡ length mid.indexes.items
    → ((part : Peer) (index : PeerIndex) → slice_get new.peers.items count ≡ Some part
    → slice_get new.indexes.items count ≡ Some index → IsIndexed rows count now part index)
    → FirstIndexed rows now (count + 1) old new
FirstIndexed-step rows now count old mid new f parts indexes many one = record {
  many = many ∙ f.many;
  done = λ peer part index below here at.
      ⊎_elim
      (λ (same : peer ≡ count). subst (λ (p : ℕ). IsIndexed rows p now part index) (sym same)
      (one part index (ap (slice_get new.peers.items) (sym same) ∙ here)
      (ap (slice_get new.indexes.items) (sym same) ∙ at)))
      (λ apart. f.done peer part index (omega (arith, below, apart))
      (sym (parts peer apart) ∙ here) (sym (indexes peer apart) ∙ at))
      (cases_eq peer count);
  left = λ peer past.
      indexes peer (λ same. absurd (omega (arith, past, same)))
      ∙ f.left peer (omega (arith, past));
}

pub FirstIndexed-all : (rows : CentreRows) (now count : ℕ) (old new : Parts)
    → length new.peers.items ≤ count → length old.indexes.items ≡ length new.peers.items
    → FirstIndexed rows now count old new
    → AreIndexed rows now new.peers.items new.indexes.items
FirstIndexed-all rows now count old new all same f = record {
  many = f.many ∙ same;
  each = λ peer part index here at.
      f.done peer part index (omega (arith, all, slice_get_within new.peers.items peer part here))
      here at;
}

-- ---- few looks

pub looked_once : (old new one all : ℕ) → new ≤ old + one → one ≡ all → new ≤ old + 8 * all
looked_once old new one all a is = omega (arith, a, is)

pub looked_twice : (old mid new one two all : ℕ) → mid ≤ old + one → new ≤ mid + 3 * two → one ≡ all
    → two ≡ all → new ≤ old + 8 * all
looked_twice old mid new one two all a b is too = omega (arith, a, b, is, too)

pub looked_both : (old new one all : ℕ) → new ≤ old + 2 * one → one ≡ all → new ≤ old + 8 * all
looked_both old new one all a is = omega (arith, a, is)

pub looked_thrice : (old mid new one two all : ℕ) → mid ≤ old + 2 * one → new ≤ mid + 2 * two
    → one ≡ all → two ≡ all → new ≤ old + 8 * all
looked_thrice old mid new one two all a b is too = omega (arith, a, b, is, too)
