-- A TSDU is cut in one way.
use Rattle.std.proofs.Common.{◌≡◌, ℕ, zero, suc, ◌+◌, ◌-◌, ◌*◌, ◌/◌, ◌<◌, ◌≤◌, true, List, [], ◌∷◌}
use Rattle.std.proofs.Common.{◌++◌, length, take, drop, Result, Ok, Err, OnOk, refl, sym, ap, ◌∙◌}
use Rattle.std.proofs.Common.{append_assoc, arith}
use Rattle.std.specs.List.{AllByRecursion}
use Rattle.std.proofs.lemmas.List.{length-append, take_at, drop_at, take-append-drop, length-drop}
use Rattle.std.proofs.lemmas.List.{length-take-le, drop-drop}
use Rattle.std.proofs.lemmas.Nat.{div-mul-add}
use Rattle.std.proofs.Math.Nat.{div-mul-le_self, lt-div-mul-add}
use Rattle.tpkt_cotp.specs.Written.{part_octets, parts_octets, joined_parts, IsCut, front_parts_of}
use Rattle.tpkt_cotp.specs.Written.{count_before, wire}

abbrev AreFull : ℕ → List (List ℕ) → Type 0
AreFull full ps = AllByRecursion (λ p. length p ≡ full) ps

joined_size : (full : ℕ) (ps : List (List ℕ)) → AreFull full ps
    → length (joined_parts ps) ≡ length ps * full
joined_size full [] each = omega arith
joined_size full (p ∷ ps) each = omega (
  arith,
  length-append p (joined_parts ps),
  each.0,
  joined_size full ps each.1,
)

-- parts of joined parts are these
parts_joined : (full : ℕ) (ps : List (List ℕ)) (last : List ℕ) → AreFull full ps
    → front_parts_of (length ps) full (joined_parts ps ++ last) ≡ ps
parts_joined full [] last each = refl
parts_joined full (p ∷ ps) last each =
    let split : (p ++ joined_parts ps) ++ last ≡ p ++ (joined_parts ps ++ last) =
    append_assoc p (joined_parts ps) last in
    let first : take full ((p ++ joined_parts ps) ++ last) ≡ p =
    ap (λ (os : List ℕ). take full os) split ∙ take_at p (joined_parts ps ++ last) full each.0 in
    let rest : drop full ((p ++ joined_parts ps) ++ last) ≡ joined_parts ps ++ last =
    ap (λ (os : List ℕ). drop full os) split ∙ drop_at p (joined_parts ps ++ last) full each.0 in
    ap (λ (os : List ℕ). os ∷ front_parts_of (length ps) full (drop full ((p ++ joined_parts ps) ++ last)))
    first
    ∙ ap (λ (os : List ℕ). p ∷ front_parts_of (length ps) full os) rest
    ∙ ap (λ (qs : List (List ℕ)). p ∷ qs) (parts_joined full ps last each.1)

abbrev pieces : ℕ → ℕ → List ℕ → List ℕ
pieces count full octets =
    parts_octets (front_parts_of count full octets) ++ part_octets true (drop (count * full) octets)

pub wire_only : (size : ℕ) (octets written : List ℕ) → IsCut size octets written
    → written ≡ wire size octets
unfolding wire
wire_only size octets written c =
    let full = size - 3 in
    let n = length c.parts in
    let sized : length (joined_parts c.parts) ≡ n * full = joined_size full c.parts c.full in
    let some = c.some in
    let fits = c.fits in
    let whole : length octets - 1 ≡ n * full + (length c.last - 1) = omega (
      arith,
      ap length c.are,
      length-append (joined_parts c.parts) c.last,
      sized,
    ) in
    let count : count_before full (length octets) ≡ n = ap (λ (k : ℕ). k / full) whole
    ∙ div-mul-add n full (length c.last - 1) (omega arith) in
    let parts : front_parts_of n full octets ≡ c.parts =
    ap (λ (os : List ℕ). front_parts_of n full os) c.are ∙ parts_joined full c.parts c.last c.full in
    let last : drop (n * full) octets ≡ c.last = ap (λ (os : List ℕ). drop (n * full) os) c.are
    ∙ drop_at (joined_parts c.parts) c.last (n * full) sized in
    c.written_is
    ∙ sym (ap (λ (ps : List (List ℕ)). parts_octets ps ++ part_octets true c.last) parts)
    ∙ sym (ap (λ (os : List ℕ). parts_octets (front_parts_of n full octets) ++ part_octets true os) last)
    ∙ sym (ap (λ (k : ℕ). pieces k full octets) count)

-- as many full parts as there are octets for
parts_full : (count full : ℕ) (octets : List ℕ) → count * full ≤ length octets
    → AreFull full (front_parts_of count full octets)
parts_full zero full octets le = tt
parts_full (suc count) full octets le = (
  length-take-le full octets (omega arith),
  parts_full count full (drop full octets) (omega (arith, length-drop full octets)),
)

parts_whole : (count full : ℕ) (octets : List ℕ) → count * full ≤ length octets
    → octets ≡ joined_parts (front_parts_of count full octets) ++ drop (count * full) octets
parts_whole zero full octets le = let e : zero * full ≡ 0 = omega arith in rw e refl
parts_whole (suc count) full octets le =
    let rest = drop full octets in
    let more : suc count * full ≡ full + count * full = omega arith in
    let on : drop (count * full) rest ≡ drop (suc count * full) octets =
    drop-drop (count * full) full octets ∙ ap (λ (k : ℕ). drop k octets) (sym more) in
    sym (take-append-drop full octets)
    ∙ ap (λ (os : List ℕ). take full octets ++ os)
    (parts_whole count full rest (omega (arith, length-drop full octets)))
    ∙ sym (append_assoc (take full octets) (joined_parts (front_parts_of count full rest))
    (drop (count * full) rest))
    ∙ ap (λ (os : List ℕ). (take full octets ++ joined_parts (front_parts_of count full rest)) ++ os) on

pub wire_cut : (size : ℕ) (octets : List ℕ) → 4 ≤ size → 0 < length octets
    → IsCut size octets (wire size octets)
unfolding wire
wire_cut size octets least some =
    let full = size - 3 in
    let k = count_before full (length octets) in
    let positive : 0 < full = omega arith in
    let below : k * full ≤ length octets - 1 = div-mul-le_self (length octets - 1) full in
    let above : length octets - 1 < k * full + full = lt-div-mul-add positive in
    let left : length (drop (k * full) octets) ≡ length octets - k * full =
    length-drop (k * full) octets in
    record {
      parts = front_parts_of k full octets;
      last = drop (k * full) octets;
      full = parts_full k full octets (omega arith);
      some = omega arith;
      fits = omega arith;
      are = parts_whole k full octets (omega arith);
      written_is = refl;
    }

-- what was cut and put behind other octets is the written form behind them
pub cut_behind : {T E : Type 0} (r : Result T E) (size : ℕ) (octets old mid new : List ℕ)
    → OnOk r ((written : List ℕ) × IsCut size octets written × (mid ≡ old ++ written))
    → OnOk r (new ≡ mid) → OnOk r (new ≡ old ++ wire size octets)
cut_behind (Ok x) size octets old mid new cut same =
    same ∙ cut.2 ∙ ap (λ (os : List ℕ). old ++ os) (wire_only size octets cut.0 cut.1)
cut_behind (Err e) size octets old mid new cut same = tt
