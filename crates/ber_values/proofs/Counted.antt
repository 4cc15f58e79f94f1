-- A loop over at least and at most so many elements, while octets are left: an answer for each of
-- its goals.
use Rattle.std.proofs.Common.{◌≡◌, ℕ, ◌+◌, ◌-◌, ◌^◌, ◌<◌, ◌≤◌, List, [], ◌∷◌, ◌++◌, length, drop, Bool, true, false, eqb, Result, Ok, Err, arith}
use Rattle.std.proofs.lemmas.List.{length_push, length-drop}
use Rattle.ber_values.specs.declared.fault.BerFault.{BerFault}
use Rattle.ber_values.specs.declared.fault.Why.TheVariants as whys
use Rattle.ber_values.specs.declared.head.Head.{Head}
use Rattle.ber_values.specs.Faults.{fault_at}
use Rattle.ber_values.specs.declared.stop.Stop.{Stop}
use Rattle.ber_values.specs.Stops.{StopsAs}
use Rattle.ber_values.specs.Grammars.{Grammar, taken}
use Rattle.ber_values.specs.Lists.{count_in}
use Rattle.ber_values.proofs.Lists.{ListSoFar, so_far-begins, so_far-more, so_far-stops, so_far-full, so_far-misses, so_far-ends, some_left, none_left}

-- what the loop keeps: the elements so far, no more than may stand, and the octets that are left
pub record CountedSoFar {X : Type 0} (g : Grammar X) (least most : ℕ) (xs : List X) (at : ℕ) (octets : List ℕ) (total : Result (List X) BerFault) : Type 0 where
  pub placed : at + length octets < 2 ^ 64
  pub few : length xs ≤ most
  pub reads : ListSoFar g least most xs at octets total

pub counted-begin : {X : Type 0} (g : Grammar X) (least most : ℕ) (head : Head) (octets : List ℕ) → head.body + length octets < 2 ^ 64 → CountedSoFar g least most [] head.body octets ((count_in least most g).reading head octets)
unfolding count_in
counted-begin g least most head octets placed = record { placed = placed; few = omega arith; reads = so_far-begins g least most head.body octets }

-- one element more was read
pub counted-more : {X : Type 0} {g : Grammar X} {least most : ℕ} {xs : List X} {at : ℕ} {octets : List ℕ} {total : Result (List X) BerFault} → CountedSoFar g least most xs at octets total → (empty : Bool) → empty ≡ eqb (length octets) 0 → empty ≡ false → length xs < most → (x : X) (next : ℕ) → g.reading at octets ≡ Ok (taken x next (drop (next - at) octets)) → at < next → next ≤ at + length octets
    → CountedSoFar g least most (xs ++ x ∷ []) next (drop (next - at) octets) total
counted-more {g = g} {least = least} {most = most} {xs = xs} {at = at} {octets = octets} {total = total} s empty is left room x next read first last =
    let len : length (drop (next - at) octets) ≡ length octets - (next - at) = length-drop (next - at) octets in
    let more : length (xs ++ x ∷ []) ≡ length xs + 1 = length_push xs x in
    record {
      placed = omega (arith, len, first, last, s.placed);
      few = omega (arith, more, room);
      reads = so_far-more g least most xs at octets total x next (drop (next - at) octets) room (some_left octets empty is left) read s.reads;
    }

-- reading an element stopped
pub counted-stop : {X : Type 0} {g : Grammar X} {least most : ℕ} {xs : List X} {at : ℕ} {octets : List ℕ} {total : Result (List X) BerFault} → CountedSoFar g least most xs at octets total → (empty : Bool) → empty ≡ eqb (length octets) 0 → empty ≡ false → length xs < most → (stop : Stop) → StopsAs stop (g.reading at octets) → StopsAs stop total
counted-stop {g = g} {least = least} {most = most} {xs = xs} {at = at} {octets = octets} {total = total} s empty is left room stop read = so_far-stops g least most xs at octets total stop room (some_left octets empty is left) read s.reads

-- octets are left, and no more elements may stand there
pub counted-full : {X : Type 0} {g : Grammar X} {least most : ℕ} {xs : List X} {at : ℕ} {octets : List ℕ} {total : Result (List X) BerFault} → CountedSoFar g least most xs at octets total → (empty : Bool) → empty ≡ eqb (length octets) 0 → empty ≡ false → length xs ≡ most → total ≡ Err (fault_at at whys.Tag)
counted-full {g = g} {least = least} {most = most} {xs = xs} {at = at} {octets = octets} {total = total} s empty is left full = so_far-full g least most xs at octets total (some_left octets empty is left) full s.reads

-- none are left, and more elements are wanted
pub counted-short : {X : Type 0} {g : Grammar X} {least most : ℕ} {xs : List X} {at : ℕ} {octets : List ℕ} {total : Result (List X) BerFault} → CountedSoFar g least most xs at octets total → (empty : Bool) → empty ≡ eqb (length octets) 0 → empty ≡ true → length xs < least → total ≡ Err (fault_at at whys.Short)
counted-short {g = g} {least = least} {most = most} {xs = xs} {at = at} {octets = octets} {total = total} s empty is none few = so_far-misses g least most xs at octets total (none_left octets empty is none) few s.reads

-- none are left, and there are elements enough
pub counted-end : {X : Type 0} {g : Grammar X} {least most : ℕ} {xs : List X} {at : ℕ} {octets : List ℕ} {total : Result (List X) BerFault} → CountedSoFar g least most xs at octets total → (empty : Bool) → empty ≡ eqb (length octets) 0 → empty ≡ true → least ≤ length xs → total ≡ Ok xs
counted-end {g = g} {least = least} {most = most} {xs = xs} {at = at} {octets = octets} {total = total} s empty is none enough = so_far-ends g least most xs at octets total (none_left octets empty is none) enough s.reads
