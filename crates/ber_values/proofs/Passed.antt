-- A loop that passes over elements.
use Rattle.std.proofs.Common.{◌≡◌, ℕ, zero, suc, ◌+◌, ◌-◌, ◌^◌, ◌<◌, ◌≤◌, Bool, true, false, List, [], ◌∷◌, length, drop, Ok, Err, refl, sym, ap, ◌∙◌, arith}
use Rattle.std.proofs.lemmas.Bool.{false≢true}
use Rattle.std.proofs.lemmas.List.{length-drop, drop-drop}
use Rattle.ber_values.specs.declared.fault.BerFault.{BerFault}
use Rattle.ber_values.specs.Reading.{Taken}
use Rattle.ber_values.specs.Grammars.{Grammar, taken, gives, then_in, branch_in, first_is, by_length}
use Rattle.ber_values.specs.Grammars.{passed_within, passed_in}

-- what the loop keeps: where it stands in the octets, and that what is left is passed over as the whole is
pub record PassedSoFar (g : Grammar (Unit {0})) (skips : ℕ → Bool) (start : ℕ) (whole : List ℕ) (at : ℕ) (octets : List ℕ) : Type 0 where
  pub placed : start + length whole < 2 ^ 64
  pub after : start ≤ at
  pub left : octets ≡ drop (at - start) whole
  pub ends : at + length octets ≡ start + length whole
  pub room : ℕ
  pub enough : length octets ≤ room
  pub reads : (passed_within g skips room).reading at octets ≡ (passed_in g skips).reading start whole

pub passed-begin : (g : Grammar (Unit {0})) (skips : ℕ → Bool) (start : ℕ) (whole : List ℕ) → start + length whole < 2 ^ 64 → PassedSoFar g skips start whole start whole
unfolding passed_in by_length
passed-begin g skips start whole placed = record {
  placed = placed;
  after = omega arith;
  left = ap (λ (n : ℕ). drop n whole) (let none : 0 ≡ start - start = omega arith in none);
  ends = refl;
  room = length whole;
  enough = omega arith;
  reads = refl;
}

some_first : (skips : ℕ → Bool) (octets : List ℕ) → first_is skips octets ≡ true → 0 < length octets
some_first skips [] e = absurd (false≢true e)
some_first skips (first ∷ octets) e = omega arith

one_passed : (g : Grammar (Unit {0})) (skips : ℕ → Bool) (room at : ℕ) (octets : List ℕ) (t : Taken (Unit {0})) → first_is skips octets ≡ true → g.reading at octets ≡ Ok t → (passed_within g skips (suc room)).reading at octets ≡ (passed_within g skips room).reading t.next t.rest
unfolding passed_within branch_in then_in
one_passed g skips room at octets t first read = rw (first, read) refl

not_passed : (g : Grammar (Unit {0})) (skips : ℕ → Bool) (room at : ℕ) (octets : List ℕ) (f : BerFault) → first_is skips octets ≡ true → g.reading at octets ≡ Err f → (passed_within g skips (suc room)).reading at octets ≡ Err f
unfolding passed_within branch_in then_in
not_passed g skips room at octets f first read = rw (first, read) refl

all_passed : (g : Grammar (Unit {0})) (skips : ℕ → Bool) (room at : ℕ) (octets : List ℕ) → first_is skips octets ≡ false → (passed_within g skips room).reading at octets ≡ Ok (taken tt at octets)
unfolding passed_within branch_in gives
all_passed g skips zero at octets first = refl
all_passed g skips (suc room) at octets first = rw first refl

-- one more element was passed over
pub passed-more : (g : Grammar (Unit {0})) (skips : ℕ → Bool) (start : ℕ) (whole : List ℕ) (at : ℕ) (octets : List ℕ) (next : ℕ) → first_is skips octets ≡ true → g.reading at octets ≡ Ok (taken tt next (drop (next - at) octets)) → at < next → next ≤ at + length octets
    → PassedSoFar g skips start whole at octets → PassedSoFar g skips start whole next (drop (next - at) octets)
passed-more g skips start whole at octets next first read later within s =
    let some : 0 < length octets = some_first skips octets first in
    let len : length (drop (next - at) octets) ≡ length octets - (next - at) = length-drop (next - at) octets in
    let k : s.room ≡ suc (s.room - 1) = omega (arith, some, s.enough) in
    let far : at - start + (next - at) ≡ next - start = omega (arith, s.after, later) in
    record {
      placed = s.placed;
      after = omega (arith, s.after, later);
      left = ap (drop (next - at)) s.left ∙ drop-drop (next - at) (at - start) whole ∙ ap (λ (n : ℕ). drop n whole) far;
      ends = omega (arith, len, later, within, s.ends);
      room = s.room - 1;
      enough = omega (arith, len, later, within, some, s.enough);
      reads = sym (one_passed g skips (s.room - 1) at octets (taken tt next (drop (next - at) octets)) first read) ∙ ap (λ (n : ℕ). (passed_within g skips n).reading at octets) (sym k) ∙ s.reads;
    }

-- an element has a faulty head
pub passed-fails : (g : Grammar (Unit {0})) (skips : ℕ → Bool) (start : ℕ) (whole : List ℕ) (at : ℕ) (octets : List ℕ) (f : BerFault) → first_is skips octets ≡ true → g.reading at octets ≡ Err f → PassedSoFar g skips start whole at octets → (passed_in g skips).reading start whole ≡ Err f
passed-fails g skips start whole at octets f first read s =
    let some : 0 < length octets = some_first skips octets first in
    let k : s.room ≡ suc (s.room - 1) = omega (arith, some, s.enough) in
    sym s.reads ∙ ap (λ (n : ℕ). (passed_within g skips n).reading at octets) k ∙ not_passed g skips (s.room - 1) at octets f first read

-- no more elements are passed over
pub passed-ends : (g : Grammar (Unit {0})) (skips : ℕ → Bool) (start : ℕ) (whole : List ℕ) (at : ℕ) (octets : List ℕ) → first_is skips octets ≡ false → PassedSoFar g skips start whole at octets → (passed_in g skips).reading start whole ≡ Ok (taken tt at (drop (at - start) whole))
passed-ends g skips start whole at octets first s = sym s.reads ∙ all_passed g skips s.room at octets first ∙ ap (λ (os : List ℕ). Ok (taken tt at os)) s.left

-- octets that were dropped in two steps
pub drop_on : (at next end : ℕ) (octets : List ℕ) → at ≤ next → next ≤ end → drop (end - next) (drop (next - at) octets) ≡ drop (end - at) octets
drop_on at next end octets first last =
    let far : next - at + (end - next) ≡ end - at = omega (arith, first, last) in
    drop-drop (end - next) (next - at) octets ∙ ap (λ (n : ℕ). drop n octets) far
