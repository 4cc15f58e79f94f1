-- A loop that passes over elements whose numbers rise.
use Rattle.std.proofs.Common.{◌≡◌, ℕ, zero, suc, ◌+◌, ◌-◌, ◌^◌, ◌<◌, ◌≤◌, List, length}
use Rattle.std.proofs.Common.{drop, Ok, Err, Some, None, refl, sym, ap, ◌∙◌, arith}
use Rattle.std.proofs.lemmas.List.{length-drop}
use Rattle.ber_values.specs.declared.fault.BerFault.{BerFault}
use Rattle.ber_values.specs.Grammars.{taken, gives, by_length}
use Rattle.acse_assoc.specs.Rising.{rising_within, rising_in, PassesNext}

-- what the loop keeps: what is left is passed over as the whole is
pub record RisingSoFar (number from start : ℕ) (whole : List ℕ) (least at : ℕ) (octets : List ℕ)
    : Type 0 where
  pub placed : start + length whole < 2 ^ 64
  pub after : start ≤ at
  pub ends : at + length octets ≡ start + length whole
  pub room : ℕ
  pub enough : length octets ≤ room
  pub reads : (rising_within number room least).reading at octets
      ≡ (rising_in number from).reading start whole

pub rising-begin : (number from start : ℕ) (whole : List ℕ) → start + length whole < 2 ^ 64
    → RisingSoFar number from start whole from start whole
unfolding rising_in by_length
rising-begin number from start whole placed =
    record { placed = placed; after = omega arith; ends = refl; room = length whole; enough = omega arith; reads = refl }

more_room : (number least at room : ℕ) (octets : List ℕ) → length octets ≤ room
    → PassesNext number least at octets (Ok None)
    → (rising_within number room least).reading at octets ≡ Ok (taken least at octets)
unfolding rising_within gives
more_room number least at zero octets few ends = refl
more_room number least at (suc room) octets few ends = ends room

-- nothing more is passed over
pub rising-ends : (number from start : ℕ) (whole : List ℕ) (least at : ℕ) (octets : List ℕ)
    → PassesNext number least at octets (Ok None)
    → RisingSoFar number from start whole least at octets
    → (rising_in number from).reading start whole ≡ Ok (taken least at octets)
rising-ends number from start whole least at octets ends s =
    sym s.reads ∙ more_room number least at s.room octets s.enough ends

-- one more was passed over
pub rising-more : (number from start : ℕ) (whole : List ℕ) (least at : ℕ) (octets : List ℕ)
    (after next : ℕ) → PassesNext number least at octets (Ok (Some (after, next))) → at < next
    → next ≤ at + length octets → RisingSoFar number from start whole least at octets
    → RisingSoFar number from start whole after next (drop (next - at) octets)
rising-more number from start whole least at octets after next passed later within s =
    let len : length (drop (next - at) octets) ≡ length octets - (next - at) =
    length-drop (next - at) octets in
    let k : s.room ≡ suc (s.room - 1) = omega (arith, later, within, s.enough) in record {
      placed = s.placed;
      after = omega (arith, later, s.after);
      ends = omega (arith, len, later, within, s.ends);
      room = s.room - 1;
      enough = omega (arith, len, later, within, s.enough);
      reads = sym (passed (s.room - 1))
          ∙ ap (λ (n : ℕ). (rising_within number n least).reading at octets) (sym k) ∙ s.reads;
    }

some_room : (number least at room : ℕ) (octets : List ℕ) (f : BerFault)
    → 0 < room → PassesNext number least at octets (Err f)
    → (rising_within number room least).reading at octets ≡ Err f
some_room number least at zero octets f some fails = absurd (omega (arith, some))
some_room number least at (suc room) octets f some fails = fails room

-- an element breaks
pub rising-fails : (number from start : ℕ) (whole : List ℕ) (least at : ℕ) (octets : List ℕ)
    (f : BerFault) → 0 < length octets → PassesNext number least at octets (Err f)
    → RisingSoFar number from start whole least at octets
    → (rising_in number from).reading start whole ≡ Err f
rising-fails number from start whole least at octets f some fails s =
    sym s.reads
    ∙ some_room number least at s.room octets f (omega (arith, some, s.enough)) fails
