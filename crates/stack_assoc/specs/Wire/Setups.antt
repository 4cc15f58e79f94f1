-- What the connect of an association fixed.
use Rattle.std.specs.Prelude.{ℕ, ◌≤◌, ◌^◌, min, length, Option, Some, None}
use Rattle.presentation_profile.specs.declared.offers.TheConstants.{MOST_OFFERS}
use Rattle.stack_assoc.specs.declared.wire.setup.AssociationSetup.{AssociationSetup}

-- the most octets of a TPDU: two to the power that was offered, but at most 1,024, also where none
-- was (ISO 8073, TPDU size)
abbrev pub cut_size : Option ℕ → ℕ
cut_size None = 1024
cut_size (Some power) = 2 ^ min power 10

-- a size of TPDUs in which TSDUs are cut, and no more results than there may be offers
pub record IsSetup (s : AssociationSetup) : Type 0 where
  pub least : 128 ≤ s.size
  pub most : s.size ≤ 1024
  pub few : length s.results ≤ MOST_OFFERS
