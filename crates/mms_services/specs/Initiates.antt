-- Parameters of an association (ISO 9506-2, Initiate-RequestPDU and Initiate-ResponsePDU).
use Rattle.std.specs.Prelude.{◌≡◌, ℕ, ℤ, pos, Option, Some, None, IsSome, IfSome, List, [], ◌∷◌}
use Rattle.std.specs.Prelude.{◌++◌}
use Rattle.std.specs.Int.{w64}
use Rattle.std.specs.Int.RustNames.{FitsSigned}
use Rattle.ber_values.specs.Grammars.{then_in, map_in}
use Rattle.ber_values.specs.Passing.{pass_in, is_other}
use Rattle.ber_values.specs.Parts.{Contents, part_in, maybe_in, all_in}
use Rattle.ber_values.specs.Leaves.{integer, raw}
use Rattle.ber_values.specs.Writing.{written, integer_octets}
use Rattle.mms_services.specs.declared.initiate.Initiate.{Initiate}

-- the protocol's version; the bits of its parts and of the services that are supported, which
-- aren't looked at; and elements that count for nothing
unfoldable pub initiate_detail : Contents ℤ
initiate_detail = all_in
    (then_in (part_in 128 integer) (λ version.
    then_in (part_in 129 raw) (λ parameters.
    then_in (part_in 130 raw) (λ services.
    map_in (λ u. version) (pass_in (is_other 0 255 []))))))

abbrev pub initiate_of : Option ℤ → ℤ → ℤ → Option ℤ → ℤ → Initiate
initiate_of detail calling called nesting version = record {
  detail = detail;
  calling = calling;
  called = called;
  nesting = nesting;
  version = version;
}

-- the parameters in order, of which the first and the fourth may be absent
unfoldable pub initiate : Contents Initiate
initiate = all_in
    (then_in (maybe_in 128 integer) (λ detail.
    then_in (part_in 129 integer) (λ calling.
    then_in (part_in 130 integer) (λ called.
    then_in (maybe_in 131 integer) (λ nesting.
    map_in (initiate_of detail calling called nesting) (part_in 164 initiate_detail))))))

-- ---- the written form

abbrev pub some_integer_octets : ℕ → Option ℤ → List ℕ
some_integer_octets tag None = []
some_integer_octets tag (Some value) = written tag (integer_octets value)

-- version 1; arrays, structures, and variables and lists of them by their names; the services of
-- this profile
unfoldable pub initiate_detail_octets : List ℕ
initiate_detail_octets = written 128 (1 ∷ [])
    ++ (written 129 (5 ∷ 225 ∷ 0 ∷ [])
    ++ written 130 (3 ∷ 110 ∷ 28 ∷ 0 ∷ 0 ∷ 0 ∷ 0 ∷ 0 ∷ 0 ∷ 0 ∷ 1 ∷ 16 ∷ []))

unfoldable pub last_octets : List ℕ
last_octets = written 164 initiate_detail_octets

-- the parameters from the called end's services on
unfoldable pub later_octets : Initiate → List ℕ
later_octets offer = written 130 (integer_octets offer.called)
    ++ (some_integer_octets 131 offer.nesting ++ last_octets)

unfoldable pub initiate_octets : Initiate → List ℕ
initiate_octets offer = some_integer_octets 128 offer.detail
    ++ (written 129 (integer_octets offer.calling) ++ later_octets offer)

-- parameters that may be written: version 1, and none is absent
pub record IsFullInitiate (offer : Initiate) : Type 0 where
  pub version : offer.version ≡ pos 1
  pub detail : IsSome offer.detail
  pub nesting : IsSome offer.nesting

-- what the type of parameters keeps
pub record IsHeldInitiate (offer : Initiate) : Type 0 where
  pub detail : IfSome offer.detail (FitsSigned w64)
  pub calling : FitsSigned w64 offer.calling
  pub called : FitsSigned w64 offer.called
  pub nesting : IfSome offer.nesting (FitsSigned w64)
