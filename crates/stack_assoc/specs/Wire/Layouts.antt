-- The fixed answers as octets, around the contents octets of the id of ACSE's context.
use Rattle.std.specs.Prelude.{◌≡◌, ℕ, ◌+◌, ◌/◌, ◌%◌, List, [], ◌∷◌, ◌++◌, length, nat_lt}
use Rattle.std.specs.Prelude.{if◌then◌else◌}
use Rattle.stack_assoc.specs.Wire.Tsdus.{refusal_tsdu, finish_tsdu, release_tsdu, abort_tsdu}

-- the fewest octets of an integer from 0 to 65,535
abbrev pub id_octets : ℕ → List ℕ
id_octets id = if nat_lt id 128 then id ∷ [] else
    (if nat_lt id 32768 then id / 256 ∷ id % 256 ∷ [] else 0 ∷ id / 256 ∷ id % 256 ∷ [])

-- the data of a finish or its answer, in a session's code: RLRQ or RLRE
abbrev pub release_layout : ℕ → ℕ → List ℕ → List ℕ
release_layout code apdu i =
    code ∷ (15 + length i) ∷ 193 ∷ (13 + length i) ∷ 97 ∷ (11 + length i) ∷ 48 ∷ (9 + length i)
    ∷ 2 ∷ length i ∷ (i ++ 160 ∷ 5 ∷ apdu ∷ 3 ∷ 128 ∷ 1 ∷ 0 ∷ [])

abbrev pub abort_layout : List ℕ → List ℕ
abort_layout i =
    25 ∷ (20 + length i) ∷ 17 ∷ 1 ∷ 11 ∷ 193 ∷ (15 + length i) ∷ 160 ∷ (13 + length i)
    ∷ 97 ∷ (11 + length i) ∷ 48 ∷ (9 + length i)
    ∷ 2 ∷ length i ∷ (i ++ 160 ∷ 5 ∷ 100 ∷ 3 ∷ 128 ∷ 1 ∷ 0 ∷ [])

abbrev pub refusal_layout : List ℕ → List ℕ
refusal_layout i =
    12 ∷ (36 + length i) ∷ 50 ∷ (34 + length i) ∷ 2 ∷ 48 ∷ (31 + length i)
    ∷ 97 ∷ (29 + length i) ∷ 48 ∷ (27 + length i)
    ∷ 2 ∷ length i ∷ (i ++ 160 ∷ 23 ∷ 97 ∷ 21 ∷ 161 ∷ 7 ∷ 6 ∷ 5 ∷ 40 ∷ 202 ∷ 34 ∷ 2 ∷ 3
    ∷ 162 ∷ 3 ∷ 2 ∷ 1 ∷ 1 ∷ 163 ∷ 5 ∷ 161 ∷ 3 ∷ 2 ∷ 1 ∷ 1 ∷ [])

-- the one TPKT of an abort
abbrev pub abort_packet : List ℕ → List ℕ
abort_packet i = 3 ∷ 0 ∷ 0 ∷ (29 + length i) ∷ 2 ∷ 240 ∷ 128 ∷ abort_layout i

-- the fixed answers with this id are these octets
pub record AreLaidOut (id : ℕ) : Type 0 where
  pub finish : finish_tsdu id ≡ release_layout 9 98 (id_octets id)
  pub release : release_tsdu id ≡ release_layout 10 99 (id_octets id)
  pub abort : abort_tsdu id ≡ abort_layout (id_octets id)
  pub refusal : refusal_tsdu id ≡ refusal_layout (id_octets id)
