-- The loop over transfer syntaxes.
use Rattle.std.proofs.Common.{◌≡◌, ℕ, ◌+◌, ◌-◌, ◌^◌, ◌<◌, ◌≤◌, Bool, true, false, ◌||◌, List, [], ◌∷◌, ◌++◌, length, drop, Result, Ok, Err, refl, sym, ap, ◌∙◌, arith}
use Rattle.ber_values.specs.declared.fault.BerFault.{BerFault}
use Rattle.ber_values.specs.declared.head.Head.{Head}
use Rattle.ber_values.specs.Faults.{◌>>=◌}
use Rattle.ber_values.specs.Grammars.{taken}
use Rattle.ber_values.specs.Parts.{part_in, contents_as}
use Rattle.ber_values.specs.Lists.{list_in}
use Rattle.ber_values.specs.Leaves.{oid}
use Rattle.ber_values.proofs.Lists.{MembersSoFar, members-begin, members-more, members-end, so_far-fails}
use Rattle.presentation_profile.specs.Offers.{names_ber, any_ber, transfers}

any_ber-push : (names : List (List ℕ)) (name : List ℕ) → any_ber (names ++ name ∷ []) ≡ (any_ber names || names_ber name)
any_ber-push [] name = or_false (names_ber name)
  where
    or_false : (b : Bool) → (b || false) ≡ b
    or_false true = refl
    or_false false = refl
any_ber-push (x ∷ xs) name = ap (λ b. names_ber x || b) (any_ber-push xs name) ∙ or_assoc (names_ber x) (any_ber xs) (names_ber name)
  where
    or_assoc : (a b c : Bool) → (a || (b || c)) ≡ ((a || b) || c)
    or_assoc true b c = refl
    or_assoc false b c = refl

-- names that were read, whether BER is among them, and what is left
pub record NamesSoFar (head : Head) (contents : List ℕ) (ber : Bool) (at : ℕ) (rest : List ℕ) : Type 0 where
  pub names : List (List ℕ)
  pub any : ber ≡ any_ber names
  pub read : MembersSoFar (part_in 6 oid) 0 (length contents) names at rest ((list_in 0 (part_in 6 oid)).reading head contents)

pub names-begin : (head : Head) (contents : List ℕ) → head.body + length contents < 2 ^ 64 → NamesSoFar head contents false head.body contents
names-begin head contents placed = record { names = []; any = refl; read = members-begin (part_in 6 oid) 0 head contents placed }

pub names-more : (head : Head) (contents : List ℕ) (ber : Bool) (at : ℕ) (rest name : List ℕ) (next : ℕ) → 0 < length rest → (part_in 6 oid).reading at rest ≡ Ok (taken name next (drop (next - at) rest)) → at < next → next ≤ at + length rest
    → NamesSoFar head contents ber at rest → NamesSoFar head contents (ber || names_ber name) next (drop (next - at) rest)
names-more head contents ber at rest name next some read first last s = record {
  names = s.names ++ name ∷ [];
  any = ap (λ b. b || names_ber name) s.any ∙ sym (any_ber-push s.names name);
  read = members-more s.read some name next read first last;
}

pub names-fail : (head : Head) (contents : List ℕ) (ber : Bool) (at : ℕ) (rest : List ℕ) (f : BerFault) → 0 < length rest → (part_in 6 oid).reading at rest ≡ Err f → NamesSoFar head contents ber at rest → transfers.reading head contents ≡ Err f
unfolding transfers contents_as
names-fail head contents ber at rest f some read s =
    let e : (list_in 0 (part_in 6 oid)).reading head contents ≡ Err f = so_far-fails (part_in 6 oid) 0 (length contents) s.names at rest ((list_in 0 (part_in 6 oid)).reading head contents) f (omega (arith, some, s.read.fewer)) some read s.read.reads in
    ap (λ (r : Result (List (List ℕ)) BerFault). r >>= λ names. Ok (any_ber names)) e

pub names-end : (head : Head) (contents : List ℕ) (ber : Bool) (at : ℕ) (rest : List ℕ) → length rest ≡ 0 → NamesSoFar head contents ber at rest → transfers.reading head contents ≡ Ok ber
unfolding transfers contents_as
names-end head contents ber at rest none s =
    let e : (list_in 0 (part_in 6 oid)).reading head contents ≡ Ok s.names = members-end s.read none (omega arith) in
    ap (λ (r : Result (List (List ℕ)) BerFault). r >>= λ names. Ok (any_ber names)) e ∙ ap (λ (b : Bool). Ok b) (sym s.any)
