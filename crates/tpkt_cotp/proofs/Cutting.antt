-- A TSDU that is cut, part by part.
use Rattle.std.proofs.Common.{◌≡◌, ℕ, ◌<◌, false, List, [], ◌∷◌, ◌++◌, length, take, drop, sym, ap}
use Rattle.std.proofs.Common.{◌∙◌, arith, append_assoc}
use Rattle.std.specs.List.{AllByRecursion}
use Rattle.std.proofs.lemmas.List.{append-nil, take-append-drop, length-take-le, length-drop}
use Rattle.std.proofs.lemmas.List.Concat.{flat_map-append}
use Rattle.tpkt_cotp.specs.Written.{part_octets, parts_octets, joined_parts}

-- full parts were written so far
pub record CutSoFar (full : ℕ) (octets rest old items : List ℕ) : Type 0 where
  pub parts : List (List ℕ)
  pub each : AllByRecursion (λ p. length p ≡ full) parts
  pub are : octets ≡ joined_parts parts ++ rest
  pub items_are : items ≡ old ++ parts_octets parts
  pub some : 0 < length rest

all_push : (P : List ℕ → Type 0) (xs : List (List ℕ)) (x : List ℕ) → AllByRecursion P xs → P x
    → AllByRecursion P (xs ++ x ∷ [])
all_push P [] x all one = (one, tt)
all_push P (y ∷ xs) x all one = (all.0, all_push P xs x all.1 one)

-- one part more
pub cut_more : (full : ℕ) (octets rest old items part more after : List ℕ)
    → CutSoFar full octets rest old items → full < length rest → part ≡ take full rest
    → more ≡ drop full rest → after ≡ items ++ part_octets false part
    → CutSoFar full octets more old after
cut_more full octets rest old items part more after c long part_is more_is is =
    let len : length part ≡ full = let e = ap length part_is in let f = length-take-le full rest
    (omega arith) in omega (arith, e, f) in
    let split : rest ≡ part ++ more = sym (take-append-drop full rest)
    ∙ ap (λ (os : List ℕ). os ++ drop full rest) (sym part_is)
    ∙ ap (λ (os : List ℕ). part ++ os) (sym more_is) in
    let j : joined_parts (c.parts ++ part ∷ []) ≡ joined_parts c.parts ++ part = flat_map-append
    (λ (p : List ℕ). p) c.parts (part ∷ []) ∙ ap (λ (os : List ℕ). joined_parts c.parts ++ os)
    (append-nil part) in
    let w : parts_octets (c.parts ++ part ∷ []) ≡ parts_octets c.parts ++ part_octets false part =
    flat_map-append (λ (p : List ℕ). part_octets false p) c.parts (part ∷ [])
    ∙ ap (λ (os : List ℕ). parts_octets c.parts ++ os) (append-nil (part_octets false part)) in
    record {
      parts = c.parts ++ part ∷ [];
      each = all_push (λ (p : List ℕ). length p ≡ full) c.parts part c.each len;
      are = c.are ∙ ap (λ (os : List ℕ). joined_parts c.parts ++ os) split
          ∙ sym (append_assoc (joined_parts c.parts) part more)
          ∙ ap (λ (os : List ℕ). os ++ more) (sym j);
      items_are = is ∙ ap (λ (os : List ℕ). os ++ part_octets false part) c.items_are
          ∙ append_assoc old (parts_octets c.parts) (part_octets false part)
          ∙ ap (λ (os : List ℕ). old ++ os) (sym w);
      some = let e = ap length more_is in let f = length-drop full rest in omega (arith, e, f);
    }
