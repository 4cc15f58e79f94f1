-- Values of presentation contexts are read exactly, and what is written is read back.
use Rattle.std.proofs.Common.{◌≡◌, ℕ, ◌+◌, ◌-◌, ◌≤◌, ◌<◌, ◌^◌, true, List, [], ◌++◌, length, pos, Option, None, refl, sym, ap, ◌∙◌, inr, arith}
use Rattle.std.proofs.lemmas.List.{length-append}
use Rattle.ber_values.specs.Elements as kinds
use Rattle.ber_values.specs.Grammars.{taken, gives, then_in, map_in, branch_in}
use Rattle.ber_values.specs.Writing.{written, integer_octets, length_octets, last_span}
use Rattle.ber_values.specs.Lengths.{capped, part_size}
use Rattle.ber_values.specs.Parts.{IsContentsGrammar, part_in, maybe_in, contents_where, all_in}
use Rattle.ber_values.specs.Leaves.{unsigned, oid, span_at, span}
use Rattle.ber_values.specs.Externals.{external_of, is_wanted, external, external_octets}
use Rattle.ber_values.proofs.Grammars.{then_reads, map_reads, part_reads, maybe_reads, where_reads}
use Rattle.ber_values.proofs.Grammars.{all_reads}
use Rattle.ber_values.proofs.Grammars.{part-written}
use Rattle.ber_values.proofs.Capped.{length-written, part_size-short, element-sized}
use Rattle.ber_values.proofs.WrittenParts.{ends_of, part-writes}
use Rattle.ber_values.proofs.Written.{contents_spelled, length-integer_octets, number_size-fits}
use Rattle.ber_values.proofs.Leaves.{oid_contents, unsigned_contents, span_contents}

pub external_contents : (wanted : Option ℕ) → IsContentsGrammar (external wanted)
unfolding external
external_contents wanted = all_reads _
    (then_reads _ _ (maybe_reads 6 oid oid_contents) (λ name.
    then_reads _ _ (part_reads 2 _ (where_reads (is_wanted wanted) unsigned unsigned_contents))
    (λ id. map_reads (external_of id) _ (part_reads 160 _ span_contents))))

-- ---- lengths

pub external_len-value : (id body few : ℕ) (octets : List ℕ) (r : ℕ) → length octets ≡ body → body < 2 ^ 31 → few ≡ length (integer_octets (pos id)) → few ≤ 8 → r ≡ capped (part_size body) → 2 + few + r ≡ length (external_octets id octets)
external_len-value id body few octets r len small is le e =
    let first : length (written 2 (integer_octets (pos id))) ≡ 2 + few = length-written 2 (integer_octets (pos id)) ∙ part_size-short (length (integer_octets (pos id))) (omega (arith, is, le)) ∙ ap (λ (n : ℕ). 2 + n) (sym is) in
    omega (arith, first, element-sized 160 body r octets (sym len) e (omega (arith, small)), length-append (written 2 (integer_octets (pos id))) (written 160 octets))

-- ---- what is written is read back

-- an integer below 2^32 has few octets
pub integer-few : (id : ℕ) → id < 2 ^ 63 → length (integer_octets (pos id)) ≤ 8
integer-few id small = omega (arith, length-integer_octets (pos id), (number_size-fits id small).few)

pub unsigned_spelled : (at id : ℕ) → id < 2 ^ 32 → unsigned.spells at id (integer_octets (pos id))
unfolding unsigned
unsigned_spelled at id small = contents_spelled kinds.unsigned id small

body_spelled : (at : ℕ) (body : List ℕ) → span.spells at (span_at at body) body
unfolding span
body_spelled at body = refl

-- the value of a context is spelled by its written form, with its body at the end
pub external-spelled : (wanted : Option ℕ) (id : ℕ) (body : List ℕ) (at : ℕ) → id < 2 ^ 32 → length body < 2 ^ 32 → is_wanted wanted id ≡ true
    → (external wanted).spells at (external_of id (last_span (at + length (external_octets id body)) body)) (external_octets id body)
unfolding external all_in then_in map_in maybe_in branch_in gives contents_where
external-spelled wanted id body at small few is =
    let numbers = integer_octets (pos id) in
    let first = written 2 numbers in
    let second = written 160 body in
    let next = at + length first in
    let from = next + 1 + length (length_octets (length body)) in
    let end = next + length second in
    let size : length numbers ≤ 8 = integer-few id (omega (arith, small)) in
    let whole : at + length (external_octets id body) ≡ end = omega (arith, length-append first second) in
    let ends : end ≡ from + length body = omega (arith, length-append (length_octets (length body)) body) in
    let starts : (at + length (external_octets id body)) - length body ≡ from = omega (arith, whole, ends) in
    let stops : at + length (external_octets id body) ≡ from + length body = omega (arith, whole, ends) in (
      taken (external_of id (span_at from body)) end [],
      (
        taken None at (first ++ second),
        inr (refl, refl),
        (
          taken id next second,
          part-written 2 (contents_where (is_wanted wanted) unsigned) at id numbers second (omega (arith, size))
              (id, unsigned_spelled _ id small, (is, refl)),
          (
            taken (span_at from body) end [],
            ends_of (part_in 160 span) next (span_at from body) (written 160 body)
                (part-writes 160 span next (span_at from body) body few (body_spelled _ body)),
            refl,
          ),
        ),
      ),
      (
        refl,
        ap (λ (n : ℕ). external_of id (record { from = n; to = at + length (external_octets id body) })) starts
            ∙ ap (λ (n : ℕ). external_of id (record { from = from; to = n })) stops,
      ),
    )
