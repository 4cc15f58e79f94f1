-- Reading a head is exact.
use Rattle.std.proofs.Common.{◌≡◌, ℕ, zero, suc, ◌-◌, Bool, List, drop, Ok, inl, inr}
use Rattle.ber_values.specs.declared.tag.Tag.{Tag}
use Rattle.ber_values.specs.declared.head.Head.{Head}
use Rattle.ber_values.specs.Faults.{◌>>=◌}
use Rattle.ber_values.specs.Reading.{Taken, Begins, IsReading}
use Rattle.ber_values.specs.Tags.{SpellsTag, TagFault, tag_in}
use Rattle.ber_values.specs.Grammars.{Grammar, IsGrammar, taken}
use Rattle.ber_values.specs.Extents.{Extent, definite, indefinite, is_indefinite}
use Rattle.ber_values.specs.Heads.{head_of, SpellsHeadBy, HeadFaultBy, head_by}
use Rattle.ber_values.specs.Heads.{element_by, extent_within, extent_of, SpellsHead, HeadFault}
use Rattle.ber_values.specs.Heads.{head_in}
use Rattle.ber_values.proofs.Reading.{IsReading-then, IsReading-as}
use Rattle.ber_values.proofs.Tags.{tag_reads}
use Rattle.ber_values.proofs.Combining.{IsReading-map, branch_reads}
use Rattle.ber_values.proofs.Extents.{definite_reads, indefinite_reads}

pub head_by_reads : (extents : Bool → Grammar Extent) → ((c : Bool) → IsGrammar (extents c))
    → (at : ℕ) (octets : List ℕ) → IsReading Head (SpellsHeadBy extents at octets)
    (HeadFaultBy extents at octets) (head_by extents at octets)
unfolding head_by
head_by_reads extents each at octets =
    IsReading-as Head _ (SpellsHeadBy extents at octets) _ (HeadFaultBy extents at octets) _
    (λ head h. record {
      tag = h.0;
      extent = h.2.0;
      tag_spelled = h.1;
      extent_spelled = h.2.1;
      is = h.2.2;
    })
    (λ head h. (h.tag, h.tag_spelled, (h.extent, h.extent_spelled, h.is)))
    (λ f h. elim h [
      | inl t ↦ inl t
      | inr t ↦ inr (record { tag = t.0; tag_spelled = t.1; breaks = t.2 })
    ])
    (λ f h. elim h [ inl t ↦ inl t | inr t ↦ inr (t.tag, t.tag_spelled, t.breaks) ])
    (IsReading-then (Taken Tag) Head (Begins Tag SpellsTag at octets) (TagFault at octets)
    (tag_in at octets)
    (λ tag head. (extent : Taken Extent)
    × (extents tag.value.constructed).begins tag.next tag.rest extent
    × (head ≡ head_of tag extent))
    (λ tag f. (extents tag.value.constructed).fault tag.next tag.rest f)
    (λ tag. (extents tag.value.constructed).reading tag.next tag.rest
    >>= λ extent. Ok (head_of tag extent)) (tag_reads at octets)
    (λ tag s. let g = extents tag.value.constructed in
    IsReading-map (Taken Extent) Head (g.begins tag.next tag.rest) (g.fault tag.next tag.rest)
    (g.reading tag.next tag.rest) (head_of tag)
    (each tag.value.constructed tag.next tag.rest)))

pub element_reads : (extents : Bool → Grammar Extent) → ((c : Bool) → IsGrammar (extents c))
    → IsGrammar (element_by extents)
unfolding element_by
element_reads extents each at octets =
    IsReading-map Head (Taken (Unit {0})) (SpellsHeadBy extents at octets)
    (HeadFaultBy extents at octets) (head_by extents at octets)
    (λ head. taken tt head.next (drop (head.next - at) octets))
    (head_by_reads extents each at octets)

pub extents_read : (room : ℕ) (constructed : Bool) → IsGrammar (extent_within room constructed)
unfolding extent_within
extents_read zero constructed = definite_reads
extents_read (suc room) constructed =
    branch_reads (is_indefinite constructed) (indefinite (element_by (extent_within room)))
    definite
    (indefinite_reads (element_by (extent_within room))
    (element_reads (extent_within room) (extents_read room))) definite_reads

pub extent_reads : (constructed : Bool) → IsGrammar (extent_of constructed)
unfolding extent_of
extent_reads constructed = extents_read 16 constructed

pub head_reads : (at : ℕ) (octets : List ℕ)
    → IsReading Head (SpellsHead at octets) (HeadFault at octets) (head_in at octets)
unfolding head_in
head_reads = head_by_reads extent_of extent_reads
