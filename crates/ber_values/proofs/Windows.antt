-- Parts of octets, seen from the whole and from a container.
use Rattle.std.proofs.Common.{◌≡◌, ℕ, ◌+◌, ◌-◌, ◌≤◌, List, take, drop, ap, ◌∙◌, arith}
use Rattle.std.specs.List.{slice_range}
use Rattle.std.proofs.lemmas.List.{drop-take, drop-drop, take-take}
use Rattle.ber_values.specs.declared.head.Head.{Head}
use Rattle.ber_values.specs.Contents.{contents_of}
use Rattle.ber_values.specs.Elements.{contents_from}

-- the octets of a container from a place on
pub slice_range-from : (bytes : List ℕ) (at next end : ℕ) → at ≤ next → next ≤ end → drop (next - at) (slice_range bytes at end) ≡ slice_range bytes next end
slice_range-from bytes at next end first last =
    let whole : end - at ≡ (next - at) + (end - next) = omega arith in
    let place : at + (next - at) ≡ next = omega arith in
    ap (λ (k : ℕ). drop (next - at) (take k (drop at bytes))) whole
    ∙ drop-take (next - at) (end - next) (drop at bytes)
    ∙ ap (λ (os : List ℕ). take (end - next) os) (drop-drop (next - at) at bytes)
    ∙ ap (λ (k : ℕ). take (end - next) (drop k bytes)) place

-- a part of a container
pub slice_range-within : (bytes : List ℕ) (at from to end : ℕ) → at ≤ from → from ≤ to → to ≤ end → slice_range (slice_range bytes at end) (from - at) (to - at) ≡ slice_range bytes from to
slice_range-within bytes at from to end first order last =
    let count : (to - at) - (from - at) ≡ to - from = omega arith in
    let before : from ≤ end = omega arith in
    let fits : to - from ≤ end - from = omega arith in
    ap (λ (k : ℕ). take k (drop (from - at) (slice_range bytes at end))) count
    ∙ ap (λ (os : List ℕ). take (to - from) os) (slice_range-from bytes at from end first before)
    ∙ take-take (to - from) (end - from) (drop from bytes) fits

-- the contents of a head are the same octets, seen from the whole and from its container
pub contents_from-is : (bytes : List ℕ) (at end : ℕ) (head : Head) → at ≤ head.body → head.body ≤ head.end → head.end ≤ end → contents_from at (slice_range bytes at end) head ≡ contents_of bytes head
contents_from-is bytes at end head first order last = slice_range-within bytes at head.body head.end end first order last
