-- The sizes of names and of scopes that take no memory.
use Rattle.std.proofs.Common.{◌≡◌, ℕ, ◌+◌, ◌≤◌, List, [], length, Option, Some, sym, ap, ◌∙◌}
use Rattle.std.proofs.Common.{arith}
use Rattle.std.specs.Option.{option_map}
use Rattle.arrayvec.specs.ArrayVec.{ArrayVec}
use Rattle.ber_values.specs.Lengths.{capped, part_size}
use Rattle.ber_values.specs.Writing.{written}
use Rattle.ber_values.proofs.Capped.{length-written, part_size-short, capped-written}
use Rattle.mms_data.specs.ObjectName.{ObjectName}
use Rattle.mms_data.specs.NameOctets.{item_octets, name_octets, name_len}
use Rattle.mms_data.specs.Text.NameIn.{identifier_in}
use Rattle.mms_data.proofs.NameWritten.{domain-len}
use Rattle.mms_services.specs.Access.Specifications.{variable_octets}
use Rattle.centre_client.specs.ShortNames.{scope_of, name_of, element_size}
use Rattle.centre_client.specs.CallSizes.{octet_count, part_count, scope_count, after_count}
use Rattle.centre_client.specs.CallSizes.{variable_len}
use Rattle.centre_client.specs.declared.call_lines.names.ShortName.{ShortName}
use Rattle.centre_client.specs.declared.call_lines.names.ShortScope.{ShortScope}
use Rattle.centre_client.specs.declared.call_lines.names.ShortScope.TheVariants as shorts

short-length : (tag : ℕ) (os : List ℕ) → 2 + length os ≤ 66
    → length (written tag os) ≡ 2 + length os
short-length tag os few =
    length-written tag os ∙ part_size-short (length os) (omega (arith, few))

short-size : (tag : ℕ) (os : List ℕ) (r : ℕ) → r ≡ 2 + length os → r ≤ 66
    → r ≡ capped (length (written tag os))
short-size tag os r is few =
    omega (arith, is, few, short-length tag os (omega (arith, is, few)))

pub vmd-sized : (name : ShortName) (r : ℕ) → name.scope ≡ shorts.Vmd
    → r ≡ element_size name.item.items → r ≤ 66 → r ≡ name_len (name_of name)
vmd-sized name r is size few =
    short-size 128 name.item.items r size few
    ∙ sym (ap (λ (s : ShortScope). capped (length (item_octets (scope_of s) name.item.items))) is)

pub association-sized : (name : ShortName) (r : ℕ) → name.scope ≡ shorts.Association
    → r ≡ element_size name.item.items → r ≤ 66 → r ≡ name_len (name_of name)
association-sized name r is size few =
    short-size 130 name.item.items r size few
    ∙ sym (ap (λ (s : ShortScope). capped (length (item_octets (scope_of s) name.item.items))) is)

pub domain-sized : (name : ShortName) (domain : ArrayVec ℕ) (r a b : ℕ)
    → name.scope ≡ shorts.Domain domain → a ≡ element_size domain.items
    → b ≡ element_size name.item.items → a ≤ 66 → b ≤ 66 → r ≡ capped (part_size (a + b))
    → r ≡ name_len (name_of name)
domain-sized name domain r a b is first second few_first few_second size =
    domain-len r a b (scope_of name.scope) domain.items name.item.items size
    (first ∙ sym (short-length 26 domain.items (omega (arith, first, few_first))))
    (second ∙ sym (short-length 26 name.item.items (omega (arith, second, few_second))))
    (ap scope_of is)

bare_scope : (tag : ℕ) → 4 ≡ part_count (octet_count (written tag []))
bare_scope tag =
    let e : octet_count (written tag []) ≡ 2 =
    omega (arith, length-written tag [], part_size-short 0 (omega arith)) in
    let f : part_count 2 ≡ 4 = omega (arith, part_size-short 2 (omega arith)) in
    sym (ap part_count e ∙ f)

pub vmd-scoped : (scope : ShortScope) → scope ≡ shorts.Vmd → 4 ≡ scope_count (scope_of scope)
vmd-scoped scope is = bare_scope 128 ∙ sym (ap (λ (s : ShortScope). scope_count (scope_of s)) is)

pub association-scoped : (scope : ShortScope) → scope ≡ shorts.Association
    → 4 ≡ scope_count (scope_of scope)
association-scoped scope is =
    bare_scope 130 ∙ sym (ap (λ (s : ShortScope). scope_count (scope_of s)) is)

pub domain-scoped : (scope : ShortScope) (domain : ArrayVec ℕ) (a r : ℕ)
    → scope ≡ shorts.Domain domain → a ≡ element_size domain.items → a ≤ 66
    → r ≡ capped (part_size a) → r ≡ scope_count (scope_of scope)
domain-scoped scope domain a r is first few size =
    size ∙ ap part_count (short-size 129 domain.items a first few)
    ∙ sym (ap (λ (s : ShortScope). scope_count (scope_of s)) is)

-- the name after which a list goes on
pub after-sized : (word items : List ℕ) (r : ℕ) → Some items ≡ identifier_in word
    → r ≡ element_size items → r ≤ 66
    → Some r ≡ option_map after_count (option_map Some (identifier_in word))
after-sized word items r is size few =
    ap Some (short-size 130 items r size few)
    ∙ ap (λ (o : Option (List ℕ)). option_map after_count (option_map Some o)) is

-- a variable, by the size of its name
pub variable-sized : (name : ObjectName) (a b r : ℕ) → a ≡ name_len name
    → b ≡ capped (part_size a) → r ≡ capped (part_size b) → r ≡ variable_len name
unfolding variable_octets
variable-sized name a b r first inner outer =
    outer ∙ capped-written 48 b (written 160 (name_octets name))
    (inner ∙ capped-written 160 a (name_octets name) first)
