-- Lengths of the written form of names, which is read back.
use Rattle.std.proofs.Common.{◌≡◌, ℕ, ◌+◌, ◌<◌, ◌^◌, List, [], ◌++◌, length, refl, sym, ap}
use Rattle.std.proofs.Common.{subst, ◌∙◌, append-nil, arith}
use Rattle.std.proofs.lemmas.List.{length-append}
use Rattle.ber_values.specs.Visible.{IsVisible}
use Rattle.ber_values.specs.Writing.{written, length_octets}
use Rattle.ber_values.specs.Lengths.{capped, part_size}
use Rattle.ber_values.specs.Grammars.{taken, then_in, map_in}
use Rattle.ber_values.specs.Parts.{Contents, part_in, contents_as, all_in}
use Rattle.ber_values.specs.Leaves.{visible_within}
use Rattle.ber_values.proofs.Capped.{length-written, part_size-short}
use Rattle.ber_values.proofs.Grammars.{part-written, choose-written, choose-other}
use Rattle.mms_data.specs.declared.object_name.Scope.{Scope}
use Rattle.mms_data.specs.declared.object_name.Scope.TheVariants.{Vmd, Domain, Association}
use Rattle.mms_data.specs.ObjectName.{ObjectName, IsName, IsIdentifier, IsScope}
use Rattle.mms_data.specs.NameOctets.{identifier, of_device, of_domain, of_association}
use Rattle.mms_data.specs.NameOctets.{domain_name, one_name, item_octets, name_octets}

-- ---- lengths

-- visible text has a length of one octet
pub visible-size : (tag : ℕ) (text : List ℕ) → IsVisible text
    → length (written tag text) ≡ 2 + length text
visible-size tag text v =
    length-written tag text ∙ part_size-short (length text) (omega (arith, v.0))

-- the length of a name in a domain, by those of its parts
pub domain-len : (r a b : ℕ) (scope : Scope) (domain item : List ℕ)
    → r ≡ capped (part_size (a + b)) → a ≡ length (written 26 domain)
    → b ≡ length (written 26 item) → scope ≡ Domain domain
    → r ≡ capped (length (item_octets scope item))
domain-len r a b scope domain item is first second e =
    let both : a + b ≡ length (written 26 domain ++ written 26 item) =
    omega (arith, first, second, length-append (written 26 domain) (written 26 item)) in
    is ∙ ap (λ k. capped (part_size k)) both
    ∙ ap capped (sym (length-written 161 (written 26 domain ++ written 26 item)))
    ∙ ap (λ s. capped (length (item_octets s item))) (sym e)

-- ---- what is written is read back

identifier_spelled : (at : ℕ) (text : List ℕ) → IsIdentifier text → identifier.spells at text text
unfolding identifier visible_within
identifier_spelled at text named = ((named.0, named.1.0), named.1.1, refl)

device_spelled : (at : ℕ) (item : List ℕ) → IsIdentifier item
    → (contents_as of_device identifier).spells at (of_device item) item
unfolding contents_as
device_spelled at item named = (item, identifier_spelled at item named, refl)

association_spelled : (at : ℕ) (item : List ℕ) → IsIdentifier item
    → (contents_as of_association identifier).spells at (of_association item) item
unfolding contents_as
association_spelled at item named = (item, identifier_spelled at item named, refl)

few_identifier : (text : List ℕ) → IsIdentifier text → length text < 2 ^ 32
few_identifier text named = omega (arith, named.1.0)

-- an element at the end of its container
last_begins : {X : Type 0} (tag : ℕ) (c : Contents X) (at : ℕ) (x : X) (contents : List ℕ)
    → length contents < 2 ^ 32
    → c.spells (at + 1 + length (length_octets (length contents))) x contents
    → (part_in tag c).begins at (written tag contents)
    (taken x (at + length (written tag contents)) [])
last_begins tag c at x contents few spelled =
    subst (λ os. (part_in tag c).begins at os (taken x (at + length (written tag contents)) []))
    (append-nil (written tag contents)) (part-written tag c at x contents [] few spelled)

domain_spelled : (at : ℕ) (domain item : List ℕ) → IsIdentifier domain → IsIdentifier item
    → domain_name.spells at (of_domain domain item) (written 26 domain ++ written 26 item)
unfolding domain_name all_in then_in map_in
domain_spelled at domain item named_domain named_item =
    let next = at + length (written 26 domain) in
    let end = next + length (written 26 item) in (
      taken (of_domain domain item) end [],
      (
        taken domain next (written 26 item),
        part-written 26 identifier at domain domain (written 26 item)
            (few_identifier domain named_domain) (identifier_spelled _ domain named_domain),
        (
          taken item end [],
          last_begins 26 identifier next item item (few_identifier item named_item)
              (identifier_spelled _ item named_item),
          refl,
        ),
      ),
      (refl, refl),
    )

few_parts : (domain item : List ℕ) → IsIdentifier domain → IsIdentifier item
    → length (written 26 domain ++ written 26 item) < 2 ^ 32
few_parts domain item named_domain named_item = omega (
  arith,
  length-append (written 26 domain) (written 26 item),
  visible-size 26 domain named_domain.1,
  visible-size 26 item named_item.1,
  named_domain.1.0,
  named_item.1.0,
)

item_begins : (scope : Scope) (item : List ℕ) → IsScope scope → IsIdentifier item
    → (at : ℕ) (rest : List ℕ) → one_name.begins at (item_octets scope item ++ rest)
    (taken (record { scope = scope; item = item }) (at + length (item_octets scope item)) rest)
unfolding one_name
item_begins Vmd item named_scope named at rest =
    choose-written 128 _ _ at (of_device item) item rest (few_identifier item named)
    (device_spelled _ item named)
item_begins (Domain domain) item named_scope named at rest =
    choose-other 128 _ _ at _ _ refl (choose-written 161 _ _ at (of_domain domain item)
    (written 26 domain ++ written 26 item) rest (few_parts domain item named_scope named)
    (domain_spelled _ domain item named_scope named))
item_begins Association item named_scope named at rest =
    choose-other 128 _ _ at _ _ refl (choose-other 161 _ _ at _ _ refl
    (part-written 130 _ at (of_association item) item rest (few_identifier item named)
    (association_spelled _ item named)))

-- what is written for a name begins what follows it
pub one_name_begins : (n : ObjectName) → IsName n → (at : ℕ) (rest : List ℕ)
    → one_name.begins at (name_octets n ++ rest) (taken n (at + length (name_octets n)) rest)
one_name_begins n named at rest = item_begins n.scope n.item named.0 named.1 at rest
