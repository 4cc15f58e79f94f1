-- How many octets the request of a call has, and what else is judged of it: of the call, and in the
-- same way of its words.
use Rattle.std.specs.Prelude.{ℕ, ℤ, ◌+◌, Bool, true, false, pos, List, [], ◌∷◌, length}
use Rattle.std.specs.Prelude.{Option, Some, None, option_map, option_and_then, if◌then◌else◌}
use Rattle.std.specs.Prelude.{bytes_eq, codes, ◌||◌, ◌==◌}
use Rattle.std.specs.List.{position}
use Rattle.std.specs.Ordering.{int_eq}
use Rattle.std.proofs.Common.{take, drop}
use Rattle.ber_values.specs.Lengths.{capped, part_size}
use Rattle.ber_values.specs.Writing.{integer_octets}
use Rattle.bilateral.specs.Rows.{CentreRows}
use Rattle.mms_data.specs.ObjectName.{ObjectName}
use Rattle.mms_data.specs.Datum.{Datum}
use Rattle.mms_data.specs.declared.object_name.Scope.{Scope}
use Rattle.mms_data.specs.NameOctets.{name_len}
use Rattle.mms_data.specs.DataWritten.{datum_len}
use Rattle.mms_data.specs.Text.NameIn.{name_in}
use Rattle.mms_data.specs.Text.DatumIn.{datum_in}
use Rattle.mms_services.specs.Access.Specifications.{variable_octets}
use Rattle.mms_services.specs.Names.NameLists.{scope_octets, after_octets}
use Rattle.mms_services.specs.PduOctets.{request_contents}
use Rattle.tase_views.specs.declared.call.CallKind.{CallKind}
use Rattle.texts.specs.Journal.CallIn.{sole_in, signed_64_in, scope_of_word, after_in}
use Rattle.texts.specs.Journal.CallIn.{odd_in}
use Rattle.tase_conn.specs.Map.Asked.{request_in, is_odd}
use Rattle.centre_client.specs.StepLines.{is_guarded, writes_guarded}
use Rattle.centre_client.specs.declared.call_lines.items.ItemKind.{ItemKind}
use Rattle.centre_client.specs.declared.call_lines.items.ItemKind.TheVariants as items
use Rattle.centre_client.specs.declared.call_lines.verbs.CallSketch.{CallSketch}
use Rattle.centre_client.specs.declared.call_lines.writes.Assignment.{Assignment}

-- so many octets, or the most that a length is said to be
abbrev pub octet_count : List ℕ → ℕ
octet_count octets = capped (length octets)

-- the same of an element with so many contents octets
abbrev pub part_count : ℕ → ℕ
part_count contents = capped (part_size contents)

-- how many octets the contents of a call's request have
abbrev pub contents_len : CallKind → ℕ
contents_len call = octet_count (request_contents (request_in call))

-- what is judged of a call
abbrev pub sketch_of : CentreRows → ℕ → CallKind → CallSketch
sketch_of rows peer call = record {
  odd = is_odd call;
  guarded = writes_guarded rows peer call;
  size = contents_len call;
}

-- ---- lists

abbrev pub variable_len : ObjectName → ℕ
variable_len name = octet_count (variable_octets name)

-- how many octets the item has that a word of a list is
abbrev pub item_len_in : ItemKind → List ℕ → Option ℕ
item_len_in items.Variable word = option_map variable_len (name_in word)
item_len_in items.Set word = option_map name_len (name_in word)
item_len_in items.Value word = option_map datum_len (datum_in word)

-- how many octets items have, with those that stand before them
abbrev pub items_from : ItemKind → ℕ → List (List ℕ) → Option ℕ
items_from kind len [] = Some len
items_from kind len (word ∷ words) =
    option_and_then (λ item. items_from kind (capped (len + item)) words) (item_len_in kind word)

-- how many octets the items have that words are, one or more
abbrev pub items_len : ItemKind → List (List ℕ) → Option ℕ
items_len kind [] = None
items_len kind (word ∷ words) = items_from kind 0 (word ∷ words)

-- ---- verbs

abbrev pub echo_len : Bool → ℕ
echo_len echo = if echo then 3 else 0

abbrev pub read_count : Bool → ℕ → ℕ
read_count echo spec = capped (echo_len echo + part_count (part_count spec))

abbrev pub read_sizes : Bool → List (List ℕ) → Option ℕ
read_sizes echo words = option_map (read_count echo) (items_len items.Variable words)

abbrev pub read_set_sizes : Bool → List (List ℕ) → Option ℕ
read_set_sizes echo words = option_map (read_count echo) (option_map name_len (sole_in words))

abbrev pub identify_sizes : List (List ℕ) → Option ℕ
identify_sizes [] = Some 0
identify_sizes (word ∷ words) = None

abbrev pub type_sizes : List (List ℕ) → Option ℕ
type_sizes words = option_map part_count (option_map name_len (sole_in words))

abbrev pub write_set_sizes : List (List ℕ) → Option ℕ
write_set_sizes [] = None
write_set_sizes (set ∷ values) =
    option_and_then
    (λ s. option_map (λ v. capped (part_count s + part_count v)) (items_len items.Value values))
    (option_map name_len (name_in set))

abbrev pub define_sizes : List (List ℕ) → Option ℕ
define_sizes [] = None
define_sizes (set ∷ members) =
    option_and_then
    (λ s. option_map (λ m. capped (s + part_count m)) (items_len items.Variable members))
    (option_map name_len (name_in set))

abbrev pub delete_sizes : List (List ℕ) → Option ℕ
delete_sizes words = option_map part_count (items_len items.Set words)

abbrev pub deletion_size : ℤ → Option ℕ
deletion_size scope =
    if int_eq scope (pos 0) then None else Some (part_count (length (integer_octets scope)))

abbrev pub delete_scope_sizes : List (List ℕ) → Option ℕ
delete_scope_sizes [] = None
delete_scope_sizes (word ∷ []) = option_and_then deletion_size (signed_64_in word)
delete_scope_sizes (word ∷ next ∷ more) = None

abbrev pub class_count : ℤ → ℕ
class_count class = part_count (part_count (length (integer_octets class)))

abbrev pub scope_count : Scope → ℕ
scope_count scope = part_count (octet_count (scope_octets scope))

abbrev pub after_count : Option (List ℕ) → ℕ
after_count after = octet_count (after_octets after)

abbrev pub name_list_sizes : List (List ℕ) → Option ℕ
name_list_sizes [] = None
name_list_sizes (class ∷ []) = None
name_list_sizes (class ∷ scope ∷ more) =
    option_and_then
    (λ c. option_and_then
    (λ s. option_map (λ a. capped (class_count c + capped (s + a)))
    (option_map after_count (after_in more)))
    (option_map scope_count (scope_of_word scope)))
    (signed_64_in class)

abbrev pub set_sizes_in : List ℕ → List (List ℕ) → Option ℕ
set_sizes_in verb words =
    if bytes_eq verb (codes "readset") then read_set_sizes false words
    else (if bytes_eq verb (codes "readset+") then read_set_sizes true words
    else (if bytes_eq verb (codes "writeset") then write_set_sizes words
    else (if bytes_eq verb (codes "define") then define_sizes words
    else (if bytes_eq verb (codes "members") then option_map name_len (sole_in words)
    else (if bytes_eq verb (codes "delete") then delete_sizes words
    else (if bytes_eq verb (codes "deletescope") then delete_scope_sizes words else None))))))

-- a call that writes nothing and that a service has
abbrev pub plain_sketch : ℕ → CallSketch
plain_sketch size = record { odd = false; guarded = false; size = size }

abbrev pub odd_sketch : CallSketch
odd_sketch = record { odd = true; guarded = false; size = 0 }

-- ---- writes

abbrev pub assignment_of : CentreRows → ℕ → ObjectName → Datum → Assignment
assignment_of rows peer name value = record {
  guarded = is_guarded rows peer name;
  name = variable_len name;
  value = datum_len value;
}

-- what is judged of a name before a place, and a value behind it
abbrev pub assignment_at : CentreRows → ℕ → List ℕ → List ℕ → Option Assignment
assignment_at rows peer before after =
    option_and_then (λ name. option_map (assignment_of rows peer name) (datum_in after))
    (name_in before)

-- what is judged of a name with its value
abbrev pub assignment_in : CentreRows → ℕ → List ℕ → Option Assignment
assignment_in rows peer word =
    option_and_then
    (λ place. assignment_at rows peer (take place word) (drop (place + 1) word))
    (position (λ octet. octet == 61) word)

-- what is judged of names with values, and of more of them
abbrev pub write_from : CentreRows → ℕ → Bool → ℕ → ℕ → List (List ℕ) → Option CallSketch
write_from rows peer guarded names values [] =
    Some (record {
      odd = false;
      guarded = guarded;
      size = capped (part_count names + part_count values);
    })
write_from rows peer guarded names values (word ∷ words) =
    option_and_then
    (λ a. write_from rows peer (guarded || a.guarded) (capped (names + a.name))
    (capped (values + a.value)) words)
    (assignment_in rows peer word)

abbrev pub write_sketch_in : CentreRows → ℕ → List (List ℕ) → Option CallSketch
write_sketch_in rows peer [] = None
write_sketch_in rows peer (word ∷ words) = write_from rows peer false 0 0 (word ∷ words)

-- what is judged of the call that words are, where they are one
abbrev pub sketch_in : CentreRows → ℕ → List (List ℕ) → Option CallSketch
sketch_in rows peer [] = None
sketch_in rows peer (verb ∷ words) =
    if bytes_eq verb (codes "read") then option_map plain_sketch (read_sizes false words)
    else (if bytes_eq verb (codes "read+") then option_map plain_sketch (read_sizes true words)
    else (if bytes_eq verb (codes "write") then write_sketch_in rows peer words
    else (if bytes_eq verb (codes "names") then option_map plain_sketch (name_list_sizes words)
    else (if bytes_eq verb (codes "identify") then option_map plain_sketch (identify_sizes words)
    else (if bytes_eq verb (codes "odd") then option_map (λ call. odd_sketch) (odd_in words)
    else (if bytes_eq verb (codes "type") then option_map plain_sketch (type_sizes words)
    else option_map plain_sketch (set_sizes_in verb words)))))))
