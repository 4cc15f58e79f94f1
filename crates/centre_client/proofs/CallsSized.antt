-- What is judged of the words of a call is what is judged of the call that they are.
use Rattle.std.proofs.Common.{◌≡◌, ℕ, ℤ, suc, zero, pos, negsuc, ◌+◌, ◌≤◌, ◌==◌, ◌||◌, Bool, true}
use Rattle.std.proofs.Common.{false}
use Rattle.std.proofs.Common.{cond, List, [], ◌∷◌, ◌++◌, length, take, drop, map, flat_map, Option}
use Rattle.std.proofs.Common.{Some, None, refl, sym, ap, ◌∙◌, arith, codes, length-append}
use Rattle.std.specs.Prelude.{bytes_eq}
use Rattle.std.specs.Option.{option_map, option_and_then}
use Rattle.std.specs.List.{list_any, position}
use Rattle.std.specs.Ordering.{int_eq}
use Rattle.plain_text.specs.Words.{each_in}
use Rattle.ber_values.specs.Lengths.{capped}
use Rattle.ber_values.specs.Writing.{written, integer_octets, boolean_octets}
use Rattle.ber_values.specs.declared.lengths.TheConstants.{MOST_LENGTH}
use Rattle.ber_values.proofs.Capped.{capped-sum, capped-written, part_size-short, length-written}
use Rattle.bilateral.specs.Rows.{CentreRows}
use Rattle.mms_data.specs.Datum.{Datum}
use Rattle.mms_data.specs.ObjectName.{ObjectName}
use Rattle.mms_data.specs.declared.object_name.Scope.{Scope}
use Rattle.mms_data.specs.NameOctets.{name_octets, name_len}
use Rattle.mms_data.specs.DataWritten.{datum_octets, datum_len}
use Rattle.mms_data.specs.Text.NameIn.{name_in}
use Rattle.mms_data.specs.Text.DatumIn.{datum_in}
use Rattle.mms_services.specs.Access.Specifications.{variable_octets, variables_octets, spec_octets}
use Rattle.mms_services.specs.Access.Reads.{echo_octets, read_request_octets}
use Rattle.mms_services.specs.Access.Writes.{values_octets, write_request_octets}
use Rattle.mms_services.specs.Access.TypesOf.{type_request_octets}
use Rattle.mms_services.specs.Names.NameLists.{class_octets, scope_octets, after_octets}
use Rattle.mms_services.specs.Names.NameLists.{in_scope_octets, name_list_request_octets}
use Rattle.mms_services.specs.Names.Defines.{define_request_octets}
use Rattle.mms_services.specs.Names.MemberLists.{members_request_octets}
use Rattle.mms_services.specs.Names.Deletes.{delete_request_octets, set_names_octets, is_specific}
use Rattle.tase_views.specs.declared.call.CallKind.{CallKind}
use Rattle.tase_views.specs.declared.call.CallKind.TheVariants as calls
use Rattle.texts.specs.Journal.CallIn.{assigned_at, assigned_in, if_some, some_in, read_in}
use Rattle.texts.specs.Journal.CallIn.{write_in}
use Rattle.texts.specs.Journal.CallIn.{signed_64_in, scope_of_word, after_in, names_call_in}
use Rattle.texts.specs.Journal.CallIn.{identify_in, sole_in, read_set_in, type_in, write_set_in}
use Rattle.texts.specs.Journal.CallIn.{define_in, delete_in, if_other, delete_scope_in, set_call_in}
use Rattle.texts.specs.Journal.CallIn.{odd_kind, odd_in, call_in}
use Rattle.centre_client.specs.StepLines.{is_guarded}
use Rattle.centre_client.specs.CallSizes.{octet_count, part_count, contents_len, sketch_of}
use Rattle.centre_client.specs.CallSizes.{variable_len, item_len_in, items_from, items_len}
use Rattle.centre_client.specs.CallSizes.{echo_len, read_count, read_sizes, read_set_sizes}
use Rattle.centre_client.specs.CallSizes.{identify_sizes, type_sizes, write_set_sizes, define_sizes}
use Rattle.centre_client.specs.CallSizes.{delete_sizes, deletion_size, delete_scope_sizes}
use Rattle.centre_client.specs.CallSizes.{class_count, scope_count, after_count, name_list_sizes}
use Rattle.centre_client.specs.CallSizes.{set_sizes_in, plain_sketch, odd_sketch, assignment_of}
use Rattle.centre_client.specs.CallSizes.{assignment_at, assignment_in, write_from, write_sketch_in}
use Rattle.centre_client.specs.CallSizes.{sketch_in}
use Rattle.centre_client.specs.declared.call_lines.items.ItemKind.{ItemKind}
use Rattle.centre_client.specs.declared.call_lines.items.ItemKind.TheVariants as items
use Rattle.centre_client.specs.declared.call_lines.verbs.CallSketch.{CallSketch}

-- ---- octets

count-append : (a b : List ℕ) → octet_count (a ++ b) ≡ capped (octet_count a + octet_count b)
count-append a b = ap capped (length-append a b) ∙ sym (capped-sum (length a) (length b))

count-written : (tag : ℕ) (octets : List ℕ)
    → octet_count (written tag octets) ≡ part_count (octet_count octets)
count-written tag octets = sym (capped-written tag (octet_count octets) octets refl)

-- ---- options

module _ {A B : Type 0} (f : A → B) where
  pushed : (b : Bool) (x y : Option A) (x' y' : Option B) → x' ≡ option_map f x
      → y' ≡ option_map f y → cond b x' y' ≡ option_map f (cond b x y)
  pushed true x y x' y' first second = first
  pushed false x y x' y' first second = second

-- what is made of a size is what is made of the call
module _ {A B C : Type 0} (s : ℕ → C) (k : B → C) where
  twice : (f : A → ℕ) (g : ℕ → ℕ) (h : A → B) → ((a : A) → s (g (f a)) ≡ k (h a))
      → (o : Option A) → option_map s (option_map g (option_map f o)) ≡ option_map k (option_map h o)
  twice f g h same None = refl
  twice f g h same (Some a) = ap (λ (c : C). Some c) (same a)

  bound : (f : A → Option ℕ) (g : A → Option B)
      → ((a : A) → option_map s (f a) ≡ option_map k (g a)) → (o : Option A)
      → option_map s (option_and_then f o) ≡ option_map k (option_and_then g o)
  bound f g same None = refl
  bound f g same (Some a) = same a

  bound_map : (m : A → ℕ) (f : ℕ → Option ℕ) (g : A → Option B)
      → ((a : A) → option_map s (f (m a)) ≡ option_map k (g a)) → (o : Option A)
      → option_map s (option_and_then f (option_map m o)) ≡ option_map k (option_and_then g o)
  bound_map m f g same None = refl
  bound_map m f g same (Some a) = same a

either : {B C : Type 0} (s : ℕ → C) (k : B → C) (b : Bool) (x y : Option B) (x' y' : Option ℕ)
    → option_map s x' ≡ option_map k x → option_map s y' ≡ option_map k y
    → option_map s (cond b x' y') ≡ option_map k (cond b x y)
either s k true x y x' y' first second = first
either s k false x y x' y' first second = second

-- ---- lists

module _ {A : Type 0} (kind : ItemKind) (read : List ℕ → Option A) (octets : A → List ℕ)
    (same : (word : List ℕ) → item_len_in kind word
    ≡ option_map (λ (x : A). octet_count (octets x)) (read word)) where
  -- so many octets, and those of all
  abbrev count_behind : ℕ → List A → ℕ
  count_behind len xs = capped (len + length (flat_map octets xs))

  one_counted : (len : ℕ) (x : A) (rest : Option (List A))
      → option_map (count_behind (capped (len + octet_count (octets x)))) rest
      ≡ option_map (count_behind len) (option_map (λ xs. x ∷ xs) rest)
  one_counted len x None = refl
  one_counted len x (Some xs) =
      let others : List ℕ = flat_map octets xs in
      let e : capped (capped (len + octet_count (octets x)) + length others)
      ≡ capped (len + length (octets x ++ others)) =
      omega (arith, length-append (octets x) others) in
      ap (λ (n : ℕ). Some n) e

  word_counted : (len : ℕ) (words : List (List ℕ)) (first : Option A)
      → ((n : ℕ) → n ≤ MOST_LENGTH
      → items_from kind n words ≡ option_map (count_behind n) (each_in read words))
      → option_and_then (λ item. items_from kind (capped (len + item)) words)
      (option_map (λ (x : A). octet_count (octets x)) first)
      ≡ option_map (count_behind len)
      (option_and_then (λ x. option_map (λ xs. x ∷ xs) (each_in read words)) first)
  word_counted len words None induct = refl
  word_counted len words (Some x) induct =
      induct (capped (len + octet_count (octets x))) (omega arith)
      ∙ one_counted len x (each_in read words)

  items_from-counted : (len : ℕ) (words : List (List ℕ)) → len ≤ MOST_LENGTH
      → items_from kind len words ≡ option_map (count_behind len) (each_in read words)
  items_from-counted len [] few =
      let e : len ≡ capped (len + 0) = omega (arith, few) in ap (λ (n : ℕ). Some n) e
  items_from-counted len (word ∷ words) few =
      ap (option_and_then (λ item. items_from kind (capped (len + item)) words)) (same word)
      ∙ word_counted len words (read word) (λ n le. items_from-counted n words le)

  at_least_one : (rest : Option (List A)) (first : Option A)
      → option_map (count_behind 0) (option_and_then (λ x. option_map (λ xs. x ∷ xs) rest) first)
      ≡ option_map (λ (xs : List A). octet_count (flat_map octets xs))
      (option_and_then if_some (option_and_then (λ x. option_map (λ xs. x ∷ xs) rest) first))
  at_least_one rest None = refl
  at_least_one None (Some x) = refl
  at_least_one (Some xs) (Some x) =
      let all : List ℕ = flat_map octets (x ∷ xs) in
      let e : capped (0 + length all) ≡ capped (length all) = omega arith in
      ap (λ (n : ℕ). Some n) e

  items_len-counted : (words : List (List ℕ)) → items_len kind words
      ≡ option_map (λ (xs : List A). octet_count (flat_map octets xs)) (some_in read words)
  items_len-counted [] = refl
  items_len-counted (word ∷ words) =
      items_from-counted 0 (word ∷ words) (omega arith)
      ∙ at_least_one (each_in read words) (read word)

variables-counted : (words : List (List ℕ)) → items_len items.Variable words
    ≡ option_map (λ (ns : List ObjectName). octet_count (flat_map variable_octets ns)) (some_in
    name_in words)
variables-counted words =
    items_len-counted items.Variable name_in variable_octets (λ word. refl) words

sets-counted : (words : List (List ℕ)) → items_len items.Set words
    ≡ option_map (λ (ns : List ObjectName). octet_count (flat_map name_octets ns)) (some_in name_in
    words)
sets-counted words = items_len-counted items.Set name_in name_octets (λ word. refl) words

values-counted : (words : List (List ℕ)) → items_len items.Value words
    ≡ option_map (λ (ds : List Datum). octet_count (flat_map datum_octets ds)) (some_in datum_in
    words)
values-counted words = items_len-counted items.Value datum_in datum_octets (λ word. refl) words

-- ---- contents of requests

echo-count : (echo : Bool) → octet_count (echo_octets echo) ≡ echo_len echo
unfolding echo_octets
echo-count true =
    count-written 128 (boolean_octets true) ∙ ap capped (part_size-short 1 (omega arith))
echo-count false = refl

read-count : (echo : Bool) (spec : List ℕ) (tag : ℕ)
    → read_count echo (octet_count spec)
    ≡ octet_count (echo_octets echo ++ written 161 (written tag spec))
read-count echo spec tag =
    sym (count-append (echo_octets echo) (written 161 (written tag spec))
    ∙ ap (λ n. capped (n + octet_count (written 161 (written tag spec)))) (echo-count echo)
    ∙ ap (λ n. capped (echo_len echo + n))
    (count-written 161 (written tag spec) ∙ ap part_count (count-written tag spec)))

read-len : (echo : Bool) (names : List ObjectName)
    → read_count echo (octet_count (flat_map variable_octets names))
    ≡ contents_len (calls.Read names echo)
unfolding read_request_octets spec_octets variables_octets
read-len echo names = read-count echo (flat_map variable_octets names) 160

read_set-len : (echo : Bool) (set : ObjectName)
    → read_count echo (name_len set) ≡ contents_len (calls.ReadSet set echo)
unfolding read_request_octets spec_octets
read_set-len echo set = read-count echo (name_octets set) 161

two_parts : (a b : List ℕ) (first second : ℕ)
    → capped (part_count (octet_count a) + part_count (octet_count b))
    ≡ octet_count (written first a ++ written second b)
two_parts a b first second =
    sym (count-append (written first a) (written second b)
    ∙ ap (λ n. capped (n + octet_count (written second b))) (count-written first a)
    ∙ ap (λ n. capped (part_count (octet_count a) + n)) (count-written second b))

write-len : (names : List ObjectName) (values : List Datum)
    → capped (part_count (octet_count (flat_map variable_octets names))
    + part_count (octet_count (flat_map datum_octets values)))
    ≡ contents_len (calls.Write names values)
unfolding write_request_octets spec_octets variables_octets values_octets
write-len names values =
    two_parts (flat_map variable_octets names) (flat_map datum_octets values) 160 160

write_set-len : (set : ObjectName) (values : List Datum)
    → capped (part_count (name_len set) + part_count (octet_count (flat_map datum_octets values)))
    ≡ contents_len (calls.WriteSet set values)
unfolding write_request_octets spec_octets values_octets
write_set-len set values = two_parts (name_octets set) (flat_map datum_octets values) 161 160

type-len : (name : ObjectName) → part_count (name_len name) ≡ contents_len (calls.TypeOf name)
unfolding type_request_octets
type-len name = sym (count-written 160 (name_octets name))

define-len : (set : ObjectName) (members : List ObjectName)
    → capped (name_len set + part_count (octet_count (flat_map variable_octets members)))
    ≡ contents_len (calls.Define set members)
unfolding define_request_octets variables_octets
define-len set members =
    sym (count-append (name_octets set) (written 160 (flat_map variable_octets members))
    ∙ ap (λ n. capped (name_len set + n)) (count-written 160 (flat_map variable_octets members)))

members-len : (set : ObjectName) → name_len set ≡ contents_len (calls.MembersOf set)
unfolding members_request_octets
members-len set = refl

delete-len : (sets : List ObjectName)
    → part_count (octet_count (flat_map name_octets sets)) ≡ contents_len (calls.Delete sets)
unfolding delete_request_octets set_names_octets
delete-len sets = sym (count-written 161 (flat_map name_octets sets))

specific-other : (scope : ℤ) → int_eq scope (pos 0) ≡ false → is_specific scope ≡ false
specific-other (pos zero) e = absurd cc
specific-other (pos (suc n)) e = refl
specific-other (negsuc n) e = refl

scope-len : (scope : ℤ) → is_specific scope ≡ false
    → part_count (length (integer_octets scope)) ≡ contents_len (calls.DeleteScope scope)
unfolding delete_request_octets
scope-len scope e =
    sym (ap (λ (b : Bool). octet_count (cond b (written 161 (set_names_octets []))
    (written 128 (integer_octets scope)))) e
    ∙ ap capped (length-written 128 (integer_octets scope)))

class-len : (class : ℤ) → class_count class ≡ octet_count (class_octets class)
unfolding class_octets
class-len class =
    sym (count-written 160 (written 128 (integer_octets class))
    ∙ ap part_count (ap capped (length-written 128
    (integer_octets class))))

name_list-len : (class : ℤ) (scope : Scope) (after : Option (List ℕ))
    → capped (class_count class + capped (scope_count scope + after_count after))
    ≡ contents_len (calls.NameList class scope after)
unfolding name_list_request_octets in_scope_octets
name_list-len class scope after =
    let inner : List ℕ = written 161 (scope_octets scope) in
    ap (λ (n : ℕ). capped (n + capped (scope_count scope + after_count after))) (class-len class)
    ∙ ap (λ (n : ℕ). capped (octet_count (class_octets class) + capped (n + after_count after)))
    (sym (count-written 161 (scope_octets scope)))
    ∙ ap (λ (n : ℕ). capped (octet_count (class_octets class) + n))
    (sym (count-append inner (after_octets after)))
    ∙ sym (count-append (class_octets class) (inner ++ after_octets after))

-- ---- verbs

module _ (rows : CentreRows) (peer : ℕ) where
  abbrev sketched : CallKind → CallSketch
  sketched call = sketch_of rows peer call

  read-sketched : (echo : Bool) (words : List (List ℕ))
      → option_map plain_sketch (read_sizes echo words) ≡ option_map sketched (read_in echo words)
  read-sketched echo words =
      ap (λ (o : Option ℕ). option_map plain_sketch (option_map (read_count echo) o))
      (variables-counted words)
      ∙ twice plain_sketch sketched
      (λ (ns : List ObjectName). octet_count (flat_map variable_octets ns)) (read_count echo)
      (λ (names : List ObjectName). calls.Read names echo)
      (λ names. ap plain_sketch (read-len echo names)) (some_in name_in words)

  read_set-sketched : (echo : Bool) (words : List (List ℕ))
      → option_map plain_sketch (read_set_sizes echo words)
      ≡ option_map sketched (read_set_in echo words)
  read_set-sketched echo words =
      twice plain_sketch sketched name_len (read_count echo)
      (λ (set : ObjectName). calls.ReadSet set echo)
      (λ set. ap plain_sketch (read_set-len echo set)) (sole_in words)

  identify-sketched : (words : List (List ℕ))
      → option_map plain_sketch (identify_sizes words) ≡ option_map sketched (identify_in words)
  identify-sketched [] = refl
  identify-sketched (word ∷ words) = refl

  type-sketched : (words : List (List ℕ))
      → option_map plain_sketch (type_sizes words) ≡ option_map sketched (type_in words)
  type-sketched words =
      twice plain_sketch sketched name_len part_count (λ (name : ObjectName). calls.TypeOf name)
      (λ name. ap plain_sketch (type-len name)) (sole_in words)

  members-sketched : (words : List (List ℕ))
      → option_map plain_sketch (option_map name_len (sole_in words))
      ≡ option_map sketched (option_map (λ (set : ObjectName). calls.MembersOf set) (sole_in words))
  members-sketched words = one (sole_in words)
    where
      one : (o : Option ObjectName) → option_map plain_sketch (option_map name_len o)
          ≡ option_map sketched (option_map (λ (set : ObjectName). calls.MembersOf set) o)
      one None = refl
      one (Some set) = ap (λ (n : ℕ). Some (plain_sketch n)) (members-len set)

  write_set-sketched : (words : List (List ℕ))
      → option_map plain_sketch (write_set_sizes words) ≡ option_map sketched (write_set_in words)
  write_set-sketched [] = refl
  write_set-sketched (set ∷ values) =
      bound_map plain_sketch sketched name_len
      (λ (s : ℕ). option_map (λ (v : ℕ). capped (part_count s + part_count v))
      (items_len items.Value values))
      (λ (s : ObjectName). option_map (λ (vs : List Datum). calls.WriteSet s vs)
      (some_in datum_in values))
      (λ (s : ObjectName). ap (λ (o : Option ℕ). option_map plain_sketch
      (option_map (λ (v : ℕ). capped (part_count (name_len s) + part_count v)) o))
      (values-counted values)
      ∙ twice plain_sketch sketched (λ (ds : List Datum). octet_count (flat_map datum_octets ds))
      (λ (v : ℕ). capped (part_count (name_len s) + part_count v))
      (λ (vs : List Datum). calls.WriteSet s vs)
      (λ vs. ap plain_sketch (write_set-len s vs)) (some_in datum_in values)) (name_in set)

  define-sketched : (words : List (List ℕ))
      → option_map plain_sketch (define_sizes words) ≡ option_map sketched (define_in words)
  define-sketched [] = refl
  define-sketched (set ∷ members) =
      bound_map plain_sketch sketched name_len
      (λ (s : ℕ). option_map (λ (m : ℕ). capped (s + part_count m))
      (items_len items.Variable members))
      (λ (s : ObjectName). option_map (λ (ms : List ObjectName). calls.Define s ms)
      (some_in name_in members))
      (λ (s : ObjectName). ap (λ (o : Option ℕ). option_map plain_sketch
      (option_map (λ (m : ℕ). capped (name_len s + part_count m)) o))
      (variables-counted members)
      ∙ twice plain_sketch sketched
      (λ (ns : List ObjectName). octet_count (flat_map variable_octets ns))
      (λ (m : ℕ). capped (name_len s + part_count m))
      (λ (ms : List ObjectName). calls.Define s ms)
      (λ ms. ap plain_sketch (define-len s ms)) (some_in name_in members)) (name_in set)

  delete-sketched : (words : List (List ℕ))
      → option_map plain_sketch (delete_sizes words) ≡ option_map sketched (delete_in words)
  delete-sketched words =
      ap (λ (o : Option ℕ). option_map plain_sketch (option_map part_count o)) (sets-counted words)
      ∙ twice plain_sketch sketched
      (λ (ns : List ObjectName). octet_count (flat_map name_octets ns)) part_count
      (λ (sets : List ObjectName). calls.Delete sets) (λ sets. ap plain_sketch (delete-len sets))
      (some_in name_in words)

  deletion_by : (scope : ℤ) (b : Bool) → int_eq scope (pos 0) ≡ b
      → option_map plain_sketch (cond b None (Some (part_count (length (integer_octets scope)))))
      ≡ option_map sketched (cond b None (Some (calls.DeleteScope scope)))
  deletion_by scope true e = refl
  deletion_by scope false e =
      ap (λ (n : ℕ). Some (plain_sketch n)) (scope-len scope (specific-other scope e))

  delete_scope-sketched : (words : List (List ℕ))
      → option_map plain_sketch (delete_scope_sizes words)
      ≡ option_map sketched (delete_scope_in words)
  delete_scope-sketched [] = refl
  delete_scope-sketched (word ∷ []) =
      bound plain_sketch sketched deletion_size if_other
      (λ (scope : ℤ). deletion_by scope (int_eq scope (pos 0)) refl) (signed_64_in word)
  delete_scope-sketched (word ∷ next ∷ more) = refl

  name_list-sketched : (words : List (List ℕ))
      → option_map plain_sketch (name_list_sizes words) ≡ option_map sketched (names_call_in words)
  name_list-sketched [] = refl
  name_list-sketched (class ∷ []) = refl
  name_list-sketched (class ∷ scope ∷ more) =
      bound plain_sketch sketched
      (λ (c : ℤ). option_and_then
      (λ (s : ℕ). option_map (λ (a : ℕ). capped (class_count c + capped (s + a)))
      (option_map after_count (after_in more)))
      (option_map scope_count (scope_of_word scope)))
      (λ (c : ℤ). option_and_then
      (λ (s : Scope). option_map (λ (a : Option (List ℕ)). calls.NameList c s a) (after_in more))
      (scope_of_word scope))
      (λ (c : ℤ). bound_map plain_sketch sketched scope_count
      (λ (s : ℕ). option_map (λ (a : ℕ). capped (class_count c + capped (s + a)))
      (option_map after_count (after_in more)))
      (λ (s : Scope). option_map (λ (a : Option (List ℕ)). calls.NameList c s a) (after_in more))
      (λ (s : Scope). twice plain_sketch sketched after_count
      (λ (a : ℕ). capped (class_count c + capped (scope_count s + a)))
      (λ (a : Option (List ℕ)). calls.NameList c s a)
      (λ a. ap plain_sketch (name_list-len c s a)) (after_in more))
      (scope_of_word scope)) (signed_64_in class)

  set_call-sketched : (verb : List ℕ) (words : List (List ℕ))
      → option_map plain_sketch (set_sizes_in verb words)
      ≡ option_map sketched (set_call_in verb words)
  set_call-sketched verb words =
      either plain_sketch sketched (bytes_eq verb (codes "readset")) _ _ _ _
      (read_set-sketched false words)
      (either plain_sketch sketched (bytes_eq verb (codes "readset+")) _ _ _ _
      (read_set-sketched true words)
      (either plain_sketch sketched (bytes_eq verb (codes "writeset")) _ _ _ _
      (write_set-sketched words)
      (either plain_sketch sketched (bytes_eq verb (codes "define")) _ _ _ _
      (define-sketched words)
      (either plain_sketch sketched (bytes_eq verb (codes "members")) _ _ _ _
      (members-sketched words)
      (either plain_sketch sketched (bytes_eq verb (codes "delete")) _ _ _ _
      (delete-sketched words)
      (either plain_sketch sketched (bytes_eq verb (codes "deletescope")) (delete_scope_in words)
      None (delete_scope_sizes words) None (delete_scope-sketched words) refl))))))

  -- ---- odd calls

  odd_mapped : (k : Option ℕ) → option_map (λ (call : CallKind). odd_sketch)
      (option_map (λ n. calls.Odd n 1) k)
      ≡ option_map (sketch_of rows peer) (option_map (λ n. calls.Odd n 1) k)
  odd_mapped None = refl
  odd_mapped (Some n) = refl

  odd_coded : (b : Bool) (k : Option ℕ) → option_map (λ (call : CallKind). odd_sketch)
      (cond b (option_map (λ n. calls.Odd n 1) k) None)
      ≡ option_map (sketch_of rows peer) (cond b (option_map (λ n. calls.Odd n 1) k) None)
  odd_coded true k = odd_mapped k
  odd_coded false k = refl

  odd-sketched : (words : List (List ℕ))
      → option_map (λ (call : CallKind). odd_sketch) (odd_in words)
      ≡ option_map (sketch_of rows peer) (odd_in words)
  odd-sketched [] = refl
  odd-sketched (kind ∷ []) = refl
  odd-sketched (kind ∷ code ∷ []) = odd_coded (bytes_eq code (codes "1")) (odd_kind kind)
  odd-sketched (kind ∷ code ∷ next ∷ more) = refl

  -- ---- writes

  abbrev written_behind : Bool → ℕ → ℕ → List (ObjectName × Datum) → CallSketch
  written_behind guarded n v pairs = record {
    odd = false;
    guarded = guarded || list_any (is_guarded rows peer) (map (λ p. p.0) pairs);
    size = capped (part_count (capped (n + length (flat_map variable_octets (map (λ p. p.0)
        pairs))))
        + part_count (capped (v + length (flat_map datum_octets (map (λ p. p.1) pairs)))));
  }

  or_assoc : (a b c : Bool) → (a || b) || c ≡ a || (b || c)
  or_assoc true b c = refl
  or_assoc false b c = refl

  or_false : (a : Bool) → a || false ≡ a
  or_false true = refl
  or_false false = refl

  value_read : (name : ObjectName) (value : Option Datum)
      → option_map (assignment_of rows peer name) value
      ≡ option_map (λ (p : ObjectName × Datum). assignment_of rows peer p.0 p.1)
      (option_map (λ v. (name, v)) value)
  value_read name None = refl
  value_read name (Some v) = refl

  parts_read : (name : Option ObjectName) (value : Option Datum)
      → option_and_then (λ n. option_map (assignment_of rows peer n) value) name
      ≡ option_map (λ (p : ObjectName × Datum). assignment_of rows peer p.0 p.1)
      (option_and_then (λ n. option_map (λ v. (n, v)) value) name)
  parts_read None value = refl
  parts_read (Some n) value = value_read n value

  place_read : (word : List ℕ) (place : Option ℕ)
      → option_and_then (λ i. assignment_at rows peer (take i word) (drop (i + 1) word)) place
      ≡ option_map (λ (p : ObjectName × Datum). assignment_of rows peer p.0 p.1)
      (option_and_then (assigned_at word) place)
  place_read word None = refl
  place_read word (Some i) = parts_read (name_in (take i word)) (datum_in (drop (i + 1) word))

  assignment-read : (word : List ℕ) → assignment_in rows peer word
      ≡ option_map (λ (p : ObjectName × Datum). assignment_of rows peer p.0 p.1) (assigned_in word)
  assignment-read word = place_read word (position (λ octet. octet == 61) word)

  one_written : (guarded : Bool) (n v : ℕ) (p : ObjectName × Datum)
      (rest : Option (List (ObjectName × Datum)))
      → option_map (written_behind (guarded || is_guarded rows peer p.0)
      (capped (n + variable_len p.0)) (capped (v + datum_len p.1))) rest
      ≡ option_map (written_behind guarded n v) (option_map (λ ps. p ∷ ps) rest)
  one_written guarded n v p None = refl
  one_written guarded n v p (Some ps) =
      let names : List ℕ = flat_map variable_octets (map (λ (q : ObjectName × Datum). q.0) ps) in
      let values : List ℕ = flat_map datum_octets (map (λ (q : ObjectName × Datum). q.1) ps) in
      let first : capped (capped (n + variable_len p.0) + length names)
      ≡ capped (n + length (variable_octets p.0 ++ names)) =
      omega (arith, length-append (variable_octets p.0) names) in
      let second : capped (capped (v + datum_len p.1) + length values)
      ≡ capped (v + length (datum_octets p.1 ++ values)) =
      omega (arith, length-append (datum_octets p.1) values) in
      let any : Bool = list_any (is_guarded rows peer) (map (λ (q : ObjectName × Datum). q.0) ps) in
      λ i. Some (record {
        odd = false;
        guarded = or_assoc guarded (is_guarded rows peer p.0) any i;
        size = capped (part_count (first i) + part_count (second i));
      })

  word_written : (guarded : Bool) (n v : ℕ) (words : List (List ℕ))
      (first : Option (ObjectName × Datum))
      → ((g : Bool) (a b : ℕ) → a ≤ MOST_LENGTH → b ≤ MOST_LENGTH
      → write_from rows peer g a b words
      ≡ option_map (written_behind g a b) (each_in assigned_in words))
      → option_and_then
      (λ a. write_from rows peer (guarded || a.guarded) (capped (n + a.name)) (capped (v + a.value))
      words)
      (option_map (λ (p : ObjectName × Datum). assignment_of rows peer p.0 p.1) first)
      ≡ option_map (written_behind guarded n v)
      (option_and_then (λ p. option_map (λ ps. p ∷ ps) (each_in assigned_in words)) first)
  word_written guarded n v words None induct = refl
  word_written guarded n v words (Some p) induct =
      induct (guarded || is_guarded rows peer p.0) (capped (n + variable_len p.0))
      (capped (v + datum_len p.1)) (omega arith) (omega arith)
      ∙ one_written guarded n v p (each_in assigned_in words)

  write_from-written : (guarded : Bool) (n v : ℕ) (words : List (List ℕ)) → n ≤ MOST_LENGTH
      → v ≤ MOST_LENGTH → write_from rows peer guarded n v words
      ≡ option_map (written_behind guarded n v) (each_in assigned_in words)
  write_from-written guarded n v [] first second =
      let names : n ≡ capped (n + 0) = omega (arith, first) in
      let values : v ≡ capped (v + 0) = omega (arith, second) in
      λ i. Some (record {
        odd = false;
        guarded = sym (or_false guarded) i;
        size = capped (part_count (names i) + part_count (values i));
      })
  write_from-written guarded n v (word ∷ words) first second =
      ap (option_and_then
      (λ a. write_from rows peer (guarded || a.guarded) (capped (n + a.name)) (capped (v + a.value))
      words)) (assignment-read word)
      ∙ word_written guarded n v words (assigned_in word)
      (λ g a b le few. write_from-written g a b words le few)

  all_written : (rest : Option (List (ObjectName × Datum))) (first : Option (ObjectName × Datum))
      → option_map (written_behind false 0 0)
      (option_and_then (λ p. option_map (λ ps. p ∷ ps) rest) first)
      ≡ option_map (sketch_of rows peer) (option_map
      (λ (pairs : List (ObjectName × Datum)).
      calls.Write (map (λ p. p.0) pairs) (map (λ p. p.1) pairs))
      (option_and_then if_some (option_and_then (λ p. option_map (λ ps. p ∷ ps) rest) first)))
  all_written rest None = refl
  all_written None (Some p) = refl
  all_written (Some ps) (Some p) =
      let pairs : List (ObjectName × Datum) = p ∷ ps in
      let names : List ObjectName = map (λ (q : ObjectName × Datum). q.0) pairs in
      let values : List Datum = map (λ (q : ObjectName × Datum). q.1) pairs in
      let first : capped (0 + length (flat_map variable_octets names))
      ≡ octet_count (flat_map variable_octets names) = omega arith in
      let second : capped (0 + length (flat_map datum_octets values))
      ≡ octet_count (flat_map datum_octets values) = omega arith in
      let size : capped (part_count (capped (0 + length (flat_map variable_octets names)))
      + part_count (capped (0 + length (flat_map datum_octets values))))
      ≡ contents_len (calls.Write names values) =
      (λ i. capped (part_count (first i) + part_count (second i))) ∙ write-len names values in
      λ i. Some (record {
        odd = false;
        guarded = list_any (is_guarded rows peer) names;
        size = size i;
      })

  write-sketched : (words : List (List ℕ))
      → write_sketch_in rows peer words ≡ option_map (sketch_of rows peer) (write_in words)
  write-sketched [] = refl
  write-sketched (word ∷ words) =
      write_from-written false 0 0 (word ∷ words) (omega arith) (omega arith)
      ∙ all_written (each_in assigned_in words) (assigned_in word)

  -- what is judged of words is what is judged of the call that they are
  pub call-sketched : (words : List (List ℕ))
      → sketch_in rows peer words ≡ option_map (sketch_of rows peer) (call_in words)
  call-sketched [] = refl
  call-sketched (verb ∷ words) =
      pushed sketched (bytes_eq verb (codes "read")) _ _ _ _ (read-sketched false words)
      (pushed sketched (bytes_eq verb (codes "read+")) _ _ _ _ (read-sketched true words)
      (pushed sketched (bytes_eq verb (codes "write")) _ _ _ _ (write-sketched words)
      (pushed sketched (bytes_eq verb (codes "names")) _ _ _ _ (name_list-sketched words)
      (pushed sketched (bytes_eq verb (codes "identify")) _ _ _ _ (identify-sketched words)
      (pushed sketched (bytes_eq verb (codes "odd")) _ _ _ _ (odd-sketched words)
      (pushed sketched (bytes_eq verb (codes "type")) _ _ _ _ (type-sketched words)
      (set_call-sketched verb words)))))))
