-- The requests by which a device is operated are short.
use Rattle.std.proofs.Common.{◌≡◌, ℕ, ℤ, ◌+◌, ◌≤◌, true, false, List, [], ◌∷◌, ◌++◌, length, arith}
use Rattle.std.proofs.Common.{refl, sym, subst, ap, ◌∙◌, length-append, pos, negsuc}
use Rattle.std.specs.List.{list_all}
use Rattle.std.proofs.lemmas.Bool.{false≢true, and_parts, and_from, leb-true}
use Rattle.std.proofs.lemmas.Bool.Decides.{nat_tests}
use Rattle.std.proofs.lemmas.List.Folds.{list_all-append}
use Rattle.ber_values.specs.Visible.{IsVisible, is_visible_octet}
use Rattle.ber_values.specs.Writing.{written, number_size, integer_octets}
use Rattle.ber_values.proofs.Written.{length-integer_octets}
use Rattle.mms_data.specs.Datum.{Datum, integer}
use Rattle.mms_data.specs.NameOctets.{name_octets}
use Rattle.mms_data.specs.ObjectName.{ObjectName, IsIdentifier}
use Rattle.mms_data.specs.declared.object_name.Scope.TheVariants.{Domain}
use Rattle.mms_services.specs.declared.access.spec.Spec.TheVariants as specs
use Rattle.mms_services.specs.Access.Specifications.{variable_octets, variables_octets, spec_octets}
use Rattle.mms_services.specs.Access.Reads.{echo_octets, read_request_octets}
use Rattle.mms_services.specs.Access.Writes.{values_octets, write_request_octets}
use Rattle.mms_services.specs.PduOctets.{invoke_octets, request_octets, pdu_octets}
use Rattle.stack_assoc.proofs.OfWire.Sizes.{written-most}
use Rattle.bilateral.specs.Words.Words.{is_name}
use Rattle.bilateral.specs.declared.words.words.TheConstants.{NAME_LIMIT}
use Rattle.bilateral.proofs.OfWords.VisibleWords.{IsVisible-from_name}
use Rattle.bilateral.specs.Rows.{CentreRows, table_of}
use Rattle.tase_views.specs.declared.call.CallKind.{CallKind}
use Rattle.tase_views.specs.declared.call.CallKind.TheVariants as calls
use Rattle.asking_end.specs.declared.limits.TheConstants.{LAST_INVOKE}
use Rattle.asking_end.specs.Sayings.{IsShort, IsAskable}
use Rattle.centre_client.specs.declared.script.StepKind.{StepKind}
use Rattle.centre_client.specs.declared.script.StepKind.TheVariants as kinds
use Rattle.centre_client.specs.StepLines.{IsStep, is_long}
use Rattle.centre_client.specs.Plays.{variable_list, value_list}
use Rattle.asking_end.proofs.ShortRequests.{last-length}

number_size-most : (n : ℕ) → number_size n ≤ 8
number_size-most n = grind (arith, nat_tests)

integer-most : (value : ℤ) → length (integer_octets value) ≤ 8
integer-most (pos n) = omega (arith, length-integer_octets (pos n), number_size-most n)
integer-most (negsuc n) = omega (arith, length-integer_octets (negsuc n), number_size-most n)

abbrev item_in : List ℕ → List ℕ → ObjectName
item_in domain item = record { scope = Domain domain; item = item }

name-most : (domain item : List ℕ) → IsIdentifier domain → IsIdentifier item
    → length (name_octets (item_in domain item)) ≤ 150
name-most domain item d i = omega (
  arith,
  written-most 161 (written 26 domain ++ written 26 item),
  length-append (written 26 domain) (written 26 item),
  written-most 26 domain,
  written-most 26 item,
  d.1.0,
  i.1.0,
)

spec-most : (domain item : List ℕ) → IsIdentifier domain → IsIdentifier item
    → length (spec_octets (specs.List (item_in domain item ∷ []))) ≤ 170
unfolding spec_octets variables_octets variable_octets
spec-most domain item d i =
    let name = name_octets (item_in domain item) in
    omega (
      arith,
      written-most 160 (written 48 (written 160 name) ++ []),
      length-append (written 48 (written 160 name)) [],
      written-most 48 (written 160 name),
      written-most 160 name,
      name-most domain item d i,
    )

pub select-short : (domain item : List ℕ) → IsIdentifier domain → IsIdentifier item
    → IsShort (calls.Read (item_in domain item ∷ []) false)
unfolding pdu_octets request_octets read_request_octets echo_octets
select-short domain item d i =
    let spec = spec_octets (specs.List (item_in domain item ∷ [])) in
    omega (
      arith,
      written-most 160 (invoke_octets LAST_INVOKE ++ written 164 (written 161 spec)),
      length-append (invoke_octets LAST_INVOKE) (written 164 (written 161 spec)),
      written-most 164 (written 161 spec),
      written-most 161 spec,
      spec-most domain item d i,
      last-length,
    )

pub operate-short : (domain item : List ℕ) (value : ℤ) → IsIdentifier domain → IsIdentifier item
    → IsShort (calls.Write (item_in domain item ∷ []) (integer value ∷ []))
unfolding pdu_octets request_octets write_request_octets values_octets
operate-short domain item value d i =
    let spec = spec_octets (specs.List (item_in domain item ∷ [])) in
    let number = written 133 (integer_octets value) in
    let contents = spec ++ written 160 (number ++ []) in
    omega (
      arith,
      written-most 160 (invoke_octets LAST_INVOKE ++ written 165 contents),
      length-append (invoke_octets LAST_INVOKE) (written 165 contents),
      written-most 165 contents,
      length-append spec (written 160 (number ++ [])),
      written-most 160 (number ++ []),
      length-append number [],
      written-most 133 (integer_octets value),
      integer-most value,
      spec-most domain item d i,
      last-length,
    )

-- calls that are equal to these may be asked
pub select_named : (rows : CentreRows) (peer : ℕ) (item : List ℕ)
    → IsIdentifier (table_of rows peer).domain → IsIdentifier item
    → (names : List ObjectName) (call : CallKind) → names ≡ variable_list rows peer item
    → call ≡ calls.Read names false → IsAskable call
select_named rows peer item d i names call named is =
    subst IsAskable (sym (is ∙ ap (λ (ns : List ObjectName). calls.Read ns false) named))
    (record {
      service = refl;
      short = select-short (table_of rows peer).domain item d i;
    })

pub operate_named : (rows : CentreRows) (peer : ℕ) (item : List ℕ) (value : ℤ)
    → IsIdentifier (table_of rows peer).domain → IsIdentifier item
    → (names : List ObjectName) (values : List Datum) (call : CallKind)
    → names ≡ variable_list rows peer item → values ≡ value_list value
    → call ≡ calls.Write names values → IsAskable call
operate_named rows peer item value d i names values call named valued is =
    subst IsAskable
    (sym (is ∙ ap (λ (ns : List ObjectName). calls.Write ns values) named
    ∙ ap (λ (vs : List Datum). calls.Write (variable_list rows peer item) vs) valued))
    (record {
      service = refl;
      short = operate-short (table_of rows peer).domain item value d i;
    })

not_long : (call : CallKind) → is_long call ≡ false → IsShort call
not_long call short = grind (arith, nat_tests, short)

-- the call of a step may be asked
pub step_askable : (rows : CentreRows) (peer : ℕ) (kind : StepKind) (call copy : CallKind)
    → kind ≡ kinds.Call call → copy ≡ call → IsStep rows peer kind → IsAskable copy
step_askable rows peer kind call copy is same h =
    let s : IsStep rows peer (kinds.Call call) = subst (IsStep rows peer) is h in
    subst IsAskable (sym same) (record { service = s.0; short = not_long call s.2 })

-- ---- a device's name with an end

name_is_short : (name : List ℕ) → is_name name ≡ true → length name ≤ NAME_LIMIT
name_is_short [] named = absurd (false≢true named)
name_is_short (first ∷ more) named =
    leb-true (length (first ∷ more)) NAME_LIMIT (and_parts _ _ (and_parts _ _ named).0).1

pub device_item : (name end : List ℕ) → is_name name ≡ true → IsVisible end → length end ≤ 4
    → IsIdentifier (name ++ end)
device_item [] end named visible short = absurd (false≢true named)
device_item (first ∷ more) end named visible short =
    let name = first ∷ more in
    let few : length name ≤ NAME_LIMIT = name_is_short name named in
    let long : length (name ++ end) ≡ length name + length end = length-append name end in
    let all : list_all is_visible_octet (name ++ end) ≡ true =
    list_all-append is_visible_octet name end
    ∙ and_from (list_all is_visible_octet name) (list_all is_visible_octet end)
    (IsVisible-from_name name named).1 visible.1 in
    (omega (arith, long), (omega (arith, long, few, short), all))
